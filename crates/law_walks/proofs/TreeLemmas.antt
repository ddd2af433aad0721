-- What walks look at in a tree is the same with fewer holds.
use Rattle.std.proofs.Common.{◌≡◌, ℕ, zero, suc, Bool, false, nat_eq, List, [], ◌∷◌, refl, ap, ◌∙◌, Option, Some, None}
use Rattle.std.specs.Bool.{if◌then◌else◌}
use Rattle.std.specs.Option.{option_map, option_map_or, option_and_then}
use Rattle.kr_mounts.specs.kr_inode.declared.user.Right.{Right}
use Rattle.kr_mounts.specs.kr_inode.declared.user.User.{User}
use Rattle.kr_mounts.specs.kr_tree.Holds.{LooksWithFewerHolds, fewer, with_fewer}
use Rattle.kr_mounts.specs.kr_tree.Names.{host_name, host_name_within, step_up}
use Rattle.kr_mounts.specs.kr_tree.Rights.{allows, may}
use Rattle.kr_mounts.specs.kr_tree.Tree.{Body, Inode, Tree, above, body, body_is, entry, entry_at, inode, root, standing, standing_of}
use Rattle.kr_mounts.proofs.kr_tree.HoldLemmas.{trees_look_alike_with_fewer_holds}

module _ (less : ℕ → ℕ) (t : Tree) where
  abbrev light : Tree
  light = with_fewer less t

  looks : LooksWithFewerHolds less t
  looks = trees_look_alike_with_fewer_holds less t

  -- what doesn't read holds tells the same
  unread : {A : Type 0} (f : Option Inode → A) → ((n : ℕ) (x : Inode) → f (Some (fewer n x)) ≡ f (Some x)) → (i : ℕ) → f (inode light i) ≡ f (inode t i)
  unread f same i = ap f (looks.inode i) ∙ by (inode t i)
    where
      by : (o : Option Inode) → f (option_map (fewer (less i)) o) ≡ f o
      by None = refl
      by (Some x) = same (less i) x

  pub same_body : (i : ℕ) → body light i ≡ body t i
  same_body i = unread (option_map (λ x. x.node.body)) (λ n x. refl) i

  pub same_test : (test : Body → Bool) (i : ℕ) → body_is test light i ≡ body_is test t i
  same_test test i = unread (λ o. option_map_or (λ x. test x.node.body) o false) (λ n x. refl) i

  pub same_entry : (dir : ℕ) (name : List ℕ) → entry light dir name ≡ entry t dir name
  same_entry dir name = looks.entry dir name

  same_standing : (dir : ℕ) → standing light dir ≡ standing t dir
  same_standing dir = unread (option_and_then (λ x. standing_of x.node.body)) (λ n x. refl) dir

  pub same_above : (dir : ℕ) → above light dir ≡ above t dir
  same_above dir = ap (option_map (λ s. s.inode)) (same_standing dir)

  pub same_may : (user : User) (i : ℕ) (right : Right) → may light user i right ≡ may t user i right
  same_may user i right = ap (λ o. option_map_or (λ n. allows user n right) o false) (looks.node i)

  -- ---- names

  same_step : (dir : ℕ) → step_up light dir ≡ step_up t dir
  same_step dir = λ j. option_and_then (λ s. option_map (λ e. (e.name, s.inode)) (entry_at s.serial (looks.entries s.inode j))) (same_standing dir j)

  same_within : (n dir : ℕ) → host_name_within n light dir ≡ host_name_within n t dir
  unfolding host_name_within
  same_within zero dir = refl
  same_within (suc n) dir =
      λ j. if nat_eq dir root then Some []
      else option_and_then (λ up. option_map (λ text. up.0 ∷ text) (same_within n up.1 j)) (same_step dir j)

  pub same_host_name : (dir : ℕ) → host_name light dir ≡ host_name t dir
  same_host_name dir = same_within t.next dir
