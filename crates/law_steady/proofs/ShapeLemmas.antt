-- What walks look at in a tree, at what a text names, is the same in a tree of the same shape.
use Rattle.std.proofs.Common.{◌≡◌, ℕ, Bool, false, List, [], refl, sym, ap, ◌∙◌, Option, Some, None}
use Rattle.std.specs.Option.{option_map, option_map_or, option_and_then}
use Rattle.law_lawful.specs.kr_inode.declared.user.Right.{Right}
use Rattle.law_lawful.specs.kr_inode.declared.user.User.{User}
use Rattle.law_lawful.specs.kr_tree.Rights.{allows, may}
use Rattle.law_lawful.specs.kr_tree.Tree.{Body, Directory, RegularFile, SymbolicLink, ProcessDirectory, Inode, Node, Tree, above, body, body_is, body_without_bytes, entries, entries_of, entry, entry_named, inode, is_directory, node, standing, standing_of}
use Rattle.law_lawful.specs.kr_view.Component.{is_processes}
use Rattle.law_lawful.specs.kr_model.Judged.{without_bytes}

-- a test tells nothing of the bytes of a file
abbrev pub IsBlind : {A : Type 0} → (Body → A) → Type 0
IsBlind f = (b : Body) → f (body_without_bytes b) ≡ f b

blind_directory : IsBlind is_directory
blind_directory (Directory entries standing) = refl
blind_directory (RegularFile bytes) = refl
blind_directory (SymbolicLink text) = refl
blind_directory (ProcessDirectory standing) = refl

blind_processes : IsBlind is_processes
blind_processes (Directory entries standing) = refl
blind_processes (RegularFile bytes) = refl
blind_processes (SymbolicLink text) = refl
blind_processes (ProcessDirectory standing) = refl

pub blind_entries : IsBlind entries_of
blind_entries (Directory entries standing) = refl
blind_entries (RegularFile bytes) = refl
blind_entries (SymbolicLink text) = refl
blind_entries (ProcessDirectory standing) = refl

blind_standing : IsBlind standing_of
blind_standing (Directory entries standing) = refl
blind_standing (RegularFile bytes) = refl
blind_standing (SymbolicLink text) = refl
blind_standing (ProcessDirectory standing) = refl

module _ (t u : Tree) (i : ℕ) (same : option_map without_bytes (node u i) ≡ option_map without_bytes (node t i)) where
  -- what tells nothing of bytes tells the same
  told : {A : Type 0} (f : Option Inode → A) (g : Option Node → A) → f None ≡ g None → ((x : Inode) → f (Some x) ≡ g (Some (without_bytes x.node))) → f (inode u i) ≡ f (inode t i)
  told f g none each = by (inode u i) ∙ ap g same ∙ sym (by (inode t i))
    where
      by : (o : Option Inode) → f o ≡ g (option_map without_bytes (option_map (λ x. x.node) o))
      by None = none
      by (Some x) = each x

  same_test : (test : Body → Bool) → IsBlind test → body_is test u i ≡ body_is test t i
  same_test test blind = told (λ o. option_map_or (λ x. test x.node.body) o false) (λ o. option_map_or (λ n. test n.body) o false) refl (λ x. sym (blind x.node.body))

  pub same_directory : body_is is_directory u i ≡ body_is is_directory t i
  same_directory = same_test is_directory blind_directory

  pub same_processes : body_is is_processes u i ≡ body_is is_processes t i
  same_processes = same_test is_processes blind_processes

  pub same_may : (user : User) (right : Right) → may u user i right ≡ may t user i right
  same_may user right =
      told (λ o. option_map_or (λ n. allows user n right) (option_map (λ x. x.node) o) false) (λ o. option_map_or (λ n. allows user n right) o false) refl (λ x. refl)

  pub same_entries : entries u i ≡ entries t i
  same_entries = told (λ o. option_map_or (λ x. entries_of x.node.body) o []) (λ o. option_map_or (λ n. entries_of n.body) o []) refl (λ x. sym (blind_entries x.node.body))

  pub same_entry : (name : List ℕ) → entry u i name ≡ entry t i name
  same_entry name = ap (λ es. option_map (λ e. e.inode) (entry_named name es)) same_entries

  pub same_above : above u i ≡ above t i
  same_above = told (λ o. option_map (λ s. s.inode) (option_and_then (λ x. standing_of x.node.body) o)) (λ o. option_map (λ s. s.inode) (option_and_then (λ n. standing_of n.body) o)) refl
      (λ x. ap (option_map (λ s. s.inode)) (sym (blind_standing x.node.body)))

  -- what tells nothing of bytes of a body that may be there
  pub same_of_body : {A : Type 0} (f : Option Body → A) → IsBlind (λ b. f (Some b)) → f (body u i) ≡ f (body t i)
  same_of_body f blind = told (λ o. f (option_map (λ x. x.node.body) o)) (λ o. f (option_map (λ n. n.body) o)) refl (λ x. sym (blind x.node.body))
