-- Inodes after one of them was changed.
use Rattle.std.specs.FinMap as map
use Rattle.std.proofs.Common.{◌≡◌, ◌≢◌, ℕ, Bool, true, false, refl, sym, ap, ◌∙◌, cond, Option, None}
use Rattle.std.specs.Option.{option_map, option_map_or}
use Rattle.kr_inode.proofs.pr_base.MapLemmas.{same_values, by_key, get-remove_same, get-remove_other, get-changed_same, get-changed_other, stays-changed}
use Rattle.kr_tree.specs.Tree.{Inode, Inodes}
use Rattle.kr_tree.specs.Changes.{with_inode, is_unused, is_unused_at, without_unused}

-- a change that leaves the number of names
pub stays-names : (m : Inodes) (k : ℕ) (f : Inode → Inode) (q : ℕ) → ((x : Inode) → (f x).names ≡ x.names)
    → option_map_or (λ x. x.names) (map.get (with_inode k f m) q) 0 ≡ option_map_or (λ x. x.names) (map.get m q) 0
stays-names m k f q same = stays-changed (λ o. option_map_or (λ x. x.names) o 0) m k f same q

-- ---- an inode that may be dropped

pub get-unused_other : (m : Inodes) (k q : ℕ) → q ≢ k → map.get (without_unused k m) q ≡ map.get m q
get-unused_other m k q d = elim (is_unused_at k m) as (λ b. map.get (cond b (map.remove m k) m) q ≡ map.get m q) [
  | true ↦ get-remove_other m k q d
  | false ↦ refl
]

-- what f tells of it afterwards, where it tells the same of what was there and of nothing
pub unused_same : {A : Type 0} (f : Option Inode → A) (m : Inodes) (k : ℕ) → f (map.get m k) ≡ f None → f (map.get (without_unused k m) k) ≡ f None
unused_same f m k h = elim (is_unused_at k m) as (λ b. f (map.get (cond b (map.remove m k) m) k) ≡ f None) [
  | true ↦ ap f (get-remove_same m k)
  | false ↦ h
]

pub unused-with : (m : Inodes) (k j : ℕ) (f : Inode → Inode) → k ≢ j → without_unused k (with_inode j f m) ≡ with_inode j f (without_unused k m)
unused-with m k j f h =
    ap (λ o. cond (option_map_or is_unused o false) (map.remove (with_inode j f m) k) (with_inode j f m)) (get-changed_other m j f k h)
    ∙ by_use (is_unused_at k m)
  where
    by_use : (b : Bool) → cond b (map.remove (with_inode j f m) k) (with_inode j f m) ≡ with_inode j f (cond b (map.remove m k) m)
    by_use false = refl
    by_use true =
        same_values _ _ (by_key (λ q. map.get (map.remove (with_inode j f m) k) q ≡ map.get (with_inode j f (map.remove m k)) q) k
        (get-remove_same (with_inode j f m) k ∙ sym (get-changed_other (map.remove m k) j f k h ∙ get-remove_same m k))
        (λ q d. get-remove_other (with_inode j f m) k q d
        ∙ by_key (λ q. q ≢ k → map.get (with_inode j f m) q ≡ map.get (with_inode j f (map.remove m k)) q) j
        (λ a. get-changed_same m j f ∙ ap (option_map f) (sym (get-remove_other m k j a)) ∙ sym (get-changed_same (map.remove m k) j f))
        (λ q b a. get-changed_other m j f q b ∙ sym (get-remove_other m k q a) ∙ sym (get-changed_other (map.remove m k) j f q b)) q d))
