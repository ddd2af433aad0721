-- What doesn't change when an open file forgets an entry or remembers another.
use Rattle.std.proofs.Common.{◌≡◌, ℕ, Bool, true, false, List, refl, ◌∙◌, cond}
use Rattle.kr_files.specs.declared.opened.Opened.{Opened}
use Rattle.kr_files.specs.Opened.{remembers, nameless, named_at, after_removal, after_rename}

module _ {M : Type 0} where
  same_kind_if : (b : Bool) (o p : Opened M) → p.what ≡ o.what → (cond b p o).what ≡ o.what
  same_kind_if true o p e = e
  same_kind_if false o p e = refl

  pub what-after_removal : (dir : ℕ) (name : List ℕ) (o : Opened M) → (after_removal dir name o).what ≡ o.what
  what-after_removal dir name o = same_kind_if (remembers dir name o) o (nameless o) refl

  pub what-after_rename : (dir : ℕ) (name : List ℕ) (to : ℕ) (new : List ℕ) (o : Opened M) → (after_rename dir name to new o).what ≡ o.what
  what-after_rename dir name to new o =
      same_kind_if (remembers dir name (after_removal to new o)) (after_removal to new o) (named_at to new (after_removal to new o)) refl
      ∙ what-after_removal to new o
