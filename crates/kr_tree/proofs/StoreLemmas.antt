-- The ordered map that stores the inodes, as a finite map.
use Rattle.std.specs.FinMap as map
use Rattle.std.proofs.Common.{◌≡◌, ℕ, List, sym, ap, subst, ◌∙◌, Some, None, Result, Ok, Err, OnOk, OnErr, refl}
use Rattle.std.specs.Ordering.{nat_cmp}
use Rattle.std.specs.Option.{IsSome}
use Rattle.std.specs.Map.{lookup}
use Rattle.std.specs.BTreeMap.{BTreeMap, is_at, get_by, UpdatesBy}
use Rattle.kr_inode.proofs.pr_base.BTreeLemmas.{get-view, inserted}
use Rattle.kr_inode.proofs.pr_base.MapLemmas.{changed-some, changed-none, changed-id}
use Rattle.kr_tree.specs.Tree.{Inode, Inodes}
use Rattle.kr_tree.specs.Changes.{with_inode}

abbrev pub inodes_of : List (ℕ × Inode) → Inodes
inodes_of es = map.from_entries es

-- the inode that is found is the one that is there
pub at_found : (es : List (ℕ × Inode)) (m : Inodes) (k : ℕ) (x : Inode) → inodes_of es ≡ m → Some x ≡ lookup (is_at (nat_cmp k)) es → map.get m k ≡ Some x
at_found es m k x e is = sym (get-view es m k e) ∙ sym is

-- the inode at a number changed in place
pub changed : (m n : BTreeMap ℕ Inode) (old : Inodes) (k : ℕ) (f : Inode → Inode) (x w : Inode)
    → inodes_of m.entries ≡ old → Some x ≡ get_by (nat_cmp k) m → (IsSome (get_by (nat_cmp k) m) → UpdatesBy nat_cmp (nat_cmp k) m n (Some w)) → w ≡ f x
    → inodes_of n.entries ≡ with_inode k f old
changed m n old k f x w e there u is =
    inserted m n old k w e (u (subst IsSome there refl))
    ∙ ap (map.insert old k) is
    ∙ sym (changed-some old k f x (at_found m.entries old k x e there))

-- no inode at a number
pub unchanged : (m n : BTreeMap ℕ Inode) (old : Inodes) (k : ℕ) (f : Inode → Inode)
    → inodes_of m.entries ≡ old → None ≡ get_by (nat_cmp k) m → n ≡ m → inodes_of n.entries ≡ with_inode k f old
unchanged m n old k f e absent same =
    ap (λ t. inodes_of t.entries) same ∙ e ∙ sym (changed-none old k f (sym (get-view m.entries old k e) ∙ sym absent))

-- the inode at a number, changed to what it was
pub untouched : (m n : BTreeMap ℕ Inode) (old : Inodes) (k : ℕ) (x w : Inode)
    → inodes_of m.entries ≡ old → Some x ≡ get_by (nat_cmp k) m → (IsSome (get_by (nat_cmp k) m) → UpdatesBy nat_cmp (nat_cmp k) m n (Some w)) → w ≡ x
    → inodes_of n.entries ≡ old
untouched m n old k x w e there u is = changed m n old k (λ x. x) x w e there u is ∙ changed-id old k

-- what holds where a call succeeded or failed, said of what follows from it
pub on_ok : {T E : Type 0} (P Q : Type 0) (r : Result T E) → (P → Q) → OnOk r P → OnOk r Q
on_ok P Q (Ok x) f h = f h
on_ok P Q (Err x) f h = h

pub on_err : {T E : Type 0} (P Q : Type 0) (r : Result T E) → (P → Q) → OnErr r P → OnErr r Q
on_err P Q (Ok x) f h = h
on_err P Q (Err x) f h = f h
