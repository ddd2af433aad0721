-- The names of one directory in their order.
use Rattle.std.proofs.Common.{◌≡◌, ℕ, ◌<◌, ◌≤◌, true, false, cond, List, [], ◌∷◌, ◌++◌, Option, Some, None, refl, sym, ap, subst, ◌∙◌, arith, inl, inr, append_assoc, map as map_list}
use Rattle.std.specs.Prelude.{nat_lt}
use Rattle.std.specs.declared.cmp.Ordering.TheVariants.{Less, Equal, Greater}
use Rattle.std.specs.Ordering.{match_ordering}
use Rattle.std.specs.FinMap.{nat_cmp-IsAntisymmetric, slice_cmp-IsAntisymmetric}
use Rattle.std.specs.List.{AllByRecursion, filter}
use Rattle.std.specs.Option.{option_map_or}
use Rattle.std.specs.BTreeMap.{insert_entry}
use Rattle.std.proofs.lemmas.Bool.{ltb-true, lt-ltb}
use Rattle.std.proofs.lemmas.Bool.Decides.{nat_tests}
use Rattle.std.proofs.lemmas.List.{map-append}
use Rattle.kr_tree.specs.Tree.{Tree, Inode, Entry, inode, entries, entries_of, entry_after}
use Rattle.kr_tree.specs.Names.{is_name}
use Rattle.kr_tree.specs.kr_inode.Entries.{RisesWithin, names_in}
use Rattle.kr_tree.specs.Lawful.{IsKept, IsIn}
use Rattle.kr_text.specs.Canonical.{by_bytes, put_in_order}
use Rattle.kr_text.specs.Order.{AreNamed}

-- what holds of a new name and of all others holds of all
pub all-insert : (P : List ℕ × ℕ → Type 0) (names : List (List ℕ × ℕ)) (k : List ℕ) (i : ℕ) → P (k, i) → AllByRecursion P names → AllByRecursion P (insert_entry by_bytes names k i)
all-insert P [] k i new all = (new, tt)
all-insert P (p ∷ names) k i new all =
    elim (by_bytes k p.0) as (λ r. by_bytes k p.0 ≡ r → AllByRecursion P (match_ordering r ((k, i) ∷ p ∷ names) ((p.0, i) ∷ names) (p ∷ insert_entry by_bytes names k i))) [
      | Less ↦ λ e. (new, all)
      | Equal ↦ λ e. (subst (λ name. P (name, i)) (slice_cmp-IsAntisymmetric nat_cmp-IsAntisymmetric k p.0 e) new, all.1)
      | Greater ↦ λ e. (all.0, all-insert P names k i new all.1)
    ] refl

pub all-put : (P : List ℕ × ℕ → Type 0) (names : List (List ℕ × ℕ)) (es : List Entry) → AllByRecursion P names → ((e : Entry) → IsIn e es → P (e.name, e.inode)) → AllByRecursion P (put_in_order names es)
all-put P names [] all each = all
all-put P names (e ∷ es) all each = all-put P (insert_entry by_bytes names e.name e.inode) es (all-insert P names e.name e.inode (each e (inl refl)) all) (λ x is. each x (inr is))

-- ---- entries read one after the other

-- those whose serials are above one
abbrev pub later : ℕ → List Entry → List Entry
later serial es = filter (λ e. nat_lt serial e.serial) es

pub later_all : (s low next : ℕ) (es : List Entry) → RisesWithin low next es → s ≤ low → later s es ≡ es
later_all s low next [] rises le = refl
later_all s low next (e ∷ es) rises le =
    let first = rises.0 in
    let above : nat_lt s e.serial ≡ true = lt-ltb s e.serial (omega arith) in
    rw above (ap (λ xs. e ∷ xs) (later_all s e.serial next es rises.1 (omega arith)))

pub later_none : (s : ℕ) (es : List Entry) → entry_after s es ≡ None → later s es ≡ []
later_none s [] e = refl
later_none s (x ∷ es) none =
    elim (nat_lt s x.serial) as (λ b. cond b (Some x) (entry_after s es) ≡ None → cond b (x ∷ later s es) (later s es) ≡ [])
    [ true ↦ λ is. cc | false ↦ λ is. later_none s es is ] none

pub later_step : (s low next : ℕ) (es : List Entry) (e : Entry) → RisesWithin low next es → entry_after s es ≡ Some e → (s < e.serial) × (later s es ≡ e ∷ later e.serial es)
later_step s low next [] e rises found = cc
later_step s low next (x ∷ es) e rises found =
    elim (nat_lt s x.serial) as (λ b. nat_lt s x.serial ≡ b → cond b (Some x) (entry_after s es) ≡ Some e → (s < e.serial) × (cond b (x ∷ later s es) (later s es) ≡ e ∷ later e.serial (x ∷ es))) [
      | true ↦ λ t is.
          let above : s < x.serial = ltb-true s x.serial t in
          let not_itself : nat_lt x.serial x.serial ≡ false = grind (arith, nat_tests) in
          let rest : x ∷ later s es ≡ x ∷ later x.serial (x ∷ es) = rw not_itself (ap (λ xs. x ∷ xs) (later_all s x.serial next es rises.1 (omega arith) ∙ sym (later_all x.serial x.serial next es rises.1 (omega arith)))) in
          let same : x ≡ e = cc in
          subst (λ y. (s < y.serial) × (x ∷ later s es ≡ y ∷ later y.serial (x ∷ es))) same (above, rest)
      | false ↦ λ f is.
          let more = later_step s x.serial next es e rises.1 is in
          let past = more.0 in
          let not_after : nat_lt e.serial x.serial ≡ false = grind (arith, nat_tests) in
          (past, rw not_after more.1)
    ] refl found

pub entries_rise : (t : Tree) (dir : ℕ) → IsKept t → (next : ℕ) × RisesWithin 2 next (entries t dir)
entries_rise t dir kept = go (inode t dir) refl
  where
    go : (o : Option Inode) → inode t dir ≡ o → (next : ℕ) × RisesWithin 2 next (option_map_or (λ x. entries_of x.node.body) o [])
    go None e = (3, omega arith)
    go (Some x) e = (x.next_serial, (kept.sound.listed dir x e).rises)

-- the names of a directory are names
pub well_formed_in : (es : List Entry) (e : Entry) → AllByRecursion (λ name. is_name name ≡ true) (names_in es) → IsIn e es → is_name e.name ≡ true
well_formed_in [] e all is = absurd is
well_formed_in (x ∷ es) e all (inl same) = subst (λ y. is_name y.name ≡ true) same all.0
well_formed_in (x ∷ es) e all (inr is) = well_formed_in es e all.1 is

pub are_named : (t : Tree) (dir : ℕ) → IsKept t → AreNamed (put_in_order [] (entries t dir))
are_named t dir kept = all-put (λ p. is_name p.0 ≡ true) [] (entries t dir) tt (go (inode t dir) refl)
  where
    go : (o : Option Inode) → inode t dir ≡ o → (e : Entry) → IsIn e (option_map_or (λ x. entries_of x.node.body) o []) → is_name e.name ≡ true
    go None none e is = absurd is
    go (Some x) there e is = well_formed_in (entries_of x.node.body) e (kept.sound.listed dir x there).well_formed is

-- ---- the entries of a directory read so

pub later_start : (t : Tree) (dir : ℕ) → IsKept t → later 0 (entries t dir) ≡ entries t dir
later_start t dir kept = let rises = entries_rise t dir kept in later_all 0 2 rises.0 (entries t dir) rises.1 (omega arith)

pub later_next : (t : Tree) (dir s : ℕ) (e : Entry) → IsKept t → Some e ≡ entry_after s (entries t dir) → later s (entries t dir) ≡ e ∷ later e.serial (entries t dir)
later_next t dir s e kept found = let rises = entries_rise t dir kept in (later_step s 2 rises.0 (entries t dir) e rises.1 (sym found)).1

-- ---- names put in front of others, the last one first

pub put_in_front : {A B : Type 0} (f : A → B) (xs : List A) (x : A) (ys : List B) → map_list f xs ++ f x ∷ ys ≡ map_list f (xs ++ x ∷ []) ++ ys
put_in_front f xs x ys = sym (ap (λ zs. zs ++ ys) (map-append f xs (x ∷ [])) ∙ append_assoc (map_list f xs) (f x ∷ []) ys)

pub all_but_last : {A : Type 0} (P : A → Type 0) (xs : List A) (x : A) → AllByRecursion P (xs ++ x ∷ []) → AllByRecursion P xs
all_but_last P [] x all = tt
all_but_last P (y ∷ xs) x all = (all.0, all_but_last P xs x all.1)

pub last_of_all : {A : Type 0} (P : A → Type 0) (xs : List A) (x : A) → AllByRecursion P (xs ++ x ∷ []) → P x
last_of_all P [] x all = all.0
last_of_all P (y ∷ xs) x all = last_of_all P xs x all.1
