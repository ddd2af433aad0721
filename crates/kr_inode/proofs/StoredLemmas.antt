-- The entries of a directory by what is stored at their serials, and what is kept at their names.
use Rattle.std.proofs.Common.{◌≡◌, subst, suc, slice_get, length, nat_lt, nat_eq, ℕ, ◌+◌, ◌<◌, Bool, true, false, not, cond, List, [], ◌∷◌, ◌++◌, filter, refl, sym, ap, ◌∙◌, arith, Some, None, Option, Vec, eq-eqb, append-nil}
use Rattle.std.specs.Prelude.{bytes_eq}
use Rattle.std.specs.Option.{option_map}
use Rattle.std.specs.List.{IsDistinct}
use Rattle.std.specs.Ordering.{nat_cmp, is_eq, match_ordering}
use Rattle.std.specs.declared.cmp.Ordering.TheVariants.{Greater}
use Rattle.std.specs.declared.ops.Bound.TheVariants.{Excluded, Unbounded}
use Rattle.std.specs.Map.{lookup, remove_entry, KeepsOthers}
use Rattle.std.specs.BTreeMap.{is_at, insert_entry}
use Rattle.std.specs.BTreeMap.Range.{range_contains}
use Rattle.std.proofs.lemmas.Bool.{eqb-true, ne_eqb}
use Rattle.std.proofs.lemmas.Bool.Decides.{nat_tests}
use Rattle.std.proofs.lemmas.Cmp.{nat_list_eq_equiv}
use Rattle.std.proofs.lemmas.Option.{same_Some}
use Rattle.std.proofs.lemmas.Slice.Eq.{bytes_eq-Decides}
use Rattle.std.proofs.lemmas.Map.Keys.{IsDistinct-head, IsDistinct-tail}
use Rattle.kr_inode.specs.declared.entries.Named.{Named}
use Rattle.kr_inode.specs.declared.entries.Slot.{Slot}
use Rattle.kr_inode.specs.Inode.{Entry, entry_named, entry_after, entry_at}
use Rattle.kr_inode.specs.Changes.{without_name}
use Rattle.kr_inode.specs.Entries.{RisesWithin, names_in, IsNamed, slot_of, entry_of, stored}
use Rattle.kr_inode.proofs.EntryLemmas.{in_above, named_in, named-without, named-gone, none_without, all_alike}

-- ---- tests of numbers

is_eq-cmp : (a b : ℕ) → is_eq (nat_cmp a b) ≡ nat_eq a b
is_eq-cmp a b = grind (arith, nat_tests)

greater : (a b : ℕ) → b < a → nat_cmp a b ≡ Greater
greater a b h = grind (arith, nat_tests)

inside : (s k : ℕ) → range_contains nat_cmp (Excluded s) Unbounded k ≡ nat_lt s k
inside s k = grind (arith, nat_tests)

-- ---- names, after a change at one

abbrev pub by : {Z : Type 0} → List ℕ → Vec ℕ Z → Bool
by name k = bytes_eq name k.items

module _ {Z X : Type 0} where
  kept_others : (key : List ℕ) (old new : List (Vec ℕ Z × X)) → KeepsOthers (λ a b. bytes_eq a.items b.items) (by key) old new → (name : List ℕ) → bytes_eq key name ≡ false → lookup (by name) new ≡ lookup (by name) old
  unfolding KeepsOthers
  kept_others key old new keeps name other = keeps (by name) (λ x y at. nat_list_eq_equiv.congr name x.items y.items at) (λ k at. nat_list_eq_equiv.symm name k.items ∙ sym (nat_list_eq_equiv.congr key k.items name at) ∙ other)

  -- what is found at each name once one has another value
  pub changed : (key : List ℕ) (w : Option X) (old new : List (Vec ℕ Z × X)) → lookup (by key) new ≡ w → KeepsOthers (λ a b. bytes_eq a.items b.items) (by key) old new
      → (name : List ℕ) → lookup (by name) new ≡ cond (bytes_eq key name) w (lookup (by name) old)
  changed key w old new here keeps name =
      elim (bytes_eq key name) as (λ b. bytes_eq key name ≡ b → lookup (by name) new ≡ cond b w (lookup (by name) old)) [
        | true ↦ λ same. subst (λ n. lookup (by n) new ≡ w) ((bytes_eq-Decides key name).0 same) here
        | false ↦ λ other. kept_others key old new keeps name other
      ] refl

-- names are kept through a change at one of them
pub named-changed : {Z : Type 0} (copy key : List ℕ) (w : Option Slot) (old new : List (Vec ℕ Z × Slot)) (es fs : List Entry) → copy ≡ key → IsNamed old es → lookup (by copy) new ≡ w
    → KeepsOthers (λ a b. bytes_eq a.items b.items) (by copy) old new
    → ((q : List ℕ) → option_map slot_of (entry_named q fs) ≡ cond (bytes_eq key q) w (option_map slot_of (entry_named q es))) → IsNamed new fs
named-changed copy key w old new es fs same named here keeps is q =
    changed copy w old new here keeps q ∙ ap (λ k. cond (bytes_eq k q) w (lookup (by q) old)) same ∙ ap (cond (bytes_eq key q) w) (named q) ∙ sym (is q)

found_last : (q : List ℕ) (es : List Entry) (e : Entry) → entry_named q es ≡ None → bytes_eq q e.name ≡ true → entry_named q (es ++ e ∷ []) ≡ Some e
found_last q [] e none same = ap (λ b. cond b (Some e) None) same
found_last q (x ∷ es) e none same =
    elim (bytes_eq q x.name) as (λ b. cond b (Some x) (entry_named q es) ≡ None → cond b (Some x) (entry_named q (es ++ e ∷ [])) ≡ Some e) [
      | true ↦ λ none. absurd cc
      | false ↦ λ none. found_last q es e none same
    ] none

passed_last : (q : List ℕ) (es : List Entry) (e : Entry) → bytes_eq q e.name ≡ false → entry_named q (es ++ e ∷ []) ≡ entry_named q es
passed_last q [] e other = ap (λ b. cond b (Some e) None) other
passed_last q (x ∷ es) e other = ap (cond (bytes_eq q x.name) (Some x)) (passed_last q es e other)

pub slots-added : (es : List Entry) (e : Entry) → entry_named e.name es ≡ None
    → (q : List ℕ) → option_map slot_of (entry_named q (es ++ e ∷ [])) ≡ cond (bytes_eq e.name q) (Some (slot_of e)) (option_map slot_of (entry_named q es))
slots-added es e free q =
    elim (bytes_eq e.name q) as (λ b. bytes_eq e.name q ≡ b → option_map slot_of (entry_named q (es ++ e ∷ [])) ≡ cond b (Some (slot_of e)) (option_map slot_of (entry_named q es))) [
      | true ↦ λ same. ap (option_map slot_of) (found_last q es e (subst (λ n. entry_named n es ≡ None) ((bytes_eq-Decides e.name q).0 same) free) (nat_list_eq_equiv.symm q e.name ∙ same))
      | false ↦ λ other. ap (option_map slot_of) (passed_last q es e (nat_list_eq_equiv.symm q e.name ∙ other))
    ] refl

pub slots-without : (name : List ℕ) (es : List Entry) (q : List ℕ) → option_map slot_of (entry_named q (without_name name es)) ≡ cond (bytes_eq name q) None (option_map slot_of (entry_named q es))
slots-without name es q =
    elim (bytes_eq name q) as (λ b. bytes_eq name q ≡ b → option_map slot_of (entry_named q (without_name name es)) ≡ cond b None (option_map slot_of (entry_named q es))) [
      | true ↦ λ same. ap (option_map slot_of) (subst (λ n. entry_named n (without_name name es) ≡ None) ((bytes_eq-Decides name q).0 same) (named-gone name es))
      | false ↦ λ other. ap (option_map slot_of) (named-without q name es other)
    ] refl

pub slots-replaced : (es : List Entry) (e : Entry) (q : List ℕ)
    → option_map slot_of (entry_named q (without_name e.name es ++ e ∷ [])) ≡ cond (bytes_eq e.name q) (Some (slot_of e)) (option_map slot_of (entry_named q es))
slots-replaced es e q =
    slots-added (without_name e.name es) e (named-gone e.name es) q ∙ ap (cond (bytes_eq e.name q) (Some (slot_of e))) (slots-without e.name es q) ∙ twice (bytes_eq e.name q) (Some (slot_of e)) (option_map slot_of (entry_named q es))
  where
    twice : (b : Bool) (w o : Option Slot) → cond b w (cond b None o) ≡ cond b w o
    twice true w o = refl
    twice false w o = refl

-- what was put at a free name and taken away again
pub slots-back : (name : List ℕ) (es : List Entry) (q : List ℕ) → entry_named name es ≡ None → option_map slot_of (entry_named q es) ≡ cond (bytes_eq name q) None (option_map slot_of (entry_named q es))
slots-back name es q free =
    elim (bytes_eq name q) as (λ b. bytes_eq name q ≡ b → option_map slot_of (entry_named q es) ≡ cond b None (option_map slot_of (entry_named q es))) [
      | true ↦ λ same. ap (option_map slot_of) (subst (λ n. entry_named n es ≡ None) ((bytes_eq-Decides name q).0 same) free)
      | false ↦ λ _. refl
    ] refl

-- ---- serials

-- the next serial goes last
pub stored-last : (low next : ℕ) (es : List (ℕ × Named)) (v : Named) → RisesWithin low next (stored es) → insert_entry nat_cmp es next v ≡ es ++ (next, v) ∷ []
stored-last low next [] v rises = refl
stored-last low next (e ∷ es) v rises =
    let below : e.0 < next = under e.0 next (stored es) rises.1 in
    ap (λ o. match_ordering o ((next, v) ∷ e ∷ es) ((e.0, v) ∷ es) (e ∷ insert_entry nat_cmp es next v)) (greater next e.0 below) ∙ ap (λ r. e ∷ r) (stored-last e.0 next es v rises.1)
  where
    under : (low next : ℕ) (es : List Entry) → RisesWithin low next es → low < next
    under low next [] h = h
    under low next (e ∷ es) h = let rest = under e.serial next es h.1 in omega (arith, h.0)

pub stored-append : (es fs : List (ℕ × Named)) → stored (es ++ fs) ≡ stored es ++ stored fs
stored-append [] fs = refl
stored-append (e ∷ es) fs = ap (λ r. entry_of e ∷ r) (stored-append es fs)

-- what is taken away at the serial of a name is the entry of that name
pub stored-without : (low next s : ℕ) (name : List ℕ) (es fs : List (ℕ × Named)) (x : Entry) → IsDistinct bytes_eq (names_in (stored es)) → RisesWithin low next (stored es)
    → entry_named name (stored es) ≡ Some x → x.serial ≡ s → stored (remove_entry (is_at (nat_cmp s)) (es ++ fs)) ≡ without_name name (stored es) ++ stored fs
stored-without low next s name [] fs x distinct rises found at = absurd cc
stored-without low next s name (e ∷ es) fs x distinct rises found at =
    elim (bytes_eq name e.1.name.items) as (λ b. bytes_eq name e.1.name.items ≡ b → cond b (Some (entry_of e)) (entry_named name (stored es)) ≡ Some x
    → stored (remove_entry (is_at (nat_cmp s)) (e ∷ es ++ fs)) ≡ cond (not b) (entry_of e ∷ without_name name (stored es)) (without_name name (stored es)) ++ stored fs) [
      | true ↦ λ same found.
          let serial : e.0 ≡ s = ap (λ z. z.serial) (same_Some (entry_of e) x found) ∙ at in
          ap (λ b. stored (cond b (es ++ fs) (e ∷ remove_entry (is_at (nat_cmp s)) (es ++ fs)))) (is_eq-cmp s e.0 ∙ eq-eqb s e.0 (sym serial))
          ∙ stored-append es fs ∙ ap (λ r. r ++ stored fs) (sym (none_without name (stored es) (all_alike name e.1.name.items (names_in (stored es)) same (IsDistinct-head bytes_eq e.1.name.items (names_in (stored es)) distinct))))
      | false ↦ λ _ found.
          let above : e.0 < x.serial = (in_above e.0 next (stored es) x rises.1 (named_in name (stored es) x found).0).0 in
          let other : is_at (nat_cmp s) e.0 ≡ false = is_eq-cmp s e.0 ∙ ne_eqb s e.0 (λ is. absurd (omega arith)) in
          ap (λ b. stored (cond b (es ++ fs) (e ∷ remove_entry (is_at (nat_cmp s)) (es ++ fs)))) other
          ∙ ap (λ r. entry_of e ∷ r) (stored-without e.0 next s name es fs x (IsDistinct-tail bytes_eq e.1.name.items (names_in (stored es)) distinct) rises.1 found at)
    ] refl found

-- the entry of a serial is what is stored at it
pub stored-at : (s : ℕ) (es : List (ℕ × Named)) → option_map (λ v. record { name = v.name.items; serial = s; inode = v.inode }) (lookup (is_at (nat_cmp s)) es) ≡ entry_at s (stored es)
stored-at s [] = refl
stored-at s (e ∷ es) =
    ap (λ b. option_map (λ v. record { name = v.name.items; serial = s; inode = v.inode }) (cond b (Some e.1) (lookup (is_at (nat_cmp s)) es))) (is_eq-cmp s e.0)
    ∙ elim (nat_eq s e.0) as (λ b. nat_eq s e.0 ≡ b → option_map (λ v. record { name = v.name.items; serial = s; inode = v.inode }) (cond b (Some e.1) (lookup (is_at (nat_cmp s)) es)) ≡ cond b (Some (entry_of e)) (entry_at s (stored es))) [
      | true ↦ λ t. let same : s ≡ e.0 = eqb-true s e.0 t in ap (λ n. Some (record { name = e.1.name.items; serial = n; inode = e.1.inode })) same
      | false ↦ λ _. stored-at s es
    ] refl

abbrev pub later : ℕ → List (ℕ × Named) → List (ℕ × Named)
later s es = filter (λ p. range_contains nat_cmp (Excluded s) Unbounded p.0) es

-- the next entry is what is stored at the first of the later serials
pub stored-after : (s : ℕ) (es : List (ℕ × Named)) → option_map entry_of (slice_get (later s es) 0) ≡ entry_after s (stored es)
stored-after s [] = refl
stored-after s (e ∷ es) =
    ap (λ b. option_map entry_of (slice_get (cond b (e ∷ later s es) (later s es)) 0)) (inside s e.0)
    ∙ elim (nat_lt s e.0) as (λ b. option_map entry_of (slice_get (cond b (e ∷ later s es) (later s es)) 0) ≡ cond b (Some (entry_of e)) (entry_after s (stored es))) [ true ↦ refl | false ↦ stored-after s es ]

pub length-stored : (es : List (ℕ × Named)) → length (stored es) ≡ length es
length-stored [] = refl
length-stored (e ∷ es) = ap suc (length-stored es)
