-- Two lists of entries gone through side by side, from one serial to the next.
use Rattle.std.proofs.Common.{◌≡◌, inl, inr, subst, ◌≤◌, nat_lt, ℕ, ◌<◌, true, false, not, cond, List, [], ◌∷◌, ◌++◌, filter, refl, sym, ap, ◌∙◌, arith, Bool, Option, Some, None, is_some}
use Rattle.std.specs.Prelude.{bytes_eq}
use Rattle.std.specs.Option.{option_map}
use Rattle.std.proofs.lemmas.Bool.Decides.{nat_tests}
use Rattle.std.proofs.lemmas.Option.{same_Some}
use Rattle.std.proofs.lemmas.Slice.Eq.{bytes_eq-Decides}
use Rattle.kr_inode.specs.Inode.{Entry, entry_after}
use Rattle.kr_inode.specs.Entries.{IsIn, RisesWithin}
use Rattle.kr_inode.proofs.EntryLemmas.{in_above}

-- the entries whose serials are at most one
abbrev pub upto : ℕ → List Entry → List Entry
upto s es = filter (λ e. not (nat_lt s e.serial)) es

-- the first entry above a serial is above it
pub after_in : (s : ℕ) (es : List Entry) (e : Entry) → entry_after s es ≡ Some e → IsIn e es × (s < e.serial)
after_in s [] e h = absurd cc
after_in s (x ∷ es) e h =
    elim (nat_lt s x.serial) as (λ b. nat_lt s x.serial ≡ b → cond b (Some x) (entry_after s es) ≡ Some e → IsIn e (x ∷ es) × (s < e.serial)) [
      | true ↦ λ t h.
          let same : x ≡ e = same_Some x e h in
          let P : Entry → Type 0 = λ z. IsIn z (x ∷ es) × (s < z.serial) in
          subst P same (inl refl, grind (arith, nat_tests))
      | false ↦ λ _ h. let rest = after_in s es e h in (inr rest.0, rest.1)
    ] refl h

pub upto_below : (s low next : ℕ) (es : List Entry) → s ≤ low → RisesWithin low next es → upto s es ≡ []
upto_below s low next [] l h = refl
upto_below s low next (x ∷ es) l h =
    let first = h.0 in
    let above : nat_lt s x.serial ≡ true = grind (arith, nat_tests) in
    ap (λ b. cond (not b) (x ∷ upto s es) (upto s es)) above ∙ upto_below s x.serial next es (omega arith) h.1

-- up to the next entry there is one more
pub upto_next : (s low next : ℕ) (es : List Entry) (e : Entry) → RisesWithin low next es → entry_after s es ≡ Some e → upto e.serial es ≡ upto s es ++ e ∷ []
upto_next s low next [] e h is = absurd cc
upto_next s low next (x ∷ es) e h is =
    elim (nat_lt s x.serial) as (λ b. nat_lt s x.serial ≡ b → cond b (Some x) (entry_after s es) ≡ Some e → upto e.serial (x ∷ es) ≡ cond (not b) (x ∷ upto s es) (upto s es) ++ e ∷ []) [
      | true ↦ λ t is.
          let same : x ≡ e = same_Some x e is in
          let P : Entry → Type 0 = λ z. upto z.serial (x ∷ es) ≡ upto s es ++ z ∷ [] in
          let less : s ≤ x.serial = grind (arith, nat_tests) in
          let itself : nat_lt x.serial x.serial ≡ false = grind (arith, nat_tests) in
          subst P same (ap (λ b. cond (not b) (x ∷ upto x.serial es) (upto x.serial es)) itself ∙ ap (λ zs. x ∷ zs) (upto_below x.serial x.serial next es (omega arith) h.1)
          ∙ ap (λ zs. zs ++ x ∷ []) (sym (upto_below s x.serial next es less h.1)))
      | false ↦ λ t is.
          let above = (after_in s es e is).1 in
          let not_above : nat_lt e.serial x.serial ≡ false = grind (arith, nat_tests) in
          ap (λ b. cond (not b) (x ∷ upto e.serial es) (upto e.serial es)) not_above ∙ ap (λ zs. x ∷ zs) (upto_next s x.serial next es e h.1 is)
    ] refl is

-- where no entry is above, that is all
pub upto_all : (s : ℕ) (es : List Entry) → entry_after s es ≡ None → upto s es ≡ es
upto_all s [] h = refl
upto_all s (x ∷ es) h =
    elim (nat_lt s x.serial) as (λ b. cond b (Some x) (entry_after s es) ≡ None → cond (not b) (x ∷ upto s es) (upto s es) ≡ x ∷ es) [
      | true ↦ λ h. absurd cc
      | false ↦ λ h. ap (λ zs. x ∷ zs) (upto_all s es h)
    ] h

-- two lists that are gone through as far as one serial
pub record Walked (last : ℕ) (xs ys : List Entry) (next other : ℕ) : Type 0 where
  pub rises : RisesWithin 2 next xs
  pub other_rises : RisesWithin 2 other ys
  pub alike : upto last xs ≡ upto last ys

pub walked-start : (xs ys : List Entry) (next other : ℕ) → RisesWithin 2 next xs → RisesWithin 2 other ys → Walked 0 xs ys next other
walked-start xs ys next other h k = record { rises = h; other_rises = k; alike = upto_below 0 2 next xs (omega arith) h ∙ sym (upto_below 0 2 other ys (omega arith) k) }

pub walked-next : (last : ℕ) (xs ys : List Entry) (next other : ℕ) (a b : Entry) → Walked last xs ys next other → Some a ≡ entry_after last xs → Some b ≡ entry_after last ys → a ≡ b → Walked a.serial xs ys next other
walked-next last xs ys next other a b w at_a at_b same = record {
  rises = w.rises;
  other_rises = w.other_rises;
  alike = upto_next last 2 next xs a w.rises (sym at_a) ∙ ap (λ zs. zs ++ a ∷ []) w.alike ∙ sym (upto_next last 2 other ys a w.other_rises (sym at_b ∙ ap Some (sym same)));
}

pub walked-all : (last : ℕ) (xs ys : List Entry) (next other : ℕ) → Walked last xs ys next other → None ≡ entry_after last xs → None ≡ entry_after last ys → xs ≡ ys
walked-all last xs ys next other w none none_too = sym (upto_all last xs (sym none)) ∙ w.alike ∙ upto_all last ys (sym none_too)

pub walked-on : (last : ℕ) (xs : List Entry) (next : ℕ) (a : Entry) → RisesWithin 2 next xs → Some a ≡ entry_after last xs → (last < a.serial) × (a.serial < next)
walked-on last xs next a h at = let there = after_in last xs a (sym at) in (there.1, (in_above 2 next xs a h there.0).1)

pub one_entry : (m n : List ℕ) (s t i j : ℕ) → s ≡ t → i ≡ j → false ≡ not (bytes_eq m n) → ◌≡◌ {A = Entry} (record { name = m; serial = s; inode = i }) (record { name = n; serial = t; inode = j })
one_entry m n s t i j serial inode named =
    let equal : bytes_eq m n ≡ true = elim (bytes_eq m n) as (λ b. false ≡ not b → b ≡ true) [ true ↦ λ _. refl | false ↦ λ h. absurd cc ] named in
    ap (λ x. record { name = x; serial = s; inode = i }) ((bytes_eq-Decides m n).0 equal) ∙ ap (λ x. record { name = n; serial = x; inode = i }) serial ∙ ap (λ x. record { name = n; serial = t; inode = x }) inode

-- a test for none tells whether there is none
pub none_tested : {A B : Type 0} (f : A → B) (r : Option A) (o : Option B) (b : Bool) → is_some r ≡ not b → option_map f r ≡ o → (b ≡ true → None ≡ o) × (None ≡ o → b ≡ true)
none_tested f None o true tested is = (λ _. is, λ _. refl)
none_tested f None o false tested is = absurd cc
none_tested f (Some x) o true tested is = absurd cc
none_tested f (Some x) o false tested is = (λ t. absurd cc, λ none. absurd cc)
