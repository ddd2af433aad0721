-- Bindings in their order.
use Rattle.std.proofs.Common.{◌≡◌, ◌≢◌, ◌≤◌, ◌||◌, ℕ, Bool, true, false, List, [], ◌∷◌, length, refl, sym, ap, ◌∙◌, arith, nat_le, inl, inr}
use Rattle.std.specs.Bool.{if◌then◌else◌}
use Rattle.std.specs.List.{AllByRecursion, list_any}
use Rattle.std.proofs.lemmas.Bool.Decides.{nat_tests}
use Rattle.pt_bind.proofs.pr_base.TextLemmas.{texts_true}
use Rattle.kr_mounts.specs.MountTable.{Located, is_located_as, counting, placed_before, in_order}
use Rattle.kr_mounts.specs.Order.{AreApart, AreByLength, IsAmong, BindingsAreInOrder}

abbrev pub Each : (Located → Type 0) → List Located → Type 0
Each P all = AllByRecursion P all

-- ---- what holds of each

pub counting_each : (P : Located → Type 0) (all : List Located) → Each P all → Each P (counting all)
counting_each P [] h = h
counting_each P (one ∷ more) h =
    elim (list_any (is_located_as one) more) as (λ b. Each P (if b then counting more else one ∷ counting more)) [ true ↦ counting_each P more h.1 | false ↦ (h.0, counting_each P more h.1) ]

pub placed_each : (P : Located → Type 0) (one : Located) (all : List Located) → P one → Each P all → Each P (placed_before one all)
placed_each P one [] p h = (p, h)
placed_each P one (other ∷ more) p h =
    elim (nat_le (length one.location) (length other.location)) as (λ b. Each P (if b then one ∷ other ∷ more else other ∷ placed_before one more)) [ true ↦ (p, h) | false ↦ (h.0, placed_each P one more p h.1) ]

pub ordered_each : (P : Located → Type 0) (all : List Located) → Each P all → Each P (in_order all)
ordered_each P [] h = h
ordered_each P (one ∷ more) h = placed_each P one (in_order more) h.0 (ordered_each P more h.1)

weaker : (P Q : Located → Type 0) → ((x : Located) → P x → Q x) → (all : List Located) → Each P all → Each Q all
weaker P Q more [] h = h
weaker P Q more (x ∷ all) h = (more x h.0, weaker P Q more all h.1)

all_among : (all : List Located) → Each (λ one. IsAmong one all) all
all_among [] = tt
all_among (one ∷ more) = (inl refl, weaker (λ x. IsAmong x more) (λ x. IsAmong x (one ∷ more)) (λ x h. inr h) more (all_among more))

-- ---- no two at one text

none_like : (one : Located) (all : List Located) → list_any (is_located_as one) all ≡ false → Each (λ other. one.location ≢ other.location) all
none_like one [] h = tt
none_like one (other ∷ all) h = (apart, none_like one all (rest (is_located_as one other) h))
  where
    rest : (b : Bool) → (b || list_any (is_located_as one) all) ≡ false → list_any (is_located_as one) all ≡ false
    rest true h = absurd cc
    rest false h = h

    apart : one.location ≢ other.location
    apart same = let clash : true ≡ false = ap (λ b. b || list_any (is_located_as one) all) (sym (texts_true one.location other.location same)) ∙ h in absurd cc

counting_apart : (all : List Located) → AreApart (counting all)
counting_apart [] = tt
counting_apart (one ∷ more) = at (counting_apart more) (list_any (is_located_as one) more) refl
  where
    at : AreApart (counting more) → (b : Bool) → list_any (is_located_as one) more ≡ b → AreApart (if b then counting more else one ∷ counting more)
    at rest true h = rest
    at rest false h = (counting_each (λ other. one.location ≢ other.location) more (none_like one more h), rest)

placed_apart : (one : Located) (all : List Located) → Each (λ other. one.location ≢ other.location) all → AreApart all → AreApart (placed_before one all)
placed_apart one [] h apart = (tt, tt)
placed_apart one (other ∷ more) h apart =
    elim (nat_le (length one.location) (length other.location)) as (λ b. AreApart (if b then one ∷ other ∷ more else other ∷ placed_before one more)) [
      | true ↦ (h, apart)
      | false ↦ (placed_each (λ x. other.location ≢ x.location) one more (λ same. h.0 (sym same)) apart.0, placed_apart one more h.1 apart.1)
    ]

ordered_apart : (all : List Located) → AreApart all → AreApart (in_order all)
ordered_apart [] h = h
ordered_apart (one ∷ more) h = placed_apart one (in_order more) (ordered_each (λ other. one.location ≢ other.location) more h.0) (ordered_apart more h.1)

-- ---- by the number of names

placed_by_length : (one : Located) (all : List Located) → AreByLength all → AreByLength (placed_before one all)
placed_by_length one [] h = (tt, tt)
placed_by_length one (other ∷ more) h = at (placed_by_length one more h.1) (nat_le (length one.location) (length other.location)) refl
  where
    at_most : (a b : ℕ) → nat_le a b ≡ true → a ≤ b
    at_most a b h = grind (arith, nat_tests)

    at_least : (a b : ℕ) → nat_le a b ≡ false → b ≤ a
    at_least a b h = grind (arith, nat_tests)

    at : AreByLength (placed_before one more) → (b : Bool) → nat_le (length one.location) (length other.location) ≡ b → AreByLength (if b then one ∷ other ∷ more else other ∷ placed_before one more)
    at rest true is =
        let le = at_most (length one.location) (length other.location) is in
        ((le, weaker (λ x. length other.location ≤ length x.location) (λ x. length one.location ≤ length x.location) (λ x l. omega (arith, le, l)) more h.0), h)
    at rest false is = (placed_each (λ x. length other.location ≤ length x.location) one more (at_least (length one.location) (length other.location) is) h.0, rest)

ordered_by_length : (all : List Located) → AreByLength (in_order all)
ordered_by_length [] = tt
ordered_by_length (one ∷ more) = placed_by_length one (in_order more) (ordered_by_length more)

pub bindings_are_in_order : BindingsAreInOrder
bindings_are_in_order all = record {
  apart = ordered_apart (counting all) (counting_apart all);
  by_length = ordered_by_length (counting all);
  among = let P : Located → Type 0 = λ one. IsAmong one all in ordered_each P (counting all) (counting_each P all (all_among all));
}
