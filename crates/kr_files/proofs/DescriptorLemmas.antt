-- Descriptors: the lowest free one, and those of a list of slots.
use Rattle.std.specs.FinMap as map
use Rattle.std.proofs.Common.{◌≡◌, ◌<◌, ◌≤◌, ◌+◌, ◌-◌, ℕ, zero, suc, Bool, true, false, nat_lt, List, length, get_or, set, refl, sym, ap, subst, ◌∙◌, arith, cond, Option, Some, None, is_some, inl, inr}
use Rattle.std.specs.Prelude.{IsSome}
use Rattle.std.specs.Ordering.{nat_cmp}
use Rattle.std.specs.Option.{option_map, option_and_then}
use Rattle.std.proofs.lemmas.Bool.{cases_eq}
use Rattle.std.proofs.lemmas.Bool.Decides.{nat_tests}
use Rattle.std.proofs.lemmas.List.{get_or_past}
use Rattle.std.proofs.lemmas.Option.{none-some}
use Rattle.kr_files.specs.declared.descs.Descriptor.{Descriptor}
use Rattle.kr_files.specs.Laws.{AreFew, LowestIsLeast}
use Rattle.kr_files.proofs.CountLemmas.{below_small}
use Rattle.kr_tree.proofs.pr_base.MapLemmas.{get-mapped}
use Rattle.kr_files.specs.Slots.{slots}
use Rattle.kr_files.specs.Descriptors.{Descriptors, Named, meanings, first_free, lowest_free, lowest_pair, IsLowestFree, AllTaken}
use Rattle.kr_files.proofs.SlotLemmas.{get-slots, slots-set_some, slots-set_none, slots-past, slots-same}

at_most : (a b : ℕ) → (b < a → ⊥) → a ≤ b
at_most a b above = by_test (nat_lt b a) refl
  where
    by_test : (t : Bool) → nat_lt b a ≡ t → a ≤ b
    by_test true e = absurd (above (grind (arith, nat_tests)))
    by_test false e = grind (arith, nat_tests)

module _ {X : Type 0} where
  -- what is there isn't missing
  pub not_missing : (o : Option X) → IsSome o → o ≡ None → ⊥
  not_missing None h e = absurd (cc)
  not_missing (Some x) h e = absurd (cc)

  pub put_in : (xs ys : List (Option X)) (d : map.FinMap nat_cmp X) (i : ℕ) (x : X) → slots xs ≡ d
      → ((q : ℕ) → get_or ys q None ≡ get_or xs q None) → i < length ys → slots (set ys i (Some x)) ≡ map.insert d i x
  put_in xs ys d i x e same h = slots-set_some ys i x h ∙ ap (λ m. map.insert m i x) (slots-same xs ys same ∙ e)

  pub put_over : (xs : List (Option X)) (d : map.FinMap nat_cmp X) (i : ℕ) (x : X) → slots xs ≡ d → i < length xs → slots (set xs i (Some x)) ≡ map.insert d i x
  put_over xs d i x e h = put_in xs xs d i x e (λ q. refl) h

  pub cleared : (xs : List (Option X)) (d : map.FinMap nat_cmp X) (i : ℕ) → slots xs ≡ d → i < length xs → slots (set xs i None) ≡ map.remove d i
  cleared xs d i e h = slots-set_none xs i h ∙ ap (λ m. map.remove m i) e

  pub cleared_past : (xs : List (Option X)) (d : map.FinMap nat_cmp X) (i : ℕ) → slots xs ≡ d → length xs ≤ i → d ≡ map.remove d i
  cleared_past xs d i e h = sym e ∙ slots-past xs i h ∙ ap (λ m. map.remove m i) e

  pub none_past : (xs : List (Option X)) (d : map.FinMap nat_cmp X) (i : ℕ) → slots xs ≡ d → get_or xs i None ≡ None → map.get d i ≡ None
  none_past xs d i e h = sym (ap (λ m. map.get m i) e) ∙ get-slots xs i ∙ h

  pub found_in : (xs : List (Option X)) (d : map.FinMap nat_cmp X) (i : ℕ) (o : Option X) → slots xs ≡ d → get_or xs i None ≡ o → o ≡ map.get d i
  found_in xs d i o e h = sym h ∙ sym (get-slots xs i) ∙ ap (λ m. map.get m i) e

  -- ---- the first free number

  free_step : (d : map.FinMap nat_cmp X) (k n m : ℕ) → n ≡ suc m → first_free d k n ≡ cond (is_some (map.get d k)) (first_free d (k + 1) m) (Some k)
  unfolding first_free
  free_step d k n m e = ap (first_free d k) e

  pub first_free-taken : (d : map.FinMap nat_cmp X) (k : ℕ) → is_some (map.get d k) ≡ true → k < 1024 → first_free d k (1024 - k) ≡ first_free d (k + 1) (1024 - (k + 1))
  first_free-taken d k taken h =
      free_step d k (1024 - k) (1024 - (k + 1)) (omega arith) ∙ ap (λ b. cond b (first_free d (k + 1) (1024 - (k + 1))) (Some k)) taken

  pub first_free-found : (d : map.FinMap nat_cmp X) (k : ℕ) → is_some (map.get d k) ≡ false → k < 1024 → first_free d k (1024 - k) ≡ Some k
  first_free-found d k free h =
      free_step d k (1024 - k) (1024 - (k + 1)) (omega arith) ∙ ap (λ b. cond b (first_free d (k + 1) (1024 - (k + 1))) (Some k)) free

  pub first_free-end : (d : map.FinMap nat_cmp X) (k : ℕ) → 1024 ≤ k → first_free d k (1024 - k) ≡ None
  unfolding first_free
  first_free-end d k h = let e : 1024 - k ≡ 0 = omega arith in ap (first_free d k) e

  none_of : (o : Option X) → is_some o ≡ false → o ≡ None
  none_of None h = refl
  none_of (Some x) h = absurd (cc)

  first_is_lowest : (count : ℕ) (d : map.FinMap nat_cmp X) (k fd : ℕ) → count ≡ 1024 - k → first_free d k count ≡ Some fd → IsLowestFree d k fd
  unfolding first_free
  first_is_lowest zero d k fd e found = absurd (cc)
  first_is_lowest (suc count) d k fd e found =
      elim (is_some (map.get d k)) as (λ b. is_some (map.get d k) ≡ b → cond b (first_free d (k + 1) count) (Some k) ≡ Some fd → IsLowestFree d k fd) [
        | true ↦ λ t f.
            let later = first_is_lowest count d (k + 1) fd (omega arith) f in
            record {
              free = later.free;
              from_on = omega (arith, later.from_on);
              below = later.below;
              lower_taken = λ q low high. elim (cases_eq q k) [
                | inl same ↦ subst (λ r. IsSome (map.get d r)) (sym same) t
                | inr other ↦ later.lower_taken q (omega arith) high
              ];
            }
        | false ↦ λ t f.
            let same : k ≡ fd = cc in
            record {
              free = subst (λ r. map.get d r ≡ None) same (none_of (map.get d k) t);
              from_on = omega arith;
              below = omega arith;
              lower_taken = λ q low high. absurd (omega arith);
            }
      ] refl found

  first_is_none : (count : ℕ) (d : map.FinMap nat_cmp X) (k : ℕ) → count ≡ 1024 - k → first_free d k count ≡ None → (q : ℕ) → k ≤ q → q < 1024 → IsSome (map.get d q)
  unfolding first_free
  first_is_none zero d k e none q low high = absurd (omega arith)
  first_is_none (suc count) d k e none q low high =
      elim (is_some (map.get d k)) as (λ b. is_some (map.get d k) ≡ b → cond b (first_free d (k + 1) count) (Some k) ≡ None → IsSome (map.get d q)) [
        | true ↦ λ t f. elim (cases_eq q k) [
          | inl same ↦ subst (λ r. IsSome (map.get d r)) (sym same) t
          | inr other ↦ first_is_none count d (k + 1) (omega arith) f q (omega arith) high
        ]
        | false ↦ λ t f. absurd (cc)
      ] refl none

  -- what `lowest_free` gives is the lowest free number
  pub lowest_free-some : (d : map.FinMap nat_cmp X) (from fd : ℕ) → lowest_free d from ≡ Some fd → IsLowestFree d from fd
  lowest_free-some d from fd e = first_is_lowest (1024 - from) d from fd refl e

  -- and where it gives none, all from `from` on are taken
  pub lowest_free-none : (d : map.FinMap nat_cmp X) (from : ℕ) → lowest_free d from ≡ None → (q : ℕ) → from ≤ q → q < 1024 → IsSome (map.get d q)
  lowest_free-none d from e q low high = first_is_none (1024 - from) d from refl e q low high

  -- both ways
  pub lowest_is_least : LowestIsLeast X
  lowest_is_least = record {
    some = λ d from fd. (lowest_free-some d from fd, λ is. least d from fd is (lowest_free d from) refl);
    none = λ d from. (lowest_free-none d from, λ taken. no_free d from taken (lowest_free d from) refl);
  }
    where
      least : (d : map.FinMap nat_cmp X) (from fd : ℕ) → IsLowestFree d from fd → (o : Option ℕ) → lowest_free d from ≡ o → lowest_free d from ≡ Some fd
      least d from fd is None e = absurd (not_missing (map.get d fd) (lowest_free-none d from e fd is.from_on is.below) is.free)
      least d from fd is (Some k) e =
          let found = lowest_free-some d from k e in
          let up : fd ≤ k = at_most fd k (λ low. not_missing (map.get d k) (is.lower_taken k found.from_on low) found.free) in
          let down : k ≤ fd = at_most k fd (λ low. not_missing (map.get d fd) (found.lower_taken fd is.from_on low) is.free) in
          let same : k ≡ fd = omega arith in
          e ∙ ap Some same

      no_free : (d : map.FinMap nat_cmp X) (from : ℕ) → AllTaken d from → (o : Option ℕ) → lowest_free d from ≡ o → lowest_free d from ≡ None
      no_free d from taken None e = e
      no_free d from taken (Some k) e =
          let found = lowest_free-some d from k e in
          absurd (not_missing (map.get d k) (taken k found.from_on found.below) found.free)

-- ---- descriptors and their meanings

same_taken : (d : Descriptors) (q : ℕ) → is_some (map.get (meanings d) q) ≡ is_some (map.get d q)
same_taken d q = ap is_some (get-mapped (λ fd (x : Descriptor). record { number = x.number; cloexec = x.cloexec }) d q) ∙ kept (map.get d q)
  where
    kept : (o : Option Descriptor) → is_some {T = Named} (option_map (λ (x : Descriptor). record { number = x.number; cloexec = x.cloexec }) o) ≡ is_some o
    kept None = refl
    kept (Some x) = refl

pub first_free-meanings : (d : Descriptors) (k count : ℕ) → first_free (meanings d) k count ≡ first_free d k count
unfolding first_free
first_free-meanings d k zero = refl
first_free-meanings d k (suc count) =
    ap (λ b. cond b (first_free (meanings d) (k + 1) count) (Some k)) (same_taken d k)
    ∙ ap (λ o. cond (is_some (map.get d k)) o (Some k)) (first_free-meanings d (k + 1) count)

pub lowest_free-meanings : (d : Descriptors) (from : ℕ) → lowest_free (meanings d) from ≡ lowest_free d from
lowest_free-meanings d from = first_free-meanings d from (1024 - from)

pub lowest_pair-meanings : (d : Descriptors) → lowest_pair (meanings d) ≡ lowest_pair d
lowest_pair-meanings d i =
    option_and_then (λ first. option_map (λ second. (first, second)) (lowest_free-meanings d (first + 1) i)) (lowest_free-meanings d 0 i)

-- ---- how many there are

pub are_few : (xs : List (Option Descriptor)) (d : Descriptors) → slots xs ≡ d → length xs ≤ 1024 → AreFew d
are_few xs d e few = record {
  below = λ fd x at. below fd x at (nat_lt fd 1024) refl;
  copies = λ n. below_small (meanings d) n 1024;
}
  where
    below : (fd : ℕ) (x : Descriptor) → map.get d fd ≡ Some x → (b : Bool) → nat_lt fd 1024 ≡ b → fd < 1024
    below fd x at true low = grind (arith, nat_tests)
    below fd x at false high =
        let past : 1024 ≤ fd = grind (arith, nat_tests) in
        absurd (none-some x (sym (none_past xs d fd e (get_or_past xs fd None (omega arith))) ∙ at))
