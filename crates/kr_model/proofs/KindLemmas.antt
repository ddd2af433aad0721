-- A test that some kinds pass is passed by all changes of these kinds.
use Rattle.std.proofs.Common.{◌≡◌, ℕ, zero, suc, Bool, true, false, ◌||◌, List, [], ◌∷◌, refl, sym, ap, subst, ◌∙◌}
use Rattle.std.specs.Prelude.{◌==◌}
use Rattle.std.specs.List.{list_all}
use Rattle.kr_calls.specs.Kinds.{Kind, AddsNode, Ends, all_kinds, has_kind, kind_number}
use Rattle.kr_files.proofs.SoundLemmas.{equal_true}
use Rattle.kr_model.specs.Change.{Change}
use Rattle.kr_model.specs.ChangeKinds.{are_of, kind}
use Rattle.kr_model.proofs.KeepingLemmas.{and_both, both_true}

abbrev nth_kind : List Kind → ℕ → Kind
nth_kind [] n = Ends
nth_kind (k ∷ kinds) zero = k
nth_kind (k ∷ kinds) (suc n) = nth_kind kinds n

-- each kind stands at its number
numbered : (k : Kind) → nth_kind all_kinds (kind_number k) ≡ k
numbered AddsNode = refl
numbered _ = refl

same_kind : (a b : Kind) → kind_number a ≡ kind_number b → a ≡ b
same_kind a b e = sym (numbered a) ∙ ap (nth_kind all_kinds) e ∙ numbered b

one_of : {P : Type 0} (b rest : Bool) → (b || rest) ≡ true → (b ≡ true → P) → (rest ≡ true → P) → P
one_of true rest e first second = first refl
one_of false rest e first second = second e

module _ (test : Kind → Bool) where
  kind_passes : (kinds : List Kind) (k : Kind) → list_all test kinds ≡ true → has_kind kinds k ≡ true → test k ≡ true
  kind_passes [] k all has = absurd cc
  kind_passes (x ∷ kinds) k all has =
      let parts = both_true (test x) (list_all test kinds) all in
      one_of (kind_number x == kind_number k) (has_kind kinds k) has
      (λ is. subst (λ k. test k ≡ true) (same_kind x k (equal_true (kind_number x) (kind_number k) is)) parts.0) (λ is. kind_passes kinds k parts.1 is)

  module _ (passes : Change → Bool) (agree : (c : Change) → test (kind c) ≡ true → passes c ≡ true) (kinds : List Kind) (all : list_all test kinds ≡ true) where
    pub changes_pass : (cs : List Change) → are_of kinds cs ≡ true → list_all passes cs ≡ true
    changes_pass [] of = refl
    changes_pass (c ∷ cs) of =
        let parts = both_true (has_kind kinds (kind c)) (are_of kinds cs) of in
        and_both (agree c (kind_passes kinds (kind c) all parts.0)) (changes_pass cs parts.1)
