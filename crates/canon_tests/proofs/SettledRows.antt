-- Rows that pass a test that computes are settled.
use Rattle.std.proofs.Common.{◌≡◌, ◌++◌, ℕ, zero, suc, Bool, true, false, not, Option, Some, None, List, [], ◌∷◌, map, nat_eq, slice_get, refl, ap, sym, ◌∙◌, IfSome}
use Rattle.std.specs.Prelude.{◌&&◌, ◌==◌}
use Rattle.std.specs.List.{list_all}
use Rattle.std.specs.Str.{bytes_eq}
use Rattle.std.proofs.lemmas.Bool.{and_parts, not-true, eq-eqb}
use Rattle.std.proofs.lemmas.List.Sums.{AllPass-from_list_all}
use Rattle.std.proofs.lemmas.Slice.Eq.{bytes_eq-Decides}
use Rattle.pt_results.specs.pr_base.MountText.{MountText, bound_of}
use Rattle.pt_results.specs.pr_base.Paths.{slash, dot, dot_dot, IsPart, AreParts}
use Rattle.pt_results.specs.pr_base.Texts.{Text, texts_eq}
use Rattle.pt_results.proofs.pr_base.TextLemmas.{texts_true}
use Rattle.pt_results.specs.pt_bind.Binding.{AreTexts, AreBounds}

-- ---- the tests

abbrev is_part : List ℕ → Bool
is_part name = not (bytes_eq name []) && (list_all (λ b. not (b == slash)) name && (not (bytes_eq name dot) && not (bytes_eq name dot_dot)))

abbrev point_parts : Option Text → Bool
point_parts None = true
point_parts (Some t) = list_all is_part t

abbrev are_texts : MountText → Bool
are_texts row = list_all is_part row.location && (list_all is_part row.source && point_parts row.point)

abbrev differ : MountText → MountText → Bool
differ one two = not (texts_eq one.location two.location) && not (nat_eq one.index two.index)

abbrev all_differ : List MountText → Bool
all_differ [] = true
all_differ (row ∷ rows) = list_all (differ row) rows && all_differ rows

-- ---- what they tell

never : (b : Bool) → b ≡ true → b ≡ false → ⊥
never b p q = cc

part : (name : List ℕ) → is_part name ≡ true → IsPart name
part name h =
    let p = and_parts _ _ h in
    let q = and_parts _ _ p.1 in
    let r = and_parts _ _ q.1 in
    record {
      some = λ e. never _ ((bytes_eq-Decides name []).1 e) (not-true _ p.0);
      no_slash = λ k d below e. never _ (eq-eqb _ _ e) (not-true _ (AllPass-from_list_all (λ b. not (b == slash)) name q.0 k d below));
      not_dot = λ e. never _ ((bytes_eq-Decides name dot).1 e) (not-true _ r.0);
      not_dot_dot = λ e. never _ ((bytes_eq-Decides name dot_dot).1 e) (not-true _ r.1);
    }

parts : (t : Text) → list_all is_part t ≡ true → AreParts t
parts t h k d below = part _ (AllPass-from_list_all is_part t h k d below)

texts : (row : MountText) → are_texts row ≡ true → AreTexts row
texts row h =
    let p = and_parts _ _ h in
    let q = and_parts _ _ p.1 in
    record { location = parts row.location p.0; source = parts row.source q.0; point = at row.point q.1 }
  where
    at : (o : Option Text) → point_parts o ≡ true → IfSome o AreParts
    at None h = tt
    at (Some t) h = parts t h

row_passes : (test : MountText → Bool) (rows : List MountText) (k : ℕ) (r : MountText) → list_all test rows ≡ true → slice_get rows k ≡ Some r → test r ≡ true
row_passes test [] k r h e = absurd cc
row_passes test (row ∷ rows) zero r h e = let same : row ≡ r = cc in ap test (sym same) ∙ (and_parts _ _ h).0
row_passes test (row ∷ rows) (suc k) r h e = row_passes test rows k r (and_parts _ _ h).1 e

-- two rows of which a property tells that they don't differ are one
alone : (P : MountText → MountText → Type 0) → ((q r : MountText) → P q r → P r q) → ((q r : MountText) → P q r → differ q r ≡ true → ⊥)
    → (rows : List MountText) → all_differ rows ≡ true → (j k : ℕ) (q r : MountText) → slice_get rows j ≡ Some q → slice_get rows k ≡ Some r → P q r → j ≡ k
alone P turned same [] h j k q r one two p = absurd cc
alone P turned same (row ∷ rows) h zero zero q r one two p = refl
alone P turned same (row ∷ rows) h zero (suc k) q r one two p =
    let is : row ≡ q = cc in
    let test : differ row r ≡ true = row_passes (differ row) rows k r (and_parts _ _ h).0 two in
    absurd (same q r p (ap (λ a. differ a r) (sym is) ∙ test))
alone P turned same (row ∷ rows) h (suc j) zero q r one two p =
    let is : row ≡ r = cc in
    let test : differ row q ≡ true = row_passes (differ row) rows j q (and_parts _ _ h).0 one in
    absurd (same r q (turned q r p) (ap (λ a. differ a q) (sym is) ∙ test))
alone P turned same (row ∷ rows) h (suc j) (suc k) q r one two p = ap suc (alone P turned same rows (and_parts _ _ h).1 j k q r one two p)

-- behind a root without a name
pub bounds_by_test : (source : Text) (rows : List MountText) → list_all are_texts (record { index = 0; location = []; source = source; point = None } ∷ rows) ≡ true
    → all_differ (record { index = 0; location = []; source = source; point = None } ∷ rows) ≡ true → AreBounds (map bound_of (record { index = 0; location = []; source = source; point = None } ∷ rows))
bounds_by_test source rows are apart =
    let root : MountText = record { index = 0; location = []; source = source; point = None } in
    record {
      table = root ∷ rows;
      settled = record {
        texts = λ k d below. texts _ (AllPass-from_list_all are_texts (root ∷ rows) are k d below);
        root = root;
        others = rows;
        first = refl;
        root_index = refl;
        root_location = refl;
        root_point = refl;
        own_location = alone (λ q r. q.location ≡ r.location) (λ q r e. sym e) (λ q r e h. never _ (texts_true q.location r.location e) (not-true _ (and_parts _ _ h).0)) (root ∷ rows) apart;
        own_index = alone (λ q r. q.index ≡ r.index) (λ q r e. sym e) (λ q r e h. never _ (eq-eqb _ _ e) (not-true _ (and_parts _ _ h).1)) (root ∷ rows) apart;
      };
      written = refl;
    }

-- a row by its names, the deepest first
abbrev pub row : ℕ → Text → Text → Text → MountText
row index location source point = record { index = index; location = location; source = source; point = Some point }

-- a list to which one is added at the end, where what it was before is known
pub added : (A : Type 0) (x : A) (old new known : List A) → new ≡ old ++ x ∷ [] → old ≡ known → new ≡ known ++ x ∷ []
added A x old new known e is = e ∙ ap (λ l. l ++ x ∷ []) is
