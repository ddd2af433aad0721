-- What lies below a text, and what its bytes tell.
use Rattle.std.proofs.Common.{◌≡◌, ℕ, Bool, true, false, Option, Some, None, List, [], ◌∷◌, ◌++◌, length, map, reverse, refl, ap, sym, ◌∙◌, arith}
use Rattle.std.specs.Bool.{if◌then◌else◌}
use Rattle.std.specs.Option.{option_map, option_map_or}
use Rattle.std.proofs.lemmas.Bool.{false_from_ne_true}
use Rattle.std.proofs.lemmas.List.{length-append, reverse-reverse}
use Rattle.std.proofs.lemmas.Slice.Eq.{bytes_eq-Decides, slice_eq-Decides}
use Rattle.pr_base.specs.Paths.{Component, Dot, DotDot, Name, components_of}
use Rattle.pr_base.specs.Texts.{Text, texts_eq, names_below, NamesStandInFront, TextsAreToldApart}
use Rattle.pr_base.proofs.PathLemmas.{texts_have_their_names}

pub some_is : {A : Type 0} (a b : A) → Some a ≡ Some b → a ≡ b
some_is a b h = ap (λ o. option_map_or (λ s. s) o a) h

pub map_some : {A B : Type 0} (f : A → B) (o : Option A) (y : B) → option_map f o ≡ Some y → (x : A) × (o ≡ Some x) × (f x ≡ y)
map_some f None y h = absurd cc
map_some f (Some x) y h = (x, refl, some_is (f x) y h)

pub texts_same : (a b : Text) → texts_eq a b ≡ true → a ≡ b
texts_same a b h = (slice_eq-Decides bytes_eq-Decides a b (texts_eq a b) refl).0 h

pub texts_true : (a b : Text) → a ≡ b → texts_eq a b ≡ true
texts_true a b h = (slice_eq-Decides bytes_eq-Decides a b (texts_eq a b) refl).1 h

pub below_found : (top text rest : Text) → names_below top text ≡ Some rest → text ≡ rest ++ top
below_found top [] rest h = at (texts_eq top []) refl h
  where
    at : (b : Bool) → texts_eq top [] ≡ b → (if b then Some [] else None) ≡ Some rest → [] ≡ rest ++ top
    at true e h = let none : [] ≡ rest = some_is [] rest h in sym (texts_same top [] e) ∙ ap (λ r. r ++ top) none
    at false e h = absurd cc
below_found top (name ∷ names) rest h = at (texts_eq top (name ∷ names)) refl h (below_found top names)
  where
    at : (b : Bool) → texts_eq top (name ∷ names) ≡ b → (if b then Some [] else option_map (λ rest. name ∷ rest) (names_below top names)) ≡ Some rest
        → ((r : Text) → names_below top names ≡ Some r → names ≡ r ++ top) → name ∷ names ≡ rest ++ top
    at true e h up = let none : [] ≡ rest = some_is [] rest h in sym (texts_same top (name ∷ names) e) ∙ ap (λ r. r ++ top) none
    at false e h up =
        let m = map_some (λ r. name ∷ r) (names_below top names) rest h in
        ap (λ ns. name ∷ ns) (up m.0 m.1) ∙ ap (λ r. r ++ top) m.2

pub below_there : (top rest : Text) → names_below top (rest ++ top) ≡ Some rest
below_there [] [] = refl
below_there (name ∷ top) [] = ap (λ b. if b then Some [] else option_map (λ rest. name ∷ rest) (names_below (name ∷ top) top)) (texts_true (name ∷ top) (name ∷ top) refl)
below_there top (name ∷ rest) =
    let other : texts_eq top (name ∷ (rest ++ top)) ≡ false = false_from_ne_true _ (λ e.
    let same = texts_same top (name ∷ (rest ++ top)) e in
    let sum = length-append rest top in
    omega (arith, ap length same)) in
    ap (λ b. if b then Some [] else option_map (λ rest. name ∷ rest) (names_below top (rest ++ top))) other ∙ ap (option_map (λ rest. name ∷ rest)) (below_there top rest)

pub names_stand_in_front : NamesStandInFront
names_stand_in_front = record { found = below_found; there = below_there }

-- ---- the bytes of a text

spelled : Component → List ℕ
spelled Dot = []
spelled DotDot = []
spelled (Name name) = name

names_again : (names : Text) → map spelled (map Name names) ≡ names
unfolding spelled
names_again [] = refl
names_again (name ∷ names) = ap (λ ns. name ∷ ns) (names_again names)

pub texts_are_told_apart : TextsAreToldApart
texts_are_told_apart one two are_one are_two same =
    let components : map Name (reverse one) ≡ map Name (reverse two) = sym (texts_have_their_names one are_one) ∙ ap components_of same ∙ texts_have_their_names two are_two in
    let turned : reverse one ≡ reverse two = sym (names_again (reverse one)) ∙ ap (map spelled) components ∙ names_again (reverse two) in
    sym (reverse-reverse one) ∙ ap reverse turned ∙ reverse-reverse two
