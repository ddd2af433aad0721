-- What a steady host text tells of those that stand in front of it.
use Rattle.std.proofs.Common.{◌≡◌, ◌≢◌, ◌∙◌, ◌&&◌, ◌==◌, ℕ, Bool, true, false, not, length, Option, Some, None, List, [], ◌∷◌, ◌++◌, refl, ap, subst, sym}
use Rattle.std.specs.Prelude.{IfSome}
use Rattle.std.specs.Bool.{if◌then◌else◌}
use Rattle.std.specs.Option.{option_map}
use Rattle.std.proofs.lemmas.List.Elements.{All-tail}
use Rattle.pt_bind.specs.pr_base.Paths.{AreParts, IsPart, below_root, text_of}
use Rattle.pt_bind.specs.pr_base.Peeks.{FrontsAreSteady, Peeked}
use Rattle.pt_bind.specs.pr_base.Texts.{Text, names_below}
use Rattle.pt_bind.proofs.pr_base.TextLemmas.{below_found}
use Rattle.pt_bind.specs.Binding.{IsWritten, names_of}
use Rattle.pt_bind.proofs.ByteLemmas.{not_empty_is, spelled, spelled_parts}
use Rattle.pt_canon.specs.Laws.{host_bytes}
use Rattle.pt_canon.specs.Steadily.{IsSure, known_ahead}
use Rattle.pt_canon.specs.TextWalk.{TextSurroundings, itself_in}
use Rattle.pt_canon.proofs.SteadyLemmas.{and_second}

module _ (peeked : Peeked) (fronts : FrontsAreSteady peeked) where
  -- what stands above a steady text, and that itself
  above_steady : (name : List ℕ) (more top : Text) → AreParts (name ∷ (more ++ top)) → peeked.steady (text_of (name ∷ (more ++ top))) ≡ true
      → (peeked.steady (text_of top) ≡ true) × (peeked.steady (itself_in top) ≡ true)
  above_steady name [] top are steady = fronts name top are steady
  above_steady name (other ∷ more) top are steady =
      above_steady other more top (All-tail IsPart name (other ∷ (more ++ top)) are) (fronts name (other ∷ (more ++ top)) are steady).0

  front_steady : (rest top : Text) → AreParts (rest ++ top) → peeked.steady (text_of (rest ++ top)) ≡ true → peeked.steady (text_of top) ≡ true
  front_steady [] top are steady = steady
  front_steady (name ∷ rest) top are steady = (above_steady name rest top are steady).0

  -- ---- in bytes

  module _ (host sure : List ℕ) (written : IsWritten host) (sure_written : IsWritten sure) (steady : peeked.steady sure ≡ true) where
    parts_parted : (rest : Text) → names_of sure ≡ rest ++ names_of host → AreParts (rest ++ names_of host)
    parts_parted rest parted = subst AreParts parted (spelled_parts sure sure_written)

    steady_parted : (rest : Text) → names_of sure ≡ rest ++ names_of host → peeked.steady (text_of (rest ++ names_of host)) ≡ true
    steady_parted rest parted = ap peeked.steady (sym (spelled sure sure_written ∙ ap text_of parted)) ∙ steady

    -- where one text stands in front of the other
    pub covered : (bytes : List ℕ) → Some bytes ≡ option_map below_root (names_below (names_of host) (names_of sure)) → peeked.steady host ≡ true
    covered bytes is = at (names_below (names_of host) (names_of sure)) refl is
      where
        at : (o : Option Text) → names_below (names_of host) (names_of sure) ≡ o → Some bytes ≡ option_map below_root o → peeked.steady host ≡ true
        at None e is = absurd cc
        at (Some rest) e is =
            let parted = below_found (names_of host) (names_of sure) rest e in
            ap peeked.steady (spelled host written) ∙ front_steady rest (names_of host) (parts_parted rest parted) (steady_parted rest parted)

    -- and is another one
    pub covered_itself : (bytes : List ℕ) → bytes ≢ [] → Some bytes ≡ option_map below_root (names_below (names_of host) (names_of sure)) → peeked.steady (itself_in (names_of host)) ≡ true
    covered_itself bytes some is = at (names_below (names_of host) (names_of sure)) refl is
      where
        at : (o : Option Text) → names_below (names_of host) (names_of sure) ≡ o → Some bytes ≡ option_map below_root o → peeked.steady (itself_in (names_of host)) ≡ true
        at None e is = absurd cc
        at (Some []) e is = absurd (some (let same : Some bytes ≡ Some [] = is in let none : bytes ≡ [] = cc in none))
        at (Some (name ∷ rest)) e is =
            let parted = below_found (names_of host) (names_of sure) (name ∷ rest) e in
            (above_steady name rest (names_of host) (parts_parted (name ∷ rest) parted) (steady_parted (name ∷ rest) parted)).1

pub some_left : (bytes : List ℕ) (none : Bool) → none ≡ (length bytes == 0) → not none ≡ true → bytes ≢ []
some_left bytes true e is = absurd cc
some_left bytes false e is = not_empty_is bytes false e refl

-- ---- what is known

pub none_known : (texts : TextSurroundings) (steady : Bool) (t : Text) → steady ≡ false → None ≡ known_ahead texts steady t
none_known texts steady t none = ap (λ b. known_ahead texts b t) (sym none)

-- of a text whose host text was asked
pub some_known : (texts : TextSurroundings) (steady told : Bool) (t : Text) (host : List ℕ) → steady ≡ true → host ≡ host_bytes texts t → told ≡ texts.peeked.steady (host_bytes texts t)
    → (if told then Some host else None) ≡ known_ahead texts steady t
some_known texts steady told t host so host_is told_is = (λ i. if told_is i then Some (host_is i) else None) ∙ ap (λ b. known_ahead texts b t) (sym so)

pub known_sure : (texts : TextSurroundings) (steady : Bool) (t : Text) (sure : Option (List ℕ)) → sure ≡ known_ahead texts steady t → IsSure texts.peeked sure
known_sure texts steady t sure is =
    let P : Option (List ℕ) → Type 0 = λ known. IfSome known (λ host. texts.peeked.steady host ≡ true) in
    record { steady = subst P (sym is) (at (steady && texts.peeked.steady (host_bytes texts t)) refl) }
  where
    at : (b : Bool) → (steady && texts.peeked.steady (host_bytes texts t)) ≡ b → IfSome (if b then Some (host_bytes texts t) else None) (λ host. texts.peeked.steady host ≡ true)
    at true e = and_second steady (texts.peeked.steady (host_bytes texts t)) e
    at false e = tt
