-- A part with a slash behind it, or without, as a path.
use Rattle.std.proofs.Common.{◌≡◌, ℕ, Bool, true, false, List, [], ◌∷◌, ◌++◌, refl, ap, ◌∙◌, append-nil}
use Rattle.std.specs.Bool.{if◌then◌else◌}
use Rattle.kr_tree.specs.pr_base.Paths.{slash, has_parts, ends_in_slash, has_slash, parts_of, is_absolute, IsPart}
use Rattle.kr_tree.proofs.pr_base.PathLemmas.{parts_seam, part_alone, ends_behind, part_no_slash, part_relative}
use Rattle.kr_view.specs.ReachLaws.{slashed}

pub slashed_parts : (sl : Bool) (name : List ℕ) → IsPart name → parts_of (slashed sl name) ≡ name ∷ []
slashed_parts true name is = parts_seam name [] ∙ append-nil (parts_of name) ∙ part_alone name is
slashed_parts false name is = part_alone name is

pub slashed_has : (sl : Bool) (name : List ℕ) → IsPart name → has_slash (slashed sl name) ≡ sl
slashed_has true name is =
    ap (λ p. if has_parts p then ends_in_slash (name ++ slash ∷ []) else false) (slashed_parts true name is) ∙ ends_behind name (slash ∷ []) (λ e. absurd cc)
slashed_has false name is = part_no_slash name is

pub slashed_relative : (sl : Bool) (name : List ℕ) → IsPart name → is_absolute (slashed sl name) ≡ false
slashed_relative sl [] is = absurd (is.some refl)
slashed_relative true (b ∷ bs) is = part_relative (b ∷ bs) is
slashed_relative false (b ∷ bs) is = part_relative (b ∷ bs) is
