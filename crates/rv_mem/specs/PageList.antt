-- The pages of a memory in a list, whose marks stand apart.
use Rattle.std.specs.Prelude.{ℕ, Bool, List, [], ◌∷◌, refl}
use Rattle.std.specs.Coded.{Coded, code_by, coded×, coded_ℕ, coded_list}
use Rattle.std.proofs.Math.Seq.{sets}
use Rattle.rv_mem.specs.declared.marks.Marks.{Marks}
use Rattle.rv_mem.specs.declared.rights.Rights.{Rights}
use Rattle.rv_mem.specs.Marks.{kept_marks, no_marks}
use Rattle.rv_mem.specs.Page.{PageState, rights_code, zero_bytes}

-- a page without its marks
pub record Unmarked : Type 0 where
  pub bytes : List ℕ
  pub rights : Rights

abbrev pub unmarked_code : Coded Unmarked
unmarked_code =
    code_by (List ℕ × Rights) (coded× (coded_list coded_ℕ) rights_code)
    (λ s. (s.bytes, s.rights)) (λ p. record { bytes = p.0; rights = p.1 }) (λ _. refl)

abbrev pub fresh_unmarked : Rights → Unmarked
fresh_unmarked rights = record { bytes = zero_bytes; rights = rights }

abbrev pub unmarked_with_rights : Rights → Unmarked → Unmarked
unmarked_with_rights rights p = record { bytes = p.bytes; rights = rights }

abbrev pub unmarked_written : ℕ → List ℕ → Unmarked → Unmarked
unmarked_written i bs p = record { bytes = sets p.bytes i bs; rights = p.rights }

-- the page with its marks
abbrev pub with_marks : Unmarked → List Bool → PageState
with_marks p marks = record { bytes = p.bytes; rights = p.rights; marks = marks }

-- pages with their marks, which are stored for the first of them
unfoldable pub pages_of : ℕ → List Unmarked → List Marks → List PageState
pages_of marked [] ms = []
pages_of marked (p ∷ ps) [] = with_marks p no_marks ∷ pages_of marked ps []
pages_of marked (p ∷ ps) (m ∷ ms) = with_marks p (kept_marks marked m) ∷ pages_of marked ps ms
