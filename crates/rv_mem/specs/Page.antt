-- One page of a memory.
use Rattle.std.specs.Prelude.{ℕ, Bool, false, true, List, length, replicate, refl}
use Rattle.std.specs.Coded.{Coded, code_by, coded×, coded_ℕ, coded_bool, coded_list}
use Rattle.std.proofs.Math.Seq.{sets}
use Rattle.rv_mem.specs.declared.rights.Rights.{Rights}
use Rattle.rv_mem.specs.declared.rights.Use.{Use}
use Rattle.rv_mem.specs.declared.rights.Use.TheVariants.{Read, Write, Execute}
use Rattle.rv_mem.specs.Marks.{no_marks}
use Rattle.rv_table.specs.pr_base.Page.{page_size}

-- whether the rights allow a use
abbrev pub grants : Rights → Use → Bool
grants rights Read = rights.r
grants rights Write = rights.w
grants rights Execute = rights.x

-- a page: its 4,096 bytes, what may be done with them, and which of them are marked
pub record PageState : Type 0 where
  pub bytes : List ℕ
  pub rights : Rights
  pub marks : List Bool

abbrev pub rights_code : Coded Rights
rights_code =
    code_by (Bool × (Bool × Bool)) (coded× coded_bool (coded× coded_bool coded_bool))
    (λ s. (s.r, (s.w, s.x))) (λ p. record { r = p.0; w = p.1.0; x = p.1.1 }) (λ _. refl)

abbrev pub page_code : Coded PageState
page_code =
    code_by (List ℕ × (Rights × List Bool)) (coded× (coded_list coded_ℕ) (coded× rights_code (coded_list coded_bool)))
    (λ s. (s.bytes, (s.rights, s.marks))) (λ p. record { bytes = p.0; rights = p.1.0; marks = p.1.1 }) (λ _. refl)

unfoldable pub zero_bytes : List ℕ
zero_bytes = replicate page_size 0

-- a page as it is mapped: zeros without a mark
abbrev pub fresh_page : Rights → PageState
fresh_page rights = record { bytes = zero_bytes; rights = rights; marks = no_marks }

-- the page with other rights
abbrev pub page_with_rights : Rights → PageState → PageState
page_with_rights rights p = record { bytes = p.bytes; rights = rights; marks = p.marks }

-- the page with bytes written from an index on, which clears their marks
abbrev pub page_written : ℕ → List ℕ → PageState → PageState
page_written i bs p = record { bytes = sets p.bytes i bs; rights = p.rights; marks = sets p.marks i (replicate (length bs) false) }

-- the page with n bytes marked from an index on
abbrev pub page_marked : ℕ → ℕ → PageState → PageState
page_marked i n p = record { bytes = p.bytes; rights = p.rights; marks = sets p.marks i (replicate n true) }
