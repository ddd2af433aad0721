-- A name that is no source's spares all sources.
use Rattle.std.proofs.Common.{◌≡◌, ℕ, true, false, List, bytes_eq, sym, ap, ◌∙◌}
use Rattle.std.specs.Prelude.{◌&&◌}
use Rattle.std.proofs.lemmas.Bool.{eq-eqb}
use Rattle.std.proofs.lemmas.Slice.Eq.{bytes_eq-Decides}
use Rattle.law_walks.specs.kr_view.View.{Row}
use Rattle.kr_calm.specs.Rules.{is_named, names_source}
use Rattle.law_places.specs.Taking.{SparesSources}
use Rattle.law_places.proofs.SearchLemmas.{row_fails}

pub spares_sources : (table : List Row) (dir : ℕ) (name : List ℕ) → names_source table dir name ≡ false → SparesSources table dir name
spares_sources table dir name none k r there dirs names =
    let fails : is_named dir name r ≡ false = row_fails (is_named dir name) table k r none there in
    let is : is_named dir name r ≡ true = ap (λ b. b && bytes_eq r.source_name name) (eq-eqb r.source_dir dir dirs) ∙ (bytes_eq-Decides r.source_name name).1 names in
    let clash : false ≡ true = sym fails ∙ is in
    cc
