use Rattle.std.proofs.Common.{◌≡◌, ◌≤◌, ◌∙◌, ℕ, List, ap, sym, subst, ◌++◌, length, drop, get_or, ◌<◌}
use Rattle.pr_base.specs.Paths.{text_of}
use Rattle.pt_bind.specs.Binding.{AreBounds, IsWritten, names_of, row_of, rows_of}
use Rattle.std.proofs.lemmas.List.{length-map}
use Rattle.pr_base.specs.declared.bind.Bound.{Bound}
use Rattle.pt_bind.proofs.RowLemmas.{end_fits, rest_is, host_is, host_written, written_at}
use Rattle.pt_bind.proofs.table.Table.host_of.Goals as goal

pub from-requires : goal.from-requires
from-requires c =
    let P : List ℕ → Type 0 = λ bytes. c.owned-owned.result.end ≤ length bytes in
    subst P (sym c.below_root.ensures) (end_fits c.args.guest.now (rows_of c.args.self.now) c.owned-owned.result.number c.owned-owned.result.end c.owned-owned.ensures)

pub joined-requires : goal.joined-requires
joined-requires c =
    let are : AreBounds c.args.self.now = subst AreBounds c.self.view_is c.self.invariant.0 in
    let row = c.index.result.now in
    let number = c.owned-owned.result.number in
    let is : row ≡ get_or c.args.self.now number row = c.index.ensures ∙ ap (λ rows. get_or rows number row) c.self.view_is in
    let below : number < length c.args.self.now = subst (λ n. number < n) (length-map c.args.self.now row_of) c.owned-owned.ensures.there in
    subst IsWritten (sym (c.as_slice-source.ensures ∙ ap (λ (b : Bound). b.source) is)) (written_at c.args.self.now are number row below).0

pub returns-clause-host : goal.returns-clause-host
returns-clause-host c =
    let w = c.owned-owned.ensures in
    let row = c.index.result.now in
    let number = c.owned-owned.result.number in
    let is : row ≡ get_or c.args.self.now number row = c.index.ensures ∙ ap (λ rows. get_or rows number row) c.self.view_is in
    let rest = c.from.ensures ∙ ap (drop c.owned-owned.result.end) c.below_root.ensures ∙ rest_is c.args.guest.now (rows_of c.args.self.now) number c.owned-owned.result.end w in
    c.in_ok-host.ensures w.rest rest
    ∙ ap (λ b. text_of (w.rest ++ names_of b)) (c.as_slice-source.ensures ∙ ap (λ (b : Bound). b.source) is)
    ∙ host_is c.args.guest.now c.args.self.now number c.owned-owned.result.end w row

pub returns-clause-written : goal.returns-clause-written
returns-clause-written c =
    let w = c.owned-owned.ensures in
    let row = c.index.result.now in
    let number = c.owned-owned.result.number in
    let are : AreBounds c.args.self.now = subst AreBounds c.self.view_is c.self.invariant.0 in
    let is : row ≡ get_or c.args.self.now number row = c.index.ensures ∙ ap (λ rows. get_or rows number row) c.self.view_is in
    let rest = c.from.ensures ∙ ap (drop c.owned-owned.result.end) c.below_root.ensures ∙ rest_is c.args.guest.now (rows_of c.args.self.now) number c.owned-owned.result.end w in
    host_written c.args.self.now are c.args.guest.now c.requires c.in_ok-host.host (c.in_ok-host.ensures w.rest rest
    ∙ ap (λ b. text_of (w.rest ++ names_of b)) (c.as_slice-source.ensures ∙ ap (λ (b : Bound). b.source) is)
    ∙ host_is c.args.guest.now c.args.self.now number c.owned-owned.result.end w row)
