use Rattle.std.proofs.Common.{◌∙◌, ap, sym, subst, nat_eq, ◌++◌}
use Rattle.std.specs.Option.{option_map}
use Rattle.pr_base.specs.Paths.{below_root, text_of}
use Rattle.pr_base.specs.Texts.{names_below}
use Rattle.pt_bind.specs.Binding.{AreBounds, IsWritten, names_of}
use Rattle.pr_base.specs.declared.bind.Bound.{Bound}
use Rattle.pt_bind.proofs.RowLemmas.{written_at, find_holds, no_row, not_below, guest_is, guest_written}
use Rattle.pt_bind.proofs.table.Table.guest_of.Goals as goal

pub returns-in_default-clause-guest : goal.returns-in_default-clause-guest
returns-in_default-clause-guest c = no_row c.args.index c.args.self.now c.args.host.now (sym c.in_default.ensures.row)

pub rest_below-requires-clause-top : goal.rest_below-requires-clause-top
rest_below-requires-clause-top c =
    let P : Bound → Type 0 = λ b. IsWritten b.source × IsWritten b.location in
    let both = find_holds P (λ b. nat_eq b.index c.args.index) c.args.self.now (written_at c.args.self.now c.row_of_index.ensures.kept) c.in-Some.row.now (sym c.in-Some.ensures.row) in
    subst IsWritten (sym c.as_slice.ensures) both.0

pub joined-requires : goal.joined-requires
joined-requires c =
    let P : Bound → Type 0 = λ b. IsWritten b.source × IsWritten b.location in
    let both = find_holds P (λ b. nat_eq b.index c.args.index) c.args.self.now (written_at c.args.self.now c.row_of_index.ensures.kept) c.in-Some.row.now (sym c.in-Some.ensures.row) in
    subst IsWritten (sym c.as_slice-in-Some-rest_below.ensures) both.1

pub returns-in-None-clause-guest : goal.returns-in-None-clause-guest
returns-in-None-clause-guest c =
    not_below c.args.index c.args.self.now c.args.host.now c.in-Some.row.now (sym c.in-Some.ensures.row)
    (c.in-None.ensures ∙ ap (λ top. option_map below_root (names_below (names_of top) (names_of c.args.host.now))) c.as_slice.ensures)

pub returns-in_ok-joined-in-Some-rest_below-clause-guest : goal.returns-in_ok-joined-in-Some-rest_below-clause-guest
returns-in_ok-joined-in-Some-rest_below-clause-guest c =
    guest_is c.args.index c.args.self.now c.args.host.now c.in-Some.row.now c.in-Some-rest_below.rest.now c.in_ok-joined-in-Some-rest_below.field-0 (sym c.in-Some.ensures.row)
    (c.in-Some-rest_below.ensures ∙ ap (λ top. option_map below_root (names_below (names_of top) (names_of c.args.host.now))) c.as_slice.ensures)
    (λ names is. c.in_ok-joined-in-Some-rest_below.ensures names is ∙ ap (λ top. text_of (names ++ names_of top)) c.as_slice-in-Some-rest_below.ensures)

pub returns-in_ok-joined-in-Some-rest_below-clause-written : goal.returns-in_ok-joined-in-Some-rest_below-clause-written
returns-in_ok-joined-in-Some-rest_below-clause-written c =
    guest_written c.args.self.now (subst AreBounds c.self.view_is c.self.invariant.0) c.args.index c.args.host.now c.requires c.in_ok-joined-in-Some-rest_below.field-0 (
    guest_is c.args.index c.args.self.now c.args.host.now c.in-Some.row.now c.in-Some-rest_below.rest.now c.in_ok-joined-in-Some-rest_below.field-0 (sym c.in-Some.ensures.row)
    (c.in-Some-rest_below.ensures ∙ ap (λ top. option_map below_root (names_below (names_of top) (names_of c.args.host.now))) c.as_slice.ensures)
    (λ names is. c.in_ok-joined-in-Some-rest_below.ensures names is ∙ ap (λ top. text_of (names ++ names_of top)) c.as_slice-in-Some-rest_below.ensures))
