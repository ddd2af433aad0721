use Rattle.std.proofs.Common.{◌≡◌, ◌+◌, ◌∷◌, ◌++◌, Some, None, [], length, reverse, take, subst, sym, ◌∙◌, ap, rules}
use Rattle.std.specs.Prelude.{position}
use Rattle.std.proofs.lemmas.List.{length-take-le}
use Rattle.pr_base.specs.Parts.{parts_left}
use Rattle.pr_base.specs.Paths.{parts_of}
use Rattle.pt_bind.specs.Binding.{rows_of, located, AreBounds}
use Rattle.pt_bind.specs.Kept.{is_at, IsReadTo}
use Rattle.pt_bind.proofs.RowLemmas.{rows_settled, step_fits, step_located, read_some, read_none, read_ended}
use Rattle.pt_bind.proofs.table.Table.owned.Goals as goal

pub overflow_add-end-in-loop-part : goal.overflow_add-end-in-loop-part
overflow_add-end-in-loop-part c =
    let inv = c.loop-part.invariant in
    let read = inv.parted ∙ ap (λ ps. reverse inv.done ++ ps) c.in-Some.ensures.steps in
    let fits = step_fits c.args.guest.now c.requires inv.done c.in-Some.part.now (parts_left c.next.new.self) read c.loop-part.end inv.long in
    search rules

pub slice_bounds-get-end : goal.slice_bounds-get-end
slice_bounds-get-end c =
    let inv = c.loop-part.invariant in
    let read = inv.parted ∙ ap (λ ps. reverse inv.done ++ ps) c.in-Some.ensures.steps in
    let fits = step_fits c.args.guest.now c.requires inv.done c.in-Some.part.now (parts_left c.next.new.self) read c.loop-part.end inv.long in
    sym (length-take-le (c.loop-part.end + (1 + length c.in-Some.part.now)) c.args.guest.now fits)

pub loop-part-preserved-in-Some-get : goal.loop-part-preserved-in-Some-get
loop-part-preserved-in-Some-get c =
    let inv = c.loop-part.invariant in
    let read = inv.parted ∙ ap (λ ps. reverse inv.done ++ ps) c.in-Some.ensures.steps in
    let text = take (c.loop-part.end + (1 + length c.in-Some.part.now)) c.args.guest.now in
    let are : AreBounds c.args.self.now = subst AreBounds c.self.view_is c.self.invariant.0 in
    let found : located (rows_of c.args.self.now) (c.in-Some.part.now ∷ inv.done) ≡ Some c.in-Some-get.number.now =
    sym (step_located c.args.guest.now c.requires inv.done c.in-Some.part.now (parts_left c.next.new.self) read c.args.self.now are c.loop-part.end inv.long)
    ∙ ap (position (is_at text)) (sym c.self.view_is) ∙ sym (c.self.invariant.1 text) ∙ sym c.in-Some-get.ensures.value in
    read_some c.args.guest.now c.requires inv.done c.in-Some.part.now (parts_left c.next.new.self) read (rows_of c.args.self.now) (rows_settled c.args.self.now are) c.in-Some-get.number.now c.loop-part.end inv.long found

pub loop-part-preserved : goal.loop-part-preserved
loop-part-preserved c =
    let inv = c.loop-part.invariant in
    let read = inv.parted ∙ ap (λ ps. reverse inv.done ++ ps) c.in-Some.ensures.steps in
    let text = take (c.loop-part.end + (1 + length c.in-Some.part.now)) c.args.guest.now in
    let are : AreBounds c.args.self.now = subst AreBounds c.self.view_is c.self.invariant.0 in
    let none : located (rows_of c.args.self.now) (c.in-Some.part.now ∷ inv.done) ≡ None =
    sym (step_located c.args.guest.now c.requires inv.done c.in-Some.part.now (parts_left c.next.new.self) read c.args.self.now are c.loop-part.end inv.long)
    ∙ ap (position (is_at text)) (sym c.self.view_is) ∙ sym (c.self.invariant.1 text) ∙ sym c.in_default.ensures.value in
    read_none c.args.guest.now c.requires inv.done c.in-Some.part.now (parts_left c.next.new.self) read (rows_of c.args.self.now) (rows_settled c.args.self.now are) c.loop-part.owned.number c.loop-part.owned.end c.loop-part.end inv.long none inv.owned

pub returns : goal.returns
returns c =
    let inv = c.loop-part.invariant in
    let read : IsReadTo (rows_of c.args.self.now) (parts_of c.args.guest.now) [] c.loop-part.owned.number c.loop-part.owned.end c.loop-part.end =
    record { done = inv.done; parted = inv.parted ∙ ap (λ ps. reverse inv.done ++ ps) c.in-None.ensures.steps.0; long = inv.long; owned = inv.owned } in
    read_ended c.args.guest.now c.requires (rows_of c.args.self.now) c.loop-part.owned.number c.loop-part.owned.end c.loop-part.end read
