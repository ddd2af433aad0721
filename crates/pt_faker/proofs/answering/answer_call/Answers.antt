use Rattle.std.proofs.Common.{◌∙◌, SFits, Some, refl, rules, sym, ap, w64}
use Rattle.std.specs.Prelude.{slice_index}
use Rattle.std.proofs.Math.Facts.{to_z-of_z}
use Rattle.pt_ident.specs.Answering.{identity_behind}
use Rattle.pt_ident.specs.Identity.{TellsGroups, TellsNumbers, effect, numbers_of}
use Rattle.pt_faker.proofs.AnswerLemmas.{groups-told, memory-answers, three-told, value-answers}
use Rattle.pt_faker.proofs.answering.answer_call.Goals as goal

pub returns-in-Some-Value-clause-answers : goal.returns-in-Some-Value-clause-answers
returns-in-Some-Value-clause-answers g c =
    let n = c.in-Some-Value.number in
    let fits : SFits w64 n = search rules in
    value-answers (g.T.Tracee.stopped c.args.t.now) c.pid-pid.ensures.lives c.args.ids.now c.answer.new.ids c.args.request.now n _ (sym (ap Some c.in-Some-Value.field-0-is) ∙ c.in-Some-Value.ensures.answer) c.in-Some-Value.ensures.identity (to_z-of_z {w = w64} {z = n} fits)

pub returns-in_ok-told-in-Some-Three-clause-answers : goal.returns-in_ok-told-in-Some-Three-clause-answers
returns-in_ok-told-in-Some-Three-clause-answers g c =
    let i = c.args.ids.now in
    let r = c.args.request.now in
    let n = c.in_ok-told-in-Some-Three.told in
    let numbers = c.in-Some-Three.numbers in
    let places = c.in-Some.places in
    let fits : SFits w64 n = search rules in
    memory-answers (g.T.Tracee.stopped c.args.t.now) (g.T.Tracee.stopped c.tell_numbers.new.t) i c.answer.new.ids (effect i r) (TellsNumbers (numbers_of numbers) (slice_index places 0) (slice_index places 1) (slice_index places 2)) n _
    (three-told i r numbers places (sym (ap Some c.in-Some-Three.field-0-is) ∙ c.in-Some-Three.ensures.answer) c.in-Some.ensures) c.in-Some-Three.ensures.identity (to_z-of_z {w = w64} {z = n} fits) refl (c.in_ok-told-in-Some-Three.ensures.tells i)

pub returns-in_ok-told-in-Some-Groups-clause-answers : goal.returns-in_ok-told-in-Some-Groups-clause-answers
returns-in_ok-told-in-Some-Groups-clause-answers g c =
    let i = c.args.ids.now in
    let r = c.args.request.now in
    let n = c.in_ok-told-in-Some-Groups.told in
    let list = c.in-Some-group_list.list in
    let fits : SFits w64 n = search rules in
    let is = groups-told i r list (sym (ap Some c.in-Some-Groups.field-0-is) ∙ c.in-Some-Groups.ensures.answer) c.in-Some-group_list.ensures in
    let same = c.in-Some-Groups.ensures.identity ∙ ap (identity_behind i) is in
    memory-answers (g.T.Tracee.stopped c.args.t.now) (g.T.Tracee.stopped c.tell_groups.new.t) i c.answer.new.ids (effect i r) (TellsGroups list.at) n _ is c.in-Some-Groups.ensures.identity (to_z-of_z {w = w64} {z = n} fits) refl
    (c.in_ok-told-in-Some-Groups.ensures.tells i (sym (ap (λ j. j.groups) same) ∙ sym c.groups.ensures.groups))
