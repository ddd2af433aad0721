use Rattle.std.proofs.Common.{◌∙◌, ◌+◌, ◌%◌, ◌^◌, ap}
use Rattle.pt_faker.specs.Carrying.{on_its_memory}
use Rattle.pt_faker.specs.Faking.{put_values}
use Rattle.pt_faker.proofs.AuxiliaryLemmas.{shown-all, shown-arguments, shown-none}
use Rattle.pt_faker.proofs.StopLemmas.{on_ok, only-then}
use Rattle.pt_faker.proofs.auxiliary.show_identity.Goals as goal

pub returns-in_default-clause-shows : goal.returns-in_default-clause-shows
returns-in_default-clause-shows g c = shown-none c.args.ids.now c.args.stack (g.T.Tracee.stopped c.args.t.now) (g.T.Tracee.stopped c.behind_list.new.t) c.in_default.ensures.behind

pub returns-in_default-behind_list-clause-shows : goal.returns-in_default-behind_list-clause-shows
returns-in_default-behind_list-clause-shows g c =
    shown-arguments c.args.ids.now c.args.stack (g.T.Tracee.stopped c.args.t.now) (g.T.Tracee.stopped c.behind_list.new.t) (g.T.Tracee.stopped c.behind_list-2.new.t) c.in-Some.environment c.in-Some.ensures.behind c.in_default-behind_list.ensures.behind

pub returns-in_default-behind_list-clause-edits : goal.returns-in_default-behind_list-clause-edits
returns-in_default-behind_list-clause-edits g c = only-then c.in-Some.ensures.edits c.in_default-behind_list.ensures.edits

pub returns-clause-shows : goal.returns-clause-shows
returns-clause-shows g c =
    let v = g.T.Tracee.stopped c.behind_list-2.new.t in
    on_ok c.put_values.result
    (λ put. shown-all c.args.ids.now c.args.stack (g.T.Tracee.stopped c.args.t.now) (g.T.Tracee.stopped c.behind_list.new.t) v (g.T.Tracee.stopped c.put_values.new.t) c.in-Some.environment c.in-Some-behind_list.pairs c.in-Some.ensures.behind c.in-Some-behind_list.ensures.behind
    (put ∙ ap (λ values. on_its_memory (put_values ((c.in-Some-behind_list.pairs + 88) % 2 ^ 64) values) v) c.fix_aux.ensures))
    c.put_values.ensures.puts

pub returns-clause-edits : goal.returns-clause-edits
returns-clause-edits g c =
    only-then (only-then c.in-Some.ensures.edits c.in-Some-behind_list.ensures.edits) c.put_values.ensures.edits
