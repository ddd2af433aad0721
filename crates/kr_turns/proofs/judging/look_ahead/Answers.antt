use Rattle.std.proofs.Common.{ap, sym, ◌∙◌, inl}
use Rattle.std.specs.Prelude.{Result}
use Rattle.kr_hostview.specs.pr_base.declared.errno.Errno.{Errno}
use Rattle.kr_calm.specs.Rules.{breaks_2}
use Rattle.kr_steps.specs.kr_model.Walks.{Targets}
use Rattle.kr_turns.proofs.JudgeLemmas.{noted-read}
use Rattle.kr_turns.proofs.judging.look_ahead.Goals as goal

pub returns-clause-ahead : goal.returns-clause-ahead
returns-clause-ahead g c =
    let number = g.P.Places.number in
    let table = g.P.Places.mounts c.args.places.now in
    let old = c.args.state.now in
    let are = c.requires.along in (
      c.crosses-crosses.ensures are.0 are.2 are.3 ∙ sym (ap (λ (t : Result Targets Errno). breaks_2 table old.tree c.args.request.now t) are.1),
      c.foresee-foreseen.ensures c.requires.along,
      λ ends. c.marks_read-read.ensures ∙ noted-read number table c.args.pid c.args.request.now old c.note_list.new.state c.note_list.ensures ends,
    )

pub returns-clause-noted : goal.returns-clause-noted
returns-clause-noted g c = inl c.note_list.ensures
