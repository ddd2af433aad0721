use Rattle.std.proofs.Common.{Bool, ap, ◌∙◌}
use Rattle.std.specs.Prelude.{◌&&◌, not}
use Rattle.kr_loose.specs.Judging.{is_altered}
use Rattle.kr_loose.proofs.judge.Judge.judge.Goals as goal

pub returns-clause-undisturbed : goal.returns-clause-undisturbed
returns-clause-undisturbed c =
    c.unless-self.ensures
    ∙ ap (λ (b : Bool). c.args.self.now.undisturbed && not b) (c.is_altered-altered.ensures ∙ ap (is_altered c.args.pid c.args.exec c.args.counts) c.as_slice.ensures.value)
