use Rattle.std.proofs.Common.{◌≡◌, ◌≢◌, false, ap, sym, ◌∙◌, pos, rules}
use Rattle.kr_seen.specs.kr_model.declared.outcome.Outcome.TheVariants.{Answer}
use Rattle.kr_seen.specs.kr_ops.Meaning.{meaning}
use Rattle.kr_calm.specs.Calm.{smallest}
use Rattle.kr_calm.specs.Prospects.{answers_zero}
use Rattle.kr_calm.proofs.JudgedLemmas.{answers-another, done-judged, else-judged, ended-judged, goes-with-answer, stays-at-call}
use Rattle.kr_calm.proofs.breaking.judge.Goals as goal

pub returns-then-end_takes_used : goal.returns-then-end_takes_used
returns-then-end_takes_used g c = λ number table mounts request before told came left.
    sym (ap (λ b. smallest false b false) c.if-end_takes_used.true)
    ∙ ended-judged number (meaning c.args.state.now) table mounts c.args.pid request before left c.args.outcome came c.end_takes_used.result (c.end_takes_used.ensures.numbered number) c.in-Ended.is

pub returns-else-end_takes_used : goal.returns-else-end_takes_used
returns-else-end_takes_used g c = λ number table mounts request before told came left.
    sym (ap (λ b. smallest false b false) c.if-end_takes_used.false)
    ∙ ended-judged number (meaning c.args.state.now) table mounts c.args.pid request before left c.args.outcome came c.end_takes_used.result (c.end_takes_used.ensures.numbered number) c.in-Ended.is

pub returns-then-value-eq0 : goal.returns-then-value-eq0
returns-then-value-eq0 g c = λ number table mounts request before told came left.
    let zero : c.in-Answer.value ≡ pos 0 = search rules in
    c.judge_done.ensures
    ∙ done-judged number (meaning c.args.state.now) table mounts c.args.pid request before left c.args.outcome came c.args.foreseen.now told (ap answers_zero (c.in-Answer.is ∙ ap (λ value. Answer value) zero))

pub returns-else-value-eq0 : goal.returns-else-value-eq0
returns-else-value-eq0 g c = λ number table mounts request before told came left.
    let other : c.in-Answer.value ≢ pos 0 = search rules in
    else-judged number (meaning c.args.state.now) table mounts c.args.pid request before left c.args.outcome came
    (ap answers_zero c.in-Answer.is ∙ answers-another c.in-Answer.value other) (goes-with-answer c.args.outcome c.in-Answer.value c.in-Answer.is)

pub returns-in-Wait : goal.returns-in-Wait
returns-in-Wait g c = λ number table mounts request before told came left.
    let stays = stays-at-call c.args.outcome c.in-Wait.is in
    else-judged number (meaning c.args.state.now) table mounts c.args.pid request before left c.args.outcome came stays.0 stays.1
