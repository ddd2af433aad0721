use Rattle.std.proofs.Common.{◌||◌, sym, ◌∙◌}
use Rattle.kr_turns.specs.Breaking.{rule_told}
use Rattle.kr_turns.proofs.JudgeLemmas.{judged-told, read-is}
use Rattle.kr_turns.proofs.judging.judge_ahead.Goals as goal

pub returns : goal.returns
returns g c = λ wanted number table request before is lives outcome left.
    let reads = c.was_read-read.ensures ∙ read-is number table c.args.pid request before c.args.state.now c.args.outcome c.args.ahead.now.read wanted outcome is.2 lives left in
    let changed = c.judge-changed.ensures number table _ request before is.1 outcome left in
    c.rule_of.ensures
    ∙ (λ i. rule_told g.row.M (reads i || c.args.no_shelf) (is.0 i) (changed i) c.args.reach.now)
    ∙ sym (judged-told g.row.M table c.args.pid request before c.args.no_shelf c.args.reach.now)
