use Rattle.std.proofs.Common.{refl, ap, ◌∙◌}
use Rattle.std.specs.Option.{option_map_or}
use Rattle.kr_seen.specs.pr_base.declared.errno.Errno.TheVariants.{ENOENT}
use Rattle.kr_seen.specs.kr_model.AttributeRows.{tell_stat}
use Rattle.kr_seen.specs.kr_model.Reply.{refuse}
use Rattle.kr_seen.proofs.PerformLemmas.{by-refusal, by-row}
use Rattle.kr_attributes.proofs.stats.tell_object.Goals as goal

pub returns-in-Some-clause-performs : goal.returns-in-Some-clause-performs
returns-in-Some-clause-performs g c = λ some.
    by-row c.args.pid _ c.args.state.now c.tell.new.state c.tell.result c.requires.sound.pids (λ k. tell_stat c.args.buf c.in-Some.stat)
    (c.object_stat.ensures c.args.pid c.args.buf ∙ ap (λ o. option_map_or (tell_stat c.args.buf) o (refuse ENOENT)) c.in-Some.is) (c.tell.ensures.performs some)

pub returns-in-None-clause-performs : goal.returns-in-None-clause-performs
returns-in-None-clause-performs g c = λ some.
    by-refusal c.args.pid _ c.args.state.now c.args.state.now c.refused.result c.requires.sound.pids ENOENT
    (c.object_stat.ensures c.args.pid c.args.buf ∙ ap (λ o. option_map_or (tell_stat c.args.buf) o (refuse ENOENT)) c.in-None.is) c.refused.ensures refl
