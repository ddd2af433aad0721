use Rattle.std.proofs.Common.{◌&&◌, Bool, cond, lit<, refl, sym, ap, ◌∙◌, [], ◌∷◌, replicate, if◌then◌else◌}
use Rattle.kr_seen.specs.pr_base.declared.errno.Errno.TheVariants.{EFAULT}
use Rattle.kr_seen.specs.kr_model.Change.{Reap}
use Rattle.kr_seen.specs.kr_model.ProcessRows.{null_or_writable, reap, tell_end, unless_null, usage_size}
use Rattle.kr_seen.specs.kr_model.Reply.{Replying, answers, done, refuse}
use Rattle.kr_seen.specs.kr_ops.Meaning.{ended_meaning}
use Rattle.kr_seen.proofs.UsingLemmas.{begins, by-uses, goes-on, refused-after}
use Rattle.kr_rows.proofs.ending.reap.Goals as goal

pub returns-then-not-both-clause-performs : goal.returns-then-not-both-clause-performs
returns-then-not-both-clause-performs g c = λ some.
    let old = c.args.state.now in
    let e = ended_meaning c.args.ended in
    let ends : Bool → Bool → Replying = λ first second. if first && second then tell_end c.args.status c.args.usage e else refuse EFAULT in
    let one = (c.null_or_writable-first.ensures (λ first. null_or_writable c.args.usage usage_size (ends first))).comes (reap c.args.status c.args.usage e) old (begins c.args.pid _ old _ refl) in
    let two = (c.null_or_writable-second.ensures (ends c.null_or_writable-first.result)).comes _ old one in
    refused-after c.args.pid _ old old old c.refused.result EFAULT c.requires.sound.pids
    (goes-on c.args.pid _ old old _ (refuse EFAULT) (ap (λ b. cond b (tell_end c.args.status c.args.usage e) (refuse EFAULT)) (sym c.both.ensures ∙ c.if-not-both.true)) two)
    c.refused.ensures refl

pub write_unless_null-requires-2 : goal.write_unless_null-requires-2
write_unless_null-requires-2 g c = let on = c.in-Ok.ensures (done 0 []) in (lit< tt, record { sound = on.sound; lives = on.lives })

pub reap-requires : goal.reap-requires
reap-requires g c = (lit< tt, (c.in-Ok-write_unless_null.ensures (done 0 [])).sound.served)

pub returns-in-Ok-write_unless_null-clause-performs : goal.returns-in-Ok-write_unless_null-clause-performs
returns-in-Ok-write_unless_null-clause-performs g c = λ some.
    let old = c.args.state.now in
    let e = ended_meaning c.args.ended in
    let ends : Bool → Bool → Replying = λ first second. if first && second then tell_end c.args.status c.args.usage e else refuse EFAULT in
    let one = (c.null_or_writable-first.ensures (λ first. null_or_writable c.args.usage usage_size (ends first))).comes (reap c.args.status c.args.usage e) old (begins c.args.pid _ old _ refl) in
    let two = (c.null_or_writable-second.ensures (ends c.null_or_writable-first.result)).comes _ old one in
    let told = c.to_le_bytes.result in
    let last = done e.pid (Reap e.pid ∷ []) in
    let rest = unless_null c.args.usage (replicate usage_size 0) last in
    let three = goes-on c.args.pid _ old old _ (unless_null c.args.status told rest)
    (ap (λ b. cond b (tell_end c.args.status c.args.usage e) (refuse EFAULT)) (sym c.both.ensures ∙ c.if-not-both.false) ∙ ap (λ bytes. unless_null c.args.status bytes rest) (sym c.to_le_bytes.ensures)) two in
    let four = (c.in-Ok.ensures rest).comes _ old three in
    let five = (c.in-Ok-write_unless_null.ensures last).comes _ old four in
    by-uses c.args.pid _ old c.write_unless_null-2.new.state c.reap.new.self c.number.result (answers e.pid (Reap e.pid ∷ [])) (c.in-Ok-write_unless_null.ensures last).sound.pids five c.number.ensures (c.reap.ensures.makes c.args.pid)
