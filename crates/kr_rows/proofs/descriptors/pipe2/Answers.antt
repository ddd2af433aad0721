use Rattle.std.proofs.Common.{◌≡◌, ℕ, Err, refl, sym, ap, ◌∙◌, [], ◌∷◌}
use Rattle.std.proofs.lemmas.Option.{same_Some}
use Rattle.kr_seen.specs.pr_base.declared.errno.Errno.TheVariants.{EFAULT, EMFILE}
use Rattle.kr_seen.specs.kr_calls.Arguments.{has}
use Rattle.kr_seen.specs.kr_model.Change.{MakePipe}
use Rattle.kr_seen.specs.kr_model.DescriptorRows.{o_cloexec}
use Rattle.kr_seen.specs.kr_model.Reply.{answers, done, refuse}
use Rattle.kr_seen.specs.kr_ops.Meaning.{meaning}
use Rattle.kr_seen.proofs.PerformLemmas.{by-refusal}
use Rattle.kr_rows.proofs.PipeLemmas.{none-made, one-made, pair-stays}
use Rattle.kr_seen.proofs.UsingLemmas.{begins, by-uses, goes-on, refused-after, unwritable, writes-allowed}
use Rattle.kr_rows.proofs.descriptors.pipe2.Goals as goal

pub returns-in_default-clause-performs : goal.returns-in_default-clause-performs
returns-in_default-clause-performs g c = λ some.
    by-refusal c.args.pid _ c.args.state.now c.args.state.now c.refused.result c.requires.caller.sound.pids EMFILE
    (none-made (meaning c.args.state.now) c.args.pid c.args.buf c.args.flags c.requires.caller.lives c.in_default.ensures.none)
    c.refused.ensures refl

pub returns-in-Err-BadAddress-clause-performs : goal.returns-in-Err-BadAddress-clause-performs
returns-in-Err-BadAddress-clause-performs g c = λ some.
    let old = c.args.state.now in
    let s = meaning old in
    let row = one-made s c.args.pid c.args.buf c.args.flags c.requires.caller.lives c.in-Some.numbers c.in-Some.ensures.some c.in-Some.ensures.takes in
    let made = done 0 (MakePipe row.0.0 row.0.1 (has c.args.flags o_cloexec) ∷ []) in
    refused-after c.args.pid _ old old c.write.new.state c.refused-in-Err-BadAddress.result EFAULT c.requires.caller.sound.pids
    (unwritable c.args.pid _ old old c.args.buf c.in-Some.numbers (refuse EFAULT) made
    (c.write.ensures.bad.0 (c.in-Err-BadAddress.is ∙ ap (λ x. Err x) c.in-Err-BadAddress.field-0-is))
    (begins c.args.pid _ old _ row.2))
    c.refused-in-Err-BadAddress.ensures c.in-Err-BadAddress.ensures.err.same

pub returns-in-Ok-make_pipe-clause-performs : goal.returns-in-Ok-make_pipe-clause-performs
returns-in-Ok-make_pipe-clause-performs g c = λ some.
    let old = c.args.state.now in
    let now = c.write.new.state in
    let s = meaning old in
    let fds = c.in-Ok-make_pipe.field-0 in
    let has_now = c.in-Ok.ensures.ok.leaves in
    let row = one-made s c.args.pid c.args.buf c.args.flags c.requires.caller.lives c.in-Some.numbers c.in-Some.ensures.some c.in-Some.ensures.takes in
    let made : ℕ × ℕ → _ = λ fds. done 0 (MakePipe fds.0 fds.1 (has c.args.flags o_cloexec) ∷ []) in
    let pair : row.0 ≡ (fds.0, fds.1) = same_Some row.0 (fds.0, fds.1) (sym row.1 ∙ sym (pair-stays s (meaning now) c.args.pid c.requires.caller.lives has_now.lives has_now.known) ∙ c.in-Ok-make_pipe.ensures.lowest) in
    by-uses c.args.pid _ old now c.make_pipe.new.self c.number.result (answers 0 (MakePipe fds.0 fds.1 c.has.result ∷ [])) has_now.sound.pids
    (goes-on c.args.pid _ old now (made row.0) _ (ap made pair ∙ ap (λ b. done 0 (MakePipe fds.0 fds.1 b ∷ [])) (sym (c.has.ensures ∙ ap (has c.args.flags) (c.bits.ensures tt))))
    (writes-allowed c.args.pid _ old old c.args.buf c.in-Some.numbers (refuse EFAULT) (made row.0) now c.requires.caller.lives c.in-Ok.ensures.ok
    (begins c.args.pid _ old _ row.2)))
    c.number.ensures c.in-Ok-make_pipe.ensures.makes
