use Rattle.std.proofs.Common.{refl, sym, ap, ◌∙◌, [], ◌∷◌, Err}
use Rattle.kr_seen.specs.pr_base.declared.errno.Errno.TheVariants.{EINVAL, EMFILE}
use Rattle.kr_seen.proofs.law_lawful.AfterLemmas.{some-of}
use Rattle.kr_seen.specs.kr_model.Change.{CopyDescriptor}
use Rattle.kr_seen.specs.kr_model.DescriptorRows.{copy_under}
use Rattle.kr_seen.specs.kr_model.Known.{known}
use Rattle.kr_seen.specs.kr_model.Reply.{answers}
use Rattle.kr_seen.specs.kr_model.State as model
use Rattle.kr_seen.specs.kr_ops.Meaning.{meaning}
use Rattle.kr_rows.proofs.DescriptorLemmas.{lowest-known}
use Rattle.kr_rows.proofs.FcntlLemmas.{not-too-high, too-high}
use Rattle.kr_seen.proofs.PerformLemmas.{by-refusal, by-reply}
use Rattle.kr_rows.proofs.fcntl.copy_from.Goals as goal

pub returns-then-from-gt-LAST_DESCRIPTOR-clause-performs : goal.returns-then-from-gt-LAST_DESCRIPTOR-clause-performs
returns-then-from-gt-LAST_DESCRIPTOR-clause-performs g c = λ some.
    by-refusal c.args.pid _ c.args.state.now c.args.state.now c.refused.result c.requires.sound.pids EINVAL
    (too-high (known model.image_layout c.args.pid (meaning c.args.state.now)) c.args.fd c.args.from c.args.cloexec c.if-from-gt-LAST_DESCRIPTOR.true) c.refused.ensures refl

pub returns-in-Ok-clause-performs : goal.returns-in-Ok-clause-performs
returns-in-Ok-clause-performs g c = λ some.
    let s = meaning c.args.state.now in
    let k = known model.image_layout c.args.pid s in
    let there = some-of (k.opened c.args.fd) c.requires.is_open in
    by-reply c.args.pid _ c.args.state.now c.copy.new.self _ c.requires.sound.pids (answers c.in-Ok.to (CopyDescriptor c.args.fd c.in-Ok.to c.args.cloexec ∷ []))
    (not-too-high k c.args.fd c.args.from c.args.cloexec c.if-from-gt-LAST_DESCRIPTOR.false
    ∙ ap (copy_under c.args.fd c.args.cloexec) (sym (lowest-known s c.args.pid c.args.fd c.args.from there.0 there.1) ∙ c.in-Ok.ensures.lowest)) c.number.ensures c.in-Ok.ensures.makes

pub returns-in-Err-Full-clause-performs : goal.returns-in-Err-Full-clause-performs
returns-in-Err-Full-clause-performs g c = λ some.
    let s = meaning c.args.state.now in
    let k = known model.image_layout c.args.pid s in
    let there = some-of (k.opened c.args.fd) c.requires.is_open in
    by-refusal c.args.pid _ c.args.state.now c.copy.new.self c.refused-in-Err-Full.result c.requires.sound.pids EMFILE
    (not-too-high k c.args.fd c.args.from c.args.cloexec c.if-from-gt-LAST_DESCRIPTOR.false
    ∙ ap (copy_under c.args.fd c.args.cloexec) (sym (lowest-known s c.args.pid c.args.fd c.args.from there.0 there.1) ∙ c.copy.ensures.full.0 (c.in-Err-Full.is ∙ ap (λ x. Err x) c.in-Err-Full.field-0-is)))
    c.refused-in-Err-Full.ensures c.in-Err-Full.ensures.err.same
