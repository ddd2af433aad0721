use Rattle.std.proofs.Common.{refl, sym, ap, ◌∙◌, [], ◌∷◌, ◌%◌, ◌==◌, true, false, pos}
use Rattle.std.specs.Option.{option_map}
use Rattle.kr_seen.specs.kr_calls.Arguments.{has}
use Rattle.kr_seen.specs.kr_files.WithoutMounts.{without_mount}
use Rattle.kr_seen.proofs.law_lawful.AfterLemmas.{some-of}
use Rattle.kr_seen.specs.kr_model.Change.{SetAppend, SetCloexec}
use Rattle.kr_seen.specs.kr_model.DescriptorRows.{cloexec_flag, copy_from, status_flags}
use Rattle.kr_seen.specs.kr_model.Known.{known}
use Rattle.kr_seen.specs.kr_model.Reply.{answers, done}
use Rattle.kr_seen.specs.kr_model.State as model
use Rattle.kr_seen.specs.kr_model.declared.outcome.Outcome.TheVariants.{Answer}
use Rattle.kr_seen.specs.kr_ops.Meaning.{meaning}
use Rattle.kr_rows.specs.declared.fcntl.Command.TheVariants.{DupFd, DupFdCloexec, GetFd, SetFd, GetFl, SetFl}
use Rattle.kr_rows.proofs.FcntlLemmas.{obeyed}
use Rattle.kr_seen.proofs.PerformLemmas.{by-reply, by-row}
use Rattle.kr_rows.proofs.fcntl.obey.Goals as goal

pub returns-in-DupFd-clause-performs : goal.returns-in-DupFd-clause-performs
returns-in-DupFd-clause-performs g c = λ some.
    let k = known model.image_layout c.args.pid (meaning c.args.state.now) in
    let there = some-of (k.opened c.args.fd) c.requires.is_open in
    by-row c.args.pid _ c.args.state.now _ _ c.requires.sound.pids (λ k. copy_from k c.args.fd c.args.arg false)
    (obeyed k c.args.fd c.args.arg there.0 c.args.command DupFd there.1 c.in-DupFd.is) (c.copy_from.ensures.performs some)

pub returns-in-DupFdCloexec-clause-performs : goal.returns-in-DupFdCloexec-clause-performs
returns-in-DupFdCloexec-clause-performs g c = λ some.
    let k = known model.image_layout c.args.pid (meaning c.args.state.now) in
    let there = some-of (k.opened c.args.fd) c.requires.is_open in
    by-row c.args.pid _ c.args.state.now _ _ c.requires.sound.pids (λ k. copy_from k c.args.fd c.args.arg true)
    (obeyed k c.args.fd c.args.arg there.0 c.args.command DupFdCloexec there.1 c.in-DupFdCloexec.is) (c.copy_from-in-DupFdCloexec.ensures.performs some)

pub returns-in-GetFd-clause-performs : goal.returns-in-GetFd-clause-performs
returns-in-GetFd-clause-performs g c = λ some.
    let k = known model.image_layout c.args.pid (meaning c.args.state.now) in
    let there = some-of (k.opened c.args.fd) c.requires.is_open in
    by-reply c.args.pid _ c.args.state.now c.args.state.now _ c.requires.sound.pids (answers (cloexec_flag k c.args.fd) [])
    (obeyed k c.args.fd c.args.arg there.0 c.args.command GetFd there.1 c.in-GetFd.is) (c.number.ensures ∙ ap (λ n. Answer (pos n)) c.cloexec_flag.ensures) (λ mounts. refl)

pub returns-in-SetFd-clause-performs : goal.returns-in-SetFd-clause-performs
returns-in-SetFd-clause-performs g c = λ some.
    let k = known model.image_layout c.args.pid (meaning c.args.state.now) in
    let there = some-of (k.opened c.args.fd) c.requires.is_open in
    by-reply c.args.pid _ c.args.state.now c.set_cloexec.new.self _ c.requires.sound.pids (answers 0 (SetCloexec c.args.fd (c.args.arg % 2 == 1) ∷ []))
    (obeyed k c.args.fd c.args.arg there.0 c.args.command SetFd there.1 c.in-SetFd.is) c.number-in-SetFd.ensures c.set_cloexec.ensures.makes

pub returns-in-Some-clause-performs : goal.returns-in-Some-clause-performs
returns-in-Some-clause-performs g c = λ some.
    let k = known model.image_layout c.args.pid (meaning c.args.state.now) in
    let o = without_mount c.in-Some.opened.now in
    by-reply c.args.pid _ c.args.state.now c.args.state.now _ c.requires.sound.pids (answers (status_flags o) [])
    (obeyed k c.args.fd c.args.arg o c.args.command GetFl (ap (option_map without_mount) (sym c.in-Some.ensures)) c.in-GetFl.is) (c.number-in-Some.ensures ∙ ap (λ n. Answer (pos n)) c.status_flags.ensures) (λ mounts. refl)

pub returns-in-SetFl-clause-performs : goal.returns-in-SetFl-clause-performs
returns-in-SetFl-clause-performs g c = λ some.
    let k = known model.image_layout c.args.pid (meaning c.args.state.now) in
    let there = some-of (k.opened c.args.fd) c.requires.is_open in
    by-reply c.args.pid _ c.args.state.now c.set_append.new.self _ c.requires.sound.pids (answers 0 (SetAppend c.args.fd (has c.args.arg c.from-append.result) ∷ []))
    (obeyed k c.args.fd c.args.arg there.0 c.args.command SetFl there.1 c.in-SetFl.is
    ∙ ap (λ n. done 0 (SetAppend c.args.fd (has c.args.arg n) ∷ [])) (sym (c.from-append.ensures ∙ c.bits.ensures tt)))
    c.number-in-SetFl.ensures c.set_append.ensures.makes
