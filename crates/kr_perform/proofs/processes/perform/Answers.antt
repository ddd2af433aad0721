use Rattle.std.proofs.Common.{◌≡◌, lit<, inl, inr, subst, ◌∙◌, rules, w32, to_z, of_z}
use Rattle.kr_transfer.specs.kr_seen.PerformedRows.{Performs}
use Rattle.law_allowed.specs.kr_model.IdentityRows.{getgroups_row}
use Rattle.law_allowed.specs.kr_model.ProcessRows.{exit_row, wait4_row}
use Rattle.kr_rows.specs.kr_ops.Meaning.{meaning}
use Rattle.kr_perform.proofs.OperatingLemmas.{alone, breaks-within}
use Rattle.kr_perform.proofs.processes.perform.Goals.{in-Exit, in-Exit-2}
use Rattle.kr_perform.proofs.processes.perform.Goals as goal

pub brk-requires : goal.brk-requires
brk-requires g c =
    let view = c.requires.caller.view in
    (lit< tt, (record { sound = c.lawful_states_are_sound.ensures view.number view.table c.args.state.now view.lawful view.served; lives = c.requires.caller.lives }, breaks-within view.number view.table (meaning c.args.state.now) c.args.pid view.lawful))

pub returns-in-Brk-clause-performs : goal.returns-in-Brk-clause-performs
returns-in-Brk-clause-performs g c = alone c.in-Brk.is (λ _. c.brk.ensures.performs)

pub returns-in-Munmap-clause-performs : goal.returns-in-Munmap-clause-performs
returns-in-Munmap-clause-performs g c = alone c.in-Munmap.is (λ _. c.munmap.ensures.performs)

pub returns-in-Mmap-clause-performs : goal.returns-in-Mmap-clause-performs
returns-in-Mmap-clause-performs g c = alone c.in-Mmap.is (λ _. c.mmap.ensures.performs)

pub returns-in-Mprotect-clause-performs : goal.returns-in-Mprotect-clause-performs
returns-in-Mprotect-clause-performs g c = alone c.in-Mprotect.is (λ _. c.mprotect.ensures.performs)

pub returns-in-Clone-clause-performs : goal.returns-in-Clone-clause-performs
returns-in-Clone-clause-performs g c = alone c.in-Clone.is (λ _. c.clone.ensures.performs)

pub returns-in-Getppid-clause-performs : goal.returns-in-Getppid-clause-performs
returns-in-Getppid-clause-performs g c = alone c.in-Getppid.is (λ _. c.getppid.ensures)

pub returns-in-Umask-clause-performs : goal.returns-in-Umask-clause-performs
returns-in-Umask-clause-performs g c = alone c.in-Umask.is (λ _. c.umask.ensures.performs)

pub returns-in-Uname-clause-performs : goal.returns-in-Uname-clause-performs
returns-in-Uname-clause-performs g c = alone c.in-Uname.is (λ _. c.uname.ensures.performs)

pub returns-in-Setuid-clause-performs : goal.returns-in-Setuid-clause-performs
returns-in-Setuid-clause-performs g c = alone c.in-Setuid.is (λ _. c.setuid.ensures)

pub returns-in-Setgid-clause-performs : goal.returns-in-Setgid-clause-performs
returns-in-Setgid-clause-performs g c = alone c.in-Setgid.is (λ _. c.setgid.ensures)

pub returns-in-Setreuid-clause-performs : goal.returns-in-Setreuid-clause-performs
returns-in-Setreuid-clause-performs g c = alone c.in-Setreuid.is (λ _. c.setreuid.ensures)

pub returns-in-Setregid-clause-performs : goal.returns-in-Setregid-clause-performs
returns-in-Setregid-clause-performs g c = alone c.in-Setregid.is (λ _. c.setregid.ensures)

pub returns-in-Setresuid-clause-performs : goal.returns-in-Setresuid-clause-performs
returns-in-Setresuid-clause-performs g c = alone c.in-Setresuid.is (λ _. c.setresuid.ensures)

pub returns-in-Setresgid-clause-performs : goal.returns-in-Setresgid-clause-performs
returns-in-Setresgid-clause-performs g c = alone c.in-Setresgid.is (λ _. c.setresgid.ensures)

pub returns-in-Getresuid-clause-performs : goal.returns-in-Getresuid-clause-performs
returns-in-Getresuid-clause-performs g c = alone c.in-Getresuid.is (λ _. c.getresuid.ensures.performs)

pub returns-in-Getresgid-clause-performs : goal.returns-in-Getresgid-clause-performs
returns-in-Getresgid-clause-performs g c = alone c.in-Getresgid.is (λ _. c.getresgid.ensures.performs)

pub returns-in-Setgroups-clause-performs : goal.returns-in-Setgroups-clause-performs
returns-in-Setgroups-clause-performs g c = alone c.in-Setgroups.is (λ _. c.setgroups.ensures)

pub returns-in-RtSigaction-clause-performs : goal.returns-in-RtSigaction-clause-performs
returns-in-RtSigaction-clause-performs g c = elim c.in-RtSigaction.is [ inl e ↦ alone e (λ _. c.signals.ensures) | inr e ↦ alone e (λ _. c.signals.ensures) ]

pub returns-in-Getuid-clause-performs : goal.returns-in-Getuid-clause-performs
returns-in-Getuid-clause-performs g c = elim c.in-Getuid.is [ inl e ↦ alone e (λ _. c.getuid.ensures) | inr e ↦ alone e (λ _. c.getuid.ensures) ]

pub returns-in-Getgid-clause-performs : goal.returns-in-Getgid-clause-performs
returns-in-Getgid-clause-performs g c = elim c.in-Getgid.is [ inl e ↦ alone e (λ _. c.getgid.ensures) | inr e ↦ alone e (λ _. c.getgid.ensures) ]

pub returns-in-SetTidAddress-clause-performs : goal.returns-in-SetTidAddress-clause-performs
returns-in-SetTidAddress-clause-performs g c = elim c.in-SetTidAddress.is [ inl e ↦ alone e (λ _. c.getpid.ensures) | inr other ↦ elim other [ inl e ↦ alone e (λ _. c.getpid.ensures) | inr e ↦ alone e (λ _. c.getpid.ensures) ] ]

pub returns-in-Getgroups-clause-performs : goal.returns-in-Getgroups-clause-performs
returns-in-Getgroups-clause-performs g c =
    let same : to_z w32 (of_z w32 c.in-Getgroups.size) ≡ c.in-Getgroups.size = search rules in
    alone c.in-Getgroups.is (λ _. subst (λ z. Performs c.args.pid (λ k. getgroups_row k z c.in-Getgroups.list) c.args.state.now c.getgroups.new.state c.getgroups.result) same c.getgroups.ensures.performs)

pub returns-in-Wait4-clause-performs : goal.returns-in-Wait4-clause-performs
returns-in-Wait4-clause-performs g c =
    let child : to_z w32 (of_z w32 c.in-Wait4.child) ≡ c.in-Wait4.child = search rules in
    let options : to_z w32 (of_z w32 c.in-Wait4.options) ≡ c.in-Wait4.options = search rules in
    alone c.in-Wait4.is (λ _. subst (λ z. Performs c.args.pid (λ k. wait4_row k c.args.pid z c.in-Wait4.status c.in-Wait4.options c.in-Wait4.usage) c.args.state.now c.wait4.new.state c.wait4.result) child
    (subst (λ z. Performs c.args.pid (λ k. wait4_row k c.args.pid (to_z w32 (of_z w32 c.in-Wait4.child)) c.in-Wait4.status z c.in-Wait4.usage) c.args.state.now c.wait4.new.state c.wait4.result) options c.wait4.ensures.performs))

pub returns-in-Exit-clause-performs : goal.returns-in-Exit-clause-performs
returns-in-Exit-clause-performs g c = elim c.in-Exit-1.branch [
  | in-Exit w ↦
      let same : to_z w32 (of_z w32 w.in-Exit.code) ≡ w.in-Exit.code = search rules in
      let done = subst (λ z. Performs c.args.pid (λ k. exit_row z) c.args.state.now c.exit.new.state c.exit.result) (w.code-is ∙ same) c.exit.ensures.performs in
      elim w.in-Exit.is [ inl e ↦ alone e (λ _. done) | inr e ↦ alone e (λ _. done) ]
  | in-Exit-2 w ↦
      let same : to_z w32 (of_z w32 w.in-Exit.code) ≡ w.in-Exit.code = search rules in
      let done = subst (λ z. Performs c.args.pid (λ k. exit_row z) c.args.state.now c.exit.new.state c.exit.result) (w.code-is ∙ same) c.exit.ensures.performs in
      elim w.in-Exit.is [ inl e ↦ alone e (λ _. done) | inr e ↦ alone e (λ _. done) ]
]
