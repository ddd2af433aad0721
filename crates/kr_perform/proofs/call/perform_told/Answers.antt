use Rattle.std.proofs.Common.{◌≡◌, ℤ, sym, subst, rules, w32, to_z, of_z}
use Rattle.law_allowed.specs.kr_calls.declared.request.Request.{Request}
use Rattle.law_allowed.specs.kr_model.FileRows.{write_row, writev_row}
use Rattle.law_allowed.specs.kr_model.Operation.{operation}
use Rattle.law_allowed.specs.kr_model.Walks.{told}
use Rattle.law_steady.specs.Ahead.{IsWrite}
use Rattle.kr_rows.specs.kr_ops.Meaning.{meaning}
use Rattle.kr_transfer.specs.Writing.{IsWritten}
use Rattle.kr_transfer.specs.kr_seen.Numbered.{state_numbered}
use Rattle.kr_perform.specs.Operating.{mounts_at, placed_targets}
use Rattle.kr_perform.proofs.AlteringLemmas.{write-told}
use Rattle.kr_perform.proofs.call.perform_told.Goals as goal

pub returns-in-Write-clause-performs : goal.returns-in-Write-clause-performs
returns-in-Write-clause-performs g c = λ wanted.
    let number = g.P.Places.number in
    let table = g.P.Places.mounts c.args.places.now in
    let s = c.args.state.now in
    let at = placed_targets number c.args.targets.now.first c.args.targets.now.second in
    let fd-same : to_z w32 (of_z w32 c.in-Write.fd) ≡ c.in-Write.fd = search rules in
    let row = subst (λ (z : ℤ). IsWritten c.args.pid (λ k. write_row k z c.in-Write.buf c.in-Write.n) s c.write-written.new.state c.write-written.result) fd-same (c.write-written.ensures.writes wanted) in
    let done =
    subst (λ (r : Request). IsWritten c.args.pid (λ k. operation c.args.pid r (told table c.args.pid (state_numbered number (meaning s)) r at) k) s c.write-written.new.state c.write-written.result) (sym c.in-Write.is) row
    in
    record { outcome = done.performed.outcome; state = done.performed.state (mounts_at c.args.targets.now.first) }

pub returns-in-Write-clause-told : goal.returns-in-Write-clause-told
returns-in-Write-clause-told g c = λ wanted.
    let number = g.P.Places.number in
    let table = g.P.Places.mounts c.args.places.now in
    let s = c.args.state.now in
    let at = placed_targets number c.args.targets.now.first c.args.targets.now.second in
    let fd-same : to_z w32 (of_z w32 c.in-Write.fd) ≡ c.in-Write.fd = search rules in
    let row = subst (λ (z : ℤ). IsWritten c.args.pid (λ k. write_row k z c.in-Write.buf c.in-Write.n) s c.write-written.new.state c.write-written.result) fd-same (c.write-written.ensures.writes wanted) in
    let done =
    subst (λ (r : Request). IsWritten c.args.pid (λ k. operation c.args.pid r (told table c.args.pid (state_numbered number (meaning s)) r at) k) s c.write-written.new.state c.write-written.result) (sym c.in-Write.is) row
    in
    write-told number table c.args.pid c.args.request.now c.args.targets.now.first c.args.targets.now.second s (subst IsWrite (sym c.in-Write.is) tt) c.write-written.new.state c.write-written.result done

pub returns-in-Writev-clause-performs : goal.returns-in-Writev-clause-performs
returns-in-Writev-clause-performs g c = λ wanted.
    let number = g.P.Places.number in
    let table = g.P.Places.mounts c.args.places.now in
    let s = c.args.state.now in
    let at = placed_targets number c.args.targets.now.first c.args.targets.now.second in
    let fd-same : to_z w32 (of_z w32 c.in-Writev.fd) ≡ c.in-Writev.fd = search rules in
    let row = subst (λ (z : ℤ). IsWritten c.args.pid (λ k. writev_row k z c.in-Writev.list c.in-Writev.count) s c.writev-written.new.state c.writev-written.result) fd-same (c.writev-written.ensures.writes wanted) in
    let done =
    subst (λ (r : Request). IsWritten c.args.pid (λ k. operation c.args.pid r (told table c.args.pid (state_numbered number (meaning s)) r at) k) s c.writev-written.new.state c.writev-written.result) (sym c.in-Writev.is) row
    in
    record { outcome = done.performed.outcome; state = done.performed.state (mounts_at c.args.targets.now.first) }

pub returns-in-Writev-clause-told : goal.returns-in-Writev-clause-told
returns-in-Writev-clause-told g c = λ wanted.
    let number = g.P.Places.number in
    let table = g.P.Places.mounts c.args.places.now in
    let s = c.args.state.now in
    let at = placed_targets number c.args.targets.now.first c.args.targets.now.second in
    let fd-same : to_z w32 (of_z w32 c.in-Writev.fd) ≡ c.in-Writev.fd = search rules in
    let row = subst (λ (z : ℤ). IsWritten c.args.pid (λ k. writev_row k z c.in-Writev.list c.in-Writev.count) s c.writev-written.new.state c.writev-written.result) fd-same (c.writev-written.ensures.writes wanted) in
    let done =
    subst (λ (r : Request). IsWritten c.args.pid (λ k. operation c.args.pid r (told table c.args.pid (state_numbered number (meaning s)) r at) k) s c.writev-written.new.state c.writev-written.result) (sym c.in-Writev.is) row
    in
    write-told number table c.args.pid c.args.request.now c.args.targets.now.first c.args.targets.now.second s (subst IsWrite (sym c.in-Writev.is) tt) c.writev-written.new.state c.writev-written.result done
