use Rattle.std.proofs.Common.{refl, sym, ◌∙◌, true, false, []}
use Rattle.kr_seen.specs.pr_base.declared.errno.Errno.TheVariants.{EBUSY, ENOTDIR, EINVAL, ENOTEMPTY}
use Rattle.kr_seen.specs.kr_model.Known.{known}
use Rattle.kr_seen.specs.kr_model.Reply.{answers}
use Rattle.kr_seen.specs.kr_model.State.{image_layout}
use Rattle.kr_seen.specs.kr_ops.Meaning.{meaning}
use Rattle.kr_seen.specs.Told.{entered_told}
use Rattle.kr_seen.proofs.CarryLemmas.{by-refusal, by-reply}
use Rattle.kr_names.proofs.MoveLemmas.{found-by}
use Rattle.kr_names.proofs.RowLemmas.{by-row}
use Rattle.kr_seen.specs.kr_model.NameRows.{move_entry}
use Rattle.kr_names.proofs.moving.move_found.Goals as goal

pub returns-then-is_processes_host-clause-performs : goal.returns-then-is_processes_host-clause-performs
returns-then-is_processes_host-clause-performs g c = λ mounts some.
    let k = known image_layout c.args.pid (meaning c.args.state.now) in
    by-refusal mounts c.args.pid _ c.args.state.now _ c.refused.result c.requires.sound.pids EBUSY
    (found-by k (entered_told c.args.old) (entered_told c.args.new) c.args.found true _ _ _ _ _
    (sym (c.is_processes_host.ensures c.args.pid) ∙ c.if-is_processes_host.true) refl refl refl refl refl) c.refused.ensures refl

pub returns-then-is_processes_found-clause-performs : goal.returns-then-is_processes_found-clause-performs
returns-then-is_processes_found-clause-performs g c = λ mounts some.
    let k = known image_layout c.args.pid (meaning c.args.state.now) in
    by-refusal mounts c.args.pid _ c.args.state.now _ c.refused-then-is_processes_found.result c.requires.sound.pids EBUSY
    (found-by k (entered_told c.args.old) (entered_told c.args.new) c.args.found false true _ _ _ _
    (sym (c.is_processes_host.ensures c.args.pid) ∙ c.if-is_processes_host.false) (sym (c.is_processes_found.ensures c.args.pid) ∙ c.if-is_processes_found.true) refl refl refl refl) c.refused-then-is_processes_found.ensures refl

pub returns-then-has_lost_slash-clause-performs : goal.returns-then-has_lost_slash-clause-performs
returns-then-has_lost_slash-clause-performs g c = λ mounts some.
    let k = known image_layout c.args.pid (meaning c.args.state.now) in
    by-refusal mounts c.args.pid _ c.args.state.now _ c.refused-then-has_lost_slash.result c.requires.sound.pids ENOTDIR
    (found-by k (entered_told c.args.old) (entered_told c.args.new) c.args.found false false true _ _ _
    (sym (c.is_processes_host.ensures c.args.pid) ∙ c.if-is_processes_host.false) (sym (c.is_processes_found.ensures c.args.pid) ∙ c.if-is_processes_found.false) (sym (c.has_lost_slash.ensures c.args.pid) ∙ c.if-has_lost_slash.true) refl refl refl) c.refused-then-has_lost_slash.ensures refl

pub returns-then-is_at_or_above-clause-performs : goal.returns-then-is_at_or_above-clause-performs
returns-then-is_at_or_above-clause-performs g c = λ mounts some.
    let k = known image_layout c.args.pid (meaning c.args.state.now) in
    by-refusal mounts c.args.pid _ c.args.state.now _ c.refused-then-is_at_or_above.result c.requires.sound.pids EINVAL
    (found-by k (entered_told c.args.old) (entered_told c.args.new) c.args.found false false false true _ _
    (sym (c.is_processes_host.ensures c.args.pid) ∙ c.if-is_processes_host.false) (sym (c.is_processes_found.ensures c.args.pid) ∙ c.if-is_processes_found.false) (sym (c.has_lost_slash.ensures c.args.pid) ∙ c.if-has_lost_slash.false) (sym (c.is_at_or_above.ensures c.args.pid) ∙ c.if-is_at_or_above.true) refl refl) c.refused-then-is_at_or_above.ensures refl

pub returns-then-is_above_old-clause-performs : goal.returns-then-is_above_old-clause-performs
returns-then-is_above_old-clause-performs g c = λ mounts some.
    let k = known image_layout c.args.pid (meaning c.args.state.now) in
    by-refusal mounts c.args.pid _ c.args.state.now _ c.refused-then-is_above_old.result c.requires.sound.pids ENOTEMPTY
    (found-by k (entered_told c.args.old) (entered_told c.args.new) c.args.found false false false false true _
    (sym (c.is_processes_host.ensures c.args.pid) ∙ c.if-is_processes_host.false) (sym (c.is_processes_found.ensures c.args.pid) ∙ c.if-is_processes_found.false) (sym (c.has_lost_slash.ensures c.args.pid) ∙ c.if-has_lost_slash.false) (sym (c.is_at_or_above.ensures c.args.pid) ∙ c.if-is_at_or_above.false) (sym (c.is_above_old.ensures c.args.pid) ∙ c.if-is_above_old.true) refl) c.refused-then-is_above_old.ensures refl

pub returns-then-is_one-clause-performs : goal.returns-then-is_one-clause-performs
returns-then-is_one-clause-performs g c = λ mounts some.
    let k = known image_layout c.args.pid (meaning c.args.state.now) in
    by-reply mounts c.args.pid _ c.args.state.now _ c.number.result c.requires.sound.pids (answers 0 [])
    (found-by k (entered_told c.args.old) (entered_told c.args.new) c.args.found false false false false false true
    (sym (c.is_processes_host.ensures c.args.pid) ∙ c.if-is_processes_host.false) (sym (c.is_processes_found.ensures c.args.pid) ∙ c.if-is_processes_found.false) (sym (c.has_lost_slash.ensures c.args.pid) ∙ c.if-has_lost_slash.false) (sym (c.is_at_or_above.ensures c.args.pid) ∙ c.if-is_at_or_above.false) (sym (c.is_above_old.ensures c.args.pid) ∙ c.if-is_above_old.false) (sym c.is_one.ensures ∙ c.if-is_one.true)) c.number.ensures refl

pub returns-clause-performs : goal.returns-clause-performs
returns-clause-performs g c = λ mounts some.
    let k = known image_layout c.args.pid (meaning c.args.state.now) in
    by-row mounts c.args.pid _ (λ k. move_entry k (entered_told c.args.old) (entered_told c.args.new) c.args.found) c.args.state.now c.move_entry.new.state c.move_entry.result
    (found-by k (entered_told c.args.old) (entered_told c.args.new) c.args.found false false false false false false
    (sym (c.is_processes_host.ensures c.args.pid) ∙ c.if-is_processes_host.false) (sym (c.is_processes_found.ensures c.args.pid) ∙ c.if-is_processes_found.false) (sym (c.has_lost_slash.ensures c.args.pid) ∙ c.if-has_lost_slash.false) (sym (c.is_at_or_above.ensures c.args.pid) ∙ c.if-is_at_or_above.false) (sym (c.is_above_old.ensures c.args.pid) ∙ c.if-is_above_old.false) (sym c.is_one.ensures ∙ c.if-is_one.false)) (c.move_entry.ensures.performs mounts some)
