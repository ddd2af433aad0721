use Rattle.std.proofs.Common.{refl, sym, ap, ◌∙◌, [], ◌∷◌, w32, nat_lt, Option, Some, None, ℕ, ℤ, if◌then◌else◌}
use Rattle.std.specs.Option.{option_and_then}
use Rattle.std.proofs.Math.Facts.{to_z-of_z}
use Rattle.kr_seen.specs.pr_base.declared.errno.Errno.TheVariants.{EBADF}
use Rattle.kr_seen.specs.kr_calls.Arguments.{has}
use Rattle.kr_seen.specs.kr_model.Asking.{descriptor_number}
use Rattle.kr_seen.specs.kr_model.Change.{CopyDescriptor}
use Rattle.kr_seen.specs.kr_model.DescriptorRows.{copy_to, o_cloexec}
use Rattle.kr_seen.specs.kr_model.Known.{known}
use Rattle.kr_seen.specs.kr_model.Reply.{answers, done}
use Rattle.kr_seen.specs.kr_model.State as model
use Rattle.kr_seen.specs.kr_ops.Meaning.{meaning}
use Rattle.kr_seen.specs.PerformedRows.{open_number}
use Rattle.kr_rows.proofs.DescriptorLemmas.{a-number, is-open, no-number, not-open}
use Rattle.kr_seen.proofs.PerformLemmas.{by-refusal, by-reply}
use Rattle.kr_rows.proofs.descriptors.dup3.Goals as goal

-- the number that a descriptor can have
abbrev possible : ℤ → Option ℕ
possible z = option_and_then (λ n. if nat_lt n 1024 then Some n else None) (descriptor_number z)

pub returns-in_default-clause-performs : goal.returns-in_default-clause-performs
returns-in_default-clause-performs g c = λ some.
    let k = known model.image_layout c.args.pid (meaning c.args.state.now) in
    by-refusal c.args.pid _ c.args.state.now c.args.state.now c.refused.result c.requires.sound.pids EBADF
    (not-open k c.args.old _ (ap (open_number k) (sym (to_z-of_z {w = w32} {z = c.args.old} c.ranges.old)) ∙ sym c.in_default.ensures)) c.refused.ensures refl

pub returns-in_default-possible_number-clause-performs : goal.returns-in_default-possible_number-clause-performs
returns-in_default-possible_number-clause-performs g c = λ some.
    let k = known model.image_layout c.args.pid (meaning c.args.state.now) in
    by-refusal c.args.pid _ c.args.state.now c.args.state.now c.refused-in_default-possible_number.result c.requires.sound.pids EBADF
    ((is-open k c.args.old (λ n o. copy_to n (has c.args.flags o_cloexec) (descriptor_number c.args.new)) c.in-Some.old (ap (open_number k) (sym (to_z-of_z {w = w32} {z = c.args.old} c.ranges.old)) ∙ sym c.in-Some.ensures)).2
    ∙ no-number c.in-Some.old (has c.args.flags o_cloexec) (descriptor_number c.args.new) (ap possible (sym (to_z-of_z {w = w32} {z = c.args.new} c.ranges.new)) ∙ sym c.in_default-possible_number.ensures))
    c.refused-in_default-possible_number.ensures refl

pub returns-in-Ok-clause-performs : goal.returns-in-Ok-clause-performs
returns-in-Ok-clause-performs g c = λ some.
    let k = known model.image_layout c.args.pid (meaning c.args.state.now) in
    let fd = c.in-Some.old in
    let to = c.in-Some-possible_number.new in
    by-reply c.args.pid _ c.args.state.now c.copy_onto.new.self _ c.requires.sound.pids (answers to (CopyDescriptor fd to c.has.result ∷ []))
    ((is-open k c.args.old (λ n o. copy_to n (has c.args.flags o_cloexec) (descriptor_number c.args.new)) fd (ap (open_number k) (sym (to_z-of_z {w = w32} {z = c.args.old} c.ranges.old)) ∙ sym c.in-Some.ensures)).2
    ∙ a-number fd (has c.args.flags o_cloexec) to (descriptor_number c.args.new) (ap possible (sym (to_z-of_z {w = w32} {z = c.args.new} c.ranges.new)) ∙ sym c.in-Some-possible_number.ensures)
    ∙ ap (λ b. done to (CopyDescriptor fd to b ∷ [])) (sym (c.has.ensures ∙ ap (has c.args.flags) (c.bits.ensures tt))))
    c.number.ensures c.in-Ok.ensures.makes
