use Rattle.std.proofs.Common.{◌≡◌, List, ℕ, ℤ, suc, zero, pos, negsuc, Some, None, refl, sym, ap, ◌∙◌, w32, []}
use Rattle.std.specs.Int.{to_le_bytes}
use Rattle.std.proofs.Math.Facts.{to_z-of_z}
use Rattle.std.proofs.lemmas.Option.{none-some, same_Some}
use Rattle.kr_seen.specs.pr_base.declared.errno.Errno.TheVariants.{EFAULT, EINVAL}
use Rattle.kr_seen.specs.rv_mem.Actions.{write_if_allowed}
use Rattle.kr_seen.specs.kr_model.Asking.{descriptor_number}
use Rattle.kr_seen.specs.kr_model.IdentityRows.{getgroups_row}
use Rattle.kr_seen.specs.kr_model.Known.{Known, known}
use Rattle.kr_seen.specs.kr_model.Reply.{Replying, answers, done, refuse}
use Rattle.kr_seen.specs.kr_model.State as model
use Rattle.kr_seen.specs.kr_ops.Meaning.{meaning}
use Rattle.kr_seen.proofs.PerformLemmas.{by-refusal, by-reply, by-row}
use Rattle.kr_rows.proofs.identity.getgroups.Goals as goal

module _ (k : Known) (list : ℕ) where
  negative : (z : ℤ) → descriptor_number z ≡ None → getgroups_row k z list ≡ refuse EINVAL
  negative (pos n) e = absurd (none-some n (sym e))
  negative (negsuc n) e = refl

  asks : (z : ℤ) → descriptor_number z ≡ Some 0 → getgroups_row k z list ≡ done 1 []
  asks (pos zero) e = refl
  asks (pos (suc n)) e = absurd (let none : suc n ≡ 0 = same_Some (suc n) 0 e in cc)
  asks (negsuc n) e = absurd (none-some 0 e)

  tells : (z : ℤ) (n : ℕ) → descriptor_number z ≡ Some n → (n ≡ 0 → ⊥) → getgroups_row k z list ≡ write_if_allowed list (to_le_bytes w32 k.user.gid) (refuse EFAULT) (done 1 [])
  tells (pos zero) n e other = absurd (other (sym (same_Some 0 n e)))
  tells (pos (suc m)) n e other = refl
  tells (negsuc m) n e other = absurd (none-some n e)

pub returns-in-None-clause-performs : goal.returns-in-None-clause-performs
returns-in-None-clause-performs g c = λ some.
    let k = known model.image_layout c.args.pid (meaning c.args.state.now) in
    by-refusal c.args.pid _ c.args.state.now c.args.state.now c.refused.result c.requires.sound.pids EINVAL
    (negative k c.args.list c.args.size (ap descriptor_number (sym (to_z-of_z {w = w32} {z = c.args.size} c.ranges.size)) ∙ sym c.in-None.ensures)) c.refused.ensures refl

pub returns-in-Some-eq0-clause-performs : goal.returns-in-Some-eq0-clause-performs
returns-in-Some-eq0-clause-performs g c = λ some.
    let k = known model.image_layout c.args.pid (meaning c.args.state.now) in
    by-reply c.args.pid _ c.args.state.now c.args.state.now c.number.result c.requires.sound.pids (answers 1 [])
    (asks k c.args.list c.args.size (ap descriptor_number (sym (to_z-of_z {w = w32} {z = c.args.size} c.ranges.size)) ∙ sym c.in-Some-eq0.ensures ∙ ap (λ n. Some n) c.in-Some-eq0.field-0-test)) c.number.ensures (λ mounts. refl)

pub returns-in-Some-clause-performs : goal.returns-in-Some-clause-performs
returns-in-Some-clause-performs g c = λ some.
    let k = known model.image_layout c.args.pid (meaning c.args.state.now) in
    let row : List ℕ → Replying = λ bytes. write_if_allowed c.args.list bytes (refuse EFAULT) (done 1 []) in
    by-row c.args.pid _ c.args.state.now c.tell.new.state c.tell.result c.requires.sound.pids (λ _. row c.to_le_bytes-group.result)
    (tells k c.args.list c.args.size c.in-Some.field-0 (ap descriptor_number (sym (to_z-of_z {w = w32} {z = c.args.size} c.ranges.size)) ∙ sym c.in-Some.ensures) c.in-Some.field-0-test.1
    ∙ ap row (sym c.to_le_bytes-group.ensures)) (c.tell.ensures.performs some)
