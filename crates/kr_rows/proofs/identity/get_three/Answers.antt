use Rattle.std.proofs.Common.{◌≡◌, ◌&&◌, Bool, false, true, cond, refl, sym, ap, ◌∙◌, w32, [], ◌∷◌, if◌then◌else◌}
use Rattle.std.specs.Int.{to_le_bytes}
use Rattle.kr_seen.specs.pr_base.declared.errno.Errno.TheVariants.{EFAULT}
use Rattle.kr_seen.specs.rv_mem.Actions.{MayUse, WriteBytes}
use Rattle.kr_seen.specs.rv_mem.declared.rights.Use.TheVariants.{Write}
use Rattle.kr_seen.specs.kr_model.IdentityRows.{get_three_row}
use Rattle.kr_seen.specs.kr_model.Reply.{Replying, answers, done, refuse}
use Rattle.kr_seen.proofs.UsingLemmas.{begins, by-uses, goes-on, refused-after, tested, was-written}
use Rattle.kr_rows.proofs.identity.get_three.Goals as goal

pub returns-then-not-both-clause-performs : goal.returns-then-not-both-clause-performs
returns-then-not-both-clause-performs g c = λ some.
    let old = c.args.state.now in
    let bytes = to_le_bytes w32 c.args.own in
    let writes : Replying = WriteBytes c.args.real bytes (WriteBytes c.args.effective bytes (WriteBytes c.args.saved bytes (done 0 []))) in
    let ends : Bool → Bool → Bool → Replying = λ first second third. if first && second && third then writes else refuse EFAULT in
    let one = tested c.args.pid _ old old c.args.real 4 Write (λ first. MayUse c.args.effective 4 (Write ∷ []) (λ second. MayUse c.args.saved 4 (Write ∷ []) (ends first second))) c.may_use-first.result c.may_use-first.ensures
    (begins c.args.pid (get_three_row c.args.own c.args.real c.args.effective c.args.saved) old _ refl) in
    let two = tested c.args.pid _ old old c.args.effective 4 Write (λ second. MayUse c.args.saved 4 (Write ∷ []) (ends c.may_use-first.result second)) c.may_use-second.result c.may_use-second.ensures one in
    let three = tested c.args.pid _ old old c.args.saved 4 Write (ends c.may_use-first.result c.may_use-second.result) c.may_use-third.result c.may_use-third.ensures two in
    let none : (c.may_use-first.result && c.may_use-second.result && c.may_use-third.result) ≡ false = ap (λ b. b && c.may_use-third.result) (sym c.both.ensures) ∙ sym c.both-2.ensures ∙ c.if-not-both.true in
    refused-after c.args.pid _ old old old c.refused.result EFAULT c.requires.sound.pids
    (goes-on c.args.pid _ old old _ (refuse EFAULT) (ap (λ b. cond b writes (refuse EFAULT)) none) three)
    c.refused.ensures refl

pub returns-in-Ok-write-2-clause-performs : goal.returns-in-Ok-write-2-clause-performs
returns-in-Ok-write-2-clause-performs g c = λ some.
    let old = c.args.state.now in
    let bytes = to_le_bytes w32 c.args.own in
    let told = c.to_le_bytes-bytes.result in
    let rest : _ → Replying = λ bytes. WriteBytes c.args.real bytes (WriteBytes c.args.effective bytes (WriteBytes c.args.saved bytes (done 0 []))) in
    let writes : Replying = rest bytes in
    let ends : Bool → Bool → Bool → Replying = λ first second third. if first && second && third then writes else refuse EFAULT in
    let one = tested c.args.pid _ old old c.args.real 4 Write (λ first. MayUse c.args.effective 4 (Write ∷ []) (λ second. MayUse c.args.saved 4 (Write ∷ []) (ends first second))) c.may_use-first.result c.may_use-first.ensures
    (begins c.args.pid (get_three_row c.args.own c.args.real c.args.effective c.args.saved) old _ refl) in
    let two = tested c.args.pid _ old old c.args.effective 4 Write (λ second. MayUse c.args.saved 4 (Write ∷ []) (ends c.may_use-first.result second)) c.may_use-second.result c.may_use-second.ensures one in
    let three = tested c.args.pid _ old old c.args.saved 4 Write (ends c.may_use-first.result c.may_use-second.result) c.may_use-third.result c.may_use-third.ensures two in
    let all : (c.may_use-first.result && c.may_use-second.result && c.may_use-third.result) ≡ true = ap (λ b. b && c.may_use-third.result) (sym c.both.ensures) ∙ sym c.both-2.ensures ∙ c.if-not-both.false in
    let four = goes-on c.args.pid _ old old _ (rest told) (ap (λ b. cond b writes (refuse EFAULT)) all ∙ ap rest (sym c.to_le_bytes-bytes.ensures)) three in
    let first = c.in-Ok.ensures.ok in
    let second = c.in-Ok-write.ensures.ok in
    let third = c.in-Ok-write-2.ensures.ok in
    let five = was-written c.args.pid _ old old c.args.real told (WriteBytes c.args.effective told (WriteBytes c.args.saved told (done 0 []))) c.write.new.state c.requires.lives first four in
    let six = was-written c.args.pid _ old c.write.new.state c.args.effective told (WriteBytes c.args.saved told (done 0 [])) c.write-2.new.state first.leaves.lives second five in
    let seven = was-written c.args.pid _ old c.write-2.new.state c.args.saved told (done 0 []) c.write-3.new.state second.leaves.lives third six in
    by-uses c.args.pid _ old c.write-3.new.state c.write-3.new.state c.number.result (answers 0 []) third.leaves.sound.pids seven c.number.ensures (λ mounts. refl)
