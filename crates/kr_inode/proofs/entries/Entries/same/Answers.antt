use Rattle.std.proofs.Common.{◌≡◌, ◌∙◌, ap, sym, subst, length, arith}
use Rattle.kr_inode.specs.Inode.{entry_after}
use Rattle.kr_inode.specs.Entries.{Entries, RisesWithin}
use Rattle.kr_inode.proofs.SameLemmas.{walked-start, walked-next, walked-all, walked-on, one_entry, none_tested}
use Rattle.kr_inode.proofs.StoredLemmas.{length-stored}
use Rattle.kr_inode.proofs.entries.Entries.same.Goals as goal

pub returns-then-len : goal.returns-then-len
returns-then-len c =
    let d = c.self.inside in
    let o = c.other.inside in
    let P : Entries → Type 0 = λ v. length v.list ≡ length d.by_serial.entries in
    let Q : Entries → Type 0 = λ v. length v.list ≡ length o.by_serial.entries in
    let long = subst P c.self.view_is (length-stored d.by_serial.entries) in
    let other = subst Q c.other.view_is (length-stored o.by_serial.entries) in
    (λ t. absurd cc, λ e. absurd (c.if-len.true (c.len.ensures.len ∙ sym long ∙ ap length e ∙ other ∙ sym c.len-2.ensures.len)))

pub loop-serial-init : goal.loop-serial-init
loop-serial-init c =
    let P : Entries → Type 0 = λ v. RisesWithin 2 v.next v.list in
    walked-start c.args.self.now.list c.args.other.now.list c.args.self.now.next c.args.other.now.next (subst P c.self.view_is c.self.invariant.1.rises) (subst P c.other.view_is c.other.invariant.1.rises)

pub loop-serial-smaller : goal.loop-serial-smaller
loop-serial-smaller c =
    let on = walked-on c.loop-serial.last c.args.self.now.list c.args.self.now.next (record { name = c.in-Some.name.now; serial = c.in-Some.serial; inode = c.in-Some.inode }) c.loop-serial.invariant.rises c.in-Some.ensures in
    omega arith

pub loop-serial-preserved : goal.loop-serial-preserved
loop-serial-preserved c =
    walked-next c.loop-serial.last c.args.self.now.list c.args.other.now.list c.args.self.now.next c.args.other.now.next
    (record { name = c.in-Some.name.now; serial = c.in-Some.serial; inode = c.in-Some.inode })
    (record { name = c.in-Some-after.other_name.now; serial = c.in-Some-after.other_serial; inode = c.in-Some-after.other_inode })
    c.loop-serial.invariant c.in-Some.ensures c.in-Some-after.ensures
    (one_entry c.in-Some.name.now c.in-Some-after.other_name.now c.in-Some.serial c.in-Some-after.other_serial c.in-Some.inode c.in-Some-after.other_inode c.if-serial-other_serial.false c.if-inode-other_inode.false c.if-ne.ensures)

pub returns : goal.returns
returns c =
    let last = c.loop-serial.last in
    let none = none_tested _ c.after-2.result (entry_after last c.args.other.now.list) c.is_none.result c.is_none.ensures c.after-2.ensures in (
      λ t. walked-all last c.args.self.now.list c.args.other.now.list c.args.self.now.next c.args.other.now.next c.loop-serial.invariant c.in_default.ensures (none.0 t),
      λ e. none.1 (c.in_default.ensures ∙ ap (entry_after last) e),
    )
