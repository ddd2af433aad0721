use Rattle.std.proofs.Common.{◌≡◌, ℕ, ◌+◌, ◌∙◌, sym, ap, subst, List, None, refl}
use Rattle.kr_inode.specs.Inode.{Entry, entry_named}
use Rattle.kr_inode.specs.Entries.{Entries, IsListed, stored}
use Rattle.kr_inode.proofs.ChangeLemmas.{Added, added, put_back, same_items}
use Rattle.kr_inode.proofs.entries.Entries.add.Goals as goal

is_free : (d v : Entries) (name : List ℕ) → d ≡ v → entry_named name v.list ≡ None → entry_named name d.list ≡ None
is_free d v name is free = subst (λ d. entry_named name d.list ≡ None) (sym is) free

pub invariant_of-self-in-Err : goal.invariant_of-self-in-Err
invariant_of-self-in-Err c =
    let d = c.self.inside in
    let same = c.in-Err.ensures.err in
    let held = c.in-Err.ensures.value_returned in
    let N = put_back c.args.name.items c.in_ok-copy.copy.items c.as_slice.result.now _ d.by_name.entries c.insert.new.self.entries c.remove-slot.new.self.entries (stored d.by_serial.entries)
    c.self.invariant.0 (is_free _ _ c.args.name.items c.self.view_is c.requires.free) (same_items c.args.name.items c.in_ok-copy.copy.items c.in_ok-copy.ensures.cases.0)
    (c.as_slice.ensures.value ∙ ap (λ p. p.1.name.items) held)
    (record { here = c.in_ok-insert.ensures.updates.1; others = c.in_ok-insert.ensures.updates.3 })
    (record { here = c.remove-slot.ensures.updates.1; others = c.remove-slot.ensures.updates.3 }) in
    rw (same) (N, c.self.invariant.1)

both : (c : goal.After-self-1) → Added c.insert.new.self.entries c.self.inside.by_serial.entries c.insert-2.new.self.entries c.self.inside.next (record { name = c.args.name.items; serial = c.self.inside.next; inode = c.args.inode })
both c =
    let d = c.self.inside in
    added c.args.name.items c.in_ok-copy.copy.items d.next c.args.inode (record { name = c.args.name; inode = c.args.inode }) d.by_name.entries c.insert.new.self.entries d.by_serial.entries c.insert-2.new.self.entries
    c.self.invariant.0 c.self.invariant.1 c.requires.well_formed (is_free _ _ c.args.name.items c.self.view_is c.requires.free)
    (same_items c.args.name.items c.in_ok-copy.copy.items c.in_ok-copy.ensures.cases.0)
    (record { here = c.in_ok-insert.ensures.updates.1; others = c.in_ok-insert.ensures.updates.3 }) refl refl c.in_default.ensures.entries

pub invariant_of-self-2 : goal.invariant_of-self-2
invariant_of-self-2 c = ((both c).named, (both c).listed)

pub returns-clause-ok : goal.returns-clause-ok
returns-clause-ok c = rw (← c.self.view_is) (ap (λ es. record { list = es; next = c.self.inside.next + 1 }) (both c).is)
