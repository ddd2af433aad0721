use Rattle.std.proofs.Common.{◌≡◌, ◌∙◌, sym, ap}
use Rattle.kr_inode.specs.Entries.{stored}
use Rattle.kr_inode.proofs.ChangeLemmas.{Taken, taken, not_there, nothing_named}
use Rattle.kr_inode.proofs.entries.Entries.remove.Goals as goal

pub returns-in_default : goal.returns-in_default
returns-in_default c =
    let d = c.self.inside in
    rw (← c.self.view_is) (ap (λ es. record { list = es; next = d.next })
    (sym (nothing_named c.args.name.now (stored d.by_serial.entries) (not_there _ (c.in_default.ensures.value ∙ c.self.invariant.0 c.args.name.now)))))

both : (c : goal.Joined-gone) → Taken c.remove.new.self.entries c.args.name.now c.self.inside.by_serial.entries c.remove-gone.new.self.entries c.self.inside.next
both c =
    let d = c.self.inside in
    taken c.args.name.now d.next c.in-Some.slot d.by_name.entries c.remove.new.self.entries d.by_serial.entries c.remove-gone.new.self.entries c.self.invariant.0 c.self.invariant.1
    c.in-Some.ensures.value (record { here = c.in-Some.ensures.updates.1; others = c.in-Some.ensures.updates.3 }) c.remove-gone.ensures.entries

pub invariant_of-self-2 : goal.invariant_of-self-2
invariant_of-self-2 c = ((both c).named, (both c).listed)

pub returns : goal.returns
returns c = rw (← c.self.view_is) (ap (λ es. record { list = es; next = c.self.inside.next }) (both c).is)
