use Rattle.std.proofs.Common.{◌≡◌, ℕ, ◌+◌, ◌∙◌, sym, ap, subst, None, Some, Option, refl}
use Rattle.std.specs.Prelude.{Vec, bytes_eq}
use Rattle.std.specs.declared.alloc.Global.{Global}
use Rattle.std.specs.Borrow.{Bor}
use Rattle.std.specs.Option.{IsSome, option_copied}
use Rattle.std.specs.Map.{lookup}
use Rattle.std.specs.Ordering.{nat_cmp}
use Rattle.std.specs.BTreeMap.{is_at}
use Rattle.std.proofs.lemmas.Option.{same_Some}
use Rattle.kr_inode.specs.declared.entries.Named.{Named}
use Rattle.kr_inode.specs.declared.entries.Slot.{Slot}
use Rattle.kr_inode.proofs.ChangeLemmas.{Replaced, replaced, stored_there, same_items}
use Rattle.kr_inode.proofs.entries.Entries.replace.Goals as goal

is_some : {X : Type 0} (o : Option (Bor X)) (v : X) → option_copied o ≡ Some v → IsSome o
is_some None v h = absurd cc
is_some (Some x) v h = refl

there : (c : goal.After-get-2) → (v : Named) × (lookup (is_at (nat_cmp c.unwrap.result.now.serial)) c.self.inside.by_serial.entries ≡ Some v) × (v.name.items ≡ c.args.name.now)
there c =
    let d = c.self.inside in
    stored_there c.args.name.now d.next c.unwrap.result.now d.by_name.entries d.by_serial.entries c.self.invariant.0 c.self.invariant.1 (sym (ap option_copied c.unwrap.ensures) ∙ c.get.ensures.value)

pub unwrap-requires-2 : goal.unwrap-requires-2
unwrap-requires-2 c = is_some c.get-2.result (there c).0 (c.get-2.ensures.value ∙ (there c).1)

both : (c : goal.Joined-gone) → Replaced (c.get_mut.follows.lender (record { serial = c.self.inside.next; inode = c.args.inode })).entries c.self.inside.by_serial.entries c.remove-gone.new.self.entries c.self.inside.next
    (record { name = c.args.name.now; serial = c.self.inside.next; inode = c.args.inode })
both c =
    let d = c.self.inside in
    let slot = c.unwrap.result.now in
    let found : Some slot ≡ lookup (λ (k : Vec ℕ Global). bytes_eq c.args.name.now k.items) d.by_name.entries = sym (ap option_copied c.unwrap.ensures) ∙ c.get.ensures.value in
    let v = stored_there c.args.name.now d.next slot d.by_name.entries d.by_serial.entries c.self.invariant.0 c.self.invariant.1 found in
    let held : c.unwrap-2.result.now ≡ v.0 = same_Some _ _ (sym (ap option_copied c.unwrap-2.ensures) ∙ c.get-2.ensures.value ∙ v.1) in
    let name : c.in_ok-name_again.name_again.items ≡ c.args.name.now = same_items c.unwrap-2.result.now.name.items c.in_ok-name_again.name_again.items c.in_ok-name_again.ensures.cases.0 ∙ ap (λ h. h.name.items) held ∙ v.2 in
    let put : Slot = record { serial = d.next; inode = c.args.inode } in
    let written = (c.get_mut.follows.holds put).3 (subst IsSome found refl) in
    replaced c.args.name.now d.next c.args.inode slot (record { name = c.in_ok-name_again.name_again; inode = c.args.inode }) d.by_name.entries (c.get_mut.follows.lender put).entries
    d.by_serial.entries c.insert.new.self.entries c.remove-gone.new.self.entries c.self.invariant.0 c.self.invariant.1 found
    (record { here = written.1; others = written.3 }) name refl c.in_ok-insert.ensures.entries c.remove-gone.ensures.entries

pub invariant_of-self-2 : goal.invariant_of-self-2
invariant_of-self-2 c = ((both c).named, (both c).listed)

pub returns-clause-ok : goal.returns-clause-ok
returns-clause-ok c = rw (← c.self.view_is) (ap (λ es. record { list = es; next = c.self.inside.next + 1 }) (both c).is)
