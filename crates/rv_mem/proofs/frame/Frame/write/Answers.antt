use Rattle.std.proofs.Common.{◌≡◌, ◌+◌, ◌-◌, ◌≤◌, length, arith}
use Rattle.rv_mem.proofs.PageLemmas.{overwritten}
use Rattle.rv_mem.proofs.frame.Frame.write.Goals as goal

pub returns : goal.returns
returns c =
    let inside : c.args.offset + length c.args.bytes.now ≤ length c.self.inside.bytes.items = omega (arith, c.self.invariant) in
    let count : c.args.offset + length c.args.bytes.now - c.args.offset ≡ length c.args.bytes.now = omega arith in
    rw (← c.self.view_is) (overwritten c.self.inside.bytes.items _ _ _ _ _ _ c.deref_mut.ensures.value c.self.inside.bytes.ok.0 c.copy_from_slice.ensures.after count inside)
