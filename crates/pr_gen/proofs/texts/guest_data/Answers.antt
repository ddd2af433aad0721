use Rattle.std.proofs.Common.{◌+◌, ◌*◌, ◌/◌, length, refl, ap, ◌∙◌, arith}
use Rattle.pr_gen.specs.Draws.{after, stepped}
use Rattle.pr_gen.specs.Guest.{rounds}
use Rattle.pr_gen.proofs.StepLemmas.{one_round_more}
use Rattle.pr_gen.proofs.GuestLemmas.{drawn_round}
use Rattle.pr_gen.proofs.texts.guest_data.Goals as goal

pub loop-k-init : goal.loop-k-init
unfolding rounds after
loop-k-init c = let none = ap length c.new-out.ensures.items in (c.new-out.ensures.items, refl, omega (arith, none))

pub loop-k-preserved : goal.loop-k-preserved
loop-k-preserved c =
    let i = c.loop-k.invariant in
    let more = one_round_more c.loop-k.out.items c.put_round.new.out.items c.loop-k.k c.args.draws.state c.loop-k.draws.state c.draw-b.new.self.state i.0 i.1
    (drawn_round c.loop-k.out.items c.put_round.new.out.items c.loop-k.k c.loop-k.draws.state c.draw.new.self.state c.draw-b.new.self.state c.draw.ensures.state c.draw-b.ensures.state _ _ _ (ap (λ a. 4 * (c.loop-k.k / 64) + a) c.draw.ensures.drawn) refl c.draw-b.ensures.drawn c.in_ok-put_round.ensures.texts)
    (c.draw-b.ensures.state ∙ ap stepped c.draw.ensures.state) in
    let size = c.in_ok-put_round.ensures.size in
    let before = i.2 in
    (more.0, more.1, omega (arith, size, before))
