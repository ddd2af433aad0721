use Rattle.std.proofs.Common.{length, ap, arith}
use Rattle.std.specs.Prelude.{codes}
use Rattle.pr_gen.proofs.GuestLemmas.{short_path, short_target}
use Rattle.pr_gen.proofs.texts.put_round.Goals as goal

pub returns-clause-size : goal.returns-clause-size
returns-clause-size c =
    let opened = short_path (codes "/f") c.args.d c.args.b c.ranges.d.fits c.ranges.b.fits (omega arith) in
    let named = short_path (codes "/r") c.args.d c.args.j c.ranges.d.fits c.ranges.j.fits (omega arith) in
    let target = short_target c.args.b c.ranges.b.fits in
    let one = ap length c.in_ok-format.ensures.ok in
    let two = ap length c.in_ok-format-2.ensures.ok in
    let three = ap length c.in_ok-format-3.ensures.ok in
    omega (arith, opened, named, target, one, two, three, c.in_ok-put_text.ensures.size, c.in_ok-put_text-2.ensures.size, c.in_ok-put_text-3.ensures.size)
