use Rattle.std.proofs.Common.{◌-◌, arith, lit<}
use Rattle.rv_mem.specs.declared.rights.Use.TheVariants.{Read}
use Rattle.rv_mem.specs.Pages.{HasPagesAt}
use Rattle.rv_mem.proofs.AccessLemmas.{HasPagesAt-allowed, fits_allowed}
use Rattle.rv_mem.proofs.space.Space.text_at.Goals as goal

pub overflow_sub-scan : goal.overflow_sub-scan
overflow_sub-scan g c = c.scan-scan.ensures.some c.in-Zero.is

pub bytes_at-requires : goal.bytes_at-requires
bytes_at-requires g c =
    let all = HasPagesAt-allowed c.self.inside.pages c.args.at c.scan-scan.result.reach Read c.scan-scan.ensures.allowed in
    let there : HasPagesAt c.self.inside.pages c.args.at (c.scan-scan.result.reach - 1) = λ k l. all k (omega arith) in
    (lit< tt, (fits_allowed c.self.inside.pages c.args.at (c.scan-scan.result.reach - 1) c.self.invariant.0 there c.ranges.at.fits, there))
