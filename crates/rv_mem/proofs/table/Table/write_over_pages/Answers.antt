use Rattle.std.proofs.Common.{◌≡◌, ◌∙◌, true, sym, length, lit<}
use Rattle.rv_mem.specs.Pages.{allows_all}
use Rattle.rv_mem.specs.declared.rights.Use.TheVariants.{Write}
use Rattle.rv_mem.proofs.AccessLemmas.{HasPagesAt-allowed, fits_allowed}
use Rattle.rv_mem.proofs.table.Table.write_over_pages.Goals as goal

pub plan-requires : goal.plan-requires
plan-requires g c =
    let allowed : allows_all c.args.self.now c.args.at (length c.args.bytes.now) Write ≡ true = sym c.allows_all.ensures ∙ c.if-not-allows_all.false in
    let there = HasPagesAt-allowed c.args.self.now c.args.at (length c.args.bytes.now) Write allowed in
    (lit< tt, (lit< tt, (fits_allowed c.args.self.now c.args.at (length c.args.bytes.now) c.requires.placed there c.ranges.at.fits, there)))
