use Rattle.std.proofs.Common.{◌≡◌, ◌∙◌, true, sym, length, lit<}
use Rattle.rv_mem.specs.Pages.{allows_all}
use Rattle.rv_mem.proofs.AccessLemmas.{HasPagesAt-allowed, fits_allowed}
use Rattle.rv_mem.proofs.table.Table.read_over_pages.Goals as goal

pub read_all-marked-requires : goal.read_all-marked-requires
read_all-marked-requires g c =
    let allowed : allows_all c.args.self.now c.args.at (length c.args.into.now) c.args.what ≡ true = sym c.allows_all.ensures ∙ c.if-not-allows_all.false in
    let there = HasPagesAt-allowed c.args.self.now c.args.at (length c.args.into.now) c.args.what allowed in
    (lit< tt, (fits_allowed c.args.self.now c.args.at (length c.args.into.now) c.requires.placed there c.ranges.at.fits, there))
