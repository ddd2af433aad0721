use Rattle.std.proofs.Common.{eq-eqb}
use Rattle.std.proofs.lemmas.Bool.{ne_eqb}
use Rattle.kr_mounts.proofs.SightLemmas.{above_none, above_root, above_some}
use Rattle.kr_mounts.proofs.location.Locating.above.Goals as goal

pub returns-then-at-self : goal.returns-then-at-self
returns-then-at-self c = above_root c.args.self.now c.args.at (eq-eqb c.args.at c.args.self.now.root c.if-at-self.true)

pub returns-in-Some : goal.returns-in-Some
returns-in-Some c = above_some c.args.self.now c.args.at c.in-Some.up (ne_eqb c.args.at c.args.self.now.root c.if-at-self.false) c.in-Some.ensures

pub returns-in-None : goal.returns-in-None
returns-in-None c = above_none c.args.self.now c.args.at (ne_eqb c.args.at c.args.self.now.root c.if-at-self.false) c.in-None.ensures
