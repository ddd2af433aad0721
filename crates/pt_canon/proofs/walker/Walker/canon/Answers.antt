use Rattle.std.proofs.Common.{subst, sym}
use Rattle.pt_canon.specs.Remembering.{Walking, WalksOn, key_of}
use Rattle.pt_canon.proofs.RememberLemmas.{walked_on}
use Rattle.pt_canon.proofs.walker.Walker.canon.Goals as goal

pub returns-clause-walker : goal.returns-clause-walker
returns-clause-walker g c =
    let w = c.args.self.now in
    let peeked = g.K.Peeks.peeked c.args.kernel.now in
    let key = key_of c.args.base.now c.args.path.now c.args.mode in
    let P : Walking → Type 0 = λ new. WalksOn peeked w new in
    subst P (sym c.answer.ensures.remembered) (walked_on w peeked c.args.tags.now key (g.met.K.Peeks.steady_is_no_jump c.args.kernel.now) c.requires.agrees c.answer.result c.answer.ensures.answer)
