use Rattle.std.proofs.Common.{sym, ap, ◌∙◌}
use Rattle.std.specs.Prelude.{is_some}
use Rattle.kr_seen.specs.kr_ops.Meaning.{meaning}
use Rattle.kr_seen.proofs.kr_ops.ListLemmas.{none-found}
use Rattle.kr_seen.proofs.kr_ops.OpeningLemmas.{found}
use Rattle.kr_transfer.proofs.ShownLemmas.{lives-is}
use Rattle.kr_transfer.proofs.shown.lives.Goals as goal

pub returns-in-Some : goal.returns-in-Some
returns-in-Some g c =
    let s = c.args.state.now in
    let h = c.in-Some.ensures.some in
    sym (ap (λ o. is_some o) (found s c.args.of c.in-Some._k h.process c.requires h h.there)) ∙ lives-is (meaning s) c.args.pid c.args.of

pub returns-in-None : goal.returns-in-None
returns-in-None g c =
    let s = c.args.state.now in
    sym (ap (λ o. is_some o) (none-found c.args.of s.living.items (c.index_of.ensures.none c.in-None.is))) ∙ lives-is (meaning s) c.args.pid c.args.of
