use Rattle.std.proofs.Common.{sym, ap, ◌∙◌, bit_and, ◌-◌, arith}
use Rattle.std.proofs.lemmas.Nat.{and_le_r}
use Rattle.kr_seen.specs.kr_model.Known.{Caller}
use Rattle.kr_seen.proofs.kr_ops.OpeningLemmas.{not-living}
use Rattle.kr_names.proofs.CallerLemmas.{known-caller}
use Rattle.kr_names.proofs.adding.unmasked.Goals as goal

pub unreachable-requires : goal.unreachable-requires
unreachable-requires g c = not-living c.args.state.now c.args.pid (c.index_of.ensures.none c.in_default.is) c.requires.lives

pub returns-clause-bits : goal.returns-clause-bits
returns-clause-bits g c =
    ap (λ n. bit_and c.args.mode n) (c.from.ensures ∙ c.saturating_sub-let_through.ensures)
    ∙ ap (λ (caller : Caller). bit_and c.args.mode (0xfff - caller.umask)) (sym (known-caller c.args.state.now c.args.pid c.in-Some.k c.index.result.now c.requires.sound c.in-Some.ensures.some c.index.ensures))

pub returns-clause-small : goal.returns-clause-small
returns-clause-small g c = let le = and_le_r c.args.mode c.from.result in let a = c.from.ensures in let b = c.saturating_sub-let_through.ensures in omega arith
