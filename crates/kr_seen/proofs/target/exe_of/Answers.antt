use Rattle.std.proofs.Common.{sym, ap, ◌∙◌}
use Rattle.std.specs.Option.{option_map_or}
use Rattle.kr_ops.proofs.ListLemmas.{none-found}
use Rattle.kr_ops.proofs.OpeningLemmas.{found}
use Rattle.kr_seen.specs.Shown.{Nothing, At, exe_target}
use Rattle.kr_seen.proofs.target.exe_of.Goals as goal

pub returns-in-Some : goal.returns-in-Some
returns-in-Some g c =
    ap (λ name. At c.index-process.result.now.exe c.index-process.result.now.exe_dir name) c.as_slice.ensures
    ∙ sym (ap (λ o. option_map_or exe_target o Nothing) (found c.args.state.now c.args.pid c.in-Some.k c.index-process.result.now c.requires c.in-Some.ensures.some c.index-process.ensures))

pub returns-in-None : goal.returns-in-None
returns-in-None g c = sym (ap (λ o. option_map_or exe_target o Nothing) (none-found c.args.pid c.args.state.now.living.items (c.index_of.ensures.none c.in-None.is)))
