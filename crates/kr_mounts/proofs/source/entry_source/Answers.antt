use Rattle.std.proofs.Common.{◌≡◌, Option, sym, ap, subst}
use Rattle.std.specs.Prelude.{IfOk}
use Rattle.std.specs.Option.{option_map}
use Rattle.kr_walk.specs.kr_tree.declared.place.Host.{Host}
use Rattle.kr_mounts.specs.Found.{source_told}
use Rattle.kr_mounts.specs.Sources.{entry_source}
use Rattle.kr_mounts.specs.declared.source.Found.{Found}
use Rattle.kr_mounts.proofs.source.entry_source.Goals as goal

pub returns-in-Node-clause-source : goal.returns-in-Node-clause-source
returns-in-Node-clause-source c =
    let P : Host → Type 0 = λ h. IfOk c.entry_in.result (λ (f : Option Found). option_map source_told f ≡ entry_source c.args.tree.now h c.args.name.now c.args.inode) in
    subst P (sym c.in-Node.is) c.entry_in.ensures.source

pub returns-in-Proc-clause-source : goal.returns-in-Proc-clause-source
returns-in-Proc-clause-source c = ap (λ h. entry_source c.args.tree.now h c.args.name.now c.args.inode) (sym c.in-Proc.is)
