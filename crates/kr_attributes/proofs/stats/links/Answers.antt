use Rattle.std.proofs.Common.{◌+◌, length, sym, ap, ◌∙◌}
use Rattle.std.specs.Option.{option_map_or}
use Rattle.kr_seen.specs.kr_tree.Tree.{Inode, body_is, inode, takes_names}
use Rattle.kr_seen.specs.kr_model.Known.{known}
use Rattle.kr_seen.specs.kr_model.State.{image_layout}
use Rattle.kr_seen.specs.kr_ops.Meaning.{meaning}
use Rattle.kr_attributes.specs.Facts.{links_by}
use Rattle.kr_attributes.proofs.stats.links.Goals as goal

pub returns-in-Proc : goal.returns-in-Proc
returns-in-Proc g c = λ pid.
    let k = known image_layout pid (meaning c.args.state.now) in
    let t = c.args.state.now.tree in
    ap (λ n. 2 + n) (c.living.ensures.count pid)
    ∙ sym (ap (λ kind. links_by kind (body_is takes_names t c.args.ino) c.args.names (option_map_or (λ (x : Inode). x.directories) (inode t c.args.ino) 0) (length k.living)) c.in-Proc.is)
