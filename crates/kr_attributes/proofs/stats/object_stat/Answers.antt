use Rattle.std.proofs.Common.{◌≡◌, Option, Some, None, refl, sym, ap, ◌∙◌}
use Rattle.std.specs.Option.{option_map, option_map_or}
use Rattle.kr_seen.specs.pr_base.declared.errno.Errno.TheVariants.{ENOENT}
use Rattle.kr_seen.specs.kr_model.AttributeRows.{node_stat, stat_host, tell_stat}
use Rattle.kr_seen.specs.kr_model.Known.{known}
use Rattle.kr_seen.specs.kr_model.Reply.{refuse}
use Rattle.kr_seen.specs.kr_model.State.{image_layout}
use Rattle.kr_seen.specs.kr_ops.Meaning.{meaning}
use Rattle.kr_attributes.proofs.stats.object_stat.Goals as goal

of-mapped : {A B C : Type 0} (f : A → B) (g : B → C) (other : C) (o : Option A) → option_map_or (λ x. g (f x)) o other ≡ option_map_or g (option_map f o) other
of-mapped f g other None = refl
of-mapped f g other (Some x) = refl

pub returns-in-Node : goal.returns-in-Node
returns-in-Node g c = λ pid buf.
    let k = known image_layout pid (meaning c.args.state.now) in
    let i = c.in-Node.ino in
    ap (stat_host k buf) c.in-Node.is
    ∙ of-mapped (node_stat k i) (tell_stat buf) (refuse ENOENT) (k.fact i)
    ∙ ap (λ o. option_map_or (tell_stat buf) o (refuse ENOENT)) (sym (c.node_stat.ensures pid))

pub returns-in-Proc : goal.returns-in-Proc
returns-in-Proc g c = λ pid buf.
    let k = known image_layout pid (meaning c.args.state.now) in
    ap (stat_host k buf) c.in-Proc.is ∙ ap (tell_stat buf) (sym (c.process_stat.ensures pid))
