use Rattle.std.proofs.Common.{◌||◌, ap, ◌∙◌}
use Rattle.kr_view.specs.Leads.{numbered}
use Rattle.kr_walk.specs.Components.{component_data}
use Rattle.kr_walk.specs.Sights.{surroundings_of}
use Rattle.kr_view.specs.Names.{directory_name}
use Rattle.kr_view.specs.Reach.{greater, noted}
use Rattle.kr_view.proofs.ReachLemmas.{noted_part, part_at_error}
use Rattle.kr_walk.proofs.surroundings.Surroundings.note.Goals as goal

pub returns-in_err-shown_length : goal.returns-in_err-shown_length
returns-in_err-shown_length g c =
    let around = surroundings_of g.P.Places.number g.P.Places.mounts g.Q.Procs.finds g.Q.Procs.leads c.args.self.now in
    let p = numbered g.P.Places.number c.args.position.now.place in
    let component = component_data c.args.component.now in
    let r = c.args.reach.now in
    let length = c.length_of.ensures (directory_name around.space p.host) c.object_bytes.ensures.bytes in
    let long = c.meet.ensures.longest ∙ c.raise.ensures.longest ∙ ap (λ l. greater l r.longest) length in
    let met = c.meet.ensures.met_proc ∙ ap (λ m. m || c.meets_processes.result) c.raise.ensures.met_proc ∙ ap (λ m. r.met_proc || m) c.meets_processes.ensures in
    part_at_error (noted around c.args.by_name p component r) r c.meet.new.self c.from_residual.result c.from_residual.ensures.0 (noted_part around c.args.by_name p component r c.meet.new.self long met)
