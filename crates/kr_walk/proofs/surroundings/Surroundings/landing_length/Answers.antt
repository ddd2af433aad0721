use Rattle.std.proofs.Common.{length, sym, ap, ◌∙◌}
use Rattle.std.specs.Option.{option_map}
use Rattle.kr_view.specs.kr_tree.Names.{host_name}
use Rattle.kr_view.specs.Leads.{numbered}
use Rattle.kr_walk.specs.Sights.{surroundings_of}
use Rattle.kr_view.specs.Reach.{text_length}
use Rattle.kr_walk.proofs.NameLemmas.{lengths_below}
use Rattle.kr_view.proofs.LandingLemmas.{landing_of_file}
use Rattle.kr_walk.proofs.surroundings.Surroundings.landing_length.Goals as goal

pub returns : goal.returns
returns g c =
    let around = surroundings_of g.P.Places.number g.P.Places.mounts g.Q.Procs.finds g.Q.Procs.leads c.args.self.now in
    let called = host_name c.args.self.now.tree.now c.args.dir in
    let bytes = c.bytes_of.ensures.length ∙ ap (option_map length) c.in_ok-above.ensures ∙ lengths_below called in
    let file = landing_of_file around (numbered g.P.Places.number c.args.place) c.args.dir c.args.name.now (sym c.is_directory.ensures ∙ c.if-is_directory.false) in
    c.entry_length.ensures called bytes ∙ ap (option_map text_length) (sym file)
