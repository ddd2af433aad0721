use Rattle.std.proofs.Common.{sym, ◌∙◌, refl}
use Rattle.kr_view.specs.Leads.{numbered}
use Rattle.kr_walk.specs.Sights.{surroundings_of}
use Rattle.kr_view.proofs.LandingLemmas.{landed_directory, landed_file, lands_in_directory, lands_at_file}
use Rattle.kr_walk.proofs.surroundings.Surroundings.landed.Goals as goal

pub returns-then-is_directory : goal.returns-then-is_directory
returns-then-is_directory g c =
    let around = surroundings_of g.P.Places.number g.P.Places.mounts g.Q.Procs.finds g.Q.Procs.leads c.args.self.now in
    let p = numbered g.P.Places.number c.args.place in
    let is = sym c.is_directory.ensures ∙ c.if-is_directory.true in (
      landed_directory p c.args.slash,
      lands_in_directory around p c.args.dir c.args.name c.args.mode c.args.slash is,
      rw c.new.ensures refl,
    )

pub returns : goal.returns
returns g c =
    let around = surroundings_of g.P.Places.number g.P.Places.mounts g.Q.Procs.finds g.Q.Procs.leads c.args.self.now in
    let p = numbered g.P.Places.number c.args.place in
    let isnt = sym c.is_directory.ensures ∙ c.if-is_directory.false in
    let unwanted = sym c.wants_directory.ensures ∙ c.if-wants_directory.false in (
      landed_file p c.args.dir c.args.name c.args.slash,
      lands_at_file around p c.args.dir c.args.name c.args.mode c.args.slash isnt unwanted,
      refl,
    )
