use Rattle.std.proofs.Common.{ap, sym, ◌∙◌}
use Rattle.kr_steps.specs.rv_mem.Pages.{allows_all}
use Rattle.kr_steps.specs.kr_model.State.{Image}
use Rattle.kr_steps.specs.kr_stops.Editing.{memory_at}
use Rattle.kr_turns.specs.Held.{Held, stopped_of}
use Rattle.kr_turns.proofs.HereLemmas.{image-numbered}
use Rattle.kr_turns.proofs.here.HereTracee.can.Goals as goal

pub returns : goal.returns
returns g c =
    let number = g.P.Places.number in
    c.can.ensures
    ∙ ap (λ (i : Image). allows_all i.memory.pages c.args.at c.args.n c.args.what) (sym (image-numbered number c.self.inside.pid c.self.inside.state.now))
    ∙ ap (λ (h : Held _ _ _). allows_all (memory_at (stopped_of number h)).pages c.args.at c.args.n c.args.what) c.self.view_is
