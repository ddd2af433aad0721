use Rattle.std.proofs.Common.{get_or, ap, sym, ◌∙◌}
use Rattle.kr_steps.specs.kr_model.State.{Image}
use Rattle.kr_steps.specs.kr_stops.Editing.{register_at}
use Rattle.kr_turns.specs.Held.{Held, stopped_of}
use Rattle.kr_turns.proofs.HereLemmas.{image-numbered}
use Rattle.kr_turns.proofs.here.HereTracee.reg.Goals as goal

pub returns : goal.returns
returns g c =
    let number = g.P.Places.number in
    c.register.ensures
    ∙ ap (λ (i : Image). get_or i.regs.x c.args.k 0) (sym (image-numbered number c.self.inside.pid c.self.inside.state.now))
    ∙ ap (λ (h : Held _ _ _). register_at (stopped_of number h) c.args.k) c.self.view_is
