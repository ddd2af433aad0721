use Rattle.std.proofs.Common.{List, ap, sym, ◌∙◌}
use Rattle.kr_turns.proofs.MakingLemmas.{found-lives, lives-numbered}
use Rattle.kr_turns.proofs.kr_ops.ListLemmas.{none-found}
use Rattle.kr_turns.proofs.kr_ops.UseLemmas.{sound-of}
use Rattle.kr_core.specs.Between.{between_of, phase_at}
use Rattle.kr_core.specs.declared.paused.Paused.{Paused}
use Rattle.kr_core.proofs.SteppingLemmas.{no-phase, phase-told}
use Rattle.kr_core.proofs.kernel.Kernel.phase.Goals as goal

pub returns-in-Some : goal.returns-in-Some
returns-in-Some g c =
    let number = g.P.Places.number in
    let inside = c.self.inside in
    let runs = c.self.invariant.runs (ap (λ k. k.whole) c.self.view_is ∙ c.requires) in
    let sound = sound-of number (g.P.Places.mounts inside.places) inside.state runs.lasts.lawful runs.served in
    let lives = lives-numbered number c.args.pid inside.state (found-lives inside.state c.args.pid _ sound c.in-Some.ensures.some) in
    phase-told number c.args.pid _ _ c.self.view_is lives c.phase_at.result
    (ap (λ (l : List Paused). phase_at (between_of c.args.pid l)) (sym c.as_slice.ensures.value) ∙ ap phase_at (sym c.between_of.ensures) ∙ sym c.phase_at.ensures)

pub returns-in-None : goal.returns-in-None
returns-in-None g c = no-phase g.P.Places.number c.args.pid _ _ c.self.view_is (none-found c.args.pid c.self.inside.state.living.items (c.index_of.ensures.none c.in-None.is))
