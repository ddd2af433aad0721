use Rattle.std.proofs.Common.{ap, subst, sym, ◌∙◌}
use Rattle.kr_steps.specs.rv_mem.Actions.{carried_out}
use Rattle.kr_execve.specs.kr_calls.Decodes.{Gives}
use Rattle.kr_execve.specs.kr_calls.Decoding.{decoding}
use Rattle.kr_steps.specs.kr_model.State.{Image}
use Rattle.kr_hostview.specs.kr_ops.Meaning.{meaning}
use Rattle.kr_steps.specs.kr_stops.Editing.{Decodes, after_request}
use Rattle.kr_turns.specs.Held.{Held, stopped_of}
use Rattle.kr_steps.specs.kr_stops.Stopped.{image_in}
use Rattle.kr_turns.proofs.HereLemmas.{decoded-given, decoded-leaves, edits, held-now, image-numbered, stands-after}
use Rattle.kr_turns.proofs.here.HereTracee.request.Goals as goal

pub invariant_of-self : goal.invariant_of-self
invariant_of-self g c =
    let s = c.self.inside.state.now in
    let own = image_in c.self.inside.pid (meaning s) in
    stands-after own.regs (carried_out (decoding own.regs) own.memory).memory s c.request.new.state c.self.invariant (decoded-leaves c.self.inside.pid s c.request.new.state c.request.result c.request.ensures.requested)
    (c.request.ensures.runs g.P.Places.number (g.P.Places.mounts c.self.inside.places.now) c.self.inside.calls c.self.invariant.runs)

pub invariant_of-self-inside : goal.invariant_of-self-inside
invariant_of-self-inside g c =
    let s = c.self.inside.state.now in
    let own = image_in c.self.inside.pid (meaning s) in (
      held-now c.request.new.state
          (stands-after own.regs (carried_out (decoding own.regs) own.memory).memory s c.request.new.state c.self.invariant (decoded-leaves c.self.inside.pid s c.request.new.state c.request.result c.request.ensures.requested)
          (c.request.ensures.runs g.P.Places.number (g.P.Places.mounts c.self.inside.places.now) c.self.inside.calls c.self.invariant.runs)),
      tt {0},
    )

pub returns-clause-given : goal.returns-clause-given
returns-clause-given g c =
    let number = g.P.Places.number in
    let s = c.self.inside.state.now in
    subst (λ (h : Held _ _ _). Decodes (stopped_of number h) c.request.result) c.self.view_is
    (subst (λ (i : Image). Gives c.request.result (carried_out (decoding i.regs) i.memory) (carried_out (decoding i.regs) i.memory).memory) (sym (image-numbered number c.self.inside.pid s))
    (decoded-given c.self.inside.pid s c.request.new.state c.request.result c.request.ensures.requested))

pub returns-clause-after : goal.returns-clause-after
returns-clause-after g c =
    let number = g.P.Places.number in
    let s = c.self.inside.state.now in
    edits number (λ (i : Image). record { regs = i.regs; memory = (carried_out (decoding i.regs) i.memory).memory }) s c.request.new.state c.self.inside.pid c.self.inside.handed
    (decoded-leaves c.self.inside.pid s c.request.new.state c.request.result c.request.ensures.requested)
    ∙ ap (λ (h : Held _ _ _). after_request (stopped_of number h)) c.self.view_is
