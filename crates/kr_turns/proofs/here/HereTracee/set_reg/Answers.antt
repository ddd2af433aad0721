use Rattle.std.proofs.Common.{slice_set, ap, ◌∙◌}
use Rattle.kr_steps.specs.kr_model.State.{Image}
use Rattle.kr_hostview.specs.kr_ops.Meaning.{meaning}
use Rattle.kr_steps.specs.kr_stops.Editing.{with_register}
use Rattle.kr_turns.specs.Held.{Held, stopped_of}
use Rattle.kr_steps.specs.kr_stops.Stopped.{image_in}
use Rattle.kr_turns.proofs.HereLemmas.{edits, held-now, stands-after}
use Rattle.kr_turns.proofs.here.HereTracee.set_reg.Goals as goal

pub invariant_of-self : goal.invariant_of-self
invariant_of-self g c =
    let own = image_in c.self.inside.pid (meaning c.self.inside.state.now) in
    stands-after (record { x = slice_set own.regs.x c.args.k c.args.v; pc = own.regs.pc }) own.memory c.self.inside.state.now c.set_register.new.state c.self.invariant c.set_register.ensures.set
    (c.set_register.ensures.runs g.P.Places.number (g.P.Places.mounts c.self.inside.places.now) c.self.inside.calls c.self.invariant.runs)

pub invariant_of-self-inside : goal.invariant_of-self-inside
invariant_of-self-inside g c =
    let own = image_in c.self.inside.pid (meaning c.self.inside.state.now) in (
      held-now c.set_register.new.state
          (stands-after (record { x = slice_set own.regs.x c.args.k c.args.v; pc = own.regs.pc }) own.memory c.self.inside.state.now c.set_register.new.state c.self.invariant c.set_register.ensures.set
          (c.set_register.ensures.runs g.P.Places.number (g.P.Places.mounts c.self.inside.places.now) c.self.inside.calls c.self.invariant.runs)),
      tt {0},
    )

pub returns-clause-set : goal.returns-clause-set
returns-clause-set g c =
    let number = g.P.Places.number in
    edits number (λ (i : Image). record { regs = record { x = slice_set i.regs.x c.args.k c.args.v; pc = i.regs.pc }; memory = i.memory }) c.self.inside.state.now c.set_register.new.state c.self.inside.pid c.self.inside.handed c.set_register.ensures.set
    ∙ ap (λ (h : Held _ _ _). with_register c.args.k c.args.v (stopped_of number h)) c.self.view_is
