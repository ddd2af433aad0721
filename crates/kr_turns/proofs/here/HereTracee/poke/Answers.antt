use Rattle.std.proofs.Common.{false, length, ap, subst, sym, ◌≡◌, ◌∙◌}
use Rattle.std.specs.Prelude.{IsErrOf, ◌↔◌}
use Rattle.std.proofs.lemmas.Result.{on_ok_weaker}
use Rattle.kr_steps.specs.rv_mem.Memory.{Memory, with_pages}
use Rattle.kr_steps.specs.rv_mem.Pages.{allows_all, written}
use Rattle.kr_steps.specs.rv_mem.declared.fault.StoreFault.TheVariants.{BadAddress}
use Rattle.kr_steps.specs.rv_mem.declared.rights.Use.TheVariants.{Write}
use Rattle.kr_steps.specs.kr_model.State.{Image}
use Rattle.kr_hostview.specs.kr_ops.Meaning.{meaning}
use Rattle.kr_steps.specs.kr_stops.Editing.{after_poke, memory_at}
use Rattle.kr_turns.specs.Held.{Held, stopped_of}
use Rattle.kr_steps.specs.kr_stops.Stopped.{image_in}
use Rattle.kr_turns.proofs.EditingLemmas.{on-err}
use Rattle.kr_turns.proofs.HereLemmas.{edits, held-now, image-numbered, same-in, stands-used}
use Rattle.kr_turns.proofs.here.HereTracee.poke.Goals as goal

pub invariant_of-self : goal.invariant_of-self
invariant_of-self g c =
    let s = c.self.inside.state.now in
    let own = image_in c.self.inside.pid (meaning s) in
    stands-used c.poke.result own.regs (with_pages own.memory (written own.memory.pages c.args.at c.args.b.now)) s c.poke.new.state c.self.invariant c.poke.ensures.after c.poke.ensures.err
    (c.poke.ensures.runs g.P.Places.number (g.P.Places.mounts c.self.inside.places.now) c.self.inside.calls c.self.invariant.runs)

pub invariant_of-self-inside : goal.invariant_of-self-inside
invariant_of-self-inside g c =
    let s = c.self.inside.state.now in
    let own = image_in c.self.inside.pid (meaning s) in (
      held-now c.poke.new.state
          (stands-used c.poke.result own.regs (with_pages own.memory (written own.memory.pages c.args.at c.args.b.now)) s c.poke.new.state c.self.invariant c.poke.ensures.after c.poke.ensures.err
          (c.poke.ensures.runs g.P.Places.number (g.P.Places.mounts c.self.inside.places.now) c.self.inside.calls c.self.invariant.runs)),
      tt {0},
    )

pub returns-clause-bad : goal.returns-clause-bad
returns-clause-bad g c =
    subst (λ (m : Memory). IsErrOf c.poke.result BadAddress ↔ (allows_all m.pages c.args.at (length c.args.b.now) Write ≡ false))
    (ap (λ (i : Image). i.memory) (sym (image-numbered g.P.Places.number c.self.inside.pid c.self.inside.state.now)) ∙ ap (λ (h : Held _ _ _). memory_at (stopped_of g.P.Places.number h)) c.self.view_is)
    c.poke.ensures.bad

pub returns-clause-after : goal.returns-clause-after
returns-clause-after g c =
    let number = g.P.Places.number in
    on_ok_weaker c.poke.result
    (λ e.
    edits number (λ (i : Image). record { regs = i.regs; memory = with_pages i.memory (written i.memory.pages c.args.at c.args.b.now) }) c.self.inside.state.now c.poke.new.state c.self.inside.pid c.self.inside.handed e
    ∙ ap (λ (h : Held _ _ _). after_poke c.args.at c.args.b.now (stopped_of number h)) c.self.view_is)
    c.poke.ensures.after

pub returns-clause-err : goal.returns-clause-err
returns-clause-err g c =
    let number = g.P.Places.number in
    on-err c.poke.result (λ e. same-in number c.self.inside.state.now c.poke.new.state c.self.inside.pid c.self.inside.handed e ∙ ap (stopped_of number) c.self.view_is) c.poke.ensures.err
