use Rattle.std.proofs.Common.{length, ap, subst, sym, ◌≡◌, ◌∙◌}
use Rattle.std.specs.Prelude.{IsOk, IsTrue, OnOk, ◌↔◌}
use Rattle.std.proofs.lemmas.Result.{on_ok_weaker}
use Rattle.kr_steps.specs.rv_mem.Memory.{Memory, after_read}
use Rattle.kr_steps.specs.rv_mem.Pages.{allows_all, bytes_from}
use Rattle.kr_steps.specs.kr_model.State.{Image}
use Rattle.kr_hostview.specs.kr_ops.Meaning.{meaning}
use Rattle.kr_steps.specs.kr_stops.Editing.{after_peek, memory_at}
use Rattle.kr_turns.specs.Held.{Held, stopped_of}
use Rattle.kr_steps.specs.kr_stops.Stopped.{image_in}
use Rattle.kr_turns.proofs.EditingLemmas.{on-err}
use Rattle.kr_turns.proofs.HereLemmas.{edits, held-now, image-numbered, same-in, stands-used}
use Rattle.kr_turns.proofs.here.HereTracee.peek.Goals as goal

pub invariant_of-self : goal.invariant_of-self
invariant_of-self g c =
    let s = c.self.inside.state.now in
    let own = image_in c.self.inside.pid (meaning s) in
    stands-used c.peek.result own.regs (after_read own.memory c.args.at (length c.args.into.now)) s c.peek.new.state c.self.invariant c.peek.ensures.after c.peek.ensures.err
    (c.peek.ensures.runs g.P.Places.number (g.P.Places.mounts c.self.inside.places.now) c.self.inside.calls c.self.invariant.runs)

pub invariant_of-self-inside : goal.invariant_of-self-inside
invariant_of-self-inside g c =
    let s = c.self.inside.state.now in
    let own = image_in c.self.inside.pid (meaning s) in (
      held-now c.peek.new.state
          (stands-used c.peek.result own.regs (after_read own.memory c.args.at (length c.args.into.now)) s c.peek.new.state c.self.invariant c.peek.ensures.after c.peek.ensures.err
          (c.peek.ensures.runs g.P.Places.number (g.P.Places.mounts c.self.inside.places.now) c.self.inside.calls c.self.invariant.runs)),
      tt {0},
    )

pub returns-clause-when : goal.returns-clause-when
returns-clause-when g c =
    subst (λ (m : Memory). IsOk c.peek.result ↔ IsTrue (allows_all m.pages c.args.at (length c.args.into.now) c.args.what))
    (ap (λ (i : Image). i.memory) (sym (image-numbered g.P.Places.number c.self.inside.pid c.self.inside.state.now)) ∙ ap (λ (h : Held _ _ _). memory_at (stopped_of g.P.Places.number h)) c.self.view_is)
    c.peek.ensures.when

pub returns-clause-bytes : goal.returns-clause-bytes
returns-clause-bytes g c =
    subst (λ (m : Memory). OnOk c.peek.result (c.peek.new.into ≡ bytes_from m.pages c.args.at (length c.args.into.now)))
    (ap (λ (i : Image). i.memory) (sym (image-numbered g.P.Places.number c.self.inside.pid c.self.inside.state.now)) ∙ ap (λ (h : Held _ _ _). memory_at (stopped_of g.P.Places.number h)) c.self.view_is)
    c.peek.ensures.bytes

pub returns-clause-after : goal.returns-clause-after
returns-clause-after g c =
    let number = g.P.Places.number in
    on_ok_weaker c.peek.result
    (λ e.
    edits number (λ (i : Image). record { regs = i.regs; memory = after_read i.memory c.args.at (length c.args.into.now) }) c.self.inside.state.now c.peek.new.state c.self.inside.pid c.self.inside.handed e
    ∙ ap (λ (h : Held _ _ _). after_peek c.args.at (length c.args.into.now) (stopped_of number h)) c.self.view_is)
    c.peek.ensures.after

pub returns-clause-err : goal.returns-clause-err
returns-clause-err g c =
    let number = g.P.Places.number in
    on-err c.peek.result (λ e. same-in number c.self.inside.state.now c.peek.new.state c.self.inside.pid c.self.inside.handed e ∙ ap (stopped_of number) c.self.view_is) c.peek.ensures.err
