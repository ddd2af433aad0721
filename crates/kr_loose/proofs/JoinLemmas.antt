-- A step by relations that are graphs of functions on a part of what a watcher keeps is the step by the functions on that part.
use Rattle.std.proofs.Common.{◌≡◌, ℕ, Bool, List, Option, Some, None, sym, ap, ◌∙◌}
use Rattle.kr_core.specs.kr_turns.rv_cpu.declared.event.Event.{Event}
use Rattle.kr_core.specs.kr_turns.rv_cpu.declared.event.Event.TheVariants.{Next, Call, Killed}
use Rattle.kr_core.specs.kr_turns.rv_cpu.Run.{Ran, ran}
use Rattle.kr_core.specs.kr_turns.kr_view.View.{Row}
use Rattle.kr_core.specs.kr_turns.kr_model.State.{Image, Process, State}
use Rattle.kr_core.specs.kr_turns.Breaking.{plain_rule}
use Rattle.kr_core.specs.kr_turns.PlainCall.{Came, plain_call}
use Rattle.kr_core.specs.kr_turns.Turn.{IsBorn, Machine, Tally, after_born, calling, with_broken, with_part}
use Rattle.kr_core.specs.kr_turns.kr_stops.Stopped.{Stopped}
use Rattle.kr_core.specs.kr_turns.kr_stops.Watching.{IsGraph, Watcher, Watching}
use Rattle.kr_core.specs.kr_turns.kr_stops.declared.handed.Handed.{Handed}
use Rattle.kr_core.specs.kr_turns.declared.plain.CallEnd.{CallEnd}
use Rattle.kr_core.specs.kr_turns.declared.plain.CallEnd.TheVariants as end
use Rattle.kr_core.specs.kr_turns.declared.steps.After.{After}
use Rattle.kr_core.specs.kr_turns.CallSteps.{Carried, IsCarriedBy, IsCarriedOut, IsEntered, IsExited, carried_by, carried_out, entered, exited}
use Rattle.kr_core.specs.Between.{between_of}
use Rattle.kr_core.specs.Moving.{IsAfterInstructions, IsMoved, Moved, StepKind, after_instructions, computing, moved, plainly_moved}
use Rattle.kr_core.specs.declared.paused.Between.{Between}
use Rattle.kr_core.specs.declared.paused.Between.TheVariants.{AtCall, Done, Entered}
use Rattle.kr_core.specs.declared.paused.Paused.{Paused}
use Rattle.kr_loose.specs.Laws.{StepsAreFunctions}
use Rattle.kr_loose.specs.LooseRun.{loose_part, moved_part, noted, step_of}

from-parts : {Q : Type 0} (m : Machine Q) {s : State ℕ Image} {x : Q} {n : Tally} → m.state ≡ s → m.watcher ≡ x → m.tally ≡ n → m ≡ record { state = s; watcher = x; tally = n }
from-parts m e h k = λ j. record { state = e j; watcher = h j; tally = k j }

from-move : {Q : Type 0} (made : Moved Q) {k : StepKind} {m : Machine Q} {l : List Paused} → made.kind ≡ k → made.machine ≡ m → made.paused ≡ l → made ≡ record { kind = k; machine = m; paused = l }
from-move made e h k = λ j. record { kind = e j; machine = h j; paused = k j }

from-call : {Q : Type 0} (c : Carried Q) {m : Machine Q} {a : After} → c.machine ≡ m → c.after ≡ a → c ≡ record { machine = m; after = a }
from-call c e h = λ j. record { machine = e j; after = h j }

module _ {S Q : Type 0} (part : S → Q) (w : Watching S) (f : Watcher Q) (marks : ℕ) (table : List Row) (graph : IsGraph part w f) where
  abbrev carried_part : Carried S → Carried Q
  carried_part c = record { machine = with_part part c.machine; after = c.after }

  born-joined : (pid : ℕ) (child : Option ℕ) (x y : S) → IsBorn w pid child x y → part y ≡ after_born f pid child (part x)
  born-joined pid None x y is = ap part is
  born-joined pid (Some child) x y is = graph.bears x y pid child is

  entry-joined : (pid : ℕ) (old new : Machine S) → IsEntered w marks pid old new → with_part part new ≡ entered f marks pid (with_part part old)
  entry-joined pid old new is =
      let e = graph.enters old.watcher new.watcher (calling marks pid old.state) is.stopped is.enters in
      from-parts (with_part part new) (is.state ∙ ap (λ (left : Q × Stopped). left.1.state) e) (ap (λ (left : Q × Stopped). left.0) e) is.same

  exit-joined : (pid : ℕ) (handed : Handed) (old new : Machine S) → IsExited w pid handed old new → with_part part new ≡ exited f pid handed (with_part part old)
  exit-joined pid handed old new is =
      let e = graph.exits old.watcher new.watcher (record { state = old.state; pid = pid; handed = handed }) is.left is.exits in
      from-parts (with_part part new) (is.state ∙ ap (λ (left : Q × Stopped). left.1.state) e) (ap (λ (left : Q × Stopped). left.0) e) is.same

  end-joined : (pid : ℕ) (e : CallEnd) (came : Came) (x : S) (tally : Tally) (c : Carried S) → IsCarriedBy w pid e came x tally c → carried_part c ≡ carried_by f pid e came (part x) tally
  end-joined pid end.Answered came x tally c is = ap carried_part is
  end-joined pid end.Replaced came x tally c is = ap carried_part is
  end-joined pid end.Waits came x tally c is = ap carried_part is
  end-joined pid (end.Ended told) came x tally c is = from-call (carried_part c) (from-parts (with_part part c.machine) is.0 (graph.forgets x c.machine.watcher pid is.1) is.2) is.3

  call-joined : (pid : ℕ) (no_shelf : Bool) (old : Machine S) (c : Carried S) → IsCarriedOut w marks table pid no_shelf old c → carried_part c ≡ carried_out f marks table pid no_shelf (with_part part old)
  call-joined pid no_shelf old c is =
      let came : Came = plain_call table pid old.state in
      let tally : Tally = with_broken (plain_rule marks table pid no_shelf old.state) old.tally in
      end-joined pid came.end came is.bearing tally c is.carried ∙ ap (λ (y : Q). carried_by f pid came.end came y tally) (born-joined pid came.child old.watcher is.bearing is.born)

  event-joined : (pid done : ℕ) (e : Event) (m : Machine S) (paused : List Paused) (made : Moved S) → IsAfterInstructions w marks table pid done e m paused made
      → moved_part part made ≡ after_instructions f marks table pid done e (with_part part m) paused
  event-joined pid done Next m paused made is = ap (moved_part part) is
  event-joined pid done Call m paused made is = ap (moved_part part) is
  event-joined pid done (Killed signal) m paused made is = from-move (moved_part part made) is.0 (from-parts (with_part part made.machine) is.1 (graph.forgets m.watcher made.machine.watcher pid is.2) is.3) is.4

  move-joined : (fuel : ℕ) (p : Process ℕ Image) (o : Option Between) (m : Machine S) (paused : List Paused) (made : Moved S) → IsMoved w marks table fuel p o m paused made
      → moved_part part made ≡ moved f marks table fuel p o (with_part part m) paused
  move-joined fuel p None m paused made is =
      let end : Ran = ran fuel p.image.regs p.image.memory in
      event-joined p.pid end.done end.event (computing p end.regs end.memory m) paused made is
  move-joined fuel p (Some AtCall) m paused made is = from-move (moved_part part made) is.0 (entry-joined p.pid m made.machine is.1) is.2
  move-joined fuel p (Some (Entered begun)) m paused made is =
      ap (moved_part part) is.leaves ∙ ap (λ (c : Carried Q). plainly_moved p.pid begun.exec c paused) (call-joined p.pid begun.no_shelf m is.carried is.calls)
  move-joined fuel p (Some (Done handed)) m paused made is = from-move (moved_part part made) is.0 (exit-joined p.pid handed m made.machine is.1) is.2

pub steps-are-functions : {S Q : Type 0} (part : S → Q) (w : Watching S) → StepsAreFunctions part w
steps-are-functions part w = record {
  steps = λ f marks table pick fuel p old new graph picked is.
      ap (loose_part part) is.leaves
      ∙ ap (λ (made : Moved _). noted pick p.pid made (loose_part part old)) (move-joined part w f marks table graph fuel p (between_of p.pid old.paused) old.machine old.paused is.made is.moves)
      ∙ sym (ap (λ q. step_of f marks table pick fuel q (loose_part part old)) picked);
  rests = λ f marks table pick fuel l none. ap (λ q. step_of f marks table pick fuel q l) none;
}
