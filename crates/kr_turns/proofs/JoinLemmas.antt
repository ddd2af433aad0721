-- A turn by relations that are graphs of functions on a part of what a watcher keeps is the turn by the functions on that part.
use Rattle.std.proofs.Common.{◌≡◌, ℕ, List, Option, Some, None, sym, ap, ◌∙◌}
use Rattle.kr_steps.specs.rv_cpu.Run.{Ran, ran}
use Rattle.kr_steps.specs.rv_cpu.declared.event.Event.{Event}
use Rattle.kr_steps.specs.rv_cpu.declared.event.Event.TheVariants.{Next, Call, Killed}
use Rattle.kr_execve.specs.kr_view.View.{Row}
use Rattle.kr_steps.specs.kr_model.State.{Image, Process, State, process}
use Rattle.kr_steps.specs.Computing.{computed}
use Rattle.kr_turns.specs.Laws.{TurnsAreFunctions}
use Rattle.kr_turns.specs.Breaking.{plain_rule}
use Rattle.kr_turns.specs.PlainCall.{Came, plain_call}
use Rattle.kr_turns.specs.Shelving.{lacks_in}
use Rattle.kr_steps.specs.kr_stops.Stopped.{Stopped}
use Rattle.kr_turns.specs.Turn.{ExitsIfAny, IsAfterEvent, IsAfterPlain, IsBorn, IsTurnOf, IsWatchedCall, Leaves, Machine, Tally, after_born, after_end, after_event, after_exit, after_plain, by_pick, called, calling, turn_of, watched_call, with_broken, with_part}
use Rattle.kr_steps.specs.kr_stops.Watching.{IsGraph, Watcher, Watching}
use Rattle.kr_turns.specs.declared.plain.CallEnd.{CallEnd}
use Rattle.kr_turns.specs.declared.plain.CallEnd.TheVariants as end

from-parts : {Q : Type 0} (m : Machine Q) {s : State ℕ Image} {x : Q} {n : Tally} → m.state ≡ s → m.watcher ≡ x → m.tally ≡ n → m ≡ record { state = s; watcher = x; tally = n }
from-parts m e h k = λ j. record { state = e j; watcher = h j; tally = k j }

module _ {S Q : Type 0} (part : S → Q) (w : Watching S) (f : Watcher Q) (marks : ℕ) (table : List Row) (graph : IsGraph part w f) where
  born-joined : (pid : ℕ) (child : Option ℕ) (x y : S) → IsBorn w pid child x y → part y ≡ after_born f pid child (part x)
  born-joined pid None x y is = ap part is
  born-joined pid (Some child) x y is = graph.bears x y pid child is

  exit-joined : (t : Stopped) (x : S) (tally : Tally) (m : Machine S) (p : Option (Process ℕ Image)) → ExitsIfAny w t x tally m p → with_part part m ≡ after_exit f t (part x) tally p
  exit-joined t x tally m None is = ap (with_part part) is
  exit-joined t x tally m (Some p) is =
      let e = graph.exits x m.watcher t is.left is.exits in
      from-parts (with_part part m) (is.state ∙ ap (λ (left : Q × Stopped). left.1.state) e) (ap (λ (left : Q × Stopped). left.0) e) is.same

  end-joined : (pid : ℕ) (e : CallEnd) (t : Stopped) (x : S) (tally : Tally) (m : Machine S) → Leaves w pid e t x tally m → with_part part m ≡ after_end f pid e t (part x) tally
  end-joined pid end.Answered t x tally m is = exit-joined t x tally m (process pid t.state) is
  end-joined pid end.Replaced t x tally m is = exit-joined t x tally m (process pid t.state) is
  end-joined pid end.Waits t x tally m is = ap (with_part part) is
  end-joined pid (end.Ended told) t x tally m is = from-parts (with_part part m) is.0 (graph.forgets x m.watcher pid is.1) is.2

  plain-joined : (pid : ℕ) (came : Came) (x : S) (tally : Tally) (m : Machine S) → IsAfterPlain w pid came x tally m → with_part part m ≡ after_plain f pid came (part x) tally
  plain-joined pid came x tally m is =
      end-joined pid came.end (called pid came) is.bearing tally m is.leaves
      ∙ ap (λ (y : Q). after_end f pid came.end (called pid came) y tally) (born-joined pid came.child x is.bearing is.born)

  call-joined : (pid : ℕ) (old new : Machine S) → IsWatchedCall w marks table pid old new → with_part part new ≡ watched_call f marks table pid (with_part part old)
  call-joined pid old new is =
      let lacks = lacks_in marks pid old.state in
      plain-joined pid (plain_call table pid is.entered.state) is.entering (with_broken (plain_rule marks table pid lacks is.entered.state) old.tally) new is.after
      ∙ ap (λ (entered : Q × Stopped). after_plain f pid (plain_call table pid entered.1.state) entered.0 (with_broken (plain_rule marks table pid lacks entered.1.state) old.tally))
      (graph.enters old.watcher is.entering (calling marks pid old.state) is.entered is.enters)

  event-joined : (pid : ℕ) (e : Event) (old new : Machine S) → IsAfterEvent w marks table pid e old new → with_part part new ≡ after_event f marks table pid e (with_part part old)
  event-joined pid Next old new is = ap (with_part part) is
  event-joined pid Call old new is = call-joined pid old new is
  event-joined pid (Killed signal) old new is = from-parts (with_part part new) is.0 (graph.forgets old.watcher new.watcher pid is.1) is.2

  turn-joined : (fuel : ℕ) (p : Process ℕ Image) (old new : Machine S) → IsTurnOf w marks table fuel p old new → with_part part new ≡ turn_of f marks table fuel p (with_part part old)
  turn-joined fuel p old new is =
      let end : Ran = ran fuel p.image.regs p.image.memory in
      event-joined p.pid end.event (record { state = computed p.pid end.regs end.memory old.state; watcher = old.watcher; tally = old.tally }) new is

pub turns-are-functions : {S Q : Type 0} (part : S → Q) (w : Watching S) → TurnsAreFunctions part w
turns-are-functions part w = record {
  turns = λ f marks table pick fuel p old new graph picked is.
      turn-joined part w f marks table graph fuel p old new is ∙ sym (ap (λ q. by_pick f marks table fuel q (with_part part old)) picked);
  rests = λ f marks table pick fuel m none. ap (λ q. by_pick f marks table fuel q m) none;
}
