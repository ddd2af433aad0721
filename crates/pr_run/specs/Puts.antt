-- What is put of a run: all of it, or what stands where a sink failed or memory ran out.
use Rattle.std.specs.Prelude.{◌≡◌, ◌≢◌, ◌≤◌, ◌⊎◌, ℕ, suc, ◌-◌, true, List, [], ◌++◌, take, slice_get, Option, Some, None, Result, Ok, Err}
use Rattle.pr_sources.specs.pr_io.Drawn.{Received, SinkFailed}
use Rattle.pr_sources.specs.pr_io.Moves.{Gets, GetsPrefix, Stays}
use Rattle.kr_loose.specs.kr_view.View.{Row}
use Rattle.kr_loose.specs.kr_core.Kernel.{Kernel}
use Rattle.kr_loose.specs.kr_core.declared.kernel.Turned.{Turned}
use Rattle.kr_loose.specs.kr_core.declared.kernel.Turned.TheVariants as turned
use Rattle.kr_loose.specs.kr_turns.Run.{Deadlock, Ending, Over, Put, Spent, ending_of}
use Rattle.kr_loose.specs.kr_turns.Turn.{Machine, turn}
use Rattle.pt_tracer.specs.kr_stops.Watching.{Watcher}
use Rattle.pr_sources.specs.pr_words.declared.options.Slot.{Slot}
use Rattle.pr_sources.specs.declared.answer.Answer.{Answer}
use Rattle.pr_sources.specs.declared.answer.Answer.TheVariants as answer
use Rattle.pr_sources.specs.declared.answer.Which.TheVariants as which
use Rattle.pr_run.specs.Going.{Going, after_slot}
use Rattle.pr_run.specs.Report.{Report, errs, outs}
use Rattle.pr_run.specs.declared.turns.Stop.{Stop}
use Rattle.pr_run.specs.declared.turns.Stop.TheVariants as stop
use Rattle.pr_run.specs.declared.turns.End.{End}
use Rattle.pr_run.specs.declared.turns.End.TheVariants as end

abbrev pub stop_answer : Stop → Answer
stop_answer stop.Out = answer.WriteFault which.Out
stop_answer stop.Err = answer.WriteFault which.Err
stop_answer stop.Left = answer.WriteFault which.Left
stop_answer stop.NoMemory = answer.NoMemory

abbrev pub end_told : End → Ending
end_told end.Over = Over
end_told end.Deadlock = Deadlock
end_told end.Spent = Spent

-- ---- a sink

-- it got these bytes; the first ones of them; or none
abbrev pub Got : Received → List ℕ → Type 0
Got sink bytes = Gets sink.before sink.now bytes

abbrev pub GotPrefix : Received → List ℕ → Type 0
GotPrefix sink bytes = GetsPrefix sink.before sink.now bytes

abbrev pub GotNone : Received → Type 0
GotNone sink = Stays sink.before sink.now

-- bytes, and behind them a prefix of a part
abbrev pub GotPast : Received → List ℕ → List ℕ → Type 0
GotPast sink front part = (n : ℕ) × Got sink (front ++ take n part)

-- a sink that wasn't called, by what it got before, and how often it failed before
abbrev pub uncalled : List ℕ → ℕ → Received
uncalled got failed = record { before = got; now = got; failed_before = failed; failed_now = failed }

-- ---- a turn

-- where it stops: a sink fails that is given bytes, or memory runs out before it, or before its error bytes
abbrev pub StopsTurn : Put → (out err : Received) → Stop → Type 0
StopsTurn put out err stop.Out = SinkFailed out × (put.out ≢ []) × GotPrefix out put.out × GotNone err
StopsTurn put out err stop.Err = SinkFailed err × (put.err ≢ []) × Got out put.out × GotPrefix err put.err
StopsTurn put out err stop.Left = ⊥
StopsTurn put out err stop.NoMemory = (GotNone out ⊎ Got out put.out) × GotNone err

abbrev pub PutsTurn : Put → (out err : Received) → Result (Unit {0}) Stop → Type 0
PutsTurn put out err (Ok done) = Got out put.out × Got err put.err
PutsTurn put out err (Err stop) = StopsTurn put out err stop

-- memory may run out while a turn is made, whether one can be made or not
abbrev pub StopsMaking : Option Ending → Put → (out err : Received) → Stop → Type 0
StopsMaking ending put out err stop.NoMemory = (GotNone out × GotNone err) ⊎ ((ending ≡ None) × StopsTurn put out err stop.NoMemory)
StopsMaking ending put out err stop = (ending ≡ None) × StopsTurn put out err stop

module _ {X : Type 0} (g : Going X) where
  -- it goes on by a slot where it can, its bytes are put, and it is then such
  abbrev pub GoesAndPuts : Slot → X → (X → Type 0) → (out err : Received) → Result Turned Stop → Type 0
  GoesAndPuts slot x Is out err (Ok turned.Ran) =
      (g.ending x ≡ None) × Is (g.forgets (after_slot g slot x)) × Got out (g.put (after_slot g slot x)).out × Got err (g.put (after_slot g slot x)).err
  GoesAndPuts slot x Is out err (Ok turned.Deadlock) = (g.ending x ≡ Some Deadlock) × Is x × GotNone out × GotNone err
  GoesAndPuts slot x Is out err (Ok turned.Over) = (g.ending x ≡ Some Over) × Is x × GotNone out × GotNone err
  GoesAndPuts slot x Is out err (Err stop) = StopsMaking (g.ending x) (g.put (after_slot g slot x)) out err stop

-- ---- a turn of a kernel

-- one is made where it can be
abbrev pub MakesTurn : {S : Type 0} → (does : Watcher S) (marks : ℕ) (table : List Row) → Slot → (old new : Machine S) → Turned → Type 0
MakesTurn does marks table slot old new turned.Ran = (ending_of old ≡ None) × (new ≡ turn does marks table slot.pick slot.fuel old)
MakesTurn does marks table slot old new turned.Deadlock = (ending_of old ≡ Some Deadlock) × (new ≡ old)
MakesTurn does marks table slot old new turned.Over = (ending_of old ≡ Some Over) × (new ≡ old)

-- a kernel that goes on after a turn, all of whose processes run
pub record Continues {P S T : Type 0} {M : ℕ} (turns : ℕ) (old new : Kernel P S T M) : Type 0 where
  pub whole : new.whole ≡ true
  pub places : new.places ≡ old.places
  pub turns_are : new.turns ≡ turns
  pub running : new.paused ≡ []
  pub calls : new.calls ≤ suc old.calls

-- one before or after a turn, all of whose processes run, with no more calls than turns
pub record IsBetweenTurns {P S T : Type 0} {M : ℕ} (k : Kernel P S T M) : Type 0 where
  pub whole : k.whole ≡ true
  pub running : k.paused ≡ []
  pub calls : k.calls ≤ k.turns

abbrev pub GoesOn : {P S T : Type 0} {M : ℕ} → Turned → Kernel P S T M → Kernel P S T M → Type 0
GoesOn turned.Ran old new = Continues (suc old.turns) old new
GoesOn turned.Deadlock old new = new ≡ old
GoesOn turned.Over old new = new ≡ old

-- ---- the turns

-- the output failed in a turn with output: the turns before it were put, and a prefix of its own
pub record StopsInOut (puts : List Put) (out err : Received) : Type 0 where
  pub made : ℕ
  pub put : Put
  pub next : slice_get puts made ≡ Some put
  pub some : put.out ≢ []
  pub out_got : GotPast out (outs (take made puts)) put.out
  pub err_got : Got err (errs (take made puts))

-- the error sink failed in a turn with error bytes: the output up to it was put
pub record StopsInErr (puts : List Put) (out err : Received) : Type 0 where
  pub made : ℕ
  pub put : Put
  pub next : slice_get puts made ≡ Some put
  pub some : put.err ≢ []
  pub out_got : Got out (outs (take (suc made) puts))
  pub err_got : GotPast err (errs (take made puts)) put.err

-- memory ran out between turns, or between the output and the error bytes of one
pub record StopsBetween (puts : List Put) (out err : Received) : Type 0 where
  pub made : ℕ
  pub out_got : Got out (outs (take made puts))
  pub err_got : Got err (errs (take made puts)) ⊎ Got err (errs (take (made - 1) puts))

abbrev pub StopsRun : List Put → (out err : Received) → Stop → Type 0
StopsRun puts out err stop.Out = SinkFailed out × StopsInOut puts out err
StopsRun puts out err stop.Err = SinkFailed err × StopsInErr puts out err
StopsRun puts out err stop.Left = ⊥
StopsRun puts out err stop.NoMemory = StopsBetween puts out err

abbrev pub PutsRun : List Put → Ending → (out err : Received) → Result End Stop → Type 0
PutsRun puts ending out err (Ok e) = (ending ≡ end_told e) × Got out (outs puts) × Got err (errs puts)
PutsRun puts ending out err (Err stop) = StopsRun puts out err stop

-- ---- the line on calm, and the listing

abbrev pub PutsCalm : List ℕ → (err : Received) → Result (Unit {0}) Stop → Type 0
PutsCalm calm err (Ok done) = Got err calm
PutsCalm calm err (Err stop.Err) = SinkFailed err × (calm ≢ []) × GotPrefix err calm
PutsCalm calm err (Err stop.NoMemory) = GotNone err
PutsCalm calm err (Err stop.Out) = ⊥
PutsCalm calm err (Err stop.Left) = ⊥

abbrev pub PutsListing : List ℕ → (left : Received) → Result (Unit {0}) Stop → Type 0
PutsListing listing left (Ok done) = Got left listing
PutsListing listing left (Err stop.Left) = SinkFailed left × GotPrefix left listing
PutsListing listing left (Err stop.NoMemory) = GotNone left
PutsListing listing left (Err stop.Out) = ⊥
PutsListing listing left (Err stop.Err) = ⊥

-- ---- the report

-- all bytes of the turns, and the line on calm where one is due
pub record PutsTurns (r : Report) (out err : Received) : Type 0 where
  pub out_got : Got out (outs r.puts)
  pub err_got : Got err (errs r.puts ++ r.calm)

-- the run ended, and the line on calm is due and failed
pub record StopsInCalm (r : Report) (out err : Received) : Type 0 where
  pub due : r.calm ≢ []
  pub out_got : Got out (outs r.puts)
  pub err_got : GotPast err (errs r.puts) r.calm

abbrev pub StopsReport : Report → (out err left : Received) → Stop → Type 0
StopsReport r out err left stop.Out = SinkFailed out × StopsInOut r.puts out err × GotNone left
StopsReport r out err left stop.Err = SinkFailed err × (StopsInErr r.puts out err ⊎ StopsInCalm r out err) × GotNone left
StopsReport r out err left stop.Left = SinkFailed left × PutsTurns r out err × GotPrefix left r.left
StopsReport r out err left stop.NoMemory = (StopsBetween r.puts out err ⊎ PutsTurns r out err) × GotNone left

abbrev pub PutsReport : Report → (out err left : Received) → Result Answer Stop → Type 0
PutsReport r out err left (Ok answer) = (answer ≡ r.answer) × PutsTurns r out err × Got left r.left
PutsReport r out err left (Err stop) = StopsReport r out err left stop

abbrev pub answer_told : Result Answer Stop → Answer
answer_told (Ok answer) = answer
answer_told (Err stop) = stop_answer stop

-- what is answered, with what was put
pub record AnswersReport (r : Report) (out err left : Received) (answer : Answer) : Type 0 where
  pub told : Result Answer Stop
  pub puts : PutsReport r out err left told
  pub answer_is : answer ≡ answer_told told

-- ---- a generated case: the same whatever the error sink is, which isn't called

abbrev pub PutsCase : Report → (out left : Received) → Result Answer Stop → Type 0
PutsCase r out left told = (got : List ℕ) (failed : ℕ) → PutsReport r out (uncalled got failed) left told

abbrev pub AnswersCase : Report → (out left : Received) → Answer → Type 0
AnswersCase r out left answer = (got : List ℕ) (failed : ℕ) → AnswersReport r out (uncalled got failed) left answer
