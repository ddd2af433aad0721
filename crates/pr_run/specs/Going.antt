-- What goes on by slots, one after the other: when it can't, what a slot makes of it, and the run that it makes.
use Rattle.std.specs.Prelude.{◌≡◌, ℕ, zero, suc, Bool, List, [], ◌∷◌, Option, Some, None}
use Rattle.std.specs.Option.{option_map_or}
use Rattle.kr_loose.specs.kr_view.View.{Row}
use Rattle.kr_loose.specs.kr_core.declared.kernel.Turned.{Turned}
use Rattle.kr_loose.specs.kr_core.declared.kernel.Turned.TheVariants as turned
use Rattle.kr_loose.specs.kr_turns.Run.{Deadlock, Ending, Over, Put, Ran, Slot, Spent, after_put, ending_of, put_by}
use Rattle.kr_loose.specs.kr_turns.Turn.{Machine, turn}
use Rattle.pt_tracer.specs.kr_stops.Watching.{Watcher}
use Rattle.kr_loose.specs.LooseRun.{Loose, LooseRan, after_bytes, step}
use Rattle.pr_sources.specs.pr_words.declared.options.Slot.{Slot as SlotOfWords}
use Rattle.pr_run.specs.Slots.{slot_of, slot_told}
use Rattle.pr_run.specs.declared.plan.Plan.{Plan}

-- whether it can't go on, what a slot makes of it, the bytes that it put out, and what is left of it without them
pub record Going (X : Type 0) : Type 0 where
  pub ending : X → Option Ending
  pub slotted : Slot → X → X
  pub put : X → Put
  pub forgets : X → X

-- how what can't go on ends, and what can where no slot is left
abbrev pub or_spent : Option Ending → Ending
or_spent ending = option_map_or (λ e. e) ending Spent

-- ---- a run

-- what became of it: the bytes of each slot, how it ended, and what it left
pub record Went (X : Type 0) : Type 0 where
  pub puts : List Put
  pub ending : Ending
  pub left : X

module _ {X : Type 0} where
  abbrev pub went_put : Put → Went X → Went X
  went_put put went = record { puts = put ∷ went.puts; ending = went.ending; left = went.left }

  abbrev pub went_ended : X → Ending → Went X
  went_ended x ending = record { puts = []; ending = ending; left = x }

module _ {X : Type 0} (g : Going X) (slots : ℕ → Slot) where
  abbrev pub gone : ℕ → X → X
  gone made x = g.slotted (slots made) x

  -- at most `left` slots, after `made` of them; that none is left is tested last
  unfoldable pub went_from : (left made : ℕ) → X → Went X
  went_from zero made x = went_ended x (or_spent (g.ending x))
  went_from (suc left) made x = option_map_or (went_ended x) (g.ending x) (went_put (g.put (gone made x)) (went_from left (suc made) (g.forgets (gone made x))))

-- by a plan
abbrev pub went_by : {X : Type 0} → Going X → Plan → X → Went X
went_by g plan x = went_from g (slot_of plan.schedule) plan.turns 0 x

-- ---- one slot

module _ {X : Type 0} (g : Going X) where
  abbrev pub after_slot : SlotOfWords → X → X
  after_slot slot x = g.slotted (slot_told slot) x

  -- it goes on where it can, and is then such
  abbrev pub GoesTo : SlotOfWords → X → (X → Type 0) → Turned → Type 0
  GoesTo slot x Is turned.Ran = (g.ending x ≡ None) × Is (after_slot slot x)
  GoesTo slot x Is turned.Deadlock = (g.ending x ≡ Some Deadlock) × Is x
  GoesTo slot x Is turned.Over = (g.ending x ≡ Some Over) × Is x

-- ---- turns

-- a machine, turn by turn
abbrev pub by_turns : {S : Type 0} → Watcher S → (marks : ℕ) → List Row → Going (Machine S)
by_turns does marks table = record {
  ending = λ m. ending_of m;
  slotted = λ slot m. turn does marks table slot.pick slot.fuel m;
  put = λ m. put_by m;
  forgets = λ m. after_put m;
}

-- what became of its run
abbrev pub ran_of : {S : Type 0} → Went (Machine S) → Ran S
ran_of went = record { puts = went.puts; ending = went.ending; machine = went.left }

-- ---- steps

-- a loose run, and whether the walks of its start looked up a name in the process directory
abbrev pub Since : Type 0 → Type 0
Since S = Bool × Loose S

-- step by step
abbrev pub by_steps : {S : Type 0} → Watcher S → (marks : ℕ) → List Row → Going (Since S)
by_steps does marks table = record {
  ending = λ x. ending_of x.1.machine;
  slotted = λ slot x. (x.0, step does marks table slot.pick slot.fuel x.1);
  put = λ x. put_by x.1.machine;
  forgets = λ x. (x.0, after_bytes x.1);
}

-- what became of it
abbrev pub went_since : {S : Type 0} → Bool → LooseRan S → Went (Since S)
went_since met ran = record { puts = ran.puts; ending = ran.ending; left = (met, ran.left) }
