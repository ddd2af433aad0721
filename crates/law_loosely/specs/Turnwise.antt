-- A calm run over mounts and the run that a tracer watches, by any slots: they come to the same, and what lasts of the watched machine is known behind
-- each of its turns.
use Rattle.std.specs.Prelude.{◌≡◌, ◌≤◌, ℕ, List, None, Ok}
use Rattle.law_machines.specs.pr_words.declared.launch.Launch.{Launch}
use Rattle.law_machines.specs.kr_inode.declared.user.User.{User}
use Rattle.law_machines.specs.kr_mounts.Standing.{texts_of}
use Rattle.law_machines.specs.kr_tree.Tree.{Tree}
use Rattle.law_machines.specs.kr_turns.Run.{Slot, run}
use Rattle.law_machines.specs.kr_turns.Turn.{Machine}
use Rattle.law_machines.specs.kr_view.View.{Row, plain}
use Rattle.law_machines.specs.pr_run.declared.plan.Plan.{Plan}
use Rattle.law_machines.specs.pr_start.Beginning.{beginning}
use Rattle.law_machines.specs.pr_start.Machines.{Nobody, Watch, watch}
use Rattle.law_machines.specs.pr_start.TracedBeginning.{Tracing, traced_beginning, tracer}
use Rattle.law_machines.specs.Agreeing.{CanBeTold}
use Rattle.law_machines.specs.law_turns.kr_steps.Calls.{LastsLawful}
use Rattle.law_machines.specs.law_turns.law_kept.Bytes.{HasBytes}
use Rattle.law_machines.specs.law_turns.Runs.{ComeAlike}

-- a watched machine behind at most so many turns: it is lawful with what lasts, and made of bytes
pub record LastsWithin (most : ℕ) (n : Machine Tracing) : Type 0 where
  pub made : ℕ
  pub few : made ≤ most
  pub lasts : LastsLawful (λ k. k) plain made n.state
  pub bytes : HasBytes n.state

-- both runs come to the same, and the watched machine lasts behind each number of turns
pub record GoesAlong (table : List Row) (slots : ℕ → Slot) (turns : ℕ) (m : Machine Watch) (n : Machine Tracing) : Type 0 where
  pub alike : ComeAlike (run watch 1 table slots turns m) (run tracer 0 plain slots turns n)
  pub lasts : (left : ℕ) → left ≤ turns → LastsWithin left (run tracer 0 plain slots left n).machine

-- so it is where both begin on the same words, without an identity, and the run over mounts breaks no calm rule. Its slots may be any, as many as the
-- plan has turns
abbrev pub CalmRunsLast : Type 0
CalmRunsLast =
    (plan : Plan) (table : List Row) (tree : Tree) (user : User) (launch : Launch) (input : List ℕ) → CanBeTold plan table tree user launch input
    → (m : Machine Watch) (n : Machine Tracing) → beginning table tree user Nobody launch input ≡ Ok m → traced_beginning (texts_of table) tree user None launch input ≡ Ok n
    → (slots : ℕ → Slot) (turns : ℕ) → turns ≤ plan.turns → (run watch 1 table slots turns m).machine.tally.broken ≡ None → GoesAlong table slots turns m n
