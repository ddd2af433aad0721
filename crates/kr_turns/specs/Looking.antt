-- What is known of a call before it is carried out, by which it is judged afterwards.
use Rattle.std.specs.Prelude.{◌≡◌, ℕ, Bool, List, Option, Some, None}
use Rattle.kr_execve.specs.kr_calls.declared.request.Request.{Request}
use Rattle.kr_execve.specs.kr_view.declared.target.Reach.{Reach}
use Rattle.kr_execve.specs.kr_view.View.{Row}
use Rattle.kr_steps.specs.kr_model.State.{Image, State}
use Rattle.kr_steps.specs.kr_model.Walks.{targets_of}
use Rattle.kr_steps.specs.kr_model.declared.outcome.Outcome.{Outcome}
use Rattle.kr_steps.specs.kr_model.declared.outcome.Outcome.TheVariants.{Answer, Wait, Ended, NoMemory}
use Rattle.kr_steps.specs.law_allowed.Told.{mounts_walked}
use Rattle.kr_calm.specs.kr_seen.Carrying.{with_memory_of}
use Rattle.kr_calm.specs.Foreseen.{call_foreseen}
use Rattle.kr_calm.specs.Rules.{breaks_2}
use Rattle.kr_calm.specs.declared.rule.Rule.{Rule}
use Rattle.kr_turns.specs.Breaking.{asked_of, rule_of}
use Rattle.kr_turns.specs.PlainCall.{row_on}
use Rattle.kr_turns.specs.declared.judging.Ahead.{Ahead}

-- whether a marked byte was read of the caller's memory: as it was known before, where the call ends it, and else by what is left
abbrev pub read_told : Outcome → Bool → Bool → Bool
read_told (Answer value) before after = after
read_told Wait before after = after
read_told Ended before after = before
read_told NoMemory before after = before

module _ (marks : ℕ) (table : List Row) (pid : ℕ) (request : Request) (before : State ℕ Image) where
  -- where marks aren't kept nothing is looked for
  abbrev pub IsAhead : Option Ahead → Type 0
  IsAhead None = marks ≡ 0
  IsAhead (Some a) =
      (a.crosses ≡ breaks_2 table before.tree request (targets_of table pid before request))
      × (a.foreseen ≡ call_foreseen table pid request before)
      × ((row_on table pid request before).reply.outcome ≡ Ended → a.read ≡ (row_on table pid request before).memory.read_marked)

  -- the rule that it breaks, where its walks reach so much
  abbrev pub judged : Bool → Reach → Option Rule
  judged no_shelf reach =
      let done = row_on table pid request before in
      rule_of marks table pid no_shelf (with_memory_of pid done.memory before) done.memory (Some (asked_of marks table pid no_shelf request before)) (mounts_walked (targets_of table pid before request)) done.reply.changes reach
