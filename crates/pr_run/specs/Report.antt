-- The report of a run: what its turns put out, whether it was calm, the listing of the tree that it left, and the answer.
use Rattle.std.specs.Prelude.{ℕ, Bool, List, [], ◌∷◌, ◌++◌, codes, Option, Some, None, if◌then◌else◌}
use Rattle.std.specs.Option.{option_map}
use Rattle.std.specs.Fmt.{decimal}
use Rattle.pr_sources.specs.kr_text.Canonical.{canonical}
pub use Rattle.kr_loose.specs.kr_turns.Run.{Deadlock, Ending, Over, Spent}
use Rattle.kr_loose.specs.kr_turns.Run.{Put, Ran}
use Rattle.kr_loose.specs.kr_calm.Calm.{rule_number}
use Rattle.kr_loose.specs.kr_calm.declared.rule.Rule.{Rule}
use Rattle.pr_sources.specs.declared.answer.Answer.{Answer}
use Rattle.pr_sources.specs.declared.answer.Answer.TheVariants as answer
use Rattle.pr_run.specs.declared.plan.Plan.{Plan}

-- ---- bytes

-- a part of what each turn put out, one after the other
abbrev pub gathered : (Put → List ℕ) → List Put → List ℕ
gathered part [] = []
gathered part (put ∷ puts) = part put ++ gathered part puts

abbrev pub out_part : Put → List ℕ
out_part put = put.out

abbrev pub err_part : Put → List ℕ
err_part put = put.err

abbrev pub outs : List Put → List ℕ
outs puts = gathered out_part puts

abbrev pub errs : List Put → List ℕ
errs puts = gathered err_part puts

-- ---- calm

-- by the number of the rule that was broken first
abbrev pub calm_line : Option ℕ → List ℕ
calm_line None = codes "calm: yes" ++ 10 ∷ []
calm_line (Some rule) = codes "calm: rule " ++ decimal rule ++ 10 ∷ []

-- told where it is asked for
abbrev pub calm_told : Bool → Option ℕ → List ℕ
calm_told asked broken = if asked then calm_line broken else []

abbrev pub calm_part : Bool → Option Rule → List ℕ
calm_part asked broken = calm_told asked (option_map rule_number broken)

-- ---- the whole

-- an ended run has the status of the process that ended last
abbrev pub answer_of : Ending → ℕ → Answer
answer_of Over status = answer.Ended status
answer_of Deadlock status = answer.Deadlock
answer_of Spent status = answer.Spent

pub record Report : Type 0 where
  pub puts : List Put
  pub calm : List ℕ
  pub left : List ℕ
  pub answer : Answer

abbrev pub report_of : {S : Type 0} → Plan → Ran S → Report
report_of plan ran = record {
  puts = ran.puts;
  calm = calm_part plan.calm ran.machine.tally.broken;
  left = canonical ran.machine.state.tree plan.user;
  answer = answer_of ran.ending ran.machine.tally.status;
}
