-- What is kept of a run: the bytes of each turn, how it ended, and the status. The tree stays in its kernel.
use Rattle.std.specs.Prelude.{◌≡◌, List, [], ◌∷◌, ◌++◌, map, Some, None}
use Rattle.pr_sources.specs.kr_tree.Tree.{Tree, nodes}
use Rattle.kr_loose.specs.kr_core.declared.kernel.Turned.{Turned}
use Rattle.kr_loose.specs.kr_core.declared.kernel.Turned.TheVariants as turned
use Rattle.kr_loose.specs.kr_turns.Run.{Deadlock, Ending, Over, Put}
use Rattle.pr_sources.specs.pr_words.declared.options.Slot.{Slot}
use Rattle.pr_sources.specs.declared.answer.Answer.TheVariants as answer
use Rattle.pr_run.specs.Case.{Outcome}
use Rattle.pr_run.specs.Going.{Going, Went, after_slot}
use Rattle.pr_run.specs.Puts.{end_told}
use Rattle.pr_run.specs.Report.{Report}
use Rattle.pr_run.specs.declared.keeping.Kept.{Kept}
use Rattle.pr_run.specs.declared.keeping.Written.{Written}
use Rattle.pr_run.specs.declared.case.CaseTold.{CaseTold}

abbrev pub put_told : Written → Put
put_told w = record { out = w.out; err = w.err }

abbrev pub puts_told : List Written → List Put
puts_told puts = map put_told puts

-- with the tree that the run left
abbrev pub kept_told : Kept → Tree → Outcome
kept_told kept tree = record { puts = puts_told kept.puts.items; ending = end_told kept.end; status = kept.status; tree = nodes tree }

-- it goes on by a slot where it can, its bytes are kept behind those from before, and it is then such
module _ {X : Type 0} (g : Going X) where
  abbrev pub GoesAndKeeps : Slot → X → (X → Type 0) → (before after : List Put) → Turned → Type 0
  GoesAndKeeps slot x Is before after turned.Ran = (g.ending x ≡ None) × Is (g.forgets (after_slot g slot x)) × (after ≡ before ++ g.put (after_slot g slot x) ∷ [])
  GoesAndKeeps slot x Is before after turned.Deadlock = (g.ending x ≡ Some Deadlock) × Is x × (after ≡ before)
  GoesAndKeeps slot x Is before after turned.Over = (g.ending x ≡ Some Over) × Is x × (after ≡ before)

-- all bytes of a run were kept, and this is such as it left
pub record IsKept {X : Type 0} (went : Went X) (Is : X → Type 0) (puts : List Put) (ending : Ending) : Type 0 where
  pub ending_is : went.ending ≡ ending
  pub puts_are : went.puts ≡ puts
  pub left : Is went.left

-- what is put of a case
abbrev pub report_told : CaseTold → Report
report_told told = record {
  puts = record { out = told.summary; err = [] } ∷ [];
  calm = [];
  left = told.listing;
  answer = answer.Ended told.status;
}
