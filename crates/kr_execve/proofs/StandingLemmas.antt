-- The file that an execve plans stands in the view, and has a well-formed name or none.
use Rattle.std.proofs.Common.{◌≡◌, ℕ, true, List, Some}
use Rattle.std.specs.Prelude.{Ok}
use Rattle.std.specs.List.{All}
use Rattle.kr_exec.proofs.kr_tree.CountLemmas.{there}
use Rattle.kr_exec.specs.kr_view.declared.target.Target.{Target}
use Rattle.kr_exec.specs.kr_view.Answers.{told}
use Rattle.kr_exec.specs.kr_view.InTree.{IsPlaceOf, StandsAround}
use Rattle.kr_exec.specs.kr_view.View.{Row}
use Rattle.kr_exec.specs.kr_view.Walk.{PlaceTarget}
use Rattle.kr_perform.specs.law_allowed.Texts.{LinksHaveTexts}
use Rattle.kr_perform.specs.kr_model.Lawful.{IsLawful, IsNameOrNone, is_file_at}
use Rattle.kr_perform.specs.kr_model.ProcessDirectory.{around_of}
use Rattle.kr_perform.specs.kr_model.State.{Image, Process, State, process}
use Rattle.kr_perform.specs.law_allowed.Told.{SourcesAreNamed}
use Rattle.kr_perform.proofs.AroundLemmas.{lead_to_places, leads_texts}
use Rattle.kr_perform.proofs.TextLemmas.{IsTextByte}
use Rattle.kr_exec.specs.Exec.{exec_plan}
use Rattle.kr_exec.specs.Finding.{program_at}
use Rattle.kr_exec.specs.declared.plan.ExecPlan.{ExecPlan}
use Rattle.kr_execve.proofs.ProgramLemmas.{planned-stands, program-stands, IsStanding}

module _ (table : List Row) (pid : ℕ) (s : State ℕ Image) (lawful : IsLawful (λ m. m) table s) (links : LinksHaveTexts s.tree) (p : Process ℕ Image) (lives : process pid s ≡ Some p) where
  stands : StandsAround (around_of table pid s) p.cwd
  stands = record {
    sound = lawful.tree.sound;
    inodes = there s.tree lawful.tree.sound lawful.tree.counted;
    mounts = lawful.mounts;
    leads = lead_to_places table s lawful pid;
    begins = (lawful.processes pid p lives).cwd.0;
  }

  pub found-stands : (path : List ℕ) (w : PlaceTarget) → All IsTextByte path → program_at (around_of table pid s) p.cwd path ≡ Ok w → IsStanding s.tree table (told w)
  found-stands = program-stands (around_of table pid s) p.cwd stands lawful.tree.bytes links (leads_texts table s lawful pid)

  pub plan-stands : SourcesAreNamed table → (found : Target ℕ) (path : List ℕ) (args env : List (List ℕ)) (plan : ExecPlan ℕ) → IsStanding s.tree table found → exec_plan (around_of table pid s) p.cwd found path args env ≡ Ok plan
      → is_file_at s.tree plan.place.host ≡ true → IsPlaceOf s.tree table plan.place × IsNameOrNone plan.name
  plan-stands = planned-stands (around_of table pid s) p.cwd stands lawful.tree.bytes links (leads_texts table s lawful pid)
