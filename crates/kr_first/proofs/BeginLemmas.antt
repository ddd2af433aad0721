-- A plan that was loaded begins, and what it leaves is the state of the definition, on which calls can go on.
use Rattle.std.proofs.Common.{◌≡◌, ℕ, ◌≤◌, true, false, List, Some, refl, sym, ap, subst, ◌∙◌}
use Rattle.std.specs.Prelude.{Ok}
use Rattle.kr_start.specs.kr_inode.declared.user.User.{User}
use Rattle.kr_start.specs.kr_tree.declared.place.Place.{Place}
use Rattle.kr_start.specs.kr_tree.Lawful.{AreBytes, IsKept}
use Rattle.kr_start.specs.kr_tree.Tree.{Tree}
use Rattle.kr_execve.specs.kr_view.Leads.{numbered}
use Rattle.kr_execve.specs.kr_view.View.{Row, StandsIn}
use Rattle.kr_start.specs.elf_load.declared.image.Image as loaded
use Rattle.kr_start.specs.law_allowed.Lasting.{Lasts}
use Rattle.kr_start.specs.law_allowed.Texts.{IsText}
use Rattle.kr_start.specs.Beginning.{CanLast}
use Rattle.kr_start.specs.law_allowed.Told.{SourcesAreNamed}
use Rattle.kr_execve.proofs.kr_perform.TextLemmas.{text_bytes}
use Rattle.kr_start.specs.kr_model.Lawful.{IsLawful}
use Rattle.kr_start.specs.kr_model.MemoryRows.{pages_end}
use Rattle.kr_start.specs.kr_model.State as model
use Rattle.kr_start.specs.kr_ops.declared.state.State.{State}
use Rattle.kr_start.specs.kr_ops.Meaning.{meaning}
use Rattle.kr_start.specs.kr_ops.Sound.{IsServed}
use Rattle.kr_execve.specs.kr_seen.Numbered.{state_numbered}
use Rattle.kr_execve.specs.kr_exec.Answers.{plan_numbered}
use Rattle.kr_execve.specs.kr_exec.Finding.{is_program}
use Rattle.kr_execve.specs.kr_exec.Lists.{at_least_one}
use Rattle.kr_execve.specs.kr_exec.declared.plan.ExecPlan.{ExecPlan}
use Rattle.kr_execve.specs.Executing.{IsLoadable}
use Rattle.kr_execve.proofs.LoadingLemmas.{break-within}
use Rattle.kr_execve.proofs.ProgramLemmas.{program-file}
use Rattle.kr_start.specs.Laws.{StartsLast}
use Rattle.kr_start.specs.Start as beginning
use Rattle.kr_start.specs.Start.{first_of, pinned, started, without_processes, CanBegin, IsIdle, IsReady}
use Rattle.kr_execve.specs.kr_perform.Calling.{Runs}
use Rattle.kr_first.specs.declared.starting.First.{First}
use Rattle.kr_first.specs.Started.{Gives}
use Rattle.kr_first.specs.Starting.{directory_at, idle_state, plan_of, process_of, start_of}
use Rattle.kr_first.proofs.DefinitionLemmas.{loaded-is}
use Rattle.kr_first.proofs.NumberLemmas.{first_numbered, started-numbered}
use Rattle.kr_first.proofs.StandingLemmas.{directory-stands, plan-stands}

module _ {T : Type 0} {M : ℕ} (number : T → ℕ) (table : List Row) (tree : Tree) (user : User) (first : First) (base : Place T) (cwd : directory_at table tree user first.cwd ≡ Some (numbered number base)) (args : List (List ℕ))
    (plan : ExecPlan T) (planned : plan_of table tree user (numbered number base) first.path args first.env ≡ Ok (plan_numbered number plan)) (image : loaded.Image M) (room : ℕ) (gives : Gives tree first.ids plan room (Ok image)) where
  -- what begins
  abbrev own : beginning.First T
  own = first_of image base plan.place plan.dir plan.name

  pub can-begin : IsKept tree → StandsIn tree table → CanLast tree user → SourcesAreNamed table → IsText first.path → AreBytes first.path → is_program tree user plan.place.host ≡ true → IsLoadable tree plan → CanBegin number table tree own
  can-begin kept stands lasts sources text bytes program loadable =
      let directory = directory-stands table tree user kept stands first.cwd (numbered number base) cwd in
      let file = program-file tree user plan.place.host program in
      let there = plan-stands table tree user kept stands lasts.texts sources (numbered number base) directory.0 first.path args first.env (plan_numbered number plan) (text_bytes first.path text bytes) planned file in
      record {
        cwd = directory;
        exe = (there.0, file);
        exe_name = there.1;
        break = subst (λ n. n ≤ pages_end) (sym gives.3) (break-within tree plan loadable);
      }

  -- it is what the definition has
  own-numbered : first_numbered number own ≡ process_of tree first.ids (numbered number base) (plan_numbered number plan)
  own-numbered = λ i. record {
    image = record { regs = gives.1 i; memory = gives.2 i };
    brk = gives.3 i;
    cwd = numbered number base;
    exe = numbered number plan.place;
    exe_dir = plan.dir;
    exe_name = plan.name;
  }

  module _ (input : List ℕ) (idle : State T M) (means : meaning idle ≡ without_processes (pinned table tree) user input) where
    is-idle : IsIdle (meaning idle)
    is-idle = subst IsIdle (sym means) (record { living = refl; ended = refl; files = refl; next_pid = refl })

    pub is-ready : IsLawful number table (meaning idle) → IsServed idle → CanBegin number table idle.tree own → IsReady own idle
    is-ready lawful served begins = record { number = number; table = table; lawful = lawful; served = served; idle = is-idle; begins = begins }

    module _ (new : State T M) (is : meaning new ≡ started own (meaning idle)) where
      pub state-is : args ≡ at_least_one first.args → start_of table tree user input first ≡ Ok (state_numbered number (meaning new))
      state-is given =
          loaded-is table tree user input first (numbered number base) cwd args given (plan_numbered number plan) planned false gives.0
          ∙ sym (ap (λ (s : model.State ℕ model.Image). Ok s) (
          ap (state_numbered number) (is ∙ ap (started own) means)
          ∙ started-numbered number own (pinned table tree) user input
          ∙ ap (λ (f : beginning.First ℕ). started f (idle_state table tree user input)) own-numbered
          ))

      pub runs-on : StartsLast T → CanLast tree user → IsLawful number table (meaning new) → IsServed new → Runs number table 0 new
      runs-on law lasts lawful served =
          let before : Lasts 0 (meaning idle) = subst (λ (s : model.State T model.Image). Lasts 0 s) (sym means) (law.before table tree user input lasts) in
          record {
            lasts = record { lawful = lawful; lasts = subst (λ (s : model.State T model.Image). Lasts 0 s) (sym is) (law.begun own (meaning idle) is-idle before) };
            served = served;
          }
