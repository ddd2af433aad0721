-- The changes of an execve can all be made, one behind the other, and leave a lawful state.
use Rattle.std.proofs.Common.{◌≡◌, ℕ, true, List, Option, Some, None, refl, sym, subst}
use Rattle.std.specs.Prelude.{IsSome}
use Rattle.std.specs.Option.{option_map, option_map_or}
use Rattle.elf_load.specs.Image.{program_break}
use Rattle.kr_exec.specs.kr_view.InTree.{IsPlaceOf}
use Rattle.kr_exec.specs.kr_view.Leads.{numbered}
use Rattle.kr_exec.specs.kr_view.View.{Row}
use Rattle.kr_perform.specs.kr_model.Applied.{Mounts, applied, executed, images, with_exe, with_living, with_program}
use Rattle.kr_perform.specs.kr_model.Change.{OfFound, ReplaceExecutable}
use Rattle.kr_perform.specs.kr_model.Conditions.{CanBeMade}
use Rattle.kr_perform.specs.kr_model.Lawful.{IsLawful, IsNameOrNone, is_file_at}
use Rattle.kr_perform.specs.kr_model.State.{Image, Process, State, at_pid, process, with_process}
use Rattle.kr_perform.specs.law_lawful.Laws.{CanAllBeMade}
use Rattle.kr_perform.proofs.law_lawful.ChangeLemmas.{changes-keep}
use Rattle.kr_perform.proofs.law_lawful.ProcessChangeLemmas.{found}
use Rattle.kr_exec.specs.declared.plan.ExecPlan.{ExecPlan}
use Rattle.kr_execve.specs.Execution.{image_of}
use Rattle.kr_execve.specs.Executing.{CanBeLoaded, image_change, program_changes}

some-of-map : {A B : Type 0} (f : A → B) (o : Option A) → IsSome o → IsSome (option_map f o)
some-of-map f None there = absurd cc
some-of-map f (Some x) there = refl

-- a process that is changed still lives
pub still-lives : {T : Type 0} (pid : ℕ) (f : Process T Image → Process T Image) → ((p : Process T Image) → (f p).pid ≡ p.pid) → (s : State T Image) → IsSome (process pid s) → IsSome (process pid (with_living (with_process pid f) s))
still-lives pid f same s lives = subst IsSome (sym (found pid f same pid s.living)) (some-of-map (at_pid pid f) (process pid s) lives)

module _ {T : Type 0} (number : T → ℕ) (table : List Row) (pid : ℕ) (s : State T Image) (plan : ExecPlan T) (lawful : IsLawful number table s) (lives : IsSome (process pid s)) (can : CanBeLoaded pid s plan)
    (stands : IsPlaceOf s.tree table (numbered number plan.place)) (is_file : is_file_at s.tree plan.place.host ≡ true) (named : IsNameOrNone plan.name) (mounts : Mounts T) (taken : mounts.found ≡ Some plan.place.mount) where
  -- with the image, and then with the executable
  abbrev pub loaded_state : State T Image
  loaded_state = applied images mounts pid (image_change s plan) s

  abbrev pub executing_state : State T Image
  executing_state = applied images mounts pid (ReplaceExecutable OfFound plan.place.host plan.dir plan.name) loaded_state

  pub loaded-lives : IsSome (process pid loaded_state)
  loaded-lives = still-lives pid (with_program (image_of s.tree s.user plan) (program_break plan.plan)) (λ p. refl) s lives

  pub loaded-lawful : IsLawful number table loaded_state
  loaded-lawful = (changes-keep T number table mounts pid).replace_image (image_of s.tree s.user plan) (program_break plan.plan) s lawful lives can

  can-execute : CanBeMade number table mounts pid loaded_state (ReplaceExecutable OfFound plan.place.host plan.dir plan.name)
  can-execute = (record { mount = plan.place.mount; taken = taken; stands = record { mounted = stands.mounted; object = stands.object } }, is_file, named)

  pub executing-lawful : IsLawful number table executing_state
  executing-lawful = (changes-keep T number table mounts pid).replace_executable OfFound plan.place.host plan.dir plan.name loaded_state loaded-lawful loaded-lives can-execute

  executing-lives : IsSome (process pid executing_state)
  executing-lives =
      subst (λ (o : Option T). IsSome (process pid (option_map_or (λ m. executed pid plan.place.host plan.dir plan.name m loaded_state) o loaded_state))) (sym taken)
      (still-lives pid (with_exe (record { mount = plan.place.mount; host = plan.place.host }) plan.dir plan.name) (λ p. refl) loaded_state loaded-lives)

  pub can-all : CanAllBeMade number table mounts pid s (program_changes s plan)
  can-all = (lives, can, (loaded-lives, can-execute, (executing-lives, tt, tt)))
