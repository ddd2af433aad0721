-- A state whose mounts are told by their numbers is asked and changed as the state itself is. So what the code leaves of a state
-- with mounts of its own is told by the definitions of calls, which tell mounts by their numbers.
use Rattle.std.specs.Prelude.{◌≡◌, ℕ, ◌%◌, Bool, List, length, slice_get, Option, map as map_list}
use Rattle.std.specs.List.{filter}
use Rattle.std.specs.Option.{option_map, option_map_or}
use Rattle.kr_ops.specs.kr_view.Leads.{numbered}
use Rattle.kr_ops.specs.kr_files.Files.{file_at}
use Rattle.kr_ops.specs.kr_model.Applied.{Computing, Mounts, all_applied, applied, cwd_of, exe_of, with_image, with_living}
use Rattle.kr_ops.specs.kr_model.Change.{Change}
use Rattle.kr_ops.specs.kr_model.Known.{known, pages_in_all}
use Rattle.kr_ops.specs.kr_model.State.{Layout, Process, State, named, opened, place_of, process, with_process}
use Rattle.kr_seen.specs.Numbered.{opened_numbered, process_numbered, state_numbered, table_numbered}
use Rattle.kr_seen.specs.Mounts.{mounts_numbered}

-- ---- what is asked of a state

-- its processes, the meanings of their descriptors, what is open, and where processes stand
pub record LooksAreNumbered (T X : Type 0) : Type 0 where
  pub processes : (number : T → ℕ) (pid : ℕ) (s : State T X) → process pid (state_numbered number s) ≡ option_map (process_numbered number) (process pid s)
  pub descriptors : (number : T → ℕ) (pid fd : ℕ) (s : State T X) → named pid fd (state_numbered number s) ≡ named pid fd s
  pub opened_files : (number : T → ℕ) (pid fd : ℕ) (s : State T X) → opened pid fd (state_numbered number s) ≡ option_map (opened_numbered number) (opened pid fd s)
  pub files : (number : T → ℕ) (n : ℕ) (s : State T X) → file_at (table_numbered number s.files) n ≡ option_map (opened_numbered number) (file_at s.files n)
  pub places : (number : T → ℕ) (n : ℕ) (s : State T X) → place_of (table_numbered number s.files) n ≡ option_map (numbered number) (place_of s.files n)
  pub directories : (number : T → ℕ) (pid : ℕ) (s : State T X) → cwd_of pid (state_numbered number s) ≡ option_map (numbered number) (cwd_of pid s)
  pub executables : (number : T → ℕ) (pid : ℕ) (s : State T X) → exe_of pid (state_numbered number s) ≡ option_map (numbered number) (exe_of pid s)

-- what is the same of each process with numbers is the same of the one that is looked up, or of none
abbrev pub ProcessesAreAsked : Type 0 → Type 0 → Type 0 → Type 0
ProcessesAreAsked T X A =
    (number : T → ℕ) (f : Process T X → A) (g : Process ℕ X → A) → ((p : Process T X) → g (process_numbered number p) ≡ f p)
    → (other : A) (pid : ℕ) (s : State T X) → option_map_or g (process pid (state_numbered number s)) other ≡ option_map_or f (process pid s) other

-- all that calls know, and the room that all processes take
pub record KnownIsNumbered (T X : Type 0) : Type 0 where
  pub calls : (number : T → ℕ) (layout : X → Layout) (pid : ℕ) (s : State T X) → known layout pid (state_numbered number s) ≡ known layout pid s
  pub room : (number : T → ℕ) (layout : X → Layout) (s : State T X) → pages_in_all layout (state_numbered number s).living ≡ pages_in_all layout s.living

-- ---- what is made of it

-- one change, and changes in their order
pub record ChangesAreNumbered (T X : Type 0) : Type 0 where
  pub one : (number : T → ℕ) (computing : Computing X) (mounts : Mounts T) (pid : ℕ) (c : Change) (s : State T X)
      → state_numbered number (applied computing mounts pid c s) ≡ applied computing (mounts_numbered number mounts) pid c (state_numbered number s)
  pub all : (number : T → ℕ) (computing : Computing X) (mounts : Mounts T) (pid : ℕ) (cs : List Change) (s : State T X)
      → state_numbered number (all_applied computing mounts pid cs s) ≡ all_applied computing (mounts_numbered number mounts) pid cs (state_numbered number s)

-- what is done to one process: anything that is the same of each process with numbers, so what is done to what it computes on,
-- also before changes
pub record StepsAreNumbered (T X : Type 0) : Type 0 where
  pub of_process : (number : T → ℕ) (pid : ℕ) (f : Process T X → Process T X) (g : Process ℕ X → Process ℕ X)
      → ((p : Process T X) → process_numbered number (f p) ≡ g (process_numbered number p))
      → (s : State T X) → state_numbered number (with_living (with_process pid f) s) ≡ with_living (with_process pid g) (state_numbered number s)
  pub of_image : (number : T → ℕ) (pid : ℕ) (f : X → X) (s : State T X)
      → state_numbered number (with_living (with_process pid (with_image f)) s) ≡ with_living (with_process pid (with_image f)) (state_numbered number s)
  pub then_changes : (number : T → ℕ) (computing : Computing X) (mounts : Mounts T) (pid : ℕ) (f : X → X) (cs : List Change) (s : State T X)
      → state_numbered number (all_applied computing mounts pid cs (with_living (with_process pid (with_image f)) s))
      ≡ all_applied computing (mounts_numbered number mounts) pid cs (with_living (with_process pid (with_image f)) (state_numbered number s))

-- ---- what is chosen of its processes

-- the one of a list that a number picks, counted round
abbrev pub picked : {A : Type 0} → List A → ℕ → Option A
picked xs pick = slice_get xs (pick % length xs)

-- the processes that pass a test which is the same of each process with numbers, and the one of them that is picked
pub record ChoicesAreNumbered (T X : Type 0) : Type 0 where
  pub passing : (number : T → ℕ) (test : Process T X → Bool) (other : Process ℕ X → Bool) → ((p : Process T X) → other (process_numbered number p) ≡ test p)
      → (s : State T X) → filter other (state_numbered number s).living ≡ map_list (process_numbered number) (filter test s.living)
  pub picks : (number : T → ℕ) (test : Process T X → Bool) (other : Process ℕ X → Bool) → ((p : Process T X) → other (process_numbered number p) ≡ test p)
      → (s : State T X) (pick : ℕ) → picked (filter other (state_numbered number s).living) pick ≡ option_map (process_numbered number) (picked (filter test s.living) pick)
