-- Scripts that are expanded over two ways to find programs.
use Rattle.std.specs.Prelude.{◌≡◌, ℕ, List, Option, Result, Ok, Err}
use Rattle.kr_first.specs.pr_base.declared.errno.Errno.{Errno}
use Rattle.kr_first.specs.pt_bind.Tags.{TagTable}
use Rattle.law_edits.specs.pt_script.Programs as tracer
use Rattle.law_edits.specs.pt_script.declared.program.Program.{Program}
use Rattle.kr_first.specs.kr_calls.Expansion.{Expanded, Finding, expanded}
use Rattle.kr_first.specs.kr_tree.declared.place.Place.{Place}
use Rattle.kr_first.specs.kr_view.Answers.{told}
use Rattle.kr_first.specs.kr_view.View.{Row}
use Rattle.kr_first.specs.kr_view.Walk.{PlaceTarget}
use Rattle.kr_first.specs.kr_view.declared.target.Target.{Target}
use Rattle.kr_first.specs.kr_exec.Interpreters as kernel
use Rattle.law_edits.specs.kr_model.ProcessDirectory.{around_of}
use Rattle.law_edits.specs.kr_model.State.{State}
use Rattle.law_edits.specs.law_walks.Scene.{IsMatched}
use Rattle.law_programs.specs.Finding.{IsSameProgram, WorksAt, scene_here, texts_here}

-- ---- two ways to find

module _ {F G : Type 0} (Same : F → G → Type 0) where
  pub data FoundAlike : Result F Errno → Result G Errno → Type 0 where
    both_refused : (e : Errno) → FoundAlike (Err e) (Err e)
    both_found : {f : F} {g : G} → Same f g → FoundAlike (Ok f) (Ok g)

  -- they find the same along each path, and what is the same begins alike
  pub record FindAlike (one : Finding F) (other : Finding G) : Type 0 where
    pub finds : (path : List ℕ) → FoundAlike (one.find path) (other.find path)
    pub heads : (f : F) (g : G) → Same f g → one.head f ≡ other.head g

  -- what runs in the end
  pub record EndsAlike (a : Expanded F) (b : Expanded G) : Type 0 where
    pub file : Same a.file b.file
    pub args : a.args ≡ b.args
    pub scripts : a.scripts ≡ b.scripts

  pub data ExpandedAlike : Result (Expanded F) Errno → Result (Expanded G) Errno → Type 0 where
    both_fail : (e : Errno) → ExpandedAlike (Err e) (Err e)
    both_run : {a : Expanded F} {b : Expanded G} → EndsAlike a b → ExpandedAlike (Ok a) (Ok b)

-- ---- a kernel's and a tracer's

module _ {X : Type 0} (table : List Row) (s : State ℕ X) (caller : ℕ) (tags : TagTable) where
  -- a kernel keeps of a target what its caller is told of it
  pub record IsSameTold (f : Target ℕ) (program : Program) : Type 0 where
    pub target : PlaceTarget
    pub told : f ≡ told target
    pub same : IsSameProgram table s caller tags target program

-- from the program that was found along the path of a call
abbrev pub ExpansionsAgree : Type 0 → Type 0
ExpansionsAgree X =
    (table : List Row) (s : State ℕ X) (caller : ℕ) (tags : TagTable) (base : Place ℕ) (working : Option (List ℕ)) (env_bytes left : ℕ) (target : PlaceTarget) (program : Program) (path : List ℕ) (args : List (List ℕ))
    → IsMatched (scene_here table s caller tags) → WorksAt table s caller tags base working → IsSameProgram table s caller tags target program
    → ExpandedAlike (IsSameTold table s caller tags) (expanded (kernel.programs (around_of table caller s) base) env_bytes left (told target) path args)
    (expanded (tracer.programs (texts_here table s caller tags) working) env_bytes left program path args)
