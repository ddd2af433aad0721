-- A program that a kernel with mounts finds by a walk over places, and a tracer by one over guest texts.
use Rattle.std.specs.Prelude.{◌≡◌, ℕ, true, List, Option, Some, Result, Ok, Err}
use Rattle.kr_first.specs.pr_base.Paths.{text_of}
use Rattle.kr_first.specs.pr_base.Texts.{Text}
use Rattle.kr_first.specs.pr_base.declared.errno.Errno.{Errno}
use Rattle.kr_first.specs.pr_base.declared.path.WalkMode.TheVariants.{Look}
use Rattle.kr_first.specs.pt_bind.Binding.{index_of}
use Rattle.kr_first.specs.pt_bind.Tags.{TagTable}
use Rattle.law_edits.specs.pt_canon.TextWalk.{TextSurroundings}
use Rattle.law_edits.specs.pt_script.Programs.{program_from}
use Rattle.law_edits.specs.pt_script.declared.program.Program.{Program}
use Rattle.kr_first.specs.kr_tree.declared.place.Place.{Place}
use Rattle.kr_first.specs.kr_view.Component.{Namespace, is_directory_at}
use Rattle.kr_first.specs.kr_view.View.{Row}
use Rattle.kr_first.specs.kr_view.Walk.{PlaceTarget}
use Rattle.law_edits.specs.kr_mounts.Standing.{texts_of}
use Rattle.kr_first.specs.kr_exec.Finding.{is_program, program_at}
use Rattle.kr_first.specs.kr_exec.Interpreters.{head_of}
use Rattle.law_edits.specs.kr_model.ProcessDirectory.{around_of, space_of}
use Rattle.law_edits.specs.kr_model.State.{State}
use Rattle.law_edits.specs.law_walks.Handed.{LeadsToFound}
use Rattle.law_edits.specs.law_walks.Scene.{IsMatched, Scene, texts_in}
use Rattle.law_edits.specs.law_walks.Settled.{host_text}
use Rattle.law_edits.specs.law_walks.Standing.{StandsOn}
use Rattle.law_edits.specs.law_walks.States.{IsInUse, remembered_of, scene_of}

module _ {X : Type 0} (table : List Row) (s : State ℕ X) (caller : ℕ) (tags : TagTable) where
  abbrev pub scene_here : Scene
  scene_here = scene_of table s caller tags

  abbrev pub space_here : Namespace
  space_here = space_of table s

  -- what a tracer goes by, where the plain kernel tells it of the same state
  abbrev pub texts_here : TextSurroundings
  texts_here = texts_in scene_here

  -- the working directory of a walk: a directory that stands at a guest text, of which a tracer has the bytes
  pub record WorksAt (base : Place ℕ) (working : Option (List ℕ)) : Type 0 where
    pub text : Text
    pub stands : StandsOn space_here base text
    pub directory : is_directory_at s.tree base.host ≡ true
    pub written : working ≡ Some (text_of text)

  -- one program: the file that was found stands at a guest text, by whose host text and index the tracer knows it, with the same first
  -- bytes
  pub record IsSameProgram (target : PlaceTarget) (program : Program) : Type 0 where
    pub place : Place ℕ
    pub text : Text
    pub found : target.found ≡ Some place
    pub stands : StandsOn space_here place text
    pub host : program.host ≡ text_of (host_text space_here text)
    pub index : program.index ≡ index_of (texts_of table) text
    pub head : program.head ≡ head_of s.tree target.found
    pub runs : is_program s.tree s.user place.host ≡ true
    -- as an executable it is a place in use, with the entry that is remembered of it
    pub in_use : let e = remembered_of table s.tree target place in IsInUse space_here place e.0 e.1 program.index
    -- the plain kernel's walk along its host text comes to the same file and entry
    pub handed : (other : Place ℕ) → LeadsToFound scene_here Look other target place text

  pub data ProgramsAlike : Result PlaceTarget Errno → Result Program Errno → Type 0 where
    no_program : (e : Errno) → ProgramsAlike (Err e) (Err e)
    one_program : {target : PlaceTarget} {program : Program} → IsSameProgram target program → ProgramsAlike (Ok target) (Ok program)

abbrev pub ProgramsAreFoundAlike : Type 0 → Type 0
ProgramsAreFoundAlike X =
    (table : List Row) (s : State ℕ X) (caller : ℕ) (tags : TagTable) (base : Place ℕ) (working : Option (List ℕ)) (path : List ℕ) → IsMatched (scene_here table s caller tags) → WorksAt table s caller tags base working
    → ProgramsAlike table s caller tags (program_at (around_of table caller s) base path) (program_from (texts_here table s caller tags) working path)
