-- The interpreters of scripts over a view: programs that are found from the caller's working directory, what their walks
-- reach, and one script by itself.
use Rattle.std.specs.Prelude.{ℕ, zero, suc, List, [], ◌∷◌, take, Option, Some, None, Result, Ok, Err, if◌then◌else◌}
use Rattle.std.specs.Option.{option_and_then, option_map_or}
use Rattle.elf_read.specs.pr_base.declared.errno.Errno.{Errno}
use Rattle.elf_read.specs.pr_base.declared.errno.Errno.TheVariants.{E2BIG, ENOEXEC}
use Rattle.elf_read.specs.pr_base.declared.path.WalkMode.TheVariants.{Look}
use Rattle.kr_walk.specs.kr_tree.declared.place.Host.{Host}
use Rattle.kr_walk.specs.kr_tree.declared.place.Host.TheVariants.{Node, Proc}
use Rattle.kr_walk.specs.kr_tree.declared.place.Place.{Place}
use Rattle.kr_walk.specs.kr_tree.Tree.{Tree, body, file_of}
use Rattle.kr_walk.specs.kr_view.declared.target.Target.{Target}
use Rattle.kr_walk.specs.kr_view.declared.target.Reach.{Reach}
use Rattle.kr_walk.specs.kr_view.Answers.{told}
use Rattle.kr_walk.specs.kr_view.Component.{Surroundings}
use Rattle.kr_walk.specs.kr_view.Reach.{reach_after}
use Rattle.kr_walk.specs.kr_view.Walk.{PlaceTarget}
use Rattle.kr_calls.specs.Expansion.{Expanded, Finding, expanded, is_script, is_too_big, new_args}
use Rattle.kr_calls.specs.Scripts.{script_of}
use Rattle.kr_exec.specs.Finding.{found_host, program_at, program_walk}

-- ---- what was found

-- the bytes of a file; of what is none there are none
abbrev pub bytes_at : Tree → Host → List ℕ
bytes_at tree (Node i) = option_map_or (λ bytes. bytes) (option_and_then file_of (body tree i)) []
bytes_at tree (Proc i at) = []

abbrev pub found_bytes : {M : Type 0} → Tree → Option (Place M) → List ℕ
found_bytes tree found = option_map_or (bytes_at tree) (found_host found) []

-- as many bytes of a file as tell a script's line
abbrev pub head_of : {M : Type 0} → Tree → Option (Place M) → List ℕ
head_of tree found = take 256 (found_bytes tree found)

abbrev pub told_program : Result PlaceTarget Errno → Result (Target ℕ) Errno
told_program (Ok target) = Ok (told target)
told_program (Err errno) = Err errno

-- the programs of a view, by their paths from a base
abbrev pub programs : Surroundings → Place ℕ → Finding (Target ℕ)
programs around base = record {
  find = λ path. told_program (program_at around base path);
  head = λ target. head_of around.space.tree target.found;
}

-- ---- one script

-- a file that is to be run, the path by which it was found, and its arguments
pub record Running (F : Type 0) : Type 0 where
  pub file : F
  pub path : List ℕ
  pub args : List (List ℕ)

abbrev pub if_args_fit : {F : Type 0} → ℕ → List ℕ → List (List ℕ) → Result F Errno → Result (Running F) Errno
if_args_fit env_bytes interpreter args (Ok file) =
    if is_too_big env_bytes args then Err E2BIG else Ok (record { file = file; path = interpreter; args = args })
if_args_fit env_bytes interpreter args (Err errno) = Err errno

-- the interpreter that a script's line names, with its arguments: ENOEXEC where the line is refused, the interpreter's own
-- errors, and E2BIG
abbrev pub interpreted : {F : Type 0} → Finding F → ℕ → List ℕ → List (List ℕ) → Option (List ℕ × List ℕ) → Result (Running F) Errno
interpreted finding env_bytes path args None = Err ENOEXEC
interpreted finding env_bytes path args (Some line) = if_args_fit env_bytes line.0 (new_args line.0 line.1 path args) (finding.find line.0)

-- ---- walks

-- the paths along which interpreters are looked for, whatever comes of it
abbrev pub Paths : Type 0 → Type 0
Paths F = F → List ℕ → List (List ℕ) → List (List ℕ)

abbrev pub paths_behind : {F : Type 0} → Paths F → Result (Running F) Errno → List (List ℕ)
paths_behind again (Ok r) = again r.file r.path r.args
paths_behind again (Err errno) = []

abbrev pub paths_by_line : {F : Type 0} → Finding F → Paths F → ℕ → List ℕ → List (List ℕ) → Option (List ℕ × List ℕ) → List (List ℕ)
paths_by_line finding again env_bytes path args None = []
paths_by_line finding again env_bytes path args (Some line) = line.0 ∷ paths_behind again (interpreted finding env_bytes path args (Some line))

-- the paths of a file's interpreters, where `left` scripts may still be expanded
unfoldable pub interpreters : {F : Type 0} → Finding F → ℕ → ℕ → Paths F
interpreters finding env_bytes zero file path args = []
interpreters finding env_bytes (suc left) file path args =
    if is_script (finding.head file) then paths_by_line finding (interpreters finding env_bytes left) env_bytes path args (script_of (finding.head file))
    else []

-- what a command comes to, and those paths
abbrev pub ends_of : {F : Type 0} → Finding F → ℕ → ℕ → Running F → Result (Expanded F) Errno
ends_of finding env_bytes left r = expanded finding env_bytes left r.file r.path r.args

abbrev pub paths_of : {F : Type 0} → Finding F → ℕ → ℕ → Running F → List (List ℕ)
paths_of finding env_bytes left r = interpreters finding env_bytes left r.file r.path r.args

-- what walks to programs reach
abbrev pub walks_reach : Surroundings → Place ℕ → List (List ℕ) → Reach → Reach
walks_reach around base [] r = r
walks_reach around base (path ∷ paths) r = walks_reach around base paths (reach_after around Look (program_walk around base path) r)

-- what the walk to the interpreter of a line reaches
abbrev pub line_reach : Surroundings → Place ℕ → Option (List ℕ × List ℕ) → Reach → Reach
line_reach around base None r = r
line_reach around base (Some line) r = reach_after around Look (program_walk around base line.0) r
