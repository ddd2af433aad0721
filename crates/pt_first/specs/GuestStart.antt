-- The start of a run in guest terms: the first working directory, the command, and the program that runs in the end, each found as a
-- tracer finds it before a process lives, and handed to the plain kernel by its host text.
use Rattle.std.specs.Prelude.{◌≡◌, ℕ, nat_lt, Bool, true, false, List, [], ◌∷◌, length, Option, Some, None, Result, Ok, Err, if◌then◌else◌}
use Rattle.pr_words.specs.pr_base.MountText.{MountText}
use Rattle.pr_words.specs.pr_base.Paths.{slash, dot, is_absolute, text_of}
use Rattle.pr_words.specs.pr_base.declared.errno.Errno.{Errno}
use Rattle.pr_words.specs.pr_base.declared.errno.Errno.TheVariants.{E2BIG, ENAMETOOLONG, ENOENT}
use Rattle.pr_words.specs.Command.{arguments, candidate, directories, has_slash, ids_of, path_of, word_of}
use Rattle.kr_first.specs.pt_bind.Binding.{host_of, index_of, names_of}
use Rattle.kr_first.specs.pt_bind.Tags.{TagTable, with_tag}
use Rattle.kr_first.specs.pt_bind.declared.slot.Slot.TheVariants as slot
use Rattle.pt_script.specs.pt_canon.TextWalk.{TextSurroundings}
use Rattle.pt_script.specs.pt_canon.declared.canon.Canon.{Canon}
use Rattle.pt_script.specs.pt_args.Edits.{longest_path}
use Rattle.pt_script.specs.pt_args.Walks.{and_then}
use Rattle.pt_script.specs.Expanding.{expanded_from, unmet_from}
use Rattle.pt_script.specs.Programs.{canon_from, canon_unmet, program_from, program_unmet}
use Rattle.pt_script.specs.declared.expansion.Expanded.{Expanded}
use Rattle.pt_script.specs.declared.program.Program.{Program}
use Rattle.pt_script.specs.kr_calls.Expansion.{bytes_with_ends}
use Rattle.kr_first.specs.kr_exec.Exec.{are_too_big}
use Rattle.kr_first.specs.Starting.{is_walked, path_errno}
use Rattle.kr_first.specs.declared.starting.First.{First}
use Rattle.kr_first.specs.declared.starting.StartFault.{StartFault}
use Rattle.kr_first.specs.declared.starting.StartFault.TheVariants as fault
use Rattle.pt_first.specs.declared.begun.Begun.{Begun}
use Rattle.pr_words.specs.declared.launch.Launch.{Launch}

-- ---- what begins

-- the number of the first process
abbrev pub first_pid : ℕ
first_pid = 2

-- its tags
abbrev pub tagged : TagTable → Begun → TagTable
tagged tags begun = with_tag (with_tag tags first_pid slot.Cwd begun.cwd) first_pid slot.Exe begun.exe

-- a working directory is told by its guest text; no name is reached before the kernel's own walks
abbrev pub begun : List MountText → List (List ℕ) → ℕ × ℕ → List ℕ → Expanded → Begun
begun bindings env ids working program = record {
  first = record {
    path = program.host;
    args = program.args;
    env = env;
    cwd = text_of (host_of bindings (names_of working));
    ids = ids_of ids;
    reach = record { longest = 0; met_proc = false };
  };
  cwd = index_of bindings (names_of working);
  exe = program.index;
}

-- the first process with whether the walks that found it looked up a name in the process directory
abbrev pub noting : Bool → First → First
noting met first = record { path = first.path; args = first.args; env = first.env; cwd = first.cwd; ids = first.ids; reach = record { longest = first.reach.longest; met_proc = met } }

-- ---- what is looked for

abbrev pub root_text : List ℕ
root_text = slash ∷ []

abbrev pub text_or_root : Result Canon Errno → List ℕ
text_or_root (Ok canon) = canon.guest
text_or_root (Err e) = root_text

abbrev pub is_found : Result Program Errno → Bool
is_found (Ok program) = true
is_found (Err e) = false

-- a host text that is longer than a path can't be handed to the kernel
abbrev pub if_short : Canon → Result Canon Errno
if_short canon = if nat_lt longest_path (length canon.host) then Err ENAMETOOLONG else Ok canon

abbrev pub base_of : List ℕ → List ℕ → List ℕ
base_of working path = if is_absolute path then root_text else working

module _ (texts : TextSurroundings) where
  -- ---- the working directory

  -- the directory to which a path leads from the root, if it is one that may be searched: it is found in itself
  abbrev pub directory_at : List ℕ → Result Canon Errno
  directory_at path = and_then (canon_from texts path root_text) (λ canon. canon_from texts dot canon.guest)

  -- else it is the root. An empty path leads nowhere, nor does one that is too long
  abbrev pub working_directory : List ℕ → List ℕ
  working_directory path = if is_walked path then text_or_root (directory_at path) else root_text

  module _ (working : List ℕ) where
    -- ---- the command

    abbrev pub found_from : List ℕ → Result Program Errno
    found_from path = if is_walked path then program_from texts (Some working) path else Err (path_errno path)

    abbrev pub is_there : List ℕ → Bool
    is_there path = is_found (found_from path)

    -- the first candidate that is a program
    unfoldable pub searched : List ℕ → List (List ℕ) → Option (List ℕ)
    searched word [] = None
    searched word (dir ∷ dirs) = if is_there (candidate dir word) then Some (candidate dir word) else searched word dirs

    -- a word with a slash is a path
    abbrev pub chosen : List (List ℕ) → List ℕ → Option (List ℕ)
    chosen env word = if has_slash word then Some word else searched word (directories (path_of env))

    -- ---- the program

    -- the path's own host text comes first
    abbrev pub handed : List ℕ → Result Canon Errno
    handed path = and_then (canon_from texts path (base_of working path)) if_short

    -- then the lists, which the program is given
    abbrev pub run_with : List (List ℕ) → List (List ℕ) → List ℕ → Result Expanded Errno
    run_with args env path =
        if are_too_big args env then and_then (program_from texts (Some working) path) (λ program. Err E2BIG)
        else expanded_from texts (Some working) (bytes_with_ends env) path args

    -- as execve(2) of a process there comes to a program
    abbrev pub run_from : List (List ℕ) → List (List ℕ) → List ℕ → Result Expanded Errno
    run_from args env path = if is_walked path then and_then (handed path) (λ canon. run_with args env path) else Err (path_errno path)

    -- no candidate was there: ENOENT
    abbrev pub started_at : Launch → Option (List ℕ) → Result Begun Errno
    started_at launch None = Err ENOENT
    started_at launch (Some path) = and_then (run_from (arguments launch.command) launch.env path) (λ program. Ok (begun texts.bindings launch.env launch.ids working program))

    abbrev pub started_in : Launch → Result Begun Errno
    started_in launch = started_at launch (chosen launch.env (word_of launch.command))

  -- ---- the start

  abbrev pub guest_start : Launch → Result Begun Errno
  guest_start launch = started_in (working_directory launch.cwd) launch

  -- ---- whether the process directory is unmet still, by whether it was before

  abbrev pub unmet_within : Result Canon Errno → Bool → Bool
  unmet_within (Ok canon) unmet = canon_unmet texts dot canon.guest unmet
  unmet_within (Err e) unmet = unmet

  abbrev pub directory_unmet : List ℕ → Bool → Bool
  directory_unmet path unmet = unmet_within (canon_from texts path root_text) (canon_unmet texts path root_text unmet)

  abbrev pub working_unmet : List ℕ → Bool → Bool
  working_unmet path unmet = if is_walked path then directory_unmet path unmet else unmet

  module _ (working : List ℕ) where
    abbrev pub there_unmet : List ℕ → Bool → Bool
    there_unmet path unmet = if is_walked path then program_unmet texts (Some working) path unmet else unmet

    -- up to the first candidate that is a program
    unfoldable pub searched_unmet : List ℕ → List (List ℕ) → Bool → Bool
    searched_unmet word [] unmet = unmet
    searched_unmet word (dir ∷ dirs) unmet =
        if is_there working (candidate dir word) then there_unmet (candidate dir word) unmet else searched_unmet word dirs (there_unmet (candidate dir word) unmet)

    abbrev pub chosen_unmet : List (List ℕ) → List ℕ → Bool → Bool
    chosen_unmet env word unmet = if has_slash word then unmet else searched_unmet word (directories (path_of env)) unmet

    abbrev pub handed_unmet : List ℕ → Bool → Bool
    handed_unmet path unmet = canon_unmet texts path (base_of working path) unmet

    abbrev pub unmet_with_lists : List (List ℕ) → List (List ℕ) → List ℕ → Bool → Bool
    unmet_with_lists args env path unmet =
        if are_too_big args env then program_unmet texts (Some working) path unmet else unmet_from texts (Some working) (bytes_with_ends env) path args unmet

    abbrev pub unmet_handed : List (List ℕ) → List (List ℕ) → List ℕ → Result Canon Errno → Bool → Bool
    unmet_handed args env path (Ok canon) unmet = unmet_with_lists args env path unmet
    unmet_handed args env path (Err e) unmet = unmet

    abbrev pub run_unmet : List (List ℕ) → List (List ℕ) → List ℕ → Bool → Bool
    run_unmet args env path unmet = if is_walked path then unmet_handed args env path (handed working path) (handed_unmet path unmet) else unmet

    abbrev pub unmet_at : Launch → Option (List ℕ) → Bool → Bool
    unmet_at launch None unmet = unmet
    unmet_at launch (Some path) unmet = run_unmet (arguments launch.command) launch.env path unmet

    abbrev pub unmet_in : Launch → Bool → Bool
    unmet_in launch unmet = unmet_at launch (chosen working launch.env (word_of launch.command)) (chosen_unmet launch.env (word_of launch.command) unmet)

  abbrev pub start_unmet : Launch → Bool → Bool
  start_unmet launch unmet = unmet_in (working_directory launch.cwd) launch (working_unmet launch.cwd unmet)

-- ---- what the code answers

-- a start is this one, and its process has its tags; else they are as they were
abbrev pub IsBegun : Result Begun Errno → TagTable → TagTable → Result First StartFault → Type 0
IsBegun answer old new (Ok first) = (b : Begun) × (answer ≡ Ok b) × (first ≡ b.first) × (new ≡ tagged old b)
IsBegun answer old new (Err (fault.Err e)) = (answer ≡ Err e) × (new ≡ old)
IsBegun answer old new (Err fault.NoMemory) = new ≡ old

-- and with whether its walks looked up a name in the process directory
abbrev pub IsBegunNoting : (met : Bool) → Result Begun Errno → TagTable → TagTable → Result First StartFault → Type 0
IsBegunNoting met answer old new (Ok first) = (b : Begun) × (answer ≡ Ok b) × (first ≡ noting met b.first) × (new ≡ tagged old b)
IsBegunNoting met answer old new (Err (fault.Err e)) = (answer ≡ Err e) × (new ≡ old)
IsBegunNoting met answer old new (Err fault.NoMemory) = new ≡ old

-- whether the process directory is unmet still is noted, but for want of memory
abbrev pub IsStartNoted : (after new : Bool) → Result First StartFault → Type 0
IsStartNoted after new (Ok first) = new ≡ after
IsStartNoted after new (Err (fault.Err e)) = new ≡ after
IsStartNoted after new (Err fault.NoMemory) = Unit {0}
