-- What execve(2) runs in the end, in guest terms: the scripts of a path, over finding programs as a tracer does.
use Rattle.std.specs.Prelude.{ℕ, zero, suc, Bool, List, Option, Some, None, Result, Ok, Err, if◌then◌else◌}
use Rattle.pt_args.specs.pr_base.declared.errno.Errno.{Errno}
use Rattle.pt_args.specs.pr_base.declared.errno.Errno.TheVariants.{E2BIG, ENOEXEC}
use Rattle.pt_args.specs.pt_canon.TextWalk.{TextSurroundings}
use Rattle.pt_args.specs.kr_calls.Expansion.{expanded, is_script, is_too_big, most_scripts, new_args, Expanded as Ended}
use Rattle.pt_args.specs.kr_calls.Scripts.{script_of}
use Rattle.pt_args.specs.Bases.{working_text}
use Rattle.pt_args.specs.Walks.{and_then}
use Rattle.pt_script.specs.Programs.{program_from, program_unmet, programs}
use Rattle.pt_script.specs.declared.command.Command.{Command}
use Rattle.pt_script.specs.declared.expansion.Expanded.{Expanded}
use Rattle.pt_script.specs.declared.program.Program.{Program}

-- what the plain kernel is shown of the program that runs in the end
abbrev pub shown : Ended Program → Expanded
shown ended = record { host = ended.file.host; index = ended.file.index; args = ended.args; scripts = ended.scripts }

abbrev pub shown_result : Result (Ended Program) Errno → Result Expanded Errno
shown_result (Ok ended) = Ok (shown ended)
shown_result (Err e) = Err e

-- of a command, where `left` scripts may still be expanded
abbrev pub ends_of : TextSurroundings → Option (List ℕ) → ℕ → ℕ → Command → Result (Ended Program) Errno
ends_of texts working env_bytes left c = expanded (programs texts working) env_bytes left c.program c.path c.args

abbrev pub command_of : List ℕ → List (List ℕ) → Program → Command
command_of path args program = record { program = program; path = path; args = args }

-- of a path and its arguments, from a working directory
abbrev pub expanded_from : TextSurroundings → Option (List ℕ) → ℕ → List ℕ → List (List ℕ) → Result Expanded Errno
expanded_from texts working env_bytes path args =
    and_then (program_from texts working path) (λ program. shown_result (ends_of texts working env_bytes most_scripts (command_of path args program)))

-- of a process
abbrev pub expanded_at : TextSurroundings → ℕ → ℕ → List ℕ → List (List ℕ) → Result Expanded Errno
expanded_at texts pid env_bytes path args = expanded_from texts (working_text texts pid) env_bytes path args

-- ---- one script by itself

abbrev pub if_args_fit : ℕ → List ℕ → List (List ℕ) → Program → Result Command Errno
if_args_fit env_bytes interpreter args program = if is_too_big env_bytes args then Err E2BIG else Ok (command_of interpreter args program)

abbrev pub interpreted_by : TextSurroundings → Option (List ℕ) → ℕ → Command → Option (List ℕ × List ℕ) → Result Command Errno
interpreted_by texts working env_bytes script None = Err ENOEXEC
interpreted_by texts working env_bytes script (Some line) =
    and_then (program_from texts working line.0) (if_args_fit env_bytes line.0 (new_args line.0 line.1 script.path script.args))

-- the interpreter of a script, with its arguments
abbrev pub interpreted : TextSurroundings → Option (List ℕ) → ℕ → Command → Result Command Errno
interpreted texts working env_bytes script = interpreted_by texts working env_bytes script (script_of script.program.head)

-- ---- whether the process directory is unmet still, by whether it was before

-- an interpreter is found as a program is
abbrev pub unmet_by_line : TextSurroundings → Option (List ℕ) → Option (List ℕ × List ℕ) → Bool → Bool
unmet_by_line texts working None unmet = unmet
unmet_by_line texts working (Some line) unmet = program_unmet texts working line.0 unmet

abbrev pub interpreted_unmet : TextSurroundings → Option (List ℕ) → Command → Bool → Bool
interpreted_unmet texts working script unmet = unmet_by_line texts working (script_of script.program.head) unmet

-- where it begins, what comes behind it counts too
abbrev pub unmet_behind : (Command → Bool → Bool) → Result Command Errno → Bool → Bool
unmet_behind again (Ok next) unmet = again next unmet
unmet_behind again (Err e) unmet = unmet

unfoldable pub ends_unmet : TextSurroundings → Option (List ℕ) → ℕ → ℕ → Command → Bool → Bool
ends_unmet texts working env_bytes zero c unmet = unmet
ends_unmet texts working env_bytes (suc left) c unmet =
    if is_script c.program.head then unmet_behind (ends_unmet texts working env_bytes left) (interpreted texts working env_bytes c) (interpreted_unmet texts working c unmet)
    else unmet

-- of a path and its arguments
abbrev pub unmet_with : TextSurroundings → Option (List ℕ) → ℕ → List ℕ → List (List ℕ) → Result Program Errno → Bool → Bool
unmet_with texts working env_bytes path args (Ok program) unmet = ends_unmet texts working env_bytes most_scripts (command_of path args program) unmet
unmet_with texts working env_bytes path args (Err e) unmet = unmet

abbrev pub unmet_from : TextSurroundings → Option (List ℕ) → ℕ → List ℕ → List (List ℕ) → Bool → Bool
unmet_from texts working env_bytes path args unmet = unmet_with texts working env_bytes path args (program_from texts working path) (program_unmet texts working path unmet)

abbrev pub expanded_unmet : TextSurroundings → ℕ → ℕ → List ℕ → List (List ℕ) → Bool → Bool
expanded_unmet texts pid env_bytes path args unmet = unmet_from texts (working_text texts pid) env_bytes path args unmet
