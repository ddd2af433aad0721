-- Scripts that execve(2) expands, one after the other. How a path is found, and how a found file begins, are left open,
-- so that a kernel finds places and a tracer finds texts by the same rules.
use Rattle.std.specs.Prelude.{ℕ, zero, suc, ◌+◌, ◌-◌, Bool, ◌||◌, nat_lt, bytes_eq, List, [], ◌∷◌, ◌++◌, length, take, drop, Option, Some, None, Result, Ok, Err, if◌then◌else◌}
use Rattle.rv_mem.specs.pr_base.declared.errno.Errno.{Errno}
use Rattle.rv_mem.specs.pr_base.declared.errno.Errno.TheVariants.{E2BIG, ENOEXEC, ELOOP}
use Rattle.kr_calls.specs.Scripts.{script_of}

-- how a path is found, to a regular file that the user may execute, and the first 256 bytes of what was found
pub record Finding (F : Type 0) : Type 0 where
  pub find : List ℕ → Result F Errno
  pub head : F → List ℕ

-- what runs in the end: the file, its arguments, and how many scripts led to it
pub record Expanded (F : Type 0) : Type 0 where
  pub file : F
  pub args : List (List ℕ)
  pub scripts : ℕ

abbrev pub is_script : List ℕ → Bool
is_script head = bytes_eq (take 2 head) (35 ∷ 33 ∷ [])

-- the bytes of texts, each with its end
abbrev pub bytes_with_ends : List (List ℕ) → ℕ
bytes_with_ends [] = 0
bytes_with_ends (t ∷ ts) = length t + 1 + bytes_with_ends ts

-- more arguments than a program may be given, or more bytes, those of its environment with them
abbrev pub is_too_big : ℕ → List (List ℕ) → Bool
is_too_big env_bytes args = nat_lt 4096 (length args) || nat_lt 131072 (bytes_with_ends args + env_bytes)

-- an empty argument is none
abbrev pub argument_of : List ℕ → List (List ℕ)
argument_of [] = []
argument_of (b ∷ bs) = (b ∷ bs) ∷ []

-- the interpreter, its argument, the script's path as it was given, and the old arguments but the first
abbrev pub new_args : List ℕ → List ℕ → List ℕ → List (List ℕ) → List (List ℕ)
new_args interpreter argument path args = interpreter ∷ (argument_of argument ++ path ∷ drop 1 args)

-- how many scripts are expanded at most
abbrev pub most_scripts : ℕ
most_scripts = 5

-- what is done with a file by its path and its arguments
abbrev pub Onward : Type 0 → Type 0
Onward F = F → List ℕ → List (List ℕ) → Result (Expanded F) Errno

-- the interpreter that was found goes on with the new arguments
abbrev pub with_args : {F : Type 0} → Onward F → ℕ → List ℕ → List (List ℕ) → F → Result (Expanded F) Errno
with_args again env_bytes interpreter args file = if is_too_big env_bytes args then Err E2BIG else again file interpreter args

abbrev pub by_interpreter : {F : Type 0} → Onward F → ℕ → List ℕ → List (List ℕ) → Result F Errno → Result (Expanded F) Errno
by_interpreter again env_bytes interpreter args (Ok file) = with_args again env_bytes interpreter args file
by_interpreter again env_bytes interpreter args (Err e) = Err e

-- ENOEXEC where the line is refused
abbrev pub by_line : {F : Type 0} → Finding F → Onward F → ℕ → List ℕ → List (List ℕ) → Option (List ℕ × List ℕ) → Result (Expanded F) Errno
by_line finding again env_bytes path args None = Err ENOEXEC
by_line finding again env_bytes path args (Some line) =
    by_interpreter again env_bytes line.0 (new_args line.0 line.1 path args) (finding.find line.0)

-- the file itself, where `left` scripts may still be expanded
abbrev pub runs : {F : Type 0} → ℕ → F → List (List ℕ) → Result (Expanded F) Errno
runs left file args = Ok (record { file = file; args = args; scripts = most_scripts - left })

-- a file, where `left` scripts may still be expanded: ELOOP if there is one too many
unfoldable pub expanded : {F : Type 0} → Finding F → ℕ → ℕ → Onward F
expanded finding env_bytes zero file path args = if is_script (finding.head file) then Err ELOOP else runs zero file args
expanded finding env_bytes (suc left) file path args =
    if is_script (finding.head file) then by_line finding (expanded finding env_bytes left) env_bytes path args (script_of (finding.head file))
    else runs (suc left) file args
