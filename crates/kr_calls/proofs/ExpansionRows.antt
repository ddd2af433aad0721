-- Scripts worked out by hand: files that are known by their paths.
use Rattle.std.proofs.Common.{◌≡◌, ℕ, List, [], ◌∷◌, Result, Ok, Err, refl}
use Rattle.std.specs.Prelude.{codes, bytes_eq, if◌then◌else◌}
use Rattle.rv_mem.specs.pr_base.declared.errno.Errno.{Errno}
use Rattle.rv_mem.specs.pr_base.declared.errno.Errno.TheVariants.{EACCES, E2BIG, ENOEXEC, ELOOP}
use Rattle.kr_calls.specs.Expansion.{Finding, Expanded, expanded, most_scripts}

-- /s6 leads to /s5 and so on down to /s1, which leads to a program; /refused has an empty line, /closed can't be run
abbrev head : List ℕ → List ℕ
head path =
    if bytes_eq path (codes "/s6") then codes "#!/s5\n" else if bytes_eq path (codes "/s5") then codes "#!/s4\n"
    else if bytes_eq path (codes "/s4") then codes "#!/s3\n" else if bytes_eq path (codes "/s3") then codes "#!/s2\n"
    else if bytes_eq path (codes "/s2") then codes "#!/s1\n" else if bytes_eq path (codes "/s1") then codes "#!/bin -e x\n"
    else if bytes_eq path (codes "/refused") then codes "#!\n" else if bytes_eq path (codes "/to_closed") then codes "#! closed\n"
    else codes "program"

abbrev find : List ℕ → Result (List ℕ) Errno
find path = if bytes_eq path (codes "closed") then Err EACCES else Ok path

abbrev files : Finding (List ℕ)
files = record { find = find; head = head }

abbrev run : ℕ → List ℕ → List (List ℕ) → Result (Expanded (List ℕ)) Errno
run env_bytes path args = expanded files env_bytes most_scripts path path args

a_program_runs : run 0 (codes "/bin") (codes "b" ∷ codes "c" ∷ []) ≡ Ok (record { file = codes "/bin"; args = codes "b" ∷ codes "c" ∷ []; scripts = 0 })
unfolding expanded
a_program_runs = refl

a_script_goes_by_its_path : run 0 (codes "/s1") (codes "me" ∷ codes "c" ∷ []) ≡ Ok (record { file = codes "/bin"; args = codes "/bin" ∷ codes "-e x" ∷ codes "/s1" ∷ codes "c" ∷ []; scripts = 1 })
unfolding expanded
a_script_goes_by_its_path = refl

five_scripts_run : run 0 (codes "/s5") (codes "me" ∷ []) ≡ Ok (record { file = codes "/bin"; args = codes "/bin" ∷ codes "-e x" ∷ codes "/s1" ∷ codes "/s2" ∷ codes "/s3" ∷ codes "/s4" ∷ codes "/s5" ∷ []; scripts = 5 })
unfolding expanded
five_scripts_run = refl

six_scripts_loop : run 0 (codes "/s6") (codes "me" ∷ []) ≡ Err ELOOP
unfolding expanded
six_scripts_loop = refl

a_refused_line_is_no_program : run 0 (codes "/refused") (codes "me" ∷ []) ≡ Err ENOEXEC
unfolding expanded
a_refused_line_is_no_program = refl

an_interpreter_has_to_be_executable : run 0 (codes "/to_closed") (codes "me" ∷ []) ≡ Err EACCES
unfolding expanded
an_interpreter_has_to_be_executable = refl

-- `/bin`, `-e x` and `/s1` with their ends are 14 bytes
bytes_may_reach_the_limit : run 131058 (codes "/s1") (codes "me" ∷ []) ≡ Ok (record { file = codes "/bin"; args = codes "/bin" ∷ codes "-e x" ∷ codes "/s1" ∷ []; scripts = 1 })
unfolding expanded
bytes_may_reach_the_limit = refl

bytes_may_not_pass_it : run 131059 (codes "/s1") (codes "me" ∷ []) ≡ Err E2BIG
unfolding expanded
bytes_may_not_pass_it = refl
