-- Lists and walks worked out by hand: files that are known by their paths.
use Rattle.std.proofs.Common.{◌≡◌, ℕ, false, List, [], ◌∷◌, Result, Ok, Err, refl}
use Rattle.std.specs.Prelude.{codes, bytes_eq, if◌then◌else◌}
use Rattle.elf_read.specs.pr_base.declared.errno.Errno.{Errno}
use Rattle.elf_read.specs.pr_base.declared.errno.Errno.TheVariants.{EACCES, E2BIG, ENOEXEC}
use Rattle.kr_calls.specs.rv_mem.Actions.{Done}
use Rattle.kr_calls.specs.Expansion.{Finding, most_scripts}
use Rattle.kr_calls.specs.Scripts.{script_of}
use Rattle.kr_exec.specs.Exec.{are_too_big}
use Rattle.kr_exec.specs.Interpreters.{interpreted, interpreters}
use Rattle.kr_exec.specs.Lists.{if_it_fits, lists_at}

-- ---- lists

no_lists_are_one_empty_argument : lists_at 0 0 ≡ Done (Ok (record { args = [] ∷ []; env = [] }))
no_lists_are_one_empty_argument = refl

-- the end of a text counts
a_text_may_fill_the_room : if_it_fits 4 (codes "abc") ≡ Done (Ok (codes "abc"))
a_text_may_fill_the_room = refl

a_text_may_not_pass_it : if_it_fits 3 (codes "abc") ≡ Done (Err E2BIG)
a_text_may_not_pass_it = refl

a_short_list_fits : are_too_big (codes "sh" ∷ codes "-c" ∷ []) (codes "A=b" ∷ []) ≡ false
a_short_list_fits = refl

-- ---- walks to interpreters

-- /s6 leads to /s5 and so on down to /s1, which leads to a program; /refused has an empty line, /to_closed leads to what can't
-- be run
abbrev head : List ℕ → List ℕ
head path =
    if bytes_eq path (codes "/s6") then codes "#!/s5\n" else if bytes_eq path (codes "/s5") then codes "#!/s4\n"
    else if bytes_eq path (codes "/s4") then codes "#!/s3\n" else if bytes_eq path (codes "/s3") then codes "#!/s2\n"
    else if bytes_eq path (codes "/s2") then codes "#!/s1\n" else if bytes_eq path (codes "/s1") then codes "#!/bin -e x\n"
    else if bytes_eq path (codes "/refused") then codes "#!\n" else if bytes_eq path (codes "/to_closed") then codes "#! closed\n"
    else codes "program"

abbrev find : List ℕ → Result (List ℕ) Errno
find path = if bytes_eq path (codes "closed") then Err EACCES else Ok path

abbrev files : Finding (List ℕ)
files = record { find = find; head = head }

abbrev walks : ℕ → List ℕ → List (List ℕ)
walks env_bytes path = interpreters files env_bytes most_scripts path path (codes "me" ∷ [])

a_program_has_no_interpreter : walks 0 (codes "/bin") ≡ []
unfolding interpreters
a_program_has_no_interpreter = refl

each_script_walks_once : walks 0 (codes "/s3") ≡ codes "/s2" ∷ codes "/s1" ∷ codes "/bin" ∷ []
unfolding interpreters
each_script_walks_once = refl

-- the sixth script is found, but its own interpreter isn't looked for
six_scripts_walk_five_times : walks 0 (codes "/s6") ≡ codes "/s5" ∷ codes "/s4" ∷ codes "/s3" ∷ codes "/s2" ∷ codes "/s1" ∷ []
unfolding interpreters
six_scripts_walk_five_times = refl

a_refused_line_walks_nowhere : walks 0 (codes "/refused") ≡ []
unfolding interpreters
a_refused_line_walks_nowhere = refl

a_walk_that_fails_is_made : walks 0 (codes "/to_closed") ≡ codes "closed" ∷ []
unfolding interpreters
a_walk_that_fails_is_made = refl

-- the walk comes before the test of the new arguments
a_walk_before_too_many_bytes_is_made : walks 131072 (codes "/s1") ≡ codes "/bin" ∷ []
unfolding interpreters
a_walk_before_too_many_bytes_is_made = refl

-- ---- one line

a_line_gives_the_new_arguments : interpreted files 0 (codes "/s1") (codes "me" ∷ codes "c" ∷ []) (script_of (codes "#!/bin -e x\n"))
    ≡ Ok (record { file = codes "/bin"; path = codes "/bin"; args = codes "/bin" ∷ codes "-e x" ∷ codes "/s1" ∷ codes "c" ∷ [] })
a_line_gives_the_new_arguments = refl

a_bad_interpreter_comes_before_too_many_bytes : interpreted files 131072 (codes "/to_closed") (codes "me" ∷ []) (script_of (codes "#! closed\n")) ≡ Err EACCES
a_bad_interpreter_comes_before_too_many_bytes = refl

a_bad_line_comes_first : interpreted files 131072 (codes "/refused") (codes "me" ∷ []) (script_of (codes "#!\n")) ≡ Err ENOEXEC
a_bad_line_comes_first = refl
