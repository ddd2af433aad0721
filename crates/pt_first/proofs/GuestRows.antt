-- Starts worked out by hand. The guest's root is `/g`, and `/data` is bound at `/mnt`. `/g/a` is a directory that may be searched and
-- `/g/shut` one that may not; `/bin/run` and `/mnt/tool` are programs.
use Rattle.std.proofs.Common.{◌≡◌, ℕ, List, [], ◌∷◌, None, Some, Result, Ok, Err, refl}
use Rattle.std.specs.FinMap as map
use Rattle.std.specs.Prelude.{Bool, true, false, codes, if◌then◌else◌}
use Rattle.std.specs.List.{list_any}
use Rattle.std.specs.Str.{bytes_eq}
use Rattle.pr_words.specs.pr_base.Peeks.{Peeked}
use Rattle.pr_words.specs.pr_base.WalkFrame.{walk_on}
use Rattle.pr_words.specs.pr_base.declared.errno.Errno.{Errno}
use Rattle.pr_words.specs.pr_base.declared.errno.Errno.TheVariants.{EACCES, EINVAL, ELOOP, ENOENT, ENOTDIR}
use Rattle.pr_words.specs.pr_base.declared.peeks.BaseKind.TheVariants as base
use Rattle.pr_words.specs.pr_base.declared.peeks.PeekKind.{PeekKind}
use Rattle.pr_words.specs.pr_base.declared.peeks.PeekKind.TheVariants as kind
use Rattle.kr_first.specs.pt_bind.Binding.{names_of}
use Rattle.pt_script.specs.pt_canon.TextWalk.{TextSurroundings, look_text, seen_text}
use Rattle.pt_script.specs.kr_calls.Expansion.{expanded}
use Rattle.pt_first.specs.GuestStart.{guest_start, searched, working_directory}
use Rattle.pt_first.specs.declared.begun.Begun.{Begun}
use Rattle.pr_words.specs.declared.launch.Launch.{Launch}

abbrev bytes_at : List ℕ → Result (List ℕ) Errno
bytes_at host =
    if bytes_eq host (codes "/g/bin/run") then Ok (codes "program")
    else if bytes_eq host (codes "/data/tool") then Ok (codes "another program")
    else if bytes_eq host (codes "/g/a/one") then Ok (codes "#!/mnt/tool x\n")
    else if bytes_eq host (codes "/g/a/itself") then Ok (codes "#!itself\n")
    else Err EACCES

abbrev directories : List (List ℕ)
directories = codes "/g" ∷ codes "/g/." ∷ codes "/g/a" ∷ codes "/g/a/." ∷ codes "/g/bin" ∷ codes "/g/bin/." ∷ codes "/g/shut" ∷ codes "/data" ∷ codes "/data/." ∷ []

abbrev files : List (List ℕ)
files = codes "/g/bin/run" ∷ codes "/data/tool" ∷ codes "/g/a/one" ∷ codes "/g/a/itself" ∷ codes "/g/closed" ∷ codes "/host" ∷ []

abbrev is_in : List (List ℕ) → List ℕ → Bool
is_in hosts host = list_any (bytes_eq host) hosts

abbrev kind_at : List ℕ → Result PeekKind Errno
kind_at host =
    if is_in directories host then Ok kind.Dir
    else if is_in files host then Ok kind.File
    else if bytes_eq host (codes "/g/shut/.") then Err EACCES
    else Err ENOENT

abbrev told : Peeked
told = record {
  kind = kind_at;
  link_text = λ host. Err EINVAL;
  head = λ host n. bytes_at host;
  steady = λ host. true;
  base_kind = λ pid fd. base.Closed;
  base_name = λ pid fd. None;
  cwd_name = λ pid. None;
  exe_name = λ pid. None;
}

abbrev guest : TextSurroundings
guest = record {
  bindings =
      record { index = 0; location = []; source = codes "g" ∷ []; point = None }
      ∷ record { index = 1; location = codes "mnt" ∷ []; source = codes "data" ∷ []; point = Some (codes "mnt" ∷ codes "g" ∷ []) } ∷ [];
  peeked = told;
  tags = map.empty;
}

-- ---- the working directory

an_absolute_directory : working_directory guest (codes "/a") ≡ codes "/a"
unfolding walk_on look_text seen_text names_of
an_absolute_directory = refl

a_relative_one_is_taken_from_the_root : working_directory guest (codes "mnt/") ≡ codes "/mnt"
unfolding walk_on look_text seen_text names_of
a_relative_one_is_taken_from_the_root = refl

one_that_may_not_be_searched : working_directory guest (codes "/shut") ≡ codes "/"
unfolding walk_on look_text seen_text names_of
one_that_may_not_be_searched = refl

a_file_is_none : working_directory guest (codes "/closed") ≡ codes "/"
unfolding walk_on look_text seen_text names_of
a_file_is_none = refl

a_missing_one : working_directory guest (codes "/none") ≡ codes "/"
unfolding walk_on look_text seen_text names_of
a_missing_one = refl

an_empty_path_leads_nowhere : working_directory guest [] ≡ codes "/"
an_empty_path_leads_nowhere = refl

-- ---- starts

abbrev launched : List ℕ → List (List ℕ) → List (List ℕ) → Launch
launched cwd command env = record { command = command; env = env; cwd = cwd; ids = (7, 8) }

abbrev start : List ℕ → List (List ℕ) → List (List ℕ) → Result Begun Errno
start cwd command env = guest_start guest (launched cwd command env)

abbrev began : List ℕ → List (List ℕ) → List (List ℕ) → List ℕ → ℕ → ℕ → Result Begun Errno
began path args env cwd at exe = Ok (record { first = record { path = path; args = args; env = env; cwd = cwd; ids = 7 ∷ 7 ∷ 8 ∷ 8 ∷ []; reach = record { longest = 0; met_proc = false } }; cwd = at; exe = exe })

found_in_the_usual_directories : start (codes "/mnt") (codes "run" ∷ codes "x" ∷ []) [] ≡ began (codes "/g/bin/run") (codes "run" ∷ codes "x" ∷ []) [] (codes "/data") 1 0
unfolding walk_on look_text seen_text names_of expanded searched
found_in_the_usual_directories = refl

an_empty_directory_is_the_working_directory : start (codes "/mnt") (codes "tool" ∷ []) (codes "PATH=/none:" ∷ []) ≡ began (codes "/data/tool") (codes "tool" ∷ []) (codes "PATH=/none:" ∷ []) (codes "/data") 1 1
unfolding walk_on look_text seen_text names_of expanded searched
an_empty_directory_is_the_working_directory = refl

a_script_in_the_working_directory : start (codes "/a") (codes "./one" ∷ codes "c" ∷ []) [] ≡ began (codes "/data/tool") (codes "/mnt/tool" ∷ codes "x" ∷ codes "./one" ∷ codes "c" ∷ []) [] (codes "/g/a") 0 1
unfolding walk_on look_text seen_text names_of expanded searched
a_script_in_the_working_directory = refl

an_interpreter_from_the_working_directory : start (codes "/a") (codes "./itself" ∷ []) [] ≡ Err ELOOP
unfolding walk_on look_text seen_text names_of expanded searched
an_interpreter_from_the_working_directory = refl

a_program_of_the_host_alone : start (codes "/") (codes "/host" ∷ []) [] ≡ Err ENOENT
unfolding walk_on look_text seen_text names_of expanded searched
a_program_of_the_host_alone = refl

no_candidate_is_there : start (codes "/") (codes "tool" ∷ []) [] ≡ Err ENOENT
unfolding walk_on look_text seen_text names_of expanded searched
no_candidate_is_there = refl

a_file_that_may_not_be_executed : start (codes "/") (codes "/closed" ∷ []) [] ≡ Err EACCES
unfolding walk_on look_text seen_text names_of expanded searched
a_file_that_may_not_be_executed = refl

a_directory_is_no_program : start (codes "/") (codes "/a" ∷ []) [] ≡ Err EACCES
unfolding walk_on look_text seen_text names_of expanded searched
a_directory_is_no_program = refl

a_file_as_a_directory : start (codes "/") (codes "/closed/" ∷ []) [] ≡ Err ENOTDIR
unfolding walk_on look_text seen_text names_of expanded searched
a_file_as_a_directory = refl
