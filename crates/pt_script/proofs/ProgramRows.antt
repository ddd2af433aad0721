-- Scripts worked out by hand. The guest's root is `/g`, and `/data` is bound at `/mnt`; both have scripts and programs. The
-- working directory is the root.
use Rattle.std.proofs.Common.{◌≡◌, ℕ, List, [], ◌∷◌, None, Some, Result, Ok, Err, refl, ap}
use Rattle.std.specs.FinMap as map
use Rattle.std.specs.Prelude.{Bool, true, codes, if◌then◌else◌}
use Rattle.std.specs.List.{list_any}
use Rattle.std.specs.Option.{unwrap_or}
use Rattle.std.specs.Ordering.{nat_cmp}
use Rattle.std.specs.Str.{bytes_eq}
use Rattle.pt_args.specs.pr_base.Peeks.{Peeked}
use Rattle.pt_args.specs.pr_base.WalkFrame.{walk_on}
use Rattle.pt_args.specs.pr_base.declared.errno.Errno.{Errno}
use Rattle.pt_args.specs.pr_base.declared.errno.Errno.TheVariants.{EACCES, E2BIG, EINVAL, ELOOP, ENOENT, ENOEXEC, ENOTDIR}
use Rattle.pt_args.specs.pr_base.declared.peeks.BaseKind.TheVariants as base
use Rattle.pt_args.specs.pr_base.declared.peeks.PeekKind.{PeekKind}
use Rattle.pt_args.specs.pr_base.declared.peeks.PeekKind.TheVariants as kind
use Rattle.pt_args.specs.pt_bind.Binding.{names_of}
use Rattle.pt_args.specs.pt_bind.Tags.{tag_at, tag_of, untagged as unset}
use Rattle.pt_args.specs.pt_bind.declared.slot.Slot.TheVariants.{Cwd}
use Rattle.pt_args.specs.pt_canon.TextWalk.{TextSurroundings, look_text, seen_text}
use Rattle.pt_args.specs.kr_calls.Expansion.{expanded}
use Rattle.pt_args.specs.Bases.{tagged_text, working_text}
use Rattle.pt_script.specs.Expanding.{expanded_at}
use Rattle.pt_script.specs.Programs.{base_from, or_lost}
use Rattle.pt_script.specs.declared.expansion.Expanded.{Expanded}

abbrev bytes_at : List ℕ → Result (List ℕ) Errno
bytes_at host =
    if bytes_eq host (codes "/g/run") then Ok (codes "program")
    else if bytes_eq host (codes "/data/tool") then Ok (codes "another program")
    else if bytes_eq host (codes "/g/one") then Ok (codes "#!/run -e x\n")
    else if bytes_eq host (codes "/data/in") then Ok (codes "#! /run\n")
    else if bytes_eq host (codes "/g/two") then Ok (codes "#!/mnt/in\n")
    else if bytes_eq host (codes "/g/through") then Ok (codes "#!/mnt/tool\n")
    else if bytes_eq host (codes "/g/beside") then Ok (codes "#!/data/tool\n")
    else if bytes_eq host (codes "/g/itself") then Ok (codes "#!/itself\n")
    else if bytes_eq host (codes "/g/refused") then Ok (codes "#!\n")
    else Err EACCES

abbrev files : List (List ℕ)
files =
    codes "/g/run" ∷ codes "/data/tool" ∷ codes "/g/one" ∷ codes "/data/in" ∷ codes "/g/two" ∷ codes "/g/through" ∷ codes "/g/beside"
    ∷ codes "/g/itself" ∷ codes "/g/refused" ∷ codes "/g/closed" ∷ []

abbrev is_in : List (List ℕ) → List ℕ → Bool
is_in hosts host = list_any (bytes_eq host) hosts

abbrev kind_at : List ℕ → Result PeekKind Errno
kind_at host =
    if is_in (codes "/g" ∷ codes "/g/." ∷ codes "/data" ∷ codes "/data/." ∷ []) host then Ok kind.Dir
    else if is_in files host then Ok kind.File
    else Err ENOENT

abbrev told : Peeked
told = record {
  kind = kind_at;
  link_text = λ host. Err EINVAL;
  head = λ host n. bytes_at host;
  steady = λ host. true;
  base_kind = λ pid fd. base.Closed;
  base_name = λ pid fd. None;
  cwd_name = λ pid. Some (codes "/g");
  exe_name = λ pid. None;
}

abbrev guest : TextSurroundings
guest = record {
  bindings =
      record { index = 0; location = []; source = codes "g" ∷ []; point = None }
      ∷ record { index = 1; location = codes "mnt" ∷ []; source = codes "data" ∷ []; point = Some (codes "mnt" ∷ codes "g" ∷ []) } ∷ [];
  peeked = told;
  tags = map.empty;
}

abbrev run : List ℕ → Result Expanded Errno
run path = expanded_at guest 2 0 path (codes "me" ∷ codes "c" ∷ [])

a_program_runs_itself : run (codes "/run") ≡ Ok (record { host = codes "/g/run"; index = 0; args = codes "me" ∷ codes "c" ∷ []; scripts = 0 })
unfolding walk_on look_text seen_text names_of expanded
a_program_runs_itself = refl

a_script_goes_by_its_path : run (codes "/one") ≡ Ok (record { host = codes "/g/run"; index = 0; args = codes "/run" ∷ codes "-e x" ∷ codes "/one" ∷ codes "c" ∷ []; scripts = 1 })
unfolding walk_on look_text seen_text names_of expanded
a_script_goes_by_its_path = refl

a_script_in_a_script_through_a_binding : run (codes "/two") ≡ Ok (record { host = codes "/g/run"; index = 0; args = codes "/run" ∷ codes "/mnt/in" ∷ codes "/two" ∷ codes "c" ∷ []; scripts = 2 })
unfolding walk_on look_text seen_text names_of expanded
a_script_in_a_script_through_a_binding = refl

an_interpreter_in_a_binding : run (codes "/through") ≡ Ok (record { host = codes "/data/tool"; index = 1; args = codes "/mnt/tool" ∷ codes "/through" ∷ codes "c" ∷ []; scripts = 1 })
unfolding walk_on look_text seen_text names_of expanded
an_interpreter_in_a_binding = refl

an_interpreter_of_the_host_alone : run (codes "/beside") ≡ Err ENOENT
unfolding walk_on look_text seen_text names_of expanded
an_interpreter_of_the_host_alone = refl

-- without a tag the working directory came through the binding of the root
untagged : tag_of guest.tags 2 Cwd ≡ 0
untagged = ap (λ t. tag_at (unwrap_or t unset) Cwd) (map.get-empty nat_cmp 2)

a_path_from_the_working_directory : base_from (working_text guest 2) (codes "run") ≡ Ok (codes "/")
unfolding names_of
a_path_from_the_working_directory = ap (λ tag. or_lost (tagged_text guest.bindings tag (Some (codes "/g")))) untagged

a_path_from_a_directory_beside_its_binding : or_lost (tagged_text guest.bindings 1 (Some (codes "/g"))) ≡ Err ENOENT
unfolding names_of
a_path_from_a_directory_beside_its_binding = refl

a_script_of_itself_loops : run (codes "/itself") ≡ Err ELOOP
unfolding walk_on look_text seen_text names_of expanded
a_script_of_itself_loops = refl

a_line_without_a_command : run (codes "/refused") ≡ Err ENOEXEC
unfolding walk_on look_text seen_text names_of expanded
a_line_without_a_command = refl

a_file_that_may_not_be_executed : run (codes "/closed") ≡ Err EACCES
unfolding walk_on look_text seen_text names_of expanded
a_file_that_may_not_be_executed = refl

a_missing_file : run (codes "/none") ≡ Err ENOENT
unfolding walk_on look_text seen_text names_of expanded
a_missing_file = refl

a_file_as_a_directory : run (codes "/run/") ≡ Err ENOTDIR
unfolding walk_on look_text seen_text names_of expanded
a_file_as_a_directory = refl

-- `/run`, `-e x`, `/one` and `c` with their ends are 17 bytes
bytes_may_reach_the_limit : expanded_at guest 2 131055 (codes "/one") (codes "me" ∷ codes "c" ∷ [])
    ≡ Ok (record { host = codes "/g/run"; index = 0; args = codes "/run" ∷ codes "-e x" ∷ codes "/one" ∷ codes "c" ∷ []; scripts = 1 })
unfolding walk_on look_text seen_text names_of expanded
bytes_may_reach_the_limit = refl

bytes_may_not_pass_it : expanded_at guest 2 131056 (codes "/one") (codes "me" ∷ codes "c" ∷ []) ≡ Err E2BIG
unfolding walk_on look_text seen_text names_of expanded
bytes_may_not_pass_it = refl
