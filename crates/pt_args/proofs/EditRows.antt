-- Edits worked out by hand. The guest's root is `/g` with a file `f` and the mount point `mnt`, at which `/data` with a file
-- `n` is bound; in other rows it is the host's root.
use Rattle.std.proofs.Common.{◌≡◌, ℕ, true, false, List, [], ◌∷◌, ◌++◌, None, Some, Result, Ok, Err, negsuc, pos, refl}
use Rattle.std.specs.FinMap as map
use Rattle.std.specs.Prelude.{Bool, ℤ, codes, if◌then◌else◌}
use Rattle.std.specs.List.{list_any}
use Rattle.std.specs.Str.{bytes_eq}
use Rattle.pt_canon.specs.pr_base.MountText.{MountText}
use Rattle.pt_canon.specs.pr_base.WalkFrame.{walk_on}
use Rattle.pt_canon.specs.pr_base.declared.errno.Errno.{Errno}
use Rattle.pt_canon.specs.pr_base.declared.errno.Errno.TheVariants.{EACCES, EBUSY, EFAULT, EINVAL, EISDIR, ENOENT}
use Rattle.pt_canon.specs.pr_base.declared.peeks.BaseKind.TheVariants as base
use Rattle.pt_canon.specs.pr_base.declared.peeks.PeekKind.{PeekKind}
use Rattle.pt_canon.specs.pr_base.declared.peeks.PeekKind.TheVariants as kind
use Rattle.pt_canon.specs.pt_bind.Binding.{names_of}
use Rattle.pt_canon.specs.TextWalk.{TextSurroundings, look_text, seen_text}
use Rattle.kr_calls.specs.declared.request.Request.{Request}
use Rattle.kr_calls.specs.declared.request.Request.TheVariants as call
use Rattle.pt_args.specs.Edits.{edit_of}
use Rattle.pt_args.specs.declared.edit.Edit.{Edit}
use Rattle.pt_args.specs.declared.edit.Edit.TheVariants.{Pass, Swap, Cancel}

abbrev is_in : List (List ℕ) → List ℕ → Bool
is_in hosts host = list_any (bytes_eq host) hosts

abbrev kind_at : List ℕ → Result PeekKind Errno
kind_at host =
    if is_in (codes "/" ∷ codes "/." ∷ codes "/g" ∷ codes "/g/." ∷ codes "/data" ∷ codes "/data/." ∷ []) host then Ok kind.Dir
    else if is_in (codes "/g/f" ∷ codes "/data/n" ∷ []) host then Ok kind.File
    else Err ENOENT

abbrev over : List MountText → TextSurroundings
over rows = record {
  bindings = rows;
  peeked = record {
    kind = kind_at;
    link_text = λ host. Err EINVAL;
    head = λ host n. Err EACCES;
    steady = λ host. true;
    base_kind = λ pid fd. base.Closed;
    base_name = λ pid fd. None;
    cwd_name = λ pid. None;
    exe_name = λ pid. None;
  };
  tags = map.empty;
}

abbrev guest : TextSurroundings
guest = over (
    record { index = 0; location = []; source = codes "g" ∷ []; point = None }
    ∷ record { index = 1; location = codes "mnt" ∷ []; source = codes "data" ∷ []; point = Some (codes "mnt" ∷ codes "g" ∷ []) } ∷ [])

abbrev host : TextSurroundings
host = over (record { index = 0; location = []; source = []; point = None } ∷ [])

abbrev here : ℤ
here = negsuc 99

abbrev edit : TextSurroundings → Bool → Request → Edit
edit texts usable request = edit_of texts 2 0x2000010000 usable request

abbrev swap : ℕ → ℕ → List ℕ → Edit
swap register at text = Swap ((register, at) ∷ []) ((at, text ++ 0 ∷ []) ∷ [])

looked_up : edit guest true (call.Openat here (codes "/f") 0 0) ≡ swap 11 0x200000FFF8 (codes "/g/f")
unfolding walk_on look_text seen_text names_of
looked_up = refl

in_a_binding : edit guest true (call.Chdir (codes "/mnt/")) ≡ swap 10 0x200000FFF8 (codes "/data")
unfolding walk_on look_text seen_text names_of
in_a_binding = refl

made_name : edit guest true (call.Mkdirat here (codes "/mnt/z/") 0) ≡ swap 11 0x200000FFF0 (codes "/data/z/")
unfolding walk_on look_text seen_text names_of
made_name = refl

below_the_root_of_the_host : edit host true (call.Symlinkat (codes "t") here (codes "/q")) ≡ swap 12 0x200000FFF8 (codes "//q")
unfolding walk_on look_text seen_text names_of
below_the_root_of_the_host = refl

the_root_names_no_entry : edit guest true (call.Mkdirat here (codes "/") 0) ≡ swap 11 0x200000FFF8 (codes "/")
unfolding walk_on look_text seen_text names_of
the_root_names_no_entry = refl

opened_mount_point : edit guest true (call.Openat here (codes "/mnt") 0xC0 0) ≡ swap 11 0x200000FFF8 (codes "/data")
unfolding walk_on look_text seen_text names_of
opened_mount_point = refl

file_with_a_slash : edit guest true (call.Openat here (codes "/z/") 0x40 0) ≡ Cancel EISDIR
unfolding walk_on look_text seen_text names_of
file_with_a_slash = refl

removed_mount_point : edit guest true (call.Unlinkat here (codes "/mnt") 0x200) ≡ Cancel EBUSY
unfolding walk_on look_text seen_text names_of
removed_mount_point = refl

renamed_over_a_mount_point : edit guest true (call.Renameat2 here (codes "/f") here (codes "/mnt")) ≡ Cancel EBUSY
unfolding walk_on look_text seen_text names_of
renamed_over_a_mount_point = refl

-- the plain kernel finds that the old entry is missing
nothing_renamed_over_a_mount_point : edit guest true (call.Renameat2 here (codes "/q") here (codes "/mnt"))
    ≡ Swap ((11, 0x200000FFF8) ∷ (13, 0x200000FFF0) ∷ []) ((0x200000FFF8, codes "/g/q" ++ 0 ∷ []) ∷ (0x200000FFF0, codes "/g/mnt" ++ 0 ∷ []) ∷ [])
unfolding walk_on look_text seen_text names_of
nothing_renamed_over_a_mount_point = refl

closed_descriptor : edit guest true (call.Linkat (pos 7) (codes "f") here (codes "/mnt/z") 0) ≡ Pass
closed_descriptor = refl

-- the first path alone is swapped
second_descriptor_closed : edit guest true (call.Linkat here (codes "/f") (pos 7) (codes "z") 0) ≡ swap 11 0x200000FFF8 (codes "/g/f")
unfolding walk_on look_text seen_text names_of
second_descriptor_closed = refl

lost_working_directory : edit guest true (call.Chdir (codes "f")) ≡ Cancel ENOENT
lost_working_directory = refl

no_shelf : edit guest false (call.Execve (codes "/f") 0 0) ≡ Cancel EFAULT
unfolding walk_on look_text seen_text names_of
no_shelf = refl

no_shelf_needed : edit guest false (call.Newfstatat (pos 3) [] 0 0x1000) ≡ Pass
no_shelf_needed = refl
