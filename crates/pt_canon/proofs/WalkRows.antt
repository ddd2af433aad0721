-- Walks over guest texts, worked out by hand. The guest's root is `/g` with a directory `a`, a file `f` and the mount
-- points; `/data` has a file `n` and links to `/f` and to `../f`; `/other` has a file `o`.
use Rattle.std.proofs.Common.{◌≡◌, ℕ, Bool, true, false, List, [], ◌∷◌, None, Result, Ok, Err, refl}
use Rattle.std.specs.FinMap as map
use Rattle.std.specs.Prelude.{codes, if◌then◌else◌}
use Rattle.std.specs.List.{list_any}
use Rattle.std.specs.Str.{bytes_eq}
use Rattle.pt_bind.specs.pr_base.MountText.{MountText}
use Rattle.pt_bind.specs.pr_base.Texts.{Text}
use Rattle.pt_bind.specs.pr_base.WalkFrame.{walk_on}
use Rattle.pt_bind.specs.pr_base.declared.errno.Errno.{Errno}
use Rattle.pt_bind.specs.pr_base.declared.errno.Errno.TheVariants.{EACCES, EINVAL, ENOENT, ENOTDIR}
use Rattle.pt_bind.specs.pr_base.declared.path.Last.{Last}
use Rattle.pt_bind.specs.pr_base.declared.path.Last.TheVariants as last
use Rattle.pt_bind.specs.pr_base.declared.path.WalkMode.TheVariants as modes
use Rattle.pt_bind.specs.pr_base.declared.peeks.BaseKind.TheVariants as base
use Rattle.pt_bind.specs.pr_base.declared.peeks.PeekKind.{PeekKind}
use Rattle.pt_bind.specs.pr_base.declared.peeks.PeekKind.TheVariants as kind
use Rattle.pt_canon.specs.Canon.{canon_of}
use Rattle.pt_canon.specs.TextWalk.{TextSurroundings, look_text, seen_text}
use Rattle.pt_canon.specs.declared.canon.Canon.{Canon}

abbrev is_in : List (List ℕ) → List ℕ → Bool
is_in hosts host = list_any (bytes_eq host) hosts

abbrev directories : List (List ℕ)
directories =
    codes "/g" ∷ codes "/g/." ∷ codes "/g/a" ∷ codes "/g/a/." ∷ codes "/data" ∷ codes "/data/." ∷ codes "/other" ∷ codes "/other/." ∷ codes "/g/closed" ∷ []

abbrev kind_at : List ℕ → Result PeekKind Errno
kind_at host =
    if is_in directories host then Ok kind.Dir
    else if is_in (codes "/g/f" ∷ codes "/data/n" ∷ codes "/other/o" ∷ []) host then Ok kind.File
    else if is_in (codes "/data/abs" ∷ codes "/data/up" ∷ []) host then Ok kind.Link
    else if bytes_eq host (codes "/g/closed/.") then Err EACCES
    else Err ENOENT

abbrev text_at : List ℕ → Result (List ℕ) Errno
text_at host = if bytes_eq host (codes "/data/abs") then Ok (codes "/f") else if bytes_eq host (codes "/data/up") then Ok (codes "../f/") else Err EINVAL

abbrev over : List MountText → TextSurroundings
over rows = record {
  bindings = rows;
  peeked = record {
    kind = kind_at;
    link_text = text_at;
    head = λ host n. Err EACCES;
    steady = λ host. true;
    base_kind = λ pid fd. base.Closed;
    base_name = λ pid fd. None;
    cwd_name = λ pid. None;
    exe_name = λ pid. None;
  };
  tags = map.empty;
}

abbrev bound_at : ℕ → Text → Text → MountText
bound_at index location source = record { index = index; location = location; source = source; point = None }

abbrev one : TextSurroundings
one = over (bound_at 0 [] (codes "g" ∷ []) ∷ bound_at 1 (codes "mnt" ∷ []) (codes "data" ∷ []) ∷ [])

abbrev nested : TextSurroundings
nested = over (bound_at 0 [] (codes "g" ∷ []) ∷ bound_at 1 (codes "x" ∷ codes "mnt" ∷ []) (codes "data" ∷ []) ∷ bound_at 2 (codes "mnt" ∷ []) (codes "other" ∷ []) ∷ [])

-- an answer by its guest text, host text and index, what the path ends with, its slash, and whether it is there
abbrev at : List ℕ → List ℕ → ℕ → Last → Bool → Bool → Result Canon Errno
at guest host index last slash exists = Ok (record { guest = guest; host = host; index = index; last = last; slash = slash; exists = exists })

longest_location : canon_of nested modes.Look [] (codes "/mnt/x/n") ≡ at (codes "/mnt/x/n") (codes "/data/n") 1 last.Name false true
unfolding walk_on look_text seen_text
longest_location = refl

shorter_location : canon_of nested modes.Look [] (codes "/mnt/o") ≡ at (codes "/mnt/o") (codes "/other/o") 2 last.Name false true
unfolding walk_on look_text seen_text
shorter_location = refl

byte_prefix : canon_of one modes.Name [] (codes "/mntx") ≡ at (codes "/mntx") (codes "/g/mntx") 0 last.Name false false
unfolding walk_on look_text seen_text
byte_prefix = refl

absolute_link : canon_of one modes.Look [] (codes "/mnt/abs") ≡ at (codes "/f") (codes "/g/f") 0 last.Name false true
unfolding walk_on look_text seen_text
absolute_link = refl

-- the link's text leads up from its directory, and its slash counts as the path's
relative_link : canon_of one modes.Open [] (codes "/mnt/up") ≡ at (codes "/f") (codes "/g/f") 0 last.Name true true
unfolding walk_on look_text seen_text
relative_link = refl

slash_behind_a_file : canon_of one modes.Look [] (codes "/mnt/up") ≡ Err ENOTDIR
unfolding walk_on look_text seen_text
slash_behind_a_file = refl

link_itself : canon_of one modes.Name [] (codes "/mnt/up") ≡ at (codes "/mnt/up") (codes "/data/up") 1 last.Name false true
unfolding walk_on look_text seen_text
link_itself = refl

up_from_a_mount : canon_of one modes.Look (codes "mnt" ∷ []) (codes "..") ≡ at (codes "/") (codes "/g") 0 last.DotDot false true
unfolding walk_on look_text seen_text
up_from_a_mount = refl

past_the_root : canon_of one modes.Look [] (codes "../../mnt/n") ≡ at (codes "/mnt/n") (codes "/data/n") 1 last.Name false true
unfolding walk_on look_text seen_text
past_the_root = refl

-- where a name may be free, a last `..` answers the directory in which it stands
dots_where_a_name_may_be_free : canon_of one modes.Name [] (codes "/a/..") ≡ at (codes "/a") (codes "/g/a") 0 last.DotDot false false
unfolding walk_on look_text seen_text
dots_where_a_name_may_be_free = refl

root_where_a_name_may_be_free : canon_of one modes.Open [] (codes "/") ≡ at (codes "/") (codes "/g") 0 last.Root false false
unfolding walk_on look_text seen_text
root_where_a_name_may_be_free = refl

free_name : canon_of one modes.Open [] (codes "/mnt/z/") ≡ at (codes "/mnt/z") (codes "/data/z") 1 last.Name true false
unfolding walk_on look_text seen_text
free_name = refl

missing_name : canon_of one modes.Look [] (codes "/mnt/z") ≡ Err ENOENT
unfolding walk_on look_text seen_text
missing_name = refl

up_from_nothing : canon_of one modes.Look [] (codes "/z/..") ≡ Err ENOENT
unfolding walk_on look_text seen_text
up_from_nothing = refl

up_from_a_file : canon_of one modes.Look [] (codes "/f/..") ≡ Err ENOTDIR
unfolding walk_on look_text seen_text
up_from_a_file = refl

up_from_a_closed_directory : canon_of one modes.Look [] (codes "/closed/..") ≡ Err EACCES
unfolding walk_on look_text seen_text
up_from_a_closed_directory = refl
