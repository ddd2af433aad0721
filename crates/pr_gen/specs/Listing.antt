-- The tree of a generated case, as a listing: 16 directories with 256 files each, a directory that is bound onto one of them, one that is
-- bound below that, with 256 empty files, and the guest's file.
use Rattle.std.specs.Prelude.{ℕ, zero, suc, List, [], ◌∷◌, ◌++◌, codes}
use Rattle.std.specs.Fmt.{decimal}
use Rattle.kr_text.specs.kr_inode.declared.user.User.{User}
use Rattle.kr_text.specs.Canonical.{user_line, line, octal, path_field, bytes_field}
use Rattle.pr_gen.specs.Draws.{file_bytes, after_files, after_directories}

-- all is owned by user and group 1000
abbrev pub case_user : User
case_user = record { uid = 1000; gid = 1000 }

abbrev pub owner_fields : ℕ → List (List ℕ) → List (List ℕ)
owner_fields mode more = octal mode ∷ decimal case_user.uid ∷ decimal case_user.gid ∷ more

-- directories have mode 0755, and so has the guest; files have 0644
abbrev pub directory_mode : ℕ
directory_mode = 493

abbrev pub file_mode : ℕ
file_mode = 420

-- ---- names

-- a letter and a number
abbrev pub numbered : List ℕ → ℕ → List ℕ
numbered letter k = letter ++ decimal k

-- paths, the deepest name first
abbrev pub below_guest : List ℕ → List (List ℕ)
below_guest name = name ∷ codes "g" ∷ []

abbrev pub directory_path : ℕ → List (List ℕ)
directory_path d = below_guest (numbered (codes "d") d)

abbrev pub file_path : ℕ → ℕ → List (List ℕ)
file_path d f = numbered (codes "f") f ∷ directory_path d

abbrev pub target_path : ℕ → List (List ℕ)
target_path k = numbered (codes "t") k ∷ codes "t" ∷ []

-- ---- lines

-- `d 755 1000 1000 PATH`
abbrev pub directory_line : List (List ℕ) → List ℕ
directory_line path = line (codes "d") (owner_fields directory_mode (path_field path ∷ []))

-- `f 644 1000 1000 PATH HEX`
abbrev pub file_line : List (List ℕ) → List ℕ → List ℕ
file_line path bytes = line (codes "f") (owner_fields file_mode (path_field path ∷ bytes_field bytes ∷ []))

-- `x 755 1000 1000 PATH`
abbrev pub elf_line : List (List ℕ) → List ℕ
elf_line path = line (codes "x") (owner_fields directory_mode (path_field path ∷ []))

-- those of the first files of a directory, where x is the state before the first
unfoldable pub file_lines : ℕ → ℕ → ℕ → List ℕ
file_lines d zero x = []
file_lines d (suc f) x = file_lines d f x ++ file_line (file_path d f) (file_bytes (after_files f x))

-- and of the first directories, each with its files
unfoldable pub directory_lines : ℕ → ℕ → List ℕ
directory_lines zero x = []
directory_lines (suc d) x = directory_lines d x ++ (directory_line (directory_path d) ++ file_lines d 256 (after_directories d x))

-- and of the first of the empty files
unfoldable pub target_lines : ℕ → List ℕ
target_lines zero = []
target_lines (suc k) = target_lines k ++ file_line (target_path k) []

-- ---- the listing

abbrev pub head_lines : List ℕ
head_lines = user_line case_user ++ directory_line [] ++ directory_line (codes "g" ∷ [])

-- where the bindings go, and what they bind
abbrev pub bound_lines : List ℕ
bound_lines =
    directory_line (codes "m" ∷ directory_path 1) ++ directory_line (codes "s" ∷ []) ++
    directory_line (codes "n" ∷ codes "s" ∷ []) ++ directory_line (codes "t" ∷ [])

-- the file that the line of kind `x` names is the guest
unfoldable pub case_listing : ℕ → List ℕ
case_listing n = head_lines ++ directory_lines 16 n ++ bound_lines ++ target_lines 256 ++ elf_line (below_guest (codes "p"))
