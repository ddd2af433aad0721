-- What one line of a listing says, or why it is bad. Its fields are parted by one space.
use Rattle.std.specs.Prelude.{ℕ, Bool, List, [], ◌∷◌, codes, Result, Ok, Err, nat_eq, bytes_eq, if◌then◌else◌}
use Rattle.std.specs.List.{slice_split}
use Rattle.kr_text.specs.declared.fault.TreeWhy.{TreeWhy}
use Rattle.kr_text.specs.declared.fault.TreeWhy.TheVariants.{Form, RootUser}
use Rattle.kr_text.specs.declared.line.Owner.{Owner}
use Rattle.kr_text.specs.declared.line.Line.{Line}
use Rattle.kr_text.specs.declared.line.Line.TheVariants.{User as UserLine, Dir as DirLine, File as FileLine, Elf as ElfLine, Link as LinkLine, Name as NameLine, Proc as ProcLine}
use Rattle.kr_text.specs.Fields.{◌>>=◌, id_of, mode_of, path_of, text_of, bytes_of}

-- ---- lines

abbrev pub is_space : ℕ → Bool
is_space b = nat_eq b 32

abbrev pub fields_of : List ℕ → List (List ℕ)
fields_of line = slice_split is_space line

abbrev pub user_of : ℕ → ℕ → Result Line TreeWhy
user_of uid gid = if nat_eq uid 0 then Err RootUser else Ok (UserLine (record { uid = uid; gid = gid }))

-- `user UID GID`
abbrev pub user_line : List (List ℕ) → Result Line TreeWhy
user_line (uid ∷ gid ∷ []) = id_of uid >>= (λ u. id_of gid >>= (λ g. user_of u g))
user_line _ = Err Form

abbrev pub owner_of : List ℕ → List ℕ → List ℕ → Result Owner TreeWhy
owner_of mode uid gid = mode_of mode >>= (λ m. id_of uid >>= (λ u. id_of gid >>= (λ g. Ok (record { mode = m; uid = u; gid = g }))))

-- `d MODE UID GID PATH`
abbrev pub dir_line : List (List ℕ) → Result Line TreeWhy
dir_line (mode ∷ uid ∷ gid ∷ path ∷ []) = owner_of mode uid gid >>= (λ owner. path_of path >>= (λ names. Ok (DirLine owner names)))
dir_line _ = Err Form

-- `f MODE UID GID PATH HEX`
abbrev pub file_line : List (List ℕ) → Result Line TreeWhy
file_line (mode ∷ uid ∷ gid ∷ path ∷ hex ∷ []) = bytes_of hex >>= (λ bytes. owner_of mode uid gid >>= (λ owner. path_of path >>= (λ names. Ok (FileLine owner names bytes))))
file_line _ = Err Form

-- `x MODE UID GID PATH`
abbrev pub elf_line : List (List ℕ) → Result Line TreeWhy
elf_line (mode ∷ uid ∷ gid ∷ path ∷ []) = owner_of mode uid gid >>= (λ owner. path_of path >>= (λ names. Ok (ElfLine owner names)))
elf_line _ = Err Form

-- the mode of every link, 0777
abbrev pub link_mode : ℕ
link_mode = 511

-- `l UID GID PATH TEXT`
abbrev pub link_line : List (List ℕ) → Result Line TreeWhy
link_line (uid ∷ gid ∷ path ∷ text ∷ []) = id_of uid >>= (λ u. id_of gid >>= (λ g. path_of path >>= (λ names. text_of text >>= (λ target. Ok (LinkLine (record { mode = link_mode; uid = u; gid = g }) names target)))))
link_line _ = Err Form

-- `h PATH EXISTING`
abbrev pub name_line : List (List ℕ) → Result Line TreeWhy
name_line (path ∷ existing ∷ []) = path_of path >>= (λ names. path_of existing >>= (λ earlier. Ok (NameLine names earlier)))
name_line _ = Err Form

-- `p PATH`
abbrev pub proc_line : List (List ℕ) → Result Line TreeWhy
proc_line (path ∷ []) = path_of path >>= (λ names. Ok (ProcLine names))
proc_line _ = Err Form

-- what a line of these fields says; the first of them is its kind
abbrev pub line_of_fields : List (List ℕ) → Result Line TreeWhy
line_of_fields [] = Err Form
line_of_fields (kind ∷ fields) =
    if bytes_eq kind (codes "user") then user_line fields
    else if bytes_eq kind (codes "d") then dir_line fields
    else if bytes_eq kind (codes "f") then file_line fields
    else if bytes_eq kind (codes "x") then elf_line fields
    else if bytes_eq kind (codes "l") then link_line fields
    else if bytes_eq kind (codes "h") then name_line fields
    else if bytes_eq kind (codes "p") then proc_line fields
    else Err Form

-- what a line says, its newline left out
abbrev pub line_of : List ℕ → Result Line TreeWhy
line_of line = line_of_fields (fields_of line)
