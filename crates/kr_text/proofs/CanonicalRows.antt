-- Lines of a canonical listing, and the order of its names.
use Rattle.std.proofs.Common.{◌≡◌, ℕ, List, [], ◌∷◌, ◌++◌, Some, None, refl}
use Rattle.std.specs.Prelude.{codes}
use Rattle.std.specs.Fmt.{digits}
use Rattle.hex.proofs.OnLiterals.{hex_on_literals}
use Rattle.kr_tree.specs.Tree.{Entry, Directory, RegularFile, SymbolicLink, ProcessDirectory}
use Rattle.kr_text.specs.declared.line.Owner.{Owner}
use Rattle.kr_text.specs.Canonical.{user_line, escaped, body_line, put_in_order, first_name}

abbrev owner_with : ℕ → Owner
owner_with mode = record { mode = mode; uid = 1000; gid = 10 }

abbrev entry_of : List ℕ → ℕ → Entry
entry_of name i = record { name = name; serial = 3; inode = i }

abbrev a_b : List (List ℕ)
a_b = codes "b" ∷ codes "a" ∷ []

user_row : user_line (record { uid = 1000; gid = 0 }) ≡ codes "user 1000 0" ++ 10 ∷ []
unfolding digits
user_row = refl

root_row : body_line [] (owner_with 493) None (Directory [] None) ≡ codes "d 755 1000 10 /" ++ 10 ∷ []
unfolding digits
root_row = refl

-- a mode without zeros in front, and the mode 0
sticky_row : body_line a_b (owner_with 1023) None (Directory [] None) ≡ codes "d 1777 1000 10 /a/b" ++ 10 ∷ []
unfolding digits
sticky_row = refl

no_mode_row : body_line a_b (owner_with 0) None (RegularFile []) ≡ codes "f 0 1000 10 /a/b -" ++ 10 ∷ []
unfolding digits
no_mode_row = refl

-- hex digits in lower case
file_row : body_line a_b (owner_with 420) None (RegularFile (170 ∷ 10 ∷ [])) ≡ codes "f 644 1000 10 /a/b aa0a" ++ 10 ∷ []
unfolding digits hex_on_literals
file_row = refl

name_row : body_line a_b (owner_with 420) (Some (codes "c" ∷ [])) (RegularFile []) ≡ codes "h /a/b /c" ++ 10 ∷ []
unfolding digits
name_row = refl

-- a link with several names has a line of its own for each
link_row : body_line a_b (owner_with 511) (Some (codes "c" ∷ [])) (SymbolicLink (codes "../c d")) ≡ codes "l 1000 10 /a/b ../c%20d" ++ 10 ∷ []
unfolding digits hex_on_literals
link_row = refl

process_row : body_line (codes "proc" ∷ []) (owner_with 365) None (ProcessDirectory None) ≡ codes "p /proc" ++ 10 ∷ []
process_row = refl

-- the first and the last byte that stand for themselves, those beside them, and `%`
escapes_row : escaped (32 ∷ 33 ∷ 37 ∷ 126 ∷ 127 ∷ 255 ∷ []) ≡ codes "%20!%25~%7f%ff"
unfolding hex_on_literals
escapes_row = refl

-- a name before those that it begins, and by bytes: capitals before small letters
order_row : put_in_order [] (entry_of (codes "ab") 2 ∷ entry_of (codes "b") 3 ∷ entry_of (codes "a") 4 ∷ entry_of (codes "B") 5 ∷ []) ≡ (codes "B", 5) ∷ (codes "a", 4) ∷ (codes "ab", 2) ∷ (codes "b", 3) ∷ []
order_row = refl

first_of_two : first_name 2 ((record { path = codes "c" ∷ []; ino = 3 }) ∷ (record { path = codes "d" ∷ []; ino = 2 }) ∷ (record { path = codes "e" ∷ []; ino = 2 }) ∷ []) ≡ Some (codes "d" ∷ [])
first_of_two = refl
