-- What the program makes of a listing.
use Rattle.std.specs.Prelude.{◌≡◌, ℕ, true, false, List, [], Result, Ok, Err}
use Rattle.kr_text.specs.kr_tree.Tree.{Tree}
use Rattle.kr_text.specs.kr_inode.declared.user.User.{User}
use Rattle.kr_text.specs.declared.fault.ListFault.TheVariants.{Bad}
use Rattle.kr_text.specs.Reading.{wants_elf, listing_of}
use Rattle.kr_text.specs.Canonical.{canonical}
use Rattle.list_tree.specs.declared.fault.Fault.{Fault}
use Rattle.list_tree.specs.declared.fault.Fault.TheVariants.{Word, Input, Output, Memory, Elf, Line, Full}

-- a listing with a line that begins with `x ` is refused, and no other is refused so. Of any other
-- there is the canonical listing of its tree and user, or its first bad line, or memory ran out
abbrev pub IsRewritten : List ℕ → Result (List ℕ) Fault → Type 0
IsRewritten listing (Ok out) = (wants_elf listing ≡ false) × (t : Tree) × (user : User) × (listing_of [] listing ≡ Ok (t, user)) × (out ≡ canonical t user)
IsRewritten listing (Err Elf) = wants_elf listing ≡ true
IsRewritten listing (Err (Line line why)) = (wants_elf listing ≡ false) × (listing_of [] listing ≡ Err (Bad line why))
IsRewritten listing (Err Memory) = wants_elf listing ≡ false
IsRewritten listing (Err Word) = ⊥
IsRewritten listing (Err Input) = ⊥
IsRewritten listing (Err Output) = ⊥
IsRewritten listing (Err Full) = ⊥
