-- What the reader of a listing answers, where memory may run out.
use Rattle.std.specs.Prelude.{◌≡◌, ℕ, Result, Ok, Err}
use Rattle.kr_tree.specs.kr_inode.declared.user.User.{User}
use Rattle.kr_tree.specs.Tree.{Tree}
use Rattle.kr_text.specs.declared.fault.TreeWhy.{TreeWhy}
use Rattle.kr_text.specs.declared.fault.ListFault.{ListFault}
use Rattle.kr_text.specs.declared.fault.ListFault.TheVariants.{Bad, NoMemory}
use Rattle.kr_text.specs.declared.so_far.SoFar.{SoFar}

-- the expected answer for line n, or memory ran out
abbrev pub AddsLine : ℕ → Result SoFar TreeWhy → Result (Unit {0}) ListFault → SoFar → Type 0
AddsLine n expected (Ok done) after = expected ≡ Ok after
AddsLine n expected (Err (Bad line why)) after = (line ≡ n) × (expected ≡ Err why)
AddsLine n expected (Err NoMemory) after = Unit {0}

-- the expected tree and user or the expected bad line, or memory ran out
abbrev pub IsListing : Result (Tree × User) ListFault → Result (Tree × User) ListFault → Type 0
IsListing expected (Ok read) = expected ≡ Ok read
IsListing expected (Err (Bad line why)) = expected ≡ Err (Bad line why)
IsListing expected (Err NoMemory) = Unit {0}
