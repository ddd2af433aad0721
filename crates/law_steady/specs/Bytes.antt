-- Which changes alter the bytes of files, exactly: a write of the bytes that stand there and a cut to the size that a file has alter none.
use Rattle.std.specs.Prelude.{◌≡◌, ◌↔◌, ◌==◌, ℕ, Bool, true, false, not, List, [], length, bytes_eq, Some}
use Rattle.std.specs.Option.{option_map_or}
use Rattle.law_lawful.specs.kr_tree.Changes.{overwritten}
use Rattle.law_lawful.specs.kr_tree.Lawful.{IsKept}
use Rattle.law_lawful.specs.kr_tree.Tree.{Inode, Tree, bytes_of, inode}
use Rattle.law_lawful.specs.kr_view.View.{Row}
use Rattle.law_lawful.specs.kr_model.Applied.{Mounts, applied, images}
use Rattle.law_lawful.specs.kr_model.Change.{Change, SetSize, WriteFile}
use Rattle.law_lawful.specs.kr_model.Conditions.{CanBeMade}
use Rattle.law_lawful.specs.kr_model.Lawful.{IsLawful}
use Rattle.law_lawful.specs.kr_model.State.{Image, State}
use Rattle.law_lawful.specs.Laws.{CanAllBeMade}
use Rattle.law_steady.specs.Along.{IsToldAlong}
use Rattle.law_steady.specs.Calls.{alter_one_file}

-- the bytes of what has a number; a file has those that it holds
abbrev pub bytes_at : Tree → ℕ → List ℕ
bytes_at t i = option_map_or (λ x. bytes_of x.node.body) (inode t i) []

-- whether a change alters the bytes of a file of this tree
abbrev pub alters_bytes_of : Tree → Change → Bool
alters_bytes_of t (SetSize i size) = not (length (bytes_at t i) == size)
alters_bytes_of t (WriteFile i at bytes) = not (bytes_eq (overwritten at bytes (bytes_at t i)) (bytes_at t i))
alters_bytes_of t _ = false

-- what is in both trees has the same bytes, whether it has a name or not
abbrev pub HasBytes : Tree → Tree → Type 0
HasBytes t u = (i : ℕ) (x y : Inode) → inode t i ≡ Some x → inode u i ≡ Some y → bytes_of y.node.body ≡ bytes_of x.node.body

-- ---- laws

-- a change that can be made leaves the bytes of files exactly where it isn't told to alter them
abbrev pub BytesAreTold : Type 0 → Type 0
BytesAreTold M =
    (number : M → ℕ) (table : List Row) (mounts : Mounts M) (pid : ℕ) (c : Change) (s : State M Image) → IsKept s.tree → CanBeMade number table mounts pid s c
    → (alters_bytes_of s.tree c ≡ false) ↔ HasBytes s.tree (applied images mounts pid c s).tree

-- and so do the changes of a call, one behind the other
abbrev pub BytesAreToldAlong : Type 0 → Type 0
BytesAreToldAlong M =
    (number : M → ℕ) (table : List Row) (mounts : Mounts M) (pid : ℕ) (s : State M Image) (cs : List Change) → IsLawful number table s → CanAllBeMade number table mounts pid s cs
    → alter_one_file cs ≡ true → IsToldAlong alters_bytes_of HasBytes mounts pid s cs
