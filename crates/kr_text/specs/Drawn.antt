-- What holds of a tree to which names were only added.
use Rattle.std.specs.Prelude.{◌≡◌, ℕ, ◌+◌, ◌≤◌, List, [], ◌∷◌, Some}
use Rattle.std.specs.FinMap as map
use Rattle.kr_tree.specs.Tree.{Tree, Inode, Entry, inode, entries_of}

-- one after the serial of the last entry, and a number where there is none
abbrev pub after_last : ℕ → List Entry → ℕ
after_last next [] = next
after_last next (e ∷ es) = after_last (e.serial + 1) es

-- the inodes' numbers are those from 1 up to the last one, and no inode is held. The next number and
-- each next serial is one after the last that was drawn; serials begin at 3
pub record IsDrawn (t : Tree) : Type 0 where
  pub last_number : ℕ
  pub last_inode : Inode
  pub last_there : inode t last_number ≡ Some last_inode
  pub next_number : t.next ≡ last_number + 1
  pub all_numbers : map.len t.inodes ≡ last_number
  pub unheld : (i : ℕ) (x : Inode) → inode t i ≡ Some x → x.holds ≡ 0
  pub next_serials : (i : ℕ) (x : Inode) → inode t i ≡ Some x → x.next_serial ≡ after_last 3 (entries_of x.node.body)
  -- no directory drew more serials than there are names
  pub few_serials : (i : ℕ) (x : Inode) → inode t i ≡ Some x → x.next_serial ≤ t.names + 3
