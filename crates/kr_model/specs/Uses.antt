-- What holds an inode: each descriptor counts once at its open file, each working directory and executable, and the
-- mounts at each of their sources. It is told by sums over tables, so that a change of one entry is one summand.
use Rattle.std.specs.FinMap as map
use Rattle.std.specs.Prelude.{◌≡◌, ℕ, zero, suc, ◌+◌, ◌≤◌, ◌==◌, List, map as map_list, sum, Option, Some, if◌then◌else◌}
use Rattle.std.specs.Option.{option_map_or}
use Rattle.std.specs.Ordering.{nat_cmp}
use Rattle.kr_files.specs.kr_tree.Holds.{holds_at}
use Rattle.kr_files.specs.kr_tree.declared.place.Place.{Place}
use Rattle.kr_files.specs.Descriptors.{named_count}
use Rattle.kr_files.specs.Files.{Table, Counted}
use Rattle.kr_model.specs.State.{Process, State, inode_of}

-- the sum of f over the values of the keys below n
unfoldable pub sum_to : {X : Type 0} → (X → ℕ) → map.FinMap nat_cmp X → ℕ → ℕ
sum_to f m zero = 0
sum_to f m (suc n) = option_map_or f (map.get m n) 0 + sum_to f m n

module _ {M : Type 0} where
  -- n where a place is at an inode
  abbrev pub at_inode : ℕ → ℕ → Option (Place M) → ℕ
  at_inode i n place = option_map_or (λ p. if inode_of p.host == i then n else 0) place 0

  abbrev pub uses_of : ℕ → Counted M → ℕ
  uses_of i h = at_inode i h.count h.opened.place

  abbrev pub file_uses : Table M → ℕ → ℕ
  file_uses files i = sum_to (uses_of i) files.files (suc files.last_file)

module _ {M X : Type 0} where
  abbrev pub process_use : ℕ → Process M X → ℕ
  process_use i p = at_inode i 1 (Some p.cwd) + at_inode i 1 (Some p.exe)

  abbrev pub process_uses : List (Process M X) → ℕ → ℕ
  process_uses ps i = sum (map_list (process_use i) ps)

  -- how many descriptors of the living processes name an open file
  abbrev pub names_of_file : ℕ → List (Process M X) → ℕ
  names_of_file n ps = sum (map_list (λ p. named_count p.descs n) ps)

  pub record AreUses (pins : ℕ → ℕ) (s : State M X) : Type 0 where
    pub holds : (i : ℕ) → holds_at s.tree i ≡ file_uses s.files i + process_uses s.living i + pins i
    pub counts : (n : ℕ) (h : Counted M) → map.get s.files.files n ≡ Some h → (h.count ≡ names_of_file n s.living) × (1 ≤ h.count)
    pub numbered : (n : ℕ) (h : Counted M) → map.get s.files.files n ≡ Some h → n ≤ s.files.last_file
