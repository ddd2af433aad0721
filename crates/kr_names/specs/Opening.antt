-- What an opening remembers of an entry, and room that is left.
use Rattle.std.specs.Prelude.{ℕ, ◌≤◌, List, [], Option}
use Rattle.std.specs.Option.{option_map_or}
use Rattle.kr_seen.specs.kr_tree.Changes.{byte_limit}
use Rattle.kr_seen.specs.kr_tree.Tree.{Tree}

-- the directory of an entry, 0 where there is none
abbrev pub entry_dir : Option (ℕ × List ℕ) → ℕ
entry_dir entry = option_map_or (λ e. e.0) entry 0

-- its name, empty where there is none
abbrev pub entry_name : Option (ℕ × List ℕ) → List ℕ
entry_name entry = option_map_or (λ e. e.1) entry []

-- no tree passes the limit of bytes, so a file can always be cut
abbrev pub HasRoomLeft : Tree → Type 0
HasRoomLeft t = t.bytes ≤ byte_limit
