-- The first names of files as they are kept while a listing is written.
use Rattle.std.specs.Prelude.{◌≡◌, ℕ, Bool, true, List, Option, None, nat_lt, if◌then◌else◌}
use Rattle.std.specs.Option.{option_map_or}
use Rattle.std.specs.BTreeMap.{BTreeMap, get}
use Rattle.std.specs.Ordering.{nat_cmp}
use Rattle.kr_tree.specs.Tree.{Tree, inode, body_is, is_file}
use Rattle.kr_text.specs.declared.names.Named.{Named}
use Rattle.kr_text.specs.Canonical.{first_name}

-- whether an inode has several names
abbrev pub has_several : Tree → ℕ → Bool
has_several t i = nat_lt 1 (option_map_or (λ x. x.names) (inode t i) 0)

-- the first name that an inode has among some, if it has several in all
abbrev pub kept_name : Tree → ℕ → List Named → Option (List (List ℕ))
kept_name t i names = if has_several t i then first_name i names else None

-- what is kept of each file with several names is the first one among those that were written, and
-- nothing of the others
abbrev pub AreFirst : Tree → BTreeMap ℕ (List (List ℕ)) → List Named → Type 0
AreFirst t first earlier = (i : ℕ) → body_is is_file t i ≡ true → get nat_cmp first i ≡ kept_name t i earlier
