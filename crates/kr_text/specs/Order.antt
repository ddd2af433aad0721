-- The names of one directory as they are stored.
use Rattle.std.specs.Prelude.{◌≡◌, ℕ, zero, suc, true, List, [], ◌∷◌, map as map_list}
use Rattle.std.specs.List.{AllByRecursion}
use Rattle.kr_tree.specs.Tree.{Entry}
use Rattle.kr_tree.specs.Names.{is_name}
use Rattle.kr_text.specs.declared.order.Item.{Item}

-- the first n bytes of a name, with zeros behind a shorter one
abbrev pub head : ℕ → List ℕ → List ℕ
head zero name = []
head (suc n) [] = 0 ∷ head n []
head (suc n) (b ∷ name) = b ∷ head n name

-- in front of a name stand its first bytes
abbrev pub HasHead : Item → Type 0
HasHead item = item.head ≡ head 8 item.name.now

abbrev pub pair_of : Item → List ℕ × ℕ
pair_of item = (item.name.now, item.ino)

abbrev pub pairs_of : List Item → List (List ℕ × ℕ)
pairs_of items = map_list pair_of items

-- the names of entries with their inodes
abbrev pub pairs_in : List Entry → List (List ℕ × ℕ)
pairs_in es = map_list (λ e. (e.name, e.inode)) es

abbrev pub AreNamed : List (List ℕ × ℕ) → Type 0
AreNamed names = AllByRecursion (λ p. is_name p.0 ≡ true) names
