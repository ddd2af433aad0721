-- Tables of mounts.
use Rattle.std.proofs.Common.{◌≡◌, ℕ, ◌+◌, Bool, true, false, not, ◌||◌, zero, suc, List, [], ◌∷◌, length, get_or, Option, Some, None, nat_eq, nat_lt, bytes_eq, cond, refl, sym, ap, subst, ◌∙◌, arith}
use Rattle.std.specs.Prelude.{position}
use Rattle.std.specs.Bool.{if◌then◌else◌}
use Rattle.std.specs.Option.{option_map, option_map_or, option_and_then}
use Rattle.std.proofs.lemmas.List.Quantifiers.{position-Some}
use Rattle.std.proofs.lemmas.Bool.Decides.{nat_tests}
use Rattle.std.proofs.lemmas.Bool.{and_parts, eqb-true, eq-eqb}
use Rattle.std.proofs.lemmas.Option.{slice_get-get_or}
use Rattle.std.specs.List.{list_any, position_or_len}
use Rattle.std.proofs.lemmas.Slice.Eq.{bytes_eq-Decides}
use Rattle.kr_tree.specs.pr_base.Paths.{AreNames}
use Rattle.kr_tree.specs.declared.place.Place.{Place}
use Rattle.kr_tree.specs.Tree.{Tree, root, body, body_is, inode, entry, is_directory, is_listed}
use Rattle.kr_tree.specs.Lawful.{IsSound}
use Rattle.kr_tree.proofs.CountLemmas.{root_directory}
use Rattle.kr_view.specs.View.{Point, Row, row, node_in, root_source, root_place, source_place, is_name_at, is_point, stands_at, down, point_place, up, is_there, covered, source, source_entry, plain, plain_row, IsTable, PointStands, StandsIn, IsAsSettled, ino_of}
use Rattle.kr_view.specs.Laws.{IsSettledSource, IsDirectoryIn, LawsOfPlaces}
use Rattle.kr_tree.proofs.pr_base.TextLemmas.{some_is}

and_then : {A B : Type 0} (f : A → Option B) (o : Option A) (y : B) → option_and_then f o ≡ Some y → (x : A) × (o ≡ Some x) × (f x ≡ Some y)
and_then f None y h = absurd cc
and_then f (Some x) y h = (x, refl, h)

mapped : {A B : Type 0} (f : A → B) (o : Option A) (y : B) → option_map f o ≡ Some y → (x : A) × (o ≡ Some x) × (f x ≡ y)
mapped f None y h = absurd cc
mapped f (Some x) y h = (x, refl, some_is (f x) y h)

-- the first row that passes a test is there, and passes
pub first_passes : (test : Row → Bool) (table : List Row) (k : ℕ) → position test table ≡ Some k → (r : Row) × (row table k ≡ Some r) × (test r ≡ true)
first_passes test table k h = let found = position-Some test table k plain_row h in (get_or table k plain_row, slice_get-get_or table k plain_row found.0, found.1)

pub point_there : (test : Point → Bool) (r : Row) → stands_at test r ≡ true → (p : Point) × (r.point ≡ Some p) × (test p ≡ true)
point_there test r h = at r.point refl h
  where
    at : (o : Option Point) → r.point ≡ o → option_map_or test o false ≡ true → (p : Point) × (r.point ≡ Some p) × (test p ≡ true)
    at None is h = absurd cc
    at (Some p) is h = (p, is, h)

name_at_is : (dir : ℕ) (name : List ℕ) (p : Point) → is_name_at dir name p ≡ true → (p.dir ≡ dir) × (p.name ≡ name)
name_at_is dir name p h =
    let two = and_parts (nat_eq p.dir dir) (bytes_eq p.name name) h in (eqb-true p.dir dir two.0, (bytes_eq-Decides p.name name).0 two.1)

point_is : (mount dir : ℕ) (name : List ℕ) (p : Point) → is_point mount dir name p ≡ true → (p.mount ≡ mount) × (is_name_at dir name p ≡ true)
point_is mount dir name p h = let two = and_parts (nat_eq p.mount mount) (is_name_at dir name p) h in (eqb-true p.mount mount two.0, two.1)

-- the row whose mount a point enters
pub down_row : (table : List Row) (mount dir : ℕ) (name : List ℕ) (q : Place ℕ) → down table mount dir name ≡ Some q
    → (r : Row) × (row table q.mount ≡ Some r) × (q ≡ node_in q.mount r.source) × (stands_at (is_point mount dir name) r ≡ true)
down_row table mount dir name q h =
    let found = and_then (source_place table) (position (stands_at (is_point mount dir name)) table) q h in
    let there = mapped (λ r. node_in found.0 r.source) (row table found.0) q found.2 in
    let first = first_passes (stands_at (is_point mount dir name)) table found.0 found.1 in
    let one : first.0 ≡ there.0 = some_is first.0 there.0 (sym first.1 ∙ there.1) in
    let mount_is : found.0 ≡ q.mount = ap (λ p. p.mount) there.2 in (
      there.0,
      sym (ap (row table) mount_is) ∙ there.1,
      sym there.2 ∙ ap (λ k. node_in k there.0.source) mount_is,
      ap (stands_at (is_point mount dir name)) (sym one) ∙ first.2,
    )

-- ---- whether a row passes

there_where : {A : Type 0} (b : Bool) (x : A) → is_there (cond b (Some x) None) ≡ b
there_where true x = refl
there_where false x = refl

one_later : (n m : ℕ) → nat_lt (1 + n) (suc m) ≡ nat_lt n m
one_later n m = grind (arith, nat_tests)

is_first : (test : Row → Bool) (table : List Row) → is_there (position test table) ≡ list_any test table
is_first test [] = refl
is_first test (r ∷ table) =
    let rest = is_first test table in
    let n = position_or_len test table in
    elim (test r) as (λ b. is_there (cond (nat_lt (cond (not b) (1 + n) 0) (length (r ∷ table))) (Some (cond (not b) (1 + n) 0)) None) ≡ (b || list_any test table)) [
      | true ↦ there_where (nat_lt 0 (length (r ∷ table))) 0 ∙ grind (arith, nat_tests)
      | false ↦ there_where (nat_lt (1 + n) (length (r ∷ table))) (1 + n) ∙ one_later n (length table) ∙ sym (there_where (nat_lt n (length table)) n) ∙ rest
    ]

any_more : (one two : Row → Bool) → ((r : Row) → one r ≡ true → two r ≡ true) → (table : List Row) → list_any one table ≡ true → list_any two table ≡ true
any_more one two more [] h = absurd cc
any_more one two more (r ∷ table) h =
    elim (one r) as (λ b. one r ≡ b → (b || list_any one table) ≡ true → (two r || list_any two table) ≡ true) [
      | true ↦ λ is h. ap (λ b. b || list_any two table) (more r is)
      | false ↦ λ is h. later (two r) (list_any two table) (any_more one two more table h)
    ] refl h
  where
    later : (a b : Bool) → b ≡ true → (a || b) ≡ true
    later true b h = refl
    later false b h = h

covers_name : (mount dir : ℕ) (name : List ℕ) (r : Row) → stands_at (is_point mount dir name) r ≡ true → stands_at (is_name_at dir name) r ≡ true
covers_name mount dir name r h =
    let p = point_there (is_point mount dir name) r h in
    ap (λ o. option_map_or (is_name_at dir name) o false) p.1 ∙ (point_is mount dir name p.0 p.2).1

pub there_is : {A : Type 0} (o : Option A) → is_there o ≡ true → (x : A) × (o ≡ Some x)
there_is None h = absurd cc
there_is (Some x) h = (x, refl)

some_there : {A B : Type 0} (f : A → Option B) (o : Option A) → is_there (option_and_then f o) ≡ true → is_there o ≡ true
some_there f None h = absurd cc
some_there f (Some x) h = refl

module _ (t : Tree) (table : List Row) (stands : StandsIn t table) where
  settled : (q : Place ℕ) (r : Row) → row table q.mount ≡ Some r → q ≡ node_in q.mount r.source → IsSettledSource t table q
  settled q r there place = record { settled = r; there = there; place = place; kind = stands.sources q.mount r there }

  source_of_root : root_source table ≡ stands.rooted.0.source
  source_of_root = first table stands.rooted.0 stands.rooted.1
    where
      first : (table : List Row) (r : Row) → row table 0 ≡ Some r → root_source table ≡ r.source
      first [] r h = absurd cc
      first (s ∷ rows) r h = ap (λ r. r.source) (some_is s r h)

  root_settled : IsSettledSource t table (root_place table)
  root_settled = settled (root_place table) stands.rooted.0 stands.rooted.1 (ap (node_in 0) source_of_root)

  root_directory_there : option_map is_directory (body t (root_source table)) ≡ Some true
  root_directory_there =
      ap (λ i. option_map is_directory (body t i)) source_of_root ∙ stands.sources 0 stands.rooted.0 stands.rooted.1 ∙ ap Some stands.rooted.2

  down_settled : (mount dir : ℕ) (name : List ℕ) (q : Place ℕ) → down table mount dir name ≡ Some q → IsSettledSource t table q
  down_settled mount dir name q h = let r = down_row table mount dir name q h in settled q r.0 r.1 r.2

  up_again : (mount dir : ℕ) (name : List ℕ) (k i : ℕ) → down table mount dir name ≡ Some (node_in k i) → up table k i ≡ Some (node_in mount dir)
  up_again mount dir name k i h =
      let r = down_row table mount dir name (node_in k i) h in
      let p = point_there (is_point mount dir name) r.0 r.3 in
      let at = point_is mount dir name p.0 p.2 in
      let named = name_at_is dir name p.0 at.1 in
      let same : r.0.source ≡ i = ap inode_of (sym r.2) in
      ap (option_and_then (λ r. if nat_eq r.source i then point_place r else None)) r.1
      ∙ ap (λ b. if b then point_place r.0 else None) (eq-eqb r.0.source i same)
      ∙ ap (option_map (λ p. node_in p.mount p.dir)) p.1
      ∙ ap (λ m. Some (node_in m p.0.dir)) at.0 ∙ ap (λ d. Some (node_in mount d)) named.0
    where
      inode_of : Place ℕ → ℕ
      inode_of p = ino_of p.host

  up_listed : (mount dir : ℕ) (q : Place ℕ) → up table mount dir ≡ Some q → IsDirectoryIn t q
  up_listed mount dir q h =
      let r = and_then (λ r. if nat_eq r.source dir then point_place r else None) (row table mount) q h in
      at r.0 r.1 (nat_eq r.0.source dir) r.2
    where
      at : (r : Row) → row table mount ≡ Some r → (b : Bool) → (if b then point_place r else None) ≡ Some q → IsDirectoryIn t q
      at r there false h = absurd cc
      at r there true h =
          let p = mapped (λ p. node_in p.mount p.dir) r.point q h in
          record { dir = p.0.dir; place = sym p.2 ∙ ap (λ m. node_in m p.0.dir) (ap (λ p. p.mount) p.2); listed = (stands.points mount r p.0 there p.1).listed }

  down_is_covered : (mount dir : ℕ) (name : List ℕ) → is_there (down table mount dir name) ≡ true → covered table dir name ≡ true
  down_is_covered mount dir name h =
      let any = sym (is_first (stands_at (is_point mount dir name)) table) ∙ some_there (source_place table) (position (stands_at (is_point mount dir name)) table) h in
      is_first (stands_at (is_name_at dir name)) table ∙ any_more (stands_at (is_point mount dir name)) (stands_at (is_name_at dir name)) (covers_name mount dir name) table any

  covered_is_there : (dir : ℕ) (name : List ℕ) → covered table dir name ≡ true → (body_is is_listed t dir ≡ true) × (is_there (entry t dir name) ≡ true)
  covered_is_there dir name h =
      let k = there_is (position (stands_at (is_name_at dir name)) table) h in
      let r = first_passes (stands_at (is_name_at dir name)) table k.0 k.1 in
      let p = point_there (is_name_at dir name) r.0 r.2 in
      let at = name_at_is dir name p.0 p.2 in
      let point = stands.points k.0 r.0 p.0 r.1 p.1 in (
        ap (body_is is_listed t) (sym at.0) ∙ point.listed,
        ap (λ d. is_there (entry t d name)) (sym at.0) ∙ ap (λ n. is_there (entry t p.0.dir n)) (sym at.1) ∙ point.there,
      )

  pub laws_of_places : LawsOfPlaces t table
  laws_of_places = record {
    root_stands = root_settled;
    root_kind = root_directory_there;
    down_stands = down_settled;
    down_up = up_again;
    up_stands = up_listed;
    down_covered = down_is_covered;
    covered_there = covered_is_there;
  }

-- ---- the host's own view

directory_kind : (t : Tree) (i : ℕ) → body_is is_directory t i ≡ true → option_map is_directory (body t i) ≡ Some true
directory_kind t i h =
    elim (inode t i) as (λ o. option_map_or (λ x. is_directory x.node.body) o false ≡ true → option_map is_directory (option_map (λ x. x.node.body) o) ≡ Some true) [
      | None ↦ λ h. absurd cc
      | Some x ↦ λ h. ap Some h
    ] h

no_row : {A : Type 0} (k : ℕ) (r : Row) → row plain (suc k) ≡ Some r → A
no_row k r h = absurd cc

only_row : (k : ℕ) (r : Row) → row plain k ≡ Some r → (k ≡ 0) × (plain_row ≡ r)
only_row zero r h = (refl, some_is plain_row r h)
only_row (suc k) r h = no_row k r h

no_names : AreNames []
no_names = λ i d h. absurd (omega arith)

plain_table : IsTable plain
plain_table = record {
  root_location = λ r h. sym (ap (λ r. r.text.location) (only_row 0 r h).1);
  location_names = λ k r h. let P : Row → Type 0 = λ r. AreNames r.text.location in subst P (only_row k r h).1 no_names;
  root_point = λ r h. sym (ap (λ r. r.point) (only_row 0 r h).1);
  text_point = λ k r h. let P : Row → Type 0 = λ r. is_there r.text.point ≡ is_there r.point in subst P (only_row k r h).1 refl;
  later_point = λ k r h. no_row k r h;
  own_point = λ j k q r p a b _ _. (only_row j q a).0 ∙ sym (only_row k r b).0;
  own_index = λ j k q r a b _. (only_row j q a).0 ∙ sym (only_row k r b).0;
  own_location = λ j k q r a b _. (only_row j q a).0 ∙ sym (only_row k r b).0;
}

plain_in_tree : (t : Tree) → IsSound t → StandsIn t plain
plain_in_tree t sound = record {
  lawful = plain_table;
  rooted = (plain_row, refl, refl);
  sources = sources;
  points = points;
}
  where
    sources : (k : ℕ) (r : Row) → row plain k ≡ Some r → option_map is_directory (body t r.source) ≡ Some r.is_dir
    sources zero r h = let P : Row → Type 0 = λ r. option_map is_directory (body t r.source) ≡ Some r.is_dir in subst P (some_is plain_row r h) (directory_kind t root (root_directory t sound))
    sources (suc k) r h = absurd cc

    points : (k : ℕ) (r : Row) (p : Point) → row plain k ≡ Some r → r.point ≡ Some p → PointStands t k p
    points zero r p h is = let none : None ≡ Some p = ap (λ r. r.point) (some_is plain_row r h) ∙ is in absurd cc
    points (suc k) r p h is = absurd cc

-- its one source is a directory
plain_as_settled : (t : Tree) → IsAsSettled t plain
plain_as_settled t = record {
  named = λ k r h none. absurd (no_file k r h none);
  entered = λ k r h none. absurd (no_file k r h none);
}
  where
    no_file : (k : ℕ) (r : Row) → row plain k ≡ Some r → r.is_dir ≡ false → ⊥
    no_file k r h none = let clash : true ≡ false = ap (λ r. r.is_dir) (only_row k r h).1 ∙ none in absurd cc

pub plain_stands : (t : Tree) → IsSound t → StandsIn t plain × IsAsSettled t plain
plain_stands t sound = (plain_in_tree t sound, plain_as_settled t)

-- ---- as it was settled

pub settled_entry : (t : Tree) (table : List Row) (k : ℕ) (r : Row) (e : ℕ × List ℕ) → IsAsSettled t table → row table k ≡ Some r → source table k ≡ Some e → entry t e.0 e.1 ≡ Some r.source
settled_entry t table k r e settled there is = at r.is_dir refl (sym (ap (option_and_then source_entry) there) ∙ is)
  where
    at : (b : Bool) → r.is_dir ≡ b → (if r.is_dir then None else Some (r.source_dir, r.source_name)) ≡ Some e → entry t e.0 e.1 ≡ Some r.source
    at true kind h = let clash : None ≡ Some e = sym (ap (λ b. if b then None else Some (r.source_dir, r.source_name)) kind) ∙ h in absurd cc
    at false kind h =
        let one = some_is (r.source_dir, r.source_name) e (sym (ap (λ b. if b then None else Some (r.source_dir, r.source_name)) kind) ∙ h) in
        ap (λ (e : ℕ × List ℕ). entry t e.0 e.1) (sym one) ∙ settled.entered k r there kind
