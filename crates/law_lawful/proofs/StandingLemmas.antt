-- What is held in a tree after a change was in the tree before it, and is of the same kind; so places and mounts that
-- stood there still do.
use Rattle.std.specs.FinMap as map
use Rattle.std.proofs.Common.{◌≡◌, subst, ℕ, zero, suc, ◌+◌, ◌≤◌, ◌<◌, Bool, true, false, not, ◌&&◌, ◌||◌, nat_eq, nat_lt, List, [], ◌∷◌, length, refl, sym, ap, ◌∙◌, arith, cond, Option, Some, None}
use Rattle.std.specs.Prelude.{position, bytes_eq}
use Rattle.std.specs.List.{list_any, position_or_len}
use Rattle.std.specs.Option.{option_map, option_map_or}
use Rattle.std.proofs.lemmas.Bool.{eq-eqb}
use Rattle.std.proofs.lemmas.Bool.Decides.{nat_tests}
use Rattle.std.proofs.lemmas.Slice.Eq.{bytes_eq-Decides}
use Rattle.kr_model.proofs.pr_base.MapLemmas.{by_key, get-changed_same, get-changed_other, get-remove_same}
use Rattle.kr_model.specs.kr_inode.declared.standing.Standing.{Standing}
use Rattle.kr_model.specs.kr_tree.Tree.{Tree, Inode, Inodes, Entry, Body, Directory, RegularFile, SymbolicLink, ProcessDirectory, inode, body, body_is, entry, is_directory, is_file, is_listed}
use Rattle.kr_model.specs.kr_tree.Changes.{with_inode, without_unused, is_unused_at, with_entries, with_standing, with_bytes, counted}
use Rattle.kr_model.specs.kr_tree.Holds.{holds_at}
use Rattle.kr_model.specs.kr_tree.declared.place.Host.{Host}
use Rattle.kr_model.specs.kr_tree.declared.place.Host.TheVariants.{Node, Proc}
use Rattle.kr_model.specs.kr_tree.declared.place.Place.{Place}
use Rattle.kr_model.proofs.kr_tree.InodesLemmas.{get-unused_other}
use Rattle.kr_model.proofs.kr_tree.NameLemmas.{some_is}
use Rattle.kr_model.specs.kr_view.View.{Row, Point, row, is_there, covered, is_name_at, stands_at, StandsIn}
use Rattle.kr_model.specs.kr_view.Component.{is_processes, is_directory_at}
use Rattle.kr_model.specs.kr_view.InTree.{IsObjectOf, IsPlaceOf}
use Rattle.kr_model.specs.Bare.{pins_of}
use Rattle.kr_model.specs.Lawful.{is_file_at}
use Rattle.kr_model.specs.State.{inode_of}

-- ---- kinds

-- a body is of the same kind as another
pub record IsAlike (b c : Body) : Type 0 where
  pub directory : is_directory c ≡ is_directory b
  pub file : is_file c ≡ is_file b
  pub processes : is_processes c ≡ is_processes b

pub alike-same : (b : Body) → IsAlike b b
alike-same b = record { directory = refl; file = refl; processes = refl }

pub alike-is : (b c : Body) → c ≡ b → IsAlike b c
alike-is b c e = record { directory = ap is_directory e; file = ap is_file e; processes = ap is_processes e }

pub alike-on : {b c d : Body} → IsAlike b c → IsAlike c d → IsAlike b d
alike-on one two = record { directory = two.directory ∙ one.directory; file = two.file ∙ one.file; processes = two.processes ∙ one.processes }

-- ---- inodes

-- what is in the second was in the first, and of the same kind
pub record AllStay (m n : Inodes) : Type 0 where
  pub each : (i : ℕ) (y : Inode) → map.get n i ≡ Some y → (x : Inode) × (map.get m i ≡ Some x) × IsAlike x.node.body y.node.body

-- and so was what is held in the second
pub record HeldStay (m n : Inodes) : Type 0 where
  pub each : (i : ℕ) (y : Inode) → map.get n i ≡ Some y → 0 < y.holds → (x : Inode) × (map.get m i ≡ Some x) × IsAlike x.node.body y.node.body

pub held-all : {m n : Inodes} → AllStay m n → HeldStay m n
held-all all = record { each = λ i y e some. all.each i y e }

pub stay-same : (m : Inodes) → AllStay m m
stay-same m = record { each = λ i y e. (y, e, alike-same y.node.body) }

pub stay-on : {l m n : Inodes} → AllStay l m → AllStay m n → AllStay l n
stay-on one two = record {
  each = λ i y e.
      let second = two.each i y e in
      let first = one.each i second.0 second.1 in
      (first.0, first.1, alike-on first.2 second.2);
}

pub stay-with : (k : ℕ) (g : Inode → Inode) → ((x : Inode) → IsAlike x.node.body (g x).node.body) → (m : Inodes) → AllStay m (with_inode k g m)
stay-with k g alike m = record {
  each = by_key (λ q. (y : Inode) → map.get (with_inode k g m) q ≡ Some y → (x : Inode) × (map.get m q ≡ Some x) × IsAlike x.node.body y.node.body) k
      (λ y e. at y (map.get m k) refl (sym (get-changed_same m k g) ∙ e))
      (λ q d y e. (y, sym (get-changed_other m k g q d) ∙ e, alike-same y.node.body));
}
  where
    at : (y : Inode) (o : Option Inode) → map.get m k ≡ o → option_map g o ≡ Some y → (x : Inode) × (map.get m k ≡ Some x) × IsAlike x.node.body y.node.body
    at y None is e = absurd cc
    at y (Some x) is e = (x, is, subst (λ (z : Inode). IsAlike x.node.body z.node.body) (some_is (g x) y e) (alike x))

pub stay-dropped : (k : ℕ) (m : Inodes) → AllStay m (without_unused k m)
stay-dropped k m = record {
  each = by_key (λ q. (y : Inode) → map.get (without_unused k m) q ≡ Some y → (x : Inode) × (map.get m q ≡ Some x) × IsAlike x.node.body y.node.body) k
      (λ y e. at y (is_unused_at k m) e)
      (λ q d y e. (y, sym (get-unused_other m k q d) ∙ e, alike-same y.node.body));
}
  where
    at : (y : Inode) (b : Bool) → map.get (cond b (map.remove m k) m) k ≡ Some y → (x : Inode) × (map.get m k ≡ Some x) × IsAlike x.node.body y.node.body
    at y true e = absurd (let none = get-remove_same m k in cc)
    at y false e = (y, e, alike-same y.node.body)

-- ---- changes of bodies

pub alike-with_entries : (f : List Entry → List Entry) (b : Body) → IsAlike b (with_entries f b)
alike-with_entries f (Directory entries standing) = record { directory = refl; file = refl; processes = refl }
alike-with_entries f (RegularFile bytes) = record { directory = refl; file = refl; processes = refl }
alike-with_entries f (SymbolicLink text) = record { directory = refl; file = refl; processes = refl }
alike-with_entries f (ProcessDirectory standing) = record { directory = refl; file = refl; processes = refl }

pub alike-with_standing : (s : Option Standing) (b : Body) → IsAlike b (with_standing s b)
alike-with_standing s (Directory entries standing) = record { directory = refl; file = refl; processes = refl }
alike-with_standing s (RegularFile bytes) = record { directory = refl; file = refl; processes = refl }
alike-with_standing s (SymbolicLink text) = record { directory = refl; file = refl; processes = refl }
alike-with_standing s (ProcessDirectory standing) = record { directory = refl; file = refl; processes = refl }

pub alike-with_bytes : (f : List ℕ → List ℕ) (b : Body) → IsAlike b (with_bytes f b)
alike-with_bytes f (Directory entries standing) = record { directory = refl; file = refl; processes = refl }
alike-with_bytes f (RegularFile bytes) = record { directory = refl; file = refl; processes = refl }
alike-with_bytes f (SymbolicLink text) = record { directory = refl; file = refl; processes = refl }
alike-with_bytes f (ProcessDirectory standing) = record { directory = refl; file = refl; processes = refl }

-- ---- objects

-- what is held is there
pub held-there : (t : Tree) (i : ℕ) → 0 < holds_at t i → (y : Inode) × (inode t i ≡ Some y) × (0 < y.holds)
held-there t i some = at (inode t i) refl some
  where
    at : (o : Option Inode) → inode t i ≡ o → 0 < option_map_or (λ (x : Inode). x.holds) o 0 → (y : Inode) × (inode t i ≡ Some y) × (0 < y.holds)
    at None is some = absurd (omega arith)
    at (Some y) is some = (y, is, some)

there-held : (t : Tree) (i : ℕ) (y : Inode) → inode t i ≡ Some y → is_there (inode t i) ≡ true
there-held t i y e = ap (λ o. is_there o) e

-- an object of a tree is the same in another
pub record IsStill (t u : Tree) (h : Host) : Type 0 where
  pub object : IsObjectOf t h → IsObjectOf u h
  pub directory : is_directory_at u h ≡ is_directory_at t h
  pub file : is_file_at u h ≡ is_file_at t h

module _ (t u : Tree) (stay : HeldStay t.inodes u.inodes) where
  test-still : (test : Body → Bool) (i : ℕ) → ((b c : Body) → IsAlike b c → test c ≡ test b) → 0 < holds_at u i → body_is test u i ≡ body_is test t i
  test-still test i same some =
      let y = held-there u i some in
      let x = stay.each i y.0 y.1 y.2 in
      ap (λ o. option_map_or (λ (z : Inode). test z.node.body) o false) y.1 ∙ same x.0.node.body y.0.node.body x.2 ∙ sym (ap (λ o. option_map_or (λ (z : Inode). test z.node.body) o false) x.1)

  pub still : (h : Host) → 0 < holds_at u (inode_of h) → IsStill t u h
  still (Node i) some = record {
    object = λ h. there-held u i (held-there u i some).0 (held-there u i some).1;
    directory = test-still is_directory i (λ b c a. a.directory) some;
    file = test-still is_file i (λ b c a. a.file) some;
  }
  still (Proc i at) some = record {
    object = λ h. test-still is_processes i (λ b c a. a.processes) some ∙ h;
    directory = refl;
    file = refl;
  }

  pub place-still : (table : List Row) (p : Place ℕ) → 0 < holds_at u (inode_of p.host) → IsPlaceOf t table p → IsPlaceOf u table p
  place-still table p some place = record { mounted = place.mounted; object = (still p.host some).object place.object }

-- ---- mounts

-- a list has a passing element, where one at an index passes
any-at : (test : Row → Bool) (table : List Row) (k : ℕ) (r : Row) → row table k ≡ Some r → test r ≡ true → list_any test table ≡ true
any-at test [] k r e passes = absurd cc
any-at test (x ∷ table) zero r e passes = ap (λ b. b || list_any test table) (ap test (some_is x r e) ∙ passes)
any-at test (x ∷ table) (suc k) r e passes = or_later (test x) (list_any test table) (any-at test table k r e passes)
  where
    or_later : (a b : Bool) → b ≡ true → (a || b) ≡ true
    or_later true b h = refl
    or_later false b h = h

there_where : {A : Type 0} (b : Bool) (x : A) → is_there (cond b (Some x) None) ≡ b
there_where true x = refl
there_where false x = refl

one_later : (n m : ℕ) → nat_lt (1 + n) (suc m) ≡ nat_lt n m
one_later n m = grind (arith, nat_tests)

is-first : (test : Row → Bool) (table : List Row) → is_there (position test table) ≡ list_any test table
is-first test [] = refl
is-first test (r ∷ table) =
    let rest = is-first test table in
    let n = position_or_len test table in
    elim (test r) as (λ b. is_there (cond (nat_lt (cond (not b) (1 + n) 0) (length (r ∷ table))) (Some (cond (not b) (1 + n) 0)) None) ≡ (b || list_any test table)) [
      | true ↦ there_where (nat_lt 0 (length (r ∷ table))) 0 ∙ grind (arith, nat_tests)
      | false ↦ there_where (nat_lt (1 + n) (length (r ∷ table))) (1 + n) ∙ one_later n (length table) ∙ sym (there_where (nat_lt n (length table)) n) ∙ rest
    ]

pub point-covers : (table : List Row) (k : ℕ) (r : Row) (p : Point) → row table k ≡ Some r → r.point ≡ Some p → covered table p.dir p.name ≡ true
point-covers table k r p e is =
    is-first (stands_at (is_name_at p.dir p.name)) table
    ∙ any-at (stands_at (is_name_at p.dir p.name)) table k r e (ap (λ o. option_map_or (is_name_at p.dir p.name) o false) is ∙ own)
  where
    own : is_name_at p.dir p.name p ≡ true
    own = ap (λ b. b && bytes_eq p.name p.name) (eq-eqb p.dir p.dir refl) ∙ (bytes_eq-Decides p.name p.name).1 refl

pub source-pinned : (table : List Row) (k : ℕ) (r : Row) → row table k ≡ Some r → pins_of table r.source ≡ 1
source-pinned table k r e = ap counted (any-at (λ (x : Row). nat_eq x.source r.source) table k r e (eq-eqb r.source r.source refl))

-- a name at which a mount stands is an entry of a directory in the second tree, if it is in the first
pub record PointsStay (table : List Row) (t u : Tree) : Type 0 where
  pub each : (dir : ℕ) (name : List ℕ) → covered table dir name ≡ true → body_is is_listed t dir ≡ true → is_there (entry t dir name) ≡ true
      → (body_is is_listed u dir ≡ true) × (is_there (entry u dir name) ≡ true)

-- a table of which each source is held still stands
pub mounts-still : (t u : Tree) (table : List Row) → StandsIn t table → HeldStay t.inodes u.inodes → ((i : ℕ) → pins_of table i ≤ holds_at u i) → PointsStay table t u → StandsIn u table
mounts-still t u table stands stay pinned points = record {
  lawful = stands.lawful;
  rooted = stands.rooted;
  sources = λ k r e. source_still k r e;
  points = λ k r p e is.
      let before = stands.points k r p e is in
      let after = points.each p.dir p.name (point-covers table k r p e is) before.listed before.there in
      record { before = before.before; named = before.named; listed = after.0; there = after.1 };
}
  where
    kind_of : (v : Tree) (i : ℕ) (z : Inode) → inode v i ≡ Some z → option_map is_directory (body v i) ≡ Some (is_directory z.node.body)
    kind_of v i z e = ap (λ o. option_map is_directory (option_map (λ (w : Inode). w.node.body) o)) e

    source_still : (k : ℕ) (r : Row) → row table k ≡ Some r → option_map is_directory (body u r.source) ≡ Some r.is_dir
    source_still k r e =
        let one = source-pinned table k r e in
        let pins = pinned r.source in
        let y = held-there u r.source (omega arith) in
        let x = stay.each r.source y.0 y.1 y.2 in
        kind_of u r.source y.0 y.1 ∙ ap Some x.2.directory ∙ sym (kind_of t r.source x.0 x.1) ∙ stands.sources k r e
