-- What each change of a tree leaves: a tree that is kept, inodes held as often, and what is held of the same kind; names at
-- which mounts stand stay entries.
use Rattle.std.specs.FinMap as map
use Rattle.std.proofs.Common.{◌≡◌, ◌≢◌, ℕ, ◌+◌, ◌-◌, ◌<◌, Bool, true, false, nat_eq, List, [], refl, sym, ap, ◌∙◌, arith, cond, Option, Some, None}
use Rattle.std.specs.Option.{option_map, option_map_or}
use Rattle.std.proofs.lemmas.Bool.{eqb-true, and_parts}
use Rattle.kr_model.proofs.pr_base.MapLemmas.{by_key, get-changed_other, get-remove_same, get-remove_other, stays-changed}
use Rattle.kr_model.specs.kr_inode.declared.standing.Standing.{Standing}
use Rattle.kr_model.specs.kr_tree.Tree.{Tree, Inode, Inodes, Entry, root, inode, entry_named, entries, entries_of, standing, is_listed}
use Rattle.kr_model.specs.kr_tree.Changes.{with_inode, with_holds, without_unused, is_unused, is_unused_at, held, released}
use Rattle.kr_model.specs.kr_tree.Lawful.{IsKept, IsSound, IsCounted, count_in, names_of}
use Rattle.kr_model.proofs.kr_tree.CountLemmas.{value, sum-at, in-counted, counted-same, entries_there}
use Rattle.kr_model.proofs.kr_tree.DropLemmas.{kept-dropped}
use Rattle.kr_model.proofs.kr_tree.InodesLemmas.{get-unused_other}
use Rattle.kr_model.proofs.kr_tree.OfBytesLemmas.{of_bytes-with}
use Rattle.kr_model.proofs.kr_tree.QuietLemmas.{of_entries, kept-still, held_used, sound-still, counted-still}
use Rattle.kr_model.specs.kr_view.View.{Row, is_there, covered}
use Rattle.law_lawful.proofs.StandingLemmas.{alike-same, AllStay, HeldStay, held-all, stay-same, stay-on, stay-with, stay-dropped, PointsStay}

-- ---- holds

abbrev holds_in : Inodes → ℕ → ℕ
holds_in m q = option_map_or (λ (x : Inode). x.holds) (map.get m q) 0

-- all inodes are held as often as before
pub record AsHeld (m n : Inodes) : Type 0 where
  pub each : (q : ℕ) → holds_in n q ≡ holds_in m q

pub as_held-on : {l m n : Inodes} → AsHeld l m → AsHeld m n → AsHeld l n
as_held-on one two = record { each = λ q. two.each q ∙ one.each q }

pub as_held-with : (k : ℕ) (g : Inode → Inode) → ((x : Inode) → (g x).holds ≡ x.holds) → (m : Inodes) → AsHeld m (with_inode k g m)
as_held-with k g same m = record { each = λ q. stays-changed (λ (o : Option Inode). option_map_or (λ (x : Inode). x.holds) o 0) m k g same q }

-- what is dropped isn't held
pub as_held-dropped : (k : ℕ) (m : Inodes) → AsHeld m (without_unused k m)
as_held-dropped k m = record { each = λ q. by q (is_unused_at k m) refl }
  where
    unheld : (o : Option Inode) → option_map_or is_unused o false ≡ true → option_map_or (λ (x : Inode). x.holds) o 0 ≡ 0
    unheld None h = refl
    unheld (Some x) h = eqb-true x.holds 0 (and_parts (nat_eq x.names 0) (nat_eq x.holds 0) h).1

    by : (q : ℕ) (b : Bool) → is_unused_at k m ≡ b → holds_in (cond b (map.remove m k) m) q ≡ holds_in m q
    by q false is = refl
    by q true is =
        by_key (λ q. holds_in (map.remove m k) q ≡ holds_in m q) k
        (ap (λ (o : Option Inode). option_map_or (λ (x : Inode). x.holds) o 0) (get-remove_same m k) ∙ sym (unheld (map.get m k) is))
        (λ q d. ap (λ (o : Option Inode). option_map_or (λ (x : Inode). x.holds) o 0) (get-remove_other m k q d)) q

-- ---- entries

abbrev pub listed_in : Inodes → ℕ → Bool
listed_in m q = option_map_or (λ (x : Inode). is_listed x.node.body) (map.get m q) false

abbrev pub entries_in : Inodes → ℕ → List Entry
entries_in m q = option_map_or (λ (x : Inode). entries_of x.node.body) (map.get m q) []

abbrev pub entry_in : Inodes → ℕ → List ℕ → Option ℕ
entry_in m q name = option_map (λ (e : Entry). e.inode) (entry_named name (entries_in m q))

-- an entry of a directory is one in the second, if the name passes
pub record EntriesStay (passes : ℕ → List ℕ → Type 0) (m n : Inodes) : Type 0 where
  pub each : (dir : ℕ) (name : List ℕ) → passes dir name → listed_in m dir ≡ true → is_there (entry_in m dir name) ≡ true
      → (listed_in n dir ≡ true) × (is_there (entry_in n dir name) ≡ true)

pub entries-on : {passes : ℕ → List ℕ → Type 0} {l m n : Inodes} → EntriesStay passes l m → EntriesStay passes m n → EntriesStay passes l n
entries-on one two = record { each = λ dir name passed listed there. let first = one.each dir name passed listed there in two.each dir name passed first.0 first.1 }

pub points-of : (table : List Row) (t u : Tree) → EntriesStay (λ dir name. covered table dir name ≡ true) t.inodes u.inodes → PointsStay table t u
points-of table t u stay = record { each = λ dir name passed listed there. stay.each dir name passed listed there }

-- a change of an inode that leaves its entries
pub record LeavesEntries (g : Inode → Inode) : Type 0 where
  pub listed : (x : Inode) → is_listed (g x).node.body ≡ is_listed x.node.body
  pub entries : (x : Inode) → entries_of (g x).node.body ≡ entries_of x.node.body

pub leaves-same : {g : Inode → Inode} → ((x : Inode) → (g x).node.body ≡ x.node.body) → LeavesEntries g
leaves-same same = record { listed = λ x. ap is_listed (same x); entries = λ x. ap entries_of (same x) }

pub entries-with : (passes : ℕ → List ℕ → Type 0) (k : ℕ) (g : Inode → Inode) → LeavesEntries g → (m : Inodes) → EntriesStay passes m (with_inode k g m)
entries-with passes k g leaves m = record {
  each = λ dir name passed listed there. (
    stays-changed (λ (o : Option Inode). option_map_or (λ (x : Inode). is_listed x.node.body) o false) m k g leaves.listed dir ∙ listed,
    ap (λ es. is_there (option_map (λ (e : Entry). e.inode) (entry_named name es))) (stays-changed (λ (o : Option Inode). option_map_or (λ (x : Inode). entries_of x.node.body) o []) m k g leaves.entries dir) ∙ there,
  );
}

-- what is dropped has no entries
pub entries-dropped : (passes : ℕ → List ℕ → Type 0) (k : ℕ) (m : Inodes) → (is_unused_at k m ≡ true → entries_in m k ≡ []) → EntriesStay passes m (without_unused k m)
entries-dropped passes k m none = record {
  each = by_key (λ dir. (name : List ℕ) → passes dir name → listed_in m dir ≡ true → is_there (entry_in m dir name) ≡ true
      → (listed_in (without_unused k m) dir ≡ true) × (is_there (entry_in (without_unused k m) dir name) ≡ true)) k
      (λ name passed listed there. here name listed there (is_unused_at k m) refl)
      (λ q d name passed listed there. (
        ap (λ (o : Option Inode). option_map_or (λ (x : Inode). is_listed x.node.body) o false) (get-unused_other m k q d) ∙ listed,
        ap (λ (o : Option Inode). is_there (option_map (λ (e : Entry). e.inode) (entry_named name (option_map_or (λ (x : Inode). entries_of x.node.body) o [])))) (get-unused_other m k q d) ∙ there,
      ));
}
  where
    here : (name : List ℕ) → listed_in m k ≡ true → is_there (entry_in m k name) ≡ true → (b : Bool) → is_unused_at k m ≡ b
        → (listed_in (cond b (map.remove m k) m) k ≡ true) × (is_there (entry_in (cond b (map.remove m k) m) k name) ≡ true)
    here name listed there false is = (listed, there)
    here name listed there true is =
        absurd (let no : false ≡ true = sym (ap (λ es. is_there (option_map (λ (e : Entry). e.inode) (entry_named name es))) (none is)) ∙ there in cc)

-- what has no name has no entries
pub nameless-empty : (t : Tree) → IsSound t → IsCounted t → (k : ℕ) → value (λ x. x.names) (inode t k) ≡ 0 → entries t k ≡ []
nameless-empty t sound counts k none = sound.emptied k (by (standing t k) refl)
  where
    none_named : names_of t k ≡ 0
    none_named = sym (counts.names k) ∙ none

    not_root : k ≢ root
    not_root is = let one = counted-same k root is in let zero = none_named in absurd (omega arith)

    by : (o : Option Standing) → standing t k ≡ o → o ≡ None
    by None is = refl
    by (Some s) is =
        let e = sound.stands k s not_root is in
        let own : Entry = record { name = e.0; serial = s.serial; inode = k } in
        let there = entries_there t s.inode own e.1 in
        let below = (sound.numbered s.inode there.0 there.1).1 in
        let some = sum-at (λ z. count_in k (entries_of z.node.body)) t.inodes s.inode t.next below in
        let here : value (λ z. count_in k (entries_of z.node.body)) (inode t s.inode) ≡ count_in k (entries t s.inode) = of_entries (count_in k) refl (inode t s.inode) in
        let one : 0 < count_in k (entries t s.inode) = in-counted own (entries t s.inode) e.1 in
        let zero = none_named in
        absurd (omega arith)

pub unused-empty : (t : Tree) → IsSound t → IsCounted t → (k : ℕ) → is_unused_at k t.inodes ≡ true → entries t k ≡ []
unused-empty t sound counts k is = nameless-empty t sound counts k (by (inode t k) is)
  where
    by : (o : Option Inode) → option_map_or is_unused o false ≡ true → value (λ x. x.names) o ≡ 0
    by None h = refl
    by (Some x) h = eqb-true x.names 0 (and_parts (nat_eq x.names 0) (nat_eq x.holds 0) h).0

-- ---- all of it

-- what a change leaves
pub record Leaves (table : List Row) (t u : Tree) : Type 0 where
  pub kept : IsKept u
  pub stay : HeldStay t.inodes u.inodes
  pub points : PointsStay table t u

-- ---- holds and releases

held-kept : (t : Tree) (i : ℕ) → IsKept t → IsKept (held i t)
held-kept t i h = kept-still t i (with_holds (λ n. n + 1)) (λ x. refl) (λ x. refl) (λ x. refl) (λ x. refl) h held_used (with_inode i (with_holds (λ n. n + 1)) t.inodes) refl

-- with a hold less, before the inode is dropped
abbrev less_held : ℕ → Tree → Tree
less_held i t = record { inodes = with_inode i (with_holds (λ n. n - 1)) t.inodes; next = t.next; names = t.names; bytes = t.bytes }

less-sound : (t : Tree) (i : ℕ) → IsKept t → IsSound (less_held i t)
less-sound t i h = sound-still t i (with_holds (λ n. n - 1)) (λ x. refl) (λ x. refl) (λ x. refl) (λ x. refl) h.sound

less-counted : (t : Tree) (i : ℕ) → IsKept t → IsCounted (less_held i t)
less-counted t i h = counted-still t i (with_holds (λ n. n - 1)) (λ x. refl) (λ x. refl) (λ x. refl) (λ x. refl) h.sound h.counted

released-kept : (t : Tree) (i : ℕ) → IsKept t → IsKept (released i t)
released-kept t i h =
    kept-dropped (less_held i t) (less-sound t i h) (less-counted t i h) i
    (λ q z away at. h.used q z (sym (get-changed_other t.inodes i (with_holds (λ n. n - 1)) q away) ∙ at))
    (of_bytes-with t.inodes i (with_holds (λ n. n - 1)) h.bytes (λ _ is. is))

-- a tree with the same entries and kinds, as a hold or a release leaves it
pub record Still (table : List Row) (t u : Tree) : Type 0 where
  pub kept : IsKept u
  pub stay : AllStay t.inodes u.inodes
  pub entries : EntriesStay (λ dir name. covered table dir name ≡ true) t.inodes u.inodes

pub still-same : (table : List Row) (t : Tree) → IsKept t → Still table t t
still-same table t h = record { kept = h; stay = stay-same t.inodes; entries = record { each = λ dir name passed listed there. (listed, there) } }

pub still-on : {table : List Row} {t u v : Tree} → Still table t u → Still table u v → Still table t v
still-on one two = record { kept = two.kept; stay = stay-on one.stay two.stay; entries = entries-on one.entries two.entries }

pub still-leaves : (table : List Row) (t u : Tree) → Still table t u → Leaves table t u
still-leaves table t u still = record { kept = still.kept; stay = held-all still.stay; points = points-of table t u still.entries }

pub held-still : (table : List Row) (t : Tree) (i : ℕ) → IsKept t → Still table t (held i t)
held-still table t i h = record {
  kept = held-kept t i h;
  stay = stay-with i (with_holds (λ n. n + 1)) (λ x. alike-same x.node.body) t.inodes;
  entries = entries-with (λ dir name. covered table dir name ≡ true) i (with_holds (λ n. n + 1)) (leaves-same (λ x. refl)) t.inodes;
}

pub released-still : (table : List Row) (t : Tree) (i : ℕ) → IsKept t → Still table t (released i t)
released-still table t i h =
    let less : Inodes = with_inode i (with_holds (λ n. n - 1)) t.inodes in
    let passes : ℕ → List ℕ → Type 0 = λ dir name. covered table dir name ≡ true in
    record {
      kept = released-kept t i h;
      stay = stay-on (stay-with i (with_holds (λ n. n - 1)) (λ x. alike-same x.node.body) t.inodes) (stay-dropped i less);
      entries =
          entries-on (entries-with passes i (with_holds (λ n. n - 1)) (leaves-same (λ x. refl)) t.inodes)
          (entries-dropped passes i less (unused-empty (less_held i t) (less-sound t i h) (less-counted t i h) i));
    }
