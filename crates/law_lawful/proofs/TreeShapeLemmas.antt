-- What changes of modes, owners, bytes and names leave of a tree.
use Rattle.std.specs.FinMap as map
use Rattle.std.proofs.Common.{◌≡◌, ℕ, ◌+◌, ◌-◌, ◌≤◌, ◌<◌, Bool, true, false, nat_eq, List, [], ◌∷◌, ◌++◌, length, refl, sym, ap, ◌∙◌, arith, cond, Option, Some, None}
use Rattle.std.specs.Prelude.{bytes_eq, max}
use Rattle.std.specs.Option.{option_map, option_map_or}
use Rattle.std.proofs.lemmas.Bool.{ltb-false}
use Rattle.kr_model.proofs.pr_base.MapLemmas.{by_key, get-insert_same, get-insert_other, get-changed_same, get-changed_other}
use Rattle.kr_model.proofs.kr_inode.BodyLemmas.{entries-with_entries, is_listed-with_entries, entries-with_bytes, is_listed-with_bytes}
use Rattle.kr_model.proofs.kr_inode.BytesLemmas.{length-sized, length-overwritten}
use Rattle.kr_model.proofs.kr_inode.EntryLemmas.{named-without}
use Rattle.kr_model.specs.kr_tree.Tree.{Tree, Inode, Inodes, Entry, Body, Directory, RegularFile, SymbolicLink, ProcessDirectory, inode, body_is, entry, entry_named, entries_of, is_directory, is_file, is_listed, bytes_of}
use Rattle.kr_model.specs.kr_tree.Changes.{with_inode, with_mode, with_owner, with_body, with_bytes, with_entries, with_standing, with_entry, without_entry, with_names, without_name, fresh, mode_set, owner_set, bytes_set, added, linked, next_standing, sized, overwritten, size, size_written, file_limit, byte_limit, is_too_big}
use Rattle.kr_model.specs.kr_tree.Lawful.{IsKept, AreBytes}
use Rattle.kr_model.proofs.kr_tree.AddLemmas.{passing, kept-added}
use Rattle.kr_model.proofs.kr_tree.LinkLemmas.{kept-linked}
use Rattle.kr_model.proofs.kr_tree.OfBytesLemmas.{of_bytes-sized, of_bytes-overwritten}
use Rattle.kr_model.proofs.kr_tree.QuietLemmas.{kept-still, kept-bytes, size-le}
use Rattle.kr_model.specs.kr_view.View.{Row, is_there, covered}
use Rattle.kr_model.specs.Conditions.{CanAdd, CanLink, CanResize, CanWrite, is_new}
use Rattle.law_lawful.proofs.StandingLemmas.{IsAlike, alike-same, alike-with_entries, alike-with_bytes, held-all, stay-on, stay-with}
use Rattle.law_lawful.proofs.TreeChangeLemmas.{AsHeld, as_held-on, as_held-with, listed_in, entries_in, entry_in, EntriesStay, entries-on, points-of, leaves-same, entries-with, Leaves}

-- what a change of names, modes or bytes leaves: holds as well
pub record LeavesHolds (table : List Row) (t u : Tree) : Type 0 where
  pub leaves : Leaves table t u
  pub held : AsHeld t.inodes u.inodes

-- ---- modes, owners, bytes

module _ (table : List Row) (t : Tree) (h : IsKept t) where
  pub mode-leaves : (i mode : ℕ) → LeavesHolds table t (mode_set i mode t)
  mode-leaves i mode = record {
    leaves = record {
      kept = kept-still t i (with_mode mode) (λ x. refl) (λ x. refl) (λ x. refl) (λ x. refl) h (λ x used. used) (with_inode i (with_mode mode) t.inodes) refl;
      stay = held-all (stay-with i (with_mode mode) (λ x. alike-same x.node.body) t.inodes);
      points = points-of table t (mode_set i mode t) (entries-with _ i (with_mode mode) (leaves-same (λ x. refl)) t.inodes);
    };
    held = as_held-with i (with_mode mode) (λ x. refl) t.inodes;
  }

  pub owner-leaves : (i uid gid : ℕ) → LeavesHolds table t (owner_set i uid gid t)
  owner-leaves i uid gid = record {
    leaves = record {
      kept = kept-still t i (with_owner uid gid) (λ x. refl) (λ x. refl) (λ x. refl) (λ x. refl) h (λ x used. used) (with_inode i (with_owner uid gid) t.inodes) refl;
      stay = held-all (stay-with i (with_owner uid gid) (λ x. alike-same x.node.body) t.inodes);
      points = points-of table t (owner_set i uid gid t) (entries-with _ i (with_owner uid gid) (leaves-same (λ x. refl)) t.inodes);
    };
    held = as_held-with i (with_owner uid gid) (λ x. refl) t.inodes;
  }

  -- the bytes of a file, and none where there is no file
  abbrev bytes_at : ℕ → List ℕ
  bytes_at i = option_map_or (λ (x : Inode). bytes_of x.node.body) (inode t i) []

  bytes-leaves : (i : ℕ) (f : List ℕ → List ℕ) → body_is is_file t i ≡ true → ((bytes : List ℕ) → AreBytes bytes → AreBytes (f bytes))
      → length (f (bytes_at i)) ≤ file_limit → t.bytes - size t i + length (f (bytes_at i)) ≤ byte_limit → LeavesHolds table t (bytes_set i f t)
  bytes-leaves i f file stay limit all = record {
    leaves = record {
      kept = kept-bytes t h i file f stay (length (f (bytes_at i)))
          (λ x at. ap (λ (o : Option Inode). length (f (option_map_or (λ (z : Inode). bytes_of z.node.body) o []))) at) limit
          (t.bytes - size t i + length (f (bytes_at i))) refl all (with_inode i (with_body (with_bytes f)) t.inodes) refl;
      stay = held-all (stay-with i (with_body (with_bytes f)) (λ x. alike-with_bytes f x.node.body) t.inodes);
      points = points-of table t (bytes_set i f t)
          (entries-with _ i (with_body (with_bytes f)) (record { listed = λ x. is_listed-with_bytes f x.node.body; entries = λ x. entries-with_bytes f x.node.body }) t.inodes);
    };
    held = as_held-with i (with_body (with_bytes f)) (λ x. refl) t.inodes;
  }

  pub size-leaves : (i size : ℕ) → CanResize t i size → LeavesHolds table t (bytes_set i (sized size) t)
  size-leaves i new can =
      let long = length-sized new (bytes_at i) in
      let small = can.small in
      let room = ltb-false byte_limit (t.bytes - size t i + new) can.room in
      bytes-leaves i (sized new) can.file (of_bytes-sized new) (omega arith) (omega arith)

  -- a file has no more bytes than the limit
  file-limited : (i : ℕ) → body_is is_file t i ≡ true → length (bytes_at i) ≤ file_limit
  file-limited i file =
      let x = passing is_file (inode t i) file in
      let is = ap (λ (o : Option Inode). length (option_map_or (λ (z : Inode). bytes_of z.node.body) o [])) x.1 in
      let few = h.sound.files_limited i (bytes_of x.0.node.body) (ap (option_map (λ (z : Inode). z.node.body)) x.1 ∙ ap Some (whole x.0.node.body x.2)) in
      omega arith
    where
      whole : (b : Body) → is_file b ≡ true → b ≡ RegularFile (bytes_of b)
      whole (Directory es st) e = absurd cc
      whole (RegularFile bytes) e = refl
      whole (SymbolicLink text) e = absurd cc
      whole (ProcessDirectory st) e = absurd cc

  size-is : (i : ℕ) → size t i ≡ length (bytes_at i)
  size-is i = by (inode t i)
    where
      by : (o : Option Inode) → option_map_or (λ (x : Inode). length (bytes_of x.node.body)) o 0 ≡ length (option_map_or (λ (x : Inode). bytes_of x.node.body) o [])
      by None = refl
      by (Some x) = refl

  pub write-leaves : (i at : ℕ) (bytes : List ℕ) → CanWrite t i at bytes → LeavesHolds table t (bytes_set i (overwritten at bytes) t)
  write-leaves i at bytes can =
      let can_resize = can.sized in
      let long = length-overwritten at bytes (bytes_at i) in
      let most = written-most (length bytes) (length (bytes_at i)) in
      let old = file-limited i can_resize.file in
      let same = size-is i in
      let within = size-le t h i in
      let limited = h.sound.bytes_limited in
      let small = can_resize.small in
      let room = ltb-false byte_limit (t.bytes - size t i + (at + length bytes)) can_resize.room in
      bytes-leaves i (overwritten at bytes) can_resize.file (λ before are. of_bytes-overwritten at bytes before can.are_bytes are) (omega arith) (omega arith)
    where
      written-most : (count before : ℕ) → size_written at count before ≤ max before (at + count)
      written-most count before = by (nat_eq count 0)
        where
          by : (b : Bool) → cond b before (max before (at + count)) ≤ max before (at + count)
          by true = omega arith
          by false = omega arith

-- ---- entries that come and go

-- a change of a directory that leaves its entries, where their names pass
pub record LeavesSome (passes : List ℕ → Type 0) (g : Inode → Inode) : Type 0 where
  pub listed : (x : Inode) → is_listed (g x).node.body ≡ is_listed x.node.body
  pub entries : (x : Inode) (name : List ℕ) → passes name → is_there (option_map (λ (e : Entry). e.inode) (entry_named name (entries_of x.node.body))) ≡ true
      → is_there (option_map (λ (e : Entry). e.inode) (entry_named name (entries_of (g x).node.body))) ≡ true

abbrev listed_of : Option Inode → Bool
listed_of o = option_map_or (λ (x : Inode). is_listed x.node.body) o false

abbrev holds_here : Option Inode → ℕ
holds_here o = option_map_or (λ (x : Inode). x.holds) o 0

abbrev pub entries_here : Option Inode → List Entry
entries_here o = option_map_or (λ (x : Inode). entries_of x.node.body) o []

abbrev there_of : List ℕ → Option Inode → Bool
there_of name o = is_there (option_map (λ (e : Entry). e.inode) (entry_named name (option_map_or (λ (x : Inode). entries_of x.node.body) o [])))

pub entries-some : (passes : ℕ → List ℕ → Type 0) (k : ℕ) (g : Inode → Inode) → LeavesSome (passes k) g → (m : Inodes) → EntriesStay passes m (with_inode k g m)
entries-some passes k g leaves m = record {
  each = by_key (λ dir. (name : List ℕ) → passes dir name → listed_in m dir ≡ true → is_there (entry_in m dir name) ≡ true
      → (listed_in (with_inode k g m) dir ≡ true) × (is_there (entry_in (with_inode k g m) dir name) ≡ true)) k
      (λ name passed listed there. (
        ap listed_of (get-changed_same m k g) ∙ here_listed (map.get m k) listed,
        ap (there_of name) (get-changed_same m k g) ∙ here_there name passed (map.get m k) there,
      ))
      (λ q d name passed listed there. (ap listed_of (get-changed_other m k g q d) ∙ listed, ap (there_of name) (get-changed_other m k g q d) ∙ there));
}
  where
    here_listed : (o : Option Inode) → listed_of o ≡ true → listed_of (option_map g o) ≡ true
    here_listed None e = e
    here_listed (Some x) e = leaves.listed x ∙ e

    here_there : (name : List ℕ) → passes k name → (o : Option Inode) → there_of name o ≡ true → there_of name (option_map g o) ≡ true
    here_there name passed None e = e
    here_there name passed (Some x) e = leaves.entries x name passed e

-- an entry more
grown : (name other : List ℕ) (e : Entry) (es : List Entry) → is_there (option_map (λ (e : Entry). e.inode) (entry_named name es)) ≡ true → is_there (option_map (λ (e : Entry). e.inode) (entry_named name (es ++ e ∷ []))) ≡ true
grown name other e [] there = absurd cc
grown name other e (x ∷ es) there =
    elim (bytes_eq name x.name) as (λ b. is_there (option_map (λ (e : Entry). e.inode) (cond b (Some x) (entry_named name es))) ≡ true → is_there (option_map (λ (e : Entry). e.inode) (cond b (Some x) (entry_named name (es ++ e ∷ [])))) ≡ true) [
      | true ↦ λ _. refl
      | false ↦ λ there. grown name other e es there
    ] there

listed-by : (b : Body) (name : List ℕ) → is_there (option_map (λ (e : Entry). e.inode) (entry_named name (entries_of b))) ≡ true → is_listed b ≡ true
listed-by (Directory es st) name there = refl
listed-by (RegularFile bytes) name there = absurd cc
listed-by (SymbolicLink text) name there = absurd cc
listed-by (ProcessDirectory st) name there = absurd cc

pub with_entry-leaves : (passes : List ℕ → Type 0) (name : List ℕ) (i : ℕ) (is_dir : Bool) → LeavesSome passes (with_entry name i is_dir)
with_entry-leaves passes name i is_dir = record {
  listed = λ x. is_listed-with_entries (λ es. es ++ (record { name = name; serial = x.next_serial; inode = i }) ∷ []) x.node.body;
  entries = λ x other passed there.
      let e : Entry = record { name = name; serial = x.next_serial; inode = i } in
      ap (λ es. is_there (option_map (λ (e : Entry). e.inode) (entry_named other es))) (entries-with_entries (λ es. es ++ e ∷ []) x.node.body (listed-by x.node.body other there))
      ∙ grown other name e (entries_of x.node.body) there;
}

-- the entry of another name stays
pub without_entry-leaves : (passes : List ℕ → Type 0) (name : List ℕ) (is_dir : Bool) → ((other : List ℕ) → passes other → bytes_eq name other ≡ false) → LeavesSome passes (without_entry name is_dir)
without_entry-leaves passes name is_dir apart = record {
  listed = λ x. is_listed-with_entries (without_name name) x.node.body;
  entries = λ x other passed there.
      ap (λ es. is_there (option_map (λ (e : Entry). e.inode) (entry_named other es))) (entries-with_entries (without_name name) x.node.body (listed-by x.node.body other there))
      ∙ ap (λ o. is_there (option_map (λ (e : Entry). e.inode) o)) (named-without other name (entries_of x.node.body) (apart other passed)) ∙ there;
}

-- a directory that has no entries has none without one
pub none-without_entry : (k : ℕ) (name : List ℕ) (is_dir : Bool) (m : Inodes) (i : ℕ) → entries_in m i ≡ [] → entries_in (with_inode k (without_entry name is_dir) m) i ≡ []
none-without_entry k name is_dir m = by_key (λ i. entries_in m i ≡ [] → entries_in (with_inode k (without_entry name is_dir) m) i ≡ []) k
    (λ none. ap entries_here (get-changed_same m k (without_entry name is_dir)) ∙ by (map.get m k) none)
    (λ q d none. ap entries_here (get-changed_other m k (without_entry name is_dir) q d) ∙ none)
  where
    empty : (b : Body) → entries_of b ≡ [] → entries_of (with_entries (without_name name) b) ≡ []
    empty (Directory es st) none = ap (without_name name) none
    empty (RegularFile bytes) none = refl
    empty (SymbolicLink text) none = refl
    empty (ProcessDirectory st) none = refl

    by : (o : Option Inode) → entries_here o ≡ [] → entries_here (option_map (without_entry name is_dir) o) ≡ []
    by None none = refl
    by (Some x) none = empty x.node.body none

-- ---- new names

module _ (table : List Row) (t : Tree) (h : IsKept t) where
  -- the number that is drawn next isn't in use
  next-free : inode t t.next ≡ None
  next-free = by (inode t t.next) refl
    where
      by : (o : Option Inode) → inode t t.next ≡ o → o ≡ None
      by None is = refl
      by (Some x) is = let below = (h.sound.numbered t.next x is).1 in absurd (omega arith)

  new-plain : (b : Body) → is_new b ≡ true → (entries_of b ≡ []) × (is_too_big b ≡ false)
  new-plain (Directory [] None) e = (refl, refl)
  new-plain (Directory [] (Some s)) e = absurd cc
  new-plain (Directory (x ∷ es) st) e = absurd cc
  new-plain (RegularFile []) e = (refl, refl)
  new-plain (RegularFile (b ∷ bytes)) e = absurd cc
  new-plain (SymbolicLink text) e = (refl, refl)
  new-plain (ProcessDirectory st) e = absurd cc

  pub add-leaves : (dir : ℕ) (name : List ℕ) (mode uid gid : ℕ) (b : Body) → CanAdd t dir name mode b → LeavesHolds table t (added dir name mode uid gid b t)
  add-leaves dir name mode uid gid b can =
      let g : Inode → Inode = with_entry name t.next (is_directory b) in
      let m : Inodes = with_inode dir g t.inodes in
      let new : Inode = fresh mode uid gid (with_standing (next_standing t dir) b) in
      let u : Tree = added dir name mode uid gid b t in
      let plain = new-plain b can.new in
      let entered = stay-with dir g (λ x. alike-with_entries (λ es. es ++ (record { name = name; serial = x.next_serial; inode = t.next }) ∷ []) x.node.body) t.inodes in
      let listed = entries-some (λ dir name. covered table dir name ≡ true) dir g (with_entry-leaves (λ name. covered table dir name ≡ true) name t.next (is_directory b)) t.inodes in
      record {
        leaves = record {
          kept = kept-added t h dir name mode uid gid b can.named.takes can.named.well_formed can.named.free plain.0 plain.1 (length (bytes_of b)) refl can.room can.named.bytes can.bytes u.inodes refl;
          stay = record {
            each = by_key (λ q. (y : Inode) → map.get (map.insert m t.next new) q ≡ Some y → 0 < y.holds → (x : Inode) × (map.get t.inodes q ≡ Some x) × IsAlike x.node.body y.node.body) t.next
                (λ y e some. absurd (unheld new y (sym (get-insert_same m t.next new) ∙ e) refl some))
                (λ q d y e some. entered.each q y (sym (get-insert_other m t.next new q d) ∙ e));
          };
          points = record {
            each = by_key (λ q. (name : List ℕ) → covered table q name ≡ true → body_is is_listed t q ≡ true → is_there (entry t q name) ≡ true → (body_is is_listed u q ≡ true) × (is_there (entry u q name) ≡ true)) t.next
                (λ other passed at there. absurd (let no : false ≡ true = sym (ap listed_of next-free) ∙ at in cc))
                (λ q d other passed at there.
                let after = listed.each q other passed at there in
                (ap listed_of (get-insert_other m t.next new q d) ∙ after.0, ap (there_of other) (get-insert_other m t.next new q d) ∙ after.1));
          };
        };
        held = record {
          each = by_key (λ q. holds_here (map.get (map.insert m t.next new) q) ≡ holds_here (map.get t.inodes q)) t.next
              (ap holds_here (get-insert_same m t.next new) ∙ sym (ap holds_here next-free))
              (λ q d. ap holds_here (get-insert_other m t.next new q d) ∙ (as_held-with dir g (λ x. refl) t.inodes).each q);
        };
      }
    where
      unheld : (new y : Inode) → Some new ≡ Some y → new.holds ≡ 0 → 0 < y.holds → ⊥
      unheld new y e none some = let same = ap holds_here e in omega arith

  pub link-leaves : (dir : ℕ) (name : List ℕ) (i : ℕ) → CanLink t dir name i → LeavesHolds table t (linked dir name i t)
  link-leaves dir name i can =
      let g : Inode → Inode = with_entry name i false in
      let m : Inodes = with_inode dir g t.inodes in
      let more : Inode → Inode = with_names (λ n. n + 1) in
      let u : Tree = linked dir name i t in
      record {
        leaves = record {
          kept = kept-linked t h dir name i can.named.takes can.named.well_formed can.named.free can.linked can.room can.named.bytes u.inodes refl;
          stay = held-all (stay-on (stay-with dir g (λ x. alike-with_entries (λ es. es ++ (record { name = name; serial = x.next_serial; inode = i }) ∷ []) x.node.body) t.inodes) (stay-with i more (λ x. alike-same x.node.body) m));
          points = points-of table t u
              (entries-on (entries-some (λ dir name. covered table dir name ≡ true) dir g (with_entry-leaves (λ name. covered table dir name ≡ true) name i false) t.inodes)
              (entries-with (λ dir name. covered table dir name ≡ true) i more (leaves-same (λ x. refl)) m));
        };
        held = as_held-on (as_held-with dir g (λ x. refl) t.inodes) (as_held-with i more (λ x. refl) m);
      }
