-- Trees to which names are added, and the numbers that were drawn.
use Rattle.std.proofs.Common.{◌≡◌, ◌≢◌, ℕ, ◌+◌, ◌<◌, ◌≤◌, ◌^◌, Bool, true, false, cond, List, [], ◌∷◌, ◌++◌, Option, Some, None, refl, sym, ap, subst, ◌∙◌, arith}
use Rattle.std.specs.Prelude.{is_some}
use Rattle.std.specs.FinMap as map
use Rattle.std.specs.Cmp.{nat_cmp_total}
use Rattle.std.specs.Ordering.{nat_cmp}
use Rattle.std.specs.Option.{option_map, option_map_or}
use Rattle.kr_tree.specs.kr_inode.declared.standing.Standing.{Standing}
use Rattle.kr_tree.specs.kr_inode.declared.node.Node.{Node as NewNode}
use Rattle.kr_tree.specs.kr_inode.Stored.{body_of_new}
use Rattle.kr_tree.proofs.kr_inode.BodyLemmas.{entries-with_entries, entries-with_standing, takes-is_listed, entries-new}
use Rattle.kr_tree.specs.Tree.{Tree, Entry, entries_of, is_listed, Inode, Inodes, Body, Directory, RegularFile, SymbolicLink, ProcessDirectory, root, inode, body_is, takes_names, is_file, may_be_linked, is_directory}
use Rattle.kr_tree.specs.Changes.{added, linked, new_tree, fresh, with_inode, with_entry, with_names, with_standing, next_standing, next_serial}
use Rattle.kr_tree.specs.Lawful.{IsKept}
use Rattle.kr_tree.proofs.pr_base.MapLemmas.{get-insert_same, get-insert_other, get-changed_same, get-changed_other, len-changed, by_key}
use Rattle.kr_text.specs.Drawn.{IsDrawn, after_last}

-- what isn't drawn yet isn't there
pub next_free : (t : Tree) → IsKept t → inode t t.next ≡ None
next_free t kept = go (inode t t.next) refl
  where
    go : (o : Option Inode) → inode t t.next ≡ o → o ≡ None
    go None e = refl
    go (Some x) e = absurd (omega (arith, (kept.sound.numbered t.next x e).1))

same : (x y : Inode) → Some x ≡ Some y → x ≡ y
same x y e = cc

mapped : (f : Inode → Inode) (o : Option Inode) (x : Inode) → option_map f o ≡ Some x → (z : Inode) × (o ≡ Some z) × (f z ≡ x)
mapped f None x e = absurd (never e)
  where
    never : None ≡ Some x → ⊥
    never n = cc
mapped f (Some z) x e = (z, refl, same (f z) x e)

-- a test of each inode of a map with one inode changed
with_each : (P : Inode → Type 0) (m : Inodes) (k : ℕ) (f : Inode → Inode) → ((x : Inode) → map.get m k ≡ Some x → P (f x)) → ((q : ℕ) (x : Inode) → map.get m q ≡ Some x → P x) → (q : ℕ) (x : Inode) → map.get (with_inode k f m) q ≡ Some x → P x
with_each P m k f changed others = by_key (λ q. (x : Inode) → map.get (with_inode k f m) q ≡ Some x → P x) k
    (λ x e. let z = mapped f (map.get m k) x (sym (get-changed_same m k f) ∙ e) in subst P z.2 (changed z.0 z.1))
    (λ q n x e. others q x (sym (get-changed_other m k f q n) ∙ e))

-- and of a map with one more
insert_each : (P : Inode → Type 0) (m : Inodes) (k : ℕ) (y : Inode) → P y → ((q : ℕ) (x : Inode) → map.get m q ≡ Some x → P x) → (q : ℕ) (x : Inode) → map.get (map.insert m k y) q ≡ Some x → P x
insert_each P m k y new others = by_key (λ q. (x : Inode) → map.get (map.insert m k y) q ≡ Some x → P x) k
    (λ x e. subst P (same y x (sym (get-insert_same m k y) ∙ e)) new)
    (λ q n x e. others q x (sym (get-insert_other m k y q n) ∙ e))

pub len_more : (m : Inodes) (k : ℕ) (y : Inode) → map.get m k ≡ None → map.len (map.insert m k y) ≡ map.len m + 1
len_more m k y none = map.len-insert nat_cmp_total m k y ∙ ap (λ o. cond (is_some o) (map.len m) (map.len m + 1)) none

pub other_number : (t : Tree) (dir : ℕ) (x : Inode) → IsKept t → inode t dir ≡ Some x → t.next ≢ dir
other_number t dir x kept there is = let l = (kept.sound.numbered dir x there).1 in omega (arith, l, is)

-- ---- a directory to which names can be added

there : (t : Tree) (dir : ℕ) → body_is takes_names t dir ≡ true → (x : Inode) × (inode t dir ≡ Some x)
there t dir takes = go (inode t dir) refl takes
  where
    go : (o : Option Inode) → inode t dir ≡ o → option_map_or (λ x. takes_names x.node.body) o false ≡ true → (x : Inode) × (inode t dir ≡ Some x)
    go None e h = absurd (never h)
      where
        never : false ≡ true → ⊥
        never n = cc
    go (Some x) e h = (x, e)

takes_at : (t : Tree) (dir : ℕ) (x : Inode) → inode t dir ≡ Some x → body_is takes_names t dir ≡ true → takes_names x.node.body ≡ true
takes_at t dir x is takes = sym (ap (λ o. option_map_or (λ z. takes_names z.node.body) o false) is) ∙ takes

-- ---- the serials of one directory

-- its next serial is one after its last entry's
NextSerial : Inode → Type 0
NextSerial x = x.next_serial ≡ after_last 3 (entries_of x.node.body)

after_new : (next : ℕ) (es : List Entry) (e : Entry) → after_last next (es ++ e ∷ []) ≡ e.serial + 1
after_new next [] e = refl
after_new next (x ∷ es) e = after_new (x.serial + 1) es e

serial_of_new : (x : Inode) (name : List ℕ) (i : ℕ) (is_dir : Bool) → is_listed x.node.body ≡ true → NextSerial (with_entry name i is_dir x)
unfolding NextSerial
serial_of_new x name i is_dir listed =
    let e : Entry = record { name = name; serial = x.next_serial; inode = i } in
    sym (ap (after_last 3) (entries-with_entries (λ es. es ++ e ∷ []) x.node.body listed) ∙ after_new 3 (entries_of x.node.body) e)

serial_of_fresh : (mode uid gid : ℕ) (s : Option Standing) (b : Body) → entries_of b ≡ [] → NextSerial (fresh mode uid gid (with_standing s b))
unfolding NextSerial
serial_of_fresh mode uid gid s b none = sym (ap (after_last 3) (entries-with_standing s b ∙ none))

-- ---- the changes

there_still : (m : Inodes) (k : ℕ) (f : Inode → Inode) (q : ℕ) (x : Inode) → map.get m q ≡ Some x → (y : Inode) × (map.get (with_inode k f m) q ≡ Some y)
there_still m k f q x there = by_key (λ r. (z : Inode) → map.get m r ≡ Some z → (y : Inode) × (map.get (with_inode k f m) r ≡ Some y)) k
    (λ z e. (f z, get-changed_same m k f ∙ ap (option_map f) e))
    (λ r other z e. (z, get-changed_other m k f r other ∙ e)) q x there

pub added_drawn : (t : Tree) (dir : ℕ) (x : Inode) (name : List ℕ) (mode uid gid : ℕ) (b : Body) → IsKept t → IsDrawn t → inode t dir ≡ Some x → is_listed x.node.body ≡ true → entries_of b ≡ [] → IsDrawn (added dir name mode uid gid b t)
unfolding NextSerial
added_drawn t dir x name mode uid gid b kept drawn there listed no_entries =
    let f : Inode → Inode = with_entry name t.next (is_directory b) in
    let m : Inodes = with_inode dir f t.inodes in
    let y : Inode = fresh mode uid gid (with_standing (next_standing t dir) b) in
    let free : map.get m t.next ≡ None = get-changed_other t.inodes dir f t.next (other_number t dir x kept there) ∙ next_free t kept in
    let serial : (z : Inode) → map.get t.inodes dir ≡ Some z → NextSerial (f z) = λ z e. serial_of_new z name t.next (is_directory b) (subst (λ w. is_listed w.node.body ≡ true) (same x z (sym there ∙ e)) listed) in
    record {
      last_number = t.next;
      last_inode = y;
      last_there = get-insert_same m t.next y;
      next_number = refl;
      all_numbers = let more = len_more m t.next y free in let len = len-changed t.inodes dir f in let next = drawn.next_number in let all = drawn.all_numbers in omega (arith, more, len, next, all);
      unheld = insert_each (λ z. z.holds ≡ 0) m t.next y refl (with_each (λ z. z.holds ≡ 0) t.inodes dir f (λ z e. drawn.unheld dir z e) drawn.unheld);
      next_serials = insert_each NextSerial m t.next y (serial_of_fresh mode uid gid (next_standing t dir) b no_entries) (with_each NextSerial t.inodes dir f serial drawn.next_serials);
      few_serials = insert_each (λ z. z.next_serial ≤ t.names + 1 + 3) m t.next y (omega arith) (with_each (λ z. z.next_serial ≤ t.names + 1 + 3) t.inodes dir f (λ z e. let l = drawn.few_serials dir z e in omega (arith, l)) (λ q z e. let l = drawn.few_serials q z e in omega (arith, l)));
    }

pub linked_drawn : (t : Tree) (dir file : ℕ) (name : List ℕ) → body_is takes_names t dir ≡ true → IsDrawn t → IsDrawn (linked dir name file t)
unfolding NextSerial
linked_drawn t dir file name takes drawn =
    let f : Inode → Inode = with_entry name file false in
    let m : Inodes = with_inode dir f t.inodes in
    let g : Inode → Inode = with_names (λ n. n + 1) in
    let unheld_m : (q : ℕ) (z : Inode) → map.get m q ≡ Some z → z.holds ≡ 0 = with_each (λ z. z.holds ≡ 0) t.inodes dir f (λ z e. drawn.unheld dir z e) drawn.unheld in
    let next_m : (q : ℕ) (z : Inode) → map.get m q ≡ Some z → NextSerial z = with_each NextSerial t.inodes dir f (λ z e. serial_of_new z name file false (takes-is_listed z.node.body (takes_at t dir z e takes))) drawn.next_serials in
    let few_m : (q : ℕ) (z : Inode) → map.get m q ≡ Some z → z.next_serial ≤ t.names + 1 + 3 = with_each (λ z. z.next_serial ≤ t.names + 1 + 3) t.inodes dir f (λ z e. let l = drawn.few_serials dir z e in omega (arith, l)) (λ q z e. let l = drawn.few_serials q z e in omega (arith, l)) in
    let one = there_still t.inodes dir f drawn.last_number drawn.last_inode drawn.last_there in
    let two = there_still m file g drawn.last_number one.0 one.1 in
    record {
      last_number = drawn.last_number;
      last_inode = two.0;
      last_there = two.1;
      next_number = drawn.next_number;
      all_numbers = len-changed m file g ∙ len-changed t.inodes dir f ∙ drawn.all_numbers;
      unheld = with_each (λ z. z.holds ≡ 0) m file g (λ z e. unheld_m file z e) unheld_m;
      next_serials = with_each NextSerial m file g (λ z e. next_m file z e) next_m;
      few_serials = with_each (λ z. z.next_serial ≤ t.names + 1 + 3) m file g (λ z e. few_m file z e) few_m;
    }

no_inode : (q : ℕ) (z : Inode) → map.get (map.empty {X = Inode} {R = nat_cmp}) q ≡ Some z → ⊥
no_inode q z e = let none = map.get-empty {X = Inode} nat_cmp q in cc

pub new_drawn : (mode uid gid : ℕ) → IsDrawn (new_tree mode uid gid)
unfolding NextSerial
new_drawn mode uid gid =
    let y : Inode = fresh mode uid gid (Directory [] (Some (record { inode = root; serial = 0 }))) in
    record {
      last_number = root;
      last_inode = y;
      last_there = get-insert_same map.empty root y;
      next_number = refl;
      all_numbers = let more = len_more map.empty root y (map.get-empty nat_cmp root) in let none = map.len-empty nat_cmp Inode in omega (arith, more, none);
      unheld = insert_each (λ z. z.holds ≡ 0) map.empty root y refl (λ q z e. absurd (no_inode q z e));
      next_serials = insert_each NextSerial map.empty root y refl (λ q z e. absurd (no_inode q z e));
      few_serials = insert_each (λ z. z.next_serial ≤ 0 + 3) map.empty root y (omega arith) (λ q z e. absurd (no_inode q z e));
    }

-- what is asked of the numbers before one more is drawn
pub next_fits : (t : Tree) → IsKept t → IsDrawn t → t.next + 1 < 2 ^ 32
next_fits t kept drawn = let next = drawn.next_number in let all = drawn.all_numbers in let len = kept.sound.inodes_limited in omega (arith, next, all, len)

pub serial_fits : (t : Tree) (dir : ℕ) → IsKept t → IsDrawn t → next_serial t dir + 1 < 2 ^ 64
serial_fits t dir kept drawn = go (inode t dir) refl
  where
    go : (o : Option Inode) → inode t dir ≡ o → option_map_or (λ x. x.next_serial) o 0 + 1 < 2 ^ 64
    go None e = omega arith
    go (Some x) e = let l = drawn.few_serials dir x e in let names = kept.sound.names_limited in omega (arith, l, names)

-- a new node where all that is known of the directory is that names can be added to it
pub put_drawn : (t : Tree) (dir : ℕ) (name : List ℕ) (mode uid gid : ℕ) (n : NewNode) → body_is takes_names t dir ≡ true → IsKept t → IsDrawn t → IsDrawn (added dir name mode uid gid (body_of_new n) t)
put_drawn t dir name mode uid gid n takes kept drawn =
    let x = there t dir takes in
    added_drawn t dir x.0 name mode uid gid (body_of_new n) kept drawn x.1 (takes-is_listed x.0.node.body (takes_at t dir x.0 x.1 takes)) (entries-new n)

pub ruleset numbers_fit = (next_fits, serial_fits)

-- a file may have a further name
pub file_linked : (t : Tree) (i : ℕ) → body_is is_file t i ≡ true → body_is may_be_linked t i ≡ true
file_linked t i is = go (inode t i) is
  where
    by_body : (b : Body) → is_file b ≡ true → may_be_linked b ≡ true
    by_body (Directory entries standing) h = cc
    by_body (RegularFile bytes) h = refl
    by_body (SymbolicLink text) h = refl
    by_body (ProcessDirectory standing) h = cc

    go : (o : Option Inode) → option_map_or (λ x. is_file x.node.body) o false ≡ true → option_map_or (λ x. may_be_linked x.node.body) o false ≡ true
    go None h = h
    go (Some x) h = by_body x.node.body h
