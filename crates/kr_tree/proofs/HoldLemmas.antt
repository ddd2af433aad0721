-- A tree with fewer holds: it looks the same, and each change does on it what it does on the tree.
use Rattle.std.specs.FinMap as map
use Rattle.std.proofs.Common.{◌≡◌, subst, ℕ, zero, suc, ◌+◌, ◌-◌, ◌≤◌, ◌<◌, Bool, true, false, ◌&&◌, ◌||◌, nat_eq, nat_le, nat_lt, List, [], length, refl, sym, ap, ◌∙◌, arith, cond, Option, Some, None}
use Rattle.std.specs.Option.{option_map, option_map_or, option_and_then}
use Rattle.std.proofs.lemmas.Bool.Decides.{nat_tests}
use Rattle.kr_inode.specs.pr_base.Maps.{mapped}
use Rattle.kr_inode.proofs.pr_base.MapLemmas.{by_key, same_values, get-changed_same, get-changed_other, get-remove_same, get-remove_other, len-mapped, get-mapped, mapped-insert, mapped-remove}
use Rattle.kr_inode.specs.declared.standing.Standing.{Standing}
use Rattle.kr_tree.specs.Tree.{Tree, Inode, Inodes, Body, root, inode, body, body_is, entry, entries_of, entry_named, standing_of, is_directory, is_listed, bytes_of, nodes}
use Rattle.kr_tree.specs.Changes.{with_inode, with_inodes, with_holds, with_body, with_mode, with_owner, with_bytes, with_standing, with_entry, without_entry, with_names, unnamed, is_unused, is_unused_at, dropped_if_unused, held, released, unlinked, removed, moved, renamed_onto, renamed, added, linked, bytes_set, fresh, next_serial, next_standing, count_limit, byte_limit, size}
use Rattle.kr_tree.specs.Lawful.{IsKept, IsOfBytes, entries_beside}
use Rattle.kr_tree.specs.Holds.{names_at, holds_at, fewer, with_fewer, ChangesAreAlikeWithFewerHolds, TreesLookAlikeWithFewerHolds, TreesAreKeptWithFewerHolds}
use Rattle.kr_tree.proofs.InodesLemmas.{stays-names}
use Rattle.kr_tree.proofs.NameLemmas.{some_is}
use Rattle.kr_tree.proofs.NodesLemmas.{get-with_values}
use Rattle.kr_tree.proofs.CountLemmas.{value, sum-same}
use Rattle.kr_tree.proofs.QuietLemmas.{LooksAlike, sound-alike, counted-alike}

-- with these holds
abbrev holding : Inode → ℕ → Inode
holding x h = record { node = x.node; names = x.names; holds = h; next_serial = x.next_serial; directories = x.directories }

module _ (less : ℕ → ℕ) where
  -- the inodes with fewer holds
  abbrev lighter : Inodes → Inodes
  lighter m = mapped (λ i. fewer (less i)) m

  -- what doesn't read holds tells the same
  unread : {A : Type 0} (f : Option Inode → A) → ((n : ℕ) (x : Inode) → f (Some (fewer n x)) ≡ f (Some x)) → (m : Inodes) (q : ℕ) → f (map.get (lighter m) q) ≡ f (map.get m q)
  unread f same m q = ap f (get-mapped (λ i. fewer (less i)) m q) ∙ by (map.get m q)
    where
      by : (o : Option Inode) → f (option_map (fewer (less q)) o) ≡ f o
      by None = refl
      by (Some x) = same (less q) x

  -- ---- look-ups

  same_test : (test : Body → Bool) (t : Tree) (i : ℕ) → body_is test (with_fewer less t) i ≡ body_is test t i
  same_test test t i = unread (λ o. option_map_or (λ x. test x.node.body) o false) (λ n x. refl) t.inodes i

  same_entry : (t : Tree) (dir : ℕ) (name : List ℕ) → entry (with_fewer less t) dir name ≡ entry t dir name
  same_entry t dir name = unread (λ o. option_map (λ e. e.inode) (entry_named name (option_map_or (λ x. entries_of x.node.body) o []))) (λ n x. refl) t.inodes dir

  same_serial : (t : Tree) (dir : ℕ) → next_serial (with_fewer less t) dir ≡ next_serial t dir
  same_serial t dir = unread (λ o. option_map_or (λ x. x.next_serial) o 0) (λ n x. refl) t.inodes dir

  same_next : (t : Tree) (dir : ℕ) → next_standing (with_fewer less t) dir ≡ next_standing t dir
  same_next t dir = ap (λ n. Some (record { inode = dir; serial = n })) (same_serial t dir)

  same_names : (t : Tree) (i : ℕ) → names_at (with_fewer less t) i ≡ names_at t i
  same_names t i = unread (λ o. option_map_or (λ x. x.names) o 0) (λ n x. refl) t.inodes i

  same_size : (t : Tree) (i : ℕ) → size (with_fewer less t) i ≡ size t i
  same_size t i = unread (λ o. option_map_or (λ x. length (bytes_of x.node.body)) o 0) (λ n x. refl) t.inodes i

  same_bytes : (t : Tree) (i : ℕ) → option_map_or (λ x. bytes_of x.node.body) (inode (with_fewer less t) i) [] ≡ option_map_or (λ x. bytes_of x.node.body) (inode t i) []
  same_bytes t i = unread (λ o. option_map_or (λ x. bytes_of x.node.body) o []) (λ n x. refl) t.inodes i

  fewer_held : (t : Tree) (i : ℕ) → holds_at (with_fewer less t) i ≡ holds_at t i - less i
  fewer_held t i = ap (λ o. option_map_or (λ x. x.holds) o 0) (get-mapped (λ i. fewer (less i)) t.inodes i) ∙ by (inode t i)
    where
      by : (o : Option Inode) → option_map_or (λ x. x.holds) (option_map (fewer (less i)) o) 0 ≡ option_map_or (λ x. x.holds) o 0 - less i
      by None = omega arith
      by (Some x) = refl

  same_nodes : (t : Tree) → nodes (with_fewer less t) ≡ nodes t
  same_nodes t =
      same_values _ _ (λ q. get-with_values (λ x. x.node) (lighter t.inodes) q
      ∙ unread (option_map (λ x. x.node)) (λ n x. refl) t.inodes q ∙ sym (get-with_values (λ x. x.node) t.inodes q))

  -- ---- one inode changed

  lighter-with : (m : Inodes) (k : ℕ) (g : Inode → Inode) → ((x : Inode) → map.get m k ≡ Some x → fewer (less k) (g x) ≡ g (fewer (less k) x)) → lighter (with_inode k g m) ≡ with_inode k g (lighter m)
  lighter-with m k g same =
      same_values _ _ (by_key (λ q. map.get (lighter (with_inode k g m)) q ≡ map.get (with_inode k g (lighter m)) q) k
      (get-mapped (λ i. fewer (less i)) (with_inode k g m) k ∙ ap (option_map (fewer (less k))) (get-changed_same m k g) ∙ by (map.get m k) same
      ∙ sym (ap (option_map g) (get-mapped (λ i. fewer (less i)) m k)) ∙ sym (get-changed_same (lighter m) k g))
      (λ q d. get-mapped (λ i. fewer (less i)) (with_inode k g m) q ∙ ap (option_map (fewer (less q))) (get-changed_other m k g q d)
      ∙ sym (get-mapped (λ i. fewer (less i)) m q) ∙ sym (get-changed_other (lighter m) k g q d)))
    where
      by : (o : Option Inode) → ((x : Inode) → o ≡ Some x → fewer (less k) (g x) ≡ g (fewer (less k) x)) → option_map (fewer (less k)) (option_map g o) ≡ option_map g (option_map (fewer (less k)) o)
      by None same = refl
      by (Some x) same = ap Some (same x refl)

  -- by what leaves the holds
  lighter-quiet : (m : Inodes) (k : ℕ) (g : Inode → Inode) → ((n : ℕ) (x : Inode) → fewer n (g x) ≡ g (fewer n x)) → lighter (with_inode k g m) ≡ with_inode k g (lighter m)
  lighter-quiet m k g same = lighter-with m k g (λ x e. same (less k) x)

  quiet-fewer : (i : ℕ) (g : Inode → Inode) → ((n : ℕ) (x : Inode) → fewer n (g x) ≡ g (fewer n x)) → (t : Tree) → with_fewer less (with_inodes (with_inode i g t.inodes) t) ≡ with_inodes (with_inode i g (lighter t.inodes)) (with_fewer less t)
  quiet-fewer i g same t = ap (λ m. record { inodes = m; next = t.next; names = t.names; bytes = t.bytes }) (lighter-quiet t.inodes i g same)

  -- ---- what is dropped

  -- what has a name isn't dropped with fewer holds either
  same_unused : (n : ℕ) (x : Inode) → (0 < n → 0 < x.names) → is_unused (fewer n x) ≡ is_unused x
  same_unused zero x named = let all : x.holds - 0 ≡ x.holds = omega arith in ap (λ h. nat_eq x.names 0 && nat_eq h 0) all
  same_unused (suc n) x named =
      let some : nat_eq x.names 0 ≡ false = let l : 0 < x.names = named (omega arith) in grind (arith, nat_tests) in
      ap (λ b. b && nat_eq (x.holds - suc n) 0) some ∙ sym (ap (λ b. b && nat_eq x.holds 0) some)

  same_unused_at : (m : Inodes) (i : ℕ) → (0 < less i → 0 < value (λ x. x.names) (map.get m i)) → is_unused_at i (lighter m) ≡ is_unused_at i m
  same_unused_at m i named = ap (λ o. option_map_or is_unused o false) (get-mapped (λ i. fewer (less i)) m i) ∙ by (map.get m i) named
    where
      by : (o : Option Inode) → (0 < less i → 0 < value (λ x. x.names) o) → option_map_or is_unused (option_map (fewer (less i)) o) false ≡ option_map_or is_unused o false
      by None named = refl
      by (Some x) named = same_unused (less i) x named

  dropped-fewer : (i : ℕ) (t : Tree) → (0 < less i → 0 < names_at t i) → with_fewer less (dropped_if_unused i t) ≡ dropped_if_unused i (with_fewer less t)
  dropped-fewer i t named =
      let same = sym (same_unused_at t.inodes i named) in
      let inodes = by (is_unused_at i t.inodes) ∙ ap (λ b. cond b (map.remove (lighter t.inodes) i) (lighter t.inodes)) same in
      let freed = ap (λ n. cond (is_unused_at i t.inodes) n 0) (sym (same_size t i)) ∙ ap (λ b. cond b (size (with_fewer less t) i) 0) same in
      λ j. record { inodes = inodes j; next = t.next; names = t.names; bytes = t.bytes - freed j }
    where
      by : (b : Bool) → lighter (cond b (map.remove t.inodes i) t.inodes) ≡ cond b (map.remove (lighter t.inodes) i) (lighter t.inodes)
      by true = mapped-remove (λ i. fewer (less i)) t.inodes i
      by false = refl

  -- ---- holds

  held-fewer : (i : ℕ) (t : Tree) → less i ≤ holds_at t i → with_fewer less (held i t) ≡ held i (with_fewer less t)
  held-fewer i t most =
      ap (λ m. record { inodes = m; next = t.next; names = t.names; bytes = t.bytes })
      (lighter-with t.inodes i (with_holds (λ n. n + 1)) (λ x is.
      let l : less i ≤ x.holds = subst (λ o. less i ≤ option_map_or (λ x. x.holds) o 0) is most in
      let swapped : (x.holds + 1) - less i ≡ (x.holds - less i) + 1 = omega arith in
      ap (holding x) swapped))

  released-fewer : (i : ℕ) (t : Tree) → (0 < less i → 0 < names_at t i) → with_fewer less (released i t) ≡ released i (with_fewer less t)
  released-fewer i t named =
      let u : Tree = with_inodes (with_inode i (with_holds (λ n. n - 1)) t.inodes) t in
      let names = stays-names t.inodes i (with_holds (λ n. n - 1)) i (λ x. refl) in
      let inodes = lighter-with t.inodes i (with_holds (λ n. n - 1)) (λ x is. let swapped : (x.holds - 1) - less i ≡ (x.holds - less i) - 1 = omega arith in ap (holding x) swapped) in
      dropped-fewer i u (λ l. let some : 0 < names_at t i = named l in omega arith)
      ∙ ap (λ m. dropped_if_unused i (record { inodes = m; next = t.next; names = t.names; bytes = t.bytes })) inodes

  -- ---- names

  -- without a name, before the inode is dropped
  abbrev without : ℕ → List ℕ → ℕ → Bool → Tree → Tree
  without dir name i is_dir t = record {
    inodes = with_inode i unnamed (with_inode dir (without_entry name is_dir) t.inodes);
    next = t.next;
    names = t.names - 1;
    bytes = t.bytes;
  }

  without-fewer : (dir : ℕ) (name : List ℕ) (i : ℕ) (is_dir : Bool) (t : Tree) → with_fewer less (without dir name i is_dir t) ≡ without dir name i is_dir (with_fewer less t)
  without-fewer dir name i is_dir t =
      ap (λ m. record { inodes = m; next = t.next; names = t.names - 1; bytes = t.bytes })
      (lighter-quiet (with_inode dir (without_entry name is_dir) t.inodes) i unnamed (λ n x. refl) ∙ ap (with_inode i unnamed) (lighter-quiet t.inodes dir (without_entry name is_dir) (λ n x. refl)))

  -- what has a name where it may have been dropped had it before
  named-dropped : (i : ℕ) (t : Tree) (q : ℕ) → 0 < names_at (dropped_if_unused i t) q → 0 < names_at t q
  named-dropped i t q = by (is_unused_at i t.inodes)
    where
      by : (b : Bool) → 0 < value (λ x. x.names) (map.get (cond b (map.remove t.inodes i) t.inodes) q) → 0 < value (λ x. x.names) (map.get t.inodes q)
      by false = λ l. l
      by true = by_key (λ q. 0 < value (λ x. x.names) (map.get (map.remove t.inodes i) q) → 0 < value (λ x. x.names) (map.get t.inodes q)) i
          (λ l. let none : value (λ x. x.names) (map.get (map.remove t.inodes i) i) ≡ 0 = ap (value (λ x. x.names)) (get-remove_same t.inodes i) in absurd (omega arith))
          (λ q d l. subst (λ o. 0 < value (λ x. x.names) o) (get-remove_other t.inodes i q d) l) q

  unlinked-fewer : (dir : ℕ) (name : List ℕ) (i : ℕ) (t : Tree) → (0 < less i → 0 < names_at (unlinked dir name i t) i) → with_fewer less (unlinked dir name i t) ≡ unlinked dir name i (with_fewer less t)
  unlinked-fewer dir name i t named =
      let is_dir = body_is is_directory t i in
      dropped-fewer i (without dir name i is_dir t) (λ l. named-dropped i (without dir name i is_dir t) i (named l))
      ∙ ap (dropped_if_unused i) (without-fewer dir name i is_dir t)
      ∙ ap (λ b. dropped_if_unused i (without dir name i b (with_fewer less t))) (sym (same_test is_directory t i))

  removed-fewer : (dir : ℕ) (name : List ℕ) (t : Tree) → ((i : ℕ) → 0 < less i → 0 < names_at (removed dir name t) i) → with_fewer less (removed dir name t) ≡ removed dir name (with_fewer less t)
  removed-fewer dir name t named =
      by (entry t dir name) named ∙ ap (λ o. option_map_or (λ i. unlinked dir name i (with_fewer less t)) o (with_fewer less t)) (sym (same_entry t dir name))
    where
      by : (o : Option ℕ) → ((i : ℕ) → 0 < less i → 0 < names_at (option_map_or (λ i. unlinked dir name i t) o t) i)
          → with_fewer less (option_map_or (λ i. unlinked dir name i t) o t) ≡ option_map_or (λ i. unlinked dir name i (with_fewer less t)) o (with_fewer less t)
      by None named = refl
      by (Some i) named = unlinked-fewer dir name i t (named i)

  -- an entry moved, where its kind and the standing that it takes are known
  abbrev move : ℕ → List ℕ → ℕ → List ℕ → ℕ → Bool → Option Standing → Inodes → Inodes
  move dir name to new i is_dir standing m =
      with_inode i (with_body (with_standing standing)) (with_inode to (with_entry new i is_dir) (with_inode dir (without_entry name is_dir) m))

  move-lighter : (dir : ℕ) (name : List ℕ) (to : ℕ) (new : List ℕ) (i : ℕ) (is_dir : Bool) (standing : Option Standing) (m : Inodes) → lighter (move dir name to new i is_dir standing m) ≡ move dir name to new i is_dir standing (lighter m)
  move-lighter dir name to new i is_dir standing m =
      lighter-quiet (with_inode to (with_entry new i is_dir) (with_inode dir (without_entry name is_dir) m)) i (with_body (with_standing standing)) (λ n x. refl)
      ∙ ap (with_inode i (with_body (with_standing standing)))
      (lighter-quiet (with_inode dir (without_entry name is_dir) m) to (with_entry new i is_dir) (λ n x. refl) ∙ ap (with_inode to (with_entry new i is_dir)) (lighter-quiet m dir (without_entry name is_dir) (λ n x. refl)))

  moved-fewer : (dir : ℕ) (name : List ℕ) (to : ℕ) (new : List ℕ) (i : ℕ) (t : Tree) → with_fewer less (moved dir name to new i t) ≡ moved dir name to new i (with_fewer less t)
  moved-fewer dir name to new i t =
      let is_dir = body_is is_directory t i in
      let light = with_fewer less t in
      ap (λ m. with_inodes m light) (move-lighter dir name to new i is_dir (next_standing t to) t.inodes)
      ∙ ap (λ b. with_inodes (move dir name to new i b (next_standing t to) light.inodes) light) (sym (same_test is_directory t i))
      ∙ ap (λ s. with_inodes (move dir name to new i (body_is is_directory light i) s light.inodes) light) (sym (same_next t to))

  named-moved : (dir : ℕ) (name : List ℕ) (to : ℕ) (new : List ℕ) (i : ℕ) (t : Tree) (q : ℕ) → names_at (moved dir name to new i t) q ≡ names_at t q
  named-moved dir name to new i t q =
      let is_dir = body_is is_directory t i in
      stays-names (with_inode to (with_entry new i is_dir) (with_inode dir (without_entry name is_dir) t.inodes)) i (with_body (with_standing (next_standing t to))) q (λ x. refl)
      ∙ stays-names (with_inode dir (without_entry name is_dir) t.inodes) to (with_entry new i is_dir) q (λ x. refl) ∙ stays-names t.inodes dir (without_entry name is_dir) q (λ x. refl)

  onto-fewer : (dir : ℕ) (name : List ℕ) (to : ℕ) (new : List ℕ) (i : ℕ) (o : Option ℕ) (t : Tree) → ((q : ℕ) → 0 < less q → 0 < names_at (renamed_onto dir name to new i o t) q)
      → with_fewer less (renamed_onto dir name to new i o t) ≡ renamed_onto dir name to new i o (with_fewer less t)
  onto-fewer dir name to new i None t named = moved-fewer dir name to new i t
  onto-fewer dir name to new i (Some old) t named = by (nat_eq i old) named
    where
      by : (b : Bool) → ((q : ℕ) → 0 < less q → 0 < names_at (cond b t (moved dir name to new i (unlinked to new old t))) q)
          → with_fewer less (cond b t (moved dir name to new i (unlinked to new old t))) ≡ cond b (with_fewer less t) (moved dir name to new i (unlinked to new old (with_fewer less t)))
      by true named = refl
      by false named =
          let u = unlinked to new old t in
          moved-fewer dir name to new i u
          ∙ ap (moved dir name to new i) (unlinked-fewer to new old t (λ l. let some = named old l in let same = named-moved dir name to new i u old in omega arith))

  renamed-fewer : (dir : ℕ) (name : List ℕ) (to : ℕ) (new : List ℕ) (t : Tree) → ((i : ℕ) → 0 < less i → 0 < names_at (renamed dir name to new t) i) → with_fewer less (renamed dir name to new t) ≡ renamed dir name to new (with_fewer less t)
  renamed-fewer dir name to new t named =
      let light = with_fewer less t in
      by (entry t dir name) named
      ∙ ap (λ o. option_map_or (λ i. renamed_onto dir name to new i (entry t to new) light) o light) (sym (same_entry t dir name))
      ∙ ap (λ old. option_map_or (λ i. renamed_onto dir name to new i old light) (entry light dir name) light) (sym (same_entry t to new))
    where
      by : (o : Option ℕ) → ((q : ℕ) → 0 < less q → 0 < names_at (option_map_or (λ i. renamed_onto dir name to new i (entry t to new) t) o t) q)
          → with_fewer less (option_map_or (λ i. renamed_onto dir name to new i (entry t to new) t) o t)
          ≡ option_map_or (λ i. renamed_onto dir name to new i (entry t to new) (with_fewer less t)) o (with_fewer less t)
      by None named = refl
      by (Some i) named = onto-fewer dir name to new i (entry t to new) t named

  -- ---- the others

  linked-fewer : (dir : ℕ) (name : List ℕ) (file : ℕ) (t : Tree) → with_fewer less (linked dir name file t) ≡ linked dir name file (with_fewer less t)
  linked-fewer dir name file t =
      ap (λ m. record { inodes = m; next = t.next; names = t.names + 1; bytes = t.bytes })
      (lighter-quiet (with_inode dir (with_entry name file false) t.inodes) file (with_names (λ n. n + 1)) (λ n x. refl)
      ∙ ap (with_inode file (with_names (λ n. n + 1))) (lighter-quiet t.inodes dir (with_entry name file false) (λ n x. refl)))

  bytes-fewer : (i : ℕ) (f : List ℕ → List ℕ) (t : Tree) → with_fewer less (bytes_set i f t) ≡ bytes_set i f (with_fewer less t)
  bytes-fewer i f t =
      let inodes = lighter-quiet t.inodes i (with_body (with_bytes f)) (λ n x. refl) in
      let sizes = sym (same_size t i) in
      let bytes = sym (same_bytes t i) in
      λ j. record { inodes = inodes j; next = t.next; names = t.names; bytes = t.bytes - sizes j + length (f (bytes j)) }

  -- a new inode isn't held, so no hold is taken off
  added-fewer : (dir : ℕ) (name : List ℕ) (mode uid gid : ℕ) (body : Body) (t : Tree) → with_fewer less (added dir name mode uid gid body t) ≡ added dir name mode uid gid body (with_fewer less t)
  added-fewer dir name mode uid gid body t =
      let new : Inode = fresh mode uid gid (with_standing (next_standing t dir) body) in
      let entered = with_inode dir (with_entry name t.next (is_directory body)) t.inodes in
      let none : 0 - less t.next ≡ 0 = omega arith in
      let inodes = mapped-insert (λ i. fewer (less i)) entered t.next new
      ∙ ap (λ m. map.insert m t.next (fewer (less t.next) new)) (lighter-quiet t.inodes dir (with_entry name t.next (is_directory body)) (λ n x. refl))
      ∙ ap (λ h. map.insert (with_inode dir (with_entry name t.next (is_directory body)) (lighter t.inodes)) t.next (holding new h)) none
      ∙ ap (λ s. map.insert (with_inode dir (with_entry name t.next (is_directory body)) (lighter t.inodes)) t.next (fresh mode uid gid (with_standing s body))) (sym (same_next t dir)) in
      ap (λ m. record { inodes = m; next = t.next + 1; names = t.names + 1; bytes = t.bytes + length (bytes_of body) }) inodes

  -- ---- what is kept

  module _ (t : Tree) where
    abbrev light : Tree
    light = with_fewer less t

    looks : LooksAlike t light
    looks = record {
      lists = unread (λ o. option_map_or (λ x. entries_of x.node.body) o []) (λ n x. refl) t.inodes;
      standings = unread (option_and_then (λ x. standing_of x.node.body)) (λ n x. refl) t.inodes;
      directory = λ q h. sym (same_test is_directory t q) ∙ h;
      directory_in = λ d e h. same_test is_directory t e.inode;
      root_listed = same_test is_listed t root;
      names = same_names t;
      directories = unread (value (λ x. x.directories)) (λ n x. refl) t.inodes;
      there = λ q y h. by q (inode t q) y (sym (get-mapped (λ i. fewer (less i)) t.inodes q) ∙ h);
      next = refl;
      all_names = refl;
    }
      where
        by : (q : ℕ) (o : Option Inode) (y : Inode) → option_map (fewer (less q)) o ≡ Some y → (x : Inode) × (o ≡ Some x) × (entries_beside y ≡ entries_beside x)
        by q None y h = absurd cc
        by q (Some x) y h = (x, refl, ap (λ o. option_map_or entries_beside o (entries_beside y)) (sym h))

    -- what is kept of each inode, and doesn't read its holds
    each : (P : Inode → Type 0) → ((q : ℕ) (x : Inode) → inode t q ≡ Some x → P (fewer (less q) x)) → (q : ℕ) (y : Inode) → inode light q ≡ Some y → P y
    each P holds q y h = by (inode t q) refl (sym (get-mapped (λ i. fewer (less i)) t.inodes q) ∙ h)
      where
        by : (o : Option Inode) → inode t q ≡ o → option_map (fewer (less q)) o ≡ Some y → P y
        by None is h = absurd cc
        by (Some x) is h = subst P (some_is (fewer (less q) x) y h) (holds q x is)

    kept-fewer : IsKept t → ((i : ℕ) → 0 < less i → 0 < names_at t i) → IsKept light
    kept-fewer kept named = record {
      sound = sound-alike t light looks kept.sound
          (let count = len-mapped (λ i. fewer (less i)) t.inodes in let l = kept.sound.inodes_limited in omega arith) kept.sound.bytes_limited
          (λ i bytes h. kept.sound.files_limited i bytes (sym (unread (option_map (λ x. x.node.body)) (λ n x. refl) t.inodes i) ∙ h));
      counted = counted-alike t light looks kept.counted
          (kept.counted.all_bytes ∙ sym (sum-same (λ x. length (bytes_of x.node.body)) t.inodes light.inodes t.next (λ q l. same_size t q)));
      used = each (λ x. is_unused x ≡ false) (λ q x is. same_unused (less q) x (λ l. subst (λ o. 0 < value (λ x. x.names) o) is (named q l)) ∙ kept.used q x is);
      bytes = each (λ x. IsOfBytes x.node.body) kept.bytes;
    }

-- ---- laws

pub changes_are_alike_with_fewer_holds : ChangesAreAlikeWithFewerHolds
changes_are_alike_with_fewer_holds less t = record {
  added = λ dir name mode uid gid body. added-fewer less dir name mode uid gid body t;
  linked = λ dir name file. linked-fewer less dir name file t;
  removed = λ dir name. removed-fewer less dir name t;
  renamed = λ dir name to new. renamed-fewer less dir name to new t;
  held = λ i. held-fewer less i t;
  released = λ i. released-fewer less i t;
  mode_set = λ i mode. quiet-fewer less i (with_mode mode) (λ n x. refl) t;
  owner_set = λ i uid gid. quiet-fewer less i (with_owner uid gid) (λ n x. refl) t;
  bytes_set = λ i f. bytes-fewer less i f t;
}

pub trees_look_alike_with_fewer_holds : TreesLookAlikeWithFewerHolds
trees_look_alike_with_fewer_holds less t = record {
  inode = get-mapped (λ i. fewer (less i)) t.inodes;
  nodes = same_nodes less t;
  node = unread less (option_map (λ x. x.node)) (λ n x. refl) t.inodes;
  entries = unread less (λ o. option_map_or (λ x. entries_of x.node.body) o []) (λ n x. refl) t.inodes;
  entry = same_entry less t;
  next_serial = same_serial less t;
  names = same_names less t;
  holds = fewer_held less t;
  room = λ size. ap (λ n. nat_le count_limit n || nat_le count_limit t.names || nat_lt byte_limit (t.bytes + size)) (len-mapped (λ i. fewer (less i)) t.inodes);
  name_left = refl;
  room_for = λ file new. ap (λ n. nat_lt byte_limit (t.bytes - n + new)) (same_size less t file);
}

pub trees_are_kept_with_fewer_holds : TreesAreKeptWithFewerHolds
trees_are_kept_with_fewer_holds less t = kept-fewer less t
