-- The holds on all inodes, before and after each change.
use Rattle.std.specs.FinMap as map
use Rattle.std.proofs.Common.{◌≡◌, ℕ, ◌+◌, ◌-◌, ◌≤◌, ◌<◌, Bool, true, false, ◌&&◌, nat_eq, List, [], refl, sym, ap, ◌∙◌, arith, cond, Option, Some, None, IsSome}
use Rattle.std.specs.Ordering.{nat_cmp}
use Rattle.std.specs.Option.{option_map_or}
use Rattle.std.proofs.lemmas.Bool.{eqb-true}
use Rattle.kr_inode.proofs.pr_base.MapLemmas.{by_key, get-insert_same, get-insert_other, get-remove_same, get-remove_other, stays-changed}
use Rattle.kr_tree.specs.Tree.{Tree, Inode, Inodes, Body, Directory, root, inode, entry, body_is, is_directory}
use Rattle.kr_tree.specs.Changes.{new_tree, with_inode, with_holds, with_body, with_mode, with_owner, with_bytes, with_standing, with_entry, without_entry, with_names, unnamed, is_unused, is_unused_at, without_unused, held, released, unlinked, removed, moved, renamed_onto, renamed, added, linked, fresh, next_standing}
use Rattle.kr_tree.specs.Lawful.{IsSound, sum_below}
use Rattle.kr_tree.specs.Holds.{holds_at, holds_in_all, HoldsInAll, HoldsAreCounted}
use Rattle.kr_tree.proofs.CountLemmas.{value, sum-same, sum-with, sum-suc, sum-at, sum-zero}

-- the holds on the inode of a number, if it is there
abbrev held_times : Inodes → ℕ → ℕ
held_times m q = value (λ x. x.holds) (map.get m q)

abbrev holds_below : Inodes → ℕ → ℕ
holds_below m n = sum_below (λ x. x.holds) m n

-- ---- changes that leave the holds

-- all inodes are held as often as before
AsHeld : Inodes → Inodes → Type 0
AsHeld m n = (q : ℕ) → held_times n q ≡ held_times m q

as_held-with : (m : Inodes) (k : ℕ) (g : Inode → Inode) → ((x : Inode) → (g x).holds ≡ x.holds) → AsHeld m (with_inode k g m)
unfolding AsHeld
as_held-with m k g same q = stays-changed (value (λ x. x.holds)) m k g same q

as_held-both : (m n o : Inodes) → AsHeld m n → AsHeld n o → AsHeld m o
unfolding AsHeld
as_held-both m n o one two q = two q ∙ one q

-- what is dropped isn't held
unheld : (o : Option Inode) → option_map_or is_unused o false ≡ true → value (λ x. x.holds) o ≡ 0
unheld None h = refl
unheld (Some x) h = eqb-true x.holds 0 (second (nat_eq x.names 0) (nat_eq x.holds 0) h)
  where
    second : (a b : Bool) → (a && b) ≡ true → b ≡ true
    second true b h = h
    second false b h = absurd cc

as_held-unused : (m : Inodes) (k : ℕ) → AsHeld m (without_unused k m)
unfolding AsHeld
as_held-unused m k q = by (is_unused_at k m) refl
  where
    by : (b : Bool) → is_unused_at k m ≡ b → held_times (cond b (map.remove m k) m) q ≡ held_times m q
    by false is = refl
    by true is =
        by_key (λ q. held_times (map.remove m k) q ≡ held_times m q) k
        (ap (value (λ x. x.holds)) (get-remove_same m k) ∙ sym (unheld (map.get m k) is))
        (λ q d. ap (value (λ x. x.holds)) (get-remove_other m k q d)) q

same_below : (m n : Inodes) (k : ℕ) → AsHeld m n → holds_below n k ≡ holds_below m k
unfolding AsHeld
same_below m n k same = sum-same (λ x. x.holds) m n k (λ q l. same q)

-- ---- names

as_held-unlinked : (dir : ℕ) (name : List ℕ) (i : ℕ) (t : Tree) → AsHeld t.inodes (unlinked dir name i t).inodes
as_held-unlinked dir name i t =
    let without = with_inode dir (without_entry name (body_is is_directory t i)) t.inodes in
    as_held-both t.inodes without _ (as_held-with t.inodes dir (without_entry name (body_is is_directory t i)) (λ x. refl))
    (as_held-both without (with_inode i unnamed without) _ (as_held-with without i unnamed (λ x. refl)) (as_held-unused (with_inode i unnamed without) i))

as_held-moved : (dir : ℕ) (name : List ℕ) (to : ℕ) (new : List ℕ) (i : ℕ) (t : Tree) → AsHeld t.inodes (moved dir name to new i t).inodes
as_held-moved dir name to new i t =
    let is_dir = body_is is_directory t i in
    let without = with_inode dir (without_entry name is_dir) t.inodes in
    let entered = with_inode to (with_entry new i is_dir) without in
    as_held-both t.inodes without _ (as_held-with t.inodes dir (without_entry name is_dir) (λ x. refl))
    (as_held-both without entered _ (as_held-with without to (with_entry new i is_dir) (λ x. refl)) (as_held-with entered i (with_body (with_standing (next_standing t to))) (λ x. refl)))

removed_in_all : (dir : ℕ) (name : List ℕ) (t : Tree) → holds_in_all (removed dir name t) ≡ holds_in_all t
removed_in_all dir name t = by (entry t dir name)
  where
    by : (o : Option ℕ) → holds_in_all (option_map_or (λ i. unlinked dir name i t) o t) ≡ holds_in_all t
    by None = refl
    by (Some i) = same_below t.inodes (unlinked dir name i t).inodes t.next (as_held-unlinked dir name i t)

renamed_in_all : (dir : ℕ) (name : List ℕ) (to : ℕ) (new : List ℕ) (t : Tree) → holds_in_all (renamed dir name to new t) ≡ holds_in_all t
renamed_in_all dir name to new t = by (entry t dir name)
  where
    onto : (i old : ℕ) (same : Bool) → holds_in_all (cond same t (moved dir name to new i (unlinked to new old t))) ≡ holds_in_all t
    onto i old true = refl
    onto i old false =
        let u = unlinked to new old t in
        same_below u.inodes (moved dir name to new i u).inodes t.next (as_held-moved dir name to new i u) ∙ same_below t.inodes u.inodes t.next (as_held-unlinked to new old t)

    at : (i : ℕ) (old : Option ℕ) → holds_in_all (renamed_onto dir name to new i old t) ≡ holds_in_all t
    at i None = same_below t.inodes (moved dir name to new i t).inodes t.next (as_held-moved dir name to new i t)
    at i (Some old) = onto i old (nat_eq i old)

    by : (o : Option ℕ) → holds_in_all (option_map_or (λ i. renamed_onto dir name to new i (entry t to new) t) o t) ≡ holds_in_all t
    by None = refl
    by (Some i) = at i (entry t to new)

-- ---- holds

module _ (t : Tree) (sound : IsSound t) where
  most_held : (i : ℕ) → holds_at t i ≤ holds_in_all t
  most_held i = by (inode t i) refl
    where
      by : (o : Option Inode) → inode t i ≡ o → value (λ x. x.holds) o ≤ holds_in_all t
      by None is = omega arith
      by (Some x) is =
          let l = (sound.numbered i x is).1 in
          let here : held_times t.inodes i ≡ x.holds = ap (value (λ x. x.holds)) is in
          let some = sum-at (λ x. x.holds) t.inodes i t.next l in
          omega arith

  held_in_all : (i : ℕ) → IsSome (inode t i) → holds_in_all (held i t) ≡ holds_in_all t + 1
  held_in_all i some = by (inode t i) refl some
    where
      by : (o : Option Inode) → inode t i ≡ o → IsSome o → holds_in_all (held i t) ≡ holds_in_all t + 1
      by None is some = absurd cc
      by (Some x) is some = let sum = sum-with (λ x. x.holds) t.inodes i t.next (with_holds (λ n. n + 1)) x is ((sound.numbered i x is).1) in omega arith

  released_in_all : (i : ℕ) → 0 < holds_at t i → holds_in_all (released i t) + 1 ≡ holds_in_all t
  released_in_all i some = by (inode t i) refl some
    where
      by : (o : Option Inode) → inode t i ≡ o → 0 < value (λ x. x.holds) o → holds_in_all (released i t) + 1 ≡ holds_in_all t
      by None is some = absurd (omega arith)
      by (Some x) is some =
          let fewer = with_inode i (with_holds (λ n. n - 1)) t.inodes in
          let sum = sum-with (λ x. x.holds) t.inodes i t.next (with_holds (λ n. n - 1)) x is ((sound.numbered i x is).1) in
          let kept = same_below fewer (without_unused i fewer) t.next (as_held-unused fewer i) in
          omega arith

  -- a new inode isn't held
  added_in_all : (dir : ℕ) (name : List ℕ) (mode uid gid : ℕ) (body : Body) → holds_in_all (added dir name mode uid gid body t) ≡ holds_in_all t
  added_in_all dir name mode uid gid body =
      let entered = with_inode dir (with_entry name t.next (is_directory body)) t.inodes in
      let new = fresh mode uid gid (with_standing (next_standing t dir) body) in
      let all = map.insert entered t.next new in
      let last = sum-suc (λ x. x.holds) all t.next in
      let none : held_times all t.next ≡ 0 = ap (value (λ x. x.holds)) (get-insert_same entered t.next new) in
      let rest : holds_below all t.next ≡ holds_below entered t.next =
      sum-same (λ x. x.holds) entered all t.next (λ q l. ap (value (λ x. x.holds)) (get-insert_other entered t.next new q (λ e. absurd (omega arith)))) in
      let before = same_below t.inodes entered t.next (as_held-with t.inodes dir (with_entry name t.next (is_directory body)) (λ x. refl)) in
      omega arith

  linked_in_all : (dir : ℕ) (name : List ℕ) (file : ℕ) → holds_in_all (linked dir name file t) ≡ holds_in_all t
  linked_in_all dir name file =
      let entered = with_inode dir (with_entry name file false) t.inodes in
      same_below t.inodes (with_inode file (with_names (λ n. n + 1)) entered) t.next
      (as_held-both t.inodes entered _ (as_held-with t.inodes dir (with_entry name file false) (λ x. refl)) (as_held-with entered file (with_names (λ n. n + 1)) (λ x. refl)))

  quiet_in_all : (i : ℕ) (g : Inode → Inode) → ((x : Inode) → (g x).holds ≡ x.holds) → holds_below (with_inode i g t.inodes) t.next ≡ holds_in_all t
  quiet_in_all i g same = same_below t.inodes (with_inode i g t.inodes) t.next (as_held-with t.inodes i g same)

-- the root isn't held
none_in_all : (mode uid gid : ℕ) → holds_in_all (new_tree mode uid gid) ≡ 0
none_in_all mode uid gid = sum-zero (λ x. x.holds) all 2 (by_key (λ q. held_times all q ≡ 0) root (ap (value (λ x. x.holds)) (get-insert_same map.empty root new))
    (λ q d. ap (value (λ x. x.holds)) (get-insert_other map.empty root new q d ∙ map.get-empty nat_cmp q)))
  where
    new : Inode
    new = fresh mode uid gid (Directory [] (Some (record { inode = root; serial = 0 })))

    all : Inodes
    all = map.insert map.empty root new

changed_in_all : (t : Tree) → IsSound t → HoldsInAll t
changed_in_all t sound = record {
  most = most_held t sound;
  fits = λ room i. let most = most_held t sound i in omega arith;
  held = held_in_all t sound;
  released = released_in_all t sound;
  added = added_in_all t sound;
  linked = linked_in_all t sound;
  removed = λ dir name. removed_in_all dir name t;
  renamed = λ dir name to new. renamed_in_all dir name to new t;
  mode_set = λ i mode. quiet_in_all t sound i (with_mode mode) (λ x. refl);
  owner_set = λ i uid gid. quiet_in_all t sound i (with_owner uid gid) (λ x. refl);
  bytes_set = λ i f. quiet_in_all t sound i (with_body (with_bytes f)) (λ x. refl);
}

pub holds_are_counted : HoldsAreCounted
holds_are_counted = record { none = none_in_all; changed = changed_in_all }
