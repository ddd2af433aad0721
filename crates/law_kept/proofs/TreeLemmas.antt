-- Trees stay of bytes, whatever is held, released, made or moved, if what is brought are bytes.
use Rattle.std.specs.FinMap as map
use Rattle.std.proofs.Common.{ℕ, zero, suc, ◌+◌, ◌-◌, Bool, true, false, List, cond, Option, Some, None}
use Rattle.std.specs.Prelude.{nat_eq}
use Rattle.std.specs.Option.{option_and_then, option_map_or}
use Rattle.kr_first.specs.kr_tree.Changes.{added, bytes_set, dropped_if_unused, held, is_unused_at, linked, mode_set, moved, overwritten, owner_set, released, removed, renamed, renamed_onto, sized, unlinked, with_body, with_bytes, with_holds, with_inode, with_mode, with_owner, without_entry, without_unused, unnamed}
use Rattle.kr_first.specs.kr_tree.Lawful.{AreBytes, HasBytes, IsOfBytes}
use Rattle.kr_first.specs.kr_tree.Tree.{Body, Inodes, Tree, body_is, entry, is_directory}
use Rattle.kr_first.specs.kr_tree.declared.place.Place.{Place}
use Rattle.kr_first.proofs.kr_tree.OfBytesLemmas.{AreOfBytes, of_bytes-added, of_bytes-linked, of_bytes-moved, of_bytes-overwritten, of_bytes-parted, of_bytes-removed, of_bytes-sized, of_bytes-with, of_bytes-with_bytes}
use Rattle.kr_first.specs.kr_files.Descriptors.{Meanings}
use Rattle.kr_first.specs.kr_files.Files.{Table}
use Rattle.kr_first.specs.kr_model.Applied.{held_at, held_for, released_at}
use Rattle.kr_first.specs.kr_model.State.{inode_of, place_of}

-- ---- what is dropped

without-unused : (i : ℕ) (m : Inodes) → AreOfBytes m → AreOfBytes (without_unused i m)
without-unused i m are = by (is_unused_at i m)
  where
    by : (b : Bool) → AreOfBytes (cond b (map.remove m i) m)
    by true = of_bytes-removed m i are
    by false = are

dropped-bytes : (i : ℕ) (t : Tree) → HasBytes t → HasBytes (dropped_if_unused i t)
dropped-bytes i t has = without-unused i t.inodes has

-- ---- holds

held-bytes : (i : ℕ) (t : Tree) → HasBytes t → HasBytes (held i t)
held-bytes i t has = of_bytes-with t.inodes i (with_holds (λ n. n + 1)) has (λ z is. is)

released-bytes : (i : ℕ) (t : Tree) → HasBytes t → HasBytes (released i t)
released-bytes i t has = without-unused i (with_inode i (with_holds (λ n. n - 1)) t.inodes) (of_bytes-with t.inodes i (with_holds (λ n. n - 1)) has (λ z is. is))

pub once-more : (i : ℕ) (t : Tree) → HasBytes t → HasBytes (held i t)
once-more = held-bytes

module _ {M : Type 0} where
  pub held-at-bytes : (o : Option (Place M)) (t : Tree) → HasBytes t → HasBytes (held_at o t)
  held-at-bytes None t has = has
  held-at-bytes (Some p) t has = held-bytes (inode_of p.host) t has

  pub released-at-bytes : (o : Option (Place M)) (t : Tree) → HasBytes t → HasBytes (released_at o t)
  released-at-bytes None t has = has
  released-at-bytes (Some p) t has = released-bytes (inode_of p.host) t has

  pub held-for-bytes : (d : Meanings) (files : Table M) (count : ℕ) (t : Tree) → HasBytes t → HasBytes (held_for d files count t)
  unfolding held_for
  held-for-bytes d files zero t has = has
  held-for-bytes d files (suc fd) t has = held-at-bytes (option_and_then (λ x. place_of files x.number) (map.get d fd)) (held_for d files fd t) (held-for-bytes d files fd t has)

-- ---- names

pub added-bytes : (dir : ℕ) (name : List ℕ) (mode uid gid : ℕ) (body : Body) (t : Tree) → AreBytes name → IsOfBytes body → HasBytes t → HasBytes (added dir name mode uid gid body t)
added-bytes dir name mode uid gid body t are is has = of_bytes-added t has dir name mode uid gid body are is

pub linked-bytes : (dir : ℕ) (name : List ℕ) (file : ℕ) (t : Tree) → AreBytes name → HasBytes t → HasBytes (linked dir name file t)
linked-bytes dir name file t are has = of_bytes-linked t has dir name file are

unlinked-bytes : (dir : ℕ) (name : List ℕ) (i : ℕ) (t : Tree) → HasBytes t → HasBytes (unlinked dir name i t)
unlinked-bytes dir name i t has =
    dropped-bytes i
    (record {
      inodes = with_inode i unnamed (with_inode dir (without_entry name (body_is is_directory t i)) t.inodes);
      next = t.next;
      names = t.names - 1;
      bytes = t.bytes;
    })
    (of_bytes-parted t.inodes has dir name i (body_is is_directory t i))

pub removed-bytes : (dir : ℕ) (name : List ℕ) (t : Tree) → HasBytes t → HasBytes (removed dir name t)
removed-bytes dir name t has = by (entry t dir name)
  where
    by : (o : Option ℕ) → HasBytes (option_map_or (λ i. unlinked dir name i t) o t)
    by None = has
    by (Some i) = unlinked-bytes dir name i t has

onto-bytes : (dir : ℕ) (name : List ℕ) (to : ℕ) (new : List ℕ) (i : ℕ) (o : Option ℕ) (t : Tree) → AreBytes new → HasBytes t → HasBytes (renamed_onto dir name to new i o t)
onto-bytes dir name to new i None t are has = of_bytes-moved t has dir name to new i are
onto-bytes dir name to new i (Some old) t are has = by (nat_eq i old)
  where
    by : (b : Bool) → HasBytes (cond b t (moved dir name to new i (unlinked to new old t)))
    by true = has
    by false = of_bytes-moved (unlinked to new old t) (unlinked-bytes to new old t has) dir name to new i are

pub renamed-bytes : (dir : ℕ) (name : List ℕ) (to : ℕ) (new : List ℕ) (t : Tree) → AreBytes new → HasBytes t → HasBytes (renamed dir name to new t)
renamed-bytes dir name to new t are has = by (entry t dir name)
  where
    by : (o : Option ℕ) → HasBytes (option_map_or (λ i. renamed_onto dir name to new i (entry t to new) t) o t)
    by None = has
    by (Some i) = onto-bytes dir name to new i (entry t to new) t are has

-- ---- nodes

pub mode-bytes : (i mode : ℕ) (t : Tree) → HasBytes t → HasBytes (mode_set i mode t)
mode-bytes i mode t has = of_bytes-with t.inodes i (with_mode mode) has (λ z is. is)

pub owner-bytes : (i uid gid : ℕ) (t : Tree) → HasBytes t → HasBytes (owner_set i uid gid t)
owner-bytes i uid gid t has = of_bytes-with t.inodes i (with_owner uid gid) has (λ z is. is)

set-bytes : (i : ℕ) (f : List ℕ → List ℕ) (t : Tree) → ((bytes : List ℕ) → AreBytes bytes → AreBytes (f bytes)) → HasBytes t → HasBytes (bytes_set i f t)
set-bytes i f t keeps has = of_bytes-with t.inodes i (with_body (with_bytes f)) has (λ z is. of_bytes-with_bytes f keeps z.node.body is)

pub sized-bytes : (i size : ℕ) (t : Tree) → HasBytes t → HasBytes (bytes_set i (sized size) t)
sized-bytes i size t has = set-bytes i (sized size) t (of_bytes-sized size) has

pub overwritten-bytes : (i at : ℕ) (bytes : List ℕ) (t : Tree) → AreBytes bytes → HasBytes t → HasBytes (bytes_set i (overwritten at bytes) t)
overwritten-bytes i at bytes t are has = set-bytes i (overwritten at bytes) t (λ old was. of_bytes-overwritten at bytes old are was) has
