-- What was there before names were made is there as it was.
use Rattle.std.proofs.Common.{◌≡◌, ◌≢◌, ◌≤◌, ◌<◌, ◌+◌, ◌&&◌, ℕ, Bool, true, false, not, Option, Some, None, List, [], ◌∷◌, ◌++◌, length, append-nil, append_assoc, refl, sym, ap, subst, ◌∙◌, arith}
use Rattle.std.specs.Option.{option_map, option_map_or}
use Rattle.pt_bind.proofs.pr_base.MapLemmas.{by_key, get-insert_same, get-insert_other, get-changed_same, get-changed_other}
use Rattle.kr_walk.specs.kr_inode.declared.user.User.{User}
use Rattle.kr_walk.specs.kr_tree.Changes.{fresh, has_no_room, next_serial, next_standing, with_entries, with_entry, with_inode, with_standing, is_too_big}
use Rattle.kr_walk.specs.kr_tree.Holds.{holds_at}
use Rattle.kr_walk.specs.kr_tree.Lawful.{IsSound, IsCounted}
use Rattle.kr_walk.specs.kr_tree.Names.{is_name}
use Rattle.kr_walk.specs.kr_tree.Tree.{Tree, Body, Directory, RegularFile, SymbolicLink, ProcessDirectory, Entry, Inode, bytes_of, entries_of, inode, is_directory}
use Rattle.kr_walk.proofs.kr_tree.AddLemmas.{sound-added, counted-added}
use Rattle.kr_mounts.specs.Growth.{IsGrown, Same, Made, IsAsBefore, HasAllBefore, GrownTreesHaveAllBefore}
use Rattle.kr_walk.specs.kr_inode.declared.user.Right.TheVariants.{Write, Search}
use Rattle.kr_walk.specs.kr_tree.Rights.{may}
use Rattle.kr_mounts.specs.Points.{made, new_body, new_mode}

-- ---- one inode

same_body : (b : Body) → b ≡ with_entries (λ entries. entries ++ []) b
same_body (Directory entries standing) = ap (λ es. Directory es standing) (sym (append-nil entries))
same_body (RegularFile bytes) = refl
same_body (SymbolicLink text) = refl
same_body (ProcessDirectory standing) = refl

twice : (one two : List Entry) (b : Body) → with_entries (λ entries. entries ++ two) (with_entries (λ entries. entries ++ one) b) ≡ with_entries (λ entries. entries ++ (one ++ two)) b
twice one two (Directory entries standing) = ap (λ es. Directory es standing) (append_assoc entries one two)
twice one two (RegularFile bytes) = refl
twice one two (SymbolicLink text) = refl
twice one two (ProcessDirectory standing) = refl

unchanged : (x : Inode) → IsAsBefore x x
unchanged x = record { mode = refl; uid = refl; gid = refl; more = []; body = same_body x.node.body; names = refl; holds = refl }

with_one_more : (x : Inode) (name : List ℕ) (i : ℕ) (is_dir : Bool) → IsAsBefore x (with_entry name i is_dir x)
with_one_more x name i is_dir = record { mode = refl; uid = refl; gid = refl; more = (record { name = name; serial = x.next_serial; inode = i }) ∷ []; body = refl; names = refl; holds = refl }

onward : (x y z : Inode) → IsAsBefore x y → IsAsBefore y z → IsAsBefore x z
onward x y z one two = record {
  mode = two.mode ∙ one.mode;
  uid = two.uid ∙ one.uid;
  gid = two.gid ∙ one.gid;
  more = one.more ++ two.more;
  body = two.body ∙ ap (with_entries (λ entries. entries ++ two.more)) one.body ∙ twice one.more two.more x.node.body;
  names = two.names ∙ one.names;
  holds = two.holds ∙ one.holds;
}

-- ---- a name that is made

no_new_entries : (is_dir : Bool) → entries_of (new_body is_dir) ≡ []
no_new_entries true = refl
no_new_entries false = refl

no_new_bytes : (is_dir : Bool) → bytes_of (new_body is_dir) ≡ []
no_new_bytes true = refl
no_new_bytes false = refl

new_is_small : (is_dir : Bool) → is_too_big (new_body is_dir) ≡ false
new_is_small true = refl
new_is_small false = refl

four : (a b c d : Bool) → (a && (b && (c && d))) ≡ true → (a ≡ true) × (d ≡ true)
four true true true d h = (refl, h)
four true true false d h = absurd cc
four true false true d h = absurd cc
four true false false d h = absurd cc
four false true true d h = absurd cc
four false true false d h = absurd cc
four false false true d h = absurd cc
four false false false d h = absurd cc

negated : (b : Bool) → not b ≡ true → b ≡ false
negated true h = absurd cc
negated false h = refl

module _ (user : User) (t : Tree) (sound : IsSound t) (counted : IsCounted t) where
  module _ (u : Tree) (before : HasAllBefore t u) (dir : ℕ) (name : List ℕ) (is_dir : Bool) where
    abbrev v : Tree
    v = made u user dir name is_dir

    abbrev grown : Inode → Inode
    grown = with_entry name u.next (is_directory (new_body is_dir))

    abbrev new : Inode
    new = fresh (new_mode is_dir) user.uid user.gid (with_standing (next_standing u dir) (new_body is_dir))

    new_is : inode v u.next ≡ Some new
    new_is = get-insert_same (with_inode dir grown u.inodes) u.next new

    dir_is : dir ≢ u.next → inode v dir ≡ option_map grown (inode u dir)
    dir_is other = get-insert_other (with_inode dir grown u.inodes) u.next new dir other ∙ get-changed_same u.inodes dir grown

    other_is : (i : ℕ) → i ≢ u.next → i ≢ dir → inode v i ≡ inode u i
    other_is i one two = get-insert_other (with_inode dir grown u.inodes) u.next new i one ∙ get-changed_other u.inodes dir grown i two

    old : (i : ℕ) (x : Inode) → inode u i ≡ Some x → i ≢ u.next
    old i x h e = let below : i < u.next = (before.sound.numbered i x h).1 in omega (arith, below, e)

    stays : (i : ℕ) (x : Inode) → inode u i ≡ Some x → (y : Inode) × (inode v i ≡ Some y) × IsAsBefore x y
    stays i =
        by_key (λ i. (x : Inode) → inode u i ≡ Some x → (y : Inode) × (inode v i ≡ Some y) × IsAsBefore x y) dir
        (λ x h. (grown x, dir_is (old dir x h) ∙ ap (option_map grown) h, with_one_more x name u.next (is_directory (new_body is_dir))))
        (λ i other x h. (x, other_is i (old i x h) other ∙ h, unchanged x)) i

    still : (i : ℕ) (x : Inode) → inode t i ≡ Some x → (y : Inode) × (inode v i ≡ Some y) × IsAsBefore x y
    still i x h =
        let one = before.inodes i x h in
        let two = stays i one.0 one.1 in
        (two.0, two.1, onward x one.0 two.0 one.2 two.2)

    -- a count of inodes, by those that it may have
    counts : (f : Option Inode → ℕ) (P : ℕ → ℕ → Type 0) → ((i : ℕ) → P i (f (Some new))) → ((i : ℕ) → P i (f (option_map grown (inode u i)))) → ((i : ℕ) → P i (f (inode u i))) → (i : ℕ) → P i (f (inode v i))
    counts f P at_new at_dir at_other i =
        by_key (λ i. P i (f (inode v i))) u.next (subst (P u.next) (sym (ap f new_is)) (at_new u.next))
        (λ i other. by_key (λ i. i ≢ u.next → P i (f (inode v i))) dir (λ other. subst (P dir) (sym (ap f (dir_is other))) (at_dir dir)) (λ i two one. subst (P i) (sym (ap f (other_is i one two))) (at_other i)) i other) i

    abbrev serial_of : Option Inode → ℕ
    serial_of o = option_map_or (λ x. x.next_serial) o 0

    abbrev holds_of : Option Inode → ℕ
    holds_of o = option_map_or (λ x. x.holds) o 0

    serials_more : (i : ℕ) → next_serial v i + t.names ≤ next_serial t i + 3 + (u.names + 1)
    serials_more =
        counts serial_of (λ i n. n + t.names ≤ next_serial t i + 3 + (u.names + 1))
        (λ i. let names = before.more_names in omega (arith, names))
        (λ i. one_more i (inode u i) (before.serials i))
        (λ i. let serials = before.serials i in omega (arith, serials))
      where
        one_more : (i : ℕ) (o : Option Inode) → serial_of o + t.names ≤ next_serial t i + 3 + u.names → serial_of (option_map grown o) + t.names ≤ next_serial t i + 3 + (u.names + 1)
        one_more i None h = let l : 0 + t.names ≤ next_serial t i + 3 + u.names = h in omega (arith, l)
        one_more i (Some x) h = let l : x.next_serial + t.names ≤ next_serial t i + 3 + u.names = h in let g : x.next_serial + 1 + t.names ≤ next_serial t i + 3 + (u.names + 1) = omega (arith, l) in g

    no_holds_more : ((i : ℕ) → holds_at u i ≡ 0) → (i : ℕ) → holds_at v i ≡ 0
    no_holds_more none = counts holds_of (λ i n. n ≡ 0) (λ i. refl) (λ i. as_many (inode u i) ∙ none i) none
      where
        as_many : (o : Option Inode) → holds_of (option_map grown o) ≡ holds_of o
        as_many None = refl
        as_many (Some x) = refl

  before_same : HasAllBefore t t
  before_same = record {
    inodes = λ i x h. (x, h, unchanged x);
    numbers = refl;
    more_names = omega arith;
    serials = λ dir. omega arith;
    no_holds = λ none i. none i;
    sound = sound;
    counted = counted;
  }

  all_before : (u : Tree) → IsGrown user t u → HasAllBefore t u
  all_before u Same = before_same
  all_before _ (Made {u} dir name is_dir so_far takes free may_be) =
      let before = all_before u so_far in
      let tests = four (is_name name) (may u user dir Write) (may u user dir Search) (not (has_no_room 0 u)) may_be in
      let room_at : has_no_room 0 u ≡ false = negated (has_no_room 0 u) tests.1 in
      let room : has_no_room (length (bytes_of (new_body is_dir))) u ≡ false = ap (λ (bytes : List ℕ). has_no_room (length bytes) u) (no_new_bytes is_dir) ∙ room_at in
      let numbers = before.numbers in
      let names = before.more_names in
      record {
        inodes = still u before dir name is_dir;
        numbers = omega (arith, numbers);
        more_names = omega (arith, names);
        serials = serials_more u before dir name is_dir;
        no_holds = λ none. no_holds_more u before dir name is_dir (before.no_holds none);
        sound = sound-added u before.sound before.counted dir name (new_mode is_dir) user.uid user.gid (new_body is_dir) takes tests.0 free (no_new_entries is_dir) (new_is_small is_dir) room;
        counted = counted-added u before.sound before.counted dir name (new_mode is_dir) user.uid user.gid (new_body is_dir) takes tests.0 free (no_new_entries is_dir) (new_is_small is_dir) room;
      }

pub grown_trees_have_all_before : GrownTreesHaveAllBefore
grown_trees_have_all_before user t u sound counted grown = all_before user t sound counted u grown
