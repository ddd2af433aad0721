-- Trees to which new names are added one after the other: what is named in them, and how much they hold.
use Rattle.std.proofs.Common.{◌≡◌, ℕ, ◌+◌, ◌<◌, ◌≤◌, true, false, List, [], ◌∷◌, length, Option, Some, None, Result, Ok, Err, refl, sym, ap, subst, ◌∙◌, arith, inl, inr, ◌⊎◌}
use Rattle.std.specs.Prelude.{◌||◌, nat_le, nat_lt, is_some, if◌then◌else◌}
use Rattle.std.specs.FinMap as map
use Rattle.std.specs.Option.{option_map, option_map_or, option_and_then}
use Rattle.std.proofs.lemmas.Bool.{false_from_ne_true, leb-true, ltb-true}
use Rattle.kr_text.specs.kr_tree.Tree.{Tree, Inodes, Node, Body, inode, node, entry, entries_of, body_is, is_directory, is_listed, takes_names, bytes_of}
use Rattle.kr_text.specs.kr_tree.Names.{named, is_name}
use Rattle.kr_text.specs.kr_tree.Lawful.{AreBytes, IsKept, IsOfBytes}
use Rattle.kr_text.specs.kr_tree.Changes.{added, byte_limit, count_limit, fresh, has_no_room, is_too_big, next_standing, with_entry, with_inode, with_standing}
use Rattle.kr_text.proofs.kr_tree.AddLemmas.{kept-added, passing}
use Rattle.kr_text.proofs.kr_inode.BodyLemmas.{listed-is_directory, takes-is_listed}
use Rattle.kr_text.proofs.pr_base.MapLemmas.{len-changed, get-changed_other}
use Rattle.kr_text.specs.declared.fault.TreeWhy.{TreeWhy}
use Rattle.kr_text.specs.declared.fault.TreeWhy.TheVariants.{Twice, TooBig}
use Rattle.kr_text.specs.Fields.{◌>>=◌}
use Rattle.kr_text.specs.Reading.{directory_of, free_in, node_put, place_below, put}
use Rattle.kr_text.specs.Same.{bare, bare_body}
use Rattle.kr_text.proofs.DrawnLemmas.{len_more, next_free, other_number}
use Rattle.kr_text.proofs.Growth.{Grows, added_grows, added_shows, named_kept, named_new, named_only}
use Rattle.kr_text.proofs.Mirrors.{bare_directory, takes_where_listed}

-- only old texts are named; each of some directories is there; and how many names and bytes there are at most
pub record Holds (Old Dir : List (List ℕ) → Type 0) (count size : ℕ) (u : Tree) : Type 0 where
  pub kept : IsKept u
  pub only : (text : List (List ℕ)) (i : ℕ) → named u text ≡ Some i → Old text
  pub dirs : (text : List (List ℕ)) → Dir text → (i : ℕ) × (x : Node) × (named u text ≡ Some i) × (node u i ≡ Some x) × (is_listed x.body ≡ true)
  pub inodes : map.len u.inodes ≤ count
  pub names : u.names ≤ count
  pub bytes : u.bytes ≤ size

pub widened : {Old Dir More Fewer : List (List ℕ) → Type 0} {count size : ℕ} {u : Tree} → Holds Old Dir count size u
    → ((text : List (List ℕ)) → Old text → More text) → ((text : List (List ℕ)) → Fewer text → Dir text) → (count' size' : ℕ) → count ≤ count' → size ≤ size' → Holds More Fewer count' size' u
widened holds more fewer count' size' few small = record {
  kept = holds.kept;
  only = λ text i is. more text (holds.only text i is);
  dirs = λ text is. holds.dirs text (fewer text is);
  inodes = let l = holds.inodes in omega (arith, l, few);
  names = let l = holds.names in omega (arith, l, few);
  bytes = let l = holds.bytes in omega (arith, l, small);
}

-- ---- one name more

abbrev pub OrThis : (List (List ℕ) → Type 0) → List (List ℕ) → List (List ℕ) → Type 0
OrThis Old new text = Old text ⊎ (text ≡ new)

pub record IsPut (Old Dir : List (List ℕ) → Type 0) (count size : ℕ) (given : Result Tree TreeWhy) : Type 0 where
  pub tree : Tree
  pub is : given ≡ Ok tree
  pub holds : Holds Old Dir count size tree

room : (size : ℕ) (u : Tree) → map.len u.inodes < count_limit → u.names < count_limit → u.bytes + size ≤ byte_limit → has_no_room size u ≡ false
room size u inodes names bytes =
    let one : nat_le count_limit (map.len u.inodes) ≡ false = false_from_ne_true _ (λ t. let l = leb-true count_limit (map.len u.inodes) t in omega (arith, l, inodes)) in
    let two : nat_le count_limit u.names ≡ false = false_from_ne_true _ (λ t. let l = leb-true count_limit u.names t in omega (arith, l, names)) in
    let three : nat_lt byte_limit (u.bytes + size) ≡ false = false_from_ne_true _ (λ t. let l = ltb-true byte_limit (u.bytes + size) t in omega (arith, l, bytes)) in
    rw (one, two, three) refl

takes_directory : (u : Tree) (i : ℕ) → body_is takes_names u i ≡ true → body_is is_directory u i ≡ true
takes_directory u i takes =
    let x = passing takes_names (inode u i) takes in
    ap (λ o. option_map_or (λ z. is_directory z.node.body) o false) x.1 ∙ listed-is_directory x.0.node.body (takes-is_listed x.0.node.body x.2)

-- a node that was there shows the like, so a directory stays one
still_listed : (v : Tree) (i : ℕ) (x : Node) → option_map bare (node v i) ≡ Some (bare x) → is_listed x.body ≡ true → (y : Node) × (node v i ≡ Some y) × (is_listed y.body ≡ true)
still_listed v i x same listed = go (node v i) refl same
  where
    bodies : (y : Node) → Some (bare y) ≡ Some (bare x) → bare_body y.body ≡ bare_body x.body
    bodies y e = let bares : bare y ≡ bare x = cc in ap (λ n. n.body) bares

    go : (o : Option Node) → node v i ≡ o → option_map bare o ≡ Some (bare x) → (y : Node) × (node v i ≡ Some y) × (is_listed y.body ≡ true)
    go None e h = cc
    go (Some y) e h = (y, e, sym (bare_directory y.body) ∙ ap is_listed (bodies y h) ∙ bare_directory x.body ∙ listed)

module _ {Old Dir : List (List ℕ) → Type 0} {count size : ℕ} {u : Tree} (holds : Holds Old Dir count size u)
    (name : List ℕ) (text : List (List ℕ)) (in_dir : Dir text) (fresh_name : Old (name ∷ text) → ⊥) (well : is_name name ≡ true) (name_bytes : AreBytes name) (few : count < count_limit)
    (mode uid gid : ℕ) (b : Body) (no_entries : entries_of b ≡ []) (small : is_too_big b ≡ false) (of_bytes : IsOfBytes b) (fits : size + length (bytes_of b) ≤ byte_limit) where
  abbrev pub at_dir : (i : ℕ) × (x : Node) × (named u text ≡ Some i) × (node u i ≡ Some x) × (is_listed x.body ≡ true)
  at_dir = holds.dirs text in_dir

  abbrev pub dir : ℕ
  dir = at_dir.0

  takes : body_is takes_names u dir ≡ true
  takes = takes_where_listed u holds.kept text dir at_dir.1 at_dir.2 at_dir.3 at_dir.4

  free : entry u dir name ≡ None
  free = go (entry u dir name) refl
    where
      go : (o : Option ℕ) → entry u dir name ≡ o → entry u dir name ≡ None
      go None e = e
      go (Some k) e = absurd (fresh_name (holds.only (name ∷ text) k (ap (option_and_then (λ d. entry u d name)) at_dir.2 ∙ e)))

  abbrev pub v : Tree
  v = added dir name mode uid gid b u

  has_room : has_no_room (length (bytes_of b)) u ≡ false
  has_room = let i = holds.inodes in let n = holds.names in let s = holds.bytes in room (length (bytes_of b)) u (omega (arith, i, few)) (omega (arith, n, few)) (omega (arith, s, fits))

  grows : Grows u v dir name u.next
  grows = added_grows u holds.kept dir name takes free mode uid gid b no_entries

  placed : place_below u (name ∷ text) ≡ Ok (dir, name)
  placed =
      ap (λ o. free_in u name (directory_of u o)) at_dir.2
      ∙ ap (λ t. free_in u name (if t then Some dir else None)) takes
      ∙ ap (λ o. if is_some o then Err Twice else Ok (dir, name)) free

  pub put_is : node_put (record { mode = mode; uid = uid; gid = gid }) (name ∷ text) b u ≡ Ok v
  put_is =
      ap (λ r. r >>= put (record { mode = mode; uid = uid; gid = gid }) b u) placed
      ∙ ap (λ p. if p then Err TooBig else Ok v) (ap (λ p. p || has_no_room (length (bytes_of b)) u) small ∙ has_room)

  dirs_kept : (tx : List (List ℕ)) → Dir tx → (i : ℕ) × (x : Node) × (named v tx ≡ Some i) × (node v i ≡ Some x) × (is_listed x.body ≡ true)
  dirs_kept tx is =
      let old = holds.dirs tx is in
      let y = still_listed v old.0 old.1 (grows.bare_kept old.0 old.1 old.3) old.4 in
      (old.0, y.0, named_kept grows tx old.0 old.2, y.1, y.2)

  only_these : (tx : List (List ℕ)) (i : ℕ) → named v tx ≡ Some i → OrThis Old (name ∷ text) tx
  only_these tx i is = elim (named_only grows holds.kept text at_dir.2 (takes_directory u dir takes) tx i is) [ inl old ↦ inl (holds.only tx i old) | inr new ↦ inr new.0 ]

  more_inodes : map.len v.inodes ≡ map.len u.inodes + 1
  more_inodes =
      let d = passing takes_names (inode u dir) takes in
      let m : Inodes = with_inode dir (with_entry name u.next (is_directory b)) u.inodes in
      let not_there : map.get m u.next ≡ None = get-changed_other u.inodes dir (with_entry name u.next (is_directory b)) u.next (other_number u dir d.0 holds.kept d.1) ∙ next_free u holds.kept in
      len_more m u.next (fresh mode uid gid (with_standing (next_standing u dir) b)) not_there ∙ ap (λ k. k + 1) (len-changed u.inodes dir (with_entry name u.next (is_directory b)))

  kept_v : IsKept v
  kept_v = kept-added u holds.kept dir name mode uid gid b takes well free no_entries small (length (bytes_of b)) refl has_room name_bytes of_bytes v.inodes refl

  -- a node is put at its place
  pub is_put : IsPut (OrThis Old (name ∷ text)) Dir (count + 1) (size + length (bytes_of b)) (node_put (record { mode = mode; uid = uid; gid = gid }) (name ∷ text) b u)
  is_put = record {
    tree = v;
    is = put_is;
    holds = record {
      kept = kept_v;
      only = only_these;
      dirs = dirs_kept;
      inodes = let l = holds.inodes in let m = more_inodes in omega (arith, l, m);
      names = let l = holds.names in omega (arith, l);
      bytes = let l = holds.bytes in omega (arith, l);
    };
  }

  -- and a directory is one of those that are there
  pub is_dir_put : is_listed b ≡ true → IsPut (OrThis Old (name ∷ text)) (OrThis Dir (name ∷ text)) (count + 1) (size + length (bytes_of b)) (node_put (record { mode = mode; uid = uid; gid = gid }) (name ∷ text) b u)
  unfolding is_put
  is_dir_put listed = record {
    tree = v;
    is = put_is;
    holds = record {
      kept = kept_v;
      only = only_these;
      dirs = λ tx is. either_dir tx is;
      inodes = is_put.holds.inodes;
      names = is_put.holds.names;
      bytes = is_put.holds.bytes;
    };
  }
    where
      new_dir : (i : ℕ) × (x : Node) × (named v (name ∷ text) ≡ Some i) × (node v i ≡ Some x) × (is_listed x.body ≡ true)
      new_dir =
          let y = still_listed v u.next (record { mode = mode; uid = uid; gid = gid; body = b }) (added_shows u holds.kept dir name takes free mode uid gid b) listed in
          (u.next, y.0, named_new grows text at_dir.2, y.1, y.2)

      either_dir : (tx : List (List ℕ)) → OrThis Dir (name ∷ text) tx → (i : ℕ) × (x : Node) × (named v tx ≡ Some i) × (node v i ≡ Some x) × (is_listed x.body ≡ true)
      either_dir tx (inl old) = dirs_kept tx old
      either_dir tx (inr new) = subst (λ t. (i : ℕ) × (x : Node) × (named v t ≡ Some i) × (node v i ≡ Some x) × (is_listed x.body ≡ true)) (sym new) new_dir
