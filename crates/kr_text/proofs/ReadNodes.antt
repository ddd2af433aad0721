-- A name of a tree read: what it adds to the tree that was read of the names before it.
use Rattle.std.proofs.Common.{◌≡◌, ℕ, ◌+◌, ◌<◌, ◌≤◌, Bool, true, false, List, [], ◌∷◌, ◌++◌, length, Option, Some, None, Result, Ok, Err, refl, sym, ap, subst, ◌∙◌, arith}
use Rattle.std.specs.Prelude.{◌||◌, nat_le, nat_lt, is_some, if◌then◌else◌}
use Rattle.std.specs.FinMap as map
use Rattle.std.specs.Option.{option_map, option_map_or, option_and_then}
use Rattle.std.proofs.lemmas.Bool.{false_from_ne_true, leb-true, ltb-true}
use Rattle.kr_tree.specs.Tree.{Tree, Inode, Inodes, Node, Entry, Body, Directory, RegularFile, SymbolicLink, ProcessDirectory, inode, node, entry, entries_of, body_is, is_directory, is_listed, is_file, takes_names, bytes_of}
use Rattle.kr_tree.specs.Names.{named, is_name}
use Rattle.kr_tree.specs.Lawful.{IsKept, IsIn}
use Rattle.kr_tree.specs.Changes.{added, linked, fresh, with_inode, with_entry, with_names, with_standing, next_standing, is_too_big, has_no_room, has_no_name_left, count_limit, byte_limit}
use Rattle.kr_tree.proofs.AddLemmas.{kept-added, passing}
use Rattle.kr_tree.proofs.LinkLemmas.{kept-linked}
use Rattle.kr_tree.proofs.kr_inode.BodyLemmas.{entries-is_listed, listed-is_directory, takes-is_listed}
use Rattle.kr_tree.proofs.pr_base.MapLemmas.{len-changed, get-changed_other}
use Rattle.kr_text.specs.declared.fault.TreeWhy.{TreeWhy}
use Rattle.kr_text.specs.declared.fault.TreeWhy.TheVariants.{Twice, TooBig}
use Rattle.kr_text.specs.declared.names.Named.{Named}
use Rattle.kr_text.specs.Canonical.{first_name, owner_of}
use Rattle.kr_text.specs.Reading.{place_below, free_in, directory_of, put, node_put, link_put, name_put, file_at, or_no_target}
use Rattle.kr_text.specs.Fields.{◌>>=◌}
use Rattle.kr_text.specs.Same.{bare_body}
use Rattle.kr_text.proofs.OrderLemmas.{well_formed_in}
use Rattle.kr_text.proofs.OrderedNames.{IsNext}
use Rattle.kr_text.proofs.DepthLemmas.{entry_in}
use Rattle.kr_text.proofs.DrawnLemmas.{next_free, len_more, other_number, file_linked}
use Rattle.kr_text.proofs.Growth.{Grows, found_entry, named_there, added_grows, added_shows, linked_grows}
use Rattle.kr_text.proofs.KeptBytes.{entry_of_bytes, node_of_bytes, of_bytes-alike}
use Rattle.kr_text.proofs.Mirrors.{Mirrors, read_name, takes_where_listed, mirrors_new, mirrors_again, first_found, bare_directory}

-- ---- entries and names

pub entry_is_name : (t : Tree) → IsKept t → (dir : ℕ) (name : List ℕ) (i : ℕ) → entry t dir name ≡ Some i → is_name name ≡ true
entry_is_name t kept dir name i is =
    let e = found_entry t dir name i is in
    subst (λ s. is_name s ≡ true) (sym e.3) (go (inode t dir) refl e.0 e.1)
  where
    go : (o : Option Inode) → inode t dir ≡ o → (e : Entry) → IsIn e (option_map_or (λ x. entries_of x.node.body) o []) → is_name e.name ≡ true
    go None none e is_in = absurd is_in
    go (Some x) there e is_in = well_formed_in (entries_of x.node.body) e (kept.sound.listed dir x there).well_formed is_in

listed_node : (t : Tree) (dir : ℕ) (name : List ℕ) (i : ℕ) → entry t dir name ≡ Some i → (x : Node) × (node t dir ≡ Some x) × (is_listed x.body ≡ true)
listed_node t dir name i is = let e = entry_in t dir name i is in go (inode t dir) e.0 e.1
  where
    go : (o : Option Inode) (e : Entry) → IsIn e (option_map_or (λ x. entries_of x.node.body) o []) → (x : Node) × (option_map (λ z. z.node) o ≡ Some x) × (is_listed x.body ≡ true)
    go None e is_in = absurd is_in
    go (Some x) e is_in = (x.node, refl, entries-is_listed x.node.body e is_in)

takes_directory : (u : Tree) (i : ℕ) → body_is takes_names u i ≡ true → body_is is_directory u i ≡ true
takes_directory u i takes =
    let x = passing takes_names (inode u i) takes in
    ap (λ o. option_map_or (λ z. is_directory z.node.body) o false) x.1 ∙ listed-is_directory x.0.node.body (takes-is_listed x.0.node.body x.2)

-- ---- the place of a name

pub record Spot (t : Tree) (earlier : List Named) (u : Tree) (n : Named) (next : IsNext t earlier n) : Type 0 where
  pub dir : ℕ
  pub at : named u next.directory.path ≡ Some dir
  pub takes : body_is takes_names u dir ≡ true
  pub free : entry u dir next.name ≡ None
  pub place : place_below u n.path ≡ Ok (dir, next.name)

pub spot_of : (t : Tree) → IsKept t → (earlier : List Named) (u : Tree) → Mirrors t earlier u → (n : Named) (next : IsNext t earlier n) → Spot t earlier u n next
spot_of t kept_t earlier u mirrors n next =
    let above = listed_node t next.directory.ino next.name n.ino next.entry_is in
    let r = read_name kept_t mirrors next.directory next.before above.0 above.1 in
    let listed : is_listed r.1.body ≡ true = sym (bare_directory r.1.body) ∙ ap (λ z. is_listed z.body) r.4 ∙ bare_directory above.0.body ∙ above.2 in
    let takes : body_is takes_names u r.0 ≡ true = takes_where_listed u mirrors.kept next.directory.path r.0 r.1 r.2 r.3 listed in
    let is_free : entry u r.0 next.name ≡ None = unnamed r.0 r.2 (entry u r.0 next.name) refl in
    record {
      dir = r.0;
      at = r.2;
      takes = takes;
      free = is_free;
      place =
          ap (place_below u) next.path
          ∙ ap (λ o. free_in u next.name (directory_of u o)) r.2
          ∙ ap (λ b. free_in u next.name (if b then Some r.0 else None)) takes
          ∙ ap (λ o. if is_some o then Err Twice else Ok (r.0, next.name)) is_free;
    }
  where
    unnamed : (dir : ℕ) → named u next.directory.path ≡ Some dir → (o : Option ℕ) → entry u dir next.name ≡ o → entry u dir next.name ≡ None
    unnamed dir at None e = e
    unnamed dir at (Some k) e =
        let m = mirrors.only (next.name ∷ next.directory.path) k (ap (option_and_then (λ d. entry u d next.name)) at ∙ e) in
        absurd (next.fresh m.0 m.1 (m.2 ∙ sym next.path))

-- ---- a new node

room : (size : ℕ) (u : Tree) → map.len u.inodes < count_limit → u.names < count_limit → u.bytes + size ≤ byte_limit → has_no_room size u ≡ false
room size u inodes names bytes =
    let one : nat_le count_limit (map.len u.inodes) ≡ false = false_from_ne_true _ (λ t. let l = leb-true count_limit (map.len u.inodes) t in omega (arith, l, inodes)) in
    let two : nat_le count_limit u.names ≡ false = false_from_ne_true _ (λ t. let l = leb-true count_limit u.names t in omega (arith, l, names)) in
    let three : nat_lt byte_limit (u.bytes + size) ≡ false = false_from_ne_true _ (λ t. let l = ltb-true byte_limit (u.bytes + size) t in omega (arith, l, bytes)) in
    rw (one, two, three) refl

pub record NewTree (t : Tree) (earlier : List Named) (n : Named) (u : Tree) (given : Result Tree TreeWhy) (inodes bytes : ℕ) : Type 0 where
  pub tree : Tree
  pub is : given ≡ Ok tree
  pub mirrors : Mirrors t (earlier ++ n ∷ []) tree
  pub inodes_more : map.len tree.inodes ≡ map.len u.inodes + inodes
  pub names_more : tree.names ≡ u.names + 1
  pub bytes_more : tree.bytes ≡ u.bytes + bytes

pub node_read_back : (t : Tree) → IsKept t → (earlier : List Named) (u : Tree) → Mirrors t earlier u → (n : Named) (next : IsNext t earlier n) (x : Node) → node t n.ino ≡ Some x
    → (b : Body) → bare_body b ≡ bare_body x.body → entries_of b ≡ [] → is_too_big b ≡ false
    → (body_is is_file t n.ino ≡ true → first_name n.ino earlier ≡ None)
    → map.len u.inodes < count_limit → u.names < count_limit → u.bytes + length (bytes_of b) ≤ byte_limit
    → NewTree t earlier n u (node_put (owner_of x) n.path b u) 1 (length (bytes_of b))
node_read_back t kept_t earlier u mirrors n next x node_is b same_bare no_entries small first inodes names bytes =
    let spot = spot_of t kept_t earlier u mirrors n next in
    let has_room : has_no_room (length (bytes_of b)) u ≡ false = room (length (bytes_of b)) u inodes names bytes in
    let v : Tree = added spot.dir next.name x.mode x.uid x.gid b u in
    let kept_v : IsKept v = kept-added u mirrors.kept spot.dir next.name x.mode x.uid x.gid b spot.takes (entry_is_name t kept_t next.directory.ino next.name n.ino next.entry_is) spot.free no_entries small (length (bytes_of b)) refl has_room
    (entry_of_bytes t kept_t next.directory.ino next.name n.ino next.entry_is) (of_bytes-alike b x.body same_bare no_entries (node_of_bytes t kept_t n.ino x node_is)) v.inodes refl in
    let grows : Grows u v spot.dir next.name u.next = added_grows u mirrors.kept spot.dir next.name spot.takes spot.free x.mode x.uid x.gid b no_entries in
    let shows = added_shows u mirrors.kept spot.dir next.name spot.takes spot.free x.mode x.uid x.gid b ∙ ap (λ bb. Some (record { mode = x.mode; uid = x.uid; gid = x.gid; body = bb })) same_bare in
    let y : Inode = fresh x.mode x.uid x.gid (with_standing (next_standing u spot.dir) b) in
    let m : Inodes = with_inode spot.dir (with_entry next.name u.next (is_directory b)) u.inodes in
    let d = passing takes_names (inode u spot.dir) spot.takes in
    let not_there : map.get m u.next ≡ None = get-changed_other u.inodes spot.dir (with_entry next.name u.next (is_directory b)) u.next (other_number u spot.dir d.0 mirrors.kept d.1) ∙ next_free u mirrors.kept in
    record {
      tree = v;
      is = ap (λ r. r >>= put (owner_of x) b u) spot.place ∙ ap (λ p. if p then Err TooBig else Ok v) (ap (λ p. p || has_no_room (length (bytes_of b)) u) small ∙ has_room);
      mirrors = mirrors_new kept_t mirrors next grows kept_v spot.at (takes_directory u spot.dir spot.takes) x node_is shows (λ tx at. let z = named_there u mirrors.kept tx u.next at in never (sym z.1 ∙ next_free u mirrors.kept)) first;
      inodes_more = len_more m u.next y not_there ∙ ap (λ k. k + 1) (len-changed u.inodes spot.dir (with_entry next.name u.next (is_directory b)));
      names_more = refl;
      bytes_more = refl;
    }
  where
    never : {z : Inode} → Some z ≡ None → ⊥
    never e = cc

-- ---- a further name of a file

pub bare_file : (b : Body) → is_file (bare_body b) ≡ is_file b
bare_file (Directory es standing) = refl
bare_file (RegularFile bytes) = refl
bare_file (SymbolicLink text) = refl
bare_file (ProcessDirectory standing) = refl

pub body_of_node : (test : Body → Bool) (u : Tree) (i : ℕ) (y : Node) → node u i ≡ Some y → body_is test u i ≡ test y.body
body_of_node test u i y at = go (inode u i) at
  where
    go : (o : Option Inode) → option_map (λ z. z.node) o ≡ Some y → option_map_or (λ z. test z.node.body) o false ≡ test y.body
    go None e = cc
    go (Some z) e = let same : z.node ≡ y = cc in ap (λ k. test k.body) same

pub name_read_again : (t : Tree) → IsKept t → (earlier : List Named) (u : Tree) → Mirrors t earlier u → (n : Named) (next : IsNext t earlier n) (x : Node) → node t n.ino ≡ Some x
    → is_file x.body ≡ true → (first : List (List ℕ)) → first_name n.ino earlier ≡ Some first → u.names < count_limit
    → NewTree t earlier n u (name_put n.path first u) 0 0
name_read_again t kept_t earlier u mirrors n next x node_is file first first_is names =
    let spot = spot_of t kept_t earlier u mirrors n next in
    let m = first_found n.ino earlier first first_is in
    let r = read_name kept_t mirrors m.0 m.1 x (ap (node t) m.3 ∙ node_is) in
    let j : ℕ = r.0 in
    let is_file_u : body_is is_file u j ≡ true = body_of_node is_file u j r.1 r.3 ∙ sym (bare_file r.1.body) ∙ ap (λ k. is_file k.body) r.4 ∙ bare_file x.body ∙ file in
    let file_t : body_is is_file t n.ino ≡ true = body_of_node is_file t n.ino x node_is ∙ file in
    let left : has_no_name_left u ≡ false = false_from_ne_true _ (λ b. let l = leb-true count_limit u.names b in omega (arith, l, names)) in
    let v : Tree = linked spot.dir next.name j u in
    let kept_v : IsKept v = kept-linked u mirrors.kept spot.dir next.name j spot.takes (entry_is_name t kept_t next.directory.ino next.name n.ino next.entry_is) spot.free (file_linked u j is_file_u) left
    (entry_of_bytes t kept_t next.directory.ino next.name n.ino next.entry_is) v.inodes refl in
    let grows : Grows u v spot.dir next.name j = linked_grows u mirrors.kept spot.dir next.name spot.takes spot.free j is_file_u in
    let target : file_at u first ≡ Ok j = ap (λ o. or_no_target (option_and_then (λ i. if body_is is_file u i then Some i else None) o)) (ap (named u) (sym m.2) ∙ r.2) ∙ ap (λ b. or_no_target (if b then Some j else None)) is_file_u in
    record {
      tree = v;
      is = ap (λ p. p >>= (λ q. file_at u first >>= link_put u q)) spot.place ∙ ap (λ f. f >>= link_put u (spot.dir, next.name)) target ∙ ap (λ b. if b then Err TooBig else Ok v) left;
      mirrors = mirrors_again kept_t mirrors next grows kept_v spot.at (takes_directory u spot.dir spot.takes) x node_is (grows.bare_kept j r.1 r.3 ∙ ap Some r.4) m.0 m.1 m.3 file_t r.2;
      inodes_more =
          let one = len-changed (with_inode spot.dir (with_entry next.name j false) u.inodes) j (with_names (λ k. k + 1)) in
          let two = len-changed u.inodes spot.dir (with_entry next.name j false) in
          omega (arith, one, two);
      names_more = refl;
      bytes_more = omega arith;
    }
