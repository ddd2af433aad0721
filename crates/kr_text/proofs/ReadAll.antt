-- A canonical listing read whole.
use Rattle.std.proofs.Common.{◌≡◌, ◌≢◌, ℕ, ◌+◌, true, false, List, [], ◌∷◌, ◌++◌, length, get_or, All, Option, Some, None, Result, Ok, refl, sym, ap, subst, ◌∙◌, arith, inl, inr, append_assoc, append-nil}
use Rattle.std.specs.Prelude.{codes}
use Rattle.std.specs.FinMap as map
use Rattle.std.specs.Fmt.{decimal}
use Rattle.std.specs.Ordering.{nat_cmp}
use Rattle.std.specs.Option.{option_map, option_map_or, option_and_then}
use Rattle.std.proofs.lemmas.Bool.{ne_eqb}
use Rattle.std.proofs.lemmas.List.Splits.{slice_split_at, length-slice_split}
use Rattle.kr_tree.specs.kr_inode.declared.user.User.{User}
use Rattle.kr_tree.specs.kr_inode.declared.standing.Standing.{Standing}
use Rattle.kr_tree.specs.Tree.{Tree, Inode, Node, Entry, Body, Directory, RegularFile, SymbolicLink, ProcessDirectory, root, node, entries, entries_of, body_is, is_file, is_listed, bytes_of}
use Rattle.kr_tree.specs.Names.{named}
use Rattle.kr_tree.specs.Changes.{new_tree, fresh}
use Rattle.kr_tree.specs.Lawful.{IsKept, IsIn}
use Rattle.kr_tree.proofs.pr_base.MapLemmas.{get-insert_same, get-insert_other, by_key}
use Rattle.kr_tree.proofs.NewLemmas.{sound-new_tree, counted-new_tree, used-new_tree}
use Rattle.kr_tree.proofs.OfBytesLemmas.{of_bytes-new_tree}
use Rattle.kr_text.specs.declared.fault.ListFault.{ListFault}
use Rattle.kr_text.specs.declared.names.Named.{Named}
use Rattle.kr_text.specs.declared.so_far.SoFar.{SoFar}
use Rattle.kr_text.specs.Fields.{◌>>=◌}
use Rattle.kr_text.specs.Canonical.{canonical, owner_of, line_at, body_line, lines_after, root_name, all_names, octal, path_field}
use Rattle.kr_text.specs.Reading.{pieces_of, is_newline, counted, finished, read_from, line_added, line_read, listing_of, nothing_read, with_tree}
use Rattle.kr_text.specs.Same.{bare, bare_body, shown, IsSame, NameOneFile, CanBeListed, body_weight, weight_after, inodes_read, bytes_read, ListingsAreReadBack}
use Rattle.kr_text.proofs.NamesLemmas.{IsNamed}
use Rattle.kr_text.proofs.OrderedNames.{IsAmong, AreInOrder, names_inside, under_parts, all_in_order}
use Rattle.kr_text.proofs.DepthLemmas.{named_above, entry_in}
use Rattle.kr_text.proofs.CountedNames.{all_names_counted}
use Rattle.kr_text.proofs.DrawnLemmas.{len_more}
use Rattle.kr_text.proofs.EveryName.{every_name}
use Rattle.kr_text.proofs.Mirrors.{Mirrors, node_there, read_name}
use Rattle.kr_text.proofs.ReadNodes.{bare_file, body_of_node}
use Rattle.kr_text.proofs.ReadBack.{HasRead, Step, step, next_named, is_path, is_written, weighed, written_line}
use Rattle.kr_text.proofs.ReadLemmas.{more_read, last_read}
use Rattle.kr_text.proofs.WrittenFields.{decimal_graphic, octal_graphic}
use Rattle.kr_text.proofs.WrittenPaths.{path_graphic}
use Rattle.kr_text.proofs.WrittenLines.{HasNoNewline, at_each, joined, line_ends, joined_plain, one_letter, user_back, dir_back}

-- ---- one line after the other

no_newlines : (bytes : List ℕ) → HasNoNewline bytes → All (λ b. is_newline b ≡ false) bytes
no_newlines bytes are k d lt = ne_eqb (get_or bytes k d) 10 (at_each (λ b. b ≢ 10) bytes are k d lt)

line_taken : (text more : List ℕ) → HasNoNewline text → pieces_of (text ++ 10 ∷ more) ≡ text ∷ pieces_of more
line_taken text more plain = slice_split_at is_newline text 10 more (no_newlines text plain) refl

line_passed : (elf : List ℕ) (k : ℕ) (text more : List ℕ) (s after : SoFar) → HasNoNewline text → line_added elf text s ≡ Ok after → read_from elf k (pieces_of (text ++ 10 ∷ more)) s ≡ read_from elf (counted k) (pieces_of more) after
line_passed elf k text more s after plain adds = ap (λ ps. read_from elf k ps s) (line_taken text more plain) ∙ go (pieces_of more) refl
  where
    go : (ps : List (List ℕ)) → pieces_of more ≡ ps → read_from elf k (text ∷ pieces_of more) s ≡ read_from elf (counted k) (pieces_of more) after
    go [] none = let count = length-slice_split is_newline more in let zero_is = ap length none in absurd (omega (arith, count, zero_is))
    go (p ∷ ps) some = more_read elf k text p (pieces_of more) ps s after some adds ∙ ap (λ qs. read_from elf (counted k) qs after) (sym some)

-- ---- all names behind the root's

pub record AllRead (t : Tree) (user : User) (names : List Named) (given : Result (Tree × User) ListFault) : Type 0 where
  pub tree : Tree
  pub is : given ≡ Ok (tree, user)
  pub mirrors : Mirrors t names tree

names_read : (t : Tree) → IsKept t → (user : User) → CanBeListed t user → (elf : List ℕ) (rest earlier : List Named) (s : SoFar) (k : ℕ) → AreInOrder t earlier rest → HasRead t user earlier rest s → AllRead t user (earlier ++ rest) (read_from elf k (pieces_of (lines_after t earlier rest)) s)
unfolding lines_after
names_read t kept user can elf [] earlier s k order reads = record {
  tree = reads.u;
  is = last_read elf k [] [] s refl refl ∙ (λ i. finished k (reads.tree_is i) (reads.user_is i));
  mirrors = subst (λ names. Mirrors t names reads.u) (sym (append-nil earlier)) reads.mirrors;
}
names_read t kept user can elf (n ∷ rest) earlier s k order reads =
    let x = node_there t kept n (next_named t earlier n order.0) in
    let st : Step t user earlier n rest elf s = step t kept user can elf earlier n rest s order.0 reads x.0 x.1 in
    let left : List ℕ = lines_after t (earlier ++ n ∷ []) rest in
    let more = names_read t kept user can elf rest (earlier ++ n ∷ []) st.after (counted k) order.1 st.reads in
    record {
      tree = more.tree;
      is = ap (λ bytes. read_from elf k (pieces_of bytes) s) (ap (λ l. l ++ left) st.line_is ∙ append_assoc st.text (10 ∷ []) left) ∙ line_passed elf k st.text left s st.after st.plain st.adds ∙ more.is;
      mirrors = subst (λ names. Mirrors t names more.tree) (append_assoc earlier (n ∷ []) rest) more.mirrors;
    }

-- ---- the user's line and the root's

nothing_inside : (mode uid gid dir : ℕ) (e : Entry) → IsIn e (entries (new_tree mode uid gid) dir) → ⊥
nothing_inside mode uid gid dir =
    let y : Inode = fresh mode uid gid (Directory [] (Some (record { inode = root; serial = 0 }))) in
    by_key (λ q. (e : Entry) → IsIn e (entries (new_tree mode uid gid) q) → ⊥) root
    (λ e is_in. subst (λ o. IsIn e (option_map_or (λ z. entries_of z.node.body) o [])) (get-insert_same map.empty root y) is_in)
    (λ q other e is_in. subst (λ o. IsIn e (option_map_or (λ z. entries_of z.node.body) o [])) (get-insert_other map.empty root y q other ∙ map.get-empty nat_cmp q) is_in) dir

root_alone : (mode uid gid : ℕ) (text : List (List ℕ)) (i : ℕ) → named (new_tree mode uid gid) text ≡ Some i → text ≡ []
root_alone mode uid gid [] i is = refl
root_alone mode uid gid (name ∷ text) i is =
    let at = named_above (new_tree mode uid gid) name text i is in
    let e = entry_in (new_tree mode uid gid) at.0 name i at.2 in
    absurd (nothing_inside mode uid gid at.0 e.0 e.1)

root_named : (m : Named) → IsAmong m (root_name ∷ []) → m ≡ root_name
root_named m (inl same) = sym same
root_named m (inr none) = absurd none

mirrors_root : (t : Tree) (x : Node) (es : List Entry) (standing : Option Standing) → node t root ≡ Some x → x.body ≡ Directory es standing → Mirrors t (root_name ∷ []) (new_tree x.mode x.uid x.gid)
mirrors_root t x es standing at is =
    let v : Tree = new_tree x.mode x.uid x.gid in
    let y : Inode = fresh x.mode x.uid x.gid (Directory [] (Some (record { inode = root; serial = 0 }))) in
    let shows : shown v [] ≡ shown t [] = ap (λ o. option_map bare (option_map (λ z. z.node) o)) (get-insert_same map.empty root y) ∙ ap (λ b. Some (record { mode = x.mode; uid = x.uid; gid = x.gid; body = bare_body b })) (sym is) ∙ sym (ap (option_map bare) at) in
    record {
      kept = record { sound = sound-new_tree x.mode x.uid x.gid; counted = counted-new_tree x.mode x.uid x.gid; used = used-new_tree x.mode x.uid x.gid; bytes = of_bytes-new_tree x.mode x.uid x.gid };
      are_named = λ m is_m. subst (IsNamed t) (sym (root_named m is_m)) refl;
      shows = λ m is_m. subst (λ k. shown v k.path ≡ shown t k.path) (sym (root_named m is_m)) shows;
      only = λ tx i named_i. (root_name, inl refl, sym (root_alone x.mode x.uid x.gid tx i named_i));
      one = λ a b is_a is_b file same. ap (λ k. named v k.path) (root_named a is_a ∙ sym (root_named b is_b));
      apart = λ a b is_a is_b file_a file_b same. ap (λ k. k.ino) (root_named a is_a ∙ sym (root_named b is_b));
    }

-- ---- what is the same

same_number : (i j : ℕ) → Some i ≡ Some j → i ≡ j
same_number i j e = cc

-- what a name names is a file in both trees or in none
file_alike : (t u : Tree) (kept : IsKept t) (names : List Named) (mirrors : Mirrors t names u) (n : Named) → IsAmong n names → (j : ℕ) × (named u n.path ≡ Some j) × (body_is is_file u j ≡ body_is is_file t n.ino)
file_alike t u kept names mirrors n is =
    let x = node_there t kept n (mirrors.are_named n is) in
    let r = read_name kept mirrors n is x.0 x.1 in
    (r.0, r.2, body_of_node is_file u r.0 r.1 r.3 ∙ sym (bare_file r.1.body) ∙ ap (λ z. is_file z.body) r.4 ∙ bare_file x.0.body ∙ sym (body_of_node is_file t n.ino x.0 x.1))

same_trees : (t u : Tree) → IsKept t → Mirrors t (all_names t) u → IsSame t u
same_trees t u kept mirrors = record {
  nodes = λ text. shown_alike text (named t text) refl;
  files = λ a b. (there a b, back a b);
}
  where
    none_named : (text : List (List ℕ)) → named t text ≡ None → (o : Option ℕ) → named u text ≡ o → named u text ≡ None
    none_named text none None e = e
    none_named text none (Some k) e =
        let n = mirrors.only text k e in
        let is : named t text ≡ Some n.0.ino = ap (named t) (sym n.2) ∙ mirrors.are_named n.0 n.1 in
        let never : None ≡ Some n.0.ino = sym none ∙ is in
        cc

    shown_alike : (text : List (List ℕ)) (o : Option ℕ) → named t text ≡ o → shown t text ≡ shown u text
    shown_alike text None none = ap (option_and_then (λ i. option_map bare (node t i))) none ∙ sym (ap (option_and_then (λ i. option_map bare (node u i))) (none_named text none (named u text) refl))
    shown_alike text (Some i) some = sym (mirrors.shows (record { path = text; ino = i }) (every_name t kept text i some))

    there : (a b : List (List ℕ)) → NameOneFile t a b → NameOneFile u a b
    there a b (i, is_a, is_b, file) =
        let among_a = every_name t kept a i is_a in
        let among_b = every_name t kept b i is_b in
        let at = file_alike t u kept (all_names t) mirrors (record { path = a; ino = i }) among_a in
        (at.0, at.1, sym (mirrors.one (record { path = a; ino = i }) (record { path = b; ino = i }) among_a among_b file refl) ∙ at.1, at.2 ∙ file)

    back : (a b : List (List ℕ)) → NameOneFile u a b → NameOneFile t a b
    back a b (j, is_a, is_b, file) =
        let n = mirrors.only a j is_a in
        let m = mirrors.only b j is_b in
        let at_n = file_alike t u kept (all_names t) mirrors n.0 n.1 in
        let at_m = file_alike t u kept (all_names t) mirrors m.0 m.1 in
        let j_n : at_n.0 ≡ j = same_number at_n.0 j (sym at_n.1 ∙ ap (named u) n.2 ∙ is_a) in
        let j_m : at_m.0 ≡ j = same_number at_m.0 j (sym at_m.1 ∙ ap (named u) m.2 ∙ is_b) in
        let file_n : body_is is_file t n.0.ino ≡ true = sym at_n.2 ∙ ap (body_is is_file u) j_n ∙ file in
        let file_m : body_is is_file t m.0.ino ≡ true = sym at_m.2 ∙ ap (body_is is_file u) j_m ∙ file in
        let together : named u n.0.path ≡ named u m.0.path = ap (named u) n.2 ∙ is_a ∙ sym is_b ∙ ap (named u) (sym m.2) in
        let same : n.0.ino ≡ m.0.ino = mirrors.apart n.0 m.0 n.1 m.1 file_n file_m together in
        (n.0.ino, ap (named t) (sym n.2) ∙ mirrors.are_named n.0 n.1, ap (named t) (sym m.2) ∙ mirrors.are_named m.0 m.1 ∙ ap Some (sym same), file_n)

-- ---- the whole

user_read_first : User → SoFar
user_read_first user = record { tree = None; user = Some user; has_proc = false; has_elf = false }

read_begun : (t : Tree) → (kept : IsKept t) → (user : User) (can : CanBeListed t user) (x : Node) (es : List Entry) (standing : Option Standing) → node t root ≡ Some x → x.body ≡ Directory es standing
    → HasRead t user (root_name ∷ []) (names_inside (map.len t.inodes) t root_name) (with_tree (new_tree x.mode x.uid x.gid) (user_read_first user))
unfolding user_read_first
read_begun t kept user can x es standing at is =
    let inside : List Named = names_inside (map.len t.inodes) t root_name in
    let y : Inode = fresh x.mode x.uid x.gid (Directory [] (Some (record { inode = root; serial = 0 }))) in
    let all : all_names t ≡ root_name ∷ inside = under_parts (map.len t.inodes) t root_name in
    let one : map.len (map.insert map.empty root y) ≡ 1 = len_more map.empty root y (map.get-empty nat_cmp root) ∙ ap (λ k. k + 1) (map.len-empty nat_cmp Inode) in
    let inodes : inodes_read t ≡ 1 + weight_after (λ b. 1) t (root_name ∷ []) inside = ap (weight_after (λ b. 1) t []) all ∙ weighed (λ b. 1) t [] root_name inside x at ∙ ap (λ b. body_weight 1 None b + weight_after (λ c. 1) t (root_name ∷ []) inside) is in
    let bytes : bytes_read t ≡ 0 + weight_after (λ b. length (bytes_of b)) t (root_name ∷ []) inside = ap (weight_after (λ b. length (bytes_of b)) t []) all ∙ weighed (λ b. length (bytes_of b)) t [] root_name inside x at ∙ ap (λ b. body_weight (length (bytes_of b)) None b + weight_after (λ c. length (bytes_of c)) t (root_name ∷ []) inside) is in
    let few = can.inodes in
    let small = can.bytes in
    let count = ap length all in
    let names = all_names_counted t kept in
    let limit = kept.sound.names_limited in
    record {
      u = new_tree x.mode x.uid x.gid;
      tree_is = refl;
      user_is = refl;
      process = λ never. absurd (differ never);
      mirrors = mirrors_root t x es standing at is;
      inodes_left = omega (arith, one, inodes, few);
      names_left = omega (arith, count, names, limit);
      bytes_left = omega (arith, bytes, small);
    }
  where
    differ : false ≡ true → ⊥
    differ e = cc

listing_begun : (t : Tree) → (kept : IsKept t) → (user : User) (can : CanBeListed t user) (elf : List ℕ) (x : Node) (es : List Entry) (standing : Option Standing) → node t root ≡ Some x → x.body ≡ Directory es standing
    → listing_of elf (canonical t user) ≡ read_from elf (counted (counted 1)) (pieces_of (lines_after t (root_name ∷ []) (names_inside (map.len t.inodes) t root_name))) (with_tree (new_tree x.mode x.uid x.gid) (user_read_first user))
unfolding lines_after user_read_first
listing_begun t kept user can elf x es standing at is =
    let inside : List Named = names_inside (map.len t.inodes) t root_name in
    let left : List ℕ = lines_after t (root_name ∷ []) inside in
    let of_user : List (List ℕ) = decimal user.uid ∷ decimal user.gid ∷ [] in
    let of_root : List (List ℕ) = octal x.mode ∷ decimal x.uid ∷ decimal x.gid ∷ path_field [] ∷ [] in
    let owner = is_written t kept user can root_name x refl at in
    let path = is_path t kept user can root_name x refl at in
    let user_plain : HasNoNewline (joined (codes "user") of_user) = joined_plain (codes "user") of_user ((omega arith, omega arith), ((omega arith, omega arith), ((omega arith, omega arith), ((omega arith, omega arith), tt)))) (decimal_graphic user.uid can.user_number, (decimal_graphic user.gid can.group_number, tt)) in
    let root_plain : HasNoNewline (joined (codes "d") of_root) = joined_plain (codes "d") of_root (one_letter 100 (omega arith) (omega arith)) (octal_graphic x.mode owner.mode, (decimal_graphic x.uid owner.uid, (decimal_graphic x.gid owner.gid, (path_graphic [] path.bytes, tt)))) in
    let root_line : line_at t root_name None ≡ joined (codes "d") of_root ++ 10 ∷ [] = written_line t [] root_name x at ∙ ap (body_line [] (owner_of x) None) is ∙ line_ends (codes "d") of_root in
    let lines : lines_after t [] (all_names t) ≡ joined (codes "d") of_root ++ 10 ∷ left = ap (lines_after t []) (under_parts (map.len t.inodes) t root_name) ∙ ap (λ l. l ++ left) root_line ∙ append_assoc (joined (codes "d") of_root) (10 ∷ []) left in
    let bytes : canonical t user ≡ joined (codes "user") of_user ++ 10 ∷ (joined (codes "d") of_root ++ 10 ∷ left) = ap (λ l. l ++ lines_after t [] (all_names t)) (line_ends (codes "user") of_user) ∙ append_assoc (joined (codes "user") of_user) (10 ∷ []) (lines_after t [] (all_names t)) ∙ ap (λ l. joined (codes "user") of_user ++ 10 ∷ l) lines in
    ap (listing_of elf) bytes
    ∙ line_passed elf 1 (joined (codes "user") of_user) (joined (codes "d") of_root ++ 10 ∷ left) nothing_read (user_read_first user) user_plain (ap (λ r. r >>= (λ l. line_read elf l nothing_read)) (user_back user can.no_root_user can.user_number can.group_number))
    ∙ line_passed elf (counted 1) (joined (codes "d") of_root) left (user_read_first user) (with_tree (new_tree x.mode x.uid x.gid) (user_read_first user)) root_plain (ap (λ r. r >>= (λ l. line_read elf l (user_read_first user))) (dir_back [] (owner_of x) path owner))

pub listings_read : ListingsAreReadBack
listings_read t user elf kept can =
    let x = node_there t kept root_name refl in
    go x.0 x.1 x.0.body refl (sym (body_of_node is_listed t root x.0 x.1) ∙ kept.sound.root_listed)
  where
    go : (x : Node) → node t root ≡ Some x → (b : Body) → x.body ≡ b → is_listed x.body ≡ true → (u : Tree) × (listing_of elf (canonical t user) ≡ Ok (u, user)) × IsSame t u
    go x at (Directory es standing) is listed =
        let all = names_read t kept user can elf (names_inside (map.len t.inodes) t root_name) (root_name ∷ []) (with_tree (new_tree x.mode x.uid x.gid) (user_read_first user)) (counted (counted 1)) (all_in_order t kept (map.len t.inodes)) (read_begun t kept user can x es standing at is) in
        (all.tree, listing_begun t kept user can elf x es standing at is ∙ all.is, same_trees t all.tree kept (subst (λ names. Mirrors t names all.tree) (sym (under_parts (map.len t.inodes) t root_name)) all.mirrors))
    go x at (RegularFile bytes) is listed = let never = sym (ap is_listed is) ∙ listed in cc
    go x at (SymbolicLink text) is listed = let never = sym (ap is_listed is) ∙ listed in cc
    go x at (ProcessDirectory standing) is listed = let never = sym (ap is_listed is) ∙ listed in cc
