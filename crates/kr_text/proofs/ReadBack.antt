-- The lines of a canonical listing read one after the other.
use Rattle.std.proofs.Common.{◌≡◌, ℕ, ◌+◌, ◌<◌, ◌≤◌, Bool, true, false, List, [], ◌∷◌, ◌++◌, length, Option, Some, None, Result, Ok, refl, sym, ap, subst, ◌∙◌, arith}
use Rattle.std.specs.Prelude.{codes, ok_or}
use Rattle.std.specs.FinMap as map
use Rattle.std.specs.Fmt.{decimal}
use Rattle.std.specs.Option.{option_map, option_map_or, option_and_then}
use Rattle.std.proofs.lemmas.Bool.{false_from_ne_true, ltb-true}
use Rattle.kr_tree.specs.kr_inode.declared.user.User.{User}
use Rattle.kr_tree.specs.kr_inode.declared.standing.Standing.{Standing}
use Rattle.kr_tree.specs.Tree.{Tree, Inode, Node, Entry, Body, Directory, RegularFile, SymbolicLink, ProcessDirectory, inode, node, entry, body, body_is, is_file, bytes_of}
use Rattle.kr_tree.specs.Names.{named}
use Rattle.kr_tree.specs.Lawful.{IsKept, AreBytes, IsOfBytes}
use Rattle.kr_tree.specs.Changes.{count_limit, byte_limit, file_limit, is_too_big}
use Rattle.kr_text.specs.declared.fault.TreeWhy.{TreeWhy}
use Rattle.kr_text.specs.declared.fault.TreeWhy.TheVariants.{NoParent}
use Rattle.kr_text.specs.declared.line.Owner.{Owner}
use Rattle.kr_text.specs.declared.names.Named.{Named}
use Rattle.kr_text.specs.declared.so_far.SoFar.{SoFar}
use Rattle.kr_text.specs.Fields.{◌>>=◌}
use Rattle.kr_text.specs.Canonical.{first_name, owner_of, line_at, body_line, octal, path_field, bytes_field, escaped}
use Rattle.kr_text.specs.Reading.{with_tree, with_proc, node_put, node_read, dir_read, name_put, name_read, proc_put, proc_read, proc_owner, line_read, line_added}
use Rattle.kr_text.specs.Same.{bare, bare_body, shown, AreTextBytes, CanBeListed, CanBeWritten, is_process_directory, body_weight, weight_after}
use Rattle.kr_text.proofs.KeptBytes.{node_of_bytes, text_bytes, path_bytes, names_of_bytes}
use Rattle.kr_text.proofs.NamesLemmas.{IsNamed}
use Rattle.kr_text.proofs.OrderedNames.{IsAmong, IsNext, among-front, among-end}
use Rattle.kr_text.proofs.DepthLemmas.{named_above}
use Rattle.kr_text.proofs.Mirrors.{Mirrors, shows_node, first_found}
use Rattle.kr_text.proofs.ReadNodes.{NewTree, node_read_back, name_read_again, entry_is_name, body_of_node}
use Rattle.kr_text.proofs.WrittenFields.{decimal_graphic, octal_graphic, bytes_graphic, escapes_graphic}
use Rattle.kr_text.proofs.WrittenPaths.{AreNames, path_graphic}
use Rattle.kr_text.proofs.WrittenLines.{one_letter, joined, line_ends, joined_plain, HasNoNewline, IsWritten, IsPath, dir_back, file_back, link_back, name_back, proc_back}

-- what was read of the first names of a tree, and that the limits leave room for the others
pub record HasRead (t : Tree) (user : User) (earlier rest : List Named) (s : SoFar) : Type 0 where
  pub u : Tree
  pub tree_is : s.tree ≡ Some u
  pub user_is : s.user ≡ Some user
  pub process : s.has_proc ≡ true → (m : Named) × IsAmong m earlier × ((y : Node) × (node t m.ino ≡ Some y) × (is_process_directory y.body ≡ true))
  pub mirrors : Mirrors t earlier u
  pub inodes_left : map.len u.inodes + weight_after (λ b. 1) t earlier rest ≤ count_limit
  pub names_left : u.names + length rest ≤ count_limit
  pub bytes_left : u.bytes + weight_after (λ b. length (bytes_of b)) t earlier rest ≤ byte_limit

-- a line that is read
pub record Step (t : Tree) (user : User) (earlier : List Named) (n : Named) (rest : List Named) (elf : List ℕ) (s : SoFar) : Type 0 where
  pub text : List ℕ
  pub line_is : line_at t n (first_name n.ino earlier) ≡ text ++ 10 ∷ []
  pub plain : HasNoNewline text
  pub after : SoFar
  pub adds : line_added elf text s ≡ Ok after
  pub reads : HasRead t user (earlier ++ n ∷ []) rest after

-- ---- names of a path

pub path_names : (t : Tree) → IsKept t → (text : List (List ℕ)) (i : ℕ) → named t text ≡ Some i → AreNames text
path_names t kept [] i is = tt
path_names t kept (name ∷ text) i is = let at = named_above t name text i is in (entry_is_name t kept at.0 name i at.2, path_names t kept text at.0 at.1)

pub next_named : (t : Tree) (earlier : List Named) (n : Named) → IsNext t earlier n → IsNamed t n
next_named t earlier n next = ap (named t) next.path ∙ ap (option_and_then (λ d. entry t d next.name)) next.named ∙ next.entry_is

module _ (t : Tree) (kept : IsKept t) (user : User) (can : CanBeListed t user) where
  pub is_path : (n : Named) (x : Node) → IsNamed t n → node t n.ino ≡ Some x → IsPath n.path
  is_path n x is at = let shows = shows_node t n x is at in let names = path_names t kept n.path n.ino is in record { names = names; bytes = path_bytes n.path names (names_of_bytes t kept n.path n.ino is); short = can.paths n.path (bare x) shows }

  pub is_written : (n : Named) (x : Node) → IsNamed t n → node t n.ino ≡ Some x → IsWritten (owner_of x)
  is_written n x is at = let shows = shows_node t n x is at in record { mode = can.modes n.path (bare x) shows; uid = (can.owners n.path (bare x) shows).0; gid = (can.owners n.path (bare x) shows).1 }

pub weighed : (w : Body → ℕ) (t : Tree) (earlier : List Named) (n : Named) (rest : List Named) (x : Node) → node t n.ino ≡ Some x → weight_after w t earlier (n ∷ rest) ≡ body_weight (w x.body) (first_name n.ino earlier) x.body + weight_after w t (earlier ++ n ∷ []) rest
unfolding weight_after
weighed w t earlier n rest x at = ap (λ o. option_map_or (λ z. body_weight (w z.body) (first_name n.ino earlier) z.body) o 0 + weight_after w t (earlier ++ n ∷ []) rest) at

pub written_line : (t : Tree) (earlier : List Named) (n : Named) (x : Node) → node t n.ino ≡ Some x → line_at t n (first_name n.ino earlier) ≡ body_line n.path (owner_of x) (first_name n.ino earlier) x.body
written_line t earlier n x at = ap (λ o. option_map_or (λ z. body_line n.path (owner_of z) (first_name n.ino earlier) z.body) o []) at

-- ---- what each line adds

node_added : (s : SoFar) (u v : Tree) (owner : Owner) (path : List (List ℕ)) (b : Body) → s.tree ≡ Some u → node_put owner path b u ≡ Ok v → node_read owner path b s ≡ Ok (with_tree v s)
node_added s u v owner path b tree_is is =
    ap (λ o. ok_or o NoParent >>= (λ w. node_put owner path b w >>= (λ z. Ok (with_tree z s)))) tree_is ∙ ap (λ r. r >>= (λ z. Ok (with_tree z s))) is

name_added : (s : SoFar) (u v : Tree) (path first : List (List ℕ)) → s.tree ≡ Some u → name_put path first u ≡ Ok v → name_read path first s ≡ Ok (with_tree v s)
name_added s u v path first tree_is is =
    ap (λ o. ok_or o NoParent >>= (λ w. name_put path first w >>= (λ z. Ok (with_tree z s)))) tree_is ∙ ap (λ r. r >>= (λ z. Ok (with_tree z s))) is

proc_added : (s : SoFar) (u v : Tree) (path : List (List ℕ)) → s.tree ≡ Some u → s.has_proc ≡ false → node_put proc_owner path (ProcessDirectory None) u ≡ Ok v → proc_read path s ≡ Ok (with_proc v s)
proc_added s u v path tree_is none is =
    ap (λ o. ok_or o NoParent >>= (λ w. proc_put path s.has_proc w >>= (λ z. Ok (with_proc z s)))) tree_is
    ∙ ap (λ h. proc_put path h u >>= (λ z. Ok (with_proc z s))) none ∙ ap (λ r. r >>= (λ z. Ok (with_proc z s))) is

below_root_read : (owner : Owner) (path text : List (List ℕ)) (name : List ℕ) (s : SoFar) → path ≡ name ∷ text → dir_read owner path s ≡ node_read owner path (Directory [] None) s
below_root_read owner path text name s e = rw e refl

-- the state after a name was read
after_new : (t : Tree) (user : User) (earlier : List Named) (n : Named) (rest : List Named) (s : SoFar) (reads : HasRead t user earlier (n ∷ rest) s) (x : Node) → node t n.ino ≡ Some x → (given : Result Tree TreeWhy) (inodes bytes : ℕ)
    → body_weight 1 (first_name n.ino earlier) x.body ≡ inodes → body_weight (length (bytes_of x.body)) (first_name n.ino earlier) x.body ≡ bytes
    → (grown : NewTree t earlier n reads.u given inodes bytes) → HasRead t user (earlier ++ n ∷ []) rest (with_tree grown.tree s)
after_new t user earlier n rest s reads x at given inodes bytes inodes_is bytes_is grown = record {
  u = grown.tree;
  tree_is = refl;
  user_is = reads.user_is;
  process = λ is. let m = reads.process is in (m.0, among-front m.0 earlier (n ∷ []) m.1, m.2);
  mirrors = grown.mirrors;
  inodes_left = let before = reads.inodes_left in let weight = weighed (λ b. 1) t earlier n rest x at in let more = grown.inodes_more in omega (arith, before, weight, more, inodes_is);
  names_left = let before = reads.names_left in let more = grown.names_more in omega (arith, before, more);
  bytes_left = let before = reads.bytes_left in let weight = weighed (λ b. length (bytes_of b)) t earlier n rest x at in let more = grown.bytes_more in omega (arith, before, weight, more, bytes_is);
}

-- ---- one name read, by its kind

not_file : {A : Type 0} (t : Tree) (i : ℕ) (x : Node) → node t i ≡ Some x → is_file x.body ≡ false → body_is is_file t i ≡ true → A
not_file t i x at isnt is = let never : true ≡ false = sym is ∙ body_of_node is_file t i x at ∙ isnt in absurd (differ never)
  where
    differ : true ≡ false → ⊥
    differ e = cc

body_at : (t : Tree) (i : ℕ) (x : Node) (b : Body) → node t i ≡ Some x → x.body ≡ b → body t i ≡ Some b
body_at t i x b at is = go (inode t i) at
  where
    go : (o : Option Inode) → option_map (λ z. z.node) o ≡ Some x → option_map (λ z. z.node.body) o ≡ Some b
    go None e = cc
    go (Some z) e = let same : z.node ≡ x = cc in ap (λ k. Some k.body) same ∙ ap Some is

module _ (t : Tree) (kept : IsKept t) (user : User) (can : CanBeListed t user) (elf : List ℕ) (earlier : List Named) (n : Named) (rest : List Named) (s : SoFar) (next : IsNext t earlier n) (reads : HasRead t user earlier (n ∷ rest) s) (x : Node) (at : node t n.ino ≡ Some x) where
  named_n : IsNamed t n
  named_n = next_named t earlier n next

  shows_n : shown t n.path ≡ Some (bare x)
  shows_n = shows_node t n x named_n at

  path_n : IsPath n.path
  path_n = is_path t kept user can n x named_n at

  owner_n : IsWritten (owner_of x)
  owner_n = is_written t kept user can n x named_n at

  body_can : (b : Body) → bare_body x.body ≡ b → CanBeWritten (bare x) b
  body_can b is = subst (CanBeWritten (bare x)) is (can.bodies n.path (bare x) shows_n)

  names_room : reads.u.names < count_limit
  names_room = let l = reads.names_left in omega (arith, l)

  inodes_room : body_weight 1 (first_name n.ino earlier) x.body ≡ 1 → map.len reads.u.inodes < count_limit
  inodes_room one = let l = reads.inodes_left in let weight = weighed (λ b. 1) t earlier n rest x at in omega (arith, l, weight, one)

  bytes_room : (size : ℕ) → body_weight (length (bytes_of x.body)) (first_name n.ino earlier) x.body ≡ size → reads.u.bytes + size ≤ byte_limit
  bytes_room size is = let l = reads.bytes_left in let weight = weighed (λ b. length (bytes_of b)) t earlier n rest x at in omega (arith, l, weight, is)

  weight_is : (w : ℕ) (b : Body) → x.body ≡ b → body_weight w (first_name n.ino earlier) x.body ≡ body_weight w (first_name n.ino earlier) b
  weight_is w b is = ap (body_weight w (first_name n.ino earlier)) is

  step_directory : (es : List Entry) (standing : Option Standing) → x.body ≡ Directory es standing → Step t user earlier n rest elf s
  step_directory es standing is =
      let fields : List (List ℕ) = octal x.mode ∷ decimal x.uid ∷ decimal x.gid ∷ path_field n.path ∷ [] in
      let size_is : length (bytes_of x.body) ≡ 0 = ap (λ b. length (bytes_of b)) is in
      let weight_bytes : body_weight (length (bytes_of x.body)) (first_name n.ino earlier) x.body ≡ 0 = weight_is (length (bytes_of x.body)) (Directory es standing) is ∙ size_is in
      let grown = node_read_back t kept earlier reads.u reads.mirrors n next x at (Directory [] None) (sym (ap bare_body is)) refl refl (not_file t n.ino x at (ap is_file is)) (inodes_room (weight_is 1 (Directory es standing) is)) names_room (bytes_room 0 weight_bytes) in
      record {
        text = joined (codes "d") fields;
        line_is = written_line t earlier n x at ∙ ap (body_line n.path (owner_of x) (first_name n.ino earlier)) is ∙ line_ends (codes "d") fields;
        plain = joined_plain (codes "d") fields (one_letter 100 (omega arith) (omega arith)) (octal_graphic x.mode owner_n.mode, (decimal_graphic x.uid owner_n.uid, (decimal_graphic x.gid owner_n.gid, (path_graphic n.path path_n.bytes, tt))));
        after = with_tree grown.tree s;
        adds = ap (λ r. r >>= (λ l. line_read elf l s)) (dir_back n.path (owner_of x) path_n owner_n) ∙ below_root_read (owner_of x) n.path next.directory.path next.name s next.path ∙ node_added s reads.u grown.tree (owner_of x) n.path (Directory [] None) reads.tree_is grown.is;
        reads = after_new t user earlier n rest s reads x at (node_put (owner_of x) n.path (Directory [] None) reads.u) 1 0 (weight_is 1 (Directory es standing) is) weight_bytes grown;
      }

  step_link : (target : List ℕ) → x.body ≡ SymbolicLink target → Step t user earlier n rest elf s
  step_link target is =
      let fields : List (List ℕ) = decimal x.uid ∷ decimal x.gid ∷ path_field n.path ∷ escaped target ∷ [] in
      let link_can = body_can (SymbolicLink target) (ap bare_body is) in
      let are : AreTextBytes target = text_bytes target link_can.3 (subst IsOfBytes is (node_of_bytes t kept n.ino x at)) in
      let size_is : length (bytes_of x.body) ≡ length target = ap (λ b. length (bytes_of b)) is in
      let weight_bytes : body_weight (length (bytes_of x.body)) (first_name n.ino earlier) x.body ≡ length target = weight_is (length (bytes_of x.body)) (SymbolicLink target) is ∙ size_is in
      let grown = node_read_back t kept earlier reads.u reads.mirrors n next x at (SymbolicLink target) (sym (ap bare_body is)) refl refl (not_file t n.ino x at (ap is_file is)) (inodes_room (weight_is 1 (SymbolicLink target) is)) names_room (bytes_room (length target) weight_bytes) in
      record {
        text = joined (codes "l") fields;
        line_is = written_line t earlier n x at ∙ ap (body_line n.path (owner_of x) (first_name n.ino earlier)) is ∙ line_ends (codes "l") fields;
        plain = joined_plain (codes "l") fields (one_letter 108 (omega arith) (omega arith)) (decimal_graphic x.uid owner_n.uid, (decimal_graphic x.gid owner_n.gid, (path_graphic n.path path_n.bytes, (escapes_graphic target are, tt))));
        after = with_tree grown.tree s;
        adds = ap (λ r. r >>= (λ l. line_read elf l s)) (link_back n.path (owner_of x) target path_n owner_n link_can.0 are link_can.1 link_can.2) ∙ node_added s reads.u grown.tree (owner_of x) n.path (SymbolicLink target) reads.tree_is grown.is;
        reads = after_new t user earlier n rest s reads x at (node_put (owner_of x) n.path (SymbolicLink target) reads.u) 1 (length target) (weight_is 1 (SymbolicLink target) is) weight_bytes grown;
      }

  step_first : (bytes : List ℕ) → x.body ≡ RegularFile bytes → first_name n.ino earlier ≡ None → Step t user earlier n rest elf s
  step_first bytes is none =
      let fields : List (List ℕ) = octal x.mode ∷ decimal x.uid ∷ decimal x.gid ∷ path_field n.path ∷ bytes_field bytes ∷ [] in
      let are : AreBytes bytes = subst IsOfBytes is (node_of_bytes t kept n.ino x at) in
      let limited = kept.sound.files_limited n.ino bytes (body_at t n.ino x (RegularFile bytes) at is) in
      let small : is_too_big (RegularFile bytes) ≡ false = false_from_ne_true _ (λ b. let l = ltb-true file_limit (length bytes) b in omega (arith, l, limited)) in
      let size_is : length (bytes_of x.body) ≡ length bytes = ap (λ b. length (bytes_of b)) is in
      let weight_of : (w : ℕ) → body_weight w (first_name n.ino earlier) x.body ≡ w = (λ w. weight_is w (RegularFile bytes) is ∙ ap (λ f. body_weight w f (RegularFile bytes)) none) in
      let weight_bytes : body_weight (length (bytes_of x.body)) (first_name n.ino earlier) x.body ≡ length bytes = weight_of (length (bytes_of x.body)) ∙ size_is in
      let grown = node_read_back t kept earlier reads.u reads.mirrors n next x at (RegularFile bytes) (sym (ap bare_body is)) refl small (λ _. none) (inodes_room (weight_of 1)) names_room (bytes_room (length bytes) weight_bytes) in
      record {
        text = joined (codes "f") fields;
        line_is = written_line t earlier n x at ∙ ap (body_line n.path (owner_of x) (first_name n.ino earlier)) is ∙ ap (λ f. body_line n.path (owner_of x) f (RegularFile bytes)) none ∙ line_ends (codes "f") fields;
        plain = joined_plain (codes "f") fields (one_letter 102 (omega arith) (omega arith)) (octal_graphic x.mode owner_n.mode, (decimal_graphic x.uid owner_n.uid, (decimal_graphic x.gid owner_n.gid, (path_graphic n.path path_n.bytes, (bytes_graphic bytes are, tt)))));
        after = with_tree grown.tree s;
        adds = ap (λ r. r >>= (λ l. line_read elf l s)) (file_back n.path (owner_of x) bytes path_n owner_n are) ∙ node_added s reads.u grown.tree (owner_of x) n.path (RegularFile bytes) reads.tree_is grown.is;
        reads = after_new t user earlier n rest s reads x at (node_put (owner_of x) n.path (RegularFile bytes) reads.u) 1 (length bytes) (weight_of 1) weight_bytes grown;
      }

  step_again : (bytes : List ℕ) (first : List (List ℕ)) → x.body ≡ RegularFile bytes → first_name n.ino earlier ≡ Some first → Step t user earlier n rest elf s
  step_again bytes first is some =
      let fields : List (List ℕ) = path_field n.path ∷ path_field first ∷ [] in
      let m = first_found n.ino earlier first some in
      let path_m : IsPath first = subst IsPath m.2 (is_path t kept user can m.0 x (reads.mirrors.are_named m.0 m.1) (ap (node t) m.3 ∙ at)) in
      let weight_of : (w : ℕ) → body_weight w (first_name n.ino earlier) x.body ≡ 0 = (λ w. weight_is w (RegularFile bytes) is ∙ ap (λ f. body_weight w f (RegularFile bytes)) some) in
      let grown = name_read_again t kept earlier reads.u reads.mirrors n next x at (ap is_file is) first some names_room in
      record {
        text = joined (codes "h") fields;
        line_is = written_line t earlier n x at ∙ ap (body_line n.path (owner_of x) (first_name n.ino earlier)) is ∙ ap (λ f. body_line n.path (owner_of x) f (RegularFile bytes)) some ∙ line_ends (codes "h") fields;
        plain = joined_plain (codes "h") fields (one_letter 104 (omega arith) (omega arith)) (path_graphic n.path path_n.bytes, (path_graphic first path_m.bytes, tt));
        after = with_tree grown.tree s;
        adds = ap (λ r. r >>= (λ l. line_read elf l s)) (name_back n.path first path_n path_m) ∙ name_added s reads.u grown.tree n.path first reads.tree_is grown.is;
        reads = after_new t user earlier n rest s reads x at (name_put n.path first reads.u) 0 0 (weight_of 1) (weight_of (length (bytes_of x.body))) grown;
      }

  step_process : (standing : Option Standing) → x.body ≡ ProcessDirectory standing → Step t user earlier n rest elf s
  unfolding after_new
  step_process standing is =
      let fields : List (List ℕ) = path_field n.path ∷ [] in
      let proc_can = body_can (ProcessDirectory None) (ap bare_body is) in
      let owner_is : owner_of x ≡ proc_owner = (λ i. record { mode = proc_can.0 i; uid = proc_can.1 i; gid = proc_can.2 i }) in
      let size_is : length (bytes_of x.body) ≡ 0 = ap (λ b. length (bytes_of b)) is in
      let weight_bytes : body_weight (length (bytes_of x.body)) (first_name n.ino earlier) x.body ≡ 0 = weight_is (length (bytes_of x.body)) (ProcessDirectory standing) is ∙ size_is in
      let grown = node_read_back t kept earlier reads.u reads.mirrors n next x at (ProcessDirectory None) (sym (ap bare_body is)) refl refl (not_file t n.ino x at (ap is_file is)) (inodes_room (weight_is 1 (ProcessDirectory standing) is)) names_room (bytes_room 0 weight_bytes) in
      let more = after_new t user earlier n rest s reads x at (node_put (owner_of x) n.path (ProcessDirectory None) reads.u) 1 0 (weight_is 1 (ProcessDirectory standing) is) weight_bytes grown in
      record {
        text = joined (codes "p") fields;
        line_is = written_line t earlier n x at ∙ ap (body_line n.path (owner_of x) (first_name n.ino earlier)) is ∙ line_ends (codes "p") fields;
        plain = joined_plain (codes "p") fields (one_letter 112 (omega arith) (omega arith)) (path_graphic n.path path_n.bytes, tt);
        after = with_proc grown.tree s;
        adds = ap (λ r. r >>= (λ l. line_read elf l s)) (proc_back n.path path_n) ∙ proc_added s reads.u grown.tree n.path reads.tree_is (none_before is s.has_proc refl) (ap (λ o. node_put o n.path (ProcessDirectory None) reads.u) (sym owner_is) ∙ grown.is);
        reads = record {
          u = grown.tree;
          tree_is = refl;
          user_is = reads.user_is;
          process = λ _. (n, among-end n earlier, (x, at, ap is_process_directory is));
          mirrors = more.mirrors;
          inodes_left = more.inodes_left;
          names_left = more.names_left;
          bytes_left = more.bytes_left;
        };
      }
    where
      bare_process : (b : Body) → is_process_directory (bare_body b) ≡ is_process_directory b
      bare_process (Directory es st) = refl
      bare_process (RegularFile bytes) = refl
      bare_process (SymbolicLink target) = refl
      bare_process (ProcessDirectory st) = refl

      none_before : x.body ≡ ProcessDirectory standing → (has : Bool) → s.has_proc ≡ has → s.has_proc ≡ false
      none_before is_body false e = e
      none_before is_body true e =
          let m = reads.process e in
          let y : Node = m.2.0 in
          let same : m.0.path ≡ n.path = can.one_process_directory m.0.path n.path (bare y) (bare x) (shows_node t m.0 y (reads.mirrors.are_named m.0 m.1) m.2.1) shows_n (bare_process y.body ∙ m.2.2) (bare_process x.body ∙ ap is_process_directory is_body) in
          absurd (next.fresh m.0 m.1 same)

  pub step : Step t user earlier n rest elf s
  step = go x.body refl
    where
      by_first : (bytes : List ℕ) → x.body ≡ RegularFile bytes → (o : Option (List (List ℕ))) → first_name n.ino earlier ≡ o → Step t user earlier n rest elf s
      by_first bytes is None none = step_first bytes is none
      by_first bytes is (Some first) some = step_again bytes first is some

      go : (b : Body) → x.body ≡ b → Step t user earlier n rest elf s
      go (Directory es standing) is = step_directory es standing is
      go (RegularFile bytes) is = by_first bytes is (first_name n.ino earlier) refl
      go (SymbolicLink target) is = step_link target is
      go (ProcessDirectory standing) is = step_process standing is
