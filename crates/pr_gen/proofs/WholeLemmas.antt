-- The listing of a case, read whole.
use Rattle.std.proofs.Common.{◌≡◌, ℕ, ◌+◌, ◌*◌, ◌≤◌, false, true, List, [], ◌∷◌, ◌++◌, length, Some, Ok, refl, sym, ap, subst, ◌∙◌, arith, inl, inr, append_assoc}
use Rattle.std.specs.Prelude.{codes}
use Rattle.std.specs.FinMap as map
use Rattle.std.specs.Option.{option_map, option_map_or}
use Rattle.std.specs.Ordering.{nat_cmp}
use Rattle.std.proofs.lemmas.Bool.{false_from_ne_true, ltb-true}
use Rattle.std.proofs.lemmas.List.{append-nil}
use Rattle.kr_text.specs.kr_tree.Tree.{Tree, Inode, Node, Entry, Directory, RegularFile, entries, entries_of, is_listed, node, root}
use Rattle.kr_text.specs.kr_tree.Names.{named}
use Rattle.kr_text.specs.kr_tree.Lawful.{AreBytes, IsIn}
use Rattle.kr_text.specs.kr_tree.Changes.{file_limit, fresh, is_too_big, new_tree}
use Rattle.kr_text.proofs.kr_tree.NewLemmas.{sound-new_tree, counted-new_tree, used-new_tree}
use Rattle.kr_text.proofs.kr_tree.OfBytesLemmas.{of_bytes-new_tree}
use Rattle.kr_text.proofs.pr_base.MapLemmas.{by_key, get-insert_same, get-insert_other}
use Rattle.kr_text.specs.Canonical.{user_line}
use Rattle.kr_text.specs.Reading.{listing_of, node_put}
use Rattle.kr_text.proofs.DepthLemmas.{entry_in, named_above}
use Rattle.kr_text.proofs.DrawnLemmas.{len_more}
use Rattle.pr_gen.specs.Listing.{below_guest, bound_lines, case_listing, case_user, directory_line, directory_lines, directory_mode, elf_line, target_lines}
use Rattle.pr_gen.proofs.NameLemmas.{good_path, letter_good, other_places, place}
use Rattle.pr_gen.proofs.PutLemmas.{IsPut, OrThis, is_put}
use Rattle.pr_gen.proofs.ReadLemmas.{begins, elf_reads, ends, then_on}
use Rattle.pr_gen.proofs.CaseLemmas.{Before, HasRead, Dirs, IsRead, bound_read, dir_read, directories_read, g_good, later, targets_read}

-- ---- a tree with a root alone

abbrev first_tree : Tree
first_tree = new_tree directory_mode 1000 1000

abbrev root_inode : Inode
root_inode = fresh directory_mode 1000 1000 (Directory [] (Some (record { inode = root; serial = 0 })))

nothing_inside : (dir : ℕ) (e : Entry) → IsIn e (entries first_tree dir) → ⊥
nothing_inside dir =
    by_key (λ q. (e : Entry) → IsIn e (entries first_tree q) → ⊥) root
    (λ e is_in. subst (λ o. IsIn e (option_map_or (λ z. entries_of z.node.body) o [])) (get-insert_same map.empty root root_inode) is_in)
    (λ q other e is_in. subst (λ o. IsIn e (option_map_or (λ z. entries_of z.node.body) o [])) (get-insert_other map.empty root root_inode q other ∙ map.get-empty nat_cmp q) is_in) dir

root_alone : (text : List (List ℕ)) (i : ℕ) → named first_tree text ≡ Some i → text ≡ []
root_alone [] i is = refl
root_alone (name ∷ text) i is =
    let at = named_above first_tree name text i is in
    let e = entry_in first_tree at.0 name i at.2 in
    absurd (nothing_inside at.0 e.0 e.1)

first_read : HasRead (λ text. text ≡ []) 1 first_tree
first_read = record {
  kept = record { sound = sound-new_tree directory_mode 1000 1000; counted = counted-new_tree directory_mode 1000 1000; used = used-new_tree directory_mode 1000 1000; bytes = of_bytes-new_tree directory_mode 1000 1000 };
  only = λ text i is. let none = ap place (root_alone text i is) in let zero_is = other_places.0 in omega (arith, none, zero_is);
  dirs = λ text is. subst (λ tx. (i : ℕ) × (x : Node) × (named first_tree tx ≡ Some i) × (node first_tree i ≡ Some x) × (is_listed x.body ≡ true)) (sym is) at_root;
  inodes = let one = len_more map.empty root root_inode (map.get-empty nat_cmp root) in let none = map.len-empty nat_cmp Inode in omega (arith, one, none);
  names = omega arith;
  bytes = omega arith;
}
  where
    at_root : (i : ℕ) × (x : Node) × (named first_tree [] ≡ Some i) × (node first_tree i ≡ Some x) × (is_listed x.body ≡ true)
    at_root = (root, root_inode.node, refl, ap (λ o. option_map (λ z. z.node) o) (get-insert_same map.empty root root_inode), refl)

-- ---- all lines

abbrev last_size : List ℕ → ℕ
last_size elf = 64 * 4374 + length elf

-- the guest's file, the largest
guest_put : (elf : List ℕ) → AreBytes elf → length elf ≤ file_limit → (Dir : List (List ℕ) → Type 0) → Dir (codes "g" ∷ []) → (u : Tree) → HasRead Dir 4374 u
    → IsPut (OrThis (Before 4374) (below_guest (codes "p"))) Dir 4375 (last_size elf) (node_put (record { mode = directory_mode; uid = 1000; gid = 1000 }) (below_guest (codes "p")) (RegularFile elf) u)
guest_put elf are short Dir in_dir u has =
    let good = letter_good 112 (omega arith) (omega arith) in
    let at = other_places.6 in
    let small : is_too_big (RegularFile elf) ≡ false = false_from_ne_true _ (λ t. let l = ltb-true file_limit (length elf) t in omega (arith, l, short)) in
    is_put has (codes "p") (codes "g" ∷ []) in_dir (λ is. omega (arith, is, at)) good.well good.bytes (omega arith) directory_mode 1000 1000 (RegularFile elf) refl small are (omega (arith, short))

-- the lines between the user's, the root's and the guest's
between : (elf : List ℕ) (n : ℕ) → IsRead elf (((directory_line (codes "g" ∷ []) ++ directory_lines 16 n) ++ bound_lines) ++ target_lines 256) Dirs 4374 first_tree
between elf n =
    let one = dir_read first_read (codes "g") [] refl other_places.1 (omega arith) g_good elf tt (omega arith) in
    let two = directories_read elf n one.tree (later 2 (omega arith) (λ tx is. is) one.has) 16 (omega arith) in
    let bound = bound_read elf two.tree (later 4114 (omega arith) (λ tx is. is) two.has) in
    let targets = targets_read elf Dirs (inr refl) bound.tree bound.has 256 (omega arith) in
    record {
      tree = targets.tree;
      reads =
          then_on elf ((directory_line (codes "g" ∷ []) ++ directory_lines 16 n) ++ bound_lines) (target_lines 256) false false false first_tree bound.tree targets.tree
          (then_on elf (directory_line (codes "g" ∷ []) ++ directory_lines 16 n) bound_lines false false false first_tree two.tree bound.tree
          (then_on elf (directory_line (codes "g" ∷ [])) (directory_lines 16 n) false false false first_tree one.tree two.tree one.reads two.reads) bound.reads) targets.reads;
      has = targets.has;
    }

pub case_read : (elf : List ℕ) → AreBytes elf → length elf ≤ file_limit → (n : ℕ) → (t : Tree) × (listing_of elf (case_listing n) ≡ Ok (t, case_user))
unfolding case_listing
case_read elf are short n =
    let lines = between elf n in
    let p = guest_put elf are short Dirs (inl (inl (inl (inr refl)))) lines.tree lines.has in
    let good = letter_good 112 (omega arith) (omega arith) in
    let last = elf_reads elf (below_guest (codes "p")) lines.tree p.tree (good_path (codes "p") (codes "g" ∷ []) (good, (g_good, tt)) (omega arith)) p.is in
    let all = then_on elf (((directory_line (codes "g" ∷ []) ++ directory_lines 16 n) ++ bound_lines) ++ target_lines 256) (elf_line (below_guest (codes "p"))) false false true first_tree lines.tree p.tree lines.reads last in
    let rest : List ℕ = (((directory_line (codes "g" ∷ []) ++ directory_lines 16 n) ++ bound_lines) ++ target_lines 256) ++ elf_line (below_guest (codes "p")) in
    let start = begins elf (rest ++ []) in
    let on = all start.0 [] in
    (p.tree, ap (listing_of elf) (in_front n) ∙ start.1 ∙ on.1 ∙ ends elf on.0 true p.tree)
  where
    in_front : (k : ℕ) → case_listing k ≡ user_line case_user ++ (directory_line [] ++ (((((directory_line (codes "g" ∷ []) ++ directory_lines 16 k) ++ bound_lines) ++ target_lines 256) ++ elf_line (below_guest (codes "p"))) ++ []))
    in_front k = simp (append_assoc, append-nil)
