-- A tree with a root alone.
use Rattle.std.specs.FinMap as map
use Rattle.std.proofs.Common.{◌≡◌, ◌≢◌, inl, inr, subst, ℕ, ◌+◌, true, false, List, [], length, refl, sym, ap, ◌∙◌, arith, cond, Option, Some, None, is_some, lit≤}
use Rattle.std.specs.Option.{option_map, option_map_or, option_and_then}
use Rattle.std.specs.Ordering.{nat_cmp}
use Rattle.std.specs.Cmp.{nat_cmp_total}
use Rattle.std.proofs.lemmas.Bool.{cases_eq}
use Rattle.kr_inode.specs.declared.standing.Standing.{Standing}
use Rattle.kr_tree.specs.Tree.{Tree, Inode, Entry, Directory, RegularFile, root, inode, entries, entries_of, standing_of, is_directory, is_listed, body, bytes_of}
use Rattle.kr_inode.specs.Entries.{IsListed}
use Rattle.kr_tree.specs.Changes.{fresh, new_tree, is_unused}
use Rattle.kr_tree.specs.Lawful.{IsSound, IsCounted, HasNoUnused, RisesToEnd, AtRoot, IsIn, entries_beside, count_in, directories_in, names_of, total}
use Rattle.kr_inode.proofs.pr_base.MapLemmas.{get-insert_same, get-insert_other, by_key}
use Rattle.kr_inode.proofs.EntryLemmas.{listed-none}
use Rattle.kr_tree.proofs.CountLemmas.{value, sum-zero, counted-other}

root_standing : Option Standing
root_standing = Some (record { inode = root; serial = 0 })

module _ (mode uid gid : ℕ) where
  abbrev x : Inode
  x = fresh mode uid gid (Directory [] (Some (record { inode = root; serial = 0 })))

  abbrev t : Tree
  t = new_tree mode uid gid

  here : inode t root ≡ Some x
  here = get-insert_same map.empty root x

  away : (q : ℕ) → q ≢ root → inode t q ≡ None
  away q h = get-insert_other map.empty root x q h ∙ map.get-empty nat_cmp q

  -- the root is all that is there
  only : (i : ℕ) (y : Inode) → inode t i ≡ Some y → (i ≡ root) × (y ≡ x)
  only i y h =
      elim (cases_eq i root) [
        | inl e ↦ (e, let both : Some y ≡ Some x = sym h ∙ ap (inode t) e ∙ here in cc)
        | inr d ↦ let no : None ≡ Some y = sym (away i d) ∙ h in absurd cc
      ]

  no_entries : (q : ℕ) → entries t q ≡ []
  no_entries = by_key (λ q. entries t q ≡ []) root
      (ap (λ o. option_map_or (λ y. entries_of y.node.body) o []) here)
      (λ q h. ap (λ o. option_map_or (λ y. entries_of y.node.body) o []) (away q h))

  none_in : (q : ℕ) (e : Entry) → IsIn e (entries t q) → ⊥
  none_in q e h = let P : List Entry → Type 0 = λ es. IsIn e es in subst P (no_entries q) h

  nothing : (f : Inode → ℕ) → f x ≡ 0 → total f t ≡ 0
  nothing f zero = sum-zero f t.inodes t.next (by_key (λ q. value f (map.get t.inodes q) ≡ 0) root (ap (value f) here ∙ zero) (λ q h. ap (value f) (away q h)))

  pub sound-new_tree : IsSound t
  sound-new_tree = record {
    rooted = ap (option_and_then (λ y. standing_of y.node.body)) here;
    root_listed = ap (λ o. option_map_or (λ y. is_listed y.node.body) o false) here;
    numbered = λ i y h. let is = (only i y h).0 in (omega arith, omega arith);
    listed = λ i y h. let P : Inode → Type 0 = λ y. IsListed (entries_beside y) in subst P (sym (only i y h).1) listed-none;
    emptied = λ i h. no_entries i;
    alone = λ dir e h is. absurd (none_in dir e h);
    stands = λ dir s d h. let no : None ≡ Some s = sym (ap (option_and_then (λ y. standing_of y.node.body)) (away dir d)) ∙ h in absurd cc;
    rises = λ dir h. elim (cases_eq dir root) [
      | inl e ↦ let P : ℕ → Type 0 = λ d. RisesToEnd t d in subst P (sym e) AtRoot
      | inr d ↦ let no : false ≡ true = sym (ap (λ o. option_map_or (λ y. is_directory y.node.body) o false) (away dir d)) ∙ h in absurd cc
    ];
    inodes_limited = let one : map.len t.inodes ≡ 1 = map.len-insert nat_cmp_total map.empty root x
        ∙ ap (λ o. cond (is_some o) (map.len (map.empty {X = Inode} {R = nat_cmp})) (map.len (map.empty {X = Inode} {R = nat_cmp}) + 1)) (map.get-empty nat_cmp root)
        ∙ ap (λ n. n + 1) (map.len-empty nat_cmp Inode) in omega arith;
    names_limited = lit≤ tt;
    bytes_limited = lit≤ tt;
    files_limited = λ i bytes h. elim (cases_eq i root) [
      | inl e ↦ let no : Some (Directory [] (Some (record { inode = root; serial = 0 }))) ≡ Some (RegularFile bytes) = sym (ap (body t) e ∙ ap (option_map (λ y. y.node.body)) here) ∙ h in absurd cc
      | inr d ↦ let no : None ≡ Some (RegularFile bytes) = sym (ap (option_map (λ y. y.node.body)) (away i d)) ∙ h in absurd cc
    ];
  }

  pub used-new_tree : HasNoUnused t
  used-new_tree = λ i y h. ap is_unused (only i y h).1

  pub counted-new_tree : IsCounted t
  counted-new_tree = record {
    names = by_key (λ q. value (λ y. y.names) (inode t q) ≡ names_of t q) root
        (let is : value (λ y. y.names) (inode t root) ≡ 1 = ap (value (λ y. y.names)) here in
        let none = nothing (λ y. count_in root (entries_of y.node.body)) refl in omega arith)
        (λ q h. let is : value (λ y. y.names) (inode t q) ≡ 0 = ap (value (λ y. y.names)) (away q h) in
        let none = nothing (λ y. count_in q (entries_of y.node.body)) refl in let other = counted-other q root h in omega arith);
    directories = λ q. by_key (λ q. value (λ y. y.directories) (inode t q) ≡ 0) root (ap (value (λ y. y.directories)) here) (λ q h. ap (value (λ y. y.directories)) (away q h)) q
        ∙ sym (ap (directories_in t) (no_entries q));
    all_names = sym (nothing (λ y. length (entries_of y.node.body)) refl);
    all_bytes = sym (nothing (λ y. length (bytes_of y.node.body)) refl);
  }
