-- The new name of an entry that was moved leads to what its old name led to.
use Rattle.std.specs.FinMap as map
use Rattle.std.proofs.Common.{◌≡◌, ◌≢◌, ◌⊎◌, inl, inr, ℕ, Bool, true, false, List, [], ◌∷◌, ◌++◌, Option, Some, None, bytes_eq, nat_eq, refl, sym, ap, ◌∙◌}
use Rattle.std.specs.Bool.{if◌then◌else◌}
use Rattle.std.specs.Option.{option_map, option_map_or, option_or}
use Rattle.std.proofs.lemmas.Bool.{cases_eq, eq-eqb, eqb-true}
use Rattle.std.proofs.lemmas.List.Folds.{find-append}
use Rattle.std.proofs.lemmas.Slice.Eq.{bytes_eq-Decides}
use Rattle.kr_calm.proofs.pr_base.MapLemmas.{get-changed_other, get-changed_same, stays-changed}
use Rattle.law_walks.proofs.kr_inode.BodyLemmas.{entries-with_entries, entries-with_standing, takes-is_listed, takes-with_entries}
use Rattle.law_walks.proofs.kr_inode.EntryLemmas.{named-gone, none-without}
use Rattle.law_walks.specs.kr_tree.Changes.{moved, next_standing, renamed, renamed_onto, unlinked, unnamed, with_body, with_entry, with_inode, with_standing, without_entry, without_name}
use Rattle.law_walks.specs.kr_tree.Lawful.{IsLawfulMove}
use Rattle.law_walks.specs.kr_tree.Tree.{Entry, Inode, Inodes, Tree, body_is, entries, entries_of, entry, entry_named, inode, is_directory, takes_names}
use Rattle.law_walks.proofs.kr_tree.AddLemmas.{none_of, passing}
use Rattle.law_walks.proofs.kr_tree.InodesLemmas.{get-unused_other}
use Rattle.law_walks.proofs.kr_tree.NameLemmas.{some_is}
use Rattle.law_places.proofs.RemoveLemmas.{unfilled}

-- a directory that takes a name which is free in it
pub record IsFreeIn (new : List ℕ) (o : Option Inode) : Type 0 where
  pub dir : Inode
  pub there : o ≡ Some dir
  pub takes : takes_names dir.node.body ≡ true
  pub free : entry_named new (entries_of dir.node.body) ≡ None

module _ (dir : ℕ) (name : List ℕ) (to : ℕ) (new : List ℕ) (i : ℕ) where
  -- so it is without any of its entries
  free_without : (gone : List ℕ) (dirs : Bool) (z : Inode) → takes_names z.node.body ≡ true → entry_named new (entries_of z.node.body) ≡ None → IsFreeIn new (Some (without_entry gone dirs z))
  free_without gone dirs z takes free = record {
    dir = without_entry gone dirs z;
    there = refl;
    takes = takes-with_entries (without_name gone) z.node.body ∙ takes;
    free = ap (entry_named new) (entries-with_entries (without_name gone) z.node.body (takes-is_listed z.node.body takes)) ∙ none-without new gone (entries_of z.node.body) free;
  }

  free_now : (m : Inodes) (dirs : Bool) → IsFreeIn new (map.get m to) → IsFreeIn new (map.get (with_inode dir (without_entry name dirs) m) to)
  free_now m dirs at = by (cases_eq to dir)
    where
      by : (to ≡ dir) ⊎ (to ≢ dir) → IsFreeIn new (map.get (with_inode dir (without_entry name dirs) m) to)
      by (inl same) =
          let here = free_without name dirs at.dir at.takes at.free in
          let is : map.get (with_inode dir (without_entry name dirs) m) to ≡ Some (without_entry name dirs at.dir) =
          ap (map.get (with_inode dir (without_entry name dirs) m)) same ∙ get-changed_same m dir (without_entry name dirs) ∙ ap (option_map (without_entry name dirs)) (ap (map.get m) (sym same) ∙ at.there) in
          record { dir = here.dir; there = is ∙ here.there; takes = here.takes; free = here.free }
      by (inr away) = record { dir = at.dir; there = get-changed_other m dir (without_entry name dirs) to away ∙ at.there; takes = at.takes; free = at.free }

  -- a new entry is the one of its name
  last_entry : (es : List Entry) (e : Entry) → e.name ≡ new → entry_named new es ≡ None → entry_named new (es ++ e ∷ []) ≡ Some e
  last_entry es e called free =
      find-append (λ e. bytes_eq new e.name) es (e ∷ []) ∙ ap (λ o. option_or o (entry_named new (e ∷ []))) free ∙ ap (λ b. if b then Some e else None) ((bytes_eq-Decides new e.name).1 (sym called))

  grown : (z : Inode) (dirs : Bool) → takes_names z.node.body ≡ true → entry_named new (entries_of z.node.body) ≡ None → option_map (λ (e : Entry). e.inode) (entry_named new (entries_of (with_entry new i dirs z).node.body)) ≡ Some i
  grown z dirs takes free =
      let e : Entry = record { name = new; serial = z.next_serial; inode = i } in
      ap (λ es. option_map (λ (e : Entry). e.inode) (entry_named new es)) (entries-with_entries (λ es. es ++ e ∷ []) z.node.body (takes-is_listed z.node.body takes))
      ∙ ap (option_map (λ (e : Entry). e.inode)) (last_entry (entries_of z.node.body) e refl free)

  -- moved to a free name
  entry_moved : (t : Tree) → IsFreeIn new (inode t to) → entry (moved dir name to new i t) to new ≡ Some i
  entry_moved t at =
      let dirs = body_is is_directory t i in
      let less = with_inode dir (without_entry name dirs) t.inodes in
      let more = with_inode to (with_entry new i dirs) less in
      let stand = with_body (with_standing (next_standing t to)) in
      let here = free_now t.inodes dirs at in
      let entries_are : entries (moved dir name to new i t) to ≡ entries_of (with_entry new i dirs here.dir).node.body =
      stays-changed (λ o. option_map_or (λ (z : Inode). entries_of z.node.body) o []) more i stand (λ z. entries-with_standing (next_standing t to) z.node.body) to
      ∙ ap (λ o. option_map_or (λ (z : Inode). entries_of z.node.body) o []) (get-changed_same less to (with_entry new i dirs) ∙ ap (option_map (with_entry new i dirs)) here.there) in
      ap (λ es. option_map (λ (e : Entry). e.inode) (entry_named new es)) entries_are ∙ grown here.dir dirs here.takes here.free

-- a name is free where its entry was taken away
unlinked_free : (t : Tree) (to : ℕ) (new : List ℕ) (old : ℕ) → body_is takes_names t to ≡ true → to ≢ old → IsFreeIn new (inode (unlinked to new old t) to)
unlinked_free t to new old takes away =
    let dirs = body_is is_directory t old in
    let z = passing takes_names (inode t to) takes in
    let less = with_inode to (without_entry new dirs) t.inodes in
    record {
      dir = without_entry new dirs z.0;
      there = get-unused_other (with_inode old unnamed less) old to away ∙ get-changed_other less old unnamed to away ∙ get-changed_same t.inodes to (without_entry new dirs) ∙ ap (option_map (without_entry new dirs)) z.1;
      takes = takes-with_entries (without_name new) z.0.node.body ∙ z.2;
      free = ap (entry_named new) (entries-with_entries (without_name new) z.0.node.body (takes-is_listed z.0.node.body z.2)) ∙ named-gone new (entries_of z.0.node.body);
    }

pub entry_renamed : (t : Tree) (dir : ℕ) (name : List ℕ) (to : ℕ) (new : List ℕ) (own : ℕ) → entry t dir name ≡ Some own → IsLawfulMove t dir name to new → entry (renamed dir name to new t) to new ≡ Some own
entry_renamed t dir name to new own there move = ap (λ o. entry (option_map_or (λ i. renamed_onto dir name to new i (entry t to new) t) o t) to new) there ∙ by (entry t to new) refl
  where
    onto : (old : ℕ) → entry t to new ≡ Some old → (b : Bool) → nat_eq own old ≡ b → entry (if b then t else moved dir name to new own (unlinked to new old t)) to new ≡ Some own
    onto old at true same = at ∙ ap Some (sym (eqb-true own old same))
    onto old at false other =
        let apart : old ≢ move.moved = λ e. let clash : true ≡ false = sym (eq-eqb own old (some_is own move.moved (sym there ∙ move.there) ∙ sym e)) ∙ other in absurd cc in
        let empty = (move.like old at apart).1 in
        entry_moved dir name to new own (unlinked to new old t) (unlinked_free t to new old move.takes (λ same. unfilled t old empty new old (ap (λ k. entry t k new) (sym same) ∙ at)))

    by : (o : Option ℕ) → entry t to new ≡ o → entry (renamed_onto dir name to new own o t) to new ≡ Some own
    by None free =
        let z = passing takes_names (inode t to) move.takes in
        let none : entry_named new (entries t to) ≡ None = none_of (entry_named new (entries t to)) free in
        entry_moved dir name to new own t (record { dir = z.0; there = z.1; takes = z.2; free = ap (λ o. entry_named new (option_map_or (λ (z : Inode). entries_of z.node.body) o [])) (sym z.1) ∙ none })
    by (Some old) at = onto old at (nat_eq own old) refl
