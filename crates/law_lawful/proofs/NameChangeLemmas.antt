-- What the removal and the move of a name leave of a tree.
use Rattle.std.proofs.Common.{◌≡◌, ◌≢◌, subst, ℕ, Bool, true, false, nat_eq, List, [], ◌∷◌, ◌++◌, refl, sym, ap, ◌∙◌, cond, Option, Some, None}
use Rattle.std.specs.Prelude.{bytes_eq}
use Rattle.std.specs.Option.{option_map_or}
use Rattle.std.proofs.lemmas.Bool.{eqb-false}
use Rattle.std.proofs.lemmas.Slice.Eq.{bytes_eq-Decides}
use Rattle.kr_model.proofs.pr_base.MapLemmas.{stays-changed}
use Rattle.kr_model.specs.kr_inode.declared.standing.Standing.{Standing}
use Rattle.kr_model.proofs.kr_inode.BodyLemmas.{entries-with_standing, is_listed-with_standing, filled-entries}
use Rattle.kr_model.specs.kr_tree.Tree.{Tree, Inode, Inodes, inode, body_is, entry, is_directory, is_filled}
use Rattle.kr_model.specs.kr_tree.Changes.{with_inode, with_body, with_standing, with_entry, without_entry, without_name, unnamed, without_unused, unlinked, removed, moved, renamed_onto, renamed, next_standing, next_serial, freed}
use Rattle.kr_model.specs.kr_tree.Lawful.{IsKept, IsLawfulMove}
use Rattle.kr_model.proofs.kr_tree.MoveLemmas.{kept-moved}
use Rattle.kr_model.proofs.kr_tree.OntoLemmas.{IsOnto, kept-onto}
use Rattle.kr_model.proofs.kr_tree.RemoveLemmas.{kept-unlinked}
use Rattle.kr_model.specs.kr_view.View.{Row, covered}
use Rattle.kr_model.specs.Conditions.{CanRemove, CanMove}
use Rattle.law_lawful.proofs.StandingLemmas.{alike-with_entries, alike-with_standing, AllStay, held-all, stay-same, stay-on, stay-with, stay-dropped}
use Rattle.law_lawful.proofs.TreeChangeLemmas.{AsHeld, as_held-on, as_held-with, as_held-dropped, entries_in, EntriesStay, entries-on, points-of, LeavesEntries, entries-with, entries-dropped}
use Rattle.law_lawful.proofs.TreeShapeLemmas.{LeavesHolds, entries_here, entries-some, with_entry-leaves, without_entry-leaves, none-without_entry}

-- what is held, and the entries at which mounts stand, stay
pub record ThreeStay (table : List Row) (t u : Tree) : Type 0 where
  pub stay : AllStay t.inodes u.inodes
  pub entries : EntriesStay (λ dir name. covered table dir name ≡ true) t.inodes u.inodes
  pub held : AsHeld t.inodes u.inodes

three-on : {table : List Row} {t u v : Tree} → ThreeStay table t u → ThreeStay table u v → ThreeStay table t v
three-on one two = record { stay = stay-on one.stay two.stay; entries = entries-on one.entries two.entries; held = as_held-on one.held two.held }

of-three : (table : List Row) (t u : Tree) → IsKept u → ThreeStay table t u → LeavesHolds table t u
of-three table t u kept three = record { leaves = record { kept = kept; stay = held-all three.stay; points = points-of table t u three.entries }; held = three.held }

-- a name at which no mount stands is another than one at which one does
uncovered-apart : (table : List Row) (dir : ℕ) (name : List ℕ) → covered table dir name ≡ false → (other : List ℕ) → covered table dir other ≡ true → bytes_eq name other ≡ false
uncovered-apart table dir name free other taken = by (bytes_eq name other) refl
  where
    by : (b : Bool) → bytes_eq name other ≡ b → b ≡ false
    by false e = refl
    by true e =
        let same : name ≡ other = (bytes_eq-Decides name other).0 e in
        absurd (let no : false ≡ true = sym free ∙ ap (covered table dir) same ∙ taken in cc)

unnamed-entries : LeavesEntries unnamed
unnamed-entries = record { listed = λ x. is_listed-with_standing None x.node.body; entries = λ x. entries-with_standing None x.node.body }

standing-entries : (s : Option Standing) → LeavesEntries (with_body (with_standing s))
standing-entries s = record { listed = λ x. is_listed-with_standing s x.node.body; entries = λ x. entries-with_standing s x.node.body }

module _ (table : List Row) (t : Tree) where
  no-entries : (i : ℕ) → body_is is_filled t i ≡ false → entries_in t.inodes i ≡ []
  no-entries i empty = by (inode t i) empty
    where
      by : (o : Option Inode) → option_map_or (λ (x : Inode). is_filled x.node.body) o false ≡ false → entries_here o ≡ []
      by None e = refl
      by (Some x) e = filled-entries x.node.body e

  unlinked-stays : (dir : ℕ) (name : List ℕ) (i : ℕ) → body_is is_filled t i ≡ false → covered table dir name ≡ false → ThreeStay table t (unlinked dir name i t)
  unlinked-stays dir name i empty free =
      let passes : ℕ → List ℕ → Type 0 = λ dir name. covered table dir name ≡ true in
      let dirs : Bool = body_is is_directory t i in
      let m : Inodes = with_inode dir (without_entry name dirs) t.inodes in
      let n : Inodes = with_inode i unnamed m in
      record {
        stay =
            stay-on (stay-with dir (without_entry name dirs) (λ x. alike-with_entries (without_name name) x.node.body) t.inodes)
            (stay-on (stay-with i unnamed (λ x. alike-with_standing None x.node.body) m) (stay-dropped i n));
        entries =
            entries-on (entries-some passes dir (without_entry name dirs) (without_entry-leaves (passes dir) name dirs (uncovered-apart table dir name free)) t.inodes)
            (entries-on (entries-with passes i unnamed unnamed-entries m)
            (entries-dropped passes i n (λ _. stays-changed entries_here m i unnamed (λ x. entries-with_standing None x.node.body) i ∙ none-without_entry dir name dirs t.inodes i (no-entries i empty))));
        held =
            as_held-on (as_held-with dir (without_entry name dirs) (λ x. refl) t.inodes)
            (as_held-on (as_held-with i unnamed (λ x. refl) m) (as_held-dropped i n));
      }

  moved-stays : (dir : ℕ) (name : List ℕ) (to : ℕ) (new : List ℕ) (i : ℕ) → covered table dir name ≡ false → ThreeStay table t (moved dir name to new i t)
  moved-stays dir name to new i free =
      let passes : ℕ → List ℕ → Type 0 = λ dir name. covered table dir name ≡ true in
      let dirs : Bool = body_is is_directory t i in
      let m : Inodes = with_inode dir (without_entry name dirs) t.inodes in
      let n : Inodes = with_inode to (with_entry new i dirs) m in
      let stand : Inode → Inode = with_body (with_standing (next_standing t to)) in
      record {
        stay =
            stay-on (stay-with dir (without_entry name dirs) (λ x. alike-with_entries (without_name name) x.node.body) t.inodes)
            (stay-on (stay-with to (with_entry new i dirs) (λ x. alike-with_entries (λ es. es ++ (record { name = new; serial = x.next_serial; inode = i }) ∷ []) x.node.body) m)
            (stay-with i stand (λ x. alike-with_standing (next_standing t to) x.node.body) n));
        entries =
            entries-on (entries-some passes dir (without_entry name dirs) (without_entry-leaves (passes dir) name dirs (uncovered-apart table dir name free)) t.inodes)
            (entries-on (entries-some passes to (with_entry new i dirs) (with_entry-leaves (passes to) new i dirs) m)
            (entries-with passes i stand (standing-entries (next_standing t to)) n));
        held =
            as_held-on (as_held-with dir (without_entry name dirs) (λ x. refl) t.inodes)
            (as_held-on (as_held-with to (with_entry new i dirs) (λ x. refl) m) (as_held-with i stand (λ x. refl) n));
      }

module _ (table : List Row) (t : Tree) (h : IsKept t) where
  pub remove-leaves : (dir : ℕ) (name : List ℕ) → CanRemove table t dir name → LeavesHolds table t (removed dir name t)
  remove-leaves dir name can =
      subst (λ o. LeavesHolds table t (option_map_or (λ i. unlinked dir name i t) o t)) (sym can.there)
      (of-three table t (unlinked dir name can.own t) (kept-unlinked t h dir name can.own can.there can.empty) (unlinked-stays table t dir name can.own can.empty can.uncovered))

  -- nothing changes where both are names of one inode
  unchanged : LeavesHolds table t t
  unchanged = of-three table t t h (record { stay = stay-same t.inodes; entries = record { each = λ dir name passed listed there. (listed, there) }; held = record { each = λ q. refl } })

  onto-kept : (dir : ℕ) (name : List ℕ) (to : ℕ) (new : List ℕ) (i old : ℕ) → IsOnto t dir name to new i old → IsKept (moved dir name to new i (unlinked to new old t))
  onto-kept dir name to new i old on =
      let dirs : Bool = body_is is_directory t i in
      let replaced : Inodes = with_inode to (λ x. with_entry new i dirs (without_entry new dirs x)) t.inodes in
      let parted : Inodes = with_inode old unnamed replaced in
      let dropped : Inodes = without_unused old parted in
      let emptied : Inodes = with_inode dir (without_entry name dirs) dropped in
      let m : Inodes = with_inode i (with_body (with_standing (Some (record { inode = to; serial = next_serial t to })))) emptied in
      let all = kept-onto t h dir name to new i old on m (freed old parted)
      (record {
        is_dir = dirs;
        dir_is = refl;
        serial = next_serial t to;
        serial_is = refl;
        replaced = replaced;
        replaced_is = refl;
        parted = parted;
        parted_is = refl;
        dropped = dropped;
        dropped_is = refl;
        gone_is = refl;
        emptied = emptied;
        emptied_is = refl;
        m_is = refl;
      }) in
      subst IsKept all.1 all.0

  pub move-leaves : (dir : ℕ) (name : List ℕ) (to : ℕ) (new : List ℕ) → CanMove table t dir name to new → LeavesHolds table t (renamed dir name to new t)
  move-leaves dir name to new can =
      let move = can.move in
      subst (λ o. LeavesHolds table t (option_map_or (λ i. renamed_onto dir name to new i (entry t to new) t) o t)) (sym move.there) (by move (entry t to new) refl)
    where
      onto : (move : IsLawfulMove t dir name to new) (old : ℕ) → entry t to new ≡ Some old → (b : Bool) → nat_eq move.moved old ≡ b → LeavesHolds table t (cond b t (moved dir name to new move.moved (unlinked to new old t)))
      onto move old named true e = unchanged
      onto move old named false e =
          let apart : old ≢ move.moved = λ is. eqb-false move.moved old e (sym is) in
          let like = move.like old named apart in
          let v : Tree = unlinked to new old t in
          of-three table t (moved dir name to new move.moved v)
          (onto-kept dir name to new move.moved old
          (record { there = move.there; takes = move.takes; well_formed = move.well_formed; named = named; apart = apart; alike = like.0; empty = like.1; aside = move.apart; bytes = can.bytes }))
          (three-on (unlinked-stays table t to new old like.1 can.free) (moved-stays table v dir name to new move.moved can.uncovered))

      by : (move : IsLawfulMove t dir name to new) (o : Option ℕ) → entry t to new ≡ o → LeavesHolds table t (renamed_onto dir name to new move.moved o t)
      by move None free =
          of-three table t (moved dir name to new move.moved t)
          (kept-moved t h dir name to new move.moved move.there move.takes move.well_formed free move.apart can.bytes)
          (moved-stays table t dir name to new move.moved can.uncovered)
      by move (Some old) named = onto move old named (nat_eq move.moved old) refl
