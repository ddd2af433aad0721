-- A move of a name that breaks no calm rule spares what the places in use need, and its directories lie below the same sources and
-- mount points.
use Rattle.std.proofs.Common.{◌≡◌, ℕ, Bool, true, false, List, Some, refl, sym, ap, ◌∙◌}
use Rattle.std.specs.Prelude.{◌||◌}
use Rattle.std.specs.Option.{option_map_or}
use Rattle.std.proofs.lemmas.Bool.{or_parts}
use Rattle.law_walks.specs.kr_tree.declared.place.Host.TheVariants.{Node}
use Rattle.law_walks.specs.kr_tree.Tree.{Tree, entry}
use Rattle.law_walks.specs.kr_view.View.{Point, Row, row}
use Rattle.kr_calm.specs.Above.{is_at_or_below}
use Rattle.kr_calm.specs.Rules.{are_parted, breaks_3, differ, is_above_point, is_above_row, is_above_rows, is_above_use, is_below_entry, is_below_point, is_below_source, is_between, names_source, of_entry, takes_in_use}
use Rattle.kr_calm.proofs.AboveLemmas.{steps_are_enough}
use Rattle.law_walks.specs.kr_model.Change.{MoveName}
use Rattle.law_walks.specs.kr_model.State.{Image, State, inode_of}
use Rattle.law_places.specs.Moving.{IsAboveNoRow, IsAboveNoUse, LieAlike, SparesMove}
use Rattle.law_places.specs.Standing.{PlacesStand}
use Rattle.law_places.proofs.InUseLemmas.{directory_fails}
use Rattle.law_places.proofs.SearchLemmas.{not_below, row_fails}
use Rattle.law_places.proofs.CalmSourceLemmas.{spares_sources}

undiffering : (a b : Bool) → differ a b ≡ false → a ≡ b
undiffering true true e = refl
undiffering true false e = absurd cc
undiffering false true e = absurd cc
undiffering false false e = refl

module _ (table : List Row) (s : State ℕ Image) (stand : PlacesStand table s) where
  abbrev t : Tree
  t = s.tree

  -- ---- rules 3 and 4

  of_some : (dir : ℕ) (name : List ℕ) (i : ℕ) (test : ℕ → Bool) → of_entry t dir name test ≡ false → entry t dir name ≡ Some i → test i ≡ false
  of_some dir name i test none there = ap (λ o. option_map_or test o false) (sym there) ∙ none

  no_rows : (i : ℕ) → is_above_rows table t i ≡ false → IsAboveNoRow table s i
  no_rows i none k r there =
      let parts = or_parts (is_at_or_below t i r.source_dir) (is_above_point t i r) (row_fails (is_above_row t i) table k r none there) in (
        not_below table s stand i r.source_dir parts.0,
        λ p at. not_below table s stand i p.dir (ap (λ o. option_map_or (λ (p : Point). is_at_or_below t i p.dir) o false) (sym at) ∙ parts.1),
      )

  no_uses : (i : ℕ) → is_above_use s i ≡ false → IsAboveNoUse s i
  no_uses i none x is dir = not_below table s stand i (inode_of x.place.host) (directory_fails table s stand.lawful (λ host. is_at_or_below t i (inode_of host)) none x is dir)

  pub spares_move : (dir : ℕ) (name : List ℕ) (to : ℕ) (new : List ℕ) → breaks_3 table t (MoveName dir name to new) ≡ false → takes_in_use s (MoveName dir name to new) ≡ false → SparesMove table s dir name to new
  spares_move dir name to new third fourth =
      let sources = or_parts (names_source table dir name || names_source table to new) (of_entry t dir name (is_above_rows table t)) third in
      let both = or_parts (names_source table dir name) (names_source table to new) sources.0 in
      let uses = or_parts (of_entry t dir name (is_above_use s)) (of_entry t to new (is_above_use s)) fourth in
      record {
        old_source = spares_sources table dir name both.0;
        new_source = spares_sources table to new both.1;
        rows = λ i there. no_rows i (of_some dir name i (is_above_rows table t) sources.1 there);
        moved = λ i there. no_uses i (of_some dir name i (is_above_use s) uses.0 there);
        replaced = λ i there. no_uses i (of_some to new i (is_above_use s) uses.1 there);
      }

  -- ---- rule 2

  pub lie_alike : (dir to : ℕ) → are_parted table t (Node dir) (Node to) ≡ false → LieAlike table t dir to
  lie_alike dir to together = record {
    sources = λ k r there below.
        let same = undiffering (is_below_source t dir r) (is_below_source t to r) (parts k r there).0 in
        (steps_are_enough t r.source to stand.lawful.tree.sound).0 (sym same ∙ (steps_are_enough t r.source dir stand.lawful.tree.sound).1 below);
    points = λ k r p i there at leads below.
        let same = undiffering (is_below_point t dir r) (is_below_point t to r) (parts k r there).1 in
        (steps_are_enough t i dir stand.lawful.tree.sound).0 (sym (at_point dir r p i at leads) ∙ same ∙ at_point to r p i at leads ∙ (steps_are_enough t i to stand.lawful.tree.sound).1 below);
  }
    where
      parts : (k : ℕ) (r : Row) → row table k ≡ Some r → (differ (is_below_source t dir r) (is_below_source t to r) ≡ false) × (differ (is_below_point t dir r) (is_below_point t to r) ≡ false)
      parts k r there = or_parts (differ (is_below_source t dir r) (is_below_source t to r)) (differ (is_below_point t dir r) (is_below_point t to r)) (row_fails (is_between t dir to) table k r together there)

      at_point : (d : ℕ) (r : Row) (p : Point) (i : ℕ) → r.point ≡ Some p → entry t p.dir p.name ≡ Some i → is_below_point t d r ≡ is_at_or_below t i d
      at_point d r p i at leads = ap (λ o. option_map_or (is_below_entry t d) o false) at ∙ ap (λ o. option_map_or (λ i. is_at_or_below t i d) o false) leads
