-- The guest text to which a walk comes has the index of the mount to which the walk over places comes.
use Rattle.std.proofs.Common.{◌≡◌, ℕ, Bool, true, false, List, ◌∷◌, Option, Some, None, refl, sym, ap, ◌∙◌}
use Rattle.std.specs.Option.{option_map_or}
use Rattle.kr_core.specs.pr_base.Texts.{Text}
use Rattle.kr_core.specs.pr_base.WalkFrame.{Landing, Target}
use Rattle.kr_core.specs.pr_base.declared.path.Last.TheVariants as last
use Rattle.kr_core.specs.pr_base.declared.path.WalkMode.{WalkMode}
use Rattle.kr_core.proofs.pr_base.EndLemmas.{jump_is_shown}
use Rattle.pt_results.specs.pt_bind.Binding.{index_of, located}
use Rattle.kr_core.specs.kr_tree.declared.place.Place.{Place}
use Rattle.law_places.specs.kr_view.Component.{Namespace}
use Rattle.law_places.specs.kr_view.View.{Row, row}
use Rattle.law_places.specs.kr_view.Walk.{PlaceTarget, looking}
use Rattle.law_places.specs.kr_mounts.Standing.{texts_of}
use Rattle.law_places.specs.Matching.{index_at}
use Rattle.law_places.specs.law_walks.Handed.{BothEnd}
use Rattle.law_places.specs.law_walks.Scene.{Scene, space_of}
use Rattle.law_places.specs.law_walks.Settled.{IsSettled, owning_mount}
use Rattle.law_places.proofs.law_walks.HandedLemmas.{alike, directory_on, found_stands}
use Rattle.law_places.proofs.law_walks.NamedLemmas.{mount_found}
use Rattle.law_places.proofs.law_walks.TableLemmas.{owned, owner_none}
use Rattle.law_turns.specs.PathCalls.{HasIndexWalked, TextsHaveIndices}

some_or_none : {A : Type 0} {a : A} → None ≡ Some a → ⊥
some_or_none e = cc

index_by_mount : (space : Namespace) → IsSettled space → (m : ℕ) (u : Text) → m ≡ owning_mount space u → index_of (texts_of space.table) u ≡ index_at space.table m
index_by_mount space set m u is = let own = owned space set u in own.index ∙ sym (ap (λ o. option_map_or (λ (r : Row). r.text.index) o 0) (ap (row space.table) is ∙ own.there))

module _ (scene : Scene) (mode : WalkMode) (base : Place ℕ) (t : Text) (path : List ℕ) (a : PlaceTarget) (b : Target Text Text) (e : BothEnd scene mode base t path a b) where
  -- what a link of the process directory led to is found
  pub free_stays : a.found ≡ None → a.jumped ≡ false
  free_stays none = by a.jumped refl
    where
      by : (j : Bool) → a.jumped ≡ j → j ≡ false
      by false is = refl
      by true is =
          let link = jump_is_shown (Place ℕ) (Place ℕ) (looking scene.around) mode base path a e.place is in
          let landing : Landing (Place ℕ) (Place ℕ) = link.3 in
          absurd (some_or_none (sym none ∙ ap (λ (t : PlaceTarget). t.found) link.5))

  abbrev space : Namespace
  space = space_of scene

  -- at a free name no mount is located
  pub free_unlocated : a.found ≡ None → a.last ≡ last.Name → located (texts_of space.table) (a.name ∷ b.dir) ≡ None
  free_unlocated none is = by (located (texts_of space.table) (a.name ∷ b.dir)) refl
    where
      by : (o : Option ℕ) → located (texts_of space.table) (a.name ∷ b.dir) ≡ o → o ≡ None
      by None l = refl
      by (Some k) l = let q = mount_found scene mode base t path a b e (free_stays none) is k l in absurd (some_or_none (sym none ∙ q.1))

  indexed : HasIndexWalked scene.around.space.table a b
  indexed = record {
    found = λ p u ea eb.
        index_by_mount space e.matched.settled p.mount u (found_stands scene mode base t path a b e p u ea eb).stands.mount ∙ sym (ap (λ o. index_at space.table (option_map_or (λ (p : Place ℕ). p.mount) o a.dir.mount)) ea);
    free = λ none is.
        let on = directory_on scene mode base t path a b e (free_stays none) in
        let l = ap (λ name. located (texts_of space.table) (name ∷ b.dir)) (sym (alike scene mode base t path a b e).name) ∙ free_unlocated none is in
        index_by_mount space e.matched.settled a.dir.mount (b.name ∷ b.dir) (on.stands.mount ∙ sym (owner_none (texts_of space.table) b.name b.dir l))
        ∙ sym (ap (λ o. index_at space.table (option_map_or (λ (p : Place ℕ). p.mount) o a.dir.mount)) none);
  }

pub texts_have_indices : TextsHaveIndices
texts_have_indices scene mode base t path a b e = indexed scene mode base t path a b e
