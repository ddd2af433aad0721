-- A walk along a text that is reached among inodes, over the host's own view.
use Rattle.std.proofs.Common.{◌≡◌, ℕ, true, false, List, Option, Some, None, Ok, refl, sym, ◌∙◌}
use Rattle.std.specs.Option.{option_map, option_map_or}
use Rattle.kr_tree.specs.pr_base.Paths.{AreNames, text_of}
use Rattle.kr_tree.specs.pr_base.declared.path.WalkMode.{WalkMode}
use Rattle.kr_tree.specs.declared.place.Host.TheVariants.{Node}
use Rattle.kr_tree.specs.declared.place.Place.{Place}
use Rattle.kr_tree.specs.Tree.{Tree, Inode, inode, body}
use Rattle.kr_tree.specs.Names.{reached}
use Rattle.kr_view.specs.View.{node_in, is_there, plain}
use Rattle.kr_view.specs.Component.{Surroundings}
use Rattle.kr_view.specs.Walk.{PlaceTarget, place_walk}
use Rattle.kr_view.specs.Laws.{is_link}
use Rattle.kr_view.specs.InTree.{IsObjectOf}
use Rattle.kr_view.specs.HostReach.{is_link_at}
use Rattle.kr_view.specs.ReachLaws.{IsReachedBy}
use Rattle.kr_view.proofs.HostReachLemmas.{inode_reached}
use Rattle.kr_view.proofs.ArrivalLemmas.{unasked, text_found}

there_and_firm : (t : Tree) (i : ℕ) → option_map is_link (body t i) ≡ Some false → IsObjectOf t (Node i) × (is_link_at t (Node i) ≡ false)
there_and_firm t i h = by (inode t i) h
  where
    by : (o : Option Inode) → option_map is_link (option_map (λ x. x.node.body) o) ≡ Some false → (is_there o ≡ true) × (option_map_or (λ x. is_link x.node.body) o false ≡ false)
    by None h = absurd cc
    by (Some x) h = let firm : is_link x.node.body ≡ false = cc in (refl, firm)

pub reached_is_found : (around : Surroundings) (mode : WalkMode) (base : Place ℕ) (text : List (List ℕ)) (i : ℕ) → around.space.table ≡ plain → AreNames text → reached around.space.tree around.space.user text ≡ Some i
    → option_map is_link (body around.space.tree i) ≡ Some false → (t : PlaceTarget) × ((place_walk around mode base (text_of text)).answer ≡ Ok t) × (t.found ≡ Some (node_in 0 i))
reached_is_found around mode base text i is_plain are h no_link =
    let is = there_and_firm around.space.tree i no_link in
    let r : IsReachedBy around text (Node i) = record { over_plain = is_plain; names = are; way = inode_reached around.space.tree around.space.user around.space.finds text i h; there = is.0 } in
    text_found around mode base text (Node i) false r (λ followed. is.1) (λ wanted. let no : false ≡ true = sym (unasked mode) ∙ wanted in absurd cc)
