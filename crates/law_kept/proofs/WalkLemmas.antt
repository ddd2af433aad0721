-- The name at which a walk ends is of bytes, where the path and the texts of links are.
use Rattle.std.proofs.Common.{◌≡◌, ◌⊎◌, inl, inr, ℕ, ◌<◌, Bool, true, false, cond, List, [], refl, sym, ap, subst, Some}
use Rattle.std.specs.Prelude.{Ok}
use Rattle.std.specs.List.{All}
use Rattle.std.proofs.lemmas.List.Elements.{All-from_recursion, recursion_from_All}
use Rattle.kr_first.specs.pr_base.WalkFrame.{Landing, name_of}
use Rattle.kr_first.specs.pr_base.declared.path.Last.TheVariants as last
use Rattle.kr_first.specs.pr_base.declared.path.WalkMode.{WalkMode}
use Rattle.kr_first.proofs.pr_base.EndLemmas.{jump_is_shown}
use Rattle.kr_first.specs.kr_tree.Lawful.{AreBytes, HasBytes as TreeHasBytes, IsOfBytes}
use Rattle.kr_first.specs.kr_tree.Tree.{Inode, SymbolicLink, body, inode}
use Rattle.kr_first.specs.kr_tree.declared.place.Place.{Place}
use Rattle.kr_first.specs.kr_tree.declared.place.ProcAt.{ProcAt}
use Rattle.kr_first.proofs.kr_tree.NameLemmas.{map_some}
use Rattle.kr_first.specs.kr_view.declared.procs.Lead.{Lead}
use Rattle.kr_first.specs.kr_view.declared.procs.Lead.TheVariants.{Jump, NoLink, Nameless, Text}
use Rattle.kr_first.specs.kr_view.Component.{Surroundings, is_directory_at, landing}
use Rattle.kr_first.specs.kr_view.View.{node_in}
use Rattle.kr_first.specs.kr_view.Walk.{PlaceTarget, looking, place_walk}
use Rattle.kr_first.proofs.kr_perform.EndingLemmas.{Comes, all_come}
use Rattle.kr_first.proofs.kr_perform.LinkLemmas.{LandsAt, link_lands, link_text}
use Rattle.kr_first.proofs.kr_perform.TextLemmas.{IsPartWith, path_ends}

abbrev pub IsByte : ℕ → Type 0
IsByte b = b < 256

pub each-byte : (bytes : List ℕ) → AreBytes bytes → All IsByte bytes
each-byte bytes are = All-from_recursion IsByte bytes are

-- where a link of the process directory leads: along a text of bytes, or to what remembers a name of bytes
abbrev pub LeadsByBytes : Lead ℕ → Type 0
LeadsByBytes (Text text) = AreBytes text
LeadsByBytes (Jump p dir name) = AreBytes name
LeadsByBytes Nameless = Unit {0}
LeadsByBytes NoLink = Unit {0}

module _ (around : Surroundings) (has : TreeHasBytes around.space.tree) (leads : (at : ProcAt) → LeadsByBytes (around.leads at)) where
  links : (i : ℕ) (text : List ℕ) → body around.space.tree i ≡ Some (SymbolicLink text) → All IsByte text
  links i text is =
      let x = map_some (λ (x : Inode). x.node.body) (inode around.space.tree i) (SymbolicLink text) is in
      each-byte text (subst IsOfBytes x.2 (has i x.0 x.1))

  texts : (at : ProcAt) (text : List ℕ) → around.leads at ≡ Text text → All IsByte text
  texts at text is = each-byte text (subst LeadsByBytes is (leads at))

  -- ---- where a process link led

  lands-by : (to : Place ℕ) (dir : ℕ) (name : List ℕ) → AreBytes name → AreBytes (landing around.space to dir name).name
  lands-by to dir name are = by (is_directory_at around.space.tree to.host)
    where
      by : (b : Bool) → AreBytes (cond {A = Landing (Place ℕ) (Place ℕ)} b (record { place = to; found = to; is_dir = true; dir = to; name = [] }) (record { place = to; found = to; is_dir = false; dir = node_in to.mount dir; name = name })).name
      by true = tt
      by false = are

  landed : (l : Landing (Place ℕ) (Place ℕ)) → LandsAt around l → AreBytes l.name
  landed l at = subst (λ (l : Landing (Place ℕ) (Place ℕ)). AreBytes l.name) (sym at.5) (lands-by at.1 at.2 at.3 (subst LeadsByBytes at.4 (leads at.0)))

  -- ---- the target

  module _ (mode : WalkMode) (base : Place ℕ) (path : List ℕ) (w : PlaceTarget) (ends : (place_walk around mode base path).answer ≡ Ok w) (are : AreBytes path) where
    comes : w.jumped ≡ false → ((w.last ≡ last.Root) × (w.name ≡ [])) ⊎ Comes (IsPartWith IsByte) w
    comes jumped =
        all_come (looking around) mode base path (IsPartWith IsByte) (λ s c f text looked. path_ends IsByte text (link_text around (All IsByte) links texts s c f text looked)) (path_ends IsByte path (each-byte path are)) w ends jumped

    walked : w.jumped ≡ false → AreBytes w.name
    walked jumped =
        elim (comes jumped) [
          | inl root ↦ subst AreBytes (sym root.1) tt
          | inr come ↦ subst AreBytes come.3 (recursion_from_All IsByte (name_of come.0) come.1.1)
        ]

    jumped-to : w.jumped ≡ true → AreBytes w.name
    jumped-to jumped =
        let jump = jump_is_shown (Place ℕ) (Place ℕ) (looking around) mode base path w ends jumped in
        subst AreBytes (sym (ap (λ (w : PlaceTarget). w.name) jump.5)) (landed jump.3 (link_lands around jump.0 jump.1 jump.2 jump.3 jump.4))

    pub target-bytes : AreBytes w.name
    target-bytes = by w.jumped refl
      where
        by : (b : Bool) → w.jumped ≡ b → AreBytes w.name
        by false jumped = walked jumped
        by true jumped = jumped-to jumped
