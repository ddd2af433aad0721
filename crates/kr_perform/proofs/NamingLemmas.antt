-- The targets of a call over a lawful state have the names on which states rest that calls leave.
use Rattle.std.proofs.Common.{◌≡◌, ◌≢◌, ◌⊎◌, inl, inr, ℕ, Bool, true, false, List, [], Option, Some, refl, sym, ap, subst, ◌∙◌}
use Rattle.std.specs.Prelude.{Ok}
use Rattle.std.specs.Bool.{if◌then◌else◌}
use Rattle.std.specs.List.{All}
use Rattle.std.proofs.lemmas.List.Elements.{All-weaker}
use Rattle.std.proofs.lemmas.Option.{same_Some}
use Rattle.law_allowed.specs.pr_base.Paths.{Component, Dot, DotDot, IsName, Name}
use Rattle.law_allowed.specs.pr_base.WalkFrame.{Landing}
use Rattle.law_allowed.specs.pr_base.declared.path.Last.TheVariants as last
use Rattle.law_allowed.specs.pr_base.declared.path.WalkMode.{WalkMode}
use Rattle.law_allowed.proofs.pr_base.EndLemmas.{jump_is_shown}
use Rattle.law_allowed.specs.kr_calls.PathTable.{PathUse, path_at}
use Rattle.kr_transfer.proofs.kr_inode.NameLemmas.{name_decides}
use Rattle.law_allowed.specs.kr_tree.declared.place.Place.{Place}
use Rattle.law_allowed.specs.kr_tree.declared.place.ProcAt.{ProcAt}
use Rattle.law_allowed.specs.kr_tree.Lawful.{AreBytes, IsOfBytes}
use Rattle.law_allowed.specs.kr_tree.Tree.{Inode, SymbolicLink, body, inode}
use Rattle.law_allowed.proofs.kr_tree.NameLemmas.{map_some}
use Rattle.law_allowed.specs.kr_view.declared.procs.Lead.TheVariants.{Jump, Text}
use Rattle.law_allowed.specs.kr_view.Component.{Surroundings, is_directory_at, landing}
use Rattle.law_allowed.specs.kr_view.InTree.{StandsAround}
use Rattle.law_allowed.specs.kr_view.View.{Row, node_in}
use Rattle.law_allowed.specs.kr_view.Walk.{PlaceTarget, looking, place_walk}
use Rattle.law_allowed.specs.kr_model.Lawful.{IsLawful, IsNameOrNone}
use Rattle.law_allowed.specs.kr_model.ProcessDirectory.{around_of}
use Rattle.law_allowed.specs.kr_model.State.{Image, State}
use Rattle.law_allowed.specs.kr_model.Walks.{target_at}
use Rattle.law_allowed.specs.Told.{HasGoodName}
use Rattle.law_allowed.specs.Texts.{IsText, LinksHaveTexts}
use Rattle.kr_perform.specs.Naming.{WalksName}
use Rattle.kr_perform.proofs.AroundLemmas.{both, leads_texts, of_walk}
use Rattle.kr_perform.proofs.EndingLemmas.{Comes, all_come}
use Rattle.kr_perform.proofs.LinkLemmas.{LandsAt, link_lands, link_text}
use Rattle.kr_perform.proofs.ShownLemmas.{a_name, free_stays, short_name, well_formed}
use Rattle.kr_perform.proofs.TextLemmas.{IsPartWith, IsTextByte, bytes_of_text, path_ends, text_bytes}

-- ---- one walk, where all texts are of bytes

abbrev IsPart : Component → Type 0
IsPart c = IsPartWith IsTextByte c

module _ (around : Surroundings) (mode : WalkMode) (base : Place ℕ) (path : List ℕ) (w : PlaceTarget) (stands : StandsAround around base) (ends : (place_walk around mode base path).answer ≡ Ok w)
    (plain : All IsTextByte path) (links : (i : ℕ) (text : List ℕ) → body around.space.tree i ≡ Some (SymbolicLink text) → All IsTextByte text)
    (texts : (at : ProcAt) (text : List ℕ) → around.leads at ≡ Text text → All IsTextByte text) where
  -- the last component
  comes : w.jumped ≡ false → ((w.last ≡ last.Root) × (w.name ≡ [])) ⊎ Comes IsPart w
  comes jumped = all_come (looking around) mode base path IsPart (λ s c f text looked. path_ends IsTextByte text (link_text around (All IsTextByte) links texts s c f text looked)) (path_ends IsTextByte path plain) w ends jumped

  -- a name that was looked up is well-formed
  named : w.jumped ≡ false → w.last ≡ last.Name → IsName w.name × AreBytes w.name
  named jumped name = by (comes jumped)
    where
      by : ((w.last ≡ last.Root) × (w.name ≡ [])) ⊎ Comes IsPart w → IsName w.name × AreBytes w.name
      by (inl root) = let clash : last.Name ≡ last.Root = sym name ∙ root.0 in absurd cc
      by (inr come) =
          let is : come.0 ≡ Name w.name = a_name come.0 w.name (come.2 ∙ name) come.3 in
          let own : IsPart (Name w.name) = subst IsPart is come.1 in
          (well_formed w.name (own.0, All-weaker IsTextByte (λ b. b ≢ 0) (λ b both. both.0) w.name own.1) (short_name around mode base path w ends jumped name), bytes_of_text w.name own.1)

  -- what is no name has none
  looked : w.jumped ≡ false → IsNameOrNone w.name
  looked jumped = by (comes jumped)
    where
      by : ((w.last ≡ last.Root) × (w.name ≡ [])) ⊎ Comes IsPart w → IsNameOrNone w.name
      by (inl root) = λ some. absurd (some root.1)
      by (inr (Dot, part, kind, same)) = λ some. absurd (some (sym same))
      by (inr (DotDot, part, kind, same)) = λ some. absurd (some (sym same))
      by (inr (Name name, part, kind, same)) = λ some. (named jumped (sym kind)).0

  -- where a process link led, a file has the name that it remembers
  abbrev lands_by : Place ℕ → ℕ → List ℕ → Bool → Landing (Place ℕ) (Place ℕ)
  lands_by to dir name b = if b then record { place = to; found = to; is_dir = true; dir = to; name = [] } else record { place = to; found = to; is_dir = false; dir = node_in to.mount dir; name = name }

  abbrev Remembers : Landing (Place ℕ) (Place ℕ) → Type 0
  Remembers l = is_directory_at around.space.tree l.found.host ≡ false → IsNameOrNone l.name

  lands : (at : ProcAt) (to : Place ℕ) (dir : ℕ) (name : List ℕ) → around.leads at ≡ Jump to dir name → Remembers (landing around.space to dir name)
  lands at to dir name leads = by (is_directory_at around.space.tree to.host)
    where
      by : (b : Bool) → Remembers (lands_by to dir name b)
      by true file = λ some. absurd (some refl)
      by false file = stands.leads.files at to dir name leads file

  remembers : (l : Landing (Place ℕ) (Place ℕ)) → LandsAt around l → Remembers l
  remembers l at = subst Remembers (sym at.5) (lands at.0 at.1 at.2 at.3 at.4)

  jumped_name : w.jumped ≡ true → (p : Place ℕ) → w.found ≡ Some p → is_directory_at around.space.tree p.host ≡ false → IsNameOrNone w.name
  jumped_name jumped p found file =
      let jump = jump_is_shown (Place ℕ) (Place ℕ) (looking around) mode base path w ends jumped in
      let l : Landing (Place ℕ) (Place ℕ) = jump.3 in
      let is : l.found ≡ p = same_Some l.found p (sym (ap (λ (w : PlaceTarget). w.found) jump.5) ∙ found) in
      subst IsNameOrNone (sym (ap (λ (w : PlaceTarget). w.name) jump.5))
      (remembers l (link_lands around jump.0 jump.1 jump.2 l jump.4) (ap (λ (p : Place ℕ). is_directory_at around.space.tree p.host) is ∙ file))

  pub good_name : HasGoodName around.space.tree w
  good_name = record {
    free = λ name none. let own = named (free_stays around mode base path w ends none) name in ((name_decides w.name).1 own.0, own.1);
    remembered = λ p found file. by w.jumped refl p found file;
  }
    where
      by : (b : Bool) → w.jumped ≡ b → (p : Place ℕ) → w.found ≡ Some p → is_directory_at around.space.tree p.host ≡ false → IsNameOrNone w.name
      by false jumped p found file = looked jumped
      by true jumped p found file = jumped_name jumped p found file

-- ---- the targets of a call

module _ (table : List Row) (pid : ℕ) (s : State ℕ Image) (lawful : IsLawful (λ m. m) table s) (links : LinksHaveTexts s.tree) where
  -- the text of a link of the tree
  link_bytes : (i : ℕ) (text : List ℕ) → body s.tree i ≡ Some (SymbolicLink text) → All IsTextByte text
  link_bytes i text is =
      let x = map_some (λ (x : Inode). x.node.body) (inode s.tree i) (SymbolicLink text) is in
      text_bytes text (links i text is) (subst IsOfBytes x.2 (lawful.tree.bytes i x.0 x.1))

  path_named : (u : Option PathUse) → ((x : PathUse) → u ≡ Some x → IsText x.text × AreBytes x.text) → (w : PlaceTarget) → target_at table pid s u ≡ Ok (Some w) → HasGoodName s.tree w
  path_named u texts w is =
      of_walk table s lawful pid (λ w. HasGoodName s.tree w) w u
      (λ x base one stands ends.
      let text = texts x one in
      good_name (around_of table pid s) x.mode base x.text w stands ends (text_bytes x.text text.0 text.1) link_bytes (leads_texts table s lawful pid)) is

pub walks_name : WalksName
walks_name table pid s r targets lawful links texts are =
    let each = both (target_at table pid s (path_at r 0)) (target_at table pid s (path_at r 1)) targets are in
    record {
      first = λ w is. path_named table pid s lawful links (path_at r 0) (λ u one. texts 0 u one) w (each.0 ∙ ap (λ (o : Option PlaceTarget). Ok o) is);
      second = λ w is. path_named table pid s lawful links (path_at r 1) (λ u one. texts 1 u one) w (each.1 ∙ ap (λ (o : Option PlaceTarget). Ok o) is);
    }
