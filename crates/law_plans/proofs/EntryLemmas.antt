-- A path whose last component may be free: the text that takes its place, and what the plain kernel is told along it of an entry.
use Rattle.std.proofs.Common.{◌≡◌, ◌≢◌, ℕ, Bool, true, false, List, ◌∷◌, Option, Some, None, refl, sym, ap, subst, ◌∙◌}
use Rattle.std.specs.Prelude.{is_some}
use Rattle.std.proofs.lemmas.List.Elements.{All-cons, All-head}
use Rattle.law_edits.specs.pr_base.Paths.{AreNames, AreParts, IsComponent, IsName, IsPart}
use Rattle.law_edits.specs.pr_base.Texts.{Text}
use Rattle.law_edits.specs.pr_base.WalkFrame.{may_be_free}
use Rattle.law_edits.specs.pr_base.declared.path.Last.{Last}
use Rattle.law_edits.specs.pr_base.declared.path.Last.TheVariants as last
use Rattle.law_edits.proofs.pr_base.PathLemmas.{names_are_parts}
use Rattle.law_edits.specs.pt_bind.Binding.{is_point, names_of}
use Rattle.law_edits.specs.pt_bind.Tags.{TagTable}
use Rattle.law_edits.proofs.pt_bind.ByteLemmas.{names_written}
use Rattle.law_places.specs.pt_canon.declared.canon.Canon.{Canon}
use Rattle.law_edits.specs.pt_args.Points.{is_at_point, is_point_text}
use Rattle.law_edits.specs.pt_args.Purposes.{entry_swap, named_path, own_path}
use Rattle.law_edits.specs.kr_calls.PathTable.{PathUse}
use Rattle.law_places.proofs.kr_inode.NameLemmas.{name_decides}
use Rattle.law_places.specs.kr_tree.declared.place.Place.{Place}
use Rattle.law_places.specs.kr_view.View.{Row, plain, root_place}
use Rattle.law_places.specs.kr_view.Walk.{PlaceTarget}
use Rattle.law_edits.specs.law_allowed.Texts.{IsText}
use Rattle.law_places.specs.kr_model.State.{Image, State}
use Rattle.law_edits.specs.law_allowed.Told.{HasGoodName}
use Rattle.law_places.specs.law_walks.Answers.{canon_told}
use Rattle.law_places.specs.law_walks.Facts.{FactsOfLast, FactsOfName}
use Rattle.law_places.specs.law_walks.Handed.{handed_path}
use Rattle.law_places.specs.law_walks.Settled.{host_text}
use Rattle.law_places.specs.law_walks.Standing.{StandsOn}
use Rattle.law_places.proofs.law_walks.FactLemmas.{lasts_are_told_alike, names_are_told_alike}
use Rattle.law_places.proofs.law_walks.HandedLemmas.{directory_on, last_name, text_target_named}
use Rattle.law_plans.specs.Begins.{LeadsBoth, StandTogether}
use Rattle.law_plans.specs.OnePath.{IsNewText}
use Rattle.law_plans.proofs.LeadLemmas.{alike, answers, bindings, ends_in, found_text, guest_names, host_names, same_canon, scene, space, texts}
use Rattle.law_plans.proofs.TextLemmas.{named_is, new_behind}

not_root : (l : Last) → l ≡ last.Name → l ≢ last.Root
not_root l is root = let clash : last.Name ≡ last.Root = sym is ∙ root in absurd cc

module _ (table : List Row) (tags : TagTable) (s w : State ℕ Image) (pid : ℕ) (u : PathUse) (opening : Bool) (both : StandTogether table tags s w) (lead : LeadsBoth table tags s w pid u opening)
    (free : may_be_free u.mode ≡ true) (jumped : lead.place.jumped ≡ false) where
  abbrev path : Text → List ℕ → Bool → List ℕ
  path t part behind = handed_path (space table tags s w pid u opening both lead) t part behind

  abbrev place : PlaceTarget
  place = lead.place

  abbrev dir : Text
  dir = lead.text.dir

  abbrev canon : Canon
  canon = lead.canon

  b_jumped : lead.text.jumped ≡ false
  b_jumped = sym (alike table tags s w pid u opening both lead).jumped ∙ jumped

  dir_on : StandsOn (space table tags s w pid u opening both lead) place.dir dir
  dir_on = directory_on (scene table tags s w pid u opening both lead) u.mode lead.base lead.start u.text place lead.text lead.both jumped

  dir_names : AreNames dir
  dir_names = guest_names table tags s w pid u opening both lead place.dir dir dir_on.stands

  host_dir_names : AreNames (host_text (space table tags s w pid u opening both lead) dir)
  host_dir_names = host_names table tags s w pid u opening both lead place.dir dir dir_on.stands

  last_text : (l : Last) → place.last ≡ l → lead.text.last ≡ l
  last_text l is = sym (alike table tags s w pid u opening both lead).last ∙ is

  -- ---- a name

  module _ (is : place.last ≡ last.Name) where
    named_part : IsPart place.name
    named_part =
        let c = (alike table tags s w pid u opening both lead).component jumped (not_root place.last is) in
        subst IsComponent (last_name c.0 place.name (c.1 ∙ is) c.2) c.3

    entry_parts : AreParts (lead.text.name ∷ dir)
    entry_parts = All-cons IsPart lead.text.name dir (subst IsPart (alike table tags s w pid u opening both lead).name named_part) (names_are_parts dir dir_names)

    pub named_canon : canon ≡ canon_told (bindings table tags s w pid u opening both lead) (lead.text.name ∷ dir) lead.text (is_some lead.text.found)
    named_canon = same_canon table tags s w pid u opening both lead _ ((answers table tags s w pid u opening both lead).named free b_jumped (last_text last.Name is))

    guest_read : names_of canon.guest ≡ lead.text.name ∷ dir
    guest_read = ap (λ (c : Canon). names_of c.guest) named_canon ∙ names_written (lead.text.name ∷ dir) entry_parts

    pub named_last : canon.last ≡ last.Name
    named_last = ap (λ (c : Canon). c.last) named_canon ∙ last_text last.Name is

    pub named_slash : canon.slash ≡ place.slash
    named_slash = ap (λ (c : Canon). c.slash) named_canon ∙ sym (alike table tags s w pid u opening both lead).slash

    pub named_swap : entry_swap (bindings table tags s w pid u opening both lead) canon last.Name ≡ path dir place.name place.slash
    named_swap =
        let rows = bindings table tags s w pid u opening both lead in
        ap (λ t. own_path rows t canon.slash) guest_read ∙ ap (named_path rows dir lead.text.name) named_slash ∙ ap (λ n. named_path rows dir n place.slash) (sym (alike table tags s w pid u opening both lead).name)
        ∙ named_is rows dir place.name place.slash

    pub named_point : is_at_point (bindings table tags s w pid u opening both lead) canon last.Name
        ≡ is_point (bindings table tags s w pid u opening both lead) (place.name ∷ host_text (space table tags s w pid u opening both lead) dir)
    named_point =
        let rows = bindings table tags s w pid u opening both lead in
        let h = host_text (space table tags s w pid u opening both lead) dir in
        ap (is_point_text rows) guest_read ∙ ap (λ h. is_point rows (lead.text.name ∷ h)) (names_written h (names_are_parts h host_dir_names)) ∙ ap (λ n. is_point rows (n ∷ h)) (sym (alike table tags s w pid u opening both lead).name)

    -- the name is well-formed, where something is found under it and where it is free
    found_name : (p : Place ℕ) → place.found ≡ Some p → IsName place.name
    found_name p found =
        let q = found_text table tags s w pid u opening both lead p found in
        let text = text_target_named (texts table tags s w pid u opening both lead) u.mode lead.start u.text lead.text q.0 lead.both.text b_jumped (last_text last.Name is) q.1 in
        let names = subst AreNames text (guest_names table tags s w pid u opening both lead p q.0 q.2.stands) in
        subst IsName (sym (alike table tags s w pid u opening both lead).name) (All-head IsName lead.text.name dir names)

    named_well : HasGoodName s.tree place → IsName place.name
    named_well good = by place.found refl
      where
        by : (o : Option (Place ℕ)) → place.found ≡ o → IsName place.name
        by None found = (name_decides place.name).0 (good.free is found).0
        by (Some p) found = found_name p found

    pub named_new : HasGoodName s.tree place → IsNewText (path dir place.name place.slash)
    named_new good = new_behind (host_text (space table tags s w pid u opening both lead) dir) place.slash place.name host_dir_names (named_well good).no_zero

    pub named_facts : FactsOfName table s pid u.mode (root_place plain) place lead.text
    named_facts = names_are_told_alike table s pid u.mode (root_place plain) place lead.text (ends_in table tags s w pid u opening both lead) free jumped is

  -- ---- what is no name

  module _ (some : place.last ≢ last.Name) where
    pub unnamed_canon : canon ≡ canon_told (bindings table tags s w pid u opening both lead) dir lead.text false
    unnamed_canon =
        same_canon table tags s w pid u opening both lead _ ((answers table tags s w pid u opening both lead).other free (λ is. absurd (some ((alike table tags s w pid u opening both lead).last ∙ is))))

    dir_read : names_of canon.guest ≡ dir
    dir_read = ap (λ (c : Canon). names_of c.guest) unnamed_canon ∙ names_written dir (names_are_parts dir dir_names)

    pub unnamed_last : (l : Last) → place.last ≡ l → canon.last ≡ l
    unnamed_last l is = ap (λ (c : Canon). c.last) unnamed_canon ∙ last_text l is

    unnamed_slash : canon.slash ≡ place.slash
    unnamed_slash = ap (λ (c : Canon). c.slash) unnamed_canon ∙ sym (alike table tags s w pid u opening both lead).slash

    pub unnamed_swap : (part : List ℕ) → named_path (bindings table tags s w pid u opening both lead) (names_of canon.guest) part canon.slash ≡ path dir part place.slash
    unnamed_swap part =
        let rows = bindings table tags s w pid u opening both lead in
        ap (λ t. named_path rows t part canon.slash) dir_read ∙ ap (named_path rows dir part) unnamed_slash ∙ named_is rows dir part place.slash

    pub unnamed_new : (part : List ℕ) → IsText part → IsNewText (path dir part place.slash)
    unnamed_new part is = new_behind (host_text (space table tags s w pid u opening both lead) dir) place.slash part host_dir_names is

  pub unnamed_facts : FactsOfLast table s pid u.mode (root_place plain) place lead.text
  unnamed_facts = lasts_are_told_alike table s pid u.mode (root_place plain) place lead.text (ends_in table tags s w pid u opening both lead) jumped
