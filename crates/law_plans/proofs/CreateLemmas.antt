-- A path that is opened and may be made: the plain kernel is told the same of what is there and of what is missing, but for the root of
-- the host; and a name with a slash behind it is cancelled as it is refused.
use Rattle.std.proofs.Common.{◌≡◌, ◌≢◌, inl, inr, ℕ, Bool, true, false, List, [], ◌∷◌, Option, Some, None, Ok, Err, refl, sym, ap, subst, ◌∙◌}
use Rattle.std.specs.Prelude.{is_some}
use Rattle.std.specs.Bool.{if◌then◌else◌}
use Rattle.std.specs.Option.{option_map_or}
use Rattle.law_edits.specs.pr_base.Alike.{OptionAlike, both as both_there, neither}
use Rattle.law_edits.specs.pr_base.Paths.{dot, dot_dot, slash, text_of}
use Rattle.law_edits.specs.pr_base.Texts.{Text}
use Rattle.law_edits.specs.pr_base.WalkFrame.{here, may_be_free}
use Rattle.law_edits.specs.pr_base.declared.errno.Errno.TheVariants.{EISDIR}
use Rattle.law_edits.specs.pr_base.declared.path.Last.{Last}
use Rattle.law_edits.specs.pr_base.declared.path.Last.TheVariants as last
use Rattle.law_edits.proofs.pr_base.EndLemmas.{jump_is_shown}
use Rattle.law_edits.specs.pt_bind.Tags.{TagTable}
use Rattle.law_places.specs.pt_canon.declared.canon.Canon.{Canon}
use Rattle.law_edits.specs.pt_args.Purposes.{entry_swap, made_swap}
use Rattle.law_edits.specs.kr_calls.PathTable.{PathUse}
use Rattle.law_places.specs.kr_tree.Tree.{root}
use Rattle.law_places.specs.kr_tree.declared.place.Host.TheVariants.{Node}
use Rattle.law_places.specs.kr_tree.declared.place.Place.{Place}
use Rattle.law_places.proofs.kr_tree.NameLemmas.{some_is}
use Rattle.law_places.specs.kr_view.View.{Row, plain, root_place}
use Rattle.law_places.specs.kr_view.Walk.{PlaceTarget, looking}
use Rattle.law_places.proofs.kr_view.DirectoryLemmas.{slashes_end}
use Rattle.law_places.specs.kr_mounts.Standing.{texts_of}
use Rattle.law_places.specs.kr_model.HostView.{host_around_of}
use Rattle.law_places.specs.kr_model.ProcessDirectory.{space_of}
use Rattle.law_places.specs.kr_model.Seen.{OpensFound, OpensNew, OpensNoName, OpensSlashed}
use Rattle.law_places.specs.kr_model.State.{Image, State}
use Rattle.law_places.specs.kr_model.Walks.{created_at, if_name, looked_at}
use Rattle.law_edits.specs.law_allowed.Told.{HasGoodName}
use Rattle.law_places.specs.law_walks.Answers.{canon_told}
use Rattle.law_places.specs.law_walks.Facts.{AlikeWithoutName, CreatesAlike, EndsOn}
use Rattle.law_places.specs.law_walks.Handed.{handed_path}
use Rattle.law_places.specs.law_walks.Settled.{host_text}
use Rattle.law_places.specs.law_walks.Standing.{Stands, reached_in}
use Rattle.law_places.proofs.law_walks.FactLemmas.{found_is_told_alike}
use Rattle.law_places.proofs.law_walks.HandedLemmas.{text_target_named}
use Rattle.law_plans.specs.Begins.{LeadsBoth, StandTogether}
use Rattle.law_plans.specs.OnePath.{CreatesSame, EndsPlain, IsNewText, OpensSame}
use Rattle.law_plans.proofs.EntryLemmas.{named_canon, named_facts, named_last, named_new, named_slash, named_swap, unnamed_facts, unnamed_last, unnamed_new, unnamed_swap}
use Rattle.law_plans.proofs.LeadLemmas.{alike, answers, ends_in, found_text, host_names, same_canon, scene, texts, to_plain, told_alike}
use Rattle.law_plans.proofs.TextLemmas.{dot_dot_text, dot_text, new_names, new_root}

pub none_alike : {F G : Type 0} (Q : F → G → Type 0) (x : Option F) (y : Option G) → OptionAlike Q x y → x ≡ None → y ≡ None
none_alike Q _ _ neither h = refl
none_alike Q _ _ (both_there q) h = absurd cc

module _ (table : List Row) (tags : TagTable) (s w : State ℕ Image) (pid : ℕ) (u : PathUse) (opening : Bool) (both : StandTogether table tags s w) (lead : LeadsBoth table tags s w pid u opening) (free : may_be_free u.mode ≡ true) (good : HasGoodName s.tree lead.place) where
  abbrev place : PlaceTarget
  place = lead.place

  abbrev canon : Canon
  canon = lead.canon

  abbrev Same : Type 0
  Same = CreatesSame table s w pid place u (made_swap (texts_of table) canon canon.last)

  abbrev Opened : List ℕ → Type 0
  Opened text = EndsPlain w pid u text (OpensSame table s w pid place)

  -- told alike is told alike in the other state
  opens_same : (t : PlaceTarget) → CreatesAlike table s pid place t → OpensSame table s w pid place t
  opens_same t same = inl (sym ((told_alike table tags s w pid u both).created t) ∙ same)

  created_plain : (text : List ℕ) → IsNewText text → EndsOn s pid u.mode (root_place plain) text (CreatesAlike table s pid place) → Opened text
  created_plain text new on = to_plain table tags s w pid u both text (CreatesAlike table s pid place) (OpensSame table s w pid place) new on opens_same

  -- ---- a slash behind a name

  slashed_told : place.last ≡ last.Name → place.slash ≡ true → created_at table pid s place ≡ OpensSlashed
  slashed_told is slashed =
      ap (λ l. if_name l (if place.slash then OpensSlashed else option_map_or (λ p. OpensFound (looked_at table pid s place p)) place.found (OpensNew place.dir.host place.name)) (OpensNoName l)) is
      ∙ ap (λ b. if b then OpensSlashed else option_map_or (λ p. OpensFound (looked_at table pid s place p)) place.found (OpensNew place.dir.host place.name)) slashed

  slashed_same : place.last ≡ last.Name → place.slash ≡ true → canon.last ≡ last.Name → canon.slash ≡ true → Same
  slashed_same is slashed named behind =
      subst (CreatesSame table s w pid place u)
      (sym (ap (made_swap (texts_of table) canon) named ∙ ap (λ b. if b then Err EISDIR else if canon.exists then Ok canon.host else Ok (entry_swap (texts_of table) canon last.Name)) behind)) (refl, slashed_told is slashed)

  -- ---- what was found

  module _ (p : Place ℕ) (t : Text) (ea : place.found ≡ Some p) (eb : lead.text.found ≡ Some t) (stands : Stands (space_of table s) p t) (is : place.last ≡ last.Name) where
    abbrev h : Text
    h = host_text (space_of table s) t

    found_told : place.slash ≡ false → created_at table pid s place ≡ OpensFound (looked_at table pid s place p)
    found_told bare =
        ap (λ l. if_name l (if place.slash then OpensSlashed else option_map_or (λ p. OpensFound (looked_at table pid s place p)) place.found (OpensNew place.dir.host place.name)) (OpensNoName l)) is
        ∙ ap (λ b. if b then OpensSlashed else option_map_or (λ p. OpensFound (looked_at table pid s place p)) place.found (OpensNew place.dir.host place.name)) bare
        ∙ ap (λ o. option_map_or (λ p. OpensFound (looked_at table pid s place p)) o (OpensNew place.dir.host place.name)) ea

    -- the root of the host
    root_on : place.slash ≡ false → h ≡ [] → Opened (slash ∷ [])
    root_on bare none =
        let top : p.host ≡ Node root = sym (some_is (Node root) p.host (ap (reached_in (space_of table s)) (sym none) ∙ stands.way)) in
        to_plain table tags s w pid u both (slash ∷ []) (λ t. t ≡ here (looking (host_around_of s pid)) (root_place plain) false) (OpensSame table s w pid place) new_root
        (record {
          target = here (looking (host_around_of s pid)) (root_place plain) false;
          answer = ap (λ t. t.answer) (slashes_end (host_around_of s pid) u.mode (root_place plain) (slash ∷ []) (λ none. absurd cc) refl);
          same = refl;
        })
        (λ t same. inr (looked_at table pid s place p, last.Root, found_told bare, top, ap (created_at plain pid w) same))

    found_on : place.slash ≡ false → (host : Text) → h ≡ host → Opened (text_of h)
    found_on bare [] none = subst Opened (sym (ap text_of none)) (root_on bare none)
    found_on bare (name ∷ up) some =
        created_plain (text_of h) (new_names h (host_names table tags s w pid u opening both lead p t stands))
        ((found_is_told_alike table s pid u.mode (root_place plain) p place lead.text t (ends_in table tags s w pid u opening both lead) ea eb).created is bare (λ none. let clash : name ∷ up ≡ [] = sym some ∙ none in absurd cc))

    found_same : canon ≡ canon_told (texts_of table) t lead.text true → Same
    found_same told = by place.slash refl
      where
        named : canon.last ≡ last.Name
        named = ap (λ (c : Canon). c.last) told ∙ sym (alike table tags s w pid u opening both lead).last ∙ is

        behind : canon.slash ≡ place.slash
        behind = ap (λ (c : Canon). c.slash) told ∙ sym (alike table tags s w pid u opening both lead).slash

        by : (b : Bool) → place.slash ≡ b → Same
        by true slashed = slashed_same is slashed named (behind ∙ slashed)
        by false bare =
            subst (CreatesSame table s w pid place u)
            (sym
            (ap (made_swap (texts_of table) canon) named ∙ ap (λ b. if b then Err EISDIR else if canon.exists then Ok canon.host else Ok (entry_swap (texts_of table) canon last.Name)) (behind ∙ bare)
            ∙ ap (λ b. if b then Ok canon.host else Ok (entry_swap (texts_of table) canon last.Name)) (ap (λ (c : Canon). c.exists) told) ∙ ap (λ (c : Canon). Ok c.host) told))
            (found_on bare h refl)

  -- where a link of the process directory led
  landed_same : place.jumped ≡ true → Same
  landed_same jumped =
      let j = jump_is_shown _ _ (looking (scene table tags s w pid u opening both lead).around) u.mode lead.base u.text place lead.both.place jumped in
      let found : place.found ≡ Some j.3.found = ap (λ (t : PlaceTarget). t.found) j.5 in
      let is : place.last ≡ last.Name = ap (λ (t : PlaceTarget). t.last) j.5 in
      let q = found_text table tags s w pid u opening both lead j.3.found found in
      found_same j.3.found q.0 found q.1 q.2.stands is
      (same_canon table tags s w pid u opening both lead _ ((answers table tags s w pid u opening both lead).landed q.0 free (sym (alike table tags s w pid u opening both lead).jumped ∙ jumped) q.1))

  -- ---- where no such link was last

  module _ (jumped : place.jumped ≡ false) where
    abbrev path : List ℕ → List ℕ
    path part = handed_path (space_of table s) lead.text.dir part place.slash

    there_same : place.last ≡ last.Name → (p : Place ℕ) → place.found ≡ Some p → Same
    there_same is p found =
        let q = found_text table tags s w pid u opening both lead p found in
        let text = text_target_named (texts table tags s w pid u opening both lead) u.mode lead.start u.text lead.text q.0 lead.both.text (sym (alike table tags s w pid u opening both lead).jumped ∙ jumped)
        (sym (alike table tags s w pid u opening both lead).last ∙ is) q.1 in
        found_same p q.0 found q.1 q.2.stands is
        (named_canon table tags s w pid u opening both lead free jumped is ∙ ap (λ t. canon_told (texts_of table) t lead.text (is_some lead.text.found)) (sym text) ∙ ap (λ o. canon_told (texts_of table) q.0 lead.text (is_some o)) q.1)

    missing_same : place.last ≡ last.Name → place.found ≡ None → Same
    missing_same is none = by place.slash refl
      where
        named : canon.last ≡ last.Name
        named = named_last table tags s w pid u opening both lead free jumped is

        behind : canon.slash ≡ place.slash
        behind = named_slash table tags s w pid u opening both lead free jumped is

        missing : canon.exists ≡ false
        missing = ap (λ (c : Canon). c.exists) (named_canon table tags s w pid u opening both lead free jumped is) ∙ ap (λ o. is_some o) (none_alike _ place.found lead.text.found (alike table tags s w pid u opening both lead).found none)

        by : (b : Bool) → place.slash ≡ b → Same
        by true slashed = slashed_same is slashed named (behind ∙ slashed)
        by false bare =
            subst (CreatesSame table s w pid place u)
            (sym
            (ap (made_swap (texts_of table) canon) named ∙ ap (λ b. if b then Err EISDIR else if canon.exists then Ok canon.host else Ok (entry_swap (texts_of table) canon last.Name)) (behind ∙ bare)
            ∙ ap (λ b. if b then Ok canon.host else Ok (entry_swap (texts_of table) canon last.Name)) missing ∙ ap Ok (named_swap table tags s w pid u opening both lead free jumped is)))
            (created_plain (path place.name) (named_new table tags s w pid u opening both lead free jumped is good) ((named_facts table tags s w pid u opening both lead free jumped is).created none))

    named_same : place.last ≡ last.Name → Same
    named_same is = by place.found refl
      where
        by : (o : Option (Place ℕ)) → place.found ≡ o → Same
        by None found = missing_same is found
        by (Some p) found = there_same is p found

    unnamed_same : (at : List ℕ) → made_swap (texts_of table) canon canon.last ≡ Ok at → IsNewText at → EndsOn s pid u.mode (root_place plain) at (AlikeWithoutName table s pid place) → Same
    unnamed_same at swap_is new on =
        subst (CreatesSame table s w pid place u) (sym swap_is)
        (to_plain table tags s w pid u both at (AlikeWithoutName table s pid place) (OpensSame table s w pid place) new on (λ t same. opens_same t same.created))

    by_last : (l : Last) → place.last ≡ l → Same
    by_last last.Name is = named_same is
    by_last last.Dot is =
        let some : place.last ≢ last.Name = λ named. let clash : last.Dot ≡ last.Name = sym is ∙ named in absurd cc in
        unnamed_same (path dot)
        (ap (made_swap (texts_of table) canon) (unnamed_last table tags s w pid u opening both lead free jumped some last.Dot is) ∙ ap Ok (unnamed_swap table tags s w pid u opening both lead free jumped some dot))
        (unnamed_new table tags s w pid u opening both lead free jumped some dot dot_text) ((unnamed_facts table tags s w pid u opening both lead free jumped).dot is)
    by_last last.DotDot is =
        let some : place.last ≢ last.Name = λ named. let clash : last.DotDot ≡ last.Name = sym is ∙ named in absurd cc in
        unnamed_same (path dot_dot)
        (ap (made_swap (texts_of table) canon) (unnamed_last table tags s w pid u opening both lead free jumped some last.DotDot is) ∙ ap Ok (unnamed_swap table tags s w pid u opening both lead free jumped some dot_dot))
        (unnamed_new table tags s w pid u opening both lead free jumped some dot_dot dot_dot_text) ((unnamed_facts table tags s w pid u opening both lead free jumped).dot_dot is)
    by_last last.Root is =
        let some : place.last ≢ last.Name = λ named. let clash : last.Root ≡ last.Name = sym is ∙ named in absurd cc in
        unnamed_same (slash ∷ []) (ap (made_swap (texts_of table) canon) (unnamed_last table tags s w pid u opening both lead free jumped some last.Root is)) new_root
        ((unnamed_facts table tags s w pid u opening both lead free jumped).root is)

  pub created_same : Same
  created_same = by place.jumped refl
    where
      by : (b : Bool) → place.jumped ≡ b → Same
      by true jumped = landed_same jumped
      by false jumped = by_last jumped place.last refl
