-- A path whose last component isn't followed: the plain kernel is told the same of an entry that is made or taken away, and the name
-- of a mount point is known to the tracer.
use Rattle.std.proofs.Common.{◌≡◌, ◌≢◌, ℕ, Bool, true, false, List, [], ◌∷◌, Option, refl, sym, ap, subst, ◌∙◌}
use Rattle.std.specs.Prelude.{is_some}
use Rattle.law_edits.specs.pr_base.Alike.{OptionAlike, both as both_there, neither}
use Rattle.law_edits.specs.pr_base.Paths.{dot, dot_dot, slash}
use Rattle.law_edits.specs.pr_base.WalkFrame.{may_be_free}
use Rattle.law_edits.specs.pr_base.declared.path.Last.{Last}
use Rattle.law_edits.specs.pr_base.declared.path.Last.TheVariants as last
use Rattle.law_edits.specs.pr_base.declared.path.WalkMode.TheVariants as modes
use Rattle.law_edits.specs.pt_bind.Tags.{TagTable}
use Rattle.law_places.specs.pt_canon.declared.canon.Canon.{Canon}
use Rattle.law_edits.specs.pt_args.Points.{is_at_point}
use Rattle.law_edits.specs.pt_args.Purposes.{entry_swap}
use Rattle.law_edits.specs.kr_calls.PathTable.{PathUse}
use Rattle.law_places.specs.kr_view.View.{Row, is_there, plain, root_place}
use Rattle.law_places.specs.kr_view.Walk.{PlaceTarget, looking, place_walk}
use Rattle.law_places.specs.kr_mounts.Standing.{texts_of}
use Rattle.law_places.specs.kr_model.ProcessDirectory.{space_of}
use Rattle.law_places.specs.kr_model.State.{Image, State}
use Rattle.law_edits.specs.law_allowed.Told.{HasGoodName}
use Rattle.law_places.proofs.kr_view.StayingLemmas.{names-stay}
use Rattle.law_places.specs.law_walks.Facts.{AlikeWithoutName, EndsOn, MakesAlike, TakesAlike}
use Rattle.law_places.specs.law_walks.Handed.{handed_path}
use Rattle.law_plans.specs.Begins.{LeadsBoth, StandTogether}
use Rattle.law_plans.specs.OnePath.{EndsPlain, IsEntry, IsNewText, MakesSame, TakesSame}
use Rattle.law_plans.proofs.EntryLemmas.{named_canon, named_facts, named_last, named_new, named_point, named_swap, unnamed_canon, unnamed_facts, unnamed_last, unnamed_new, unnamed_swap}
use Rattle.law_plans.proofs.LeadLemmas.{alike, makes_same, scene, takes_same, to_plain}
use Rattle.law_plans.proofs.TextLemmas.{dot_dot_text, dot_text, new_root}

pub there_alike : {F G : Type 0} (Q : F → G → Type 0) (x : Option F) (y : Option G) → OptionAlike Q x y → is_some y ≡ is_there x
there_alike Q _ _ neither = refl
there_alike Q _ _ (both_there q) = refl

module _ (table : List Row) (tags : TagTable) (s w : State ℕ Image) (pid : ℕ) (u : PathUse) (opening : Bool) (both : StandTogether table tags s w) (lead : LeadsBoth table tags s w pid u opening) (named : u.mode ≡ modes.Name) (good : HasGoodName s.tree lead.place) where
  abbrev place : PlaceTarget
  place = lead.place

  abbrev Made : List ℕ → Type 0
  Made text = EndsPlain w pid u text (MakesSame table s w pid place)

  abbrev Taken : List ℕ → Type 0
  Taken text = EndsPlain w pid u text (TakesSame table s w pid place)

  abbrev swap : List ℕ
  swap = entry_swap (texts_of table) lead.canon lead.canon.last

  abbrev path : List ℕ → List ℕ
  path part = handed_path (space_of table s) lead.text.dir part place.slash

  free : may_be_free u.mode ≡ true
  free = ap may_be_free named

  jumped : place.jumped ≡ false
  jumped =
      names-stay (looking (scene table tags s w pid u opening both lead).around) lead.base u.text place
      (ap (λ m. (place_walk (scene table tags s w pid u opening both lead).around m lead.base u.text).answer) (sym named) ∙ lead.both.place)

  by_name : place.last ≡ last.Name → IsEntry table tags s w pid u opening lead
  by_name is =
      let at = path place.name in
      let swap_is : swap ≡ at = ap (entry_swap (texts_of table) lead.canon) (named_last table tags s w pid u opening both lead free jumped is) ∙ named_swap table tags s w pid u opening both lead free jumped is in
      let point_is = ap (is_at_point (texts_of table) lead.canon) (named_last table tags s w pid u opening both lead free jumped is) ∙ named_point table tags s w pid u opening both lead free jumped is in
      let new : IsNewText at = named_new table tags s w pid u opening both lead free jumped is good in
      let facts = named_facts table tags s w pid u opening both lead free jumped is in
      record {
        made = subst Made (sym swap_is)
            (to_plain table tags s w pid u both at (MakesAlike table s pid place) (MakesSame table s w pid place) new (subst (λ m. EndsOn s pid m (root_place plain) at (MakesAlike table s pid place)) (sym named) facts.made)
            (makes_same table tags s w pid u both place));
        taken = λ off. subst Taken (sym swap_is)
            (to_plain table tags s w pid u both at (TakesAlike table s pid place) (TakesSame table s w pid place) new
            (subst (λ m. EndsOn s pid m (root_place plain) at (TakesAlike table s pid place)) (sym named) (facts.taken (sym point_is ∙ off))) (takes_same table tags s w pid u both place));
        covered = λ on. facts.covered (sym point_is ∙ on);
        exists = λ is. ap (λ (c : Canon). c.exists) (named_canon table tags s w pid u opening both lead free jumped is) ∙ there_alike _ place.found lead.text.found (alike table tags s w pid u opening both lead).found;
        unnamed = λ some. absurd (some is);
      }

  unnamed_entry : (some : place.last ≢ last.Name) (at : List ℕ) → swap ≡ at → is_at_point (texts_of table) lead.canon lead.canon.last ≡ false → IsNewText at → EndsOn s pid u.mode (root_place plain) at (AlikeWithoutName table s pid place)
      → IsEntry table tags s w pid u opening lead
  unnamed_entry some at swap_is off new on = record {
    made = subst Made (sym swap_is) (to_plain table tags s w pid u both at (AlikeWithoutName table s pid place) (MakesSame table s w pid place) new on (λ t same. makes_same table tags s w pid u both place t same.made));
    taken = λ _. subst Taken (sym swap_is) (to_plain table tags s w pid u both at (AlikeWithoutName table s pid place) (TakesSame table s w pid place) new on (λ t same. takes_same table tags s w pid u both place t same.taken));
    covered = λ point. let clash : false ≡ true = sym off ∙ point in absurd cc;
    exists = λ is. absurd (some is);
    unnamed = λ _. ap (λ (c : Canon). c.exists) (unnamed_canon table tags s w pid u opening both lead free jumped some);
  }

  by_last : (l : Last) → place.last ≡ l → IsEntry table tags s w pid u opening lead
  by_last last.Name is = by_name is
  by_last last.Dot is =
      let some : place.last ≢ last.Name = λ named. let clash : last.Dot ≡ last.Name = sym is ∙ named in absurd cc in
      let l = unnamed_last table tags s w pid u opening both lead free jumped some last.Dot is in
      unnamed_entry some (path dot) (ap (entry_swap (texts_of table) lead.canon) l ∙ unnamed_swap table tags s w pid u opening both lead free jumped some dot) (ap (is_at_point (texts_of table) lead.canon) l)
      (unnamed_new table tags s w pid u opening both lead free jumped some dot dot_text) ((unnamed_facts table tags s w pid u opening both lead free jumped).dot is)
  by_last last.DotDot is =
      let some : place.last ≢ last.Name = λ named. let clash : last.DotDot ≡ last.Name = sym is ∙ named in absurd cc in
      let l = unnamed_last table tags s w pid u opening both lead free jumped some last.DotDot is in
      unnamed_entry some (path dot_dot) (ap (entry_swap (texts_of table) lead.canon) l ∙ unnamed_swap table tags s w pid u opening both lead free jumped some dot_dot) (ap (is_at_point (texts_of table) lead.canon) l)
      (unnamed_new table tags s w pid u opening both lead free jumped some dot_dot dot_dot_text) ((unnamed_facts table tags s w pid u opening both lead free jumped).dot_dot is)
  by_last last.Root is =
      let some : place.last ≢ last.Name = λ named. let clash : last.Root ≡ last.Name = sym is ∙ named in absurd cc in
      let l = unnamed_last table tags s w pid u opening both lead free jumped some last.Root is in
      unnamed_entry some (slash ∷ []) (ap (entry_swap (texts_of table) lead.canon) l) (ap (is_at_point (texts_of table) lead.canon) l) new_root ((unnamed_facts table tags s w pid u opening both lead free jumped).root is)

  pub is_entry : IsEntry table tags s w pid u opening lead
  is_entry = by_last place.last refl
