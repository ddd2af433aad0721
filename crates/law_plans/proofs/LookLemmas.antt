-- A path that is looked up: the plain kernel is told the same along the host text of what the tracer found.
use Rattle.std.proofs.Common.{◌≡◌, ℕ, Bool, false, List, sym, ap, subst}
use Rattle.law_edits.specs.pr_base.Paths.{text_of}
use Rattle.law_edits.specs.pr_base.WalkFrame.{may_be_free}
use Rattle.law_edits.specs.pt_bind.Tags.{TagTable}
use Rattle.law_places.specs.pt_canon.declared.canon.Canon.{Canon}
use Rattle.law_edits.specs.kr_calls.PathTable.{PathUse}
use Rattle.law_places.specs.kr_view.View.{Row, is_there, plain, root_place}
use Rattle.law_places.specs.kr_model.ProcessDirectory.{space_of}
use Rattle.law_places.specs.kr_model.State.{Image, State}
use Rattle.law_places.specs.law_walks.Facts.{LooksUpAlike}
use Rattle.law_places.specs.law_walks.Settled.{host_text}
use Rattle.law_places.proofs.law_walks.FactLemmas.{found_is_told_alike}
use Rattle.law_plans.specs.Begins.{LeadsBoth, StandTogether}
use Rattle.law_plans.specs.OnePath.{EndsPlain, IsLookedUp, LooksUpSame}
use Rattle.law_plans.proofs.LeadLemmas.{answers, ends_in, found_text, found_there, host_names, looks_same, same_canon, to_plain}
use Rattle.law_plans.proofs.TextLemmas.{new_names}

module _ (table : List Row) (tags : TagTable) (s w : State ℕ Image) (pid : ℕ) (u : PathUse) (opening : Bool) (both : StandTogether table tags s w) (lead : LeadsBoth table tags s w pid u opening) (must : may_be_free u.mode ≡ false) where
  pub looked_up : IsLookedUp table tags s w pid u opening lead
  looked_up =
      let p = found_there table tags s w pid u opening both lead must in
      let q = found_text table tags s w pid u opening both lead p.0 p.1 in
      let canon = same_canon table tags s w pid u opening both lead _ ((answers table tags s w pid u opening both lead).looked q.0 must q.1) in
      let on = (found_is_told_alike table s pid u.mode (root_place plain) p.0 lead.place lead.text q.0 (ends_in table tags s w pid u opening both lead) p.1 q.1).looked in
      record {
        there = ap is_there p.1;
        same = subst (λ text. EndsPlain w pid u text (LooksUpSame table s w pid lead.place)) (sym (ap (λ (c : Canon). c.host) canon))
            (to_plain table tags s w pid u both (text_of (host_text (space_of table s) q.0)) (LooksUpAlike table s pid lead.place) (LooksUpSame table s w pid lead.place)
            (new_names (host_text (space_of table s) q.0) (host_names table tags s w pid u opening both lead p.0 q.0 q.2.stands)) on (looks_same table tags s w pid u both lead.place));
      }
