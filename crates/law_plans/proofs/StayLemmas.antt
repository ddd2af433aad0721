-- Calls whose first path stays as it is, and calls of which the walk of the first path fails.
use Rattle.std.proofs.Common.{◌≡◌, ◌≢◌, ℕ, Bool, true, false, List, [], ◌∷◌, Option, Some, None, Result, Ok, Err, refl, sym, ap, subst, ◌∙◌}
use Rattle.std.specs.Option.{option_map_or}
use Rattle.law_edits.specs.pr_base.declared.errno.Errno.{Errno}
use Rattle.law_edits.specs.pt_bind.Tags.{TagTable}
use Rattle.law_edits.specs.pt_args.Purposes.{opens}
use Rattle.law_edits.specs.kr_calls.PathTable.{PathUse, path_at}
use Rattle.law_edits.specs.kr_calls.declared.request.Request.{Request}
use Rattle.law_edits.specs.kr_calls.declared.request.Request.TheVariants as call
use Rattle.law_places.specs.kr_tree.Lawful.{IsOfBytes}
use Rattle.law_places.specs.kr_tree.Tree.{Inode, SymbolicLink, body, inode}
use Rattle.law_places.proofs.kr_tree.NameLemmas.{map_some}
use Rattle.law_places.specs.kr_view.View.{Row, plain}
use Rattle.law_places.specs.kr_view.Walk.{PlaceTarget}
use Rattle.law_edits.specs.law_allowed.Texts.{LinksHaveTexts}
use Rattle.law_places.specs.kr_model.Bare.{bare_mounts}
use Rattle.law_places.specs.kr_model.Known.{Known, known}
use Rattle.law_places.specs.kr_model.Lawful.{IsLawful}
use Rattle.law_places.specs.kr_model.Operation.{form, operation}
use Rattle.law_places.specs.kr_model.ProcessDirectory.{around_of}
use Rattle.law_places.specs.kr_model.Reply.{refuse}
use Rattle.law_places.specs.kr_model.Seen.{NoPath, WalkFails}
use Rattle.law_places.specs.kr_model.State.{Image, State, image_layout}
use Rattle.law_places.specs.kr_model.Walks.{and_then, seen, seen_of, targets_of, told, walked}
use Rattle.law_edits.specs.law_allowed.Calls.{HasTextPaths}
use Rattle.law_edits.specs.law_allowed.Told.{HasGoodName, mounts_walked}
use Rattle.law_edits.proofs.kr_perform.AroundLemmas.{leads_texts, of_walk}
use Rattle.law_edits.proofs.kr_perform.NamingLemmas.{good_name}
use Rattle.law_edits.proofs.kr_perform.RefusedLemmas.{form-refuses, goes_along}
use Rattle.law_edits.proofs.kr_perform.TextLemmas.{IsTextByte, text_bytes}
use Rattle.std.specs.List.{All}
use Rattle.law_plans.specs.Begins.{Fails, FailsSo, IsEmpty, Leads, LeadsBoth, PathAgrees, StaysSo, Stays}
use Rattle.law_plans.specs.Plans.{Cancelling, IsPassed, IsPlanned, Passing, PlanAgrees}
use Rattle.law_plans.proofs.PathLemmas.{paths_agree}
use Rattle.law_plans.proofs.PlanLemmas.{edit_is, only, targets_only, targets_then}

-- ---- what is told of no target, and of a walk that fails

told_none : (rows : List Row) (pid : ℕ) (x : State ℕ Image) (r : Request) (u : PathUse) → path_at r 0 ≡ Some u → told rows pid x r (only None) ≡ NoPath
told_none rows pid x (call.Getcwd buf size) u at = absurd cc
told_none rows pid x _ u at = refl

text_is : (u v : PathUse) → Some u ≡ Some v → u.text ≡ v.text
text_is u v e = ap (λ o. option_map_or (λ (u : PathUse). u.text) o []) e

-- a call with a first path that isn't empty goes along it
not_along : (pid : ℕ) (r : Request) (u : PathUse) (k : Known) → path_at r 0 ≡ Some u → u.text ≢ [] → goes_along (form pid r k) ≡ false → ⊥
not_along pid (call.Fchownat dirfd [] uid gid flags) u k at some along = some (sym (text_is _ u at))
not_along pid (call.Fchownat dirfd (b ∷ path) uid gid flags) u k at some along = cc
not_along pid (call.Newfstatat dirfd [] buf flags) u k at some along = some (sym (text_is _ u at))
not_along pid (call.Newfstatat dirfd (b ∷ path) buf flags) u k at some along = cc
not_along pid _ u k at some along = cc

pub walk_refused : (pid : ℕ) (r : Request) (u : PathUse) (e : Errno) (k : Known) → path_at r 0 ≡ Some u → u.text ≢ [] → operation pid r (WalkFails e) k ≡ refuse e
walk_refused pid r u e k at some = by (goes_along (form pid r k)) refl
  where
    by : (b : Bool) → goes_along (form pid r k) ≡ b → operation pid r (WalkFails e) k ≡ refuse e
    by true along = form-refuses (form pid r k) e along
    by false along = absurd (not_along pid r u k at some along)

-- a path that was walked isn't empty
walked_some : (rows : List Row) (pid : ℕ) (x : State ℕ Image) (u : PathUse) (e : Errno) → walked rows pid x u u.text ≡ Err e → u.text ≢ []
walked_some rows pid x u e fails none = let clash : ◌≡◌ {A = Result (Option PlaceTarget) Errno} (Ok None) (Err e) = sym (ap (walked rows pid x u) none) ∙ fails in absurd cc

-- ---- names of targets are good

module _ (table : List Row) (pid : ℕ) (s : State ℕ Image) (lawful : IsLawful (λ m. m) table s) (links : LinksHaveTexts s.tree) where
  link_bytes : (i : ℕ) (text : List ℕ) → body s.tree i ≡ Some (SymbolicLink text) → All IsTextByte text
  link_bytes i text is =
      let x = map_some (λ (x : Inode). x.node.body) (inode s.tree i) (SymbolicLink text) is in
      text_bytes text (links i text is) (subst IsOfBytes x.2 (lawful.tree.bytes i x.0 x.1))

  pub path_good : (r : Request) → HasTextPaths r → (n : ℕ) (u : PathUse) → path_at r n ≡ Some u → (a : PlaceTarget) → walked table pid s u u.text ≡ Ok (Some a) → HasGoodName s.tree a
  path_good r texts n u at a is =
      of_walk table s lawful pid (λ w. HasGoodName s.tree w) a (Some u)
      (λ x base one stands ends.
      let text = texts n x (at ∙ one) in
      good_name (around_of table pid s) x.mode base x.text a stands ends (text_bytes x.text text.0 text.1) link_bytes (leads_texts table s lawful pid)) is

-- ---- the first path

module _ (table : List Row) (tags : TagTable) (s w : State ℕ Image) (pid : ℕ) (r : Request) (u : PathUse) (planned : IsPlanned table tags s w pid r) (at : path_at r 0 ≡ Some u) where
  -- an empty path is a call's only one
  module _ (empty_alone : u.text ≡ [] → path_at r 1 ≡ None) where
    stays_empty : u.text ≡ [] → IsPassed table s w pid r
    stays_empty none =
        let of : (rows : List Row) (x : State ℕ Image) → targets_of rows pid x r ≡ Ok (only None) = λ rows x. targets_only rows pid x r u at (empty_alone none) ∙ ap (λ o. and_then o (λ first. Ok (only first))) (ap (walked rows pid x u) none) in
        record {
          told = ap (seen_of table pid s r) (of table s) ∙ told_none table pid s r u at ∙ sym (ap (seen_of plain pid w r) (of plain w) ∙ told_none plain pid w r u at);
          mounts = ap (λ targets. bare_mounts (mounts_walked targets)) (of table s) ∙ sym (ap (λ targets. bare_mounts (mounts_walked targets)) (of plain w));
        }

    stays_alike : StaysSo table tags s w pid u → IsPassed table s w pid r
    stays_alike (IsEmpty none) = stays_empty none
    stays_alike (FailsSo e k l) =
        let one = targets_then table pid s r u at (Err e) k in
        let other = targets_then plain pid w r u at (Err e) l in
        record {
          told = ap (seen_of table pid s r) one ∙ sym (ap (seen_of plain pid w r) other);
          mounts = ap (λ targets. bare_mounts (mounts_walked targets)) one ∙ sym (ap (λ targets. bare_mounts (mounts_walked targets)) other);
        }

    fails_alike : (e : Errno) → walked table pid s u u.text ≡ Err e → operation pid r (seen table pid s r) (known image_layout pid s) ≡ refuse e
    fails_alike e fails =
        ap (λ targets. operation pid r (seen_of table pid s r targets) (known image_layout pid s)) (targets_then table pid s r u at (Err e) fails)
        ∙ walk_refused pid r u e (known image_layout pid s) at (walked_some table pid s u e fails)

    pub by_first : (LeadsBoth table tags s w pid u (opens r) → PlanAgrees table tags s w pid r) → PlanAgrees table tags s w pid r
    by_first leads = by (paths_agree table tags s w pid u (opens r) planned.together)
      where
        by : PathAgrees table tags s w pid u (opens r) → PlanAgrees table tags s w pid r
        by (Stays is so) = Passing (λ sp usable. edit_is table tags s pid r u at sp usable (Ok None) is) (stays_alike so)
        by (Fails e is fails) = Cancelling e (λ sp usable. edit_is table tags s pid r u at sp usable (Err e) is) (fails_alike e fails) (λ _. (e, ap (seen_of table pid s r) (targets_then table pid s r u at (Err e) fails)))
        by (Leads lead) = leads lead

  pub lead_good : (lead : LeadsBoth table tags s w pid u (opens r)) → HasGoodName s.tree lead.place
  lead_good lead = path_good table pid s planned.together.matched.placed.lawful planned.links r planned.texts 0 u at lead.place lead.target
