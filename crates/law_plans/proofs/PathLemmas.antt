-- Where paths lead for a tracer and for the kernel with mounts.
use Rattle.std.proofs.Common.{◌≡◌, ℕ, Bool, List, [], ◌∷◌, Option, Some, Result, Ok, Err, refl, sym, ap, ◌∙◌}
use Rattle.law_edits.specs.pr_base.Alike.{Alike, ends, errs}
use Rattle.law_edits.specs.pr_base.Paths.{text_of}
use Rattle.law_edits.specs.pr_base.Texts.{Text}
use Rattle.law_edits.specs.pr_base.WalkFrame.{Target}
use Rattle.law_edits.specs.pr_base.declared.errno.Errno.{Errno}
use Rattle.law_edits.specs.pt_bind.Binding.{names_of}
use Rattle.law_edits.specs.pt_bind.Tags.{TagTable}
use Rattle.law_places.specs.pt_canon.Canon.{canon_at, canon_of, canon_result, ending_of}
use Rattle.law_places.specs.pt_canon.TextWalk.{TextSurroundings, text_walk}
use Rattle.law_places.specs.pt_canon.declared.canon.Canon.{Canon}
use Rattle.law_edits.specs.pt_args.Bases as traced_bases
use Rattle.law_edits.specs.pt_args.Walks as traced
use Rattle.law_edits.specs.pt_args.Walks.{reached_at, walked_along, walked_from}
use Rattle.law_edits.specs.pt_args.declared.reached.Reached.{Reached}
use Rattle.law_edits.specs.kr_calls.PathTable.{PathUse}
use Rattle.law_places.specs.kr_tree.declared.place.Place.{Place}
use Rattle.law_places.specs.kr_view.View.{Row, plain}
use Rattle.law_places.specs.kr_view.Walk.{PlaceTarget, place_walk}
use Rattle.law_places.specs.kr_mounts.Standing.{texts_of}
use Rattle.law_places.specs.kr_model.ProcessDirectory.{around_of, space_of}
use Rattle.law_places.specs.kr_model.State.{Image, State}
use Rattle.law_places.specs.kr_model.Walks.{and_then, base_of, walked}
use Rattle.law_places.specs.law_walks.Scene.{IsMatched, Scene}
use Rattle.law_places.specs.law_walks.Standing.{StandsOn, likeness}
use Rattle.law_places.specs.law_walks.States.{scene_of}
use Rattle.law_places.proofs.law_walks.AgreeLemmas.{walks_agree}
use Rattle.law_places.proofs.MatchLemmas.{matches_are_matched}
use Rattle.law_plans.specs.Begins.{BaseAgrees, BaseOn, Fails, FailsSo, IsEmpty, Leads, LostBase, NoBase, PathAgrees, PathsAgree, StandTogether, Stays, told_texts}
use Rattle.law_plans.proofs.BaseLemmas.{bases_agree}

module _ (table : List Row) (tags : TagTable) (s w : State ℕ Image) (pid : ℕ) (u : PathUse) (opening : Bool) (both : StandTogether table tags s w) where
  abbrev texts : TextSurroundings
  texts = told_texts table s pid tags

  abbrev scene : Scene
  scene = scene_of table s pid tags

  abbrev Agrees : Type 0
  Agrees = PathAgrees table tags s w pid u opening

  pub matched : IsMatched scene
  matched = matches_are_matched table tags s w pid both.matched both.small

  -- ---- a path that isn't empty

  module _ (byte : ℕ) (path : List ℕ) (is : u.text ≡ byte ∷ path) where
    abbrev behind_base : Result (Option (List ℕ)) Errno → Result (Option Reached) Errno
    behind_base b = traced.and_then b (walked_from texts opening u)

    abbrev behind_place : List Row → State ℕ Image → Result (Place ℕ) Errno → Result (Option PlaceTarget) Errno
    behind_place rows x b = and_then b (λ base. and_then (place_walk (around_of rows pid x) u.mode base u.text).answer (λ target. Ok (Some target)))

    text_is : traced.walked texts pid opening u ≡ behind_base (traced_bases.base_of texts pid u)
    text_is = ap (walked_along texts pid opening u) is

    place_is : (rows : List Row) (x : State ℕ Image) → walked rows pid x u u.text ≡ behind_place rows x (base_of rows pid x u)
    place_is rows x =
        ap (walked rows pid x u) is
        ∙ sym (ap (λ path. and_then (base_of rows pid x u) (λ base. and_then (place_walk (around_of rows pid x) u.mode base path).answer (λ target. Ok (Some target)))) is)

    -- from a place and the guest text at which it stands
    module _ (p : Place ℕ) (t : Text) (begins : traced_bases.base_of texts pid u ≡ Ok (Some (text_of t))) (begun : base_of table pid s u ≡ Ok p) (on : StandsOn (space_of table s) p t) (read : names_of (text_of t) ≡ t) where
      abbrev reach : Result Canon Errno → Result (Option Reached) Errno
      reach c = traced.and_then c (λ canon. Ok (Some (reached_at u opening canon)))

      text_walked : (y : Result (Target Text Text) Errno) → (text_walk texts u.mode t u.text).answer ≡ y → traced.walked texts pid opening u ≡ reach (canon_result (texts_of table) u.mode y)
      text_walked y e = text_is ∙ ap behind_base begins ∙ ap (λ t. reach (canon_of texts u.mode t u.text)) read ∙ ap (λ y. reach (canon_result (texts_of table) u.mode y)) e

      place_walked : (x : Result PlaceTarget Errno) → (place_walk (around_of table pid s) u.mode p u.text).answer ≡ x → walked table pid s u u.text ≡ and_then x (λ target. Ok (Some target))
      place_walked x e = place_is table s ∙ ap (behind_place table s) begun ∙ ap (λ x. and_then x (λ target. Ok (Some target))) e

      by_ends : (x : Result PlaceTarget Errno) (y : Result (Target Text Text) Errno) → (place_walk (around_of table pid s) u.mode p u.text).answer ≡ x → (text_walk texts u.mode t u.text).answer ≡ y
          → Alike (likeness (space_of table s) u.mode) x y → Agrees
      by_ends _ _ ex ey (ends {a = a} {b = b} h) =
          Leads
          (record {
            place = a;
            text = b;
            canon = canon_at (texts_of table) (ending_of u.mode b);
            base = p;
            start = t;
            both = record { matched = matched; stands = on; some = λ none. let clash : byte ∷ path ≡ [] = sym is ∙ none in absurd cc; place = ex; text = ey };
            answers = ap (canon_result (texts_of table) u.mode) ey;
            reached = text_walked (Ok b) ey;
            target = place_walked (Ok a) ex;
          })
      by_ends _ _ ex ey (errs e) = Fails e (text_walked (Err e) ey) (place_walked (Err e) ex)

      from_base : Agrees
      from_base = by_ends _ _ refl refl (walks_agree scene u.mode p t u.text matched on)

    by_base : BaseAgrees table tags s w pid u → Agrees
    by_base (NoBase e t k l) =
        Stays (text_is ∙ ap behind_base t) (FailsSo e (place_is table s ∙ ap (behind_place table s) k) (place_is plain w ∙ ap (behind_place plain w) l))
    by_base (LostBase e t k) = Fails e (text_is ∙ ap behind_base t) (place_is table s ∙ ap (behind_place table s) k)
    by_base (BaseOn p t begins begun on read) = from_base p t begins begun on read

  path_agrees : Agrees
  path_agrees = by u.text refl
    where
      by : (x : List ℕ) → u.text ≡ x → Agrees
      by [] e = Stays (ap (walked_along texts pid opening u) e) (IsEmpty e)
      by (byte ∷ path) e = by_base byte path e (bases_agree table tags s w pid u both)

pub paths_agree : PathsAgree
paths_agree table tags s w pid u opening both = path_agrees table tags s w pid u opening both
