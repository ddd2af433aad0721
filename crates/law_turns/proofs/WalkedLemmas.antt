-- A call's walk begins at a place that stands at a guest text, and the walk over texts from there ends with it.
use Rattle.std.proofs.Common.{◌≡◌, ℕ, Bool, true, false, List, [], ◌∷◌, length, Option, Some, None, Result, Ok, Err, refl, ap, subst, ◌∙◌}
use Rattle.std.specs.Prelude.{◌||◌, ◌==◌, not}
use Rattle.std.specs.Bool.{if◌then◌else◌}
use Rattle.std.specs.Option.{option_map, option_map_or}
use Rattle.kr_core.specs.pr_base.Paths.{is_absolute}
use Rattle.kr_core.specs.pr_base.Texts.{Text}
use Rattle.kr_core.specs.pr_base.WalkFrame.{Target}
use Rattle.kr_core.specs.pr_base.declared.errno.Errno.{Errno}
use Rattle.kr_core.specs.pr_base.declared.errno.Errno.TheVariants.{EBADF, ENOENT, ENOTDIR}
use Rattle.kr_core.specs.pr_base.declared.path.WalkMode.{WalkMode}
use Rattle.kr_core.proofs.pr_base.AlikeLemmas.{alike_ok}
use Rattle.pt_results.specs.pt_bind.Tags.{TagTable}
use Rattle.law_places.specs.pt_canon.TextWalk.{text_walk}
use Rattle.pt_results.specs.kr_calls.PathTable.{PathUse, path_at}
use Rattle.pt_results.specs.kr_calls.declared.request.Request.{Request}
use Rattle.kr_core.specs.kr_tree.declared.place.Place.{Place}
use Rattle.kr_core.proofs.kr_tree.NameLemmas.{some_is, then_some}
use Rattle.law_places.specs.kr_files.Descriptors.{Named}
use Rattle.law_places.specs.kr_files.Files.{file_at}
use Rattle.law_places.specs.kr_files.declared.opened.Opened.{Opened}
use Rattle.law_places.specs.kr_view.Component.{Namespace}
use Rattle.law_places.specs.kr_view.Living.{Each, HasSmallNumbers}
use Rattle.law_places.specs.kr_view.View.{Row, root_place}
use Rattle.law_places.specs.kr_view.Walk.{PlaceTarget, place_walk}
use Rattle.law_places.specs.kr_model.Applied.{cwd_of}
use Rattle.law_places.specs.kr_model.Asking.{descriptor_number, is_working_directory}
use Rattle.law_places.specs.kr_model.FileRows.{is_dir}
use Rattle.law_places.specs.kr_model.ProcessDirectory.{around_of, living_of, space_of}
use Rattle.law_places.specs.kr_model.State.{Image, Process, State, named, opened, process}
use Rattle.law_places.specs.kr_model.Walks.{Targets, and_then, base_of, place_of_descriptor, place_of_open, target_at, targets_of, walked}
use Rattle.law_places.specs.law_walks.Handed.{BothEnd}
use Rattle.law_places.specs.law_walks.Scene.{IsMatched, Scene, texts_in}
use Rattle.law_places.specs.law_walks.Standing.{StandsOn, likeness}
use Rattle.law_places.specs.law_walks.States.{scene_of}
use Rattle.law_places.proofs.law_walks.AgreeLemmas.{walks_agree}
use Rattle.law_places.proofs.law_walks.StandingLemmas.{roots_stand}
use Rattle.law_places.proofs.law_walks.StateLemmas.{states_are_matched}
use Rattle.law_places.specs.Matching.{AreTagged}
use Rattle.law_places.specs.Standing.{PlacesStand}
use Rattle.law_places.specs.Uses.{cwd_use, is_cwd, is_open, open_use}
use Rattle.law_places.proofs.MatchLemmas.{tagged_places_are_placed}

ok_is : {A : Type 0} (a b : A) → ◌≡◌ {A = Result A Errno} (Ok a) (Ok b) → a ≡ b
ok_is a b e = cc

-- ---- results of one step and the next

then_ok : {A : Type 0} (o : Result A Errno) (a : A) → and_then o (λ x. Ok (Some x)) ≡ Ok (Some a) → o ≡ Ok a
then_ok (Ok x) a e = let same : x ≡ a = some_is x a (ok_is (Some x) (Some a) e) in ap Ok same
then_ok (Err x) a e = absurd cc

module _ (targets : Targets) where
  both_ok : (o q : Result (Option PlaceTarget) Errno) → and_then o (λ first. and_then q (λ second. Ok (record { first = first; second = second }))) ≡ Ok targets → (o ≡ Ok targets.first) × (q ≡ Ok targets.second)
  both_ok (Ok first) (Ok second) e =
      let same : ◌≡◌ {A = Targets} (record { first = first; second = second }) targets = ok_is _ targets e in (ap (λ (t : Targets). Ok t.first) same, ap (λ (t : Targets). Ok t.second) same)
  both_ok (Ok first) (Err x) e = absurd cc
  both_ok (Err x) q e = absurd cc

-- a walk over places that ended, with one over guest texts
pub record Walked (scene : Scene) (mode : WalkMode) (path : List ℕ) (a : PlaceTarget) : Type 0 where
  pub base : Place ℕ
  pub guest : Text
  pub target : Target Text Text
  pub both : BothEnd scene mode base guest path a target

module _ (table : List Row) (pid : ℕ) (t : State ℕ Image) (tags : TagTable) (stand : PlacesStand table t) (tagged : AreTagged table t tags) (small : Each HasSmallNumbers (living_of t)) where
  abbrev pub scene : Scene
  scene = scene_of table t pid tags

  abbrev space : Namespace
  space = space_of table t

  matched : IsMatched scene
  matched = states_are_matched Image table t pid tags stand.settled small (tagged_places_are_placed table t tags stand tagged)

  -- ---- where paths begin

  abbrev Somewhere : Place ℕ → Type 0
  Somewhere base = (guest : Text) × StandsOn space base guest

  open_somewhere : (fd : ℕ) (o : Opened ℕ) → opened pid fd t ≡ Some o → (base : Place ℕ) → place_of_open o ≡ Ok base → Somewhere base
  open_somewhere fd o there base e = by (is_dir o.what) refl o.place refl e
    where
      by : (b : Bool) → is_dir o.what ≡ b → (q : Option (Place ℕ)) → o.place ≡ q → (if b then option_map_or (λ (p : Place ℕ). Ok p) q (Err ENOTDIR) else Err ENOTDIR) ≡ Ok base → Somewhere base
      by false kind q is e = absurd cc
      by true kind None is e = absurd cc
      by true kind (Some p) is e =
          let x = then_some (λ (x : Named). file_at t.files x.number) (named pid fd t) o there in
          let s = (stand.uses (open_use o p) (is_open x.0.number o p x.2 is)).called (ap (λ b. b || not (length o.name == 0)) kind) in
          (s.0, subst (λ (p : Place ℕ). StandsOn space p s.0) (ok_is p base e) s.1.on)

  descriptor_somewhere : (d : Option ℕ) (base : Place ℕ) → place_of_descriptor table pid t d ≡ Ok base → Somewhere base
  descriptor_somewhere None base e = absurd cc
  descriptor_somewhere (Some fd) base e = by (opened pid fd t) refl e
    where
      by : (o : Option (Opened ℕ)) → opened pid fd t ≡ o → option_map_or place_of_open o (Err EBADF) ≡ Ok base → Somewhere base
      by None there e = absurd cc
      by (Some o) there e = open_somewhere fd o there base e

  working_somewhere : (base : Place ℕ) → option_map_or (λ (p : Place ℕ). Ok p) (cwd_of pid t) (Err ENOENT) ≡ Ok base → Somewhere base
  working_somewhere base e = by (process pid t) refl e
    where
      by : (o : Option (Process ℕ Image)) → process pid t ≡ o → option_map_or (λ (p : Place ℕ). Ok p) (option_map (λ (p : Process ℕ Image). p.cwd) o) (Err ENOENT) ≡ Ok base → Somewhere base
      by None there e = absurd cc
      by (Some p) there e =
          let s = (stand.uses (cwd_use p) (is_cwd pid p there)).called refl in
          (s.0, subst (λ (p : Place ℕ). StandsOn space p s.0) (ok_is p.cwd base e) s.1.on)

  base_somewhere : (u : PathUse) (base : Place ℕ) → base_of table pid t u ≡ Ok base → Somewhere base
  base_somewhere u base e = by (is_absolute u.text) (is_working_directory u.dirfd) e
    where
      by : (b c : Bool) → (if b then Ok (root_place table) else if c then option_map_or (λ (p : Place ℕ). Ok p) (cwd_of pid t) (Err ENOENT) else place_of_descriptor table pid t (descriptor_number u.dirfd)) ≡ Ok base → Somewhere base
      by true c e = ([], subst (λ (p : Place ℕ). StandsOn space p []) (ok_is (root_place table) base e) (roots_stand space stand.settled))
      by false true e = working_somewhere base e
      by false false e = descriptor_somewhere (descriptor_number u.dirfd) base e

  -- ---- where they end

  walked_both : (u : PathUse) (text : List ℕ) (a : PlaceTarget) → walked table pid t u text ≡ Ok (Some a) → Walked scene u.mode text a
  walked_both u [] a e = absurd (none_is (ok_is None (Some a) e))
    where
      none_is : None ≡ Some a → ⊥
      none_is e = cc
  walked_both u (c ∷ text) a e = by (base_of table pid t u) refl e
    where
      by : (o : Result (Place ℕ) Errno) → base_of table pid t u ≡ o → and_then o (λ base. and_then (place_walk (around_of table pid t) u.mode base (c ∷ text)).answer (λ target. Ok (Some target))) ≡ Ok (Some a) → Walked scene u.mode (c ∷ text) a
      by (Err x) is e = absurd cc
      by (Ok base) is e =
          let s = base_somewhere u base is in
          let answer = then_ok (place_walk (around_of table pid t) u.mode base (c ∷ text)).answer a e in
          let w = alike_ok (likeness space u.mode) a (place_walk (around_of table pid t) u.mode base (c ∷ text)).answer (text_walk (texts_in scene) u.mode s.0 (c ∷ text)).answer (walks_agree scene u.mode base s.0 (c ∷ text) matched s.1) answer in
          record { base = base; guest = s.0; target = w.0; both = record { matched = matched; stands = s.1; some = λ none. absurd cc; place = answer; text = w.1 } }

  target_both : (o : Option PathUse) (a : PlaceTarget) → target_at table pid t o ≡ Ok (Some a) → (u : PathUse) × (o ≡ Some u) × Walked scene u.mode u.text a
  target_both None a e = absurd (none_is (ok_is None (Some a) e))
    where
      none_is : None ≡ Some a → ⊥
      none_is e = cc
  target_both (Some u) a e = (u, refl, walked_both u u.text a e)

  module _ (r : Request) (targets : Targets) (is : targets_of table pid t r ≡ Ok targets) where
    pub first_both : (a : PlaceTarget) → targets.first ≡ Some a → (u : PathUse) × (path_at r 0 ≡ Some u) × Walked scene u.mode u.text a
    first_both a e = target_both (path_at r 0) a ((both_ok targets (target_at table pid t (path_at r 0)) (target_at table pid t (path_at r 1)) is).0 ∙ ap Ok e)

    pub second_both : (a : PlaceTarget) → targets.second ≡ Some a → (u : PathUse) × (path_at r 1 ≡ Some u) × Walked scene u.mode u.text a
    second_both a e = target_both (path_at r 1) a ((both_ok targets (target_at table pid t (path_at r 0)) (target_at table pid t (path_at r 1)) is).1 ∙ ap Ok e)
