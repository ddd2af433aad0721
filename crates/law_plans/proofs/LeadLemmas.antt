-- Of a path that leads somewhere for the tracer and for the kernel with mounts: what ties both, and the plain kernel's walk along
-- a text in its place.
use Rattle.std.proofs.Common.{◌≡◌, ℕ, Bool, true, false, List, [], ◌∷◌, Option, Some, Result, Ok, Err, refl, sym, ap, ◌∙◌}
use Rattle.std.specs.Bool.{if◌then◌else◌}
use Rattle.std.specs.Option.{option_map_or}
use Rattle.law_edits.specs.pr_base.Alike.{TargetAlike}
use Rattle.law_edits.specs.pr_base.MountText.{MountText}
use Rattle.law_edits.specs.pr_base.Paths.{AreNames, Component, components_of, has_slash, is_absolute}
use Rattle.law_edits.specs.pr_base.Texts.{Text}
use Rattle.law_edits.specs.pr_base.WalkFrame.{Looking, Target, begins_at, may_be_free, most_links, walk}
use Rattle.law_edits.specs.pr_base.declared.errno.Errno.{Errno}
use Rattle.law_edits.specs.pr_base.declared.errno.Errno.TheVariants.{ENOENT}
use Rattle.law_edits.specs.pr_base.declared.path.WalkMode.{WalkMode}
use Rattle.law_edits.proofs.pr_base.AlikeLemmas.{alike_some}
use Rattle.law_edits.proofs.pr_base.EndLemmas.{EndsSo}
use Rattle.law_edits.specs.pt_bind.Tags.{TagTable}
use Rattle.law_places.specs.pt_canon.Canon.{canon_of}
use Rattle.law_places.specs.pt_canon.TextWalk.{TextSurroundings}
use Rattle.law_places.specs.pt_canon.declared.canon.Canon.{Canon}
use Rattle.law_edits.specs.kr_calls.PathTable.{PathUse}
use Rattle.law_places.specs.kr_tree.declared.place.Place.{Place}
use Rattle.law_places.specs.kr_view.Component.{Namespace}
use Rattle.law_places.specs.kr_view.View.{Row, plain, root_place}
use Rattle.law_places.specs.kr_view.Walk.{PlaceTarget, looking, place_walk}
use Rattle.law_places.proofs.kr_view.HostReachLemmas.{reached_names}
use Rattle.law_places.specs.kr_mounts.Standing.{texts_of}
use Rattle.law_places.specs.kr_model.Applied.{cwd_of}
use Rattle.law_places.specs.kr_model.Asking.{descriptor_number, is_working_directory}
use Rattle.law_places.specs.kr_model.Bare.{pins_of}
use Rattle.law_places.specs.kr_model.HostView.{host_around_of}
use Rattle.law_places.specs.kr_model.ProcessDirectory.{around_of, leads_of, space_of}
use Rattle.law_places.specs.kr_model.State.{Image, State}
use Rattle.law_places.specs.kr_model.Walks.{and_then, base_of, place_of_descriptor, walked}
use Rattle.law_edits.proofs.kr_perform.EndingLemmas.{HasLast, walk_comes}
use Rattle.law_places.specs.law_walks.BareFacts.{AreToldAlike}
use Rattle.law_places.proofs.law_walks.BareFactLemmas.{facts_are_bare}
use Rattle.law_places.proofs.law_walks.OneMountLemmas.{lawful_states_are_in_one_mount, plain_walks_are_host_walks}
use Rattle.law_places.proofs.law_walks.BareStateLemmas.{host_walks_are_bare}
use Rattle.law_places.specs.law_walks.Answers.{AnswersTarget}
use Rattle.law_places.specs.law_walks.Facts.{EndIn, EndsOn, LooksUpAlike, MakesAlike, TakesAlike}
use Rattle.law_places.specs.law_walks.Scene.{Scene}
use Rattle.law_places.specs.law_walks.Settled.{IsSettled, host_text}
use Rattle.law_places.specs.law_walks.Standing.{FoundStands, Stands, likeness}
use Rattle.law_places.specs.law_walks.States.{scene_of}
use Rattle.law_places.proofs.law_walks.CanonLemmas.{answers_tell_targets}
use Rattle.law_places.proofs.law_walks.HandedLemmas.{alike as ends_alike}
use Rattle.law_places.proofs.law_walks.InUseLemmas.{laws}
use Rattle.law_places.proofs.law_walks.StandingLemmas.{standing_places_are_called}
use Rattle.law_plans.specs.Begins.{LeadsBoth, StandTogether, told_texts}
use Rattle.law_plans.specs.OnePath.{EndsPlain, IsNewText, LooksUpSame, MakesSame, TakesSame}
use Rattle.law_edits.specs.Operations.{with_path}

ok_is : {A : Type 0} (x y : A) → ◌≡◌ {A = Result A Errno} (Ok x) (Ok y) → x ≡ y
ok_is x y h = cc

-- where no last name may be free something is found
pub finds : {S F : Type 0} (looks : Looking S F) (mode : WalkMode) (base : S) (path : List ℕ) → may_be_free mode ≡ false → EndsSo looks (λ t. (x : F) × (t.found ≡ Some x)) (walk looks mode base path)
finds {S} {F} looks mode base path must =
    walk_comes looks mode (λ t. (x : F) × (t.found ≡ Some x)) (λ c. Unit {0}) (Unit {0}) (λ s c f text slash looked followed asked. all (components_of text)) (λ s slash. (looks.here s, refl))
    (λ s c slash free is. let clash : false ≡ true = sym must ∙ free in absurd cc) (λ s c slash f is. (f, refl)) (λ slash l followed. (l.found, refl)) most_links (begins_at looks base path) (components_of path) (has_slash path)
    (λ asked. all (components_of path))
  where
    all : (cs : List Component) → HasLast (λ c. Unit {0}) cs
    all [] = tt
    all (c ∷ []) = tt
    all (c ∷ d ∷ cs) = all (d ∷ cs)

module _ (table : List Row) (tags : TagTable) (s w : State ℕ Image) (pid : ℕ) (u : PathUse) (both : StandTogether table tags s w) where
  -- ---- the plain kernel's walk along a text

  plain_base : (text : List ℕ) → is_absolute text ≡ true → base_of plain pid w (with_path text u) ≡ Ok (root_place plain)
  plain_base text is = ap (λ b. if b then Ok (root_place plain) else relative) is
    where
      relative : Result (Place ℕ) Errno
      relative =
          if is_working_directory u.dirfd then option_map_or (λ p. Ok p) (cwd_of pid w) (Err ENOENT)
          else place_of_descriptor plain pid w (descriptor_number u.dirfd)

  plain_place : (mode : WalkMode) (path : List ℕ) → place_walk (around_of plain pid w) mode (root_place plain) path ≡ place_walk (host_around_of s pid) mode (root_place plain) path
  plain_place mode path =
      ap (λ around. place_walk around mode (root_place plain) path) (plain_walks_are_host_walks Image w pid (lawful_states_are_in_one_mount w both.plain_lawful))
      ∙ sym (host_walks_are_bare ℕ ℕ (pins_of table) (pins_of plain) s w pid mode (root_place plain) path both.matched.bares)

  pub plain_walked : (text : List ℕ) → is_absolute text ≡ true
      → walked plain pid w (with_path text u) text ≡ and_then (place_walk (host_around_of s pid) u.mode (root_place plain) text).answer (λ target. Ok (Some target))
  plain_walked [] is = absurd cc
  plain_walked (b ∷ path) is =
      (λ j. and_then (plain_base (b ∷ path) is j) (λ base. and_then (place_walk (around_of plain pid w) u.mode base (b ∷ path)).answer ends))
      ∙ (λ j. and_then (plain_place u.mode (b ∷ path) j).answer ends)
    where
      ends : PlaceTarget → Result (Option PlaceTarget) Errno
      ends target = Ok (Some target)

  pub to_plain : (text : List ℕ) (told same : PlaceTarget → Type 0) → IsNewText text → EndsOn s pid u.mode (root_place plain) text told → ((t : PlaceTarget) → told t → same t) → EndsPlain w pid u text same
  to_plain text told same new on turn = record {
    new = new;
    target = on.target;
    ends = plain_walked text new.absolute ∙ ap (λ answer. and_then answer (λ target. Ok (Some target))) on.answer;
    same = turn on.target on.same;
  }

  -- what is told of targets is the same in both states
  pub told_alike : AreToldAlike plain pid s w
  told_alike = (facts_are_bare (pins_of table) (pins_of plain) s w pid both.matched.bares).0 plain

  module _ (a t : PlaceTarget) where
    pub looks_same : LooksUpAlike table s pid a t → LooksUpSame table s w pid a t
    looks_same same next = sym (told_alike.found t next) ∙ same next

    pub takes_same : TakesAlike table s pid a t → TakesSame table s w pid a t
    takes_same same = sym (told_alike.taken t) ∙ same

    pub makes_same : MakesAlike table s pid a t → MakesSame table s w pid a t
    makes_same same = sym (told_alike.made t) ∙ same

module _ (table : List Row) (tags : TagTable) (s w : State ℕ Image) (pid : ℕ) (u : PathUse) (opening : Bool) (both : StandTogether table tags s w) (lead : LeadsBoth table tags s w pid u opening) where
  abbrev pub texts : TextSurroundings
  texts = told_texts table s pid tags

  abbrev pub scene : Scene
  scene = scene_of table s pid tags

  abbrev pub space : Namespace
  space = space_of table s

  abbrev pub bindings : List MountText
  bindings = texts_of table

  abbrev pub a : PlaceTarget
  a = lead.place

  abbrev pub b : Target Text Text
  b = lead.text

  set : IsSettled space
  set = both.matched.placed.settled

  pub same_canon : (c : Canon) → canon_of texts u.mode lead.start u.text ≡ Ok c → lead.canon ≡ c
  same_canon c is = ok_is lead.canon c (sym lead.answers ∙ is)

  pub answers : AnswersTarget texts u.mode lead.start u.text b
  answers = answers_tell_targets texts u.mode lead.start u.text b lead.both.text

  pub alike : TargetAlike (likeness space u.mode) a b
  alike = ends_alike scene u.mode lead.base lead.start u.text a b lead.both

  pub ends_in : EndIn table s pid u.mode a b
  ends_in = record { tags = tags; base = lead.base; text = lead.start; path = u.text; both = lead.both }

  -- ---- names of what stands

  pub host_names : (p : Place ℕ) (t : Text) → Stands space p t → AreNames (host_text space t)
  host_names p t on = reached_names space.tree space.user space.finds (leads_of table s pid) (host_text space t) p.host set.sound (laws table s pid set both.small) on.way

  pub guest_names : (p : Place ℕ) (t : Text) → Stands space p t → AreNames t
  guest_names p t on = (standing_places_are_called space (leads_of table s pid) p t set (laws table s pid set both.small) on).1

  -- ---- what was found

  pub found_there : may_be_free u.mode ≡ false → (p : Place ℕ) × (a.found ≡ Some p)
  found_there must = finds (looking scene.around) u.mode lead.base u.text must a lead.both.place

  pub found_text : (p : Place ℕ) → a.found ≡ Some p → (t : Text) × (b.found ≡ Some t) × FoundStands space u.mode p t
  found_text p ea = alike_some (FoundStands space u.mode) a.found b.found p alike.found ea
