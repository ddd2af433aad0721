-- The states of both kernels as a call begins, and where one of its paths begins and leads: for the kernel with mounts, for the
-- tracer, and, where the path stays as it is, for the plain kernel.
use Rattle.std.specs.Prelude.{◌≡◌, ℕ, Bool, List, [], Some, None, Ok, Err}
use Rattle.law_edits.specs.pr_base.Paths.{text_of}
use Rattle.law_edits.specs.pr_base.Texts.{Text}
use Rattle.law_edits.specs.pr_base.WalkFrame.{Target}
use Rattle.law_edits.specs.pr_base.declared.errno.Errno.{Errno}
use Rattle.law_edits.specs.pt_bind.Binding.{names_of}
use Rattle.law_edits.specs.pt_bind.Tags.{TagTable}
use Rattle.law_places.specs.pt_canon.Canon.{canon_of}
use Rattle.law_places.specs.pt_canon.TextWalk.{TextSurroundings}
use Rattle.law_places.specs.pt_canon.declared.canon.Canon.{Canon}
use Rattle.law_edits.specs.pt_args.Bases as traced_bases
use Rattle.law_edits.specs.pt_args.Walks as traced_walks
use Rattle.law_edits.specs.pt_args.Walks.{reached_at}
use Rattle.law_edits.specs.kr_calls.PathTable.{PathUse}
use Rattle.law_places.specs.kr_tree.declared.place.Place.{Place}
use Rattle.law_places.specs.kr_view.Living.{Each, HasSmallNumbers}
use Rattle.law_places.specs.kr_view.View.{Row, plain}
use Rattle.law_places.specs.kr_view.Walk.{PlaceTarget}
use Rattle.law_places.specs.kr_mounts.Standing.{texts_of}
use Rattle.law_places.specs.kr_model.Lawful.{IsLawful}
use Rattle.law_places.specs.kr_model.Peeks.{peeked_of}
use Rattle.law_places.specs.kr_model.ProcessDirectory.{living_of, space_of}
use Rattle.law_places.specs.kr_model.State.{Image, State}
use Rattle.law_places.specs.kr_model.Walks.{base_of, walked}
use Rattle.law_places.specs.law_walks.Handed.{BothEnd}
use Rattle.law_places.specs.law_walks.Standing.{StandsOn}
use Rattle.law_places.specs.law_walks.States.{scene_of}
use Rattle.law_places.specs.Matching.{IsMatch}

-- a state of the kernel with mounts and one of the plain kernel that match
pub record StandTogether (table : List Row) (tags : TagTable) (s w : State ℕ Image) : Type 0 where
  pub matched : IsMatch table tags s w
  pub small : Each HasSmallNumbers (living_of s)
  pub plain_lawful : IsLawful (λ m. m) plain w

-- what a tracer goes by at a call of a process
abbrev pub told_texts : List Row → State ℕ Image → ℕ → TagTable → TextSurroundings
told_texts table s pid tags = record { bindings = texts_of table; peeked = peeked_of s pid; tags = tags }

module _ (table : List Row) (tags : TagTable) (s w : State ℕ Image) (pid : ℕ) (u : PathUse) where
  -- where a path begins
  pub data BaseAgrees : Type 0 where
    -- nowhere, since no directory is open: both kernels find that, and the tracer leaves it to them
    NoBase : (e : Errno) → traced_bases.base_of (told_texts table s pid tags) pid u ≡ Ok None → base_of table pid s u ≡ Err e → base_of plain pid w u ≡ Err e → BaseAgrees
    -- an error that the tracer finds
    LostBase : (e : Errno) → traced_bases.base_of (told_texts table s pid tags) pid u ≡ Err e → base_of table pid s u ≡ Err e → BaseAgrees
    -- at a place that stands at a guest text
    BaseOn : (p : Place ℕ) (t : Text) → traced_bases.base_of (told_texts table s pid tags) pid u ≡ Ok (Some (text_of t)) → base_of table pid s u ≡ Ok p → StandsOn (space_of table s) p t → names_of (text_of t) ≡ t → BaseAgrees

  -- where a path leads for both
  pub record LeadsBoth (opening : Bool) : Type 0 where
    pub place : PlaceTarget
    pub text : Target Text Text
    pub canon : Canon
    pub base : Place ℕ
    pub start : Text
    pub both : BothEnd (scene_of table s pid tags) u.mode base start u.text place text
    pub answers : canon_of (told_texts table s pid tags) u.mode start u.text ≡ Ok canon
    pub reached : traced_walks.walked (told_texts table s pid tags) pid opening u ≡ Ok (Some (reached_at u opening canon))
    pub target : walked table pid s u u.text ≡ Ok (Some place)

  -- a path that stays as it is: an empty one, and one that begins nowhere
  pub data StaysSo : Type 0 where
    IsEmpty : u.text ≡ [] → StaysSo
    FailsSo : (e : Errno) → walked table pid s u u.text ≡ Err e → walked plain pid w u u.text ≡ Err e → StaysSo

  pub data PathAgrees (opening : Bool) : Type 0 where
    Stays : traced_walks.walked (told_texts table s pid tags) pid opening u ≡ Ok None → StaysSo → PathAgrees opening
    Fails : (e : Errno) → traced_walks.walked (told_texts table s pid tags) pid opening u ≡ Err e → walked table pid s u u.text ≡ Err e → PathAgrees opening
    Leads : LeadsBoth opening → PathAgrees opening

-- whatever a path is
abbrev pub BasesAgree : Type 0
BasesAgree = (table : List Row) (tags : TagTable) (s w : State ℕ Image) (pid : ℕ) (u : PathUse) → StandTogether table tags s w → BaseAgrees table tags s w pid u

abbrev pub PathsAgree : Type 0
PathsAgree = (table : List Row) (tags : TagTable) (s w : State ℕ Image) (pid : ℕ) (u : PathUse) (opening : Bool) → StandTogether table tags s w → PathAgrees table tags s w pid u opening
