-- What takes the place of a path that leads somewhere, and that the plain kernel is told the same along it.
use Rattle.std.specs.Prelude.{◌≡◌, ◌≢◌, ◌⊎◌, ℕ, Bool, true, false, List, Some, Result, Ok, Err}
use Rattle.law_edits.specs.pr_base.Paths.{is_absolute}
use Rattle.law_edits.specs.pr_base.WalkFrame.{may_be_free}
use Rattle.law_edits.specs.pr_base.declared.errno.Errno.{Errno}
use Rattle.law_edits.specs.pr_base.declared.errno.Errno.TheVariants.{EISDIR}
use Rattle.law_edits.specs.pr_base.declared.path.Last.{Last}
use Rattle.law_edits.specs.pr_base.declared.path.Last.TheVariants as last
use Rattle.law_edits.specs.pr_base.declared.path.WalkMode.TheVariants as modes
use Rattle.law_edits.specs.pt_bind.Tags.{TagTable}
use Rattle.law_edits.specs.pt_args.Points.{is_at_point}
use Rattle.law_edits.specs.pt_args.Purposes.{entry_swap, made_swap}
use Rattle.law_edits.specs.kr_calls.PathTable.{PathUse}
use Rattle.law_places.specs.kr_tree.Tree.{root}
use Rattle.law_places.specs.kr_tree.declared.place.Host.TheVariants.{Node}
use Rattle.law_places.specs.kr_view.View.{Row, is_there, plain}
use Rattle.law_places.specs.kr_view.Walk.{PlaceTarget}
use Rattle.law_places.specs.kr_mounts.Standing.{texts_of}
use Rattle.law_edits.specs.law_allowed.Texts.{IsText}
use Rattle.law_places.specs.kr_model.Seen.{Looked, Opening, OpensFound, OpensNoName, OpensSlashed, Seen, TakesCovered}
use Rattle.law_places.specs.kr_model.State.{Image, State}
use Rattle.law_places.specs.kr_model.Walks.{created_at, if_found, made_at, taken_at, walked}
use Rattle.law_edits.specs.law_allowed.Told.{HasGoodName}
use Rattle.law_plans.specs.Begins.{LeadsBoth, StandTogether}
use Rattle.law_edits.specs.Operations.{with_path}

-- a text that can be put in place of a path
pub record IsNewText (text : List ℕ) : Type 0 where
  pub absolute : is_absolute text ≡ true
  pub no_zero : IsText text

-- the plain kernel's walk along a text in place of a path, and what is told of where it ends
pub record EndsPlain (w : State ℕ Image) (pid : ℕ) (u : PathUse) (text : List ℕ) (told : PlaceTarget → Type 0) : Type 0 where
  pub new : IsNewText text
  pub target : PlaceTarget
  pub ends : walked plain pid w (with_path text u) text ≡ Ok (Some target)
  pub same : told target

-- what is opened and may be made is told alike, but for the root of the host, which has no name there. It is refused all the same
abbrev pub IsOpenedAlike : Opening → Opening → Type 0
IsOpenedAlike mounted on_host = (on_host ≡ mounted) ⊎ ((l : Looked) × (last : Last) × (mounted ≡ OpensFound l) × (l.host ≡ Node root) × (on_host ≡ OpensNoName last))

module _ (table : List Row) (s w : State ℕ Image) (pid : ℕ) (a : PlaceTarget) where
  -- the target of the plain kernel's walk is told as that of the kernel with mounts
  abbrev pub LooksUpSame : PlaceTarget → Type 0
  LooksUpSame target = (next : Looked → Seen) → if_found plain pid w target next ≡ if_found table pid s a next

  abbrev pub TakesSame : PlaceTarget → Type 0
  TakesSame target = taken_at plain pid w target ≡ taken_at table pid s a

  abbrev pub MakesSame : PlaceTarget → Type 0
  MakesSame target = made_at plain pid w target ≡ made_at table pid s a

  abbrev pub OpensSame : PlaceTarget → Type 0
  OpensSame target = IsOpenedAlike (created_at table pid s a) (created_at plain pid w target)

  -- what may be made: its walk tells the same, or the tracer cancels what the kernel with mounts refuses
  abbrev pub CreatesSame : PathUse → Result (List ℕ) Errno → Type 0
  CreatesSame u (Ok text) = EndsPlain w pid u text OpensSame
  CreatesSame u (Err e) = (e ≡ EISDIR) × (created_at table pid s a ≡ OpensSlashed)

module _ (table : List Row) (tags : TagTable) (s w : State ℕ Image) (pid : ℕ) (u : PathUse) (opening : Bool) where
  -- of a path that must lead to what is there
  pub record IsLookedUp (lead : LeadsBoth table tags s w pid u opening) : Type 0 where
    pub there : is_there lead.place.found ≡ true
    pub same : EndsPlain w pid u lead.canon.host (LooksUpSame table s w pid lead.place)

  -- of a path whose last component isn't followed: an entry that is made or taken away, in which case a mount point is told
  pub record IsEntry (lead : LeadsBoth table tags s w pid u opening) : Type 0 where
    pub made : EndsPlain w pid u (entry_swap (texts_of table) lead.canon lead.canon.last) (MakesSame table s w pid lead.place)
    pub taken : is_at_point (texts_of table) lead.canon lead.canon.last ≡ false → EndsPlain w pid u (entry_swap (texts_of table) lead.canon lead.canon.last) (TakesSame table s w pid lead.place)
    pub covered : is_at_point (texts_of table) lead.canon lead.canon.last ≡ true → taken_at table pid s lead.place ≡ TakesCovered
    pub exists : lead.place.last ≡ last.Name → lead.canon.exists ≡ is_there lead.place.found
    pub unnamed : lead.place.last ≢ last.Name → lead.canon.exists ≡ false

  -- by the mode of its walk
  pub record SwapAgrees (lead : LeadsBoth table tags s w pid u opening) : Type 0 where
    pub looked : may_be_free u.mode ≡ false → IsLookedUp lead
    pub entry : u.mode ≡ modes.Name → HasGoodName s.tree lead.place → IsEntry lead
    pub created : may_be_free u.mode ≡ true → HasGoodName s.tree lead.place → CreatesSame table s w pid lead.place u (made_swap (texts_of table) lead.canon lead.canon.last)

abbrev pub SwapsAgree : Type 0
SwapsAgree =
    (table : List Row) (tags : TagTable) (s w : State ℕ Image) (pid : ℕ) (u : PathUse) (opening : Bool) (lead : LeadsBoth table tags s w pid u opening) → StandTogether table tags s w
    → SwapAgrees table tags s w pid u opening lead
