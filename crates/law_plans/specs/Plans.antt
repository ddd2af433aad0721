-- What a tracer plans for the paths of a call agrees with what the kernel with mounts is told of them.
use Rattle.std.specs.Prelude.{◌≡◌, ◌≢◌, ◌⊎◌, ℕ, Bool, false, List, [], Option, Some, None, Result}
use Rattle.std.specs.Option.{option_map}
use Rattle.law_edits.specs.pr_base.declared.errno.Errno.{Errno}
use Rattle.law_edits.specs.pt_bind.Tags.{TagTable}
use Rattle.law_edits.specs.pt_args.Edits.{edit_of, shelve}
use Rattle.law_edits.specs.pt_args.declared.edit.Edit.{Edit}
use Rattle.law_edits.specs.pt_args.declared.edit.Edit.TheVariants.{Cancel, Pass}
use Rattle.law_edits.specs.pt_results.Answers.{link_answer}
use Rattle.law_edits.specs.kr_calls.CallTable.{line}
use Rattle.law_edits.specs.kr_calls.PathTable.{PathUse, path_at}
use Rattle.law_edits.specs.kr_calls.declared.request.Request.{Request}
use Rattle.law_places.specs.kr_view.View.{Row, plain}
use Rattle.law_edits.specs.law_allowed.Texts.{LinksHaveTexts}
use Rattle.law_places.specs.kr_model.Bare.{bare_mounts}
use Rattle.law_places.specs.kr_model.Known.{Known, known}
use Rattle.law_places.specs.kr_model.Operation.{IsNoExec, operation}
use Rattle.law_places.specs.kr_model.Reply.{refuse}
use Rattle.law_places.specs.kr_model.Seen.{WalkFails}
use Rattle.law_places.specs.kr_model.State.{Image, State, image_layout}
use Rattle.law_places.specs.kr_model.Walks.{Targets, seen, targets_of}
use Rattle.law_edits.specs.law_allowed.Calls.{HasTextPaths}
use Rattle.law_edits.specs.law_allowed.Told.{mounts_walked}
use Rattle.law_edits.specs.kr_turns.Target.{LooksUpOne}
use Rattle.law_places.specs.kr_calm.Rules.{breaks_2}
use Rattle.law_plans.specs.Begins.{StandTogether, told_texts}
use Rattle.law_plans.specs.OnePath.{IsNewText}
use Rattle.law_edits.specs.Requests.{AreOfPaths, NewText, with_swaps}

-- ---- when plans are made

-- the first of two paths isn't empty, as decoding gives them
abbrev pub HasFirstOfTwo : Request → Type 0
HasFirstOfTwo r = (u v : PathUse) → path_at r 0 ≡ Some u → path_at r 1 ≡ Some v → u.text ≢ []

-- a call with a path, other than execve, of which the tracer answers no link of the process directory itself, and that leads from no mount to another
pub record IsPlanned (table : List Row) (tags : TagTable) (s w : State ℕ Image) (pid : ℕ) (r : Request) : Type 0 where
  pub kind : IsNoExec r
  pub together : StandTogether table tags s w
  pub links : LinksHaveTexts s.tree
  pub texts : HasTextPaths r
  pub first : HasFirstOfTwo r
  pub unanswered : link_answer (told_texts table s pid tags) pid r ≡ None
  pub within : breaks_2 table s.tree r (targets_of table pid s r) ≡ false

-- ---- what plans come to

module _ (table : List Row) (s w : State ℕ Image) (pid : ℕ) (r : Request) where
  -- what the call is in the kernel with mounts
  abbrev pub knows : Known
  knows = known image_layout pid s

  -- the mounts that its changes may name are there alike, or it is refused
  abbrev pub HasMountsAlike : Result Targets Errno → Type 0
  HasMountsAlike others =
      (bare_mounts (mounts_walked (targets_of table pid s r)) ≡ bare_mounts (mounts_walked others)) ⊎ ((e : Errno) × (operation pid r (seen table pid s r) knows ≡ refuse e))

  -- the paths stay as they are, and both kernels are told the same
  pub record IsPassed : Type 0 where
    pub told : seen table pid s r ≡ seen plain pid w r
    pub mounts : bare_mounts (mounts_walked (targets_of table pid s r)) ≡ bare_mounts (mounts_walked (targets_of plain pid w r))

  abbrev pub IsNewIfAny : Option NewText → Type 0
  IsNewIfAny None = Unit {0}
  IsNewIfAny (Some n) = IsNewText n.text

  -- with other texts in place of the paths the plain kernel is told what makes the same of the call
  pub record IsSwapped (first : NewText) (second : Option NewText) : Type 0 where
    pub told : operation pid r (seen table pid s r) knows ≡ operation pid r (seen plain pid w (with_swaps first second r)) knows
    pub mounts : HasMountsAlike (targets_of plain pid w (with_swaps first second r))
    -- of a call that looks up one path it is told the very same
    pub looked : LooksUpOne (line r).told → seen table pid s r ≡ seen plain pid w (with_swaps first second r)
    pub one : IsNewText first.text
    pub two : IsNewIfAny second
    pub paths : AreOfPaths r first second

  -- if the call looks up one path, the walk along it fails
  abbrev pub IsLost : Type 0
  IsLost = LooksUpOne (line r).told → (e : Errno) × (seen table pid s r ≡ WalkFails e)

-- ---- plans, by the edits that come of them

module _ (table : List Row) (tags : TagTable) (s w : State ℕ Image) (pid : ℕ) (r : Request) where
  -- whatever the stack pointer is, and whether the shelf below it can be used
  abbrev pub IsEdit : (ℕ → Bool → Edit) → Type 0
  IsEdit edit = (sp : ℕ) (usable : Bool) → edit_of (told_texts table s pid tags) pid sp usable r ≡ edit sp usable

  abbrev pub shelved_texts : NewText → Option NewText → ℕ → Bool → Edit
  shelved_texts first second sp usable =
      shelve sp usable (record { register = first.register; text = first.text }) (option_map (λ (n : NewText). record { register = n.register; text = n.text }) second)

  pub data PlanAgrees : Type 0 where
    -- the paths stay
    Passing : IsEdit (λ sp usable. Pass) → IsPassed table s w pid r → PlanAgrees
    -- texts take their place
    Swapping : (first : NewText) (second : Option NewText) → IsEdit (shelved_texts first second) → IsSwapped table s w pid r first second → PlanAgrees
    -- the call is cancelled with the error with which the kernel with mounts refuses it
    Cancelling : (e : Errno) → IsEdit (λ sp usable. Cancel e) → operation pid r (seen table pid s r) (known image_layout pid s) ≡ refuse e → IsLost table s w pid r → PlanAgrees

-- a call with one path
abbrev pub PlansOfOneAgree : Type 0
PlansOfOneAgree =
    (table : List Row) (tags : TagTable) (s w : State ℕ Image) (pid : ℕ) (r : Request) (u : PathUse) → IsPlanned table tags s w pid r → path_at r 0 ≡ Some u → path_at r 1 ≡ None → PlanAgrees table tags s w pid r

-- whatever call with a path it is
abbrev pub PlansAgree : Type 0
PlansAgree = (table : List Row) (tags : TagTable) (s w : State ℕ Image) (pid : ℕ) (r : Request) (u : PathUse) → IsPlanned table tags s w pid r → path_at r 0 ≡ Some u → PlanAgrees table tags s w pid r
