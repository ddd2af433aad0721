-- Plans of calls with one path agree.
use Rattle.std.proofs.Common.{◌≡◌, ◌⊎◌, inl, inr, ℕ, Bool, true, false, List, Some, None, refl, sym, ap, ◌∙◌}
use Rattle.std.specs.Bool.{if◌then◌else◌}
use Rattle.std.specs.Prelude.{not}
use Rattle.std.specs.Option.{option_map_or}
use Rattle.law_edits.specs.pr_base.WalkFrame.{may_be_free}
use Rattle.law_edits.specs.pr_base.declared.errno.Errno.{Errno}
use Rattle.law_edits.specs.pr_base.declared.errno.Errno.TheVariants.{EEXIST}
use Rattle.law_edits.specs.pr_base.declared.path.Last.{Last}
use Rattle.law_edits.specs.pr_base.declared.path.WalkMode.TheVariants as modes
use Rattle.law_edits.specs.pt_bind.Tags.{TagTable}
use Rattle.law_places.specs.pt_canon.declared.canon.Canon.{Canon}
use Rattle.law_edits.specs.pt_args.Points.{one_is_busy}
use Rattle.law_edits.specs.kr_calls.Arguments.{has}
use Rattle.law_edits.specs.kr_calls.CallTable.{Told, ToldNothing, LooksAt, NamesHere, line, paths_of, walked_for, with_first}
use Rattle.law_edits.specs.kr_calls.PathTable.{PathUse, look_mode, path_at, path_from}
use Rattle.law_edits.specs.kr_calls.declared.request.Request.{Request}
use Rattle.law_edits.specs.kr_calls.declared.request.Request.TheVariants as call
use Rattle.law_places.specs.kr_tree.declared.place.Host.{Host}
use Rattle.law_places.specs.kr_view.View.{Row}
use Rattle.law_places.specs.kr_view.Walk.{PlaceTarget}
use Rattle.law_places.specs.kr_mounts.Standing.{texts_of}
use Rattle.law_places.specs.kr_model.Known.{known}
use Rattle.law_places.specs.kr_model.Operation.{operation}
use Rattle.law_places.specs.kr_model.Reply.{Replying, refuse}
use Rattle.law_places.specs.kr_model.Seen.{LooksUp, Made, Makes, MakesEntry, MakesNoName, MakesOver}
use Rattle.law_places.specs.kr_model.State.{Image, State, image_layout}
use Rattle.law_places.specs.kr_model.Walks.{if_found, told_by}
use Rattle.law_plans.specs.Plans.{IsPlanned, PlanAgrees, PlansOfOneAgree}
use Rattle.law_plans.proofs.PlanLemmas.{only}
use Rattle.law_plans.proofs.OpenLemmas.{opens_agree}
use Rattle.law_plans.proofs.ReadLemmas.{reads_agree}
use Rattle.law_plans.proofs.RequestLemmas.{looks_agree, makes_agree, takes_agree}

pub mode_of : (u v : PathUse) → Some u ≡ Some v → v.mode ≡ u.mode
mode_of u v e = sym (ap (λ o. option_map_or (λ (u : PathUse). u.mode) o modes.Look) e)

look_must : (flags : ℕ) → may_be_free (look_mode flags) ≡ false
look_must flags = by (has flags 0x100)
  where
    by : (b : Bool) → may_be_free (if b then modes.LookLink else modes.Look) ≡ false
    by true = refl
    by false = refl

-- what is made is a free name, or refused
made_refuses : (row : Made → Replying) → ((l : Last) → row (MakesNoName l) ≡ refuse EEXIST) → row MakesOver ≡ refuse EEXIST → (m : Made) → ((d : Host) × (n : List ℕ) × (slash : Bool) × (m ≡ Makes d n slash)) ⊎ ((e : Errno) × (row m ≡ refuse e))
made_refuses row none over (MakesNoName l) = inr (EEXIST, none l)
made_refuses row none over MakesOver = inr (EEXIST, over)
made_refuses row none over (Makes d n slash) = inl (d, n, slash, refl)

-- ---- calls that look something up

abbrev looks : Told → Bool
looks (LooksAt how place) = true
looks _ = false

-- calls with one path that do so, and calls without a path
abbrev looks_at_most : Told → Bool
looks_at_most ToldNothing = true
looks_at_most (LooksAt how place) = true
looks_at_most NamesHere = true
looks_at_most _ = false

-- none of them makes what isn't there
abbrev looks_at_what_is : Told → Bool
looks_at_what_is (LooksAt how place) = not (may_be_free how)
looks_at_what_is _ = true

all_look_at_what_is : (r : Request) → looks_at_what_is (line r).told ≡ true
all_look_at_what_is (call.Fchownat dirfd path uid gid flags) = ap not (look_must flags)
all_look_at_what_is (call.Newfstatat dirfd path buf flags) = ap not (look_must flags)
all_look_at_what_is _ = refl

not_free : (b : Bool) → not b ≡ true → b ≡ false
not_free true e = sym e
not_free false e = refl

-- with another path it looks that up
looks_too : (text : List ℕ) (r : Request) → looks (line (with_first text r)).told ≡ looks (line r).told
looks_too text (call.Dup fd) = refl
looks_too text _ = refl

told_looks : (rows : List Row) (pid : ℕ) (x : State ℕ Image) (t : PlaceTarget) (how : Told) → looks how ≡ true → told_by rows pid x how (only (Some t)) ≡ if_found rows pid x t LooksUp
told_looks rows pid x t (LooksAt how place) is = refl
told_looks rows pid x t _ is = absurd cc

-- unlinkat(2) alone tests a mount point
busy_alone : (r : Request) → looks (line r).told ≡ true → (table : List Row) (c : Canon) → one_is_busy (texts_of table) r c ≡ false
busy_alone (call.Unlinkat dirfd path flags) is table c = absurd cc
busy_alone _ is table c = refl

module _ (table : List Row) (tags : TagTable) (s w : State ℕ Image) (pid : ℕ) where
  look_agrees : (r : Request) (u : PathUse) → IsPlanned table tags s w pid r → path_at r 0 ≡ Some u → path_at r 1 ≡ None
      → (looks (line r).told ≡ true → (table : List Row) (c : Canon) → one_is_busy (texts_of table) r c ≡ false) → (t : Told) → (line r).told ≡ t → looks_at_most t ≡ true → PlanAgrees table tags s w pid r
  look_agrees r u h at alone idle (LooksAt how place) e most =
      let is : looks (line r).told ≡ true = ap looks e in
      let mode : u.mode ≡ how = mode_of (walked_for how place) u (sym (ap (λ t. path_from 0 (paths_of t) 0) e) ∙ at) in
      let must : may_be_free how ≡ false = not_free (may_be_free how) (sym (ap looks_at_what_is e) ∙ all_look_at_what_is r) in
      looks_agree table tags s w pid r u h at alone (ap may_be_free mode ∙ must) (idle is table) (λ rows x t. told_looks rows pid x t (line r).told is)
      (λ text rows x t. told_looks rows pid x t (line (with_first text r)).told (looks_too text r ∙ is))
  look_agrees r u h at alone idle ToldNothing e most = absurd (no_path u (sym (ap (λ t. path_from 0 (paths_of t) 0) e) ∙ at))
    where
      no_path : (u : PathUse) → None ≡ Some u → ⊥
      no_path u e = cc
  look_agrees r u h at alone idle NamesHere e most = absurd (no_path u (sym (ap (λ t. path_from 0 (paths_of t) 0) e) ∙ at))
    where
      no_path : (u : PathUse) → None ≡ Some u → ⊥
      no_path u e = cc
  look_agrees r u h at alone idle _ e most = absurd cc

  pub one_agrees : (r : Request) (u : PathUse) → IsPlanned table tags s w pid r → path_at r 0 ≡ Some u → path_at r 1 ≡ None → PlanAgrees table tags s w pid r
  one_agrees (call.Mkdirat dirfd path mode) u h at alone =
      makes_agree table tags s w pid _ u h at refl refl (mode_of _ u at) (λ c. refl) (λ rows x t. refl) (λ text rows x t. refl) (λ looks. looks)
      (made_refuses (λ m. operation pid (call.Mkdirat dirfd path mode) (MakesEntry m) (known image_layout pid s)) (λ l. refl) refl)
  one_agrees (call.Symlinkat shown dirfd path) u h at alone =
      makes_agree table tags s w pid _ u h at refl refl (mode_of _ u at) (λ c. refl) (λ rows x t. refl) (λ text rows x t. refl) (λ looks. looks)
      (made_refuses (λ m. operation pid (call.Symlinkat shown dirfd path) (MakesEntry m) (known image_layout pid s)) (λ l. refl) refl)
  one_agrees (call.Unlinkat dirfd path flags) u h at alone = takes_agree table tags s w pid dirfd path flags u h at (mode_of _ u at)
  one_agrees (call.Openat dirfd path flags mode) u h at alone = opens_agree table tags s w pid dirfd path flags mode u h at (mode_of _ u at)
  one_agrees (call.Readlinkat dirfd path buf size) u h at alone = reads_agree table tags s w pid dirfd path buf size u h at (mode_of _ u at)
  one_agrees (call.Linkat olddir old newdir new flags) u h at alone = absurd cc
  one_agrees (call.Renameat2 olddir old newdir new) u h at alone = absurd cc
  -- any other looks up what is at its path, or has none
  one_agrees r u h at alone = look_agrees r u h at alone (busy_alone r) (line r).told refl refl

pub plans_of_one_agree : PlansOfOneAgree
plans_of_one_agree table tags s w pid r u h at alone = one_agrees table tags s w pid r u h at alone
