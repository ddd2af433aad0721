-- A call of which a walk fails.
use Rattle.std.proofs.Common.{◌≡◌, ℕ, Bool, true, false, List, [], ◌∷◌, refl}
use Rattle.std.specs.Prelude.{Err}
use Rattle.law_allowed.specs.pr_base.declared.errno.Errno.{Errno}
use Rattle.law_allowed.specs.kr_calls.declared.request.Request.{Request}
use Rattle.law_allowed.specs.kr_calls.declared.request.Request.TheVariants as call
use Rattle.law_allowed.specs.kr_view.View.{Row}
use Rattle.law_allowed.specs.kr_model.Known.{Known}
use Rattle.law_allowed.specs.kr_model.Operation.{Form, Plainly, OrHere, form, operation, reply_of}
use Rattle.law_allowed.specs.kr_model.Reply.{refuse}
use Rattle.law_allowed.specs.kr_model.Seen.{WalkFails}
use Rattle.law_allowed.specs.kr_model.State.{State}
use Rattle.law_allowed.specs.kr_model.Walks.{targets_of}

-- a form that is told of a walk; one whose path is empty is not
abbrev pub goes_along : Form → Bool
goes_along (Plainly reply) = false
goes_along (OrHere [] here next) = false
goes_along _ = true

pub form-refuses : (f : Form) (e : Errno) → goes_along f ≡ true → reply_of f (WalkFails e) ≡ refuse e
form-refuses (Plainly reply) e along = absurd cc
form-refuses (OrHere [] here next) e along = absurd cc
form-refuses (OrHere (b ∷ path) here next) e along = refl
form-refuses _ e along = refl

module _ {X : Type 0} (table : List Row) (pid : ℕ) (s : State ℕ X) (k : Known) where
  -- the walks of all others don't fail
  fails-along : (r : Request) (e : Errno) → targets_of table pid s r ≡ Err e → goes_along (form pid r k) ≡ false → ⊥
  fails-along (call.Fchownat dirfd [] uid gid flags) e fails along = cc
  fails-along (call.Fchownat dirfd (b ∷ path) uid gid flags) e fails along = cc
  fails-along (call.Newfstatat dirfd [] buf flags) e fails along = cc
  fails-along (call.Newfstatat dirfd (b ∷ path) buf flags) e fails along = cc
  fails-along _ e fails along = cc

  -- it answers the error of the walk
  pub walk-refuses : (r : Request) (e : Errno) → targets_of table pid s r ≡ Err e → operation pid r (WalkFails e) k ≡ refuse e
  walk-refuses r e fails = by (goes_along (form pid r k)) refl
    where
      by : (b : Bool) → goes_along (form pid r k) ≡ b → operation pid r (WalkFails e) k ≡ refuse e
      by true along = form-refuses (form pid r k) e along
      by false along = absurd (fails-along r e fails along)
