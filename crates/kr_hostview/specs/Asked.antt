-- What peeks are asked of: a state, in the name of a caller, of which all names that are told are texts; and whether the process directory is
-- unmet so far.
use Rattle.std.specs.Prelude.{ℕ, Bool}
use Rattle.kr_seen.specs.pr_base.Peeks.{NamesAreTexts}
use Rattle.kr_seen.specs.kr_model.Peeks.{peeked_of}
use Rattle.kr_seen.specs.kr_ops.declared.state.State.{State}
use Rattle.kr_seen.specs.kr_ops.Meaning.{meaning}

pub record Asked (T : Type 0) (M : ℕ) : Type 0 where
  pub state : State T M
  pub caller : ℕ
  pub unmet : Bool
  pub texts : ∥ NamesAreTexts (peeked_of (meaning state) caller) ∥₁

-- and what a peek leaves
pub record Left (T : Type 0) (M : ℕ) : Type 0 where
  pub state : State T M
  pub caller : ℕ

abbrev pub left_of : {T : Type 0} {M : ℕ} → Asked T M → Left T M
left_of v = record { state = v.state; caller = v.caller }
