-- What two ways of finding programs come to, where both are refused alike or end alike.
use Rattle.std.specs.Prelude.{◌≡◌, Result, Ok, Err}
use Rattle.kr_first.specs.pr_base.declared.errno.Errno.{Errno}
use Rattle.kr_first.specs.kr_calls.Expansion.{Expanded}

-- the same error, or values that are alike
pub data ResultsAlike {A B : Type 0} (R : A → B → Type 0) : Result A Errno → Result B Errno → Type 0 where
  errs : (e : Errno) → ResultsAlike R (Err e) (Err e)
  oks : {a : A} {b : B} → R a b → ResultsAlike R (Ok a) (Ok b)

-- files that are alike, with the same arguments
pub record EndAlike {F G : Type 0} (R : F → G → Type 0) (one : Expanded F) (other : Expanded G) : Type 0 where
  pub file : R one.file other.file
  pub args : one.args ≡ other.args
  pub scripts : one.scripts ≡ other.scripts
