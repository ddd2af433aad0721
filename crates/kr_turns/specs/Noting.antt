-- A state in which what a call reads was noted, or nothing was.
use Rattle.std.specs.Prelude.{◌≡◌, ◌⊎◌, ℕ}
use Rattle.kr_execve.specs.kr_calls.declared.request.Request.{Request}
use Rattle.kr_calm.specs.Noted.{IsNoted}
use Rattle.kr_hostview.specs.kr_ops.declared.state.State.{State}

abbrev pub IsNotedOrSame : {T : Type 0} {M : ℕ} → ℕ → Request → State T M → State T M → Type 0
IsNotedOrSame pid request old new = IsNoted pid request old new ⊎ (new ≡ old)
