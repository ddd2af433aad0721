-- What a call came to in code.
use Rattle.std.specs.Prelude.{ℕ}
use Rattle.kr_hostview.specs.kr_ops.declared.state.State.{State}
use Rattle.kr_hostview.specs.kr_ops.Meaning.{meaning}
use Rattle.kr_calm.specs.kr_seen.Numbered.{state_numbered}
use Rattle.kr_turns.specs.PlainCall.{Came}
use Rattle.kr_turns.specs.declared.plain.Plain.{Plain}

-- the code's value with the state that it left
abbrev pub came_to : {T : Type 0} {M : ℕ} → (T → ℕ) → State T M → Plain → Came
came_to number s plain = record { state = state_numbered number (meaning s); end = plain.end; child = plain.child; handed = plain.handed }
