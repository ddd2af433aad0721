-- What the caller is known to have, of its place in the list of living processes.
use Rattle.std.proofs.Common.{◌≡◌, ℕ, ap, get_or}
use Rattle.std.specs.Option.{option_map_or}
use Rattle.kr_seen.specs.kr_model.Known.{caller_of, known, no_caller}
use Rattle.kr_seen.specs.kr_model.State as model
use Rattle.kr_seen.specs.kr_ops.declared.state.Process.{Process}
use Rattle.kr_seen.specs.kr_ops.declared.state.State.{State}
use Rattle.kr_seen.specs.kr_ops.Living.{HasPid}
use Rattle.kr_seen.specs.kr_ops.Meaning.{meaning, process_meaning}
use Rattle.kr_seen.specs.kr_ops.Sound.{IsSound}
use Rattle.kr_seen.proofs.kr_ops.OpeningLemmas.{found}

pub known-caller : {T : Type 0} {M : ℕ} (s : State T M) (pid k : ℕ) (p : Process T M) → IsSound s → HasPid pid k s.living.items → p ≡ get_or s.living.items k p
    → (known model.image_layout pid (meaning s)).caller ≡ caller_of model.image_layout (process_meaning p)
known-caller s pid k p sound at e = ap (λ o. option_map_or (caller_of model.image_layout) o no_caller) (found s pid k p sound at e)
