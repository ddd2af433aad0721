-- Whether a process lives, by its place in the list.
use Rattle.std.proofs.Common.{◌≡◌, ℕ, Option, Some, None, refl, sym, ap}
use Rattle.std.specs.Option.{is_some, IfSome}
use Rattle.kr_ops.specs.kr_model.State.{process}
use Rattle.kr_ops.specs.declared.state.State.{State}
use Rattle.kr_ops.specs.Living.{HaveOthers, HasPid}
use Rattle.kr_ops.specs.Meaning.{meaning}
use Rattle.kr_ops.specs.Sound.{IsSound}
use Rattle.kr_ops.proofs.ListLemmas.{none-found}
use Rattle.kr_ops.proofs.OpeningLemmas.{found}

pub lives-by : {T : Type 0} {M : ℕ} (s : State T M) (pid : ℕ) → IsSound s → (o : Option ℕ) → (o ≡ None → HaveOthers pid s.living.items) → IfSome o (λ k. HasPid pid k s.living.items)
    → is_some o ≡ is_some (process pid (meaning s))
lives-by s pid sound None none some = sym (ap is_some (none-found pid s.living.items (none refl)))
lives-by s pid sound (Some k) none some = sym (ap is_some (found s pid k some.process sound some some.there))
