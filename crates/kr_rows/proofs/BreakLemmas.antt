-- The break of a process in code, by its index.
use Rattle.std.proofs.Common.{◌≡◌, ℕ, ◌≤◌, get_or, Option, IfSome, ap, subst}
use Rattle.kr_seen.specs.rv_mem.Layout.{layout_of}
use Rattle.kr_seen.specs.kr_model.Known.{Caller, known}
use Rattle.kr_seen.specs.kr_model.State as model
use Rattle.kr_seen.specs.kr_ops.declared.state.Process.{Process}
use Rattle.kr_seen.specs.kr_ops.declared.state.State.{State}
use Rattle.kr_seen.specs.kr_ops.Living.{HasPid}
use Rattle.kr_seen.specs.kr_ops.Meaning.{meaning}
use Rattle.kr_seen.specs.kr_ops.Sound.{IsSound}
use Rattle.kr_seen.proofs.kr_ops.OpeningLemmas.{found}
use Rattle.kr_rows.proofs.ProcessLemmas.{known-caller}

module _ {T : Type 0} {M : ℕ} (s : State T M) (pid k : ℕ) (p : Process T M) (sound : IsSound s) (at : HasPid pid k s.living.items) (e : p ≡ get_or s.living.items k p) where
  pub break-known : (known model.image_layout pid (meaning s)).caller.brk ≡ p.brk
  break-known = ap (λ (c : Caller). c.brk) (known-caller s pid k p sound at e)

  pub start-known : (known model.image_layout pid (meaning s)).caller.brk_start ≡ p.brk_start
  start-known = ap (λ (c : Caller). c.brk_start) (known-caller s pid k p sound at e)

  pub layout-at : (known model.image_layout pid (meaning s)).caller.layout ≡ layout_of p.mem.pages
  layout-at = ap (λ (c : Caller). c.layout) (known-caller s pid k p sound at e)

  pub break-bounded : IfSome (model.process pid (meaning s)) (λ q. q.brk ≤ 0x3ffffff000) → p.brk ≤ 0x3ffffff000
  break-bounded holds = subst (λ (o : Option (model.Process T model.Image)). IfSome o (λ q. q.brk ≤ 0x3ffffff000)) (found s pid k p sound at e) holds
