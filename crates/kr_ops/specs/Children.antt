-- Which processes wait4(2) means.
use Rattle.std.specs.Prelude.{ℕ, ◌==◌, ◌&&◌, Bool, true, false}
use Rattle.law_lawful.specs.kr_model.State.{Process}
use Rattle.kr_ops.specs.declared.asking.Meant.{Meant}
use Rattle.kr_ops.specs.declared.asking.Meant.TheVariants.{Any, One, Nobody}
use Rattle.kr_ops.specs.declared.state.EndedProcess.{EndedProcess}

abbrev pub means : Meant → ℕ → Bool
means Any pid = true
means (One number) pid = pid == number
means Nobody pid = false

abbrev pub is_child : {M X : Type 0} → ℕ → Meant → Process M X → Bool
is_child parent meant p = p.parent == parent && means meant p.pid

abbrev pub is_ended_child : ℕ → Meant → EndedProcess → Bool
is_ended_child parent meant e = e.parent == parent && means meant e.pid
