-- What is left of the other processes where one ended.
use Rattle.std.specs.Prelude.{ℕ, ◌==◌, if◌then◌else◌}
use Rattle.kr_ops.specs.declared.state.Process.{Process}

-- the first process takes the place of a parent that ended
abbrev pub parent_after : ℕ → ℕ → ℕ
parent_after pid parent = if parent == pid then 1 else parent

abbrev pub adopted : {T : Type 0} {M : ℕ} → ℕ → Process T M → Process T M
adopted pid p = record p { parent = parent_after pid p.parent }
