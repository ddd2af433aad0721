-- The mounts that changes may name, by their numbers in a view.
use Rattle.std.specs.Prelude.{ℕ}
use Rattle.std.specs.Option.{option_map}
use Rattle.kr_ops.specs.kr_model.Applied.{Mounts}

abbrev pub mounts_numbered : {T : Type 0} → (T → ℕ) → Mounts T → Mounts ℕ
mounts_numbered number mounts = record { found = option_map number mounts.found; directory = option_map number mounts.directory }
