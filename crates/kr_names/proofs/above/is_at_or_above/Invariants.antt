use Rattle.std.proofs.Common.{◌≡◌, ℕ, ◌-◌}
use Rattle.kr_seen.specs.kr_model.Known.{known}
use Rattle.kr_seen.specs.kr_model.NameRows.{is_at_or_above, is_within}
use Rattle.kr_seen.specs.kr_model.State.{image_layout}
use Rattle.kr_seen.specs.kr_ops.Meaning.{meaning}
use Rattle.kr_names.proofs.above.is_at_or_above.Given as goal

abbrev pub invariant-loop-step : goal.invariant-loop-step
invariant-loop-step g l =
    (pid : ℕ) → is_within (l.limit - l._step) (known image_layout pid (meaning l.state)) l.top l.at ≡ is_at_or_above (known image_layout pid (meaning l.state)) l.top l.fn.dir
