-- What a tracer's table needs of settled bindings.
use Rattle.std.specs.Prelude.{◌≡◌, ◌+◌, ◌⊎◌, ◌++◌, ℕ, List, [], ◌∷◌, Some, slice_get}
use Rattle.pt_bind.specs.pr_base.declared.bind.Bind.{Bind}
use Rattle.pt_bind.specs.pr_base.declared.bind.Bound.{Bound}
use Rattle.pt_bind.specs.Binding.{IsWritten}
use Rattle.kr_mounts.specs.declared.mount.Mount.{Mount}

-- bindings have their numbers, counted from one, as indices
abbrev pub AreNumbered : List Bind → Type 0
AreNumbered binds = (k : ℕ) (b : Bind) → slice_get binds k ≡ Some b → b.index ≡ 1 + k

-- bytes are those of texts; none stand for a mount point that isn't there
pub record AreWritten (bound : Bound) : Type 0 where
  pub location : IsWritten bound.location
  pub source : IsWritten bound.source
  pub point : (bound.point ≡ []) ⊎ IsWritten bound.point

abbrev pub IsSpelled : Mount → Type 0
IsSpelled mount = AreWritten mount.text

-- one mount more, whose texts are such
pub record HasOneMore (before after : List Mount) : Type 0 where
  pub mount : Mount
  pub added : after ≡ before ++ mount ∷ []
  pub spelled : IsSpelled mount
