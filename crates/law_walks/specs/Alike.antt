-- Two states that are equal but for mounts: a tracer is told the same of both, and walks over the host's own view find the same.
use Rattle.std.specs.Prelude.{◌≡◌, ℕ, List}
use Rattle.pt_canon.specs.pr_base.declared.path.WalkMode.{WalkMode}
use Rattle.kr_mounts.specs.kr_tree.declared.place.Place.{Place}
use Rattle.kr_mounts.specs.kr_view.Walk.{place_walk}
use Rattle.kr_model.specs.Bare.{bare}
use Rattle.kr_model.specs.HostView.{host_around_of}
use Rattle.kr_model.specs.Peeks.{peeked_of}
use Rattle.kr_model.specs.State.{Image, State, image_layout}

-- equal but for the mounts of places, the holds that mounts have, and what processes compute on
abbrev pub AreEqualButForMounts : {M N : Type 0} → (ℕ → ℕ) → (ℕ → ℕ) → State M Image → State N Image → Type 0
AreEqualButForMounts pins less s w = bare image_layout pins s ≡ bare image_layout less w

abbrev pub PeeksAreBare : Type 0 → Type 0 → Type 0
PeeksAreBare M N = (pins less : ℕ → ℕ) (s : State M Image) (w : State N Image) (caller : ℕ) → AreEqualButForMounts pins less s w → peeked_of s caller ≡ peeked_of w caller

-- with all that they come by
abbrev pub HostWalksAreBare : Type 0 → Type 0 → Type 0
HostWalksAreBare M N =
    (pins less : ℕ → ℕ) (s : State M Image) (w : State N Image) (caller : ℕ) (mode : WalkMode) (base : Place ℕ) (path : List ℕ) → AreEqualButForMounts pins less s w
    → place_walk (host_around_of s caller) mode base path ≡ place_walk (host_around_of w caller) mode base path
