-- What stands at a steady host path is no link of the process directory, and what stands in front of it is steady. No clause cites this module.
use Rattle.std.specs.Prelude.{ℕ, List, ◌∷◌, ◌≡◌, ◌≢◌, true, Ok}
use Rattle.kr_seen.specs.pr_base.Paths.{AreParts, itself_in, text_of}
use Rattle.kr_seen.specs.pr_base.Peeks.{FrontsAreSteady, SteadyIsNoJump}
use Rattle.kr_seen.specs.pr_base.Texts.{Text}
use Rattle.kr_seen.specs.pr_base.declared.path.WalkMode.TheVariants.{LookLink}
use Rattle.kr_seen.specs.pr_base.declared.peeks.PeekKind.TheVariants.{Jump}
use Rattle.kr_seen.specs.kr_view.Component.{Surroundings}
use Rattle.kr_seen.specs.kr_model.HostView.{host_around_of}
use Rattle.kr_seen.specs.kr_model.Peeks.{kind_along, peeked_of, steady_along}
use Rattle.kr_seen.specs.kr_model.State.{State}
use Rattle.kr_seen.proofs.FrontLemmas.{fronts_are_steady}
use Rattle.kr_seen.proofs.SteadyLemmas.{steady_is_no_jump}

pub no-jump-along : (around : Surroundings) (path : List ℕ) → steady_along around LookLink path ≡ true → kind_along around path ≢ Ok Jump
no-jump-along around path steady = steady_is_no_jump around path steady

pub no-jump : {M X : Type 0} (s : State M X) (caller : ℕ) → SteadyIsNoJump (peeked_of s caller)
no-jump s caller path steady = no-jump-along (host_around_of s caller) path steady

pub fronts-along : (around : Surroundings) (name : List ℕ) (host : Text) → AreParts (name ∷ host) → steady_along around LookLink (text_of (name ∷ host)) ≡ true
    → (steady_along around LookLink (text_of host) ≡ true) × (steady_along around LookLink (itself_in host) ≡ true)
fronts-along around name host parts steady = fronts_are_steady around name host parts steady

pub fronts : {M X : Type 0} (s : State M X) (caller : ℕ) → FrontsAreSteady (peeked_of s caller)
fronts s caller name host parts steady = fronts-along (host_around_of s caller) name host parts steady
