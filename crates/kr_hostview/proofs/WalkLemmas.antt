-- Walks of the host's own view in code, and what is read where they end.
use Rattle.std.proofs.Common.{◌≡◌, ℕ, Bool, not, Option, Some, None, Result, Ok, Err, refl, sym, ap, subst, ◌∙◌}
use Rattle.std.specs.Option.{option_map}
use Rattle.kr_seen.specs.pr_base.declared.errno.Errno.{Errno}
use Rattle.kr_seen.specs.pr_base.declared.errno.Errno.TheVariants.{ENOENT}
use Rattle.kr_seen.specs.pr_base.declared.path.WalkMode.{WalkMode}
use Rattle.kr_seen.specs.pr_base.declared.peeks.PeekFault.{PeekFault}
use Rattle.kr_seen.specs.pr_base.declared.peeks.PeekFault.TheVariants as fault
use Rattle.kr_seen.specs.pr_base.Peeks.{IsNoted}
use Rattle.kr_seen.specs.kr_tree.declared.place.Host.{Host}
use Rattle.kr_seen.specs.kr_tree.declared.place.Place.{Place}
use Rattle.kr_seen.specs.kr_view.declared.target.Reach.{Reach}
use Rattle.kr_seen.specs.kr_view.declared.target.Target.{Target}
use Rattle.kr_seen.specs.kr_view.declared.view.HostMount.{HostMount}
use Rattle.kr_seen.specs.kr_view.Answers.{IsAnswer}
use Rattle.kr_seen.specs.kr_view.Component.{Surroundings}
use Rattle.kr_seen.specs.kr_view.Leads.{numbered}
use Rattle.kr_seen.specs.kr_view.Living.{finds_among}
use Rattle.kr_seen.specs.kr_view.Reach.{is_steady, nothing, reach_after}
use Rattle.kr_seen.specs.kr_view.View.{plain, root_place}
use Rattle.kr_seen.specs.kr_view.Walk.{PlaceTarget, PlaceTrail, surroundings}
use Rattle.kr_seen.specs.kr_model.HostView.{host_around_of, host_leads, host_space}
use Rattle.kr_seen.specs.kr_model.Peeks.{at_found, kind_of_answer, kind_seen}
use Rattle.kr_seen.specs.kr_model.ProcessDirectory.{living_of}
use Rattle.kr_seen.specs.kr_model.State.{Image, State}
use Rattle.kr_seen.specs.kr_ops.declared.state.State.{State as Held}
use Rattle.kr_seen.specs.kr_ops.Meaning.{meaning}
use Rattle.kr_hostview.specs.OnHost.{lead_on_host, number}
use Rattle.kr_hostview.specs.Peeking.{IsFound, kind_at}
use Rattle.kr_hostview.proofs.LawLemmas.{told-same}

-- what holds of a walk over what the code shows holds over the host's own view of the state
module _ {T : Type 0} {M : ℕ} (state procs : Held T M) (same : procs ≡ state) (caller : ℕ) (base : Place ℕ) (rooted : base ≡ root_place plain) (Holds : Surroundings → Place ℕ → Type 0) where
  pub walked-on-host : Holds (surroundings number plain state.tree state.user (finds_among (living_of (meaning procs))) (λ at. lead_on_host (host_leads (meaning procs) caller at))) base → Holds (host_around_of (meaning state) caller) (root_place plain)
  walked-on-host h =
      subst (λ leads. Holds (record { space = host_space (meaning state); leads = leads }) (root_place plain)) (λ j at. told-same (meaning state) caller at j)
      (subst (Holds (surroundings number plain state.tree state.user (finds_among (living_of (meaning state))) (λ at. lead_on_host (host_leads (meaning state) caller at)))) rooted
      (subst (λ (procs : Held T M). Holds (surroundings number plain state.tree state.user (finds_among (living_of (meaning procs))) (λ at. lead_on_host (host_leads (meaning procs) caller at))) base) same h))

-- so a walk that reached nothing before tells whether it is steady
pub told-steady : (around : Surroundings) (mode : WalkMode) (trail : PlaceTrail) (old new : Reach) → old ≡ nothing → new ≡ reach_after around mode trail old → not new.met_proc ≡ is_steady around mode trail
told-steady around mode trail old new first reached = ap (λ (r : Reach). not r.met_proc) (reached ∙ ap (reach_after around mode trail) first)

-- what is noted of a walk is so whatever is read where it ends
pub any-noted : {A : Type 0} (after new : Bool) (r : Result A PeekFault) → new ≡ after → IsNoted after new r
any-noted after new (Ok x) e = e
any-noted after new (Err (fault.Err f)) e = e
any-noted after new (Err fault.NoMemory) e = tt

-- the object of what a walk found
pub is-found : (answer : Result PlaceTarget Errno) (target : Target HostMount) (object : Option Host) → object ≡ option_map (λ (p : Place HostMount). p.host) target.found → IsAnswer number answer (Ok target) → IsFound answer (Ok object)
is-found answer target object is h = subst (λ object. IsFound answer (Ok object)) (sym is) (h.0, h.1, ap (λ x. x.found) h.2 ∙ by target.found)
  where
    by : (o : Option (Place HostMount)) → option_map (numbered number) o ≡ option_map (λ x. record { mount = 0; host = x }) (option_map (λ (p : Place HostMount). p.host) o)
    by None = refl
    by (Some p) = refl

module _ {T : Type 0} (s : State T Image) (caller : ℕ) where
  -- its kind
  pub kind-found : (answer : Result PlaceTarget Errno) (object : Host) → IsFound answer (Ok (Some object)) → kind_of_answer (host_around_of s caller) answer ≡ kind_at s caller object
  kind-found answer object found = ap (kind_of_answer (host_around_of s caller)) found.1 ∙ ap (at_found (host_around_of s caller) (Err ENOENT) kind_seen) found.2
