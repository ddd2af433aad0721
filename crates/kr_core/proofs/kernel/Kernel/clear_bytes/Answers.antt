use Rattle.std.proofs.Common.{refl}
use Rattle.kr_turns.specs.kr_ops.Meaning.{meaning}
use Rattle.kr_turns.specs.kr_seen.Numbered.{state_numbered}
use Rattle.kr_core.proofs.KernelLemmas.{runs-without}
use Rattle.kr_core.proofs.StandingLemmas.{stand-same}
use Rattle.kr_core.proofs.kernel.Kernel.clear_bytes.Goals as goal

pub invariant_of-self : goal.invariant_of-self
invariant_of-self g c =
    let inside = c.self.inside in
    record {
      named = c.self.invariant.named;
      few = c.self.invariant.few;
      counted = c.self.invariant.counted;
      runs = λ whole. runs-without g.P.Places.number (g.P.Places.mounts inside.places) inside.calls inside.state c.clear.new.self c.clear-2.new.self (c.self.invariant.runs whole);
      agreement = c.self.invariant.agreement;
      standing = λ whole. stand-same g.S.Stops.is_free inside.stops (state_numbered g.P.Places.number (meaning inside.state)) _ (λ q. refl) inside.paused.items (c.self.invariant.standing whole);
    }
