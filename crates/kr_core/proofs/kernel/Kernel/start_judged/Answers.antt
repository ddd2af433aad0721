use Rattle.std.proofs.Common.{arith}
use Rattle.kr_core.proofs.StandingLemmas.{none-standing}
use Rattle.kr_core.proofs.StartLemmas.{start-agrees}
use Rattle.kr_core.proofs.kernel.Kernel.start_judged.Goals as goal

pub invariant_of-kernel : goal.invariant_of-kernel
invariant_of-kernel g c = record {
  named = c.requires.named;
  few = c.requires.few;
  counted = (omega arith, omega arith);
  runs = λ whole. c.in-Ok.ensures.runs;
  agreement = λ whole.
      start-agrees g.S.Stops.agrees g.met.S.Stops.lasts_with_shape g.P.Places.number (g.P.Places.mounts c.args.places) c.args.tree c.args.user c.args.input c.args.first c.in-Ok.started.state c.args.stops
      c.trees_are_kept.ensures.kept.sound c.in-Ok.ensures.answer c.requires.agrees;
  standing = λ whole. none-standing g.S.Stops.is_free c.args.stops _ _ c.new-paused.ensures.items;
}
