-- The tracer, without an identity, as a watcher whose loose runs come to what their images come to.
use Rattle.law_machines.specs.kr_view.View.{plain}
use Rattle.law_machines.specs.pr_start.TracedBeginning.{Tracing, asks, tracer}
use Rattle.law_loosely.specs.Staying.{IsGood, IsTame}
use Rattle.law_entries.specs.Lasting.{StaysFor}
use Rattle.law_entries.specs.Traced.{TellsNoIdentity, TracersAreLocal, tracer_locality}
use Rattle.law_loose.specs.Images.{LooseRunsAreTheirImages}
use Rattle.law_loosely.proofs.StayLemmas.{tracers_stay_beside}
use Rattle.law_entries.proofs.MarkLemmas.{tracers-mark-nothing}
use Rattle.law_loose.proofs.BesidesLemmas.{all-beside}
use Rattle.law_loose.proofs.RunLemmas.{loose-runs-are-their-images}

pub traced-runs-are-their-images : TracersAreLocal → LooseRunsAreTheirImages tracer asks tracer_locality TellsNoIdentity IsGood IsTame plain
traced-runs-are-their-images local = loose-runs-are-their-images (record {
  f = tracer;
  asks = asks;
  l = tracer_locality;
  fits = TellsNoIdentity;
  Stays = StaysFor;
  Good = IsGood;
  Tame = IsTame;
  table = plain;
  scene = record { local = local; marks = tracers-mark-nothing; stays = tracers_stay_beside };
  below = all-beside Tracing;
})
