use Rattle.std.proofs.Common.{◌≡◌, ◌∙◌, ◌+◌, if◌then◌else◌, length, ap, arith, subst, sym}
use Rattle.pt_faker.specs.kr_stops.Remembering.{KeepsOthersFree, StillAgrees}
use Rattle.law_steady.specs.pt_canon.Remembering.{Walking}
use Rattle.pt_tracer.specs.Agreeing.{AgreesWith}
use Rattle.pt_tracer.specs.Pausing.{IsPausedBy, IsPausedFor, Pausing}
use Rattle.pt_tracer.proofs.PauseLemmas.{others-paused, paused-less, resumed-agrees, some-pauses}
use Rattle.pt_tracer.proofs.pausing.PausingWalker.resume_for.Goals as goal

pub resume-requires : goal.resume-requires
resume-requires c =
    let left = c.remove-paused.new.self.keys in
    let long : length left + 1 ≡ length c.self.inside.pids.keys = ap (λ b. length left + (if b then 1 else 0)) (sym c.if-not-paused.false) ∙ c.remove-paused.ensures.len in
    some-pauses c.self.inside.walker c.self.inside.pids.keys c.self.invariant left long

pub invariant_of-self-2 : goal.invariant_of-self-2
invariant_of-self-2 c =
    let left = c.remove-paused.new.self.keys in
    let long : length left + 1 ≡ length c.self.inside.pids.keys = ap (λ b. length left + (if b then 1 else 0)) (sym c.if-not-paused.false) ∙ c.remove-paused.ensures.len in
    paused-less c.self.inside.walker c.self.inside.pids.keys c.self.invariant left long c.resume.new.self (ap (λ (w : Walking). w.pauses) c.resume.ensures)

pub returns-clause-agrees : goal.returns-clause-agrees
returns-clause-agrees c =
    let w = c.resume.new.self in
    subst (λ (x : Pausing). StillAgrees AgreesWith x.walker w) c.self.view_is (resumed-agrees c.self.inside.walker w (ap (λ (w : Walking). w.remembered) c.resume.ensures))

pub returns-clause-others : goal.returns-clause-others
returns-clause-others c =
    let w = c.resume.new.self in
    let old = c.self.inside.pids.keys in
    let left = c.remove-paused.new.self.keys in
    let long : length left + 1 ≡ length old = ap (λ b. length left + (if b then 1 else 0)) (sym c.if-not-paused.false) ∙ c.remove-paused.ensures.len in
    let by = paused-less c.self.inside.walker old c.self.invariant left long w (ap (λ (w : Walking). w.pauses) c.resume.ensures) in
    subst (λ (x : Pausing). KeepsOthersFree IsPausedFor c.args.pid x (record { walker = w; pids = left })) c.self.view_is (others-paused c.self.inside.walker w old left c.args.pid by c.remove-paused.ensures.updates.2)

pub returns-then-not-paused-clause-others : goal.returns-then-not-paused-clause-others
returns-then-not-paused-clause-others c =
    let w = c.self.inside.walker in
    let old = c.self.inside.pids.keys in
    let left = c.remove-paused.new.self.keys in
    let long : length left + 0 ≡ length old = ap (λ b. length left + (if b then 1 else 0)) (sym c.if-not-paused.true) ∙ c.remove-paused.ensures.len in
    let counts = c.self.invariant.counts in
    let by : IsPausedBy w left = record { counts = omega arith } in
    subst (λ (x : Pausing). KeepsOthersFree IsPausedFor c.args.pid x (record { walker = w; pids = left })) c.self.view_is (others-paused w w old left c.args.pid by c.remove-paused.ensures.updates.2)

pub returns-then-not-paused-clause-agrees : goal.returns-then-not-paused-clause-agrees
returns-then-not-paused-clause-agrees c = λ tree user before. subst (λ (x : Pausing). AgreesWith x.walker tree user) (sym c.self.view_is) before
