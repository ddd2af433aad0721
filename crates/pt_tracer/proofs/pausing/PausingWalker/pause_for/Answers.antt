use Rattle.std.proofs.Common.{◌≡◌, ◌∙◌, ◌+◌, if◌then◌else◌, length, ap, arith, subst}
use Rattle.std.specs.Ordering.{eq_by_cmp, nat_cmp}
use Rattle.pt_faker.specs.kr_stops.Remembering.{KeepsAllFree}
use Rattle.law_steady.specs.pt_canon.Remembering.{Walking}
use Rattle.pt_tracer.specs.Pausing.{IsPausedBy, IsPausedFor, Pausing, is_pausing}
use Rattle.pt_tracer.proofs.PauseLemmas.{all-paused, paused-for, paused-more, still-pausing}
use Rattle.pt_tracer.proofs.pausing.PausingWalker.pause_for.Goals as goal

pub pause-requires : goal.pause-requires
pause-requires c = let counts = c.self.invariant.counts in omega arith

-- it pauses for the process already
pub returns-then-not-is_new-clause-paused : goal.returns-then-not-is_new-clause-paused
returns-then-not-is_new-clause-paused c =
    let more = c.insert.new.self.keys in
    let long : length more ≡ length c.self.inside.pids.keys + 0 = c.in_ok-is_new.ensures.len ∙ ap (λ b. length c.self.inside.pids.keys + (if b then 1 else 0)) c.if-not-is_new.true in
    let counts = c.self.invariant.counts in
    let by : IsPausedBy c.self.inside.walker more = record { counts = omega arith } in
    paused-for c.self.inside.walker more by c.args.pid c.in_ok-is_new.ensures.updates.1

pub returns-then-not-is_new-clause-others : goal.returns-then-not-is_new-clause-others
returns-then-not-is_new-clause-others c =
    let w = c.self.inside.walker in
    let old = c.self.inside.pids.keys in
    let more = c.insert.new.self.keys in
    let long : length more ≡ length old + 0 = c.in_ok-is_new.ensures.len ∙ ap (λ b. length old + (if b then 1 else 0)) c.if-not-is_new.true in
    let counts = c.self.invariant.counts in
    let by : IsPausedBy w more = record { counts = omega arith } in
    let still = all-paused w w old more by (λ q paused. still-pausing (eq_by_cmp nat_cmp c.args.pid q) (is_pausing q old) (is_pausing q more) (c.in_ok-is_new.ensures.updates.0 q) paused) in
    subst (λ (x : Pausing). KeepsAllFree IsPausedFor x (record { walker = w; pids = more })) c.self.view_is still

-- it pauses once more
pub returns-clause-paused : goal.returns-clause-paused
returns-clause-paused c =
    let w = c.pause.new.self in
    let old = c.self.inside.pids.keys in
    let more = c.insert.new.self.keys in
    let long : length more ≡ length old + 1 = c.in_ok-is_new.ensures.len ∙ ap (λ b. length old + (if b then 1 else 0)) c.if-not-is_new.false in
    let by = paused-more c.self.inside.walker old c.self.invariant w more (ap (λ (x : Walking). x.pauses) c.pause.ensures) long in
    paused-for w more by c.args.pid c.in_ok-is_new.ensures.updates.1

pub returns-clause-others : goal.returns-clause-others
returns-clause-others c =
    let w = c.pause.new.self in
    let old = c.self.inside.pids.keys in
    let more = c.insert.new.self.keys in
    let long : length more ≡ length old + 1 = c.in_ok-is_new.ensures.len ∙ ap (λ b. length old + (if b then 1 else 0)) c.if-not-is_new.false in
    let by = paused-more c.self.inside.walker old c.self.invariant w more (ap (λ (x : Walking). x.pauses) c.pause.ensures) long in
    let still = all-paused c.self.inside.walker w old more by (λ q paused. still-pausing (eq_by_cmp nat_cmp c.args.pid q) (is_pausing q old) (is_pausing q more) (c.in_ok-is_new.ensures.updates.0 q) paused) in
    subst (λ (x : Pausing). KeepsAllFree IsPausedFor x (record { walker = w; pids = more })) c.self.view_is still
