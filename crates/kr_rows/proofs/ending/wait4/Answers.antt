use Rattle.std.proofs.Common.{◌≡◌, ◌==◌, ◌&&◌, Bool, true, false, ℕ, Option, Some, None, cond, refl, sym, ap, ◌∙◌, w32, []}
use Rattle.std.specs.List.{find, list_any}
use Rattle.std.specs.Option.{option_map}
use Rattle.std.proofs.Math.Facts.{to_z-of_z}
use Rattle.kr_seen.specs.pr_base.declared.errno.Errno.TheVariants.{ECHILD}
use Rattle.kr_seen.specs.kr_model.Known.{Family, known}
use Rattle.kr_seen.specs.kr_model.ProcessRows.{hangs_not, is_meant, reap, wait_for}
use Rattle.kr_seen.specs.kr_model.Reply.{answers, done, refuse, waits}
use Rattle.kr_seen.specs.kr_model.State as model
use Rattle.kr_seen.specs.kr_model.declared.outcome.Outcome.TheVariants.{Wait}
use Rattle.kr_seen.specs.kr_ops.Children.{means}
use Rattle.kr_seen.specs.kr_ops.Meaning.{ended_meaning, meaning}
use Rattle.kr_seen.proofs.PerformLemmas.{by-refusal, by-reply, by-row}
use Rattle.kr_rows.proofs.WaitLemmas.{meant-ended, meant-living}
use Rattle.kr_rows.proofs.ending.wait4.Goals as goal

pub returns-in-Some-clause-performs : goal.returns-in-Some-clause-performs
returns-in-Some-clause-performs g c = λ some.
    let k = known model.image_layout c.args.pid (meaning c.args.state.now) in
    let same : (n : ℕ) → means c.by-meant.result n ≡ is_meant c.args.child n = λ n. c.by-meant.ensures n ∙ ap (λ z. is_meant z n) (to_z-of_z {w = w32} {z = c.args.child} c.ranges.child) in
    let living : Bool = list_any (λ (p : Family). p.parent == c.args.pid && is_meant c.args.child p.pid) k.living in
    let ended : Option model.Ended = find (λ (e : model.Ended). e.parent == c.args.pid && is_meant c.args.child e.pid) k.ended in
    let there : ended ≡ Some (ended_meaning c.in-Some.ended) = sym (meant-ended c.args.pid c.by-meant.result c.args.child same c.args.state.now.ended.items) ∙ ap (option_map ended_meaning) (sym c.in-Some.ensures) in
    by-row c.args.pid _ c.args.state.now c.reap.new.state c.reap.result c.requires.sound.pids (λ _. reap c.args.status c.args.usage (ended_meaning c.in-Some.ended))
    (ap (wait_for living (hangs_not c.args.options) c.args.status c.args.usage) there) (c.reap.ensures.performs some)

pub returns-then-not-has_child-clause-performs : goal.returns-then-not-has_child-clause-performs
returns-then-not-has_child-clause-performs g c = λ some.
    let k = known model.image_layout c.args.pid (meaning c.args.state.now) in
    let same : (n : ℕ) → means c.by-meant.result n ≡ is_meant c.args.child n = λ n. c.by-meant.ensures n ∙ ap (λ z. is_meant z n) (to_z-of_z {w = w32} {z = c.args.child} c.ranges.child) in
    let living : Bool = list_any (λ (p : Family). p.parent == c.args.pid && is_meant c.args.child p.pid) k.living in
    let ended : Option model.Ended = find (λ (e : model.Ended). e.parent == c.args.pid && is_meant c.args.child e.pid) k.ended in
    let none : ended ≡ None = sym (meant-ended c.args.pid c.by-meant.result c.args.child same c.args.state.now.ended.items) ∙ ap (option_map ended_meaning) (sym c.ended_child.ensures ∙ c.in_default.is) in
    let lives : living ≡ false = sym (meant-living c.args.pid c.by-meant.result c.args.child same (meaning c.args.state.now).living) ∙ sym c.has_child.ensures ∙ c.if-not-has_child.true in
    by-refusal c.args.pid _ c.args.state.now c.args.state.now c.refused.result c.requires.sound.pids ECHILD
    (ap (wait_for living (hangs_not c.args.options) c.args.status c.args.usage) none ∙ ap (λ b. cond b (cond (hangs_not c.args.options) (done 0 []) waits) (refuse ECHILD)) lives)
    c.refused.ensures refl

pub returns-then-hangs_not-clause-performs : goal.returns-then-hangs_not-clause-performs
returns-then-hangs_not-clause-performs g c = λ some.
    let k = known model.image_layout c.args.pid (meaning c.args.state.now) in
    let same : (n : ℕ) → means c.by-meant.result n ≡ is_meant c.args.child n = λ n. c.by-meant.ensures n ∙ ap (λ z. is_meant z n) (to_z-of_z {w = w32} {z = c.args.child} c.ranges.child) in
    let living : Bool = list_any (λ (p : Family). p.parent == c.args.pid && is_meant c.args.child p.pid) k.living in
    let ended : Option model.Ended = find (λ (e : model.Ended). e.parent == c.args.pid && is_meant c.args.child e.pid) k.ended in
    let none : ended ≡ None = sym (meant-ended c.args.pid c.by-meant.result c.args.child same c.args.state.now.ended.items) ∙ ap (option_map ended_meaning) (sym c.ended_child.ensures ∙ c.in_default.is) in
    let lives : living ≡ true = sym (meant-living c.args.pid c.by-meant.result c.args.child same (meaning c.args.state.now).living) ∙ sym c.has_child.ensures ∙ c.if-not-has_child.false in
    let hangs : hangs_not c.args.options ≡ true = ap hangs_not (sym (to_z-of_z {w = w32} {z = c.args.options} c.ranges.options)) ∙ sym c.hangs_not.ensures ∙ c.if-hangs_not.true in
    by-reply c.args.pid _ c.args.state.now c.args.state.now c.number.result c.requires.sound.pids (answers 0 [])
    (ap (wait_for living (hangs_not c.args.options) c.args.status c.args.usage) none ∙ ap (λ b. cond b (cond (hangs_not c.args.options) (done 0 []) waits) (refuse ECHILD)) lives ∙ ap (λ b. cond b (done 0 []) waits) hangs)
    c.number.ensures (λ mounts. refl)

pub returns-else-hangs_not-clause-performs : goal.returns-else-hangs_not-clause-performs
returns-else-hangs_not-clause-performs g c = λ some.
    let k = known model.image_layout c.args.pid (meaning c.args.state.now) in
    let same : (n : ℕ) → means c.by-meant.result n ≡ is_meant c.args.child n = λ n. c.by-meant.ensures n ∙ ap (λ z. is_meant z n) (to_z-of_z {w = w32} {z = c.args.child} c.ranges.child) in
    let living : Bool = list_any (λ (p : Family). p.parent == c.args.pid && is_meant c.args.child p.pid) k.living in
    let ended : Option model.Ended = find (λ (e : model.Ended). e.parent == c.args.pid && is_meant c.args.child e.pid) k.ended in
    let none : ended ≡ None = sym (meant-ended c.args.pid c.by-meant.result c.args.child same c.args.state.now.ended.items) ∙ ap (option_map ended_meaning) (sym c.ended_child.ensures ∙ c.in_default.is) in
    let lives : living ≡ true = sym (meant-living c.args.pid c.by-meant.result c.args.child same (meaning c.args.state.now).living) ∙ sym c.has_child.ensures ∙ c.if-not-has_child.false in
    let hangs : hangs_not c.args.options ≡ false = ap hangs_not (sym (to_z-of_z {w = w32} {z = c.args.options} c.ranges.options)) ∙ sym c.hangs_not.ensures ∙ c.if-hangs_not.false in
    by-reply c.args.pid _ c.args.state.now c.args.state.now Wait c.requires.sound.pids (record { outcome = Wait; changes = [] })
    (ap (wait_for living (hangs_not c.args.options) c.args.status c.args.usage) none ∙ ap (λ b. cond b (cond (hangs_not c.args.options) (done 0 []) waits) (refuse ECHILD)) lives ∙ ap (λ b. cond b (done 0 []) waits) hangs)
    refl (λ mounts. refl)
