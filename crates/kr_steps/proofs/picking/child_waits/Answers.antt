use Rattle.std.proofs.Common.{◌≡◌, ◌==◌, ◌&&◌, not, Bool, ℕ, Option, sym, ap, ◌∙◌, w32}
use Rattle.std.specs.Prelude.{is_some}
use Rattle.std.specs.List.{list_any}
use Rattle.std.specs.Option.{option_map}
use Rattle.std.proofs.Math.Facts.{to_z-of_z}
use Rattle.kr_perform.specs.kr_model.Known.{Family, known}
use Rattle.kr_perform.specs.kr_model.ProcessRows.{is_meant}
use Rattle.kr_perform.specs.kr_model.State as model
use Rattle.kr_perform.specs.kr_ops.Children.{means}
use Rattle.kr_perform.specs.kr_ops.Meaning.{ended_meaning, meaning}
use Rattle.kr_perform.proofs.kr_rows.WaitLemmas.{meant-ended, meant-living}
use Rattle.kr_steps.proofs.picking.child_waits.Goals as goal

pub returns-in-Some : goal.returns-in-Some
returns-in-Some g c =
    let k = known model.image_layout c.args.pid (meaning c.args.state.now) in
    let same : (n : ℕ) → means c.by-meant.result n ≡ is_meant c.args.child n = λ n. c.by-meant.ensures n ∙ ap (λ z. is_meant z n) (to_z-of_z {w = w32} {z = c.args.child} c.ranges.child) in
    let living : Bool = list_any (λ (p : Family). p.parent == c.args.pid && is_meant c.args.child p.pid) k.living in
    let there = sym (meant-ended c.args.pid c.by-meant.result c.args.child same c.args.state.now.ended.items) ∙ ap (option_map ended_meaning) (sym c.ended_child.ensures ∙ c.in-Some.is) in
    sym (ap (λ (o : Option model.Ended). not (is_some o) && living) there)

pub returns-in-None : goal.returns-in-None
returns-in-None g c =
    let k = known model.image_layout c.args.pid (meaning c.args.state.now) in
    let same : (n : ℕ) → means c.by-meant.result n ≡ is_meant c.args.child n = λ n. c.by-meant.ensures n ∙ ap (λ z. is_meant z n) (to_z-of_z {w = w32} {z = c.args.child} c.ranges.child) in
    let living : Bool = list_any (λ (p : Family). p.parent == c.args.pid && is_meant c.args.child p.pid) k.living in
    let none = sym (meant-ended c.args.pid c.by-meant.result c.args.child same c.args.state.now.ended.items) ∙ ap (option_map ended_meaning) (sym c.ended_child.ensures ∙ c.in-None.is) in
    c.has_child.ensures ∙ meant-living c.args.pid c.by-meant.result c.args.child same (meaning c.args.state.now).living ∙ sym (ap (λ (o : Option model.Ended). not (is_some o) && living) none)
