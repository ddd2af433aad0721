use Rattle.std.proofs.Common.{◌≡◌, ◌<◌, ◌+◌, ◌-◌, ◌^◌, ◌++◌, length, map, sym, ap, ◌∙◌, arith}
use Rattle.std.proofs.lemmas.List.{length-append, length-map}
use Rattle.kr_view.specs.kr_tree.pr_base.Paths.{component_of, components_of, parts_of}
use Rattle.kr_view.specs.kr_tree.pr_base.WalkFrame.{walk_on, begins_at}
use Rattle.kr_view.specs.Leads.{numbered}
use Rattle.kr_view.specs.Walk.{looking}
use Rattle.kr_walk.specs.Sights.{surroundings_of}
use Rattle.kr_walk.specs.Stacks.{stack_of}
use Rattle.kr_view.proofs.RestLemmas.{parts_fewer}
use Rattle.kr_view.proofs.kr_tree.pr_base.WalkLemmas.{onward-less}
use Rattle.kr_walk.proofs.surroundings.Surroundings.follow.Goals as goal

pub returns : goal.returns
returns g c =
    let around = surroundings_of g.P.Places.number g.P.Places.mounts g.Q.Procs.finds g.Q.Procs.leads c.args.self.now in
    let s = numbered g.P.Places.number c.args.walk.position.place in
    let text = c.args.text.now in
    let pushed : stack_of c.push.new.self ≡ components_of text ++ stack_of c.args.walk.rests =
    c.in_ok-push.ensures ∙ ap (λ parts. map component_of parts ++ stack_of c.args.walk.rests) (c.new.ensures ∙ ap parts_of c.in_ok-copy.ensures) in
    let some = c.if-left-eq0.false in
    let fewer = parts_fewer text in
    let count : length (components_of text) ≡ length (parts_of text) = length-map (parts_of text) component_of in
    let sum : length (stack_of c.push.new.self) ≡ length (components_of text) + length (stack_of c.args.walk.rests) = ap length pushed ∙ length-append (components_of text) (stack_of c.args.walk.rests) in
    record {
      trail = λ mode.
          ap (λ q. walk_on (looking around) mode (c.args.walk.left - 1) q (stack_of c.push.new.self) c.args.slash) c.in_ok-position.ensures.place
          ∙ ap (λ cs. walk_on (looking around) mode (c.args.walk.left - 1) (begins_at (looking around) s text) cs c.args.slash) pushed
          ∙ sym (onward-less (looking around) mode c.args.walk.left (begins_at (looking around) s text) (components_of text ++ stack_of c.args.walk.rests) c.args.slash some);
      named = c.in_ok-position.ensures.named;
      less = let bound : length text < 2 ^ 64 = omega arith in omega arith;
    }
