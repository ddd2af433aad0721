use Rattle.std.proofs.Common.{lit<, ap, ◌∙◌}
use Rattle.kr_turns.proofs.kr_ops.UseLemmas.{sound-of}
use Rattle.kr_core.proofs.KernelLemmas.{picked-told}
use Rattle.kr_core.proofs.kernel.Kernel.picked.Goals as goal

pub picked-requires : goal.picked-requires
picked-requires g c =
    let runs = c.self.invariant.runs (ap (λ k. k.whole) c.self.view_is ∙ c.requires) in
    (lit< tt, sound-of g.P.Places.number (g.P.Places.mounts c.self.inside.places) c.self.inside.state runs.lasts.lawful runs.served)

pub returns : goal.returns
returns g c =
    let runs = c.self.invariant.runs (ap (λ k. k.whole) c.self.view_is ∙ c.requires) in
    picked-told g.P.Places.number _ c.args.pick _ c.self.view_is runs.lasts.lawful.pids c.picked.result c.picked.ensures
