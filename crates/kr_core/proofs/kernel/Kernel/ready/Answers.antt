use Rattle.std.proofs.Common.{◌≡◌, lit<, ap, subst, ◌∙◌, slice_get}
use Rattle.std.specs.Option.{option_map}
use Rattle.kr_turns.proofs.kr_ops.UseLemmas.{sound-of}
use Rattle.kr_turns.specs.Steps.{ready_processes}
use Rattle.kr_core.specs.Kernel.{Kernel, machine}
use Rattle.kr_core.proofs.KernelLemmas.{ready-numbered}
use Rattle.kr_core.proofs.kernel.Kernel.ready.Goals as goal

pub ready-requires : goal.ready-requires
ready-requires g c =
    let runs = c.self.invariant.runs (ap (λ k. k.whole) c.self.view_is ∙ c.requires) in
    (lit< tt, sound-of g.P.Places.number (g.P.Places.mounts c.self.inside.places) c.self.inside.state runs.lasts.lawful runs.served)

pub returns : goal.returns
returns g c =
    subst
    (λ (k : Kernel g.row.P.Denot g.row.S.Denot g.row.P-Mount.Denot g.row.MARKED). c.ready.result ≡ option_map (λ p. p.pid) (slice_get (ready_processes (machine g.P.Places.number k).state) c.args.k))
    c.self.view_is (c.ready.ensures ∙ ready-numbered g.P.Places.number c.self.inside.state c.args.k)
