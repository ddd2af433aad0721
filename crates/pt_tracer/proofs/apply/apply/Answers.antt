use Rattle.std.proofs.Common.{SFits, rules, sym, w64, ◌∙◌}
use Rattle.std.proofs.Math.Facts.{to_z-of_z}
use Rattle.pt_faker.proofs.StopLemmas.{only-then}
use Rattle.pt_tracer.proofs.PokeLemmas.{emulated}
use Rattle.pt_tracer.proofs.apply.apply.Goals as goal

pub returns-in_ok-poke_all-in-Swap-clause-edits : goal.returns-in_ok-poke_all-in-Swap-clause-edits
returns-in_ok-poke_all-in-Swap-clause-edits g c = only-then c.in_ok-poke_all-in-Swap.ensures.edits c.set_all.ensures.edits

pub returns-in_ok-poke_all-in-Emulate-clause-applied : goal.returns-in_ok-poke_all-in-Emulate-clause-applied
returns-in_ok-poke_all-in-Emulate-clause-applied g c =
    let answer = c.in-Emulate.answer in
    let fits : SFits w64 answer = search rules in
    emulated (g.T.Tracee.stopped c.args.t.now) (g.T.Tracee.stopped c.poke_all-in-Emulate.new.t) (g.T.Tracee.stopped c.take_number-number.new.t) c.args.edit c.in-Emulate.pokes c.as_slice-in-Emulate-2.result.now c.as_slice-in-Emulate.result.now answer _
    c.in-Emulate.is c.as_slice-in-Emulate.ensures c.as_slice-in-Emulate-2.ensures (sym c.may_poke-in-Emulate.ensures ∙ c.if-not-may_poke-2.false) c.in_ok-poke_all-in-Emulate.ensures.poked c.take_number-number.ensures.taken (to_z-of_z {w = w64} {z = answer} fits)

pub returns-in_ok-poke_all-in-Emulate-clause-edits : goal.returns-in_ok-poke_all-in-Emulate-clause-edits
returns-in_ok-poke_all-in-Emulate-clause-edits g c = only-then c.in_ok-poke_all-in-Emulate.ensures.edits c.take_number-number.ensures.edits
