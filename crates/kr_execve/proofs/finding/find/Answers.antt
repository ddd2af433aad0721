use Rattle.std.proofs.Common.{refl, subst}
use Rattle.elf_load.specs.pr_base.declared.path.WalkMode.TheVariants.{Look}
use Rattle.kr_exec.specs.Finding.{program_at, program_walk}
use Rattle.kr_exec.specs.kr_view.Answers.{IsAnswer, IsReached}
use Rattle.kr_exec.specs.kr_view.Leads.{numbered}
use Rattle.kr_perform.specs.kr_ops.Meaning.{meaning}
use Rattle.kr_perform.specs.kr_seen.Held.{shown_of}
use Rattle.kr_perform.proofs.kr_seen.TargetLemmas.{around-told, shown-as}
use Rattle.kr_execve.proofs.finding.find.Goals as goal

pub returns-clause-answer : goal.returns-clause-answer
returns-clause-answer g c =
    let number = g.P.Places.number in
    let table = g.P.Places.mounts c.args.places.now in
    let told = shown-as c.procs-procs.result table c.root-root.result c.args.state.now c.procs-procs.ensures.table c.procs-procs.ensures.root c.procs-procs.ensures.state in
    let same = around-told number (shown_of c.procs-procs.result) table table c.root-root.result (meaning c.args.state.now) c.args.pid told refl c.root-root.ensures in
    subst (λ around. IsAnswer number (program_at around (numbered number c.args.base) c.args.path.now) c.find_exec.result) same c.find_exec.ensures.answer

pub returns-clause-reach : goal.returns-clause-reach
returns-clause-reach g c =
    let number = g.P.Places.number in
    let table = g.P.Places.mounts c.args.places.now in
    let told = shown-as c.procs-procs.result table c.root-root.result c.args.state.now c.procs-procs.ensures.table c.procs-procs.ensures.root c.procs-procs.ensures.state in
    let same = around-told number (shown_of c.procs-procs.result) table table c.root-root.result (meaning c.args.state.now) c.args.pid told refl c.root-root.ensures in
    subst (λ around. IsReached around Look (program_walk around (numbered number c.args.base) c.args.path.now) c.args.reach.now c.find_exec.new.reach c.find_exec.result) same c.find_exec.ensures.reach
