use Rattle.std.proofs.Common.{ℕ, List, Ok}
use Rattle.std.proofs.lemmas.Result.{err_from_is_err_and}
use Rattle.kr_walk.specs.kr_view.Leads.{numbered}
use Rattle.kr_calls.specs.Scripts.{script_of}
use Rattle.kr_exec.specs.Answers.{around_of}
use Rattle.kr_exec.proofs.RunningLemmas.{covers_line, line_reached, wanting_reach}
use Rattle.kr_exec.proofs.scripts.Search.interpreted.Goals as goal

pub returns-in_err-args-clause-reach : goal.returns-in_err-args-clause-reach
returns-in_err-args-clause-reach g c =
    let around = around_of g.P.Places.number g.P.Places.mounts g.Q.Procs.finds g.Q.Procs.leads c.args.self.now in
    let base = numbered g.P.Places.number c.args.base in
    let e = err_from_is_err_and c.from_residual-in_err-args.result c.from_residual-in_err-args.ensures.1 in
    let line = script_of c.args.head.now in
    let words : List ℕ × List ℕ = (c.in-Some.interpreter.now, c.in-Some.argument.now) in
    rw (e.1, e.2)
    (wanting_reach _ c.args.reach.now c.find.new.reach (line_reached around base line words c.args.reach.now c.find.new.reach (Ok c.in_ok-file.file) c.in-Some.ensures c.in_ok-file.ensures.reach)
    (covers_line around base line c.args.reach.now))

pub returns-in_err-path-clause-reach : goal.returns-in_err-path-clause-reach
returns-in_err-path-clause-reach g c =
    let around = around_of g.P.Places.number g.P.Places.mounts g.Q.Procs.finds g.Q.Procs.leads c.args.self.now in
    let base = numbered g.P.Places.number c.args.base in
    let e = err_from_is_err_and c.from_residual-in_err-path.result c.from_residual-in_err-path.ensures.1 in
    let line = script_of c.args.head.now in
    let words : List ℕ × List ℕ = (c.in-Some.interpreter.now, c.in-Some.argument.now) in
    rw (e.1, e.2)
    (wanting_reach _ c.args.reach.now c.find.new.reach (line_reached around base line words c.args.reach.now c.find.new.reach (Ok c.in_ok-file.file) c.in-Some.ensures c.in_ok-file.ensures.reach)
    (covers_line around base line c.args.reach.now))
