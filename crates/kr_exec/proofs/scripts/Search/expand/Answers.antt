use Rattle.std.proofs.Common.{◌≡◌, ◌∙◌, ◌-◌, suc, sym, arith}
use Rattle.std.proofs.lemmas.Result.{err_from_is_err_and}
use Rattle.kr_walk.specs.kr_view.Leads.{numbered}
use Rattle.kr_calls.specs.Expansion.{most_scripts}
use Rattle.kr_exec.specs.Answers.{around_of, running}
use Rattle.kr_exec.specs.Interpreters.{ends_of, paths_of, programs, walks_reach}
use Rattle.kr_exec.proofs.RunningLemmas.{ended, looped, next_err, next_left}
use Rattle.kr_exec.proofs.scripts.Search.expand.Goals as goal

pub returns-then-not-is_script-clause-answer : goal.returns-then-not-is_script-clause-answer
returns-then-not-is_script-clause-answer g c =
    let around = around_of g.P.Places.number g.P.Places.mounts g.Q.Procs.finds g.Q.Procs.leads c.args.self.now in
    let base = numbered g.P.Places.number c.args.base in
    let l = c.scripts in
    let begun = running g.P.Places.number c.args.command in
    let whole = ends_of (programs around base) c.args.env_bytes most_scripts begun in
    let all = walks_reach around base (paths_of (programs around base) c.args.env_bytes most_scripts begun) c.args.reach.now in
    (ended around base c.args.env_bytes g.P.Places.number l.command c.head_of-head.result.now l.left l.reach whole c.args.reach.now all l.invariant.left c.head_of-head.ensures.head (sym c.is_script.ensures.test ∙ c.if-not-is_script.true)).0

pub returns-then-not-is_script-clause-reach : goal.returns-then-not-is_script-clause-reach
returns-then-not-is_script-clause-reach g c =
    let around = around_of g.P.Places.number g.P.Places.mounts g.Q.Procs.finds g.Q.Procs.leads c.args.self.now in
    let base = numbered g.P.Places.number c.args.base in
    let l = c.scripts in
    let begun = running g.P.Places.number c.args.command in
    let whole = ends_of (programs around base) c.args.env_bytes most_scripts begun in
    let all = walks_reach around base (paths_of (programs around base) c.args.env_bytes most_scripts begun) c.args.reach.now in
    (ended around base c.args.env_bytes g.P.Places.number l.command c.head_of-head.result.now l.left l.reach whole c.args.reach.now all l.invariant.left c.head_of-head.ensures.head (sym c.is_script.ensures.test ∙ c.if-not-is_script.true)).1

pub returns-then-left-eq0-clause-answer : goal.returns-then-left-eq0-clause-answer
returns-then-left-eq0-clause-answer g c =
    let around = around_of g.P.Places.number g.P.Places.mounts g.Q.Procs.finds g.Q.Procs.leads c.args.self.now in
    let base = numbered g.P.Places.number c.args.base in
    let l = c.scripts in
    let begun = running g.P.Places.number c.args.command in
    let whole = ends_of (programs around base) c.args.env_bytes most_scripts begun in
    let all = walks_reach around base (paths_of (programs around base) c.args.env_bytes most_scripts begun) c.args.reach.now in
    (looped around base c.args.env_bytes g.P.Places.number l.command c.head_of-head.result.now l.left l.reach whole c.args.reach.now all l.invariant.left c.if-left-eq0.true c.head_of-head.ensures.head (sym c.is_script.ensures.test ∙ c.if-not-is_script.false)).0

pub returns-then-left-eq0-clause-reach : goal.returns-then-left-eq0-clause-reach
returns-then-left-eq0-clause-reach g c =
    let around = around_of g.P.Places.number g.P.Places.mounts g.Q.Procs.finds g.Q.Procs.leads c.args.self.now in
    let base = numbered g.P.Places.number c.args.base in
    let l = c.scripts in
    let begun = running g.P.Places.number c.args.command in
    let whole = ends_of (programs around base) c.args.env_bytes most_scripts begun in
    let all = walks_reach around base (paths_of (programs around base) c.args.env_bytes most_scripts begun) c.args.reach.now in
    (looped around base c.args.env_bytes g.P.Places.number l.command c.head_of-head.result.now l.left l.reach whole c.args.reach.now all l.invariant.left c.if-left-eq0.true c.head_of-head.ensures.head (sym c.is_script.ensures.test ∙ c.if-not-is_script.false)).1

pub returns-in_err-command-clause-answer : goal.returns-in_err-command-clause-answer
returns-in_err-command-clause-answer g c =
    let around = around_of g.P.Places.number g.P.Places.mounts g.Q.Procs.finds g.Q.Procs.leads c.args.self.now in
    let base = numbered g.P.Places.number c.args.base in
    let l = c.scripts in
    let begun = running g.P.Places.number c.args.command in
    let whole = ends_of (programs around base) c.args.env_bytes most_scripts begun in
    let all = walks_reach around base (paths_of (programs around base) c.args.env_bytes most_scripts begun) c.args.reach.now in
    let e = err_from_is_err_and c.from_residual.result c.from_residual.ensures.1 in
    let some : l.left ≡ suc (l.left - 1) = omega (arith, c.if-left-eq0.false) in
    rw (e.1, e.2)
    (next_err around base c.args.env_bytes g.P.Places.number l.command c.head_of-head.result.now l.left (l.left - 1) l.reach c.interpreted.new.reach whole c.args.reach.now all _ l.invariant.left some c.head_of-head.ensures.head
    (sym c.is_script.ensures.test ∙ c.if-not-is_script.false) c.in_err-command.ensures.answer c.in_err-command.ensures.reach).0

pub returns-in_err-command-clause-reach : goal.returns-in_err-command-clause-reach
returns-in_err-command-clause-reach g c =
    let around = around_of g.P.Places.number g.P.Places.mounts g.Q.Procs.finds g.Q.Procs.leads c.args.self.now in
    let base = numbered g.P.Places.number c.args.base in
    let l = c.scripts in
    let begun = running g.P.Places.number c.args.command in
    let whole = ends_of (programs around base) c.args.env_bytes most_scripts begun in
    let all = walks_reach around base (paths_of (programs around base) c.args.env_bytes most_scripts begun) c.args.reach.now in
    let e = err_from_is_err_and c.from_residual.result c.from_residual.ensures.1 in
    let some : l.left ≡ suc (l.left - 1) = omega (arith, c.if-left-eq0.false) in
    rw (e.1, e.2)
    (next_err around base c.args.env_bytes g.P.Places.number l.command c.head_of-head.result.now l.left (l.left - 1) l.reach c.interpreted.new.reach whole c.args.reach.now all _ l.invariant.left some c.head_of-head.ensures.head
    (sym c.is_script.ensures.test ∙ c.if-not-is_script.false) c.in_err-command.ensures.answer c.in_err-command.ensures.reach).1

pub scripts-preserved : goal.scripts-preserved
scripts-preserved g c =
    let around = around_of g.P.Places.number g.P.Places.mounts g.Q.Procs.finds g.Q.Procs.leads c.args.self.now in
    let base = numbered g.P.Places.number c.args.base in
    let l = c.scripts in
    let begun = running g.P.Places.number c.args.command in
    let whole = ends_of (programs around base) c.args.env_bytes most_scripts begun in
    let all = walks_reach around base (paths_of (programs around base) c.args.env_bytes most_scripts begun) c.args.reach.now in
    let some : l.left ≡ suc (l.left - 1) = omega (arith, c.if-left-eq0.false) in
    record {
      left = next_left around base c.args.env_bytes g.P.Places.number l.command c.in_ok-command.command c.head_of-head.result.now l.left (l.left - 1) l.reach c.interpreted.new.reach whole c.args.reach.now all l.invariant.left some c.head_of-head.ensures.head
          (sym c.is_script.ensures.test ∙ c.if-not-is_script.false) c.in_ok-command.ensures.answer c.in_ok-command.ensures.reach;
      fit = c.in_ok-command.ensures.fit;
      program = c.in_ok-command.ensures.program;
    }
