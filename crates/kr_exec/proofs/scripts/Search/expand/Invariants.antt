use Rattle.std.proofs.Common.{◌≡◌, false, true}
use Rattle.kr_walk.specs.kr_view.Leads.{numbered}
use Rattle.kr_calls.specs.Expansion.{is_too_big, most_scripts}
use Rattle.kr_exec.specs.Answers.{around_of, running}
use Rattle.kr_exec.specs.Finding.{is_program_found}
use Rattle.kr_exec.specs.Interpreters.{ends_of, paths_of, programs, walks_reach}
use Rattle.kr_exec.proofs.RunningLemmas.{IsLeft}
use Rattle.kr_exec.proofs.scripts.Search.expand.Given as goal

abbrev pub invariant-scripts : goal.invariant-scripts
invariant-scripts g l =
    let number = g.P.Places.number in
    let around = around_of number g.P.Places.mounts g.Q.Procs.finds g.Q.Procs.leads l.self in
    let base = numbered number l.base in
    let begun = running number l.fn.command in
    record {
      left : IsLeft around base l.env_bytes l.left (running number l.command) l.reach (ends_of (programs around base) l.env_bytes most_scripts begun) l.fn.reach (walks_reach around base (paths_of (programs around base) l.env_bytes most_scripts begun) l.fn.reach);
      fit : is_too_big l.env_bytes l.command.args ≡ false;
      program : is_program_found l.self.tree.now l.self.user l.command.file.found ≡ true;
    }

abbrev pub decreases-scripts : goal.decreases-scripts
decreases-scripts g l = l.left
