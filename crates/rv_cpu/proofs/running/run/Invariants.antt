use Rattle.std.proofs.Common.{◌≡◌, ◌-◌}
use Rattle.rv_mem.specs.Memory.{page_count}
use Rattle.rv_cpu.specs.Run.{counted, ran, ran_holding}
use Rattle.rv_cpu.proofs.running.run.Given as goal

-- what is left to do leads where the whole leads, and there are as many pages as before
abbrev pub invariant-loop-done : goal.invariant-loop-done
invariant-loop-done g l =
    record {
      whole : counted l.done (ran_holding (l.fuel - l.done) l.held l.regs l.mem) ≡ ran l.fuel l.fn.regs l.fn.mem;
      count : page_count l.mem.pages ≡ page_count l.fn.mem.pages;
    }
