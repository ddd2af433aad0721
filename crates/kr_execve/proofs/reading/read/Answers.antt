use Rattle.std.proofs.Common.{Err, subst}
use Rattle.kr_exec.specs.kr_calls.declared.fault.CallFault.{CallFault}
use Rattle.kr_exec.specs.Lists.{Reads}
use Rattle.kr_exec.specs.declared.lists.Lists.{Lists}
use Rattle.kr_perform.proofs.kr_ops.OpeningLemmas.{not-living}
use Rattle.kr_execve.specs.Executing.{lists_in}
use Rattle.kr_execve.proofs.ReadingLemmas.{read-lists, read-refused}
use Rattle.kr_execve.proofs.reading.read.Goals as goal

pub unreachable-requires : goal.unreachable-requires
unreachable-requires g c = not-living c.args.state.now c.args.pid (c.index_of.ensures.none c.in_default.is) c.requires.lives

pub returns-in-Ok : goal.returns-in-Ok
returns-in-Ok g c =
    read-lists c.args.state.now c.args.pid c.in-Some.k c.index_mut.result.now c.requires.sound c.in-Some.ensures.some c.index_mut.ensures.value c.requires.lives c.args.args c.args.env c.read_lists.new.mem
    c.read_lists.ensures.pages c.in-Ok.lists c.in-Ok.ensures.read

pub returns-in-Err-Err : goal.returns-in-Err-Err
returns-in-Err-Err g c =
    let p = c.index_mut.result.now in
    read-refused c.args.state.now c.args.pid c.in-Some.k p c.requires.sound c.in-Some.ensures.some c.index_mut.ensures.value c.requires.lives c.args.args c.args.env c.read_lists.new.mem
    c.read_lists.ensures.pages c.in-Err-Err.errno
    (subst (λ (f : CallFault). Reads {A = Lists} (Err f) (lists_in c.args.args c.args.env p.mem) p.mem c.read_lists.new.mem) c.in-Err-Err.field-0-is c.in-Err-Err.ensures.read)
