use Rattle.std.proofs.Common.{◌≡◌}
use Rattle.rv_loops.proofs.PassLemmas.{reserve-valid, operate-valid, conclude-valid, again-valid}
use Rattle.rv_loops.proofs.code.put.Goals as goal

pub put_all-requires : goal.put_all-requires
put_all-requires c =
    rw (c.reserve.ensures, c.operate.ensures, c.conclude.ensures)
    (reserve-valid c.args.r c.requires c.args.wide, (operate-valid c.args.r c.requires c.args.op, (conclude-valid c.args.r c.requires c.args.wide, (again-valid c.args.r c.requires, tt))))
