use Rattle.std.proofs.Common.{sym, arith}
use Rattle.std.proofs.lemmas.List.{length-take-le}
use Rattle.kr_calls.proofs.script.is_cut.Goals as goal

pub slice_bounds-contains-end : goal.slice_bounds-contains-end
slice_bounds-contains-end c = sym (length-take-le 255 c.args.head.now (omega arith))
