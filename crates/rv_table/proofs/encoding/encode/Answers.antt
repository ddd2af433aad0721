use Rattle.std.proofs.Common.{refl}
use Rattle.rv_table.proofs.encoding.encode.Goals as goal
use Rattle.rv_table.proofs.RoundTrip.{encoded-there, encoded-only}

pub overflow_add-result : goal.overflow_add-result
overflow_add-result c =
    record { fits = rw (c.placed.ensures, c.layout_of-layout.ensures) (encoded-there c.args.i c.requires).0 }

pub returns-clause-value : goal.returns-clause-value
returns-clause-value c = rw (c.placed.ensures, c.layout_of-layout.ensures) refl

pub returns-clause-back : goal.returns-clause-back
returns-clause-back c = rw (c.placed.ensures, c.layout_of-layout.ensures) (encoded-there c.args.i c.requires).1

pub returns-clause-only : goal.returns-clause-only
returns-clause-only c = rw (c.placed.ensures, c.layout_of-layout.ensures) (encoded-only c.args.i)
