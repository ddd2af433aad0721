use Rattle.rv_table.proofs.decoding.decode.Goals as goal
use Rattle.rv_table.proofs.RoundTrip.{decoded-valid, encoded-decoded}
use Rattle.rv_table.proofs.Matching.{decoded-match, decoded-unmatched, length-matches}

pub returns-clause-matched : goal.returns-clause-matched
returns-clause-matched c = rw c.by_opcode.ensures (decoded-match c.args.w)

pub returns-clause-unmatched : goal.returns-clause-unmatched
returns-clause-unmatched c = decoded-unmatched c.args.w c.by_opcode.result c.by_opcode.ensures

pub returns-clause-single : goal.returns-clause-single
returns-clause-single c = length-matches c.args.w

pub returns-clause-valid : goal.returns-clause-valid
returns-clause-valid c = decoded-valid c.args.w c.by_opcode.result c.ranges.w.fits c.by_opcode.ensures

pub returns-clause-back : goal.returns-clause-back
returns-clause-back c = encoded-decoded c.args.w c.by_opcode.result c.ranges.w.fits c.by_opcode.ensures
