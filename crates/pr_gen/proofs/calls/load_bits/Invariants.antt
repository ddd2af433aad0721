use Rattle.std.proofs.Common.{◌≡◌, ◌+◌, ◌*◌}
use Rattle.pr_gen.proofs.calls.load_bits.Given as goal

-- two instructions for each part so far, behind the first one
abbrev pub invariant-loop-k : goal.invariant-loop-k
invariant-loop-k l = record {
  size : l.code.size ≡ l.fn.code.size + 4 + 8 * l.k;
  places : l.code.places ≡ l.fn.code.places;
}
