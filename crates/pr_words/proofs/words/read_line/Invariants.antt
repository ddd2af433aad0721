use Rattle.std.proofs.Common.{length, map}
use Rattle.std.specs.String.{string_bytes}
use Rattle.pr_words.proofs.ReadLemmas.{IsReading}
use Rattle.pr_words.proofs.words.read_line.Given as goal

abbrev pub invariant-loop-word : goal.invariant-loop-word
invariant-loop-word l = IsReading l.so_far l.place (map string_bytes l.rest) (map string_bytes l.words)

abbrev pub decreases-loop-word : goal.decreases-loop-word
decreases-loop-word l = length l.rest
