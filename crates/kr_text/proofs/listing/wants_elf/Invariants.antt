use Rattle.std.proofs.Common.{◌≡◌, length}
use Rattle.std.specs.List.{list_any, starts_with}
use Rattle.std.specs.Prelude.{nat_eq, codes}
use Rattle.kr_text.specs.Pieces.{pieces}
use Rattle.kr_text.proofs.listing.wants_elf.Given as goal

abbrev pub invariant-loop-line : goal.invariant-loop-line
invariant-loop-line l = list_any (λ line. starts_with nat_eq line (codes "x ")) l.lines ≡ list_any (λ line. starts_with nat_eq line (codes "x ")) (pieces 10 l.bytes)

abbrev pub decreases-loop-line : goal.decreases-loop-line
decreases-loop-line l = length l.lines
