use Rattle.std.proofs.Common.{◌≡◌, ◌∷◌, length}
use Rattle.std.specs.Option.{IfSome}
use Rattle.kr_text.specs.Drawn.{IsDrawn}
use Rattle.kr_text.specs.Reading.{read_from, listing_of}
use Rattle.kr_text.proofs.listing.read_lines.Given as goal

abbrev pub invariant-loop-next : goal.invariant-loop-next
invariant-loop-next l = (read_from l.elf l.number (l.line ∷ l.lines) l.so_far ≡ listing_of l.elf l.bytes) × IfSome l.so_far.tree IsDrawn

abbrev pub decreases-loop-next : goal.decreases-loop-next
decreases-loop-next l = length l.lines
