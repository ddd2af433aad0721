use Rattle.std.proofs.Common.{◌≡◌, length}
use Rattle.std.specs.List.{list_all}
use Rattle.kr_tree.specs.Names.{is_name}
use Rattle.kr_text.specs.Pieces.{pieces}
use Rattle.kr_text.proofs.path.are_names.Given as goal

abbrev pub invariant-loop-name : goal.invariant-loop-name
invariant-loop-name l = list_all is_name l.pieces ≡ list_all is_name (pieces 47 l.names)

abbrev pub decreases-loop-name : goal.decreases-loop-name
decreases-loop-name l = length l.pieces
