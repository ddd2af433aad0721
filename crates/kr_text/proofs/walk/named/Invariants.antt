use Rattle.std.proofs.Common.{◌≡◌, reverse, Some}
use Rattle.kr_tree.specs.pr_base.Paths.{parts_of}
use Rattle.kr_tree.specs.pr_base.Parts.{parts_left}
use Rattle.kr_tree.specs.Names.{named}
use Rattle.kr_text.proofs.WalkLemmas.{walk}
use Rattle.kr_text.proofs.walk.named.Given as goal

abbrev pub invariant-loop-name : goal.invariant-loop-name
invariant-loop-name l = walk l.tree (Some l.ino) (parts_left l.name-iterator) ≡ named l.tree (reverse (parts_of l.path))
