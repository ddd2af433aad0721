-- Where what a walker remembers agrees with a tree still. No clause cites this module.
use Rattle.std.proofs.Common.{◌≢◌, ◌∙◌}
use Rattle.law_steady.specs.kr_model.Judged.{HasShape}
use Rattle.law_steady.specs.kr_tree.Tree.{Tree}
use Rattle.pt_faker.specs.kr_inode.declared.user.User.{User}
use Rattle.law_steady.specs.pt_canon.Remembering.{Walking}
use Rattle.pt_tracer.specs.Agreeing.{AgreesWith}

one-shape : (t u v : Tree) → HasShape t u → HasShape u v → HasShape t v
one-shape t u v first second = record {
  names = λ text. second.names text ∙ first.names text;
  nodes = λ text i way. second.nodes text i (first.names text ∙ way) ∙ first.nodes text i way;
}

-- where it keeps its shape
pub lasts-with-shape : (w : Walking) (t u : Tree) (user : User) → HasShape t u → AgreesWith w t user → AgreesWith w u user
lasts-with-shape w t u user shape before = record { everywhere = λ s caller further own. before.everywhere s caller (one-shape t u s.tree shape further) own }

-- and, whatever becomes of it, in a pause, in which nothing is remembered
pub paused-agrees : (w : Walking) (tree : Tree) (user : User) → w.pauses ≢ 0 → AgreesWith w tree user
paused-agrees w tree user stands = record { everywhere = λ s caller shape own. record { each = λ none. absurd (stands none) } }
