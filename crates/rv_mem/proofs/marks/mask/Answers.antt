use Rattle.rv_mem.proofs.MarkLemmas.{mask-inside, mask-below, mask-above}
use Rattle.rv_mem.proofs.marks.mask.Goals as goal

pub returns : goal.returns
returns c = record {
  inside = λ k low high. mask-inside c.args.lowest c.args.end k c.requires.lowest c.requires.end.0 c.requires.end.1 low high;
  below = λ k low. mask-below c.args.lowest c.args.end k c.requires.lowest c.requires.end.0 c.requires.end.1 low;
  above = λ k high. mask-above c.args.lowest c.args.end k c.requires.lowest c.requires.end.0 c.requires.end.1 high;
}
