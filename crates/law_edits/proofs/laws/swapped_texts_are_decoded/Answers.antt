use Rattle.law_edits.proofs.DecodeLemmas.{swapped_decoded}
use Rattle.law_edits.proofs.laws.swapped_texts_are_decoded.Goals as goal

pub returns : goal.returns
returns c = λ old new m w r first second named calm swapped is. swapped_decoded old new m w r first second named calm.alike swapped is calm.unread
