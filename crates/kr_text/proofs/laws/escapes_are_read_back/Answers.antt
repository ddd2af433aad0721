use Rattle.kr_text.proofs.WrittenFields.{escapes_read}
use Rattle.kr_text.proofs.laws.escapes_are_read_back.Goals as goal

pub returns : goal.returns
returns c = escapes_read
