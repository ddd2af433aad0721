use Rattle.kr_text.proofs.ReadAll.{listings_read}
use Rattle.kr_text.proofs.laws.listings_are_read_back.Goals as goal

pub returns : goal.returns
returns c = listings_read
