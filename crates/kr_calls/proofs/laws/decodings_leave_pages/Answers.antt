use Rattle.kr_calls.proofs.laws.decodings_leave_pages.Goals as goal
use Rattle.kr_calls.proofs.DecodingLemmas.{decodings_leave_pages}

pub returns : goal.returns
returns c = decodings_leave_pages
