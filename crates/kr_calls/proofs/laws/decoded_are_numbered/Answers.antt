use Rattle.kr_calls.proofs.laws.decoded_are_numbered.Goals as goal
use Rattle.kr_calls.proofs.DecodingLemmas.{decoded_are_numbered}

pub returns : goal.returns
returns c = decoded_are_numbered
