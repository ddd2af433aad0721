use Rattle.kr_view.proofs.PlaceLemmas.{walks_keep_places}
use Rattle.kr_view.proofs.laws.walks_keep_places.Goals as goal

pub returns : goal.returns
returns c = walks_keep_places
