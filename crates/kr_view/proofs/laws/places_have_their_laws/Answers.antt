use Rattle.kr_view.proofs.TableLemmas.{laws_of_places}
use Rattle.kr_view.proofs.laws.places_have_their_laws.Goals as goal

pub returns : goal.returns
returns c = laws_of_places
