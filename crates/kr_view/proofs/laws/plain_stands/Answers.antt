use Rattle.kr_view.proofs.TableLemmas.{plain_stands}
use Rattle.kr_view.proofs.laws.plain_stands.Goals as goal

pub returns : goal.returns
returns c = plain_stands
