use Rattle.kr_model.proofs.ImageLemmas.{pages_alike, told_alike}
use Rattle.kr_model.proofs.laws.pages_stay_alike.Goals as goal

pub returns : goal.returns
returns c = record { changed = pages_alike; born = λ b x y same. told_alike b.pid b.told_at x.memory.pages y.memory.pages same }
