use Rattle.kr_model.proofs.ShapeLemmas.{shape_stays, bytes_stay}
use Rattle.kr_model.proofs.SlotLemmas.{slots_stay}
use Rattle.kr_model.proofs.laws.changes_are_judged.Goals as goal

pub returns : goal.returns
returns g c = λ computing mounts pid change s. record {
  shape = λ kept h. shape_stays computing mounts pid change s kept h;
  bytes = λ kept h b. bytes_stay computing mounts pid change s kept h b;
  slots = λ h. slots_stay computing mounts pid change s h;
}
