-- What is told of targets.
use Rattle.std.proofs.Common.{◌≡◌, ℕ, true, false, List, Option, Some, None, sym, ap}
use Rattle.std.specs.Bool.{if◌then◌else◌}
use Rattle.kr_ops.specs.kr_tree.declared.place.Host.{Host}
use Rattle.kr_ops.specs.kr_tree.declared.place.Place.{Place}
use Rattle.kr_ops.specs.kr_view.Component.{is_directory_at}
use Rattle.kr_ops.specs.kr_view.View.{Row}
use Rattle.kr_ops.specs.kr_view.Walk.{PlaceTarget}
use Rattle.kr_ops.specs.kr_model.FileRows.{creates}
use Rattle.kr_ops.specs.kr_model.Seen.{Looked, Opens, OpensFound}
use Rattle.kr_ops.specs.kr_model.State.{Image, State}
use Rattle.kr_ops.specs.kr_model.Walks.{created_at, entry_of, if_found, looked_at, opened_at}

abbrev pub looked_with : Host → Option (ℕ × List ℕ) → Looked
looked_with h entry = record { host = h; entry = entry }

module _ (table : List Row) (pid : ℕ) (s : State ℕ Image) (target : PlaceTarget) (p : Place ℕ) where
  pub of-directory : is_directory_at s.tree p.host ≡ true → looked_with p.host None ≡ looked_at table pid s target p
  of-directory d = ap (λ b. looked_with p.host (if b then None else Some (entry_of table pid s target p))) (sym d)

  pub of-other : is_directory_at s.tree p.host ≡ false → looked_with p.host (Some (entry_of table pid s target p)) ≡ looked_at table pid s target p
  of-other d = ap (λ b. looked_with p.host (if b then None else Some (entry_of table pid s target p))) (sym d)

module _ (table : List Row) (pid : ℕ) (s : State ℕ Image) (flags : ℕ) (target : PlaceTarget) where
  pub opened-new : creates flags ≡ true → Opens (created_at table pid s target) ≡ opened_at table pid s flags target
  opened-new e = ap (λ b. if b then Opens (created_at table pid s target) else if_found table pid s target (λ l. Opens (OpensFound l))) (sym e)

  pub opened-found : creates flags ≡ false → if_found table pid s target (λ l. Opens (OpensFound l)) ≡ opened_at table pid s flags target
  opened-found e = ap (λ b. if b then Opens (created_at table pid s target) else if_found table pid s target (λ l. Opens (OpensFound l))) (sym e)
