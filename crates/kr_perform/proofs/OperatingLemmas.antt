-- What is left of a state where a request was carried out, once its kind is known, and what rows ask of a lawful state.
use Rattle.std.proofs.Common.{◌≡◌, ◌≤◌, ℕ, true, false, length, [], ◌∷◌, List, Option, Some, None, IfSome, refl, sym, subst, arith}
use Rattle.std.specs.Prelude.{◌==◌}
use Rattle.std.proofs.lemmas.Bool.Decides.{nat_tests}
use Rattle.law_allowed.specs.kr_calls.declared.request.Request.{Request}
use Rattle.law_allowed.specs.pr_base.declared.errno.Errno.TheVariants.{ENOENT}
use Rattle.law_allowed.specs.kr_view.View.{Row}
use Rattle.law_allowed.specs.kr_view.declared.target.Target.{Target}
use Rattle.law_allowed.specs.kr_model.Known.{Known, known}
use Rattle.law_allowed.specs.kr_model.Lawful.{ArePids, IsLawful}
use Rattle.law_allowed.specs.kr_model.Operation.{operation}
use Rattle.law_allowed.specs.kr_model.Reply.{Replying, refusal, refuse}
use Rattle.law_allowed.specs.kr_model.State as model
use Rattle.law_allowed.specs.kr_model.State.{Image, process}
use Rattle.law_allowed.specs.kr_model.Walks.{told}
use Rattle.law_allowed.specs.kr_model.declared.outcome.Outcome.{Outcome}
use Rattle.kr_rows.specs.kr_ops.declared.state.State.{State}
use Rattle.kr_rows.specs.kr_ops.Meaning.{meaning}
use Rattle.kr_transfer.specs.kr_seen.Numbered.{state_numbered}
use Rattle.kr_transfer.specs.kr_seen.Carrying.{CarriesOut}
use Rattle.kr_transfer.proofs.kr_seen.CarryLemmas.{by-refusal}
use Rattle.kr_transfer.specs.kr_seen.PerformedRows.{Performs}
use Rattle.law_allowed.specs.kr_model.Applied.{Mounts}
use Rattle.kr_perform.specs.Operating.{OperatesAlone, OperatesAt, mounts_at, placed_targets}

pub alone : {T : Type 0} {M : ℕ} {pid : ℕ} {old new : State T M} {result : Outcome} {request kind : Request} → request ≡ kind → OperatesAlone pid kind old new result → OperatesAlone pid request old new result
alone {T} {M} {pid} {old} {new} {result} e done = let P : Request → Type 0 = λ r. OperatesAlone pid r old new result in subst P (sym e) done

-- no break lies past the last page
pub breaks-within : {T : Type 0} (number : T → ℕ) (table : List Row) (s : model.State T Image) (pid : ℕ) → IsLawful number table s → IfSome (process pid s) (λ p. p.brk ≤ 0x3ffffff000)
breaks-within {T} number table s pid lawful = by (process pid s) refl
  where
    by : (o : Option (model.Process T Image)) → process pid s ≡ o → IfSome o (λ p. p.brk ≤ 0x3ffffff000)
    by None e = tt
    by (Some p) e = (lawful.processes pid p e).breaks.1

-- a request whose path isn't walked
module _ {T : Type 0} {M : ℕ} (n : T → ℕ) (table : List Row) (pid : ℕ) (request : Request) (first second : Option (Target T)) (s : State T M) (result : Outcome) where
  abbrev row : Known → Replying
  row k = operation pid request (told table pid (state_numbered n (meaning s)) request (placed_targets n first second)) k

  pub nowhere : ArePids (meaning s) → row (known model.image_layout pid (meaning s)) ≡ refuse ENOENT → result ≡ (refusal ENOENT).outcome → OperatesAt n table pid request first second s s result
  nowhere pids is outcome = λ wanted. by-refusal (mounts_at first) pid row s s result pids ENOENT is outcome refl

-- what was carried out whatever the mounts are, and whatever is told
pub at-mounts : {T : Type 0} {M : ℕ} {mounts : Mounts T} {pid : ℕ} {row : Known → Replying} {old new : State T M} {result : Outcome} → Performs pid row old new result → CarriesOut mounts pid row old new result
at-mounts {mounts = mounts} performs = λ wanted. let done = performs wanted in record { outcome = done.outcome; state = done.state mounts }

-- whether a text is empty
pub has-none : (bytes : List ℕ) → (length bytes == 0) ≡ true → bytes ≡ []
has-none [] e = refl
has-none (b ∷ bytes) e = let same : length (b ∷ bytes) ≡ 0 = grind (arith, nat_tests) in absurd (omega arith)

pub has-bytes : (bytes : List ℕ) → (length bytes == 0) ≡ false → (b : ℕ) × (rest : List ℕ) × (bytes ≡ b ∷ rest)
has-bytes [] e = absurd cc
has-bytes (b ∷ bytes) e = (b, bytes, refl)
