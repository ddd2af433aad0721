-- A call that changes nothing is allowed, whatever it is told.
use Rattle.std.proofs.Common.{◌≡◌, ◌≢◌, ℕ, Bool, true, false, List, [], ◌∷◌, Option, Some, None, sym}
use Rattle.law_lawful.specs.pr_base.declared.errno.Errno.TheVariants.{ENOSYS}
use Rattle.law_lawful.specs.kr_calls.CallTable.{Doing}
use Rattle.law_lawful.specs.kr_calls.Kinds.{Kind}
use Rattle.law_lawful.specs.kr_model.Change.{Change}
use Rattle.law_lawful.specs.kr_model.ChangeKinds.{are_of}
use Rattle.law_lawful.specs.kr_model.Operation.{operation}
use Rattle.law_lawful.specs.kr_model.Reply.{Replying, done}
use Rattle.law_lawful.specs.kr_model.Seen.{Seen, WalkFails}
use Rattle.law_lawful.proofs.kr_model.KeepingCalls.{operation_keeps}
use Rattle.law_lawful.proofs.kr_model.KeepingLemmas.{Keeps, refused as keeps_refused, answered as keeps_answered, waiting as keeps_waiting, ending as keeps_ending, tested as keeps_tested, read as keeps_read, wrote as keeps_wrote, either as keeps_either}
use Rattle.law_allowed.specs.Calls.{SilentCallsAreAllowed, changes_nothing, is_silent}
use Rattle.law_allowed.proofs.RowLemmas.{Allowed, unchanged, tested, read, wrote, either, row-allowed}

no-change : (kinds : List Kind) (word : Option ℕ) (c : Change) (cs : List Change) → changes_nothing kinds word ≡ true → are_of kinds (c ∷ cs) ≡ true → true ≡ false
no-change [] word c cs silent kept = sym kept
no-change (k ∷ kinds) None c cs silent kept = sym silent
no-change (k ∷ kinds) (Some word) c cs silent kept = sym silent

no-end : (kinds : List Kind) (word : Option ℕ) (status : ℕ) → changes_nothing kinds word ≡ true → Some status ≡ word → true ≡ false
no-end [] None status silent by = absurd cc
no-end [] (Some word) status silent by = sym silent
no-end (k ∷ kinds) None status silent by = sym silent
no-end (k ∷ kinds) (Some word) status silent by = sym silent

impossible : {A : Type 0} → true ≡ false → A
impossible e = absurd cc

module _ {Can : List Change → Type 0} where
  nothing : (does : Doing) {n : ℕ} {w : Bool} → is_silent does ≡ true → (changes : List Change) → are_of does.makes changes ≡ true → Allowed Can w (done n changes)
  nothing does silent [] kept = unchanged
  nothing does silent (c ∷ changes) kept = impossible (no-change does.makes does.ends_by c changes silent kept)

  allowed : {does : Doing} {built : Bool} → is_silent does ≡ true → (w : Bool) (action : Replying) → Keeps does built w action → Allowed Can w action
  allowed silent w action (keeps_refused e known) = unchanged
  allowed {does} silent w action (keeps_answered {changes = changes} kept) = nothing does silent changes kept
  allowed silent w action (keeps_waiting can) = unchanged
  allowed {does} silent w action (keeps_ending {status = status} by) = impossible (no-end does.makes does.ends_by status silent by)
  allowed silent w action (keeps_tested {next = next} keeps) = tested (λ b. allowed silent w (next b) (keeps b))
  allowed silent w action (keeps_read {next = next} keeps) = read (λ bytes count are. allowed silent w (next bytes) (keeps bytes))
  allowed silent w action (keeps_wrote {next = next} writes keeps) = wrote (allowed silent true next keeps)
  allowed silent w action (keeps_either b {x = x} {y = y} first second) = either b (λ is. allowed silent w x first) (λ is. allowed silent w y second)

no-premise : (seen : Seen) → false ≡ true → seen ≢ WalkFails ENOSYS
no-premise seen is = absurd cc

pub silent-calls : (M : Type 0) → SilentCallsAreAllowed M
silent-calls M number table mounts pid r seen silent =
    row-allowed number table mounts pid (λ t next. Unit {0}) (λ k. operation pid r seen k)
    (λ s l lives rests. allowed silent false (operation pid r seen _) (operation_keeps false pid r seen _ (no-premise seen)))
