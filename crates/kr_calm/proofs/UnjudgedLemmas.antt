-- Calls that make no change at which a rule looks, and none that gives their caller another program: by their lines in the table of the calls.
use Rattle.std.proofs.Common.{◌≡◌, ◌≢◌, ℕ, Bool, true, false, not, refl}
use Rattle.std.specs.List.{list_all}
use Rattle.kr_seen.specs.rv_mem.Actions.{carried_out}
use Rattle.kr_seen.specs.rv_mem.Memory.{Memory}
use Rattle.kr_seen.specs.kr_calls.Kinds.{Kind, Ends, MovesName, RemovesName, ReplacesImage, SetsMode, SetsOwner}
use Rattle.kr_seen.specs.kr_calls.declared.request.Request.{Request}
use Rattle.kr_seen.specs.kr_calls.declared.request.Request.TheVariants as call
use Rattle.kr_seen.specs.kr_model.Change.{Change, End, MoveName, RemoveName, ReplaceImage, SetMode, SetOwner}
use Rattle.kr_seen.specs.kr_model.ChangeKinds.{kind}
use Rattle.kr_seen.specs.kr_model.Known.{Known}
use Rattle.kr_seen.specs.kr_model.Operation.{operation}
use Rattle.kr_seen.specs.kr_model.Seen.{Seen}
use Rattle.kr_seen.specs.kr_model.declared.outcome.Outcome.TheVariants.{Ended}
use Rattle.kr_seen.proofs.kr_model.LineLemmas.{answer_passes, by_answer, ends_as_told}
use Rattle.kr_calm.specs.Foreseen.{are_unjudged, gives_owner, is_foreseen, is_judged}
use Rattle.kr_calm.specs.Laws.{OtherCallsAreUnjudged, leaves_mark}

-- ---- names, modes and owners

abbrev unjudged_kind : Kind → Bool
unjudged_kind RemovesName = false
unjudged_kind MovesName = false
unjudged_kind SetsMode = false
unjudged_kind SetsOwner = false
unjudged_kind Ends = false
unjudged_kind _ = true

unjudged_change : (c : Change) → unjudged_kind (kind c) ≡ true → not (is_judged c) ≡ true
unjudged_change (RemoveName dir name) unjudged = absurd cc
unjudged_change (MoveName dir name to new) unjudged = absurd cc
unjudged_change (SetMode i mode) unjudged = absurd cc
unjudged_change (SetOwner i uid gid) unjudged = absurd cc
unjudged_change (End status) unjudged = absurd cc
unjudged_change _ unjudged = refl

unjudged_answer : (r : Request) → is_foreseen r ≡ false → gives_owner r ≡ false → answer_passes unjudged_kind r ≡ true
unjudged_answer (call.Unlinkat dirfd path flags) foreseen owner = absurd cc
unjudged_answer (call.Renameat2 olddir old newdir new) foreseen owner = absurd cc
unjudged_answer (call.Fchmod fd mode) foreseen owner = absurd cc
unjudged_answer (call.Fchmodat dirfd path mode) foreseen owner = absurd cc
unjudged_answer (call.Fchown fd uid gid) foreseen owner = absurd cc
unjudged_answer (call.Fchownat dirfd path uid gid flags) foreseen owner = absurd cc
unjudged_answer _ foreseen owner = refl

pub others-unjudged : (pid : ℕ) (r : Request) (seen : Seen) (k : Known) (m : Memory) → is_foreseen r ≡ false → gives_owner r ≡ false
    → (carried_out (operation pid r seen k) m).reply.outcome ≢ Ended → are_unjudged (carried_out (operation pid r seen k) m).reply.changes ≡ true
others-unjudged pid r seen k m foreseen owner goes = by_answer unjudged_kind (λ c. not (is_judged c)) unjudged_change pid r seen k m (unjudged_answer r foreseen owner) goes

pub other_calls_are_unjudged : OtherCallsAreUnjudged
other_calls_are_unjudged pid r seen k m exec foreseen owner = record {
  going_on = others-unjudged pid r seen k m foreseen owner;
  ending = ends_as_told pid r seen k m exec;
}

-- ---- programs

abbrev leaving_kind : Kind → Bool
leaving_kind Ends = false
leaving_kind ReplacesImage = false
leaving_kind _ = true

leaving_change : (c : Change) → leaving_kind (kind c) ≡ true → leaves_mark c ≡ true
leaving_change (End status) leaves = absurd cc
leaving_change (ReplaceImage image brk) leaves = absurd cc
leaving_change _ leaves = refl

leaving_answer : (r : Request) → answer_passes leaving_kind r ≡ true
leaving_answer (call.Dup fd) = refl
leaving_answer _ = refl

pub calls-leave : (pid : ℕ) (r : Request) (seen : Seen) (k : Known) (m : Memory) → (carried_out (operation pid r seen k) m).reply.outcome ≢ Ended
    → list_all leaves_mark (carried_out (operation pid r seen k) m).reply.changes ≡ true
calls-leave pid r seen k m goes = by_answer leaving_kind leaves_mark leaving_change pid r seen k m (leaving_answer r) goes
