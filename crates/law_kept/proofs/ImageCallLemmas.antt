-- Calls that look along paths and start no program make changes that leave images alone, and answer: by their lines in the table of the calls.
use Rattle.std.proofs.Common.{◌≡◌, ◌≢◌, ℕ, Bool, true, false, Some, refl, ℤ}
use Rattle.kr_first.specs.rv_mem.Actions.{carried_out}
use Rattle.kr_first.specs.kr_calls.CallTable.{Told, ToldNothing, line, paths_of}
use Rattle.kr_first.specs.kr_calls.Kinds.{Kind, ChangesPages, Forks, ReplacesImage}
use Rattle.kr_first.specs.kr_calls.PathTable.{PathUse, path_from}
use Rattle.kr_first.specs.kr_calls.declared.request.Request.{Request}
use Rattle.kr_first.specs.kr_calls.declared.request.Request.TheVariants as call
use Rattle.kr_first.specs.kr_model.declared.outcome.Outcome.{Outcome}
use Rattle.kr_first.specs.kr_model.declared.outcome.Outcome.TheVariants.{Answer, Ended, NoMemory, Wait}
use Rattle.kr_first.specs.kr_model.Change.{Change, ChangePages, Fork, ReplaceImage}
use Rattle.kr_first.specs.kr_model.ChangeKinds.{kind}
use Rattle.kr_first.specs.kr_model.Laws.{may_end, may_wait}
use Rattle.kr_first.specs.kr_model.Operation.{operation}
use Rattle.kr_first.proofs.kr_model.LineLemmas.{by_line, line_passes, row_ended, row_keeps, row_waits}
use Rattle.law_kept.specs.ImagePaths.{PathCallsAnswer, PathCallsLeaveImages, PathsAreTold, is_told_of_paths, tells_paths}
use Rattle.law_kept.specs.ImagesApart.{leaves_images}

-- ---- which calls they are

has_told : (t : Told) (k : ℕ) (u : PathUse) → path_from 0 (paths_of t) k ≡ Some u → tells_paths t ≡ true
has_told ToldNothing k u is = absurd cc
has_told _ k u is = refl

pub paths_are_told : PathsAreTold
paths_are_told (call.Execve path args env) k u is starts = absurd cc
paths_are_told r k u is starts = has_told (line r).told k u is

-- ---- what they change

abbrev images_kind : Kind → Bool
images_kind ChangesPages = false
images_kind Forks = false
images_kind ReplacesImage = false
images_kind _ = true

images_change : (c : Change) → images_kind (kind c) ≡ true → leaves_images c ≡ true
images_change (ChangePages c) leaves = absurd cc
images_change (Fork birth) leaves = absurd cc
images_change (ReplaceImage image brk) leaves = absurd cc
images_change _ leaves = refl

images_line : (r : Request) → is_told_of_paths r ≡ true → line_passes images_kind r ≡ true
images_line (call.Brk a) told = absurd cc
images_line (call.Munmap a len) told = absurd cc
images_line (call.Mmap a len prot flags) told = absurd cc
images_line (call.Mprotect a len prot) told = absurd cc
images_line (call.Clone flags sp ctid) told = absurd cc
images_line _ told = refl

pub path_calls_leave_images : PathCallsLeaveImages
path_calls_leave_images pid r seen k m told = by_line images_kind leaves_images images_change pid r seen k m (images_line r told)

-- ---- what they answer

never_ends : (r : Request) → is_told_of_paths r ≡ true → may_end r ≡ true → ⊥
never_ends (call.Exit code) told may = absurd cc
never_ends (call.ExitGroup code) told may = absurd cc
never_ends (call.Write fd buf n) told may = absurd cc
never_ends (call.Writev fd list count) told may = absurd cc
never_ends _ told may = absurd cc

never_waits : (r : Request) → is_told_of_paths r ≡ true → may_wait r ≡ true → ⊥
never_waits (call.Read fd buf n) told may = absurd cc
never_waits (call.Readv fd list count) told may = absurd cc
never_waits (call.Write fd buf n) told may = absurd cc
never_waits (call.Writev fd list count) told may = absurd cc
never_waits (call.Wait4 child status options usage) told may = absurd cc
never_waits _ told may = absurd cc

the_answer : (o : Outcome) → (o ≡ Wait → ⊥) → (o ≡ Ended → ⊥) → o ≢ NoMemory → (value : ℤ) × (o ≡ Answer value)
the_answer (Answer value) waits ends wants = (value, refl)
the_answer Wait waits ends wants = absurd (waits refl)
the_answer Ended waits ends wants = absurd (ends refl)
the_answer NoMemory waits ends wants = absurd (wants refl)

pub path_calls_answer : PathCallsAnswer
path_calls_answer pid r seen k m told =
    the_answer (carried_out (operation pid r seen k) m).reply.outcome (λ is. never_waits r told (row_waits pid r seen k m is)) (λ is. never_ends r told (row_ended pid r seen k m is).0)
    (row_keeps pid r seen k m).no_want
