-- What follows of the lines of the table: what errors leave, which calls end their caller, and wait, and that the changes of a call pass each test
-- of kinds that its line passes. Rows are what is spoken of: of an execve that is the row in its place, of which no law speaks.
use Rattle.std.proofs.Common.{◌≡◌, ◌≢◌, ℕ, Bool, true, false, not, List, [], ◌∷◌, Some, refl, ap, ◌∙◌}
use Rattle.std.specs.List.{list_all}
use Rattle.kr_calls.specs.pr_base.declared.errno.Errno.TheVariants.{ENOSYS}
use Rattle.kr_calls.specs.rv_mem.Actions.{carried_out}
use Rattle.kr_calls.specs.rv_mem.Memory.{Memory}
use Rattle.kr_calls.specs.CallTable.{line, makes_at_all}
use Rattle.kr_calls.specs.Kinds.{Kind, Ends}
use Rattle.kr_calls.specs.declared.request.Request.{Request}
use Rattle.kr_calls.specs.declared.request.Request.TheVariants as call
use Rattle.kr_model.specs.declared.outcome.Outcome.TheVariants.{Ended, Wait}
use Rattle.kr_model.specs.Change.{Change, End}
use Rattle.kr_model.specs.ChangeKinds.{kind}
use Rattle.kr_model.specs.Known.{Known}
use Rattle.kr_model.specs.Laws.{AnswersEndNobody, CallsKeepToTheirLines, EndsAsTold, KeepsTo, OnlyEndersEnd, OthersLeaveMemory, RefusalsChangeNothing, WaitsAsTold, ends_nobody, may_end, may_wait, word_told}
use Rattle.kr_model.specs.Operation.{operation}
use Rattle.kr_model.specs.Seen.{Seen, WalkFails}
use Rattle.kr_model.proofs.KeepingCalls.{operation_keeps}
use Rattle.kr_model.proofs.KeepingLemmas.{both_true, keeps_to, leaves, writes_nothing}
use Rattle.kr_model.proofs.KindLemmas.{changes_pass}

no_premise : (seen : Seen) → false ≡ true → seen ≢ WalkFails ENOSYS
no_premise seen is = absurd cc

pub row_keeps : (pid : ℕ) (r : Request) (seen : Seen) (k : Known) (m : Memory) → KeepsTo (line r).does (carried_out (operation pid r seen k) m).reply
row_keeps pid r seen k m = keeps_to false (operation pid r seen k) (operation_keeps false pid r seen k (no_premise seen)) m

pub keep_to_lines : CallsKeepToTheirLines
keep_to_lines pid r seen k m exec = row_keeps pid r seen k m

pub others_leave_memory : OthersLeaveMemory
others_leave_memory pid r seen k m exec none = writes_nothing none false (operation pid r seen k) (operation_keeps false pid r seen k (no_premise seen)) m

pub refusals : RefusalsChangeNothing
refusals pid r seen k m exec known is =
    let l = leaves false (operation pid r seen k) (operation_keeps true pid r seen k (λ built. known)) m is in (l.0, l.2, l.3)

-- ---- ends and waits

word_of_line : (r : Request) (word : ℕ) → Some word ≡ (line r).does.ends_by → (may_end r ≡ true) × (word ≡ word_told r)
word_of_line (call.Exit code) word by = let same : word ≡ word_told (call.Exit code) = cc in (refl, same)
word_of_line (call.ExitGroup code) word by = let same : word ≡ word_told (call.ExitGroup code) = cc in (refl, same)
word_of_line (call.Write fd buf n) word by = let same : word ≡ word_told (call.Write fd buf n) = cc in (refl, same)
word_of_line (call.Writev fd list count) word by = let same : word ≡ word_told (call.Writev fd list count) = cc in (refl, same)
word_of_line _ word by = absurd cc

pub row_ended : (pid : ℕ) (r : Request) (seen : Seen) (k : Known) (m : Memory) → (carried_out (operation pid r seen k) m).reply.outcome ≡ Ended
    → (may_end r ≡ true) × ((carried_out (operation pid r seen k) m).reply.changes ≡ End (word_told r) ∷ [])
row_ended pid r seen k m is =
    let end = (row_keeps pid r seen k m).ended is in
    let by = word_of_line r end.0 end.2 in
    (by.0, end.1 ∙ ap (λ word. End word ∷ []) by.1)

pub ends_as_told : EndsAsTold
ends_as_told pid r seen k m exec is = (row_ended pid r seen k m is).1

pub only_enders : OnlyEndersEnd
only_enders pid r seen k m exec is = (row_ended pid r seen k m is).0

waits_in_line : (r : Request) → may_wait r ≡ (line r).does.can_wait
waits_in_line (call.Dup fd) = refl
waits_in_line _ = refl

pub row_waits : (pid : ℕ) (r : Request) (seen : Seen) (k : Known) (m : Memory) → (carried_out (operation pid r seen k) m).reply.outcome ≡ Wait → may_wait r ≡ true
row_waits pid r seen k m is = waits_in_line r ∙ (row_keeps pid r seen k m).waits is

pub waits_as_told : WaitsAsTold
waits_as_told pid r seen k m exec = row_waits pid r seen k m

-- no line has the end of a process beside the word of its call
abbrev goes_on : Kind → Bool
goes_on Ends = false
goes_on _ = true

lines_go_on : (r : Request) → list_all goes_on (line r).does.makes ≡ true
lines_go_on (call.Dup fd) = refl
lines_go_on _ = refl

abbrev is_end : Change → Bool
is_end (End status) = true
is_end _ = false

no_end : (c : Change) → goes_on (kind c) ≡ true → not (is_end c) ≡ true
no_end (End status) goes = absurd cc
no_end _ goes = refl

nobody : (cs : List Change) → list_all (λ c. not (is_end c)) cs ≡ true → ends_nobody cs ≡ true
nobody [] e = refl
nobody (End status ∷ cs) e = absurd cc
nobody (c ∷ cs) e = nobody cs (both_true (not (is_end c)) (list_all (λ c. not (is_end c)) cs) e).1

pub row_ends_nobody : (pid : ℕ) (r : Request) (seen : Seen) (k : Known) (m : Memory) → (carried_out (operation pid r seen k) m).reply.outcome ≢ Ended → ends_nobody (carried_out (operation pid r seen k) m).reply.changes ≡ true
row_ends_nobody pid r seen k m other =
    let changes = (carried_out (operation pid r seen k) m).reply.changes in
    nobody changes (changes_pass goes_on (λ c. not (is_end c)) no_end (line r).does.makes (lines_go_on r) changes ((row_keeps pid r seen k m).answered other))

pub answers_end_nobody : AnswersEndNobody
answers_end_nobody pid r seen k m exec = row_ends_nobody pid r seen k m

-- ---- any test of kinds

-- whether the line of a call passes it, and that line without an end of the caller
abbrev pub line_passes : (Kind → Bool) → Request → Bool
line_passes test r = list_all test (makes_at_all (line r).does)

abbrev pub answer_passes : (Kind → Bool) → Request → Bool
answer_passes test r = list_all test (line r).does.makes

module _ (test : Kind → Bool) (passes : Change → Bool) (agree : (c : Change) → test (kind c) ≡ true → passes c ≡ true) where
  pub by_line : (pid : ℕ) (r : Request) (seen : Seen) (k : Known) (m : Memory) → line_passes test r ≡ true → list_all passes (carried_out (operation pid r seen k) m).reply.changes ≡ true
  by_line pid r seen k m all = changes_pass test passes agree (makes_at_all (line r).does) all (carried_out (operation pid r seen k) m).reply.changes (row_keeps pid r seen k m).changes

  pub by_answer : (pid : ℕ) (r : Request) (seen : Seen) (k : Known) (m : Memory) → answer_passes test r ≡ true → (carried_out (operation pid r seen k) m).reply.outcome ≢ Ended
      → list_all passes (carried_out (operation pid r seen k) m).reply.changes ≡ true
  by_answer pid r seen k m all other =
      changes_pass test passes agree (line r).does.makes all (carried_out (operation pid r seen k) m).reply.changes ((row_keeps pid r seen k m).answered other)
