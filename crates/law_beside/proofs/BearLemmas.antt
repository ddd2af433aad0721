-- A child that a call bears has the next number.
use Rattle.std.proofs.Common.{◌≡◌, ◌+◌, ℕ, Bool, true, false, not, List, [], ◌∷◌, length, Result, Ok, Err, refl}
use Rattle.std.specs.Prelude.{nat_le, nat_lt, ◌==◌, pos, negsuc}
use Rattle.std.specs.FinMap as map
use Rattle.std.specs.List.{list_all}
use Rattle.std.proofs.lemmas.Bool.{and_parts}
use Rattle.kr_core.specs.pr_base.declared.errno.Errno.{Errno}
use Rattle.kr_core.specs.rv_mem.Actions.{carried_out}
use Rattle.kr_core.specs.rv_mem.Memory.{Memory}
use Rattle.kr_core.specs.kr_calls.Arguments.{has}
use Rattle.kr_core.specs.kr_calls.Kinds.{Kind, Forks}
use Rattle.kr_core.specs.kr_calls.declared.request.Request.{Request}
use Rattle.kr_core.specs.kr_calls.declared.request.Request.TheVariants as call
use Rattle.kr_core.specs.kr_execve.Execution.{Program, changes_of}
use Rattle.kr_core.specs.kr_model.Change.{Change, Fork}
use Rattle.kr_core.specs.kr_model.ChangeKinds.{kind}
use Rattle.kr_core.specs.kr_model.Known.{Known}
use Rattle.kr_core.specs.kr_model.MemoryRows.{all_pages}
use Rattle.kr_core.specs.kr_model.Operation.{operation}
use Rattle.kr_core.specs.kr_model.ProcessRows.{clone_row, is_fork, most_processes, set_tid, told_born}
use Rattle.kr_core.specs.kr_model.Seen.{Seen}
use Rattle.kr_core.specs.kr_model.declared.outcome.Outcome.{Outcome}
use Rattle.kr_core.specs.kr_model.declared.outcome.Outcome.TheVariants.{Answer, Wait, Ended, NoMemory}
use Rattle.kr_core.specs.kr_turns.PlainCall.{child_if_made, child_of}
use Rattle.kr_core.proofs.kr_model.LineLemmas.{by_line}
use Rattle.kr_core.proofs.law_allowed.RowLemmas.{Allowed, either, ended, reached, tested, unchanged}
use Rattle.law_beside.specs.Calls.{is_child}
use Rattle.law_beside.specs.Changes.{BearNext, BearsNext}

-- ---- calls that bear none

abbrev bears_none : Kind → Bool
bears_none Forks = false
bears_none _ = true

abbrev is_no_birth : Change → Bool
is_no_birth (Fork b) = false
is_no_birth _ = true

no-birth : (c : Change) → bears_none (kind c) ≡ true → is_no_birth c ≡ true
no-birth (Fork b) none = absurd cc
no-birth _ none = refl

none-bears : (next : ℕ) (c : Change) → is_no_birth c ≡ true → BearsNext next c
none-bears next (Fork b) none = absurd cc
none-bears next _ none = tt

none-bear : (next : ℕ) (cs : List Change) → list_all is_no_birth cs ≡ true → BearNext next cs
none-bear next [] none = tt
none-bear next (c ∷ cs) none = let parts = and_parts (is_no_birth c) (list_all is_no_birth cs) none in (none-bears next c parts.0, none-bear next cs parts.1)

-- ---- the one that bears one

clone-bears : (k : Known) (flags sp ctid : ℕ) → Allowed (λ cs. BearNext k.next_pid cs) true (clone_row k flags sp ctid)
clone-bears k flags sp ctid =
    either (not (is_fork flags)) (λ _. unchanged)
    (λ _. either (nat_le most_processes (length k.living + length k.ended)) (λ _. unchanged)
    (λ _. either (nat_lt all_pages (k.pages + map.len k.caller.layout)) (λ _. unchanged) (λ _. told)))
  where
    told : Allowed (λ cs. BearNext k.next_pid cs) true (told_born k flags sp ctid)
    told = either (has flags set_tid) (λ _. tested (λ b. ended (refl, tt))) (λ _. ended (refl, tt))

pub bear-next : (pid : ℕ) (r : Request) (seen : Seen) (k : Known) (m : Memory) → BearNext k.next_pid (carried_out (operation pid r seen k) m).reply.changes
bear-next pid (call.Clone flags sp ctid) seen k m = reached tt true (clone_row k flags sp ctid) (clone-bears k flags sp ctid) m (λ e. absurd cc)
bear-next pid r seen k m = none-bear k.next_pid (carried_out (operation pid r seen k) m).reply.changes (by_line bears_none is_no_birth no-birth pid r seen k m refl)

-- a new program bears none
pub program-bears : (next : ℕ) (result : Result Program Errno) → BearNext next (changes_of result)
program-bears next (Ok program) = (tt, (tt, (tt, tt)))
program-bears next (Err e) = tt

-- ---- the child that is told of

made-next : (next : ℕ) (outcome : Outcome) (q : ℕ) → is_child (child_if_made next outcome) q ≡ true → (q == next) ≡ true
made-next next (Answer (pos n)) q is = is
made-next next (Answer (negsuc n)) q is = absurd cc
made-next next Wait q is = absurd cc
made-next next Ended q is = absurd cc
made-next next NoMemory q is = absurd cc

pub child-next : (next : ℕ) (r : Request) (outcome : Outcome) (q : ℕ) → is_child (child_of next r outcome) q ≡ true → (q == next) ≡ true
child-next next (call.Clone flags sp ctid) outcome q is = made-next next outcome q is
child-next next _ outcome q is = absurd cc
