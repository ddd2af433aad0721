-- An action that keeps to what its call does. Each row of a call is walked once, for this relation, and what is true of all calls follows of it.
use Rattle.std.proofs.Common.{◌≡◌, ◌≢◌, ℕ, Bool, true, false, ◌&&◌, ◌||◌, List, [], ◌∷◌, refl, ap, sym, ◌∙◌, cond, Option, Some, None, ℤ}
use Rattle.std.proofs.Math.Bool.{and-true}
use Rattle.std.specs.Prelude.{◌==◌}
use Rattle.std.specs.Option.{option_map_or}
use Rattle.kr_calls.specs.pr_base.declared.errno.Errno.{Errno}
use Rattle.kr_calls.specs.pr_base.declared.errno.Errno.TheVariants.{EBADF}
use Rattle.kr_calls.specs.rv_mem.declared.rights.Use.{Use}
use Rattle.kr_calls.specs.rv_mem.Actions.{MayUse, ReadBytes, WriteBytes, carried_out, allows_uses}
use Rattle.kr_calls.specs.rv_mem.Memory.{Memory, with_pages, after_read}
use Rattle.kr_calls.specs.rv_mem.Pages.{written, bytes_from}
use Rattle.kr_calls.specs.CallTable.{Doing, ending_too}
use Rattle.kr_calls.specs.Kinds.{Kind, Ends, has_kind, kind_number}
use Rattle.kr_files.specs.declared.opened.Opened.{Opened}
use Rattle.kr_model.specs.Change.{Change, End}
use Rattle.kr_model.specs.ChangeKinds.{are_of, kind}
use Rattle.kr_model.specs.Known.{Known}
use Rattle.kr_model.specs.Laws.{KeepsTo}
use Rattle.kr_model.specs.Reply.{Replying, done, refuse, waits, ends, is_refusal, unbuilt}
use Rattle.kr_model.specs.Asking.{or_closed, of_number, or_badf, descriptor_number}
use Rattle.kr_model.proofs.RefusalLemmas.{another, is_enosys}

-- it writes nothing before it ends in an error, and changes nothing with it, and its error isn't ENOSYS where its call is built; where it answers
-- its changes are of the kinds of its line; and it writes, waits, and ends its caller only as its line says. The Bool: whether it has written
pub data Keeps (does : Doing) (built : Bool) : Bool → Replying → Type 0 where
  refused : (e : Errno) → is_enosys e && built ≡ false → Keeps does built false (refuse e)
  answered : {w : Bool} {n : ℕ} {changes : List Change} → are_of does.makes changes ≡ true → Keeps does built w (done n changes)
  waiting : {w : Bool} → does.can_wait ≡ true → Keeps does built w waits
  ending : {w : Bool} {status : ℕ} → Some status ≡ does.ends_by → Keeps does built w (ends status)
  tested : {w : Bool} {at n : ℕ} {uses : List Use} {next : Bool → Replying} → ((b : Bool) → Keeps does built w (next b)) → Keeps does built w (MayUse at n uses next)
  read : {w : Bool} {at n : ℕ} {next : List ℕ → Replying} → ((bytes : List ℕ) → Keeps does built w (next bytes)) → Keeps does built w (ReadBytes at n next)
  wrote : {w : Bool} {at : ℕ} {bytes : List ℕ} {next : Replying} → does.writes_memory ≡ true → Keeps does built true next → Keeps does built w (WriteBytes at bytes next)
  either : {w : Bool} (b : Bool) {x y : Replying} → Keeps does built w x → Keeps does built w y → Keeps does built w (cond b x y)

-- ---- what its reply is

pub both_true : (a b : Bool) → (a && b) ≡ true → (a ≡ true) × (b ≡ true)
both_true true b e = (refl, e)
both_true false b e = absurd cc

pub and_both : {a b : Bool} → a ≡ true → b ≡ true → (a && b) ≡ true
and_both {a} {b} first second = ap (λ x. x && b) first ∙ second

one_more : (a b : Bool) → b ≡ true → (a || b) ≡ true
one_more true b e = refl
one_more false b e = e

more_kinds : (word : Option ℕ) (kinds : List Kind) (cs : List Change) → are_of kinds cs ≡ true → are_of (ending_too word kinds) cs ≡ true
more_kinds None kinds cs kept = kept
more_kinds (Some word) kinds [] kept = refl
more_kinds (Some word) kinds (c ∷ cs) kept =
    let parts = both_true (has_kind kinds (kind c)) (are_of kinds cs) kept in
    and_both (one_more (kind_number Ends == kind_number (kind c)) (has_kind kinds (kind c)) parts.0) (more_kinds (Some word) kinds cs parts.1)

end_is_kept : (status : ℕ) (word : Option ℕ) (kinds : List Kind) → Some status ≡ word → are_of (ending_too word kinds) (End status ∷ []) ≡ true
end_is_kept status None kinds by = absurd cc
end_is_kept status (Some word) kinds by = refl

pub keeps_to : {does : Doing} {built : Bool} (w : Bool) (action : Replying) → Keeps does built w action → (m : Memory) → KeepsTo does (carried_out action m).reply
keeps_to {does} w action (refused e known) m = record { changes = refl; answered = λ other. refl; no_want = λ is. absurd cc; waits = λ is. absurd cc; ended = λ is. absurd cc }
keeps_to {does} w action (answered {changes = changes} kept) m = record { changes = more_kinds does.ends_by does.makes changes kept; answered = λ other. kept; no_want = λ is. absurd cc; waits = λ is. absurd cc; ended = λ is. absurd cc }
keeps_to {does} w action (waiting can) m = record { changes = refl; answered = λ other. refl; no_want = λ is. absurd cc; waits = λ is. can; ended = λ is. absurd cc }
keeps_to {does} w action (ending {status = status} by) m = record { changes = end_is_kept status does.ends_by does.makes by; answered = λ other. absurd (other refl); no_want = λ is. absurd cc; waits = λ is. absurd cc; ended = λ is. (status, refl, by) }
keeps_to w action (tested {at = at} {n = n} {uses = uses} {next = next} keeps) m = keeps_to w (next (allows_uses m.pages at n uses)) (keeps (allows_uses m.pages at n uses)) m
keeps_to w action (read {at = at} {n = n} {next = next} keeps) m = keeps_to w (next (bytes_from m.pages at n)) (keeps (bytes_from m.pages at n)) (after_read m at n)
keeps_to w action (wrote {at = at} {bytes = bytes} {next = next} writes keeps) m = keeps_to true next keeps (with_pages m (written m.pages at bytes))
keeps_to w action (either true {x = x} first second) m = keeps_to w x first m
keeps_to w action (either false {y = y} first second) m = keeps_to w y second m

-- ---- what its errors leave

abbrev pub Leaves : Bool → Replying → Memory → Type 0
Leaves w action m =
    is_refusal (carried_out action m).reply.outcome ≡ true
    → ((carried_out action m).reply.changes ≡ []) × (w ≡ false) × ((carried_out action m).memory.pages ≡ m.pages) × ((carried_out action m).reply.outcome ≢ unbuilt)

impossible : {A : Type 0} → true ≡ false → A
impossible e = absurd cc

pub leaves : {does : Doing} (w : Bool) (action : Replying) → Keeps does true w action → (m : Memory) → Leaves w action m
leaves w action (refused e known) m is = (refl, refl, refl, another e (sym (and-true (is_enosys e)) ∙ known))
leaves w action (answered kept) m is = absurd cc
leaves w action (waiting can) m is = absurd cc
leaves w action (ending by) m is = absurd cc
leaves w action (tested {at = at} {n = n} {uses = uses} {next = next} keeps) m is = leaves w (next (allows_uses m.pages at n uses)) (keeps (allows_uses m.pages at n uses)) m is
leaves w action (read {at = at} {n = n} {next = next} keeps) m is = leaves w (next (bytes_from m.pages at n)) (keeps (bytes_from m.pages at n)) (after_read m at n) is
leaves w action (wrote {at = at} {bytes = bytes} {next = next} writes keeps) m is = impossible ((leaves true next keeps (with_pages m (written m.pages at bytes)) is).1)
leaves w action (either true {x = x} first second) m is = leaves w x first m is
leaves w action (either false {y = y} first second) m is = leaves w y second m is

-- ---- what one leaves that writes into no memory

pub writes_nothing : {does : Doing} {built : Bool} → does.writes_memory ≡ false → (w : Bool) (action : Replying) → Keeps does built w action → (m : Memory) → (carried_out action m).memory.pages ≡ m.pages
writes_nothing none w action (refused e known) m = refl
writes_nothing none w action (answered kept) m = refl
writes_nothing none w action (waiting can) m = refl
writes_nothing none w action (ending by) m = refl
writes_nothing none w action (tested {at = at} {n = n} {uses = uses} {next = next} keeps) m = writes_nothing none w (next (allows_uses m.pages at n uses)) (keeps (allows_uses m.pages at n uses)) m
writes_nothing none w action (read {at = at} {n = n} {next = next} keeps) m = writes_nothing none w (next (bytes_from m.pages at n)) (keeps (bytes_from m.pages at n)) (after_read m at n)
writes_nothing none w action (wrote writes keeps) m = impossible (sym writes ∙ none)
writes_nothing none w action (either true {x = x} first second) m = writes_nothing none w x first m
writes_nothing none w action (either false {y = y} first second) m = writes_nothing none w y second m

-- ---- parts of rows

pub maybe : {does : Doing} {built : Bool} {A : Type 0} {w : Bool} {f : A → Replying} (o : Option A) {other : Replying} → ((x : A) → Keeps does built w (f x)) → Keeps does built w other → Keeps does built w (option_map_or f o other)
maybe None some none = none
maybe (Some x) some none = some x

pub by_number : {does : Doing} {built : Bool} (k : Known) (fd : Option ℕ) {next : ℕ → Opened (Unit {0}) → Replying} → ((n : ℕ) (o : Opened (Unit {0})) → Keeps does built false (next n o)) → Keeps does built false (of_number k fd next)
by_number k None keeps = refused EBADF refl
by_number {does} {built} k (Some fd) {next = next} keeps = when_open (k.opened fd)
  where
    when_open : (o : Option (Opened (Unit {0}))) → Keeps does built false (or_closed o (next fd))
    when_open None = refused EBADF refl
    when_open (Some o) = keeps fd o

pub by_open : {does : Doing} {built : Bool} (k : Known) (fd : ℤ) {next : ℕ → Opened (Unit {0}) → Replying} → ((n : ℕ) (o : Opened (Unit {0})) → Keeps does built false (next n o)) → Keeps does built false (or_badf k fd next)
by_open k fd keeps = by_number k (descriptor_number fd) keeps
