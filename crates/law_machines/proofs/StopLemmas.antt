-- What watchers do at stops leaves bytes.
use Rattle.std.proofs.Common.{ℕ, zero, suc, Bool, true, false, ◌&&◌, ◌+◌, ◌%◌, ◌^◌, List, [], ◌∷◌, Option, Some, None, cond, refl, take, drop}
use Rattle.std.specs.Prelude.{◌==◌}
use Rattle.std.specs.Int.{to_le_bytes, w32, w64}
use Rattle.std.proofs.Math.Seq.{sets}
use Rattle.pr_top.specs.pr_base.Fields.{little_endian}
use Rattle.law_starts.specs.rv_mem.Actions.{Action, carried_out}
use Rattle.pr_top.specs.kr_inode.declared.user.User.{User}
use Rattle.pr_top.specs.kr_tree.Lawful.{AreBytes}
use Rattle.law_starts.specs.kr_stops.Stopped.{Stopped, image_at}
use Rattle.law_starts.specs.pt_faker.Stopping.{after_request, memory_at, with_memory, with_register}
use Rattle.law_starts.specs.pt_ident.Identity.{Answers, Effect, Identity, TakesGroups, TellsGroups, TellsNumbers, number_bytes, on_memory}
use Rattle.law_starts.specs.pt_ident.IdentityTable.{IdentityTable, shown_owners}
use Rattle.law_starts.specs.pt_ident.Showing.{auxiliary_values, field, is_of_tree, owner_in, shown_at, shown_host, shown_with, with_owner_in}
use Rattle.law_starts.specs.pt_ident.declared.change.Shown.{Shown}
use Rattle.law_starts.specs.pt_ident.Owners.{Remembered, shown_of}
use Rattle.law_starts.specs.pt_faker.Carrying.{on_its_memory}
use Rattle.law_starts.specs.pt_faker.Faking.{behind_list, forgiven, has_answered_zero, if_done, most_words, next_word, no_call, no_longer_called, number_register, put_values, show_identity, show_owner}
use Rattle.law_starts.specs.law_kept.Bytes.{HasBytes}
use Rattle.law_starts.proofs.law_kept.ActionLemmas.{PutsBytes, either_way, puts, read, tested, told, wrote}
use Rattle.law_starts.proofs.law_kept.ListLemmas.{bytes-laid, joined, word-bytes}
use Rattle.law_starts.proofs.law_kept.TurnLemmas.{at-stop, edit-keeps, edits-keep-bytes}

-- whatever an action replies
abbrev pub Fine : {A : Type 0} → A → Type 0
Fine reply = Unit {0}

-- an action that writes bytes is carried out
pub carried-keeps : {A : Type 0} (Good : A → Type 0) (action : Action A) → PutsBytes Good action → (t : Stopped) → HasBytes t.state
    → Good (carried_out action (memory_at t)).reply × HasBytes (with_memory (carried_out action (memory_at t)).memory t).state
carried-keeps Good action writes t has =
    let done = puts action writes (memory_at t) (at-stop t has) in
    (done.0, edit-keeps (image_at t).regs (carried_out action (memory_at t)).memory t done.1 refl has)

pub register-keeps : (k v : ℕ) (t : Stopped) → HasBytes t.state → HasBytes (with_register k v t).state
register-keeps k v t has = edits-keep-bytes.register k v t has

pub request-keeps : (t : Stopped) → HasBytes t.state → HasBytes (after_request t).state
request-keeps t has = edits-keep-bytes.request t has

pub uncalled-keeps : (t : Stopped) → HasBytes t.state → HasBytes (no_longer_called t).state
uncalled-keeps t has = register-keeps number_register no_call t has

-- ---- calls on users and groups

numbers-are-bytes : (ids : List ℕ) → AreBytes (number_bytes ids)
numbers-are-bytes [] = tt
numbers-are-bytes (n ∷ ids) = joined (to_le_bytes w32 n) (number_bytes ids) (word-bytes w32 n) (numbers-are-bytes ids)

pub effect-puts : (i : Identity) (e : Effect) → PutsBytes Fine (on_memory i e)
effect-puts i (Answers n after) = told tt
effect-puts i (TellsNumbers n real effective saved) =
    tested (λ a. tested (λ b. tested (λ c. either_way (a && b && c) (wrote (word-bytes w32 n.real) (wrote (word-bytes w32 n.effective) (wrote (word-bytes w32 n.saved) (told tt)))) (told tt))))
effect-puts i (TellsGroups at) = tested (λ b. either_way b (wrote (numbers-are-bytes i.groups) (told tt)) (told tt))
effect-puts i (TakesGroups count at) = tested (λ b. either_way b (read (λ bytes are. told tt)) (told tt))

-- ---- the owner of a file

shown-at-bytes : (at own other : ℕ) (bytes : List ℕ) → AreBytes bytes → AreBytes (shown_at at own other bytes)
shown-at-bytes at own other bytes are = by (little_endian (take 4 (drop at bytes)) == own)
  where
    by : (b : Bool) → AreBytes (cond b (sets bytes at (to_le_bytes w32 other)) bytes)
    by true = bytes-laid bytes at (to_le_bytes w32 other) (word-bytes w32 other) are
    by false = are

host-bytes : (user : User) (uid gid : ℕ) (bytes : List ℕ) → AreBytes bytes → AreBytes (shown_host user uid gid bytes)
host-bytes user uid gid bytes are = shown-at-bytes 28 user.gid gid (shown_at 24 user.uid uid bytes) (shown-at-bytes 24 user.uid uid bytes are)

laid-word : (bytes : List ℕ) (at n : ℕ) → AreBytes bytes → AreBytes (sets bytes at (to_le_bytes w32 n))
laid-word bytes at n are = bytes-laid bytes at (to_le_bytes w32 n) (word-bytes w32 n) are

owner-bytes : (o : Shown) (bytes : List ℕ) → AreBytes bytes → AreBytes (with_owner_in o bytes)
owner-bytes o bytes are =
    let mode = laid-word bytes 16 o.mode are in
    let uid = laid-word (sets bytes 16 (to_le_bytes w32 o.mode)) 24 o.uid mode in
    laid-word (sets (sets bytes 16 (to_le_bytes w32 o.mode)) 24 (to_le_bytes w32 o.uid)) 28 o.gid uid

over-bytes : (owners : Option Remembered) (bytes : List ℕ) → AreBytes bytes → AreBytes (shown_with owners bytes)
over-bytes None bytes are = are
over-bytes (Some owners) bytes are = by (is_of_tree (field 0 8 bytes) (field 16 4 bytes))
  where
    by : (b : Bool) → AreBytes (cond b (with_owner_in (shown_of owners (field 8 8 bytes) (owner_in bytes)) bytes) bytes)
    by true = owner-bytes (shown_of owners (field 8 8 bytes) (owner_in bytes)) bytes are
    by false = are

pub owner-puts : (user : User) (table : IdentityTable) (at : ℕ) → PutsBytes Fine (show_owner user table at)
owner-puts user table at =
    tested (λ b. either_way b (read (λ bytes are. wrote (over-bytes (shown_owners table) (shown_host user table.uid table.gid bytes) (host-bytes user table.uid table.gid bytes are)) (told tt))) (told tt))

-- ---- the identity of a new program

behind-puts : (most at : ℕ) (next : ℕ → Action (Unit {0})) → ((n : ℕ) → PutsBytes Fine (next n)) → PutsBytes Fine (behind_list most at next)
unfolding behind_list
behind-puts zero at next each = told tt
behind-puts (suc most) at next each =
    tested (λ b. either_way b (read (λ bytes are. either_way (little_endian bytes == 0) (each (next_word at)) (behind-puts most (next_word at) next each))) (told tt))

values-put : (at : ℕ) (values : List ℕ) → PutsBytes Fine (put_values at values)
values-put at [] = told tt
values-put at (v ∷ vs) = tested (λ b. either_way b (wrote (word-bytes w64 v) (values-put ((at + 16) % 2 ^ 64) vs)) (told tt))

pub identity-puts : (i : Identity) (stack : ℕ) → PutsBytes Fine (show_identity i stack)
identity-puts i stack = behind-puts most_words (next_word stack) _ (λ environment. behind-puts most_words environment _ (λ pairs. values-put _ (auxiliary_values i)))

-- ---- the second stop

pub forgiven-keeps : (may : Bool) (t : Stopped) → HasBytes t.state → HasBytes (forgiven may t).state
forgiven-keeps may t has = by (may && _)
  where
    by : (b : Bool) → HasBytes (cond b (with_register 10 0 t) t).state
    by true = register-keeps 10 0 t has
    by false = has

pub shown-keeps : (user : User) (table : IdentityTable) (at : ℕ) (t : Stopped) → HasBytes t.state → HasBytes (if_done t (on_its_memory (show_owner user table at) t) t).state
shown-keeps user table at t has = by (has_answered_zero t)
  where
    by : (b : Bool) → HasBytes (cond b (on_its_memory (show_owner user table at) t) t).state
    by true = (carried-keeps Fine (show_owner user table at) (owner-puts user table at) t has).1
    by false = has
