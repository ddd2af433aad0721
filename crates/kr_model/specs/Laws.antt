-- What two machines with equal bare states have in common, and what calls come to.
use Rattle.std.specs.Prelude.{◌≡◌, ◌≢◌, ℕ, ◌*◌, Bool, true, false, List, [], ◌∷◌, pos, unsigned_abs, Some}
use Rattle.std.specs.Int.{int_rem_euclid}
use Rattle.kr_calls.specs.pr_base.declared.errno.Errno.TheVariants.{ENOSYS}
use Rattle.kr_calls.specs.rv_mem.Memory.{Memory}
use Rattle.kr_calls.specs.rv_mem.Pages.{Pages}
use Rattle.kr_calls.specs.rv_mem.Actions.{carried_out, AreEqualUnmarked}
use Rattle.kr_calls.specs.CallTable.{Doing, line, makes_at_all, sigpipe}
use Rattle.kr_calls.specs.declared.request.Request.{Request}
use Rattle.kr_calls.specs.declared.request.Request.TheVariants as call
use Rattle.kr_model.specs.declared.outcome.Outcome.TheVariants.{Wait, Ended, NoMemory}
use Rattle.kr_model.specs.State.{State, Image, image_layout}
use Rattle.kr_model.specs.Change.{Change, End, PageChange, Birth}
use Rattle.kr_model.specs.ChangeKinds.{are_of}
use Rattle.kr_model.specs.Applied.{Computing, Mounts, applied, all_applied, layouts, images, pages_after}
use Rattle.kr_model.specs.Operation.{IsNoExec, operation}
use Rattle.kr_model.specs.Reply.{Reply, is_refusal, unbuilt}
use Rattle.kr_model.specs.Seen.{Seen, WalkFails}
use Rattle.kr_model.specs.Walks.{seen as seen_of_paths}
use Rattle.kr_procfs.specs.kr_view.View.{Row}
use Rattle.kr_model.specs.Bare.{bare, bare_mounts, ArePinned}
use Rattle.kr_model.specs.Known.{Known, known}

-- what calls ask of a state is asked of its bare part alone
abbrev pub KnownIsBare : Type 0 → Type 0
KnownIsBare M =
    (pins : ℕ → ℕ) (pid : ℕ) (s : State M Image) → known image_layout pid s ≡ known (λ m. m) pid (bare image_layout pins s)

-- a change does on the bare part what it does on the whole, where each mount's source is held and has a name before it
-- and after it
abbrev pub ChangesAreBare : Type 0 → Type 0
ChangesAreBare M =
    (pins : ℕ → ℕ) (mounts : Mounts M) (pid : ℕ) (c : Change) (s : State M Image)
    → ArePinned pins s.tree → ArePinned pins (applied images mounts pid c s).tree
    → bare image_layout pins (applied images mounts pid c s) ≡ applied layouts (bare_mounts mounts) pid c (bare image_layout pins s)

-- the mounts' sources are held and have names before each of some changes, and after the last
abbrev pub ArePinnedAlong : {M X : Type 0} → (ℕ → ℕ) → Computing X → Mounts M → ℕ → List Change → State M X → Type 0
ArePinnedAlong pins computing mounts pid [] s = ArePinned pins s.tree
ArePinnedAlong pins computing mounts pid (c ∷ cs) s = ArePinned pins s.tree × ArePinnedAlong pins computing mounts pid cs (applied computing mounts pid c s)

-- and so do all changes of a call, in their order
abbrev pub AllChangesAreBare : Type 0 → Type 0
AllChangesAreBare M =
    (pins : ℕ → ℕ) (mounts : Mounts M) (pid : ℕ) (cs : List Change) (s : State M Image) → ArePinnedAlong pins images mounts pid cs s
    → bare image_layout pins (all_applied images mounts pid cs s) ≡ all_applied layouts (bare_mounts mounts) pid cs (bare image_layout pins s)

-- what two machines with equal bare states and equal facts are answered, of any request but an execve. Where the first one's call reads no marked
-- byte, the outcomes and the changes are the same, and the memories stay equal but for marked bytes
abbrev pub CallsAlike : Type 0 → Type 0 → Type 0
CallsAlike M N =
    (p q : ℕ → ℕ) (pid : ℕ) (r : Request) (seen : Seen) (s : State M Image) (t : State N Image) (m w : Memory) → IsNoExec r
    → bare image_layout p s ≡ bare image_layout q t → AreEqualUnmarked m.pages w.pages
    → (carried_out (operation pid r seen (known image_layout pid s)) m).memory.read_marked ≡ false
    → ((carried_out (operation pid r seen (known image_layout pid s)) m).reply ≡ (carried_out (operation pid r seen (known image_layout pid t)) w).reply)
    × AreEqualUnmarked (carried_out (operation pid r seen (known image_layout pid s)) m).memory.pages (carried_out (operation pid r seen (known image_layout pid t)) w).memory.pages

-- pages that are changed, and those of a child, stay equal but for marked bytes
pub record PagesStayAlike : Type 0 where
  pub changed : (c : PageChange) (m w : Pages) → AreEqualUnmarked m w → AreEqualUnmarked (pages_after c m) (pages_after c w)
  pub born : (b : Birth) (x y : Image) → AreEqualUnmarked x.memory.pages y.memory.pages → AreEqualUnmarked (images.born b x).memory.pages (images.born b y).memory.pages

-- a reply that keeps to what its call does: its changes are of these kinds, its call waits only where it can, memory isn't wanting, and an
-- end of the caller is that by the call's word
pub record KeepsTo (does : Doing) (reply : Reply) : Type 0 where
  pub changes : are_of (makes_at_all does) reply.changes ≡ true
  pub answered : reply.outcome ≢ Ended → are_of does.makes reply.changes ≡ true
  pub no_want : reply.outcome ≢ NoMemory
  pub waits : reply.outcome ≡ Wait → does.can_wait ≡ true
  pub ended : reply.outcome ≡ Ended → (word : ℕ) × (reply.changes ≡ End word ∷ []) × (Some word ≡ does.ends_by)

-- a call, other than execve, keeps to its line in the table
abbrev pub CallsKeepToTheirLines : Type 0
CallsKeepToTheirLines =
    (pid : ℕ) (r : Request) (seen : Seen) (k : Known) (m : Memory) → IsNoExec r → KeepsTo (line r).does (carried_out (operation pid r seen k) m).reply

-- and one that writes nothing into its caller's memory leaves all pages
abbrev pub OthersLeaveMemory : Type 0
OthersLeaveMemory =
    (pid : ℕ) (r : Request) (seen : Seen) (k : Known) (m : Memory) → IsNoExec r → (line r).does.writes_memory ≡ false
    → (carried_out (operation pid r seen k) m).memory.pages ≡ m.pages

-- a call, other than execve, that answers an error has changed nothing and written nothing, and the error is ENOSYS only where that is
-- told of its paths
abbrev pub RefusalsChangeNothing : Type 0
RefusalsChangeNothing =
    (pid : ℕ) (r : Request) (seen : Seen) (k : Known) (m : Memory) → IsNoExec r → seen ≢ WalkFails ENOSYS
    → is_refusal (carried_out (operation pid r seen k) m).reply.outcome ≡ true
    → ((carried_out (operation pid r seen k) m).reply.changes ≡ [])
    × ((carried_out (operation pid r seen k) m).memory.pages ≡ m.pages)
    × ((carried_out (operation pid r seen k) m).reply.outcome ≢ unbuilt)

-- which it never is
abbrev pub NoWalkAnswersEnosys : Type 0 → Type 0
NoWalkAnswersEnosys X = (table : List Row) (pid : ℕ) (s : State ℕ X) (r : Request) → seen_of_paths table pid s r ≢ WalkFails ENOSYS

-- ---- ends and waits, of any request but an execve

-- the word by which a call ends its caller: an exit tells its code as wait4(2) does, and a write ends by SIGPIPE
abbrev pub word_told : Request → ℕ
word_told (call.Exit code) = unsigned_abs (int_rem_euclid code (pos 256)) * 256
word_told (call.ExitGroup code) = unsigned_abs (int_rem_euclid code (pos 256)) * 256
word_told _ = sigpipe

-- a call that ends its caller changes nothing else
abbrev pub EndsAsTold : Type 0
EndsAsTold =
    (pid : ℕ) (r : Request) (seen : Seen) (k : Known) (m : Memory) → IsNoExec r
    → (carried_out (operation pid r seen k) m).reply.outcome ≡ Ended
    → (carried_out (operation pid r seen k) m).reply.changes ≡ End (word_told r) ∷ []

-- the calls that may end their caller: an exit, and a write into a pipe without readers
abbrev pub may_end : Request → Bool
may_end (call.Exit code) = true
may_end (call.ExitGroup code) = true
may_end (call.Write fd buf n) = true
may_end (call.Writev fd list count) = true
may_end _ = false

-- no other call ends its caller
abbrev pub OnlyEndersEnd : Type 0
OnlyEndersEnd =
    (pid : ℕ) (r : Request) (seen : Seen) (k : Known) (m : Memory) → IsNoExec r
    → (carried_out (operation pid r seen k) m).reply.outcome ≡ Ended
    → may_end r ≡ true

-- the calls that may wait: on a pipe, and for a child
abbrev pub may_wait : Request → Bool
may_wait (call.Read fd buf n) = true
may_wait (call.Readv fd list count) = true
may_wait (call.Write fd buf n) = true
may_wait (call.Writev fd list count) = true
may_wait (call.Wait4 child status options usage) = true
may_wait _ = false

-- no other call waits
abbrev pub WaitsAsTold : Type 0
WaitsAsTold =
    (pid : ℕ) (r : Request) (seen : Seen) (k : Known) (m : Memory) → IsNoExec r
    → (carried_out (operation pid r seen k) m).reply.outcome ≡ Wait
    → may_wait r ≡ true

-- whether no end of a process is among some changes
abbrev pub ends_nobody : List Change → Bool
ends_nobody [] = true
ends_nobody (End status ∷ cs) = false
ends_nobody (c ∷ cs) = ends_nobody cs

-- so the caller of any other call lives behind it
abbrev pub AnswersEndNobody : Type 0
AnswersEndNobody =
    (pid : ℕ) (r : Request) (seen : Seen) (k : Known) (m : Memory) → IsNoExec r
    → (carried_out (operation pid r seen k) m).reply.outcome ≢ Ended
    → ends_nobody (carried_out (operation pid r seen k) m).reply.changes ≡ true
