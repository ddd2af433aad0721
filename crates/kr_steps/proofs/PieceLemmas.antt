-- Parts of rows that never come to wait: bytes that are moved, and a child that is reaped.
use Rattle.std.proofs.Common.{◌≡◌, ℕ, Bool, true, false, ◌&&◌, cond, List, [], ◌∷◌, length, refl}
use Rattle.rv_cpu.specs.pr_base.declared.errno.Errno.{Errno}
use Rattle.rv_cpu.specs.pr_base.declared.errno.Errno.TheVariants.{EFAULT}
use Rattle.rv_cpu.specs.rv_mem.Actions.{MayUse, ReadBytes, WriteBytes, carried_out, allows_uses}
use Rattle.rv_cpu.specs.rv_mem.Memory.{Memory, with_pages, after_read}
use Rattle.rv_cpu.specs.rv_mem.Pages.{Pages, written, bytes_from}
use Rattle.rv_cpu.specs.rv_mem.declared.rights.Use.{Use}
use Rattle.rv_cpu.specs.rv_mem.declared.rights.Use.TheVariants.{Write}
use Rattle.kr_perform.specs.kr_model.Change.{Change}
use Rattle.kr_perform.specs.kr_model.Pieces.{Piece, Part, cut_to, laid_into, may_use_all, read_all, write_all, hand}
use Rattle.kr_perform.specs.kr_model.ProcessRows.{usage_size, null_or_writable, unless_null, tell_end, reap}
use Rattle.kr_perform.specs.kr_model.Reply.{Replying, done, refuse}
use Rattle.kr_perform.specs.kr_model.State.{Ended}
use Rattle.kr_perform.specs.kr_model.declared.outcome.Outcome.TheVariants.{Wait}

-- what a row comes to on a memory
abbrev pub Waits : Replying → Memory → Type 0
Waits action m = (carried_out action m).reply.outcome ≡ Wait

pub data NeverWaits : Replying → Type 0 where
  refused : (e : Errno) → NeverWaits (refuse e)
  answered : {n : ℕ} {changes : List Change} → NeverWaits (done n changes)
  tested : {at n : ℕ} {uses : List Use} {next : Bool → Replying} → ((b : Bool) → NeverWaits (next b)) → NeverWaits (MayUse at n uses next)
  read : {at n : ℕ} {next : List ℕ → Replying} → ((bytes : List ℕ) → NeverWaits (next bytes)) → NeverWaits (ReadBytes at n next)
  wrote : {at : ℕ} {bytes : List ℕ} {next : Replying} → NeverWaits next → NeverWaits (WriteBytes at bytes next)
  either : (b : Bool) {x y : Replying} → NeverWaits x → NeverWaits y → NeverWaits (cond b x y)

pub never : (action : Replying) → NeverWaits action → (m : Memory) → Waits action m → ⊥
never action (refused e) m is = absurd cc
never action answered m is = absurd cc
never action (tested {at = at} {n = n} {uses = uses} {next = next} none) m is = never (next (allows_uses m.pages at n uses)) (none (allows_uses m.pages at n uses)) m is
never action (read {at = at} {n = n} {next = next} none) m is = never (next (bytes_from m.pages at n)) (none (bytes_from m.pages at n)) (after_read m at n) is
never action (wrote {at = at} {bytes = bytes} {next = next} none) m is = never next none (with_pages m (written m.pages at bytes)) is
never action (either true {x = x} first second) m is = never x first m is
never action (either false {y = y} first second) m is = never y second m is

-- ---- pieces

-- whether all pieces may be used so
abbrev pub usable_on : Pages → Use → List Piece → Bool
usable_on m what [] = true
usable_on m what (p ∷ pieces) = allows_uses m p.at p.count (what ∷ []) && usable_on m what pieces

-- which is what a row is told
pub used : (what : Use) (pieces : List Piece) (next : Bool → Replying) (m : Memory) → carried_out (may_use_all what pieces next) m ≡ carried_out (next (usable_on m.pages what pieces)) m
used what [] next m = refl
used what (p ∷ pieces) next m = used what pieces (λ others. next (allows_uses m.pages p.at p.count (what ∷ []) && others)) m

used_never : (what : Use) (pieces : List Piece) {next : Bool → Replying} → ((b : Bool) → NeverWaits (next b)) → NeverWaits (may_use_all what pieces next)
used_never what [] none = none true
used_never what (p ∷ pieces) none = tested (λ allowed. used_never what pieces (λ others. none (allowed && others)))

pub read_never : (pieces : List Piece) {next : List ℕ → Replying} → ((bytes : List ℕ) → NeverWaits (next bytes)) → NeverWaits (read_all pieces next)
read_never [] none = none []
read_never (p ∷ pieces) none = read (λ bytes. read_never pieces (λ others. none _))

written_never : (parts : List Part) {next : Replying} → NeverWaits next → NeverWaits (write_all parts next)
written_never [] none = none
written_never (p ∷ parts) none = wrote (written_never parts none)

pub handed_never : (pieces : List Piece) (bytes : List ℕ) (changes : List Change) → NeverWaits (hand pieces bytes changes)
handed_never pieces [] changes = answered
handed_never pieces (b ∷ bytes) changes =
    let moved = cut_to (length (b ∷ bytes)) pieces in
    let written : NeverWaits (write_all (laid_into moved (b ∷ bytes)) (done (length (b ∷ bytes)) changes)) = written_never (laid_into moved (b ∷ bytes)) answered in
    used_never Write moved (λ allowed. either allowed written (refused EFAULT))

-- ---- a child that ended

null_never : (at n : ℕ) {next : Bool → Replying} → ((b : Bool) → NeverWaits (next b)) → NeverWaits (null_or_writable at n next)
null_never at n none = either _ (none true) (tested none)

unless_never : (at : ℕ) (bytes : List ℕ) {next : Replying} → NeverWaits next → NeverWaits (unless_null at bytes next)
unless_never at bytes none = either _ none (wrote none)

told_never : (status usage : ℕ) (e : Ended) → NeverWaits (tell_end status usage e)
told_never status usage e = unless_never status _ (unless_never usage _ answered)

pub reaped_never : (status usage : ℕ) (e : Ended) → NeverWaits (reap status usage e)
reaped_never status usage e = null_never status 4 (λ first. null_never usage usage_size (λ second. either (first && second) (told_never status usage e) (refused EFAULT)))
