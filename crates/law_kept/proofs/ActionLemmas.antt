-- Actions that write bytes alone leave a memory that holds bytes.
use Rattle.std.proofs.Common.{ℕ, Bool, true, false, List, cond}
use Rattle.kr_first.specs.rv_mem.Actions.{Action, Done, MayUse, ReadBytes, WriteBytes, allows_uses, carried_out}
use Rattle.kr_first.specs.rv_mem.Memory.{Memory, after_read, with_pages}
use Rattle.kr_first.specs.rv_mem.Pages.{HoldsBytes, bytes_from, written}
use Rattle.kr_first.specs.rv_mem.declared.rights.Use.{Use}
use Rattle.kr_first.specs.kr_tree.Lawful.{AreBytes}
use Rattle.kr_first.proofs.law_allowed.RowLemmas.{read-bytes}
use Rattle.law_kept.proofs.PageLemmas.{holds-written}

-- an action that writes bytes and comes to a good reply, where what it reads are bytes
pub data PutsBytes {A : Type 0} (Good : A → Type 0) : Action A → Type 0 where
  told : {reply : A} → Good reply → PutsBytes Good (Done reply)
  tested : {at n : ℕ} {uses : List Use} {next : Bool → Action A} → ((b : Bool) → PutsBytes Good (next b)) → PutsBytes Good (MayUse at n uses next)
  read : {at n : ℕ} {next : List ℕ → Action A} → ((bytes : List ℕ) → AreBytes bytes → PutsBytes Good (next bytes)) → PutsBytes Good (ReadBytes at n next)
  wrote : {at : ℕ} {bytes : List ℕ} {next : Action A} → AreBytes bytes → PutsBytes Good next → PutsBytes Good (WriteBytes at bytes next)
  either_way : (b : Bool) {x y : Action A} → PutsBytes Good x → PutsBytes Good y → PutsBytes Good (cond b x y)

module _ {A : Type 0} {Good : A → Type 0} where
  pub puts : (action : Action A) → PutsBytes Good action → (m : Memory) → HoldsBytes m.pages → Good (carried_out action m).reply × HoldsBytes (carried_out action m).memory.pages
  puts action (told good) m holds = (good, holds)
  puts action (tested {at = at} {n = n} {uses = uses} {next = next} each) m holds = puts (next (allows_uses m.pages at n uses)) (each (allows_uses m.pages at n uses)) m holds
  puts action (read {at = at} {n = n} {next = next} each) m holds =
      puts (next (bytes_from m.pages at n)) (each (bytes_from m.pages at n) (read-bytes m.pages holds n at)) (after_read m at n) holds
  puts action (wrote {at = at} {bytes = bytes} {next = next} are rest) m holds = puts next rest (with_pages m (written m.pages at bytes)) (holds-written m.pages at bytes are holds)
  puts action (either_way true {x = x} first second) m holds = puts x first m holds
  puts action (either_way false {y = y} first second) m holds = puts y second m holds
