-- What callers can rely on in options that were read.
use Rattle.std.specs.Prelude.{◌≡◌, ◌≢◌, IsTrue, ℕ, ◌+◌, ◌<◌, ◌≤◌, List, length, Some, IfSome, slice_get}
use Rattle.std.specs.List.{All}
use Rattle.pr_base.specs.declared.bind.Bind.{Bind}
use Rattle.pr_words.specs.declared.options.Slot.{Slot}
use Rattle.pr_words.specs.declared.options.Options.{Options}
use Rattle.pr_words.specs.Values.{largest_id, is_variable}

-- no byte is zero
abbrev pub IsText : List ℕ → Type 0
IsText text = All (λ b. b ≢ 0) text

-- neither part is empty
pub record IsBinding (b : Bind) : Type 0 where
  pub host : 0 < length b.host
  pub guest : 0 < length b.guest
  pub host_text : IsText b.host
  pub guest_text : IsText b.guest

-- the first has index 1, each other one the next
abbrev pub AreNumbered : List Bind → Type 0
AreNumbered binds = (k : ℕ) (b : Bind) → slice_get binds k ≡ Some b → b.index ≡ 1 + k

pub record IsSlot (slot : Slot) : Type 0 where
  pub pick : slot.pick ≤ 255
  pub some_fuel : 1 ≤ slot.fuel
  pub fuel : slot.fuel ≤ 100000

-- a name, a `=` and a value
pub record IsVariable (text : List ℕ) : Type 0 where
  pub is_text : IsText text
  pub has_name : IsTrue (is_variable text)

pub record AreSound (o : Options) : Type 0 where
  pub root : IsText o.root
  pub binds : All IsBinding o.binds
  pub indices : AreNumbered o.binds
  pub cwd : IsText o.cwd
  pub ids : IfSome o.ids (λ ids. (ids.0 ≤ largest_id) × (ids.1 ≤ largest_id))
  pub env : All IsVariable o.env
  pub some_turns : 1 ≤ o.turns
  pub turns : o.turns ≤ 10000000
  pub schedule : All IsSlot o.schedule
  pub slots : length o.schedule ≤ 1024
  pub loose : All IsSlot o.loose
  pub loose_slots : length o.loose ≤ 1024
  pub case : IfSome o.case (λ n. n ≤ 65535)
  pub command : All IsText o.command
