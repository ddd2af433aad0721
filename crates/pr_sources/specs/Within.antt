-- What reading a source within a limit gives, and how stages follow each other.
use Rattle.std.specs.Prelude.{◌≡◌, ◌⊎◌, ℕ, ◌+◌, ◌<◌, ◌≤◌, nat_lt, List, length, Result, Ok, Err, if◌then◌else◌}
use Rattle.pr_io.specs.Drawn.{Drawn, Gave, IsWhole, SourceFailed, gave}
use Rattle.pr_sources.specs.declared.answer.Which.{Which}
use Rattle.pr_sources.specs.declared.answer.Answer.{Answer}
use Rattle.pr_sources.specs.declared.answer.Answer.TheVariants.{NoMemory, ReadFault, TooLong}

-- the bytes that a source gave, where they are no more than its limit
abbrev pub within : ℕ → Which → List ℕ → Result (List ℕ) Answer
within limit which bytes = if nat_lt limit (length bytes) then Err (TooLong which) else Ok bytes

-- ---- stages

-- a stage comes to an outcome or to a refusal, and the next one goes on with the outcome
abbrev pub and_then : {A B : Type 0} → Result A Answer → (A → Result B Answer) → Result B Answer
and_then (Ok x) go = go x
and_then (Err answer) go = Err answer

-- a fault of a source, or want of memory
abbrev pub IsEarly : Answer → Type 0
IsEarly NoMemory = Unit {0}
IsEarly (ReadFault which) = Unit {0}
IsEarly answer = ⊥

-- the stage's outcome or refusal, or an early end
abbrev pub ComesTo : {A : Type 0} → Result A Answer → Result A Answer → Type 0
ComesTo expected (Ok x) = expected ≡ Ok x
ComesTo expected (Err answer) = (expected ≡ Err answer) ⊎ IsEarly answer

-- ---- a source

-- reading this source ends early, by want of memory, or by a fault that it counted
abbrev pub IsReadEnd : Which → Drawn → Answer → Type 0
IsReadEnd which d NoMemory = Unit {0}
IsReadEnd which d (ReadFault w) = (w ≡ which) × SourceFailed d
IsReadEnd which d answer = ⊥

-- or it is refused, since it is too long: it gave its limit and one byte
abbrev pub IsReadRefusal : ℕ → Which → Drawn → Answer → Type 0
IsReadRefusal limit which d (TooLong w) = (w ≡ which) × (length (gave d) ≡ limit + 1)
IsReadRefusal limit which d answer = IsReadEnd which d answer

-- a source that is read within a limit is asked limit + 1 times at most: each call but the last one gives a byte, and no call is made behind the
-- first byte that is too many
abbrev pub IsAskedWithin : ℕ → ℕ → ℕ → Type 0
IsAskedWithin limit before now = now ≤ before + (limit + 1)

-- the source gave these bytes, and was read to its end where they are fewer than asked for
pub record ReadsWithin (most : ℕ) (d : Drawn) (bytes : List ℕ) : Type 0 where
  pub taken : Gave d bytes
  pub short : length bytes ≤ most
  pub whole : length bytes < most → IsWhole d
