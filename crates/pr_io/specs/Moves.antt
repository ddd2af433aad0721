-- What a `take` adds to what a source gave, and a `put` to what a sink got; and what they do to bytes that are told.
use Rattle.std.specs.Prelude.{◌≡◌, ℕ, ◌<◌, ◌↔◌, Bool, List, [], ◌++◌, length, take, nat_eq, Option, IfSome, Result, Ok, Err, IfOk, if◌then◌else◌}
use Rattle.std.specs.Io.KnownBytes.{Appends, Keeps}
use Rattle.pr_io.specs.declared.fault.PutFault.{PutFault}
use Rattle.pr_io.specs.declared.fault.PutFault.TheVariants.{Failed, NoMemory}

-- ---- a source

-- a `take` that answers n gave the first n bytes of the buffer; one that failed gave none
abbrev pub Gives : {E : Type 0} → List ℕ → List ℕ → Result ℕ E → List ℕ → Type 0
Gives old new (Ok n) buf = new ≡ old ++ take n buf
Gives old new (Err e) buf = new ≡ old

-- whether the end is told after a `take` of n bytes into so much room: without room nothing is learnt
abbrev pub ended_after : Bool → ℕ → ℕ → Bool
ended_after old room n = if nat_eq room 0 then old else nat_eq n 0

-- a `take` that failed tells nothing either
abbrev pub Ends : {E : Type 0} → Bool → Bool → Result ℕ E → List ℕ → Type 0
Ends old new (Ok n) buf = new ≡ ended_after old (length buf) n
Ends old new (Err e) buf = new ≡ old

-- a `take` into a buffer with room answers 0 exactly where nothing is left
abbrev pub ZeroExactlyAtEnd : {E : Type 0} → Option (List ℕ) → Result ℕ E → List ℕ → Type 0
ZeroExactlyAtEnd left answer buf = IfSome left (λ bs. IfOk answer (λ n. 0 < length buf → (n ≡ 0) ↔ (bs ≡ [])))

-- ---- a sink

-- what was got stays as it was
abbrev pub Stays : List ℕ → List ℕ → Type 0
Stays old new = new ≡ old

-- it grew by bs
abbrev pub Gets : List ℕ → List ℕ → List ℕ → Type 0
Gets old new bs = new ≡ old ++ bs

-- it grew by the first bytes of bs: by none, some or all of them
abbrev pub GetsPrefix : List ℕ → List ℕ → List ℕ → Type 0
GetsPrefix old new bs = (n : ℕ) × Gets old new (take n bs)

-- what a `put` of bs did to what was got
abbrev pub Puts : List ℕ → List ℕ → Result (Unit {0}) PutFault → List ℕ → Type 0
Puts old new (Ok _) bs = Gets old new bs
Puts old new (Err Failed) bs = GetsPrefix old new bs
Puts old new (Err NoMemory) bs = Stays old new

-- ---- a writer that tells its content

-- the content grew by the first bytes of bs: by none, some or all of them
abbrev pub AppendsPrefix : Option (List ℕ) → Option (List ℕ) → List ℕ → Type 0
AppendsPrefix old new bs = (n : ℕ) × Appends old new (take n bs)

-- what a `put` of bs did to the content
abbrev pub PutsTold : Option (List ℕ) → Option (List ℕ) → Result (Unit {0}) PutFault → List ℕ → Type 0
PutsTold old new (Ok _) bs = Appends old new bs
PutsTold old new (Err Failed) bs = AppendsPrefix old new bs
PutsTold old new (Err NoMemory) bs = Keeps old new

-- what was got grew by the very bytes by which the content did
abbrev pub GrowsWith : List ℕ → List ℕ → Option (List ℕ) → Option (List ℕ) → Type 0
GrowsWith old new before now = (bs : List ℕ) × Gets old new bs × Appends before now bs
