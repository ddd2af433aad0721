-- The steps of a probe, and how much data they need.
use Rattle.std.specs.Prelude.{ℕ, ◌+◌, ◌-◌, ◌*◌, ◌%◌, ◌<◌, ◌≤◌, min, List, [], ◌∷◌, ◌++◌, length, All, Contains}
use Rattle.pr_gen.specs.declared.steps.ProbeStep.{ProbeStep}
use Rattle.pr_gen.specs.declared.steps.ProbeStep.TheVariants.{Call, SetSp}
use Rattle.pr_gen.specs.declared.steps.Arg.{Arg}
use Rattle.pr_gen.specs.declared.steps.Arg.TheVariants.{Num, Text, List as TextList, Buf, Answer}

-- ---- the texts of a probe, in order

abbrev pub texts_of : Arg → List (List ℕ)
texts_of (Num n) = []
texts_of (Text t) = t ∷ []
texts_of (TextList ts) = ts
texts_of Buf = []
texts_of (Answer k) = []

abbrev pub texts_in : List Arg → List (List ℕ)
texts_in [] = []
texts_in (arg ∷ rest) = texts_of arg ++ texts_in rest

abbrev pub texts : List ProbeStep → List (List ℕ)
texts [] = []
texts (Call number args who show ∷ rest) = texts_in args ++ texts rest
texts (SetSp sp ∷ rest) = texts rest

abbrev pub bytes_in : List (List ℕ) → ℕ
bytes_in [] = 0
bytes_in (t ∷ ts) = length t + bytes_in ts

abbrev pub IsWithoutZeros : List ℕ → Type 0
IsWithoutZeros t = Contains t 0 → ⊥

-- ---- answers

-- an answer is one of an earlier step
abbrev pub IsEarlier : ℕ → Arg → Type 0
IsEarlier place (Answer k) = k < place
IsEarlier place (Num n) = Unit {0}
IsEarlier place (Text t) = Unit {0}
IsEarlier place (TextList ts) = Unit {0}
IsEarlier place Buf = Unit {0}

abbrev pub IsStepEarlier : ℕ → ProbeStep → Type 0
IsStepEarlier place (Call number args who show) = All (IsEarlier place) args
IsStepEarlier place (SetSp sp) = Unit {0}

abbrev pub AreEarlier : ℕ → List ProbeStep → Type 0
AreEarlier place [] = Unit {0}
AreEarlier place (step ∷ rest) = IsStepEarlier place step × AreEarlier (place + 1) rest

-- ---- what is asked of steps

pub record IsProbe (steps : List ProbeStep) : Type 0 where
  pub few : length steps ≤ 256
  pub without_zeros : All IsWithoutZeros (texts steps)
  pub few_texts : length (texts steps) ≤ 65536
  pub few_bytes : bytes_in (texts steps) ≤ 1048576
  pub earlier : AreEarlier 0 steps

-- ---- data, in bytes

-- a text with one to eight zeros behind it, so that the next one stands at a multiple of eight
abbrev pub text_room : List ℕ → ℕ
text_room t = length t + (8 - length t % 8)

abbrev pub texts_room : List (List ℕ) → ℕ
texts_room [] = 0
texts_room (t ∷ ts) = text_room t + texts_room ts

-- the addresses of a list, one more that is zero, and the texts; an empty list takes nothing
abbrev pub list_room : List (List ℕ) → ℕ
list_room ts = 8 * (length ts + min 1 (length ts)) + texts_room ts

abbrev pub room_of : Arg → ℕ
room_of (Num n) = 0
room_of (Text t) = text_room t
room_of (TextList ts) = list_room ts
room_of Buf = 0
room_of (Answer k) = 0

abbrev pub room_in : List Arg → ℕ
room_in [] = 0
room_in (arg ∷ rest) = room_of arg + room_in rest

abbrev pub step_room : ProbeStep → ℕ
step_room (Call number args who show) = room_in args
step_room (SetSp sp) = 0

abbrev pub room : List ProbeStep → ℕ
room [] = 0
room (step ∷ rest) = step_room step + room rest
