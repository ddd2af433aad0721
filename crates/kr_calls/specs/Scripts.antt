-- The first line of a script (execve(2)): `#!`, the interpreter, and one argument. Own: a line that doesn't end in the
-- first 255 bytes of a longer file, or that holds a zero byte, is refused, so that no argument is cut.
use Rattle.std.specs.Prelude.{◌≡◌, ℕ, ◌==◌, ◌||◌, ◌&&◌, Bool, nat_lt, not, List, [], ◌∷◌, take, drop, reverse, Option, Some, None, length, if◌then◌else◌}
use Rattle.std.specs.List.{list_any}

abbrev pub is_newline : ℕ → Bool
is_newline b = b == 10

-- a space or a tab
abbrev pub is_blank : ℕ → Bool
is_blank b = b == 32 || b == 9

-- the bytes before the first that passes a test
abbrev pub before : (ℕ → Bool) → List ℕ → List ℕ
before test [] = []
before test (b ∷ bs) = if test b then [] else b ∷ before test bs

-- the bytes from the first blank on
abbrev pub from_blank : List ℕ → List ℕ
from_blank [] = []
from_blank (b ∷ bs) = if is_blank b then b ∷ bs else from_blank bs

abbrev pub without_leading_blanks : List ℕ → List ℕ
without_leading_blanks [] = []
without_leading_blanks (b ∷ bs) = if is_blank b then without_leading_blanks bs else b ∷ bs

abbrev pub without_trailing_blanks : List ℕ → List ℕ
without_trailing_blanks bs = reverse (without_leading_blanks (reverse bs))

-- what follows `#!` on the first line
abbrev pub line_of : List ℕ → List ℕ
line_of head = before is_newline (drop 2 head)

-- the head has all of 256 bytes, and none of the first 255 is a newline
abbrev pub is_cut : List ℕ → Bool
is_cut head = nat_lt 255 (length head) && not (list_any is_newline (take 255 head))

-- interpreter and argument of what is on the line between blanks
abbrev pub parted : List ℕ → Option (List ℕ × List ℕ)
parted [] = None
parted (b ∷ bs) = Some (before is_blank (b ∷ bs), without_leading_blanks (from_blank (b ∷ bs)))

abbrev pub interpreter_of : List ℕ → Option (List ℕ × List ℕ)
interpreter_of line = if list_any (λ b. b == 0) line then None else parted (without_trailing_blanks (without_leading_blanks line))

-- the interpreter and the argument, empty for none
abbrev pub script_of : List ℕ → Option (List ℕ × List ℕ)
script_of head = if is_cut head then None else interpreter_of (line_of head)

abbrev pub BeginsScript : List ℕ → Type 0
BeginsScript head = take 2 head ≡ 35 ∷ 33 ∷ []
