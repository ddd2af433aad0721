-- The words on the line of a script are short, and hold no zero byte.
use Rattle.std.proofs.Common.{◌≡◌, ◌≢◌, ◌≤◌, ℕ, Bool, true, false, cond, ◌||◌, List, [], ◌∷◌, ◌++◌, drop, length, reverse, Some, None, refl, sym, ◌∙◌, subst, arith}
use Rattle.std.specs.Prelude.{◌==◌}
use Rattle.std.specs.List.{All, list_any}
use Rattle.std.proofs.lemmas.Bool.Decides.{nat_tests}
use Rattle.std.proofs.lemmas.List.Elements.{All-cons, All-head, All-tail}
use Rattle.std.proofs.lemmas.List.{length-drop, length-reverse, reverse-append}
use Rattle.kr_first.specs.kr_calls.Scripts.{before, from_blank, interpreter_of, is_blank, is_cut, is_newline, line_of, parted, script_of, without_leading_blanks, without_trailing_blanks}
use Rattle.kr_first.specs.law_allowed.Texts.{IsText}

-- ---- lengths

before-short : (test : ℕ → Bool) (bytes : List ℕ) → length (before test bytes) ≤ length bytes
before-short test [] = omega arith
before-short test (b ∷ bytes) = by (test b) (before-short test bytes)
  where
    by : (c : Bool) → length (before test bytes) ≤ length bytes → length (cond c [] (b ∷ before test bytes)) ≤ length (b ∷ bytes)
    by true rest = omega arith
    by false rest = omega (arith, rest)

from-blank-short : (bytes : List ℕ) → length (from_blank bytes) ≤ length bytes
from-blank-short [] = omega arith
from-blank-short (b ∷ bytes) = by (is_blank b) (from-blank-short bytes)
  where
    by : (c : Bool) → length (from_blank bytes) ≤ length bytes → length (cond c (b ∷ bytes) (from_blank bytes)) ≤ length (b ∷ bytes)
    by true rest = omega arith
    by false rest = omega (arith, rest)

leading-short : (bytes : List ℕ) → length (without_leading_blanks bytes) ≤ length bytes
leading-short [] = omega arith
leading-short (b ∷ bytes) = by (is_blank b) (leading-short bytes)
  where
    by : (c : Bool) → length (without_leading_blanks bytes) ≤ length bytes → length (cond c (without_leading_blanks bytes) (b ∷ bytes)) ≤ length (b ∷ bytes)
    by true rest = omega (arith, rest)
    by false rest = omega arith

trailing-short : (bytes : List ℕ) → length (without_trailing_blanks bytes) ≤ length bytes
trailing-short bytes = omega (arith, length-reverse (without_leading_blanks (reverse bytes)), leading-short (reverse bytes), length-reverse bytes)

-- ---- no zero

pub none : {X : Type 0} (P : X → Type 0) → All P []
none P k d less = absurd (omega (arith, less))

abbrev IsByte : ℕ → Type 0
IsByte b = b ≢ 0

no-bytes : IsText []
no-bytes = none IsByte

more-bytes : (b : ℕ) (bytes : List ℕ) → b ≢ 0 → IsText bytes → IsText (b ∷ bytes)
more-bytes b bytes is are = All-cons IsByte b bytes is are

first-byte : (b : ℕ) (bytes : List ℕ) → IsText (b ∷ bytes) → b ≢ 0
first-byte b bytes are = All-head IsByte b bytes are

later-bytes : (b : ℕ) (bytes : List ℕ) → IsText (b ∷ bytes) → IsText bytes
later-bytes b bytes are = All-tail IsByte b bytes are

before-text : (test : ℕ → Bool) (bytes : List ℕ) → IsText bytes → IsText (before test bytes)
before-text test [] are = no-bytes
before-text test (b ∷ bytes) are = by (test b) (before-text test bytes (later-bytes b bytes are))
  where
    by : (c : Bool) → IsText (before test bytes) → IsText (cond c [] (b ∷ before test bytes))
    by true rest = no-bytes
    by false rest = more-bytes b _ (first-byte b bytes are) rest

from-blank-text : (bytes : List ℕ) → IsText bytes → IsText (from_blank bytes)
from-blank-text [] are = no-bytes
from-blank-text (b ∷ bytes) are = by (is_blank b) (from-blank-text bytes (later-bytes b bytes are))
  where
    by : (c : Bool) → IsText (from_blank bytes) → IsText (cond c (b ∷ bytes) (from_blank bytes))
    by true rest = are
    by false rest = rest

leading-text : (bytes : List ℕ) → IsText bytes → IsText (without_leading_blanks bytes)
leading-text [] are = no-bytes
leading-text (b ∷ bytes) are = by (is_blank b) (leading-text bytes (later-bytes b bytes are))
  where
    by : (c : Bool) → IsText (without_leading_blanks bytes) → IsText (cond c (without_leading_blanks bytes) (b ∷ bytes))
    by true rest = rest
    by false rest = are

joined-text : (xs ys : List ℕ) → IsText xs → IsText ys → IsText (xs ++ ys)
joined-text [] ys one two = two
joined-text (x ∷ xs) ys one two = more-bytes x (xs ++ ys) (first-byte x xs one) (joined-text xs ys (later-bytes x xs one) two)

reversed-text : (bytes : List ℕ) → IsText bytes → IsText (reverse bytes)
reversed-text [] are = no-bytes
reversed-text (b ∷ bytes) are = subst IsText (sym (reverse-append (b ∷ []) bytes)) (joined-text (reverse bytes) (b ∷ []) (reversed-text bytes (later-bytes b bytes are)) (more-bytes b [] (first-byte b bytes are) no-bytes))

trailing-text : (bytes : List ℕ) → IsText bytes → IsText (without_trailing_blanks bytes)
trailing-text bytes are = reversed-text (without_leading_blanks (reverse bytes)) (leading-text (reverse bytes) (reversed-text bytes are))

-- a line without a zero byte
no-zero : (line : List ℕ) → list_any (λ b. b == 0) line ≡ false → IsText line
no-zero [] none = no-bytes
no-zero (b ∷ line) none = by (b == 0) refl (list_any (λ b. b == 0) line) refl none (no-zero line)
  where
    by : (c : Bool) → (b == 0) ≡ c → (d : Bool) → list_any (λ b. b == 0) line ≡ d → (c || d) ≡ false → (list_any (λ b. b == 0) line ≡ false → IsText line) → IsText (b ∷ line)
    by true here d there none rest = absurd cc
    by false here true there none rest = absurd cc
    by false here false there none rest = more-bytes b line (λ is. absurd (let same : (b == 0) ≡ true = grind (arith, nat_tests) in let never : true ≡ false = sym same ∙ here in cc)) (rest there)

-- ---- the words

-- an interpreter and its argument
pub record IsShortLine (line : List ℕ × List ℕ) : Type 0 where
  pub interpreter : length line.0 ≤ 256
  pub argument : length line.1 ≤ 256
  pub interpreter_text : IsText line.0
  pub argument_text : IsText line.1

parted-words : (bytes : List ℕ) (line : List ℕ × List ℕ) → length bytes ≤ 256 → IsText bytes → parted bytes ≡ Some line → IsShortLine line
parted-words [] line short are is = absurd cc
parted-words (b ∷ bytes) line short are is =
    let one : (before is_blank (b ∷ bytes), without_leading_blanks (from_blank (b ∷ bytes))) ≡ line = cc in
    let first = before-short is_blank (b ∷ bytes) in
    let last = leading-short (from_blank (b ∷ bytes)) in
    let rest = from-blank-short (b ∷ bytes) in
    subst IsShortLine one (record {
      interpreter = omega (arith, first, short);
      argument = omega (arith, last, rest, short);
      interpreter_text = before-text is_blank (b ∷ bytes) are;
      argument_text = leading-text (from_blank (b ∷ bytes)) (from-blank-text (b ∷ bytes) are);
    })

pub line-words : (head : List ℕ) (line : List ℕ × List ℕ) → length head ≤ 256 → script_of head ≡ Some line → IsShortLine line
line-words head line short is = cut (is_cut head) is
  where
    words : List ℕ
    words = without_trailing_blanks (without_leading_blanks (line_of head))

    own : length (line_of head) ≤ 256
    own = omega (arith, before-short is_newline (drop 2 head), length-drop 2 head, short)

    words-short : length words ≤ 256
    words-short = omega (arith, trailing-short (without_leading_blanks (line_of head)), leading-short (line_of head), own)

    zeros : (c : Bool) → list_any (λ b. b == 0) (line_of head) ≡ c → cond c None (parted words) ≡ Some line → IsShortLine line
    zeros true none is = absurd cc
    zeros false none is = parted-words words line words-short (trailing-text (without_leading_blanks (line_of head)) (leading-text (line_of head) (no-zero (line_of head) none))) is

    cut : (c : Bool) → cond c None (interpreter_of (line_of head)) ≡ Some line → IsShortLine line
    cut true is = absurd cc
    cut false is = zeros (list_any (λ b. b == 0) (line_of head)) refl is
