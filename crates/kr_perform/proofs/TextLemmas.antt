-- The components of texts, and the number of a process as a text.
use Rattle.std.proofs.Common.{◌≢◌, ℕ, ◌<◌, ◌≤◌, zero, suc, ◌+◌, ◌/◌, ◌%◌, Bool, true, false, ◌==◌, cond, List, [], ◌∷◌, map, nat_lt, refl, ◌≡◌, arith}
use Rattle.std.proofs.lemmas.Bool.Decides.{nat_tests}
use Rattle.std.specs.Bool.{if◌then◌else◌}
use Rattle.std.specs.Fmt.{decimal, digit_glyph, digits_onto, digits}
use Rattle.std.specs.List.{All, AllByRecursion, slice_split, onto_first}
use Rattle.std.specs.Str.{bytes_eq}
use Rattle.std.proofs.lemmas.List.Elements.{All-cons, All-nil, All-head, All-tail, recursion_from_All}
use Rattle.law_allowed.specs.pr_base.Paths.{Component, Dot, DotDot, Name, IsComponent, component_of, components_of, dot, dot_dot, is_slash, not_empty, parts_of}
use Rattle.law_allowed.specs.pr_base.WalkFrame.{name_of}
use Rattle.law_allowed.proofs.pr_base.PathLemmas.{paths_have_components}
use Rattle.law_allowed.specs.kr_tree.Lawful.{AreBytes}
use Rattle.law_allowed.specs.Texts.{IsText}
use Rattle.kr_perform.proofs.EndingLemmas.{HasLast}

-- ---- components

-- what holds of all bytes of a path holds of all those of its components
module _ (P : ℕ → Type 0) where
  onto_first_each : (b : ℕ) (pieces : List (List ℕ)) → P b → AllByRecursion (All P) pieces → AllByRecursion (All P) (onto_first b pieces)
  onto_first_each b [] own h = (All-cons P b [] own (All-nil P), tt)
  onto_first_each b (piece ∷ pieces) own h = (All-cons P b piece own h.0, h.1)

  pieces_each : (path : List ℕ) → All P path → AllByRecursion (All P) (slice_split is_slash path)
  pieces_each [] is = (All-nil P, tt)
  pieces_each (b ∷ path) is = by (is_slash b) (pieces_each path (All-tail P b path is))
    where
      by : (c : Bool) → AllByRecursion (All P) (slice_split is_slash path) → AllByRecursion (All P) (cond c ([] ∷ slice_split is_slash path) (onto_first b (slice_split is_slash path)))
      by true h = (All-nil P, h)
      by false h = onto_first_each b (slice_split is_slash path) (All-head P b path is) h

  some_each : (pieces : List (List ℕ)) → AllByRecursion (All P) pieces → AllByRecursion (All P) (not_empty pieces)
  some_each [] h = tt
  some_each ([] ∷ pieces) h = some_each pieces h.1
  some_each ((b ∷ piece) ∷ pieces) h = (h.0, some_each pieces h.1)

  -- a component of such a path
  abbrev pub IsPartWith : Component → Type 0
  IsPartWith c = IsComponent c × All P (name_of c)

  name_each : (part : List ℕ) → All P part → All P (name_of (component_of part))
  name_each part is = one (bytes_eq part dot)
    where
      two : (b : Bool) → All P (name_of (if b then DotDot else Name part))
      two true = All-nil P
      two false = is

      one : (b : Bool) → All P (name_of (if b then Dot else if bytes_eq part dot_dot then DotDot else Name part))
      one true = All-nil P
      one false = two (bytes_eq part dot_dot)

  last_part : (parts : List (List ℕ)) → AllByRecursion IsComponent (map component_of parts) → AllByRecursion (All P) parts → HasLast IsPartWith (map component_of parts)
  last_part [] components each = tt
  last_part (part ∷ []) components each = (components.0, name_each part each.0)
  last_part (part ∷ next ∷ parts) components each = last_part (next ∷ parts) components.1 each.1

  pub path_ends : (path : List ℕ) → All P path → HasLast IsPartWith (components_of path)
  path_ends path is =
      last_part (parts_of path) (recursion_from_All IsComponent (components_of path) (paths_have_components path)) (some_each (slice_split is_slash path) (pieces_each path is))

-- a component of a text
abbrev pub IsTextPart : Component → Type 0
IsTextPart c = IsPartWith (λ b. b ≢ 0) c

-- the last component of a text is one of a text
pub text_ends : (path : List ℕ) → IsText path → HasLast IsTextPart (components_of path)
text_ends path is = path_ends (λ b. b ≢ 0) path is

-- ---- bytes of texts

abbrev pub IsTextByte : ℕ → Type 0
IsTextByte b = (b ≢ 0) × (b < 256)

pub text_bytes : (bytes : List ℕ) → IsText bytes → AreBytes bytes → All IsTextByte bytes
text_bytes [] text bytes = All-nil IsTextByte
text_bytes (b ∷ rest) text bytes = All-cons IsTextByte b rest (All-head (λ b. b ≢ 0) b rest text, bytes.0) (text_bytes rest (All-tail (λ b. b ≢ 0) b rest text) bytes.1)

pub bytes_of_text : (bytes : List ℕ) → All IsTextByte bytes → AreBytes bytes
bytes_of_text [] each = tt
bytes_of_text (b ∷ rest) each = ((All-head IsTextByte b rest each).1, bytes_of_text rest (All-tail IsTextByte b rest each))

-- ---- numbers

glyph_byte : (d : ℕ) → d < 10 → IsTextByte (digit_glyph false d)
glyph_byte d small = by (nat_lt d 10) refl
  where
    by : (b : Bool) → nat_lt d 10 ≡ b → IsTextByte (if b then 48 + d else 87 + d)
    by true e = (λ e. omega arith, omega arith)
    by false e = let clash : 10 ≤ d = grind (arith, nat_tests) in absurd (omega arith)

onto_bytes : (k n : ℕ) (acc : List ℕ) → All IsTextByte acc → All IsTextByte (digits_onto k 10 false n acc)
onto_bytes zero n acc is = is
onto_bytes (suc k) n acc is =
    let more : All IsTextByte (digit_glyph false (n % 10) ∷ acc) = All-cons IsTextByte (digit_glyph false (n % 10)) acc (glyph_byte (n % 10) (omega arith)) is in
    by (n / 10 == 0) (digit_glyph false (n % 10) ∷ acc) (digits_onto k 10 false (n / 10) (digit_glyph false (n % 10) ∷ acc)) more (onto_bytes k (n / 10) (digit_glyph false (n % 10) ∷ acc) more)
  where
    by : (b : Bool) (xs ys : List ℕ) → All IsTextByte xs → All IsTextByte ys → All IsTextByte (if b then xs else ys)
    by true xs ys p q = p
    by false xs ys p q = q

-- the digits of a number are a text of bytes
pub decimal_text : (n : ℕ) → All IsTextByte (decimal n)
unfolding digits
decimal_text n = onto_bytes 64 n [] (All-nil IsTextByte)
