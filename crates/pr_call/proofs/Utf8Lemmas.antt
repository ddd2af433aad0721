-- The bytes of a text are bytes: those of UTF-8 are at most 255.
use Rattle.std.proofs.Common.{inl, inr, ◌≡◌, ◌<◌, ◌+◌, ◌/◌, ◌%◌, ◌++◌, ℕ, Bool, true, false, List, [], ◌∷◌, map, refl, subst, arith}
use Rattle.std.specs.Prelude.{String, cond, nat_lt}
use Rattle.std.specs.List.{AllByRecursion}
use Rattle.std.specs.Str.{IsUtf8}
use Rattle.std.specs.String.{string_bytes}
use Rattle.std.proofs.Math.Utf8.{encode, encodes, scalar, scalars, scalar_cases}
use Rattle.std.proofs.lemmas.Bool.{and_parts, ltb-true}
use Rattle.std.proofs.lemmas.Str.{IsUtf8-string_bytes}
use Rattle.law_loosely.specs.law_machines.kr_tree.Lawful.{AreBytes}

joined : (one two : List ℕ) → AreBytes one → AreBytes two → AreBytes (one ++ two)
joined [] two are also = also
joined (b ∷ one) two are also = (are.0, joined one two are.1 also)

encode-bytes : (c : ℕ) → c < 1114112 → AreBytes (encode c)
unfolding encode
encode-bytes c small = by (nat_lt c 128) (nat_lt c 2048) (nat_lt c 65536) refl refl refl
  where
    by : (x y z : Bool) → nat_lt c 128 ≡ x → nat_lt c 2048 ≡ y → nat_lt c 65536 ≡ z
        → AreBytes (cond x (c ∷ []) (cond y ((192 + c / 64) ∷ (128 + c % 64) ∷ []) (cond z ((224 + c / 4096) ∷ (128 + (c / 64) % 64) ∷ (128 + c % 64) ∷ []) ((240 + c / 262144) ∷ (128 + (c / 4096) % 64) ∷ (128 + (c / 64) % 64) ∷ (128 + c % 64) ∷ []))))
    by true y z e f g = let less = ltb-true c 128 e in (omega (arith, less), tt)
    by false true z e f g = let less = ltb-true c 2048 f in (omega (arith, less), (omega arith, tt))
    by false false true e f g = let less = ltb-true c 65536 g in (omega (arith, less), (omega arith, (omega arith, tt)))
    by false false false e f g = (omega (arith, small), (omega arith, (omega arith, (omega arith, tt))))

scalar-small : (c : ℕ) → scalar c ≡ true → c < 1114112
scalar-small c e = elim (scalar_cases c e) [
  | inl low ↦ omega (arith, low)
  | inr high ↦ high.1
]

encodes-bytes : (cs : List ℕ) → scalars cs ≡ true → AreBytes (encodes cs)
encodes-bytes [] e = tt
encodes-bytes (c ∷ cs) e = let are = and_parts (scalar c) (scalars cs) e in joined (encode c) (encodes cs) (encode-bytes c (scalar-small c are.0)) (encodes-bytes cs are.1)

utf8-bytes : (bytes : List ℕ) → IsUtf8 bytes → AreBytes bytes
utf8-bytes bytes is = subst AreBytes is.1.1 (encodes-bytes is.0 is.1.0)

pub words-bytes : {Z : Type 0} (words : List (String Z)) → AllByRecursion AreBytes (map string_bytes words)
words-bytes [] = tt
words-bytes (word ∷ words) = (utf8-bytes (string_bytes word) (IsUtf8-string_bytes word), words-bytes words)
