-- Keys are read back from their bytes, so no two have the same.
use Rattle.std.proofs.Common.{◌≡◌, ◌∙◌, ℕ, ◌<◌, ◌^◌, Bool, true, false, ◌&&◌, ◌==◌, List, [], ◌∷◌, ◌++◌, length, take, drop, refl, ap, sym, subst, eq-eqb, arith, length-append}
use Rattle.std.specs.Int.{w64, to_le_bytes}
use Rattle.std.specs.Str.{bytes_eq}
use Rattle.std.proofs.lemmas.Bool.{eqb-true}
use Rattle.std.proofs.lemmas.Nat.{from_le_bytes-to_le_bytes_8}
use Rattle.std.proofs.lemmas.Slice.Eq.{bytes_eq-Decides}
use Rattle.pt_bind.specs.pr_base.declared.path.WalkMode.{WalkMode}
use Rattle.pt_bind.specs.pr_base.declared.path.WalkMode.TheVariants as modes
use Rattle.pt_canon.specs.Keys.{IsKeyBytes, key_behind, key_bytes, key_in, mode_of}
use Rattle.pt_canon.specs.Remembering.{Key, key_of, mode_number, same_key}
use Rattle.pt_canon.proofs.SteadyLemmas.{and_first, and_second}

-- ---- read back

mode_read : (mode : WalkMode) → mode_of (mode_number mode) ≡ mode
mode_read modes.Look = refl
mode_read modes.LookLink = refl
mode_read modes.Name = refl
mode_read modes.Open = refl

front_taken : (xs ys : List ℕ) → take (length xs) (xs ++ ys) ≡ xs
front_taken [] ys = refl
front_taken (x ∷ xs) ys = ap (λ rest. x ∷ rest) (front_taken xs ys)

front_dropped : (xs ys : List ℕ) → drop (length xs) (xs ++ ys) ≡ ys
front_dropped [] ys = refl
front_dropped (x ∷ xs) ys = front_dropped xs ys

key_read : (key : Key) → length key.base < 2 ^ 64 → key_in (key_bytes key) ≡ key
unfolding key_in
key_read key fits =
    ap (λ count. key_behind count (mode_number key.mode ∷ key.base ++ key.path)) (from_le_bytes-to_le_bytes_8 (length key.base) fits)
    ∙ (λ i. key_of (front_taken key.base key.path i) (front_dropped key.base key.path i) (mode_read key.mode i))

pub key_found : (bytes : List ℕ) (key : Key) → length key.base < 2 ^ 64 → bytes ≡ key_bytes key → key_in bytes ≡ key
key_found bytes key fits is = ap key_in is ∙ key_read key fits

pub key_kept : (bytes : List ℕ) (key : Key) → length key.base < 2 ^ 64 → bytes ≡ key_bytes key → IsKeyBytes bytes
key_kept bytes key fits is = record { same = is ∙ ap key_bytes (sym (key_found bytes key fits is)) }

-- ---- made

pub key_built : (base path : List ℕ) (mode : WalkMode) (size : List ℕ) (number : ℕ) (bytes : List ℕ) → size ≡ to_le_bytes w64 (length base) → number ≡ mode_number mode
    → bytes ≡ ((size ++ number ∷ []) ++ base) ++ path → bytes ≡ key_bytes (key_of base path mode)
key_built base path mode size number bytes size_is number_is is = is ∙ (λ i. ((size_is i ++ number_is i ∷ []) ++ base) ++ path)

-- the guest text is a part of it
pub base_fits : (base path : List ℕ) (mode : WalkMode) (bytes : List ℕ) → bytes ≡ key_bytes (key_of base path mode) → length bytes < 2 ^ 63 → length base < 2 ^ 64
base_fits base path mode bytes is few =
    let whole : length bytes ≡ length (to_le_bytes w64 (length base) ++ mode_number mode ∷ base ++ path) = ap length is in
    let long = length-append (to_le_bytes w64 (length base)) (mode_number mode ∷ base ++ path) in
    let rest = length-append base path in
    omega (arith, whole, long, rest, few)

-- ---- the test on keys

pub same_is : (a b : Key) → same_key a b ≡ true → a ≡ b
same_is a b same =
    let base = bytes_eq a.base b.base in
    let path = bytes_eq a.path b.path in
    let mode = mode_number a.mode == mode_number b.mode in
    let rest = and_second base (path && mode) same in
    let bases : a.base ≡ b.base = (bytes_eq-Decides a.base b.base).0 (and_first base (path && mode) same) in
    let paths : a.path ≡ b.path = (bytes_eq-Decides a.path b.path).0 (and_first path mode rest) in
    let ways : a.mode ≡ b.mode = sym (mode_read a.mode) ∙ ap mode_of (eqb-true (mode_number a.mode) (mode_number b.mode) (and_second path mode rest)) ∙ mode_read b.mode in
    λ i. key_of (bases i) (paths i) (ways i)

same_self : (a : Key) → same_key a a ≡ true
same_self a =
    let bases = (bytes_eq-Decides a.base a.base).1 refl in
    let paths = (bytes_eq-Decides a.path a.path).1 refl in
    let ways = eq-eqb (mode_number a.mode) (mode_number a.mode) refl in
    λ i. bases i && (paths i && ways i)

both_or_none : (a b : Bool) → (a ≡ true → b ≡ true) → (b ≡ true → a ≡ true) → a ≡ b
both_or_none true b go back = sym (go refl)
both_or_none false true go back = back refl
both_or_none false false go back = refl

-- bytes are those of a key where the keys are the same
pub bytes_tell : (key : Key) (bytes other : List ℕ) → bytes ≡ key_bytes key → key_in bytes ≡ key → IsKeyBytes other → bytes_eq bytes other ≡ same_key key (key_in other)
bytes_tell key bytes other is read kept = both_or_none (bytes_eq bytes other) (same_key key (key_in other)) go back
  where
    go : bytes_eq bytes other ≡ true → same_key key (key_in other) ≡ true
    go equal =
        let keys : key ≡ key_in other = sym read ∙ ap key_in ((bytes_eq-Decides bytes other).0 equal) in
        subst (λ k. same_key key k ≡ true) keys (same_self key)

    back : same_key key (key_in other) ≡ true → bytes_eq bytes other ≡ true
    back same = (bytes_eq-Decides bytes other).1 (is ∙ ap key_bytes (same_is key (key_in other) same) ∙ sym kept.same)
