-- Lists of bytes: what is cut out of them, put together and written of numbers stays one.
use Rattle.std.proofs.Common.{◌≡◌, ℕ, zero, suc, ◌<◌, Bool, true, false, cond, List, [], ◌∷◌, ◌++◌, take, drop, replicate, Some, arith, refl, subst, ◌&&◌, ◌/◌, ◌^◌}
use Rattle.std.specs.Prelude.{nat_lt, slice_get, slice_set}
use Rattle.std.specs.Fmt.{decimal}
use Rattle.std.specs.Int.{Width, byte_at, byte_len, bytes_low_first, to_le_bytes}
use Rattle.std.specs.List.{AllByRecursion, filter, find, list_all}
use Rattle.std.proofs.Math.Seq.{sets}
use Rattle.std.proofs.lemmas.Bool.Decides.{nat_tests}
use Rattle.std.proofs.lemmas.List.Elements.{All-drop, All-from_recursion, All-take, recursion_from_All}
use Rattle.kr_first.specs.kr_tree.Lawful.{AreBytes}
use Rattle.kr_first.proofs.law_allowed.PieceLemmas.{all-append}
use Rattle.kr_first.proofs.kr_perform.TextLemmas.{bytes_of_text, decimal_text}

-- ---- what holds of each element

module _ {A : Type 0} (P : A → Type 0) where
  pub all-take : (n : ℕ) (xs : List A) → AllByRecursion P xs → AllByRecursion P (take n xs)
  all-take n xs all = recursion_from_All P (take n xs) (All-take P n xs (All-from_recursion P xs all))

  pub all-drop : (n : ℕ) (xs : List A) → AllByRecursion P xs → AllByRecursion P (drop n xs)
  all-drop n xs all = recursion_from_All P (drop n xs) (All-drop P n xs (All-from_recursion P xs all))

  pub all-found : (test : A → Bool) (xs : List A) (x : A) → AllByRecursion P xs → find test xs ≡ Some x → P x
  all-found test [] x all e = absurd cc
  all-found test (y ∷ ys) x all e = by (test y) (all-found test ys x all.1) e
    where
      by : (b : Bool) → (find test ys ≡ Some x → P x) → cond b (Some y) (find test ys) ≡ Some x → P x
      by true more e = one y all.0 e
        where
          one : (y : A) → P y → Some y ≡ Some x → P x
          one y own e = let same : y ≡ x = cc in subst P same own
      by false more e = more e

  pub all-at : (xs : List A) (k : ℕ) (x : A) → AllByRecursion P xs → slice_get xs k ≡ Some x → P x
  all-at [] k x all e = absurd cc
  all-at (y ∷ ys) zero x all e = let same : y ≡ x = cc in subst P same all.0
  all-at (y ∷ ys) (suc k) x all e = all-at ys k x all.1 e

  pub all-passed : (test : A → Bool) (xs : List A) → AllByRecursion P xs → AllByRecursion P (filter test xs)
  all-passed test [] all = tt
  all-passed test (x ∷ xs) all = by (test x) (all-passed test xs all.1)
    where
      by : (b : Bool) → AllByRecursion P (filter test xs) → AllByRecursion P (cond b (x ∷ filter test xs) (filter test xs))
      by true rest = (all.0, rest)
      by false rest = rest

-- ---- bytes

pub joined : (xs ys : List ℕ) → AreBytes xs → AreBytes ys → AreBytes (xs ++ ys)
joined xs ys first second = all-append (λ b. b < 256) xs ys first second

pub six-joined : (a b c d e f : List ℕ) → AreBytes a → AreBytes b → AreBytes c → AreBytes d → AreBytes e → AreBytes f → AreBytes (a ++ b ++ c ++ d ++ e ++ f)
six-joined a b c d e f one two three four five six =
    joined (a ++ b ++ c ++ d ++ e) f (joined (a ++ b ++ c ++ d) e (joined (a ++ b ++ c) d (joined (a ++ b) c (joined a b one two) three) four) five) six

pub first-of : (n : ℕ) (xs : List ℕ) → AreBytes xs → AreBytes (take n xs)
first-of n xs are = all-take (λ b. b < 256) n xs are

pub rest-of : (n : ℕ) (xs : List ℕ) → AreBytes xs → AreBytes (drop n xs)
rest-of n xs are = all-drop (λ b. b < 256) n xs are

pub zeros : (n : ℕ) → AreBytes (replicate n 0)
zeros zero = tt
zeros (suc n) = (omega arith, zeros n)

pub byte-set : (bytes : List ℕ) (i b : ℕ) → b < 256 → AreBytes bytes → AreBytes (slice_set bytes i b)
byte-set [] i b small are = tt
byte-set (x ∷ bytes) zero b small are = (small, are.1)
byte-set (x ∷ bytes) (suc i) b small are = (are.0, byte-set bytes i b small are.1)

pub bytes-laid : (bytes : List ℕ) (i : ℕ) (bs : List ℕ) → AreBytes bs → AreBytes bytes → AreBytes (sets bytes i bs)
bytes-laid bytes i [] new are = are
bytes-laid bytes i (b ∷ bs) new are = bytes-laid (slice_set bytes i b) (suc i) bs new.1 (byte-set bytes i b new.0 are)

-- bytes that are told
pub bytes-tested : (bytes : List ℕ) → list_all (λ b. nat_lt b 256) bytes ≡ true → AreBytes bytes
bytes-tested [] e = tt
bytes-tested (b ∷ bytes) e = by (nat_lt b 256) refl (bytes-tested bytes) e
  where
    by : (c : Bool) → nat_lt b 256 ≡ c → (list_all (λ b. nat_lt b 256) bytes ≡ true → AreBytes bytes) → (c && list_all (λ b. nat_lt b 256) bytes) ≡ true → AreBytes (b ∷ bytes)
    by true one rest e = (grind (arith, nat_tests), rest e)
    by false one rest e = absurd cc

-- ---- numbers as bytes

lowest-byte : (i n : ℕ) → byte_at i n < 256
lowest-byte zero n = omega arith
lowest-byte (suc i) n = let q : ℕ = n / 256 ^ suc i in omega arith

pub number-bytes : (i k n : ℕ) → AreBytes (bytes_low_first i k n)
number-bytes i zero n = tt
number-bytes i (suc k) n = (lowest-byte i n, number-bytes (suc i) k n)

pub word-bytes : (w : Width) (n : ℕ) → AreBytes (to_le_bytes w n)
word-bytes w n = number-bytes 0 (byte_len w) n

pub decimal-bytes : (n : ℕ) → AreBytes (decimal n)
decimal-bytes n = bytes_of_text (decimal n) (decimal_text n)
