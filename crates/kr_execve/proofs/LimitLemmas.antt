-- A program that is planned has no more arguments than the loader takes.
use Rattle.std.proofs.Common.{◌≡◌, ℕ, ◌+◌, Bool, true, false, ◌||◌, List, [], ◌∷◌, length, length-append, refl, ap, ◌∙◌, arith}
use Rattle.std.specs.Prelude.{nat_lt}
use Rattle.elf_load.specs.FirstStack.{exceeds_arguments, text_bytes, texts_size}
use Rattle.kr_exec.specs.kr_calls.Expansion.{bytes_with_ends}
use Rattle.kr_exec.specs.Exec.{are_too_big}

bytes-of-texts : (ts : List (List ℕ)) → bytes_with_ends ts ≡ length (text_bytes ts)
bytes-of-texts [] = refl
bytes-of-texts (t ∷ ts) = let rest = bytes-of-texts ts in let all = length-append t (0 ∷ text_bytes ts) in omega arith

swapped : (a b c : Bool) → (a || (b || c)) ≡ ((b || a) || c)
swapped true true c = refl
swapped true false c = refl
swapped false true c = refl
swapped false false c = refl

-- both name the limits of execve(2)
pub exceeds-too-big : (args env : List (List ℕ)) → are_too_big args env ≡ exceeds_arguments args env
exceeds-too-big args env =
    let one = bytes-of-texts args in
    let other = bytes-of-texts env in
    let same : bytes_with_ends args + bytes_with_ends env ≡ texts_size args env = omega arith in
    swapped (nat_lt 4096 (length env)) (nat_lt 4096 (length args)) (nat_lt 131072 (bytes_with_ends args + bytes_with_ends env))
    ∙ ap (λ n. (nat_lt 4096 (length args) || nat_lt 4096 (length env)) || nat_lt 131072 n) same
