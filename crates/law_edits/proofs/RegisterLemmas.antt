-- The registers of paths are a0 to a3.
use Rattle.std.proofs.Common.{◌≡◌, ◌≢◌, ℕ, ◌+◌, ◌≤◌, Bool, true, false, ◌&&◌, cond, List, [], ◌∷◌, Some, None, refl, arith, subst}
use Rattle.std.specs.Prelude.{◌==◌, nat_le}
use Rattle.std.specs.List.{list_all}
use Rattle.std.specs.Option.{option_map}
use Rattle.std.proofs.lemmas.Bool.Decides.{nat_tests}
use Rattle.law_walks.specs.kr_calls.CallTable.{line, paths_of}
use Rattle.law_walks.specs.kr_calls.PathTable.{PathUse, path_from}
use Rattle.law_walks.specs.kr_calls.declared.request.Request.{Request}
use Rattle.law_walks.specs.kr_calls.declared.request.Request.TheVariants as call
use Rattle.law_edits.specs.Requests.{path_register}

abbrev pub IsArgument : ℕ → Type 0
IsArgument k = (10 ≤ k) × (k ≤ 13)

abbrev is_argument : ℕ → Bool
is_argument k = nat_le 10 k && nat_le k 13

abbrev are_arguments : List PathUse → Bool
are_arguments us = list_all (λ (u : PathUse). is_argument u.register) us

-- each line of the table has such registers
lines_in : (r : Request) → are_arguments (paths_of (line r).told) ≡ true
lines_in (call.Dup fd) = refl
lines_in _ = refl

both_true : (a b : Bool) → (a && b) ≡ true → (a ≡ true) × (b ≡ true)
both_true true b e = (refl, e)
both_true false b e = absurd cc

tested_in : (k : ℕ) → is_argument k ≡ true → IsArgument k
tested_in k is = let parts = both_true (nat_le 10 k) (nat_le k 13) is in (at_least parts.0, at_most parts.1)
  where
    at_least : nat_le 10 k ≡ true → 10 ≤ k
    at_least e = grind (arith, nat_tests)

    at_most : nat_le k 13 ≡ true → k ≤ 13
    at_most e = grind (arith, nat_tests)

some_in : (k register : ℕ) → IsArgument k → Some k ≡ Some register → IsArgument register
some_in k register within e = subst IsArgument (let same : k ≡ register = cc in same) within

all_in : (us : List PathUse) → are_arguments us ≡ true → (i k register : ℕ) → option_map (λ (u : PathUse). u.register) (path_from i us k) ≡ Some register → IsArgument register
all_in [] are i k register e = absurd cc
all_in (u ∷ us) are i k register e = let parts = both_true (is_argument u.register) (are_arguments us) are in by (tested_in u.register parts.0) (all_in us parts.1 (i + 1) k register) (k == i) e
  where
    by : IsArgument u.register → (option_map (λ (u : PathUse). u.register) (path_from (i + 1) us k) ≡ Some register → IsArgument register)
        → (b : Bool) → option_map (λ (u : PathUse). u.register) (cond b (Some u) (path_from (i + 1) us k)) ≡ Some register → IsArgument register
    by own later true e = some_in u.register register own e
    by own later false e = later e

pub path_registers : (r : Request) (k register : ℕ) → path_register r k ≡ Some register → IsArgument register
path_registers r k register e = all_in (paths_of (line r).told) (lines_in r) 0 k register e

-- those of two paths are two
pub registers_apart : (r : Request) (one two : ℕ) → path_register r 0 ≡ Some one → path_register r 1 ≡ Some two → one ≢ two
registers_apart (call.Linkat olddir old newdir new flags) one two first second same = by one two first second same
  where
    by : (one two : ℕ) → Some 11 ≡ Some one → Some 13 ≡ Some two → one ≢ two
    by one two first second same = let a : 11 ≡ one = cc in let b : 13 ≡ two = cc in let h : ⊥ = omega (arith, a, b, same) in h
registers_apart (call.Renameat2 olddir old newdir new) one two first second same = by one two first second same
  where
    by : (one two : ℕ) → Some 11 ≡ Some one → Some 13 ≡ Some two → one ≢ two
    by one two first second same = let a : 11 ≡ one = cc in let b : 13 ≡ two = cc in let h : ⊥ = omega (arith, a, b, same) in h
registers_apart _ one two first second same = never second
  where
    never : None ≡ Some two → ⊥
    never e = cc
