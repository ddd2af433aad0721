-- A caller that is told an error of its execve(2) doesn't read 0, so no new program begins.
use Rattle.std.proofs.Common.{◌≡◌, ◌<◌, ◌≤◌, ℕ, zero, suc, Bool, true, false, List, [], ◌∷◌, length, nat_lt, get_or, refl, sym, ap, ◌∙◌, arith, Ok}
use Rattle.std.specs.Prelude.{◌==◌, slice_set}
use Rattle.std.proofs.lemmas.Bool.{ltb-false, ltb-true}
use Rattle.law_programs.specs.pr_base.declared.errno.Errno.{Errno}
use Rattle.law_programs.specs.pr_base.declared.errno.Errno.TheVariants.{ENOSYS}
use Rattle.law_programs.specs.rv_mem.Actions.{carried_out}
use Rattle.law_programs.specs.rv_mem.Memory.{Memory}
use Rattle.law_programs.specs.rv_mem.declared.regs.Regs.{Regs}
use Rattle.law_stops.specs.kr_calls.Arguments.{number}
use Rattle.law_stops.specs.kr_calls.Decoding.{decoding}
use Rattle.law_stops.specs.kr_calls.declared.request.Request.TheVariants as call
use Rattle.law_plans.specs.kr_calm.Shelf.{has_path}
use Rattle.law_stops.specs.pt_ident.Identity.{refusal}
use Rattle.law_stops.specs.pt_faker.Faking.{word_of}
use Rattle.law_stops.proofs.law_edits.NumberLemmas.{paths_have_numbers}
use Rattle.law_stops.proofs.RegisterLemmas.{put_there}

-- an error is no 0
pub nonzero : (e : Errno) → word_of (refusal e) == 0 ≡ false
nonzero ENOSYS = refl
nonzero _ = refl

-- nor is it read as such, where there is a register for it
pub told_no_zero : (registers : List ℕ) (e : Errno) → 10 < length registers → get_or (slice_set registers 10 (word_of (refusal e))) 10 0 == 0 ≡ false
told_no_zero registers e many = ap (λ word. word == 0) (put_there registers 10 (word_of (refusal e)) many) ∙ nonzero e

-- a register that isn't there reads as 0
beyond : (xs : List ℕ) (k : ℕ) → length xs ≤ k → get_or xs k 0 ≡ 0
beyond [] k within = refl
beyond (x ∷ xs) zero within = absurd (omega arith)
beyond (x ∷ xs) (suc k) within = beyond xs k (omega arith)

-- the number of a call is in a register, so where that is an execve's, there is one for its answer
pub has_answer : (regs : Regs) (memory : Memory) (path : List ℕ) (args env : ℕ) → (carried_out (decoding regs) memory).reply ≡ Ok (call.Execve path args env) → 10 < length regs.x
has_answer regs memory path args env reads = by (nat_lt 10 (length regs.x)) refl
  where
    numbered : has_path (number regs) ≡ true
    numbered = paths_have_numbers regs memory (call.Execve path args env) 0 _ reads refl

    none : length regs.x ≤ 10 → number regs ≡ 0
    none few = beyond regs.x 17 (omega (arith, few))

    never : has_path 0 ≡ true → ⊥
    never e = cc

    by : (b : Bool) → nat_lt 10 (length regs.x) ≡ b → 10 < length regs.x
    by true is = ltb-true 10 (length regs.x) is
    by false is = absurd (never (sym (ap has_path (none (ltb-false 10 (length regs.x) is))) ∙ numbered))
