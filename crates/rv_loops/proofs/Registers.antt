-- Registers that were set.
use Rattle.std.proofs.Common.{◌≡◌, ◌≢◌, ℕ, ◌<◌, length, sym, ap, refl, ne_eqb}
use Rattle.std.specs.Prelude.{◌==◌, if◌then◌else◌, slice_set}
use Rattle.std.proofs.lemmas.List.{get_or-set_same, get_or-set_other}
use Rattle.rv_cpu.specs.rv_mem.declared.regs.Regs.{Regs}
use Rattle.rv_cpu.specs.Step.{register, with_register}

-- a register other than register 0 set
abbrev pub set_register : Regs → ℕ → ℕ → Regs
set_register s r value = record s { x = slice_set s.x r value }

pub with_register-set : (s : Regs) (r value : ℕ) → 0 ≢ r → with_register s r value ≡ set_register s r value
with_register-set s r value some = rw (ne_eqb r 0 (λ e. some (sym e))) refl

pub register-set_same : (s : Regs) (r value : ℕ) → 0 ≢ r → r < length s.x → register (set_register s r value) r ≡ value
register-set_same s r value some there = rw (ne_eqb r 0 (λ e. some (sym e))) (get_or-set_same s.x r value 0 there)

pub register-set_other : (s : Regs) (r value k : ℕ) → k ≢ r → register (set_register s r value) k ≡ register s k
register-set_other s r value k other = ap (λ n. if k == 0 then 0 else n) (get_or-set_other s.x r k value 0 other)
