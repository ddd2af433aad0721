-- The instruction that stands at the pc is the one that is executed.
use Rattle.std.proofs.Common.{◌≡◌, ℕ, ◌%◌, ◌<◌, ◌^◌, Bool, true, false, ◌||◌, List, [], ◌∷◌, Some, refl, ap, ◌∙◌, arith, eq-eqb}
use Rattle.std.specs.Prelude.{Option}
use Rattle.std.specs.Int.{to_le_bytes, w32}
use Rattle.rv_asm.specs.pr_base.Fields.{little_endian}
use Rattle.rv_asm.specs.rv_table.declared.instr.Instr.{Instr}
use Rattle.rv_asm.specs.rv_table.Rows.{decoded}
use Rattle.rv_asm.specs.rv_table.Encoding.{IsValid, encoded}
use Rattle.rv_asm.proofs.rv_table.RoundTrip.{encoded-there}
use Rattle.rv_cpu.specs.rv_mem.declared.regs.Regs.{Regs}
use Rattle.rv_cpu.specs.rv_mem.declared.rights.Use.TheVariants.{Execute}
use Rattle.rv_cpu.specs.rv_mem.Pages.{allows_all, bytes_from, any_marked}
use Rattle.rv_cpu.specs.rv_mem.Memory.{Memory, after_read}
use Rattle.rv_cpu.specs.rv_mem.Actions.{carried_out, read_if_allowed}
use Rattle.rv_cpu.specs.declared.reservation.Held.{Held}
use Rattle.rv_cpu.specs.Step.{holds, kills, executed, executed_word, step}
use Rattle.rv_loops.proofs.Carried.{met, read_is}
use Rattle.rv_asm.specs.Assembly.{word}

or_false : (b : Bool) → (b || false) ≡ b
or_false true = refl
or_false false = refl

little_endian-bytes : (n : ℕ) → n < 2 ^ 32 → little_endian (to_le_bytes w32 n) ≡ n
little_endian-bytes n fits = omega arith

pub fetched : (s : Regs) (held : Option Held) (m : Memory) (i : Instr) → s.pc % 4 ≡ 0 → allows_all m.pages s.pc 4 Execute ≡ true
    → bytes_from m.pages s.pc 4 ≡ word i → any_marked m.pages s.pc 4 ≡ false → IsValid i
    → carried_out (step s held) m ≡ carried_out (executed s held i) m
fetched s held m i start allowed stands unmarked valid =
    let there = encoded-there i valid in
    let read : decoded (little_endian (bytes_from m.pages s.pc 4)) ≡ Some i =
    ap (λ bytes. decoded (little_endian bytes)) stands ∙ ap decoded (little_endian-bytes (encoded i) there.0) ∙ there.1 in
    let unread : after_read m s.pc 4 ≡ m =
    ap (λ b. record { pages = m.pages; read_marked = m.read_marked || b }) unmarked ∙ ap (λ b. record { pages = m.pages; read_marked = b }) (or_false m.read_marked) in
    let next = λ (bytes : List ℕ). executed_word s held (decoded (little_endian bytes)) in
    met (eq-eqb _ _ start) (read_if_allowed s.pc 4 (Execute ∷ []) (holds held (kills 11 s)) next) (holds held (kills 7 s)) m
    ∙ read_is m s.pc 4 (Execute ∷ []) (holds held (kills 11 s)) next allowed
    ∙ ap (λ o. carried_out (executed_word s held o) (after_read m s.pc 4)) read
    ∙ ap (carried_out (executed s held i)) unread
