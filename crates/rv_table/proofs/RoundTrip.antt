-- The table there and back: the word of an instruction is decoded to it, and an instruction that was
-- decoded has the word that it came from.
use Rattle.std.proofs.Common.{◌≡◌, ℕ, zero, suc, ◌+◌, ◌<◌, ◌^◌, List, [], ◌∷◌, length, bit_and, Some, refl, sym, ap, ◌∙◌, arith, lit<, inl, inr}
use Rattle.std.specs.Prelude.{ℤ, slice_index_or, ◌⊎◌, ◌↔◌, Option, None, IfSome}
use Rattle.rv_table.specs.declared.layout.Operands.TheVariants.{Register, Immediate, Store, Branch, Upper, Jump, Shift, WordShift, Fixed, Atomic, Reserve}
use Rattle.rv_table.specs.declared.instr.Instr.{Instr}
use Rattle.rv_table.specs.declared.instr.Instr.TheVariants.{Lb, Lh, Lw, Ld, Lbu, Lhu, Lwu, Fence, Addi, Slti, Sltiu, Xori, Ori, Andi, Slli, Srli, Srai, Auipc, Addiw, Slliw, Srliw, Sraiw, Sb, Sh, Sw, Sd, Add, Sub, Sll, Slt, Sltu, Xor, Srl, Sra, Or, And, Mul, Mulh, Mulhsu, Mulhu, Div, Divu, Rem, Remu, Lui, Addw, Subw, Sllw, Srlw, Sraw, Mulw, Divw, Divuw, Remw, Remuw, Beq, Bne, Blt, Bge, Bltu, Bgeu, Jalr, Jal, Ecall, Ebreak, LrW, LrD, ScW, ScD, AmoswapW, AmoswapD, AmoaddW, AmoaddD, AmoxorW, AmoxorD, AmoandW, AmoandD, AmoorW, AmoorD, AmominW, AmominD, AmomaxW, AmomaxD, AmominuW, AmominuD, AmomaxuW, AmomaxuD}
use Rattle.rv_table.specs.Rows.{Format, R, I, S, B, U, J, Shift6, Shift5, Plain, Amo, Lr, Row, row, rows, Matches, instruction, decoded, rd_of, rs1_of, rs2_of, i_immediate, s_immediate, b_immediate, u_immediate, j_immediate, shift_amount, word_shift_amount, order_of}
use Rattle.rv_table.specs.Encoding.{layout, layout_of, encoded, placed, IsValid}
use Rattle.std.proofs.lemmas.Nat.{and_le_r}
use Rattle.rv_table.proofs.Masks.{and-word}
use Rattle.rv_table.proofs.Matching.{decoded-match, decoded-carries}
use Rattle.rv_table.proofs.Formats.{Register-there, Register-back, Immediate-there, Immediate-back, Store-there, Store-back, Branch-there, Branch-back, Upper-there, Upper-back, Jump-there, Jump-back, Shift-there, Shift-back, WordShift-there, WordShift-back, Atomic-there, Atomic-back, Reserve-there, Reserve-back}

-- a row has its format's mask, no other fixed bits, and the layout of its instructions
abbrev IsLaidOut : ℕ → ℕ → Format → Type 0
IsLaidOut m v (R make) =
    (m ≡ 0xfe00707f) × (bit_and v 0xfe00707f ≡ v) × ((rd rs1 rs2 : ℕ) → layout_of (make rd rs1 rs2) ≡ layout v (Register rd rs1 rs2))
IsLaidOut m v (I make) =
    (m ≡ 0x0000707f) × (bit_and v 0x0000707f ≡ v) × ((rd rs1 : ℕ) (imm : ℤ) → layout_of (make rd rs1 imm) ≡ layout v (Immediate rd rs1 imm))
IsLaidOut m v (S make) =
    (m ≡ 0x0000707f) × (bit_and v 0x0000707f ≡ v) × ((rs1 rs2 : ℕ) (imm : ℤ) → layout_of (make rs1 rs2 imm) ≡ layout v (Store rs1 rs2 imm))
IsLaidOut m v (B make) =
    (m ≡ 0x0000707f) × (bit_and v 0x0000707f ≡ v) × ((rs1 rs2 : ℕ) (imm : ℤ) → layout_of (make rs1 rs2 imm) ≡ layout v (Branch rs1 rs2 imm))
IsLaidOut m v (U make) =
    (m ≡ 0x0000007f) × (bit_and v 0x0000007f ≡ v) × ((rd : ℕ) (imm : ℤ) → layout_of (make rd imm) ≡ layout v (Upper rd imm))
IsLaidOut m v (J make) =
    (m ≡ 0x0000007f) × (bit_and v 0x0000007f ≡ v) × ((rd : ℕ) (imm : ℤ) → layout_of (make rd imm) ≡ layout v (Jump rd imm))
IsLaidOut m v (Shift6 make) =
    (m ≡ 0xfc00707f) × (bit_and v 0xfc00707f ≡ v) × ((rd rs1 : ℕ) (imm : ℤ) → layout_of (make rd rs1 imm) ≡ layout v (Shift rd rs1 imm))
IsLaidOut m v (Shift5 make) =
    (m ≡ 0xfe00707f) × (bit_and v 0xfe00707f ≡ v) × ((rd rs1 : ℕ) (imm : ℤ) → layout_of (make rd rs1 imm) ≡ layout v (WordShift rd rs1 imm))
IsLaidOut m v (Plain i) =
    (layout_of i ≡ layout (layout_of i).fixed Fixed) × (bit_and (layout_of i).fixed m ≡ v)
    × (bit_and (layout_of i).fixed 0xffffffff ≡ (layout_of i).fixed) × ((m ≡ 0xffffffff) ⊎ (i ≡ Fence))
IsLaidOut m v (Amo make) =
    (m ≡ 0xf800707f) × (bit_and v 0xf800707f ≡ v)
    × ((rd rs1 rs2 order : ℕ) → layout_of (make rd rs1 rs2 order) ≡ layout v (Atomic rd rs1 rs2 order))
IsLaidOut m v (Lr make) =
    (m ≡ 0xf9f0707f) × (bit_and v 0xf800707f ≡ v)
    × ((rd rs1 order : ℕ) → layout_of (make rd rs1 order) ≡ layout v (Reserve rd rs1 order))

abbrev Each : (Row → Type 0) → List Row → Type 0
Each P [] = Unit {0}
Each P (r ∷ rs) = P r × Each P rs

Each-at : (P : Row → Type 0) (rs : List Row) → Each P rs → (k : ℕ) (d : Row) → k < length rs → P (slice_index_or rs k d)
Each-at P [] each k d h = absurd (omega arith)
Each-at P (r ∷ rs) each zero d h = each.0
Each-at P (r ∷ rs) each (suc k) d h = Each-at P rs each.1 k d (omega arith)

infixr 5 ◌and◌
◌and◌ : {A B : Type 0} → A → B → A × B
a and b = (a, b)

rows_are_laid_out : Each (λ r. IsLaidOut r.mask r.value r.format) rows
rows_are_laid_out =
    -- opcode 03
    (refl, refl, λ rd rs1 imm. refl) and
    (refl, refl, λ rd rs1 imm. refl) and
    (refl, refl, λ rd rs1 imm. refl) and
    (refl, refl, λ rd rs1 imm. refl) and
    (refl, refl, λ rd rs1 imm. refl) and
    (refl, refl, λ rd rs1 imm. refl) and
    (refl, refl, λ rd rs1 imm. refl) and
    -- opcode 0f
    (refl, refl, refl, inr refl) and
    -- opcode 13
    (refl, refl, λ rd rs1 imm. refl) and
    (refl, refl, λ rd rs1 imm. refl) and
    (refl, refl, λ rd rs1 imm. refl) and
    (refl, refl, λ rd rs1 imm. refl) and
    (refl, refl, λ rd rs1 imm. refl) and
    (refl, refl, λ rd rs1 imm. refl) and
    (refl, refl, λ rd rs1 imm. refl) and
    (refl, refl, λ rd rs1 imm. refl) and
    (refl, refl, λ rd rs1 imm. refl) and
    -- opcode 17
    (refl, refl, λ rd imm. refl) and
    -- opcode 1b
    (refl, refl, λ rd rs1 imm. refl) and
    (refl, refl, λ rd rs1 imm. refl) and
    (refl, refl, λ rd rs1 imm. refl) and
    (refl, refl, λ rd rs1 imm. refl) and
    -- opcode 23
    (refl, refl, λ rs1 rs2 imm. refl) and
    (refl, refl, λ rs1 rs2 imm. refl) and
    (refl, refl, λ rs1 rs2 imm. refl) and
    (refl, refl, λ rs1 rs2 imm. refl) and
    -- opcode 2f
    (refl, refl, λ rd rs1 order. refl) and
    (refl, refl, λ rd rs1 order. refl) and
    (refl, refl, λ rd rs1 rs2 order. refl) and
    (refl, refl, λ rd rs1 rs2 order. refl) and
    (refl, refl, λ rd rs1 rs2 order. refl) and
    (refl, refl, λ rd rs1 rs2 order. refl) and
    (refl, refl, λ rd rs1 rs2 order. refl) and
    (refl, refl, λ rd rs1 rs2 order. refl) and
    (refl, refl, λ rd rs1 rs2 order. refl) and
    (refl, refl, λ rd rs1 rs2 order. refl) and
    (refl, refl, λ rd rs1 rs2 order. refl) and
    (refl, refl, λ rd rs1 rs2 order. refl) and
    (refl, refl, λ rd rs1 rs2 order. refl) and
    (refl, refl, λ rd rs1 rs2 order. refl) and
    (refl, refl, λ rd rs1 rs2 order. refl) and
    (refl, refl, λ rd rs1 rs2 order. refl) and
    (refl, refl, λ rd rs1 rs2 order. refl) and
    (refl, refl, λ rd rs1 rs2 order. refl) and
    (refl, refl, λ rd rs1 rs2 order. refl) and
    (refl, refl, λ rd rs1 rs2 order. refl) and
    (refl, refl, λ rd rs1 rs2 order. refl) and
    (refl, refl, λ rd rs1 rs2 order. refl) and
    -- opcode 33
    (refl, refl, λ rd rs1 rs2. refl) and
    (refl, refl, λ rd rs1 rs2. refl) and
    (refl, refl, λ rd rs1 rs2. refl) and
    (refl, refl, λ rd rs1 rs2. refl) and
    (refl, refl, λ rd rs1 rs2. refl) and
    (refl, refl, λ rd rs1 rs2. refl) and
    (refl, refl, λ rd rs1 rs2. refl) and
    (refl, refl, λ rd rs1 rs2. refl) and
    (refl, refl, λ rd rs1 rs2. refl) and
    (refl, refl, λ rd rs1 rs2. refl) and
    (refl, refl, λ rd rs1 rs2. refl) and
    (refl, refl, λ rd rs1 rs2. refl) and
    (refl, refl, λ rd rs1 rs2. refl) and
    (refl, refl, λ rd rs1 rs2. refl) and
    (refl, refl, λ rd rs1 rs2. refl) and
    (refl, refl, λ rd rs1 rs2. refl) and
    (refl, refl, λ rd rs1 rs2. refl) and
    (refl, refl, λ rd rs1 rs2. refl) and
    -- opcode 37
    (refl, refl, λ rd imm. refl) and
    -- opcode 3b
    (refl, refl, λ rd rs1 rs2. refl) and
    (refl, refl, λ rd rs1 rs2. refl) and
    (refl, refl, λ rd rs1 rs2. refl) and
    (refl, refl, λ rd rs1 rs2. refl) and
    (refl, refl, λ rd rs1 rs2. refl) and
    (refl, refl, λ rd rs1 rs2. refl) and
    (refl, refl, λ rd rs1 rs2. refl) and
    (refl, refl, λ rd rs1 rs2. refl) and
    (refl, refl, λ rd rs1 rs2. refl) and
    (refl, refl, λ rd rs1 rs2. refl) and
    -- opcode 63
    (refl, refl, λ rs1 rs2 imm. refl) and
    (refl, refl, λ rs1 rs2 imm. refl) and
    (refl, refl, λ rs1 rs2 imm. refl) and
    (refl, refl, λ rs1 rs2 imm. refl) and
    (refl, refl, λ rs1 rs2 imm. refl) and
    (refl, refl, λ rs1 rs2 imm. refl) and
    -- opcode 67
    (refl, refl, λ rd rs1 imm. refl) and
    -- opcode 6f
    (refl, refl, λ rd imm. refl) and
    -- opcode 73
    (refl, refl, refl, inl refl) and
    (refl, refl, refl, inl refl) and
    tt

-- ---- a word that matches a row has a valid instruction, and is its word

-- what is said of the instruction i of a word w
abbrev pub IsBack : ℕ → Instr → Type 0
IsBack w i = IsValid i × ((i ≡ Fence → ⊥) → encoded i ≡ w)

back : (m v : ℕ) (f : Format) → IsLaidOut m v f → (w : ℕ) → w < 2 ^ 32 → bit_and w m ≡ v → IsBack w (instruction f w)
back m v (R make) laid w fits h =
    let mask = laid.0 in
    let parts = Register-back v w fits (rw mask at h) in
    let same = laid.2 (rd_of w) (rs1_of w) (rs2_of w) in
    (rw same parts.0, λ _. rw same parts.1)
back m v (I make) laid w fits h =
    let mask = laid.0 in
    let parts = Immediate-back v w fits (rw mask at h) in
    let same = laid.2 (rd_of w) (rs1_of w) (i_immediate w) in
    (rw same parts.0, λ _. rw same parts.1)
back m v (S make) laid w fits h =
    let mask = laid.0 in
    let parts = Store-back v w fits (rw mask at h) in
    let same = laid.2 (rs1_of w) (rs2_of w) (s_immediate w) in
    (rw same parts.0, λ _. rw same parts.1)
back m v (B make) laid w fits h =
    let mask = laid.0 in
    let parts = Branch-back v w fits (rw mask at h) in
    let same = laid.2 (rs1_of w) (rs2_of w) (b_immediate w) in
    (rw same parts.0, λ _. rw same parts.1)
back m v (U make) laid w fits h =
    let mask = laid.0 in
    let parts = Upper-back v w fits (rw mask at h) in
    let same = laid.2 (rd_of w) (u_immediate w) in
    (rw same parts.0, λ _. rw same parts.1)
back m v (J make) laid w fits h =
    let mask = laid.0 in
    let parts = Jump-back v w fits (rw mask at h) in
    let same = laid.2 (rd_of w) (j_immediate w) in
    (rw same parts.0, λ _. rw same parts.1)
back m v (Shift6 make) laid w fits h =
    let mask = laid.0 in
    let parts = Shift-back v w fits (rw mask at h) in
    let same = laid.2 (rd_of w) (rs1_of w) (shift_amount w) in
    (rw same parts.0, λ _. rw same parts.1)
back m v (Shift5 make) laid w fits h =
    let mask = laid.0 in
    let parts = WordShift-back v w fits (rw mask at h) in
    let same = laid.2 (rd_of w) (rs1_of w) (word_shift_amount w) in
    (rw same parts.0, λ _. rw same parts.1)
back m v (Amo make) laid w fits h =
    let mask = laid.0 in
    let parts = Atomic-back v w fits (rw mask at h) in
    let same = laid.2 (rd_of w) (rs1_of w) (rs2_of w) (order_of w) in
    (rw same parts.0, λ _. rw same parts.1)
back m v (Lr make) laid w fits h =
    let mask = laid.0 in
    let parts = Reserve-back v w laid.1 fits (rw mask at h) in
    let same = laid.2 (rd_of w) (rs1_of w) (order_of w) in
    (rw same parts.0, λ _. rw same parts.1)
back m v (Plain i) laid w fits h =
    let operands : (layout_of i).operands ≡ Fixed = ap (λ l. l.operands) laid.0 in
    let word : (i ≡ Fence → ⊥) → encoded i ≡ w =
    λ other. elim laid.3 [
      | inl whole ↦
          let value : (layout_of i).fixed ≡ v = sym laid.2 ∙ rw whole at laid.1 in
          let same : w ≡ v = sym (and-word w fits) ∙ rw whole at h in
          rw operands (omega arith)
      | inr fence ↦ absurd (other fence)
    ] in
    (rw operands tt, word)

pub decoded-back : (w : ℕ) (i : Instr) → w < 2 ^ 32 → decoded w ≡ Some i → IsBack w i
decoded-back w i fits e =
    let each = λ (k : ℕ) (d : Row) (h : k < length rows) (m : Matches (slice_index_or rows k d) w).
    back _ _ _ (Each-at (λ r. IsLaidOut r.mask r.value r.format) rows rows_are_laid_out k d h) w fits m in
    decoded-carries (IsBack w) w each i e

-- ---- the word of a valid instruction is decoded to it

abbrev IsThere : Format → Type 0
IsThere (R make) = (rd rs1 rs2 : ℕ) → IsValid (make rd rs1 rs2) → (encoded (make rd rs1 rs2) < 2 ^ 32) × (decoded (encoded (make rd rs1 rs2)) ≡ Some (make rd rs1 rs2))
IsThere (I make) = (rd rs1 : ℕ) (imm : ℤ) → IsValid (make rd rs1 imm) → (encoded (make rd rs1 imm) < 2 ^ 32) × (decoded (encoded (make rd rs1 imm)) ≡ Some (make rd rs1 imm))
IsThere (S make) = (rs1 rs2 : ℕ) (imm : ℤ) → IsValid (make rs1 rs2 imm) → (encoded (make rs1 rs2 imm) < 2 ^ 32) × (decoded (encoded (make rs1 rs2 imm)) ≡ Some (make rs1 rs2 imm))
IsThere (B make) = (rs1 rs2 : ℕ) (imm : ℤ) → IsValid (make rs1 rs2 imm) → (encoded (make rs1 rs2 imm) < 2 ^ 32) × (decoded (encoded (make rs1 rs2 imm)) ≡ Some (make rs1 rs2 imm))
IsThere (U make) = (rd : ℕ) (imm : ℤ) → IsValid (make rd imm) → (encoded (make rd imm) < 2 ^ 32) × (decoded (encoded (make rd imm)) ≡ Some (make rd imm))
IsThere (J make) = (rd : ℕ) (imm : ℤ) → IsValid (make rd imm) → (encoded (make rd imm) < 2 ^ 32) × (decoded (encoded (make rd imm)) ≡ Some (make rd imm))
IsThere (Shift6 make) = (rd rs1 : ℕ) (imm : ℤ) → IsValid (make rd rs1 imm) → (encoded (make rd rs1 imm) < 2 ^ 32) × (decoded (encoded (make rd rs1 imm)) ≡ Some (make rd rs1 imm))
IsThere (Shift5 make) = (rd rs1 : ℕ) (imm : ℤ) → IsValid (make rd rs1 imm) → (encoded (make rd rs1 imm) < 2 ^ 32) × (decoded (encoded (make rd rs1 imm)) ≡ Some (make rd rs1 imm))
IsThere (Amo make) = (rd rs1 rs2 order : ℕ) → IsValid (make rd rs1 rs2 order) → (encoded (make rd rs1 rs2 order) < 2 ^ 32) × (decoded (encoded (make rd rs1 rs2 order)) ≡ Some (make rd rs1 rs2 order))
IsThere (Lr make) = (rd rs1 order : ℕ) → IsValid (make rd rs1 order) → (encoded (make rd rs1 order) < 2 ^ 32) × (decoded (encoded (make rd rs1 order)) ≡ Some (make rd rs1 order))
IsThere (Plain i) = (encoded i < 2 ^ 32) × (decoded (encoded i) ≡ Some i)

there : (m v : ℕ) (f : Format) → IsLaidOut m v f → ((w : ℕ) → bit_and w m ≡ v → decoded w ≡ Some (instruction f w)) → IsThere f
there m v (R make) laid found = λ rd rs1 rs2 valid.
    let same = laid.2 rd rs1 rs2 in
    let word : ℕ = v + placed (Register rd rs1 rs2) in
    let parts = Register-there v laid.1 rd rs1 rs2 (rw same at valid) word refl in
    let read : decoded word ≡ Some (make rd rs1 rs2) =
    found word (rw laid.0 parts.0) ∙ rw (parts.1, parts.2, parts.3) refl in
    rw same (parts.4, read)
there m v (I make) laid found = λ rd rs1 imm valid.
    let same = laid.2 rd rs1 imm in
    let word : ℕ = v + placed (Immediate rd rs1 imm) in
    let parts = Immediate-there v laid.1 rd rs1 imm (rw same at valid) word refl in
    let read : decoded word ≡ Some (make rd rs1 imm) =
    found word (rw laid.0 parts.0) ∙ rw (parts.1, parts.2, parts.3) refl in
    rw same (parts.4, read)
there m v (S make) laid found = λ rs1 rs2 imm valid.
    let same = laid.2 rs1 rs2 imm in
    let word : ℕ = v + placed (Store rs1 rs2 imm) in
    let parts = Store-there v laid.1 rs1 rs2 imm (rw same at valid) word refl in
    let read : decoded word ≡ Some (make rs1 rs2 imm) =
    found word (rw laid.0 parts.0) ∙ rw (parts.1, parts.2, parts.3) refl in
    rw same (parts.4, read)
there m v (B make) laid found = λ rs1 rs2 imm valid.
    let same = laid.2 rs1 rs2 imm in
    let word : ℕ = v + placed (Branch rs1 rs2 imm) in
    let parts = Branch-there v laid.1 rs1 rs2 imm (rw same at valid) word refl in
    let read : decoded word ≡ Some (make rs1 rs2 imm) =
    found word (rw laid.0 parts.0) ∙ rw (parts.1, parts.2, parts.3) refl in
    rw same (parts.4, read)
there m v (U make) laid found = λ rd imm valid.
    let same = laid.2 rd imm in
    let word : ℕ = v + placed (Upper rd imm) in
    let parts = Upper-there v laid.1 rd imm (rw same at valid) word refl in
    let read : decoded word ≡ Some (make rd imm) =
    found word (rw laid.0 parts.0) ∙ rw (parts.1, parts.2) refl in
    rw same (parts.3, read)
there m v (J make) laid found = λ rd imm valid.
    let same = laid.2 rd imm in
    let word : ℕ = v + placed (Jump rd imm) in
    let parts = Jump-there v laid.1 rd imm (rw same at valid) word refl in
    let read : decoded word ≡ Some (make rd imm) =
    found word (rw laid.0 parts.0) ∙ rw (parts.1, parts.2) refl in
    rw same (parts.3, read)
there m v (Shift6 make) laid found = λ rd rs1 imm valid.
    let same = laid.2 rd rs1 imm in
    let word : ℕ = v + placed (Shift rd rs1 imm) in
    let parts = Shift-there v laid.1 rd rs1 imm (rw same at valid) word refl in
    let read : decoded word ≡ Some (make rd rs1 imm) =
    found word (rw laid.0 parts.0) ∙ rw (parts.1, parts.2, parts.3) refl in
    rw same (parts.4, read)
there m v (Shift5 make) laid found = λ rd rs1 imm valid.
    let same = laid.2 rd rs1 imm in
    let word : ℕ = v + placed (WordShift rd rs1 imm) in
    let parts = WordShift-there v laid.1 rd rs1 imm (rw same at valid) word refl in
    let read : decoded word ≡ Some (make rd rs1 imm) =
    found word (rw laid.0 parts.0) ∙ rw (parts.1, parts.2, parts.3) refl in
    rw same (parts.4, read)
there m v (Amo make) laid found = λ rd rs1 rs2 order valid.
    let same = laid.2 rd rs1 rs2 order in
    let word : ℕ = v + placed (Atomic rd rs1 rs2 order) in
    let parts = Atomic-there v laid.1 rd rs1 rs2 order (rw same at valid) word refl in
    let read : decoded word ≡ Some (make rd rs1 rs2 order) =
    found word (rw laid.0 parts.0) ∙ rw (parts.1, parts.2, parts.3, parts.4) refl in
    rw same (parts.5, read)
there m v (Lr make) laid found = λ rd rs1 order valid.
    let same = laid.2 rd rs1 order in
    let word : ℕ = v + placed (Reserve rd rs1 order) in
    let parts = Reserve-there v laid.1 rd rs1 order (rw same at valid) word refl in
    let read : decoded word ≡ Some (make rd rs1 order) =
    found word (rw laid.0 parts.0) ∙ rw (parts.1, parts.2, parts.3) refl in
    rw same (parts.4, read)
there m v (Plain i) laid found =
    let operands : (layout_of i).operands ≡ Fixed = ap (λ l. l.operands) laid.0 in
    let word : encoded i ≡ (layout_of i).fixed = rw operands (omega arith) in
    rw word (omega (arith, and_le_r (layout_of i).fixed 0xffffffff, laid.2), found (layout_of i).fixed laid.1)

there_at : (k : ℕ) (d : Row) → k < length rows → IsThere (slice_index_or rows k d).format
there_at k d h =
    there _ _ _ (Each-at (λ r. IsLaidOut r.mask r.value r.format) rows rows_are_laid_out k d h) (λ w m. decoded-match w k d h m)

abbrev missing : Row
missing = row 0 0 (Plain Fence)

-- one line for each mnemonic: the place of its row in the table
pub encoded-there : (i : Instr) → IsValid i → (encoded i < 2 ^ 32) × (decoded (encoded i) ≡ Some i)
encoded-there (Lb rd rs1 imm) valid = there_at 0 missing (lit< tt) rd rs1 imm valid
encoded-there (Lh rd rs1 imm) valid = there_at 1 missing (lit< tt) rd rs1 imm valid
encoded-there (Lw rd rs1 imm) valid = there_at 2 missing (lit< tt) rd rs1 imm valid
encoded-there (Ld rd rs1 imm) valid = there_at 3 missing (lit< tt) rd rs1 imm valid
encoded-there (Lbu rd rs1 imm) valid = there_at 4 missing (lit< tt) rd rs1 imm valid
encoded-there (Lhu rd rs1 imm) valid = there_at 5 missing (lit< tt) rd rs1 imm valid
encoded-there (Lwu rd rs1 imm) valid = there_at 6 missing (lit< tt) rd rs1 imm valid
encoded-there Fence valid = there_at 7 missing (lit< tt)
encoded-there (Addi rd rs1 imm) valid = there_at 8 missing (lit< tt) rd rs1 imm valid
encoded-there (Slti rd rs1 imm) valid = there_at 9 missing (lit< tt) rd rs1 imm valid
encoded-there (Sltiu rd rs1 imm) valid = there_at 10 missing (lit< tt) rd rs1 imm valid
encoded-there (Xori rd rs1 imm) valid = there_at 11 missing (lit< tt) rd rs1 imm valid
encoded-there (Ori rd rs1 imm) valid = there_at 12 missing (lit< tt) rd rs1 imm valid
encoded-there (Andi rd rs1 imm) valid = there_at 13 missing (lit< tt) rd rs1 imm valid
encoded-there (Slli rd rs1 imm) valid = there_at 14 missing (lit< tt) rd rs1 imm valid
encoded-there (Srli rd rs1 imm) valid = there_at 15 missing (lit< tt) rd rs1 imm valid
encoded-there (Srai rd rs1 imm) valid = there_at 16 missing (lit< tt) rd rs1 imm valid
encoded-there (Auipc rd imm) valid = there_at 17 missing (lit< tt) rd imm valid
encoded-there (Addiw rd rs1 imm) valid = there_at 18 missing (lit< tt) rd rs1 imm valid
encoded-there (Slliw rd rs1 imm) valid = there_at 19 missing (lit< tt) rd rs1 imm valid
encoded-there (Srliw rd rs1 imm) valid = there_at 20 missing (lit< tt) rd rs1 imm valid
encoded-there (Sraiw rd rs1 imm) valid = there_at 21 missing (lit< tt) rd rs1 imm valid
encoded-there (Sb rs1 rs2 imm) valid = there_at 22 missing (lit< tt) rs1 rs2 imm valid
encoded-there (Sh rs1 rs2 imm) valid = there_at 23 missing (lit< tt) rs1 rs2 imm valid
encoded-there (Sw rs1 rs2 imm) valid = there_at 24 missing (lit< tt) rs1 rs2 imm valid
encoded-there (Sd rs1 rs2 imm) valid = there_at 25 missing (lit< tt) rs1 rs2 imm valid
encoded-there (LrW rd rs1 order) valid = there_at 26 missing (lit< tt) rd rs1 order valid
encoded-there (LrD rd rs1 order) valid = there_at 27 missing (lit< tt) rd rs1 order valid
encoded-there (ScW rd rs1 rs2 order) valid = there_at 28 missing (lit< tt) rd rs1 rs2 order valid
encoded-there (ScD rd rs1 rs2 order) valid = there_at 29 missing (lit< tt) rd rs1 rs2 order valid
encoded-there (AmoswapW rd rs1 rs2 order) valid = there_at 30 missing (lit< tt) rd rs1 rs2 order valid
encoded-there (AmoswapD rd rs1 rs2 order) valid = there_at 31 missing (lit< tt) rd rs1 rs2 order valid
encoded-there (AmoaddW rd rs1 rs2 order) valid = there_at 32 missing (lit< tt) rd rs1 rs2 order valid
encoded-there (AmoaddD rd rs1 rs2 order) valid = there_at 33 missing (lit< tt) rd rs1 rs2 order valid
encoded-there (AmoxorW rd rs1 rs2 order) valid = there_at 34 missing (lit< tt) rd rs1 rs2 order valid
encoded-there (AmoxorD rd rs1 rs2 order) valid = there_at 35 missing (lit< tt) rd rs1 rs2 order valid
encoded-there (AmoandW rd rs1 rs2 order) valid = there_at 36 missing (lit< tt) rd rs1 rs2 order valid
encoded-there (AmoandD rd rs1 rs2 order) valid = there_at 37 missing (lit< tt) rd rs1 rs2 order valid
encoded-there (AmoorW rd rs1 rs2 order) valid = there_at 38 missing (lit< tt) rd rs1 rs2 order valid
encoded-there (AmoorD rd rs1 rs2 order) valid = there_at 39 missing (lit< tt) rd rs1 rs2 order valid
encoded-there (AmominW rd rs1 rs2 order) valid = there_at 40 missing (lit< tt) rd rs1 rs2 order valid
encoded-there (AmominD rd rs1 rs2 order) valid = there_at 41 missing (lit< tt) rd rs1 rs2 order valid
encoded-there (AmomaxW rd rs1 rs2 order) valid = there_at 42 missing (lit< tt) rd rs1 rs2 order valid
encoded-there (AmomaxD rd rs1 rs2 order) valid = there_at 43 missing (lit< tt) rd rs1 rs2 order valid
encoded-there (AmominuW rd rs1 rs2 order) valid = there_at 44 missing (lit< tt) rd rs1 rs2 order valid
encoded-there (AmominuD rd rs1 rs2 order) valid = there_at 45 missing (lit< tt) rd rs1 rs2 order valid
encoded-there (AmomaxuW rd rs1 rs2 order) valid = there_at 46 missing (lit< tt) rd rs1 rs2 order valid
encoded-there (AmomaxuD rd rs1 rs2 order) valid = there_at 47 missing (lit< tt) rd rs1 rs2 order valid
encoded-there (Add rd rs1 rs2) valid = there_at 48 missing (lit< tt) rd rs1 rs2 valid
encoded-there (Sub rd rs1 rs2) valid = there_at 49 missing (lit< tt) rd rs1 rs2 valid
encoded-there (Sll rd rs1 rs2) valid = there_at 50 missing (lit< tt) rd rs1 rs2 valid
encoded-there (Slt rd rs1 rs2) valid = there_at 51 missing (lit< tt) rd rs1 rs2 valid
encoded-there (Sltu rd rs1 rs2) valid = there_at 52 missing (lit< tt) rd rs1 rs2 valid
encoded-there (Xor rd rs1 rs2) valid = there_at 53 missing (lit< tt) rd rs1 rs2 valid
encoded-there (Srl rd rs1 rs2) valid = there_at 54 missing (lit< tt) rd rs1 rs2 valid
encoded-there (Sra rd rs1 rs2) valid = there_at 55 missing (lit< tt) rd rs1 rs2 valid
encoded-there (Or rd rs1 rs2) valid = there_at 56 missing (lit< tt) rd rs1 rs2 valid
encoded-there (And rd rs1 rs2) valid = there_at 57 missing (lit< tt) rd rs1 rs2 valid
encoded-there (Mul rd rs1 rs2) valid = there_at 58 missing (lit< tt) rd rs1 rs2 valid
encoded-there (Mulh rd rs1 rs2) valid = there_at 59 missing (lit< tt) rd rs1 rs2 valid
encoded-there (Mulhsu rd rs1 rs2) valid = there_at 60 missing (lit< tt) rd rs1 rs2 valid
encoded-there (Mulhu rd rs1 rs2) valid = there_at 61 missing (lit< tt) rd rs1 rs2 valid
encoded-there (Div rd rs1 rs2) valid = there_at 62 missing (lit< tt) rd rs1 rs2 valid
encoded-there (Divu rd rs1 rs2) valid = there_at 63 missing (lit< tt) rd rs1 rs2 valid
encoded-there (Rem rd rs1 rs2) valid = there_at 64 missing (lit< tt) rd rs1 rs2 valid
encoded-there (Remu rd rs1 rs2) valid = there_at 65 missing (lit< tt) rd rs1 rs2 valid
encoded-there (Lui rd imm) valid = there_at 66 missing (lit< tt) rd imm valid
encoded-there (Addw rd rs1 rs2) valid = there_at 67 missing (lit< tt) rd rs1 rs2 valid
encoded-there (Subw rd rs1 rs2) valid = there_at 68 missing (lit< tt) rd rs1 rs2 valid
encoded-there (Sllw rd rs1 rs2) valid = there_at 69 missing (lit< tt) rd rs1 rs2 valid
encoded-there (Srlw rd rs1 rs2) valid = there_at 70 missing (lit< tt) rd rs1 rs2 valid
encoded-there (Sraw rd rs1 rs2) valid = there_at 71 missing (lit< tt) rd rs1 rs2 valid
encoded-there (Mulw rd rs1 rs2) valid = there_at 72 missing (lit< tt) rd rs1 rs2 valid
encoded-there (Divw rd rs1 rs2) valid = there_at 73 missing (lit< tt) rd rs1 rs2 valid
encoded-there (Divuw rd rs1 rs2) valid = there_at 74 missing (lit< tt) rd rs1 rs2 valid
encoded-there (Remw rd rs1 rs2) valid = there_at 75 missing (lit< tt) rd rs1 rs2 valid
encoded-there (Remuw rd rs1 rs2) valid = there_at 76 missing (lit< tt) rd rs1 rs2 valid
encoded-there (Beq rs1 rs2 imm) valid = there_at 77 missing (lit< tt) rs1 rs2 imm valid
encoded-there (Bne rs1 rs2 imm) valid = there_at 78 missing (lit< tt) rs1 rs2 imm valid
encoded-there (Blt rs1 rs2 imm) valid = there_at 79 missing (lit< tt) rs1 rs2 imm valid
encoded-there (Bge rs1 rs2 imm) valid = there_at 80 missing (lit< tt) rs1 rs2 imm valid
encoded-there (Bltu rs1 rs2 imm) valid = there_at 81 missing (lit< tt) rs1 rs2 imm valid
encoded-there (Bgeu rs1 rs2 imm) valid = there_at 82 missing (lit< tt) rs1 rs2 imm valid
encoded-there (Jalr rd rs1 imm) valid = there_at 83 missing (lit< tt) rd rs1 imm valid
encoded-there (Jal rd imm) valid = there_at 84 missing (lit< tt) rd imm valid
encoded-there Ecall valid = there_at 85 missing (lit< tt)
encoded-there Ebreak valid = there_at 86 missing (lit< tt)

-- an instruction is valid exactly where some word is decoded to it
pub IsValid-word : (i : Instr) → IsValid i ↔ (w : ℕ) × (w < 2 ^ 32) × (decoded w ≡ Some i)
IsValid-word i =
    (λ valid. let parts = encoded-there i valid in (encoded i, parts.0, parts.1), λ word. (decoded-back word.0 i word.1 word.2).0)

-- no other word is decoded to an instruction, but for FENCE
pub encoded-only : (i : Instr) (w : ℕ) → w < 2 ^ 32 → decoded w ≡ Some i → (i ≡ Fence → ⊥) → w ≡ encoded i
encoded-only i w fits e other = sym ((decoded-back w i fits e).1 other)

pub decoded-valid : (w : ℕ) (answer : Option Instr) → w < 2 ^ 32 → answer ≡ decoded w → IfSome answer IsValid
decoded-valid w None fits e = tt
decoded-valid w (Some i) fits e = (decoded-back w i fits (sym e)).0

pub encoded-decoded : (w : ℕ) (answer : Option Instr) → w < 2 ^ 32 → answer ≡ decoded w
    → IfSome answer (λ i. (i ≡ Fence → ⊥) → encoded i ≡ w)
encoded-decoded w None fits e = tt
encoded-decoded w (Some i) fits e = (decoded-back w i fits (sym e)).1
