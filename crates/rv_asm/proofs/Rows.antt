-- The definitions on worked rows.
use Rattle.std.proofs.Common.{◌≡◌, [], ◌∷◌, Some, None, replicate, refl}
use Rattle.std.specs.Prelude.{pos}
use Rattle.rv_table.specs.declared.instr.Instr.TheVariants.{Beq, Ecall}
use Rattle.rv_asm.specs.declared.fault.AsmFault.TheVariants.{Unbound, Far}
use Rattle.rv_asm.specs.declared.item.Item.TheVariants.{Plain, Jump, Branch, Address}
use Rattle.rv_asm.specs.Assembly.{first_fault, first_far, bytes_of}

unbound_zero : first_fault (record { items = Branch (Beq 0 0 (pos 0)) 0 ∷ []; places = None ∷ [] }) ≡ Some (Unbound 0)
unbound_zero = refl

two_thousand_between : first_fault (record { items = Branch (Beq 0 0 (pos 0)) 0 ∷ replicate 2000 (Plain Ecall); places = Some 8004 ∷ [] }) ≡ Some (Far 0)
two_thousand_between = refl

unbound_before_far : first_fault (record { items = Branch (Beq 0 0 (pos 0)) 0 ∷ Jump 0 1 ∷ []; places = Some 8000 ∷ None ∷ [] }) ≡ Some (Unbound 1)
unbound_before_far = refl

-- ---- the last distance in reach, and the first out of it

branch_forward : first_far (Some 4092 ∷ []) 0 (Branch (Beq 0 0 (pos 0)) 0 ∷ []) ≡ None
branch_forward = refl

branch_too_far_forward : first_far (Some 4096 ∷ []) 0 (Branch (Beq 0 0 (pos 0)) 0 ∷ []) ≡ Some 0
branch_too_far_forward = refl

branch_back : first_far (Some 0 ∷ []) 4096 (Branch (Beq 0 0 (pos 0)) 0 ∷ []) ≡ None
branch_back = refl

branch_too_far_back : first_far (Some 0 ∷ []) 4100 (Branch (Beq 0 0 (pos 0)) 0 ∷ []) ≡ Some 0
branch_too_far_back = refl

jump_forward : first_far (Some 1048572 ∷ []) 0 (Jump 0 0 ∷ []) ≡ None
jump_forward = refl

jump_too_far_forward : first_far (Some 1048576 ∷ []) 0 (Jump 0 0 ∷ []) ≡ Some 0
jump_too_far_forward = refl

jump_back : first_far (Some 0 ∷ []) 1048576 (Jump 0 0 ∷ []) ≡ None
jump_back = refl

jump_too_far_back : first_far (Some 0 ∷ []) 1048580 (Jump 0 0 ∷ []) ≡ Some 0
jump_too_far_back = refl

address_forward : first_far (Some 2147481596 ∷ []) 0 (Address 0 0 ∷ []) ≡ None
address_forward = refl

address_too_far_forward : first_far (Some 2147481600 ∷ []) 0 (Address 0 0 ∷ []) ≡ Some 0
address_too_far_forward = refl

address_back : first_far (Some 0 ∷ []) 2147485696 (Address 0 0 ∷ []) ≡ None
address_back = refl

address_too_far_back : first_far (Some 0 ∷ []) 2147485700 (Address 0 0 ∷ []) ≡ Some 0
address_too_far_back = refl

-- ---- words that clang 14 wrote

address_of_2048 : bytes_of (Some 2048 ∷ []) 0 (Address 12 0) ≡ 0x17 ∷ 0x16 ∷ 0x00 ∷ 0x00 ∷ 0x13 ∷ 0x06 ∷ 0x06 ∷ 0x80 ∷ []
address_of_2048 = refl

jump_back_16 : bytes_of (Some 0 ∷ []) 16 (Jump 1 0) ≡ 0xef ∷ 0xf0 ∷ 0x1f ∷ 0xff ∷ []
jump_back_16 = refl
