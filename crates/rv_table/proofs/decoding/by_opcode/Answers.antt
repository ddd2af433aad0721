-- Under its opcode a word is compared with the rows of that opcode alone.
use Rattle.std.proofs.Common.{◌≡◌, ◌%◌, sym, arith, ◌∙◌}
use Rattle.rv_table.proofs.decoding.by_opcode.Goals as goal
use Rattle.rv_table.proofs.Matching.{Excludes, opcodes, decoded-opcode, decoded-excluded}

pub returns-in-3 : goal.returns-in-3
returns-in-3 c =
    let opcode : c.args.word % 128 ≡ 3 = omega (arith, c.bits.ensures, c.in-3.is) in
    c.load.ensures ∙ sym (decoded-opcode c.args.word 3 opcode)

pub returns-in-15 : goal.returns-in-15
returns-in-15 c =
    let opcode : c.args.word % 128 ≡ 15 = omega (arith, c.bits.ensures, c.in-15.is) in
    c.fence.ensures ∙ sym (decoded-opcode c.args.word 15 opcode)

pub returns-in-19 : goal.returns-in-19
returns-in-19 c =
    let opcode : c.args.word % 128 ≡ 19 = omega (arith, c.bits.ensures, c.in-19.is) in
    c.immediate.ensures ∙ sym (decoded-opcode c.args.word 19 opcode)

pub returns-in-23 : goal.returns-in-23
returns-in-23 c =
    let opcode : c.args.word % 128 ≡ 23 = omega (arith, c.bits.ensures, c.in-23.is) in
    c.auipc.ensures ∙ sym (decoded-opcode c.args.word 23 opcode)

pub returns-in-27 : goal.returns-in-27
returns-in-27 c =
    let opcode : c.args.word % 128 ≡ 27 = omega (arith, c.bits.ensures, c.in-27.is) in
    c.word_immediate.ensures ∙ sym (decoded-opcode c.args.word 27 opcode)

pub returns-in-35 : goal.returns-in-35
returns-in-35 c =
    let opcode : c.args.word % 128 ≡ 35 = omega (arith, c.bits.ensures, c.in-35.is) in
    c.store.ensures ∙ sym (decoded-opcode c.args.word 35 opcode)

pub returns-in-47 : goal.returns-in-47
returns-in-47 c =
    let opcode : c.args.word % 128 ≡ 47 = omega (arith, c.bits.ensures, c.in-47.is) in
    c.atomic.ensures ∙ sym (decoded-opcode c.args.word 47 opcode)

pub returns-in-51 : goal.returns-in-51
returns-in-51 c =
    let opcode : c.args.word % 128 ≡ 51 = omega (arith, c.bits.ensures, c.in-51.is) in
    c.register.ensures ∙ sym (decoded-opcode c.args.word 51 opcode)

pub returns-in-55 : goal.returns-in-55
returns-in-55 c =
    let opcode : c.args.word % 128 ≡ 55 = omega (arith, c.bits.ensures, c.in-55.is) in
    c.lui.ensures ∙ sym (decoded-opcode c.args.word 55 opcode)

pub returns-in-59 : goal.returns-in-59
returns-in-59 c =
    let opcode : c.args.word % 128 ≡ 59 = omega (arith, c.bits.ensures, c.in-59.is) in
    c.word_register.ensures ∙ sym (decoded-opcode c.args.word 59 opcode)

pub returns-in-99 : goal.returns-in-99
returns-in-99 c =
    let opcode : c.args.word % 128 ≡ 99 = omega (arith, c.bits.ensures, c.in-99.is) in
    c.branch-word.ensures ∙ sym (decoded-opcode c.args.word 99 opcode)

pub returns-in-103 : goal.returns-in-103
returns-in-103 c =
    let opcode : c.args.word % 128 ≡ 103 = omega (arith, c.bits.ensures, c.in-103.is) in
    c.jalr.ensures ∙ sym (decoded-opcode c.args.word 103 opcode)

pub returns-in-111 : goal.returns-in-111
returns-in-111 c =
    let opcode : c.args.word % 128 ≡ 111 = omega (arith, c.bits.ensures, c.in-111.is) in
    c.jal.ensures ∙ sym (decoded-opcode c.args.word 111 opcode)

pub returns-in-115 : goal.returns-in-115
returns-in-115 c =
    let opcode : c.args.word % 128 ≡ 115 = omega (arith, c.bits.ensures, c.in-115.is) in
    c.system.ensures ∙ sym (decoded-opcode c.args.word 115 opcode)

pub returns-in_default : goal.returns-in_default
returns-in_default c =
    let other : Excludes opcodes (c.args.word % 128) =
    (omega (arith, c.bits.ensures), (omega (arith, c.bits.ensures), (omega (arith, c.bits.ensures), (omega (arith, c.bits.ensures), (omega (arith, c.bits.ensures), (omega (arith, c.bits.ensures), (omega (arith, c.bits.ensures), (omega (arith, c.bits.ensures), (omega (arith, c.bits.ensures), (omega (arith, c.bits.ensures), (omega (arith, c.bits.ensures), (omega (arith, c.bits.ensures), (omega (arith, c.bits.ensures), (omega (arith, c.bits.ensures), tt)))))))))))))) in
    sym (decoded-excluded c.args.word other)
