use Rattle.std.proofs.Common.{◌≡◌, ◌+◌, length, ap, ◌∙◌, arith}
use Rattle.elf_write.specs.Layout.{data_offset, written}
use Rattle.elf_write.proofs.Written.{length-written}
use Rattle.pr_gen.specs.Guest.{buffer_room, guest, rounds}
use Rattle.pr_gen.proofs.guest.guest.Goals as goal

pub returns-clause-file : goal.returns-clause-file
unfolding guest
returns-clause-file c n at =
    c.in_ok-file.ensures.whole
    ∙ (λ i. written ((c.as_slice.ensures ∙ c.in_ok-code.ensures.code) i) ((c.as_slice-2.ensures.value ∙ c.in_ok-data.ensures.texts ∙ ap (rounds 256) at) i) buffer_room)

pub returns-clause-short : goal.returns-clause-short
returns-clause-short c =
    let code : length c.as_slice.result.now ≡ 276 = ap length c.as_slice.ensures ∙ c.in_ok-code.ensures.size in
    let texts = ap length c.as_slice-2.ensures.value in
    let few = c.in_ok-data.ensures.size in
    let whole = ap length c.in_ok-file.ensures.whole ∙ length-written c.as_slice.result.now c.as_slice-2.result.now buffer_room ∙ ap (λ k. data_offset k + length c.as_slice-2.result.now) code in
    omega (arith, whole, texts, few)
