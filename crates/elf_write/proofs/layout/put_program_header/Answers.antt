use Rattle.std.proofs.Common.{append_assoc}
use Rattle.elf_write.specs.Layout.{program_header_bytes}
use Rattle.elf_write.proofs.layout.put_program_header.Goals as goal

pub returns : goal.returns
unfolding program_header_bytes
returns c =
    rw (c.in_ok-extend_from_slice-8.ensures.items, c.in_ok-extend_from_slice-7.ensures.items, c.in_ok-extend_from_slice-6.ensures.items, c.in_ok-extend_from_slice-5.ensures.items, c.in_ok-extend_from_slice-4.ensures.items, c.in_ok-extend_from_slice-3.ensures.items, c.in_ok-extend_from_slice-2.ensures.items, c.in_ok-extend_from_slice.ensures.items)
    (rw (c.to_le_bytes.ensures, c.to_le_bytes-2.ensures, c.to_le_bytes-3.ensures, c.to_le_bytes-4.ensures, c.to_le_bytes-5.ensures, c.to_le_bytes-6.ensures, c.to_le_bytes-7.ensures, c.to_le_bytes-8.ensures) (simp append_assoc))
