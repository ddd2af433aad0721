use Rattle.std.proofs.Common.{refl}
use Rattle.elf_write.specs.Layout.{file_header_bytes}
use Rattle.elf_write.proofs.layout.lay_out.Goals as goal

pub returns : goal.returns
unfolding file_header_bytes
returns c =
    rw (c.from-2.ensures, c.in_ok-extend_from_slice-2.ensures.items, c.in_ok-pad-2.ensures, c.in_ok-extend_from_slice.ensures.items, c.in_ok-pad.ensures, c.in_ok-put_program_header-2.ensures, c.in_ok-put_program_header.ensures, c.from.ensures, c.div_ceil-code_end.ensures, c.in_ok-file.ensures.items) refl
