use Rattle.law_kept.proofs.InstructionLemmas.{instructions-keep-bytes}
use Rattle.law_kept.proofs.laws.instructions_keep_bytes.Goals as goal

pub returns : goal.returns
returns c = instructions-keep-bytes
