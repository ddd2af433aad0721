use Rattle.law_entries.proofs.ExecveBytes.{bytes-are-reached}
use Rattle.law_entries.proofs.programs.bytes_are_reached.Goals as goal

pub returns : goal.returns
returns c = bytes-are-reached
