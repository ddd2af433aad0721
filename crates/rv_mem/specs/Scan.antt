-- What the search for a text's end tells of the text.
use Rattle.std.specs.Prelude.{ℕ, List, Result, Ok, Err}
use Rattle.rv_mem.specs.declared.fault.TextFault.{TextFault}
use Rattle.rv_mem.specs.declared.fault.TextFault.TheVariants.{BadAddress, TooLong}
use Rattle.rv_mem.specs.declared.text.TextEnd.{TextEnd}
use Rattle.rv_mem.specs.declared.text.TextEnd.TheVariants.{Zero, Unreadable, Limit}

abbrev pub text_from : TextEnd → List ℕ → Result (List ℕ) TextFault
text_from Zero bytes = Ok bytes
text_from Unreadable bytes = Err BadAddress
text_from Limit bytes = Err TooLong
