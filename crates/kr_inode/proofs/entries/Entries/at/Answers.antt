use Rattle.std.proofs.Common.{◌∙◌, ap}
use Rattle.std.specs.Option.{option_map}
use Rattle.kr_inode.specs.declared.entries.Named.{Named}
use Rattle.kr_inode.proofs.StoredLemmas.{stored-at}
use Rattle.kr_inode.proofs.entries.Entries.at.Goals as goal

pub returns-in_err-held : goal.returns-in_err-held
returns-in_err-held c =
    rw (← c.self.view_is, c.from_residual.ensures)
    (ap (option_map (λ (v : Named). record { name = v.name.items; serial = c.args.serial; inode = v.inode })) c.in_err-held.ensures.value ∙ stored-at c.args.serial c.self.inside.by_serial.entries)

pub returns : goal.returns
returns c =
    rw (← c.self.view_is, c.as_slice.ensures.value)
    (ap (option_map (λ (v : Named). record { name = v.name.items; serial = c.args.serial; inode = v.inode })) c.in_ok-held.ensures.value ∙ stored-at c.args.serial c.self.inside.by_serial.entries)
