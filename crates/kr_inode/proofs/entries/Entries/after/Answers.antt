use Rattle.std.proofs.Common.{◌∙◌, sym, ap, slice_get, rules}
use Rattle.std.specs.Option.{option_map}
use Rattle.kr_inode.specs.Entries.{entry_of}
use Rattle.kr_inode.proofs.StoredLemmas.{stored-after}
use Rattle.kr_inode.proofs.entries.Entries.after.Goals as goal

pub returns-in_err-next : goal.returns-in_err-next
returns-in_err-next c =
    rw (← c.self.view_is, c.from_residual.ensures)
    (ap (λ es. option_map entry_of (slice_get es 0)) (sym (sym (c.range.ensures.between (search rules)) ∙ c.in_err-next.ensures.steps.0)) ∙ stored-after c.args.serial c.self.inside.by_serial.entries)

pub returns : goal.returns
returns c =
    rw (← c.self.view_is, c.as_slice.ensures.value)
    (ap (λ es. option_map entry_of (slice_get es 0)) (sym (sym (c.range.ensures.between (search rules)) ∙ c.in_ok-next.ensures.steps)) ∙ stored-after c.args.serial c.self.inside.by_serial.entries)
