use Rattle.std.proofs.Common.{Option, false, ap, sym, ◌∙◌}
use Rattle.std.specs.Option.{option_map_or}
use Rattle.kr_loose.specs.Judging.{differs}
use Rattle.kr_loose.specs.declared.judge.Counts.{Counts}
use Rattle.kr_loose.proofs.judge.is_altered.Goals as goal

pub returns-in-Some : goal.returns-in-Some
returns-in-Some c =
    c.differs.ensures ∙ sym (ap (λ (o : Option Counts). option_map_or (λ before. differs c.args.exec before c.args.counts) o false) (sym c.counts_of.ensures ∙ c.in-Some.is))

pub returns-in-None : goal.returns-in-None
returns-in-None c = sym (ap (λ (o : Option Counts). option_map_or (λ before. differs c.args.exec before c.args.counts) o false) (sym c.counts_of.ensures ∙ c.in-None.is))
