use Rattle.std.proofs.Common.{map, sym, subst, Result}
use Rattle.std.specs.String.{string_bytes}
use Rattle.pr_words.specs.declared.fault.WordsFault.{WordsFault}
use Rattle.pr_words.specs.declared.options.Options.{Options}
use Rattle.pr_words.specs.Answers.{IsAnswer}
use Rattle.pr_words.proofs.LoopLemmas.{zero_read, no_zero_read}
use Rattle.pr_words.proofs.SoundLemmas.{answer_is_sound}
use Rattle.pr_words.proofs.words.read.Goals as goal

pub returns-in-Some-clause-answer : goal.returns-in-Some-clause-answer
returns-in-Some-clause-answer c = zero_read string_bytes c.args.words.now c.in-Some.at (sym c.in-Some.ensures)

pub returns-clause-answer : goal.returns-clause-answer
returns-clause-answer c =
    let P : Result Options WordsFault → Type 0 = λ r. IsAnswer r c.read_line.result in
    subst P (sym (no_zero_read string_bytes c.args.words.now (sym c.in_default.ensures))) c.read_line.ensures

pub returns-clause-sound : goal.returns-clause-sound
returns-clause-sound c = answer_is_sound (map string_bytes c.args.words.now) c.read_line.result (returns-clause-answer c)
