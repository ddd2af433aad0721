use Rattle.rv_table.proofs.encoding.valid.Goals as goal
use Rattle.rv_table.proofs.RoundTrip.{IsValid-word}

pub returns-clause-has_word : goal.returns-clause-has_word
returns-clause-has_word c =
    let in_range = rw c.layout_of.ensures at c.are_in_range.ensures in
    let word = IsValid-word c.args.i in
    (λ yes. word.0 (in_range.0 yes), λ found. in_range.1 (word.1 found))
