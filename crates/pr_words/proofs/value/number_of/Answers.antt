use Rattle.std.proofs.Common.{◌≡◌, sym, ◌∙◌, subst, true, List, ℕ, arith}
use Rattle.pr_words.specs.Values.{is_numeral}
use Rattle.pr_words.proofs.NumberLemmas.{numeral_is_text, number_of-unparsed}
use Rattle.pr_words.proofs.value.number_of.Goals as goal

pub returns-in_default : goal.returns-in_default
returns-in_default c = absurd (c.in_default.ensures.cases.0 (numeral_is_text c.args.digits c.args.text.now (sym c.is_numeral.ensures ∙ c.if-not-is_numeral.false)))

pub returns-in_default-parse : goal.returns-in_default-parse
returns-in_default-parse c =
    let same = c.in-Ok.ensures.cases.0 in
    let P : List ℕ → Type 0 = λ t. is_numeral c.args.digits t ≡ true in
    let numeral = subst P (sym same) (sym c.is_numeral.ensures ∙ c.if-not-is_numeral.false) in
    rw (← same) (sym (number_of-unparsed c.args.digits c.args.least c.args.most c.in-Ok.text.now c.in_default-parse.field-0 (omega arith) numeral c.in_default-parse.ensures.value.0))
