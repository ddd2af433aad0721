use Rattle.std.proofs.Common.{◌≡◌, List, ℕ, sym, ◌∙◌, subst, true}
use Rattle.kr_procfs.specs.Decimals.{is_decimal}
use Rattle.kr_procfs.proofs.DecimalLemmas.{number_named-other, named-parsed, number_named-unparsed, text-decimal}
use Rattle.kr_procfs.proofs.decimal.number_of.Goals as goal

pub returns-then-not-is_decimal : goal.returns-then-not-is_decimal
returns-then-not-is_decimal c = sym (number_named-other c.args.name.now (sym c.is_decimal.ensures ∙ c.if-not-is_decimal.true))

pub returns-in_default : goal.returns-in_default
returns-in_default c = absurd (c.in_default.ensures.cases.0 (text-decimal c.args.name.now (sym c.is_decimal.ensures ∙ c.if-not-is_decimal.false)))

pub returns-in-Ok-parse : goal.returns-in-Ok-parse
returns-in-Ok-parse c =
    let same = c.in-Ok.ensures.cases.0 in
    let P : List ℕ → Type 0 = λ t. is_decimal t ≡ true in
    let decimal = subst P (sym same) (sym c.is_decimal.ensures ∙ c.if-not-is_decimal.false) in
    rw (← same) (sym (named-parsed ℕ c.in-Ok.digits.now c.in-Ok-parse.number decimal c.in-Ok-parse.ensures.value.0))

pub returns-in-Err : goal.returns-in-Err
returns-in-Err c =
    let same = c.in-Ok.ensures.cases.0 in
    let P : List ℕ → Type 0 = λ t. is_decimal t ≡ true in
    let decimal = subst P (sym same) (sym c.is_decimal.ensures ∙ c.if-not-is_decimal.false) in
    rw (← same) (sym (number_named-unparsed c.in-Ok.digits.now c.in-Err.field-0 decimal c.in-Err.ensures.value.0))
