use Rattle.std.proofs.Common.{◌≡◌, ◌≤◌, ◌∙◌, ℕ, List, length, subst, sym, true}
use Rattle.std.specs.List.{list_all}
use Rattle.pt_canon.specs.ProcessLinks.{is_digit}
use Rattle.pt_canon.proofs.NumberLemmas.{digits_text, number_unparsed, some_bytes}
use Rattle.pt_canon.proofs.link.number_in.Goals as goal

pub returns-in_default : goal.returns-in_default
returns-in_default c = absurd (c.in_default.ensures.cases.0 (digits_text c.args.name.now (sym c.are_digits.ensures ∙ c.if-not-are_digits.false)))

pub returns-in-Err : goal.returns-in-Err
returns-in-Err c =
    let same = c.in-Ok.ensures.cases.0 in
    let P : List ℕ → Type 0 = λ t. list_all is_digit t ≡ true in
    let Q : List ℕ → Type 0 = λ t. 1 ≤ length t in
    let all = subst P (sym same) (sym c.are_digits.ensures ∙ c.if-not-are_digits.false) in
    let some = subst Q (sym same) (some_bytes c.args.name.now c.is_empty.result c.is_empty.ensures c.if-is_empty.false) in
    rw (← same) (number_unparsed c.in-Ok.digits.now c.in-Err.field-0 all some c.in-Err.ensures.value.0)
