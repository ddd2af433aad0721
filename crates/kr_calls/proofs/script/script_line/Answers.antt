use Rattle.std.proofs.Common.{◌≡◌, ◌≢◌, ◌∙◌, ◌-◌, [], sym, ap, length, take, drop, arith, length-drop, take_all}
use Rattle.std.proofs.lemmas.Bool.Decides.{nat_tests}
use Rattle.kr_calls.specs.Scripts.{before, is_newline, without_leading_blanks, without_trailing_blanks}
use Rattle.kr_calls.proofs.ScriptLemmas.{script_found}
use Rattle.kr_calls.proofs.script.script_line.Goals as goal

pub returns : goal.returns
returns c =
    let some : c.skip_last_blanks-words.result.now ≢ [] = λ e. let none = ap length e in let not = sym c.is_empty.ensures ∙ c.if-is_empty.false in grind (arith, nat_tests) in
    let whole : take (length c.args.head.now - 2) (drop 2 c.args.head.now) ≡ drop 2 c.args.head.now = take_all _ _ (omega (arith, length-drop 2 c.args.head.now)) in
    let line = c.up_to_newline-line.ensures ∙ ap (before is_newline) whole in
    script_found c.args.head.now c.up_to_newline-line.result.now c.skip_last_blanks-words.result.now _ _
    (sym c.is_cut.ensures ∙ c.if-is_cut.false) line (sym c.contains.ensures.value ∙ c.if-contains.false) (c.skip_last_blanks-words.ensures ∙ ap without_trailing_blanks c.skip_blanks.ensures) some c.split_at_blank.ensures.before
    (c.skip_blanks-2.ensures ∙ ap without_leading_blanks c.split_at_blank.ensures.from)
