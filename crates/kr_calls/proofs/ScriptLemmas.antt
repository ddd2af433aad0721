-- The first line of a script, put together.
use Rattle.std.proofs.Common.{◌≡◌, ◌≢◌, ℕ, false, cond, List, [], ◌∷◌, Some, None, refl, sym, ap, ◌∙◌}
use Rattle.std.specs.Prelude.{◌==◌}
use Rattle.std.specs.List.{list_any}
use Rattle.kr_calls.specs.Scripts.{script_of, is_cut, line_of, before, is_blank, from_blank, without_leading_blanks, without_trailing_blanks, parted, interpreter_of}

parted_some : (words : List ℕ) → words ≢ [] → Some (before is_blank words, without_leading_blanks (from_blank words)) ≡ parted words
parted_some [] some = absurd (some refl)
parted_some (b ∷ words) some = refl

pub script_found : (head line words interpreter argument : List ℕ) → is_cut head ≡ false → line ≡ line_of head → list_any (λ b. b == 0) line ≡ false
    → words ≡ without_trailing_blanks (without_leading_blanks line) → words ≢ [] → interpreter ≡ before is_blank words → argument ≡ without_leading_blanks (from_blank words)
    → Some (interpreter, argument) ≡ script_of head
script_found head line words interpreter argument cut is zero said some first rest =
    (λ i. Some (first i, rest i)) ∙ parted_some words some ∙ ap parted said
    ∙ sym (ap (λ b. cond b None (parted (without_trailing_blanks (without_leading_blanks line)))) zero)
    ∙ ap interpreter_of is
    ∙ sym (ap (λ b. cond b None (interpreter_of (line_of head))) cut)
