-- Escapes read from the first byte on.
use Rattle.std.proofs.Common.{◌≡◌, ℕ, List, [], ◌∷◌, ◌++◌, length, true, false, Option, Some, None, refl, ap, ◌∙◌, arith, append_assoc, append-nil}
use Rattle.std.specs.Prelude.{nat_eq, if◌then◌else◌}
use Rattle.std.specs.Option.{option_map}
use Rattle.std.proofs.lemmas.Bool.{false_from_ne_true, eqb-true}
use Rattle.kr_text.specs.Fields.{is_plain, byte_of, unescaped, behind_percent, onto, plain}

pub no_digits : (text : List ℕ) → length text ≡ 0 → behind_percent text ≡ None
unfolding unescaped
no_digits [] none = refl
no_digits (b ∷ text) none = absurd (omega (arith, none))

pub one_digit : (text rest : List ℕ) (high : ℕ) → text ≡ high ∷ rest → length rest ≡ 0 → behind_percent text ≡ None
unfolding unescaped
one_digit text [] high e none = rw e refl
one_digit text (b ∷ rest) high e none = absurd (omega (arith, none))

onto_some : (b : Option ℕ) (x : ℕ) (bytes : Option (List ℕ)) → b ≡ Some x → onto b bytes ≡ option_map (λ xs. x ∷ xs) bytes
onto_some b x bytes e = rw e refl

onto_none : (b : Option ℕ) (bytes : Option (List ℕ)) → b ≡ None → onto b bytes ≡ None
onto_none b bytes e = rw e refl

behind_two : (high low : ℕ) (rest : List ℕ) → behind_percent (high ∷ low ∷ rest) ≡ onto (byte_of high low) (unescaped rest)
unfolding unescaped
behind_two high low rest = refl

pub two_digits : (text behind rest : List ℕ) (high low b : ℕ) → text ≡ high ∷ behind → behind ≡ low ∷ rest → byte_of high low ≡ Some b → behind_percent text ≡ option_map (λ bytes. b ∷ bytes) (unescaped rest)
two_digits text behind rest high low b e f g = rw e (rw f (behind_two high low rest ∙ onto_some _ b _ g))

pub no_byte : (text behind rest : List ℕ) (high low : ℕ) → text ≡ high ∷ behind → behind ≡ low ∷ rest → byte_of high low ≡ None → behind_percent text ≡ None
no_byte text behind rest high low e f g = rw e (rw f (behind_two high low rest ∙ onto_none _ _ g))

pub at_percent : (text behind : List ℕ) (first : ℕ) → text ≡ first ∷ behind → first ≡ 37 → unescaped text ≡ behind_percent behind
unfolding unescaped
at_percent text behind first e is = rw e (rw is refl)

unescaped_other : (first : ℕ) (behind : List ℕ) → (first ≡ 37 → ⊥) → unescaped (first ∷ behind) ≡ onto (plain first) (unescaped behind)
unfolding unescaped
unescaped_other first behind isnt =
    let differs : nat_eq first 37 ≡ false = false_from_ne_true _ (λ t. isnt (eqb-true _ _ t)) in
    ap (λ t. elim t as (λ _. Option (List ℕ)) [ true ↦ behind_percent behind | false ↦ onto (plain first) (unescaped behind) ]) differs

pub at_plain : (text behind : List ℕ) (first : ℕ) → text ≡ first ∷ behind → (first ≡ 37 → ⊥) → is_plain first ≡ true → unescaped text ≡ option_map (λ bytes. first ∷ bytes) (unescaped behind)
at_plain text behind first e isnt is =
    let stands : plain first ≡ Some first = ap (λ t. if t then Some first else None) is in
    ap unescaped e ∙ unescaped_other first behind isnt ∙ onto_some (plain first) first (unescaped behind) stands

pub at_other : (text behind : List ℕ) (first : ℕ) → text ≡ first ∷ behind → (first ≡ 37 → ⊥) → is_plain first ≡ false → unescaped text ≡ None
at_other text behind first e isnt is =
    let stands : plain first ≡ None = ap (λ t. if t then Some first else None) is in
    ap unescaped e ∙ unescaped_other first behind isnt ∙ onto_none (plain first) (unescaped behind) stands

pub ruleset no_byte_read = (no_digits, one_digit)

-- one byte more read
pub one_more : (bytes : List ℕ) (b : ℕ) (left : Option (List ℕ)) → option_map (λ more. (bytes ++ b ∷ []) ++ more) left ≡ option_map (λ more. bytes ++ more) (option_map (λ more. b ∷ more) left)
one_more bytes b None = refl
one_more bytes b (Some more) = ap Some (append_assoc bytes (b ∷ []) more)

pub all_read : (bytes rest : List ℕ) → length rest ≡ 0 → option_map (λ more. bytes ++ more) (unescaped rest) ≡ Some bytes
unfolding unescaped
all_read bytes [] none = ap Some (append-nil bytes)
all_read bytes (b ∷ rest) none = absurd (omega (arith, none))
