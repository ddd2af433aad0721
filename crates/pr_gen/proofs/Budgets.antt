-- What is left of a budget while texts are gone through.
use Rattle.std.proofs.Common.{◌≡◌, ℕ, ◌+◌, ◌-◌, ◌<◌, List, [], ◌∷◌, ◌++◌, All, Some, length, length-append, drop, get_or, arith, refl, ap, sym, subst, ◌∙◌}
use Rattle.std.specs.Prelude.{slice_get}
use Rattle.std.proofs.lemmas.List.{take_at, drop_at, drop_more}
use Rattle.std.proofs.lemmas.List.Elements.{All-append, All-take, All-drop, All-nil}
use Rattle.std.proofs.lemmas.Option.{slice_get_within, get_or_from_slice_get}
use Rattle.pr_gen.specs.declared.conditions.Budget.{Budget}
use Rattle.pr_gen.specs.declared.steps.Arg.{Arg}
use Rattle.pr_gen.specs.declared.steps.ProbeStep.{ProbeStep}
use Rattle.pr_gen.specs.declared.steps.ProbeStep.TheVariants.{Call, SetSp}
use Rattle.pr_gen.specs.Steps.{bytes_in, texts, texts_in, texts_of, IsWithoutZeros}
use Rattle.pr_gen.specs.Budget.{Fits, left_after, step_texts}
use Rattle.pr_gen.proofs.Bounds.{bytes_in-append}

-- of these texts the first have gone from one budget to another, and the rest is still to come
pub record Goes (from : Budget) (all : List (List ℕ)) (to : Budget) (rest : List (List ℕ)) : Type 0 where
  pub fits : Fits from all → Fits to rest
  pub fitted : Fits to rest → Fits from all
  pub left : left_after to rest ≡ left_after from all

fits_front : (b : Budget) (xs ys : List (List ℕ)) → Fits b (xs ++ ys) → Fits b xs
fits_front b xs ys fits = record {
  count = omega (arith, length-append xs ys, fits.count);
  size = omega (arith, bytes_in-append xs ys, fits.size);
  clean = subst (All IsWithoutZeros) (take_at xs ys (length xs) refl) (All-take IsWithoutZeros (length xs) (xs ++ ys) fits.clean);
}

fits_rest : (b : Budget) (xs ys : List (List ℕ)) → Fits b (xs ++ ys) → Fits (left_after b xs) ys
fits_rest b xs ys fits = record {
  count = omega (arith, length-append xs ys, fits.count);
  size = omega (arith, bytes_in-append xs ys, fits.size);
  clean = subst (All IsWithoutZeros) (drop_at xs ys (length xs) refl) (All-drop IsWithoutZeros (length xs) (xs ++ ys) fits.clean);
}

fits_both : (b : Budget) (xs ys : List (List ℕ)) → Fits b xs → Fits (left_after b xs) ys → Fits b (xs ++ ys)
fits_both b xs ys front rest = record {
  count = omega (arith, length-append xs ys, front.count, rest.count);
  size = omega (arith, bytes_in-append xs ys, front.size, rest.size);
  clean = All-append IsWithoutZeros xs ys front.clean rest.clean;
}

left_after-append : (b : Budget) (xs ys : List (List ℕ)) → left_after (left_after b xs) ys ≡ left_after b (xs ++ ys)
left_after-append b xs ys =
    let count : b.texts - length xs - length ys ≡ b.texts - length (xs ++ ys) = omega (arith, length-append xs ys) in
    let size : b.bytes - bytes_in xs - bytes_in ys ≡ b.bytes - bytes_in (xs ++ ys) = omega (arith, bytes_in-append xs ys) in
    cc

left_after-nil : (b : Budget) → left_after b [] ≡ b
left_after-nil b =
    let count : b.texts - 0 ≡ b.texts = omega arith in
    let size : b.bytes - 0 ≡ b.bytes = omega arith in
    rw (count, size) refl

pub goes_none : (from : Budget) (all : List (List ℕ)) → Goes from all from all
goes_none from all = record { fits = λ h. h; fitted = λ h. h; left = refl }

-- the next texts fit, and go
pub goes_more : (from to next : Budget) (all rest xs ys : List (List ℕ)) → Goes from all to rest → rest ≡ xs ++ ys → Fits to xs × (next ≡ left_after to xs) → Goes from all next ys
goes_more from to next all rest xs ys goes is fit =
    let split : Goes from all to (xs ++ ys) = subst (Goes from all to) is goes in
    subst (λ (b : Budget). Goes from all b ys) (sym fit.1) (record {
      fits = λ h. fits_rest to xs ys (split.fits h);
      fitted = λ h. split.fitted (fits_both to xs ys fit.0 h);
      left = left_after-append to xs ys ∙ split.left;
    })

-- the next texts don't fit
pub goes_wrong : (from to : Budget) (all rest xs ys : List (List ℕ)) → Goes from all to rest → rest ≡ xs ++ ys → (Fits to xs → ⊥) → Fits from all → ⊥
goes_wrong from to all rest xs ys goes is wrong h = wrong (fits_front to xs ys (subst (Fits to) is (goes.fits h)))

fits_nil : (b : Budget) → Fits b []
fits_nil b = record { count = omega arith; size = omega arith; clean = All-nil IsWithoutZeros }

-- all have gone
pub goes_all : (from to : Budget) (all rest : List (List ℕ)) → Goes from all to rest → rest ≡ [] → Fits from all × (to ≡ left_after from all)
goes_all from to all rest goes is =
    let done : Goes from all to [] = subst (Goes from all to) is goes in
    (done.fitted (fits_nil to), sym (left_after-nil to) ∙ done.left)

-- ---- the next texts

pub next_text : (ts : List (List ℕ)) (k : ℕ) (t : List ℕ) → slice_get ts k ≡ Some t → drop k ts ≡ (t ∷ []) ++ drop (k + 1) ts
next_text ts k t here =
    drop_more ts k t (slice_get_within ts k t here) ∙ ap (λ (u : List ℕ). u ∷ drop (k + 1) ts) (get_or_from_slice_get ts k t t here)

pub next_arg : (args : List Arg) (k : ℕ) (arg : Arg) → k < length args → arg ≡ get_or args k arg → texts_in (drop k args) ≡ texts_of arg ++ texts_in (drop (k + 1) args)
next_arg args k arg within is = ap texts_in (drop_more args k arg within) ∙ ap (λ (a : Arg). texts_of a ++ texts_in (drop (k + 1) args)) (sym is)

texts-cons : (step : ProbeStep) (rest : List ProbeStep) → texts (step ∷ rest) ≡ step_texts step ++ texts rest
texts-cons (Call number args who show) rest = refl
texts-cons (SetSp sp) rest = refl

pub next_step : (steps : List ProbeStep) (k : ℕ) (step : ProbeStep) → k < length steps → step ≡ get_or steps k step → texts (drop k steps) ≡ step_texts step ++ texts (drop (k + 1) steps)
next_step steps k step within is =
    ap texts (drop_more steps k step within) ∙ (texts-cons (get_or steps k step) (drop (k + 1) steps) ∙ ap (λ (s : ProbeStep). step_texts s ++ texts (drop (k + 1) steps)) (sym is))
