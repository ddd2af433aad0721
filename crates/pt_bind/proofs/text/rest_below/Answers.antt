use Rattle.std.proofs.Common.{◌≡◌, ◌≢◌, ◌++◌, List, ℕ, ◌∙◌, ap, sym, Some, None, refl}
use Rattle.std.proofs.lemmas.Bool.Decides.{Decides-eqb}
use Rattle.std.proofs.lemmas.Slice.Eq.{strip_prefix_is}
use Rattle.pt_bind.specs.Binding.{names_of}
use Rattle.pt_bind.proofs.ByteLemmas.{spelled_parts, not_in_front, within_name, in_front}
use Rattle.pt_bind.proofs.text.rest_below.Goals as goal

pub returns-in_default : goal.returns-in_default
returns-in_default c =
    let other : (more : List ℕ) → c.below_root.result.now ≢ c.below_root-2.result.now ++ more =
    strip_prefix_is Decides-eqb c.below_root.result.now c.below_root-2.result.now None c.in_default.ensures.cases in
    not_in_front (names_of c.args.top.now) (names_of c.args.text.now)
    (λ more e. other more (c.below_root.ensures ∙ e ∙ ap (λ f. f ++ more) (sym c.below_root-2.ensures)))

pub returns-then-not-begins_slash : goal.returns-then-not-begins_slash
returns-then-not-begins_slash c =
    let cut : c.below_root.result.now ≡ c.below_root-2.result.now ++ c.in-Some.rest.now =
    strip_prefix_is Decides-eqb c.below_root.result.now c.below_root-2.result.now (Some c.in-Some.rest) c.in-Some.ensures.cases in
    within_name (names_of c.args.top.now) (names_of c.args.text.now) c.in-Some.rest.now
    (sym c.below_root.ensures ∙ cut ∙ ap (λ f. f ++ c.in-Some.rest.now) c.below_root-2.ensures) (λ b. let never = c.if-not-begins_slash.ensures.1 b in absurd (let h : ⊥ = cc in h))

pub returns : goal.returns
returns c =
    let cut : c.below_root.result.now ≡ c.below_root-2.result.now ++ c.in-Some.rest.now =
    strip_prefix_is Decides-eqb c.below_root.result.now c.below_root-2.result.now (Some c.in-Some.rest) c.in-Some.ensures.cases in
    in_front (names_of c.args.top.now) (names_of c.args.text.now) c.in-Some.rest.now
    (spelled_parts c.args.top.now c.requires.top) (spelled_parts c.args.text.now c.requires.text)
    (sym c.below_root.ensures ∙ cut ∙ ap (λ f. f ++ c.in-Some.rest.now) c.below_root-2.ensures) (c.if-not-begins_slash.ensures.0 refl)
