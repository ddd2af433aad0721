-- Stacks of paths.
use Rattle.std.proofs.Common.{◌≡◌, ℕ, Bool, true, false, ◌&&◌, List, [], ◌∷◌, ◌++◌, map, refl, sym, ap, ◌∙◌, append_assoc, append-nil, length, nat_eq, arith}
use Rattle.std.proofs.lemmas.Bool.Decides.{nat_tests}
use Rattle.std.specs.List.{list_all}
use Rattle.kr_view.specs.kr_tree.pr_base.Paths.{Component, component_of, has_parts}
use Rattle.kr_walk.specs.declared.rest.Rest.{Rest}
use Rattle.kr_walk.specs.Rests.{parts_left, components_left, has_more, stacked}

-- a path on top is read first
pub stacked_push : (rests : List Rest) (r : Rest) → stacked (rests ++ r ∷ []) ≡ components_left r ++ stacked rests
stacked_push [] r = sym (append-nil (components_left r))
stacked_push (s ∷ rests) r = ap (λ cs. cs ++ components_left s) (stacked_push rests r) ∙ append_assoc (components_left r) (stacked rests) (components_left s)

no_components : (parts : List (List ℕ)) → map component_of parts ≡ [] → has_parts parts ≡ false
no_components [] h = refl
no_components (part ∷ parts) h = absurd cc

none_behind : (front back : List Component) → front ++ back ≡ [] → back ≡ []
none_behind [] back h = h
none_behind (c ∷ front) back h = absurd cc

both_true : (a b : Bool) → (a && b) ≡ true → a ≡ true
both_true true b h = refl
both_true false b h = absurd cc

-- where each path has a component, none is left only where there is no path
pub stacked_none : (rests : List Rest) → list_all has_more rests ≡ true → stacked rests ≡ [] → rests ≡ []
stacked_none [] begun none = refl
stacked_none (r ∷ rests) begun none =
    let more : has_more r ≡ true = both_true (has_more r) (list_all has_more rests) begun in
    let done : has_more r ≡ false = no_components (parts_left r) (none_behind (stacked rests) (components_left r) none) in
    absurd cc

pub none_left : (rests : List Rest) (b : Bool) → list_all has_more rests ≡ true → b ≡ nat_eq (length rests) 0 → (b ≡ true → stacked rests ≡ []) × (stacked rests ≡ [] → b ≡ true)
none_left [] b begun e = (λ _. refl, λ _. e)
none_left (r ∷ rests) b begun e = (λ h. absurd (grind (arith, nat_tests)), λ h. let no = stacked_none (r ∷ rests) begun h in absurd cc)
