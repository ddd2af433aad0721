use Rattle.std.proofs.Common.{◌≡◌, ◌∷◌, [], ◌++◌, append_assoc, refl, ap, ◌∙◌}
use Rattle.pt_bind.specs.pr_base.Paths.{components_of, slash}
use Rattle.pt_bind.proofs.pr_base.PathLemmas.{components_seam}
use Rattle.kr_mounts.proofs.location.Locating.follow.Goals as goal

pub returns : goal.returns
returns c =
    let target = c.args.target.now in
    let behind = c.args.behind.now in
    let whole : c.append-2.new.self ≡ target ++ slash ∷ behind =
    c.in_ok-append-2.ensures.ok ∙ ap (λ b. b ++ behind) (c.in_ok-append.ensures.ok ∙ ap (λ b. b ++ slash ∷ []) c.in_ok-rest.ensures) ∙ append_assoc target (slash ∷ []) behind in
    (c.begin-spot.ensures.spot, ap components_of whole ∙ components_seam target behind, refl, refl, c.begin-spot.ensures.below)
