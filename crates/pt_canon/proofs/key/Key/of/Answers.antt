use Rattle.std.proofs.Common.{◌≡◌, ◌∙◌, [], ◌++◌, ◌∷◌, ap, arith}
use Rattle.pt_canon.specs.Keys.{key_bytes}
use Rattle.pt_canon.specs.Remembering.{key_of}
use Rattle.pt_canon.proofs.KeyLemmas.{base_fits, key_built, key_found, key_kept}
use Rattle.pt_canon.proofs.key.Key.of.Goals as goal

built : (c : goal.After-into_vec) → c.into_vec.result.items ≡ key_bytes (key_of c.args.base.now c.args.path.now c.args.mode)
built c =
    key_built c.args.base.now c.args.path.now c.args.mode c.to_le_bytes.result c.number_of.result c.into_vec.result.items c.to_le_bytes.ensures c.number_of.ensures
    (c.into_vec.ensures ∙ c.in_ok-append-3.ensures.ok ∙ ap (λ bytes. bytes ++ c.args.path.now) (c.in_ok-append-2.ensures.ok ∙ ap (λ bytes. bytes ++ c.args.base.now) (c.in_ok-append.ensures.ok ∙ ap (λ bytes. bytes ++ c.number_of.result ∷ []) c.in_ok-bytes.ensures)))

pub invariant_of-result : goal.invariant_of-result
invariant_of-result c =
    let bytes = c.into_vec.result in
    let fits = base_fits c.args.base.now c.args.path.now c.args.mode bytes.items (built c) (omega (arith, bytes.ok.0, bytes.ok.1, bytes.small)) in
    key_kept bytes.items (key_of c.args.base.now c.args.path.now c.args.mode) fits (built c)

pub returns : goal.returns
returns c =
    let bytes = c.into_vec.result in
    let fits = base_fits c.args.base.now c.args.path.now c.args.mode bytes.items (built c) (omega (arith, bytes.ok.0, bytes.ok.1, bytes.small)) in
    key_found bytes.items (key_of c.args.base.now c.args.path.now c.args.mode) fits (built c)
