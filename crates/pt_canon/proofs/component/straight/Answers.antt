use Rattle.std.proofs.Common.{◌≡◌, ◌∙◌, ◌∷◌, [], List, ℕ, map, ap, subst, sym}
use Rattle.std.specs.List.{All}
use Rattle.std.proofs.lemmas.List.Elements.{All-head}
use Rattle.pt_bind.specs.pr_base.Parts.{parts_left}
use Rattle.pt_bind.specs.pr_base.Paths.{IsComponent, component_of, parts_of}
use Rattle.pt_canon.specs.Components.{straight}
use Rattle.pt_canon.proofs.AlongLemmas.{parts_have_components, parts_left_fine, straight_on}
use Rattle.pt_canon.proofs.component.straight.Goals as goal

pub loop-part-init : goal.loop-part-init
loop-part-init c =
    let begun = ap parts_of (c.into_iter-part-iterator.ensures.into_iter_gives ∙ c.components-part-items.ensures) in
    record {
      leads = (λ i. straight ((c.in_ok-text.ensures ∙ c.text.ensures.names) i) (map component_of (begun i)));
      fine = parts_have_components c.args.path.now (parts_left c.into_iter-part-iterator.result) (sym begun);
    }

pub beyond-requires : goal.beyond-requires
beyond-requires c =
    let part = c.in-Some.part.now in
    let P : List (List ℕ) → Type 0 = λ parts. All IsComponent (map component_of parts) in
    let fine = subst P c.in-Some.ensures.steps c.loop-part.invariant.fine in
    subst IsComponent (sym c.component_of.ensures) (All-head IsComponent (component_of part) (map component_of (parts_left c.next.new.self)) fine)

pub loop-part-preserved : goal.loop-part-preserved
loop-part-preserved c =
    let inv = c.loop-part.invariant in
    let text = c.loop-part.text in
    let part = c.in-Some.part.now in
    let more = parts_left c.next.new.self in
    record {
      leads = ap (λ t. straight t (map component_of more)) (c.in_ok-text-2.ensures ∙ ap (λ k. straight text (k ∷ [])) c.component_of.ensures) ∙ straight_on text (component_of part) (map component_of more)
          ∙ ap (λ ps. straight text (map component_of ps)) (sym c.in-Some.ensures.steps) ∙ inv.leads;
      fine = parts_left_fine part (parts_left c.loop-part.part-iterator) more c.in-Some.ensures.steps inv.fine;
    }

pub returns : goal.returns
returns c = ap (λ ps. straight c.loop-part.text (map component_of ps)) (sym c.in-None.ensures.steps.0) ∙ c.loop-part.invariant.leads
