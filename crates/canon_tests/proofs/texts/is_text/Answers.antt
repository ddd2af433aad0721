use Rattle.std.proofs.Common.{◌∷◌, ◌++◌, [], ◌∙◌, ap}
use Rattle.std.proofs.lemmas.List.{append_assoc}
use Rattle.std.proofs.lemmas.List.Elements.{All-cons}
use Rattle.pt_results.specs.pr_base.Paths.{slash, IsPart}
use Rattle.canon_tests.proofs.texts.is_text.Goals as goal

pub loop-part-preserved : goal.loop-part-preserved
loop-part-preserved c =
    let inv = c.loop-part.invariant in
    let part = c.in-Some.part.now in
    let is : IsPart part = c.is_part.ensures c.if-not-is_part.false in
    let whole = c.in_ok-append-2.ensures.ok ∙ ap (λ b. b ++ part) c.in_ok-append.ensures.ok in
    record {
      names = part ∷ inv.names;
      are_parts = All-cons IsPart part inv.names is inv.are_parts;
      written = whole ∙ append_assoc c.loop-part.whole (slash ∷ []) part ∙ ap (λ b. b ++ slash ∷ part) inv.written;
    }
