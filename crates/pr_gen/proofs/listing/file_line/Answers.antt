use Rattle.std.proofs.Common.{◌∷◌, [], ◌++◌, sym, ap, ◌∙◌}
use Rattle.kr_text.specs.Canonical.{bytes_field}
use Rattle.pr_gen.proofs.TextLemmas.{file_text, in_parts}
use Rattle.pr_gen.proofs.listing.file_line.Goals as goal

pub returns : goal.returns
returns c =
    c.in_ok-put-2.ensures
    ∙ ap (λ a. a ++ 10 ∷ []) (c.in_ok-bytes_field.ensures ∙ ap (λ a. a ++ bytes_field c.args.bytes.now) (c.in_ok-put.ensures ∙ ap (λ b. c.args.out.now.items ++ b) (c.as_bytes.ensures.value ∙ c.in_ok-front.ensures.ok)))
    ∙ in_parts c.args.out.now.items _ (bytes_field c.args.bytes.now)
    ∙ ap (λ l. c.args.out.now.items ++ l) (sym (file_text c.args.d c.args.f c.args.bytes.now c.ranges.d.fits c.ranges.f.fits))
