use Rattle.std.proofs.Common.{◌≡◌, ◌∷◌, reverse, Some, sym, ap, ◌∙◌}
use Rattle.std.specs.List.{list_all}
use Rattle.kr_tree.specs.Names.{is_name}
use Rattle.kr_tree.specs.pr_base.Paths.{parts_of}
use Rattle.kr_tree.specs.pr_base.Parts.{parts_left}
use Rattle.kr_text.specs.Reading.{place_below}
use Rattle.kr_text.proofs.WalkLemmas.{placed, placed_root}
use Rattle.kr_text.proofs.walk.place_below.Goals as goal

pub loop-name-init : goal.loop-name-init
loop-name-init c =
    let t = c.args.tree.now in
    let rest = parts_left c.next.new.self in
    let all : parts_left c.into_iter-names.result ≡ parts_of c.bytes.result.now = ap parts_of (c.into_iter-names.ensures.into_iter_gives ∙ c.components.ensures) in
    let same : parts_left c.into_iter-name-iterator.result ≡ rest = ap parts_left c.into_iter-name-iterator.ensures.into_iter_gives in
    let whole : c.in-Some.last.now ∷ rest ≡ parts_of c.bytes.result.now = sym c.in-Some.ensures.steps ∙ all in (
      ap (λ names. placed t (Some 1) c.in-Some.last.now names) same
          ∙ placed_root t c.in-Some.last.now rest
          ∙ ap (λ names. place_below t (reverse names)) whole
          ∙ ap (place_below t) c.bytes.ensures.text,
      ap (λ names. list_all is_name (c.in-Some.last.now ∷ names)) same ∙ ap (list_all is_name) whole ∙ c.bytes.ensures.names,
    )
