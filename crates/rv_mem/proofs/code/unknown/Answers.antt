use Rattle.std.proofs.Common.{◌≡◌, ◌<◌, ◌∙◌, ap, subst, length}
use Rattle.std.specs.Prelude.{List, replicate, slice_index_or}
use Rattle.std.proofs.lemmas.List.{get_or-replicate, length-replicate}
use Rattle.rv_table.specs.declared.small.Small.{Small}
use Rattle.rv_table.specs.declared.small.Small.TheVariants.{Nothing}
use Rattle.rv_mem.proofs.CodeLemmas.{decoded-none}
use Rattle.rv_mem.proofs.code.unknown.Goals as goal

pub returns-in-Ok : goal.returns-in-Ok
returns-in-Ok c bytes =
    decoded-none c.in-Ok.entries.items bytes (λ k d within.
    let items : c.in-Ok.entries.items ≡ replicate 1024 Nothing = c.in-Ok.ensures.items in
    let low : k < 1024 = subst (λ n. k < n) (ap length items ∙ length-replicate {A = Small} 1024 Nothing) within in
    ap (λ (xs : List Small). slice_index_or xs k d) items ∙ get_or-replicate {A = Small} 1024 k Nothing d low)
