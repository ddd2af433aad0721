use Rattle.std.proofs.Common.{◌≡◌, ◌+◌, ◌∙◌, ◌∷◌, [], ◌++◌, ap, sym, take, length, ℕ, List, subst, rules, vec_len}
use Rattle.std.proofs.lemmas.List.{take_more}
use Rattle.pr_base.specs.declared.bind.Bound.{Bound}
use Rattle.pt_bind.specs.Kept.{IsIndex, IsNoted}
use Rattle.pt_bind.proofs.IndexLemmas.{index_step}
use Rattle.pt_bind.proofs.table.Table.build.Goals as goal

pub loop-bound-preserved : goal.loop-bound-preserved
loop-bound-preserved c =
    let item = c.bound-item.result in
    let rows = c.loop-bound.rows.items in
    let pushed : c.push.new.self.items ≡ rows ++ item ∷ [] = c.in_ok-push.ensures.items ∙ ap (λ b. rows ++ b ∷ []) c.in_ok-copy.ensures in
    let one : rows ++ item ∷ [] ≡ take (c.loop-bound.bound-index + 1) c.args.bounds.now =
    (λ i. c.loop-bound.invariant.0 i ++ c.bound-item.is i ∷ []) ∙ sym (take_more c.args.bounds.now c.loop-bound.bound-index item c.loop-bound-test.true) in
    let counted : c.len.result ≡ length rows = c.len.ensures ∙ (let v : vec_len c.loop-bound.rows ≡ length c.loop-bound.rows.items = search rules in v) in
    let noted : IsNoted c.loop-bound.by_location item.location (length rows) c.note.new.by_location =
    let P : List ℕ → Type 0 = λ b. IsNoted c.loop-bound.by_location b (length rows) c.note.new.by_location in
    let Q : ℕ → Type 0 = λ n. IsNoted c.loop-bound.by_location c.as_slice.result.now n c.note.new.by_location in
    subst P c.as_slice.ensures (subst Q counted c.in_ok-note.ensures) in
    let index = index_step c.loop-bound.by_location c.note.new.by_location rows item c.loop-bound.invariant.1 noted in
    (pushed ∙ one, (let Q : List Bound → Type 0 = λ rows. IsIndex rows c.note.new.by_location in subst Q (sym pushed) index))
