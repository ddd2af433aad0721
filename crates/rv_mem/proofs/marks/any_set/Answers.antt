use Rattle.std.proofs.Common.{◌≡◌, ◌⊎◌, inl, inr, ◌∙◌, ◌≤◌, ◌<◌, ◌+◌, ℕ, List, false, sym, ap, arith}
use Rattle.std.proofs.lemmas.Bool.{cases_eq}
use Rattle.rv_mem.specs.Marks.{is_set}
use Rattle.rv_mem.proofs.marks.any_set.Goals as goal

-- one more index at which none is set
one_more : (words : List ℕ) (from index : ℕ) → ((i : ℕ) → from ≤ i → i < index → is_set words i ≡ false) → is_set words index ≡ false → (i : ℕ) → from ≤ i → i < index + 1 → is_set words i ≡ false
one_more words from index none here i low high = at (cases_eq i index)
  where
    at : (i ≡ index) ⊎ (i ≡ index → ⊥) → is_set words i ≡ false
    at (inl e) = ap (is_set words) e ∙ here
    at (inr other) = none i low (omega (arith, high, other))

pub loop-index-preserved : goal.loop-index-preserved
loop-index-preserved c = one_more c.args.words.now c.args.from c.loop-index.index c.loop-index.invariant (sym c.is_set.ensures ∙ c.if-is_set.false)
