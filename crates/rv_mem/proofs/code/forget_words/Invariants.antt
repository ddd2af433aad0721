use Rattle.std.proofs.Common.{◌≡◌, ◌⊎◌, ◌<◌, ◌≤◌, ℕ, length}
use Rattle.std.specs.Prelude.{slice_index_or}
use Rattle.rv_table.specs.declared.small.Small.{Small}
use Rattle.rv_table.specs.declared.small.Small.TheVariants.{Nothing}
use Rattle.rv_mem.proofs.code.forget_words.Given as goal

abbrev pub invariant-loop-index : goal.invariant-loop-index
invariant-loop-index l = record {
  forgotten : (k : ℕ) (d : Small) → l.first ≤ k → k < l.index → k < length l.entries.items → slice_index_or l.entries.items k d ≡ Nothing;
  kept : (k : ℕ) (d : Small) → (k < l.first) ⊎ (l.end ≤ k) → slice_index_or l.entries.items k d ≡ slice_index_or l.fn.entries.items k d;
  len : length l.entries.items ≡ length l.fn.entries.items;
}
