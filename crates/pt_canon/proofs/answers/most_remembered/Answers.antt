use Rattle.std.proofs.Common.{◌≡◌, ℕ, Option, Some, None, MatchOption, IsSome, arith, rules, subst}
use Rattle.std.specs.NonZero.{non_zero_usize_get}
use Rattle.std.specs.declared.num.NonZeroUsize.{NonZeroUsize}
use Rattle.pt_canon.proofs.answers.most_remembered.Goals as goal

abbrev IsMost : Option NonZeroUsize → Type 0
IsMost r = MatchOption r (◌≡◌ {A = ℕ} 256 0) (λ x. non_zero_usize_get x ≡ 256)

there : (r : Option NonZeroUsize) → IsMost r → IsSome r
there None none = absurd (omega arith)
there (Some x) is = search rules

pub unwrap-requires : goal.unwrap-requires
unwrap-requires c = there c.new.result c.new.ensures

pub returns : goal.returns
returns c = subst IsMost c.unwrap.ensures c.new.ensures
