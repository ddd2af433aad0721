use Rattle.std.proofs.Common.{ap, is_some, nat_lt}
use Rattle.std.specs.FinMap as map
use Rattle.std.specs.Prelude.{◌&&◌}
use Rattle.kr_files.proofs.DescriptorLemmas.{lowest_free-meanings, lowest_pair-meanings}
use Rattle.kr_files.proofs.laws.lowest_free_goes_by_the_meaning.Goals as goal

pub returns : goal.returns
returns g c = record {
  one = lowest_free-meanings;
  pair = lowest_pair-meanings;
  pipe = λ t d. ap (λ o. is_some o && nat_lt (map.len t.pipes) 4096) (lowest_pair-meanings d);
}
