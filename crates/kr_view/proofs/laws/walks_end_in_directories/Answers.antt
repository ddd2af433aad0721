use Rattle.kr_view.proofs.DirectoryLemmas.{in_directory, found_itself, slashes_end, empty_ends, jumped_to}
use Rattle.kr_view.proofs.laws.walks_end_in_directories.Goals as goal

pub returns : goal.returns
returns c = record {
  directory = λ around mode base path t stands some. in_directory around mode base path stands some t;
  itself = found_itself;
  slashes = slashes_end;
  empty = empty_ends;
  jumped = jumped_to;
}
