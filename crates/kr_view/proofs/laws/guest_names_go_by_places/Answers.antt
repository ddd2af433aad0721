use Rattle.kr_view.proofs.GuestNameLemmas.{plain_view, file_source, directory_source, removed_source, below_source, only_below, entries, nameless, processes}
use Rattle.kr_view.proofs.laws.guest_names_go_by_places.Goals as goal

pub returns : goal.returns
returns c = record {
  plain_view = plain_view;
  file_source = file_source;
  nameless = nameless;
  directory_mount = λ space k r sound there kind. record {
    source = λ remembered top. directory_source space k r remembered top sound there kind;
    removed = λ remembered. removed_source space k r remembered there kind;
    below_source = λ i remembered top names. below_source space k i r remembered top names sound there kind;
    only_below = λ i remembered guest. only_below space k i r remembered guest there kind;
    entries = λ i dir name. entries space k i dir r name there kind;
    processes = λ i at remembered. processes space k i at r remembered there kind;
  };
}
