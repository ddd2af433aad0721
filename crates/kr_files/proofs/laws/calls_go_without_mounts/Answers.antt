use Rattle.kr_files.proofs.MountLemmas.{file_at-without_mounts, pipe_state-without_mounts, with_file-without_mounts, with_pipe-without_mounts, with_copy-without_mounts, with_copies-without_mounts, closed-without_mounts, seek-without_mounts, append-without_mounts, read-without_mounts, write-without_mounts, removal-without_mounts, rename-without_mounts}
use Rattle.kr_files.proofs.laws.calls_go_without_mounts.Goals as goal

pub returns : goal.returns
returns g c = record {
  looks = file_at-without_mounts;
  states = pipe_state-without_mounts;
  opens = with_file-without_mounts;
  pipes = with_pipe-without_mounts;
  copies = with_copy-without_mounts;
  forks = with_copies-without_mounts;
  closes = closed-without_mounts;
  seeks = seek-without_mounts;
  appends = append-without_mounts;
  reads = read-without_mounts;
  writes = write-without_mounts;
  removes = removal-without_mounts;
  renames = rename-without_mounts;
}
