-- What is kept of a loose run to tell whether it is quiet: of each call that was begun how often the tree was altered before, so that it shows what
-- others altered since.
use Rattle.std.specs.Prelude.{ℕ, ◌==◌, ◌&&◌, ◌||◌, not, Bool, true, false, List, [], ◌∷◌, ◌++◌, Option}
use Rattle.std.specs.List.{filter, find}
use Rattle.std.specs.Option.{option_map, option_map_or}
use Rattle.kr_loose.specs.declared.judge.Counted.{Counted}
use Rattle.kr_loose.specs.declared.judge.Counts.{Counts}

abbrev pub is_counted : ℕ → Counted → Bool
is_counted pid c = c.pid == pid

-- what was counted for the call of a process
abbrev pub counts_of : ℕ → List Counted → Option Counts
counts_of pid counted = option_map (λ c. c.counts) (find (is_counted pid) counted)

-- nothing is kept of it any more
abbrev pub uncounted : ℕ → List Counted → List Counted
uncounted pid counted = filter (λ c. not (is_counted pid c)) counted

-- it was counted for it
abbrev pub counted_at : ℕ → Counts → List Counted → List Counted
counted_at pid counts counted = uncounted pid counted ++ record { pid = pid; counts = counts } ∷ []

-- whether the shape of the tree was altered from one to the other, or for an execve(2) the bytes of files
abbrev pub differs : (exec : Bool) → (before now : Counts) → Bool
differs exec before now = not (before.shape == now.shape) || (exec && not (before.bytes == now.bytes))

-- since a process's call was begun
abbrev pub is_altered : ℕ → (exec : Bool) → (now : Counts) → List Counted → Bool
is_altered pid exec now counted = option_map_or (λ before. differs exec before now) (counts_of pid counted) false

-- behind a call, by whether it is done; who waits is counted for anew, since what it did itself was done by no other
abbrev pub counted_after : ℕ → (done : Bool) → (now : Counts) → List Counted → List Counted
counted_after pid true now counted = uncounted pid counted
counted_after pid false now counted = counted_at pid now counted
