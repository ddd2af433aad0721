-- The draws of a generated case, one after the other, from its number on.
use Rattle.std.specs.Prelude.{ℕ, zero, suc, ◌+◌, ◌*◌, ◌/◌, ◌%◌, List, [], ◌∷◌, ◌++◌}

-- the state behind a draw: a linear congruential generator of 64 bits
abbrev pub stepped : ℕ → ℕ
stepped x = (x * 6364136223846793005 + 1442695040888963407) % 18446744073709551616

-- the number below `limit` that a state gives, by its 31 highest bits
abbrev pub drawn : ℕ → ℕ → ℕ
drawn limit x = x / 8589934592 % limit

-- the state behind some draws
unfoldable pub after : ℕ → ℕ → ℕ
after zero x = x
after (suc k) x = stepped (after k x)

-- small letters, each a draw
unfoldable pub letters : ℕ → ℕ → List ℕ
letters zero x = []
letters (suc k) x = letters k x ++ (97 + drawn 26 (after (suc k) x)) ∷ []

-- a file's bytes: a draw for their number, and one for each; and the state behind them
abbrev pub length_of : ℕ → ℕ
length_of x = drawn 64 (stepped x)

abbrev pub file_bytes : ℕ → List ℕ
file_bytes x = letters (length_of x) (stepped x)

abbrev pub after_file : ℕ → ℕ
after_file x = after (length_of x) (stepped x)

-- behind some files, and behind the files of some directories
unfoldable pub after_files : ℕ → ℕ → ℕ
after_files zero x = x
after_files (suc k) x = after_file (after_files k x)

unfoldable pub after_directories : ℕ → ℕ → ℕ
after_directories zero x = x
after_directories (suc d) x = after_files 256 (after_directories d x)
