-- The structure `stat` of stat(2), as the generic headers of Linux lay it out for 64 bits.
use Rattle.std.specs.Prelude.{ℕ, List, [], ◌∷◌, replicate}
use Rattle.std.specs.Int.{to_le_bytes, w32, w64}
use Rattle.std.proofs.Math.Seq.{sets}
use Rattle.kr_calls.specs.declared.stat.Stat.{Stat}

-- bytes with fields laid over them, each at its place
abbrev pub laid : List ℕ → List (ℕ × List ℕ) → List ℕ
laid bytes [] = bytes
laid bytes (field ∷ fields) = laid (sets bytes field.0 field.1) fields

abbrev pub stat_fields : Stat → List (ℕ × List ℕ)
stat_fields s =
    (0, to_le_bytes w64 s.dev) ∷
    (8, to_le_bytes w64 s.ino) ∷
    (16, to_le_bytes w32 s.mode) ∷
    (20, to_le_bytes w32 s.nlink) ∷
    (24, to_le_bytes w32 s.uid) ∷
    (28, to_le_bytes w32 s.gid) ∷
    (32, to_le_bytes w64 s.rdev) ∷
    (48, to_le_bytes w64 s.size) ∷
    (56, to_le_bytes w32 s.blksize) ∷
    (64, to_le_bytes w64 s.blocks) ∷ []

-- all other bytes are 0
abbrev pub stat_layout : Stat → List ℕ
stat_layout s = laid (replicate 128 0) (stat_fields s)
