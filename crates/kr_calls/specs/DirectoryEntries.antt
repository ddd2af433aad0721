-- The structure `linux_dirent64` of getdents64(2).
use Rattle.std.specs.Prelude.{ℕ, ◌+◌, ◌-◌, ◌*◌, List, [], ◌∷◌, ◌++◌, length, replicate}
use Rattle.std.specs.Int.{div_ceil, to_le_bytes, w16, w64}

-- d_ino, d_off, d_reclen and d_type
abbrev pub head_size : ℕ
head_size = 19

-- the name has a zero behind it, and the whole is a multiple of 8
abbrev pub record_length : List ℕ → ℕ
record_length name = div_ceil (head_size + length name + 1) 8 * 8

abbrev pub entry_head : ℕ → ℕ → ℕ → List ℕ → List ℕ
entry_head ino off kind name = to_le_bytes w64 ino ++ to_le_bytes w64 off ++ to_le_bytes w16 (record_length name) ++ kind ∷ []

abbrev pub entry_bytes : ℕ → ℕ → ℕ → List ℕ → List ℕ
entry_bytes ino off kind name = entry_head ino off kind name ++ name ++ replicate (record_length name - (head_size + length name)) 0
