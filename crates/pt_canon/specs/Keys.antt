-- Keys as runs of bytes. No public clause cites this module.
use Rattle.std.specs.Prelude.{◌≡◌, ℕ, ◌==◌, List, [], ◌∷◌, ◌++◌, length, take, drop, if◌then◌else◌}
use Rattle.std.specs.Int.{w64, to_le_bytes, from_le_bytes}
use Rattle.pt_bind.specs.pr_base.declared.path.WalkMode.{WalkMode}
use Rattle.pt_bind.specs.pr_base.declared.path.WalkMode.TheVariants as modes
use Rattle.pt_canon.specs.Remembering.{Key, key_of, mode_number}

-- the length of the guest text in eight bytes, the number of the mode, the text, and the path
abbrev pub key_bytes : Key → List ℕ
key_bytes key = to_le_bytes w64 (length key.base) ++ mode_number key.mode ∷ key.base ++ key.path

-- ---- read back

abbrev pub mode_of : ℕ → WalkMode
mode_of n = if n == 0 then modes.Look else if n == 1 then modes.LookLink else if n == 2 then modes.Name else modes.Open

-- by how long the guest text is, and by what follows that
abbrev pub key_behind : ℕ → List ℕ → Key
key_behind count [] = key_of [] [] modes.Look
key_behind count (n ∷ rest) = key_of (take count rest) (drop count rest) (mode_of n)

unfoldable pub key_in : List ℕ → Key
key_in bytes = key_behind (from_le_bytes w64 (take 8 bytes)) (drop 8 bytes)

-- bytes are those of a key
pub record IsKeyBytes (bytes : List ℕ) : Type 0 where
  pub same : bytes ≡ key_bytes (key_in bytes)
