-- Uses of all pieces of a list, and what they leave of a state.
use Rattle.std.specs.Prelude.{◌≡◌, ◌≤◌, ℕ, Bool, true, ◌&&◌, List, [], ◌∷◌, map as map_list}
use Rattle.std.specs.Option.{option_map_or}
use Rattle.kr_seen.specs.rv_mem.Pages.{Pages, allows_all}
use Rattle.kr_seen.specs.rv_mem.declared.rights.Use.{Use}
use Rattle.kr_seen.specs.kr_tree.Tree.{Tree, Inode, inode, bytes_of}
use Rattle.kr_seen.specs.kr_model.Pieces as model
use Rattle.kr_seen.specs.kr_ops.declared.state.State.{State}
use Rattle.kr_seen.specs.kr_ops.Meaning.{meaning}
use Rattle.kr_seen.specs.PerformedRows.{memory_of}
use Rattle.kr_seen.specs.Using.{HasMemory}
use Rattle.kr_transfer.specs.declared.pieces.Piece.{Piece}

-- the pieces of the definition
abbrev pub told : List Piece → List model.Piece
told pieces = map_list (λ (p : Piece). record { at = p.at; count = p.count }) pieces

-- the bytes that a call asks for, no more than one call moves
pub record IsCountOf (pieces : List Piece) (count : ℕ) : Type 0 where
  pub asked : count ≡ model.asked (told pieces)
  pub limited : count ≤ model.move_limit

-- whether all may be used so
abbrev pub all_allowed : Pages → Use → List model.Piece → Bool
all_allowed m what [] = true
all_allowed m what (p ∷ pieces) = allows_all m p.at p.count what && all_allowed m what pieces

-- the bytes of an inode
abbrev pub bytes_at : Tree → ℕ → List ℕ
bytes_at t i = option_map_or (λ (x : Inode). bytes_of x.node.body) (inode t i) []

module _ {T : Type 0} {M : ℕ} where
  -- at most the caller's memory changed
  abbrev pub LeavesOthers : ℕ → State T M → State T M → Type 0
  LeavesOthers pid old new = HasMemory pid (memory_of pid (meaning new)) old new

  -- the caller's memory was read at most
  pub record OnlyReads (pid : ℕ) (old new : State T M) : Type 0 where
    pub leaves : LeavesOthers pid old new
    pub pages : (memory_of pid (meaning new)).pages ≡ (memory_of pid (meaning old)).pages
