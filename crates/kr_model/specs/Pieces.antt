-- Bytes that a call moves between itself and pieces of the caller's memory, as readv(2) and writev(2) give them; read(2)
-- and write(2) have one piece.
use Rattle.std.specs.Prelude.{ℕ, zero, suc, ◌-◌, ◌*◌, ◌&&◌, ◌++◌, min, Bool, true, List, [], ◌∷◌, length, take, drop, sum, map as map_list, nat_lt, if◌then◌else◌}
use Rattle.std.specs.Int.{from_le_bytes, w64}
use Rattle.kr_calls.specs.pr_base.declared.errno.Errno.TheVariants.{EFAULT, EINVAL}
use Rattle.kr_calls.specs.rv_mem.Actions.{MayUse, ReadBytes, WriteBytes, read_if_allowed}
use Rattle.kr_calls.specs.rv_mem.declared.rights.Use.{Use}
use Rattle.kr_calls.specs.rv_mem.declared.rights.Use.TheVariants.{Read, Write}
use Rattle.kr_model.specs.Change.{Change}
use Rattle.kr_model.specs.Reply.{Replying, done, refuse}

-- `count` bytes at the address `at`
pub record Piece : Type 0 where
  pub at : ℕ
  pub count : ℕ

-- these bytes for an address
pub record Part : Type 0 where
  pub at : ℕ
  pub bytes : List ℕ

-- how many bytes the pieces have
abbrev pub asked : List Piece → ℕ
asked pieces = sum (map_list (λ p. p.count) pieces)

-- the first n bytes of the pieces
abbrev pub cut_to : ℕ → List Piece → List Piece
cut_to n [] = []
cut_to n (p ∷ pieces) = record { at = p.at; count = min n p.count } ∷ cut_to (n - p.count) pieces

-- bytes laid into the pieces, in their order
abbrev pub laid_into : List Piece → List ℕ → List Part
laid_into [] bytes = []
laid_into (p ∷ pieces) bytes = record { at = p.at; bytes = take p.count bytes } ∷ laid_into pieces (drop p.count bytes)

-- ---- tests and uses of the memory

-- may all pieces be used so?
abbrev pub may_use_all : Use → List Piece → (Bool → Replying) → Replying
may_use_all what [] next = next true
may_use_all what (p ∷ pieces) next = MayUse p.at p.count (what ∷ []) (λ allowed. may_use_all what pieces (λ others. next (allowed && others)))

-- the bytes of all pieces
abbrev pub read_all : List Piece → (List ℕ → Replying) → Replying
read_all [] next = next []
read_all (p ∷ pieces) next = ReadBytes p.at p.count (λ bytes. read_all pieces (λ others. next (bytes ++ others)))

abbrev pub write_all : List Part → Replying → Replying
write_all [] next = next
write_all (p ∷ parts) next = WriteBytes p.at p.bytes (write_all parts next)

-- EFAULT where one of these pieces may not be used so
abbrev pub if_usable : Use → List Piece → Replying → Replying
if_usable what pieces next = may_use_all what pieces (λ allowed. if allowed then next else refuse EFAULT)

-- bytes handed to the caller, and their number as the answer: EFAULT on those that are to be moved. None changes nothing
abbrev pub hand : List Piece → List ℕ → List Change → Replying
hand pieces [] changes = done 0 []
hand pieces (b ∷ bytes) changes =
    let moved = cut_to (length (b ∷ bytes)) pieces in
    if_usable Write moved (write_all (laid_into moved (b ∷ bytes)) (done (length (b ∷ bytes)) changes))

-- ---- lists of pieces

-- one call moves at most this many bytes
abbrev pub move_limit : ℕ
move_limit = 0x7ffff000

-- n entries of a list, each an address and a length of 8 bytes
abbrev pub pieces_of : ℕ → List ℕ → List Piece
pieces_of zero bytes = []
pieces_of (suc n) bytes =
    record { at = from_le_bytes w64 (take 8 bytes); count = from_le_bytes w64 (take 8 (drop 8 bytes)) } ∷ pieces_of n (drop 16 bytes)

-- the sum of the lengths is at most the largest signed number of 64 bits
abbrev pub if_summed : List Piece → (List Piece → Replying) → Replying
if_summed pieces next = if nat_lt 0x7fffffffffffffff (asked pieces) then refuse EINVAL else next (cut_to move_limit pieces)

-- EINVAL of more than 1,024 entries, EFAULT where the list can't be read, EINVAL of the sum
abbrev pub with_list : ℕ → ℕ → (List Piece → Replying) → Replying
with_list list count next =
    if nat_lt 1024 count then refuse EINVAL
    else read_if_allowed list (16 * count) (Read ∷ []) (refuse EFAULT) (λ bytes. if_summed (pieces_of count bytes) next)

abbrev pub one_piece : ℕ → ℕ → List Piece
one_piece at n = record { at = at; count = min n move_limit } ∷ []
