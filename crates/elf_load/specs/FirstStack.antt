-- The stack with which a program starts, as the System V ABI and its RISC-V supplement draw it: what
-- each part has, and where it stands below the part above it.
use Rattle.std.specs.Prelude.{◌≡◌, ℕ, ◌+◌, ◌-◌, ◌*◌, ◌/◌, nat_lt, Bool, ◌||◌, List, [], ◌∷◌, ◌++◌, length, replicate, slice_index, slice_get, Some}
use Rattle.std.specs.Int.{to_le_bytes, w64}
use Rattle.elf_read.specs.Headers.{entry_size}
use Rattle.elf_read.specs.Rules.{page_size}
use Rattle.elf_read.specs.declared.plan.Plan.{Plan}
use Rattle.elf_load.specs.declared.stack.Pair.{Pair}

-- ---- the texts

-- the bytes of texts, each with its ending zero
abbrev pub text_bytes : List (List ℕ) → List ℕ
text_bytes [] = []
text_bytes (t ∷ ts) = t ++ (0 ∷ text_bytes ts)

-- the addresses of texts of which the first stands at an address
abbrev pub text_addresses : ℕ → List (List ℕ) → List ℕ
text_addresses at [] = []
text_addresses at (t ∷ ts) = at ∷ text_addresses (at + length t + 1) ts

-- how many bytes the arguments and the environment have together
abbrev pub texts_size : List (List ℕ) → List (List ℕ) → ℕ
texts_size args env = length (text_bytes args) + length (text_bytes env)

-- more texts in a list, or more bytes in both, than a program may be given, as execve(2) limits them
abbrev pub exceeds_arguments : List (List ℕ) → List (List ℕ) → Bool
exceeds_arguments args env =
    nat_lt 4096 (length args) || nat_lt 4096 (length env) || nat_lt 131072 (texts_size args env)

-- ---- the auxiliary vector

abbrev pub pair : ℕ → ℕ → Pair
pair kind value = record { kind = kind; value = value }

-- where the 16 bytes stand that are called random: right below the top
abbrev pub stack_top : ℕ
stack_top = 0x3F_FFFF_F000

abbrev pub random_at : ℕ
random_at = stack_top - 16

abbrev pub random_bytes : List ℕ
random_bytes = 0 ∷ 1 ∷ 2 ∷ 3 ∷ 4 ∷ 5 ∷ 6 ∷ 7 ∷ 8 ∷ 9 ∷ 10 ∷ 11 ∷ 12 ∷ 13 ∷ 14 ∷ 15 ∷ []

-- AT_PHDR, AT_PHENT, AT_PHNUM, AT_PAGESZ, AT_ENTRY, then AT_UID, AT_EUID, AT_GID and AT_EGID with the
-- four numbers in this order, AT_SECURE, AT_RANDOM, and AT_NULL at the end
abbrev pub pairs_of : Plan → List ℕ → List Pair
pairs_of plan ids =
    pair 3 plan.phdr ∷ pair 4 entry_size ∷ pair 5 plan.phnum ∷ pair 6 page_size ∷ pair 9 plan.entry ∷
    pair 11 (slice_index ids 0) ∷ pair 12 (slice_index ids 1) ∷ pair 13 (slice_index ids 2) ∷
    pair 14 (slice_index ids 3) ∷ pair 23 0 ∷ pair 25 random_at ∷ pair 0 0 ∷ []

abbrev pub pair_words : List Pair → List ℕ
pair_words [] = []
pair_words (p ∷ ps) = p.kind ∷ (p.value ∷ pair_words ps)

-- ---- where the parts stand, from the top down

-- the highest multiple of 16 that isn't above an address
abbrev pub aligned : ℕ → ℕ
aligned a = a / 16 * 16

-- the first text: all texts end below the random bytes
abbrev pub texts_at : List (List ℕ) → List (List ℕ) → ℕ
texts_at args env = aligned (random_at - texts_size args env)

-- the number of arguments, an address for each text, a zero behind each list, and twelve pairs
abbrev pub word_count : List (List ℕ) → List (List ℕ) → ℕ
word_count args env = length args + length env + 27

-- the stack pointer: the words end below the first text
abbrev pub stack_pointer : List (List ℕ) → List (List ℕ) → ℕ
stack_pointer args env = aligned (texts_at args env - 8 * word_count args env)

-- ---- what stands there, from the stack pointer up

abbrev pub words_of : List Pair → List (List ℕ) → List (List ℕ) → List ℕ
words_of pairs args env =
    length args ∷
    (text_addresses (texts_at args env) args ++
    (0 ∷ (text_addresses (texts_at args env + length (text_bytes args)) env ++ (0 ∷ pair_words pairs))))

-- the place among the words of the pair at a place among the pairs; its value stands right behind its kind
abbrev pub pair_place : List (List ℕ) → List (List ℕ) → ℕ → ℕ
pair_place args env k = length args + length env + 3 + 2 * k

-- so each pair stands at its place
abbrev pub ArePlaced : Type 0
ArePlaced =
    (pairs : List Pair) (args env : List (List ℕ)) (k : ℕ) (p : Pair) → slice_get pairs k ≡ Some p
    → (slice_get (words_of pairs args env) (pair_place args env k) ≡ Some p.kind)
    × (slice_get (words_of pairs args env) (pair_place args env k + 1) ≡ Some p.value)

-- words as they stand in memory, the lowest byte of each first
abbrev pub word_bytes : List ℕ → List ℕ
word_bytes [] = []
word_bytes (w ∷ ws) = to_le_bytes w64 w ++ word_bytes ws

unfoldable pub zeros : ℕ → List ℕ
zeros n = replicate n 0

-- the words, zeros up to the texts, the texts, zeros up to the random bytes, and these
abbrev pub stack_bytes : List Pair → List (List ℕ) → List (List ℕ) → List ℕ
stack_bytes pairs args env =
    word_bytes (words_of pairs args env)
    ++ zeros (texts_at args env - (stack_pointer args env + 8 * word_count args env))
    ++ text_bytes args ++ text_bytes env
    ++ zeros (random_at - (texts_at args env + texts_size args env))
    ++ random_bytes
