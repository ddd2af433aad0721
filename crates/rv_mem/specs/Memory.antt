-- The memory of a process: its pages, and whether a marked byte was read.
use Rattle.std.specs.FinMap as map
use Rattle.std.specs.Prelude.{ℕ, zero, suc, ◌+◌, ◌-◌, Bool, false, ◌||◌, List, [], ◌∷◌, length, Result, Ok, Err, nat_eq, nat_lt, if◌then◌else◌, refl}
use Rattle.std.specs.Coded.{Coded, code_by, coded×, coded_bool}
use Rattle.rv_mem.specs.declared.fault.TextFault.{TextFault}
use Rattle.rv_mem.specs.declared.fault.TextFault.TheVariants.{BadAddress, TooLong}
use Rattle.rv_mem.specs.declared.rights.Use.TheVariants.{Read}
use Rattle.rv_mem.specs.Pages.{Pages, pages_code, allows, byte_at, any_marked}

pub record Memory : Type 0 where
  pub pages : Pages
  pub read_marked : Bool

abbrev pub memory_code : Coded Memory
memory_code =
    code_by (Pages × Bool) (coded× pages_code coded_bool)
    (λ s. (s.pages, s.read_marked)) (λ p. record { pages = p.0; read_marked = p.1 }) (λ _. refl)

abbrev pub empty_memory : Memory
empty_memory = record { pages = map.empty; read_marked = false }

-- the memory with these pages
abbrev pub with_pages : Memory → Pages → Memory
with_pages m pages = record { pages = pages; read_marked = m.read_marked }

-- the memory after n bytes from an address on were read
abbrev pub after_read : Memory → ℕ → ℕ → Memory
after_read m at n = record { pages = m.pages; read_marked = m.read_marked || any_marked m.pages at n }

-- a text with one more byte at its front
abbrev pub text_after : ℕ → Result (List ℕ) TextFault → Result (List ℕ) TextFault
text_after b (Ok bs) = Ok (b ∷ bs)
text_after b (Err fault) = Err fault

-- the text at an address: its bytes up to, but without, the first zero, which is among the first `max`
unfoldable pub text_of : Pages → ℕ → ℕ → Result (List ℕ) TextFault
text_of m at zero = Err TooLong
text_of m at (suc max) =
    if allows m at Read
    then (if nat_eq (byte_at m at) 0 then Ok [] else text_after (byte_at m at) (text_of m (at + 1) max))
    else Err BadAddress

-- how many bytes a text has
abbrev pub size_of_text : Result (List ℕ) TextFault → Result ℕ TextFault
size_of_text (Ok text) = Ok (length text)
size_of_text (Err fault) = Err fault

-- how many bytes are read to find that text: up to and with the first zero, at most `max`, and none
-- from the first unreadable one on
unfoldable pub text_reach : Pages → ℕ → ℕ → ℕ
text_reach m at zero = 0
text_reach m at (suc max) =
    if allows m at Read
    then (if nat_eq (byte_at m at) 0 then 1 else 1 + text_reach m (at + 1) max)
    else 0

-- how many pages a process has
abbrev pub page_count : Pages → ℕ
page_count m = map.len m

-- the number of pages of all processes after a change of one
abbrev pub room_after : ℕ → Pages → Pages → ℕ
room_after room old new = room + page_count new - page_count old

-- whether the numbers after a change pass a limit: that of the process or that of all
abbrev pub passes_limit : ℕ → Pages → Pages → Bool
passes_limit room old new = nat_lt 16384 (page_count new) || nat_lt 262144 (room_after room old new)
