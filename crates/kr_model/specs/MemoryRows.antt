-- Calls on the caller's pages, each in the order of its tests (section 2 of the manual; the order is our own). Pages have
-- 4,096 bytes, and lengths are rounded up to pages.
use Rattle.std.specs.FinMap as map
use Rattle.std.specs.Prelude.{ℕ, zero, suc, ◌+◌, ◌-◌, ◌/◌, ◌==◌, ◌||◌, ◌*◌, not, Bool, true, false, List, [], ◌∷◌, nat_lt, nat_le, map as map_list, Option, Some, None, if◌then◌else◌}
use Rattle.std.specs.Int.{div_ceil}
use Rattle.std.specs.Option.{option_map_or}
use Rattle.kr_calls.specs.pr_base.declared.errno.Errno.TheVariants.{ENOMEM}
use Rattle.kr_calls.specs.rv_mem.declared.rights.Rights.{Rights}
use Rattle.kr_calls.specs.Arguments.{has}
use Rattle.kr_model.specs.Change.{MapPages, UnmapPages, ProtectPages, ChangePages, SetBreak}
use Rattle.kr_model.specs.Known.{Known}
use Rattle.kr_model.specs.Reply.{Replying, done, refuse}
use Rattle.kr_model.specs.State.{Layout}

-- the address behind the last page that a process may have
abbrev pub pages_end : ℕ
pages_end = 0x3ffffff000

-- how many pages hold n bytes
abbrev pub page_count : ℕ → ℕ
page_count n = div_ceil n 4096

-- PROT_READ 1, PROT_WRITE 2, PROT_EXEC 4
abbrev pub rights_of : ℕ → Rights
rights_of prot = record { r = has prot 1; w = has prot 2; x = has prot 4 }

-- whether one of n pages is mapped, and how many are
unfoldable pub has_page : Layout → ℕ → ℕ → Bool
has_page m first zero = false
has_page m first (suc n) = map.contains_key m first || has_page m (first + 1) n

unfoldable pub mapped_among : Layout → ℕ → ℕ → ℕ
mapped_among m first zero = 0
mapped_among m first (suc n) = (if map.contains_key m first then 1 else 0) + mapped_among m (first + 1) n

-- the most pages of a process, and of all
abbrev pub process_pages : ℕ
process_pages = 16384

abbrev pub all_pages : ℕ
all_pages = 262144

-- whether `more` further pages, of which `there` are mapped now, pass a limit
abbrev pub passes_limit : Known → ℕ → ℕ → Bool
passes_limit k more there =
    nat_lt process_pages (map.len k.caller.layout + more - there) || nat_lt all_pages (k.pages + more - there)

-- ---- the break

abbrev pub grow : Known → ℕ → ℕ → Replying
grow k a count =
    if passes_limit k count 0 || has_page k.caller.layout (page_count k.caller.brk) count then done k.caller.brk []
    else done a (ChangePages (MapPages (page_count k.caller.brk) count (record { r = true; w = true; x = false })) ∷ SetBreak a ∷ [])

abbrev pub shrink : Known → ℕ → Replying
shrink k a = done a (ChangePages (UnmapPages (page_count a) (page_count k.caller.brk - page_count a)) ∷ SetBreak a ∷ [])

-- brk(2): the new end; the old one where the new one is below the start or past the last page, a limit would be passed,
-- or a new page is mapped
abbrev pub brk_row : Known → ℕ → Replying
brk_row k a =
    if nat_lt a k.caller.brk_start || nat_lt pages_end a then done k.caller.brk []
    else if nat_lt (page_count k.caller.brk) (page_count a) then grow k a (page_count a - page_count k.caller.brk)
    else shrink k a

-- ---- maps

-- where maps lie that aren't given a place, by pages, and where any may lie
abbrev pub places_begin : ℕ
places_begin = 0x2000000

abbrev pub places_end : ℕ
places_end = 0x3f00000

abbrev pub lowest_page : ℕ
lowest_page = 0x10

-- a place from a page on for `count` pages
abbrev pub place_here : ℕ → ℕ → Option ℕ
place_here from count = if nat_le (from + count) places_end then Some from else None

-- the lowest place from a page on, among the mapped pages in their order
abbrev pub place_among : ℕ → ℕ → List ℕ → Option ℕ
place_among from count [] = place_here from count
place_among from count (p ∷ pages) =
    if nat_lt p from then place_among from count pages
    else if nat_le (from + count) p then place_here from count
    else place_among (p + 1) count pages

abbrev pub lowest_place : Layout → ℕ → Option ℕ
lowest_place m count = place_among places_begin count (map_list (λ e. e.0) (map.entries m))

abbrev pub map_at : Known → ℕ → ℕ → ℕ → Replying
map_at k first count prot =
    if passes_limit k count (mapped_among k.caller.layout first count) then refuse ENOMEM
    else done (first * 4096) (ChangePages (MapPages first count (rights_of prot)) ∷ [])

-- MAP_FIXED: pages that are there are replaced
abbrev pub map_fixed : Known → ℕ → ℕ → ℕ → Replying
map_fixed k first count prot =
    if nat_lt first lowest_page || nat_lt places_end (first + count) then refuse ENOMEM else map_at k first count prot

abbrev pub map_free : Known → ℕ → ℕ → Replying
map_free k count prot = option_map_or (λ first. map_at k first count prot) (lowest_place k.caller.layout count) (refuse ENOMEM)

-- mmap(2): ENOMEM of the limits, of no place, and of a fixed one outside the places; the address
abbrev pub mmap_row : Known → ℕ → ℕ → ℕ → ℕ → Replying
mmap_row k a len prot flags =
    if has flags 0x10 then map_fixed k (a / 4096) (page_count len) prot else map_free k (page_count len) prot

-- munmap(2)
abbrev pub munmap_row : ℕ → ℕ → Replying
munmap_row a len = done 0 (ChangePages (UnmapPages (a / 4096) (page_count len)) ∷ [])

-- mprotect(2): ENOMEM where a page isn't mapped. No bytes change nothing
abbrev pub mprotect_row : Known → ℕ → ℕ → ℕ → Replying
mprotect_row k a len prot =
    let count = page_count len in
    if not (mapped_among k.caller.layout (a / 4096) count == count) then refuse ENOMEM
    else done 0 (ChangePages (ProtectPages (a / 4096) count (rights_of prot)) ∷ [])
