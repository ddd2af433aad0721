-- Calls on the caller's pages are allowed.
use Rattle.std.specs.FinMap as map
use Rattle.std.proofs.Common.{◌≡◌, subst, ℕ, zero, suc, ◌+◌, ◌-◌, ◌/◌, ◌≤◌, ◌<◌, Bool, true, false, not, ◌||◌, nat_lt, List, [], ◌∷◌, refl, sym, ap, ◌∙◌, arith, cond, Some, None, Option, IsSome}
use Rattle.std.specs.Prelude.{◌==◌, nat_le, map as map_list}
use Rattle.std.specs.Option.{IfSome, option_map}
use Rattle.std.proofs.lemmas.Grind.{div_ceil_times}
use Rattle.std.proofs.lemmas.Bool.Decides.{nat_tests}
use Rattle.std.proofs.lemmas.Bool.{or_parts}
use Rattle.law_lawful.specs.pr_base.declared.errno.Errno.TheVariants.{ENOMEM}
use Rattle.law_lawful.specs.rv_mem.declared.rights.Rights.{Rights}
use Rattle.law_lawful.specs.rv_mem.Layout.{Layout, layout_of}
use Rattle.law_lawful.specs.rv_mem.Pages.{Pages, mapped}
use Rattle.law_lawful.proofs.rv_mem.ChangeLemmas.{len-mapped_more, len-unmapped-le, len-protected}
use Rattle.law_lawful.proofs.rv_mem.LayoutLemmas.{contains_layout, layouts_follow}
use Rattle.law_lawful.proofs.rv_mem.SpaceLemmas.{IsPlaced-mapped, IsPlaced-unmapped, IsPlaced-protected}
use Rattle.law_lawful.proofs.kr_tree.NameLemmas.{some_is}
use Rattle.law_lawful.specs.kr_view.View.{Row}
use Rattle.law_lawful.specs.kr_calls.Arguments.{has}
use Rattle.law_lawful.specs.kr_model.Applied.{Mounts, images, with_image}
use Rattle.law_lawful.specs.kr_model.Change.{Change, PageChange, MapPages, UnmapPages, ProtectPages, ChangePages, SetBreak}
use Rattle.law_lawful.specs.kr_model.Conditions.{CanPage, CanBeMade}
use Rattle.law_lawful.specs.kr_model.Known.{Known, Caller, known}
use Rattle.law_lawful.specs.kr_model.Lawful.{IsLawful}
use Rattle.law_lawful.specs.kr_model.MemoryRows.{pages_end, page_count, rights_of, has_page, mapped_among, passes_limit, process_pages, all_pages, grow, shrink, brk_row, places_begin, places_end, lowest_page, place_here, place_among, lowest_place, map_at, map_fixed, map_free, mmap_row, munmap_row, mprotect_row}
use Rattle.law_lawful.specs.kr_model.State.{Image, image_layout, Process, State, at_pid, process}
use Rattle.law_lawful.specs.Laws.{CanAllBeMade}
use Rattle.law_lawful.proofs.AfterLemmas.{some-of}
use Rattle.law_lawful.proofs.ProcessChangeLemmas.{found}
use Rattle.law_allowed.specs.Allowed.{IsAllowed}
use Rattle.law_allowed.proofs.KnownLemmas.{is-less, not-less, maybe, caller-is}
use Rattle.law_allowed.specs.Lasting.{AreModest}
use Rattle.law_allowed.proofs.RowLemmas.{quietly, Allowed, unchanged, refuses, ended, either, row-allowed}

-- ---- counts of pages

abbrev here : Layout → ℕ → ℕ
here m q = cond {A = ℕ} (map.contains_key m q) 1 0

-- the last of some pages apart
among-end : (m : Layout) (first n : ℕ) → mapped_among m first (suc n) ≡ mapped_among m first n + here m (first + n)
unfolding mapped_among
among-end m first zero = let last = ap (here m) (let e : first + 0 ≡ first = omega arith in e) in omega arith
among-end m first (suc n) =
    let rest = among-end m (first + 1) n in
    let last = ap (here m) (let e : first + 1 + n ≡ first + suc n = omega arith in e) in
    omega arith

-- pages that are there already aren't more
mapped-count : (m : Pages) (first n : ℕ) (rights : Rights) → map.len (mapped m first n rights) + mapped_among (layout_of m) first n ≡ map.len m + n
unfolding mapped mapped_among
mapped-count m first zero rights = omega arith
mapped-count m first (suc n) rights =
    let rest = mapped-count m first n rights in
    let more = len-mapped_more m first n rights in
    let last = among-end (layout_of m) first n in
    let same = contains_layout m (first + n) in
    by (map.contains_key m (first + n)) rest more (last ∙ ap (λ b. mapped_among (layout_of m) first n + cond {A = ℕ} b 1 0) same)
  where
    by : (b : Bool) → map.len (mapped m first n rights) + mapped_among (layout_of m) first n ≡ map.len m + n
        → map.len (mapped m first (suc n) rights) ≡ cond b (map.len (mapped m first n rights)) (map.len (mapped m first n rights) + 1)
        → mapped_among (layout_of m) first (suc n) ≡ mapped_among (layout_of m) first n + cond {A = ℕ} b 1 0
        → map.len (mapped m first (suc n) rights) + mapped_among (layout_of m) first (suc n) ≡ map.len m + suc n
    by true rest more last = omega arith
    by false rest more last = omega arith

-- bytes up to the end of pages are in pages below that
pages-below : (a : ℕ) → a ≤ pages_end → page_count a ≤ 67108863
pages-below a l = let bounds = (div_ceil_times a 4096 (omega arith)).1 in omega arith

-- a place that is found ends with the places
here-ends : (from count first : ℕ) → place_here from count ≡ Some first → first + count ≤ places_end
here-ends from count first e = by (nat_le (from + count) places_end) refl e
  where
    by : (b : Bool) → nat_le (from + count) places_end ≡ b → cond b (Some from) None ≡ Some first → first + count ≤ places_end
    by true is e = let same = some_is from first e in let least : from + count ≤ places_end = grind (arith, nat_tests) in omega arith
    by false is e = absurd cc

place-ends : (from count : ℕ) (pages : List ℕ) (first : ℕ) → place_among from count pages ≡ Some first → first + count ≤ places_end
place-ends from count [] first e = here-ends from count first e
place-ends from count (p ∷ pages) first e = by (nat_lt p from) (nat_le (from + count) p) (place-ends from count pages first) (place-ends (p + 1) count pages first) e
  where
    by : (a b : Bool) → (place_among from count pages ≡ Some first → first + count ≤ places_end) → (place_among (p + 1) count pages ≡ Some first → first + count ≤ places_end)
        → cond a (place_among from count pages) (cond b (place_here from count) (place_among (p + 1) count pages)) ≡ Some first → first + count ≤ places_end
    by true b same later e = same e
    by false true same later e = here-ends from count first e
    by false false same later e = later e

module _ {M : Type 0} (number : M → ℕ) (table : List Row) (mounts : Mounts M) (pid : ℕ) (s : State M Image) (l : IsLawful number table s) (lives : IsSome (process pid s)) where
  abbrev k : Known
  k = known image_layout pid s

  abbrev Can : List Change → Type 0
  Can cs = CanAllBeMade number table mounts pid s cs × AreModest s.user cs

  abbrev CanChange : PageChange → Type 0
  CanChange c = CanBeMade number table mounts pid s (ChangePages c)

  -- as many pages of the caller, or fewer, that are placed
  can-fewer : (c : PageChange) → ((p : Process M Image) → process pid s ≡ Some p → CanPage pid c s p) → CanChange c
  can-fewer c each = let own = some-of (process pid s) lives in subst (λ (o : Option (Process M Image)). IfSome o (CanPage pid c s)) (sym own.1) (each own.0 own.1)

  can-map : (first count there : ℕ) (rights : Rights) → first + count ≤ 67108863 → passes_limit k count there ≡ false
      → ((p : Process M Image) → process pid s ≡ Some p → map.len (mapped p.image.memory.pages first count rights) + there ≤ map.len p.image.memory.pages + count) → CanChange (MapPages first count rights)
  can-map first count there rights low limit fits = can-fewer (MapPages first count rights) (λ p e.
      let own = l.processes pid p e in
      let both = or_parts (nat_lt process_pages (map.len k.caller.layout + count - there)) (nat_lt all_pages (k.pages + count - there)) limit in
      let few = not-less process_pages (map.len k.caller.layout + count - there) both.0 in
      let room = not-less all_pages (k.pages + count - there) both.1 in
      let layout = ap (λ (c : Caller). map.len c.layout) (caller-is pid s p e) in
      let pages = layouts_follow.count p.image.memory.pages in
      let new = fits p e in
      record { placed = IsPlaced-mapped p.image.memory.pages first count rights low own.paged; few = omega arith; room = omega arith })

  can-unmap : (first count : ℕ) → CanChange (UnmapPages first count)
  can-unmap first count = can-fewer (UnmapPages first count) (λ p e.
      let own = l.processes pid p e in
      let fewer = len-unmapped-le p.image.memory.pages first count in
      let few = own.pages in
      let room = l.room in
      record { placed = IsPlaced-unmapped p.image.memory.pages first count own.paged; few = omega arith; room = omega arith })

  can-protect : (first count : ℕ) (rights : Rights) → CanChange (ProtectPages first count rights)
  can-protect first count rights = can-fewer (ProtectPages first count rights) (λ p e.
      let own = l.processes pid p e in
      let same = len-protected p.image.memory.pages first count rights in
      let few = own.pages in
      let room = l.room in
      record { placed = IsPlaced-protected p.image.memory.pages first count rights own.paged; few = omega arith; room = omega arith })

  -- ---- the break

  -- pages, and then a break within its bounds
  with-break : (c : PageChange) (a : ℕ) → k.caller.brk_start ≤ a → a ≤ pages_end → CanChange c → Can (ChangePages c ∷ SetBreak a ∷ [])
  with-break c a low high can =
      let f : Process M Image → Process M Image = λ p. with_image (images.paged c) p in
      let own = some-of (process pid s) lives in
      let p : Process M Image = own.0 in
      let after = found pid f (λ p. refl) pid s.living ∙ ap (option_map (at_pid pid f)) own.1 in
      let start = ap (λ (c : Caller). c.brk_start) (caller-is pid s p own.1) in
      let bounds : (b : Bool) → ((cond b (f p) p).brk_start ≤ a) × (a ≤ pages_end) = λ b. elim b as (λ b. ((cond b (f p) p).brk_start ≤ a) × (a ≤ pages_end)) [ true ↦ (omega arith, high) | false ↦ (omega arith, high) ] in
      ((lives, can, (subst (λ (o : Option (Process M Image)). IsSome o) (sym after) refl, subst (λ (o : Option (Process M Image)). IfSome o (λ p. (p.brk_start ≤ a) × (a ≤ pages_end))) (sym after) (bounds (p.pid == pid)), tt)), quietly refl)

  grown : (a : ℕ) → k.caller.brk_start ≤ a → a ≤ pages_end → page_count k.caller.brk < page_count a → Allowed Can false (grow k a (page_count a - page_count k.caller.brk))
  grown a low high more =
      let first : ℕ = page_count k.caller.brk in
      let count : ℕ = page_count a - page_count k.caller.brk in
      let rights : Rights = record { r = true; w = true; x = false } in
      let below = pages-below a high in
      either (passes_limit k count 0 || has_page k.caller.layout first count) (λ _. unchanged)
      (λ fits. ended (with-break (MapPages first count rights) a low high
      (can-map first count 0 rights (omega arith) (or_parts (passes_limit k count 0) (has_page k.caller.layout first count) fits).0
      (λ p e. let all = mapped-count p.image.memory.pages first count rights in omega arith))))

  shrunk : (a : ℕ) → k.caller.brk_start ≤ a → a ≤ pages_end → Allowed Can false (shrink k a)
  shrunk a low high = ended (with-break (UnmapPages (page_count a) (page_count k.caller.brk - page_count a)) a low high (can-unmap (page_count a) (page_count k.caller.brk - page_count a)))

  brk : (a : ℕ) → Allowed Can false (brk_row k a)
  brk a =
      either (nat_lt a k.caller.brk_start || nat_lt pages_end a) (λ _. unchanged)
      (λ inside.
      let both = or_parts (nat_lt a k.caller.brk_start) (nat_lt pages_end a) inside in
      let low = not-less a k.caller.brk_start both.0 in
      let high = not-less pages_end a both.1 in
      either (nat_lt (page_count k.caller.brk) (page_count a)) (λ more. grown a low high (is-less (page_count k.caller.brk) (page_count a) more)) (λ _. shrunk a low high))

  -- ---- maps

  mapped-at : (first count prot : ℕ) → first + count ≤ places_end → Allowed Can false (map_at k first count prot)
  mapped-at first count prot low =
      either (passes_limit k count (mapped_among k.caller.layout first count)) (λ _. refuses ENOMEM)
      (λ fits. ended (
        (
          lives,
          can-map first count (mapped_among k.caller.layout first count) (rights_of prot) (omega arith) fits
              (λ p e.
              let all = mapped-count p.image.memory.pages first count (rights_of prot) in
              let layout = ap (λ (c : Caller). mapped_among c.layout first count) (caller-is pid s p e) in
              omega arith),
          tt,
        ),
        quietly refl,
      ))

  mmap : (a len prot flags : ℕ) → Allowed Can false (mmap_row k a len prot flags)
  mmap a len prot flags = either (has flags 0x10) (λ _. fixed (a / 4096) (page_count len)) (λ _. free (page_count len))
    where
      fixed : (first count : ℕ) → Allowed Can false (map_fixed k first count prot)
      fixed first count =
          either (nat_lt first lowest_page || nat_lt places_end (first + count)) (λ _. refuses ENOMEM)
          (λ inside. mapped-at first count prot (not-less places_end (first + count) (or_parts (nat_lt first lowest_page) (nat_lt places_end (first + count)) inside).1))

      free : (count : ℕ) → Allowed Can false (map_free k count prot)
      free count =
          maybe (lowest_place k.caller.layout count) (λ first e. mapped-at first count prot (place-ends places_begin count (map_list (λ x. x.0) (map.entries k.caller.layout)) first e)) (refuses ENOMEM)

  munmap : (a len : ℕ) → Allowed Can false (munmap_row a len)
  munmap a len = ended ((lives, can-unmap (a / 4096) (page_count len), tt), quietly refl)

  mprotect : (a len prot : ℕ) → Allowed Can false (mprotect_row k a len prot)
  mprotect a len prot = either (not (mapped_among k.caller.layout (a / 4096) (page_count len) == page_count len)) (λ _. refuses ENOMEM) (λ _. ended ((lives, can-protect (a / 4096) (page_count len) (rights_of prot), tt), quietly refl))

-- calls on the caller's pages
pub record AreMemoryRowsAllowed {M : Type 0} (number : M → ℕ) (table : List Row) (mounts : Mounts M) (pid : ℕ) : Type 0 where
  pub brk : (a : ℕ) → IsAllowed number table mounts pid (λ k. brk_row k a)
  pub mmap : (a len prot flags : ℕ) → IsAllowed number table mounts pid (λ k. mmap_row k a len prot flags)
  pub munmap : (a len : ℕ) → IsAllowed number table mounts pid (λ k. munmap_row a len)
  pub mprotect : (a len prot : ℕ) → IsAllowed number table mounts pid (λ k. mprotect_row k a len prot)

pub memory-rows : (M : Type 0) (number : M → ℕ) (table : List Row) (mounts : Mounts M) (pid : ℕ) → AreMemoryRowsAllowed number table mounts pid
memory-rows M number table mounts pid = record {
  brk = λ a. row-allowed number table mounts pid (λ t next. Unit {0}) (λ k. brk_row k a) (λ s l lives rests. brk number table mounts pid s l lives a);
  mmap = λ a len prot flags. row-allowed number table mounts pid (λ t next. Unit {0}) (λ k. mmap_row k a len prot flags) (λ s l lives rests. mmap number table mounts pid s l lives a len prot flags);
  munmap = λ a len. row-allowed number table mounts pid (λ t next. Unit {0}) (λ k. munmap_row a len) (λ s l lives rests. munmap number table mounts pid s l lives a len);
  mprotect = λ a len prot. row-allowed number table mounts pid (λ t next. Unit {0}) (λ k. mprotect_row k a len prot) (λ s l lives rests. mprotect number table mounts pid s l lives a len prot);
}
