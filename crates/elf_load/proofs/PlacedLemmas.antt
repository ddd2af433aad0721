-- Pages whose rights are given after their bytes are written, and how many pages there are.
use Rattle.std.specs.FinMap as map
use Rattle.std.proofs.Common.{◌≡◌, ◌≢◌, ◌⊎◌, inl, inr, ℕ, ◌+◌, ◌-◌, ◌*◌, ◌/◌, ◌%◌, ◌≤◌, ◌<◌, zero, suc, true, false, ◌||◌, nat_lt, List, [], ◌∷◌, length, drop, get_or, refl, sym, ap, ◌∙◌, arith, add-one, drop-cons, is_some, ◌&&◌}
use Rattle.std.specs.Option.{option_map, option_map_or}
use Rattle.std.proofs.lemmas.Bool.{cases_eq}
use Rattle.std.proofs.lemmas.Bool.Decides.{nat_tests}
use Rattle.std.proofs.lemmas.List.{drop_all}
use Rattle.rv_mem.specs.declared.rights.Rights.{Rights}
use Rattle.rv_mem.specs.declared.rights.Use.{Use}
use Rattle.rv_mem.specs.Page.{PageState, grants, page_with_rights, page_written}
use Rattle.rv_mem.specs.Pages.{Pages, with_page, written, mapped, protected, allows, allows_all, has_pages}
use Rattle.rv_mem.specs.Memory.{Memory, with_pages, page_count, passes_limit}
use Rattle.rv_mem.proofs.pr_base.MapLemmas.{same_values, get-changed_same, get-changed_other}
use Rattle.rv_mem.proofs.PagesLemmas.{with_page_twice, with_page_same}
use Rattle.rv_mem.proofs.ChangeLemmas.{get-mapped_in, get-mapped_out, len-mapped-le, len-written, len-protected, contains-written}
use Rattle.rv_mem.proofs.TableLemmas.{by_range, mapped-zero}
use Rattle.elf_load.specs.Image.{with_segment, with_segments, with_stack, exceeds_pages, end_page, break_from, first_page, file_bytes, rights_in, stack_pages, stack_rights}
use Rattle.elf_load.specs.FirstStack.{stack_top}
use Rattle.elf_read.specs.Rules.{page_size}
use Rattle.elf_read.specs.declared.plan.Segment.{Segment}

-- ---- rights given last

-- two changes of pages that don't matter to each other
with_page_swap : (m : Pages) (j k : ℕ) (f g : PageState → PageState) → ((p : PageState) → g (f p) ≡ f (g p)) → with_page (with_page m j f) k g ≡ with_page (with_page m k g) j f
with_page_swap m j k f g commute =
    elim (cases_eq j k) [
      | inl e ↦ ap (λ i. with_page (with_page m i f) k g) e
          ∙ with_page_twice m k f g
          ∙ with_page_same m k (λ p. g (f p)) (λ p. f (g p)) commute
          ∙ sym (with_page_twice m k g f)
          ∙ ap (λ i. with_page (with_page m k g) i f) (sym e)
      | inr d ↦ same_values _ _ (λ q. at_page q (cases_eq q j) (cases_eq q k) d)
    ]
  where
    at_page : (q : ℕ) → (q ≡ j) ⊎ (q ≢ j) → (q ≡ k) ⊎ (q ≢ k) → j ≢ k → map.get (with_page (with_page m j f) k g) q ≡ map.get (with_page (with_page m k g) j f) q
    at_page q (inl e) (inl e') d = absurd (d (sym e ∙ e'))
    at_page q (inl e) (inr n) d =
        let here : map.get (with_page m k g) j ≡ map.get m j = get-changed_other m k g j d in
        ap (map.get (with_page (with_page m j f) k g)) e
        ∙ get-changed_other (with_page m j f) k g j d
        ∙ get-changed_same m j f
        ∙ ap (option_map f) (sym here)
        ∙ sym (get-changed_same (with_page m k g) j f)
        ∙ ap (map.get (with_page (with_page m k g) j f)) (sym e)
    at_page q (inr n) (inl e) d =
        let other : k ≢ j = λ w. d (sym w) in
        let here : map.get (with_page m j f) k ≡ map.get m k = get-changed_other m j f k other in
        ap (map.get (with_page (with_page m j f) k g)) e
        ∙ get-changed_same (with_page m j f) k g
        ∙ ap (option_map g) here
        ∙ sym (get-changed_same m k g)
        ∙ sym (get-changed_other (with_page m k g) j f k other)
        ∙ ap (map.get (with_page (with_page m k g) j f)) (sym e)
    at_page q (inr n) (inr n') d =
        get-changed_other (with_page m j f) k g q n'
        ∙ get-changed_other m j f q n
        ∙ sym (get-changed_other m k g q n')
        ∙ sym (get-changed_other (with_page m k g) j f q n)

protected-with_page : (m : Pages) (j first n : ℕ) (rights : Rights) (i b : ℕ) → protected (with_page m j (page_written i (b ∷ []))) first n rights ≡ with_page (protected m first n rights) j (page_written i (b ∷ []))
unfolding protected
protected-with_page m j first zero rights i b = refl
protected-with_page m j first (suc n) rights i b =
    ap (λ r. with_page r (first + n) (page_with_rights rights)) (protected-with_page m j first n rights i b)
    ∙ with_page_swap (protected m first n rights) j (first + n) (page_written i (b ∷ [])) (page_with_rights rights) (λ p. refl)

protected-written : (m : Pages) (at : ℕ) (bs : List ℕ) (first n : ℕ) (rights : Rights) → protected (written m at bs) first n rights ≡ written (protected m first n rights) at bs
unfolding written
protected-written m at [] first n rights = refl
protected-written m at (b ∷ bs) first n rights =
    protected-written (with_page m (at / 4096) (page_written (at % 4096) (b ∷ []))) (at + 1) bs first n rights
    ∙ ap (λ r. written r (at + 1) bs) (protected-with_page m (at / 4096) first n rights (at % 4096) b)

get-protected_out : (m : Pages) (first n : ℕ) (rights : Rights) (q : ℕ) → ((k : ℕ) → k < n → q ≢ first + k) → map.get (protected m first n rights) q ≡ map.get m q
unfolding protected
get-protected_out m first zero rights q h = refl
get-protected_out m first (suc n) rights q h =
    get-changed_other (protected m first n rights) (first + n) (page_with_rights rights) q (h n (omega arith))
    ∙ get-protected_out m first n rights q (λ k l. h k (omega arith))

get-protected_in : (m : Pages) (first n : ℕ) (rights : Rights) (k : ℕ) → k < n → map.get (protected m first n rights) (first + k) ≡ option_map (page_with_rights rights) (map.get m (first + k))
unfolding protected
get-protected_in m first zero rights k h = absurd (omega arith)
get-protected_in m first (suc n) rights k h =
    elim (cases_eq k n) [
      | inl e ↦ ap (λ j. map.get (protected m first (suc n) rights) (first + j)) e
          ∙ get-changed_same (protected m first n rights) (first + n) (page_with_rights rights)
          ∙ ap (option_map (page_with_rights rights)) (get-protected_out m first n rights (first + n) (λ j l w. absurd (omega arith)))
          ∙ ap (λ j. option_map (page_with_rights rights) (map.get m (first + j))) (sym e)
      | inr d ↦
          let other : first + k ≢ first + n = λ w. d (omega arith) in
          let below : k < n = omega arith in
          get-changed_other (protected m first n rights) (first + n) (page_with_rights rights) (first + k) other ∙ get-protected_in m first n rights k below
    ]

protected-mapped : (m : Pages) (first n : ℕ) (before rights : Rights) → protected (mapped m first n before) first n rights ≡ mapped m first n rights
protected-mapped m first n before rights =
    same_values _ _ (by_range (λ q. map.get (protected (mapped m first n before) first n rights) q ≡ map.get (mapped m first n rights) q) first n
    (λ k l. get-protected_in (mapped m first n before) first n rights k l
    ∙ ap (option_map (page_with_rights rights)) (get-mapped_in m first n before k l)
    ∙ sym (get-mapped_in m first n rights k l))
    (λ q apart. get-protected_out (mapped m first n before) first n rights q apart
    ∙ get-mapped_out m first n before q apart
    ∙ sym (get-mapped_out m first n rights q apart)))

-- pages that are mapped, written to and then given their rights
pub rights_last : (m : Pages) (first n : ℕ) (before rights : Rights) (at : ℕ) (bs : List ℕ) → protected (written (mapped m first n before) at bs) first n rights ≡ written (mapped m first n rights) at bs
rights_last m first n before rights at bs =
    protected-written (mapped m first n before) at bs first n rights
    ∙ ap (λ r. written r at bs) (protected-mapped m first n before rights)

-- ---- how many pages there are

len-mapped-rights : (m : Pages) (first n : ℕ) (a b : Rights) → map.len (mapped m first n a) ≡ map.len (mapped m first n b)
len-mapped-rights m first n a b = sym (ap map.len (protected-mapped m first n b a)) ∙ len-protected (mapped m first n b) first n a

len-mapped-more : (m : Pages) (first n : ℕ) (rights : Rights) → map.len m ≤ map.len (mapped m first n rights)
len-mapped-more m first n rights =
    let none : map.len (mapped m first 0 rights) ≡ map.len m = ap map.len (mapped-zero m first rights) in
    let all : map.len (mapped m first (0 + n) rights) ≡ map.len (mapped m first n rights) = ap (λ j. map.len (mapped m first j rights)) (omega arith) in
    omega (arith, none, all, len-mapped-le m first 0 n rights)

-- with a segment there are as many as were mapped for it, and no fewer than before
pub count-with_segment : (file : List ℕ) (m : Pages) (s : Segment) (before : Rights) → page_count (with_segment file m s) ≡ page_count (mapped m (first_page s) (end_page s - first_page s) before)
unfolding with_segment
count-with_segment file m s before =
    len-written (mapped m (first_page s) (end_page s - first_page s) (rights_in s.flags)) s.at (file_bytes file s)
    ∙ len-mapped-rights m (first_page s) (end_page s - first_page s) (rights_in s.flags) before

pub more-with_segment : (file : List ℕ) (m : Pages) (s : Segment) → page_count m ≤ page_count (with_segment file m s)
more-with_segment file m s =
    omega (arith, count-with_segment file m s (rights_in s.flags), len-mapped-more m (first_page s) (end_page s - first_page s) (rights_in s.flags))

pub more-with_segments : (file : List ℕ) (m : Pages) (segments : List Segment) → page_count m ≤ page_count (with_segments file m segments)
unfolding with_segments
more-with_segments file m [] = omega arith
more-with_segments file m (s ∷ segments) =
    omega (arith, more-with_segment file m s, more-with_segments file (with_segment file m s) segments)

pub count-with_stack : (m : Pages) (sp : ℕ) (bytes : List ℕ) → page_count (with_stack m sp bytes) ≡ page_count (mapped m (stack_top / page_size - stack_pages) stack_pages stack_rights)
unfolding with_stack
count-with_stack m sp bytes = len-written (mapped m (stack_top / page_size - stack_pages) stack_pages stack_rights) sp bytes

pub more-with_stack : (m : Pages) (sp : ℕ) (bytes : List ℕ) → page_count m ≤ page_count (with_stack m sp bytes)
more-with_stack m sp bytes =
    omega (arith, count-with_stack m sp bytes, len-mapped-more m (stack_top / page_size - stack_pages) stack_pages stack_rights)

-- more pages pass the limits too
pub exceeds-more : (others few many : ℕ) → few ≤ many → exceeds_pages others few ≡ true → exceeds_pages others many ≡ true
exceeds-more others few many more h = grind (arith, nat_tests)

-- the limits of a change, by the pages of all other processes
pub passes-exceeds : (room : ℕ) (old new : Pages) → page_count old ≤ room → passes_limit room old new ≡ exceeds_pages (room - page_count old) (page_count new)
passes-exceeds room old new counted =
    let same : room + page_count new - page_count old ≡ room - page_count old + page_count new = omega arith in
    ap (λ n. nat_lt 16384 (page_count new) || nat_lt 262144 n) same

-- ---- one segment after the other

pub with_segments-at : (file : List ℕ) (m : Pages) (segments : List Segment) (k : ℕ) (d : Segment) → k < length segments → with_segments file m (drop k segments) ≡ with_segments file (with_segment file m (get_or segments k d)) (drop (k + 1) segments)
unfolding with_segments
with_segments-at file m segments k d within =
    ap (with_segments file m) (drop-cons segments k d within)
    ∙ ap (λ j. with_segments file (with_segment file m (get_or segments k d)) (drop j segments)) (sym (add-one k))

pub with_segments-end : (file : List ℕ) (m : Pages) (segments : List Segment) (k : ℕ) → length segments ≤ k → with_segments file m (drop k segments) ≡ m
unfolding with_segments
with_segments-end file m segments k past = ap (with_segments file m) (drop_all k segments past)

pub break_from-at : (end : ℕ) (segments : List Segment) (k : ℕ) (d : Segment) → k < length segments → break_from end (drop k segments) ≡ break_from (end_page (get_or segments k d) * 4096) (drop (k + 1) segments)
break_from-at end segments k d within =
    ap (break_from end) (drop-cons segments k d within)
    ∙ ap (λ j. break_from (end_page (get_or segments k d) * 4096) (drop j segments)) (sym (add-one k))

pub break_from-end : (end : ℕ) (segments : List Segment) (k : ℕ) → length segments ≤ k → break_from end (drop k segments) ≡ end
break_from-end end segments k past = ap (break_from end) (drop_all k segments past)

-- ---- limits that are passed

-- while a segment is mapped, and while the stack is
pub segment-exceeds : (file : List ℕ) (m : Pages) (s : Segment) (first n room : ℕ) (before : Rights) → page_count m ≤ room → first ≡ first_page s → n ≡ end_page s - first_page s
    → passes_limit room m (mapped m first n before) ≡ true → exceeds_pages (room - page_count m) (page_count (with_segment file m s)) ≡ true
segment-exceeds file m s first n room before counted is_first is_count passes =
    ap (exceeds_pages (room - page_count m)) (count-with_segment file m s before
    ∙ ap (λ k. page_count (mapped m (first_page s) k before)) (sym is_count)
    ∙ ap (λ f. page_count (mapped m f n before)) (sym is_first))
    ∙ sym (passes-exceeds room m (mapped m first n before) counted)
    ∙ passes

pub stack-limits : (m : Pages) (sp room : ℕ) (bytes : List ℕ) → page_count m ≤ room
    → passes_limit room m (mapped m (stack_top / page_size - stack_pages) stack_pages stack_rights) ≡ exceeds_pages (room - page_count m) (page_count (with_stack m sp bytes))
stack-limits m sp room bytes counted =
    passes-exceeds room m (mapped m (stack_top / page_size - stack_pages) stack_pages stack_rights) counted
    ∙ ap (exceeds_pages (room - page_count m)) (sym (count-with_stack m sp bytes))

pub segment-put : (file : List ℕ) (m mapped_memory written_memory protected_memory : Memory) (s : Segment) (first n : ℕ) (before rights : Rights) (bytes : List ℕ)
    → first ≡ first_page s → n ≡ end_page s - first_page s → rights ≡ rights_in s.flags → bytes ≡ file_bytes file s
    → mapped_memory ≡ with_pages m (mapped m.pages first n before)
    → written_memory ≡ with_pages mapped_memory (written mapped_memory.pages s.at bytes)
    → protected_memory ≡ with_pages written_memory (protected written_memory.pages first n rights)
    → protected_memory ≡ with_pages m (with_segment file m.pages s)
unfolding with_segment
segment-put file m mapped_memory written_memory protected_memory s first n before rights bytes is_first is_count is_rights is_bytes maps writes protects =
    protects
    ∙ ap (λ (w : Memory). with_pages w (protected w.pages first n rights)) (writes ∙ ap (λ (w : Memory). with_pages w (written w.pages s.at bytes)) maps)
    ∙ ap (with_pages m) (rights_last m.pages first n before rights s.at bytes
    ∙ ap (λ f. written (mapped m.pages f n rights) s.at bytes) is_first
    ∙ ap (λ k. written (mapped m.pages (first_page s) k rights) s.at bytes) is_count
    ∙ ap (λ r. written (mapped m.pages (first_page s) (end_page s - first_page s) r) s.at bytes) is_rights
    ∙ ap (written (mapped m.pages (first_page s) (end_page s - first_page s) (rights_in s.flags)) s.at) is_bytes)

pub stack-put : (m mapped_memory written_memory : Memory) (sp : ℕ) (bytes : List ℕ)
    → mapped_memory ≡ with_pages m (mapped m.pages (stack_top / page_size - stack_pages) stack_pages stack_rights)
    → written_memory ≡ with_pages mapped_memory (written mapped_memory.pages sp bytes)
    → written_memory ≡ with_pages m (with_stack m.pages sp bytes)
unfolding with_stack
stack-put m mapped_memory written_memory sp bytes maps writes =
    writes ∙ ap (λ (w : Memory). with_pages w (written w.pages sp bytes)) maps

pub memory-with_pages : (m old : Memory) (pages : Pages) → m.pages ≡ pages → m.read_marked ≡ old.read_marked → m ≡ with_pages old pages
memory-with_pages m old pages e r =
    let first : m ≡ record { pages = pages; read_marked = m.read_marked } = ap (λ (p : Pages). record { pages = p; read_marked = m.read_marked }) e in
    first ∙ ap (λ b. record { pages = pages; read_marked = b }) r

-- what passes the limits while one of the segments is put passes them with all of them
pub segments-exceed : (file : List ℕ) (start m : Pages) (segments : List Segment) (i : ℕ) (d : Segment) (others others' : ℕ) → i < length segments → others' ≡ others
    → with_segments file m (drop i segments) ≡ with_segments file start segments
    → exceeds_pages others' (page_count (with_segment file m (get_or segments i d))) ≡ true → exceeds_pages others (page_count (with_segments file start segments)) ≡ true
segments-exceed file start m segments i d others others' within same so_far passes =
    let all : with_segments file (with_segment file m (get_or segments i d)) (drop (i + 1) segments) ≡ with_segments file start segments
    = sym (with_segments-at file m segments i d within) ∙ so_far in
    let more = more-with_segments file (with_segment file m (get_or segments i d)) (drop (i + 1) segments) in
    let count = ap page_count all in
    exceeds-more others (page_count (with_segment file m (get_or segments i d))) (page_count (with_segments file start segments)) (omega arith)
    (ap (λ o. exceeds_pages o (page_count (with_segment file m (get_or segments i d)))) (sym same) ∙ passes)

-- ---- bytes and pages that are there

-- every byte of mapped pages may be used as their rights say
pub allowed-mapped : (m : Pages) (first n : ℕ) (rights : Rights) (at len : ℕ) (what : Use) → grants rights what ≡ true → first * 4096 ≤ at → at + len ≤ (first + n) * 4096
    → allows_all (mapped m first n rights) at len what ≡ true
unfolding allows_all
allowed-mapped m first n rights at zero what granted low high = refl
allowed-mapped m first n rights at (suc len) what granted low high =
    let place : first + (at / 4096 - first) ≡ at / 4096 = omega arith in
    let here : allows (mapped m first n rights) at what ≡ true =
    ap (λ k. option_map_or (λ p. grants p.rights what) (map.get (mapped m first n rights) k) false) (sym place)
    ∙ ap (λ o. option_map_or (λ p. grants p.rights what) o false) (get-mapped_in m first n rights (at / 4096 - first) (omega arith))
    ∙ granted in
    ap (λ b. b && allows_all (mapped m first n rights) (at + 1) len what) here
    ∙ allowed-mapped m first n rights (at + 1) len what granted (omega arith) (omega arith)

all_there : (m : Pages) (first n : ℕ) → ((k : ℕ) → k < n → map.contains_key m (first + k) ≡ true) → has_pages m first n ≡ true
unfolding has_pages
all_there m first zero there = refl
all_there m first (suc n) there =
    ap (λ b. b && map.contains_key m (first + n)) (all_there m first n (λ k l. there k (omega arith))) ∙ there n (omega arith)

-- pages that were mapped are there, also after bytes were written
pub there-written : (m : Pages) (first n : ℕ) (rights : Rights) (at : ℕ) (bs : List ℕ) → has_pages (written (mapped m first n rights) at bs) first n ≡ true
there-written m first n rights at bs =
    all_there (written (mapped m first n rights) at bs) first n
    (λ k l. contains-written (mapped m first n rights) at bs (first + k) ∙ ap is_some (get-mapped_in m first n rights k l))
