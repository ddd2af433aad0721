-- Pages of the caller, as its calls count them.
use Rattle.std.specs.FinMap as map
use Rattle.std.proofs.Common.{◌≡◌, ℕ, zero, suc, ◌+◌, ◌-◌, ◌*◌, ◌/◌, ◌<◌, ◌≤◌, ◌==◌, ◌↔◌, [], ◌∷◌, Result, Ok, Err, is_ok, IsOk, IsSome, IsTrue, IfSome, ◌&&◌, ◌||◌, min, Bool, true, false, cond, Option, Some, None, refl, sym, ap, subst, ◌∙◌, arith}
use Rattle.std.specs.Prelude.{nat_lt, if◌then◌else◌}
use Rattle.std.specs.Option.{is_some, option_map_or}
use Rattle.std.proofs.lemmas.Bool.Decides.{nat_tests}
use Rattle.std.proofs.lemmas.Bool.{or_parts}
use Rattle.kr_seen.specs.rv_mem.Layout.{Layout, layout_of, has_page}
use Rattle.kr_seen.specs.rv_mem.Memory.{passes_limit, room_after}
use Rattle.kr_seen.specs.rv_mem.Pages.{Pages, has_pages, mapped, protected, unmapped, IsPlaced}
use Rattle.kr_seen.specs.rv_mem.declared.rights.Rights.{Rights}
use Rattle.kr_seen.proofs.rv_mem.ChangeLemmas.{get-unmapped_out, len-mapped_more}
use Rattle.kr_seen.proofs.rv_mem.LayoutLemmas.{contains_layout, layouts_follow}
use Rattle.kr_seen.proofs.rv_mem.TableLemmas.{has_pages-zero, has_pages_refused, mapped-zero}
use Rattle.kr_seen.proofs.pr_base.MapLemmas.{remove-none}
use Rattle.kr_seen.proofs.law_lawful.SumLemmas.{passed-test}
use Rattle.kr_seen.proofs.law_lawful.AfterLemmas.{pids-with, some-of}
use Rattle.kr_seen.specs.kr_model.Applied.{Mounts, applied, images, with_image, with_living}
use Rattle.kr_seen.specs.kr_model.Change.{ChangePages, MapPages, PageChange, SetBreak}
use Rattle.kr_seen.specs.kr_model.Known.{Known, caller_of, known, no_caller, pages_in_all}
use Rattle.kr_seen.specs.kr_model.Lawful.{ArePids}
use Rattle.kr_seen.specs.kr_model.Reply.{Replying, done}
use Rattle.kr_seen.specs.kr_model.State as model
use Rattle.kr_seen.specs.kr_model.MemoryRows as rows
use Rattle.kr_seen.specs.PerformedRows.{memory_of, no_memory}
use Rattle.kr_seen.proofs.kr_ops.ListLemmas.{apart-test, same-test}

pub test-yes : (a b : ℕ) → a < b → nat_lt a b ≡ true
test-yes a b l = grind (arith, nat_tests)

pub test-no : (a b : ℕ) → b ≤ a → nat_lt a b ≡ false
test-no a b l = grind (arith, nat_tests)

-- ---- how many pages of a range are mapped

abbrev pub one : Bool → ℕ
one b = cond b 1 0

one-at-most : (b : Bool) → one b ≤ 1
one-at-most true = omega arith
one-at-most false = omega arith

pub mapped_among-last : (l : Layout) (first n : ℕ) → rows.mapped_among l first (suc n) ≡ rows.mapped_among l first n + one (map.contains_key l (first + n))
unfolding rows.mapped_among
mapped_among-last l first zero = let here : first + 0 ≡ first = omega arith in let same = ap (λ k. one (map.contains_key l k)) here in omega arith
mapped_among-last l first (suc n) =
    let there : first + 1 + n ≡ first + suc n = omega arith in
    let same = ap (λ k. one (map.contains_key l k)) there in
    let rest = mapped_among-last l (first + 1) n in
    omega arith

pub mapped_among-zero : (l : Layout) (first : ℕ) → rows.mapped_among l first 0 ≡ 0
unfolding rows.mapped_among
mapped_among-zero l first = refl

pub mapped_among-most : (l : Layout) (first n : ℕ) → rows.mapped_among l first n ≤ n
mapped_among-most l first zero = let none = mapped_among-zero l first in omega arith
mapped_among-most l first (suc n) =
    let last = mapped_among-last l first n in
    let rest = mapped_among-most l first n in
    let most = one-at-most (map.contains_key l (first + n)) in
    omega arith

-- all of n + 1 pages are mapped where n + 1 of them are
one-more : (a n x : ℕ) (b c : Bool) → b ≡ (a == n) → a ≤ n → x ≡ a + one c → (b && c) ≡ (x == suc n)
one-more a n x true true is most more = let same : a ≡ n = passed-test a n (sym is) in sym (same-test x (suc n) (omega arith))
one-more a n x false true is most more = sym (apart-test x (suc n) (λ e. let same : a ≡ n = omega arith in let none : false ≡ true = is ∙ same-test a n same in cc))
one-more a n x true false is most more = sym (apart-test x (suc n) (λ e. absurd (omega arith)))
one-more a n x false false is most more = sym (apart-test x (suc n) (λ e. absurd (omega arith)))

pub all-counted : (m : Pages) (first n : ℕ) → has_pages m first n ≡ (rows.mapped_among (layout_of m) first n == n)
unfolding has_pages
all-counted m first zero = sym (same-test (rows.mapped_among (layout_of m) first 0) 0 (mapped_among-zero (layout_of m) first))
all-counted m first (suc n) =
    one-more (rows.mapped_among (layout_of m) first n) n (rows.mapped_among (layout_of m) first (suc n)) (has_pages m first n) (map.contains_key m (first + n))
    (all-counted m first n) (mapped_among-most (layout_of m) first n)
    (mapped_among-last (layout_of m) first n ∙ ap (λ b. rows.mapped_among (layout_of m) first n + one b) (contains_layout m (first + n)))

-- ---- how many pages there are with a range mapped

len-next : (m : Pages) (first n : ℕ) (r : Rights) (before among after : ℕ) (b : Bool) → before + among ≡ map.len m + n → after ≡ cond b before (before + 1) → after + (among + one b) ≡ map.len m + suc n
len-next m first n r before among after true e is = omega arith
len-next m first n r before among after false e is = omega arith

pub len-mapped : (m : Pages) (first n : ℕ) (r : Rights) → map.len (mapped m first n r) + rows.mapped_among (layout_of m) first n ≡ map.len m + n
len-mapped m first zero r = let none = mapped_among-zero (layout_of m) first in let same = ap (λ (m : Pages). map.len m) (mapped-zero m first r) in omega arith
len-mapped m first (suc n) r =
    let last = mapped_among-last (layout_of m) first n ∙ ap (λ b. rows.mapped_among (layout_of m) first n + one b) (contains_layout m (first + n)) in
    let next = len-next m first n r (map.len (mapped m first n r)) (rows.mapped_among (layout_of m) first n) (map.len (mapped m first (suc n) r)) (map.contains_key m (first + n)) (len-mapped m first n r) (len-mapped_more m first n r) in
    omega arith

-- the limits are passed by the numbers after the call, as the row counts them
pub limits-known : (k : Known) (room : ℕ) (m : Pages) (first n : ℕ) (r : Rights) → k.pages ≡ room → k.caller.layout ≡ layout_of m → map.len (layout_of m) ≡ map.len m
    → passes_limit room m (mapped m first n r) ≡ rows.passes_limit k n (rows.mapped_among k.caller.layout first n)
limits-known k room m first n r pages layout long =
    let all = len-mapped m first n r in
    let most = mapped_among-most (layout_of m) first n in
    let among = ap (λ l. rows.mapped_among l first n) layout in
    let len = ap (λ (l : Layout). map.len l) layout in
    let own : map.len (mapped m first n r) ≡ map.len k.caller.layout + n - rows.mapped_among k.caller.layout first n = omega arith in
    let sum : room_after room m (mapped m first n r) ≡ k.pages + n - rows.mapped_among k.caller.layout first n = omega arith in
    ap (λ x. nat_lt 16384 x || nat_lt 262144 (room_after room m (mapped m first n r))) own
    ∙ ap (λ x. nat_lt 16384 (map.len k.caller.layout + n - rows.mapped_among k.caller.layout first n) || nat_lt 262144 x) sum

-- ---- a range without a page

pub has_page-same : (l : Layout) (first n : ℕ) → has_page l first n ≡ rows.has_page l first n
unfolding has_page rows.has_page
has_page-same l first zero = refl
has_page-same l first (suc n) = ap (λ b. map.contains_key l first || b) (has_page-same l (first + 1) n)

pub none-among : (l : Layout) (first n : ℕ) → rows.has_page l first n ≡ false → rows.mapped_among l first n ≡ 0
unfolding rows.has_page rows.mapped_among
none-among l first zero e = refl
none-among l first (suc n) e =
    let both = or_parts (map.contains_key l first) (rows.has_page l (first + 1) n) e in
    let here = ap one both.0 in
    let rest = none-among l (first + 1) n both.1 in
    omega arith

-- ---- ranges that pass the end of the pages

-- no page is there or behind
beyond : (m : Pages) (q : ℕ) → IsPlaced m → 67108863 ≤ q → map.contains_key m q ≡ false
beyond m q placed past = by (map.contains_key m q) refl
  where
    by : (b : Bool) → map.contains_key m q ≡ b → b ≡ false
    by true is = absurd (let low : q < 67108863 = placed q is in omega arith)
    by false is = refl

absent : {X : Type 0} (o : Option X) → is_some o ≡ false → o ≡ None
absent None e = refl
absent (Some x) e = cc

unmapped-past : (m : Pages) (first c n : ℕ) → IsPlaced m → 67108863 ≤ first + c → unmapped m first (c + n) ≡ unmapped m first c
unfolding unmapped
unmapped-past m first c zero placed past = let same : c + zero ≡ c = omega arith in ap (unmapped m first) same
unmapped-past m first c (suc n) placed past =
    let next : c + suc n ≡ suc (c + n) = omega arith in
    let none : map.get (unmapped m first (c + n)) (first + (c + n)) ≡ None =
    get-unmapped_out m first (c + n) (first + (c + n)) (λ k l e. absurd (omega arith)) ∙ absent (map.get m (first + (c + n))) (beyond m (first + (c + n)) placed (omega arith)) in
    ap (unmapped m first) next ∙ remove-none (unmapped m first (c + n)) (first + (c + n)) none ∙ unmapped-past m first c n placed past

-- no pages of a range
unmapped-none : (m : Pages) (first : ℕ) → unmapped m first 0 ≡ m
unfolding unmapped
unmapped-none m first = refl

protected-none : (m : Pages) (first : ℕ) (r : Rights) → protected m first 0 r ≡ m
unfolding protected
protected-none m first r = refl

-- a range is cut where the pages end
module _ (m : Pages) (first count n : ℕ) (is : n ≡ min count (67108863 - first)) where
  pub unmapped-cut : IsPlaced m → unmapped m (min first 67108863) n ≡ unmapped m first count
  unmapped-cut placed = by (nat_lt 67108863 first) refl (nat_lt n count) refl
    where
      by : (b : Bool) → nat_lt 67108863 first ≡ b → (c : Bool) → nat_lt n count ≡ c → unmapped m (min first 67108863) n ≡ unmapped m first count
      by true past c cut =
          let far : 67108863 < first = grind (arith, nat_tests) in
          let none : n ≡ 0 = omega arith in
          let all : 0 + count ≡ count = omega arith in
          ap (unmapped m (min first 67108863)) none
          ∙ unmapped-none m (min first 67108863) ∙ sym (unmapped-none m first)
          ∙ sym (unmapped-past m first 0 count placed (omega arith)) ∙ ap (unmapped m first) all
      by false within true cut =
          let near : first ≤ 67108863 = grind (arith, nat_tests) in
          let fewer : n < count = grind (arith, nat_tests) in
          let begins_at : min first 67108863 ≡ first = omega arith in
          let all : n + (count - n) ≡ count = omega arith in
          ap (λ at. unmapped m at n) begins_at ∙ sym (unmapped-past m first n (count - n) placed (omega arith)) ∙ ap (unmapped m first) all
      by false within false cut =
          let near : first ≤ 67108863 = grind (arith, nat_tests) in
          let no_fewer : count ≤ n = grind (arith, nat_tests) in
          let begins_at : min first 67108863 ≡ first = omega arith in
          let all : n ≡ count = omega arith in
          ap (λ at. unmapped m at n) begins_at ∙ ap (unmapped m first) all

  -- not all are there, where fewer are left
  pub cut-is-absent : IsPlaced m → n < count → (rows.mapped_among (layout_of m) first count == count) ≡ false
  cut-is-absent placed fewer =
      sym (all-counted m first count)
      ∙ has_pages_refused m first n count fewer (beyond m (first + n) placed (omega arith))

  pub protected-cut : (r : Rights) → count ≤ n → protected m (min first 67108863) n r ≡ protected m first count r
  protected-cut r most = by (nat_lt 67108863 first) refl
    where
      all : n ≡ count
      all = omega arith

      by : (b : Bool) → nat_lt 67108863 first ≡ b → protected m (min first 67108863) n r ≡ protected m first count r
      by true past =
          let far : 67108863 < first = grind (arith, nat_tests) in
          let none : n ≡ 0 = omega arith in
          ap (λ n. protected m (min first 67108863) n r) none ∙ protected-none m (min first 67108863) r ∙ sym (protected-none m first r) ∙ ap (λ n. protected m first n r) (sym none ∙ all)
      by false within =
          let near : first ≤ 67108863 = grind (arith, nat_tests) in
          let begins_at : min first 67108863 ≡ first = omega arith in
          ap (λ at. protected m at n r) begins_at ∙ ap (λ n. protected m first n r) all

  pub counted-cut : count ≤ n → has_pages m (min first 67108863) n ≡ (rows.mapped_among (layout_of m) first count == count)
  counted-cut most = by (nat_lt 67108863 first) refl ∙ all-counted m first count
    where
      all : n ≡ count
      all = omega arith

      by : (b : Bool) → nat_lt 67108863 first ≡ b → has_pages m (min first 67108863) n ≡ has_pages m first count
      by true past =
          let far : 67108863 < first = grind (arith, nat_tests) in
          let none : n ≡ 0 = omega arith in
          ap (has_pages m (min first 67108863)) none ∙ has_pages-zero m (min first 67108863) ∙ sym (has_pages-zero m first) ∙ ap (has_pages m first) (sym none ∙ all)
      by false within =
          let near : first ≤ 67108863 = grind (arith, nat_tests) in
          let begins_at : min first 67108863 ≡ first = omega arith in
          ap (λ at. has_pages m at n) begins_at ∙ ap (has_pages m first) all

-- ---- what is known of the caller's pages

-- an address's page
pub page-at : (n : ℕ) → n * 4096 / 4096 ≡ n
page-at n = omega arith

pub last-page : (n : ℕ) → n ≤ 0x3ffffff000 → rows.page_count n ≤ 67108863
last-page n most = omega arith

pub ok-not-full : {A E : Type 0} (x : A) (e : E) (b : Bool) → (◌≡◌ {A = Result A E} (Ok x) (Err e) ↔ (b ≡ true)) → b ≡ false
ok-not-full x e true when = absurd (let none : ◌≡◌ (Ok x) (Err e) = when.1 refl in cc)
ok-not-full x e false when = refl

pub not-where-err : {A E : Type 0} (r : Result A E) (e : E) (b : Bool) → r ≡ Err e → (IsOk r ↔ (b ≡ true)) → b ≡ false
not-where-err r e true is when = absurd (let none : false ≡ true = sym (ap is_ok is) ∙ when.1 refl in cc)
not-where-err r e false is when = refl

module _ {T : Type 0} (s : model.State T model.Image) (pid : ℕ) (lives : IsSome (model.process pid s)) where
  pub layout-known : (known model.image_layout pid s).caller.layout ≡ layout_of (memory_of pid s).pages
  layout-known =
      let own = some-of (model.process pid s) lives in
      ap (λ o. (option_map_or (caller_of model.image_layout) o no_caller).layout) own.1
      ∙ sym (ap (λ (o : Option (model.Process T model.Image)). layout_of (option_map_or (λ p. p.image.memory) o no_memory).pages) own.1)

  -- what is said of the caller
  pub of-caller : (Q : Pages → Type 0) → IfSome (model.process pid s) (λ p. Q p.image.memory.pages) → Q (memory_of pid s).pages
  of-caller Q holds = by (model.process pid s) lives holds
    where
      by : (o : Option (model.Process T model.Image)) → IsSome o → IfSome o (λ p. Q p.image.memory.pages) → Q (option_map_or (λ (p : model.Process T model.Image). p.image.memory) o no_memory).pages
      by None none holds = absurd cc
      by (Some p) there holds = holds

  pub limits-for : (P : Type 0) (first n : ℕ) (r : Rights)
      → IfSome (model.process pid s) (λ p. P ↔ IsTrue (passes_limit (pages_in_all model.image_layout s.living) p.image.memory.pages (mapped p.image.memory.pages first n r)))
      → P ↔ (rows.passes_limit (known model.image_layout pid s) n (rows.mapped_among (known model.image_layout pid s).caller.layout first n) ≡ true)
  limits-for P first n r holds =
      let m = (memory_of pid s).pages in
      subst (λ b. P ↔ (b ≡ true)) (limits-known (known model.image_layout pid s) (pages_in_all model.image_layout s.living) m first n r refl layout-known (layouts_follow.count m))
      (of-caller (λ m. P ↔ IsTrue (passes_limit (pages_in_all model.image_layout s.living) m (mapped m first n r))) holds)

-- pages that were changed leave the numbers of processes
pub pids-paged : {T : Type 0} (s t : model.State T model.Image) (pid : ℕ) (c : PageChange) → ArePids s → ((mounts : Mounts T) → t ≡ applied images mounts pid (ChangePages c) s) → ArePids t
pids-paged {T} s t pid c are makes =
    let u = with_living (model.with_process pid (with_image (images.paged c))) s in
    subst (λ (t : model.State T model.Image). ArePids t) (sym (makes (record { found = None; directory = None }))) (pids-with s u pid (with_image (images.paged c)) (λ p. refl) refl refl refl are)

-- ---- what brk(2) replies, test by test

module _ (k : Known) (a : ℕ) where
  abbrev by_size : Bool → Replying
  by_size more = if more then rows.grow k a (rows.page_count a - rows.page_count k.caller.brk) else rows.shrink k a

  abbrev by_bounds : Bool → Bool → Replying
  by_bounds low high = if low || high then done k.caller.brk [] else by_size (nat_lt (rows.page_count k.caller.brk) (rows.page_count a))

  pub below-the-start : a < k.caller.brk_start → rows.brk_row k a ≡ done k.caller.brk []
  below-the-start low = let is : nat_lt a k.caller.brk_start ≡ true = grind (arith, nat_tests) in ap (λ b. by_bounds b (nat_lt rows.pages_end a)) is

  module _ (from : k.caller.brk_start ≤ a) where
    low-no : nat_lt a k.caller.brk_start ≡ false
    low-no = grind (arith, nat_tests)

    pub past-the-end : rows.pages_end < a → rows.brk_row k a ≡ done k.caller.brk []
    past-the-end high = let is : nat_lt rows.pages_end a ≡ true = grind (arith, nat_tests) in ap (λ b. by_bounds b (nat_lt rows.pages_end a)) low-no ∙ ap (by_bounds false) is

    within-bounds : a ≤ rows.pages_end → rows.brk_row k a ≡ by_size (nat_lt (rows.page_count k.caller.brk) (rows.page_count a))
    within-bounds to = let is : nat_lt rows.pages_end a ≡ false = grind (arith, nat_tests) in ap (λ b. by_bounds b (nat_lt rows.pages_end a)) low-no ∙ ap (by_bounds false) is

    pub shrinks : a ≤ rows.pages_end → rows.page_count a ≤ rows.page_count k.caller.brk → rows.brk_row k a ≡ rows.shrink k a
    shrinks to least = within-bounds to ∙ ap by_size (test-no (rows.page_count k.caller.brk) (rows.page_count a) least)

    pub grows : a ≤ rows.pages_end → rows.page_count k.caller.brk < rows.page_count a → rows.brk_row k a ≡ rows.grow k a (rows.page_count a - rows.page_count k.caller.brk)
    grows to more = within-bounds to ∙ ap by_size (test-yes (rows.page_count k.caller.brk) (rows.page_count a) more)

  module _ (count : ℕ) where
    abbrev by_room : Bool → Bool → Replying
    by_room full taken =
        if full || taken then done k.caller.brk []
        else done a (ChangePages (MapPages (rows.page_count k.caller.brk) count (record { r = true; w = true; x = false })) ∷ SetBreak a ∷ [])

    either-true : (full : Bool) → (full || true) ≡ true
    either-true true = refl
    either-true false = refl

    pub stays-if-taken : rows.has_page k.caller.layout (rows.page_count k.caller.brk) count ≡ true → rows.grow k a count ≡ done k.caller.brk []
    stays-if-taken is = ap (by_room (rows.passes_limit k count 0)) is ∙ ap (λ b. cond b (done k.caller.brk []) (by_room false false)) (either-true (rows.passes_limit k count 0))

    pub stays-if-full : rows.passes_limit k count 0 ≡ true → rows.grow k a count ≡ done k.caller.brk []
    stays-if-full is = ap (λ b. by_room b (rows.has_page k.caller.layout (rows.page_count k.caller.brk) count)) is

    pub grows-by : rows.passes_limit k count 0 ≡ false → rows.has_page k.caller.layout (rows.page_count k.caller.brk) count ≡ false
        → rows.grow k a count ≡ done a (ChangePages (MapPages (rows.page_count k.caller.brk) count (record { r = true; w = true; x = false })) ∷ SetBreak a ∷ [])
    grows-by free none = ap (λ b. by_room b (rows.has_page k.caller.layout (rows.page_count k.caller.brk) count)) free ∙ ap (by_room false) none
