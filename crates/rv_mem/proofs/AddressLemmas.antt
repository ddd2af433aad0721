-- What writing and marking leave at an address. A byte written stands there unmarked, and every other
-- byte, every other mark and every right is as it was; a byte marked is marked.
use Rattle.std.specs.FinMap as map
use Rattle.std.proofs.Common.{◌≡◌, ◌≢◌, inl, inr, ℕ, zero, suc, ◌+◌, ◌/◌, ◌%◌, ◌<◌, true, false, List, [], ◌∷◌, length, get_or, refl, sym, ap, ◌∙◌, arith, Option, Some, None, is_some}
use Rattle.std.specs.Option.{option_map, option_map_or}
use Rattle.std.proofs.lemmas.Bool.{cases_eq}
use Rattle.std.proofs.lemmas.List.{get_or-set_same, get_or-set_other}
use Rattle.rv_mem.specs.declared.rights.Use.{Use}
use Rattle.rv_mem.specs.Page.{PageState, grants, page_written, page_marked}
use Rattle.rv_mem.specs.Pages.{Pages, with_page, written, marked, byte_at, is_marked, allows, IsWhole}
use Rattle.rv_table.proofs.pr_base.MapLemmas.{get-changed_same, get-changed_other}
use Rattle.rv_mem.proofs.SpaceLemmas.{IsWhole-written, IsWhole-marked}
use Rattle.rv_mem.proofs.ChangeLemmas.{contains-with_page}

-- a value read from the page at a number
abbrev read_from : {X : Type 0} → (PageState → X) → X → Pages → ℕ → X
read_from f d m k = option_map_or f (map.get m k) d

read_same : {X : Type 0} (f : PageState → X) (d : X) (g : PageState → PageState) (o : Option PageState) → ((p : PageState) → o ≡ Some p → f (g p) ≡ f p) → option_map_or f (option_map g o) d ≡ option_map_or f o d
read_same f d g None h = refl
read_same f d g (Some p) h = h p refl

-- one page changed where nothing that is read changes
read_kept : {X : Type 0} (f : PageState → X) (d : X) (m : Pages) (k : ℕ) (g : PageState → PageState) (q : ℕ) → (q ≡ k → (p : PageState) → f (g p) ≡ f p) → read_from f d (with_page m k g) q ≡ read_from f d m q
read_kept f d m k g q h =
    elim (cases_eq q k) [
      | inl e ↦ ap (read_from f d (with_page m k g)) e ∙ ap (λ o. option_map_or f o d) (get-changed_same m k g) ∙ read_same f d g (map.get m k) (λ p is. h e p) ∙ ap (read_from f d m) (sym e)
      | inr n ↦ ap (λ o. option_map_or f o d) (get-changed_other m k g q n)
    ]

pub allows-written : (m : Pages) (at : ℕ) (bs : List ℕ) (a : ℕ) (what : Use) → allows (written m at bs) a what ≡ allows m a what
unfolding written
allows-written m at [] a what = refl
allows-written m at (b ∷ bs) a what =
    allows-written (with_page m (at / 4096) (page_written (at % 4096) (b ∷ []))) (at + 1) bs a what
    ∙ read_kept (λ p. grants p.rights what) false m (at / 4096) (page_written (at % 4096) (b ∷ [])) (a / 4096) (λ e p. refl)

-- a place other than the one written
apart_in_page : (at a : ℕ) → a ≢ at → a / 4096 ≡ at / 4096 → a % 4096 ≢ at % 4096
apart_in_page at a n e h = n (omega arith)

pub byte_at-written_other : (m : Pages) (at : ℕ) (bs : List ℕ) (a : ℕ) → ((k : ℕ) → k < length bs → a ≢ at + k) → byte_at (written m at bs) a ≡ byte_at m a
unfolding written
byte_at-written_other m at [] a h = refl
byte_at-written_other m at (b ∷ bs) a h =
    let here : a ≢ at = λ e. h 0 (omega arith) (omega arith) in
    byte_at-written_other (with_page m (at / 4096) (page_written (at % 4096) (b ∷ []))) (at + 1) bs a (λ k l e. h (k + 1) (omega arith) (omega arith))
    ∙ read_kept (λ p. get_or p.bytes (a % 4096) 0) 0 m (at / 4096) (page_written (at % 4096) (b ∷ [])) (a / 4096)
    (λ e p. get_or-set_other p.bytes (at % 4096) (a % 4096) b 0 (apart_in_page at a here e))

pub is_marked-written_other : (m : Pages) (at : ℕ) (bs : List ℕ) (a : ℕ) → ((k : ℕ) → k < length bs → a ≢ at + k) → is_marked (written m at bs) a ≡ is_marked m a
unfolding written
is_marked-written_other m at [] a h = refl
is_marked-written_other m at (b ∷ bs) a h =
    let here : a ≢ at = λ e. h 0 (omega arith) (omega arith) in
    is_marked-written_other (with_page m (at / 4096) (page_written (at % 4096) (b ∷ []))) (at + 1) bs a (λ k l e. h (k + 1) (omega arith) (omega arith))
    ∙ read_kept (λ p. get_or p.marks (a % 4096) false) false m (at / 4096) (page_written (at % 4096) (b ∷ [])) (a / 4096)
    (λ e p. get_or-set_other p.marks (at % 4096) (a % 4096) false false (apart_in_page at a here e))

IsWhole-byte : (m : Pages) (at b : ℕ) → IsWhole m → IsWhole (with_page m (at / 4096) (page_written (at % 4096) (b ∷ [])))
unfolding written
IsWhole-byte m at b whole = IsWhole-written m at (b ∷ []) whole

byte_set : (m : Pages) (at b : ℕ) (o : Option PageState) → map.get m (at / 4096) ≡ o → IsWhole m → is_some o ≡ true
    → option_map_or (λ p. get_or p.bytes (at % 4096) 0) (option_map (page_written (at % 4096) (b ∷ [])) o) 0 ≡ b
byte_set m at b None e whole there = absurd cc
byte_set m at b (Some p) e whole there =
    let within : at % 4096 < length p.bytes = omega (arith, (whole (at / 4096) p e).0) in
    get_or-set_same p.bytes (at % 4096) b 0 within

-- a byte that was written where a page is
pub byte_at-written_in : (m : Pages) (at : ℕ) (bs : List ℕ) (k : ℕ) → IsWhole m → k < length bs → map.contains_key m ((at + k) / 4096) ≡ true → byte_at (written m at bs) (at + k) ≡ get_or bs k 0
unfolding written
byte_at-written_in m at [] k whole l there = absurd (omega arith)
byte_at-written_in m at (b ∷ bs) zero whole l there =
    let here : at + zero ≡ at = omega arith in
    let first = with_page m (at / 4096) (page_written (at % 4096) (b ∷ [])) in
    ap (byte_at (written first (at + 1) bs)) here
    ∙ byte_at-written_other first (at + 1) bs at (λ k l e. absurd (omega arith))
    ∙ ap (λ o. option_map_or (λ p. get_or p.bytes (at % 4096) 0) o 0) (get-changed_same m (at / 4096) (page_written (at % 4096) (b ∷ [])))
    ∙ byte_set m at b (map.get m (at / 4096)) refl whole (ap (λ a. map.contains_key m (a / 4096)) (sym here) ∙ there)
byte_at-written_in m at (b ∷ bs) (suc k) whole l there =
    let next : at + suc k ≡ at + 1 + k = omega arith in
    let first = with_page m (at / 4096) (page_written (at % 4096) (b ∷ [])) in
    ap (byte_at (written first (at + 1) bs)) next
    ∙ byte_at-written_in first (at + 1) bs k (IsWhole-byte m at b whole) (omega arith)
    (contains-with_page m (at / 4096) (page_written (at % 4096) (b ∷ [])) ((at + 1 + k) / 4096) ∙ ap (λ a. map.contains_key m (a / 4096)) (sym next) ∙ there)

-- ---- marks set

pub allows-marked : (m : Pages) (at n a : ℕ) (what : Use) → allows (marked m at n) a what ≡ allows m a what
unfolding marked
allows-marked m at zero a what = refl
allows-marked m at (suc n) a what =
    allows-marked (with_page m (at / 4096) (page_marked (at % 4096) 1)) (at + 1) n a what
    ∙ read_kept (λ p. grants p.rights what) false m (at / 4096) (page_marked (at % 4096) 1) (a / 4096) (λ e p. refl)

pub byte_at-marked : (m : Pages) (at n a : ℕ) → byte_at (marked m at n) a ≡ byte_at m a
unfolding marked
byte_at-marked m at zero a = refl
byte_at-marked m at (suc n) a =
    byte_at-marked (with_page m (at / 4096) (page_marked (at % 4096) 1)) (at + 1) n a
    ∙ read_kept (λ p. get_or p.bytes (a % 4096) 0) 0 m (at / 4096) (page_marked (at % 4096) 1) (a / 4096) (λ e p. refl)

pub is_marked-marked_other : (m : Pages) (at n a : ℕ) → ((k : ℕ) → k < n → a ≢ at + k) → is_marked (marked m at n) a ≡ is_marked m a
unfolding marked
is_marked-marked_other m at zero a h = refl
is_marked-marked_other m at (suc n) a h =
    let here : a ≢ at = λ e. h 0 (omega arith) (omega arith) in
    is_marked-marked_other (with_page m (at / 4096) (page_marked (at % 4096) 1)) (at + 1) n a (λ k l e. h (k + 1) (omega arith) (omega arith))
    ∙ read_kept (λ p. get_or p.marks (a % 4096) false) false m (at / 4096) (page_marked (at % 4096) 1) (a / 4096)
    (λ e p. get_or-set_other p.marks (at % 4096) (a % 4096) true false (apart_in_page at a here e))

mark_set : (m : Pages) (at : ℕ) (o : Option PageState) → map.get m (at / 4096) ≡ o → IsWhole m → is_some o ≡ true
    → option_map_or (λ p. get_or p.marks (at % 4096) false) (option_map (page_marked (at % 4096) 1) o) false ≡ true
mark_set m at None e whole there = absurd cc
mark_set m at (Some p) e whole there =
    let within : at % 4096 < length p.marks = omega (arith, (whole (at / 4096) p e).1) in
    get_or-set_same p.marks (at % 4096) true false within

IsWhole-mark : (m : Pages) (at : ℕ) → IsWhole m → IsWhole (with_page m (at / 4096) (page_marked (at % 4096) 1))
unfolding marked
IsWhole-mark m at whole = IsWhole-marked m at 1 whole

-- a byte that was marked where a page is
pub is_marked-marked_in : (m : Pages) (at n k : ℕ) → IsWhole m → k < n → map.contains_key m ((at + k) / 4096) ≡ true → is_marked (marked m at n) (at + k) ≡ true
unfolding marked
is_marked-marked_in m at zero k whole l there = absurd (omega arith)
is_marked-marked_in m at (suc n) zero whole l there =
    let here : at + zero ≡ at = omega arith in
    let first = with_page m (at / 4096) (page_marked (at % 4096) 1) in
    ap (is_marked (marked first (at + 1) n)) here
    ∙ is_marked-marked_other first (at + 1) n at (λ k l e. absurd (omega arith))
    ∙ ap (λ o. option_map_or (λ p. get_or p.marks (at % 4096) false) o false) (get-changed_same m (at / 4096) (page_marked (at % 4096) 1))
    ∙ mark_set m at (map.get m (at / 4096)) refl whole (ap (λ a. map.contains_key m (a / 4096)) (sym here) ∙ there)
is_marked-marked_in m at (suc n) (suc k) whole l there =
    let next : at + suc k ≡ at + 1 + k = omega arith in
    let first = with_page m (at / 4096) (page_marked (at % 4096) 1) in
    ap (is_marked (marked first (at + 1) n)) next
    ∙ is_marked-marked_in first (at + 1) n k (IsWhole-mark m at whole) (omega arith)
    (contains-with_page m (at / 4096) (page_marked (at % 4096) 1) ((at + 1 + k) / 4096) ∙ ap (λ a. map.contains_key m (a / 4096)) (sym next) ∙ there)

mark_cleared : (m : Pages) (at b : ℕ) (o : Option PageState) → map.get m (at / 4096) ≡ o → IsWhole m
    → option_map_or (λ p. get_or p.marks (at % 4096) false) (option_map (page_written (at % 4096) (b ∷ [])) o) false ≡ false
mark_cleared m at b None e whole = refl
mark_cleared m at b (Some p) e whole =
    let within : at % 4096 < length p.marks = omega (arith, (whole (at / 4096) p e).1) in
    get_or-set_same p.marks (at % 4096) false false within

-- a byte that was written has no mark
pub is_marked-written_in : (m : Pages) (at : ℕ) (bs : List ℕ) (k : ℕ) → IsWhole m → k < length bs → is_marked (written m at bs) (at + k) ≡ false
unfolding written
is_marked-written_in m at [] k whole l = absurd (omega arith)
is_marked-written_in m at (b ∷ bs) zero whole l =
    let here : at + zero ≡ at = omega arith in
    let first = with_page m (at / 4096) (page_written (at % 4096) (b ∷ [])) in
    ap (is_marked (written first (at + 1) bs)) here
    ∙ is_marked-written_other first (at + 1) bs at (λ k l e. absurd (omega arith))
    ∙ ap (λ o. option_map_or (λ p. get_or p.marks (at % 4096) false) o false) (get-changed_same m (at / 4096) (page_written (at % 4096) (b ∷ [])))
    ∙ mark_cleared m at b (map.get m (at / 4096)) refl whole
is_marked-written_in m at (b ∷ bs) (suc k) whole l =
    let next : at + suc k ≡ at + 1 + k = omega arith in
    let first = with_page m (at / 4096) (page_written (at % 4096) (b ∷ [])) in
    ap (is_marked (written first (at + 1) bs)) next ∙ is_marked-written_in first (at + 1) bs k (IsWhole-byte m at b whole) (omega arith)
