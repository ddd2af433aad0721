-- Pages after one of them was changed.
use Rattle.std.specs.FinMap as map
use Rattle.std.proofs.Common.{◌≡◌, ℕ, ◌+◌, ◌*◌, ◌/◌, ◌%◌, ◌≤◌, ◌<◌, zero, suc, Bool, true, false, ◌&&◌, ◌||◌, List, [], ◌∷◌, ◌++◌, length, take, drop, refl, sym, ap, ◌∙◌, arith, Some, None, add-one, get_or}
use Rattle.std.specs.Option.{option_map_or}
use Rattle.std.specs.List.{list_any}
use Rattle.std.proofs.lemmas.List.{drop_more}
use Rattle.rv_table.proofs.pr_base.MapLemmas.{changed-id, changed-none, changed-twice, changed-alike}
use Rattle.rv_mem.specs.declared.rights.Use.{Use}
use Rattle.rv_mem.specs.Page.{PageState, page_written, page_marked}
use Rattle.rv_mem.specs.Pages.{Pages, with_page, written, marked, page_allows, allows, allows_all, byte_at, bytes_from, is_marked, any_marked, HasNoPages}

pub with_page_twice : (m : Pages) (k : ℕ) (f g : PageState → PageState) → with_page (with_page m k f) k g ≡ with_page m k (λ p. g (f p))
with_page_twice m k f g = changed-twice m k g f

pub with_page_same : (m : Pages) (k : ℕ) (f g : PageState → PageState) → ((p : PageState) → f p ≡ g p) → with_page m k f ≡ with_page m k g
with_page_same m k f g same = changed-alike m k f g (λ p there. same p)

-- ---- bytes inside one page

page_written-nil : (i : ℕ) (p : PageState) → p ≡ page_written i [] p
page_written-nil i p = refl

page_written-cons : (i : ℕ) (b : ℕ) (bs : List ℕ) (p : PageState) → page_written (i + 1) bs (page_written i (b ∷ []) p) ≡ page_written i (b ∷ bs) p
page_written-cons i b bs p = ap (λ j. page_written j bs (page_written i (b ∷ []) p)) (add-one i)

page_marked-suc : (i n : ℕ) (p : PageState) → page_marked (i + 1) n (page_marked i 1 p) ≡ page_marked i (suc n) p
page_marked-suc i n p = ap (λ j. page_marked j n (page_marked i 1 p)) (add-one i)

-- writing inside one page changes that page
pub written_in_page : (m : Pages) (k i at : ℕ) (bs : List ℕ) → at ≡ k * 4096 + i → i + length bs ≤ 4096 → written m at bs ≡ with_page m k (page_written i bs)
unfolding written
written_in_page m k i at [] e h = sym (changed-id m k)
written_in_page m k i at (b ∷ bs) e h =
    let number : at / 4096 ≡ k = omega arith in
    let place : at % 4096 ≡ i = omega arith in
    ap (λ n. written (with_page m n (page_written (at % 4096) (b ∷ []))) (at + 1) bs) number
    ∙ ap (λ j. written (with_page m k (page_written j (b ∷ []))) (at + 1) bs) place
    ∙ written_in_page (with_page m k (page_written i (b ∷ []))) k (i + 1) (at + 1) bs (omega arith) (omega arith)
    ∙ with_page_twice m k (page_written i (b ∷ [])) (page_written (i + 1) bs)
    ∙ with_page_same m k _ _ (page_written-cons i b bs)

-- marking inside one page changes that page
pub marked_in_page : (m : Pages) (k i at n : ℕ) → at ≡ k * 4096 + i → i + n ≤ 4096 → marked m at n ≡ with_page m k (page_marked i n)
unfolding marked
marked_in_page m k i at zero e h = sym (changed-id m k)
marked_in_page m k i at (suc n) e h =
    let number : at / 4096 ≡ k = omega arith in
    let place : at % 4096 ≡ i = omega arith in
    ap (λ r. marked (with_page m r (page_marked (at % 4096) 1)) (at + 1) n) number
    ∙ ap (λ j. marked (with_page m k (page_marked j 1)) (at + 1) n) place
    ∙ marked_in_page (with_page m k (page_marked i 1)) k (i + 1) (at + 1) n (omega arith) (omega arith)
    ∙ with_page_twice m k (page_marked i 1) (page_marked (i + 1) n)
    ∙ with_page_same m k _ _ (page_marked-suc i n)

-- bytes that aren't there are passed over
pub marked_nowhere : (m : Pages) (at n from to : ℕ) → HasNoPages m from to → from ≤ at / 4096 → at + n ≤ to * 4096 → marked m at n ≡ m
unfolding marked
marked_nowhere m at zero from to none low high = refl
marked_nowhere m at (suc n) from to none low high =
    let here : map.get m (at / 4096) ≡ None = none (at / 4096) low (omega arith) in
    ap (λ r. marked r (at + 1) n) (changed-none m (at / 4096) (page_marked (at % 4096) 1) here)
    ∙ marked_nowhere m (at + 1) n from to none (omega arith) (omega arith)

-- ---- one range after another

pub written-append : (m : Pages) (at : ℕ) (bs cs : List ℕ) → written m at (bs ++ cs) ≡ written (written m at bs) (at + length bs) cs
unfolding written
written-append m at [] cs = ap (λ a. written m a cs) (omega arith)
written-append m at (b ∷ bs) cs =
    written-append (with_page m (at / 4096) (page_written (at % 4096) (b ∷ []))) (at + 1) bs cs
    ∙ ap (λ a. written (written m at (b ∷ bs)) a cs) (omega arith)

pub marked-add : (m : Pages) (at n k : ℕ) → marked m at (n + k) ≡ marked (marked m at n) (at + n) k
unfolding marked
marked-add m at zero k =
    let count : zero + k ≡ k = omega arith in
    let from : at ≡ at + zero = omega arith in
    ap (marked m at) count ∙ ap (λ a. marked m a k) from
marked-add m at (suc n) k =
    let count : suc n + k ≡ suc (n + k) = omega arith in
    let from : at + 1 + n ≡ at + suc n = omega arith in
    ap (marked m at) count
    ∙ marked-add (with_page m (at / 4096) (page_marked (at % 4096) 1)) (at + 1) n k
    ∙ ap (λ a. marked (marked m at (suc n)) a k) from

and_assoc : (a b c : Bool) → (a && (b && c)) ≡ ((a && b) && c)
and_assoc true b c = refl
and_assoc false b c = refl

or_assoc : (a b c : Bool) → (a || (b || c)) ≡ ((a || b) || c)
or_assoc true b c = refl
or_assoc false b c = refl

pub allows_all-add : (m : Pages) (at n k : ℕ) (what : Use) → allows_all m at (n + k) what ≡ (allows_all m at n what && allows_all m (at + n) k what)
unfolding allows_all
allows_all-add m at zero k what =
    let count : zero + k ≡ k = omega arith in
    let from : at ≡ at + zero = omega arith in
    ap (λ j. allows_all m at j what) count ∙ ap (λ a. allows_all m a k what) from
allows_all-add m at (suc n) k what =
    let count : suc n + k ≡ suc (n + k) = omega arith in
    let from : at + 1 + n ≡ at + suc n = omega arith in
    ap (λ j. allows_all m at j what) count
    ∙ ap (λ b. allows m at what && b) (allows_all-add m (at + 1) n k what ∙ ap (λ a. allows_all m (at + 1) n what && allows_all m a k what) from)
    ∙ and_assoc (allows m at what) (allows_all m (at + 1) n what) (allows_all m (at + suc n) k what)

pub any_marked-add : (m : Pages) (at n k : ℕ) → any_marked m at (n + k) ≡ (any_marked m at n || any_marked m (at + n) k)
unfolding any_marked
any_marked-add m at zero k =
    let count : zero + k ≡ k = omega arith in
    let from : at ≡ at + zero = omega arith in
    ap (λ j. any_marked m at j) count ∙ ap (λ a. any_marked m a k) from
any_marked-add m at (suc n) k =
    let count : suc n + k ≡ suc (n + k) = omega arith in
    let from : at + 1 + n ≡ at + suc n = omega arith in
    ap (λ j. any_marked m at j) count
    ∙ ap (λ b. is_marked m at || b) (any_marked-add m (at + 1) n k ∙ ap (λ a. any_marked m (at + 1) n || any_marked m a k) from)
    ∙ or_assoc (is_marked m at) (any_marked m (at + 1) n) (any_marked m (at + suc n) k)

pub bytes_from-add : (m : Pages) (at n k : ℕ) → bytes_from m at (n + k) ≡ bytes_from m at n ++ bytes_from m (at + n) k
unfolding bytes_from
bytes_from-add m at zero k =
    let count : zero + k ≡ k = omega arith in
    let from : at ≡ at + zero = omega arith in
    ap (λ j. bytes_from m at j) count ∙ ap (λ a. bytes_from m a k) from
bytes_from-add m at (suc n) k =
    let count : suc n + k ≡ suc (n + k) = omega arith in
    let from : at + 1 + n ≡ at + suc n = omega arith in
    ap (λ j. bytes_from m at j) count
    ∙ ap (λ bs. byte_at m at ∷ bs) (bytes_from-add m (at + 1) n k ∙ ap (λ a. bytes_from m (at + 1) n ++ bytes_from m a k) from)

pub length-bytes_from : (m : Pages) (at n : ℕ) → length (bytes_from m at n) ≡ n
unfolding bytes_from
length-bytes_from m at zero = refl
length-bytes_from m at (suc n) = ap suc (length-bytes_from m (at + 1) n)

-- ---- a range inside one page

pub allows_all_in_page : (m : Pages) (k i at n : ℕ) (what : Use) → at ≡ k * 4096 + i → i + n ≤ 4096 → page_allows m k what ≡ true → allows_all m at n what ≡ true
unfolding allows_all
allows_all_in_page m k i at zero what e h allowed = refl
allows_all_in_page m k i at (suc n) what e h allowed =
    let number : at / 4096 ≡ k = omega arith in
    ap (λ q. page_allows m q what && allows_all m (at + 1) n what) number
    ∙ ap (λ b. b && allows_all m (at + 1) n what) allowed
    ∙ allows_all_in_page m k (i + 1) (at + 1) n what (omega arith) (omega arith) allowed

pub allows_all_refused : (m : Pages) (at n : ℕ) (what : Use) → 0 < n → page_allows m (at / 4096) what ≡ false → allows_all m at n what ≡ false
unfolding allows_all
allows_all_refused m at zero what some refused = absurd (omega arith)
allows_all_refused m at (suc n) what some refused = ap (λ b. b && allows_all m (at + 1) n what) refused

pub bytes_from_in_page : (m : Pages) (k i at n : ℕ) (p : PageState) → at ≡ k * 4096 + i → i + n ≤ 4096 → map.get m k ≡ Some p → length p.bytes ≡ 4096
    → take n (drop i p.bytes) ≡ bytes_from m at n
unfolding bytes_from
bytes_from_in_page m k i at zero p e h there full = refl
bytes_from_in_page m k i at (suc n) p e h there full =
    let number : at / 4096 ≡ k = omega arith in
    let place : at % 4096 ≡ i = omega arith in
    let within : i < length p.bytes = omega arith in
    let byte : byte_at m at ≡ get_or p.bytes i 0 =
    ap (λ q. option_map_or (λ r. get_or r.bytes (at % 4096) 0) (map.get m q) 0) number
    ∙ ap (λ o. option_map_or (λ r. get_or r.bytes (at % 4096) 0) o 0) there
    ∙ ap (λ j. get_or p.bytes j 0) place
    in ap (take (suc n)) (drop_more p.bytes i 0 within)
    ∙ ap (λ bs. get_or p.bytes i 0 ∷ bs) (bytes_from_in_page m k (i + 1) (at + 1) n p (omega arith) (omega arith) there full)
    ∙ ap (λ b. b ∷ bytes_from m (at + 1) n) (sym byte)

none_of_nothing : (n : ℕ) → list_any (λ m. m) (take n []) ≡ false
none_of_nothing zero = refl
none_of_nothing (suc n) = refl

any_more : (marks : List Bool) (i n : ℕ) → list_any (λ m. m) (take (suc n) (drop i marks)) ≡ (get_or marks i false || list_any (λ m. m) (take n (drop (suc i) marks)))
any_more [] zero n = sym (none_of_nothing n)
any_more [] (suc i) n = sym (none_of_nothing n)
any_more (x ∷ marks) zero n = refl
any_more (x ∷ marks) (suc i) n = any_more marks i n

pub any_marked_in_page : (m : Pages) (k i at n : ℕ) (p : PageState) → at ≡ k * 4096 + i → i + n ≤ 4096 → map.get m k ≡ Some p
    → list_any (λ m. m) (take n (drop i p.marks)) ≡ any_marked m at n
unfolding any_marked
any_marked_in_page m k i at zero p e h there = refl
any_marked_in_page m k i at (suc n) p e h there =
    let number : at / 4096 ≡ k = omega arith in
    let place : at % 4096 ≡ i = omega arith in
    let mark : is_marked m at ≡ get_or p.marks i false =
    ap (λ q. option_map_or (λ r. get_or r.marks (at % 4096) false) (map.get m q) false) number
    ∙ ap (λ o. option_map_or (λ r. get_or r.marks (at % 4096) false) o false) there
    ∙ ap (λ j. get_or p.marks j false) place
    in any_more p.marks i n
    ∙ ap (λ j. get_or p.marks i false || list_any (λ m. m) (take n (drop j p.marks))) (sym (add-one i))
    ∙ ap (λ b. get_or p.marks i false || b) (any_marked_in_page m k (i + 1) (at + 1) n p (omega arith) (omega arith) there)
    ∙ ap (λ b. b || any_marked m (at + 1) n) (sym mark)
