-- Steps of the loops over bytes.
use Rattle.std.specs.FinMap as map
use Rattle.std.proofs.Common.{◌≡◌, subst, ℕ, ◌+◌, ◌-◌, ◌*◌, ◌/◌, ◌%◌, ◌≤◌, ◌<◌, ◌^◌, zero, suc, Bool, true, false, ◌&&◌, ◌||◌, List, [], ◌∷◌, ◌++◌, length, take, drop, refl, sym, ap, ◌∙◌, arith, Option, Some, None, is_some}
use Rattle.std.specs.Option.{option_map_or}
use Rattle.rv_mem.specs.declared.rights.Use.{Use}
use Rattle.rv_mem.specs.Page.{PageState, grants}
use Rattle.rv_mem.specs.Pages.{Pages, page_allows, allows, allows_all, any_marked, bytes_from, written, HasPagesAt, IsPlaced}
use Rattle.rv_mem.proofs.PagesLemmas.{allows_all-add, any_marked-add, bytes_from-add, written-append, allows_all_in_page, length-bytes_from}
use Rattle.std.proofs.lemmas.List.{length-take-le, length-drop, length-append}
use Rattle.std.proofs.lemmas.Slice.{take-put_mid}
use borrow.Rule.Slice.PartMut.{put_mid}

there_from : (what : Use) (o : Option PageState) → option_map_or (λ p. grants p.rights what) o false ≡ true → is_some o ≡ true
there_from what None h = absurd cc
there_from what (Some p) h = refl

-- a page that allows a use is there
pub contains_allowed : (m : Pages) (k : ℕ) (what : Use) → page_allows m k what ≡ true → map.contains_key m k ≡ true
contains_allowed m k what h = there_from what (map.get m k) h

and_first : (a b : Bool) → (a && b) ≡ true → a ≡ true
and_first true b h = refl
and_first false b h = absurd cc

and_second : (a b : Bool) → (a && b) ≡ true → b ≡ true
and_second true b h = h
and_second false b h = absurd cc

pub allows_all-zero : (m : Pages) (at : ℕ) (what : Use) → allows_all m at 0 what ≡ true
unfolding allows_all
allows_all-zero m at what = refl

-- what is allowed is there
pub HasPagesAt-allowed : (m : Pages) (at n : ℕ) (what : Use) → allows_all m at n what ≡ true → HasPagesAt m at n
unfolding allows_all
HasPagesAt-allowed m at zero what h k l = absurd (omega arith)
HasPagesAt-allowed m at (suc n) what h zero l =
    let here : at ≡ at + zero = omega arith in
    subst (λ a. map.contains_key m (a / 4096) ≡ true) here (contains_allowed m (at / 4096) what (and_first (allows m at what) (allows_all m (at + 1) n what) h))
HasPagesAt-allowed m at (suc n) what h (suc k) l =
    let there : at + 1 + k ≡ at + suc k = omega arith in
    subst (λ a. map.contains_key m (a / 4096) ≡ true) there (HasPagesAt-allowed m (at + 1) n what (and_second (allows m at what) (allows_all m (at + 1) n what) h) k (omega arith))

-- what is there doesn't pass the last address
pub fits_placed : (m : Pages) (at n : ℕ) → IsPlaced m → HasPagesAt m at n → at < 2 ^ 64 → at + n < 2 ^ 64
fits_placed m at zero placed there h = omega arith
fits_placed m at (suc n) placed there h = let last : (at + n) / 4096 < 67108863 = placed ((at + n) / 4096) (there n (omega arith)) in omega arith

pub fits_allowed : (m : Pages) (at n : ℕ) → IsPlaced m → HasPagesAt m at n → at < 2 ^ 64 → at + n ≤ 2 ^ 64
fits_allowed m at n placed there h = let below = fits_placed m at n placed there h in omega arith

-- the rest of a range decides once its beginning is allowed
pub allows_all_rest : (m : Pages) (at n here : ℕ) (what : Use) → page_allows m (at / 4096) what ≡ true → at % 4096 + here ≤ 4096 → here ≤ n
    → allows_all m at n what ≡ allows_all m (at + here) (n - here) what
allows_all_rest m at n here what allowed within le =
    let count : n ≡ here + (n - here) = omega arith in
    let placed : at ≡ at / 4096 * 4096 + at % 4096 = omega arith in
    ap (λ j. allows_all m at j what) count
    ∙ allows_all-add m at here (n - here) what
    ∙ ap (λ b. b && allows_all m (at + here) (n - here) what) (allows_all_in_page m (at / 4096) (at % 4096) at here what placed within allowed)

pub written-nil : (m : Pages) (at : ℕ) → written m at [] ≡ m
unfolding written
written-nil m at = refl

pub bytes_from-zero : (m : Pages) (at : ℕ) → bytes_from m at 0 ≡ []
unfolding bytes_from
bytes_from-zero m at = refl

pub any_marked-zero : (m : Pages) (at : ℕ) → any_marked m at 0 ≡ false
unfolding any_marked
any_marked-zero m at = refl

take_split : (n k : ℕ) (xs : List ℕ) → take n xs ++ take k (drop n xs) ≡ take (n + k) xs
take_split zero k xs = let e : k ≡ zero + k = omega arith in ap (λ j. take j xs) e
take_split (suc n) k [] = let e : suc n + k ≡ suc (n + k) = omega arith in take-nil k ∙ sym (ap (λ j. take {A = ℕ} j []) e)
  where
    take-nil : (k : ℕ) → take {A = ℕ} k [] ≡ []
    take-nil zero = refl
    take-nil (suc k) = refl
take_split (suc n) k (x ∷ xs) = let e : suc (n + k) ≡ suc n + k = omega arith in ap (λ ys. x ∷ ys) (take_split n k xs) ∙ ap (λ j. take j (x ∷ xs)) e

-- the bytes of one page more written
pub written_more : (old m : Pages) (at done count k : ℕ) (bs : List ℕ) → m ≡ written old at (take done bs) → done + count ≤ length bs → k ≡ count
    → written m (at + done) (take k (drop done bs)) ≡ written old at (take (done + count) bs)
written_more old m at done count k bs so_far within e =
    let from : at + done ≡ at + length (take done bs) = omega (arith, length-take-le done bs (omega arith)) in
    ap (λ r. written r (at + done) (take k (drop done bs))) so_far
    ∙ ap (λ a. written (written old at (take done bs)) a (take k (drop done bs))) from
    ∙ sym (written-append old at (take done bs) (take k (drop done bs)))
    ∙ ap (λ j. written old at (take done bs ++ take j (drop done bs))) e
    ∙ ap (written old at) (take_split done count bs)

length-put_mid : (a k : ℕ) (xs ys : List ℕ) → a + k ≤ length xs → length ys ≡ k → length (put_mid a k xs ys) ≡ length xs
length-put_mid a k xs ys h e =
    length-append (take a xs) (ys ++ drop k (drop a xs))
    ∙ ap (λ n. length (take a xs) + n) (length-append ys (drop k (drop a xs)))
    ∙ omega (arith, length-take-le a xs (omega arith), length-drop k (drop a xs), length-drop a xs)

length_part : (done count k : ℕ) (xs : List ℕ) → done + count ≤ length xs → k ≡ count → length (take k (drop done xs)) ≡ count
length_part done count k xs h e = length-take-le k (drop done xs) (omega (arith, length-drop done xs)) ∙ e

-- the bytes of one page more read
pub read_more : (m : Pages) (at done count k : ℕ) (into new : List ℕ) → take done into ≡ bytes_from m at done → done + count ≤ length into → k ≡ count
    → new ≡ bytes_from m (at + done) (length (take k (drop done into))) → take (done + count) (put_mid done k into new) ≡ bytes_from m at (done + count)
read_more m at done count k into new so_far within e is =
    let got : new ≡ bytes_from m (at + done) count = is ∙ ap (bytes_from m (at + done)) (length_part done count k into within e) in
    let size : done + count ≡ done + length new = omega (arith, ap length got, length-bytes_from m (at + done) count) in
    take-put_mid done k into new (done + count) size (omega arith)
    ∙ ap (λ xs. xs ++ new) so_far
    ∙ ap (λ ys. bytes_from m at done ++ ys) got
    ∙ sym (bytes_from-add m at done count)

pub marked_more : (m : Pages) (at done count k : ℕ) (into : List ℕ) (marked seen : Bool) → marked ≡ any_marked m at done → done + count ≤ length into → k ≡ count
    → seen ≡ any_marked m (at + done) (length (take k (drop done into))) → (marked || seen) ≡ any_marked m at (done + count)
marked_more m at done count k into marked seen so_far within e is =
    ap (λ b. b || seen) so_far
    ∙ ap (λ b. any_marked m at done || b) (is ∙ ap (any_marked m (at + done)) (length_part done count k into within e))
    ∙ sym (any_marked-add m at done count)

pub put_within : (done count k : ℕ) (into new : List ℕ) → done + count ≤ length into → k ≡ count → length new ≡ length (take k (drop done into)) → done + count ≤ length (put_mid done k into new)
put_within done count k into new within e size =
    let long : length new ≡ k = size ∙ length_part done count k into within e ∙ sym e in
    omega (arith, length-put_mid done k into new (omega arith) long)
