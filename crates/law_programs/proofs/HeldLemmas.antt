-- Items that were put on a shelf stand there.
use Rattle.std.proofs.Common.{◌≡◌, ◌≢◌, ℕ, zero, suc, ◌+◌, ◌<◌, ◌≤◌, ◌/◌, true, false, ◌&&◌, List, [], ◌∷◌, ◌++◌, length, get_or, Ok, refl, sym, ap, ◌∙◌, subst, arith, add-zero}
use Rattle.std.specs.Prelude.{nat_eq}
use Rattle.std.specs.List.{All}
use Rattle.std.proofs.lemmas.Bool.{eq-eqb, ne_eqb}
use Rattle.std.proofs.lemmas.List.Elements.{All-head, All-tail}
use Rattle.kr_first.specs.rv_mem.Memory.{text_after, text_of}
use Rattle.kr_first.specs.rv_mem.Pages.{IsPlaced, IsWhole, Pages, allows, allows_all, byte_at, bytes_from, written}
use Rattle.kr_first.specs.rv_mem.declared.rights.Use.TheVariants.{Read}
use Rattle.kr_first.proofs.rv_mem.AccessLemmas.{contains_allowed}
use Rattle.kr_first.proofs.rv_mem.AddressLemmas.{allows-written, byte_at-written_in, byte_at-written_other}
use Rattle.kr_first.proofs.rv_mem.SpaceLemmas.{IsPlaced-written, IsWhole-written}
use Rattle.law_edits.specs.pt_args.Laws.{ShelvesHoldTheirItems, StandBetween, poked, room_of}
use Rattle.law_edits.specs.pt_args.Shelving.{address_below, shelved}

-- ---- addresses on a shelf

pub fits_below : (top size : ℕ) → size ≤ top → address_below top size + size ≤ top
fits_below top size room = omega arith

pub not_far_below : (top size : ℕ) → top ≤ address_below top size + size + 7
not_far_below top size = omega arith

-- ---- bytes that stand somewhere

-- these bytes stand from an address on, and may be read
abbrev pub Holds : Pages → ℕ → List ℕ → Type 0
Holds m at [] = Unit {0}
Holds m at (b ∷ bytes) = (allows m at Read ≡ true) × (byte_at m at ≡ b) × Holds m (at + 1) bytes

-- byte by byte
holds_by_places : (m : Pages) (at : ℕ) (bytes : List ℕ) → ((k : ℕ) → k < length bytes → (allows m (at + k) Read ≡ true) × (byte_at m (at + k) ≡ get_or bytes k 0)) → Holds m at bytes
holds_by_places m at [] each = tt
holds_by_places m at (b ∷ bytes) each =
    let own : (allows m at Read ≡ true) × (byte_at m at ≡ b) = subst (λ a. (allows m a Read ≡ true) × (byte_at m a ≡ b)) (add-zero at) (each 0 (omega arith)) in (
      own.0,
      own.1,
      holds_by_places m (at + 1) bytes (λ k below.
          subst (λ a. (allows m a Read ≡ true) × (byte_at m a ≡ get_or bytes k 0)) (let e : at + suc k ≡ at + 1 + k = omega arith in e) (each (suc k) (omega arith))),
    )

-- bytes that were written where they may be read
pub written_holds : (m : Pages) (at : ℕ) (bytes : List ℕ) → IsWhole m → ((k : ℕ) → k < length bytes → allows m (at + k) Read ≡ true) → Holds (written m at bytes) at bytes
written_holds m at bytes whole may =
    holds_by_places (written m at bytes) at bytes
    (λ k below. (allows-written m at bytes (at + k) Read ∙ may k below, byte_at-written_in m at bytes k whole below (contains_allowed m ((at + k) / 4096) Read (may k below))))

-- a text with its zero is read
pub read_of : (m : Pages) (at max : ℕ) (text : List ℕ) → length text < max → All (λ b. b ≢ 0) text → Holds m at (text ++ 0 ∷ []) → text_of m at max ≡ Ok text
unfolding text_of
read_of m at zero text short some holds = absurd (let h : ⊥ = omega arith in h)
read_of m at (suc max) [] short some holds =
    let last : nat_eq (byte_at m at) 0 ≡ true = eq-eqb (byte_at m at) 0 holds.1 in
    rw (holds.0, last) refl
read_of m at (suc max) (b ∷ text) short some holds =
    let own : b ≢ 0 = All-head (λ b. b ≢ 0) b text some in
    let on : nat_eq (byte_at m at) 0 ≡ false = ne_eqb (byte_at m at) 0 (λ e. own (sym holds.1 ∙ e)) in
    let rest : text_of m (at + 1) max ≡ Ok text = read_of m (at + 1) max text (omega arith) (All-tail (λ b. b ≢ 0) b text some) holds.2 in
    rw (holds.0, on) ((λ i. text_after (holds.1 i) (rest i)))

-- items further down leave what stands above
pub poked_above : (m : Pages) (bottom top : ℕ) (items : List (ℕ × List ℕ)) → StandBetween bottom top items → (a : ℕ) → top ≤ a → byte_at (poked m items) a ≡ byte_at m a
poked_above m bottom top [] stand a above = refl
poked_above m bottom top (p ∷ items) stand a above =
    let fits : p.0 + length p.1 ≤ top = stand.2 in
    poked_above (written m p.0 p.1) bottom p.0 items stand.3 a (omega arith)
    ∙ byte_at-written_other m p.0 p.1 a (λ k below e. let h : ⊥ = omega arith in h)

pub poked_allows : (m : Pages) (items : List (ℕ × List ℕ)) (a : ℕ) → allows (poked m items) a Read ≡ allows m a Read
poked_allows m [] a = refl
poked_allows m (p ∷ items) a = poked_allows (written m p.0 p.1) items a ∙ allows-written m p.0 p.1 a Read

pub holds_on : (m : Pages) (bottom top : ℕ) (items : List (ℕ × List ℕ)) → StandBetween bottom top items → (at : ℕ) (bytes : List ℕ) → top ≤ at → Holds m at bytes → Holds (poked m items) at bytes
holds_on m bottom top items stand at [] above holds = tt
holds_on m bottom top items stand at (b ∷ bytes) above holds =
    (poked_allows m items at ∙ holds.0, poked_above m bottom top items stand at above ∙ holds.1, holds_on m bottom top items stand (at + 1) bytes (omega arith) holds.2)

pub holds-front : (m : Pages) (at : ℕ) (xs ys : List ℕ) → Holds m at (xs ++ ys) → Holds m at xs
holds-front m at [] ys holds = tt
holds-front m at (x ∷ xs) ys holds = (holds.0, holds.1, holds-front m (at + 1) xs ys holds.2)

pub holds-back : (m : Pages) (at : ℕ) (xs ys : List ℕ) → Holds m at (xs ++ ys) → Holds m (at + length xs) ys
holds-back m at [] ys holds = let same : at ≡ at + zero = omega arith in subst (λ a. Holds m a ys) same holds
holds-back m at (x ∷ xs) ys holds = let same : at + 1 + length xs ≡ at + suc (length xs) = omega arith in subst (λ a. Holds m a ys) same (holds-back m (at + 1) xs ys holds.2)

pub bytes-held : (m : Pages) (at : ℕ) (xs : List ℕ) → Holds m at xs → bytes_from m at (length xs) ≡ xs
unfolding bytes_from
bytes-held m at [] holds = refl
bytes-held m at (x ∷ xs) holds = ap (λ b. b ∷ bytes_from m (at + 1) (length xs)) holds.1 ∙ ap (λ bytes. x ∷ bytes) (bytes-held m (at + 1) xs holds.2)

pub bytes-allowed : (m : Pages) (at : ℕ) (xs : List ℕ) → Holds m at xs → allows_all m at (length xs) Read ≡ true
unfolding allows_all
bytes-allowed m at [] holds = refl
bytes-allowed m at (x ∷ xs) holds = ap (λ b. b && allows_all m (at + 1) (length xs) Read) holds.0 ∙ bytes-allowed m (at + 1) xs holds.2

-- ---- items

abbrev pub AreHeld : Pages → List (ℕ × List ℕ) → Type 0
AreHeld m [] = Unit {0}
AreHeld m (p ∷ items) = Holds m p.0 p.1 × AreHeld m items

pub items-held : ShelvesHoldTheirItems → (m : Pages) (bottom top : ℕ) (items : List (List ℕ)) → IsWhole m → bottom + room_of items ≤ top → ((a : ℕ) → bottom ≤ a → a < top → allows m a Read ≡ true) → AreHeld (poked m (shelved top items)) (shelved top items)
items-held hold m bottom top [] whole room may = tt
items-held hold m bottom top (item ∷ items) whole room may =
    let far : top ≤ address_below top (length item) + length item + 7 = not_far_below top (length item) in
    let fits : address_below top (length item) + length item ≤ top = fits_below top (length item) (omega arith) in
    let below : bottom + room_of items ≤ address_below top (length item) = omega arith in
    let now : Pages = written m (address_below top (length item)) item in
    let holds : Holds now (address_below top (length item)) item = written_holds m (address_below top (length item)) item whole (λ k within. may (address_below top (length item) + k) (omega arith) (omega arith)) in (
      holds_on now bottom (address_below top (length item)) (shelved (address_below top (length item)) items) (hold.stand bottom (address_below top (length item)) items below) (address_below top (length item)) item (omega arith) holds,
      items-held hold now bottom (address_below top (length item)) items (IsWhole-written m (address_below top (length item)) item whole) below
          (λ a from to. allows-written m (address_below top (length item)) item a Read ∙ may a from (omega arith)),
    )

pub placed-poked : (items : List (ℕ × List ℕ)) (m : Pages) → IsPlaced m → IsPlaced (poked m items)
placed-poked [] m placed = placed
placed-poked (p ∷ items) m placed = placed-poked items (written m p.0 p.1) (IsPlaced-written m p.0 p.1 placed)
