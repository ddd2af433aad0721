-- Texts on a shelf are read back.
use Rattle.std.proofs.Common.{◌≡◌, ◌≢◌, ℕ, zero, suc, ◌+◌, ◌<◌, ◌≤◌, ◌/◌, true, false, List, [], ◌∷◌, ◌++◌, length, get_or, map, Ok, refl, sym, subst, ◌∙◌, arith, add-zero}
use Rattle.std.specs.Prelude.{nat_eq}
use Rattle.std.specs.List.{All}
use Rattle.std.proofs.lemmas.Bool.{eq-eqb, ne_eqb}
use Rattle.std.proofs.lemmas.List.Elements.{All-head, All-tail}
use Rattle.kr_calls.specs.rv_mem.Memory.{text_after, text_of}
use Rattle.kr_calls.specs.rv_mem.Pages.{Pages, IsWhole, allows, byte_at, written}
use Rattle.kr_calls.specs.rv_mem.declared.rights.Use.TheVariants.{Read}
use Rattle.kr_calls.proofs.rv_mem.AccessLemmas.{contains_allowed}
use Rattle.kr_calls.proofs.rv_mem.AddressLemmas.{allows-written, byte_at-written_in, byte_at-written_other}
use Rattle.kr_calls.proofs.rv_mem.SpaceLemmas.{IsWhole-written}
use Rattle.pt_args.specs.Laws.{room_of, StandBetween, poked, IsPathText, TextsAreReadBack}
use Rattle.pt_args.specs.Shelving.{address_below, shelved, with_zero}
use Rattle.pt_args.proofs.ShelfLemmas.{fits_below, not_far_below, stand_between}

-- these bytes stand from an address on, and may be read
abbrev pub Holds : Pages → ℕ → List ℕ → Type 0
Holds m at [] = Unit {0}
Holds m at (b ∷ bytes) = (allows m at Read ≡ true) × (byte_at m at ≡ b) × Holds m (at + 1) bytes

-- byte by byte
holds_by_places : (m : Pages) (at : ℕ) (bytes : List ℕ) → ((k : ℕ) → k < length bytes → (allows m (at + k) Read ≡ true) × (byte_at m (at + k) ≡ get_or bytes k 0)) → Holds m at bytes
holds_by_places m at [] each = tt
holds_by_places m at (b ∷ bytes) each =
    let own : (allows m at Read ≡ true) × (byte_at m at ≡ b) = subst (λ a. (allows m a Read ≡ true) × (byte_at m a ≡ b)) (add-zero at) (each 0 (omega arith)) in (
      own.0,
      own.1,
      holds_by_places m (at + 1) bytes (λ k below.
          subst (λ a. (allows m a Read ≡ true) × (byte_at m a ≡ get_or bytes k 0)) (let e : at + suc k ≡ at + 1 + k = omega arith in e) (each (suc k) (omega arith))),
    )

-- bytes that were written where they may be read
pub written_holds : (m : Pages) (at : ℕ) (bytes : List ℕ) → IsWhole m → ((k : ℕ) → k < length bytes → allows m (at + k) Read ≡ true) → Holds (written m at bytes) at bytes
written_holds m at bytes whole may =
    holds_by_places (written m at bytes) at bytes
    (λ k below. (allows-written m at bytes (at + k) Read ∙ may k below, byte_at-written_in m at bytes k whole below (contains_allowed m ((at + k) / 4096) Read (may k below))))

-- a text with its zero is read
pub read_of : (m : Pages) (at max : ℕ) (text : List ℕ) → length text < max → All (λ b. b ≢ 0) text → Holds m at (text ++ 0 ∷ []) → text_of m at max ≡ Ok text
unfolding text_of
read_of m at zero text short some holds = absurd (let h : ⊥ = omega arith in h)
read_of m at (suc max) [] short some holds =
    let last : nat_eq (byte_at m at) 0 ≡ true = eq-eqb (byte_at m at) 0 holds.1 in
    rw (holds.0, last) refl
read_of m at (suc max) (b ∷ text) short some holds =
    let own : b ≢ 0 = All-head (λ b. b ≢ 0) b text some in
    let on : nat_eq (byte_at m at) 0 ≡ false = ne_eqb (byte_at m at) 0 (λ e. own (sym holds.1 ∙ e)) in
    let rest : text_of m (at + 1) max ≡ Ok text = read_of m (at + 1) max text (omega arith) (All-tail (λ b. b ≢ 0) b text some) holds.2 in
    rw (holds.0, on) ((λ i. text_after (holds.1 i) (rest i)))

-- ---- items further down leave what stands above

pub poked_above : (m : Pages) (bottom top : ℕ) (items : List (ℕ × List ℕ)) → StandBetween bottom top items → (a : ℕ) → top ≤ a → byte_at (poked m items) a ≡ byte_at m a
poked_above m bottom top [] stand a above = refl
poked_above m bottom top (p ∷ items) stand a above =
    let fits : p.0 + length p.1 ≤ top = stand.2 in
    poked_above (written m p.0 p.1) bottom p.0 items stand.3 a (omega arith)
    ∙ byte_at-written_other m p.0 p.1 a (λ k below e. let h : ⊥ = omega arith in h)

pub poked_allows : (m : Pages) (items : List (ℕ × List ℕ)) (a : ℕ) → allows (poked m items) a Read ≡ allows m a Read
poked_allows m [] a = refl
poked_allows m (p ∷ items) a = poked_allows (written m p.0 p.1) items a ∙ allows-written m p.0 p.1 a Read

pub holds_on : (m : Pages) (bottom top : ℕ) (items : List (ℕ × List ℕ)) → StandBetween bottom top items → (at : ℕ) (bytes : List ℕ) → top ≤ at → Holds m at bytes → Holds (poked m items) at bytes
holds_on m bottom top items stand at [] above holds = tt
holds_on m bottom top items stand at (b ∷ bytes) above holds =
    (poked_allows m items at ∙ holds.0, poked_above m bottom top items stand at above ∙ holds.1, holds_on m bottom top items stand (at + 1) bytes (omega arith) holds.2)

pub texts_are_read_back : TextsAreReadBack
texts_are_read_back m bottom top [] whole room may fine = tt
texts_are_read_back m bottom top (text ∷ texts) whole room may fine =
    let item = with_zero text in
    let at : ℕ = address_below top (length (with_zero text)) in
    let far : top ≤ address_below top (length (with_zero text)) + length (with_zero text) + 7 = not_far_below top (length (with_zero text)) in
    let fits : address_below top (length (with_zero text)) + length (with_zero text) ≤ top = fits_below top (length (with_zero text)) (omega arith) in
    let below : bottom + room_of (map with_zero texts) ≤ address_below top (length (with_zero text)) = omega arith in
    let now : Pages = written m (address_below top (length (with_zero text))) (with_zero text) in
    let own = All-head IsPathText text texts fine in
    let holds : Holds now (address_below top (length (with_zero text))) (with_zero text) =
    written_holds m (address_below top (length (with_zero text))) (with_zero text) whole (λ k within. may (address_below top (length (with_zero text)) + k) (omega arith) (omega arith)) in (
      read_of (poked now (shelved (address_below top (length (with_zero text))) (map with_zero texts))) (address_below top (length (with_zero text))) 4096 text own.short own.no_zero
          (holds_on now bottom (address_below top (length (with_zero text))) (shelved (address_below top (length (with_zero text))) (map with_zero texts)) (stand_between bottom (address_below top (length (with_zero text))) (map with_zero texts) below)
          (address_below top (length (with_zero text))) (with_zero text) (omega arith) holds),
      texts_are_read_back now bottom (address_below top (length (with_zero text))) texts (IsWhole-written m (address_below top (length (with_zero text))) (with_zero text) whole) below
          (λ a from to. allows-written m (address_below top (length (with_zero text))) (with_zero text) a Read ∙ may a from (omega arith)) (All-tail IsPathText text texts fine),
    )
