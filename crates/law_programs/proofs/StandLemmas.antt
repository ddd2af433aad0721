-- The list of a script stands on its shelf.
use Rattle.std.proofs.Common.{◌≡◌, ℕ, ◌+◌, ◌-◌, ◌*◌, ◌/◌, ◌^◌, ◌<◌, ◌≤◌, true, false, List, [], ◌∷◌, ◌++◌, length, map, Ok, refl, sym, ap, ◌∙◌, subst, arith, append_assoc, length-append}
use Rattle.std.specs.Prelude.{nat_eq}
use Rattle.std.specs.Int.{to_le_bytes, w64}
use Rattle.std.specs.List.{All}
use Rattle.std.proofs.lemmas.Bool.Decides.{nat_tests}
use Rattle.std.proofs.lemmas.List.Elements.{All-head, All-tail}
use Rattle.std.proofs.lemmas.Nat.{from_le_bytes-to_le_bytes_8}
use Rattle.kr_first.specs.pr_base.Fields.{little_endian}
use Rattle.kr_first.specs.rv_mem.Memory.{text_of}
use Rattle.kr_first.specs.rv_mem.Pages.{IsPlaced, IsWhole, Pages, allows, allows_all, bytes_from}
use Rattle.kr_first.specs.rv_mem.declared.rights.Use.TheVariants.{Read}
use Rattle.kr_first.proofs.rv_mem.PagesLemmas.{length-bytes_from}
use Rattle.kr_first.specs.kr_exec.Lists.{most_bytes}
use Rattle.law_edits.specs.pt_args.Laws.{IsPathText, ShelvesHoldTheirItems, poked, room_of}
use Rattle.law_edits.specs.pt_args.Shelving.{address_below, shelved, with_item, with_zero}
use Rattle.law_edits.specs.pt_args.declared.shelf.Shelf.{Shelf}
use Rattle.law_edits.specs.pt_tracer.ScriptEdit.{addresses_of, list_item, script_room, texts_room, with_texts}
use Rattle.law_edits.proofs.ReadLemmas.{page-there}
use Rattle.law_programs.specs.Lists.{AreEntries, IsEnd, IsEntry, IsList, address_in}
use Rattle.law_programs.proofs.CopyLemmas.{lists_are_copied, next-is}
use Rattle.law_programs.specs.Shelves.{ShelvedScriptsStand, host_shelf, script_shelf}
use Rattle.law_programs.proofs.HeldLemmas.{AreHeld, Holds, bytes-allowed, bytes-held, fits_below, holds-back, holds-front, items-held, not_far_below, placed-poked, read_of}

abbrev pub Texts : Type 0
Texts = List (List ℕ)

-- ---- the shelf

-- all items, the list behind the texts
abbrev pub items_of : Texts → List ℕ → Texts
items_of texts last = map with_zero texts ++ last ∷ []

-- the address of the list
abbrev last_address : ℕ → Texts → ℕ → ℕ
last_address top [] size = address_below top size
last_address top (text ∷ texts) size = last_address (address_below top (length (with_zero text))) texts size

pub shelf-items : (texts : Texts) (shelf : Shelf) (last : List ℕ) → (with_item (with_texts shelf texts) last).items ≡ shelf.items ++ shelved shelf.top (items_of texts last)
shelf-items [] shelf last = refl
shelf-items (text ∷ texts) shelf last =
    let at = address_below shelf.top (length (with_zero text)) in
    shelf-items texts (with_item shelf (with_zero text)) last ∙ append_assoc shelf.items ((at, with_zero text) ∷ []) (shelved at (items_of texts last))

shelf-top : (texts : Texts) (shelf : Shelf) (last : List ℕ) → (with_item (with_texts shelf texts) last).top ≡ last_address shelf.top texts (length last)
shelf-top [] shelf last = refl
shelf-top (text ∷ texts) shelf last = shelf-top texts (with_item shelf (with_zero text)) last

pub long-zero : (text : List ℕ) → length (with_zero text) ≡ length text + 1
long-zero text = length-append text (0 ∷ [])

pub items-room : (texts : Texts) (last : List ℕ) → room_of (items_of texts last) ≡ texts_room texts + (length last + 7)
items-room [] last = omega arith
items-room (text ∷ texts) last = omega (arith, items-room texts last, long-zero text)

addresses-long : (top : ℕ) (texts : Texts) → length (addresses_of top texts) ≡ 8 * length texts
addresses-long top [] = refl
addresses-long top (text ∷ texts) =
    let at = address_below top (length (with_zero text)) in
    omega (arith, length-append (to_le_bytes w64 at) (addresses_of at texts), addresses-long at texts)

-- the list stands no further down than there is room for
low-last : (top : ℕ) (texts : Texts) (last : List ℕ) → top ≤ last_address top texts (length last) + room_of (items_of texts last)
low-last top [] last = omega (arith, not_far_below top (length last))
low-last top (text ∷ texts) last = omega (arith, not_far_below top (length (with_zero text)), low-last (address_below top (length (with_zero text))) texts last)

-- ---- a word

word-back : (n : ℕ) → n < 2 ^ 64 → little_endian (to_le_bytes w64 n) ≡ n
word-back n small = let back = from_le_bytes-to_le_bytes_8 n small in omega (arith, back)

address-is : (w : Pages) (at n : ℕ) → n < 2 ^ 64 → Holds w at (to_le_bytes w64 n) → address_in w at ≡ n
address-is w at n small holds = ap little_endian (bytes-held w at (to_le_bytes w64 n) holds) ∙ word-back n small

other : (n : ℕ) → 0 < n → nat_eq n 0 ≡ false
other n some = grind (arith, nat_tests)

entry-held : (w : Pages) (at n : ℕ) (text : List ℕ) → 0 < n → n < 2 ^ 64 → Holds w at (to_le_bytes w64 n) → text_of w n most_bytes ≡ Ok text → IsEntry w at text
entry-held w at n text some small holds stands =
    let address = address-is w at n small holds in
    record {
      allowed = bytes-allowed w at (to_le_bytes w64 n) holds;
      some = ap (λ n. nat_eq n 0) address ∙ other n some;
      stands = ap (λ n. text_of w n most_bytes) address ∙ stands;
    }

end-held : (w : Pages) (at : ℕ) → Holds w at (to_le_bytes w64 0) → IsEnd w at
end-held w at holds = record { allowed = bytes-allowed w at (to_le_bytes w64 0) holds; none = address-is w at 0 (omega arith) holds }

-- ---- the list

-- the texts stand each at its address, and what is last at its own
last-held : (w : Pages) (top : ℕ) (texts : Texts) (last : List ℕ) → AreHeld w (shelved top (items_of texts last)) → Holds w (last_address top texts (length last)) last
last-held w top [] last held = held.0
last-held w top (text ∷ texts) last held = last-held w (address_below top (length (with_zero text))) texts last held.1

module _ (w : Pages) (placed : IsPlaced w) (rest : Texts) (last : List ℕ) (some : 8 ≤ length last) where
  listed : (texts : Texts) (top at : ℕ) (more : List ℕ) → top < 2 ^ 64 → room_of (items_of texts last) ≤ top → All IsPathText texts → AreHeld w (shelved top (items_of texts last)) → Holds w at (addresses_of top texts ++ more)
      → IsList w (at + 8 * length texts) rest → IsList w at (texts ++ rest)
  listed [] top at more small room are held holds list = let same : at + 8 * 0 ≡ at = omega arith in subst (λ a. IsList w a rest) same list
  listed (text ∷ texts) top at more small room are held holds list =
      let size = length (with_zero text) in
      let here = address_below top size in
      let far = not_far_below top size in
      let below = fits_below top size (omega (arith, room)) in
      let later = items-room texts last in
      let path = All-head IsPathText text texts are in
      let short = path.short in
      let whole : Holds w at (to_le_bytes w64 here ++ (addresses_of here texts ++ more)) = subst (Holds w at) (append_assoc (to_le_bytes w64 here) (addresses_of here texts) more) holds in
      let word = holds-front w at (to_le_bytes w64 here) (addresses_of here texts ++ more) whole in
      let entry = entry-held w at here text (omega (arith, far, room, later, some)) (omega (arith, below, small)) word (read_of w here most_bytes text (omega (arith, short)) path.no_zero held.0) in
      let place : at + 8 * length (text ∷ texts) ≡ at + 8 + 8 * length texts = omega arith in (
        entry,
        subst (λ a. IsList w a (texts ++ rest)) (sym (next-is w at placed entry.allowed))
            (listed texts here (at + 8) more (omega (arith, below, small)) (omega (arith, far, room)) (All-tail IsPathText text texts are) held.1 (holds-back w at (to_le_bytes w64 here) (addresses_of here texts ++ more) whole)
            (subst (λ a. IsList w a rest) place list)),
      )

-- the kept addresses, behind those of the texts
rest-stands : (w : Pages) (from at : ℕ) (rest : Texts) (kept : List ℕ) → IsPlaced w → AreEntries w from rest → bytes_from w from (8 * length rest) ≡ kept → length kept ≡ 8 * length rest → Holds w at (kept ++ to_le_bytes w64 0) → IsList w at rest
rest-stands w from at rest kept placed list same size holds =
    let front = holds-front w at kept (to_le_bytes w64 0) holds in
    lists_are_copied w from at rest placed list (same ∙ sym (bytes-held w at kept front) ∙ ap (bytes_from w at) size) (ap (λ n. allows_all w at n Read) (sym size) ∙ bytes-allowed w at kept front)
    (subst (λ n. IsEnd w (at + n)) size (end-held w (at + length kept) (holds-back w at kept (to_le_bytes w64 0) holds)))

-- ---- all of it

pub list-long : (top : ℕ) (texts : Texts) (kept : List ℕ) → length (list_item top texts kept) ≡ 8 * length texts + length kept + 8
list-long top texts kept = omega (arith, length-append (addresses_of top texts ++ kept) (to_le_bytes w64 0), addresses-long top texts, length-append (addresses_of top texts) kept)

-- an address that may be read is no higher than pages lie
small-top : (m : Pages) (sp : ℕ) → IsPlaced m → 0 < sp → allows m (sp - 1) Read ≡ true → sp < 2 ^ 64
small-top m sp placed some may = by (placed ((sp - 1) / 4096) (page-there m ((sp - 1) / 4096) Read may))
  where
    by : (sp - 1) / 4096 < 67108863 → sp < 2 ^ 64
    by low = omega (arith, some)

module _ (hold : ShelvesHoldTheirItems) (m : Pages) (sp from : ℕ) (host : List ℕ) (texts rest : Texts) (kept : List ℕ) (whole : IsWhole m) (placed : IsPlaced m) (high : 65536 ≤ sp) (may : (a : ℕ) → sp - 65536 ≤ a → a < sp → allows m a Read ≡ true)
    (room : script_room host texts kept ≤ 65536) (host_is : IsPathText host) (are : All IsPathText texts) where
  abbrev top : ℕ
  top = (host_shelf sp host).top

  abbrev last : List ℕ
  last = list_item top texts kept

  abbrev items : Texts
  items = with_zero host ∷ items_of texts last

  abbrev w : Pages
  w = poked m (script_shelf sp host texts kept).items

  long : length last ≡ 8 * length texts + length kept + 8
  long = list-long top texts kept

  all-room : room_of items ≤ 65536
  all-room = omega (arith, items-room texts last, long, long-zero host, room)

  items-are : (script_shelf sp host texts kept).items ≡ shelved sp items
  items-are = shelf-items texts (host_shelf sp host) last

  held : AreHeld w (shelved sp items)
  held = subst (λ put. AreHeld (poked m put) (shelved sp items)) (sym items-are) (items-held hold m (sp - 65536) sp items whole (omega (arith, all-room, high)) may)

  small : top < 2 ^ 64
  small =
      let sp_small = small-top m sp placed (omega (arith, high)) (may (sp - 1) (omega (arith, high)) (omega (arith, high))) in
      omega (arith, fits_below sp (length (with_zero host)) (omega (arith, all-room, high)), sp_small)

  later-room : room_of (items_of texts last) ≤ top
  later-room = omega (arith, not_far_below sp (length (with_zero host)), all-room, high)

  w-placed : IsPlaced w
  w-placed = placed-poked (script_shelf sp host texts kept).items m placed

  abbrev at : ℕ
  at = last_address top texts (length last)

  bytes : Holds w at (addresses_of top texts ++ (kept ++ to_le_bytes w64 0))
  bytes = subst (Holds w at) (append_assoc (addresses_of top texts) kept (to_le_bytes w64 0)) (last-held w top texts last held.1)

  list-there : AreEntries w from rest → bytes_from w from (8 * length rest) ≡ kept → IsList w at (texts ++ rest)
  list-there list same =
      let size : length kept ≡ 8 * length rest = ap length (sym same) ∙ length-bytes_from w from (8 * length rest) in
      let behind : Holds w (at + 8 * length texts) (kept ++ to_le_bytes w64 0) =
      subst (λ n. Holds w (at + n) (kept ++ to_le_bytes w64 0)) (addresses-long top texts) (holds-back w at (addresses_of top texts) (kept ++ to_le_bytes w64 0) bytes) in
      listed w w-placed rest last (omega (arith, long)) texts top at (kept ++ to_le_bytes w64 0) small later-room are held.1 bytes
      (rest-stands w from (at + 8 * length texts) rest kept w-placed list same size behind)

  low-list : sp ≤ (script_shelf sp host texts kept).top + script_room host texts kept
  low-list = omega (arith, shelf-top texts (host_shelf sp host) last, low-last top texts last, not_far_below sp (length (with_zero host)), items-room texts last, long, long-zero host)

  path-there : text_of w top 4096 ≡ Ok host
  path-there = read_of w top 4096 host host_is.short host_is.no_zero held.0

  whole-list : AreEntries w from rest → bytes_from w from (8 * length rest) ≡ kept → IsList w (script_shelf sp host texts kept).top (texts ++ rest)
  whole-list list same = subst (λ a. IsList w a (texts ++ rest)) (sym (shelf-top texts (host_shelf sp host) last)) (list-there list same)

pub shelved_scripts_stand : ShelvesHoldTheirItems → ShelvedScriptsStand
shelved_scripts_stand hold m sp from host texts rest kept whole placed high may room host_is are list same = record {
  edit = refl;
  low = low-list hold m sp from host texts rest kept whole placed high may room host_is are;
  path = path-there hold m sp from host texts rest kept whole placed high may room host_is are;
  list = whole-list hold m sp from host texts rest kept whole placed high may room host_is are list same;
}
