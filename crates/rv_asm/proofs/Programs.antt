-- Programs as lists of items, and what always holds of them.
use Rattle.std.proofs.Common.{◌≡◌, ℕ, ◌+◌, ◌%◌, ◌<◌, ◌≤◌, ◌^◌, List, [], ◌∷◌, ◌++◌, All, Option, Some, None, length, drop, get_or, set, length-set, length-append, append_assoc, arith, refl, sym, ap, subst, ◌∙◌}
use Rattle.std.specs.List.{AllByRecursion}
use Rattle.std.specs.Option.{option_or}
use Rattle.std.specs.Prelude.{◌*◌, map, suc}
use Rattle.rv_table.specs.Encoding.{IsValid}
use Rattle.std.proofs.lemmas.List.{append-nil, drop_more}
use Rattle.std.proofs.lemmas.List.Elements.{All-head, All-tail, All-push, All-set, All-weaker}
use Rattle.rv_asm.specs.declared.item.Item.{Item}
use Rattle.rv_asm.specs.declared.item.Item.TheVariants.{Plain, Jump, Branch, Address, Data}
use Rattle.rv_table.specs.declared.instr.Instr.{Instr}
use Rattle.rv_asm.specs.Assembly.{word, bytes_of, code_from}
use Rattle.rv_asm.specs.Program.{size_of, total, IsProper, IsInside, IsSound}

pub option_or_none : {A : Type 0} (a b : Option A) → option_or a b ≡ None → (a ≡ None) × (b ≡ None)
option_or_none None b none = (refl, none)
option_or_none (Some x) b none = cc

-- the item at a place, before those behind it
pub drop-item : (items : List Item) (k : ℕ) (item : Item) → k < length items → item ≡ get_or items k item → drop k items ≡ item ∷ drop (k + 1) items
drop-item items k item within is = drop_more items k item within ∙ ap (λ (x : Item). x ∷ drop (k + 1) items) (sym is)

-- ---- sizes

pub total-push : (items : List Item) (item : Item) → total (items ++ item ∷ []) ≡ total items + size_of item
total-push [] item = omega arith
total-push (x ∷ xs) item = omega (arith, total-push xs item)

pub size_aligned : (labels : ℕ) (item : Item) → IsProper labels item → size_of item % 4 ≡ 0
size_aligned labels (Plain i) proper = refl
size_aligned labels (Jump rd to) proper = refl
size_aligned labels (Branch i to) proper = refl
size_aligned labels (Address rd of) proper = refl
size_aligned labels (Data bytes) proper = proper

total_aligned : (labels : ℕ) (items : List Item) → All (IsProper labels) items → total items % 4 ≡ 0
total_aligned labels [] proper = refl
total_aligned labels (item ∷ rest) proper =
    omega (arith, size_aligned labels item (All-head (IsProper labels) item rest proper), total_aligned labels rest (All-tail (IsProper labels) item rest proper))

-- ---- what always holds, after a call

IsInside-more : (size more : ℕ) (place : Option ℕ) → IsInside size place → IsInside (size + more) place
IsInside-more size more None inside = tt
IsInside-more size more (Some place) inside = (inside.0, omega arith)

pub sound_push : (items : List Item) (places : List (Option ℕ)) (size : ℕ) (item : Item) → IsSound items places size → IsProper (length places) item → size + size_of item ≤ 2 ^ 62 → IsSound (items ++ item ∷ []) places (size + size_of item)
sound_push items places size item sound proper room = record {
  counted = omega (arith, total-push items item, sound.counted);
  room = room;
  proper = All-push (IsProper (length places)) items item sound.proper proper;
  inside = All-weaker (IsInside size) (IsInside (size + size_of item)) (IsInside-more size (size_of item)) places sound.inside;
}

-- instructions behind the items
pub sound_all : (items : List Item) (places : List (Option ℕ)) (size : ℕ) (is : List Instr) → IsSound items places size → AllByRecursion IsValid is → size + 4 * length is ≤ 2 ^ 62
    → IsSound (items ++ map Plain is) places (size + 4 * length is)
sound_all items places size [] sound valid room =
    let same : size ≡ size + 0 = omega arith in
    subst (λ (l : List Item). IsSound l places (size + 0)) (sym (append-nil items)) (subst (IsSound items places) same sound)
sound_all items places size (i ∷ is) sound valid room =
    let one = sound_push items places size (Plain i) sound valid.0 (omega arith) in
    let all = sound_all (items ++ Plain i ∷ []) places (size + 4) is one valid.1 (omega arith) in
    let same : size + 4 + 4 * length is ≡ size + 4 * suc (length is) = omega arith in
    subst (λ (l : List Item). IsSound l places (size + 4 * suc (length is))) (append_assoc items (Plain i ∷ []) (map Plain is)) (subst (IsSound ((items ++ Plain i ∷ []) ++ map Plain is) places) same all)

pub sound_bind : (items : List Item) (places : List (Option ℕ)) (size label : ℕ) → IsSound items places size → IsSound items (set places label (Some size)) size
sound_bind items places size label sound =
    let same : length (set places label (Some size)) ≡ length places = length-set places label (Some size) in
    let aligned : total items % 4 ≡ 0 = total_aligned (length places) items sound.proper in
    let P : ℕ → Type 0 = λ (n : ℕ). All (IsProper n) items in
    record {
      counted = sound.counted;
      room = sound.room;
      proper = subst P (sym same) sound.proper;
      inside = All-set (IsInside size) places label (Some size) (omega (arith, sound.counted), omega arith) sound.inside;
    }

-- ---- the length of the code

length-word : (i : Instr) → length (word i) ≡ 4
length-word i = refl

pub length-bytes_of : (places : List (Option ℕ)) (at : ℕ) (item : Item) → length (bytes_of places at item) ≡ size_of item
length-bytes_of places at (Plain i) = refl
length-bytes_of places at (Jump rd to) = refl
length-bytes_of places at (Branch i to) = refl
length-bytes_of places at (Address rd of) = refl
length-bytes_of places at (Data bytes) = refl

pub length-code_from : (places : List (Option ℕ)) (at : ℕ) (items : List Item) → length (code_from places at items) ≡ total items
length-code_from places at [] = refl
length-code_from places at (item ∷ rest) =
    omega (arith, length-append (bytes_of places at item) (code_from places (at + size_of item) rest), length-bytes_of places at item, length-code_from places (at + size_of item) rest)
