-- What values that were read say lies within its range.
use Rattle.std.proofs.Common.{◌≡◌, ◌≢◌, ℕ, ◌+◌, ◌-◌, ◌<◌, ◌≤◌, List, [], ◌∷◌, length, take, Bool, true, false, Option, Some, None, Ok, refl, sym, subst, arith, All}
use Rattle.std.specs.Prelude.{codes, nat_eq, nat_le, ok_or, ◌&&◌, if◌then◌else◌}
use Rattle.std.specs.List.{ends_with}
use Rattle.std.specs.Option.{option_map, option_and_then}
use Rattle.std.specs.Str.Parse.{digits_value}
use Rattle.std.proofs.lemmas.Bool.{leb-true, and_parts}
use Rattle.std.proofs.lemmas.List.Elements.{All-take, All-drop, All-nil, All-cons}
use Rattle.pr_words.specs.declared.fault.Why.{Why}
use Rattle.pr_words.specs.declared.options.Slot.{Slot}
use Rattle.pr_words.specs.Spelling.{cut_at, own_value, second_or_none}
use Rattle.pr_words.specs.Values.{is_numeral, number_of, id_of, ids_of, largest_id, slot_of, slots_of, schedule_of, without_mark, Binding, parts_of, binding_of}
use Rattle.pr_words.specs.Sound.{IsText, IsSlot}
use Rattle.pr_words.proofs.CutLemmas.{first_at, cut_parts}
use Rattle.pr_words.proofs.ScheduleLemmas.{texts_of}

-- ---- steps that gave a value

pub then_some : {A B : Type 0} (o : Option A) (next : A → Option B) (x : B) → option_and_then next o ≡ Some x → (y : A) × (o ≡ Some y) × (next y ≡ Some x)
then_some None next x e = absurd (cc)
then_some (Some y) next x e = (y, refl, e)

pub ok_map : {A B : Type 0} (o : Option A) (f : A → B) (why : Why) (x : B) → ok_or (option_map f o) why ≡ Ok x → (y : A) × (o ≡ Some y) × (f y ≡ x)
ok_map None f why x e = absurd (cc)
ok_map (Some y) f why x e = (y, refl, cc)

pub if_some : {A : Type 0} (b : Bool) (o : Option A) (x : A) → (if b then o else None) ≡ Some x → (b ≡ true) × (o ≡ Some x)
if_some true o x e = (refl, e)
if_some false o x e = absurd (cc)

-- ---- numbers

in_range : (a : Bool) (least n most m : ℕ) → (if a && (nat_le least n && nat_le n most) then Some n else None) ≡ Some m → (least ≤ m) × (m ≤ most)
in_range a least n most m e =
    let p = if_some (a && (nat_le least n && nat_le n most)) (Some n) m e in
    let q = and_parts (nat_le least n) (nat_le n most) (and_parts a (nat_le least n && nat_le n most) p.0).1 in
    let some = p.1 in
    let same : n ≡ m = cc in
    let low = leb-true least n q.0 in
    let high = leb-true n most q.1 in
    (omega (arith, low, same), omega (arith, high, same))

pub number_in : (digits least most : ℕ) (text : List ℕ) (n : ℕ) → number_of digits least most text ≡ Some n → (least ≤ n) × (n ≤ most)
number_in digits least most text n e = in_range (is_numeral digits text) least (digits_value 10 text) most n e

pub ids_in_range : (text : List ℕ) (ids : ℕ × ℕ) → ids_of text ≡ Some ids → (ids.0 ≤ largest_id) × (ids.1 ≤ largest_id)
ids_in_range text ids e =
    let (parts, cut, e1) = then_some (cut_at 58 text) _ ids e in
    let (uid, first, e2) = then_some (id_of parts.0) _ ids e1 in
    let (gid, second, e3) = then_some (id_of parts.1) _ ids e2 in
    let same : (uid, gid) ≡ ids = cc in
    let P : ℕ × ℕ → Type 0 = λ p. (p.0 ≤ largest_id) × (p.1 ≤ largest_id) in
    subst P same ((number_in 10 0 largest_id parts.0 uid first).1, (number_in 10 0 largest_id parts.1 gid second).1)

-- ---- schedules

slot_in_range : (text : List ℕ) (slot : Slot) → slot_of text ≡ Some slot → IsSlot slot
slot_in_range text slot e =
    let (parts, cut, e1) = then_some (cut_at 42 text) _ slot e in
    let (pick, first, e2) = then_some (number_of 8 0 255 parts.0) _ slot e1 in
    let (fuel, second, e3) = then_some (number_of 8 1 100000 parts.1) _ slot e2 in
    let one : Slot = record { pick = pick; fuel = fuel } in
    let same : one ≡ slot = cc in
    let picks = number_in 8 0 255 parts.0 pick first in
    let fuels = number_in 8 1 100000 parts.1 fuel second in
    subst IsSlot same (record { pick = picks.1; some_fuel = fuels.0; fuel = fuels.1 })

slots_in_range : (texts : List (List ℕ)) (slots : List Slot) → slots_of texts ≡ Some slots → (length slots ≡ length texts) × All IsSlot slots
slots_in_range [] slots e =
    let same : [] ≡ slots = cc in
    let P : List Slot → Type 0 = λ l. (length l ≡ 0) × All IsSlot l in
    subst P same (refl, All-nil IsSlot)
slots_in_range (text ∷ texts) slots e =
    let (slot, first, e1) = then_some (slot_of text) _ slots e in
    let (more, rest, e2) = then_some (slots_of texts) _ slots e1 in
    let same : slot ∷ more ≡ slots = cc in
    let on = slots_in_range texts more rest in
    let P : List Slot → Type 0 = λ l. (length l ≡ length (text ∷ texts)) × All IsSlot l in
    let len = on.0 in
    subst P same (omega (arith, len), All-cons IsSlot slot more (slot_in_range text slot first) on.1)

pub schedule_in_range : (text : List ℕ) (slots : List Slot) → schedule_of text ≡ Some slots → (length slots ≤ 1024) × All IsSlot slots
schedule_in_range text slots e =
    let p = if_some (nat_le (length (texts_of text)) 1024) (slots_of (texts_of text)) slots e in
    let few = leb-true _ _ p.0 in
    let all = slots_in_range (texts_of text) slots p.1 in
    let len = all.0 in
    (omega (arith, few, len), all.1)

-- ---- parts of texts

pub cut_text : (c : ℕ) (text a b : List ℕ) → cut_at c text ≡ Some (a, b) → IsText text → IsText a × IsText b
cut_text c text a b e clean =
    let parts = cut_parts c text a b e in
    (subst IsText (sym parts.0) (All-take (λ x. x ≢ 0) (first_at c text) text clean), subst IsText (sym parts.1) (All-drop (λ x. x ≢ 0) (first_at c text + 1) text clean))

pub own_value_text : (word : List ℕ) → IsText word → IsText (own_value word)
own_value_text word clean = by_cut (cut_at 61 word) refl
  where
    by_cut : (cut : Option (List ℕ × List ℕ)) → cut_at 61 word ≡ cut → IsText (second_or_none cut)
    by_cut None e = All-nil (λ x. x ≢ 0)
    by_cut (Some (a, b)) e = (cut_text 61 word a b e clean).1

mark_text : (path : List ℕ) → IsText path → IsText (without_mark path).0
mark_text path clean = by_mark (ends_with nat_eq path (codes "!"))
  where
    by_mark : (b : Bool) → IsText (let p : List ℕ × Bool = (if b then (take (length path - 1) path, true) else (path, false)) in p).0
    by_mark true = All-take (λ x. x ≢ 0) (length path - 1) path clean
    by_mark false = clean

abbrev AreTexts : Binding → Type 0
AreTexts b = IsText b.host × IsText b.guest

parts_text : (text : List ℕ) → IsText text → AreTexts (parts_of text (cut_at 58 text))
parts_text text clean = by_cut (cut_at 58 text) refl
  where
    by_cut : (cut : Option (List ℕ × List ℕ)) → cut_at 58 text ≡ cut → AreTexts (parts_of text cut)
    by_cut None e = (mark_text text clean, mark_text text clean)
    by_cut (Some (a, b)) e = let parts = cut_text 58 text a b e clean in (parts.0, mark_text b parts.1)

pub binding_in_range : (text : List ℕ) (b : Binding) → IsText text → binding_of text ≡ Some b → (0 < length b.host) × (0 < length b.guest) × IsText b.host × IsText b.guest
binding_in_range text b clean e =
    let whole = parts_of text (cut_at 58 text) in
    let p = if_some (nat_le 1 (length whole.host) && nat_le 1 (length whole.guest)) (Some whole) b e in
    let q = and_parts (nat_le 1 (length whole.host)) (nat_le 1 (length whole.guest)) p.0 in
    let some = p.1 in
    let same : whole ≡ b = cc in
    let texts = parts_text text clean in
    let P : Binding → Type 0 = λ x. (0 < length x.host) × (0 < length x.guest) × IsText x.host × IsText x.guest in
    subst P same (leb-true 1 (length whole.host) q.0, leb-true 1 (length whole.guest) q.1, texts.0, texts.1)
