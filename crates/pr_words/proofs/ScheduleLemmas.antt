-- Slots read one after the other.
use Rattle.std.proofs.Common.{◌≡◌, ℕ, ◌<◌, ◌≤◌, List, [], ◌∷◌, ◌++◌, length, true, false, Option, Some, None, refl, sym, ap, ◌∙◌, arith, append_assoc}
use Rattle.std.specs.Prelude.{nat_le, count_by}
use Rattle.std.specs.List.{slice_split}
use Rattle.std.specs.Option.{option_map, option_and_then}
use Rattle.std.proofs.lemmas.Bool.{le-leb, false_from_ne_true, leb-true}
use Rattle.std.proofs.lemmas.List.Splits.{length-slice_split}
use Rattle.pr_words.specs.declared.options.Slot.{Slot}
use Rattle.pr_words.specs.Spelling.{cut_at}
use Rattle.pr_words.specs.Values.{slot_of, slots_of, schedule_of}
use Rattle.pr_words.proofs.CutLemmas.{is_byte, split_cut, split_last}

abbrev pub texts_of : List ℕ → List (List ℕ)
texts_of text = slice_split (is_byte 44) text

-- what is read of the texts that are left, behind the slots so far
abbrev pub slots_after : List Slot → List (List ℕ) → Option (List Slot)
slots_after slots texts = option_map (λ more. slots ++ more) (slots_of texts)

pub none_after : (slots : List Slot) (texts : List (List ℕ)) → slots_after [] texts ≡ slots_of texts
none_after slots texts = by_case (slots_of texts)
  where
    by_case : (read : Option (List Slot)) → option_map (λ more. [] ++ more) read ≡ read
    by_case None = refl
    by_case (Some more) = refl

pub slot_read : (slots : List Slot) (text : List ℕ) (texts : List (List ℕ)) (slot : Slot) → slot_of text ≡ Some slot → slots_after slots (text ∷ texts) ≡ slots_after (slots ++ slot ∷ []) texts
slot_read slots text texts slot e = rw e (by_case (slots_of texts))
  where
    by_case : (read : Option (List Slot)) → option_map (λ more. slots ++ more) (option_and_then (λ rest. Some (slot ∷ rest)) read) ≡ option_map (λ more. (slots ++ slot ∷ []) ++ more) read
    by_case None = refl
    by_case (Some more) = ap Some (sym (append_assoc slots (slot ∷ []) more))

pub slot_refused : (slots : List Slot) (text : List ℕ) (texts : List (List ℕ)) → slot_of text ≡ None → slots_after slots (text ∷ texts) ≡ None
slot_refused slots text texts e = rw e refl

pub last_read : (slots : List Slot) (text : List ℕ) (slot : Slot) → slot_of text ≡ Some slot → slots_after slots (text ∷ []) ≡ Some (slots ++ slot ∷ [])
last_read slots text slot e = rw e refl

-- a schedule has one text more than commas
pub schedule-few : (text : List ℕ) → count_by (is_byte 44) text < 1024 → schedule_of text ≡ slots_of (texts_of text)
schedule-few text few =
    let len = length-slice_split (is_byte 44) text in
    let yes : nat_le (length (texts_of text)) 1024 ≡ true = le-leb _ _ (omega (arith, len, few)) in
    rw yes refl

pub schedule-many : (text : List ℕ) → 1024 ≤ count_by (is_byte 44) text → schedule_of text ≡ None
schedule-many text many =
    let len = length-slice_split (is_byte 44) text in
    let no : nat_le (length (texts_of text)) 1024 ≡ false = false_from_ne_true _ (λ t. let l = leb-true _ _ t in omega (arith, len, many, l)) in
    rw no refl

-- ---- the steps of a reader

pub next_slot : (slots : List Slot) (text rest first behind : List ℕ) (slot : Slot) → slots_after slots (texts_of rest) ≡ slots_of (texts_of text) → Some (first, behind) ≡ cut_at 44 rest → Some slot ≡ slot_of first → slots_after (slots ++ slot ∷ []) (texts_of behind) ≡ slots_of (texts_of text)
next_slot slots text rest first behind slot so_far cut read =
    sym (slot_read slots first (texts_of behind) slot (sym read)) ∙ ap (slots_after slots) (sym (split_cut 44 rest first behind (sym cut))) ∙ so_far

pub bad_slot : (slots : List Slot) (text rest first behind : List ℕ) → slots_after slots (texts_of rest) ≡ slots_of (texts_of text) → count_by (is_byte 44) text < 1024 → Some (first, behind) ≡ cut_at 44 rest → None ≡ slot_of first → None ≡ schedule_of text
bad_slot slots text rest first behind so_far few cut read =
    sym (schedule-few text few ∙ sym so_far ∙ ap (slots_after slots) (split_cut 44 rest first behind (sym cut)) ∙ slot_refused slots first (texts_of behind) (sym read))

pub bad_last : (slots : List Slot) (text rest : List ℕ) → slots_after slots (texts_of rest) ≡ slots_of (texts_of text) → count_by (is_byte 44) text < 1024 → None ≡ cut_at 44 rest → None ≡ slot_of rest → None ≡ schedule_of text
bad_last slots text rest so_far few cut read =
    sym (schedule-few text few ∙ sym so_far ∙ ap (slots_after slots) (split_last 44 rest (sym cut)) ∙ slot_refused slots rest [] (sym read))

pub good_last : (slots : List Slot) (text rest : List ℕ) (slot : Slot) → slots_after slots (texts_of rest) ≡ slots_of (texts_of text) → count_by (is_byte 44) text < 1024 → None ≡ cut_at 44 rest → Some slot ≡ slot_of rest → Some (slots ++ slot ∷ []) ≡ schedule_of text
good_last slots text rest slot so_far few cut read =
    sym (schedule-few text few ∙ sym so_far ∙ ap (slots_after slots) (split_last 44 rest (sym cut)) ∙ last_read slots rest slot (sym read))
