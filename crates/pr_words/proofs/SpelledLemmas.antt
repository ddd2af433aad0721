-- The words that spell settings, and what they are read as.
use Rattle.std.proofs.Common.{lit<, ◌≡◌, ◌≢◌, ℕ, suc, ◌+◌, ◌-◌, ◌^◌, ◌<◌, ◌≤◌, List, [], ◌∷◌, ◌++◌, length, map, take, drop, Bool, true, false, Option, Some, None, Ok, refl, sym, ap, ◌∙◌, subst, arith, All, ◌⊎◌, inl, inr}
use Rattle.std.specs.Prelude.{codes, nat_eq, nat_lt, nat_le, ok_or, not, ◌==◌, ◌&&◌, if◌then◌else◌}
use Rattle.std.specs.List.{list_all, starts_with, ends_with, position_or_len, join_with_byte}
use Rattle.std.specs.Option.{option_map}
use lib.Pointwise.{pointwise}
use Rattle.std.specs.Fmt.{decimal}
use Rattle.std.proofs.lemmas.Bool.{and_parts, and_from, leb-true, le-leb, lt-ltb, ne_eqb, eq-eqb, not-true}
use Rattle.std.proofs.lemmas.List.{length-append}
use Rattle.std.proofs.lemmas.List.Elements.{All-nil, All-cons, All-head, All-tail, All-append, All-weaker}
use Rattle.std.proofs.lemmas.List.Splits.{slice_split_at, slice_split_none}
use Rattle.std.proofs.lemmas.Fmt.{digits_decimal, digits_value-decimal, decimal_nonempty, length-decimal-le}
use Rattle.pr_words.specs.declared.kind.Kind.{Kind}
use Rattle.pr_words.specs.declared.kind.Kind.TheVariants.{Root as RootKind, Bind as BindKind, Directory as DirectoryKind, ChangeId as ChangeIdKind, Variable as VariableKind, Turns as TurnsKind, Schedule as ScheduleKind, Loose as LooseKind, Case as CaseKind}
use Rattle.pr_words.specs.declared.spelling.Spelled.TheVariants.{Long, Flag}
use Rattle.pr_words.specs.declared.options.Slot.{Slot}
use Rattle.pr_words.specs.declared.setting.Setting.{Setting}
use Rattle.pr_words.specs.declared.setting.Setting.TheVariants.{Root, Bind, Directory, RootId, ChangeId, Variable, Turns, Schedule, Loose, Native, Calm, Case}
use Rattle.pr_words.specs.declared.fault.Why.TheVariants.{BadBind, BadId, BadNumber, BadSchedule}
use Rattle.pr_words.specs.Spelling.{cut_at, long_named, spelling_of, by_name, own_value, second_or_none}
use Rattle.pr_words.specs.Values.{is_digit, is_numeral, number_of, id_of, ids_of, largest_id, slot_of, slots_of, schedule_of, without_mark, binding_of, is_variable}
use Rattle.pr_words.specs.Reading.{bind_setting, setting_of}
use Rattle.pr_words.specs.Sound.{IsText, IsSlot}
use Rattle.pr_words.specs.ReadBack.{slot_text, with_mark, word_of, kind_of, IsPlainBind, IsPlain}
use Rattle.pr_words.proofs.NumberLemmas.{numerals}
use Rattle.pr_words.proofs.ScheduleLemmas.{texts_of}

-- ---- cutting what was joined

abbrev fails : ℕ → ℕ → Bool
fails c b = not (b == c)

front_len : (c : ℕ) (a b : List ℕ) → All (λ x. x ≢ c) a → position_or_len (λ x. x == c) (a ++ (c ∷ b)) ≡ length a
front_len c [] b none = let yes : (c == c) ≡ true = eq-eqb c c refl in rw yes refl
front_len c (x ∷ a) b none =
    let no : (x == c) ≡ false = ne_eqb x c (All-head (λ y. y ≢ c) x a none) in
    let on : position_or_len (λ y. y == c) (a ++ (c ∷ b)) ≡ length a = front_len c a b (All-tail (λ y. y ≢ c) x a none) in
    rw no (omega (arith, on))

take_front : {X : Type 0} (a b : List X) → take (length a) (a ++ b) ≡ a
take_front [] b = refl
take_front (x ∷ a) b = ap (λ l. x ∷ l) (take_front a b)

drop_front : {X : Type 0} (a b : List X) → drop (length a) (a ++ b) ≡ b
drop_front [] b = refl
drop_front (x ∷ a) b = drop_front a b

drop_more : {X : Type 0} (a : List X) (x : X) (b : List X) → drop (length a + 1) (a ++ (x ∷ b)) ≡ b
drop_more {X = X} a x b = rw (add_one (length a)) (on a)
  where
    add_one : (n : ℕ) → n + 1 ≡ suc n
    add_one n = omega arith

    on : (a : List X) → drop (suc (length a)) (a ++ (x ∷ b)) ≡ b
    on [] = refl
    on (y ∷ a) = on a

abbrev parts : List ℕ → List ℕ → Option (List ℕ × List ℕ)
parts a b = Some (a, b)

same_parts : (a b x y : List ℕ) → x ≡ a → y ≡ b → parts x y ≡ parts a b
same_parts a b x y p q = ap (λ l. parts l y) p ∙ ap (λ l. parts a l) q

-- what stands before a byte and behind it
pub cut_at-append : (c : ℕ) (a b : List ℕ) → All (λ x. x ≢ c) a → cut_at c (a ++ (c ∷ b)) ≡ Some (a, b)
cut_at-append c a b none =
    let len = front_len c a b none in
    let whole = length-append a (c ∷ b) in
    let inside : nat_lt (length a) (length (a ++ (c ∷ b))) ≡ true = lt-ltb _ _ (omega (arith, whole)) in
    let P : ℕ → Type 0 = λ n. option_map (λ at. (take at (a ++ (c ∷ b)), drop (at + 1) (a ++ (c ∷ b)))) (if nat_lt n (length (a ++ (c ∷ b))) then Some n else None) ≡ parts a b in
    let here : P (length a) = rw inside (same_parts a b (take (length a) (a ++ (c ∷ b))) (drop (length a + 1) (a ++ (c ∷ b))) (take_front a (c ∷ b)) (drop_more a c b)) in
    subst P (sym len) here

-- ---- numbers

abbrev AreDigits : List ℕ → Type 0
AreDigits ds = list_all is_digit ds ≡ true

digits_are : (P : ℕ → Type 0) → ((b : ℕ) → is_digit b ≡ true → P b) → (ds : List ℕ) → AreDigits ds → All P ds
digits_are P is [] h = All-nil P
digits_are P is (b ∷ ds) h = let p = and_parts (is_digit b) (list_all is_digit ds) h in All-cons P b ds (is b p.0) (digits_are P is ds p.1)

-- a digit is none of the bytes below `0` or above `9`
digit_is_not : (c : ℕ) → (c < 48) → (b : ℕ) → is_digit b ≡ true → b ≢ c
digit_is_not c low b h e = let p : (nat_le 48 b ≡ true) × (nat_le b 57 ≡ true) = and_parts (nat_le 48 b) (nat_le b 57) h in let l = leb-true 48 b p.0 in omega (arith, l, e, low)

digit_below : (c : ℕ) → 57 < c → (b : ℕ) → is_digit b ≡ true → b ≢ c
digit_below c high b h e = let p : (nat_le 48 b ≡ true) × (nat_le b 57 ≡ true) = and_parts (nat_le 48 b) (nat_le b 57) h in let l = leb-true b 57 p.1 in omega (arith, l, e, high)

pub decimal_lacks_low : (c n : ℕ) → c < 48 → n < 2 ^ 64 → All (λ b. b ≢ c) (decimal n)
decimal_lacks_low c n low small = digits_are (λ b. b ≢ c) (digit_is_not c low) (decimal n) (digits_decimal numerals n small)

pub decimal_lacks_high : (c n : ℕ) → 57 < c → n < 2 ^ 64 → All (λ b. b ≢ c) (decimal n)
decimal_lacks_high c n high small = digits_are (λ b. b ≢ c) (digit_below c high) (decimal n) (digits_decimal numerals n small)

pub number_of-decimal : (digits least most n : ℕ) → 0 < digits → most < 10 ^ digits → most < 2 ^ 64 → least ≤ n → n ≤ most → number_of digits least most (decimal n) ≡ Some n
number_of-decimal digits least most n some wide small low high =
    let fits : n < 2 ^ 64 = omega (arith, high, small) in
    let ten : n < 10 ^ digits = omega (arith, high, wide) in
    let value = digits_value-decimal numerals n fits in
    let one = le-leb 1 (length (decimal n)) (decimal_nonempty n fits) in
    let short = le-leb (length (decimal n)) digits (length-decimal-le digits n some ten fits) in
    let all = digits_decimal numerals n fits in
    let is : is_numeral digits (decimal n) ≡ true = and_from _ _ one (and_from _ _ short all) in
    let P : ℕ → Type 0 = λ v. (if is_numeral digits (decimal n) && (nat_le least v && nat_le v most) then Some v else None) ≡ Some n in
    let here : P n = rw (is, le-leb least n low, le-leb n most high) refl in
    subst P (sym value) here

-- ---- values

pub id_of-decimal : (n : ℕ) → n ≤ largest_id → id_of (decimal n) ≡ Some n
id_of-decimal n high = number_of-decimal 10 0 largest_id n (omega arith) (lit< tt) (lit< tt) (omega arith) high

ids_back : (uid gid : ℕ) → uid ≤ largest_id → gid ≤ largest_id → ids_of (decimal uid ++ (58 ∷ decimal gid)) ≡ Some (uid, gid)
ids_back uid gid u g =
    let cut = cut_at-append 58 (decimal uid) (decimal gid) (decimal_lacks_high 58 uid (omega arith) (omega (arith, u))) in
    rw cut (rw (id_of-decimal uid u) (rw (id_of-decimal gid g) refl))

slot_back : (slot : Slot) → IsSlot slot → slot_of (slot_text slot) ≡ Some slot
slot_back slot is =
    let picks = is.pick in
    let fuels = is.fuel in
    let cut = cut_at-append 42 (decimal slot.pick) (decimal slot.fuel) (decimal_lacks_low 42 slot.pick (omega arith) (omega (arith, picks))) in
    let pick = number_of-decimal 8 0 255 slot.pick (omega arith) (lit< tt) (lit< tt) (omega arith) picks in
    let fuel = number_of-decimal 8 1 100000 slot.fuel (omega arith) (lit< tt) (lit< tt) is.some_fuel fuels in
    rw cut (rw pick (rw fuel refl))

slot_lacks_comma : (slot : Slot) → IsSlot slot → All (λ b. nat_eq b 44 ≡ false) (slot_text slot)
slot_lacks_comma slot is =
    let picks = is.pick in
    let fuels = is.fuel in
    let first = decimal_lacks_low 44 slot.pick (omega arith) (omega (arith, picks)) in
    let second = decimal_lacks_low 44 slot.fuel (omega arith) (omega (arith, fuels)) in
    let all = All-append (λ b. b ≢ 44) (decimal slot.pick) (42 ∷ decimal slot.fuel) first (All-cons (λ b. b ≢ 44) 42 (decimal slot.fuel) (λ e. cc) second) in
    All-weaker (λ b. b ≢ 44) (λ b. nat_eq b 44 ≡ false) (λ b n. ne_eqb b 44 n) (slot_text slot) all

-- the texts of slots, joined and split again
split_back : (slot : Slot) (slots : List Slot) → All IsSlot (slot ∷ slots) → texts_of (join_with_byte 44 (map slot_text (slot ∷ slots))) ≡ map slot_text (slot ∷ slots)
split_back slot [] all = slice_split_none (λ b. nat_eq b 44) (slot_text slot) (slot_lacks_comma slot (All-head IsSlot slot [] all))
split_back slot (next ∷ slots) all =
    slice_split_at (λ b. nat_eq b 44) (slot_text slot) 44 (join_with_byte 44 (map slot_text (next ∷ slots))) (slot_lacks_comma slot (All-head IsSlot slot (next ∷ slots) all)) refl
    ∙ ap (λ l. slot_text slot ∷ l) (split_back next slots (All-tail IsSlot slot (next ∷ slots) all))

slots_back : (slots : List Slot) → All IsSlot slots → slots_of (map slot_text slots) ≡ Some slots
slots_back [] all = refl
slots_back (slot ∷ slots) all = rw (slot_back slot (All-head IsSlot slot slots all)) (rw (slots_back slots (All-tail IsSlot slot slots all)) refl)

length_texts : (slots : List Slot) → length (map slot_text slots) ≡ length slots
length_texts [] = refl
length_texts (slot ∷ slots) = ap suc (length_texts slots)

schedule_back : (slots : List Slot) → 1 ≤ length slots → length slots ≤ 1024 → All IsSlot slots → schedule_of (join_with_byte 44 (map slot_text slots)) ≡ Some slots
schedule_back [] some few all = absurd (omega (arith, some))
schedule_back (slot ∷ slots) some few all =
    let len = length_texts (slot ∷ slots) in
    let yes : nat_le (length (map slot_text (slot ∷ slots))) 1024 ≡ true = le-leb _ _ (omega (arith, len, few)) in
    let P : List (List ℕ) → Type 0 = λ texts. (if nat_le (length texts) 1024 then slots_of texts else None) ≡ Some (slot ∷ slots) in
    let here : P (map slot_text (slot ∷ slots)) = rw yes (slots_back (slot ∷ slots) all) in
    subst P (sym (split_back slot slots all)) here

abbrev marked : List ℕ → Bool → List ℕ × Bool
marked path keep = (path, keep)

mark_back : (keep : Bool) (guest : List ℕ) → (keep ≡ false → ends_with nat_eq guest (codes "!") ≡ false) → without_mark (with_mark keep guest) ≡ marked guest keep
mark_back false guest plain = rw (plain refl) refl
mark_back true guest plain =
    let len : length (guest ++ codes "!") - 1 ≡ length guest = let l = length-append guest (codes "!") in omega (arith, l) in
    let P : ℕ → Type 0 = λ n. (if pointwise nat_eq (codes "!") (drop n (guest ++ codes "!")) then marked (take n (guest ++ codes "!")) true else marked (guest ++ codes "!") false) ≡ marked guest true in
    let here : P (length guest) = rw (drop_front guest (codes "!"), take_front guest (codes "!")) refl in
    subst P (sym len) here

binding_back : (host guest : List ℕ) (keep : Bool) → IsPlainBind host guest keep → binding_of (host ++ (58 ∷ with_mark keep guest)) ≡ Some (record { host = host; guest = guest; keep = keep })
binding_back host guest keep is =
    let cut = cut_at-append 58 host (with_mark keep guest) is.no_colon in
    let h = le-leb 1 (length host) is.host_some in
    let g = le-leb 1 (length guest) is.guest_some in
    rw cut (rw (mark_back keep guest is.no_mark) (rw (h, g) refl))

-- ---- words

plain_name : (name value : List ℕ) (what : Kind) → All (λ b. b ≢ 61) name → starts_with nat_eq (name ++ (61 ∷ value)) (codes "-") ≡ true → long_named name ≡ Some what → (spelling_of (name ++ (61 ∷ value)) ≡ Long what) × (own_value (name ++ (61 ∷ value)) ≡ value)
plain_name name value what none dash named =
    let cut = cut_at-append 61 name value none in
    let P : Option (List ℕ × List ℕ) → Type 0 = λ o. by_name (name ++ (61 ∷ value)) o ≡ Long what in
    let long : P (parts name value) = rw named refl in
    (rw dash (subst P (sym cut) long), ap second_or_none cut)

lacks_equals : (name : List ℕ) → list_all (λ b. not (b == 61)) name ≡ true → All (λ b. b ≢ 61) name
lacks_equals [] h = All-nil (λ b. b ≢ 61)
lacks_equals (b ∷ name) h =
    let p = and_parts (not (b == 61)) (list_all (λ x. not (x == 61)) name) h in
    All-cons (λ x. x ≢ 61) b name (λ e. let yes = eq-eqb b 61 e in let no = not-true (b == 61) p.0 in cc) (lacks_equals name p.1)

-- the value in a setting's word
abbrev pub value_of : Setting → List ℕ
value_of (Root path) = path
value_of (Bind host guest keep) = host ++ (58 ∷ with_mark keep guest)
value_of (Directory path) = path
value_of RootId = []
value_of (ChangeId uid gid) = decimal uid ++ (58 ∷ decimal gid)
value_of (Variable text) = text
value_of (Turns n) = decimal n
value_of (Schedule slots) = join_with_byte 44 (map slot_text slots)
value_of (Loose slots) = join_with_byte 44 (map slot_text slots)
value_of Native = []
value_of Calm = []
value_of (Case n) = decimal n

-- a word that gives a kind and its value, where there is one
abbrev pub Gives : List ℕ → Setting → Type 0
Gives word s = ((spelling_of word ≡ Long (kind_of s)) × (own_value word ≡ value_of s)) ⊎ ((spelling_of word ≡ Flag (kind_of s)) × (value_of s ≡ []))

pub word_gives : (s : Setting) → Gives (word_of s) s
word_gives (Root path) = inl (plain_name (codes "--rootfs") path RootKind (lacks_equals (codes "--rootfs") refl) refl refl)
word_gives (Bind host guest keep) = inl (plain_name (codes "--bind") (host ++ (58 ∷ with_mark keep guest)) BindKind (lacks_equals (codes "--bind") refl) refl refl)
word_gives (Directory path) = inl (plain_name (codes "--pwd") path DirectoryKind (lacks_equals (codes "--pwd") refl) refl refl)
word_gives RootId = inr (refl, refl)
word_gives (ChangeId uid gid) = inl (plain_name (codes "--change-id") (decimal uid ++ (58 ∷ decimal gid)) ChangeIdKind (lacks_equals (codes "--change-id") refl) refl refl)
word_gives (Variable text) = inl (plain_name (codes "--env") text VariableKind (lacks_equals (codes "--env") refl) refl refl)
word_gives (Turns n) = inl (plain_name (codes "--turns") (decimal n) TurnsKind (lacks_equals (codes "--turns") refl) refl refl)
word_gives (Schedule slots) = inl (plain_name (codes "--schedule") (join_with_byte 44 (map slot_text slots)) ScheduleKind (lacks_equals (codes "--schedule") refl) refl refl)
word_gives (Loose slots) = inl (plain_name (codes "--loose") (join_with_byte 44 (map slot_text slots)) LooseKind (lacks_equals (codes "--loose") refl) refl refl)
word_gives Native = inr (refl, refl)
word_gives Calm = inr (refl, refl)
word_gives (Case n) = inl (plain_name (codes "--case") (decimal n) CaseKind (lacks_equals (codes "--case") refl) refl refl)

-- the value says the setting
pub setting_back : (s : Setting) → IsPlain s → setting_of (kind_of s) (value_of s) ≡ Ok s
setting_back (Root path) is = refl
setting_back (Bind host guest keep) is = ap (λ o. ok_or (option_map bind_setting o) BadBind) (binding_back host guest keep is)
setting_back (Directory path) is = refl
setting_back RootId is = refl
setting_back (ChangeId uid gid) is = ap (λ (o : Option (ℕ × ℕ)). ok_or (option_map (λ ids. ChangeId ids.0 ids.1) o) BadId) (ids_back uid gid is.0 is.1)
setting_back (Variable text) is = let h : is_variable text ≡ true = is.has_name in rw h refl
setting_back (Turns n) is = ap (λ o. ok_or (option_map Turns o) BadNumber) (number_of-decimal 8 1 10000000 n (omega arith) (lit< tt) (lit< tt) is.0 is.1)
setting_back (Schedule slots) is = ap (λ o. ok_or (option_map Schedule o) BadSchedule) (schedule_back slots is.0 is.1 is.2)
setting_back (Loose slots) is = ap (λ o. ok_or (option_map Loose o) BadSchedule) (schedule_back slots is.0 is.1 is.2)
setting_back Native is = refl
setting_back Calm is = refl
setting_back (Case n) is = ap (λ o. ok_or (option_map Case o) BadNumber) (number_of-decimal 8 0 65535 n (omega arith) (lit< tt) (lit< tt) (omega arith) is)

-- ---- no zero bytes

decimal_text : (n : ℕ) → n < 2 ^ 64 → IsText (decimal n)
decimal_text n small = decimal_lacks_low 0 n (omega arith) small

slot_is_text : (slot : Slot) → IsSlot slot → IsText (slot_text slot)
slot_is_text slot is =
    let picks = is.pick in
    let fuels = is.fuel in
    All-append (λ b. b ≢ 0) (decimal slot.pick) (42 ∷ decimal slot.fuel) (decimal_text slot.pick (omega (arith, picks))) (All-cons (λ b. b ≢ 0) 42 (decimal slot.fuel) (λ e. cc) (decimal_text slot.fuel (omega (arith, fuels))))

slots_are_text : (slots : List Slot) → All IsSlot slots → IsText (join_with_byte 44 (map slot_text slots))
slots_are_text [] all = All-nil (λ b. b ≢ 0)
slots_are_text (slot ∷ []) all = slot_is_text slot (All-head IsSlot slot [] all)
slots_are_text (slot ∷ next ∷ slots) all =
    All-append (λ b. b ≢ 0) (slot_text slot) (44 ∷ join_with_byte 44 (map slot_text (next ∷ slots))) (slot_is_text slot (All-head IsSlot slot (next ∷ slots) all)) (All-cons (λ b. b ≢ 0) 44 (join_with_byte 44 (map slot_text (next ∷ slots))) (λ e. cc) (slots_are_text (next ∷ slots) (All-tail IsSlot slot (next ∷ slots) all)))

mark_is_text : (keep : Bool) (guest : List ℕ) → IsText guest → IsText (with_mark keep guest)
mark_is_text true guest is = All-append (λ b. b ≢ 0) guest (codes "!") is (All-cons (λ b. b ≢ 0) 33 [] (λ e. cc) (All-nil (λ b. b ≢ 0)))
mark_is_text false guest is = is

is_text : (name : List ℕ) → list_all (λ b. not (b == 0)) name ≡ true → IsText name
is_text [] h = All-nil (λ b. b ≢ 0)
is_text (b ∷ name) h =
    let p = and_parts (not (b == 0)) (list_all (λ x. not (x == 0)) name) h in
    All-cons (λ x. x ≢ 0) b name (λ e. let yes = eq-eqb b 0 e in let no = not-true (b == 0) p.0 in cc) (is_text name p.1)

named_text : (name value : List ℕ) → list_all (λ b. not (b == 0)) name ≡ true → IsText value → IsText (name ++ (61 ∷ value))
named_text name value h is = All-append (λ b. b ≢ 0) name (61 ∷ value) (is_text name h) (All-cons (λ b. b ≢ 0) 61 value (λ e. cc) is)

pub word_is_text : (s : Setting) → IsPlain s → IsText (word_of s)
word_is_text (Root path) is = named_text (codes "--rootfs") path refl is
word_is_text (Bind host guest keep) is = named_text (codes "--bind") (host ++ (58 ∷ with_mark keep guest)) refl (All-append (λ b. b ≢ 0) host (58 ∷ with_mark keep guest) is.host_text (All-cons (λ b. b ≢ 0) 58 (with_mark keep guest) (λ e. cc) (mark_is_text keep guest is.guest_text)))
word_is_text (Directory path) is = named_text (codes "--pwd") path refl is
word_is_text RootId is = is_text (codes "--root-id") refl
word_is_text (ChangeId uid gid) is =
    let u = is.0 in
    let g = is.1 in
    named_text (codes "--change-id") (decimal uid ++ (58 ∷ decimal gid)) refl (All-append (λ b. b ≢ 0) (decimal uid) (58 ∷ decimal gid) (decimal_text uid (omega (arith, u))) (All-cons (λ b. b ≢ 0) 58 (decimal gid) (λ e. cc) (decimal_text gid (omega (arith, g)))))
word_is_text (Variable text) is = named_text (codes "--env") text refl is.is_text
word_is_text (Turns n) is = let high = is.1 in named_text (codes "--turns") (decimal n) refl (decimal_text n (omega (arith, high)))
word_is_text (Schedule slots) is = named_text (codes "--schedule") (join_with_byte 44 (map slot_text slots)) refl (slots_are_text slots is.2)
word_is_text (Loose slots) is = named_text (codes "--loose") (join_with_byte 44 (map slot_text slots)) refl (slots_are_text slots is.2)
word_is_text Native is = is_text (codes "--native") refl
word_is_text Calm is = is_text (codes "--calm") refl
word_is_text (Case n) is = named_text (codes "--case") (decimal n) refl (decimal_text n (omega (arith, is)))
