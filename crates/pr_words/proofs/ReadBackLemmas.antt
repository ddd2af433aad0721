-- Settings that are spelled in words are read from them.
use Rattle.std.proofs.Common.{◌≡◌, ◌≢◌, ℕ, ◌+◌, List, [], ◌∷◌, ◌++◌, length, map, reverse, Bool, true, false, Option, Some, None, Result, Ok, refl, sym, ap, ◌∙◌, subst, arith, All, append_assoc, inl, inr}
use Rattle.std.specs.Prelude.{codes, nat_eq, nat_lt, is_some, not, if◌then◌else◌}
use Rattle.std.specs.List.{list_all, starts_with, position, position_or_len}
use Rattle.std.specs.Option.{option_map}
use Rattle.std.proofs.lemmas.Bool.{and_parts, ne_eqb, le-ltb}
use Rattle.std.proofs.lemmas.List.{reverse-append}
use Rattle.std.proofs.lemmas.List.Elements.{All-nil, All-cons, All-head, All-tail, All-append}
use Rattle.pr_words.specs.declared.fault.Why.TheVariants.{ZeroByte, CaseAlone, CalmAlone, LooseAlone}
use Rattle.pr_words.specs.declared.fault.WordsFault.{WordsFault}
use Rattle.pr_words.specs.declared.options.Options.{Options}
use Rattle.pr_words.specs.declared.setting.Setting.{Setting}
use Rattle.pr_words.specs.declared.spelling.Spelled.TheVariants.{Command as CommandWord}
use Rattle.pr_words.specs.Spelling.{spelling_of}
use Rattle.pr_words.specs.Meaning.{latest, or_earlier, case_in, calm_in, loose_in, native_in, options_of}
use Rattle.pr_words.specs.Reading.{WithValue, Then, line_of, setting_of, is_again, or_twice, told, Given, settings_of, first_place, is_beside_case, is_loose, case_alone, calm_alone, excludes_loose, loose_alone, broken_at, ended, accepted, has_zero}
use Rattle.pr_words.specs.Sound.{IsText}
use Rattle.pr_words.specs.ReadBack.{word_of, kind_of, IsPlain, ArePlain, StandTogether, BeginsPlainly, OptionsAreReadBack}
use Rattle.pr_words.proofs.SoundLemmas.{accepted_step}
use Rattle.pr_words.proofs.SpelledLemmas.{value_of, Gives, word_gives, setting_back, word_is_text}

abbrev Answer : Type 0
Answer = Result Options WordsFault

-- ---- one word

line_gives : (n : ℕ) (word : List ℕ) (words : List (List ℕ)) (s : Setting) → Gives word s → line_of n (word ∷ words) ≡ Then n (WithValue (kind_of s) (value_of s)) (line_of (n + 1) words)
unfolding line_of
line_gives n word words s (inl (long, own)) = rw long (ap (λ v. Then n (WithValue (kind_of s) v) (line_of (n + 1) words)) own)
line_gives n word words s (inr (flag, none)) = rw flag (ap (λ v. Then n (WithValue (kind_of s) v) (line_of (n + 1) words)) (sym none))

told_back : (earlier : List Setting) (s : Setting) → IsPlain s → is_again (kind_of s) earlier ≡ false → told earlier (WithValue (kind_of s) (value_of s)) ≡ Ok s
told_back earlier s is once = ap (λ b. or_twice b (setting_of (kind_of s) (value_of s))) once ∙ setting_back s is

command_back : (given : List Given) (n : ℕ) (command : List (List ℕ)) → BeginsPlainly command → accepted given (line_of n command) ≡ ended given n command
unfolding line_of accepted
command_back given n [] plain = refl
command_back given n (word ∷ words) plain = rw (begins plain) refl
  where
    begins : starts_with nat_eq word (codes "-") ≡ false → spelling_of word ≡ CommandWord
    begins h = rw h refl

-- ---- all words

-- the settings that were read, behind the earlier ones
abbrev Reads : List Given → ℕ → List Setting → List (List ℕ) → Type 0
Reads given n settings command =
    (more : List Given) × (settings_of more ≡ reverse settings ++ settings_of given) × ((m : ℕ) × (accepted given (line_of n (map word_of settings ++ command)) ≡ ended more m command))

reads : (given : List Given) (n : ℕ) (settings : List Setting) (command : List (List ℕ)) → ArePlain (settings_of given) settings → BeginsPlainly command → Reads given n settings command
reads given n [] command plain begins = (given, refl, (n, command_back given n command begins))
reads given n (s ∷ settings) command (is, once, rest) begins =
    let one : Given = record { place = n; setting = s } in
    let (more, all, (m, read)) = reads (one ∷ given) (n + 1) settings command rest begins in
    let words = map word_of settings ++ command in
    let line = line_gives n (word_of s) words s (word_gives s) in
    let step = accepted_step given n (WithValue (kind_of s) (value_of s)) (line_of (n + 1) words) s (told_back (settings_of given) s is once) in
    (more, all ∙ sym (reversed s settings (settings_of given)), (m, ap (accepted given) line ∙ step ∙ read))
  where
    reversed : (x : Setting) (xs ys : List Setting) → reverse (x ∷ xs) ++ ys ≡ reverse xs ++ (x ∷ ys)
    reversed x xs ys = ap (λ l. l ++ ys) (reverse-append (x ∷ []) xs) ∙ append_assoc (reverse xs) (x ∷ []) ys

-- ---- options that stand together

none_other : (given : List Given) → list_all is_beside_case (settings_of given) ≡ true → first_place (λ s. not (is_beside_case s)) given ≡ None
none_other [] h = refl
none_other (g ∷ given) h =
    let p = and_parts (is_beside_case g.setting) (list_all is_beside_case (settings_of given)) h in
    rw (none_other given p.1, p.0) refl

none_picked : {A : Type 0} (picks : Setting → Option A) (given : List Given) → is_some (latest picks (settings_of given)) ≡ false → first_place (λ s. is_some (picks s)) given ≡ None
none_picked picks [] h = refl
none_picked {A} picks (g ∷ given) h = by_pick (none_picked picks given) (picks g.setting) refl
  where
    by_pick : (is_some (latest picks (settings_of given)) ≡ false → first_place (λ s. is_some (picks s)) given ≡ None) → (o : Option A) → picks g.setting ≡ o → first_place (λ s. is_some (picks s)) (g ∷ given) ≡ None
    by_pick rest None e =
        let later : is_some (latest picks (settings_of given)) ≡ false = subst (λ o. is_some (or_earlier o (latest picks (settings_of given))) ≡ false) e h in
        rw (rest later, e) refl
    by_pick rest (Some x) e = absurd (let yes = subst (λ o. is_some (or_earlier o (latest picks (settings_of given))) ≡ false) e h in cc)

case_stands : (given : List Given) (n : ℕ) (command : List (List ℕ)) → StandTogether (settings_of given) command → case_alone given n command ≡ None
case_stands given n command stand = by_case (is_some (latest case_in (settings_of given))) refl
  where
    by_case : (b : Bool) → is_some (latest case_in (settings_of given)) ≡ b → case_alone given n command ≡ None
    by_case true h =
        let p = stand.case_alone h in
        rw (h, none_other given p.0, p.1) refl
    by_case false h = rw h refl

calm_stands : (given : List Given) (command : List (List ℕ)) → StandTogether (settings_of given) command → calm_alone given ≡ None
calm_stands given command stand = by_case (is_some (latest native_in (settings_of given))) refl (is_some (latest calm_in (settings_of given))) refl
  where
    by_case : (b : Bool) → is_some (latest native_in (settings_of given)) ≡ b → (c : Bool) → is_some (latest calm_in (settings_of given)) ≡ c → calm_alone given ≡ None
    by_case true h c e = rw h refl
    by_case false h true e = absurd (let yes = stand.calm_native e in cc)
    by_case false h false e = rw h (none_picked calm_in given e)

if_none : (b : Bool) (place : Option ℕ) → place ≡ None → (if b then place else None) ≡ None
if_none true place none = none
if_none false place none = refl

loose_stands : (given : List Given) (command : List (List ℕ)) → StandTogether (settings_of given) command → loose_alone given ≡ None
loose_stands given command stand = by_case (is_some (latest loose_in (settings_of given))) refl
  where
    by_case : (b : Bool) → is_some (latest loose_in (settings_of given)) ≡ b → loose_alone given ≡ None
    by_case true h = ap (λ b. if b then first_place is_loose given else None) (stand.loose_alone h)
    by_case false h = if_none (excludes_loose (settings_of given)) (first_place is_loose given) (none_picked loose_in given h)

ended_back : (given : List Given) (n : ℕ) (command : List (List ℕ)) → StandTogether (settings_of given) command → ended given n command ≡ Ok (options_of (settings_of given) command)
ended_back given n command stand =
    ap (λ o. broken_at o CaseAlone (broken_at (calm_alone given) CalmAlone (broken_at (loose_alone given) LooseAlone (Ok (options_of (settings_of given) command))))) (case_stands given n command stand)
    ∙ ap (λ o. broken_at o CalmAlone (broken_at (loose_alone given) LooseAlone (Ok (options_of (settings_of given) command)))) (calm_stands given command stand)
    ∙ ap (λ o. broken_at o LooseAlone (Ok (options_of (settings_of given) command))) (loose_stands given command stand)

-- ---- no zero bytes

no_zero : (word : List ℕ) → IsText word → has_zero word ≡ false
no_zero [] is = refl
no_zero (b ∷ word) is =
    let b_is : nat_eq b 0 ≡ false = ne_eqb b 0 (All-head (λ x. x ≢ 0) b word is) in
    rw b_is (no_zero word (All-tail (λ x. x ≢ 0) b word is))

past_all : (words : List (List ℕ)) → All IsText words → position_or_len has_zero words ≡ length words
past_all [] all = refl
past_all (word ∷ words) all =
    let here = no_zero word (All-head IsText word words all) in
    let on : position_or_len has_zero words ≡ length words = past_all words (All-tail IsText word words all) in
    rw here (omega (arith, on))

none_zero : (words : List (List ℕ)) → All IsText words → position has_zero words ≡ None
none_zero words all =
    let past = past_all words all in
    let none : nat_lt (position_or_len has_zero words) (length words) ≡ false = le-ltb _ _ (omega (arith, past)) in
    rw none refl

words_are_text : (earlier settings : List Setting) → ArePlain earlier settings → All IsText (map word_of settings)
words_are_text earlier [] plain = All-nil IsText
words_are_text earlier (s ∷ settings) (is, once, rest) = All-cons IsText (word_of s) (map word_of settings) (word_is_text s is) (words_are_text (s ∷ earlier) settings rest)

-- ---- the law

pub options_back : OptionsAreReadBack
options_back settings command plain stand texts begins =
    let (more, all, (m, read)) = reads [] 1 settings command plain begins in
    let same : settings_of more ≡ reverse settings = all ∙ append_nil (reverse settings) in
    let zero = none_zero (map word_of settings ++ command) (All-append IsText (map word_of settings) command (words_are_text [] settings plain) texts) in
    let line = accepted [] (line_of 1 (map word_of settings ++ command)) in
    ap (λ o. broken_at (option_map (λ at. at + 1) o) ZeroByte line) zero
    ∙ read
    ∙ ended_back more m command (subst (λ l. StandTogether l command) (sym same) stand)
    ∙ ap (λ l. Ok (options_of l command)) same
  where
    append_nil : (xs : List Setting) → xs ++ [] ≡ xs
    append_nil [] = refl
    append_nil (x ∷ xs) = ap (λ l. x ∷ l) (append_nil xs)
