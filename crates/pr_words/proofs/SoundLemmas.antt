-- Options that were read are such as callers rely on.
use Rattle.std.proofs.Common.{◌≡◌, ◌≢◌, ℕ, zero, suc, ◌+◌, ◌<◌, ◌≤◌, List, [], ◌∷◌, ◌++◌, length, Bool, true, false, Option, Some, None, Result, Ok, Err, refl, sym, ap, ◌∙◌, subst, arith, All}
use Rattle.std.specs.Prelude.{codes, unwrap_or, slice_get, IfSome, IfOk, if◌then◌else◌}
use Rattle.std.specs.List.{position}
use Rattle.std.proofs.lemmas.Bool.{or_parts, eqb-false}
use Rattle.std.proofs.lemmas.List.Elements.{All-nil, All-cons, All-head, All-tail, All-push, All-weaker}
use Rattle.pr_base.specs.declared.bind.Bind.{Bind as OneBind}
use Rattle.pr_words.specs.declared.fault.Why.{Why}
use Rattle.pr_words.specs.declared.fault.Why.TheVariants.{BadEnv, BadNumber, BadBind, BadSchedule, BadId, CalmAlone, CaseAlone, LooseAlone}
use Rattle.pr_words.specs.declared.fault.WordsFault.{WordsFault}
use Rattle.pr_words.specs.declared.fault.WordsFault.TheVariants.{Usage}
use Rattle.pr_words.specs.declared.kind.Kind.{Kind}
use Rattle.pr_words.specs.declared.kind.Kind.TheVariants.{Root, Bind, Directory, RootId, ChangeId, Variable, Turns, Schedule, Loose, Native, Calm, Case}
use Rattle.pr_words.specs.declared.spelling.Spelled.{Spelled}
use Rattle.pr_words.specs.declared.spelling.Spelled.TheVariants.{Command as CommandWord, Unknown as UnknownWord, Flag, Short, Lacking, Long}
use Rattle.pr_words.specs.declared.setting.Setting.{Setting}
use Rattle.pr_words.specs.declared.setting.Setting.TheVariants.{Root as RootSetting, Bind as BindSetting, Directory as DirectorySetting, RootId as RootIdSetting, ChangeId as ChangeIdSetting, Variable as VariableSetting, Turns as TurnsSetting, Schedule as ScheduleSetting, Loose as LooseSetting, Native as NativeSetting, Calm as CalmSetting, Case as CaseSetting}
use Rattle.pr_words.specs.declared.options.Options.{Options}
use Rattle.pr_words.specs.declared.options.Slot.{Slot}
use Rattle.pr_words.specs.Answers.{IsAnswer}
use Rattle.pr_words.specs.Spelling.{spelling_of}
use Rattle.pr_words.specs.Values.{is_variable, largest_id, turns_of, case_of, ids_of, schedule_of, binding_of}
use Rattle.pr_words.specs.Variables.{same_name, with_variable}
use Rattle.pr_words.specs.Values.{variable_name}
use Rattle.pr_words.specs.Meaning.{latest, or_earlier, root_in, directory_in, ids_in, turns_in, schedule_in, loose_in, case_in, binds_of, variables_of, options_of}
use Rattle.pr_words.specs.Reading.{Asked, NoSuch, WithoutValue, WithValue, Line, Then, Command, line_of, with_next, bind_setting, setting_of, is_again, or_twice, told, Given, settings_of, case_alone, calm_alone, loose_alone, broken_at, accepted, has_zero, reading_of}
use Rattle.pr_words.specs.Sound.{IsText, IsBinding, AreNumbered, IsSlot, IsVariable, AreSound}
use Rattle.pr_words.proofs.PositionLemmas.{none_passes}
use Rattle.pr_words.proofs.ValueLemmas.{ok_map, number_in, ids_in_range, schedule_in_range, own_value_text, binding_in_range}

-- ---- a setting

abbrev IsSetting : Setting → Type 0
IsSetting (RootSetting path) = IsText path
IsSetting (BindSetting host guest keep) = (0 < length host) × (0 < length guest) × IsText host × IsText guest
IsSetting (DirectorySetting path) = IsText path
IsSetting RootIdSetting = Unit {0}
IsSetting (ChangeIdSetting uid gid) = (uid ≤ largest_id) × (gid ≤ largest_id)
IsSetting (VariableSetting text) = IsVariable text
IsSetting (TurnsSetting n) = (1 ≤ n) × (n ≤ 10000000)
IsSetting (ScheduleSetting slots) = (length slots ≤ 1024) × All IsSlot slots
IsSetting (LooseSetting slots) = (length slots ≤ 1024) × All IsSlot slots
IsSetting NativeSetting = Unit {0}
IsSetting CalmSetting = Unit {0}
IsSetting (CaseSetting n) = n ≤ 65535

variable_is : (value : List ℕ) (s : Setting) (b : Bool) → is_variable value ≡ b → IsText value → setting_of Variable value ≡ Ok s → IsSetting s
variable_is value s true h clean e =
    let f : setting_of Variable value ≡ Ok (VariableSetting value) = rw h refl in
    let same : VariableSetting value ≡ s = cc in
    subst IsSetting same (record { is_text = clean; has_name = h })
variable_is value s false h clean e = absurd (let f : setting_of Variable value ≡ Err BadEnv = rw h refl in cc)

setting_is : (what : Kind) (value : List ℕ) (s : Setting) → IsText value → setting_of what value ≡ Ok s → IsSetting s
setting_is Root value s clean e = let same : RootSetting value ≡ s = cc in subst IsSetting same clean
setting_is Bind value s clean e = let (b, read, same) = ok_map (binding_of value) bind_setting BadBind s e in subst IsSetting same (binding_in_range value b clean read)
setting_is Directory value s clean e = let same : DirectorySetting value ≡ s = cc in subst IsSetting same clean
setting_is RootId value s clean e = let same : RootIdSetting ≡ s = cc in subst IsSetting same tt
setting_is ChangeId value s clean e = let (ids, read, same) = ok_map (ids_of value) _ BadId s e in subst IsSetting same (ids_in_range value ids read)
setting_is Variable value s clean e = variable_is value s (is_variable value) refl clean e
setting_is Turns value s clean e = let (n, read, same) = ok_map (turns_of value) _ BadNumber s e in subst IsSetting same (number_in 8 1 10000000 value n read)
setting_is Schedule value s clean e = let (slots, read, same) = ok_map (schedule_of value) _ BadSchedule s e in subst IsSetting same (schedule_in_range value slots read)
setting_is Loose value s clean e = let (slots, read, same) = ok_map (schedule_of value) _ BadSchedule s e in subst IsSetting same (schedule_in_range value slots read)
setting_is Native value s clean e = let same : NativeSetting ≡ s = cc in subst IsSetting same tt
setting_is Calm value s clean e = let same : CalmSetting ≡ s = cc in subst IsSetting same tt
setting_is Case value s clean e = let (n, read, same) = ok_map (case_of value) _ BadNumber s e in subst IsSetting same (number_in 8 0 65535 value n read).1

not_twice : (again : Bool) (read : Result Setting Why) (s : Setting) → or_twice again read ≡ Ok s → read ≡ Ok s
not_twice false read s e = e
not_twice true (Ok other) s e = absurd (cc)
not_twice true (Err why) s e = absurd (cc)

abbrev IsAsked : Asked → Type 0
IsAsked NoSuch = Unit {0}
IsAsked WithoutValue = Unit {0}
IsAsked (WithValue what value) = IsText value

told_is : (earlier : List Setting) (asked : Asked) (s : Setting) → IsAsked asked → told earlier asked ≡ Ok s → IsSetting s
told_is earlier NoSuch s clean e = absurd (cc)
told_is earlier WithoutValue s clean e = absurd (cc)
told_is earlier (WithValue what value) s clean e = setting_is what value s clean (not_twice (is_again what earlier) (setting_of what value) s e)

-- ---- words without zero bytes

abbrev IsLine : Line → Type 0
IsLine (Command n words) = All IsText words
IsLine (Then n asked line) = IsAsked asked × IsLine line

by_spelling : (n : ℕ) (word : List ℕ) (words : List (List ℕ)) (s : Spelled) → spelling_of word ≡ s → IsText word → All IsText words → IsLine (line_of (n + 1) words) → ((what : Kind) → IsLine (with_next n what words)) → IsLine (line_of n (word ∷ words))
unfolding line_of
by_spelling n word words CommandWord e clean all on next = rw e (All-cons IsText word words clean all)
by_spelling n word words UnknownWord e clean all on next = rw e (tt, on)
by_spelling n word words (Lacking what) e clean all on next = rw e (tt, on)
by_spelling n word words (Flag what) e clean all on next = rw e (All-nil (λ b. b ≢ 0), on)
by_spelling n word words (Long what) e clean all on next = rw e (own_value_text word clean, on)
by_spelling n word words (Short what) e clean all on next = rw e (next what)

line_is : (n : ℕ) (words : List (List ℕ)) → All IsText words → IsLine (line_of n words)
unfolding line_of with_next
line_is n [] all = all
line_is n (word ∷ []) all = by_spelling n word [] (spelling_of word) refl (All-head IsText word [] all) (All-tail IsText word [] all) (All-tail IsText word [] all) (λ what. (tt, All-tail IsText word [] all))
line_is n (word ∷ value ∷ words) all =
    let rest = All-tail IsText word (value ∷ words) all in
    by_spelling n word (value ∷ words) (spelling_of word) refl (All-head IsText word (value ∷ words) all) rest (line_is (n + 1) (value ∷ words) rest) (λ what. (All-head IsText value words rest, line_is (n + 2) words (All-tail IsText value words rest)))

-- ---- what the settings mean

abbrev AreSettings : List Setting → Type 0
AreSettings settings = All IsSetting settings

latest_is : {A : Type 0} (P : A → Type 0) (picks : Setting → Option A) → ((s : Setting) (x : A) → IsSetting s → picks s ≡ Some x → P x) → (settings : List Setting) → AreSettings settings → IfSome (latest picks settings) P
latest_is P picks is [] all = tt
latest_is {A} P picks is (s ∷ earlier) all = by_pick (latest_is P picks is earlier (All-tail IsSetting s earlier all)) (picks s) refl
  where
    by_pick : IfSome (latest picks earlier) P → (o : Option A) → picks s ≡ o → IfSome (or_earlier o (latest picks earlier)) P
    by_pick rest None e = rest
    by_pick rest (Some x) e = is s x (All-head IsSetting s earlier all) e

or_default : {A : Type 0} (P : A → Type 0) (o : Option A) (d : A) → IfSome o P → P d → P (unwrap_or o d)
or_default P None d some none = none
or_default P (Some x) d some none = some

root_is : (s : Setting) (x : List ℕ) → IsSetting s → root_in s ≡ Some x → IsText x
root_is (RootSetting path) x is e = let same : path ≡ x = cc in subst IsText same is
root_is s x is e = absurd (cc)

directory_is : (s : Setting) (x : List ℕ) → IsSetting s → directory_in s ≡ Some x → IsText x
directory_is (DirectorySetting path) x is e = let same : path ≡ x = cc in subst IsText same is
directory_is s x is e = absurd (cc)

abbrev AreIds : ℕ × ℕ → Type 0
AreIds ids = (ids.0 ≤ largest_id) × (ids.1 ≤ largest_id)

ids_are : (s : Setting) (x : ℕ × ℕ) → IsSetting s → ids_in s ≡ Some x → AreIds x
ids_are (ChangeIdSetting uid gid) x is e = let same : (uid, gid) ≡ x = cc in subst AreIds same is
ids_are RootIdSetting x is e = let same : (0, 0) ≡ x = cc in subst AreIds same (omega arith, omega arith)
ids_are s x is e = absurd (cc)

abbrev AreTurns : ℕ → Type 0
AreTurns n = (1 ≤ n) × (n ≤ 10000000)

turns_are : (s : Setting) (x : ℕ) → IsSetting s → turns_in s ≡ Some x → AreTurns x
turns_are (TurnsSetting n) x is e = let same : n ≡ x = cc in subst AreTurns same is
turns_are s x is e = absurd (cc)

abbrev AreSlots : List Slot → Type 0
AreSlots slots = (length slots ≤ 1024) × All IsSlot slots

schedule_is : (s : Setting) (x : List Slot) → IsSetting s → schedule_in s ≡ Some x → AreSlots x
schedule_is (ScheduleSetting slots) x is e = let same : slots ≡ x = cc in subst AreSlots same is
schedule_is s x is e = absurd (cc)

loose_is : (s : Setting) (x : List Slot) → IsSetting s → loose_in s ≡ Some x → AreSlots x
loose_is (LooseSetting slots) x is e = let same : slots ≡ x = cc in subst AreSlots same is
loose_is s x is e = absurd (cc)

abbrev IsCase : ℕ → Type 0
IsCase n = n ≤ 65535

case_is : (s : Setting) (x : ℕ) → IsSetting s → case_in s ≡ Some x → IsCase x
case_is (CaseSetting n) x is e = let same : n ≡ x = cc in subst IsCase same is
case_is s x is e = absurd (cc)

binds_are : (settings : List Setting) → AreSettings settings → All IsBinding (binds_of settings)
binds_are [] all = All-nil IsBinding
binds_are (BindSetting host guest keep ∷ earlier) all =
    let is = All-head IsSetting (BindSetting host guest keep) earlier all in
    All-push IsBinding (binds_of earlier) _ (binds_are earlier (All-tail IsSetting (BindSetting host guest keep) earlier all)) (record { host = is.0; guest = is.1; host_text = is.2; guest_text = is.3 })
binds_are (s ∷ earlier) all = binds_are earlier (All-tail IsSetting s earlier all)

abbrev NumberedFrom : ℕ → List OneBind → Type 0
NumberedFrom m binds = (k : ℕ) (b : OneBind) → slice_get binds k ≡ Some b → b.index ≡ m + k

one_more : (m : ℕ) (binds : List OneBind) (bind : OneBind) → NumberedFrom m binds → bind.index ≡ m + length binds → NumberedFrom m (binds ++ bind ∷ [])
one_more m [] bind numbered next zero b e = let same : bind ≡ b = cc in ap (λ (x : OneBind). x.index) (sym same) ∙ next
one_more m [] bind numbered next (suc k) b e = absurd (cc)
one_more m (first ∷ binds) bind numbered next zero b e = numbered 0 b e
one_more m (first ∷ binds) bind numbered next (suc k) b e =
    let on = one_more (m + 1) binds bind (λ j x h. let i = numbered (suc j) x h in omega (arith, i)) (omega (arith, next)) k b e in
    omega (arith, on)

none_numbered : NumberedFrom 1 []
none_numbered k b e = absurd (cc)

binds_numbered : (settings : List Setting) → AreNumbered (binds_of settings)
binds_numbered [] = none_numbered
binds_numbered (BindSetting host guest keep ∷ earlier) = one_more 1 (binds_of earlier) _ (binds_numbered earlier) (omega arith)
binds_numbered (s ∷ earlier) = binds_numbered earlier

with_variable_is : (text : List ℕ) (texts : List (List ℕ)) → IsVariable text → All IsVariable texts → All IsVariable (with_variable text texts)
with_variable_is text [] is all = All-cons IsVariable text [] is all
with_variable_is text (other ∷ texts) is all = by_name (with_variable_is text texts is (All-tail IsVariable other texts all)) (same_name (variable_name text) (variable_name other))
  where
    by_name : All IsVariable (with_variable text texts) → (b : Bool) → All IsVariable (if b then text ∷ texts else other ∷ with_variable text texts)
    by_name rest true = All-cons IsVariable text texts is (All-tail IsVariable other texts all)
    by_name rest false = All-cons IsVariable other (with_variable text texts) (All-head IsVariable other texts all) rest

variables_are : (settings : List Setting) → AreSettings settings → All IsVariable (variables_of settings)
variables_are [] all = All-nil IsVariable
variables_are (VariableSetting text ∷ earlier) all = with_variable_is text (variables_of earlier) (All-head IsSetting (VariableSetting text) earlier all) (variables_are earlier (All-tail IsSetting (VariableSetting text) earlier all))
variables_are (s ∷ earlier) all = variables_are earlier (All-tail IsSetting s earlier all)

slash_is : IsText (codes "/")
slash_is = All-cons (λ b. b ≢ 0) 47 [] (λ e. cc) (All-nil (λ b. b ≢ 0))

options_are : (settings : List Setting) (command : List (List ℕ)) → AreSettings settings → All IsText command → AreSound (options_of settings command)
options_are settings command all words =
    let turns = or_default AreTurns (latest turns_in settings) 1000000 (latest_is AreTurns turns_in turns_are settings all) (omega arith, omega arith) in
    let slots = or_default AreSlots (latest schedule_in settings) [] (latest_is AreSlots schedule_in schedule_is settings all) (omega arith, All-nil IsSlot) in
    let loose = or_default AreSlots (latest loose_in settings) [] (latest_is AreSlots loose_in loose_is settings all) (omega arith, All-nil IsSlot) in
    record {
      root = or_default IsText (latest root_in settings) (codes "/") (latest_is IsText root_in root_is settings all) slash_is;
      binds = binds_are settings all;
      indices = binds_numbered settings;
      cwd = or_default IsText (latest directory_in settings) (codes "/") (latest_is IsText directory_in directory_is settings all) slash_is;
      ids = latest_is AreIds ids_in ids_are settings all;
      env = variables_are settings all;
      some_turns = turns.0;
      turns = turns.1;
      schedule = slots.1;
      slots = slots.0;
      loose = loose.1;
      loose_slots = loose.0;
      case = latest_is IsCase case_in case_is settings all;
      command = words;
    }

-- ---- words that were read

abbrev Answer : Type 0
Answer = Result Options WordsFault

not_broken : (place : Option ℕ) (why : Why) (other : Answer) (o : Options) → broken_at place why other ≡ Ok o → other ≡ Ok o
not_broken None why other o e = e
not_broken (Some n) why other o e = absurd (cc)

-- a line, by what its first option asks for
abbrev pub go_on : List Given → ℕ → Line → Result Setting Why → Answer
go_on given n line (Ok setting) = accepted (record { place = n; setting = setting } ∷ given) line
go_on given n line (Err why) = Err (Usage n why)

by_read : (given : List Given) (n : ℕ) (line : Line) (read : Result Setting Why) → (elim read as (λ _. Answer) [ Ok setting ↦ accepted (record { place = n; setting = setting } ∷ given) line | Err why ↦ Err (Usage n why) ]) ≡ go_on given n line read
by_read given n line (Ok setting) = refl
by_read given n line (Err why) = refl

pub accepted-then : (given : List Given) (n : ℕ) (asked : Asked) (line : Line) → accepted given (Then n asked line) ≡ go_on given n line (told (settings_of given) asked)
unfolding accepted
accepted-then given n asked line = by_read given n line (told (settings_of given) asked)

pub accepted_step : (given : List Given) (n : ℕ) (asked : Asked) (line : Line) (setting : Setting) → told (settings_of given) asked ≡ Ok setting → accepted given (Then n asked line) ≡ accepted (record { place = n; setting = setting } ∷ given) line
accepted_step given n asked line setting h = accepted-then given n asked line ∙ ap (go_on given n line) h

accepted_fault : (given : List Given) (n : ℕ) (asked : Asked) (line : Line) (why : Why) → told (settings_of given) asked ≡ Err why → accepted given (Then n asked line) ≡ Err (Usage n why)
accepted_fault given n asked line why h = accepted-then given n asked line ∙ ap (go_on given n line) h

accepted_are : (given : List Given) (line : Line) (o : Options) → AreSettings (settings_of given) → IsLine line → accepted given line ≡ Ok o → AreSound o
unfolding accepted
accepted_are given (Command n command) o all is e =
    let rest = not_broken (case_alone given n command) CaseAlone (broken_at (calm_alone given) CalmAlone (broken_at (loose_alone given) LooseAlone (Ok (options_of (settings_of given) command)))) o e in
    let more = not_broken (calm_alone given) CalmAlone (broken_at (loose_alone given) LooseAlone (Ok (options_of (settings_of given) command))) o rest in
    let whole = not_broken (loose_alone given) LooseAlone (Ok (options_of (settings_of given) command)) o more in
    let same : options_of (settings_of given) command ≡ o = cc in
    subst AreSound same (options_are (settings_of given) command all is)
accepted_are given (Then n asked line) o all is e = by_told (λ setting. accepted_are (record { place = n; setting = setting } ∷ given) line o) (told (settings_of given) asked) refl
  where
    by_told : ((setting : Setting) → AreSettings (setting ∷ settings_of given) → IsLine line → accepted (record { place = n; setting = setting } ∷ given) line ≡ Ok o → AreSound o) → (read : Result Setting Why) → told (settings_of given) asked ≡ read → AreSound o
    by_told more (Ok setting) h = more setting (All-cons IsSetting setting (settings_of given) (told_is (settings_of given) asked setting is.0 h) all) is.1 (sym (accepted_step given n asked line setting h) ∙ e)
    by_told more (Err why) h = let fault = accepted_fault given n asked line why h in absurd (cc)

no_zero : (word : List ℕ) → has_zero word ≡ false → IsText word
no_zero [] h = All-nil (λ b. b ≢ 0)
no_zero (b ∷ word) h = let p = or_parts _ _ h in All-cons (λ x. x ≢ 0) b word (eqb-false b 0 p.0) (no_zero word p.1)

words_are : (words : List (List ℕ)) (o : Options) → reading_of words ≡ Ok o → AreSound o
words_are words o e = by_zero (position has_zero words) refl
  where
    by_zero : (at : Option ℕ) → position has_zero words ≡ at → AreSound o
    by_zero None h =
        let on = rw h at e in
        accepted_are [] (line_of 1 words) o (All-nil IsSetting) (line_is 1 words (All-weaker (λ w. has_zero w ≡ false) IsText no_zero words (none_passes has_zero words h))) on
    by_zero (Some at) h = let on = rw h at e in absurd (cc)

-- whatever is answered, options that were read are sound
pub answer_is_sound : (words : List (List ℕ)) (result : Answer) → IsAnswer (reading_of words) result → IfOk result AreSound
answer_is_sound words (Ok o) e = words_are words o e
answer_is_sound words (Err fault) e = tt
