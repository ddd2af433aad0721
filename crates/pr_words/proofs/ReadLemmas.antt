-- Options read one after the other.
use Rattle.std.proofs.Common.{◌≡◌, ◌≢◌, ℕ, ◌+◌, ◌<◌, ◌≤◌, List, [], ◌∷◌, length, drop, Option, Some, None, Result, Ok, Err, refl, sym, ap, ◌∙◌, subst, arith}
use Rattle.std.specs.Prelude.{IfOk, IfSome}
use Rattle.pr_words.specs.declared.fault.Why.{Why}
use Rattle.pr_words.specs.declared.fault.WordsFault.{WordsFault}
use Rattle.pr_words.specs.declared.fault.WordsFault.TheVariants.{Usage}
use Rattle.pr_words.specs.declared.kind.Kind.{Kind}
use Rattle.pr_words.specs.declared.kind.Kind.TheVariants.{Root, Bind, Directory, RootId, ChangeId, Variable, Turns, Schedule, Loose, Native, Calm, Case}
use Rattle.pr_words.specs.declared.spelling.Spelled.{Spelled}
use Rattle.pr_words.specs.declared.spelling.Spelled.TheVariants.{Command as CommandWord, Unknown as UnknownWord, Flag, Short, Lacking, Long}
use Rattle.pr_words.specs.declared.setting.Setting.{Setting}
use Rattle.pr_words.specs.declared.setting.Setting.TheVariants.{Root as RootSetting, Bind as BindSetting, Directory as DirectorySetting, RootId as RootIdSetting, ChangeId as ChangeIdSetting, Variable as VariableSetting, Turns as TurnsSetting, Schedule as ScheduleSetting, Loose as LooseSetting, Native as NativeSetting, Calm as CalmSetting, Case as CaseSetting}
use Rattle.pr_words.specs.declared.options.Options.{Options}
use Rattle.pr_words.specs.declared.so_far.SoFar.{SoFar}
use Rattle.pr_words.specs.Spelling.{spelling_of, own_value}
use Rattle.pr_words.specs.Reading.{line_of, with_next, accepted, ended, Given, settings_of, is_again, setting_of, or_twice}
use Rattle.pr_words.specs.Steps.{so_far_of, added, is_again_in, Front, front_by, front_of, with_setting, with_front, step_of, finished}

abbrev Answer : Type 0
Answer = Result Options WordsFault

-- a line, read behind earlier options, by what its first setting is
abbrev by_setting : List Given → ℕ → ℕ → List (List ℕ) → Result Setting Why → Answer
by_setting given n taken words (Ok setting) = accepted (record { place = n; setting = setting } ∷ given) (line_of (n + taken) (drop taken words))
by_setting given n taken words (Err why) = Err (Usage n why)

-- the same by the option at its front
abbrev by_front : List Given → ℕ → List (List ℕ) → Result (Option Front) Why → Answer
by_front given n words (Ok None) = ended given n words
by_front given n words (Ok (Some f)) = by_setting given n f.taken words (or_twice (is_again f.kind (settings_of given)) (setting_of f.kind f.value))
by_front given n words (Err why) = Err (Usage n why)

valued : (given : List Given) (n taken : ℕ) (words : List (List ℕ)) (read : Result Setting Why) → (elim read as (λ _. Answer) [ Ok setting ↦ accepted (record { place = n; setting = setting } ∷ given) (line_of (n + taken) (drop taken words)) | Err why ↦ Err (Usage n why) ]) ≡ by_setting given n taken words read
valued given n taken words (Ok setting) = refl
valued given n taken words (Err why) = refl

by_spelling : (given : List Given) (n : ℕ) (word : List ℕ) (words : List (List ℕ)) (s : Spelled) → spelling_of word ≡ s → accepted given (line_of n (word ∷ words)) ≡ by_front given n (word ∷ words) (front_by s word words)
unfolding line_of with_next accepted
by_spelling given n word words CommandWord e = rw e refl
by_spelling given n word words UnknownWord e = rw e refl
by_spelling given n word words (Lacking what) e = rw e refl
by_spelling given n word words (Flag what) e = rw e (valued given n 1 (word ∷ words) (or_twice (is_again what (settings_of given)) (setting_of what [])))
by_spelling given n word words (Long what) e = rw e (valued given n 1 (word ∷ words) (or_twice (is_again what (settings_of given)) (setting_of what (own_value word))))
by_spelling given n word [] (Short what) e = rw e refl
by_spelling given n word (value ∷ words) (Short what) e = rw e (valued given n 2 (word ∷ value ∷ words) (or_twice (is_again what (settings_of given)) (setting_of what value)))

read_front : (given : List Given) (n : ℕ) (word : List ℕ) (words : List (List ℕ)) → accepted given (line_of n (word ∷ words)) ≡ by_front given n (word ∷ words) (front_of word words)
read_front given n word words = by_spelling given n word words (spelling_of word) refl

-- ---- what is kept

again_same : (what : Kind) (given : List Given) → is_again_in what (so_far_of given) ≡ is_again what (settings_of given)
again_same Root given = refl
again_same Bind given = refl
again_same Directory given = refl
again_same RootId given = refl
again_same ChangeId given = refl
again_same Variable given = refl
again_same Turns given = refl
again_same Schedule given = refl
again_same Loose given = refl
again_same Native given = refl
again_same Calm given = refl
again_same Case given = refl

added_same : (n : ℕ) (setting : Setting) (given : List Given) → added n setting (so_far_of given) ≡ so_far_of (record { place = n; setting = setting } ∷ given)
added_same n (RootSetting path) given = refl
added_same n (BindSetting host guest keep) given = refl
added_same n (DirectorySetting path) given = refl
added_same n RootIdSetting given = refl
added_same n (ChangeIdSetting uid gid) given = refl
added_same n (VariableSetting text) given = refl
added_same n (TurnsSetting turns) given = refl
added_same n (ScheduleSetting slots) given = refl
added_same n (LooseSetting slots) given = refl
added_same n NativeSetting given = refl
added_same n CalmSetting given = refl
added_same n (CaseSetting number) given = refl

pub finished_same : (given : List Given) (n : ℕ) (command : List (List ℕ)) → finished (so_far_of given) n command ≡ ended given n command
finished_same given n command = refl

-- an option takes its word at least
abbrev TakesOne : Result (Option Front) Why → Type 0
TakesOne read = IfOk read (λ o. IfSome o (λ f. 1 ≤ f.taken))

front_takes : (s : Spelled) (word : List ℕ) (words : List (List ℕ)) → TakesOne (front_by s word words)
front_takes CommandWord word words = tt
front_takes UnknownWord word words = tt
front_takes (Lacking what) word words = tt
front_takes (Flag what) word words = omega arith
front_takes (Long what) word words = omega arith
front_takes (Short what) word [] = tt
front_takes (Short what) word (value ∷ words) = omega arith

-- ---- one step

-- what a step that took words leads to
abbrev pub GoesOn : List Given → ℕ → List (List ℕ) → ℕ → SoFar → Answer → Type 0
GoesOn given n words taken after answer = (more : List Given) × (after ≡ so_far_of more) × (answer ≡ accepted more (line_of (n + taken) (drop taken words)))

-- the parts of two equal answers
abbrev done : {A B : Type 0} → A → B → Result (A × B) Why
done a b = Ok (a, b)

ok_parts : {A B : Type 0} (a x : A) (b y : B) → done a b ≡ done x y → (a ≡ x) × (b ≡ y)
ok_parts {A} {B} a x b y e = let both : (a, b) ≡ (x, y) = cc in (ap (λ (p : A × B). p.0) both, ap (λ (p : A × B). p.1) both)

setting_taken : (given : List Given) (n f : ℕ) (words : List (List ℕ)) (taken : ℕ) (after : SoFar) (read : Result Setting Why) → with_setting n f (so_far_of given) read ≡ Ok (taken, after) → (f ≡ taken) × GoesOn given n words taken after (by_setting given n f words read)
setting_taken given n f words taken after (Ok setting) e =
    let parts = ok_parts f taken (added n setting (so_far_of given)) after e in
    let same = parts.0 in
    let kept = parts.1 in
    (same, (record { place = n; setting = setting } ∷ given, sym kept ∙ added_same n setting given, ap (λ k. accepted (record { place = n; setting = setting } ∷ given) (line_of (n + k) (drop k words))) same))
setting_taken given n f words taken after (Err why) e = absurd (cc)

setting_refused : (given : List Given) (n f : ℕ) (words : List (List ℕ)) (why : Why) (read : Result Setting Why) → with_setting n f (so_far_of given) read ≡ Err why → by_setting given n f words read ≡ Err (Usage n why)
setting_refused given n f words why (Ok setting) e = absurd (cc)
setting_refused given n f words why (Err other) e = cc

-- with the words of options so far, the setting is the same
along : (given : List Given) (n : ℕ) (f : Front) → with_front n (so_far_of given) (Ok (Some f)) ≡ with_setting n f.taken (so_far_of given) (or_twice (is_again f.kind (settings_of given)) (setting_of f.kind f.value))
along given n f = ap (λ b. with_setting n f.taken (so_far_of given) (or_twice b (setting_of f.kind f.value))) (again_same f.kind given)

front_taken : (given : List Given) (n : ℕ) (words : List (List ℕ)) (taken : ℕ) (after : SoFar) (read : Result (Option Front) Why) → with_front n (so_far_of given) read ≡ Ok (taken, after) → taken ≢ 0 → GoesOn given n words taken after (by_front given n words read)
front_taken given n words taken after (Ok None) e some = absurd (some (sym (ok_parts 0 taken (so_far_of given) after e).0))
front_taken given n words taken after (Ok (Some f)) e some = (setting_taken given n f.taken words taken after _ (sym (along given n f) ∙ e)).1
front_taken given n words taken after (Err why) e some = absurd (cc)

front_ended : (given : List Given) (n : ℕ) (words : List (List ℕ)) (after : SoFar) (read : Result (Option Front) Why) → TakesOne read → with_front n (so_far_of given) read ≡ Ok (0, after) → (after ≡ so_far_of given) × (by_front given n words read ≡ ended given n words)
front_ended given n words after (Ok None) one e = (sym (ok_parts 0 0 (so_far_of given) after e).1, refl)
front_ended given n words after (Ok (Some f)) one e =
    let none : f.taken ≡ 0 = (setting_taken given n f.taken words 0 after _ (sym (along given n f) ∙ e)).0 in
    absurd (omega (arith, one, none))
front_ended given n words after (Err why) one e = absurd (cc)

front_refused : (given : List Given) (n : ℕ) (words : List (List ℕ)) (why : Why) (read : Result (Option Front) Why) → with_front n (so_far_of given) read ≡ Err why → by_front given n words read ≡ Err (Usage n why)
front_refused given n words why (Ok None) e = absurd (cc)
front_refused given n words why (Ok (Some f)) e = setting_refused given n f.taken words why _ (sym (along given n f) ∙ e)
front_refused given n words why (Err other) e = cc

-- ---- where a reader is

-- what it keeps stands for some options, behind which the rest of the words is read as all words are
abbrev pub Reached : SoFar → ℕ → List (List ℕ) → Answer → Type 0
Reached s n rest answer = (given : List Given) × (s ≡ so_far_of given) × (accepted given (line_of n rest) ≡ answer)

pub reached_more : (s after : SoFar) (n taken : ℕ) (word : List ℕ) (words : List (List ℕ)) (answer : Answer) → Reached s n (word ∷ words) answer → step_of n word words s ≡ Ok (taken, after) → taken ≢ 0 → Reached after (n + taken) (drop taken (word ∷ words)) answer
reached_more s after n taken word words answer (given, kept, here) e some =
    let step = subst (λ t. step_of n word words t ≡ Ok (taken, after)) kept e in
    let on = front_taken given n (word ∷ words) taken after (front_of word words) step some in
    (on.0, on.1, sym on.2 ∙ sym (read_front given n word words) ∙ here)

pub reached_command : (s after : SoFar) (n : ℕ) (word : List ℕ) (words : List (List ℕ)) (answer : Answer) → Reached s n (word ∷ words) answer → step_of n word words s ≡ Ok (0, after) → finished after n (word ∷ words) ≡ answer
reached_command s after n word words answer (given, kept, here) e =
    let step = subst (λ t. step_of n word words t ≡ Ok (0, after)) kept e in
    let end = front_ended given n (word ∷ words) after (front_of word words) (front_takes (spelling_of word) word words) step in
    ap (λ t. finished t n (word ∷ words)) end.0 ∙ sym end.1 ∙ sym (read_front given n word words) ∙ here

pub reached_fault : (s : SoFar) (n : ℕ) (word : List ℕ) (words : List (List ℕ)) (why : Why) (answer : Answer) → Reached s n (word ∷ words) answer → step_of n word words s ≡ Err why → answer ≡ Err (Usage n why)
reached_fault s n word words why answer (given, kept, here) e =
    let step = subst (λ t. step_of n word words t ≡ Err why) kept e in
    sym here ∙ read_front given n word words ∙ front_refused given n (word ∷ words) why (front_of word words) step

pub reached_end : (s : SoFar) (n : ℕ) (answer : Answer) → Reached s n [] answer → finished s n [] ≡ answer
unfolding line_of with_next accepted
reached_end s n answer (given, kept, here) = ap (λ t. finished t n []) kept ∙ here

pub reached_first : (words : List (List ℕ)) → Reached (so_far_of []) 1 words (accepted [] (line_of 1 words))
reached_first words = ([], refl, refl)

-- what holds while words are read: n is the number of the next word, and each binding came from a word
pub record IsReading (s : SoFar) (n : ℕ) (rest words : List (List ℕ)) : Type 0 where
  pub reached : Reached s n rest (accepted [] (line_of 1 words))
  pub place : n + length rest ≡ length words + 1
  pub room : length s.binds < n
