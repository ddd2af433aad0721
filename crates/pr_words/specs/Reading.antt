-- The words of a command line: the options and the command in them, and the first word that breaks a rule.
use Rattle.std.specs.Prelude.{ℕ, ◌+◌, nat_eq, Bool, true, false, not, ◌||◌, List, [], ◌∷◌, map, Option, Some, None, is_some, Result, Ok, Err, ok_or, if◌then◌else◌}
use Rattle.std.specs.List.{list_any, position}
use Rattle.std.specs.Option.{option_map}
use Rattle.pr_words.specs.declared.fault.Why.{Why}
use Rattle.pr_words.specs.declared.fault.Why.TheVariants.{Unknown, NoValue, BadNumber, BadSchedule, BadBind, BadEnv, Twice, CalmAlone, CaseAlone, ZeroByte, BadId, LooseAlone}
use Rattle.pr_words.specs.declared.fault.WordsFault.{WordsFault}
use Rattle.pr_words.specs.declared.fault.WordsFault.TheVariants.{Usage}
use Rattle.pr_words.specs.declared.kind.Kind.{Kind}
use Rattle.pr_words.specs.declared.kind.Kind.TheVariants.{Root, Bind, Directory, RootId, ChangeId, Variable, Turns, Schedule, Loose, Native, Calm, Case}
use Rattle.pr_words.specs.declared.spelling.Spelled.TheVariants.{Command as CommandWord, Unknown as UnknownWord, Flag, Short, Lacking, Long}
use Rattle.pr_words.specs.declared.setting.Setting.{Setting}
use Rattle.pr_words.specs.declared.setting.Setting.TheVariants.{Root as RootSetting, Bind as BindSetting, Directory as DirectorySetting, RootId as RootIdSetting, ChangeId as ChangeIdSetting, Variable as VariableSetting, Turns as TurnsSetting, Schedule as ScheduleSetting, Loose as LooseSetting, Native as NativeSetting, Calm as CalmSetting, Case as CaseSetting}
use Rattle.pr_words.specs.declared.options.Options.{Options}
use Rattle.pr_words.specs.Spelling.{spelling_of, own_value}
use Rattle.pr_words.specs.Rules.{smaller}
use Rattle.pr_words.specs.Values.{turns_of, case_of, ids_of, schedule_of, binding_of, Binding, is_variable}
use Rattle.pr_words.specs.Meaning.{latest, root_in, directory_in, change_in, ids_in, turns_in, schedule_in, loose_in, case_in, native_in, calm_in, options_of}

-- ---- the options and the command

-- an option as it is given
pub data Asked : Type 0 where
  NoSuch : Asked
  WithoutValue : Asked
  WithValue : Kind → List ℕ → Asked

-- options, each with the number of its word, and then the command with that of its first word
pub data Line : Type 0 where
  Then : ℕ → Asked → Line → Line
  Command : ℕ → List (List ℕ) → Line

-- words, the first of which has the number n. A short option's value is the next word, whatever it is
unfoldable mutual
  pub line_of : ℕ → List (List ℕ) → Line
  line_of n [] = Command n []
  line_of n (word ∷ words) = elim (spelling_of word) as (λ _. Line) [
    | CommandWord ↦ Command n (word ∷ words)
    | UnknownWord ↦ Then n NoSuch (line_of (n + 1) words)
    | Lacking what ↦ Then n WithoutValue (line_of (n + 1) words)
    | Flag what ↦ Then n (WithValue what []) (line_of (n + 1) words)
    | Long what ↦ Then n (WithValue what (own_value word)) (line_of (n + 1) words)
    | Short what ↦ with_next n what words
  ]

  pub with_next : ℕ → Kind → List (List ℕ) → Line
  with_next n what [] = Then n WithoutValue (Command (n + 1) [])
  with_next n what (value ∷ words) = Then n (WithValue what value) (line_of (n + 2) words)

-- ---- what an option asks for

abbrev pub bind_setting : Binding → Setting
bind_setting b = BindSetting b.host b.guest b.keep

-- what an option of a kind asks for by its value
abbrev pub setting_of : Kind → List ℕ → Result Setting Why
setting_of Root value = Ok (RootSetting value)
setting_of Bind value = ok_or (option_map bind_setting (binding_of value)) BadBind
setting_of Directory value = Ok (DirectorySetting value)
setting_of RootId value = Ok RootIdSetting
setting_of ChangeId value = ok_or (option_map (λ ids. ChangeIdSetting ids.0 ids.1) (ids_of value)) BadId
setting_of Variable value = if is_variable value then Ok (VariableSetting value) else Err BadEnv
setting_of Turns value = ok_or (option_map TurnsSetting (turns_of value)) BadNumber
setting_of Schedule value = ok_or (option_map ScheduleSetting (schedule_of value)) BadSchedule
setting_of Loose value = ok_or (option_map LooseSetting (schedule_of value)) BadSchedule
setting_of Native value = Ok NativeSetting
setting_of Calm value = Ok CalmSetting
setting_of Case value = ok_or (option_map CaseSetting (case_of value)) BadNumber

-- whether an option of this kind may not stand behind the earlier ones, the last of which stands first:
-- these may be given once, and one of `-0` and `-i`, of which `-0` may be repeated
abbrev pub is_again : Kind → List Setting → Bool
is_again Root earlier = is_some (latest root_in earlier)
is_again Directory earlier = is_some (latest directory_in earlier)
is_again RootId earlier = is_some (latest change_in earlier)
is_again ChangeId earlier = is_some (latest ids_in earlier)
is_again Turns earlier = is_some (latest turns_in earlier)
is_again Schedule earlier = is_some (latest schedule_in earlier)
is_again Loose earlier = is_some (latest loose_in earlier)
is_again Case earlier = is_some (latest case_in earlier)
is_again Bind earlier = false
is_again Variable earlier = false
is_again Native earlier = false
is_again Calm earlier = false

-- of the rules that one word breaks the smallest number counts
abbrev pub or_twice : Bool → Result Setting Why → Result Setting Why
or_twice false read = read
or_twice true (Ok setting) = Err Twice
or_twice true (Err why) = Err (smaller why Twice)

-- what an option asks for behind the earlier ones, or the rule that it breaks
abbrev pub told : List Setting → Asked → Result Setting Why
told earlier NoSuch = Err Unknown
told earlier WithoutValue = Err NoValue
told earlier (WithValue what value) = or_twice (is_again what earlier) (setting_of what value)

-- ---- options that don't stand together

-- a setting with the number of its option's word
pub record Given : Type 0 where
  pub place : ℕ
  pub setting : Setting

abbrev pub settings_of : List Given → List Setting
settings_of given = map (λ g. g.setting) given

abbrev pub or_else : Option ℕ → Option ℕ → Option ℕ
or_else None other = other
or_else (Some place) other = Some place

abbrev pub place_if : Bool → ℕ → Option ℕ
place_if true place = Some place
place_if false place = None

-- the first word of such an option
abbrev pub first_place : (Setting → Bool) → List Given → Option ℕ
first_place picks [] = None
first_place picks (g ∷ earlier) = or_else (first_place picks earlier) (place_if (picks g.setting) g.place)

-- what may stand beside `--case`
abbrev pub is_beside_case : Setting → Bool
is_beside_case (TurnsSetting n) = true
is_beside_case (ScheduleSetting slots) = true
is_beside_case (CaseSetting n) = true
is_beside_case s = false

abbrev pub is_calm : Setting → Bool
is_calm s = is_some (calm_in s)

abbrev pub is_loose : Setting → Bool
is_loose s = is_some (loose_in s)

abbrev pub first_word : ℕ → List (List ℕ) → Option ℕ
first_word n [] = None
first_word n (word ∷ words) = Some n

-- with `--case` there is no other option, and no command
abbrev pub case_alone : List Given → ℕ → List (List ℕ) → Option ℕ
case_alone given n command =
    if is_some (latest case_in (settings_of given)) then or_else (first_place (λ s. not (is_beside_case s)) given) (first_word n command) else None

-- `--calm` stands with `--native`
abbrev pub calm_alone : List Given → Option ℕ
calm_alone given = if is_some (latest native_in (settings_of given)) then None else first_place is_calm given

-- whether there is an option beside which `--loose` may not stand
abbrev pub excludes_loose : List Setting → Bool
excludes_loose settings = (is_some (latest native_in settings) || is_some (latest schedule_in settings)) || is_some (latest ids_in settings)

-- `--loose` stands without `--native`, without `--schedule` and without an identity
abbrev pub loose_alone : List Given → Option ℕ
loose_alone given = if excludes_loose (settings_of given) then first_place is_loose given else None

abbrev pub broken_at : Option ℕ → Why → Result Options WordsFault → Result Options WordsFault
broken_at None why other = other
broken_at (Some place) why other = Err (Usage place why)

-- all options are given, and the command begins at word n
abbrev pub ended : List Given → ℕ → List (List ℕ) → Result Options WordsFault
ended given n command =
    broken_at (case_alone given n command) CaseAlone
    (broken_at (calm_alone given) CalmAlone (broken_at (loose_alone given) LooseAlone (Ok (options_of (settings_of given) command))))

-- ---- the words

-- a line, read from left to right behind the earlier options
unfoldable pub accepted : List Given → Line → Result Options WordsFault
accepted given (Command n command) = ended given n command
accepted given (Then n asked line) = elim (told (settings_of given) asked) as (λ _. Result Options WordsFault) [
  | Ok setting ↦ accepted (record { place = n; setting = setting } ∷ given) line
  | Err why ↦ Err (Usage n why)
]

abbrev pub has_zero : List ℕ → Bool
has_zero word = list_any (λ b. nat_eq b 0) word

-- what the words ask for, or the first word that breaks a rule. No word may have a zero byte
abbrev pub reading_of : List (List ℕ) → Result Options WordsFault
reading_of words = broken_at (option_map (λ at. at + 1) (position has_zero words)) ZeroByte (accepted [] (line_of 1 words))
