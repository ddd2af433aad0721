-- What the reader keeps of the options that it has read, and what the next option changes.
use Rattle.std.specs.Prelude.{◌≡◌, ℕ, ◌+◌, ◌≤◌, Bool, true, false, not, ◌||◌, List, [], ◌∷◌, codes, Option, Some, None, is_some, IfSome, unwrap_or, Result, Ok, Err, IfOk, if◌then◌else◌}
use Rattle.pr_words.specs.declared.fault.Why.{Why}
use Rattle.pr_words.specs.declared.fault.Why.TheVariants.{Unknown, NoValue, CalmAlone, CaseAlone, LooseAlone}
use Rattle.pr_words.specs.declared.fault.OptionFault.{OptionFault}
use Rattle.pr_words.specs.declared.fault.OptionFault.TheVariants.{Broken, NoMemory}
use Rattle.pr_words.specs.declared.fault.WordsFault.{WordsFault}
use Rattle.pr_words.specs.declared.fault.WordsFault.TheVariants.{Usage, NoMemory as NoMemoryForWords}
use Rattle.pr_words.specs.declared.kind.Kind.{Kind}
use Rattle.pr_words.specs.declared.kind.Kind.TheVariants.{Root, Bind, Directory, RootId, ChangeId, Variable, Turns, Schedule, Loose, Native, Calm, Case}
use Rattle.pr_words.specs.declared.spelling.Spelled.{Spelled}
use Rattle.pr_words.specs.declared.spelling.Spelled.TheVariants.{Command as CommandWord, Unknown as UnknownWord, Flag, Short, Lacking, Long}
use Rattle.pr_words.specs.declared.setting.Setting.{Setting}
use Rattle.pr_words.specs.declared.setting.Setting.TheVariants.{Root as RootSetting, Bind as BindSetting, Directory as DirectorySetting, RootId as RootIdSetting, ChangeId as ChangeIdSetting, Variable as VariableSetting, Turns as TurnsSetting, Schedule as ScheduleSetting, Loose as LooseSetting, Native as NativeSetting, Calm as CalmSetting, Case as CaseSetting}
use Rattle.pr_words.specs.declared.options.Options.{Options}
use Rattle.pr_words.specs.declared.so_far.SoFar.{SoFar}
use Rattle.pr_words.specs.Bindings.{with_bind}
use Rattle.pr_words.specs.Variables.{with_variable}
use Rattle.pr_words.specs.Spelling.{spelling_of, own_value}
use Rattle.pr_words.specs.Meaning.{latest, root_in, directory_in, change_in, ids_in, turns_in, schedule_in, loose_in, case_in, native_in, calm_in, binds_of, variables_of}
use Rattle.pr_words.specs.Reading.{Given, settings_of, first_place, is_beside_case, is_calm, is_loose, or_else, place_if, first_word, broken_at, setting_of, or_twice}

-- what is kept of the options so far
abbrev pub so_far_of : List Given → SoFar
so_far_of given = record {
  root = latest root_in (settings_of given);
  binds = binds_of (settings_of given);
  directory = latest directory_in (settings_of given);
  ids = latest ids_in (settings_of given);
  is_changed = is_some (latest change_in (settings_of given));
  variables = variables_of (settings_of given);
  turns = latest turns_in (settings_of given);
  schedule = latest schedule_in (settings_of given);
  loose = latest loose_in (settings_of given);
  native = is_some (latest native_in (settings_of given));
  calm = is_some (latest calm_in (settings_of given));
  case = latest case_in (settings_of given);
  first_calm = first_place is_calm given;
  first_loose = first_place is_loose given;
  first_other = first_place (λ s. not (is_beside_case s)) given;
}

-- ---- one more setting

-- its place counts where it is the first of those that may not stand alone, or beside some, or not beside `--case`
abbrev pub noted : ℕ → Setting → SoFar → SoFar
noted place setting s = record s {
  first_calm = or_else s.first_calm (place_if (is_calm setting) place);
  first_loose = or_else s.first_loose (place_if (is_loose setting) place);
  first_other = or_else s.first_other (place_if (not (is_beside_case setting)) place);
}

abbrev pub applied : Setting → SoFar → SoFar
applied (RootSetting path) s = record s { root = Some path }
applied (BindSetting host guest keep) s = record s { binds = with_bind host guest keep s.binds }
applied (DirectorySetting path) s = record s { directory = Some path }
applied RootIdSetting s = record s { ids = Some (0, 0) }
applied (ChangeIdSetting uid gid) s = record s { ids = Some (uid, gid); is_changed = true }
applied (VariableSetting text) s = record s { variables = with_variable text s.variables }
applied (TurnsSetting n) s = record s { turns = Some n }
applied (ScheduleSetting slots) s = record s { schedule = Some slots }
applied (LooseSetting slots) s = record s { loose = Some slots }
applied NativeSetting s = record s { native = true }
applied CalmSetting s = record s { calm = true }
applied (CaseSetting n) s = record s { case = Some n }

abbrev pub added : ℕ → Setting → SoFar → SoFar
added place setting s = applied setting (noted place setting s)

-- whether an option of this kind may not be given any more
abbrev pub is_again_in : Kind → SoFar → Bool
is_again_in Root s = is_some s.root
is_again_in Directory s = is_some s.directory
is_again_in RootId s = s.is_changed
is_again_in ChangeId s = is_some s.ids
is_again_in Turns s = is_some s.turns
is_again_in Schedule s = is_some s.schedule
is_again_in Loose s = is_some s.loose
is_again_in Case s = is_some s.case
is_again_in Bind s = false
is_again_in Variable s = false
is_again_in Native s = false
is_again_in Calm s = false

-- ---- one more option

-- the option at the front of some words, and how many words it takes
pub record Front : Type 0 where
  pub kind : Kind
  pub value : List ℕ
  pub taken : ℕ

abbrev pub front : Kind → List ℕ → ℕ → Result (Option Front) Why
front what value taken = Ok (Some (record { kind = what; value = value; taken = taken }))

abbrev pub next_value : Kind → List (List ℕ) → Result (Option Front) Why
next_value what [] = Err NoValue
next_value what (value ∷ words) = front what value 2

abbrev pub front_by : Spelled → List ℕ → List (List ℕ) → Result (Option Front) Why
front_by CommandWord word words = Ok None
front_by UnknownWord word words = Err Unknown
front_by (Lacking what) word words = Err NoValue
front_by (Flag what) word words = front what [] 1
front_by (Long what) word words = front what (own_value word) 1
front_by (Short what) word words = next_value what words

-- none where the command begins
abbrev pub front_of : List ℕ → List (List ℕ) → Result (Option Front) Why
front_of word words = front_by (spelling_of word) word words

-- it takes its word, and not more than there are behind it
abbrev pub IsWithin : ℕ → Result (Option Front) Why → Type 0
IsWithin behind read = IfOk read (λ o. IfSome o (λ f. (1 ≤ f.taken) × (f.taken ≤ behind + 1)))

-- how many words were taken, and what is kept then
abbrev pub Step : Type 0
Step = Result (ℕ × SoFar) Why

abbrev pub with_setting : ℕ → ℕ → SoFar → Result Setting Why → Step
with_setting place taken s (Ok setting) = Ok (taken, added place setting s)
with_setting place taken s (Err why) = Err why

abbrev pub with_front : ℕ → SoFar → Result (Option Front) Why → Step
with_front place s (Ok None) = Ok (0, s)
with_front place s (Ok (Some f)) = with_setting place f.taken s (or_twice (is_again_in f.kind s) (setting_of f.kind f.value))
with_front place s (Err why) = Err why

abbrev pub step_of : ℕ → List ℕ → List (List ℕ) → SoFar → Step
step_of place word words s = with_front place s (front_of word words)

-- what a step answers and leaves is the expected one, or memory ran out
abbrev pub IsStep : Step → Result ℕ OptionFault → SoFar → Type 0
IsStep expected (Ok taken) after = expected ≡ Ok (taken, after)
IsStep expected (Err (Broken why)) after = expected ≡ Err why
IsStep expected (Err NoMemory) after = Unit {0}

-- the same of the option at a place
abbrev pub StepsTo : ℕ → Step → Result ℕ WordsFault → SoFar → Type 0
StepsTo place expected (Ok taken) after = expected ≡ Ok (taken, after)
StepsTo place expected (Err (Usage word why)) after = (word ≡ place) × (expected ≡ Err why)
StepsTo place expected (Err NoMemoryForWords) after = Unit {0}

-- ---- the end of the options

abbrev pub options_in : SoFar → List (List ℕ) → Options
options_in s command = record {
  root = unwrap_or s.root (codes "/");
  binds = s.binds;
  cwd = unwrap_or s.directory (codes "/");
  ids = s.ids;
  env = s.variables;
  turns = unwrap_or s.turns 1000000;
  schedule = unwrap_or s.schedule [];
  loose = unwrap_or s.loose [];
  native = s.native;
  calm = s.calm;
  case = s.case;
  command = command;
}

abbrev pub case_alone_in : SoFar → ℕ → List (List ℕ) → Option ℕ
case_alone_in s n command = if is_some s.case then or_else s.first_other (first_word n command) else None

abbrev pub calm_alone_in : SoFar → Option ℕ
calm_alone_in s = if s.native then None else s.first_calm

abbrev pub loose_alone_in : SoFar → Option ℕ
loose_alone_in s = if (s.native || is_some s.schedule) || is_some s.ids then s.first_loose else None

abbrev pub finished : SoFar → ℕ → List (List ℕ) → Result Options WordsFault
finished s n command =
    broken_at (case_alone_in s n command) CaseAlone (broken_at (calm_alone_in s) CalmAlone (broken_at (loose_alone_in s) LooseAlone (Ok (options_in s command))))
