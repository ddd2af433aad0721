-- The law of the option words: settings that are spelled in words are read from them.
use Rattle.std.specs.Prelude.{◌≡◌, ◌≢◌, ℕ, ◌≤◌, ◌<◌, nat_eq, Bool, true, false, List, [], ◌∷◌, ◌++◌, length, map, reverse, codes, is_some, Ok}
use Rattle.std.specs.List.{All, list_all, starts_with, ends_with, join_with_byte}
use Rattle.std.specs.Fmt.{decimal}
use Rattle.pr_words.specs.declared.kind.Kind.{Kind}
use Rattle.pr_words.specs.declared.kind.Kind.TheVariants.{Root as RootKind, Bind as BindKind, Directory as DirectoryKind, RootId as RootIdKind, ChangeId as ChangeIdKind, Variable as VariableKind, Turns as TurnsKind, Schedule as ScheduleKind, Loose as LooseKind, Native as NativeKind, Calm as CalmKind, Case as CaseKind}
use Rattle.pr_words.specs.declared.options.Slot.{Slot}
use Rattle.pr_words.specs.declared.setting.Setting.{Setting}
use Rattle.pr_words.specs.declared.setting.Setting.TheVariants.{Root, Bind, Directory, RootId, ChangeId, Variable, Turns, Schedule, Loose, Native, Calm, Case}
use Rattle.pr_words.specs.Values.{largest_id}
use Rattle.pr_words.specs.Meaning.{latest, case_in, calm_in, loose_in, native_in, options_of}
use Rattle.pr_words.specs.Reading.{excludes_loose, is_again, is_beside_case, reading_of}
use Rattle.pr_words.specs.Sound.{IsText, IsSlot, IsVariable}

-- ---- the words of a setting, in its option's long form

abbrev pub slot_text : Slot → List ℕ
slot_text slot = decimal slot.pick ++ (42 ∷ decimal slot.fuel)

abbrev pub with_mark : Bool → List ℕ → List ℕ
with_mark true path = path ++ codes "!"
with_mark false path = path

abbrev pub word_of : Setting → List ℕ
word_of (Root path) = codes "--rootfs" ++ (61 ∷ path)
word_of (Bind host guest keep) = codes "--bind" ++ (61 ∷ (host ++ (58 ∷ with_mark keep guest)))
word_of (Directory path) = codes "--pwd" ++ (61 ∷ path)
word_of RootId = codes "--root-id"
word_of (ChangeId uid gid) = codes "--change-id" ++ (61 ∷ (decimal uid ++ (58 ∷ decimal gid)))
word_of (Variable text) = codes "--env" ++ (61 ∷ text)
word_of (Turns n) = codes "--turns" ++ (61 ∷ decimal n)
word_of (Schedule slots) = codes "--schedule" ++ (61 ∷ join_with_byte 44 (map slot_text slots))
word_of (Loose slots) = codes "--loose" ++ (61 ∷ join_with_byte 44 (map slot_text slots))
word_of Native = codes "--native"
word_of Calm = codes "--calm"
word_of (Case n) = codes "--case" ++ (61 ∷ decimal n)

abbrev pub kind_of : Setting → Kind
kind_of (Root path) = RootKind
kind_of (Bind host guest keep) = BindKind
kind_of (Directory path) = DirectoryKind
kind_of RootId = RootIdKind
kind_of (ChangeId uid gid) = ChangeIdKind
kind_of (Variable text) = VariableKind
kind_of (Turns n) = TurnsKind
kind_of (Schedule slots) = ScheduleKind
kind_of (Loose slots) = LooseKind
kind_of Native = NativeKind
kind_of Calm = CalmKind
kind_of (Case n) = CaseKind

-- ---- plain settings

-- a host part has no `:`, and a location that is followed doesn't end with `!`
pub record IsPlainBind (host guest : List ℕ) (keep : Bool) : Type 0 where
  pub host_text : IsText host
  pub guest_text : IsText guest
  pub host_some : 0 < length host
  pub guest_some : 0 < length guest
  pub no_colon : All (λ b. b ≢ 58) host
  pub no_mark : keep ≡ false → ends_with nat_eq guest (codes "!") ≡ false

-- its parts are texts and within their ranges
abbrev pub IsPlain : Setting → Type 0
IsPlain (Root path) = IsText path
IsPlain (Bind host guest keep) = IsPlainBind host guest keep
IsPlain (Directory path) = IsText path
IsPlain RootId = Unit {0}
IsPlain (ChangeId uid gid) = (uid ≤ largest_id) × (gid ≤ largest_id)
IsPlain (Variable text) = IsVariable text
IsPlain (Turns n) = (1 ≤ n) × (n ≤ 10000000)
IsPlain (Schedule slots) = (1 ≤ length slots) × (length slots ≤ 1024) × All IsSlot slots
IsPlain (Loose slots) = (1 ≤ length slots) × (length slots ≤ 1024) × All IsSlot slots
IsPlain Native = Unit {0}
IsPlain Calm = Unit {0}
IsPlain (Case n) = n ≤ 65535

-- each is plain, and none stands again where it may not. The earlier ones are given last first
abbrev pub ArePlain : List Setting → List Setting → Type 0
ArePlain earlier [] = Unit {0}
ArePlain earlier (s ∷ more) = IsPlain s × (is_again (kind_of s) earlier ≡ false) × ArePlain (s ∷ earlier) more

-- `--case` stands with `--turns` and `--schedule` alone, `--calm` with `--native`, and `--loose` with no option that excludes it
pub record StandTogether (settings : List Setting) (command : List (List ℕ)) : Type 0 where
  pub case_alone : is_some (latest case_in settings) ≡ true → (list_all is_beside_case settings ≡ true) × (command ≡ [])
  pub calm_native : is_some (latest calm_in settings) ≡ true → is_some (latest native_in settings) ≡ true
  pub loose_alone : is_some (latest loose_in settings) ≡ true → excludes_loose settings ≡ false

-- its first word doesn't begin with `-`
abbrev pub BeginsPlainly : List (List ℕ) → Type 0
BeginsPlainly [] = Unit {0}
BeginsPlainly (word ∷ words) = starts_with nat_eq word (codes "-") ≡ false

-- the words of plain settings that may stand together, and a command behind them, are read as what these
-- settings ask for
abbrev pub OptionsAreReadBack : Type 0
OptionsAreReadBack =
    (settings : List Setting) (command : List (List ℕ)) → ArePlain [] settings → StandTogether (reverse settings) command → All IsText command → BeginsPlainly command
    → reading_of (map word_of settings ++ command) ≡ Ok (options_of (reverse settings) command)
