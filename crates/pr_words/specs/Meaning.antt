-- What options that were accepted ask for. The last one given stands first in these lists.
use Rattle.std.specs.Prelude.{ℕ, List, [], ◌∷◌, codes, Option, Some, None, is_some, unwrap_or}
use Rattle.pr_base.specs.declared.bind.Bind.{Bind}
use Rattle.pr_words.specs.declared.options.Slot.{Slot}
use Rattle.pr_words.specs.declared.options.Options.{Options}
use Rattle.pr_words.specs.declared.setting.Setting.{Setting}
use Rattle.pr_words.specs.declared.setting.Setting.TheVariants.{Root, Bind as BindSetting, Directory, RootId, ChangeId, Variable, Turns, Schedule, Loose, Native, Calm, Case}
use Rattle.pr_words.specs.Bindings.{with_bind}
use Rattle.pr_words.specs.Variables.{with_variable}

-- ---- the latest of a kind

abbrev pub or_earlier : {A : Type 0} → Option A → Option A → Option A
or_earlier None earlier = earlier
or_earlier (Some x) earlier = Some x

abbrev pub latest : {A : Type 0} → (Setting → Option A) → List Setting → Option A
latest picks [] = None
latest picks (s ∷ earlier) = or_earlier (picks s) (latest picks earlier)

abbrev pub root_in : Setting → Option (List ℕ)
root_in (Root path) = Some path
root_in s = None

abbrev pub directory_in : Setting → Option (List ℕ)
directory_in (Directory path) = Some path
directory_in s = None

-- `-i` alone
abbrev pub change_in : Setting → Option (ℕ × ℕ)
change_in (ChangeId uid gid) = Some (uid, gid)
change_in s = None

-- `-0` is `-i 0:0`
abbrev pub ids_in : Setting → Option (ℕ × ℕ)
ids_in (ChangeId uid gid) = Some (uid, gid)
ids_in RootId = Some (0, 0)
ids_in s = None

abbrev pub turns_in : Setting → Option ℕ
turns_in (Turns n) = Some n
turns_in s = None

abbrev pub schedule_in : Setting → Option (List Slot)
schedule_in (Schedule slots) = Some slots
schedule_in s = None

abbrev pub loose_in : Setting → Option (List Slot)
loose_in (Loose slots) = Some slots
loose_in s = None

abbrev pub case_in : Setting → Option ℕ
case_in (Case n) = Some n
case_in s = None

abbrev pub native_in : Setting → Option (Unit {0})
native_in Native = Some tt
native_in s = None

abbrev pub calm_in : Setting → Option (Unit {0})
calm_in Calm = Some tt
calm_in s = None

-- ---- all of a kind

-- all bindings in the order in which they are given
abbrev pub binds_of : List Setting → List Bind
binds_of [] = []
binds_of (BindSetting host guest keep ∷ earlier) = with_bind host guest keep (binds_of earlier)
binds_of (s ∷ earlier) = binds_of earlier

-- the environment
abbrev pub variables_of : List Setting → List (List ℕ)
variables_of [] = []
variables_of (Variable text ∷ earlier) = with_variable text (variables_of earlier)
variables_of (s ∷ earlier) = variables_of earlier

-- ---- the options

abbrev pub options_of : List Setting → List (List ℕ) → Options
options_of given command = record {
  root = unwrap_or (latest root_in given) (codes "/");
  binds = binds_of given;
  cwd = unwrap_or (latest directory_in given) (codes "/");
  ids = latest ids_in given;
  env = variables_of given;
  turns = unwrap_or (latest turns_in given) 1000000;
  schedule = unwrap_or (latest schedule_in given) [];
  loose = unwrap_or (latest loose_in given) [];
  native = is_some (latest native_in given);
  calm = is_some (latest calm_in given);
  case = latest case_in given;
  command = command;
}
