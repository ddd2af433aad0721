-- What a turn did, as far as calm asks, and the rule that it broke.
use Rattle.std.specs.Prelude.{ℕ, Bool, false, List, Option, Some, None, nat_eq, Result, if◌then◌else◌}
use Rattle.std.specs.Option.{option_map_or}
use Rattle.kr_seen.specs.pr_base.declared.errno.Errno.{Errno}
use Rattle.kr_seen.specs.rv_mem.Memory.{Memory}
use Rattle.kr_seen.specs.kr_calls.declared.request.Request.{Request}
use Rattle.kr_seen.specs.kr_view.declared.target.Reach.{Reach}
use Rattle.kr_seen.specs.kr_view.View.{Row}
use Rattle.kr_seen.specs.kr_model.Applied.{Mounts, images}
use Rattle.kr_seen.specs.kr_model.Change.{Change}
use Rattle.kr_seen.specs.kr_model.State.{Image, State}
use Rattle.kr_seen.specs.kr_model.Walks.{Targets}
use Rattle.kr_calm.specs.Rules.{breaks_1, breaks_2, breaks_6, changes_break_3, changes_break_4, changes_break_5}
use Rattle.kr_calm.specs.declared.rule.Rule.{Rule}
use Rattle.kr_calm.specs.declared.rule.Rule.TheVariants.{SearchStays, ShortNames, SourcesStay, Unread, UsedStay, WithinMounts}

-- a call that was decoded, and where its paths lead
pub record Asked : Type 0 where
  pub request : Request
  pub targets : Result Targets Errno

-- a turn of a process: the state before the changes that it made, and the caller's memory then; whether it made a call with a path
-- for which it had no shelf; its call, if one was decoded; its changes, and the mounts that they name; and what its walks reached
pub record Course : Type 0 where
  pub pid : ℕ
  pub state : State ℕ Image
  pub memory : Memory
  pub no_shelf : Bool
  pub asked : Option Asked
  pub mounts : Mounts ℕ
  pub changes : List Change
  pub reach : Reach

abbrev pub asked_breaks_2 : List Row → Course → Asked → Bool
asked_breaks_2 table c a = breaks_2 table c.state.tree a.request a.targets

-- the number by which a rule is told
abbrev pub rule_number : Rule → ℕ
rule_number Unread = 1
rule_number WithinMounts = 2
rule_number SourcesStay = 3
rule_number UsedStay = 4
rule_number SearchStays = 5
rule_number ShortNames = 6

-- the smallest of the rules on changes that is broken
abbrev pub smallest : (third fourth fifth : Bool) → Option Rule
smallest third fourth fifth = if third then Some SourcesStay else if fourth then Some UsedStay else if fifth then Some SearchStays else None

abbrev pub broken_by_changes : {M : Type 0} → List Row → Mounts M → ℕ → List Change → State M Image → Option Rule
broken_by_changes table mounts pid cs s =
    smallest (changes_break_3 images mounts pid table cs s) (changes_break_4 images mounts pid cs s) (changes_break_5 images mounts pid table cs s)

-- the smallest rule that a turn broke
abbrev pub broken_in : List Row → Course → Option Rule
broken_in table c =
    if breaks_1 c.memory c.no_shelf then Some Unread
    else if option_map_or (asked_breaks_2 table c) c.asked false then Some WithinMounts
    else if changes_break_3 images c.mounts c.pid table c.changes c.state then Some SourcesStay
    else if changes_break_4 images c.mounts c.pid c.changes c.state then Some UsedStay
    else if changes_break_5 images c.mounts c.pid table c.changes c.state then Some SearchStays
    else if breaks_6 c.reach then Some ShortNames
    else None

-- a kernel that keeps no marks judges nothing
abbrev pub broken_by : ℕ → List Row → Course → Option Rule
broken_by marks table c = if nat_eq marks 0 then None else broken_in table c

-- the walks of the start of a run are judged by the last rule alone, since no process makes a call yet
abbrev pub broken_at_start : Reach → Option Rule
broken_at_start reach = if breaks_6 reach then Some ShortNames else None

-- the rule that was broken first is kept
abbrev pub kept : Option Rule → Option Rule → Option Rule
kept (Some rule) new = Some rule
kept None new = new
