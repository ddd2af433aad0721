-- Objects in the one mount of the host's own view, whatever the mounts of a state are.
use Rattle.std.specs.Prelude.{ℕ, []}
use Rattle.kr_seen.specs.kr_tree.declared.place.Place.{Place}
use Rattle.kr_seen.specs.kr_tree.declared.place.ProcAt.{ProcAt}
use Rattle.kr_seen.specs.kr_tree.declared.place.ProcAt.TheVariants.{SelfLink, Dir, Cwd, Root, Exe, FdDir, Fd}
use Rattle.kr_seen.specs.kr_view.declared.procs.Lead.{Lead}
use Rattle.kr_seen.specs.kr_view.declared.procs.Lead.TheVariants.{Text, Jump, Nameless, NoLink}
use Rattle.kr_seen.specs.kr_view.declared.view.HostMount.{HostMount}
use Rattle.kr_seen.specs.kr_view.View.{plain, root_place}
use Rattle.kr_seen.specs.kr_model.State.{Image, State}
use Rattle.kr_seen.specs.Shown.{Target, Nothing, Unplaced, At, cwd_target, exe_target}
use Rattle.kr_seen.specs.Targets.{opened_target_of, process_target}

-- the one mount's number
abbrev pub number : HostMount → ℕ
number mount = 0

module _ {T : Type 0} where
  abbrev pub place_on_host : Place T → Place HostMount
  place_on_host p = record { mount = record {}; host = p.host }

  abbrev pub lead_on_host : Lead T → Lead HostMount
  lead_on_host (Text text) = Text text
  lead_on_host (Jump p dir name) = Jump (place_on_host p) dir name
  lead_on_host Nameless = Nameless
  lead_on_host NoLink = NoLink

  abbrev pub target_on_host : Target T → Target HostMount
  target_on_host Nothing = Nothing
  target_on_host (Unplaced what) = Unplaced what
  target_on_host (At p dir name) = At (place_on_host p) dir name

  -- what a link leads to, `self` apart
  abbrev pub host_target : State T Image → ProcAt → Target HostMount
  host_target s SelfLink = Nothing
  host_target s (Dir pid) = Nothing
  host_target s (Cwd pid) = target_on_host (process_target cwd_target pid s)
  host_target s (Root pid) = process_target (λ p. At (record { mount = record {}; host = (root_place plain).host }) 0 []) pid s
  host_target s (Exe pid) = target_on_host (process_target exe_target pid s)
  host_target s (FdDir pid) = Nothing
  host_target s (Fd pid fd) = target_on_host (opened_target_of pid fd s)
