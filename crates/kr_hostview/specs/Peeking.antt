-- What the code asks of a state on the way to a peek.
use Rattle.std.specs.Prelude.{◌≡◌, ℕ, List, Option, None, Result, Ok, Err}
use Rattle.std.specs.Option.{option_map}
use Rattle.kr_seen.specs.pr_base.declared.errno.Errno.{Errno}
use Rattle.kr_seen.specs.pr_base.declared.peeks.PeekFault.{PeekFault}
use Rattle.kr_seen.specs.pr_base.declared.peeks.PeekFault.TheVariants as fault
use Rattle.kr_seen.specs.pr_base.declared.peeks.PeekKind.{PeekKind}
use Rattle.kr_seen.specs.kr_tree.declared.place.Host.{Host}
use Rattle.kr_seen.specs.kr_view.declared.view.HostMount.{HostMount}
use Rattle.kr_seen.specs.kr_view.Component.{Namespace, seen_at}
use Rattle.kr_seen.specs.kr_view.HostReach.{host_place}
use Rattle.kr_seen.specs.kr_view.Leads.{numbered}
use Rattle.kr_seen.specs.kr_view.Walk.{PlaceTarget}
use Rattle.kr_seen.specs.kr_model.HostView.{host_around_of}
use Rattle.kr_seen.specs.kr_model.Peeks.{kind_seen}
use Rattle.kr_seen.specs.kr_model.ProcessDirectory.{name_text}
use Rattle.kr_seen.specs.kr_model.State.{Image, State}
use Rattle.kr_seen.specs.Shown.{Target, Nothing, Unplaced, At}
use Rattle.kr_hostview.specs.OnHost.{number}

-- the object that a walk found is this one, but for want of memory
abbrev pub IsFound : Result PlaceTarget Errno → Result (Option Host) PeekFault → Type 0
IsFound answer (Ok object) = (t : PlaceTarget) × (answer ≡ Ok t) × (t.found ≡ option_map host_place object)
IsFound answer (Err (fault.Err e)) = answer ≡ Err e
IsFound answer (Err fault.NoMemory) = Unit {0}

abbrev pub kind_at : {T : Type 0} → State T Image → ℕ → Host → Result PeekKind Errno
kind_at s caller x = kind_seen (seen_at (host_around_of s caller) (host_place x) x)

-- the host name of what a link leads to; what has no place has none
abbrev pub target_name : Namespace → Target HostMount → Option (List ℕ)
target_name space Nothing = None
target_name space (Unplaced what) = None
target_name space (At p dir name) = name_text space (numbered number p) dir name
