-- What the process directory of the host's own view is: that of a kernel with one mount over the same state, whatever its mounts
-- are.
use Rattle.std.specs.Prelude.{◌≡◌, ℕ, ◌≤◌, ◌^◌, List}
use Rattle.kr_seen.specs.pr_base.Peeks.{NamesAreTexts}
use Rattle.kr_seen.specs.kr_tree.declared.place.Place.{Place}
use Rattle.kr_seen.specs.kr_tree.declared.place.ProcAt.{ProcAt}
use Rattle.kr_seen.specs.kr_view.HostReach.{host_place}
use Rattle.kr_seen.specs.kr_view.InTree.{IsPlaceOf, LeadToPlaces, StandsAround}
use Rattle.kr_seen.specs.kr_view.Leads.{lead_numbered, numbered}
use Rattle.kr_seen.specs.kr_view.Processes.{LawsOfProcesses}
use Rattle.kr_seen.specs.kr_view.View.{Row, StandsIn, plain}
use Rattle.kr_seen.specs.kr_model.HostView.{host_around_of, host_leads, host_space}
use Rattle.kr_seen.specs.kr_model.Lawful.{IsLawful}
use Rattle.kr_seen.specs.kr_model.Peeks.{peeked_of}
use Rattle.kr_seen.specs.kr_model.ProcessDirectory.{leads_of, space_of}
use Rattle.kr_seen.specs.kr_model.State.{Image, State}
use Rattle.kr_seen.specs.Numbered.{state_numbered}
use Rattle.kr_hostview.specs.OnHost.{lead_on_host, number}

-- links lead where those of the kernel's own view do over the state with every mount 0; and in code the one mount is told by
-- its number
pub record IsHostView (T : Type 0) : Type 0 where
  pub space : (s : State T Image) → host_space s ≡ space_of plain (state_numbered (λ mount. 0) s)
  pub leads : (s : State T Image) (caller : ℕ) (at : ProcAt) → host_leads s caller at ≡ leads_of plain (state_numbered (λ mount. 0) s) caller at
  pub told : (s : State T Image) (caller : ℕ) (at : ProcAt) → lead_numbered number (lead_on_host (host_leads s caller at)) ≡ host_leads s caller at
  -- what it shows, and what a tracer is told, is the same of the state with its mounts told by numbers
  pub around : (by : T → ℕ) (s : State T Image) (caller : ℕ) → host_around_of (state_numbered by s) caller ≡ host_around_of s caller
  pub peeked : (by : T → ℕ) (s : State T Image) (caller : ℕ) → peeked_of (state_numbered by s) caller ≡ peeked_of s caller

-- over a lawful state of some view it keeps what every process directory keeps, and its links lead to places of the host's own view
-- in the tree; a place of the view is one of the host's own view; and a tracer is told texts
pub record LawfulOnHost (T : Type 0) : Type 0 where
  pub processes : (by : T → ℕ) (table : List Row) (s : State T Image) (caller : ℕ) → IsLawful by table s → s.next_pid ≤ 2 ^ 32 → LawsOfProcesses (host_space s).finds (host_leads s caller)
  pub mounts : (by : T → ℕ) (table : List Row) (s : State T Image) → IsLawful by table s → StandsIn s.tree plain
  pub places : (by : T → ℕ) (table : List Row) (s : State T Image) (caller : ℕ) → IsLawful by table s → LeadToPlaces s.tree plain (host_leads s caller)
  pub hosts : (by : T → ℕ) (table : List Row) (s : State T Image) (p : Place T) → IsPlaceOf s.tree table (numbered by p) → IsPlaceOf s.tree plain (host_place p.host)
  pub around : (by : T → ℕ) (table : List Row) (s : State T Image) (caller : ℕ) (p : Place ℕ) → IsLawful by table s → IsPlaceOf s.tree plain p → StandsAround (host_around_of s caller) p
  pub texts : (by : T → ℕ) (table : List Row) (s : State T Image) (caller : ℕ) → IsLawful by table s → s.next_pid ≤ 2 ^ 32 → NamesAreTexts (peeked_of s caller)
