-- What the process directory over a state in code is to the definition, which tells mounts by their numbers.
use Rattle.std.specs.Prelude.{◌≡◌, ◌≤◌, ◌^◌, ℕ}
use Rattle.kr_ops.specs.kr_tree.declared.place.ProcAt.{ProcAt}
use Rattle.kr_ops.specs.kr_view.InTree.{LeadToPlaces}
use Rattle.kr_ops.specs.kr_view.Leads.{numbered, lead_numbered}
use Rattle.kr_ops.specs.kr_view.Processes.{LawsOfProcesses}
use Rattle.kr_ops.specs.kr_view.View.{root_place}
use Rattle.kr_ops.specs.kr_model.Lawful.{IsLawful}
use Rattle.kr_ops.specs.kr_model.ProcessDirectory.{space_of, leads_of, link_text}
use Rattle.kr_seen.specs.Numbered.{state_numbered}
use Rattle.kr_seen.specs.Shown.{Shown, finds_in, space_in, leads_in, texts_in}

-- names, links and their texts are those of the definition
pub record ShowsTheDirectory (T : Type 0) : Type 0 where
  pub space : (number : T → ℕ) (v : Shown T) → space_in v ≡ space_of v.table (state_numbered number v.state)
  pub leads : (number : T → ℕ) (v : Shown T) (caller : ℕ) (at : ProcAt) → numbered number v.root ≡ root_place v.table
      → lead_numbered number (leads_in number v caller at) ≡ leads_of v.table (state_numbered number v.state) caller at
  pub texts : (number : T → ℕ) (v : Shown T) (caller : ℕ) (at : ProcAt) → numbered number v.root ≡ root_place v.table
      → texts_in number v caller at ≡ link_text v.table (state_numbered number v.state) caller at

-- over a lawful state it keeps what every process directory keeps, and its links lead to places of the view in the tree
pub record LawfulAreShown (T : Type 0) : Type 0 where
  pub processes : (number : T → ℕ) (v : Shown T) (caller : ℕ) → IsLawful number v.table v.state → v.state.next_pid ≤ 2 ^ 32
      → LawsOfProcesses (finds_in v) (λ at. lead_numbered number (leads_in number v caller at))
  pub places : (number : T → ℕ) (v : Shown T) (caller : ℕ) → IsLawful number v.table v.state → numbered number v.root ≡ root_place v.table
      → LeadToPlaces v.state.tree v.table (λ at. lead_numbered number (leads_in number v caller at))
