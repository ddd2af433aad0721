-- What two states that match do alike in a turn: the process that is picked is the same, and its instructions are.
use Rattle.std.specs.Prelude.{◌≡◌, ℕ, false, List, Some}
use Rattle.std.specs.Option.{option_map}
use Rattle.pt_results.specs.rv_mem.Actions.{carried_out}
use Rattle.kr_core.specs.rv_cpu.Laws.{EndAlike}
use Rattle.kr_core.specs.rv_cpu.Run.{ran}
use Rattle.pt_results.specs.pt_bind.Tags.{TagTable}
use Rattle.law_places.specs.kr_view.View.{Row}
use Rattle.pt_results.specs.kr_calls.Decoding.{decoding}
use Rattle.law_places.specs.kr_model.State.{Image, Process, State, process}
use Rattle.kr_core.specs.kr_steps.Computing.{computed}
use Rattle.kr_core.specs.kr_steps.Waiting.{picked_process}
use Rattle.kr_core.specs.kr_turns.Run.{ending_of}
use Rattle.kr_core.specs.kr_turns.Shelving.{shelved_in}
use Rattle.kr_core.specs.kr_turns.Turn.{Machine}
use Rattle.law_places.specs.Matching.{IsMatch}

-- the same process runs at each pick, and where none can, the end is the same
pub record GoOnAlike {S T : Type 0} (m : Machine S) (n : Machine T) : Type 0 where
  pub picks : (pick : ℕ) → option_map (λ p. p.pid) (picked_process m.state pick) ≡ option_map (λ p. p.pid) (picked_process n.state pick)
  pub ends : ending_of m ≡ ending_of n

abbrev pub MatchesGoOnAlike : (S T : Type 0) → Type 0
MatchesGoOnAlike S T = (table : List Row) (tags : TagTable) (m : Machine S) (n : Machine T) → IsMatch table tags m.state n.state → GoOnAlike m n

-- instructions end alike, and leave a match
pub record ComputeAlike (table : List Row) (tags : TagTable) (pid fuel : ℕ) (s w : State ℕ Image) (p q : Process ℕ Image) : Type 0 where
  pub ends : EndAlike (ran fuel p.image.regs p.image.memory) (ran fuel q.image.regs q.image.memory)
  pub matches : IsMatch table tags
      (computed pid (ran fuel p.image.regs p.image.memory).regs (ran fuel p.image.regs p.image.memory).memory s)
      (computed pid (ran fuel q.image.regs q.image.memory).regs (ran fuel q.image.regs q.image.memory).memory w)

-- where no marked byte is read
abbrev pub InstructionsKeepMatches : Type 0
InstructionsKeepMatches =
    (table : List Row) (tags : TagTable) (pid fuel : ℕ) (s w : State ℕ Image) (p q : Process ℕ Image) → IsMatch table tags s w → process pid s ≡ Some p → process pid w ≡ Some q
    → (ran fuel p.image.regs p.image.memory).memory.read_marked ≡ false → ComputeAlike table tags pid fuel s w p q

-- a call is decoded alike, which notes what is read in each memory, and leaves a match
pub record DecodeAlike (table : List Row) (tags : TagTable) (pid : ℕ) (s w : State ℕ Image) (p q : Process ℕ Image) : Type 0 where
  pub requests : (carried_out (decoding p.image.regs) p.image.memory).reply ≡ (carried_out (decoding q.image.regs) q.image.memory).reply
  pub matches : IsMatch table tags
      (computed pid p.image.regs (carried_out (decoding p.image.regs) p.image.memory).memory s)
      (computed pid q.image.regs (carried_out (decoding q.image.regs) q.image.memory).memory w)

-- where no marked byte is read
abbrev pub DecodingsKeepMatches : Type 0
DecodingsKeepMatches =
    (table : List Row) (tags : TagTable) (pid : ℕ) (s w : State ℕ Image) (p q : Process ℕ Image) → IsMatch table tags s w → process pid s ≡ Some p → process pid w ≡ Some q
    → (carried_out (decoding p.image.regs) p.image.memory).memory.read_marked ≡ false → DecodeAlike table tags pid s w p q

-- a shelf that is marked with mounts, and isn't under a tracer, leaves a match
abbrev pub ShelvesKeepMatches : Type 0
ShelvesKeepMatches =
    (table : List Row) (tags : TagTable) (pid : ℕ) (s w : State ℕ Image) (p : Process ℕ Image) → IsMatch table tags s w → process pid s ≡ Some p
    → IsMatch table tags (shelved_in 1 pid s) (shelved_in 0 pid w)
