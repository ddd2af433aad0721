-- What a tracer without an identity goes by lasts beside what a loose run does.
use Rattle.law_loose.specs.kr_view.View.{plain}
use Rattle.law_loose.specs.kr_model.Lawful.{IsLawful}
use Rattle.law_loose.specs.kr_turns.Turn.{Machine}
use Rattle.law_loose.specs.kr_loose.Marks.{AreUnmarked}
use Rattle.law_loose.specs.law_beside.Opened.{StandOnNodes}
use Rattle.law_loose.specs.Staying.{StaysBeside}
use Rattle.law_entries.specs.Lasting.{StaysFor}
use Rattle.law_entries.specs.Traced.{TellsNoIdentity}
use Rattle.law_entries.specs.pt_tracer.Watched.{Tracing, tracer}

-- a lawful state of a plain kernel, of which no byte is marked
pub record IsGood (m : Machine Tracing) : Type 0 where
  pub lawful : IsLawful (λ k. k) plain m.state
  pub unmarked : AreUnmarked m.state

-- no identity is told, and no process stands in the process directory
pub record IsTame (m : Machine Tracing) : Type 0 where
  pub none : TellsNoIdentity m.watcher
  pub nodes : StandOnNodes m.state

abbrev pub TracersStayBeside : Type 0
TracersStayBeside = StaysBeside tracer plain IsGood IsTame StaysFor
