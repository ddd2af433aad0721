-- A tracer marks no byte.
use Rattle.kr_loose.specs.Marks.{MarksNothing}
use Rattle.pt_tracer.specs.Watched.{tracer}

-- whatever identity it tells
abbrev pub TracersMarkNothing : Type 0
TracersMarkNothing = MarksNothing tracer
