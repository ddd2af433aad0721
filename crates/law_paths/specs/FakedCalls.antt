-- Each call but execve(2), where an identity is told.
use Rattle.std.specs.Prelude.{List}
use Rattle.law_plans.specs.kr_view.View.{Row}
use Rattle.law_stops.specs.Runs.{EachCallGoesTogether}
use Rattle.law_paths.specs.Calls.{asks_no_execve}

abbrev pub OtherFakedCallsGoTogether : Type 0
OtherFakedCallsGoTogether = (table : List Row) → EachCallGoesTogether asks_no_execve table
