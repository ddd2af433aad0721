-- Bytes that a tracer writes into the memory of a stopped process: all of them, or none where one may not be written.
use Rattle.std.specs.Prelude.{ℕ, ◌&&◌, Bool, true, List, [], ◌∷◌, length}
use Rattle.pt_results.specs.rv_mem.Pages.{allows_all}
use Rattle.pt_results.specs.rv_mem.declared.rights.Use.TheVariants.{Write}
use Rattle.pt_faker.specs.Stopping.{after_poke, memory_at, Stopped}

abbrev pub may_poke : List (ℕ × List ℕ) → Stopped → Bool
may_poke [] t = true
may_poke (p ∷ ps) t = allows_all (memory_at t).pages p.0 (length p.1) Write && may_poke ps t

abbrev pub poked : List (ℕ × List ℕ) → Stopped → Stopped
poked [] t = t
poked (p ∷ ps) t = poked ps (after_poke p.0 p.1 t)
