-- Words that ask for single steps: what they begin with a tracer, and what they begin over mounts.
use Rattle.std.specs.Prelude.{◌≡◌, ℕ, Bool, false, List, None, Ok}
use Rattle.law_machines.specs.kr_turns.Turn.{Machine}
use Rattle.law_machines.specs.kr_view.View.{Row, plain}
use Rattle.law_machines.specs.pr_run.declared.plan.Plan.{Plan}
use Rattle.law_machines.specs.pr_sources.declared.reading.Asked.{Asked}
use Rattle.law_machines.specs.pr_start.Machines.{Watch}
use Rattle.law_machines.specs.pr_start.TracedBeginning.{Tracing, asks}
use Rattle.law_machines.specs.pr_top.Opening.{Loosely, Mounts, begins, loose_traced_run}
use Rattle.law_machines.specs.pr_words.declared.options.Options.{Options}
use Rattle.law_machines.specs.Given.{AreGiven}
use Rattle.law_machines.specs.Openings.{over_mounts}
use Rattle.law_loose.specs.kr_loose.Quiet.{IsQuiet}
use Rattle.law_loosely.specs.Loosely.{IsCalmBy, IsImageOf, image_of, mounted_by}

-- a run by single steps that begins with a tracer, and what the same asks for over mounts
pub record BeginLoosely (a : Asked) (plan : Plan) (met : Bool) (n : Machine Tracing) (own : Plan) (table : List Row) (m : Machine Watch) : Type 0 where
  pub steps : begins a ≡ Ok (record { plan = plan; started = Loosely met n })
  pub over : over_mounts a ≡ Ok (record { plan = own; started = Mounts table m })

-- where no identity is asked for, and what was given is words of bytes, sources that were read, and bindings that settle: if the loose run is quiet and the
-- run over mounts by its turns' slots is calm, the same is told of both
abbrev pub LooseWordsAgree : Type 0
LooseWordsAgree =
    (words : List (List ℕ)) (tree elf input : List ℕ) (o : Options) (a : Asked) (settled : List Row) → AreGiven words tree elf input o a settled → a.options.native ≡ false → a.options.ids ≡ None
    → (plan : Plan) (met : Bool) (n : Machine Tracing) (own : Plan) (table : List Row) (m : Machine Watch) → BeginLoosely a plan met n own table m
    → IsQuiet asks 0 plain met (loose_traced_run plan n).left.steps → IsCalmBy (image_of (loose_traced_run plan n)) table m
    → IsImageOf (loose_traced_run plan n) (mounted_by (image_of (loose_traced_run plan n)) table m)
