-- What is left to be read of a walk's paths.
use Rattle.std.specs.Prelude.{ℕ, List, slice_range}
use Rattle.kr_view.specs.kr_tree.pr_base.Paths.{Component}
use Rattle.kr_walk.specs.declared.rests.Rests.{Rests}
use Rattle.kr_walk.specs.declared.rests.Taken.{Taken}
use Rattle.kr_walk.specs.Rests.{stacked}

abbrev pub stack_of : Rests → List Component
stack_of rests = stacked rests.list.items

-- the component that was taken
abbrev pub taken_bytes : Taken → List ℕ
taken_bytes taken = slice_range taken.rest.text taken.span.begin taken.span.end
