-- Calls without a path, which on both kernels go by descriptors, memory and processes alone.
use Rattle.std.specs.Prelude.{◌≡◌, ℕ, Bool, List, None, Ok}
use Rattle.pt_results.specs.pt_bind.Tags.{TagTable}
use Rattle.law_places.specs.kr_view.View.{Row, plain}
use Rattle.pt_results.specs.kr_calls.CallTable.{Told, ToldNothing, line}
use Rattle.pt_results.specs.kr_calls.declared.request.Request.{Request}
use Rattle.law_places.specs.kr_model.State.{Image, Process, State}
use Rattle.kr_core.specs.kr_turns.Breaking.{plain_rule}
use Rattle.kr_core.specs.kr_turns.PlainCall.{plain_call}
use Rattle.law_places.specs.Matching.{IsMatch}
use Rattle.law_turns.specs.Calls.{CameAlike, decoded_by, tags_behind}
use Rattle.law_turns.specs.Lasting.{CanBeCalled}

abbrev pub TellsNothing : Told → Type 0
TellsNothing ToldNothing = Unit {0}
TellsNothing _ = ⊥

-- calls that are told of no path, as their lines say
abbrev pub IsPathless : Request → Type 0
IsPathless r = TellsNothing (line r).told

-- a calm one comes to the same on both kernels, and keeps a match
abbrev pub PathlessCallsComeAlike : Type 0
PathlessCallsComeAlike =
    (table : List Row) (made pid : ℕ) (no_shelf : Bool) (s w : State ℕ Image) (p q : Process ℕ Image) (tags : TagTable) (r : Request) → IsMatch table tags s w → CanBeCalled table made pid s p → CanBeCalled plain made pid w q
    → (decoded_by p).reply ≡ Ok r → IsPathless r → plain_rule 1 table pid no_shelf s ≡ None → CameAlike table (tags_behind table pid s w p q tags r) (plain_call table pid s) (plain_call plain pid w)
