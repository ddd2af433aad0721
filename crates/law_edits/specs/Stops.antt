-- A stopped process behind the swap of its call's paths.
use Rattle.std.specs.Prelude.{◌≡◌, true, Option, None, Ok}
use Rattle.pt_tracer.specs.rv_mem.Actions.{AreEqualUnmarked}
use Rattle.pt_tracer.specs.rv_mem.Memory.{Memory}
use Rattle.law_walks.specs.kr_calls.declared.request.Request.{Request}
use Rattle.kr_turns.specs.kr_stops.Stopped.{IsThere, Stopped, edited, image_at}
use Rattle.pt_tracer.specs.pt_faker.Stopping.{after_request, decoded_at, memory_at}
use Rattle.pt_tracer.specs.Planning.{has_shelf, stack_at}
use Rattle.pt_tracer.specs.Watched.{Applied, applied}
use Rattle.law_edits.specs.Requests.{AreOfPaths, NewText, with_swaps}
use Rattle.law_edits.specs.Shelves.{CanBePath, CanSecondBePath, bottom_of, memory_behind, registers_behind, swap_edit}
use Rattle.law_edits.specs.Swapped.{AreMarkedFrom, IsDecodedCalmly}

module _ (t : Stopped) (m : Memory) (r : Request) (first : NewText) (second : Option NewText) where
  -- what a swap rests on: the call was decoded and its shelf can be used; and on the other machine, whose memory is equal but for marked
  -- bytes, the shelf is marked, and none of its bytes was read for that
  pub record CanBeSwapped : Type 0 where
    pub there : IsThere t
    pub decoded : (decoded_at t).reply ≡ Ok r
    pub shelf : has_shelf (after_request t) ≡ true
    pub named : AreOfPaths r first second
    pub one : CanBePath first
    pub two : CanSecondBePath second
    pub calm : IsDecodedCalmly (image_at t).regs m (memory_at t).pages
    pub marks : AreMarkedFrom (bottom_of (stack_at (after_request t))) (stack_at (after_request t)) m.pages

  -- what it leaves: the texts and their addresses. The plain kernel finds the request with these texts, the decoding of which leaves the
  -- pages as they are, and on the other machine what was written is marked
  pub record IsSwapped (left : Applied) : Type 0 where
    pub answer : left.answer ≡ None
    pub stopped : left.stopped
        ≡ edited (registers_behind (stack_at (after_request t)) first second (image_at t).regs) (memory_behind (stack_at (after_request t)) first second (decoded_at t).memory) t
    pub there : IsThere left.stopped
    pub decodes : (decoded_at left.stopped).reply ≡ Ok (with_swaps first second r)
    pub pages : (decoded_at left.stopped).memory.pages ≡ (memory_at left.stopped).pages
    pub alike : AreEqualUnmarked m.pages (memory_at left.stopped).pages

abbrev pub SwappedCallsAreDecoded : Type 0
SwappedCallsAreDecoded =
    (t : Stopped) (m : Memory) (r : Request) (first : NewText) (second : Option NewText) → CanBeSwapped t m r first second
    → IsSwapped t m r first second (applied (swap_edit (stack_at (after_request t)) first second) (after_request t))
