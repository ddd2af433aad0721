-- Laws of calls whose paths were swapped.
use Rattle.std.specs.Prelude.{◌≡◌, ℕ, Option, Ok}
use Rattle.pt_tracer.specs.rv_mem.Actions.{AreEqualUnmarked, carried_out}
use Rattle.pt_tracer.specs.rv_mem.Memory.{Memory}
use Rattle.pt_tracer.specs.rv_mem.declared.regs.Regs.{Regs}
use Rattle.law_walks.specs.kr_calls.Decoding.{decoding}
use Rattle.law_walks.specs.kr_calls.declared.request.Request.{Request}
use Rattle.law_edits.specs.Requests.{AreOfPaths, NewText, with_swaps}
use Rattle.law_edits.specs.Shelves.{CanBePath, CanSecondBePath, HasMarkedShelf, memory_behind, registers_behind}
use Rattle.law_edits.specs.Swapped.{AreSwapped, IsDecodedCalmly}

-- where the texts of a call's paths are swapped, its request has the new texts, and is the same in all else
abbrev pub SwappedTextsAreDecoded : Type 0
SwappedTextsAreDecoded =
    (old new : Regs) (m w : Memory) (r : Request) (first : NewText) (second : Option NewText) → AreOfPaths r first second → IsDecodedCalmly old m w.pages → AreSwapped first second old new w.pages
    → (carried_out (decoding old) m).reply ≡ Ok r → (carried_out (decoding new) w).reply ≡ Ok (with_swaps first second r)

-- what is decoded behind the swap of a call's paths, and that what was written is marked on the other machine
pub record IsDecodedBehind (regs : Regs) (m w : Memory) (r : Request) (first : NewText) (second : Option NewText) (sp : ℕ) : Type 0 where
  pub reply : (carried_out (decoding (registers_behind sp first second regs)) (memory_behind sp first second w)).reply ≡ Ok (with_swaps first second r)
  pub alike : AreEqualUnmarked m.pages (memory_behind sp first second w).pages

-- where the other machine decodes the call without a marked byte, and its shelf is marked
abbrev pub SwapsAreDecoded : Type 0
SwapsAreDecoded =
    (regs : Regs) (m w : Memory) (r : Request) (first : NewText) (second : Option NewText) (sp : ℕ) → AreOfPaths r first second → CanBePath first → CanSecondBePath second → HasMarkedShelf sp m.pages w.pages
    → IsDecodedCalmly regs m w.pages → (carried_out (decoding regs) w).reply ≡ Ok r → IsDecodedBehind regs m w r first second sp
