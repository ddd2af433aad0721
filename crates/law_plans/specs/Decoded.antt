-- What decoding gives of a request beside the texts of its paths.
use Rattle.std.specs.Prelude.{◌≡◌, ℕ, pos, Ok}
use Rattle.law_edits.specs.rv_mem.Actions.{carried_out}
use Rattle.law_edits.specs.rv_mem.Memory.{Memory}
use Rattle.law_edits.specs.rv_mem.declared.regs.Regs.{Regs}
use Rattle.law_edits.specs.kr_calls.Decoding.{decoding}
use Rattle.law_edits.specs.kr_calls.declared.request.Request.{Request}
use Rattle.law_edits.specs.kr_calls.declared.request.Request.TheVariants as call
use Rattle.law_plans.specs.Plans.{HasFirstOfTwo}

-- the size of readlinkat(2) is a positive number, since 0 and what is negative isn't decoded
abbrev pub HasCount : Request → Type 0
HasCount (call.Readlinkat dirfd path buf size) = (n : ℕ) × (size ≡ pos n)
HasCount r = Unit {0}

-- linkat(2) and renameat2(2) are decoded with two paths that aren't empty
abbrev pub FirstOfTwoIsDecoded : Type 0
FirstOfTwoIsDecoded = (regs : Regs) (m : Memory) (r : Request) → (carried_out (decoding regs) m).reply ≡ Ok r → HasFirstOfTwo r

abbrev pub CountsAreDecoded : Type 0
CountsAreDecoded = (regs : Regs) (m : Memory) (r : Request) → (carried_out (decoding regs) m).reply ≡ Ok r → HasCount r
