-- Whether a request can alter the shape of the tree is told by the registers that it is decoded from.
use Rattle.std.proofs.Common.{◌≡◌, ℕ, ℤ, Bool, true, false, ◌&&◌, ◌||◌, List, [], ◌∷◌, Result, Ok, Err, refl, sym, ap, subst, ◌∙◌}
use Rattle.std.specs.Prelude.{◌==◌}
use Rattle.kr_hostview.specs.pr_base.declared.errno.Errno.TheVariants.{EFAULT, ENAMETOOLONG, ENOENT}
use Rattle.kr_steps.specs.rv_mem.Actions.{carried_out}
use Rattle.kr_steps.specs.rv_mem.Memory.{Memory, after_read, text_of, text_reach}
use Rattle.kr_steps.specs.rv_mem.declared.fault.TextFault.{TextFault}
use Rattle.kr_steps.specs.rv_mem.declared.fault.TextFault.TheVariants as text
use Rattle.kr_steps.specs.rv_mem.declared.regs.Regs.{Regs}
use Rattle.kr_execve.specs.kr_calls.Arguments.{long, number, word}
use Rattle.kr_execve.specs.kr_calls.CallTable.{line}
use Rattle.kr_execve.specs.kr_calls.Decoding.{Decoded, accepts, decoded_openat, decoding, decoding_of, has_bad_open_flags, named, openat_with, refuses, text_limit, unless, with_text}
use Rattle.kr_execve.specs.kr_calls.declared.request.Request.{Request}
use Rattle.kr_execve.specs.kr_calls.declared.request.Request.TheVariants as call
use Rattle.kr_steps.specs.kr_model.FileRows.{creates}
use Rattle.kr_execve.proofs.kr_calls.DecodingLemmas.{decoded_are_numbered}
use Rattle.kr_execve.proofs.kr_calls.TextLemmas.{chosen, read_text_is}
use Rattle.kr_steps.specs.law_steady.Calls.{may_alter_shape}
use Rattle.kr_steps.specs.kr_stops.Remembering.{can_alter_shape, is_shape_call}

-- ---- the flags of openat(2)

abbrev flags_of : Request → ℕ
flags_of (call.Openat dirfd path flags permissions) = flags
flags_of _ = 0

same_request : (q r : Request) → ◌≡◌ {A = Decoded} (Ok q) (Ok r) → q ≡ r
same_request q r e = cc

module _ (regs : Regs) (memory : Memory) (r : Request) where
  -- what follows the text of its path
  flags_read : (after : Memory) (o : Result (List ℕ) TextFault) → (carried_out (chosen (refuses EFAULT) (refuses ENAMETOOLONG) (named false (refuses ENOENT) (λ path. accepts (openat_with regs path))) o) after).reply ≡ Ok r → flags_of r ≡ word regs 2
  flags_read after (Ok []) e = absurd cc
  flags_read after (Ok (b ∷ path)) e = sym (ap flags_of (same_request (openat_with regs (b ∷ path)) r e))
  flags_read after (Err text.BadAddress) e = absurd cc
  flags_read after (Err text.TooLong) e = absurd cc
  flags_read after (Err text.NoMemory) e = absurd cc

  flags_tested : (b : Bool) → (carried_out (unless b (with_text false (long regs 1) (λ path. accepts (openat_with regs path)))) memory).reply ≡ Ok r → flags_of r ≡ word regs 2
  flags_tested true e = absurd cc
  flags_tested false e =
      let at = long regs 1 in
      let whole = read_text_is text_limit at (refuses EFAULT) (refuses ENAMETOOLONG) (named false (refuses ENOENT) (λ path. accepts (openat_with regs path))) memory in
      flags_read (after_read memory at (text_reach memory.pages at text_limit)) (text_of memory.pages at text_limit) (sym (ap (λ d. d.reply) whole) ∙ e)

  -- those of its register
  flags_decoded : (carried_out (decoded_openat regs) memory).reply ≡ Ok r → flags_of r ≡ word regs 2
  flags_decoded e = flags_tested (has_bad_open_flags (word regs 2)) e

-- ---- by the number of the call

module _ (regs : Regs) (memory : Memory) where
  abbrev altering : ℕ → Bool
  altering n = is_shape_call n || (n == 56 && creates (word regs 2))

  abbrev Gives : Request → ℕ → Type 0
  Gives r n = (carried_out (decoding_of n regs) memory).reply ≡ Ok r

  -- of a request other than openat(2) its line alone tells
  altering_line : (r : Request) → Gives r (line r).number → may_alter_shape r ≡ altering (line r).number
  altering_line (call.Openat dirfd path flags permissions) e = ap creates (flags_decoded regs memory (call.Openat dirfd path flags permissions) e)
  altering_line _ e = refl

pub altering_decoded : (regs : Regs) (memory : Memory) (r : Request) → (carried_out (decoding regs) memory).reply ≡ Ok r → may_alter_shape r ≡ can_alter_shape regs
altering_decoded regs memory r e =
    let same : (line r).number ≡ number regs = decoded_are_numbered regs memory r e in
    subst (λ n. may_alter_shape r ≡ altering regs memory n) same (altering_line regs memory r (subst (Gives regs memory r) (sym same) e))
