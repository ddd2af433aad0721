-- The path of execve(2), as decoding gives it, is a text that a path can be.
use Rattle.std.proofs.Common.{◌≡◌, ◌<◌, ℕ, zero, suc, ◌+◌, Bool, true, false, cond, nat_eq, List, [], ◌∷◌, length, Result, Ok, Err, refl, sym, ap, subst, ◌∙◌, arith}
use Rattle.law_programs.specs.rv_mem.Actions.{carried_out}
use Rattle.law_programs.specs.rv_mem.Memory.{Memory, text_after, text_of}
use Rattle.law_programs.specs.rv_mem.Pages.{HoldsBytes, Pages, allows, byte_at}
use Rattle.law_programs.specs.rv_mem.declared.fault.TextFault.{TextFault}
use Rattle.law_programs.specs.rv_mem.declared.fault.TextFault.TheVariants.{BadAddress}
use Rattle.law_programs.specs.rv_mem.declared.regs.Regs.{Regs}
use Rattle.law_programs.specs.rv_mem.declared.rights.Use.TheVariants.{Read}
use Rattle.law_stops.specs.pt_args.Laws.{IsPathText}
use Rattle.law_stops.specs.kr_calls.Arguments.{long}
use Rattle.law_stops.specs.kr_calls.Decoding.{accepts, decoding, decoding_of, execve_with, text_limit}
use Rattle.law_stops.specs.kr_calls.declared.request.Request.{Request}
use Rattle.law_stops.specs.kr_calls.declared.request.Request.TheVariants as call
use Rattle.law_stops.proofs.kr_calls.DecodingLemmas.{decoded_are_numbered}
use Rattle.law_programs.proofs.law_allowed.DecodedLemmas.{decoded-are-givable}
use Rattle.law_stops.proofs.law_edits.TextLemmas.{accepted_is, text_read_of}

-- a text has fewer bytes than there is room for with a zero
short_after : (b : ℕ) (o : Result (List ℕ) TextFault) (max : ℕ) (text : List ℕ) → ((t : List ℕ) → o ≡ Ok t → length t < max) → text_after b o ≡ Ok text → length text < suc max
short_after b (Ok t) max text short e = let same : b ∷ t ≡ text = cc in let below : length t < max = short t refl in let long : length (b ∷ t) ≡ length text = ap length same in omega (arith, below, long)
short_after b (Err fault) max text short e = absurd cc

texts_are_short : (m : Pages) (at max : ℕ) (text : List ℕ) → text_of m at max ≡ Ok text → length text < max
unfolding text_of
texts_are_short m at zero text e = absurd cc
texts_are_short m at (suc max) text e = by (allows m at Read) (nat_eq (byte_at m at) 0) (λ t is. texts_are_short m (at + 1) max t is) e
  where
    by : (allowed ends : Bool) → ((t : List ℕ) → text_of m (at + 1) max ≡ Ok t → length t < max)
        → cond allowed (cond ends (Ok []) (text_after (byte_at m at) (text_of m (at + 1) max))) (Err BadAddress) ≡ Ok text → length text < suc max
    by false ends short e = absurd cc
    by true true short e = let same : [] ≡ text = cc in let long : 0 ≡ length text = ap length same in omega (arith, long)
    by true false short e = short_after (byte_at m at) (text_of m (at + 1) max) max text short e

abbrev path_of : Request → List ℕ
path_of (call.Execve path args env) = path
path_of _ = []

pub decoded_paths_are_path_texts : (regs : Regs) (m : Memory) (path : List ℕ) (args env : ℕ) → HoldsBytes m.pages → (carried_out (decoding regs) m).reply ≡ Ok (call.Execve path args env) → IsPathText path
decoded_paths_are_path_texts regs m path args env bytes is =
    let here : (carried_out (decoding_of 221 regs) m).reply ≡ Ok (call.Execve path args env) = subst (λ n. (carried_out (decoding_of n regs) m).reply ≡ Ok (call.Execve path args env)) (sym (decoded_are_numbered regs m (call.Execve path args env) is)) is in
    let own = text_read_of (long regs 0) (λ text. accepts (execve_with regs text)) m (call.Execve path args env) false here in
    let same : own.text ≡ path = ap path_of (accepted_is (execve_with regs own.text) (call.Execve path args env) (sym (ap (λ d. d.reply) own.whole) ∙ here)) in
    record {
      short = subst (λ text. length text < text_limit) same (texts_are_short m.pages (long regs 0) text_limit own.text own.stands);
      no_zero = ((decoded-are-givable regs m (call.Execve path args env) bytes is).1 0 _ refl).0;
    }
