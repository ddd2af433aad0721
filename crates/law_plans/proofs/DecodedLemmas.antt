-- The first of two paths, and the size of readlinkat(2), as decoding gives them.
use Rattle.std.proofs.Common.{◌≡◌, ◌≢◌, ◌<◌, ◌^◌, ℕ, Bool, true, false, nat_eq, List, [], Some, None, Ok, refl, sym, ap, subst, ◌∙◌, arith, pos}
use Rattle.std.specs.Prelude.{◌||◌, nat_le}
use Rattle.std.specs.Int.{w32}
use Rattle.std.specs.Option.{option_map_or}
use Rattle.std.proofs.lemmas.Bool.Decides.{nat_tests}
use Rattle.std.proofs.lemmas.Int.{to_z_pos}
use Rattle.law_edits.specs.rv_mem.Actions.{carried_out}
use Rattle.law_edits.specs.rv_mem.Memory.{Memory}
use Rattle.law_edits.specs.rv_mem.declared.regs.Regs.{Regs}
use Rattle.law_edits.specs.kr_calls.Arguments.{has_other, int, long, number, word}
use Rattle.law_edits.specs.kr_calls.CallTable.{line}
use Rattle.law_edits.specs.kr_calls.Decoding.{accepts, decoding, decoding_of, has_no_size, link_flags, linkat_with, readlinkat_with, renameat2_with, unless, with_text, with_texts}
use Rattle.law_edits.specs.kr_calls.PathTable.{PathUse, path_at}
use Rattle.law_edits.specs.kr_calls.declared.request.Request.{Request}
use Rattle.law_edits.specs.kr_calls.declared.request.Request.TheVariants as call
use Rattle.law_edits.proofs.kr_model.kr_calls.DecodingLemmas.{decoded_are_numbered}
use Rattle.law_edits.proofs.RowLemmas.{refused_is}
use Rattle.law_edits.proofs.TextLemmas.{accepted_is, after_text, text_read_of}
use Rattle.law_plans.specs.Plans.{HasFirstOfTwo}
use Rattle.law_plans.specs.Decoded.{CountsAreDecoded, FirstOfTwoIsDecoded, HasCount}

-- ---- two texts

-- a request of two texts, of which the first isn't empty
record HasTexts (f : List ℕ → List ℕ → Request) (r : Request) : Type 0 where
  one : List ℕ
  two : List ℕ
  some : one ≢ []
  is : f one two ≡ r

module _ (at by : ℕ) (f : List ℕ → List ℕ → Request) (m : Memory) (r : Request) where
  texts_given : (broken : Bool) → (carried_out (unless broken (with_texts at by (λ one two. accepts (f one two)))) m).reply ≡ Ok r → HasTexts f r
  texts_given true e = refused_is _ r e
  texts_given false e =
      let one = text_read_of at (λ one. with_text false by (λ two. accepts (f one two))) m r false e in
      let two = text_read_of by (λ two. accepts (f one.text two)) (after_text m at) r false (sym (ap (λ d. d.reply) one.whole) ∙ e) in
      record { one = one.text; two = two.text; some = one.some refl; is = accepted_is (f one.text two.text) r (sym (ap (λ d. d.reply) (one.whole ∙ two.whole)) ∙ e) }

-- the text of the first path
abbrev first_text : Request → List ℕ
first_text r = option_map_or (λ (u : PathUse). u.text) (path_at r 0) []

some_first : (f : List ℕ → List ℕ → Request) (r : Request) → ((one two : List ℕ) → first_text (f one two) ≡ one) → HasTexts f r → HasFirstOfTwo r
some_first f r gives texts u v first second none =
    absurd (texts.some (sym (gives texts.one texts.two) ∙ ap first_text texts.is ∙ ap (λ o. option_map_or (λ (u : PathUse). u.text) o []) first ∙ none))

first_of_two : (regs : Regs) (m : Memory) (r : Request) → (carried_out (decoding_of (line r).number regs) m).reply ≡ Ok r → HasFirstOfTwo r
first_of_two regs m (call.Linkat olddir old newdir new flags) e =
    some_first (linkat_with regs) (call.Linkat olddir old newdir new flags) (λ one two. refl)
    (texts_given (long regs 1) (long regs 3) (linkat_with regs) m (call.Linkat olddir old newdir new flags) (has_other (word regs 4) link_flags) e)
first_of_two regs m (call.Renameat2 olddir old newdir new) e =
    some_first (renameat2_with regs) (call.Renameat2 olddir old newdir new) (λ one two. refl)
    (texts_given (long regs 1) (long regs 3) (renameat2_with regs) m (call.Renameat2 olddir old newdir new) (has_other (word regs 4) 0) e)
-- with one path or none
first_of_two regs m _ e = λ u v first second. no_path v second
  where
    no_path : {P : Type 0} (u : PathUse) → None ≡ Some u → P
    no_path u e = absurd cc

-- ---- a size

-- one that is decoded has no sign
no_sign : (regs : Regs) → has_no_size (word regs 3) ≡ false → (n : ℕ) × (int regs 3 ≡ pos n)
no_sign regs none = (word regs 3, to_z_pos w32 (word regs 3) (by (nat_eq (word regs 3) 0) none))
  where
    by : (zero : Bool) → (zero || nat_le (2 ^ 31) (word regs 3)) ≡ false → word regs 3 < 2 ^ 31
    by true e = absurd cc
    by false e = grind (arith, nat_tests)

size_given : (regs : Regs) (m : Memory) (r : Request) (b : Bool) → has_no_size (word regs 3) ≡ b → (carried_out (unless b (with_text false (long regs 1) (λ path. accepts (readlinkat_with regs path)))) m).reply ≡ Ok r → HasCount r
size_given regs m r true is e = refused_is _ r e
size_given regs m r false is e =
    let own = text_read_of (long regs 1) (λ path. accepts (readlinkat_with regs path)) m r false e in
    subst HasCount (accepted_is (readlinkat_with regs own.text) r (sym (ap (λ d. d.reply) own.whole) ∙ e)) (no_sign regs is)

count : (regs : Regs) (m : Memory) (r : Request) → (carried_out (decoding_of (line r).number regs) m).reply ≡ Ok r → HasCount r
count regs m (call.Readlinkat dirfd path buf size) e = size_given regs m (call.Readlinkat dirfd path buf size) (has_no_size (word regs 3)) refl e
count regs m _ e = tt

-- ---- by the number of the call

numbered : (regs : Regs) (m : Memory) (r : Request) → (carried_out (decoding regs) m).reply ≡ Ok r → (carried_out (decoding_of (line r).number regs) m).reply ≡ Ok r
numbered regs m r e = subst (λ n. (carried_out (decoding_of n regs) m).reply ≡ Ok r) (sym (decoded_are_numbered regs m r e)) e

pub first_of_two_is_decoded : FirstOfTwoIsDecoded
first_of_two_is_decoded regs m r e = first_of_two regs m r (numbered regs m r e)

pub counts_are_decoded : CountsAreDecoded
counts_are_decoded regs m r e = count regs m r (numbered regs m r e)
