-- The registers of a script's execve behind the first stop, of which a0 and a1 are others: the plain kernel decodes an execve of what they
-- have, and at the second stop a1 is given back with the other arguments.
use Rattle.std.specs.FinMap as map
use Rattle.std.proofs.Common.{◌≡◌, ◌≢◌, ℕ, false, List, [], ◌∷◌, length, Some, None, Ok, refl, sym, ap, subst, ◌∙◌, get_or, arith}
use Rattle.std.specs.Prelude.{◌==◌, slice_set}
use Rattle.std.specs.Int.{cast_signed, w64}
use Rattle.std.proofs.lemmas.List.{get_or-set_other, get_or-set_same, length-set}
use Rattle.law_programs.specs.pr_base.declared.errno.Errno.{Errno}
use Rattle.law_programs.specs.rv_mem.Actions.{carried_out}
use Rattle.law_programs.specs.rv_mem.Memory.{Memory, text_of}
use Rattle.law_programs.specs.rv_mem.declared.regs.Regs.{Regs}
use Rattle.law_stops.specs.kr_calls.Arguments.{long, number}
use Rattle.law_stops.specs.kr_calls.Decoding.{accepts, decoding, decoding_of, decoded_execve, execve_with, text_limit}
use Rattle.law_stops.specs.kr_calls.declared.request.Request.{Request}
use Rattle.law_stops.specs.kr_calls.declared.request.Request.TheVariants as call
use Rattle.law_stops.proofs.kr_calls.DecodingLemmas.{decoded_are_numbered}
use Rattle.law_stops.specs.kr_model.State.{Image}
use Rattle.law_stops.specs.kr_stops.Stopped.{IsThere, Stopped, edited, image_at}
use Rattle.law_stops.specs.pt_results.Notes.{noted, tags_after}
use Rattle.law_stops.specs.pt_ident.Identity.{refusal}
use Rattle.law_stops.specs.pt_faker.Faking.{word_of}
use Rattle.law_stops.specs.pt_faker.Stopping.{memory_at}
use Rattle.law_stops.specs.pt_tracer.Registers.{given_back}
use Rattle.law_stops.specs.pt_tracer.Watched.{Tracing, answer_at, awaiting, exited, has_begun, with_tags, without_pending}
use Rattle.law_stops.specs.pt_tracer.declared.plan.Led.{Led}
use Rattle.law_stops.specs.pt_tracer.declared.registers.Arguments.{Arguments}
use Rattle.law_stops.specs.law_edits.Exits.{left_with}
use Rattle.law_stops.specs.law_edits.Shelves.{with_words}
use Rattle.law_stops.proofs.law_edits.ExitLemmas.{gives_back, swapped_back}
use Rattle.law_stops.proofs.law_edits.StopLemmas.{image_is, words_put}
use Rattle.law_stops.proofs.law_edits.TextLemmas.{accepted_is, text_on, text_read_of}
use Rattle.law_execves.proofs.BegunLemmas.{told_no_zero}

-- ---- the registers

module _ (xs : List ℕ) (a b : ℕ) where
  -- those with others in a0 and a1
  abbrev pub with_two : List ℕ
  with_two = slice_set (slice_set xs 10 a) 11 b

  pub beside_two : (j : ℕ) → j ≢ 10 → j ≢ 11 → get_or with_two j 0 ≡ get_or xs j 0
  beside_two j ten eleven = get_or-set_other (slice_set xs 10 a) 11 j b 0 eleven ∙ get_or-set_other xs 10 j a 0 ten

  pub two_long : length with_two ≡ length xs
  two_long = length-set (slice_set xs 10 a) 11 b ∙ length-set xs 10 a

  module _ (size : length xs ≡ 32) where
    pub first_there : get_or with_two 10 0 ≡ a
    first_there = get_or-set_other (slice_set xs 10 a) 11 10 b 0 (λ same. omega (arith, same)) ∙ get_or-set_same xs 10 a 0 (omega (arith, size))

    pub second_there : get_or with_two 11 0 ≡ b
    second_there = get_or-set_same (slice_set xs 10 a) 11 b 0 (omega (arith, length-set xs 10 a, size))

-- ---- the first stop

abbrev env_of : Request → ℕ
env_of (call.Execve path args env) = env
env_of _ = 0

module _ (old new : Regs) (m w : Memory) (path : List ℕ) (args env : ℕ) (host : List ℕ) (some : host ≢ []) (top : ℕ) (number_stays : number new ≡ number old) (stands : text_of w.pages (long new 0) text_limit ≡ Ok host) (first : long new 1 ≡ top)
    (second : long new 2 ≡ long old 2) where
  abbrev r : Request
  r = call.Execve path args env

  -- its row gives it of the new registers
  own_row : (carried_out (decoded_execve old) m).reply ≡ Ok r → (carried_out (decoded_execve new) w).reply ≡ Ok (call.Execve host top env)
  own_row e =
      let own = text_read_of (long old 0) (λ t. accepts (execve_with old t)) m r false e in
      let third : long new 2 ≡ env = second ∙ ap env_of (accepted_is (execve_with old own.text) r (sym (ap (λ d. d.reply) own.whole) ∙ e)) in
      let same : execve_with new host ≡ call.Execve host top env = λ i. call.Execve host (first i) (third i) in
      ap (λ d. d.reply) (text_on false (long new 0) (λ t. accepts (execve_with new t)) w host stands some) ∙ ap Ok same

  pub found : (carried_out (decoding old) m).reply ≡ Ok r → (carried_out (decoding new) w).reply ≡ Ok (call.Execve host top env)
  found is =
      let number_is : 221 ≡ number old = decoded_are_numbered old m r is in
      subst (λ n. (carried_out (decoding_of n new) w).reply ≡ Ok (call.Execve host top env)) (number_is ∙ sym number_stays)
      (own_row (subst (λ n. (carried_out (decoding_of n old) m).reply ≡ Ok r) (sym number_is) is))

-- so the plain kernel finds the host text and the list, and the environment of the call
pub script_is_read : (regs : Regs) (a b : ℕ) (m w : Memory) (path : List ℕ) (args env : ℕ) (host : List ℕ) → length regs.x ≡ 32 → host ≢ [] → text_of w.pages a text_limit ≡ Ok host → (carried_out (decoding regs) m).reply ≡ Ok (call.Execve path args env)
    → (carried_out (decoding (record { x = with_two regs.x a b; pc = regs.pc })) w).reply ≡ Ok (call.Execve host b env)
script_is_read regs a b m w path args env host size some stands =
    found regs (record { x = with_two regs.x a b; pc = regs.pc }) m w path args env host some b (beside_two regs.x a b 17 (λ same. omega (arith, same)) (λ same. omega (arith, same)))
    (ap (λ at. text_of w.pages at text_limit) (first_there regs.x a b size) ∙ stands) (second_there regs.x a b size) (beside_two regs.x a b 12 (λ same. omega (arith, same)) (λ same. omega (arith, same)))

-- ---- the second stop

-- the arguments that are kept, by the registers of the first stop
abbrev pub words_in : List ℕ → Arguments
words_in x = record { a1 = get_or x 11 0; a2 = get_or x 12 0; a3 = get_or x 13 0; a4 = get_or x 14 0; a5 = get_or x 15 0; a7 = get_or x 17 0 }

abbrev words_of : Arguments → List (ℕ × ℕ)
words_of p = (11, p.a1) ∷ (12, p.a2) ∷ (13, p.a3) ∷ (14, p.a4) ∷ (15, p.a5) ∷ (17, p.a7) ∷ []

module _ (x : Tracing) (v : Stopped) (there : IsThere v) (old : List ℕ) (size : length old ≡ 32) (a b : ℕ) (e : Errno) (regs : (image_at v).regs.x ≡ slice_set (with_two old a b) 10 (word_of (refusal e))) where
  abbrev told_word : ℕ
  told_word = word_of (refusal e)

  abbrev behind : List ℕ
  behind = slice_set (with_two old a b) 10 told_word

  -- all registers but a0 are those of the first stop
  same_words : with_words (words_of (words_in old)) behind ≡ slice_set old 10 told_word
  same_words =
      swapped_back old told_word (omega (arith, size)) behind (
        length-set (with_two old a b) 10 told_word ∙ two_long old a b,
        λ k ten away. get_or-set_other (with_two old a b) 10 k told_word 0 ten ∙ beside_two old a b k ten away.0,
      )
      (get_or-set_same (with_two old a b) 10 told_word 0 (omega (arith, two_long old a b, size)))

  abbrev left : Stopped
  left = edited (record { x = slice_set old 10 told_word; pc = (image_at v).regs.pc }) (memory_at v) v

  given : given_back (words_in old) v ≡ left
  given =
      ap (given_back (words_in old)) (sym there.one)
      ∙ words_put v there (words_of (words_in old)) (image_at v).regs (memory_at v) (refl, (refl, (refl, (refl, (refl, (refl, tt))))))
      ∙ ap (λ xs. edited (record { x = with_words (words_of (words_in old)) xs; pc = (image_at v).regs.pc }) (memory_at v) v) regs
      ∙ ap (λ xs. edited (record { x = xs; pc = (image_at v).regs.pc }) (memory_at v) v) same_words

  seen : answer_at left ≡ cast_signed w64 told_word
  seen =
      ap (λ (image : Image). cast_signed w64 (get_or image.regs.x 10 0)) (image_is v there (record { x = slice_set old 10 told_word; pc = (image_at v).regs.pc }) (memory_at v))
      ∙ ap (cast_signed w64) (get_or-set_same old 10 told_word 0 (omega (arith, size)))

  module _ (path : List ℕ) (args env : ℕ) (led : Led) (nobody : x.identities ≡ None) (at : map.get x.pending v.pid ≡ Some (awaiting (words_in old) (call.Execve path args env) led None)) where
    begins : has_begun (awaiting (words_in old) (call.Execve path args env) led None) v ≡ false
    begins = ap (λ xs. get_or xs 10 0 == 0) regs ∙ told_no_zero (with_two old a b) e (omega (arith, two_long old a b, size))

    pub script_leaves : exited x v ≡ left_with x v (call.Execve path args env) led told_word old
    script_leaves =
        gives_back x v (awaiting (words_in old) (call.Execve path args env) led None) nobody at begins
        ∙ ap (λ (t : Stopped). (with_tags (tags_after x.tags v.pid (noted (call.Execve path args env) led.index (answer_at t))) (without_pending v.pid x), t)) given
        ∙ ap (λ answer. (with_tags (tags_after x.tags v.pid (noted (call.Execve path args env) led.index answer)) (without_pending v.pid x), left)) seen
