-- The registers that are given back at the second stop of a call.
use Rattle.std.specs.FinMap as map
use Rattle.std.proofs.Common.{◌≡◌, ◌≢◌, ℕ, ◌≤◌, ◌<◌, Bool, true, false, cond, List, [], ◌∷◌, ◌++◌, length, get_or, Option, Some, None, inl, inr, arith, refl, sym, ap, subst, ◌∙◌}
use Rattle.std.specs.Prelude.{◌==◌, ◌&&◌, is_none, slice_set}
use Rattle.std.specs.Int.{cast_signed, w64}
use Rattle.std.proofs.lemmas.Bool.{cases_eq, eq-eqb}
use Rattle.std.proofs.lemmas.Grind.{same_number_lists}
use Rattle.std.proofs.lemmas.List.{get_or-set_other, get_or-set_same, length-set}
use Rattle.pt_tracer.specs.rv_mem.Memory.{Memory}
use Rattle.law_walks.specs.kr_calls.declared.request.Request.{Request}
use Rattle.law_walks.specs.kr_model.State.{Image}
use Rattle.kr_turns.specs.kr_stops.Stopped.{IsThere, Stopped, edited, image_at}
use Rattle.pt_tracer.specs.pt_results.Notes.{noted, tags_after}
use Rattle.pt_tracer.specs.pt_faker.Faking.{has_answered_zero, no_call, word_of}
use Rattle.pt_tracer.specs.pt_faker.Stopping.{after_request, decoded_at, memory_at, register_at, with_memory, with_register}
use Rattle.pt_tracer.specs.Planning.{stack_at}
use Rattle.pt_tracer.specs.Registers.{arguments_at, given_back}
use Rattle.pt_tracer.specs.Watched.{Tracing, after_pending, answer_at, awaiting, begin_program, exited, give_back, has_begun, is_execve, remembered_in, returned, shown_to, with_identities, with_tags, without_pending}
use Rattle.pt_tracer.specs.declared.pending.Pending.{Pending}
use Rattle.pt_tracer.specs.declared.plan.Led.{Led}
use Rattle.pt_tracer.specs.declared.registers.Arguments.{Arguments}
use Rattle.law_edits.specs.Exits.{ExitsBehindAnswers, ExitsBehindSwaps, left_with}
use Rattle.law_edits.specs.Requests.{AreOfPaths, NewText}
use Rattle.law_edits.specs.Shelves.{addresses_at, new_texts, with_words}
use Rattle.law_edits.proofs.RegisterLemmas.{IsArgument, path_registers}
use Rattle.law_edits.proofs.ShelfLemmas.{differ, has_number}
use Rattle.law_edits.proofs.StopLemmas.{AreRegisters, image_is, register_set, words_put}

-- ---- words in a list

abbrev IsAway : ℕ → List (ℕ × ℕ) → Type 0
IsAway k [] = Unit {0}
IsAway k (p ∷ ps) = (k ≢ p.0) × IsAway k ps

abbrev AreIn : List ℕ → List (ℕ × ℕ) → Type 0
AreIn y [] = Unit {0}
AreIn y (p ∷ ps) = (p.0 < length y) × (get_or y p.0 0 ≡ p.1) × AreIn y ps

-- a list that has its words from another one, and is the same elsewhere, is that one
words_back : (ps : List (ℕ × ℕ)) (x y : List ℕ) → length x ≡ length y → AreIn y ps → ((k : ℕ) → IsAway k ps → get_or x k 0 ≡ get_or y k 0) → with_words ps x ≡ y
words_back [] x y long are same = same_number_lists x y long (λ k below. same k tt)
words_back (p ∷ ps) x y long are same = words_back ps (slice_set x p.0 p.1) y (length-set x p.0 p.1 ∙ long) are.2 by
  where
    by : (k : ℕ) → IsAway k ps → get_or (slice_set x p.0 p.1) k 0 ≡ get_or y k 0
    by k away = elim (cases_eq k p.0) [
      | inl is ↦
          ap (λ k. get_or (slice_set x p.0 p.1) k 0) is
          ∙ get_or-set_same x p.0 p.1 0 (subst (λ n. p.0 < n) (sym long) are.0)
          ∙ sym are.1
          ∙ ap (λ k. get_or y k 0) (sym is)
      | inr other ↦ get_or-set_other x p.0 k p.1 0 other ∙ same k (other, away)
    ]

-- ---- the words of the first stop

abbrev words_of : Arguments → List (ℕ × ℕ)
words_of p = (11, p.a1) ∷ (12, p.a2) ∷ (13, p.a3) ∷ (14, p.a4) ∷ (15, p.a5) ∷ (17, p.a7) ∷ []

-- those of a process by its registers
abbrev words_in : List ℕ → Arguments
words_in x = record { a1 = get_or x 11 0; a2 = get_or x 12 0; a3 = get_or x 13 0; a4 = get_or x 14 0; a5 = get_or x 15 0; a7 = get_or x 17 0 }

words_at : (t : Stopped) (there : IsThere t) (memory : Memory) → arguments_at (with_memory memory t) ≡ words_in (image_at t).regs.x
words_at t there memory = ap (λ (i : Image). words_in i.regs.x) (image_is t there (image_at t).regs memory)

module _ (old : List ℕ) (word : ℕ) (long : 17 < length old) where
  abbrev target : List ℕ
  target = slice_set old 10 word

  long_too : 17 < length target
  long_too = subst (λ n. 17 < n) (sym (length-set old 10 word)) long

  below : (k : ℕ) → k ≤ 17 → k < length target
  below k small = omega (arith, small, long_too)

  in_target : (k : ℕ) → k ≢ 10 → get_or target k 0 ≡ get_or old k 0
  in_target k other = get_or-set_other old 10 k word 0 other

  answer_in : get_or target 10 0 ≡ word
  answer_in = get_or-set_same old 10 word 0 (let small : 10 < length old = omega (arith, long) in small)

  are_in : (rest : List (ℕ × ℕ)) → AreIn target rest → AreIn target (words_of (words_in old) ++ rest)
  are_in rest are = (
    below 11 (omega arith),
    in_target 11 (other 11 refl),
    (
      below 12 (omega arith),
      in_target 12 (other 12 refl),
      (
        below 13 (omega arith),
        in_target 13 (other 13 refl),
        (
          below 14 (omega arith),
          in_target 14 (other 14 refl),
          (
            below 15 (omega arith),
            in_target 15 (other 15 refl),
            (below 17 (omega arith), in_target 17 (other 17 refl), are),
          ),
        ),
      ),
    ),
  )
    where
      other : (k : ℕ) → (k == 10) ≡ false → k ≢ 10
      other k e same = differ (sym (eq-eqb k 10 same) ∙ e)

  -- the registers are those of the first stop, but for a0 and those that are given back
  abbrev IsOld : List ℕ → Type 0
  IsOld x = (length x ≡ length old) × ((k : ℕ) → k ≢ 10 → IsAway k (words_of (words_in old)) → get_or x k 0 ≡ get_or old k 0)

  -- where the answer is told last
  pub answered_back : (x : List ℕ) → IsOld x → slice_set (with_words (words_of (words_in old)) x) 10 word ≡ slice_set old 10 word
  answered_back x is =
      words_back (words_of (words_in old) ++ (10, word) ∷ []) x target (is.0 ∙ sym (length-set old 10 word)) (are_in ((10, word) ∷ []) (below 10 (omega arith), answer_in, tt))
      (λ k away. is.1 k (last k away) (first k away) ∙ sym (in_target k (last k away)))
    where
      last : (k : ℕ) → IsAway k (words_of (words_in old) ++ (10, word) ∷ []) → k ≢ 10
      last k away = away.1.1.1.1.1.1.0

      first : (k : ℕ) → IsAway k (words_of (words_in old) ++ (10, word) ∷ []) → IsAway k (words_of (words_in old))
      first k away = (away.0, (away.1.0, (away.1.1.0, (away.1.1.1.0, (away.1.1.1.1.0, (away.1.1.1.1.1.0, tt))))))

  -- where it stands there already
  pub swapped_back : (x : List ℕ) → IsOld x → get_or x 10 0 ≡ word → with_words (words_of (words_in old)) x ≡ slice_set old 10 word
  swapped_back x is answer = words_back (words_of (words_in old)) x target (is.0 ∙ sym (length-set old 10 word)) (are_in [] tt) by
    where
      by : (k : ℕ) → IsAway k (words_of (words_in old)) → get_or x k 0 ≡ get_or target k 0
      by k away = elim (cases_eq k 10) [
        | inl is_ten ↦ ap (λ k. get_or x k 0) is_ten ∙ answer ∙ sym answer_in ∙ ap (λ k. get_or target k 0) (sym is_ten)
        | inr other ↦ is.1 k other away ∙ sym (in_target k other)
      ]

-- ---- the registers behind a swap, and behind an answer

not_argument : (k register : ℕ) → IsArgument register → k ≢ 10 → k ≢ 11 → k ≢ 12 → k ≢ 13 → k ≢ register
not_argument k register within ten eleven twelve thirteen same = let h : ⊥ = omega (arith, within.0, within.1, ten, eleven, twelve, thirteen, same) in h

module _ (old : List ℕ) (word : ℕ) (long : 17 < length old) where
  abbrev Away : ℕ → Type 0
  Away k = IsAway k (words_of (words_in old))

  one_set : (register at : ℕ) → IsArgument register → (k : ℕ) → k ≢ 10 → Away k → get_or (slice_set old register at) k 0 ≡ get_or old k 0
  one_set register at within k ten away = get_or-set_other old register k at 0 (not_argument k register within ten away.0 away.1.0 away.1.1.0)

  swap_set : (sp : ℕ) (r : Request) (first : NewText) (second : Option NewText) → AreOfPaths r first second → (k : ℕ) → k ≢ 10 → Away k → get_or (with_words (addresses_at sp (new_texts first second)) old) k 0 ≡ get_or old k 0
  swap_set sp r first None named k ten away = one_set first.register _ (path_registers r 0 first.register named.one) k ten away
  swap_set sp r first (Some n) named k ten away =
      get_or-set_other (slice_set old first.register _) n.register k _ 0 (not_argument k n.register (path_registers r 1 n.register named.two) ten away.0 away.1.0 away.1.1.0)
      ∙ one_set first.register _ (path_registers r 0 first.register named.one) k ten away

  swap_length : (sp : ℕ) (first : NewText) (second : Option NewText) → length (with_words (addresses_at sp (new_texts first second)) old) ≡ length old
  swap_length sp first None = length-set old first.register _
  swap_length sp first (Some n) = length-set (slice_set old first.register _) n.register _ ∙ length-set old first.register _

  pub old_behind_swap : (sp : ℕ) (r : Request) (first : NewText) (second : Option NewText) → AreOfPaths r first second → IsOld old word long (slice_set (with_words (addresses_at sp (new_texts first second)) old) 10 word)
  old_behind_swap sp r first second named = (
    length-set (with_words (addresses_at sp (new_texts first second)) old) 10 word ∙ swap_length sp first second,
    λ k ten away. get_or-set_other (with_words (addresses_at sp (new_texts first second)) old) 10 k word 0 ten ∙ swap_set sp r first second named k ten away,
  )

  pub answer_behind_swap : (sp : ℕ) (first : NewText) (second : Option NewText) → get_or (slice_set (with_words (addresses_at sp (new_texts first second)) old) 10 word) 10 0 ≡ word
  answer_behind_swap sp first second =
      get_or-set_same (with_words (addresses_at sp (new_texts first second)) old) 10 word 0 (ten_below (length (with_words (addresses_at sp (new_texts first second)) old)) (subst (λ n. 17 < n) (sym (swap_length sp first second)) long))
    where
      ten_below : (n : ℕ) → 17 < n → 10 < n
      ten_below n long = omega (arith, long)

  pub old_behind_answer : (number told : ℕ) → IsOld old word long (slice_set (slice_set old 17 number) 10 told)
  old_behind_answer number told = (
    length-set (slice_set old 17 number) 10 told ∙ length-set old 17 number,
    λ k ten away. get_or-set_other (slice_set old 17 number) 10 k told 0 ten ∙ get_or-set_other old 17 k number 0 away.1.1.1.1.1.0,
  )

-- ---- the whole stop

module _ (x : Tracing) (v : Stopped) (p : Pending) (none : x.identities ≡ None) (at : map.get x.pending v.pid ≡ Some p) (begins : has_begun p v ≡ false) where
  abbrev y : Tracing
  y = without_pending v.pid x

  abbrev left : Tracing
  left = with_tags (tags_after x.tags v.pid (noted p.request p.led.index (answer_at (returned p v)))) y

  pub gives_back : exited x v ≡ (with_tags (tags_after x.tags v.pid (noted p.request p.led.index (answer_at (returned p v)))) y, returned p v)
  gives_back =
      ap (after_pending y v) at
      ∙ ap (λ b. cond b (begin_program y p v) (give_back y p v)) begins
      ∙ ap (λ identities. (let shown = shown_to x.user identities p (returned p v) in (with_identities (remembered_in identities p v.handed.target (register_at shown 10)) left, shown))) none
      ∙ sym (ap (λ identities. (with_identities identities left, returned p v)) none)

are_six : (p : Arguments) → AreRegisters (words_of p)
are_six p = (refl, (refl, (refl, (refl, (refl, (refl, tt))))))

-- what is given back to a process by its registers
back_to : (v : Stopped) (there : IsThere v) (p : Arguments) → given_back p v ≡ edited (record { x = with_words (words_of p) (image_at v).regs.x; pc = (image_at v).regs.pc }) (memory_at v) v
back_to v there p = ap (given_back p) (sym there.one) ∙ words_put v there (words_of p) (image_at v).regs (memory_at v) (are_six p)

-- the answer that is seen
answer_seen : (v : Stopped) (there : IsThere v) (old : List ℕ) (word : ℕ) → 17 < length old
    → answer_at (edited (record { x = slice_set old 10 word; pc = (image_at v).regs.pc }) (memory_at v) v) ≡ cast_signed w64 word
answer_seen v there old word long =
    ap (λ (i : Image). cast_signed w64 (get_or i.regs.x 10 0)) (image_is v there (record { x = slice_set old 10 word; pc = (image_at v).regs.pc }) (memory_at v))
    ∙ ap (cast_signed w64) (answer_in old word long)

module _ (x : Tracing) (v : Stopped) (r : Request) (led : Led) (none : x.identities ≡ None) (there : IsThere v) (old : List ℕ) (long : 17 < length old) where
  abbrev Left : ℕ → Stopped
  Left word = edited (record { x = slice_set old 10 word; pc = (image_at v).regs.pc }) (memory_at v) v

  left_is : (p : Pending) (word : ℕ) → p.request ≡ r → p.led ≡ led → returned p v ≡ Left word → has_begun p v ≡ false → map.get x.pending v.pid ≡ Some p → exited x v ≡ left_with x v r led word old
  left_is p word request leads back begins at =
      gives_back x v p none at begins
      ∙ (λ i. (with_tags (tags_after x.tags v.pid (noted (request i) (leads i).index (answer_at (back i)))) (without_pending v.pid x), back i))
      ∙ ap (λ answer. (with_tags (tags_after x.tags v.pid (noted r led.index answer)) (without_pending v.pid x), Left word)) (answer_seen v there old word long)

pub exits_behind_swaps : ExitsBehindSwaps
exits_behind_swaps x t v r first second led word none at goes is named there there_now regs =
    let old = (image_at t).regs.x in
    let long = has_number (image_at t).regs (memory_at t) r is in
    let p = awaiting (words_in old) r led None in
    let pending = at ∙ ap (λ passed. Some (awaiting passed r led None)) (words_at t there (decoded_at t).memory) in
    let sp = stack_at (after_request t) in
    let begins = ap (λ b. b && is_none p.answer && has_answered_zero v) goes in
    let list = ap (with_words (words_of (words_in old))) regs
    ∙ swapped_back old word long (slice_set (with_words (addresses_at sp (new_texts first second)) old) 10 word) (old_behind_swap old word long sp r first second named) (answer_behind_swap old word long sp first second) in
    let back = back_to v there_now (words_in old) ∙ ap (λ xs. edited (record { x = xs; pc = (image_at v).regs.pc }) (memory_at v) v) list in
    left_is x v r led none there_now old long p word refl refl back begins pending

false_third : (a c : Bool) → (a && false && c) ≡ false
false_third true c = refl
false_third false c = refl

pub exits_behind_answers : ExitsBehindAnswers
exits_behind_answers x t v memory r led answer word none at is there there_now regs =
    let old = (image_at t).regs.x in
    let long = has_number (image_at t).regs (memory_at t) r is in
    let p = awaiting (words_in old) r led (Some answer) in
    let pending = at ∙ ap (λ passed. Some (awaiting passed r led (Some answer))) (words_at t there memory) in
    let begins = false_third (is_execve r) (has_answered_zero v) in
    let list = ap (λ xs. slice_set (with_words (words_of (words_in old)) xs) 10 (word_of answer)) regs
    ∙ answered_back old (word_of answer) long (slice_set (slice_set old 17 no_call) 10 word) (old_behind_answer old (word_of answer) long no_call word) in
    let back = ap (with_register 10 (word_of answer)) (back_to v there_now (words_in old))
    ∙ register_set v there_now 10 (word_of answer) (record { x = with_words (words_of (words_in old)) (image_at v).regs.x; pc = (image_at v).regs.pc }) (memory_at v)
    ∙ ap (λ xs. edited (record { x = xs; pc = (image_at v).regs.pc }) (memory_at v) v) list in
    left_is x v r led none there_now old long p (word_of answer) refl refl back begins pending
