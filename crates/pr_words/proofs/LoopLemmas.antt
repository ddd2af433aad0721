-- Words read one after the other.
use Rattle.std.proofs.Common.{◌≡◌, ◌≢◌, ℕ, ◌+◌, ◌≤◌, List, [], ◌∷◌, length, map, drop, Bool, Some, None, Result, Ok, Err, refl, sym, ap, ◌∙◌, subst, arith}
use Rattle.std.specs.Prelude.{not}
use Rattle.std.specs.List.{position, prefix_len}
use Rattle.std.proofs.lemmas.List.{length-map, length-drop}
use Rattle.pr_words.specs.declared.fault.Why.TheVariants.{ZeroByte}
use Rattle.pr_words.specs.declared.fault.WordsFault.{WordsFault}
use Rattle.pr_words.specs.declared.fault.WordsFault.TheVariants.{Usage, NoMemory}
use Rattle.pr_words.specs.declared.options.Options.{Options}
use Rattle.pr_words.specs.declared.so_far.SoFar.{SoFar}
use Rattle.pr_words.specs.Answers.{IsAnswer}
use Rattle.pr_words.specs.Reading.{accepted, line_of, has_zero, reading_of}
use Rattle.pr_words.specs.Steps.{step_of, StepsTo, finished, so_far_of}
use Rattle.pr_words.proofs.ReadLemmas.{IsReading, reached_more, reached_command, reached_fault, reached_end, reached_first}

-- ---- zero bytes

prefix_len-map : {X Y : Type 0} (p : Y → Bool) (f : X → Y) (xs : List X) → prefix_len p (map f xs) ≡ prefix_len (λ x. p (f x)) xs
prefix_len-map p f [] = refl
prefix_len-map p f (x ∷ xs) = rw (prefix_len-map p f xs) refl

position-map : {X Y : Type 0} (p : Y → Bool) (f : X → Y) (xs : List X) → position p (map f xs) ≡ position (λ x. p (f x)) xs
position-map p f xs = rw (prefix_len-map (λ y. not (p y)) f xs, length-map xs f) refl

pub zero_read : {X : Type 0} (f : X → List ℕ) (xs : List X) (at : ℕ) → position (λ x. has_zero (f x)) xs ≡ Some at → reading_of (map f xs) ≡ Err (Usage (at + 1) ZeroByte)
zero_read f xs at e = rw (position-map has_zero f xs ∙ e) refl

pub no_zero_read : {X : Type 0} (f : X → List ℕ) (xs : List X) → position (λ x. has_zero (f x)) xs ≡ None → reading_of (map f xs) ≡ accepted [] (line_of 1 (map f xs))
no_zero_read f xs e = rw (position-map has_zero f xs ∙ e) refl

-- ---- the loop

pub reading_first : (words : List (List ℕ)) → IsReading (so_far_of []) 1 words words
reading_first words = record { reached = reached_first words; place = omega arith; room = omega arith }

pub reading_more : (s after : SoFar) (n taken : ℕ) (word : List ℕ) (words rest all : List (List ℕ)) → IsReading s n rest all → rest ≡ word ∷ words → StepsTo n (step_of n word words s) (Ok taken) after → taken ≢ 0 → taken ≤ length words + 1 → length after.binds ≤ length s.binds + 1 → IsReading after (n + taken) (drop taken rest) all
reading_more s after n taken word words rest all reading front step some within room =
    let here = subst (λ l. IsReading s n l all) front reading in
    let len = length-drop taken (word ∷ words) in
    let enough : taken ≤ length (word ∷ words) = omega (arith, within) in
    let next : 1 ≤ taken = omega (arith, some) in
    let place = here.place in
    let before = here.room in
    let main : IsReading after (n + taken) (drop taken (word ∷ words)) all = record {
      reached = reached_more s after n taken word words (accepted [] (line_of 1 all)) here.reached step some;
      place = omega (arith, place, len, enough);
      room = omega (arith, before, room, next);
    } in
    subst (λ l. IsReading after (n + taken) (drop taken l) all) (sym front) main

pub command_read : (s after : SoFar) (n : ℕ) (word : List ℕ) (words rest all : List (List ℕ)) (result : Result Options WordsFault) → IsReading s n rest all → rest ≡ word ∷ words → StepsTo n (step_of n word words s) (Ok 0) after → IsAnswer (finished after n rest) result → IsAnswer (accepted [] (line_of 1 all)) result
command_read s after n word words rest all result reading front step answer =
    let here = subst (λ l. IsReading s n l all) front reading in
    let end = reached_command s after n word words (accepted [] (line_of 1 all)) here.reached step in
    subst (λ r. IsAnswer r result) end (subst (λ l. IsAnswer (finished after n l) result) front answer)

pub end_read : (s : SoFar) (n : ℕ) (rest all : List (List ℕ)) (result : Result Options WordsFault) → IsReading s n rest all → length rest ≡ 0 → IsAnswer (finished s n rest) result → IsAnswer (accepted [] (line_of 1 all)) result
end_read s n [] all result reading none answer = subst (λ r. IsAnswer r result) (reached_end s n (accepted [] (line_of 1 all)) reading.reached) answer
end_read s n (word ∷ words) all result reading none answer = absurd (omega (arith, none))

pub fault_read : (s after : SoFar) (n : ℕ) (word : List ℕ) (words rest all : List (List ℕ)) (fault : WordsFault) → IsReading s n rest all → rest ≡ word ∷ words → StepsTo n (step_of n word words s) (Err fault) after → IsAnswer (accepted [] (line_of 1 all)) (Err fault)
fault_read s after n word words rest all (Usage place why) reading front (same, step) =
    let here = subst (λ l. IsReading s n l all) front reading in
    reached_fault s n word words why (accepted [] (line_of 1 all)) here.reached step ∙ ap (λ k. Err (Usage k why)) (sym same)
fault_read s after n word words rest all NoMemory reading front step = tt
