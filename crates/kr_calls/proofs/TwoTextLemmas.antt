-- Two texts that are looked for, and then read.
use Rattle.std.proofs.Common.{◌≡◌, ◌≢◌, ℕ, zero, suc, ◌+◌, Bool, true, false, ◌||◌, cond, List, [], ◌∷◌, Result, Ok, Err, refl, sym, ap, ◌∙◌, subst}
use Rattle.std.specs.Prelude.{nat_eq}
use Rattle.rv_mem.specs.pr_base.declared.errno.Errno.{Errno}
use Rattle.rv_mem.specs.pr_base.declared.errno.Errno.TheVariants.{EFAULT, ENAMETOOLONG, ENOENT}
use Rattle.rv_mem.specs.Actions.{Action, Done, CarriedOut, carried_out}
use Rattle.rv_mem.specs.Memory.{Memory, after_read, size_of_text, text_after, text_of, text_reach}
use Rattle.rv_mem.specs.Pages.{Pages, allows, any_marked, byte_at}
use Rattle.rv_mem.specs.declared.rights.Use.TheVariants.{Read}
use Rattle.rv_mem.specs.declared.fault.TextFault.{TextFault}
use Rattle.rv_mem.specs.declared.fault.TextFault.TheVariants as text
use Rattle.kr_calls.specs.declared.fault.CallFault.{CallFault}
use Rattle.kr_calls.specs.declared.fault.CallFault.TheVariants as call
use Rattle.kr_calls.specs.declared.request.Request.{Request}
use Rattle.kr_calls.specs.Texts.{read_text}
use Rattle.kr_calls.specs.Decodes.{uses_memory, Decodes, Finds, Gives, WantsForTexts}
use Rattle.kr_calls.specs.Decoding.{Decoded, accepts, refuses, unless, text_limit, named, text_read, texts_read, with_text, with_texts}
use Rattle.kr_calls.proofs.TextLemmas.{chosen, read_text_is}

abbrev Pair : Type 0
Pair = List ℕ × List ℕ

-- ---- one text

-- what the text at an address says, where it has to be there
abbrev needed : Result (List ℕ) TextFault → Result (List ℕ) Errno
needed (Ok []) = Err ENOENT
needed (Ok (b ∷ t)) = Ok (b ∷ t)
needed (Err text.BadAddress) = Err EFAULT
needed (Err text.TooLong) = Err ENAMETOOLONG
needed (Err text.NoMemory) = Err EFAULT

abbrev text_in : Pages → ℕ → Result (List ℕ) Errno
text_in m at = needed (text_of m at text_limit)

abbrev after_text : Memory → ℕ → Memory
after_text m at = after_read m at (text_reach m.pages at text_limit)

abbrev done : {A : Type 0} → A → Memory → CarriedOut A
done x m = record { reply = x; memory = m }

chosen_done : (r : Result (List ℕ) TextFault) (m : Memory) → carried_out (chosen (Done (Err EFAULT)) (Done (Err ENAMETOOLONG)) (named false (Done (Err ENOENT)) (λ t. Done (Ok t))) r) m ≡ done (needed r) m
chosen_done (Ok []) m = refl
chosen_done (Ok (b ∷ t)) m = refl
chosen_done (Err text.BadAddress) m = refl
chosen_done (Err text.TooLong) m = refl
chosen_done (Err text.NoMemory) m = refl

text_is : (at : ℕ) (m : Memory) → carried_out (text_read false at) m ≡ done (text_in m.pages at) (after_text m at)
text_is at m = read_text_is text_limit at _ _ _ m ∙ chosen_done (text_of m.pages at text_limit) (after_text m at)

-- a text that is read again changes nothing
or-again : (a b c : Bool) → ((a || b) || c) || b ≡ (a || b) || c
or-again true b c = refl
or-again false true c = refl
or-again false false true = refl
or-again false false false = refl

or-twice : (a b : Bool) → (a || b) || b ≡ a || b
or-twice true b = refl
or-twice false true = refl
or-twice false false = refl

abbrev with_flag : Pages → Bool → Memory
with_flag pages flag = record { pages = pages; read_marked = flag }

first_again : (m : Memory) (one two : ℕ) → after_text (after_text (after_text m one) two) one ≡ after_text (after_text m one) two
first_again m one two = ap (with_flag m.pages) (or-again m.read_marked (any_marked m.pages one _) (any_marked m.pages two _))

second_again : (m : Memory) (two : ℕ) → after_text (after_text m two) two ≡ after_text m two
second_again m two = ap (with_flag m.pages) (or-twice m.read_marked (any_marked m.pages two _))

-- ---- two texts

abbrev pair_of : List ℕ → Result (List ℕ) Errno → Result Pair Errno
pair_of one (Ok two) = Ok (one, two)
pair_of one (Err e) = Err e

abbrev both : Result (List ℕ) Errno → Result (List ℕ) Errno → Memory → ℕ → ℕ → CarriedOut (Result Pair Errno)
both (Ok one) answer m first second = done (pair_of one answer) (after_text (after_text m first) second)
both (Err e) answer m first second = done (Err e) (after_text m first)

abbrev second_read : ℕ → List ℕ → Action (Result Pair Errno)
second_read second one = read_text text_limit second (Done (Err EFAULT)) (Done (Err ENAMETOOLONG)) (named false (Done (Err ENOENT)) (λ two. Done (Ok (one, two))))

paired_done : (one : List ℕ) (r : Result (List ℕ) TextFault) (m : Memory) → carried_out (chosen (Done (Err EFAULT)) (Done (Err ENAMETOOLONG)) (named false (Done (Err ENOENT)) (λ two. Done (Ok (one, two)))) r) m ≡ done (pair_of one (needed r)) m
paired_done one (Ok []) m = refl
paired_done one (Ok (b ∷ t)) m = refl
paired_done one (Err text.BadAddress) m = refl
paired_done one (Err text.TooLong) m = refl
paired_done one (Err text.NoMemory) m = refl

second_is : (second : ℕ) (one : List ℕ) (m : Memory) → carried_out (second_read second one) m ≡ done (pair_of one (text_in m.pages second)) (after_text m second)
second_is second one m = read_text_is text_limit second _ _ _ m ∙ paired_done one (text_of m.pages second text_limit) (after_text m second)

both_done : (second : ℕ) (r : Result (List ℕ) TextFault) (m : Memory) (first : ℕ)
    → carried_out (chosen (Done (Err EFAULT)) (Done (Err ENAMETOOLONG)) (named false (Done (Err ENOENT)) (second_read second)) r) (after_text m first) ≡ both (needed r) (text_in m.pages second) m first second
both_done second (Ok []) m first = refl
both_done second (Ok (b ∷ t)) m first = second_is second (b ∷ t) (after_text m first)
both_done second (Err text.BadAddress) m first = refl
both_done second (Err text.TooLong) m first = refl
both_done second (Err text.NoMemory) m first = refl

texts_are : (first second : ℕ) (m : Memory) → carried_out (texts_read first second) m ≡ both (text_in m.pages first) (text_in m.pages second) m first second
texts_are first second m = read_text_is text_limit first _ _ _ m ∙ both_done second (text_of m.pages first text_limit) m first

-- ---- a text that is looked for

-- no memory is wanted for the text of a memory
abbrev IsNoWant : Result (List ℕ) TextFault → Type 0
IsNoWant (Ok t) = Unit {0}
IsNoWant (Err text.BadAddress) = Unit {0}
IsNoWant (Err text.TooLong) = Unit {0}
IsNoWant (Err text.NoMemory) = ⊥

no_want-after : (b : ℕ) (r : Result (List ℕ) TextFault) → IsNoWant r → IsNoWant (text_after b r)
no_want-after b (Ok t) h = tt
no_want-after b (Err text.BadAddress) h = tt
no_want-after b (Err text.TooLong) h = tt
no_want-after b (Err text.NoMemory) h = h

no_want-if : (c : Bool) (r s : Result (List ℕ) TextFault) → IsNoWant r → IsNoWant s → IsNoWant (cond c r s)
no_want-if true r s h k = h
no_want-if false r s h k = k

no_want : (m : Pages) (at max : ℕ) → IsNoWant (text_of m at max)
unfolding text_of
no_want m at zero = tt
no_want m at (suc max) =
    no_want-if (allows m at Read) _ _
    (no_want-if (nat_eq (byte_at m at) 0) _ _ tt (no_want-after (byte_at m at) (text_of m (at + 1) max) (no_want m (at + 1) max))) tt

no_want_size : (r : Result (List ℕ) TextFault) → IsNoWant r → size_of_text r ≡ Err text.NoMemory → ⊥
no_want_size (Ok t) h e = cc
no_want_size (Err text.BadAddress) h e = cc
no_want_size (Err text.TooLong) h e = cc
no_want_size (Err text.NoMemory) h e = h

pub never_wants : (m : Pages) (at max : ℕ) (r : Result ℕ TextFault) → r ≡ size_of_text (text_of m at max) → r ≡ Err text.NoMemory → ⊥
never_wants m at max r is wants = no_want_size (text_of m at max) (no_want m at max) (sym is ∙ wants)

-- what the size of a text tells of it
abbrev pub told_by : Result ℕ TextFault → Result (Unit {0}) Errno
told_by (Ok zero) = Err ENOENT
told_by (Ok (suc n)) = Ok tt
told_by (Err text.BadAddress) = Err EFAULT
told_by (Err text.TooLong) = Err ENAMETOOLONG
told_by (Err text.NoMemory) = Err EFAULT

pub told_some : (n : ℕ) → n ≢ 0 → told_by (Ok n) ≡ Ok tt
told_some zero some = absurd (some refl)
told_some (suc n) some = refl

abbrev IsTold : Result (Unit {0}) Errno → Result (List ℕ) Errno → Type 0
IsTold (Ok found) answer = (x : List ℕ) × (answer ≡ Ok x)
IsTold (Err e) answer = answer ≡ Err e

told_text : (t : Result (List ℕ) TextFault) → IsTold (told_by (size_of_text t)) (needed t)
told_text (Ok []) = refl
told_text (Ok (b ∷ t)) = (b ∷ t, refl)
told_text (Err text.BadAddress) = refl
told_text (Err text.TooLong) = refl
told_text (Err text.NoMemory) = refl

finds_told : (r : Result (Unit {0}) Errno) (at : ℕ) (m new : Memory) → IsTold r (text_in m.pages at) → new ≡ after_text m at → Finds r (text_read false at) m new
finds_told (Ok found) at m new told after = (told.0, ap (λ d. d.reply) (text_is at m) ∙ told.1, after ∙ sym (ap (λ d. d.memory) (text_is at m)))
finds_told (Err e) at m new told after = (ap (λ d. d.reply) (text_is at m) ∙ told, after ∙ sym (ap (λ d. d.memory) (text_is at m)))

-- looking for a text by its size
pub finds : (at : ℕ) (m new : Memory) (size : Result ℕ TextFault) (r : Result (Unit {0}) Errno) → size ≡ size_of_text (text_of m.pages at text_limit) → new ≡ after_text m at → told_by size ≡ r
    → Finds r (text_read false at) m new
finds at m new size r is after tells =
    finds_told r at m new (subst (λ x. IsTold x (text_in m.pages at)) (ap told_by (sym is) ∙ tells) (told_text (text_of m.pages at text_limit))) after

-- ---- both are looked for, and then read

found_in : (at : ℕ) (m new : Memory) → Finds (Ok tt) (text_read false at) m new → (x : List ℕ) × (text_in m.pages at ≡ Ok x) × (new ≡ after_text m at)
found_in at m new found = (found.0, sym (ap (λ d. d.reply) (text_is at m)) ∙ found.1, found.2 ∙ ap (λ d. d.memory) (text_is at m))

missed_in : (at : ℕ) (m new : Memory) (e : Errno) → Finds (Err e) (text_read false at) m new → (text_in m.pages at ≡ Err e) × (new ≡ after_text m at)
missed_in at m new e missed = (sym (ap (λ d. d.reply) (text_is at m)) ∙ missed.0, missed.1 ∙ ap (λ d. d.memory) (text_is at m))

gives_in : (at : ℕ) (m new : Memory) (r : Result (List ℕ) CallFault) → Decodes r (text_read false at) m new → Gives r (done (text_in m.pages at) (after_text m at)) new
gives_in at m new r h = subst (λ d. Gives r d new) (text_is at m) h

-- the first isn't there
pub first_missed : (first second : ℕ) (m new : Memory) (e : Errno) → Finds (Err e) (text_read false first) m new → Decodes {A = Pair} (Err (call.Err e)) (texts_read first second) m new
first_missed first second m new e missed =
    let is = missed_in first m new e missed in
    let whole = texts_are first second m ∙ ap (λ answer. both answer (text_in m.pages second) m first second) is.0 in
    (ap (λ d. d.reply) whole, is.1 ∙ sym (ap (λ d. d.memory) whole))

-- the second isn't
pub second_missed : (first second : ℕ) (m between new : Memory) (e : Errno) → Finds (Ok tt) (text_read false first) m between → Finds (Err e) (text_read false second) between new
    → Decodes {A = Pair} (Err (call.Err e)) (texts_read first second) m new
second_missed first second m between new e found missed =
    let one = found_in first m between found in
    let two = missed_in second between new e missed in
    let there : text_in m.pages second ≡ Err e = ap (λ (s : Memory). text_in s.pages second) (sym one.2) ∙ two.0 in
    let whole = texts_are first second m ∙ ap (λ answer. both answer (text_in m.pages second) m first second) one.1
    ∙ ap (λ answer. both (Ok one.0) answer m first second) there in
    (ap (λ d. d.reply) whole, two.1 ∙ ap (λ s. after_text s second) one.2 ∙ sym (ap (λ d. d.memory) whole))

other_reply : {A : Type 0} (x : A) (e : Errno) → Ok x ≡ Err e → ⊥
other_reply x e h = cc

abbrev told : List ℕ → Result (List ℕ) Errno
told x = Ok x

abbrev both_told : List ℕ → List ℕ → Result Pair Errno
both_told x y = Ok (x, y)

same_pair : (x y one two : List ℕ) → told x ≡ told one → told y ≡ told two → both_told x y ≡ both_told one two
same_pair x y one two e f = let e' : x ≡ one = cc in let f' : y ≡ two = cc in ap (λ a. both_told a y) e' ∙ ap (λ b. both_told one b) f'

-- what both texts come to
module _ (first second : ℕ) (m m1 m2 : Memory) (found : Finds (Ok tt) (text_read false first) m m1) (found' : Finds (Ok tt) (text_read false second) m1 m2) where
  all : Memory
  all = after_text (after_text m first) second

  is_all : m2 ≡ after_text (after_text m first) second
  is_all = (found_in second m1 m2 found').2 ∙ ap (λ s. after_text s second) (found_in first m m1 found).2

  one_there : (n : Memory) → n ≡ after_text (after_text m first) second → text_in n.pages first ≡ Ok (found_in first m m1 found).0
  one_there n is = ap (λ (s : Memory). text_in s.pages first) is ∙ (found_in first m m1 found).1

  two_there : (n : Memory) → n ≡ after_text (after_text m first) second → text_in n.pages second ≡ Ok (found_in second m1 m2 found').0
  two_there n is =
      ap (λ (s : Memory). text_in s.pages second) is
      ∙ ap (λ (s : Memory). text_in s.pages second) (sym (found_in first m m1 found).2) ∙ (found_in second m1 m2 found').1

  whole : carried_out (texts_read first second) m ≡ done (Ok ((found_in first m m1 found).0, (found_in second m1 m2 found').0)) (after_text (after_text m first) second)
  whole =
      texts_are first second m
      ∙ ap (λ answer. both answer (text_in m.pages second) m first second) (found_in first m m1 found).1
      ∙ ap (λ answer. both (Ok (found_in first m m1 found).0) answer m first second)
      (ap (λ (s : Memory). text_in s.pages second) (sym (found_in first m m1 found).2) ∙ (found_in second m1 m2 found').1)

  -- a text that was found isn't read for want of memory
  unread : (at : ℕ) (x : List ℕ) (n m3 : Memory) (fault : CallFault) → text_in n.pages at ≡ Ok x → after_text n at ≡ after_text (after_text m first) second → Gives {A = List ℕ} (Err fault) (done (text_in n.pages at) (after_text n at)) m3
      → Decodes {A = Pair} (Err fault) (texts_read first second) m m3
  unread at x n m3 (call.Err e) there same gives = absurd (other_reply x e (sym there ∙ gives.0))
  unread at x n m3 call.NoMemory there same gives = gives ∙ same ∙ sym (ap (λ d. d.memory) whole)

  pub first_unread : (m3 : Memory) (fault : CallFault) → Decodes {A = List ℕ} (Err fault) (text_read false first) m2 m3 → Decodes {A = Pair} (Err fault) (texts_read first second) m m3
  first_unread m3 fault read =
      unread first (found_in first m m1 found).0 m2 m3 fault (one_there m2 is_all) (ap (λ s. after_text s first) is_all ∙ first_again m first second) (gives_in first m2 m3 (Err fault) read)

  -- after the first text was read the memory is the same
  still_all : (m3 : Memory) (one : List ℕ) → Decodes (Ok one) (text_read false first) m2 m3 → m3 ≡ after_text (after_text m first) second
  still_all m3 one read = (gives_in first m2 m3 (Ok one) read).1 ∙ ap (λ s. after_text s first) is_all ∙ first_again m first second

  pub second_unread : (m3 m4 : Memory) (one : List ℕ) (fault : CallFault) → Decodes (Ok one) (text_read false first) m2 m3 → Decodes {A = List ℕ} (Err fault) (text_read false second) m3 m4
      → Decodes {A = Pair} (Err fault) (texts_read first second) m m4
  second_unread m3 m4 one fault read read' =
      let still = still_all m3 one read in
      unread second (found_in second m1 m2 found').0 m3 m4 fault (two_there m3 still) (ap (λ s. after_text s second) still ∙ second_again (after_text m first) second) (gives_in second m3 m4 (Err fault) read')

  pub both_read : (m3 m4 : Memory) (one two : List ℕ) → Decodes (Ok one) (text_read false first) m2 m3 → Decodes (Ok two) (text_read false second) m3 m4
      → Decodes (Ok (one, two)) (texts_read first second) m m4
  both_read m3 m4 one two read read' =
      let still = still_all m3 one read in
      let one_is = sym (one_there m2 is_all) ∙ (gives_in first m2 m3 (Ok one) read).0 in
      let two_is = sym (two_there m3 still) ∙ (gives_in second m3 m4 (Ok two) read').0 in (
        ap (λ d. d.reply) whole ∙ same_pair (found_in first m m1 found).0 (found_in second m1 m2 found').0 one two one_is two_is,
        (gives_in second m3 m4 (Ok two) read').1 ∙ ap (λ s. after_text s second) still ∙ second_again (after_text m first) second ∙ sym (ap (λ d. d.memory) whole),
      )

-- looking for texts uses the memory
pub texts_want : (first second : ℕ) (result : Result Pair CallFault) → WantsForTexts result (texts_read first second)
unfolding read_text
texts_want first second result wanting = refl

-- ---- a call with two texts

abbrev ok_both : (List ℕ → List ℕ → Request) → Result Pair Errno → Result Request Errno
ok_both f (Ok pair) = Ok (f pair.0 pair.1)
ok_both f (Err errno) = Err errno

abbrev with_both : (List ℕ → List ℕ → Request) → CarriedOut (Result Pair Errno) → CarriedOut Decoded
with_both f d = record { reply = ok_both f d.reply; memory = d.memory }

abbrev asks : (List ℕ → List ℕ → Request) → ℕ → List ℕ → Action Decoded
asks f second one = with_text false second (λ two. accepts (f one two))

second_mapped : (f : List ℕ → List ℕ → Request) (one : List ℕ) (r : Result (List ℕ) TextFault) (m : Memory)
    → carried_out (chosen (refuses EFAULT) (refuses ENAMETOOLONG) (named false (refuses ENOENT) (λ two. accepts (f one two))) r) m ≡ with_both f (done (pair_of one (needed r)) m)
second_mapped f one (Ok []) m = refl
second_mapped f one (Ok (b ∷ t)) m = refl
second_mapped f one (Err text.BadAddress) m = refl
second_mapped f one (Err text.TooLong) m = refl
second_mapped f one (Err text.NoMemory) m = refl

second_asked : (f : List ℕ → List ℕ → Request) (second : ℕ) (one : List ℕ) (m : Memory) → carried_out (asks f second one) m ≡ with_both f (done (pair_of one (text_in m.pages second)) (after_text m second))
second_asked f second one m = read_text_is text_limit second _ _ _ m ∙ second_mapped f one (text_of m.pages second text_limit) (after_text m second)

first_mapped : (f : List ℕ → List ℕ → Request) (second : ℕ) (r : Result (List ℕ) TextFault) (m : Memory) (first : ℕ)
    → carried_out (chosen (refuses EFAULT) (refuses ENAMETOOLONG) (named false (refuses ENOENT) (asks f second)) r) (after_text m first) ≡ with_both f (both (needed r) (text_in m.pages second) m first second)
first_mapped f second (Ok []) m first = refl
first_mapped f second (Ok (b ∷ t)) m first = second_asked f second (b ∷ t) (after_text m first)
first_mapped f second (Err text.BadAddress) m first = refl
first_mapped f second (Err text.TooLong) m first = refl
first_mapped f second (Err text.NoMemory) m first = refl

row_is : (f : List ℕ → List ℕ → Request) (first second : ℕ) (m : Memory) → carried_out (with_texts first second (λ one two. accepts (f one two))) m ≡ with_both f (carried_out (texts_read first second) m)
row_is f first second m =
    read_text_is text_limit first _ _ _ m ∙ first_mapped f second (text_of m.pages first text_limit) m first ∙ ap (with_both f) (sym (texts_are first second m))

-- its texts are read where its tests pass
abbrev row : (List ℕ → List ℕ → Request) → Bool → ℕ → ℕ → Action Decoded
row f broken first second = unless broken (with_texts first second (λ one two. accepts (f one two)))

pub accepted : (broken : Bool) (first first' second second' : ℕ) (f : List ℕ → List ℕ → Request) (m new : Memory) (one two : List ℕ) (request : Request)
    → broken ≡ false → first' ≡ first → second' ≡ second → request ≡ f one two → Decodes (Ok (one, two)) (texts_read first' second') m new
    → Decodes (Ok request) (row f broken first second) m new
accepted broken first first' second second' f m new one two request passed is_first is_second is h =
    let h' = subst (λ a. Decodes (Ok (one, two)) (texts_read first a) m new) is_second (subst (λ a. Decodes (Ok (one, two)) (texts_read a second') m new) is_first h) in
    subst (λ b. Decodes (Ok request) (row f b first second) m new) (sym passed)
    (subst (λ w. Gives (Ok request) w new) (sym (row_is f first second m)) (ap (ok_both f) h'.0 ∙ ap Ok (sym is), h'.1))

failed_row : (fault : CallFault) (f : List ℕ → List ℕ → Request) (d : CarriedOut (Result Pair Errno)) (new : Memory) → Gives {A = Pair} (Err fault) d new → Gives {A = Request} (Err fault) (with_both f d) new
failed_row (call.Err errno) f d new h = (ap (ok_both f) h.0, h.1)
failed_row call.NoMemory f d new h = h

pub failed : (broken : Bool) (first first' second second' : ℕ) (f : List ℕ → List ℕ → Request) (m new : Memory) (fault : CallFault)
    → broken ≡ false → first' ≡ first → second' ≡ second → Decodes {A = Pair} (Err fault) (texts_read first' second') m new → Decodes {A = Request} (Err fault) (row f broken first second) m new
failed broken first first' second second' f m new fault passed is_first is_second h =
    let h' = subst (λ a. Decodes {A = Pair} (Err fault) (texts_read first a) m new) is_second (subst (λ a. Decodes {A = Pair} (Err fault) (texts_read a second') m new) is_first h) in
    subst (λ b. Decodes {A = Request} (Err fault) (row f b first second) m new) (sym passed)
    (subst (λ w. Gives {A = Request} (Err fault) w new) (sym (row_is f first second m)) (failed_row fault f _ new h'))

pub may_want : (broken : Bool) (first second : ℕ) (f : List ℕ → List ℕ → Request) (result : Result Request CallFault) → broken ≡ false → WantsForTexts result (row f broken first second)
unfolding read_text
may_want broken first second f result passed wanting = ap (λ b. uses_memory (row f b first second)) passed
