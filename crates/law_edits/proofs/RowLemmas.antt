-- One call's row on the registers and the memory before a swap of its paths, and behind it. Rows with one text go by what they have in common, and
-- those with two each by itself.
use Rattle.std.proofs.Common.{◌≡◌, ◌≢◌, ℕ, ◌+◌, ◌%◌, ◌^◌, Bool, true, false, cond, List, [], ◌∷◌, map, Option, Some, None, Ok, Err, ℤ, arith, refl, sym, ap, subst, ◌∙◌}
use Rattle.std.specs.Prelude.{◌==◌, slice_index}
use Rattle.std.specs.Int.{cast_signed, w32}
use Rattle.std.proofs.lemmas.Bool.Decides.{nat_tests}
use Rattle.std.proofs.lemmas.Option.{same_Some}
use Rattle.pt_tracer.specs.pr_base.declared.errno.Errno.{Errno}
use Rattle.pt_tracer.specs.rv_mem.Actions.{Action, AreEqualUnmarked, carried_out}
use Rattle.pt_tracer.specs.rv_mem.Memory.{Memory, text_of}
use Rattle.pt_tracer.specs.rv_mem.declared.regs.Regs.{Regs}
use Rattle.law_walks.specs.kr_calls.Arguments.{has_other, long, word}
use Rattle.law_walks.specs.kr_calls.Decoding.{Decoded, NumberedRow, Row, Gives, Tests, ReadsOne, ReadsTwo, accepts, action_of, by_rows, decoding_of, link_flags, decoded_linkat, linkat_with, decoded_renameat2, renameat2_with, rows, decoded_symlinkat, symlinkat_with, text_limit, unless, with_texts}
use Rattle.law_walks.specs.kr_calls.CallTable.{line}
use Rattle.law_walks.proofs.kr_calls.DecodingLemmas.{decodings_go_by_rows, request_of}
use Rattle.law_walks.specs.kr_calls.declared.request.Request.{Request}
use Rattle.law_walks.specs.kr_calls.declared.request.Request.TheVariants as call
use Rattle.law_edits.specs.Requests.{AreOfPaths, IsOfSecond, NewText, path_register, with_first, with_second, with_swaps}
use Rattle.law_edits.specs.Swapped.{AreSwapped, IsNotSecond, IsPut, IsSecondPut}
use Rattle.law_edits.proofs.TextLemmas.{AreRead, accepted_is, text_alike, text_on, text_read_of, texts_on, texts_read_of}

none_is : {P : Type 0} (b : ℕ) → None ≡ Some b → P
none_is b e = absurd cc

pub refused_is : {P : Type 0} (e : Errno) (r : Request) → ◌≡◌ {A = Decoded} (Err e) (Ok r) → P
refused_is e r h = absurd cc

-- numbers that a test tells apart
apart : (j k : ℕ) → (j == k) ≡ false → 10 + j ≢ 10 + k
apart j k e same = let is : (j == k) ≡ true = grind (arith, nat_tests) in absurd (let both : true ≡ false = sym is ∙ e in cc)

-- ---- rows with one text: what they have in common

abbrev reads_one : Row → Bool
reads_one (Gives request) = false
reads_one (Tests broken row) = reads_one row
reads_one (ReadsOne may_be_empty argument request) = true
reads_one (ReadsTwo first second request) = false

abbrev reads_two : Row → Bool
reads_two (Gives request) = false
reads_two (Tests broken row) = reads_two row
reads_two (ReadsOne may_be_empty argument request) = false
reads_two (ReadsTwo first second request) = true

-- the argument with the address of the text
abbrev argument_of : Row → ℕ
argument_of (Gives request) = 0
argument_of (Tests broken row) = argument_of row
argument_of (ReadsOne may_be_empty argument request) = argument
argument_of (ReadsTwo first second request) = first

abbrev tests_of : Row → Regs → List Bool
tests_of (Gives request) regs = []
tests_of (Tests broken row) regs = broken regs ∷ tests_of row regs
tests_of (ReadsOne may_be_empty argument request) regs = []
tests_of (ReadsTwo first second request) regs = []

-- registers with these arguments, and those of others with argument k in place of their own
abbrev holding : (a0 a1 a2 a3 a4 : ℕ) → Regs
holding a0 a1 a2 a3 a4 = record { x = 0 ∷ 0 ∷ 0 ∷ 0 ∷ 0 ∷ 0 ∷ 0 ∷ 0 ∷ 0 ∷ 0 ∷ a0 ∷ a1 ∷ a2 ∷ a3 ∷ a4 ∷ []; pc = 0 }

abbrev but : (k v : ℕ) → Regs → Regs
but k v regs = holding (cond (0 == k) v (long regs 0)) (cond (1 == k) v (long regs 1)) (cond (2 == k) v (long regs 2)) (cond (3 == k) v (long regs 3)) (cond (4 == k) v (long regs 4))

abbrev Fact : Type 0
Fact = Request × Request × List Bool × Option ℕ × Option ℕ

abbrev no_fact : Fact
no_fact = (call.Getpid, call.Getpid, [], None, None)

-- what a row says, its text in argument k or another one there, and what it then says: the same of all other arguments, with the other text. The
-- request has one path, in that argument's register; without a text it has none
module _ (row : Row) (regs : Regs) (v : ℕ) (t t' : List ℕ) where
  abbrev own_one : Fact
  own_one =
      (request_of row regs t [], with_first t' (request_of row regs t []), tests_of row regs, path_register (request_of row regs t []) 0, path_register (request_of row regs t []) 1)

  abbrev other_one : Fact
  other_one =
      let k = argument_of row in
      (request_of row (but k (long regs k) regs) t [], request_of row (but k v regs) t' [], tests_of row (but k v regs), Some (10 + k), None)

  abbrev own_none : Fact
  own_none = (call.Getpid, call.Getpid, [], cond (reads_two row) None (path_register (request_of row regs [] []) 0), None)

  abbrev own_fact : Fact
  own_fact = cond (reads_one row) own_one own_none

  abbrev other_fact : Fact
  other_fact = cond (reads_one row) other_one no_fact

module _ (regs : Regs) (v : ℕ) (t t' : List ℕ) where
  abbrev own_facts : List NumberedRow → List Fact
  own_facts rows = map (λ (numbered : NumberedRow). own_fact numbered.row regs v t t') rows

  abbrev other_facts : List NumberedRow → List Fact
  other_facts rows = map (λ (numbered : NumberedRow). other_fact numbered.row regs v t t') rows

  facts_agree : own_facts rows ≡ other_facts rows
  facts_agree = refl

abbrev Agrees : Row → Type 0
Agrees row = (regs : Regs) (v : ℕ) (t t' : List ℕ) → own_fact row regs v t t' ≡ other_fact row regs v t t'

abbrev Agree : List NumberedRow → Type 0
Agree rows = (regs : Regs) (v : ℕ) (t t' : List ℕ) → own_facts regs v t t' rows ≡ other_facts regs v t t' rows

first_same : {A : Type 0} (a b : A) (xs ys : List A) → a ∷ xs ≡ b ∷ ys → a ≡ b
first_same a b xs ys e = cc

rest_same : {A : Type 0} (a b : A) (xs ys : List A) → a ∷ xs ≡ b ∷ ys → xs ≡ ys
rest_same a b xs ys e = cc

facts_of_one : (row : Row) → Agrees row → reads_one row ≡ true → (regs : Regs) (v : ℕ) (t t' : List ℕ) → own_one row regs v t t' ≡ other_one row regs v t t'
facts_of_one row agrees one regs v t t' =
    sym (ap (λ b. cond b (own_one row regs v t t') (own_none row regs v t t')) one) ∙ agrees regs v t t' ∙ ap (λ b. cond b (other_one row regs v t t') no_fact) one

facts_of_none : (row : Row) → Agrees row → reads_one row ≡ false → reads_two row ≡ false → (regs : Regs) → path_register (request_of row regs [] []) 0 ≡ None
facts_of_none row agrees one two regs =
    sym (ap (λ b. cond b None (path_register (request_of row regs [] []) 0)) two)
    ∙ ap (λ (f : Fact). f.3)
    (sym (ap (λ b. cond b (own_one row regs 0 [] []) (own_none row regs 0 [] [])) one) ∙ agrees regs 0 [] [] ∙ ap (λ b. cond b (other_one row regs 0 [] []) no_fact) one)

-- ---- what such a row is decoded to

abbrev pass : List Bool → Type 0
pass [] = Unit {0}
pass (broken ∷ tests) = (broken ≡ false) × pass tests

record IsRead (row : Row) (regs : Regs) (r : Request) : Type 0 where
  text : List ℕ
  is : request_of row regs text [] ≡ r
  passed : pass (tests_of row regs)

read_of : (row : Row) (regs : Regs) (m : Memory) (r : Request) → reads_one row ≡ true → (carried_out (action_of row regs) m).reply ≡ Ok r → IsRead row regs r
read_of (Gives request) regs m r one e = absurd cc
read_of (Tests broken row) regs m r one e = by (broken regs) refl (read_of row regs m r one) e
  where
    by : (b : Bool) → broken regs ≡ b → ((carried_out (action_of row regs) m).reply ≡ Ok r → IsRead row regs r) → (carried_out (unless b (action_of row regs)) m).reply ≡ Ok r → IsRead (Tests broken row) regs r
    by true is rest e = refused_is _ r e
    by false is rest e = let own = rest e in record { text = own.text; is = own.is; passed = (is, own.passed) }
read_of (ReadsOne may_be_empty argument request) regs m r one e =
    let own = text_read_of (long regs argument) (λ t. accepts (request regs t)) m r (may_be_empty regs) e in
    record { text = own.text; is = accepted_is (request regs own.text) r (sym (ap (λ d. d.reply) own.whole) ∙ e); passed = tt }
read_of (ReadsTwo first second request) regs m r one e = absurd cc

given_on : (row : Row) (regs : Regs) (w : Memory) (t : List ℕ) → reads_one row ≡ true → pass (tests_of row regs) → text_of w.pages (long regs (argument_of row)) text_limit ≡ Ok t → t ≢ []
    → (carried_out (action_of row regs) w).reply ≡ Ok (request_of row regs t [])
given_on (Gives request) regs w t one passed stands some = absurd cc
given_on (Tests broken row) regs w t one passed stands some =
    ap (λ b. (carried_out (unless b (action_of row regs)) w).reply) passed.0 ∙ given_on row regs w t one passed.1 stands some
given_on (ReadsOne may_be_empty argument request) regs w t one passed stands some =
    ap (λ d. d.reply) (text_on (may_be_empty regs) (long regs argument) (λ t. accepts (request regs t)) w t stands some)
given_on (ReadsTwo first second request) regs w t one passed stands some = absurd cc

came_of : (row : Row) (regs : Regs) (m : Memory) (r : Request) → reads_one row ≡ false → reads_two row ≡ false → (carried_out (action_of row regs) m).reply ≡ Ok r → request_of row regs [] [] ≡ r
came_of (Gives request) regs m r one two e = accepted_is (request regs) r e
came_of (Tests broken row) regs m r one two e = by (broken regs) (came_of row regs m r one two) e
  where
    by : (b : Bool) → ((carried_out (action_of row regs) m).reply ≡ Ok r → request_of row regs [] [] ≡ r) → (carried_out (unless b (action_of row regs)) m).reply ≡ Ok r → request_of row regs [] [] ≡ r
    by true rest e = refused_is _ r e
    by false rest e = rest e
came_of (ReadsOne may_be_empty argument request) regs m r one two e = absurd cc
came_of (ReadsTwo first second request) regs m r one two e = absurd cc

abbrev two_at : List NumberedRow → ℕ → Bool
two_at [] n = false
two_at (numbered ∷ rest) n = cond (n == numbered.number) (reads_two numbered.row) (two_at rest n)

module _ (old new : Regs) (m w : Memory) (r : Request) (first : NewText) (second : Option NewText) where
  -- where the one action gives the request, the other one gives it with its new texts
  pub record Goes (one other : Action Decoded) : Type 0 where
    pub go : (carried_out one m).reply ≡ Ok r → (carried_out one m).memory.read_marked ≡ false → (carried_out other w).reply ≡ Ok (with_swaps first second r)

  module _ (named : AreOfPaths r first second) where
    module _ (alike : AreEqualUnmarked m.pages w.pages) (swapped : AreSwapped first second old new w.pages) where
      -- ---- a call with one text, at the address in argument k

      abbrev pub KeepsAllBut : ℕ → Type 0
      KeepsAllBut k = (j : ℕ) → (j == k) ≡ false → long new j ≡ long old j

      module _ (k : ℕ) (f : List ℕ → Request) (t : List ℕ) (is : f t ≡ r) (register : path_register (f t) 0 ≡ Some (10 + k)) (alone : path_register (f t) 1 ≡ None) where
        first_at : first.register ≡ 10 + k
        first_at = sym (same_Some (10 + k) first.register (sym register ∙ ap (λ q. path_register q 0) is ∙ named.one))

        none_second : (o : Option NewText) → IsOfSecond r o → o ≡ None
        none_second None two = refl
        none_second (Some s) two = none_is s.register (sym alone ∙ ap (λ q. path_register q 1) is ∙ two)

        second_none : second ≡ None
        second_none = none_second second named.two

        one_keeps : KeepsAllBut k
        one_keeps j away = swapped.same (10 + j) (λ same. apart j k away (same ∙ first_at)) (subst (IsNotSecond (10 + j)) (sym second_none) tt)

        one_stands : text_of w.pages (long new k) text_limit ≡ Ok first.text
        one_stands = ap (λ register. text_of w.pages (slice_index new.x register) text_limit) (sym first_at) ∙ swapped.one.stands

      module _ (row : Row) (agrees : Agrees row) (one : reads_one row ≡ true) (keeps : KeepsAllBut (argument_of row)) where
        argument_stays : (v j : ℕ) → cond (j == argument_of row) v (long new j) ≡ cond (j == argument_of row) v (long old j)
        argument_stays v j = by (j == argument_of row) refl
          where
            by : (b : Bool) → (j == argument_of row) ≡ b → cond b v (long new j) ≡ cond b v (long old j)
            by true is = refl
            by false is = keeps j is

        others_stay : (v : ℕ) → but (argument_of row) v new ≡ but (argument_of row) v old
        others_stay v = λ i. holding (argument_stays v 0 i) (argument_stays v 1 i) (argument_stays v 2 i) (argument_stays v 3 i) (argument_stays v 4 i)

        tests_stay : tests_of row new ≡ tests_of row old
        tests_stay =
            ap (λ (f : Fact). f.2) (facts_of_one row agrees one new 0 [] []) ∙ ap (tests_of row) (others_stay 0) ∙ sym (ap (λ (f : Fact). f.2) (facts_of_one row agrees one old 0 [] []))

        swapped_request : (t t' : List ℕ) → request_of row new t' [] ≡ with_first t' (request_of row old t [])
        swapped_request t t' =
            let v = long new (argument_of row) in
            ap (λ (f : Fact). f.0) (facts_of_one row agrees one new 0 t' []) ∙ ap (λ regs. request_of row regs t' []) (others_stay v) ∙ sym (ap (λ (f : Fact). f.1) (facts_of_one row agrees one old v t t'))

      one_goes : (row : Row) → Agrees row → reads_one row ≡ true → Goes (action_of row old) (action_of row new)
      one_goes row agrees one = record {
        go = λ e unread.
            let own = read_of row old m r one e in
            let facts = facts_of_one row agrees one old 0 own.text [] in
            let f : List ℕ → Request = λ t. request_of row old t [] in
            let register : path_register (f own.text) 0 ≡ Some (10 + argument_of row) = ap (λ (f : Fact). f.3) facts in
            let alone : path_register (f own.text) 1 ≡ None = ap (λ (f : Fact). f.4) facts in
            let keeps = one_keeps (argument_of row) f own.text own.is register alone in
            given_on row new w first.text one (subst pass (sym (tests_stay row agrees one keeps)) own.passed) (one_stands (argument_of row) f own.text own.is register alone) swapped.one.some
            ∙ ap Ok (swapped_request row agrees one keeps own.text first.text ∙ ap (with_first first.text) own.is
            ∙ sym (ap (λ o. with_swaps first o r) (second_none (argument_of row) f own.text own.is register alone)));
      }

      none_goes : (row : Row) → Agrees row → reads_one row ≡ false → reads_two row ≡ false → Goes (action_of row old) (action_of row new)
      none_goes row agrees one two = record {
        go = λ e unread. none_is first.register (sym (facts_of_none row agrees one two old) ∙ ap (λ q. path_register q 0) (came_of row old m r one two e) ∙ named.one);
      }

      row_goes : (row : Row) → Agrees row → (b : Bool) → reads_one row ≡ b → reads_two row ≡ false → Goes (action_of row old) (action_of row new)
      row_goes row agrees true one two = one_goes row agrees one
      row_goes row agrees false one two = none_goes row agrees one two

      rows_go : (rows : List NumberedRow) (n : ℕ) → Agree rows → two_at rows n ≡ false → Goes (by_rows rows n old) (by_rows rows n new)
      rows_go [] n agree two = record { go = λ e unread. refused_is _ r e }
      rows_go (numbered ∷ rest) n agree two =
          by (n == numbered.number) two (rows_go rest n (λ regs v t t'. rest_same (own_fact numbered.row regs v t t') (other_fact numbered.row regs v t t') _ _ (agree regs v t t')))
        where
          agrees : Agrees numbered.row
          agrees regs v t t' = first_same (own_fact numbered.row regs v t t') (other_fact numbered.row regs v t t') (own_facts regs v t t' rest) (other_facts regs v t t' rest) (agree regs v t t')

          by : (b : Bool) → cond b (reads_two numbered.row) (two_at rest n) ≡ false → (two_at rest n ≡ false → Goes (by_rows rest n old) (by_rows rest n new))
              → Goes (cond b (action_of numbered.row old) (by_rows rest n old)) (cond b (action_of numbered.row new) (by_rows rest n new))
          by true two other = row_goes numbered.row agrees (reads_one numbered.row) refl two
          by false two other = other two

      pub decoding_goes : (n : ℕ) → two_at rows n ≡ false → Goes (decoding_of n old) (decoding_of n new)
      decoding_goes n two =
          subst (λ one. Goes one (decoding_of n new)) (sym (decodings_go_by_rows n old))
          (subst (λ other. Goes (by_rows rows n old) other) (sym (decodings_go_by_rows n new)) (rows_go rows n facts_agree two))

      abbrev int_of : ℕ → ℤ
      int_of v = cast_signed w32 (v % 2 ^ 32)

      abbrev word_of : ℕ → ℕ
      word_of v = v % 2 ^ 32

      -- ---- a call with two texts

      module _ (f g : List ℕ → List ℕ → Request) (paths : (t s : List ℕ) → (path_register (f t s) 0 ≡ Some 11) × (path_register (f t s) 1 ≡ Some 13))
          (own : (t s t' : List ℕ) → with_second s (with_first t' (f t s)) ≡ with_first t' (f t s)) where
        abbrev KeepsBoth : Type 0
        KeepsBoth = (j : ℕ) → (j == 1) ≡ false → (j == 3) ≡ false → long new j ≡ long old j

        abbrev Swaps : Type 0
        Swaps = (t s t' s' : List ℕ) → g t' s' ≡ with_second s' (with_first t' (f t s))

        module _ (read : AreRead (long old 1) (long old 3) f m r) where
          old_at : first.register ≡ 11
          old_at = sym (same_Some 11 first.register (sym (paths read.one read.two).0 ∙ ap (λ q. path_register q 0) read.is ∙ named.one))

          old_stands : text_of w.pages (long new 1) text_limit ≡ Ok first.text
          old_stands = ap (λ register. text_of w.pages (slice_index new.x register) text_limit) (sym old_at) ∙ swapped.one.stands

          -- the second path stays
          module _ (stays : second ≡ None) where
            keeps_all : (j : ℕ) → (j == 1) ≡ false → long new j ≡ long old j
            keeps_all j away = swapped.same (10 + j) (λ same. apart j 1 away (same ∙ old_at)) (subst (IsNotSecond (10 + j)) (sym stays) tt)

            new_stays : text_of w.pages (long new 3) text_limit ≡ Ok read.two
            new_stays = ap (λ at. text_of w.pages at text_limit) (keeps_all 3 refl) ∙ text_alike (long old 3) m w read.two alike read.two_clear read.two_stands

            first_alone : Swaps → (carried_out (with_texts (long new 1) (long new 3) (λ one two. accepts (g one two))) w).reply ≡ Ok (with_swaps first second r)
            first_alone swaps =
                texts_on (long new 1) (long new 3) g w first.text read.two old_stands swapped.one.some new_stays read.two_some
                ∙ ap Ok (swaps read.one read.two first.text read.two ∙ own read.one read.two first.text ∙ ap (with_first first.text) read.is ∙ sym (ap (λ o. with_swaps first o r) stays))

          -- both are swapped
          module _ (s : NewText) (goes : second ≡ Some s) where
            new_at : s.register ≡ 13
            new_at = sym (same_Some 13 s.register (sym (paths read.one read.two).1 ∙ ap (λ q. path_register q 1) read.is ∙ subst (IsOfSecond r) goes named.two))

            put : IsPut w.pages new s
            put = subst (IsSecondPut w.pages new) goes swapped.two

            keeps_both : KeepsBoth
            keeps_both j one two = swapped.same (10 + j) (λ same. apart j 1 one (same ∙ old_at)) (subst (IsNotSecond (10 + j)) (sym goes) (λ same. apart j 3 two (same ∙ new_at)))

            new_stands : text_of w.pages (long new 3) text_limit ≡ Ok s.text
            new_stands = ap (λ register. text_of w.pages (slice_index new.x register) text_limit) (sym new_at) ∙ put.stands

            both_swapped : Swaps → (carried_out (with_texts (long new 1) (long new 3) (λ one two. accepts (g one two))) w).reply ≡ Ok (with_swaps first second r)
            both_swapped swaps =
                texts_on (long new 1) (long new 3) g w first.text s.text old_stands swapped.one.some new_stands put.some
                ∙ ap Ok (swaps read.one read.two first.text s.text ∙ ap (λ q. with_second s.text (with_first first.text q)) read.is ∙ sym (ap (λ o. with_swaps first o r) goes))

        pub linked : (broken broken' : Bool) → (KeepsBoth → (broken' ≡ broken) × Swaps)
            → Goes (unless broken (with_texts (long old 1) (long old 3) (λ one two. accepts (f one two)))) (unless broken' (with_texts (long new 1) (long new 3) (λ one two. accepts (g one two))))
        linked true broken' kept = record { go = λ e unread. refused_is _ r e }
        linked false broken' kept = record { go = λ e unread. by (texts_read_of (long old 1) (long old 3) f m r e unread) second refl }
          where
            passes : broken' ≡ false → (carried_out (with_texts (long new 1) (long new 3) (λ one two. accepts (g one two))) w).reply ≡ Ok (with_swaps first second r)
                → (carried_out (unless broken' (with_texts (long new 1) (long new 3) (λ one two. accepts (g one two)))) w).reply ≡ Ok (with_swaps first second r)
            passes is e = ap (λ b. (carried_out (unless b (with_texts (long new 1) (long new 3) (λ one two. accepts (g one two)))) w).reply) is ∙ e

            by : AreRead (long old 1) (long old 3) f m r → (o : Option NewText) → second ≡ o → (carried_out (unless broken' (with_texts (long new 1) (long new 3) (λ one two. accepts (g one two)))) w).reply ≡ Ok (with_swaps first second r)
            by read None stays = let same = kept (λ j one two. keeps_all read stays j one) in passes same.0 (first_alone read stays same.1)
            by read (Some s) goes = let same = kept (keeps_both read s goes) in passes same.0 (both_swapped read s goes same.1)

      pub linkat_goes : Goes (decoded_linkat old) (decoded_linkat new)
      linkat_goes = linked (linkat_with old) (linkat_with new) (λ t s. (refl, refl)) (λ t s t'. refl) (has_other (word old 4) link_flags) (has_other (word new 4) link_flags)
          (λ keeps. (ap (λ v. has_other (word_of v) link_flags) (keeps 4 refl refl), λ t s t' s' i. call.Linkat (ap int_of (keeps 0 refl refl) i) t' (ap int_of (keeps 2 refl refl) i) s' (ap word_of (keeps 4 refl refl) i)))

      pub renameat2_goes : Goes (decoded_renameat2 old) (decoded_renameat2 new)
      renameat2_goes = linked (renameat2_with old) (renameat2_with new) (λ t s. (refl, refl)) (λ t s t'. refl) (has_other (word old 4) 0) (has_other (word new 4) 0)
          (λ keeps. (ap (λ v. has_other (word_of v) 0) (keeps 4 refl refl), λ t s t' s' i. call.Renameat2 (ap int_of (keeps 0 refl refl) i) t' (ap int_of (keeps 2 refl refl) i) s'))

      -- the text of a link is no path, and stays
      pub symlinkat_goes : Goes (decoded_symlinkat old) (decoded_symlinkat new)
      symlinkat_goes = record { go = λ e unread. by (texts_read_of (long old 0) (long old 2) (symlinkat_with old) m r e unread) }
        where
          by : AreRead (long old 0) (long old 2) (symlinkat_with old) m r → (carried_out (decoded_symlinkat new) w).reply ≡ Ok (with_swaps first second r)
          by read =
              let f : List ℕ → Request = λ path. symlinkat_with old read.one path in
              let keeps = one_keeps 2 f read.two read.is refl refl in
              let shown = ap (λ at. text_of w.pages at text_limit) (keeps 0 refl) ∙ text_alike (long old 0) m w read.one alike read.one_clear read.one_stands in
              let put = one_stands 2 f read.two read.is refl refl in
              let same : symlinkat_with new read.one first.text ≡ with_first first.text (symlinkat_with old read.one read.two) = λ i. call.Symlinkat read.one (ap int_of (keeps 1 refl) i) first.text in
              texts_on (long new 0) (long new 2) (symlinkat_with new) w read.one first.text shown read.one_some put swapped.one.some
              ∙ ap Ok (same ∙ ap (with_first first.text) read.is ∙ sym (ap (λ o. with_swaps first o r) (second_none 2 f read.two read.is refl refl)))

-- ---- each call, at its number

module _ (old new : Regs) (m w : Memory) (first : NewText) (second : Option NewText) (alike : AreEqualUnmarked m.pages w.pages) (swapped : AreSwapped first second old new w.pages) where
  abbrev pub GoesAtNumber : Request → Type 0
  GoesAtNumber r = Goes old new m w r first second (decoding_of (line r).number old) (decoding_of (line r).number new)

  pub goes : (r : Request) → AreOfPaths r first second → GoesAtNumber r
  goes (call.Symlinkat text dirfd path) named = symlinkat_goes old new m w (call.Symlinkat text dirfd path) first second named alike swapped
  goes (call.Linkat olddir old_path newdir new_path flags) named = linkat_goes old new m w (call.Linkat olddir old_path newdir new_path flags) first second named alike swapped
  goes (call.Renameat2 olddir old_path newdir new_path) named = renameat2_goes old new m w (call.Renameat2 olddir old_path newdir new_path) first second named alike swapped
  goes r named = decoding_goes old new m w r first second named alike swapped (line r).number refl
