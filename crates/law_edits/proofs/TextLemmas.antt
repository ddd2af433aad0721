-- Texts that are read while a call is decoded.
use Rattle.std.proofs.Common.{◌≡◌, ◌≢◌, ℕ, Bool, true, false, ◌||◌, List, [], ◌∷◌, Result, Ok, Err, refl, sym, ap, ◌∙◌}
use Rattle.pt_tracer.specs.pr_base.declared.errno.Errno.{Errno}
use Rattle.pt_tracer.specs.pr_base.declared.errno.Errno.TheVariants.{EFAULT, ENAMETOOLONG, ENOENT}
use Rattle.pt_tracer.specs.rv_mem.Actions.{Action, AreEqualUnmarked, CarriedOut, Done, carried_out}
use Rattle.pt_tracer.specs.rv_mem.Memory.{Memory, after_read, text_of, text_reach}
use Rattle.pt_tracer.specs.rv_mem.Pages.{any_marked}
use Rattle.pt_tracer.specs.rv_mem.declared.fault.TextFault.{TextFault}
use Rattle.pt_tracer.specs.rv_mem.declared.fault.TextFault.TheVariants as text
use Rattle.pt_tracer.proofs.rv_mem.ActionLemmas.{reads_alike}
use Rattle.law_walks.specs.kr_calls.Decoding.{Decoded, accepts, named, refuses, text_limit, with_text, with_texts}
use Rattle.law_walks.specs.kr_calls.Texts.{read_text}
use Rattle.law_walks.specs.kr_calls.declared.request.Request.{Request}
use Rattle.law_walks.proofs.kr_calls.TextLemmas.{chosen, read_text_is}

-- the memory behind the reading of a text
abbrev pub after_text : Memory → ℕ → Memory
after_text m at = after_read m at (text_reach m.pages at text_limit)

-- ---- a text that is read where a request comes of it

pub record IsReadAt (may : Bool) (at : ℕ) (next : List ℕ → Action Decoded) (m : Memory) : Type 0 where
  pub text : List ℕ
  pub stands : text_of m.pages at text_limit ≡ Ok text
  pub whole : carried_out (with_text may at next) m ≡ carried_out (next text) (after_text m at)
  pub some : may ≡ false → text ≢ []

module _ (at : ℕ) (next : List ℕ → Action Decoded) (m : Memory) (r : Request) where
  abbrev by_text : Bool → Result (List ℕ) TextFault → CarriedOut Decoded
  by_text may o = carried_out (chosen (refuses EFAULT) (refuses ENAMETOOLONG) (named may (refuses ENOENT) next) o) (after_text m at)

  pub text_read_of : (may : Bool) → (carried_out (with_text may at next) m).reply ≡ Ok r → IsReadAt may at next m
  text_read_of may e =
      let whole = read_text_is text_limit at (refuses EFAULT) (refuses ENAMETOOLONG) (named may (refuses ENOENT) next) m in
      by may (text_of m.pages at text_limit) refl (sym (ap (λ d. d.reply) whole) ∙ e) whole
    where
      by : (may : Bool) (o : Result (List ℕ) TextFault) → text_of m.pages at text_limit ≡ o → (by_text may o).reply ≡ Ok r → carried_out (with_text may at next) m ≡ by_text may o → IsReadAt may at next m
      by true (Ok []) is e whole = record { text = []; stands = is; whole = whole; some = λ no. absurd (let h : true ≡ false = no in cc) }
      by false (Ok []) is e whole = absurd cc
      by may (Ok (b ∷ t)) is e whole = record { text = b ∷ t; stands = is; whole = whole; some = λ _ none. absurd (let h : b ∷ t ≡ [] = none in cc) }
      by may (Err text.BadAddress) is e whole = absurd cc
      by may (Err text.TooLong) is e whole = absurd cc
      by may (Err text.NoMemory) is e whole = absurd cc

-- ---- a text that stands there is read

pub text_on : (may : Bool) (at : ℕ) (next : List ℕ → Action Decoded) (w : Memory) (t : List ℕ) → text_of w.pages at text_limit ≡ Ok t → t ≢ [] → carried_out (with_text may at next) w ≡ carried_out (next t) (after_text w at)
text_on may at next w t is some =
    read_text_is text_limit at (refuses EFAULT) (refuses ENAMETOOLONG) (named may (refuses ENOENT) next) w
    ∙ ap (λ o. carried_out (chosen (refuses EFAULT) (refuses ENAMETOOLONG) (named may (refuses ENOENT) next) o) (after_text w at)) is
    ∙ by t some
  where
    by : (t : List ℕ) → t ≢ [] → carried_out (named may (refuses ENOENT) next t) (after_text w at) ≡ carried_out (next t) (after_text w at)
    by [] some = absurd (some refl)
    by (b ∷ t) some = refl

-- ---- a text without a marked byte is the same in a memory that is equal but for these

abbrev told : Result (List ℕ) TextFault → Result (List ℕ) Errno
told (Ok t) = Ok t
told (Err text.BadAddress) = Err EFAULT
told (Err text.TooLong) = Err ENAMETOOLONG
told (Err text.NoMemory) = Err EFAULT

told_back : (o : Result (List ℕ) TextFault) (t : List ℕ) → told o ≡ Ok t → o ≡ Ok t
told_back (Ok s) t e = let same : s ≡ t = cc in ap Ok same
told_back (Err text.BadAddress) t e = absurd cc
told_back (Err text.TooLong) t e = absurd cc
told_back (Err text.NoMemory) t e = absurd cc

abbrev plainly : ℕ → Action (Result (List ℕ) Errno)
plainly at = read_text text_limit at (Done (Err EFAULT)) (Done (Err ENAMETOOLONG)) (λ t. Done (Ok t))

abbrev done : Result (List ℕ) Errno → Memory → CarriedOut (Result (List ℕ) Errno)
done reply m = record { reply = reply; memory = m }

told_is : (at : ℕ) (m : Memory) → carried_out (plainly at) m ≡ done (told (text_of m.pages at text_limit)) (after_text m at)
told_is at m = read_text_is text_limit at (Done (Err EFAULT)) (Done (Err ENAMETOOLONG)) (λ t. Done (Ok t)) m ∙ by (text_of m.pages at text_limit)
  where
    by : (o : Result (List ℕ) TextFault) → carried_out (chosen (Done (Err EFAULT)) (Done (Err ENAMETOOLONG)) (λ t. Done (Ok t)) o) (after_text m at) ≡ done (told o) (after_text m at)
    by (Ok t) = refl
    by (Err text.BadAddress) = refl
    by (Err text.TooLong) = refl
    by (Err text.NoMemory) = refl

-- the same pages, of which nothing marked was read
abbrev unread : Memory → Memory
unread m = record { pages = m.pages; read_marked = false }

pub text_alike : (at : ℕ) (m w : Memory) (t : List ℕ) → AreEqualUnmarked m.pages w.pages → any_marked m.pages at (text_reach m.pages at text_limit) ≡ false → text_of m.pages at text_limit ≡ Ok t → text_of w.pages at text_limit ≡ Ok t
text_alike at m w t alike unmarked is =
    let one = told_is at (unread m) in
    let other = told_is at w in
    let same = (reads_alike (plainly at) (unread m) w alike (ap (λ d. d.memory.read_marked) one ∙ unmarked)).0 in
    told_back (text_of w.pages at text_limit) t (sym (ap (λ d. d.reply) other) ∙ sym same ∙ ap (λ d. d.reply) one ∙ ap told is)

-- ---- two texts that are read, the second after the first

-- what is marked of them
first_unmarked : (a b c : Bool) → ((a || b) || c) ≡ false → b ≡ false
first_unmarked true b c e = absurd cc
first_unmarked false true c e = absurd cc
first_unmarked false false c e = refl

second_unmarked : (a b c : Bool) → ((a || b) || c) ≡ false → c ≡ false
second_unmarked true b c e = absurd cc
second_unmarked false true c e = absurd cc
second_unmarked false false c e = e

-- a request that came of two texts
pub record AreRead (at by : ℕ) (f : List ℕ → List ℕ → Request) (m : Memory) (r : Request) : Type 0 where
  pub one : List ℕ
  pub two : List ℕ
  pub is : f one two ≡ r
  pub one_stands : text_of m.pages at text_limit ≡ Ok one
  pub two_stands : text_of m.pages by text_limit ≡ Ok two
  pub one_some : one ≢ []
  pub two_some : two ≢ []
  pub one_clear : any_marked m.pages at (text_reach m.pages at text_limit) ≡ false
  pub two_clear : any_marked m.pages by (text_reach m.pages by text_limit) ≡ false

-- a request that is accepted is the one that is given
pub accepted_is : (q r : Request) → ◌≡◌ {A = Decoded} (Ok q) (Ok r) → q ≡ r
accepted_is q r e = cc

pub texts_read_of : (at by : ℕ) (f : List ℕ → List ℕ → Request) (m : Memory) (r : Request) → (carried_out (with_texts at by (λ one two. accepts (f one two))) m).reply ≡ Ok r
    → (carried_out (with_texts at by (λ one two. accepts (f one two))) m).memory.read_marked ≡ false → AreRead at by f m r
texts_read_of at by f m r e unread =
    let one = text_read_of at (λ one. with_text false by (λ two. accepts (f one two))) m r false e in
    let two = text_read_of by (λ two. accepts (f one.text two)) (after_text m at) r false (sym (ap (λ d. d.reply) one.whole) ∙ e) in
    let whole = one.whole ∙ two.whole in
    let flags : ((m.read_marked || any_marked m.pages at (text_reach m.pages at text_limit)) || any_marked m.pages by (text_reach m.pages by text_limit)) ≡ false = sym (ap (λ d. d.memory.read_marked) whole) ∙ unread in
    record {
      one = one.text;
      two = two.text;
      is = accepted_is (f one.text two.text) r (sym (ap (λ d. d.reply) whole) ∙ e);
      one_stands = one.stands;
      two_stands = two.stands;
      one_some = one.some refl;
      two_some = two.some refl;
      one_clear = first_unmarked m.read_marked _ _ flags;
      two_clear = second_unmarked m.read_marked _ _ flags;
    }

-- two texts that stand there are read
pub texts_on : (at by : ℕ) (g : List ℕ → List ℕ → Request) (w : Memory) (t s : List ℕ) → text_of w.pages at text_limit ≡ Ok t → t ≢ [] → text_of w.pages by text_limit ≡ Ok s → s ≢ []
    → (carried_out (with_texts at by (λ one two. accepts (g one two))) w).reply ≡ Ok (g t s)
texts_on at by g w t s is some also more =
    ap (λ d. d.reply)
    (text_on false at (λ one. with_text false by (λ two. accepts (g one two))) w t is some
    ∙ text_on false by (λ two. accepts (g t two)) (after_text w at) s also more)
