-- Lists that are read address by address.
use Rattle.std.proofs.Common.{◌≡◌, ℕ, zero, suc, ◌+◌, ◌-◌, ◌<◌, ◌≤◌, ◌⊎◌, inl, inr, Bool, true, false, ◌||◌, cond, List, [], ◌∷◌, ◌++◌, length, Result, Ok, Err, refl, sym, ap, ◌∙◌, subst, arith, append_assoc}
use Rattle.std.specs.Prelude.{nat_eq, nat_lt}
use Rattle.std.proofs.lemmas.Bool.{lt-ltb}
use Rattle.std.proofs.lemmas.Bool.Decides.{nat_tests}
use Rattle.elf_read.specs.pr_base.Fields.{little_endian}
use Rattle.elf_read.specs.pr_base.declared.errno.Errno.{Errno}
use Rattle.elf_read.specs.pr_base.declared.errno.Errno.TheVariants.{EFAULT, E2BIG}
use Rattle.kr_calls.specs.rv_mem.Actions.{Action, Done, MayUse, ReadBytes, WriteBytes, CarriedOut, carried_out, allows_uses}
use Rattle.kr_calls.specs.rv_mem.Memory.{Memory, after_read, with_pages, text_of, text_reach}
use Rattle.kr_calls.specs.rv_mem.Pages.{bytes_from, written, any_marked, allows_all}
use Rattle.kr_calls.specs.rv_mem.declared.fault.TextFault.{TextFault}
use Rattle.kr_calls.specs.rv_mem.declared.fault.TextFault.TheVariants as fault
use Rattle.kr_calls.specs.rv_mem.declared.rights.Use.TheVariants.{Read}
use Rattle.kr_calls.proofs.rv_mem.ActionLemmas.{flag_stays}
use Rattle.kr_calls.specs.Expansion.{bytes_with_ends}
use Rattle.kr_calls.specs.declared.fault.CallFault.{CallFault}
use Rattle.kr_calls.specs.declared.fault.CallFault.TheVariants as call
use Rattle.kr_calls.proofs.TextLemmas.{chosen, read_text_is}
use Rattle.kr_exec.specs.Lists.{Trying, Reads, IsPartRead, and_then, address_at, text_at, text_within, if_it_fits, most_bytes, next_address, unless_ended, behind, texts_from, most_texts, list_at, lists_at, env_at, at_least_one}
use Rattle.kr_exec.specs.declared.lists.Lists.{Lists}

abbrev pub done : {A : Type 0} → Result A Errno → Memory → CarriedOut (Result A Errno)
done r m = record { reply = r; memory = m }

-- what is done with what an action gave
abbrev pub on_reply : {A B : Type 0} → (A → Trying B) → Result A Errno → Memory → CarriedOut (Result B Errno)
on_reply next (Ok x) m = carried_out (next x) m
on_reply next (Err e) m = done (Err e) m

abbrev pub goes_on : {A B : Type 0} → (A → Trying B) → CarriedOut (Result A Errno) → CarriedOut (Result B Errno)
goes_on next d = on_reply next d.reply d.memory

pub and_then_is : {A B : Type 0} (a : Trying A) (next : A → Trying B) (m : Memory) → carried_out (and_then a next) m ≡ goes_on next (carried_out a m)
and_then_is (Done (Ok x)) next m = refl
and_then_is (Done (Err e)) next m = refl
and_then_is (MayUse at n uses go) next m = and_then_is (go (allows_uses m.pages at n uses)) next m
and_then_is (ReadBytes at n go) next m = and_then_is (go (bytes_from m.pages at n)) next (after_read m at n)
and_then_is (WriteBytes at bytes go) next m = and_then_is go next (with_pages m (written m.pages at bytes))

-- ---- flags only rise

pub rises : {A : Type 0} (a : Action A) (m : Memory) → m.read_marked ≡ true → (carried_out a m).memory.read_marked ≡ true
rises a m h = by (carried_out a m).memory.read_marked refl
  where
    by : (b : Bool) → (carried_out a m).memory.read_marked ≡ b → (carried_out a m).memory.read_marked ≡ true
    by true e = e
    by false e = absurd (let f = flag_stays a m e in cc)

pub rises_on : {A B : Type 0} (next : A → Trying B) (r : Result A Errno) (m : Memory) → m.read_marked ≡ true → (on_reply next r m).memory.read_marked ≡ true
rises_on next (Ok x) m h = rises (next x) m h
rises_on next (Err e) m h = h

-- ---- texts in front of those that are read

abbrev pub Texts : Type 0
Texts = List (List ℕ)

abbrev pub ok_front : Texts → Result Texts Errno → Result Texts Errno
ok_front texts (Ok rest) = Ok (texts ++ rest)
ok_front texts (Err e) = Err e

abbrev pub front : Texts → CarriedOut (Result Texts Errno) → CarriedOut (Result Texts Errno)
front texts d = done (ok_front texts d.reply) d.memory

front_more : (texts : Texts) (text : List ℕ) (d : CarriedOut (Result Texts Errno)) → front texts (goes_on (behind text) d) ≡ front (texts ++ text ∷ []) d
front_more texts text d = by d.reply
  where
    by : (r : Result Texts Errno) → front texts (on_reply (behind text) r d.memory) ≡ done (ok_front (texts ++ text ∷ []) r) d.memory
    by (Ok rest) = ap (λ l. done (Ok l) d.memory) (sym (append_assoc texts (text ∷ []) rest))
    by (Err e) = refl

-- ---- one address

-- what follows an address that isn't 0
abbrev pub entry : ℕ → ℕ → ℕ → ℕ → Trying Texts
entry left at room address = and_then (text_within room address) (λ text. and_then (texts_from left (next_address at) (room - (length text + 1))) (behind text))

abbrev pub by_address : ℕ → ℕ → ℕ → ℕ → Trying Texts
by_address zero at room address = unless_ended (Done (Err E2BIG)) address
by_address (suc left) at room address = unless_ended (entry left at room address) address

pub at_address : (left at room : ℕ) (m after : Memory) (r : Result ℕ Errno) → carried_out (address_at at) m ≡ done r after → carried_out (texts_from left at room) m ≡ on_reply (by_address left at room) r after
unfolding texts_from
at_address zero at room m after r e = and_then_is (address_at at) (by_address zero at room) m ∙ ap (goes_on (by_address zero at room)) e
at_address (suc left) at room m after r e = and_then_is (address_at at) (by_address (suc left) at room) m ∙ ap (goes_on (by_address (suc left) at room)) e

pub at_end : (left at room : ℕ) (m : Memory) → carried_out (by_address left at room 0) m ≡ done (Ok []) m
at_end zero at room m = refl
at_end (suc left) at room m = refl

pub at_text : (left at room address : ℕ) (m : Memory) → nat_eq address 0 ≡ false → carried_out (by_address (suc left) at room address) m ≡ carried_out (entry left at room address) m
at_text left at room address m e = ap (λ b. carried_out (cond b (Done (Ok [])) (entry left at room address)) m) e

pub at_full : (at room address : ℕ) (m : Memory) → nat_eq address 0 ≡ false → carried_out (by_address 0 at room address) m ≡ done (Err E2BIG) m
at_full at room address m e = ap (λ b. carried_out (cond b (Done (Ok [])) (Done (Err E2BIG))) m) e

-- ---- the bytes of one more text

pub bytes_more : (texts : Texts) (text : List ℕ) → bytes_with_ends (texts ++ text ∷ []) ≡ bytes_with_ends texts + (length text + 1)
bytes_more [] text = omega arith
bytes_more (t ∷ texts) text = let rest = bytes_more texts text in omega arith

-- ---- answers and memories

-- a text that was looked for, as the code answers it
abbrev pub answered : Result (List ℕ) TextFault → Result (List ℕ) CallFault
answered (Ok text) = Ok text
answered (Err fault.BadAddress) = Err (call.Err EFAULT)
answered (Err fault.TooLong) = Err (call.Err E2BIG)
answered (Err fault.NoMemory) = Err call.NoMemory

abbrev text_chosen : Result (List ℕ) TextFault → Trying (List ℕ)
text_chosen r = chosen (Done (Err EFAULT)) (Done (Err E2BIG)) (λ text. Done (Ok text)) r

memory_chosen : (r : Result (List ℕ) TextFault) (m : Memory) → (carried_out (text_chosen r) m).memory ≡ m
memory_chosen (Ok text) m = refl
memory_chosen (Err fault.BadAddress) m = refl
memory_chosen (Err fault.TooLong) m = refl
memory_chosen (Err fault.NoMemory) m = refl

or_left : (a b : Bool) → a ≡ true → (a || b) ≡ true
or_left true b h = refl
or_left false b h = absurd cc

after_marked : (m : Memory) (at n : ℕ) → m.read_marked ≡ true → (after_read m at n).read_marked ≡ true
after_marked m at n h = or_left m.read_marked (any_marked m.pages at n) h

-- for want of memory all that another memory tells may have been read
all_read : (m new whole : Memory) (at n : ℕ) → new ≡ after_read m at n → whole ≡ after_read m at n → IsPartRead m new whole
all_read m new whole at n is tells = record {
  pages = ap (λ s. s.pages) is;
  kept = λ h. ap (λ s. s.read_marked) is ∙ after_marked m at n h;
  within = λ h. ap (λ s. s.read_marked) (tells ∙ sym is) ∙ h;
}

told : (m new after : Memory) (at n : ℕ) (r : Result (List ℕ) TextFault) → after ≡ after_read m at n → new ≡ after → Reads (answered r) (carried_out (text_chosen r) after) m new
told m new after at n (Ok text) at_all is = (refl, is)
told m new after at n (Err fault.BadAddress) at_all is = (refl, is)
told m new after at n (Err fault.TooLong) at_all is = (refl, is)
told m new after at n (Err fault.NoMemory) at_all is = all_read m new after at n (is ∙ at_all) at_all

-- the text at an address, or want of memory in its place
pub text_reads : (at : ℕ) (m new : Memory) (r : Result (List ℕ) TextFault) → (r ≡ text_of m.pages at most_bytes) ⊎ (r ≡ Err fault.NoMemory) → new ≡ after_read m at (text_reach m.pages at most_bytes)
    → Reads (answered r) (carried_out (text_at at) m) m new
text_reads at m new r h is =
    let n = text_reach m.pages at most_bytes in
    let found = text_of m.pages at most_bytes in
    let whole : carried_out (text_at at) m ≡ carried_out (text_chosen found) (after_read m at n) = read_text_is most_bytes at _ _ _ m in
    subst (λ w. Reads (answered r) w m new) (sym whole)
    (elim h [
      | inl e ↦ subst (λ t. Reads (answered r) (carried_out (text_chosen t) (after_read m at n)) m new) e (told m new (after_read m at n) at n r refl is)
      | inr e ↦ subst (λ s. Reads (answered s) (carried_out (text_chosen found) (after_read m at n)) m new) (sym e) (all_read m new _ at n is (memory_chosen found (after_read m at n)))
    ])

-- what an action answered, it answers with more behind it
pub reads_err : {A B : Type 0} (a : Trying A) (next : A → Trying B) (why : CallFault) (m new : Memory) → Reads {A = A} (Err why) (carried_out a m) m new → Reads {A = B} (Err why) (carried_out (and_then a next) m) m new
reads_err a next (call.Err e) m new h =
    let whole = and_then_is a next m ∙ ap (λ r. on_reply next r (carried_out a m).memory) h.0 in
    (ap (λ d. d.reply) whole, h.1 ∙ sym (ap (λ d. d.memory) whole))
reads_err a next call.NoMemory m new h = record {
  pages = h.pages;
  kept = h.kept;
  within = λ marked. ap (λ d. d.memory.read_marked) (and_then_is a next m) ∙ rises_on next (carried_out a m).reply (carried_out a m).memory (h.within marked);
}

-- what it gave is gone on with
pub reads_ok : {A B : Type 0} (a : Trying A) (next : A → Trying B) (x : A) (m new : Memory) → Reads (Ok x) (carried_out a m) m new → carried_out (and_then a next) m ≡ carried_out (next x) new
reads_ok a next x m new h = and_then_is a next m ∙ ap (λ r. on_reply next r (carried_out a m).memory) h.0 ∙ ap (λ s. carried_out (next x) s) (sym h.1)

pub is_less : (n k : ℕ) → n < k → nat_lt n k ≡ true
is_less n k h = lt-ltb n k h

pub not_less : (n k : ℕ) → k ≤ n → nat_lt n k ≡ false
not_less n k h = grind (arith, nat_tests)

pub not_zero : (n : ℕ) → (n ≡ 0 → ⊥) → nat_eq n 0 ≡ false
not_zero zero h = absurd (h refl)
not_zero (suc n) h = grind (arith, nat_tests)

pub fits : (room : ℕ) (text : List ℕ) (m : Memory) → length text < room → carried_out (if_it_fits room text) m ≡ done (Ok text) m
fits room text m h = ap (λ b. carried_out (cond b (Done (Ok text)) (Done (Err E2BIG))) m) (is_less (length text) room h)

pub passes : (room : ℕ) (text : List ℕ) (m : Memory) → room ≤ length text → carried_out (if_it_fits room text) m ≡ done (Err E2BIG) m
passes room text m h = ap (λ b. carried_out (cond b (Done (Ok text)) (Done (Err E2BIG))) m) (not_less (length text) room h)

-- ---- a list, of which some texts were read

append_none : (texts : Texts) → texts ++ [] ≡ texts
append_none [] = refl
append_none (t ∷ texts) = ap (λ l. t ∷ l) (append_none texts)

pub rest_refused : (w : CarriedOut (Result Texts Errno)) (left at room : ℕ) (texts : Texts) (m after : Memory) (e : Errno)
    → w ≡ front texts (carried_out (texts_from left at room) m) → carried_out (address_at at) m ≡ done (Err e) after → w ≡ done (Err e) after
rest_refused w left at room texts m after e h a = h ∙ ap (front texts) (at_address left at room m after (Err e) a)

pub rest_ended : (w : CarriedOut (Result Texts Errno)) (left at room address : ℕ) (texts : Texts) (m after : Memory)
    → w ≡ front texts (carried_out (texts_from left at room) m) → carried_out (address_at at) m ≡ done (Ok address) after → address ≡ 0 → w ≡ done (Ok texts) after
rest_ended w left at room address texts m after h a z =
    h ∙ ap (front texts) (at_address left at room m after (Ok 0) (a ∙ ap (λ n. done (Ok n) after) z) ∙ at_end left at room after) ∙ ap (λ l. done (Ok l) after) (append_none texts)

pub rest_full : (w : CarriedOut (Result Texts Errno)) (left at room address : ℕ) (texts : Texts) (m after : Memory)
    → w ≡ front texts (carried_out (texts_from left at room) m) → left ≡ 0 → carried_out (address_at at) m ≡ done (Ok address) after → (address ≡ 0 → ⊥) → w ≡ done (Err E2BIG) after
rest_full w zero at room address texts m after h e a some = h ∙ ap (front texts) (at_address zero at room m after (Ok address) a ∙ at_full at room address after (not_zero address some))
rest_full w (suc left) at room address texts m after h e a some = absurd cc

pub rest_text : (w : CarriedOut (Result Texts Errno)) (left k at room address : ℕ) (texts : Texts) (m after : Memory)
    → w ≡ front texts (carried_out (texts_from left at room) m) → left ≡ suc k → carried_out (address_at at) m ≡ done (Ok address) after → (address ≡ 0 → ⊥)
    → w ≡ front texts (carried_out (entry k at room address) after)
rest_text w left k at room address texts m after h e a some =
    h ∙ ap (λ n. front texts (carried_out (texts_from n at room) m)) e
    ∙ ap (front texts) (at_address (suc k) at room m after (Ok address) a ∙ at_text k at room address after (not_zero address some))

abbrev on_text : ℕ → ℕ → ℕ → List ℕ → Trying Texts
on_text k at room text = and_then (texts_from k (next_address at) (room - (length text + 1))) (behind text)

-- the text that comes next
pub rest_more : (w : CarriedOut (Result Texts Errno)) (k at room address : ℕ) (texts : Texts) (text : List ℕ) (after new : Memory)
    → w ≡ front texts (carried_out (entry k at room address) after) → Reads (Ok text) (carried_out (text_within room address) after) after new
    → w ≡ front (texts ++ text ∷ []) (carried_out (texts_from k (next_address at) (room - (length text + 1))) new)
rest_more w k at room address texts text after new h r =
    h ∙ ap (front texts) (reads_ok (text_within room address) (on_text k at room) text after new r ∙ and_then_is (texts_from k (next_address at) (room - (length text + 1))) (behind text) new)
    ∙ front_more texts text (carried_out (texts_from k (next_address at) (room - (length text + 1))) new)

front_err : (w d : CarriedOut (Result Texts Errno)) (texts : Texts) (why : CallFault) (m new : Memory) → w ≡ front texts d → Reads {A = Texts} (Err why) d m new → Reads {A = Texts} (Err why) w m new
front_err w d texts (call.Err e) m new h r = (ap (λ x. x.reply) h ∙ ap (ok_front texts) r.0, r.1 ∙ sym (ap (λ x. x.memory) h))
front_err w d texts call.NoMemory m new h r = record { pages = r.pages; kept = r.kept; within = λ marked. ap (λ x. x.memory.read_marked) h ∙ r.within marked }

-- what came before it was read, too
pub before_err : {A : Type 0} (w : CarriedOut (Result A Errno)) (why : CallFault) (m after new : Memory) → after.pages ≡ m.pages → (m.read_marked ≡ true → after.read_marked ≡ true)
    → Reads {A = A} (Err why) w after new → Reads {A = A} (Err why) w m new
before_err w (call.Err e) m after new pages kept r = r
before_err w call.NoMemory m after new pages kept r = record { pages = r.pages ∙ pages; kept = λ h. r.kept (kept h); within = r.within }

-- the text that comes next is refused
pub rest_err : (w : CarriedOut (Result Texts Errno)) (k at room address : ℕ) (texts : Texts) (why : CallFault) (m after new : Memory)
    → w ≡ front texts (carried_out (entry k at room address) after) → after.pages ≡ m.pages → (m.read_marked ≡ true → after.read_marked ≡ true)
    → Reads {A = List ℕ} (Err why) (carried_out (text_within room address) after) after new → Reads {A = Texts} (Err why) w m new
rest_err w k at room address texts why m after new h pages kept r =
    before_err w why m after new pages kept
    (front_err w (carried_out (entry k at room address) after) texts why after new h (reads_err (text_within room address) (on_text k at room) why after new r))

-- memory is wanting for a text that was read
pub rest_wanting : (w : CarriedOut (Result Texts Errno)) (a : Trying Texts) (texts : Texts) (m new : Memory)
    → w ≡ front texts (carried_out a new) → new.pages ≡ m.pages → (m.read_marked ≡ true → new.read_marked ≡ true) → IsPartRead m new w.memory
rest_wanting w a texts m new h pages kept =
    record { pages = pages; kept = kept; within = λ marked. ap (λ x. x.memory.read_marked) h ∙ rises a new marked }

length_more : (texts : Texts) (text : List ℕ) → length (texts ++ text ∷ []) ≡ length texts + 1
length_more [] text = refl
length_more (t ∷ texts) text = let rest = length_more texts text in omega arith

-- what is known of a list after one more text
pub record IsMore (texts more : Texts) (k room size : ℕ) (w : CarriedOut (Result Texts Errno)) (at : ℕ) (m : Memory) (whole : ℕ) : Type 0 where
  pub rest : w ≡ front more (carried_out (texts_from (most_texts - length more) at (room - (size + 1))) m)
  pub bytes : room - (size + 1) + bytes_with_ends more ≡ whole
  pub few : length more ≤ most_texts

pub one_more : (texts more : Texts) (text : List ℕ) (k room size whole : ℕ) (w : CarriedOut (Result Texts Errno)) (at : ℕ) (m : Memory)
    → w ≡ front (texts ++ text ∷ []) (carried_out (texts_from k at (room - (length text + 1))) m) → more ≡ texts ++ text ∷ [] → size ≡ length text
    → most_texts - length texts ≡ suc k → length text < room → room + bytes_with_ends texts ≡ whole → IsMore texts more k room size w at m whole
one_more texts more text k room size whole w at m h is size_is left within all =
    let long : length more ≡ length texts + 1 = ap length is ∙ length_more texts text in
    let bytes : bytes_with_ends more ≡ bytes_with_ends texts + (length text + 1) = ap bytes_with_ends is ∙ bytes_more texts text in
    let next : k ≡ most_texts - length more = omega arith in
    record {
      rest = h ∙ (λ i. front (sym is i) (carried_out (texts_from (next i) at (room - (sym size_is i + 1))) m));
      bytes = omega arith;
      few = omega arith;
    }

-- how an address leaves the memory
pub address_keeps : (at : ℕ) (m after : Memory) (r : Result ℕ Errno) → carried_out (address_at at) m ≡ done r after → (after.pages ≡ m.pages) × (m.read_marked ≡ true → after.read_marked ≡ true)
address_keeps at m after r e =
    (sym (ap (λ d. d.memory.pages) e) ∙ by (allows_all m.pages at 8 Read), λ h. sym (ap (λ d. d.memory.read_marked) e) ∙ rises (address_at at) m h)
  where
    by : (b : Bool) → (carried_out (cond b (ReadBytes at 8 (λ bytes. Done (Ok (little_endian bytes)))) (Done (Err EFAULT))) m).memory.pages ≡ m.pages
    by true = refl
    by false = refl

-- a text that was read leaves what was marked marked
pub text_marks : (room address : ℕ) (text : List ℕ) (after new : Memory) → Reads (Ok text) (carried_out (text_within room address) after) after new → after.read_marked ≡ true → new.read_marked ≡ true
text_marks room address text after new r h = ap (λ s. s.read_marked) r.1 ∙ rises (text_within room address) after h

-- an address that was read
pub address_read : (at : ℕ) (m after : Memory) (bytes : List ℕ) (address : ℕ) → allows_all m.pages at 8 Read ≡ true → bytes ≡ bytes_from m.pages at 8 → after ≡ after_read m at 8 → address ≡ little_endian bytes
    → carried_out (address_at at) m ≡ done (Ok address) after
address_read at m after bytes address may are is tells =
    ap (λ b. carried_out (cond b (ReadBytes at 8 (λ bytes. Done (Ok (little_endian bytes)))) (Done (Err EFAULT))) m) may
    ∙ ap (λ n. done (Ok n) (after_read m at 8)) (sym (tells ∙ ap little_endian are)) ∙ ap (λ s. done (Ok address) s) (sym is)

pub address_refused : (at : ℕ) (m : Memory) → allows_all m.pages at 8 Read ≡ false → carried_out (address_at at) m ≡ done (Err EFAULT) m
address_refused at m may = ap (λ b. carried_out (cond b (ReadBytes at 8 (λ bytes. Done (Ok (little_endian bytes)))) (Done (Err EFAULT))) m) may

-- ---- both lists

-- the environment comes after the arguments
pub env_is : (args env : ℕ) (texts given : Texts) (m after : Memory) → Reads (Ok texts) (carried_out (list_at args most_bytes) m) m after → given ≡ at_least_one texts
    → carried_out (lists_at args env) m ≡ carried_out (env_at env given) after
env_is args env texts given m after r is =
    reads_ok (list_at args most_bytes) (λ texts. env_at env (at_least_one texts)) texts m after r ∙ ap (λ t. carried_out (env_at env t) after) (sym is)

-- memory is wanting behind what was read
pub wanting_behind : {A : Type 0} (w : CarriedOut (Result A Errno)) (a : Trying A) (m new : Memory) → w ≡ carried_out a new → new.pages ≡ m.pages → (m.read_marked ≡ true → new.read_marked ≡ true) → IsPartRead m new w.memory
wanting_behind w a m new h pages kept = record { pages = pages; kept = kept; within = λ marked. ap (λ x. x.memory.read_marked) h ∙ rises a new marked }

pub list_marks : {A : Type 0} (a : Trying A) (x : A) (m new : Memory) → Reads (Ok x) (carried_out a m) m new → m.read_marked ≡ true → new.read_marked ≡ true
list_marks a x m new r h = ap (λ s. s.read_marked) r.1 ∙ rises a m h

abbrev with_args : Texts → Texts → Trying Lists
with_args given texts = Done (Ok (record { args = given; env = texts }))

pub env_err : (env room : ℕ) (given : Texts) (why : CallFault) (w : CarriedOut (Result Lists Errno)) (m after new : Memory) → w ≡ carried_out (env_at env given) after → room ≡ most_bytes - bytes_with_ends given
    → after.pages ≡ m.pages → (m.read_marked ≡ true → after.read_marked ≡ true) → Reads {A = Texts} (Err why) (carried_out (list_at env room) after) after new → Reads {A = Lists} (Err why) w m new
env_err env room given why w m after new h is pages kept r =
    let r' : Reads {A = Texts} (Err why) (carried_out (list_at env (most_bytes - bytes_with_ends given)) after) after new =
    subst (λ n. Reads {A = Texts} (Err why) (carried_out (list_at env n) after) after new) is r in
    before_err w why m after new pages kept
    (subst (λ d. Reads {A = Lists} (Err why) d after new) (sym h) (reads_err (list_at env (most_bytes - bytes_with_ends given)) (with_args given) why after new r'))

pub env_ok : (env room : ℕ) (given texts : Texts) (w : CarriedOut (Result Lists Errno)) (after new : Memory) → w ≡ carried_out (env_at env given) after → room ≡ most_bytes - bytes_with_ends given
    → Reads (Ok texts) (carried_out (list_at env room) after) after new → w ≡ done (Ok (record { args = given; env = texts })) new
env_ok env room given texts w after new h is r =
    let r' : Reads (Ok texts) (carried_out (list_at env (most_bytes - bytes_with_ends given)) after) after new =
    subst (λ n. Reads (Ok texts) (carried_out (list_at env n) after) after new) is r in
    h ∙ reads_ok (list_at env (most_bytes - bytes_with_ends given)) (with_args given) texts after new r'
