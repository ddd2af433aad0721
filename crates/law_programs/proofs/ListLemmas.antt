-- Lists that stand in a memory are read, and what is read stands there.
use Rattle.std.proofs.Common.{◌≡◌, ℕ, zero, suc, ◌+◌, ◌-◌, ◌<◌, ◌≤◌, inl, inr, Bool, true, false, cond, List, [], ◌∷◌, length, Result, Ok, Err, refl, sym, ap, ◌∙◌, subst, arith}
use Rattle.std.specs.Prelude.{nat_eq, nat_lt}
use Rattle.std.proofs.lemmas.Bool.Decides.{nat_tests}
use Rattle.kr_first.specs.pr_base.Fields.{little_endian}
use Rattle.kr_first.specs.pr_base.declared.errno.Errno.{Errno}
use Rattle.kr_first.specs.pr_base.declared.errno.Errno.TheVariants.{E2BIG, EFAULT}
use Rattle.kr_first.specs.rv_mem.Actions.{CarriedOut, Done, ReadBytes, allows_uses, carried_out}
use Rattle.kr_first.specs.rv_mem.Memory.{Memory, after_read, text_of, text_reach}
use Rattle.kr_first.specs.rv_mem.Pages.{allows_all}
use Rattle.kr_first.specs.rv_mem.declared.fault.TextFault.{TextFault}
use Rattle.kr_first.specs.rv_mem.declared.fault.TextFault.TheVariants as fault
use Rattle.kr_first.specs.rv_mem.declared.rights.Use.TheVariants.{Read}
use Rattle.kr_first.specs.kr_calls.Expansion.{bytes_with_ends}
use Rattle.law_edits.proofs.kr_calls.TextLemmas.{chosen, read_text_is}
use Rattle.kr_first.specs.kr_exec.Lists.{Trying, address_at, and_then, at_least_one, behind, env_at, if_it_fits, list_at, most_bytes, most_texts, next_address, text_at, text_within, texts_from}
use Rattle.kr_first.specs.kr_exec.declared.lists.Lists.{Lists}
use Rattle.kr_first.proofs.kr_exec.ListLemmas.{and_then_is, at_address, at_end, at_text, by_address, done, entry, fits, goes_on, on_reply}
use Rattle.law_edits.proofs.ListKeepLemmas.{address-keeps, list-keeps, within-keeps}
use Rattle.law_programs.specs.Lists.{IsEntry, IsList, IsListAt, ReadListsStand, StandingListsAreRead, address_in}

abbrev pub Texts : Type 0
Texts = List (List ℕ)

pub ok_same : {A : Type 0} {a b : A} → ◌≡◌ {A = Result A Errno} (Ok a) (Ok b) → a ≡ b
ok_same e = cc

pub err_ok : {A : Type 0} {e : Errno} {a : A} → ◌≡◌ {A = Result A Errno} (Err e) (Ok a) → ⊥
err_ok e = cc

-- ---- an address

address-given : (at : ℕ) (m : Memory) → allows_all m.pages at 8 Read ≡ true → carried_out (address_at at) m ≡ done (Ok (address_in m.pages at)) (after_read m at 8)
address-given at m allowed = ap (λ b. carried_out (cond b (ReadBytes at 8 (λ bytes. Done (Ok (little_endian bytes)))) (Done (Err EFAULT))) m) allowed

address-told : (at address : ℕ) (m : Memory) → (carried_out (address_at at) m).reply ≡ Ok address → (allows_all m.pages at 8 Read ≡ true) × (address_in m.pages at ≡ address)
address-told at address m e = by (allows_uses m.pages at 8 (Read ∷ [])) refl e
  where
    by : (b : Bool) → allows_uses m.pages at 8 (Read ∷ []) ≡ b → (carried_out (cond b (ReadBytes at 8 (λ bytes. Done (Ok (little_endian bytes)))) (Done (Err EFAULT))) m).reply ≡ Ok address
        → (allows_all m.pages at 8 Read ≡ true) × (address_in m.pages at ≡ address)
    by true is e = (is, ok_same e)
    by false is e = absurd (err_ok e)

-- ---- a text

abbrev text_chosen : Result (List ℕ) TextFault → Trying (List ℕ)
text_chosen r = chosen (Done (Err EFAULT)) (Done (Err E2BIG)) (λ text. Done (Ok text)) r

abbrev pub after_text : Memory → ℕ → Memory
after_text m at = after_read m at (text_reach m.pages at most_bytes)

within-is : (room at : ℕ) (m : Memory) → carried_out (text_within room at) m ≡ goes_on (if_it_fits room) (carried_out (text_chosen (text_of m.pages at most_bytes)) (after_text m at))
within-is room at m = and_then_is (text_at at) (if_it_fits room) m ∙ ap (goes_on (if_it_fits room)) (read_text_is most_bytes at (Done (Err EFAULT)) (Done (Err E2BIG)) (λ text. Done (Ok text)) m)

within-given : (room at : ℕ) (text : List ℕ) (m : Memory) → text_of m.pages at most_bytes ≡ Ok text → length text < room → carried_out (text_within room at) m ≡ done (Ok text) (after_text m at)
within-given room at text m is less = within-is room at m ∙ ap (λ r. goes_on (if_it_fits room) (carried_out (text_chosen r) (after_text m at))) is ∙ fits room text (after_text m at) less

within-told : (room at : ℕ) (text : List ℕ) (m : Memory) → (carried_out (text_within room at) m).reply ≡ Ok text → text_of m.pages at most_bytes ≡ Ok text
within-told room at text m e = by (text_of m.pages at most_bytes) (sym (ap (λ (d : CarriedOut (Result (List ℕ) Errno)). d.reply) (within-is room at m)) ∙ e)
  where
    fitted : (t : List ℕ) (b : Bool) → (carried_out (cond b (Done (Ok t)) (Done (Err E2BIG))) (after_text m at)).reply ≡ Ok text → ◌≡◌ {A = Result (List ℕ) TextFault} (Ok t) (Ok text)
    fitted t true e = ap (λ (t : List ℕ). Ok t) (ok_same e)
    fitted t false e = absurd (err_ok e)

    by : (r : Result (List ℕ) TextFault) → (goes_on (if_it_fits room) (carried_out (text_chosen r) (after_text m at))).reply ≡ Ok text → r ≡ Ok text
    by (Ok t) e = fitted t (nat_lt (length t) room) e
    by (Err fault.BadAddress) e = absurd (err_ok e)
    by (Err fault.TooLong) e = absurd (err_ok e)
    by (Err fault.NoMemory) e = absurd (err_ok e)

-- ---- a list that stands is read

abbrev own : ℕ → ℕ → ℕ → List ℕ → Trying Texts
own left at room text = and_then (texts_from left (next_address at) (room - (length text + 1))) (behind text)

-- an entry, and what follows it
pub texts-step : (left at room : ℕ) (m : Memory) (text : List ℕ) → IsEntry m.pages at text → length text < room → carried_out (texts_from (suc left) at room) m
    ≡ goes_on (behind text) (carried_out (texts_from left (next_address at) (room - (length text + 1))) (after_text (after_read m at 8) (address_in m.pages at)))
texts-step left at room m text here less =
    let address = address_in m.pages at in
    let after = after_read m at 8 in
    at_address (suc left) at room m after (Ok address) (address-given at m here.allowed)
    ∙ at_text left at room address after here.some
    ∙ and_then_is (text_within room address) (own left at room) after
    ∙ ap (goes_on (own left at room)) (within-given room address text after here.stands less)
    ∙ and_then_is (texts_from left (next_address at) (room - (length text + 1))) (behind text) (after_text after address)

texts-given : (left at room : ℕ) (m : Memory) (texts : Texts) → IsList m.pages at texts → length texts ≤ left → bytes_with_ends texts ≤ room → (carried_out (texts_from left at room) m).reply ≡ Ok texts
texts-given left at room m [] stands few small =
    ap (λ (d : CarriedOut (Result Texts Errno)). d.reply)
    (at_address left at room m (after_read m at 8) (Ok 0) (address-given at m stands.allowed ∙ ap (λ n. done (Ok n) (after_read m at 8)) stands.none) ∙ at_end left at room (after_read m at 8))
texts-given zero at room m (text ∷ texts) stands few small = absurd (omega (arith, few))
texts-given (suc left) at room m (text ∷ texts) stands few small =
    let later = after_text (after_read m at 8) (address_in m.pages at) in
    let rest : Trying Texts = texts_from left (next_address at) (room - (length text + 1)) in
    ap (λ (d : CarriedOut (Result Texts Errno)). d.reply) (texts-step left at room m text stands.0 (omega (arith, small)))
    ∙ ap (λ r. (on_reply (behind text) r (carried_out rest later).memory).reply) (texts-given left (next_address at) (room - (length text + 1)) later texts stands.1 (omega (arith, few)) (omega (arith, small)))

list-given : (at room : ℕ) (m : Memory) (texts : Texts) → IsListAt m.pages at texts → length texts ≤ most_texts → bytes_with_ends texts ≤ room → (carried_out (list_at at room) m).reply ≡ Ok texts
list-given at room m texts (inl none) few small = ap (λ b. (carried_out (cond b (Done (Ok [])) (texts_from most_texts at room)) m).reply) none.0 ∙ ap (λ (l : Texts). Ok l) (sym none.1)
list-given at room m texts (inr some) few small =
    ap (λ b. (carried_out (cond b (Done (Ok [])) (texts_from most_texts at room)) m).reply) some.0 ∙ texts-given most_texts at room m texts some.1 few small

pub more-bytes : (texts : Texts) → bytes_with_ends texts ≤ bytes_with_ends (at_least_one texts)
more-bytes [] = omega arith
more-bytes (text ∷ texts) = omega arith

pub standing_lists_are_read : StandingListsAreRead
standing_lists_are_read args env m texts more first second few many small =
    let d = carried_out (list_at args most_bytes) m in
    let given = at_least_one texts in
    let room = most_bytes - bytes_with_ends given in
    let there = carried_out (list_at env room) d.memory in
    let ended = λ (more : Texts). Done (Ok (let l : Lists = record { args = given; env = more } in l)) in
    ap (λ (d : CarriedOut (Result Lists Errno)). d.reply) (and_then_is (list_at args most_bytes) (λ texts. env_at env (at_least_one texts)) m)
    ∙ ap (λ r. (on_reply (λ texts. env_at env (at_least_one texts)) r d.memory).reply) (list-given args most_bytes m texts first few (omega (arith, small, more-bytes texts)))
    ∙ ap (λ (d : CarriedOut (Result Lists Errno)). d.reply) (and_then_is (list_at env room) ended d.memory)
    ∙ ap (λ r. (on_reply ended r there.memory).reply)
    (list-given env room d.memory more (subst (λ pages. IsListAt pages env more) (sym (list-keeps args most_bytes m)) second) many (omega (arith, small)))

-- ---- a list that was read stands

end-told : (at : ℕ) (m : Memory) (texts : Texts) → (address : ℕ) → (carried_out (address_at at) m).reply ≡ Ok address → nat_eq address 0 ≡ true → ◌≡◌ {A = Result Texts Errno} (Ok []) (Ok texts) → IsList m.pages at texts
end-told at m texts address told is e =
    let here = address-told at address m told in
    let none : address ≡ 0 = grind (arith, nat_tests) in
    subst (λ (l : Texts). IsList m.pages at l) (ok_same e) (record { allowed = here.0; none = here.1 ∙ none })

texts-told : (left at room : ℕ) (m : Memory) (texts : Texts) → (carried_out (texts_from left at room) m).reply ≡ Ok texts → IsList m.pages at texts
texts-told zero at room m texts e = by d.reply refl (sym (ap (λ (d : CarriedOut (Result Texts Errno)). d.reply) (at_address 0 at room m d.memory d.reply refl)) ∙ e)
  where
    d : CarriedOut (Result ℕ Errno)
    d = carried_out (address_at at) m

    ended : (address : ℕ) → d.reply ≡ Ok address → (b : Bool) → nat_eq address 0 ≡ b → (carried_out (cond b (Done (Ok [])) (Done (Err E2BIG))) d.memory).reply ≡ Ok texts → IsList m.pages at texts
    ended address told true is e = end-told at m texts address told is e
    ended address told false is e = absurd (err_ok e)

    by : (r : Result ℕ Errno) → d.reply ≡ r → (on_reply (by_address 0 at room) r d.memory).reply ≡ Ok texts → IsList m.pages at texts
    by (Ok address) is e = ended address is (nat_eq address 0) refl e
    by (Err why) is e = absurd (err_ok e)
texts-told (suc left) at room m texts e =
    by d.reply refl (λ text after rest. texts-told left (next_address at) (room - (length text + 1)) after rest)
    (sym (ap (λ (d : CarriedOut (Result Texts Errno)). d.reply) (at_address (suc left) at room m d.memory d.reply refl)) ∙ e)
  where
    d : CarriedOut (Result ℕ Errno)
    d = carried_out (address_at at) m

    Later : Type 0
    Later = (text : List ℕ) (after : Memory) (rest : Texts) → (carried_out (texts_from left (next_address at) (room - (length text + 1))) after).reply ≡ Ok rest → IsList after.pages (next_address at) rest

    rest-told : Later → (text : List ℕ) → IsEntry m.pages at text → (after : Memory) → after.pages ≡ m.pages → (r : Result Texts Errno)
        → (carried_out (texts_from left (next_address at) (room - (length text + 1))) after).reply ≡ r → (on_reply (behind text) r (carried_out (texts_from left (next_address at) (room - (length text + 1))) after).memory).reply ≡ Ok texts → IsList m.pages at texts
    rest-told later text here after same (Err why) is e = absurd (err_ok e)
    rest-told later text here after same (Ok rest) is e =
        let below : IsList m.pages (next_address at) rest = subst (λ pages. IsList pages (next_address at) rest) same (later text after rest is) in
        subst (λ (l : Texts). IsList m.pages at l) (ok_same e) (here, below)

    first : Later → (r : Result (List ℕ) Errno) → ((text : List ℕ) → r ≡ Ok text → IsEntry m.pages at text) → (after : Memory) → after.pages ≡ m.pages → (on_reply (own left at room) r after).reply ≡ Ok texts → IsList m.pages at texts
    first later (Err why) here after same e = absurd (err_ok e)
    first later (Ok text) here after same e =
        rest-told later text (here text refl) after same (carried_out (texts_from left (next_address at) (room - (length text + 1))) after).reply refl
        (sym (ap (λ (d : CarriedOut (Result Texts Errno)). d.reply) (and_then_is (texts_from left (next_address at) (room - (length text + 1))) (behind text) after)) ∙ e)

    -- the entry, by what was read of it
    entry-told : (address : ℕ) → d.reply ≡ Ok address → nat_eq address 0 ≡ false → (text : List ℕ) → (carried_out (text_within room address) d.memory).reply ≡ Ok text → IsEntry m.pages at text
    entry-told address told some text is =
        let here = address-told at address m told in
        record {
          allowed = here.0;
          some = ap (λ n. nat_eq n 0) here.1 ∙ some;
          stands = ap (λ n. text_of m.pages n most_bytes) here.1 ∙ ap (λ pages. text_of pages address most_bytes) (sym (address-keeps at m)) ∙ within-told room address text d.memory is;
        }

    ended : Later → (address : ℕ) → d.reply ≡ Ok address → (b : Bool) → nat_eq address 0 ≡ b → (carried_out (cond b (Done (Ok [])) (entry left at room address)) d.memory).reply ≡ Ok texts → IsList m.pages at texts
    ended later address told true is e = end-told at m texts address told is e
    ended later address told false is e =
        let text = carried_out (text_within room address) d.memory in
        first later text.reply (λ t gave. entry-told address told is t gave) text.memory (within-keeps room address d.memory ∙ address-keeps at m)
        (sym (ap (λ (d : CarriedOut (Result Texts Errno)). d.reply) (and_then_is (text_within room address) (own left at room) d.memory)) ∙ e)

    by : (r : Result ℕ Errno) → d.reply ≡ r → Later → (on_reply (by_address (suc left) at room) r d.memory).reply ≡ Ok texts → IsList m.pages at texts
    by (Ok address) is later e = ended later address is (nat_eq address 0) refl e
    by (Err why) is later e = absurd (err_ok e)

pub list-told : (at room : ℕ) (m : Memory) (texts : Texts) → (carried_out (list_at at room) m).reply ≡ Ok texts → IsListAt m.pages at texts
list-told at room m texts e = by (nat_eq at 0) refl e
  where
    by : (b : Bool) → nat_eq at 0 ≡ b → (carried_out (cond b (Done (Ok [])) (texts_from most_texts at room)) m).reply ≡ Ok texts → IsListAt m.pages at texts
    by true is e = inl (is, sym (ok_same e))
    by false is e = inr (is, texts-told most_texts at room m texts e)

pub read_lists_stand : ReadListsStand
read_lists_stand args env m lists e = by d.reply refl (sym (ap (λ (d : CarriedOut (Result Lists Errno)). d.reply) (and_then_is (list_at args most_bytes) (λ texts. env_at env (at_least_one texts)) m)) ∙ e)
  where
    Stand : Type 0
    Stand = (texts : Texts) × IsListAt m.pages args texts × (lists.args ≡ at_least_one texts) × IsListAt m.pages env lists.env

    d : CarriedOut (Result Texts Errno)
    d = carried_out (list_at args most_bytes) m

    of-env : (texts : Texts) (r : Result Texts Errno) (after : Memory) → (on_reply (λ (more : Texts). Done (Ok (let l : Lists = record { args = texts; env = more } in l))) r after).reply ≡ Ok lists
        → (lists.args ≡ texts) × (r ≡ Ok lists.env)
    of-env texts (Err why) after e = absurd (err_ok e)
    of-env texts (Ok more) after e = (sym (ap (λ (l : Lists). l.args) (ok_same e)), ap (λ (l : Lists). Ok l.env) (ok_same e))

    by : (r : Result Texts Errno) → d.reply ≡ r → (on_reply (λ texts. env_at env (at_least_one texts)) r d.memory).reply ≡ Ok lists → Stand
    by (Err why) is e = absurd (err_ok e)
    by (Ok texts) is e =
        let given = at_least_one texts in
        let room = most_bytes - bytes_with_ends given in
        let both = of-env given (carried_out (list_at env room) d.memory).reply (carried_out (list_at env room) d.memory).memory
        (sym (ap (λ (d : CarriedOut (Result Lists Errno)). d.reply) (and_then_is (list_at env room) (λ more. Done (Ok (let l : Lists = record { args = given; env = more } in l))) d.memory)) ∙ e) in
        (texts, list-told args most_bytes m texts is, both.0, subst (λ pages. IsListAt pages env lists.env) (list-keeps args most_bytes m) (list-told env room d.memory lists.env both.1))
