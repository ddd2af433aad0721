-- Where a list was read, its addresses can be read.
use Rattle.std.proofs.Common.{◌≡◌, ℕ, zero, suc, ◌+◌, ◌-◌, ◌*◌, ◌%◌, ◌/◌, ◌^◌, ◌<◌, Bool, true, false, cond, ◌&&◌, List, [], ◌∷◌, length, Result, Ok, Err, refl, sym, ap, subst, ◌∙◌, arith}
use Rattle.std.specs.Prelude.{nat_eq}
use Rattle.law_programs.specs.pr_base.Fields.{little_endian}
use Rattle.law_programs.specs.pr_base.declared.errno.Errno.{Errno}
use Rattle.law_programs.specs.pr_base.declared.errno.Errno.TheVariants.{E2BIG, EFAULT}
use Rattle.law_programs.specs.rv_mem.Actions.{CarriedOut, Done, ReadBytes, allows_uses, carried_out}
use Rattle.law_programs.specs.rv_mem.Memory.{Memory}
use Rattle.law_programs.specs.rv_mem.Pages.{IsPlaced, Pages, allows_all}
use Rattle.law_programs.specs.rv_mem.declared.rights.Use.TheVariants.{Read}
use Rattle.law_programs.proofs.rv_mem.PagesLemmas.{allows_all-add}
use Rattle.law_programs.proofs.rv_mem.AccessLemmas.{allows_all-zero}
use Rattle.law_stops.specs.kr_calls.Expansion.{bytes_with_ends}
use Rattle.law_programs.specs.kr_exec.Lists.{Trying, address_at, and_then, at_least_one, behind, env_at, list_at, lists_at, most_bytes, most_texts, next_address, text_within, texts_from}
use Rattle.law_programs.specs.kr_exec.declared.lists.Lists.{Lists}
use Rattle.law_programs.proofs.kr_exec.ListLemmas.{and_then_is, at_address, by_address, entry, on_reply}
use Rattle.law_stops.proofs.law_edits.RangeLemmas.{part_allowed}
use Rattle.law_stops.proofs.law_edits.ReadLemmas.{one-allowed, page-there}
use Rattle.law_stops.proofs.law_edits.ListKeepLemmas.{address-keeps, within-keeps}
use Rattle.law_execves.specs.Addresses.{KeptAddressesAreRead}

abbrev Texts : Type 0
Texts = List (List ℕ)

ok_same : {A : Type 0} {a b : A} → ◌≡◌ {A = Result A Errno} (Ok a) (Ok b) → a ≡ b
ok_same e = cc

err_ok : {A : Type 0} {e : Errno} {a : A} → ◌≡◌ {A = Result A Errno} (Err e) (Ok a) → ⊥
err_ok e = cc

-- ---- one address

address-allowed : (at address : ℕ) (m : Memory) → (carried_out (address_at at) m).reply ≡ Ok address → allows_all m.pages at 8 Read ≡ true
address-allowed at address m e = by (allows_uses m.pages at 8 (Read ∷ [])) refl e
  where
    by : (b : Bool) → allows_uses m.pages at 8 (Read ∷ []) ≡ b → (carried_out (cond b (ReadBytes at 8 (λ bytes. Done (Ok (little_endian bytes)))) (Done (Err EFAULT))) m).reply ≡ Ok address → allows_all m.pages at 8 Read ≡ true
    by true is e = is
    by false is e = absurd (err_ok e)

-- the next one has no more than 64 bits
next-is : (m : Pages) (at : ℕ) → IsPlaced m → allows_all m at 8 Read ≡ true → next_address at ≡ at + 8
next-is m at placed e = by (placed (at / 4096) (page-there m (at / 4096) Read (one-allowed m at (part_allowed m at 8 at 1 Read (omega arith) (omega arith) e))))
  where
    by : at / 4096 < 67108863 → (at + 8) % 2 ^ 64 ≡ at + 8
    by low = omega arith

-- ---- a list

abbrev Allowed : Pages → ℕ → Texts → Type 0
Allowed m at texts = allows_all m at (8 * length texts) Read ≡ true

none-allowed : (m : Pages) (at : ℕ) (texts : Texts) → ◌≡◌ {A = Result Texts Errno} (Ok []) (Ok texts) → Allowed m at texts
none-allowed m at texts e = subst (λ (l : Texts). Allowed m at l) (ok_same e) (allows_all-zero m at Read)

one-more : (m : Pages) (at : ℕ) (text : List ℕ) (rest : Texts) → IsPlaced m → allows_all m at 8 Read ≡ true → Allowed m (next_address at) rest → Allowed m at (text ∷ rest)
one-more m at text rest placed here later =
    let size : 8 * length (text ∷ rest) ≡ 8 + 8 * length rest = omega arith in
    ap (λ k. allows_all m at k Read) size ∙ allows_all-add m at 8 (8 * length rest) Read
    ∙ ap (λ b. b && allows_all m (at + 8) (8 * length rest) Read) here
    ∙ ap (λ a. allows_all m a (8 * length rest) Read) (sym (next-is m at placed here)) ∙ later

texts-allowed : (left at room : ℕ) (m : Memory) (texts : Texts) → IsPlaced m.pages → (carried_out (texts_from left at room) m).reply ≡ Ok texts → Allowed m.pages at texts
texts-allowed zero at room m texts placed e = by d.reply (sym (ap (λ (d : CarriedOut (Result Texts Errno)). d.reply) (at_address 0 at room m d.memory d.reply refl)) ∙ e)
  where
    d : CarriedOut (Result ℕ Errno)
    d = carried_out (address_at at) m

    ended : (b : Bool) → (carried_out (cond b (Done (Ok [])) (Done (Err E2BIG))) d.memory).reply ≡ Ok texts → Allowed m.pages at texts
    ended true e = none-allowed m.pages at texts e
    ended false e = absurd (err_ok e)

    by : (r : Result ℕ Errno) → (on_reply (by_address 0 at room) r d.memory).reply ≡ Ok texts → Allowed m.pages at texts
    by (Ok address) e = ended (nat_eq address 0) e
    by (Err why) e = absurd (err_ok e)
texts-allowed (suc left) at room m texts placed e =
    by d.reply refl (λ text after rest lies. texts-allowed left (next_address at) (room - (length text + 1)) after rest lies)
    (sym (ap (λ (d : CarriedOut (Result Texts Errno)). d.reply) (at_address (suc left) at room m d.memory d.reply refl)) ∙ e)
  where
    d : CarriedOut (Result ℕ Errno)
    d = carried_out (address_at at) m

    Later : Type 0
    Later = (text : List ℕ) (after : Memory) (rest : Texts) → IsPlaced after.pages → (carried_out (texts_from left (next_address at) (room - (length text + 1))) after).reply ≡ Ok rest → Allowed after.pages (next_address at) rest

    own : List ℕ → Trying Texts
    own text = and_then (texts_from left (next_address at) (room - (length text + 1))) (behind text)

    -- behind its first text
    rest-allowed : Later → (here : allows_all m.pages at 8 Read ≡ true) (text : List ℕ) (after : Memory) → after.pages ≡ m.pages → (r : Result Texts Errno)
        → (carried_out (texts_from left (next_address at) (room - (length text + 1))) after).reply ≡ r → (on_reply (behind text) r (carried_out (texts_from left (next_address at) (room - (length text + 1))) after).memory).reply ≡ Ok texts → Allowed m.pages at texts
    rest-allowed later here text after same (Err why) is e = absurd (err_ok e)
    rest-allowed later here text after same (Ok rest) is e =
        subst (λ (l : Texts). Allowed m.pages at l) (ok_same e)
        (one-more m.pages at text rest placed here (subst (λ pages. Allowed pages (next_address at) rest) same (later text after rest (subst IsPlaced (sym same) placed) is)))

    first : Later → allows_all m.pages at 8 Read ≡ true → (r : Result (List ℕ) Errno) (after : Memory) → after.pages ≡ m.pages → (on_reply own r after).reply ≡ Ok texts → Allowed m.pages at texts
    first later here (Err why) after same e = absurd (err_ok e)
    first later here (Ok text) after same e =
        rest-allowed later here text after same (carried_out (texts_from left (next_address at) (room - (length text + 1))) after).reply refl
        (sym (ap (λ (d : CarriedOut (Result Texts Errno)). d.reply) (and_then_is (texts_from left (next_address at) (room - (length text + 1))) (behind text) after)) ∙ e)

    ended : Later → (address : ℕ) → d.reply ≡ Ok address → (b : Bool) → (carried_out (cond b (Done (Ok [])) (entry left at room address)) d.memory).reply ≡ Ok texts → Allowed m.pages at texts
    ended later address is true e = none-allowed m.pages at texts e
    ended later address is false e =
        let text = carried_out (text_within room address) d.memory in
        first later (address-allowed at address m is) text.reply text.memory (within-keeps room address d.memory ∙ address-keeps at m)
        (sym (ap (λ (d : CarriedOut (Result Texts Errno)). d.reply) (and_then_is (text_within room address) own d.memory)) ∙ e)

    by : (r : Result ℕ Errno) → d.reply ≡ r → Later → (on_reply (by_address (suc left) at room) r d.memory).reply ≡ Ok texts → Allowed m.pages at texts
    by (Ok address) is later e = ended later address is (nat_eq address 0) e
    by (Err why) is later e = absurd (err_ok e)

-- ---- the kept ones

-- of at least one text all but the first
kept-allowed : (m : Pages) (at : ℕ) (texts : Texts) → IsPlaced m → Allowed m at texts → allows_all m (next_address at) (8 * (length (at_least_one texts) - 1)) Read ≡ true
kept-allowed m at [] placed all = allows_all-zero m (next_address at) Read
kept-allowed m at (text ∷ rest) placed all =
    let first = part_allowed m at (8 * length (text ∷ rest)) at 8 Read (omega arith) (omega arith) all in
    let size : 8 * (length (text ∷ rest) - 1) ≡ 8 * length rest = omega arith in
    ap (λ k. allows_all m (next_address at) k Read) size
    ∙ ap (λ a. allows_all m a (8 * length rest) Read) (next-is m at placed first)
    ∙ part_allowed m at (8 * length (text ∷ rest)) (at + 8) (8 * length rest) Read (omega arith) (omega arith) all

list-allowed : (args : ℕ) (m : Memory) (texts : Texts) → IsPlaced m.pages → (carried_out (list_at args most_bytes) m).reply ≡ Ok texts → allows_all m.pages (next_address args) (8 * (length (at_least_one texts) - 1)) Read ≡ true
list-allowed args m texts placed e = by (nat_eq args 0) e
  where
    by : (b : Bool) → (carried_out (cond b (Done (Ok [])) (texts_from most_texts args most_bytes)) m).reply ≡ Ok texts → allows_all m.pages (next_address args) (8 * (length (at_least_one texts) - 1)) Read ≡ true
    by true e = subst (λ (l : Texts). allows_all m.pages (next_address args) (8 * (length (at_least_one l) - 1)) Read ≡ true) (ok_same e) (allows_all-zero m.pages (next_address args) Read)
    by false e = kept-allowed m.pages args texts placed (texts-allowed most_texts args most_bytes m texts placed e)

lists-allowed : (args env : ℕ) (m : Memory) (lists : Lists) → IsPlaced m.pages → (carried_out (lists_at args env) m).reply ≡ Ok lists → allows_all m.pages (next_address args) (8 * (length lists.args - 1)) Read ≡ true
lists-allowed args env m lists placed e = by d.reply refl (sym (ap (λ (d : CarriedOut (Result Lists Errno)). d.reply) (and_then_is (list_at args most_bytes) (λ texts. env_at env (at_least_one texts)) m)) ∙ e)
  where
    d : CarriedOut (Result Texts Errno)
    d = carried_out (list_at args most_bytes) m

    of-env : (texts : Texts) (r : Result Texts Errno) (after : Memory) → (on_reply (λ (more : Texts). Done (Ok (let l : Lists = record { args = texts; env = more } in l))) r after).reply ≡ Ok lists → lists.args ≡ texts
    of-env texts (Err why) after e = absurd (err_ok e)
    of-env texts (Ok more) after e = sym (ap (λ (l : Lists). l.args) (ok_same e))

    by : (r : Result Texts Errno) → d.reply ≡ r → (on_reply (λ texts. env_at env (at_least_one texts)) r d.memory).reply ≡ Ok lists → allows_all m.pages (next_address args) (8 * (length lists.args - 1)) Read ≡ true
    by (Err why) is e = absurd (err_ok e)
    by (Ok texts) is e =
        let given = at_least_one texts in
        let room = most_bytes - bytes_with_ends given in
        let same = of-env given (carried_out (list_at env room) d.memory).reply (carried_out (list_at env room) d.memory).memory
        (sym (ap (λ (d : CarriedOut (Result Lists Errno)). d.reply) (and_then_is (list_at env room) (λ more. Done (Ok (let l : Lists = record { args = given; env = more } in l))) d.memory)) ∙ e) in
        subst (λ (l : Texts). allows_all m.pages (next_address args) (8 * (length l - 1)) Read ≡ true) (sym same) (list-allowed args m texts placed is)

pub kept_addresses_are_read : KeptAddressesAreRead
kept_addresses_are_read args env m w lists placed e same = by (allows_uses w.pages (next_address args) (8 * (length lists.args - 1)) (Read ∷ [])) (ap (λ pages. allows_all pages (next_address args) (8 * (length lists.args - 1)) Read) same ∙ lists-allowed args env m lists placed e)
  where
    by : (b : Bool) → b ≡ true → (bytes : List ℕ) × ((carried_out (cond b (ReadBytes (next_address args) (8 * (length lists.args - 1)) (λ bytes. Done (Ok bytes))) (Done (Err EFAULT))) w).reply ≡ Ok bytes)
    by true is = (_, refl)
    by false is = absurd cc
