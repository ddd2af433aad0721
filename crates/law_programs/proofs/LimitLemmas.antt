-- Lists that are read are within their limits.
use Rattle.std.proofs.Common.{◌≡◌, ℕ, zero, suc, ◌+◌, ◌-◌, ◌<◌, ◌≤◌, Bool, true, false, cond, List, ◌∷◌, length, nat_lt, Result, Ok, Err, refl, sym, ap, subst, ◌∙◌, arith, []}
use Rattle.std.specs.Prelude.{nat_eq}
use Rattle.std.proofs.lemmas.Bool.Decides.{nat_tests}
use Rattle.kr_first.specs.pr_base.declared.errno.Errno.{Errno}
use Rattle.kr_first.specs.pr_base.declared.errno.Errno.TheVariants.{E2BIG}
use Rattle.kr_first.specs.rv_mem.Actions.{CarriedOut, Done, carried_out}
use Rattle.kr_first.specs.rv_mem.Memory.{Memory}
use Rattle.kr_first.specs.kr_calls.Expansion.{bytes_with_ends}
use Rattle.kr_first.specs.kr_exec.Exec.{are_too_big}
use Rattle.kr_first.specs.kr_exec.Lists.{Trying, address_at, and_then, at_least_one, behind, env_at, if_it_fits, list_at, most_bytes, most_texts, next_address, text_at, text_within, texts_from}
use Rattle.kr_first.specs.kr_exec.declared.lists.Lists.{Lists}
use Rattle.kr_first.proofs.kr_exec.ListLemmas.{and_then_is, at_address, by_address, entry, on_reply}
use Rattle.kr_first.proofs.kr_exec.PlanLemmas.{lists_within}
use Rattle.law_programs.specs.Executing.{ListsFit}

abbrev Texts : Type 0
Texts = List (List ℕ)

ok_same : {A : Type 0} {a b : A} → ◌≡◌ {A = Result A Errno} (Ok a) (Ok b) → a ≡ b
ok_same e = cc

err_ok : {A : Type 0} {e : Errno} {a : A} → ◌≡◌ {A = Result A Errno} (Err e) (Ok a) → ⊥
err_ok e = cc

-- what is got of an action that goes on with what another gave
module _ {A B : Type 0} (a : Trying A) (next : A → Trying B) (m : Memory) (y : B) where
  pub record Comes : Type 0 where
    pub value : A
    pub after : Memory
    pub first : (carried_out a m).reply ≡ Ok value
    pub rest : (carried_out (next value) after).reply ≡ Ok y

  pub comes : (carried_out (and_then a next) m).reply ≡ Ok y → Comes
  comes e = by (carried_out a m).reply refl (sym (ap (λ (d : CarriedOut (Result B Errno)). d.reply) (and_then_is a next m)) ∙ e)
    where
      by : (r : Result A Errno) → (carried_out a m).reply ≡ r → (on_reply next r (carried_out a m).memory).reply ≡ Ok y → Comes
      by (Ok x) is e = record { value = x; after = (carried_out a m).memory; first = is; rest = e }
      by (Err why) is e = absurd (err_ok e)

-- ---- one text

text-fits : (room : ℕ) (given text : List ℕ) (m : Memory) → (carried_out (if_it_fits room given) m).reply ≡ Ok text → length text < room
text-fits room given text m e = by (nat_lt (length given) room) refl e
  where
    by : (b : Bool) → nat_lt (length given) room ≡ b → (carried_out (cond b (Done (Ok given)) (Done (Err E2BIG))) m).reply ≡ Ok text → length text < room
    by true is e = subst (λ (t : List ℕ). length t < room) (ok_same e) (less (length given) room is)
      where
        less : (a b : ℕ) → nat_lt a b ≡ true → a < b
        less a b is = grind (arith, nat_tests)
    by false is e = absurd (err_ok e)

text-within : (room at : ℕ) (text : List ℕ) (m : Memory) → (carried_out (text_within room at) m).reply ≡ Ok text → length text < room
text-within room at text m e = let c = comes (text_at at) (if_it_fits room) m text e in text-fits room c.value text c.after c.rest

-- ---- a list

abbrev Fits : ℕ → ℕ → Texts → Type 0
Fits left room texts = (length texts ≤ left) × (bytes_with_ends texts ≤ room)

none-fits : (left room : ℕ) (texts : Texts) → ◌≡◌ {A = Result Texts Errno} (Ok []) (Ok texts) → Fits left room texts
none-fits left room texts e = subst (λ (l : Texts). Fits left room l) (ok_same e) (omega arith, omega arith)

texts-fit : (left at room : ℕ) (m : Memory) (texts : Texts) → (carried_out (texts_from left at room) m).reply ≡ Ok texts → Fits left room texts
texts-fit zero at room m texts e = by d.reply (sym (ap (λ (d : CarriedOut (Result Texts Errno)). d.reply) (at_address 0 at room m d.memory d.reply refl)) ∙ e)
  where
    d : CarriedOut (Result ℕ Errno)
    d = carried_out (address_at at) m

    ended : (b : Bool) → (carried_out (cond b (Done (Ok [])) (Done (Err E2BIG))) d.memory).reply ≡ Ok texts → Fits 0 room texts
    ended true e = none-fits 0 room texts e
    ended false e = absurd (err_ok e)

    by : (r : Result ℕ Errno) → (on_reply (by_address 0 at room) r d.memory).reply ≡ Ok texts → Fits 0 room texts
    by (Ok address) e = ended (nat_eq address 0) e
    by (Err why) e = absurd (err_ok e)
texts-fit (suc left) at room m texts e =
    by d.reply (λ text after rest. texts-fit left (next_address at) (room - (length text + 1)) after rest) (sym (ap (λ (d : CarriedOut (Result Texts Errno)). d.reply) (at_address (suc left) at room m d.memory d.reply refl)) ∙ e)
  where
    d : CarriedOut (Result ℕ Errno)
    d = carried_out (address_at at) m

    Later : Type 0
    Later = (text : List ℕ) (after : Memory) (rest : Texts) → (carried_out (texts_from left (next_address at) (room - (length text + 1))) after).reply ≡ Ok rest → Fits left (room - (length text + 1)) rest

    joined : (text : List ℕ) (rest : Texts) → length text < room → Fits left (room - (length text + 1)) rest → Fits (suc left) room (text ∷ rest)
    joined text rest short fits = let one = fits.0 in let two = fits.1 in (omega arith, omega arith)

    next : Later → (address : ℕ) → (carried_out (entry left at room address) d.memory).reply ≡ Ok texts → Fits (suc left) room texts
    next later address e =
        let one = comes (text_within room address) (λ text. and_then (texts_from left (next_address at) (room - (length text + 1))) (behind text)) d.memory texts e in
        let more = comes (texts_from left (next_address at) (room - (length one.value + 1))) (behind one.value) one.after texts one.rest in
        subst (λ (l : Texts). Fits (suc left) room l) (ok_same more.rest)
        (joined one.value more.value (text-within room address one.value d.memory one.first) (later one.value one.after more.value more.first))

    ended : Later → (address : ℕ) (b : Bool) → (carried_out (cond b (Done (Ok [])) (entry left at room address)) d.memory).reply ≡ Ok texts → Fits (suc left) room texts
    ended later address true e = none-fits (suc left) room texts e
    ended later address false e = next later address e

    by : (r : Result ℕ Errno) → Later → (on_reply (by_address (suc left) at room) r d.memory).reply ≡ Ok texts → Fits (suc left) room texts
    by (Ok address) later e = ended later address (nat_eq address 0) e
    by (Err why) later e = absurd (err_ok e)

list-fits : (at room : ℕ) (m : Memory) (texts : Texts) → (carried_out (list_at at room) m).reply ≡ Ok texts → Fits most_texts room texts
list-fits at room m texts e = by (nat_eq at 0) e
  where
    by : (b : Bool) → (carried_out (cond b (Done (Ok [])) (texts_from most_texts at room)) m).reply ≡ Ok texts → Fits most_texts room texts
    by true e = none-fits most_texts room texts e
    by false e = texts-fit most_texts at room m texts e

-- ---- both lists

least-fits : (texts : Texts) → Fits most_texts most_bytes texts → Fits most_texts most_bytes (at_least_one texts)
least-fits [] fits = (omega arith, omega arith)
least-fits (text ∷ texts) fits = fits

pub lists_fit : ListsFit
lists_fit args env m lists e =
    let one = comes (list_at args most_bytes) (λ texts. env_at env (at_least_one texts)) m lists e in
    let own = at_least_one one.value in
    let more = comes (list_at env (most_bytes - bytes_with_ends own)) (λ texts. Done (Ok (let l : Lists = record { args = own; env = texts } in l))) one.after lists one.rest in
    subst (λ (l : Lists). are_too_big l.args l.env ≡ false) (ok_same more.rest)
    (within own more.value (least-fits one.value (list-fits args most_bytes m one.value one.first)) (list-fits env (most_bytes - bytes_with_ends own) one.after more.value more.first))
  where
    within : (own more : Texts) → Fits 4096 131072 own → Fits 4096 (131072 - bytes_with_ends own) more → are_too_big own more ≡ false
    within own more one two =
        let a = one.0 in
        let b = one.1 in
        let c = two.0 in
        let d = two.1 in lists_within own more a c (omega arith)
