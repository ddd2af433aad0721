-- Reading a list of texts writes nothing.
use Rattle.std.proofs.Common.{◌≡◌, ℕ, zero, suc, ◌+◌, ◌-◌, ◌*◌, Bool, true, false, cond, List, ◌∷◌, length, Result, Ok, Err, refl, ap, ◌∙◌, []}
use Rattle.std.specs.Prelude.{nat_eq, nat_lt, slice_index}
use Rattle.pt_tracer.specs.pr_base.Fields.{little_endian}
use Rattle.pt_tracer.specs.pr_base.declared.errno.Errno.{Errno}
use Rattle.pt_tracer.specs.pr_base.declared.errno.Errno.TheVariants.{E2BIG, EFAULT}
use Rattle.pt_tracer.specs.rv_mem.Actions.{Action, CarriedOut, Done, ReadBytes, allows_uses, carried_out}
use Rattle.pt_tracer.specs.rv_mem.Memory.{Memory, after_read}
use Rattle.pt_tracer.specs.rv_mem.Pages.{bytes_from}
use Rattle.pt_tracer.specs.rv_mem.declared.rights.Use.TheVariants.{Read}
use Rattle.law_walks.specs.kr_calls.Expansion.{bytes_with_ends}
use Rattle.law_walks.specs.kr_calls.Texts.{read_text}
use Rattle.pt_tracer.specs.kr_exec.Lists.{Trying, address_at, and_then, at_least_one, behind, env_at, if_it_fits, list_at, lists_at, most_bytes, most_texts, next_address, text_at, text_within, texts_from, unless_ended}
use Rattle.pt_tracer.specs.kr_exec.declared.lists.Lists.{Lists}
use Rattle.pt_tracer.proofs.kr_exec.ListLemmas.{and_then_is, on_reply}
use Rattle.pt_tracer.specs.pt_faker.Reading.{addresses_behind}

abbrev pub Keeps : {A : Type 0} → Action A → Type 0
Keeps action = (m : Memory) → (carried_out action m).memory.pages ≡ m.pages

pub keeps-then : {A B : Type 0} (a : Trying A) (next : A → Trying B) → Keeps a → ((x : A) → Keeps (next x)) → Keeps (and_then a next)
keeps-then {A} {B} a next first then m = ap (λ (d : CarriedOut (Result B Errno)). d.memory.pages) (and_then_is a next m) ∙ by (carried_out a m).reply ∙ first m
  where
    by : (r : Result A Errno) → (on_reply next r (carried_out a m).memory).memory.pages ≡ (carried_out a m).memory.pages
    by (Ok x) = then x (carried_out a m).memory
    by (Err e) = refl

either-keeps : {A : Type 0} (b : Bool) (one other : Action A) → Keeps one → Keeps other → Keeps (cond b one other)
either-keeps true one other first second = first
either-keeps false one other first second = second

text-keeps : {A : Type 0} (most at : ℕ) (refused too_long : Trying A) (next : List ℕ → Trying A) → Keeps refused → Keeps too_long → ((text : List ℕ) → Keeps (next text)) → Keeps (read_text most at refused too_long next)
unfolding read_text
text-keeps zero at refused too_long next one other each m = other m
text-keeps {A} (suc most) at refused too_long next one other each m =
    by (allows_uses m.pages at 1 (Read ∷ [])) (λ b. text-keeps most (at + 1) refused too_long (λ text. next (b ∷ text)) one other (λ text. each (b ∷ text)))
  where
    Later : Type 0
    Later = (b : ℕ) → Keeps (read_text most (at + 1) refused too_long (λ text. next (b ∷ text)))

    by : (b : Bool) → Later
        → (carried_out (cond b (ReadBytes at 1 (λ bytes. cond (nat_eq (slice_index bytes 0) 0) (next []) (read_text most (at + 1) refused too_long (λ text. next (slice_index bytes 0 ∷ text))))) refused) m).memory.pages ≡ m.pages
    by true later =
        let b = slice_index (bytes_from m.pages at 1) 0 in
        either-keeps (nat_eq b 0) (next []) (read_text most (at + 1) refused too_long (λ text. next (b ∷ text))) (each []) (later b) (after_read m at 1)
    by false later = one m

pub address-keeps : (at : ℕ) → Keeps (address_at at)
address-keeps at m = by (allows_uses m.pages at 8 (Read ∷ []))
  where
    by : (b : Bool) → (carried_out (cond b (ReadBytes at 8 (λ bytes. Done (Ok (little_endian bytes)))) (Done (Err EFAULT))) m).memory.pages ≡ m.pages
    by true = refl
    by false = refl

pub within-keeps : (room at : ℕ) → Keeps (text_within room at)
within-keeps room at =
    keeps-then (text_at at) (if_it_fits room) (text-keeps most_bytes at (Done (Err EFAULT)) (Done (Err E2BIG)) (λ text. Done (Ok text)) (λ m. refl) (λ m. refl) (λ text m. refl))
    (λ text. either-keeps (nat_lt (length text) room) (Done (Ok text)) (Done (Err E2BIG)) (λ m. refl) (λ m. refl))

pub texts-keep : (left at room : ℕ) → Keeps (texts_from left at room)
unfolding texts_from
texts-keep zero at room =
    keeps-then (address_at at) (unless_ended (Done (Err E2BIG))) (address-keeps at) (λ address. either-keeps (nat_eq address 0) (Done (Ok [])) (Done (Err E2BIG)) (λ m. refl) (λ m. refl))
texts-keep (suc left) at room = by (λ text. texts-keep left (next_address at) (room - (length text + 1)))
  where
    next : ℕ → Trying (List (List ℕ))
    next address = and_then (text_within room address) (λ text. and_then (texts_from left (next_address at) (room - (length text + 1))) (behind text))

    by : ((text : List ℕ) → Keeps (texts_from left (next_address at) (room - (length text + 1)))) → Keeps (and_then (address_at at) (λ address. unless_ended (next address) address))
    by later =
        keeps-then (address_at at) (λ address. unless_ended (next address) address) (address-keeps at)
        (λ address. either-keeps (nat_eq address 0) (Done (Ok [])) (next address) (λ m. refl)
        (keeps-then (text_within room address) (λ text. and_then (texts_from left (next_address at) (room - (length text + 1))) (behind text)) (within-keeps room address)
        (λ text. keeps-then (texts_from left (next_address at) (room - (length text + 1))) (behind text) (later text) (λ rest m. refl))))

pub list-keeps : (at room : ℕ) → Keeps (list_at at room)
list-keeps at room = either-keeps (nat_eq at 0) (Done (Ok [])) (texts_from most_texts at room) (λ m. refl) (texts-keep most_texts at room)

pub lists-keep : (args env : ℕ) → Keeps (lists_at args env)
lists-keep args env =
    keeps-then (list_at args most_bytes) (λ texts. env_at env (at_least_one texts)) (list-keeps args most_bytes)
    (λ texts. keeps-then (list_at env (most_bytes - bytes_with_ends (at_least_one texts))) (λ more. Done (Ok (let l : Lists = record { args = at_least_one texts; env = more } in l))) (list-keeps env (most_bytes - bytes_with_ends (at_least_one texts))) (λ more m. refl))

-- nor does the tracer's reading of addresses
pub addresses-keep : (at count : ℕ) → Keeps (addresses_behind at count)
addresses-keep at count m = by (allows_uses m.pages (next_address at) (8 * count) (Read ∷ []))
  where
    by : (b : Bool) → (carried_out (cond b (ReadBytes (next_address at) (8 * count) (λ bytes. Done (Ok bytes))) (Done (Err EFAULT))) m).memory.pages ≡ m.pages
    by true = refl
    by false = refl
