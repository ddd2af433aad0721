-- Lists that are read by the kernel and by a tracer, on one memory.
use Rattle.std.proofs.Common.{◌≡◌, ℕ, zero, suc, ◌+◌, ◌-◌, ◌%◌, ◌/◌, ◌^◌, ◌<◌, Bool, true, false, ◌&&◌, cond, List, ◌∷◌, ◌++◌, length, Option, Some, None, Result, Ok, Err, refl, sym, ap, ◌∙◌, subst, arith, append_assoc, append-nil, []}
use Rattle.std.specs.FinMap as map
use Rattle.std.specs.Option.{option_map_or}
use Rattle.std.specs.Prelude.{if◌then◌else◌, is_some, nat_eq, slice_index}
use Rattle.pt_tracer.specs.pr_base.declared.errno.Errno.{Errno}
use Rattle.pt_tracer.specs.pr_base.declared.errno.Errno.TheVariants.{EFAULT, E2BIG}
use Rattle.pt_tracer.specs.rv_mem.Actions.{Action, AreEqualUnmarked, Done, MayUse, ReadBytes, WriteBytes, CarriedOut, allows_uses, carried_out}
use Rattle.pt_tracer.specs.rv_mem.Memory.{Memory, after_read, with_pages}
use Rattle.pt_tracer.specs.rv_mem.Page.{PageState, grants}
use Rattle.pt_tracer.specs.rv_mem.Pages.{IsPlaced, Pages, allows_all, bytes_from, page_allows, written}
use Rattle.pt_tracer.specs.rv_mem.declared.rights.Use.{Use}
use Rattle.pt_tracer.specs.rv_mem.declared.rights.Use.TheVariants.{Read}
use Rattle.pt_tracer.proofs.rv_mem.ActionLemmas.{reads_alike}
use Rattle.pt_tracer.proofs.rv_mem.SpaceLemmas.{IsPlaced-written}
use Rattle.law_walks.specs.kr_calls.Expansion.{bytes_with_ends}
use Rattle.law_walks.specs.kr_calls.Texts.{read_text}
use Rattle.pt_tracer.specs.kr_exec.Lists.{Trying, address_at, and_then, at_least_one, behind, if_it_fits, most_bytes, most_texts, next_address}
use Rattle.pt_tracer.specs.kr_exec.Lists as kernel
use Rattle.pt_tracer.specs.kr_exec.declared.lists.Lists.{Lists}
use Rattle.pt_tracer.proofs.kr_exec.ListLemmas.{and_then_is, at_address, by_address, done, front, goes_on, on_reply}
use Rattle.pt_tracer.specs.pt_faker.Reading.{next_byte, text_from}
use Rattle.pt_tracer.specs.pt_faker.Reading as tracer
use Rattle.pt_tracer.specs.pt_faker.declared.lists.Handed.{Handed}
use Rattle.law_edits.specs.Reading.{ListsAreReadAlike, ShownListsAreReadAlike, handed_on, read_by_tracer}

-- ---- how high a byte may lie

-- pages stay where they lie, whatever is done with a memory
placed-behind : {A : Type 0} (action : Action A) (m : Memory) → IsPlaced m.pages → IsPlaced (carried_out action m).memory.pages
placed-behind (Done reply) m placed = placed
placed-behind (MayUse at n uses next) m placed = placed-behind (next (allows_uses m.pages at n uses)) m placed
placed-behind (ReadBytes at n next) m placed = placed-behind (next (bytes_from m.pages at n)) (after_read m at n) placed
placed-behind (WriteBytes at bytes next) m placed = placed-behind next (with_pages m (written m.pages at bytes)) (IsPlaced-written m.pages at bytes placed)

both-first : (a b : Bool) → (a && b) ≡ true → a ≡ true
both-first true b e = refl
both-first false b e = absurd cc

pub page-there : (m : Pages) (k : ℕ) (what : Use) → page_allows m k what ≡ true → map.contains_key m k ≡ true
page-there m k what e = by (map.get m k) e
  where
    by : (o : Option PageState) → option_map_or (λ p. grants p.rights what) o false ≡ true → is_some o ≡ true
    by None e = absurd cc
    by (Some p) e = refl

pub one-allowed : (m : Pages) (at : ℕ) → allows_uses m at 1 (Read ∷ []) ≡ true → page_allows m (at / 4096) Read ≡ true
unfolding allows_all
one-allowed m at e = both-first (page_allows m (at / 4096) Read) true e

-- the byte behind one that may be read has the next address
next-is : (m : Pages) (at : ℕ) → IsPlaced m → allows_uses m at 1 (Read ∷ []) ≡ true → next_byte at ≡ at + 1
next-is m at placed e = by (placed (at / 4096) (page-there m (at / 4096) Read (one-allowed m at e)))
  where
    by : at / 4096 < 67108863 → (at + 1) % 2 ^ 64 ≡ at + 1
    by low = omega arith

-- ---- one text

-- what a tracer does with a byte
abbrev on_byte : ℕ → ℕ → List ℕ → ℕ → Trying (List ℕ)
on_byte most at read b = if nat_eq b 0 then Done (Ok read) else text_from most (next_byte at) (read ++ b ∷ [])

module _ (refused too_long : Trying (List ℕ)) (refuses : refused ≡ Done (Err EFAULT)) (ends : too_long ≡ Done (Err E2BIG)) where
  abbrev Gives : List ℕ → (List ℕ → Trying (List ℕ)) → Type 0
  Gives read next = (text : List ℕ) → next text ≡ Done (Ok (read ++ text))

  text-alike : (most at : ℕ) (read : List ℕ) (next : List ℕ → Trying (List ℕ)) (m : Memory) → IsPlaced m.pages → Gives read next → carried_out (text_from most at read) m ≡ carried_out (read_text most at refused too_long next) m
  unfolding text_from read_text
  text-alike zero at read next m placed gives = ap (λ a. carried_out a m) (sym ends)
  text-alike (suc most) at read next m placed gives =
      by (allows_uses m.pages at 1 (Read ∷ [])) refl
      (λ c. text-alike most (at + 1) (read ++ c ∷ []) (λ text. next (c ∷ text)) (after_read m at 1) placed (λ text. gives (c ∷ text) ∙ ap (λ (l : List ℕ). Done (Ok l)) (sym (append_assoc read (c ∷ []) text))))
    where
      Later : Type 0
      Later = (c : ℕ) → carried_out (text_from most (at + 1) (read ++ c ∷ [])) (after_read m at 1) ≡ carried_out (read_text most (at + 1) refused too_long (λ text. next (c ∷ text))) (after_read m at 1)

      byte : (c : ℕ) → next_byte at ≡ at + 1 → Later → (b : Bool)
          → carried_out (cond b (Done (Ok read)) (text_from most (next_byte at) (read ++ c ∷ []))) (after_read m at 1) ≡ carried_out (cond b (next []) (read_text most (at + 1) refused too_long (λ text. next (c ∷ text)))) (after_read m at 1)
      byte c low later true = ap (λ a. carried_out a (after_read m at 1)) (ap (λ (l : List ℕ). Done (Ok l)) (sym (append-nil read)) ∙ sym (gives []))
      byte c low later false = ap (λ n. carried_out (text_from most n (read ++ c ∷ [])) (after_read m at 1)) low ∙ later c

      by : (b : Bool) → allows_uses m.pages at 1 (Read ∷ []) ≡ b → Later
          → carried_out (and_then (cond b (ReadBytes at 1 (λ bytes. Done (Ok (slice_index bytes 0)))) (Done (Err EFAULT))) (on_byte most at read)) m
          ≡ carried_out (cond b (ReadBytes at 1 (λ bytes. cond (nat_eq (slice_index bytes 0) 0) (next []) (read_text most (at + 1) refused too_long (λ text. next (slice_index bytes 0 ∷ text))))) refused) m
      by false is later = ap (λ a. carried_out a m) (sym refuses)
      by true is later = byte (slice_index (bytes_from m.pages at 1) 0) (next-is m.pages at placed is) later (nat_eq (slice_index (bytes_from m.pages at 1) 0) 0)

within-alike : (room at : ℕ) (m : Memory) → IsPlaced m.pages → carried_out (tracer.text_within room at) m ≡ carried_out (kernel.text_within room at) m
within-alike room at m placed =
    and_then_is (tracer.text_at at) (if_it_fits room) m
    ∙ ap (goes_on (if_it_fits room)) (text-alike (Done (Err EFAULT)) (Done (Err E2BIG)) refl refl most_bytes at [] (λ text. Done (Ok text)) m placed (λ text. refl))
    ∙ sym (and_then_is (kernel.text_at at) (if_it_fits room) m)

-- ---- a list

abbrev Texts : Type 0
Texts = List (List ℕ)

-- what a tracer does with an address
abbrev on_address : ℕ → ℕ → ℕ → Texts → ℕ → Trying Texts
on_address left at room read address =
    if nat_eq address 0 then Done (Ok read)
    else and_then (tracer.text_within room address) (λ text. tracer.texts_from left (next_address at) (room - (length text + 1)) (read ++ text ∷ []))

abbrev on_last : Texts → ℕ → Trying Texts
on_last read address = if nat_eq address 0 then Done (Ok read) else Done (Err E2BIG)

texts-on : (left at room : ℕ) (read : Texts) → tracer.texts_from (suc left) at room read ≡ and_then (address_at at) (on_address left at room read)
unfolding tracer.texts_from
texts-on left at room read = refl

texts-last : (at room : ℕ) (read : Texts) → tracer.texts_from 0 at room read ≡ and_then (address_at at) (on_last read)
unfolding tracer.texts_from
texts-last at room read = refl

-- the texts behind one that was read
front-behind : (read : Texts) (text : List ℕ) (d : CarriedOut (Result Texts Errno)) → front (read ++ text ∷ []) d ≡ front read (goes_on (behind text) d)
front-behind read text d = by d.reply
  where
    by : (r : Result Texts Errno) → front (read ++ text ∷ []) (done r d.memory) ≡ front read (on_reply (behind text) r d.memory)
    by (Ok rest) = ap (λ (l : Texts). done (Ok l) d.memory) (append_assoc read (text ∷ []) rest)
    by (Err e) = refl

front-ended : (read : Texts) (m : Memory) → done (Ok read) m ≡ front read (done (Ok []) m)
front-ended read m = ap (λ (l : Texts). done (Ok l) m) (sym (append-nil read))

texts-alike : (left at room : ℕ) (read : Texts) (m : Memory) → IsPlaced m.pages → carried_out (tracer.texts_from left at room read) m ≡ front read (carried_out (kernel.texts_from left at room) m)
texts-alike zero at room read m placed =
    ap (λ a. carried_out a m) (texts-last at room read) ∙ and_then_is (address_at at) (on_last read) m
    ∙ by d.reply ∙ ap (front read) (sym (at_address 0 at room m d.memory d.reply refl))
  where
    d : CarriedOut (Result ℕ Errno)
    d = carried_out (address_at at) m

    ended : (b : Bool) → carried_out (cond b (Done (Ok read)) (Done (Err E2BIG))) d.memory ≡ front read (carried_out (cond b (Done (Ok [])) (Done (Err E2BIG))) d.memory)
    ended true = front-ended read d.memory
    ended false = refl

    by : (r : Result ℕ Errno) → on_reply (on_last read) r d.memory ≡ front read (on_reply (by_address 0 at room) r d.memory)
    by (Err e) = refl
    by (Ok address) = ended (nat_eq address 0)
texts-alike (suc left) at room read m placed =
    ap (λ a. carried_out a m) (texts-on left at room read) ∙ and_then_is (address_at at) (on_address left at room read) m
    ∙ by d.reply (λ text after lies. texts-alike left (next_address at) (room - (length text + 1)) (read ++ text ∷ []) after lies)
    ∙ ap (front read) (sym (at_address (suc left) at room m d.memory d.reply refl))
  where
    d : CarriedOut (Result ℕ Errno)
    d = carried_out (address_at at) m

    lies : IsPlaced d.memory.pages
    lies = placed-behind (address_at at) m placed

    on : List ℕ → Trying Texts
    on text = tracer.texts_from left (next_address at) (room - (length text + 1)) (read ++ text ∷ [])

    own : List ℕ → Trying Texts
    own text = and_then (kernel.texts_from left (next_address at) (room - (length text + 1))) (behind text)

    Later : Type 0
    Later = (text : List ℕ) (after : Memory) → IsPlaced after.pages → carried_out (on text) after ≡ front (read ++ text ∷ []) (carried_out (kernel.texts_from left (next_address at) (room - (length text + 1))) after)

    one : Later → (r : Result (List ℕ) Errno) (after : Memory) → IsPlaced after.pages → on_reply on r after ≡ front read (on_reply own r after)
    one later (Err e) after lies = refl
    one later (Ok text) after lies =
        later text after lies
        ∙ front-behind read text (carried_out (kernel.texts_from left (next_address at) (room - (length text + 1))) after)
        ∙ ap (front read) (sym (and_then_is (kernel.texts_from left (next_address at) (room - (length text + 1))) (behind text) after))

    next : Later → (address : ℕ) → carried_out (and_then (tracer.text_within room address) on) d.memory ≡ front read (carried_out (and_then (kernel.text_within room address) own) d.memory)
    next later address =
        let e = carried_out (kernel.text_within room address) d.memory in
        and_then_is (tracer.text_within room address) on d.memory
        ∙ ap (goes_on on) (within-alike room address d.memory lies)
        ∙ one later e.reply e.memory (placed-behind (kernel.text_within room address) d.memory lies)
        ∙ ap (front read) (sym (and_then_is (kernel.text_within room address) own d.memory))

    ended : Later → (address : ℕ) (b : Bool) → carried_out (cond b (Done (Ok read)) (and_then (tracer.text_within room address) on)) d.memory ≡ front read (carried_out (cond b (Done (Ok [])) (and_then (kernel.text_within room address) own)) d.memory)
    ended later address true = front-ended read d.memory
    ended later address false = next later address

    by : (r : Result ℕ Errno) → Later → on_reply (on_address left at room read) r d.memory ≡ front read (on_reply (by_address (suc left) at room) r d.memory)
    by (Err e) later = refl
    by (Ok address) later = ended later address (nat_eq address 0)

front-none : (d : CarriedOut (Result Texts Errno)) → front [] d ≡ d
front-none d = by d.reply
  where
    by : (r : Result Texts Errno) → front [] (done r d.memory) ≡ done r d.memory
    by (Ok rest) = refl
    by (Err e) = refl

list-alike : (at room : ℕ) (m : Memory) → IsPlaced m.pages → carried_out (tracer.list_at at room) m ≡ carried_out (kernel.list_at at room) m
list-alike at room m placed = by (nat_eq at 0)
  where
    by : (b : Bool) → carried_out (cond b (Done (Ok [])) (tracer.texts_from most_texts at room [])) m ≡ carried_out (cond b (Done (Ok [])) (kernel.texts_from most_texts at room)) m
    by true = refl
    by false = texts-alike most_texts at room [] m placed ∙ front-none (carried_out (kernel.texts_from most_texts at room) m)

-- ---- both lists

module _ (env : ℕ) (args : Texts) where
  -- what is handed on of an environment
  of_lists : Texts → Lists
  of_lists texts = record { args = args; env = texts }

  env-alike : (m : Memory) → IsPlaced m.pages → carried_out (tracer.env_at env args) m ≡ handed_on (carried_out (kernel.env_at env args) m)
  env-alike m placed =
      let room = most_bytes - bytes_with_ends args in
      let d = carried_out (kernel.list_at env room) m in
      and_then_is (tracer.list_at env room) (λ texts. Done (Ok (record { args = args; env_bytes = bytes_with_ends texts }))) m
      ∙ ap (goes_on (λ texts. Done (Ok (record { args = args; env_bytes = bytes_with_ends texts })))) (list-alike env room m placed)
      ∙ by d.reply d.memory
      ∙ ap handed_on (sym (and_then_is (kernel.list_at env room) (λ texts. Done (Ok (record { args = args; env = texts }))) m))
    where
      by : (r : Result Texts Errno) (after : Memory)
          → on_reply (λ texts. Done (Ok (let h : Handed = record { args = args; env_bytes = bytes_with_ends texts } in h))) r after
          ≡ handed_on (on_reply (λ texts. Done (Ok (let l : Lists = record { args = args; env = texts } in l))) r after)
      by (Ok texts) after = refl
      by (Err e) after = refl

pub lists_are_read_alike : ListsAreReadAlike
lists_are_read_alike args env m placed =
    let d = carried_out (kernel.list_at args most_bytes) m in
    and_then_is (tracer.list_at args most_bytes) (λ texts. tracer.env_at env (at_least_one texts)) m
    ∙ ap (goes_on (λ texts. tracer.env_at env (at_least_one texts))) (list-alike args most_bytes m placed)
    ∙ by d.reply d.memory (placed-behind (kernel.list_at args most_bytes) m placed)
    ∙ ap handed_on (sym (and_then_is (kernel.list_at args most_bytes) (λ texts. kernel.env_at env (at_least_one texts)) m))
  where
    by : (r : Result Texts Errno) (after : Memory) → IsPlaced after.pages
        → on_reply (λ texts. tracer.env_at env (at_least_one texts)) r after ≡ handed_on (on_reply (λ texts. kernel.env_at env (at_least_one texts)) r after)
    by (Ok texts) after lies = env-alike env (at_least_one texts) after lies
    by (Err e) after lies = refl

pub shown_lists_are_read_alike : ShownListsAreReadAlike
shown_lists_are_read_alike args env m w placed same unread =
    let one = lists_are_read_alike args env m placed in
    let both = reads_alike (tracer.lists_at args env) m w same (ap (λ (d : CarriedOut (Result Handed Errno)). d.memory.read_marked) one ∙ unread) in (
      sym both.0 ∙ ap (λ (d : CarriedOut (Result Handed Errno)). d.reply) one,
      subst (λ (d : CarriedOut (Result Handed Errno)). AreEqualUnmarked d.memory.pages (read_by_tracer args env w).memory.pages) one both.1,
    )
