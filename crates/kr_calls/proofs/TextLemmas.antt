-- A text read byte by byte is the text at its address.
use Rattle.std.proofs.Common.{◌≡◌, ℕ, zero, suc, ◌+◌, Bool, true, false, ◌||◌, cond, List, [], ◌∷◌, Result, Ok, Err, inl, inr, ◌⊎◌, refl, sym, ap, ◌∙◌, subst}
use Rattle.std.specs.Prelude.{nat_eq, ◌&&◌, slice_index}
use Rattle.rv_mem.specs.pr_base.declared.errno.Errno.{Errno}
use Rattle.rv_mem.specs.pr_base.declared.errno.Errno.TheVariants.{EFAULT, ENAMETOOLONG, ENOENT}
use Rattle.rv_mem.specs.Actions.{Action, Done, ReadBytes, CarriedOut, carried_out}
use Rattle.rv_mem.specs.Memory.{Memory, after_read, text_of, text_after, text_reach}
use Rattle.rv_mem.specs.Pages.{allows, allows_all, any_marked, byte_at, bytes_from}
use Rattle.rv_mem.specs.declared.fault.TextFault.{TextFault}
use Rattle.rv_mem.specs.declared.fault.TextFault.TheVariants as text
use Rattle.rv_mem.specs.declared.rights.Use.TheVariants.{Read}
use Rattle.rv_mem.proofs.PagesLemmas.{any_marked-add}
use Rattle.kr_calls.specs.declared.fault.CallFault.{CallFault}
use Rattle.kr_calls.specs.declared.fault.CallFault.TheVariants as call
use Rattle.kr_calls.specs.declared.request.Request.{Request}
use Rattle.kr_calls.specs.Texts.{read_text}
use Rattle.kr_calls.specs.Decodes.{fault_of, named_text, uses_memory, WantsForTexts, Gives, Decodes}
use Rattle.kr_calls.specs.Decoding.{Decoded, accepts, refuses, unless, text_limit, named, with_text, text_read}

-- what is gone on with, by what the text at the address is
abbrev pub chosen : {A : Type 0} → Action A → Action A → (List ℕ → Action A) → Result (List ℕ) TextFault → Action A
chosen refused too_long next (Ok t) = next t
chosen refused too_long next (Err text.BadAddress) = refused
chosen refused too_long next (Err text.TooLong) = too_long
chosen refused too_long next (Err text.NoMemory) = refused

chosen-after : {A : Type 0} (refused too_long : Action A) (next : List ℕ → Action A) (b : ℕ) (r : Result (List ℕ) TextFault)
    → chosen refused too_long (λ t. next (b ∷ t)) r ≡ chosen refused too_long next (text_after b r)
chosen-after refused too_long next b (Ok t) = refl
chosen-after refused too_long next b (Err text.BadAddress) = refl
chosen-after refused too_long next b (Err text.TooLong) = refl
chosen-after refused too_long next b (Err text.NoMemory) = refl

or-false : (b : Bool) → (b || false) ≡ b
or-false true = refl
or-false false = refl

or-assoc : (a b c : Bool) → ((a || b) || c) ≡ (a || (b || c))
or-assoc true b c = refl
or-assoc false b c = refl

nothing_read : (m : Memory) (at : ℕ) → m ≡ after_read m at 0
unfolding any_marked
nothing_read m at = ap (λ b. let s : Memory = record { pages = m.pages; read_marked = b } in s) (sym (or-false m.read_marked))

read_on : (m : Memory) (at k : ℕ) → after_read (after_read m at 1) (at + 1) k ≡ after_read m at (1 + k)
read_on m at k =
    ap (λ b. let s : Memory = record { pages = m.pages; read_marked = b } in s)
    (or-assoc m.read_marked (any_marked m.pages at 1) (any_marked m.pages (at + 1) k) ∙ ap (λ b. m.read_marked || b) (sym (any_marked-add m.pages at 1 k)))

-- reading the text is reading as many bytes as `text_reach` tells and going on by what the text is
pub read_text_is : {A : Type 0} (max at : ℕ) (refused too_long : Action A) (next : List ℕ → Action A) (m : Memory)
    → carried_out (read_text max at refused too_long next) m ≡ carried_out (chosen refused too_long next (text_of m.pages at max)) (after_read m at (text_reach m.pages at max))
unfolding read_text text_of text_reach allows_all bytes_from
read_text_is zero at refused too_long next m = ap (carried_out too_long) (nothing_read m at)
read_text_is (suc max) at refused too_long next m =
    let b = byte_at m.pages at in
    let rest = text_of m.pages (at + 1) max in
    let reach = text_reach m.pages (at + 1) max in
    let later = read_text max (at + 1) refused too_long (λ t. next (b ∷ t)) in
    let on : carried_out later (after_read m at 1) ≡ carried_out (chosen refused too_long next (text_after b rest)) (after_read m at (1 + reach)) =
    read_text_is max (at + 1) refused too_long (λ t. next (b ∷ t)) (after_read m at 1)
    ∙ ap (carried_out (chosen refused too_long (λ t. next (b ∷ t)) rest)) (read_on m at reach)
    ∙ ap (λ a. carried_out a (after_read m at (1 + reach))) (chosen-after refused too_long next b rest) in
    elim (allows m.pages at Read) as (λ t. carried_out (cond (t && true) (ReadBytes at 1 (λ bytes. cond (nat_eq (slice_index bytes 0) 0) (next []) (read_text max (at + 1) refused too_long (λ text. next (slice_index bytes 0 ∷ text))))) refused) m
    ≡ carried_out (chosen refused too_long next (cond t (cond (nat_eq b 0) (Ok []) (text_after b rest)) (Err text.BadAddress))) (after_read m at (cond t (cond (nat_eq b 0) 1 (1 + reach)) 0))) [
      | true ↦ elim (nat_eq b 0) as (λ z. carried_out (cond z (next []) later) (after_read m at 1) ≡ carried_out (chosen refused too_long next (cond z (Ok []) (text_after b rest))) (after_read m at (cond z 1 (1 + reach))))
          [ true ↦ refl | false ↦ on ]
      | false ↦ ap (carried_out refused) (nothing_read m at)
    ]

-- ---- a text by itself

-- what the code answers by what it read
abbrev pub answered : Bool → Result (List ℕ) TextFault → Result (List ℕ) CallFault
answered may_be_empty (Ok t) = named_text may_be_empty t
answered may_be_empty (Err fault) = Err (fault_of fault)

abbrev text_chosen : Bool → Result (List ℕ) TextFault → Action (Result (List ℕ) Errno)
text_chosen may_be_empty r = chosen (Done (Err EFAULT)) (Done (Err ENAMETOOLONG)) (named may_be_empty (Done (Err ENOENT)) (λ t. Done (Ok t))) r

memory_chosen : (may : Bool) (r : Result (List ℕ) TextFault) (whole : Memory) → (carried_out (text_chosen may r) whole).memory ≡ whole
memory_chosen true (Ok []) whole = refl
memory_chosen false (Ok []) whole = refl
memory_chosen may (Ok (b ∷ t)) whole = refl
memory_chosen may (Err text.BadAddress) whole = refl
memory_chosen may (Err text.TooLong) whole = refl
memory_chosen may (Err text.NoMemory) whole = refl

given : (may : Bool) (new whole : Memory) (r : Result (List ℕ) TextFault) → new ≡ whole → Gives (answered may r) (carried_out (text_chosen may r) whole) new
given true new whole (Ok []) is = (refl, is)
given false new whole (Ok []) is = (refl, is)
given may new whole (Ok (b ∷ t)) is = (refl, is)
given may new whole (Err text.BadAddress) is = (refl, is)
given may new whole (Err text.TooLong) is = (refl, is)
given may new whole (Err text.NoMemory) is = is

-- the text that was read, or want of memory in its place, is that of the definition
pub text_decoded : (may : Bool) (at : ℕ) (m new : Memory) (r : Result (List ℕ) TextFault)
    → (r ≡ text_of m.pages at text_limit) ⊎ (r ≡ Err text.NoMemory) → new ≡ after_read m at (text_reach m.pages at text_limit)
    → Decodes (answered may r) (text_read may at) m new
text_decoded may at m new r h is =
    let reach = text_reach m.pages at text_limit in
    let found = text_of m.pages at text_limit in
    let whole : carried_out (text_read may at) m ≡ carried_out (text_chosen may found) (after_read m at reach) = read_text_is text_limit at _ _ _ m in
    subst (λ w. Gives (answered may r) w new) (sym whole)
    (elim h [
      | inl e ↦ subst (λ t. Gives (answered may r) (carried_out (text_chosen may t) (after_read m at reach)) new) e
          (given may new (after_read m at reach) r is)
      | inr e ↦ subst (λ s. Gives (answered may s) (carried_out (text_chosen may found) (after_read m at reach)) new) (sym e)
          (is ∙ sym (memory_chosen may found (after_read m at reach)))
    ])

-- ---- a call with a text

abbrev pub ok_map : (List ℕ → Request) → Result (List ℕ) Errno → Result Request Errno
ok_map f (Ok t) = Ok (f t)
ok_map f (Err errno) = Err errno

abbrev pub with_reply : (List ℕ → Request) → CarriedOut (Result (List ℕ) Errno) → CarriedOut Decoded
with_reply f done = record { reply = ok_map f done.reply; memory = done.memory }

mapped : (may : Bool) (f : List ℕ → Request) (r : Result (List ℕ) TextFault) (whole : Memory)
    → carried_out (chosen (refuses EFAULT) (refuses ENAMETOOLONG) (named may (refuses ENOENT) (λ t. accepts (f t))) r) whole ≡ with_reply f (carried_out (text_chosen may r) whole)
mapped true f (Ok []) whole = refl
mapped false f (Ok []) whole = refl
mapped may f (Ok (b ∷ t)) whole = refl
mapped may f (Err text.BadAddress) whole = refl
mapped may f (Err text.TooLong) whole = refl
mapped may f (Err text.NoMemory) whole = refl

row_is : (may : Bool) (at : ℕ) (f : List ℕ → Request) (m : Memory) → carried_out (with_text may at (λ t. accepts (f t))) m ≡ with_reply f (carried_out (text_read may at) m)
row_is may at f m =
    let found = text_of m.pages at text_limit in
    let after = after_read m at (text_reach m.pages at text_limit) in
    read_text_is text_limit at _ _ _ m ∙ mapped may f found after ∙ ap (with_reply f) (sym (read_text_is text_limit at _ _ _ m))

-- the request of a call whose tests pass and whose text was read
pub accepted : (broken may may_asked : Bool) (at asked : ℕ) (f : List ℕ → Request) (m new : Memory) (t : List ℕ) (request : Request)
    → broken ≡ false → may_asked ≡ may → asked ≡ at → request ≡ f t → Decodes (Ok t) (text_read may_asked asked) m new
    → Decodes (Ok request) (unless broken (with_text may at (λ t. accepts (f t)))) m new
accepted broken may may_asked at asked f m new t request passed e d is h =
    let h' : Decodes (Ok t) (text_read may at) m new = subst (λ b. Decodes (Ok t) (text_read b at) m new) e (subst (λ a. Decodes (Ok t) (text_read may_asked a) m new) d h) in
    subst (λ b. Decodes (Ok request) (unless b (with_text may at (λ t. accepts (f t)))) m new) (sym passed)
    (subst (λ w. Gives (Ok request) w new) (sym (row_is may at f m)) (ap (ok_map f) h'.0 ∙ ap Ok (sym is), h'.1))

failed_row : (fault : CallFault) (f : List ℕ → Request) (done : CarriedOut (Result (List ℕ) Errno)) (new : Memory) → Gives {A = List ℕ} (Err fault) done new → Gives {A = Request} (Err fault) (with_reply f done) new
failed_row (call.Err errno) f done new h = (ap (ok_map f) h.0, h.1)
failed_row call.NoMemory f done new h = h

-- the error of its text
pub failed : (broken may may_asked : Bool) (at asked : ℕ) (f : List ℕ → Request) (m new : Memory) (fault : CallFault)
    → broken ≡ false → may_asked ≡ may → asked ≡ at → Decodes {A = List ℕ} (Err fault) (text_read may_asked asked) m new
    → Decodes {A = Request} (Err fault) (unless broken (with_text may at (λ t. accepts (f t)))) m new
failed broken may may_asked at asked f m new fault passed e d h =
    let h' : Decodes {A = List ℕ} (Err fault) (text_read may at) m new = subst (λ b. Decodes {A = List ℕ} (Err fault) (text_read b at) m new) e (subst (λ a. Decodes {A = List ℕ} (Err fault) (text_read may_asked a) m new) d h) in
    subst (λ b. Decodes {A = Request} (Err fault) (unless b (with_text may at (λ t. accepts (f t)))) m new) (sym passed)
    (subst (λ w. Gives {A = Request} (Err fault) w new) (sym (row_is may at f m)) (failed_row fault f _ new h'))

-- a call whose tests pass reads its text, and so may want memory for it
pub may_want : (broken may : Bool) (at : ℕ) (next : List ℕ → Action Decoded) (result : Result Request CallFault) → broken ≡ false → WantsForTexts result (unless broken (with_text may at next))
unfolding read_text
may_want broken may at next result passed wanting =
    ap (λ b. uses_memory (unless b (with_text may at next))) passed
