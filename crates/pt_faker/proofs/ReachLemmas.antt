-- How the numbers on a stack are reached, word by word, and what is written there.
use Rattle.std.proofs.Common.{◌≡◌, ◌≤◌, ◌<◌, ◌+◌, ◌*◌, ◌%◌, ◌^◌, ◌==◌, ℕ, zero, suc, Bool, false, ◌||◌, List, [], ◌∷◌, ◌++◌, length, length-append, refl, sym, ap, subst, ◌∙◌, arith, w64, if◌then◌else◌}
use Rattle.std.specs.Int.{to_le_bytes}
use Rattle.std.specs.List.{AllByRecursion}
use Rattle.std.proofs.lemmas.Bool.Decides.{nat_tests}
use Rattle.std.proofs.lemmas.Nat.{from_le_bytes-to_le_bytes_8}
use Rattle.elf_load.specs.pr_base.Fields.{little_endian}
use Rattle.pt_ident.specs.rv_mem.Actions.{Action, Done, ReadBytes, WriteBytes, carried_out}
use Rattle.pt_ident.specs.rv_mem.Memory.{Memory, after_read}
use Rattle.pt_ident.specs.rv_mem.Pages.{Pages, any_marked, written}
use Rattle.pt_ident.specs.rv_mem.declared.rights.Use.TheVariants.{Read, Write}
use Rattle.elf_load.specs.FirstStack.{text_addresses, text_bytes, word_bytes}
use Rattle.elf_load.specs.Placed.{HoldsBytes}
use Rattle.pt_faker.specs.Faking.{behind_list, next_word, put_values, word_at}
use Rattle.pt_faker.proofs.HeldLemmas.{MayBeUsed, all-used, bytes-held, holds-back, holds-front, used-written, with_words}

-- an action leads from pages to pages, whatever was read before
abbrev pub Leads : Action (Unit {0}) → Pages → Pages → Type 0
Leads action m n = (read : Bool) → (carried_out action (record { pages = m; read_marked = read })).memory.pages ≡ n

-- ---- a word

word-back : (w : ℕ) → w < 2 ^ 64 → little_endian (to_le_bytes w64 w) ≡ w
word-back w small = let back = from_le_bytes-to_le_bytes_8 w small in omega (arith, back)

tested : (at : ℕ) → (ℕ → Action (Unit {0})) → Bool → Action (Unit {0})
tested at next b = if b then ReadBytes at 8 (λ bytes. next (little_endian bytes)) else Done tt

pub word-leads : (m n : Pages) (from to at w : ℕ) (next : ℕ → Action (Unit {0})) → MayBeUsed m from to Read → from ≤ at → at + 8 ≤ to → w < 2 ^ 64 → HoldsBytes m at (to_le_bytes w64 w) → Leads (next w) m n → Leads (word_at at next) m n
unfolding tested
word-leads m n from to at w next may low high small holds leads = λ read.
    let memory : Memory = record { pages = m; read_marked = read } in
    ap (λ b. (carried_out (tested at next b) memory).memory.pages) (all-used 8 m from to at Read may low high)
    ∙ ap (λ bytes. (carried_out (next (little_endian bytes)) (after_read memory at 8)).memory.pages) (bytes-held m at (to_le_bytes w64 w) holds)
    ∙ ap (λ v. (carried_out (next v) (after_read memory at 8)).memory.pages) (word-back w small)
    ∙ leads (read || any_marked m at 8)

-- ---- a list of words

abbrev pub AreAddresses : List ℕ → Type 0
AreAddresses words = AllByRecursion (λ w. (0 < w) × (w < 2 ^ 64)) words

pub texts-have-addresses : (ts : List (List ℕ)) (at : ℕ) → 0 < at → at + length (text_bytes ts) < 2 ^ 64 → AreAddresses (text_addresses at ts)
texts-have-addresses [] at above within = tt
texts-have-addresses (t ∷ ts) at above within =
    let size : length (text_bytes (t ∷ ts)) ≡ length t + suc (length (text_bytes ts)) = length-append t (0 ∷ text_bytes ts) in
    ((above, omega arith), texts-have-addresses ts (at + length t + 1) (omega arith) (omega arith))

other-test : (w : ℕ) → 0 < w → (w == 0) ≡ false
other-test w above = grind (arith, nat_tests)

pub list-leads : (words rest : List ℕ) (most : ℕ) (m n : Pages) (from to at end : ℕ) (next : ℕ → Action (Unit {0})) → AreAddresses words → length words < most → MayBeUsed m from to Read → from ≤ at → to < 2 ^ 64
    → end ≡ at + 8 * length words + 8 → end ≤ to → HoldsBytes m at (word_bytes words ++ (to_le_bytes w64 0 ++ rest)) → Leads (next end) m n → Leads (behind_list most at next) m n
unfolding behind_list
list-leads words rest zero m n from to at end next are short may low high place within holds leads = absurd (omega arith)
list-leads [] rest (suc most) m n from to at end next are short may low high place within holds leads =
    let step : next_word at ≡ end = omega arith in
    word-leads m n from to at 0 (λ word. if word == 0 then next (next_word at) else behind_list most (next_word at) next) may low (omega arith) (omega arith) (holds-front m at (to_le_bytes w64 0) rest holds)
    (subst (λ e. Leads (next e) m n) (sym step) leads)
list-leads (w ∷ words) rest (suc most) m n from to at end next are short may low high place within holds leads =
    let step : next_word at ≡ at + 8 = omega arith in
    let behind : HoldsBytes m (at + 8) (word_bytes words ++ (to_le_bytes w64 0 ++ rest)) = holds-back m at (to_le_bytes w64 w) (word_bytes words ++ (to_le_bytes w64 0 ++ rest)) holds in
    let more : Leads (behind_list most (at + 8) next) m n = list-leads words rest most m n from to (at + 8) end next are.1 (omega arith) may (omega arith) high (omega arith) within behind leads in
    word-leads m n from to at w (λ word. if word == 0 then next (next_word at) else behind_list most (next_word at) next) may low (omega arith) are.0.1
    (holds-front m at (to_le_bytes w64 w) (word_bytes words ++ (to_le_bytes w64 0 ++ rest)) holds)
    (λ read.
    let memory : Memory = record { pages = m; read_marked = read } in
    ap (λ b. (carried_out (if b then next (next_word at) else behind_list most (next_word at) next) memory).memory.pages) (other-test w are.0.0)
    ∙ ap (λ e. (carried_out (behind_list most e next) memory).memory.pages) step
    ∙ more read)

-- ---- values

put-tested : (at v : ℕ) → Action (Unit {0}) → Bool → Action (Unit {0})
put-tested at v next b = if b then WriteBytes at (to_le_bytes w64 v) next else Done tt

pub values-lead : (values : List ℕ) (m : Pages) (from to at : ℕ) → MayBeUsed m from to Write → from ≤ at → at + 16 * length values ≤ to + 8 → to + 8 < 2 ^ 64 → Leads (put_values at values) m (with_words at values m)
unfolding put-tested
values-lead [] m from to at may low high within = λ read. refl
values-lead (v ∷ values) m from to at may low high within = λ read.
    let memory : Memory = record { pages = m; read_marked = read } in
    let step : (at + 16) % 2 ^ 64 ≡ at + 16 = omega arith in
    let n : Pages = written m at (to_le_bytes w64 v) in
    ap (λ b. (carried_out (put-tested at v (put_values ((at + 16) % 2 ^ 64) values) b) memory).memory.pages) (all-used 8 m from to at Write may low (omega arith))
    ∙ ap (λ e. (carried_out (put_values e values) (record { pages = n; read_marked = read })).memory.pages) step
    ∙ values-lead values n from to (at + 16) (used-written m from to at (to_le_bytes w64 v) Write may) (omega arith) (omega arith) within read
