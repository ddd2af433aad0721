-- Where no marked byte is read of a list, its addresses aren't marked.
use Rattle.std.proofs.Common.{◌≡◌, ℕ, zero, suc, ◌+◌, ◌-◌, ◌*◌, ◌≤◌, inl, inr, false, cond, ◌||◌, List, [], ◌∷◌, ◌++◌, length, nat_lt, Result, Ok, Err, sym, ap, ◌∙◌, subst, arith}
use Rattle.std.proofs.lemmas.Bool.Decides.{nat_tests}
use Rattle.std.proofs.lemmas.Bool.{or_parts}
use Rattle.kr_first.specs.pr_base.declared.errno.Errno.{Errno}
use Rattle.kr_first.specs.rv_mem.Actions.{Action, AreEqualUnmarked, CarriedOut, Done, ReadBytes, carried_out}
use Rattle.kr_first.specs.rv_mem.Memory.{Memory, after_read}
use Rattle.kr_first.specs.rv_mem.Pages.{IsPlaced, Pages, any_marked, bytes_from}
use Rattle.kr_first.proofs.rv_mem.AccessLemmas.{bytes_from-zero}
use Rattle.kr_first.proofs.rv_mem.ActionLemmas.{flag_stays, reads_alike}
use Rattle.kr_first.proofs.rv_mem.PagesLemmas.{bytes_from-add}
use Rattle.kr_first.specs.kr_calls.Expansion.{bytes_with_ends}
use Rattle.kr_first.specs.kr_exec.Exec.{are_too_big}
use Rattle.kr_first.specs.kr_exec.Lists.{Trying, at_least_one, behind, env_at, list_at, most_bytes, most_texts, next_address, texts_from}
use Rattle.kr_first.specs.kr_exec.declared.lists.Lists.{Lists}
use Rattle.kr_first.proofs.kr_exec.ListLemmas.{and_then_is, on_reply}
use Rattle.law_programs.proofs.LimitLemmas.{lists_fit}
use Rattle.law_programs.specs.Lists.{IsList, IsListAt, KeptAddressesAreAlike, address_in}
use Rattle.law_programs.proofs.CopyLemmas.{next-is}
use Rattle.law_programs.proofs.ListLemmas.{Texts, after_text, more-bytes, read_lists_stand, texts-step}

-- ---- flags

-- what came before it didn't raise the flag either
flag-before : {A B : Type 0} (next : A → Trying B) (r : Result A Errno) (m : Memory) → (on_reply next r m).memory.read_marked ≡ false → m.read_marked ≡ false
flag-before next (Ok x) m e = flag_stays (next x) m e
flag-before next (Err why) m e = e

-- ---- addresses that aren't marked

abbrev AreBare : Pages → ℕ → Texts → Type 0
AreBare m at [] = Unit {0}
AreBare m at (text ∷ texts) = (any_marked m at 8 ≡ false) × AreBare m (next_address at) texts

bare : (left at room : ℕ) (m : Memory) (texts : Texts) → IsList m.pages at texts → length texts ≤ left → bytes_with_ends texts ≤ room → (carried_out (texts_from left at room) m).memory.read_marked ≡ false → AreBare m.pages at texts
bare left at room m [] stands few small unread = tt
bare zero at room m (text ∷ texts) stands few small unread = absurd (omega (arith, few))
bare (suc left) at room m (text ∷ texts) stands few small unread =
    let address = address_in m.pages at in
    let later = after_text (after_read m at 8) address in
    let rest : Trying Texts = texts_from left (next_address at) (room - (length text + 1)) in
    let d = carried_out rest later in
    let step = ap (λ (d : CarriedOut (Result Texts Errno)). d.memory.read_marked) (texts-step left at room m text stands.0 (omega (arith, small))) in
    let after = flag-before (behind text) d.reply d.memory (sym step ∙ unread) in
    let own = or_parts (m.read_marked || any_marked m.pages at 8) _ (flag_stays rest later after) in
    ((or_parts m.read_marked (any_marked m.pages at 8) own.0).1, bare left (next_address at) (room - (length text + 1)) later texts stands.1 (omega (arith, few)) (omega (arith, small)) after)

bare-list : (at : ℕ) (m : Memory) (texts : Texts) → IsListAt m.pages at texts → length texts ≤ most_texts → bytes_with_ends texts ≤ most_bytes → (carried_out (list_at at most_bytes) m).memory.read_marked ≡ false → AreBare m.pages at texts
bare-list at m texts (inl none) few small unread = subst (AreBare m.pages at) (sym none.1) tt
bare-list at m texts (inr some) few small unread =
    bare most_texts at most_bytes m texts some.1 few small
    (sym (ap (λ b. (carried_out (cond b (Done (Ok [])) (texts_from most_texts at most_bytes)) m).memory.read_marked) some.0) ∙ unread)

-- ---- the bytes of addresses

abbrev only_read : ℕ → ℕ → Action (List ℕ)
only_read at n = ReadBytes at n (λ bytes. Done bytes)

one-alike : (m w : Pages) (at n : ℕ) → AreEqualUnmarked m w → any_marked m at n ≡ false → bytes_from m at n ≡ bytes_from w at n
one-alike m w at n alike none = (reads_alike (only_read at n) (record { pages = m; read_marked = false }) (record { pages = w; read_marked = false }) alike none).0

bytes-alike : (m w : Pages) (at : ℕ) (texts : Texts) → IsPlaced m → AreEqualUnmarked m w → IsList m at texts → AreBare m at texts → bytes_from m at (8 * length texts) ≡ bytes_from w at (8 * length texts)
bytes-alike m w at [] placed alike list none = bytes_from-zero m at ∙ sym (bytes_from-zero w at)
bytes-alike m w at (text ∷ texts) placed alike list none =
    let n = 8 * length texts in
    let size : 8 * length (text ∷ texts) ≡ 8 + n = omega arith in
    let next = next-is m at placed list.0.allowed in
    let later : bytes_from m (at + 8) n ≡ bytes_from w (at + 8) n = subst (λ a. bytes_from m a n ≡ bytes_from w a n) next (bytes-alike m w (next_address at) texts placed alike list.1 none.1) in
    ap (bytes_from m at) size ∙ bytes_from-add m at 8 n ∙ ap (λ bytes. bytes ++ bytes_from m (at + 8) n) (one-alike m w at 8 alike none.0)
    ∙ ap (λ bytes. bytes_from w at 8 ++ bytes) later ∙ sym (bytes_from-add w at 8 n) ∙ sym (ap (bytes_from w at) size)

-- ---- limits

fits-list : (args env : Texts) → are_too_big args env ≡ false → (length args ≤ most_texts) × (bytes_with_ends args ≤ most_bytes)
fits-list args env fits =
    let behind = (or_parts (nat_lt 4096 (length env)) _ fits).1 in
    let own = or_parts (nat_lt 4096 (length args)) _ behind in
    (within (length args) 4096 own.0, less (within (bytes_with_ends args + bytes_with_ends env) 131072 own.1))
  where
    within : (k most : ℕ) → nat_lt most k ≡ false → k ≤ most
    within k most e = grind (arith, nat_tests)

    less : bytes_with_ends args + bytes_with_ends env ≤ 131072 → bytes_with_ends args ≤ 131072
    less e = omega (arith, e)

more-texts : (texts : Texts) → length texts ≤ length (at_least_one texts)
more-texts [] = omega arith
more-texts (text ∷ texts) = omega arith

pub kept_addresses_are_alike : KeptAddressesAreAlike
kept_addresses_are_alike args env m w lists placed e unread alike =
    let stand = read_lists_stand args env m lists e in
    by stand.0 stand.1 stand.2
  where
    d : CarriedOut (Result Texts Errno)
    d = carried_out (list_at args most_bytes) m

    flag : d.memory.read_marked ≡ false
    flag =
        flag-before (λ texts. env_at env (at_least_one texts)) d.reply d.memory
        (sym (ap (λ (d : CarriedOut (Result Lists Errno)). d.memory.read_marked) (and_then_is (list_at args most_bytes) (λ texts. env_at env (at_least_one texts)) m)) ∙ unread)

    Alike : ℕ → Type 0
    Alike n = bytes_from m.pages (next_address args) (8 * n) ≡ bytes_from w (next_address args) (8 * n)

    none : Alike 0
    none = bytes_from-zero m.pages (next_address args) ∙ sym (bytes_from-zero w (next_address args))

    fitted : (length lists.args ≤ most_texts) × (bytes_with_ends lists.args ≤ most_bytes)
    fitted = fits-list lists.args lists.env (lists_fit args env m lists e)

    kept : (texts : Texts) → IsListAt m.pages args texts → AreBare m.pages args texts → Alike (length (at_least_one texts) - 1)
    kept [] list bare = none
    kept (text ∷ texts) (inl empty) bare = absurd (differ empty.1)
      where
        differ : text ∷ texts ≡ [] → ⊥
        differ e = cc
    kept (text ∷ texts) (inr list) bare =
        let size : length texts ≡ length (text ∷ texts) - 1 = omega arith in
        subst Alike size (bytes-alike m.pages w (next_address args) texts placed alike list.1.1 bare.1)

    by : (texts : Texts) → IsListAt m.pages args texts → lists.args ≡ at_least_one texts → Alike (length lists.args - 1)
    by texts list same =
        let few = fitted.0 in
        let small = fitted.1 in
        subst (λ (l : Texts). Alike (length l - 1)) (sym same)
        (kept texts list (bare-list args m texts list (omega (arith, few, ap length same, more-texts texts)) (omega (arith, small, ap bytes_with_ends same, more-bytes texts)) flag))
