-- The plain kernel reads of a script's shelf what the tracer found.
use Rattle.std.proofs.Common.{◌≡◌, ℕ, ◌+◌, ◌-◌, ◌*◌, ◌<◌, ◌≤◌, inl, inr, Bool, true, false, cond, List, [], ◌∷◌, ◌++◌, drop, length, nat_lt, Ok, Err, sym, ap, ◌∙◌, subst, arith}
use Rattle.std.specs.Prelude.{nat_eq}
use Rattle.std.proofs.lemmas.Bool.Decides.{nat_tests}
use Rattle.std.proofs.lemmas.List.{length-drop}
use Rattle.std.proofs.lemmas.Bool.{or_parts}
use Rattle.kr_first.specs.pr_base.declared.errno.Errno.TheVariants.{EFAULT}
use Rattle.kr_first.specs.rv_mem.Actions.{Done, ReadBytes, allows_uses, carried_out}
use Rattle.kr_first.specs.rv_mem.Memory.{Memory}
use Rattle.kr_first.specs.rv_mem.Pages.{Pages, bytes_from}
use Rattle.kr_first.specs.rv_mem.declared.rights.Use.TheVariants.{Read}
use Rattle.kr_first.proofs.rv_mem.ActionLemmas.{reads_alike}
use Rattle.law_edits.specs.pt_args.Bases.{working_text}
use Rattle.law_edits.specs.pt_args.Laws.{ShelvesHoldTheirItems, poked}
use Rattle.law_edits.specs.pt_faker.Reading.{addresses_behind}
use Rattle.law_edits.specs.pt_tracer.ScriptEdit.{put_texts}
use Rattle.kr_first.specs.kr_calls.Expansion.{bytes_with_ends}
use Rattle.kr_first.specs.kr_exec.Lists.{at_least_one, lists_at, next_address}
use Rattle.law_programs.proofs.LimitLemmas.{lists_fit}
use Rattle.law_programs.specs.Lists.{AreEntries, IsList, IsListAt}
use Rattle.law_programs.proofs.BareLemmas.{kept_addresses_are_alike}
use Rattle.law_programs.proofs.ListLemmas.{err_ok, ok_same, read_lists_stand, standing_lists_are_read}
use Rattle.law_programs.proofs.RoomLemmas.{addresses-long, shown-put, script_texts_are_path_texts, scripts_have_room, scripts_keep_the_limits}
use Rattle.law_programs.specs.Shelves.{script_shelf}
use Rattle.law_programs.proofs.StandLemmas.{shelved_scripts_stand}
use Rattle.law_programs.specs.Reading.{ScriptListsAreRead}

abbrev Texts : Type 0
Texts = List (List ℕ)

-- a list without its end
entries : (w : Pages) (at : ℕ) (texts : Texts) → IsList w at texts → AreEntries w at texts
entries w at [] list = tt
entries w at (text ∷ texts) list = (list.0, entries w (next_address at) texts list.1)

later-entries : (w : Pages) (at : ℕ) (texts : Texts) → IsListAt w at texts → AreEntries w (next_address at) (drop 1 (at_least_one texts))
later-entries w at [] list = tt
later-entries w at (text ∷ texts) (inl none) = absurd (differ none.1)
  where
    differ : text ∷ texts ≡ [] → ⊥
    differ e = cc
later-entries w at (text ∷ texts) (inr list) = entries w (next_address at) texts list.1.1

addresses-are : (at count : ℕ) (m : Memory) (kept : List ℕ) → (carried_out (addresses_behind at count) m).reply ≡ Ok kept → bytes_from m.pages (next_address at) (8 * count) ≡ kept
addresses-are at count m kept e = by (allows_uses m.pages (next_address at) (8 * count) (Read ∷ [])) e
  where
    by : (b : Bool) → (carried_out (cond b (ReadBytes (next_address at) (8 * count) (λ bytes. Done (Ok bytes))) (Done (Err EFAULT))) m).reply ≡ Ok kept → bytes_from m.pages (next_address at) (8 * count) ≡ kept
    by true e = ok_same e
    by false e = absurd (err_ok e)

at-most : (k most : ℕ) → nat_lt most k ≡ false → k ≤ most
at-most k most e = grind (arith, nat_tests)

other : (n : ℕ) → 0 < n → nat_eq n 0 ≡ false
other n some = grind (arith, nat_tests)

pub script_lists_are_read : ShelvesHoldTheirItems → ScriptListsAreRead
script_lists_are_read hold texts pid args env sp path here before behind lists e kept is path_is host_is ends some =
    let count = length lists.args - 1 in
    let put = put_texts count e.args in
    let shelf = script_shelf sp e.host put kept in
    let rest = drop 1 lists.args in
    let host_short : length e.host ≤ 4095 = let short = host_is.short in omega (arith, short) in
    let again = sym (reads_alike (lists_at args env) here behind is.second is.unread).0 ∙ is.reads in
    let stand = read_lists_stand args env behind lists again in
    let list : AreEntries behind.pages (next_address args) rest = subst (λ (l : Texts). AreEntries behind.pages (next_address args) (drop 1 l)) (sym stand.2) (later-entries behind.pages args stand.0 stand.1) in
    let size : length rest ≡ count = length-drop 1 lists.args in
    let bytes : bytes_from behind.pages (next_address args) (8 * length rest) ≡ kept =
    ap (λ n. bytes_from behind.pages (next_address args) (8 * n)) size
    ∙ sym (kept_addresses_are_alike args env here behind.pages lists is.placed is.reads is.unread is.second)
    ∙ kept_addresses_are_alike args env here before.pages lists is.placed is.reads is.unread is.first ∙ addresses-are args count before kept is.addresses in
    let own = script_texts_are_path_texts texts pid (bytes_with_ends lists.env) path lists.args e path_is ends some in
    let room = scripts_have_room texts pid (bytes_with_ends lists.env) path lists.args e kept path_is host_short ends some (addresses-long args count before kept is.addresses) in
    let stands = shelved_scripts_stand hold before.pages sp (next_address args) e.host put rest kept is.whole is.first_placed is.high is.may (omega (arith, room)) host_is own.0
    (subst (λ pages. AreEntries pages (next_address args) rest) is.shelf list) (ap (λ pages. bytes_from pages (next_address args) (8 * length rest)) (sym is.shelf) ∙ bytes) in
    let there : IsList behind.pages shelf.top e.args = subst (λ pages. IsList pages shelf.top e.args) (sym is.shelf) (subst (λ (l : Texts). IsList (poked before.pages shelf.items) shelf.top l) (sym own.1) stands.list) in
    let low = stands.low in
    let high = is.high in
    let nonzero : nat_eq shelf.top 0 ≡ false = other shelf.top (omega (arith, low, high, room)) in
    let limits = or_parts (nat_lt 4096 (length e.args)) _ (scripts_keep_the_limits texts pid (bytes_with_ends lists.env) path lists.args e path_is ends some) in
    let few = at-most (length e.args) 4096 limits.0 in
    let small = at-most (bytes_with_ends e.args + bytes_with_ends lists.env) 131072 limits.1 in
    let many = at-most (length lists.env) 4096 (or_parts (nat_lt 4096 (length lists.env)) _ (lists_fit args env here lists is.reads)).0 in
    let first = shown-put texts (working_text texts pid) (bytes_with_ends lists.env) path lists.args e path_is ends some in
    by e.args first.first (first.rest ++ rest) first.args there nonzero few small many stand.3
  where
    differ : {head : List ℕ} {more : Texts} → [] ≡ head ∷ more → ⊥
    differ e = cc

    by : (given : Texts) (head : List ℕ) (more : Texts) → given ≡ head ∷ more → IsList behind.pages (script_shelf sp e.host (put_texts (length lists.args - 1) e.args) kept).top given → nat_eq (script_shelf sp e.host (put_texts (length lists.args - 1) e.args) kept).top 0 ≡ false
        → length given ≤ 4096 → bytes_with_ends given + bytes_with_ends lists.env ≤ 131072 → length lists.env ≤ 4096 → IsListAt behind.pages env lists.env
        → (carried_out (lists_at (script_shelf sp e.host (put_texts (length lists.args - 1) e.args) kept).top env) behind).reply ≡ Ok (record { args = given; env = lists.env })
    by [] head later is there nonzero few small many more = absurd (differ is)
    by (text ∷ given) head later is there nonzero few small many more =
        standing_lists_are_read (script_shelf sp e.host (put_texts (length lists.args - 1) e.args) kept).top env behind (text ∷ given) lists.env (inr (nonzero, there)) more few many small
