-- No word matches two rows, so the first row that a word matches is the only one.
use Rattle.std.proofs.Common.{subst, ◌≡◌, ℕ, zero, suc, ◌<◌, ◌≤◌, Bool, true, false, List, [], ◌∷◌, length, bit_and, Option, Some, None, refl, sym, ap, ◌∙◌, arith, eqb, eq-eqb, ne_eqb, eqb-true}
use Rattle.std.specs.Prelude.{◌==◌, if◌then◌else◌, slice_index_or, All, filter, ◌%◌}
use Rattle.std.proofs.Common.{inl, inr, ◌↔◌, IsNone}
use Rattle.std.proofs.lemmas.Bool.{cases_eq}
use Rattle.std.proofs.lemmas.Nat.{and_assoc, and_comm, and_mod, and_mask}
use Rattle.rv_table.specs.declared.instr.Instr.{Instr}
use Rattle.rv_table.specs.Rows.{Row, Matches, is_match, first_match, instruction, rows, decoded}

-- a word that matches both rows would give these two numbers the same bits
shared_bits : (w : ℕ) (r s : Row) → Matches r w → Matches s w → bit_and r.value s.mask ≡ bit_and s.value r.mask
shared_bits w r s p q =
    rw (← p, ← q)
    (and_assoc s.mask w r.mask ∙ ap (bit_and w) (and_comm r.mask s.mask) ∙ sym (and_assoc r.mask w s.mask))

abbrev is_apart_from : Row → List Row → Bool
is_apart_from r [] = true
is_apart_from r (s ∷ rs) = if bit_and r.value s.mask == bit_and s.value r.mask then false else is_apart_from r rs

abbrev are_apart : List Row → Bool
are_apart [] = true
are_apart (r ∷ rs) = if is_apart_from r rs then are_apart rs else false

both : (a b : Bool) → (if a then b else false) ≡ true → (a ≡ true) × (b ≡ true)
both true b h = (refl, h)
both false b h = absurd cc

neither : (a b : Bool) → (if a then false else b) ≡ true → (a ≡ false) × (b ≡ true)
neither true b h = absurd cc
neither false b h = (refl, h)

no_second : (r : Row) (rs : List Row) → is_apart_from r rs ≡ true → (w : ℕ) → Matches r w → (k : ℕ) (d : Row) → k < length rs
    → Matches (slice_index_or rs k d) w → ⊥
no_second r [] a w m k d h n = absurd (omega arith)
no_second r (s ∷ rs) a w m zero d h n =
    let same = eq-eqb _ _ (shared_bits w r s m n) in
    let differs = (neither (bit_and r.value s.mask == bit_and s.value r.mask) (is_apart_from r rs) a).0 in
    cc
no_second r (s ∷ rs) a w m (suc k) d h n =
    let apart = (neither (bit_and r.value s.mask == bit_and s.value r.mask) (is_apart_from r rs) a).1 in
    no_second r rs apart w m k d (omega arith) n

found : (rs : List Row) → are_apart rs ≡ true → (w k : ℕ) (d : Row) → k < length rs → Matches (slice_index_or rs k d) w
    → first_match rs w ≡ Some (instruction (slice_index_or rs k d).format w)
found [] a w k d h m = absurd (omega arith)
found (r ∷ rs) a w zero d h m = rw (eq-eqb _ _ m) refl
found (r ∷ rs) a w (suc k) d h m =
    let parts = both (is_apart_from r rs) (are_apart rs) a in
    let missed : eqb (bit_and w r.mask) r.value ≡ false =
    ne_eqb _ _ (λ e. no_second r rs parts.0 w e k d (omega arith) m) in
    rw missed (found rs parts.1 w k d (omega arith) m)

rows_are_apart : are_apart rows ≡ true
rows_are_apart = refl

-- a row that a word matches gives its instruction
pub decoded-match : (w : ℕ) → All (λ r. Matches r w → decoded w ≡ Some (instruction r.format w)) rows
unfolding decoded
decoded-match w = λ k d h m. found rows rows_are_apart w k d h m

-- a word that matches no row has no instruction
none_found : (rs : List Row) (w : ℕ) → All (λ r. Matches r w → ⊥) rs → first_match rs w ≡ None
none_found [] w h = refl
none_found (r ∷ rs) w h =
    let missed : eqb (bit_and w r.mask) r.value ≡ false = ne_eqb _ _ (h 0 r (omega arith)) in
    let rest : All (λ s. Matches s w → ⊥) rs = λ k d lt. h (suc k) d (omega arith) in
    rw missed (none_found rs w rest)

decoded-none : (w : ℕ) → All (λ r. Matches r w → ⊥) rows → decoded w ≡ None
unfolding decoded
decoded-none w h = none_found rows w h

pub decoded-unmatched : (w : ℕ) (answer : Option Instr) → answer ≡ decoded w
    → IsNone answer ↔ All (λ r. Matches r w → ⊥) rows
decoded-unmatched w None e =
    (λ _ k d h m. absurd (cc (decoded-match w k d h m)), λ _. refl)
decoded-unmatched w (Some i) e =
    (λ none. absurd cc, λ unmatched. absurd (cc (decoded-none w unmatched)))

-- at most one row is matched
none_filtered : (r : Row) (rs : List Row) → is_apart_from r rs ≡ true → (w : ℕ) → Matches r w → length (filter (is_match w) rs) ≡ 0
none_filtered r [] a w m = refl
none_filtered r (s ∷ rs) a w m =
    let parts = neither (bit_and r.value s.mask == bit_and s.value r.mask) (is_apart_from r rs) a in
    let missed : eqb (bit_and w s.mask) s.value ≡ false =
    ne_eqb _ _ (λ e. no_second r (s ∷ rs) a w m 0 s (omega arith) e) in
    rw missed (none_filtered r rs parts.1 w m)

one_filtered : (rs : List Row) → are_apart rs ≡ true → (w : ℕ) → length (filter (is_match w) rs) ≤ 1
one_filtered [] a w = omega arith
one_filtered (r ∷ rs) a w =
    let parts = both (is_apart_from r rs) (are_apart rs) a in
    elim (cases_eq (bit_and w r.mask) r.value) [
      | inl m ↦ rw (eq-eqb _ _ m) (omega (arith, none_filtered r rs parts.0 w m))
      | inr n ↦ rw (ne_eqb _ _ n) (one_filtered rs parts.1 w)
    ]

pub length-matches : (w : ℕ) → length (filter (is_match w) rows) ≤ 1
length-matches w = one_filtered rows rows_are_apart w

-- ---- a word is compared with the rows of its opcode alone

abbrev pub with_opcode : ℕ → List Row → List Row
with_opcode opcode rs = filter (λ r. r.value % 128 == opcode) rs

abbrev fix_opcode : List Row → Bool
fix_opcode [] = true
fix_opcode (r ∷ rs) = if r.mask % 128 == 127 then fix_opcode rs else false

-- a row that fixes the opcode is matched by words of its opcode only
match-opcode : (r : Row) (w : ℕ) → r.mask % 128 ≡ 127 → Matches r w → r.value % 128 ≡ w % 128
match-opcode r w whole m =
    rw (← m, and_mod w r.mask 7, whole, and_mask (w % 128) 7) (omega arith)

first_match-opcode : (rs : List Row) → fix_opcode rs ≡ true → (w : ℕ) → first_match rs w ≡ first_match (with_opcode (w % 128) rs) w
first_match-opcode [] a w = refl
first_match-opcode (r ∷ rs) a w =
    let parts = both (r.mask % 128 == 127) (fix_opcode rs) a in
    let rest = first_match-opcode rs parts.1 w in
    elim (cases_eq (r.value % 128) (w % 128)) [
      | inl same ↦ rw (eq-eqb _ _ same, rest) refl
      | inr other ↦
          let missed : eqb (bit_and w r.mask) r.value ≡ false =
          ne_eqb _ _ (λ e. other (match-opcode r w (eqb-true _ _ parts.0) e)) in
          rw (ne_eqb _ _ other, missed) rest
    ]

pub decoded-opcode : (w opcode : ℕ) → w % 128 ≡ opcode → decoded w ≡ first_match (with_opcode opcode rows) w
unfolding decoded
decoded-opcode w opcode e = rw (← e) (first_match-opcode rows refl w)

-- ---- a word whose opcode no row has

abbrev pub Excludes : List ℕ → ℕ → Type 0
Excludes [] n = Unit {0}
Excludes (m ∷ ms) n = (n ≡ m → ⊥) × Excludes ms n

abbrev is_listed : List ℕ → ℕ → Bool
is_listed [] n = false
is_listed (m ∷ ms) n = if n == m then true else is_listed ms n

abbrev have_opcodes : List ℕ → List Row → Bool
have_opcodes opcodes [] = true
have_opcodes opcodes (r ∷ rs) = if is_listed opcodes (r.value % 128) then have_opcodes opcodes rs else false

listed-excluded : (ms : List ℕ) (n : ℕ) → is_listed ms n ≡ true → Excludes ms n → ⊥
listed-excluded [] n a h = cc
listed-excluded (m ∷ ms) n a h =
    let missed : eqb n m ≡ false = ne_eqb _ _ h.0 in
    let rest : is_listed ms n ≡ true = rw missed at a in
    listed-excluded ms n rest h.1

first_match-excluded : (opcodes : List ℕ) (rs : List Row) → have_opcodes opcodes rs ≡ true → fix_opcode rs ≡ true → (w : ℕ)
    → Excludes opcodes (w % 128) → first_match rs w ≡ None
first_match-excluded opcodes [] a f w h = refl
first_match-excluded opcodes (r ∷ rs) a f w h =
    let here = both (is_listed opcodes (r.value % 128)) (have_opcodes opcodes rs) a in
    let whole = both (r.mask % 128 == 127) (fix_opcode rs) f in
    let other : Matches r w → ⊥ =
    λ m. let same = match-opcode r w (eqb-true _ _ whole.0) m in
    let listed = rw same at here.0 in
    listed-excluded opcodes (w % 128) listed h in
    let missed : eqb (bit_and w r.mask) r.value ≡ false = ne_eqb _ _ other in
    rw missed (first_match-excluded opcodes rs here.1 whole.1 w h)

abbrev pub opcodes : List ℕ
opcodes =
    0x03 ∷ 0x0f ∷ 0x13 ∷ 0x17 ∷ 0x1b ∷ 0x23 ∷ 0x2f ∷ 0x33 ∷ 0x37 ∷ 0x3b ∷ 0x63 ∷ 0x67 ∷ 0x6f ∷ 0x73 ∷ []

pub decoded-excluded : (w : ℕ) → Excludes opcodes (w % 128) → decoded w ≡ None
unfolding decoded
decoded-excluded w h = first_match-excluded opcodes rows refl refl w h

-- ---- what each row says of its words, a decoded word's instruction has

carried : (Q : Instr → Type 0) (w : ℕ) (rs : List Row) → ((k : ℕ) (d : Row) → k < length rs → Matches (slice_index_or rs k d) w → Q (instruction (slice_index_or rs k d).format w))
    → (i : Instr) → first_match rs w ≡ Some i → Q i
carried Q w [] each i e = absurd cc
carried Q w (r ∷ rs) each i e =
    elim (cases_eq (bit_and w r.mask) r.value) [
      | inl m ↦
          let first = rw (eq-eqb _ _ m) at e in
          let same : instruction r.format w ≡ i = cc in
          subst Q same (each 0 r (omega arith) m)
      | inr n ↦
          let rest = rw (ne_eqb _ _ n) at e in
          carried Q w rs (λ k d h m. each (suc k) d (omega arith) m) i rest
    ]

pub decoded-carries : (Q : Instr → Type 0) (w : ℕ)
    → ((k : ℕ) (d : Row) → k < length rows → Matches (slice_index_or rows k d) w → Q (instruction (slice_index_or rows k d).format w))
    → (i : Instr) → decoded w ≡ Some i → Q i
unfolding decoded
decoded-carries Q w each i e = carried Q w rows each i e
