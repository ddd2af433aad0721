-- Rights of ranges of bytes.
use Rattle.std.proofs.Common.{◌≡◌, ◌∙◌, ◌+◌, ◌≤◌, ℕ, true, ap, arith, sym}
use Rattle.std.proofs.lemmas.Bool.{and_parts}
use Rattle.std.specs.Prelude.{◌-◌}
use Rattle.pt_tracer.proofs.rv_mem.PagesLemmas.{allows_all-add}
use Rattle.pt_tracer.specs.rv_mem.Pages.{Pages, allows, allows_all}
use Rattle.pt_tracer.specs.rv_mem.declared.rights.Use.{Use}

-- a part of a range may be used where the range may be
pub part_allowed : (m : Pages) (at n from count : ℕ) (what : Use) → at ≤ from → from + count ≤ at + n → allows_all m at n what ≡ true → allows_all m from count what ≡ true
part_allowed m at n from count what low high e =
    let front : ℕ = from - at in
    let back : ℕ = at + n - (from + count) in
    let all : n ≡ front + (count + back) = omega (arith, low, high) in
    let is : at + front ≡ from = omega (arith, low) in
    let one = and_parts (allows_all m at front what) (allows_all m (at + front) (count + back) what) (sym (allows_all-add m at front (count + back) what) ∙ ap (λ k. allows_all m at k what) (sym all) ∙ e) in
    let two = and_parts (allows_all m (at + front) count what) (allows_all m (at + front + count) back what) (sym (allows_all-add m (at + front) count back what) ∙ one.1) in
    ap (λ a. allows_all m a count what) (sym is) ∙ two.0

-- and so may one byte of it
pub byte_allowed : (m : Pages) (at n a : ℕ) (what : Use) → at ≤ a → a + 1 ≤ at + n → allows_all m at n what ≡ true → allows m a what ≡ true
unfolding allows_all
byte_allowed m at n a what low high e = (and_parts (allows m a what) true (part_allowed m at n a 1 what low high e)).0
