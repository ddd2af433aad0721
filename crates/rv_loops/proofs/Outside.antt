-- Instructions stay where they stand while bytes outside of them are written.
use Rattle.std.proofs.Common.{◌≡◌, ◌≢◌, ℕ, zero, suc, ◌+◌, ◌<◌, ◌≤◌, Bool, false, ◌&&◌, ◌||◌, List, [], ◌∷◌, length, inl, inr, refl, ap, ◌∙◌, arith}
use Rattle.std.specs.Prelude.{◌⊎◌}
use Rattle.rv_asm.specs.rv_table.declared.instr.Instr.{Instr}
use Rattle.rv_cpu.specs.rv_mem.declared.rights.Use.{Use}
use Rattle.rv_cpu.specs.rv_mem.declared.rights.Use.TheVariants.{Execute}
use Rattle.rv_cpu.specs.rv_mem.Pages.{Pages, allows, allows_all, byte_at, bytes_from, is_marked, any_marked, written}
use Rattle.rv_cpu.proofs.rv_mem.AddressLemmas.{allows-written, byte_at-written_other, is_marked-written_other}
use Rattle.rv_cpu.specs.Words.{sum}
use Rattle.rv_loops.specs.Loops.{Stands}

allows_all-written : (m : Pages) (at : ℕ) (bytes : List ℕ) (a n : ℕ) (what : Use) → allows_all (written m at bytes) a n what ≡ allows_all m a n what
unfolding allows_all
allows_all-written m at bytes a zero what = refl
allows_all-written m at bytes a (suc n) what =
    ap (λ b. b && allows_all (written m at bytes) (a + 1) n what) (allows-written m at bytes a what)
    ∙ ap (λ b. allows m a what && b) (allows_all-written m at bytes (a + 1) n what)

-- n bytes from an address on lie outside of others
abbrev IsOutside : (a n at count : ℕ) → Type 0
IsOutside a n at count = (a + n ≤ at) ⊎ (at + count ≤ a)

first_outside : (a n at count : ℕ) → IsOutside a (suc n) at count → (k : ℕ) → k < count → a ≢ at + k
first_outside a n at count (inl before) k h e = absurd (omega arith)
first_outside a n at count (inr behind) k h e = absurd (omega arith)

rest_outside : (a n at count : ℕ) → IsOutside a (suc n) at count → IsOutside (a + 1) n at count
rest_outside a n at count (inl before) = inl (omega arith)
rest_outside a n at count (inr behind) = inr (omega arith)

bytes_from-written : (m : Pages) (at : ℕ) (bytes : List ℕ) (a n : ℕ) → IsOutside a n at (length bytes) → bytes_from (written m at bytes) a n ≡ bytes_from m a n
unfolding bytes_from
bytes_from-written m at bytes a zero outside = refl
bytes_from-written m at bytes a (suc n) outside =
    ap (λ b. b ∷ bytes_from (written m at bytes) (a + 1) n) (byte_at-written_other m at bytes a (first_outside a n at (length bytes) outside))
    ∙ ap (λ bs. byte_at m a ∷ bs) (bytes_from-written m at bytes (a + 1) n (rest_outside a n at (length bytes) outside))

any_marked-written : (m : Pages) (at : ℕ) (bytes : List ℕ) (a n : ℕ) → IsOutside a n at (length bytes) → any_marked (written m at bytes) a n ≡ any_marked m a n
unfolding any_marked
any_marked-written m at bytes a zero outside = refl
any_marked-written m at bytes a (suc n) outside =
    ap (λ b. b || any_marked (written m at bytes) (a + 1) n) (is_marked-written_other m at bytes a (first_outside a n at (length bytes) outside))
    ∙ ap (λ b. is_marked m a || b) (any_marked-written m at bytes (a + 1) n (rest_outside a n at (length bytes) outside))

pub Stands-written : (m : Pages) (at : ℕ) (bytes : List ℕ) (pc : ℕ) (is : List Instr) → Stands m at (length bytes) pc is → Stands (written m at bytes) at (length bytes) pc is
Stands-written m at bytes pc [] stands = tt
Stands-written m at bytes pc (i ∷ is) stands = (
  allows_all-written m at bytes pc 4 Execute ∙ stands.0,
  bytes_from-written m at bytes pc 4 stands.3 ∙ stands.1,
  any_marked-written m at bytes pc 4 stands.3 ∙ stands.2,
  stands.3,
  Stands-written m at bytes (sum pc 4) is stands.4,
)
