-- Bytes that are written one after the other.
use Rattle.std.proofs.Common.{◌≡◌, ◌∙◌, ◌&&◌, ℕ, ℤ, true, List, [], ◌∷◌, length, Some, if◌then◌else◌, refl, sym, ap}
use Rattle.law_steady.specs.pr_base.declared.errno.Errno.TheVariants.{EFAULT}
use Rattle.pt_results.specs.rv_mem.Memory.{Memory, with_pages}
use Rattle.pt_results.specs.rv_mem.Pages.{allows_all, written}
use Rattle.pt_results.specs.rv_mem.declared.rights.Use.TheVariants.{Write}
use Rattle.pt_faker.specs.Stopping.{after_poke, IsThere, memory_at, Stopped}
use Rattle.pt_results.specs.pt_args.declared.edit.Edit.{Edit}
use Rattle.pt_results.specs.pt_args.declared.edit.Edit.TheVariants.{Emulate}
use Rattle.pt_faker.specs.Faking.{no_longer_called}
use Rattle.pt_faker.proofs.StopLemmas.{allows_all-written, memory-given}
use Rattle.pt_tracer.specs.Poking.{may_poke, poked}
use Rattle.pt_tracer.specs.Watched.{Applied, applied, refused}

-- what may be written may still be behind a write
pub may-after : (t : Stopped) → IsThere t → (at : ℕ) (bytes : List ℕ) (ps : List (ℕ × List ℕ)) → may_poke ps (after_poke at bytes t) ≡ may_poke ps t
may-after t there at bytes [] = refl
may-after t there at bytes (p ∷ ps) =
    let m = memory_at t in
    ap (λ (n : Memory). allows_all n.pages p.0 (length p.1) Write && may_poke ps (after_poke at bytes t)) (memory-given t there (with_pages m (written m.pages at bytes)))
    ∙ ap (λ b. b && may_poke ps (after_poke at bytes t)) (allows_all-written m.pages at bytes p.0 (length p.1) Write)
    ∙ ap (λ b. allows_all m.pages p.0 (length p.1) Write && b) (may-after t there at bytes ps)

-- a call that is answered here
pub emulated : (t u v : Stopped) (e : Edit) (pokes wrote tested : List (ℕ × List ℕ)) (answer meant : ℤ) → e ≡ Emulate pokes answer → tested ≡ pokes → wrote ≡ pokes → may_poke tested t ≡ true → u ≡ poked wrote t → v ≡ no_longer_called u → meant ≡ answer
    → ◌≡◌ {A = Applied} (record { answer = Some meant; stopped = v }) (applied e t)
emulated t u v e pokes wrote tested answer meant is tests writes may put away means =
    (λ k. record { answer = Some (means k); stopped = (away ∙ ap no_longer_called (put ∙ ap (λ ps. poked ps t) writes)) k })
    ∙ sym (ap (λ b. if b then record { answer = Some answer; stopped = no_longer_called (poked pokes t) } else refused EFAULT t) (sym (ap (λ ps. may_poke ps t) tests) ∙ may))
    ∙ sym (ap (λ x. applied x t) is)
