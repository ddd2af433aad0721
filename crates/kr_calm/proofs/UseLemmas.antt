-- What is open under the descriptors of a process.
use Rattle.std.specs.FinMap as map
use Rattle.std.proofs.Common.{◌≡◌, ℕ, zero, suc, ◌+◌, ◌<◌, Bool, true, false, ◌||◌, inl, inr, Option, Some, None, refl, sym, ap, ◌∙◌, subst, arith}
use Rattle.std.specs.Option.{option_and_then, option_map, option_map_or}
use Rattle.kr_seen.proofs.pr_base.MapLemmas.{get-mapped}
use Rattle.kr_seen.specs.kr_files.declared.descs.Descriptor.{Descriptor}
use Rattle.kr_seen.specs.kr_files.declared.opened.Opened.{Opened}
use Rattle.kr_seen.specs.kr_files.Descriptors.{Descriptors, Meanings, Named, meanings}
use Rattle.kr_seen.specs.kr_files.Files.{Kept, Table, file_at, opened_at}
use Rattle.kr_calm.specs.InUse.{any_opened_below, passes_at}
use Rattle.kr_calm.proofs.AboveLemmas.{equal-or-not}

module _ {M : Type 0} (test : Opened M → Bool) where
  module _ (files : Table M) (d : Meanings) where
    pub none-below : any_opened_below 0 test files d ≡ false
    unfolding any_opened_below
    none-below = refl

    pub one-below : (n : ℕ) → any_opened_below (suc n) test files d ≡ (any_opened_below n test files d || passes_at test files d n)
    unfolding any_opened_below
    one-below n = refl

    pub next-below : (fd next : ℕ) → next ≡ fd + 1 → any_opened_below fd test files d ≡ false → passes_at test files d fd ≡ false → any_opened_below next test files d ≡ false
    next-below fd next more before h =
        let same : suc fd ≡ next = omega arith in
        subst (λ n. any_opened_below n test files d ≡ false) same (one-below fd ∙ ap (λ b. b || passes_at test files d fd) before ∙ h)

    pub found-below : (n fd : ℕ) → fd < n → passes_at test files d fd ≡ true → any_opened_below n test files d ≡ true
    found-below zero fd l h = absurd (omega arith)
    found-below (suc n) fd l h = one-below n ∙ elim (equal-or-not fd n) [
      | inl same ↦ right (any_opened_below n test files d) (ap (passes_at test files d) (sym same) ∙ h)
      | inr other ↦ ap (λ b. b || passes_at test files d n) (found-below n fd (omega (arith, other, l)) h)
    ]
      where
        right : (a : Bool) → passes_at test files d n ≡ true → (a || passes_at test files d n) ≡ true
        right true e = refl
        right false e = e

  -- what the code finds under a descriptor
  pub passes-opened : (f : Kept M) (d : Descriptors) (fd : ℕ) (o : Option (Opened M)) → o ≡ opened_at f d fd → passes_at test f.table (meanings d) fd ≡ option_map_or test o false
  passes-opened f d fd o is =
      ap (λ m. option_map_or test (option_and_then (λ (x : Named). file_at f.table x.number) m) false) (get-mapped (λ (n : ℕ) (x : Descriptor). record { number = x.number; cloexec = x.cloexec }) d fd)
      ∙ by (map.get d fd) ∙ ap (λ o. option_map_or test o false) (sym is)
    where
      by : (m : Option Descriptor) → option_map_or test (option_and_then (λ (x : Named). file_at f.table x.number) (option_map (λ (x : Descriptor). record { number = x.number; cloexec = x.cloexec }) m)) false
          ≡ option_map_or test (option_and_then (λ (x : Descriptor). file_at f.table x.number) m) false
      by None = refl
      by (Some x) = refl
