-- Rows that begin with a descriptor.
use Rattle.std.proofs.Common.{◌≡◌, ℕ, ℤ, Bool, true, false, cond, [], ◌∷◌, Option, Some, None, refl, sym, ap, ◌∙◌}
use Rattle.std.specs.Prelude.{nat_lt, if◌then◌else◌}
use Rattle.std.specs.FinMap as map
use Rattle.std.specs.Option.{option_map, option_map_or, option_and_then}
use Rattle.std.proofs.lemmas.Option.{same_Some, none-some}
use Rattle.kr_seen.specs.pr_base.declared.errno.Errno.TheVariants.{EBADF}
use Rattle.kr_seen.specs.kr_files.declared.opened.Opened.{Opened}
use Rattle.kr_seen.specs.kr_model.Asking.{descriptor_number, of_number, or_badf, or_closed}
use Rattle.kr_seen.specs.kr_files.Descriptors.{Named, lowest_free}
use Rattle.kr_seen.specs.kr_files.Files.{file_at}
use Rattle.kr_seen.specs.kr_files.WithoutMounts.{without_mount}
use Rattle.kr_seen.specs.kr_model.Change.{CopyDescriptor}
use Rattle.kr_seen.specs.kr_model.DescriptorRows.{copy_to}
use Rattle.kr_seen.specs.kr_model.Known.{Known, caller_of, known, no_caller}
use Rattle.kr_seen.specs.kr_model.State as model
use Rattle.kr_seen.specs.kr_ops.Opening.{lowest_of}
use Rattle.kr_seen.specs.kr_model.Reply.{Replying, done, refuse}
use Rattle.kr_seen.specs.PerformedRows.{open_number}

module _ (k : Known) (fd : ℤ) (next : ℕ → Opened (Unit {0}) → Replying) where
  pub not-open : open_number k fd ≡ None → or_badf k fd next ≡ refuse EBADF
  not-open e = by (descriptor_number fd) e
    where
      closed : (n : ℕ) (o : Option (Opened (Unit {0}))) → option_map (λ o. n) o ≡ None → or_closed o (next n) ≡ refuse EBADF
      closed n None e = refl
      closed n (Some o) e = absurd (none-some n (sym e))

      by : (d : Option ℕ) → option_and_then (λ n. option_map (λ o. n) (k.opened n)) d ≡ None → of_number k d next ≡ refuse EBADF
      by None e = refl
      by (Some n) e = closed n (k.opened n) e

  pub is-open : (n : ℕ) → open_number k fd ≡ Some n → (o : Opened (Unit {0})) × (k.opened n ≡ Some o) × (or_badf k fd next ≡ next n o)
  is-open n e = by (descriptor_number fd) e
    where
      there : (m : ℕ) (o : Option (Opened (Unit {0}))) → k.opened m ≡ o → option_map (λ o. m) o ≡ Some n → (o : Opened (Unit {0})) × (k.opened n ≡ Some o) × (or_closed (k.opened m) (next m) ≡ next n o)
      there m None is e = absurd (none-some n e)
      there m (Some o) is e =
          let same = same_Some m n e in
          (o, ap (λ x. k.opened x) (sym same) ∙ is, ap (λ x. or_closed x (next m)) is ∙ ap (λ x. next x o) same)

      by : (d : Option ℕ) → option_and_then (λ n. option_map (λ o. n) (k.opened n)) d ≡ Some n → (o : Opened (Unit {0})) × (k.opened n ≡ Some o) × (of_number k d next ≡ next n o)
      by None e = absurd (none-some n e)
      by (Some m) e = there m (k.opened m) refl e

-- an open descriptor is one of a living process, so the free ones are those that the caller is known to have
pub lowest-known : {T : Type 0} (s : model.State T model.Image) (pid n from : ℕ) (o : Opened (Unit {0})) → (known model.image_layout pid s).opened n ≡ Some o
    → lowest_of pid from s ≡ lowest_free (known model.image_layout pid s).caller.descs from
lowest-known {T} s pid n from o there = by (model.process pid s) refl
  where
    shut : (q : Option (model.Process T model.Image)) → option_map without_mount (option_and_then (λ (x : Named). file_at s.files x.number) (option_and_then (λ p. map.get p.descs n) q)) ≡ Some o → q ≡ None → ⊥
    shut q h e = none-some o (sym (ap (λ (q : Option (model.Process T model.Image)). option_map without_mount (option_and_then (λ (x : Named). file_at s.files x.number) (option_and_then (λ p. map.get p.descs n) q))) e) ∙ h)

    by : (q : Option (model.Process T model.Image)) → model.process pid s ≡ q
        → option_and_then (λ p. lowest_free p.descs from) q ≡ lowest_free (option_map_or (caller_of model.image_layout) q no_caller).descs from
    by None e = absurd (shut (model.process pid s) there e)
    by (Some p) e = refl

-- ---- numbers that a descriptor can have

pub no-number : (old : ℕ) (cloexec : Bool) (o : Option ℕ) → option_and_then (λ n. if nat_lt n 1024 then Some n else None) o ≡ None → copy_to old cloexec o ≡ refuse EBADF
no-number old cloexec None e = refl
no-number old cloexec (Some n) e = by (nat_lt n 1024) e
  where
    by : (b : Bool) → cond b (Some n) None ≡ None → cond b (done n (CopyDescriptor old n cloexec ∷ [])) (refuse EBADF) ≡ refuse EBADF
    by true e = absurd (none-some n (sym e))
    by false e = refl

pub a-number : (old : ℕ) (cloexec : Bool) (m : ℕ) (o : Option ℕ) → option_and_then (λ n. if nat_lt n 1024 then Some n else None) o ≡ Some m → copy_to old cloexec o ≡ done m (CopyDescriptor old m cloexec ∷ [])
a-number old cloexec m None e = absurd (none-some m e)
a-number old cloexec m (Some n) e = by (nat_lt n 1024) e
  where
    by : (b : Bool) → cond b (Some n) None ≡ Some m → cond b (done n (CopyDescriptor old n cloexec ∷ [])) (refuse EBADF) ≡ done m (CopyDescriptor old m cloexec ∷ [])
    by true e = ap (λ n. done n (CopyDescriptor old n cloexec ∷ [])) (same_Some n m e)
    by false e = absurd (none-some m e)

-- ---- what is open under a number that was found

pub opened-row : (k : Known) (fd : ℤ) (next : ℕ → Opened (Unit {0}) → Replying) (n : ℕ) (o : Opened (Unit {0})) → open_number k fd ≡ Some n → k.opened n ≡ Some o → or_badf k fd next ≡ next n o
opened-row k fd next n o number there =
    let open_ = is-open k fd next n number in
    open_.2 ∙ ap (next n) (same_Some open_.0 o (sym open_.1 ∙ there))
