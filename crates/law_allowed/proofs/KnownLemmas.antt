-- What a row knows of a state is so, and parts that many rows have.
use Rattle.std.specs.FinMap as map
use Rattle.std.proofs.Common.{◌≡◌, ◌≢◌, subst, ℕ, ◌+◌, ◌≤◌, ◌<◌, Bool, true, false, nat_lt, List, refl, sym, ap, ◌∙◌, arith, Some, None, Option, IsSome, ℤ}
use Rattle.std.specs.Prelude.{nat_le}
use Rattle.std.specs.Option.{option_map, option_map_or, option_and_then}
use Rattle.std.proofs.lemmas.Bool.Decides.{nat_tests}
use Rattle.law_lawful.proofs.kr_tree.NameLemmas.{then_some}
use Rattle.law_lawful.specs.kr_files.declared.opened.Opened.{Opened}
use Rattle.law_lawful.specs.kr_files.Descriptors.{Named, lowest_free, lowest_pair}
use Rattle.law_lawful.specs.kr_files.Files.{file_at}
use Rattle.law_lawful.specs.kr_files.WithoutMounts.{without_mount}
use Rattle.law_lawful.proofs.kr_files.DescriptorLemmas.{lowest_free-some}
use Rattle.law_lawful.specs.kr_model.Asking.{or_closed, of_number, or_badf, descriptor_number}
use Rattle.law_lawful.specs.kr_model.Change.{Change}
use Rattle.law_lawful.specs.kr_model.Conditions.{IsFreeDescriptor, IsOpen}
use Rattle.law_lawful.specs.kr_model.Known.{Known, Caller, known, caller_of, no_caller}
use Rattle.law_lawful.specs.kr_model.Reply.{Replying}
use Rattle.law_lawful.specs.kr_model.State.{Image, image_layout, Process, State, process, named, opened}
use Rattle.law_lawful.proofs.AfterLemmas.{some-of, is-some}
use Rattle.law_allowed.proofs.RowLemmas.{Allowed, unchanged}

-- ---- tests

pub is-less : (a b : ℕ) → nat_lt a b ≡ true → a < b
is-less a b e = grind (arith, nat_tests)

pub not-less : (a b : ℕ) → nat_lt a b ≡ false → b ≤ a
not-less a b e = grind (arith, nat_tests)

pub not-most : (a b : ℕ) → nat_le a b ≡ false → b < a
not-most a b e = grind (arith, nat_tests)

-- ---- ends of rows

pub maybe : {A : Type 0} {Can : List Change → Type 0} {w : Bool} {f : A → Replying} (o : Option A) {other : Replying} → ((x : A) → o ≡ Some x → Allowed Can w (f x)) → Allowed Can w other → Allowed Can w (option_map_or f o other)
maybe None some none = none
maybe (Some x) some none = some x refl

-- ---- the caller and its descriptors

module _ {M : Type 0} (pid : ℕ) (s : State M Image) where
  abbrev k : Known
  k = known image_layout pid s

  pub caller-is : (p : Process M Image) → process pid s ≡ Some p → k.caller ≡ caller_of image_layout p
  caller-is p e = ap (λ (o : Option (Process M Image)). option_map_or (caller_of image_layout) o no_caller) e

  -- what an open descriptor names
  pub open-named : (fd : ℕ) (o : Opened M) → opened pid fd s ≡ Some o → IsOpen pid fd s
  open-named fd o e =
      let found = then_some (λ (x : Named). file_at s.files x.number) (named pid fd s) o e in
      is-some (named pid fd s) found.0 found.1

  -- EBADF, or what follows
  pub at-number : {Can : List Change → Type 0} {w : Bool} (n : ℕ) (next : Opened (Unit {0}) → Replying) → ((o : Opened M) → opened pid n s ≡ Some o → Allowed Can w (next (without_mount o))) → Allowed Can w (or_closed (k.opened n) next)
  at-number {Can} {w} n next allowed = by (opened pid n s) refl
    where
      by : (o : Option (Opened M)) → opened pid n s ≡ o → Allowed Can w (or_closed (option_map without_mount o) next)
      by None e = unchanged
      by (Some o) e = allowed o e

  pub by-open : {Can : List Change → Type 0} {w : Bool} (fd : ℤ) (next : ℕ → Opened (Unit {0}) → Replying) → ((n : ℕ) (o : Opened M) → opened pid n s ≡ Some o → Allowed Can w (next n (without_mount o))) → Allowed Can w (or_badf k fd next)
  by-open {Can} {w} fd next allowed = by (descriptor_number fd)
    where
      by : (fd : Option ℕ) → Allowed Can w (of_number k fd next)
      by None = unchanged
      by (Some n) = at-number n (next n) (allowed n)

  module _ (lives : IsSome (process pid s)) where
    named-is : (fd : ℕ) → named pid fd s ≡ map.get k.caller.descs fd
    named-is fd =
        let own = some-of (process pid s) lives in
        ap (λ (o : Option (Process M Image)). option_and_then (λ p. map.get p.descs fd) o) own.1 ∙ ap (λ (c : Caller). map.get c.descs fd) (sym (caller-is own.0 own.1))

    -- the lowest free descriptor isn't open
    pub free-lowest : (from fd : ℕ) → lowest_free k.caller.descs from ≡ Some fd → IsFreeDescriptor pid fd s × (from ≤ fd)
    free-lowest from fd e =
        let lowest = lowest_free-some k.caller.descs from fd e in
        (record { small = lowest.below; free = named-is fd ∙ lowest.free }, lowest.from_on)

    pub free-apart : (fd to : ℕ) → IsOpen pid fd s → IsFreeDescriptor pid to s → to ≢ fd
    free-apart fd to is_open free same =
        let own = some-of (named pid fd s) is_open in
        absurd (let no : None ≡ Some own.0 = sym free.free ∙ ap (λ q. named pid q s) same ∙ own.1 in cc)

    pub free-pair : (fds : ℕ × ℕ) → lowest_pair k.caller.descs ≡ Some fds → IsFreeDescriptor pid fds.0 s × IsFreeDescriptor pid fds.1 s × (fds.0 ≢ fds.1)
    free-pair fds e = first (lowest_free k.caller.descs 0) refl e
      where
        second : (a : ℕ) → lowest_free k.caller.descs 0 ≡ Some a → (o : Option ℕ) → lowest_free k.caller.descs (a + 1) ≡ o → option_map (λ (b : ℕ). (a, b)) o ≡ Some fds
            → IsFreeDescriptor pid fds.0 s × IsFreeDescriptor pid fds.1 s × (fds.0 ≢ fds.1)
        second a is None then e = absurd cc
        second a is (Some b) then e =
            let low = free-lowest 0 a is in
            let high = free-lowest (a + 1) b then in
            let pair : (a, b) ≡ fds = cc in
            let above = high.1 in
            subst (λ (fds : ℕ × ℕ). IsFreeDescriptor pid fds.0 s × IsFreeDescriptor pid fds.1 s × (fds.0 ≢ fds.1)) pair (low.0, high.0, λ same. absurd (omega arith))

        first : (o : Option ℕ) → lowest_free k.caller.descs 0 ≡ o → option_and_then (λ (a : ℕ). option_map (λ (b : ℕ). (a, b)) (lowest_free k.caller.descs (a + 1))) o ≡ Some fds
            → IsFreeDescriptor pid fds.0 s × IsFreeDescriptor pid fds.1 s × (fds.0 ≢ fds.1)
        first None is e = absurd cc
        first (Some a) is e = second a is (lowest_free k.caller.descs (a + 1)) refl e
