-- The descriptors of a process.
use Rattle.std.specs.FinMap as map
use Rattle.std.specs.Prelude.{◌≡◌, ℕ, zero, suc, ◌+◌, ◌-◌, ◌==◌, ◌<◌, ◌≤◌, Bool, Option, Some, None, IsSome, if◌then◌else◌, refl}
use Rattle.std.specs.Option.{option_map, option_map_or, option_and_then}
use Rattle.std.specs.Ordering.{nat_cmp}
use Rattle.std.specs.Coded.{Coded, code_by, coded×, coded_ℕ, coded_bool}
use Rattle.kr_tree.specs.pr_base.Maps.{mapped}
use Rattle.kr_files.specs.declared.descs.Descriptor.{Descriptor}

abbrev pub descriptor_code : Coded Descriptor
descriptor_code =
    code_by (ℕ × (ℕ × Bool)) (coded× coded_ℕ (coded× coded_ℕ coded_bool))
    (λ x. (x.key, (x.number, x.cloexec))) (λ p. record { key = p.0; number = p.1.0; cloexec = p.1.1 }) (λ _. refl)

-- the descriptor with this flag
abbrev pub with_cloexec : Bool → Descriptor → Descriptor
with_cloexec on x = record x { cloexec = on }

-- descriptors by their numbers
abbrev pub Descriptors : Type 0
Descriptors = map.FinMap nat_cmp Descriptor

abbrev pub descriptors_code : Coded Descriptors
descriptors_code = map.code coded_ℕ descriptor_code

-- the flag of a descriptor that is open
abbrev pub cloexec_of : Descriptors → ℕ → Option Bool
cloexec_of d fd = option_map (λ x. x.cloexec) (map.get d fd)

-- what a descriptor means: the open file that it names by number, and whether an execve closes it
pub record Named : Type 0 where
  pub number : ℕ
  pub cloexec : Bool

abbrev pub named_code : Coded Named
named_code =
    code_by (ℕ × Bool) (coded× coded_ℕ coded_bool)
    (λ x. (x.number, x.cloexec)) (λ p. record { number = p.0; cloexec = p.1 }) (λ _. refl)

-- the meaning of a process's descriptors, which forgets where an open file is kept
abbrev pub Meanings : Type 0
Meanings = map.FinMap nat_cmp Named

abbrev pub meanings : Descriptors → Meanings
meanings d = mapped (λ fd x. record { number = x.number; cloexec = x.cloexec }) d

-- how many of the first `count` descriptors name a file
unfoldable pub named_below : Meanings → ℕ → ℕ → ℕ
named_below d n zero = 0
named_below d n (suc count) =
    named_below d n count + option_map_or (λ x. if x.number == n then 1 else 0) (map.get d count) 0

-- how many of a process's descriptors name a file
abbrev pub named_count : Meanings → ℕ → ℕ
named_count d n = named_below d n 1024

module _ {X : Type 0} where
  -- the first of `count` numbers from `from` on that is no key
  unfoldable pub first_free : map.FinMap nat_cmp X → ℕ → ℕ → Option ℕ
  first_free d from zero = None
  first_free d from (suc count) = if map.contains_key d from then first_free d (from + 1) count else Some from

  -- the lowest free descriptor from a number on; a process has those below 1,024
  abbrev pub lowest_free : map.FinMap nat_cmp X → ℕ → Option ℕ
  lowest_free d from = first_free d from (1024 - from)

  -- what that is: a free descriptor, and from that number on no lower one is
  pub record IsLowestFree (d : map.FinMap nat_cmp X) (from fd : ℕ) : Type 0 where
    pub free : map.get d fd ≡ None
    pub from_on : from ≤ fd
    pub below : fd < 1024
    pub lower_taken : (q : ℕ) → from ≤ q → q < fd → IsSome (map.get d q)

  -- from a number on no descriptor is free
  abbrev pub AllTaken : map.FinMap nat_cmp X → ℕ → Type 0
  AllTaken d from = (q : ℕ) → from ≤ q → q < 1024 → IsSome (map.get d q)

  -- the two lowest free descriptors
  abbrev pub lowest_pair : map.FinMap nat_cmp X → Option (ℕ × ℕ)
  lowest_pair d =
      option_and_then (λ first. option_map (λ second. (first, second)) (lowest_free d (first + 1))) (lowest_free d 0)

-- the descriptors with a copy of one of them
abbrev pub with_copy_at : Descriptors → ℕ → ℕ → Bool → Descriptors
with_copy_at d fd to cloexec = option_map_or (λ x. map.insert d to (with_cloexec cloexec x)) (map.get d fd) d
