-- The tags of processes: for each slot of each process the index of a binding, 0 where nothing is set.
use Rattle.std.specs.FinMap as map
use Rattle.std.specs.Prelude.{◌≡◌, ◌≢◌, ℕ, refl}
use Rattle.std.specs.Option.{unwrap_or}
use Rattle.std.specs.Ordering.{nat_cmp}
use Rattle.std.specs.Coded.{Coded, code_by, coded×, coded_ℕ}
use Rattle.pt_bind.specs.declared.slot.Slot.{Slot}
use Rattle.pt_bind.specs.declared.slot.Slot.TheVariants.{Cwd, Exe, Fd}

-- the tags of one process
pub record Tagged : Type 0 where
  pub cwd : ℕ
  pub exe : ℕ
  pub fds : map.FinMap nat_cmp ℕ

abbrev pub tagged_code : Coded Tagged
tagged_code =
    code_by (ℕ × (ℕ × map.FinMap nat_cmp ℕ)) (coded× coded_ℕ (coded× coded_ℕ (map.code coded_ℕ coded_ℕ)))
    (λ t. (t.cwd, (t.exe, t.fds))) (λ p. record { cwd = p.0; exe = p.1.0; fds = p.1.1 }) (λ _. refl)

abbrev pub untagged : Tagged
untagged = record { cwd = 0; exe = 0; fds = map.empty }

abbrev pub tag_at : Tagged → Slot → ℕ
tag_at t Cwd = t.cwd
tag_at t Exe = t.exe
tag_at t (Fd fd) = unwrap_or (map.get t.fds fd) 0

-- with the tag of a slot set
abbrev pub with_slot : Tagged → Slot → ℕ → Tagged
with_slot t Cwd tag = record { cwd = tag; exe = t.exe; fds = t.fds }
with_slot t Exe tag = record { cwd = t.cwd; exe = tag; fds = t.fds }
with_slot t (Fd fd) tag = record { cwd = t.cwd; exe = t.exe; fds = map.insert t.fds fd tag }

-- ---- of all processes

abbrev pub TagTable : Type 0
TagTable = map.FinMap nat_cmp Tagged

abbrev pub tag_table_code : Coded TagTable
tag_table_code = map.code coded_ℕ tagged_code

abbrev pub tags_of : TagTable → ℕ → Tagged
tags_of tags pid = unwrap_or (map.get tags pid) untagged

abbrev pub tag_of : TagTable → ℕ → Slot → ℕ
tag_of tags pid slot = tag_at (tags_of tags pid) slot

-- one tag set, a process with the tags of another, and one without tags
abbrev pub with_tag : TagTable → ℕ → Slot → ℕ → TagTable
with_tag tags pid slot tag = map.insert tags pid (with_slot (tags_of tags pid) slot tag)

abbrev pub forked : TagTable → ℕ → ℕ → TagTable
forked tags from to = map.insert tags to (tags_of tags from)

abbrev pub dropped : TagTable → ℕ → TagTable
dropped tags pid = map.remove tags pid

-- ---- law

-- each change shows where it is said, and nowhere else
pub record TagsChange : Type 0 where
  pub first : (pid : ℕ) (slot : Slot) → tag_of map.empty pid slot ≡ 0
  pub set : (tags : TagTable) (pid : ℕ) (slot : Slot) (tag : ℕ) → tag_of (with_tag tags pid slot tag) pid slot ≡ tag
  pub set_slots : (tags : TagTable) (pid : ℕ) (slot : Slot) (tag : ℕ) (other : Slot) → other ≢ slot → tag_of (with_tag tags pid slot tag) pid other ≡ tag_of tags pid other
  pub set_others : (tags : TagTable) (pid : ℕ) (slot : Slot) (tag p : ℕ) (other : Slot) → p ≢ pid → tag_of (with_tag tags pid slot tag) p other ≡ tag_of tags p other
  pub fork : (tags : TagTable) (from to : ℕ) (slot : Slot) → tag_of (forked tags from to) to slot ≡ tag_of tags from slot
  pub fork_others : (tags : TagTable) (from to p : ℕ) (slot : Slot) → p ≢ to → tag_of (forked tags from to) p slot ≡ tag_of tags p slot
  pub drop : (tags : TagTable) (pid : ℕ) (slot : Slot) → tag_of (dropped tags pid) pid slot ≡ 0
  pub drop_others : (tags : TagTable) (pid p : ℕ) (slot : Slot) → p ≢ pid → tag_of (dropped tags pid) p slot ≡ tag_of tags p slot
