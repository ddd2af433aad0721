-- Remembered ownership after a change.
use Rattle.std.specs.FinMap as map
use Rattle.std.proofs.Common.{◌≡◌, ◌≢◌, ◌∙◌, ◌+◌, ◌*◌, ◌/◌, ◌%◌, ℕ, Option, Some, None, refl, ap, arith}
use Rattle.std.specs.Option.{unwrap_or, option_map_or}
use Rattle.std.specs.Ordering.{nat_cmp}
use Rattle.kr_inode.proofs.pr_base.MapLemmas.{by_key, get-insert_same, get-insert_other}
use Rattle.pt_ident.specs.declared.change.Change.{Change}
use Rattle.pt_ident.specs.declared.change.Change.TheVariants.{Own, Mode}
use Rattle.pt_ident.specs.declared.change.Shown.{Shown}
use Rattle.pt_ident.specs.Owners.{no_number, modes, unsaid, given, over, with_bits, shown_by, Remembered, nothing, entry_of, noted, shown_of, three_changes as three, OwnersChange, ModesKeepKinds, ThreeChanges}

-- what is remembered of the inode that was noted, and of another
own_entry : (owners : Remembered) (ino : ℕ) (change : Change) → entry_of (noted owners ino change) ino ≡ over (entry_of owners ino) change
own_entry owners ino change = ap (λ o. unwrap_or o unsaid) (get-insert_same owners ino (over (entry_of owners ino) change))

other_entry : (owners : Remembered) (ino other : ℕ) (change : Change) → other ≢ ino → entry_of (noted owners ino change) other ≡ entry_of owners other
other_entry owners ino other change away = ap (λ o. unwrap_or o unsaid) (get-insert_other owners ino (over (entry_of owners ino) change) other away)

no_entry : (ino : ℕ) → entry_of nothing ino ≡ unsaid
no_entry ino = ap (λ o. unwrap_or o unsaid) (map.get-empty nat_cmp ino)

-- a number that is said is given
is_given : (id : ℕ) (before : Option ℕ) → id ≢ no_number → given id before ≡ Some id
is_given id before said = grind (arith)

own : (owners : Remembered) (ino uid gid : ℕ) (base : Shown) → shown_of (noted owners ino (Own uid gid)) ino base ≡ record { uid = unwrap_or (given uid (entry_of owners ino).uid) base.uid; gid = unwrap_or (given gid (entry_of owners ino).gid) base.gid; mode = (shown_of owners ino base).mode }
own owners ino uid gid base = ap (λ e. shown_by e base) (own_entry owners ino (Own uid gid))

others : (owners : Remembered) (ino other : ℕ) (change : Change) (base : Shown) → other ≢ ino → shown_of (noted owners ino change) other base ≡ shown_of owners other base
others owners ino other change base away = ap (λ e. shown_by e base) (other_entry owners ino other change away)

pub owners_change : OwnersChange
owners_change = record {
  first = λ ino base. ap (λ e. shown_by e base) (no_entry ino);
  others = others;
  own = λ owners ino uid gid base user group.
      own owners ino uid gid base
      ∙ (λ i. record { uid = unwrap_or (is_given uid (entry_of owners ino).uid user i) base.uid; gid = unwrap_or (is_given gid (entry_of owners ino).gid group i) base.gid; mode = (shown_of owners ino base).mode });
  own_user = λ owners ino uid base user.
      own owners ino uid no_number base
      ∙ (λ i. record { uid = unwrap_or (is_given uid (entry_of owners ino).uid user i) base.uid; gid = (shown_of owners ino base).gid; mode = (shown_of owners ino base).mode });
  own_group = λ owners ino gid base group.
      own owners ino no_number gid base
      ∙ (λ i. record { uid = (shown_of owners ino base).uid; gid = unwrap_or (is_given gid (entry_of owners ino).gid group i) base.gid; mode = (shown_of owners ino base).mode });
  own_nothing = λ owners ino q base.
      by_key (λ q. shown_of (noted owners ino (Own no_number no_number)) q base ≡ shown_of owners q base) ino
      (own owners ino no_number no_number base)
      (λ q away. others owners ino q (Own no_number no_number) base away) q;
  mode = λ owners ino bits base. ap (λ e. shown_by e base) (own_entry owners ino (Mode bits)) ∙ low_twice owners ino bits base;
}
  where
    low_twice : (owners : Remembered) (ino bits : ℕ) (base : Shown)
        → shown_by (over (entry_of owners ino) (Mode bits)) base ≡ record { uid = (shown_of owners ino base).uid; gid = (shown_of owners ino base).gid; mode = with_bits base.mode bits }
    low_twice owners ino bits base =
        let twice : bits % modes % modes ≡ bits % modes = omega arith in
        λ i. record { uid = (shown_of owners ino base).uid; gid = (shown_of owners ino base).gid; mode = base.mode / modes * modes + twice i }

same_kind : (mode bits : ℕ) → with_bits mode bits / modes ≡ mode / modes
same_kind mode bits = omega arith

pub modes_keep_kinds : ModesKeepKinds
modes_keep_kinds = record {
  kind = λ owners ino base. kept (entry_of owners ino).bits base.mode;
  low = λ mode bits. omega arith;
}
  where
    kept : (bits : Option ℕ) (mode : ℕ) → option_map_or (with_bits mode) bits mode / modes ≡ mode / modes
    kept None mode = refl
    kept (Some bits) mode = same_kind mode bits

pub three_changes : ThreeChanges
three_changes = record {
  changed = ap (λ e. shown_by e (record { uid = 0; gid = 0; mode = 33188 })) entry;
  other = λ base. ap (λ e. shown_by e base) (other_entry second 20 21 (Mode 384) away ∙ other_entry first 20 21 (Own no_number 7) away ∙ other_entry nothing 20 21 (Own 5 6) away ∙ no_entry 21);
}
  where
    first : Remembered
    first = noted nothing 20 (Own 5 6)

    second : Remembered
    second = noted first 20 (Own no_number 7)

    away : ◌≢◌ {A = ℕ} 21 20
    away e = absurd (omega arith)

    entry : entry_of three 20 ≡ record { uid = Some 5; gid = Some 7; bits = Some 384 }
    entry =
        own_entry second 20 (Mode 384)
        ∙ ap (λ e. over e (Mode 384)) (own_entry first 20 (Own no_number 7) ∙ ap (λ e. over e (Own no_number 7)) (own_entry nothing 20 (Own 5 6) ∙ ap (λ e. over e (Own 5 6)) (no_entry 20)))
