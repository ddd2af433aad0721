-- Tags after a change.
use Rattle.std.specs.FinMap as map
use Rattle.std.proofs.Common.{◌≡◌, ◌≢◌, ℕ, Option, Some, None, refl, ap, sym, ◌∙◌}
use Rattle.std.specs.Prelude.{IfOk, OnErr, Result, Ok, Err}
use Rattle.std.specs.Option.{unwrap_or}
use Rattle.std.specs.Ordering.{nat_cmp}
use Rattle.pr_base.proofs.MapLemmas.{same_values, by_key, get-insert_same, get-insert_other, get-remove_same, get-remove_other}
use Rattle.pt_bind.specs.declared.slot.Slot.{Slot}
use Rattle.pt_bind.specs.declared.slot.Slot.TheVariants.{Cwd, Exe, Fd}
use Rattle.pt_bind.specs.Tags.{Tagged, untagged, tag_at, with_slot, tags_of, with_tag, TagTable, TagsChange}

-- what is there put once more
pub same_insert : {X : Type 0} (m : map.FinMap nat_cmp X) (k : ℕ) (x : X) → map.get m k ≡ Some x → map.insert m k x ≡ m
same_insert m k x e =
    same_values (map.insert m k x) m (by_key (λ q. map.get (map.insert m k x) q ≡ map.get m q) k (get-insert_same m k x ∙ sym e) (λ q away. get-insert_other m k x q away))

-- what is put over another
insert_over : {X : Type 0} (m : map.FinMap nat_cmp X) (k : ℕ) (x y : X) → map.insert (map.insert m k x) k y ≡ map.insert m k y
insert_over m k x y =
    same_values (map.insert (map.insert m k x) k y) (map.insert m k y)
    (by_key (λ q. map.get (map.insert (map.insert m k x) k y) q ≡ map.get (map.insert m k y) q) k (get-insert_same (map.insert m k x) k y ∙ sym (get-insert_same m k y))
    (λ q away. get-insert_other (map.insert m k x) k y q away ∙ get-insert_other m k x q away ∙ sym (get-insert_other m k y q away)))

-- two tags of a process are set at once
pub two_tags : (tags : TagTable) (pid cwd exe : ℕ) → with_tag (with_tag tags pid Cwd cwd) pid Exe exe ≡ map.insert tags pid (with_slot (with_slot (tags_of tags pid) Cwd cwd) Exe exe)
two_tags tags pid cwd exe =
    let own = with_slot (tags_of tags pid) Cwd cwd in
    ap (λ o. map.insert (map.insert tags pid own) pid (with_slot (unwrap_or o untagged) Exe exe)) (get-insert_same tags pid own)
    ∙ insert_over tags pid own (with_slot own Exe exe)

-- a clause of an answer and what follows from it
pub if_ok : {X E : Type 0} (r : Result X E) (P Q : X → Type 0) → ((x : X) → P x → Q x) → IfOk r P → IfOk r Q
if_ok (Ok x) P Q go h = go x h
if_ok (Err e) P Q go h = tt

pub if_err : {X E : Type 0} (r : Result X E) (P Q : Type 0) → (P → Q) → OnErr r P → OnErr r Q
if_err (Ok x) P Q go h = tt
if_err (Err e) P Q go h = go h

own_tag : (t : Tagged) (slot : Slot) (tag : ℕ) → tag_at (with_slot t slot tag) slot ≡ tag
own_tag t Cwd tag = refl
own_tag t Exe tag = refl
own_tag t (Fd fd) tag = ap (λ o. unwrap_or o 0) (get-insert_same t.fds fd tag)

other_tag : (t : Tagged) (slot : Slot) (tag : ℕ) (other : Slot) → other ≢ slot → tag_at (with_slot t slot tag) other ≡ tag_at t other
other_tag t Cwd tag Cwd away = absurd (away refl)
other_tag t Cwd tag Exe away = refl
other_tag t Cwd tag (Fd k) away = refl
other_tag t Exe tag Cwd away = refl
other_tag t Exe tag Exe away = absurd (away refl)
other_tag t Exe tag (Fd k) away = refl
other_tag t (Fd fd) tag Cwd away = refl
other_tag t (Fd fd) tag Exe away = refl
other_tag t (Fd fd) tag (Fd k) away = ap (λ o. unwrap_or o 0) (get-insert_other t.fds fd tag k (λ e. away (ap Fd e)))

pub no_tag : (slot : Slot) → tag_at untagged slot ≡ 0
no_tag Cwd = refl
no_tag Exe = refl
no_tag (Fd fd) = ap (λ o. unwrap_or o 0) (map.get-empty nat_cmp fd)

pub tags_at : (o : Option Tagged) (p : Option Tagged) (slot : Slot) → o ≡ p → tag_at (unwrap_or o untagged) slot ≡ tag_at (unwrap_or p untagged) slot
tags_at o p slot e = ap (λ x. tag_at (unwrap_or x untagged) slot) e

pub tags_change : TagsChange
tags_change = record {
  first = λ pid slot. tags_at _ None slot (map.get-empty nat_cmp pid) ∙ no_tag slot;
  set = λ tags pid slot tag. tags_at _ (Some (with_slot (tags_of tags pid) slot tag)) slot (get-insert_same tags pid (with_slot (tags_of tags pid) slot tag)) ∙ own_tag (tags_of tags pid) slot tag;
  set_slots = λ tags pid slot tag other away. tags_at _ (Some (with_slot (tags_of tags pid) slot tag)) other (get-insert_same tags pid (with_slot (tags_of tags pid) slot tag)) ∙ other_tag (tags_of tags pid) slot tag other away;
  set_others = λ tags pid slot tag p other away. tags_at _ (map.get tags p) other (get-insert_other tags pid (with_slot (tags_of tags pid) slot tag) p away);
  fork = λ tags from to slot. tags_at _ (Some (tags_of tags from)) slot (get-insert_same tags to (tags_of tags from));
  fork_others = λ tags from to p slot away. tags_at _ (map.get tags p) slot (get-insert_other tags to (tags_of tags from) p away);
  drop = λ tags pid slot. tags_at _ None slot (get-remove_same tags pid) ∙ no_tag slot;
  drop_others = λ tags pid p slot away. tags_at _ (map.get tags p) slot (get-remove_other tags pid p away);
}
