-- The tags that follow changes: what is made gets the index of its mount, and a copy the tag of its original.
use Rattle.std.specs.Prelude.{ℕ, List, IsSome}
use Rattle.std.specs.Option.{option_map_or}
use Rattle.law_walks.specs.pt_bind.Tags.{TagTable, dropped, forked, tag_of, with_tag}
use Rattle.law_walks.specs.pt_bind.declared.slot.Slot.{Slot}
use Rattle.law_walks.specs.pt_bind.declared.slot.Slot.TheVariants.{Cwd, Exe, Fd}
use Rattle.law_walks.specs.kr_view.View.{Row}
use Rattle.law_walks.specs.kr_model.Applied.{Mounts, applied, images, mount_of}
use Rattle.law_walks.specs.kr_model.Change.{Change, ChangeDirectory, CopyDescriptor, End, Fork, MountOf, OpenFile, ReplaceExecutable}
use Rattle.law_walks.specs.kr_model.Conditions.{CanBeMade}
use Rattle.law_walks.specs.kr_model.Lawful.{IsLawful}
use Rattle.law_walks.specs.kr_model.State.{Image, State, process}
use Rattle.law_places.specs.Matching.{AreTagged, index_at}

-- a slot with the index of the mount that is taken, if one is
abbrev pub with_mount : List Row → Mounts ℕ → ℕ → State ℕ Image → MountOf → Slot → TagTable → TagTable
with_mount table mounts pid s from slot tags = option_map_or (λ m. with_tag tags pid slot (index_at table m)) (mount_of mounts pid s from) tags

abbrev pub tags_made : List Row → Mounts ℕ → ℕ → State ℕ Image → Change → TagTable → TagTable
tags_made table mounts pid s (OpenFile fd cloexec from o) tags = with_mount table mounts pid s from (Fd fd) tags
tags_made table mounts pid s (CopyDescriptor fd to cloexec) tags = with_tag tags pid (Fd to) (tag_of tags pid (Fd fd))
tags_made table mounts pid s (ChangeDirectory from host) tags = with_mount table mounts pid s from Cwd tags
tags_made table mounts pid s (ReplaceExecutable from host dir name) tags = with_mount table mounts pid s from Exe tags
tags_made table mounts pid s (Fork b) tags = forked tags pid b.pid
tags_made table mounts pid s (End status) tags = dropped tags pid
tags_made table mounts pid s _ tags = tags

-- each slot's tag is the index of its mount after a change, if it was before it
abbrev pub TagsFollow : Type 0
TagsFollow =
    (table : List Row) (mounts : Mounts ℕ) (pid : ℕ) (c : Change) (s : State ℕ Image) (tags : TagTable) → IsLawful (λ m. m) table s → IsSome (process pid s) → CanBeMade (λ m. m) table mounts pid s c → AreTagged table s tags
    → AreTagged table (applied images mounts pid c s) (tags_made table mounts pid s c tags)
