-- What a note changes.
use Rattle.std.proofs.Common.{◌≡◌, ◌≢◌, ℕ, refl}
use Rattle.pt_args.specs.pt_bind.Tags.{TagTable, tag_of}
use Rattle.pt_args.specs.pt_bind.declared.slot.Slot.{Slot}
use Rattle.pt_args.proofs.pt_bind.TagLemmas.{tags_change}
use Rattle.pt_args.specs.kr_calls.declared.request.Request.{Request}
use Rattle.pt_args.specs.kr_calls.declared.request.Request.TheVariants as call
use Rattle.std.specs.Prelude.{None}
use Rattle.pt_results.specs.Laws.{IsChangedBy, NotesChangeOneSlot}
use Rattle.pt_results.specs.Notes.{noted_of, tags_after}
use Rattle.pt_results.specs.declared.note.Note.{Note}
use Rattle.pt_results.specs.declared.note.Note.TheVariants.{Nothing, Sets, Copies}

without_number : (request : Request) (index : ℕ) → noted_of request index None ≡ Nothing
without_number (call.Openat dirfd path flags permissions) index = refl
without_number (call.Chdir path) index = refl
without_number (call.Execve path args env) index = refl
without_number (call.Fchdir fd) index = refl
without_number (call.Dup fd) index = refl
without_number (call.Dup3 old new flags) index = refl
without_number (call.Fcntl fd cmd arg) index = refl
without_number _ index = refl

other_slots : (tags : TagTable) (pid : ℕ) (note : Note) (slot : Slot) → (IsChangedBy note slot → ⊥) → tag_of (tags_after tags pid note) pid slot ≡ tag_of tags pid slot
other_slots tags pid Nothing slot away = refl
other_slots tags pid (Sets to index) slot away = tags_change.set_slots tags pid to index slot away
other_slots tags pid (Copies from to) slot away = tags_change.set_slots tags pid to (tag_of tags pid from) slot away

other_processes : (tags : TagTable) (pid : ℕ) (note : Note) (p : ℕ) (slot : Slot) → p ≢ pid → tag_of (tags_after tags pid note) p slot ≡ tag_of tags p slot
other_processes tags pid Nothing p slot away = refl
other_processes tags pid (Sets to index) p slot away = tags_change.set_others tags pid to index p slot away
other_processes tags pid (Copies from to) p slot away = tags_change.set_others tags pid to (tag_of tags pid from) p slot away

pub notes_change_one_slot : NotesChangeOneSlot
notes_change_one_slot = record {
  errors = λ request index n. without_number request index;
  set = λ tags pid index slot. tags_change.set tags pid slot index;
  copy = λ tags pid from to. tags_change.set tags pid to (tag_of tags pid from);
  slots = other_slots;
  others = other_processes;
}
