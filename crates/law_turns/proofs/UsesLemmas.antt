-- Calls that bring no place into use: what their changes make of places and of tags.
use Rattle.std.proofs.Common.{◌≡◌, ℕ, Bool, true, false, cond, List, [], ◌∷◌, Option, Some, None, refl, ap, ◌∙◌}
use Rattle.std.specs.Prelude.{◌&&◌}
use Rattle.std.specs.List.{list_all}
use Rattle.std.specs.Option.{option_map_or}
use Rattle.std.proofs.lemmas.Bool.{and_parts}
use Rattle.pt_results.specs.rv_mem.Actions.{carried_out}
use Rattle.pt_results.specs.rv_mem.Memory.{Memory}
use Rattle.pt_results.specs.pt_bind.Tags.{TagTable}
use Rattle.kr_core.specs.kr_tree.declared.place.Host.{Host}
use Rattle.kr_core.specs.kr_tree.declared.place.Host.TheVariants.{Node, Proc}
use Rattle.law_places.specs.kr_view.View.{Row}
use Rattle.pt_results.specs.kr_calls.declared.request.Request.{Request}
use Rattle.pt_results.specs.kr_calls.declared.request.Request.TheVariants as call
use Rattle.law_places.specs.kr_model.Applied.{Mounts, applied, images}
use Rattle.law_places.specs.kr_model.Change.{Change, ChangeDirectory, CopyDescriptor, End, Fork, MoveName, OpenFile, ReplaceExecutable}
use Rattle.law_places.specs.kr_model.Known.{Known}
use Rattle.law_places.specs.kr_model.NameRows.{is_one}
use Rattle.law_places.specs.kr_model.Operation.{operation}
use Rattle.law_places.specs.kr_model.Seen.{Entered, Moves, Seen, Taken, TakesCovered, Takes, TakesNoName}
use Rattle.law_places.specs.kr_model.State.{Image, State}
use Rattle.law_places.specs.kr_calm.Foreseen.{moved_away, prospect}
use Rattle.law_places.specs.kr_calm.Prospects.{answers_zero, move, move_made, renameat2_made}
use Rattle.law_places.proofs.kr_calm.ProspectLemmas.{foreseen_calls_make_it}
use Rattle.law_places.specs.Changes.{NewPlaceStands, NewPlacesStand}
use Rattle.law_turns.specs.Changing.{all_tags_made}
use Rattle.law_turns.specs.PathCalls.{HasPath}
use Rattle.law_turns.proofs.LineLemmas.{leave_places, leaves_places, others_leave_places}

-- a change that leaves places, or moves a name
abbrev pub leaves_uses : Change → Bool
leaves_uses (MoveName dir name to new) = true
leaves_uses c = leaves_places c

abbrev pub leave_uses : List Change → Bool
leave_uses cs = list_all leaves_uses cs

one_weaker : (c : Change) → leaves_places c ≡ true → leaves_uses c ≡ true
one_weaker (MoveName dir name to new) leaves = refl
one_weaker _ leaves = leaves

all_weaker : (cs : List Change) → leave_places cs ≡ true → leave_uses cs ≡ true
all_weaker [] leave = refl
all_weaker (c ∷ cs) leave = let parts = and_parts (leaves_places c) (leave_places cs) leave in ap (λ b. b && leave_uses cs) (one_weaker c parts.0) ∙ all_weaker cs parts.1

-- ---- a name that moves

move_leaves : (dir : Host) (name : List ℕ) (to : Host) (new : List ℕ) → leave_uses (move dir name to new) ≡ true
move_leaves (Node d) name (Node to) new = refl
move_leaves (Node d) name (Proc i at) new = refl
move_leaves (Proc i at) name to new = refl

made_leaves : (old new : Entered) (o : Option Host) → leave_uses (option_map_or (move_made old new) o []) ≡ true
made_leaves old new None = refl
made_leaves old new (Some found) = elim (is_one found new.found) as (λ b. leave_uses (cond b [] (move old.dir old.name new.dir new.name)) ≡ true) [ true ↦ refl | false ↦ move_leaves old.dir old.name new.dir new.name ]

taken_leaves : (old new : Taken) → leave_uses (renameat2_made old new) ≡ true
taken_leaves (TakesNoName last) new = refl
taken_leaves TakesCovered new = refl
taken_leaves (Takes old) (TakesNoName last) = refl
taken_leaves (Takes old) TakesCovered = refl
taken_leaves (Takes old) (Takes new) = made_leaves old new old.found

moved_leaves : (seen : Seen) → leave_uses (moved_away seen) ≡ true
moved_leaves (Moves old new same_mount) = taken_leaves old new
moved_leaves _ = refl

at_zero : (b : Bool) (made changes : List Change) → changes ≡ cond b made [] → leave_uses made ≡ true → leave_uses changes ≡ true
at_zero true made changes is pass = ap leave_uses is ∙ pass
at_zero false made changes is pass = ap leave_uses is

-- ---- the calls

abbrev pub brings : Request → Bool
brings (call.Openat dirfd path flags mode) = true
brings (call.Chdir path) = true
brings _ = false

pub uses_kept : (pid : ℕ) (seen : Seen) (k : Known) (memory : Memory) (r : Request) → HasPath r → brings r ≡ false → leave_uses (carried_out (operation pid r seen k) memory).reply.changes ≡ true
uses_kept pid seen k memory (call.Openat dirfd path flags mode) kind other = absurd cc
uses_kept pid seen k memory (call.Chdir path) kind other = absurd cc
uses_kept pid seen k memory (call.Renameat2 olddir old newdir new) kind other =
    let r = call.Renameat2 olddir old newdir new in
    at_zero (answers_zero (carried_out (operation pid r seen k) memory).reply.outcome) (prospect r seen k) (carried_out (operation pid r seen k) memory).reply.changes ((foreseen_calls_make_it pid r seen k refl).changes memory) (moved_leaves seen)
uses_kept pid seen k memory r kind other = all_weaker (carried_out (operation pid r seen k) memory).reply.changes (others_leave_places pid seen k memory r kind refl)

-- ---- what such changes bring, and what they make of tags

module _ (table : List Row) (mounts : Mounts ℕ) (pid : ℕ) where
  brings_none : (c : Change) (s : State ℕ Image) → leaves_uses c ≡ true → NewPlaceStands table mounts pid s c
  brings_none (OpenFile fd cloexec from o) s leaves = absurd cc
  brings_none (ChangeDirectory from host) s leaves = absurd cc
  brings_none (ReplaceExecutable from host dir name) s leaves = absurd cc
  brings_none _ s leaves = tt

  pub bring_none : (cs : List Change) (s : State ℕ Image) → leave_uses cs ≡ true → NewPlacesStand table mounts pid s cs
  bring_none [] s leave = tt
  bring_none (c ∷ cs) s leave = let parts = and_parts (leaves_uses c) (leave_uses cs) leave in (brings_none c s parts.0, bring_none cs (applied images mounts pid c s) parts.1)

  tags_of_one : (tags : TagTable) (c : Change) (s : State ℕ Image) → leaves_uses c ≡ true → all_tags_made table mounts pid s (c ∷ []) tags ≡ tags
  tags_of_one tags (OpenFile fd cloexec from o) s leaves = absurd cc
  tags_of_one tags (CopyDescriptor fd to cloexec) s leaves = absurd cc
  tags_of_one tags (ChangeDirectory from host) s leaves = absurd cc
  tags_of_one tags (Fork birth) s leaves = absurd cc
  tags_of_one tags (End status) s leaves = absurd cc
  tags_of_one tags (ReplaceExecutable from host dir name) s leaves = absurd cc
  tags_of_one tags _ s leaves = refl

  pub tags_kept : (tags : TagTable) (cs : List Change) (s : State ℕ Image) → leave_uses cs ≡ true → all_tags_made table mounts pid s cs tags ≡ tags
  tags_kept tags [] s leave = refl
  tags_kept tags (c ∷ cs) s leave =
      let parts = and_parts (leaves_uses c) (leave_uses cs) leave in
      ap (all_tags_made table mounts pid (applied images mounts pid c s) cs) (tags_of_one tags c s parts.0) ∙ tags_kept tags cs (applied images mounts pid c s) parts.1
