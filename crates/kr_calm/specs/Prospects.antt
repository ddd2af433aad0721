-- What calls change of names and modes where they answer 0: by what they are told of their paths, before they are carried out.
use Rattle.std.specs.Prelude.{◌≡◌, ℕ, ◌%◌, ◌==◌, Bool, false, List, [], ◌∷◌, pos, negsuc, if◌then◌else◌}
use Rattle.std.specs.Option.{option_map_or}
use Rattle.kr_seen.specs.rv_mem.Actions.{carried_out}
use Rattle.kr_seen.specs.rv_mem.Memory.{Memory}
use Rattle.kr_seen.specs.kr_tree.declared.place.Host.{Host}
use Rattle.kr_seen.specs.kr_tree.declared.place.Host.TheVariants.{Node, Proc}
use Rattle.kr_seen.specs.kr_model.AttributeRows.{chmod_host}
use Rattle.kr_seen.specs.kr_model.Change.{Change, MoveName, RemoveName, SetMode}
use Rattle.kr_seen.specs.kr_model.Known.{Known}
use Rattle.kr_seen.specs.kr_model.NameRows.{is_one, renameat2_row, unlinkat_row}
use Rattle.kr_seen.specs.kr_model.Reply.{Replying}
use Rattle.kr_seen.specs.kr_model.Seen.{Entered, Taken, TakesNoName, TakesCovered, Takes}
use Rattle.kr_seen.specs.kr_model.declared.outcome.Outcome.{Outcome}
use Rattle.kr_seen.specs.kr_model.declared.outcome.Outcome.TheVariants.{Answer, Wait, Ended, NoMemory}

abbrev pub answers_zero : Outcome → Bool
answers_zero (Answer (pos n)) = n == 0
answers_zero (Answer (negsuc n)) = false
answers_zero Wait = false
answers_zero Ended = false
answers_zero NoMemory = false

-- a row changes this where it answers 0, and else nothing
pub record MakesAtZero (made : List Change) (row : Replying) : Type 0 where
  pub changes : (m : Memory) → (carried_out row m).reply.changes ≡ (if answers_zero (carried_out row m).reply.outcome then made else [])

-- ---- unlinkat

abbrev pub removal : Host → List ℕ → List Change
removal (Node d) name = RemoveName d name ∷ []
removal (Proc i at) name = []

abbrev pub unlinkat_made : Taken → List Change
unlinkat_made (TakesNoName last) = []
unlinkat_made TakesCovered = []
unlinkat_made (Takes e) = removal e.dir e.name

-- ---- renameat2

abbrev pub move : Host → List ℕ → Host → List ℕ → List Change
move (Node d) name (Node to) new = MoveName d name to new ∷ []
move _ name _ new = []

-- two names of one object are left as they are
abbrev pub move_made : Entered → Entered → Host → List Change
move_made old new found = if is_one found new.found then [] else move old.dir old.name new.dir new.name

abbrev pub renameat2_made : Taken → Taken → List Change
renameat2_made (Takes old) (Takes new) = option_map_or (move_made old new) old.found []
renameat2_made _ _ = []

-- ---- chmod

abbrev pub mode_set : Host → ℕ → List Change
mode_set (Node i) mode = SetMode i (mode % 4096) ∷ []
mode_set (Proc i at) mode = []

-- ---- the law

pub record RowsMakeAtZero : Type 0 where
  pub unlinkat : (k : Known) (taken : Taken) (flags : ℕ) → MakesAtZero (unlinkat_made taken) (unlinkat_row k taken flags)
  pub renameat2 : (k : Known) (old new : Taken) (same_mount : Bool) → MakesAtZero (renameat2_made old new) (renameat2_row k old new same_mount)
  pub chmod : (k : Known) (mode : ℕ) (host : Host) → MakesAtZero (mode_set host mode) (chmod_host k mode host)
