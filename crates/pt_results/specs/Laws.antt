-- Laws of answers and notes.
use Rattle.std.specs.Prelude.{◌≡◌, ◌≢◌, ℕ, negsuc, List, Some, None, Ok, Err}
use Rattle.pt_args.specs.pr_base.Paths.{IsPart, Name, text_of}
use Rattle.pt_args.specs.pr_base.Texts.{Text}
use Rattle.pt_args.specs.pr_base.WalkFrame.{Jumps, Landing}
use Rattle.pt_args.specs.pr_base.declared.errno.Errno.TheVariants.{ENOENT}
use Rattle.pt_args.specs.pr_base.declared.path.WalkMode.TheVariants as mode
use Rattle.pt_args.specs.pt_bind.Tags.{TagTable, tag_of}
use Rattle.pt_args.specs.pt_bind.declared.slot.Slot.{Slot}
use Rattle.pt_args.specs.pt_canon.Canon.{canon_of}
use Rattle.pt_args.specs.pt_canon.TextWalk.{TextSurroundings, look_text}
use Rattle.pt_args.specs.pt_canon.declared.canon.Canon.{Canon}
use Rattle.pt_args.specs.kr_calls.declared.request.Request.{Request}
use Rattle.pt_results.specs.Notes.{noted, tags_after}
use Rattle.pt_results.specs.declared.note.Note.{Note}
use Rattle.pt_results.specs.declared.note.Note.TheVariants.{Nothing, Sets, Copies}

-- ---- notes

-- the slot that a note changes
abbrev pub IsChangedBy : Note → Slot → Type 0
IsChangedBy Nothing slot = ⊥
IsChangedBy (Sets to index) slot = slot ≡ to
IsChangedBy (Copies from to) slot = slot ≡ to

pub record NotesChangeOneSlot : Type 0 where
  -- an error is no reason to note anything
  pub errors : (request : Request) (index n : ℕ) → noted request index (negsuc n) ≡ Nothing
  pub set : (tags : TagTable) (pid index : ℕ) (slot : Slot) → tag_of (tags_after tags pid (Sets slot index)) pid slot ≡ index
  pub copy : (tags : TagTable) (pid : ℕ) (from to : Slot) → tag_of (tags_after tags pid (Copies from to)) pid to ≡ tag_of tags pid from
  -- all other slots stay, and those of all other processes
  pub slots : (tags : TagTable) (pid : ℕ) (note : Note) (slot : Slot) → (IsChangedBy note slot → ⊥) → tag_of (tags_after tags pid note) pid slot ≡ tag_of tags pid slot
  pub others : (tags : TagTable) (pid : ℕ) (note : Note) (p : ℕ) (slot : Slot) → p ≢ pid → tag_of (tags_after tags pid note) p slot ≡ tag_of tags p slot

-- ---- links

-- a link of the process directory leads, from its directory, to the guest text of its object by the object's tag
pub record LinksLead (texts : TextSurroundings) (dir : Text) (name : List ℕ) (link : Text) : Type 0 where
  pub somewhere : (l : Landing Text Text) → look_text texts dir (Name name) ≡ Jumps link (Some l) → (c : Canon) × (canon_of texts mode.Look dir name ≡ Ok c) × (c.guest ≡ text_of l.found)
  pub nowhere : look_text texts dir (Name name) ≡ Jumps link None → canon_of texts mode.Look dir name ≡ Err ENOENT

abbrev pub LinksLeadByTags : Type 0
LinksLeadByTags = (texts : TextSurroundings) (dir : Text) (name : List ℕ) (link : Text) → IsPart name → LinksLead texts dir name link
