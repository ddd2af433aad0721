-- What a tracer's walk answers: the guest text to which a path comes, its host text and the index of its binding.
use Rattle.std.specs.Prelude.{ℕ, ◌≡◌, Bool, true, false, List, ◌∷◌, Result, Ok, Err, is_some}
use Rattle.std.specs.Option.{unwrap_or}
use Rattle.pt_bind.specs.pr_base.MountText.{MountText}
use Rattle.pt_bind.specs.pr_base.Paths.{text_of}
use Rattle.pt_bind.specs.pr_base.Peeks.{Peeked}
use Rattle.pt_bind.specs.pr_base.Texts.{Text}
use Rattle.pt_bind.specs.pr_base.WalkFrame.{Target, may_be_free}
use Rattle.pt_bind.specs.pr_base.declared.bind.Bound.{Bound}
use Rattle.pt_bind.specs.pr_base.declared.errno.Errno.{Errno}
use Rattle.pt_bind.specs.pr_base.declared.path.Last.{Last}
use Rattle.pt_bind.specs.pr_base.declared.path.Last.TheVariants as last
use Rattle.pt_bind.specs.pr_base.declared.path.WalkMode.{WalkMode}
use Rattle.pt_bind.specs.pr_base.declared.peeks.PeekFault.{PeekFault}
use Rattle.pt_bind.specs.pr_base.declared.peeks.PeekFault.TheVariants as peek_fault
use Rattle.pt_bind.specs.Binding.{host_of, index_of, rows_of}
use Rattle.pt_bind.specs.Tags.{TagTable}
use Rattle.pt_canon.specs.TextWalk.{TextSurroundings, text_walk}
use Rattle.pt_canon.specs.declared.canon.Canon.{Canon}
use Rattle.pt_canon.specs.declared.canon.WalkErr.{WalkErr}
use Rattle.pt_canon.specs.declared.canon.WalkErr.TheVariants as fault
use Rattle.pt_canon.specs.declared.ending.Ending.{Ending}

-- where the last component names an entry, what was found there, or the free name; else the directory
abbrev pub entry_text : Last → Target Text Text → Text
entry_text last.Name target = unwrap_or target.found (target.name ∷ target.dir)
entry_text last.Dot target = target.dir
entry_text last.DotDot target = target.dir
entry_text last.Root target = target.dir

abbrev pub found_entry : Last → Target Text Text → Bool
found_entry last.Name target = is_some target.found
found_entry last.Dot target = false
found_entry last.DotDot target = false
found_entry last.Root target = false

-- the first argument tells whether the last name may be free; else what was found counts, whatever it is
abbrev pub guest_text : Bool → Target Text Text → Text
guest_text true target = entry_text target.last target
guest_text false target = unwrap_or target.found target.dir

abbrev pub exists_there : Bool → Target Text Text → Bool
exists_there true target = found_entry target.last target
exists_there false target = true

-- where a walk in a mode ends
abbrev pub ending_of : WalkMode → Target Text Text → Ending
ending_of mode target = record {
  guest = guest_text (may_be_free mode) target;
  last = target.last;
  slash = target.slash;
  exists = exists_there (may_be_free mode) target;
}

-- the same with its host text and index
abbrev pub canon_at : List MountText → Ending → Canon
canon_at bindings ending = record {
  guest = text_of ending.guest;
  host = text_of (host_of bindings ending.guest);
  index = index_of bindings ending.guest;
  last = ending.last;
  slash = ending.slash;
  exists = ending.exists;
}

abbrev pub canon_result : List MountText → WalkMode → Result (Target Text Text) Errno → Result Canon Errno
canon_result bindings mode (Ok target) = Ok (canon_at bindings (ending_of mode target))
canon_result bindings mode (Err e) = Err e

abbrev pub canon_of : TextSurroundings → WalkMode → Text → List ℕ → Result Canon Errno
canon_of texts mode base path = canon_result texts.bindings mode (text_walk texts mode base path).answer

-- by the bindings of a table
abbrev pub texts_by : List Bound → Peeked → TagTable → TextSurroundings
texts_by bounds peeked tags = record { bindings = rows_of bounds; peeked = peeked; tags = tags }

-- why a peek wasn't answered, as a walk tells it
abbrev pub error_of : PeekFault → WalkErr
error_of (peek_fault.Err e) = fault.Err e
error_of peek_fault.NoMemory = fault.NoMemory

-- the answer is this one, but for want of memory
abbrev pub IsAnswer : {T : Type 0} → Result T Errno → Result T WalkErr → Type 0
IsAnswer answer (Ok x) = answer ≡ Ok x
IsAnswer answer (Err (fault.Err e)) = answer ≡ Err e
IsAnswer answer (Err fault.NoMemory) = Unit {0}

-- whether the process directory is unmet still is noted, but for want of memory
abbrev pub IsWalkNoted : {T : Type 0} → (after new : Bool) → Result T WalkErr → Type 0
IsWalkNoted after new (Ok x) = new ≡ after
IsWalkNoted after new (Err (fault.Err e)) = new ≡ after
IsWalkNoted after new (Err fault.NoMemory) = Unit {0}
