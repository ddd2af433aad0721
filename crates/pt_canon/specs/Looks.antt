-- What the steps of a look answer, over the definition of the look. No public clause cites this module.
use Rattle.std.specs.Prelude.{◌≡◌, true, false, Option, Result, Ok, Err}
use Rattle.std.specs.Option.{option_map}
use Rattle.pt_bind.specs.pr_base.Paths.{Component}
use Rattle.pt_bind.specs.pr_base.Peeks.{Peeked}
use Rattle.pt_bind.specs.pr_base.Texts.{Text}
use Rattle.pt_bind.specs.pr_base.WalkFrame.{Fails, Missing, Leads, Links, Jumps, Landing}
use Rattle.pt_bind.specs.pr_base.declared.errno.Errno.{Errno}
use Rattle.pt_bind.specs.pr_base.declared.peeks.PeekKind.{PeekKind}
use Rattle.pt_bind.specs.pr_base.declared.peeks.PeekKind.TheVariants as kind
use Rattle.pt_bind.specs.Binding.{host_of}
use Rattle.pt_canon.specs.Canon.{texts_by}
use Rattle.pt_canon.specs.Laws.{host_bytes, MayLook}
use Rattle.pt_canon.specs.ProcessLinks.{jump_at}
use Rattle.pt_canon.specs.TextWalk.{TextSurroundings, SeenText, in_directory, look_text}
use Rattle.pt_canon.specs.declared.canon.WalkErr.{WalkErr}
use Rattle.pt_canon.specs.declared.canon.WalkErr.TheVariants as fault
use Rattle.pt_canon.specs.declared.sight.Known.{Known}
use Rattle.pt_canon.specs.declared.sight.Known.TheVariants as known
use Rattle.pt_canon.specs.declared.sight.Sight.{Sight}
use Rattle.pt_canon.specs.declared.sight.Sight.TheVariants as sight
use Rattle.pt_canon.specs.declared.translation.Translation.{Translation}

-- what a walk goes by, in the code's hands
abbrev pub texts_in : Translation → Peeked → TextSurroundings
texts_in translation peeked = texts_by translation.table.now peeked translation.tags.now

-- where a link of the process directory leads
abbrev pub led : Option (Landing Text Text) → Option Text
led landing = option_map (λ l. l.place) landing

-- ---- peeks at a directory

-- by the peek at it: nothing is looked up in anything else
abbrev pub IsDirectoryTold : Result PeekKind Errno → Result (Unit {0}) WalkErr → Type 0
IsDirectoryTold told (Ok x) = told ≡ Ok kind.Dir
IsDirectoryTold told (Err (fault.Err e)) = (seen : SeenText) → in_directory told seen ≡ Fails e
IsDirectoryTold told (Err fault.NoMemory) = Unit {0}

-- by the peek at itself in it
abbrev pub IsItselfTold : Result PeekKind Errno → Result (Unit {0}) WalkErr → Type 0
IsItselfTold told (Ok x) = (k : PeekKind) × (told ≡ Ok k)
IsItselfTold told (Err (fault.Err e)) = told ≡ Err e
IsItselfTold told (Err fault.NoMemory) = Unit {0}

-- what was found before
abbrev pub IsKnown : TextSurroundings → Text → Known → Type 0
IsKnown texts t known.Nothing = Unit {0}
IsKnown texts t known.Directory = texts.peeked.kind (host_bytes texts t) ≡ Ok kind.Dir
IsKnown texts t known.Open = MayLook texts t

-- the directory of a text may be looked into, or whatever stands in it can't be looked up
abbrev pub IsEntered : TextSurroundings → Text → Result (Unit {0}) WalkErr → Type 0
IsEntered texts t (Ok x) = MayLook texts t
IsEntered texts t (Err (fault.Err e)) = (c : Component) → look_text texts t c ≡ Fails e
IsEntered texts t (Err fault.NoMemory) = Unit {0}

-- ---- what stands at a text

abbrev pub sight_seen : TextSurroundings → Text → Sight → SeenText
sight_seen texts t sight.Missing = Missing
sight_seen texts t sight.Directory = Leads true t t
sight_seen texts t sight.File = Leads false t t
sight_seen texts t (sight.Links text) = Links t text
sight_seen texts t sight.Jumps = Jumps t (jump_at texts.bindings texts.peeked texts.tags (host_of texts.bindings t))

abbrev pub IsSeen : TextSurroundings → Text → SeenText → Result Sight WalkErr → Type 0
IsSeen texts t seen (Ok s) = seen ≡ sight_seen texts t s
IsSeen texts t seen (Err (fault.Err e)) = seen ≡ Fails e
IsSeen texts t seen (Err fault.NoMemory) = Unit {0}
