-- The walk of a tracer: the rules of a walk, over looking at guest texts by peeks.
use Rattle.std.specs.Prelude.{ℕ, Bool, true, false, List, [], ◌∷◌, ◌++◌, Result, Ok, Err, if◌then◌else◌}
use Rattle.pt_bind.specs.pr_base.MountText.{MountText}
pub use Rattle.pt_bind.specs.pr_base.Paths.{itself_in}
use Rattle.pt_bind.specs.pr_base.Paths.{Component, Dot, DotDot, Name, text_of}
use Rattle.pt_bind.specs.pr_base.Peeks.{Peeked}
use Rattle.pt_bind.specs.pr_base.Texts.{Text}
use Rattle.pt_bind.specs.pr_base.WalkFrame.{Seen, Fails, Missing, Leads, Links, Jumps, Looking, Trail, walk}
use Rattle.pt_bind.specs.pr_base.declared.errno.Errno.{Errno}
use Rattle.pt_bind.specs.pr_base.declared.errno.Errno.TheVariants.{ENOENT, ENOTDIR}
use Rattle.pt_bind.specs.pr_base.declared.path.WalkMode.{WalkMode}
use Rattle.pt_bind.specs.pr_base.declared.peeks.PeekKind.{PeekKind}
use Rattle.pt_bind.specs.pr_base.declared.peeks.PeekKind.TheVariants as kind
use Rattle.pt_bind.specs.Binding.{host_of}
use Rattle.pt_bind.specs.Tags.{TagTable}
use Rattle.pt_canon.specs.ProcessLinks.{above, jump_at}

abbrev pub SeenText : Type 0
SeenText = Seen Text Text

-- what a walk over texts goes by: the rows of the bindings, what the kernel tells, and the tags of processes
pub record TextSurroundings : Type 0 where
  pub bindings : List MountText
  pub peeked : Peeked
  pub tags : TagTable

abbrev pub is_missing : Errno → Bool
is_missing ENOENT = true
is_missing _ = false

-- ---- what stands at a text, by its host text

abbrev pub seen_error : Errno → SeenText
seen_error e = if is_missing e then Missing else Fails e

abbrev pub seen_link : Text → Result (List ℕ) Errno → SeenText
seen_link t (Ok text) = Links t text
seen_link t (Err e) = Fails e

abbrev pub seen_kind : TextSurroundings → Text → Text → Result PeekKind Errno → SeenText
seen_kind texts t host (Ok kind.Dir) = Leads true t t
seen_kind texts t host (Ok kind.File) = Leads false t t
seen_kind texts t host (Ok kind.Link) = seen_link t (texts.peeked.link_text (text_of host))
seen_kind texts t host (Ok kind.Jump) = Jumps t (jump_at texts.bindings texts.peeked texts.tags host)
seen_kind texts t host (Err e) = seen_error e

unfoldable pub seen_text : TextSurroundings → Text → SeenText
seen_text texts t = seen_kind texts t (host_of texts.bindings t) (texts.peeked.kind (text_of (host_of texts.bindings t)))

-- ---- one component

-- in a directory that may be searched
abbrev pub inside_text : TextSurroundings → Text → Component → SeenText
inside_text texts t Dot = Leads true t t
inside_text texts t DotDot = Leads true (above t) (above t)
inside_text texts t (Name name) = seen_text texts (name ∷ t)

-- a last link isn't followed, so it is no directory
abbrev pub in_directory : Result PeekKind Errno → SeenText → SeenText
in_directory (Ok kind.Dir) seen = seen
in_directory (Ok kind.File) seen = Fails ENOTDIR
in_directory (Ok kind.Link) seen = Fails ENOTDIR
in_directory (Ok kind.Jump) seen = Fails ENOTDIR
in_directory (Err e) seen = Fails e

abbrev pub where_found : Result PeekKind Errno → SeenText → SeenText
where_found (Ok kind) seen = seen
where_found (Err e) seen = Fails e

-- the host text must be that of a directory that may be searched
abbrev pub in_host : Peeked → Text → SeenText → SeenText
in_host peeked host seen = in_directory (peeked.kind (text_of host)) (where_found (peeked.kind (itself_in host)) seen)

unfoldable pub look_text : TextSurroundings → Text → Component → SeenText
look_text texts t c = in_host texts.peeked (host_of texts.bindings t) (inside_text texts t c)

-- ---- the walk

abbrev pub looking_texts : TextSurroundings → Looking Text Text
looking_texts texts = record { root = []; here = λ t. t; look = look_text texts }

abbrev pub text_walk : TextSurroundings → WalkMode → Text → List ℕ → Trail Text Text
text_walk texts mode base path = walk (looking_texts texts) mode base path
