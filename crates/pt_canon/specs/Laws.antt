-- Laws of looks and walks over guest texts.
use Rattle.std.specs.Prelude.{◌≡◌, ◌≢◌, true, false, List, ℕ, [], ◌∷◌, Ok, Err}
use Rattle.pt_bind.specs.pr_base.Paths.{AreParts, Component, Dot, DotDot, Name, text_of}
use Rattle.pt_bind.specs.pr_base.Texts.{Text}
use Rattle.pt_bind.specs.pr_base.WalkFrame.{Fails, Leads, Links, Jumps, Missing}
use Rattle.pt_bind.specs.pr_base.declared.errno.Errno.{Errno}
use Rattle.pt_bind.specs.pr_base.declared.errno.Errno.TheVariants.{ENOENT, ENOTDIR}
use Rattle.pt_bind.specs.pr_base.declared.path.WalkMode.{WalkMode}
use Rattle.pt_bind.specs.pr_base.declared.peeks.PeekKind.{PeekKind}
use Rattle.pt_bind.specs.pr_base.declared.peeks.PeekKind.TheVariants as kind
use Rattle.pt_bind.specs.Binding.{host_of, index_of}
use Rattle.pt_canon.specs.Canon.{canon_of}
use Rattle.pt_canon.specs.ProcessLinks.{above, jump_at}
use Rattle.pt_canon.specs.TextWalk.{TextSurroundings, itself_in, look_text}
use Rattle.pt_canon.specs.declared.canon.Canon.{Canon}

abbrev pub host_bytes : TextSurroundings → Text → List ℕ
host_bytes texts t = text_of (host_of texts.bindings t)

-- ---- every case of a look

-- the host text of a text is that of a directory which may be searched
pub record MayLook (texts : TextSurroundings) (t : Text) : Type 0 where
  pub dir : texts.peeked.kind (host_bytes texts t) ≡ Ok kind.Dir
  pub itself : PeekKind
  pub searched : texts.peeked.kind (itself_in (host_of texts.bindings t)) ≡ Ok itself

pub record TextLooks (texts : TextSurroundings) (t : Text) : Type 0 where
  -- where no directory is or none that may be searched nothing is looked up
  pub lost : (c : Component) (e : Errno) → texts.peeked.kind (host_bytes texts t) ≡ Err e → look_text texts t c ≡ Fails e
  pub beside : (c : Component) (k : PeekKind) → texts.peeked.kind (host_bytes texts t) ≡ Ok k → k ≢ kind.Dir → look_text texts t c ≡ Fails ENOTDIR
  pub closed : (c : Component) (e : Errno) → texts.peeked.kind (host_bytes texts t) ≡ Ok kind.Dir → texts.peeked.kind (itself_in (host_of texts.bindings t)) ≡ Err e → look_text texts t c ≡ Fails e
  -- the directory itself, and the text above it, whatever mount stands between
  pub dot : MayLook texts t → look_text texts t Dot ≡ Leads true t t
  pub dot_dot : MayLook texts t → look_text texts t DotDot ≡ Leads true (above t) (above t)
  -- a name is looked at under the host text of its own text
  pub directory : (name : List ℕ) → MayLook texts t → texts.peeked.kind (host_bytes texts (name ∷ t)) ≡ Ok kind.Dir → look_text texts t (Name name) ≡ Leads true (name ∷ t) (name ∷ t)
  pub file : (name : List ℕ) → MayLook texts t → texts.peeked.kind (host_bytes texts (name ∷ t)) ≡ Ok kind.File → look_text texts t (Name name) ≡ Leads false (name ∷ t) (name ∷ t)
  pub link : (name text : List ℕ) → MayLook texts t → texts.peeked.kind (host_bytes texts (name ∷ t)) ≡ Ok kind.Link → texts.peeked.link_text (host_bytes texts (name ∷ t)) ≡ Ok text → look_text texts t (Name name) ≡ Links (name ∷ t) text
  pub no_text : (name : List ℕ) (e : Errno) → MayLook texts t → texts.peeked.kind (host_bytes texts (name ∷ t)) ≡ Ok kind.Link → texts.peeked.link_text (host_bytes texts (name ∷ t)) ≡ Err e → look_text texts t (Name name) ≡ Fails e
  pub jump : (name : List ℕ) → MayLook texts t → texts.peeked.kind (host_bytes texts (name ∷ t)) ≡ Ok kind.Jump → look_text texts t (Name name) ≡ Jumps (name ∷ t) (jump_at texts.bindings texts.peeked texts.tags (host_of texts.bindings (name ∷ t)))
  pub missing : (name : List ℕ) → MayLook texts t → texts.peeked.kind (host_bytes texts (name ∷ t)) ≡ Err ENOENT → look_text texts t (Name name) ≡ Missing
  pub fails : (name : List ℕ) (e : Errno) → MayLook texts t → texts.peeked.kind (host_bytes texts (name ∷ t)) ≡ Err e → e ≢ ENOENT → look_text texts t (Name name) ≡ Fails e

abbrev pub TextsAreLookedAt : Type 0
TextsAreLookedAt = (texts : TextSurroundings) (t : Text) → TextLooks texts t

-- ---- a walk along a text

-- each name of a text shows what is no link
abbrev pub IsPlain : TextSurroundings → Text → Type 0
IsPlain texts [] = Unit {0}
IsPlain texts (name ∷ t) = IsPlain texts t × ((is_dir : _) × (look_text texts t (Name name) ≡ Leads is_dir (name ∷ t) (name ∷ t)))

-- then the walk along the text comes to it, in every mode
abbrev pub TextsLeadToThemselves : Type 0
TextsLeadToThemselves =
    (texts : TextSurroundings) (mode : WalkMode) (base t : Text) → AreParts t → IsPlain texts t → (c : Canon) × (canon_of texts mode base (text_of t) ≡ Ok c) × (c.guest ≡ text_of t)

-- ---- answers

-- the host text and the index of an answer are those of its guest text
abbrev pub AnswersAreOfTheirTexts : Type 0
AnswersAreOfTheirTexts =
    (texts : TextSurroundings) (mode : WalkMode) (base : Text) (path : List ℕ) (c : Canon) → canon_of texts mode base path ≡ Ok c
    → (t : Text) × (c.guest ≡ text_of t) × (c.host ≡ text_of (host_of texts.bindings t)) × (c.index ≡ index_of texts.bindings t)
