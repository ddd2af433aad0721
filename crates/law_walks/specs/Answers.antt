-- What a tracer's walker answers, by where the walk over guest texts ends.
use Rattle.std.specs.Prelude.{◌≡◌, ◌≢◌, Bool, true, false, ℕ, List, ◌∷◌, Some, Ok, is_some}
use Rattle.pt_canon.specs.pr_base.MountText.{MountText}
use Rattle.pt_canon.specs.pr_base.Paths.{text_of}
use Rattle.pt_canon.specs.pr_base.Texts.{Text}
use Rattle.pt_canon.specs.pr_base.WalkFrame.{Target, may_be_free}
use Rattle.pt_canon.specs.pr_base.declared.path.Last.TheVariants as last
use Rattle.pt_canon.specs.pr_base.declared.path.WalkMode.{WalkMode}
use Rattle.pt_canon.specs.pt_bind.Binding.{host_of, index_of}
use Rattle.pt_canon.specs.Canon.{canon_of}
use Rattle.pt_canon.specs.TextWalk.{TextSurroundings, text_walk}
use Rattle.pt_canon.specs.declared.canon.Canon.{Canon}

-- an answer of a guest text, with the ending of a target
abbrev pub canon_told : List MountText → Text → Target Text Text → Bool → Canon
canon_told bindings guest b exists = record {
  guest = text_of guest;
  host = text_of (host_of bindings guest);
  index = index_of bindings guest;
  last = b.last;
  slash = b.slash;
  exists = exists;
}

pub record AnswersTarget (texts : TextSurroundings) (mode : WalkMode) (base : Text) (path : List ℕ) (b : Target Text Text) : Type 0 where
  -- what was found, where it must be there, and where a process link led
  pub looked : (u : Text) → may_be_free mode ≡ false → b.found ≡ Some u → canon_of texts mode base path ≡ Ok (canon_told texts.bindings u b true)
  pub landed : (u : Text) → may_be_free mode ≡ true → b.jumped ≡ true → b.found ≡ Some u → canon_of texts mode base path ≡ Ok (canon_told texts.bindings u b true)
  -- a name in its directory, there or free
  pub named : may_be_free mode ≡ true → b.jumped ≡ false → b.last ≡ last.Name → canon_of texts mode base path ≡ Ok (canon_told texts.bindings (b.name ∷ b.dir) b (is_some b.found))
  -- and else the directory
  pub other : may_be_free mode ≡ true → b.last ≢ last.Name → canon_of texts mode base path ≡ Ok (canon_told texts.bindings b.dir b false)

abbrev pub AnswersTellTargets : Type 0
AnswersTellTargets = (texts : TextSurroundings) (mode : WalkMode) (base : Text) (path : List ℕ) (b : Target Text Text) → (text_walk texts mode base path).answer ≡ Ok b → AnswersTarget texts mode base path b
