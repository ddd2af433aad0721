-- The host paths at which a text walk looks, and two kernels that tell the same of them.
use Rattle.std.specs.Prelude.{◌≡◌, ◌≢◌, ℕ, Bool, List, [], ◌∷◌, Result, Ok, Err, All}
use Rattle.std.specs.List.{list_all}
use Rattle.pt_bind.specs.pr_base.MountText.{MountText}
use Rattle.pt_bind.specs.pr_base.Paths.{Component, Dot, DotDot, Name, text_of}
use Rattle.pt_bind.specs.pr_base.Peeks.{Peeked}
use Rattle.pt_bind.specs.pr_base.Texts.{Text}
use Rattle.pt_bind.specs.pr_base.WalkFrame.{LookedAt, Trail}
use Rattle.pt_bind.specs.pr_base.declared.errno.Errno.{Errno}
use Rattle.pt_bind.specs.pr_base.declared.path.WalkMode.{WalkMode}
use Rattle.pt_bind.specs.pr_base.declared.peeks.PeekKind.{PeekKind}
use Rattle.pt_bind.specs.pr_base.declared.peeks.PeekKind.TheVariants as peek
use Rattle.pt_bind.specs.Binding.{host_of}
use Rattle.pt_bind.specs.Tags.{TagTable}
use Rattle.pt_canon.specs.TextWalk.{TextSurroundings, itself_in, text_walk}

-- ---- the host paths of a look

-- the name itself, if there is one
abbrev pub paths_named : List MountText → Text → Component → List (List ℕ)
paths_named bindings t Dot = []
paths_named bindings t DotDot = []
paths_named bindings t (Name name) = text_of (host_of bindings (name ∷ t)) ∷ []

-- where the directory may be searched
abbrev pub paths_searched : Result PeekKind Errno → List (List ℕ) → List (List ℕ)
paths_searched (Ok k) paths = paths
paths_searched (Err e) paths = []

-- and where it is one
abbrev pub paths_inside : Peeked → Text → Result PeekKind Errno → List (List ℕ) → List (List ℕ)
paths_inside peeked host (Ok peek.Dir) paths = itself_in host ∷ paths_searched (peeked.kind (itself_in host)) paths
paths_inside peeked host (Ok peek.File) paths = []
paths_inside peeked host (Ok peek.Link) paths = []
paths_inside peeked host (Ok peek.Jump) paths = []
paths_inside peeked host (Err e) paths = []

abbrev pub paths_in : Peeked → Text → List (List ℕ) → List (List ℕ)
paths_in peeked host paths = text_of host ∷ paths_inside peeked host (peeked.kind (text_of host)) paths

-- all at which a look peeks, in their order
abbrev pub paths_at : TextSurroundings → LookedAt Text → List (List ℕ)
paths_at texts l = paths_in texts.peeked (host_of texts.bindings l.place) (paths_named texts.bindings l.place l.component)

-- ---- of a walk

-- whether each host path at which it looks passes a test
abbrev pub are_all : (List ℕ → Bool) → TextSurroundings → Trail Text Text → Bool
are_all test texts trail = list_all (λ l. list_all test (paths_at texts l)) trail.looks

-- whether each is steady, so that no name is looked up in the process directory
abbrev pub is_steady_walk : TextSurroundings → WalkMode → Text → List ℕ → Bool
is_steady_walk texts mode base path = are_all texts.peeked.steady texts (text_walk texts mode base path)

-- ---- two kernels

-- both tell the same of a host path, at which no link of the process directory stands
pub record TellsTheSame (one two : Peeked) (path : List ℕ) : Type 0 where
  pub told : two.kind path ≡ one.kind path
  pub no_jump : one.kind path ≢ Ok peek.Jump
  pub link_text : two.link_text path ≡ one.link_text path

abbrev pub texts_of : List MountText → Peeked → TagTable → TextSurroundings
texts_of bindings peeked tags = record { bindings = bindings; peeked = peeked; tags = tags }

-- where both tell the same of each host path at which the one walk looks, the walks are one, whatever the tags
abbrev pub TextWalksAgree : Type 0
TextWalksAgree =
    (bindings : List MountText) (one two : Peeked) (tags more : TagTable) (mode : WalkMode) (base : Text) (path : List ℕ)
    → All (λ l. All (TellsTheSame one two) (paths_at (texts_of bindings one tags) l)) (text_walk (texts_of bindings one tags) mode base path).looks
    → text_walk (texts_of bindings two more) mode base path ≡ text_walk (texts_of bindings one tags) mode base path
