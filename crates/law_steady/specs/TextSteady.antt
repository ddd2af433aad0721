-- Text walks that look at steady host paths alone.
use Rattle.std.specs.Prelude.{◌≡◌, ℕ, Bool, true, List}
use Rattle.pt_canon.specs.pr_base.MountText.{MountText}
use Rattle.pt_canon.specs.pr_base.Texts.{Text}
use Rattle.pt_canon.specs.pr_base.declared.path.WalkMode.{WalkMode}
use Rattle.pt_canon.specs.pt_bind.Tags.{TagTable}
use Rattle.pt_canon.specs.Canon.{canon_of}
use Rattle.pt_canon.specs.LookedPaths.{is_steady_walk, texts_of}
use Rattle.pt_canon.specs.TextWalk.{TextSurroundings, text_walk}
use Rattle.law_lawful.specs.kr_model.Peeks.{peeked_of}
use Rattle.law_lawful.specs.kr_model.State.{State}
use Rattle.law_steady.specs.Steady.{HaveOneShape}

-- what a tracer walks by, over what the kernel tells of a state in a caller's name
abbrev pub texts_over : {M X : Type 0} → List MountText → State M X → ℕ → TagTable → TextSurroundings
texts_over bindings s caller tags = texts_of bindings (peeked_of s caller) tags

-- whether a text walk looks at steady host paths alone
abbrev pub is_steady_key : {M X : Type 0} → List MountText → State M X → ℕ → TagTable → WalkMode → Text → List ℕ → Bool
is_steady_key bindings s caller tags mode base path = is_steady_walk (texts_over bindings s caller tags) mode base path

-- then it is the same in every state of that shape and user, whoever asks and whatever the tags, and steady there
pub record KeyLasts {M N X Y : Type 0} (bindings : List MountText) (s : State M X) (t : State N Y) (caller asker : ℕ) (tags more : TagTable) (mode : WalkMode) (base : Text) (path : List ℕ) : Type 0 where
  pub walk : text_walk (texts_over bindings t asker more) mode base path ≡ text_walk (texts_over bindings s caller tags) mode base path
  pub answer : canon_of (texts_over bindings t asker more) mode base path ≡ canon_of (texts_over bindings s caller tags) mode base path
  pub steady : is_steady_key bindings t asker more mode base path ≡ true

abbrev pub SteadyKeysLast : Type 0 → Type 0 → Type 0 → Type 0 → Type 0
SteadyKeysLast M N X Y =
    (bindings : List MountText) (s : State M X) (t : State N Y) (caller asker : ℕ) (tags more : TagTable) (mode : WalkMode) (base : Text) (path : List ℕ) → HaveOneShape s t
    → is_steady_key bindings s caller tags mode base path ≡ true → KeyLasts bindings s t caller asker tags more mode base path
