-- Looks and walks along places and along guest texts agree.
use Rattle.std.specs.Prelude.{ℕ, List}
use Rattle.pt_canon.specs.pr_base.Alike.{Alike, SeenAlike}
use Rattle.pt_canon.specs.pr_base.Paths.{Component, IsComponent}
use Rattle.pt_canon.specs.pr_base.Texts.{Text}
use Rattle.pt_canon.specs.pr_base.declared.path.WalkMode.{WalkMode}
use Rattle.pt_canon.specs.TextWalk.{look_text, text_walk}
use Rattle.kr_mounts.specs.kr_tree.declared.place.Place.{Place}
use Rattle.kr_mounts.specs.kr_view.Component.{look_up}
use Rattle.kr_mounts.specs.kr_view.Walk.{place_walk}
use Rattle.law_walks.specs.Scene.{IsMatched, Scene, space_of, texts_in}
use Rattle.law_walks.specs.Standing.{StandsOn, likeness}

-- from a place and the guest text at which it stands, one component shows the same: an error, nothing, a directory or
-- another object that stands at the text which is shown, or a link of the same text, or one that leads alike
abbrev pub LooksAgree : Type 0
LooksAgree =
    (scene : Scene) (mode : WalkMode) (p : Place ℕ) (t : Text) (c : Component) → IsMatched scene → StandsOn (space_of scene) p t → IsComponent c
    → SeenAlike (likeness (space_of scene) mode) (look_up scene.around p c) (look_text (texts_in scene) t c)

-- walks along a path from there end with the same error, or at targets of which what is found, and the directory, stands at
-- the text of the other; with the same last name and kind, and the same slash
abbrev pub WalksAgree : Type 0
WalksAgree =
    (scene : Scene) (mode : WalkMode) (base : Place ℕ) (t : Text) (path : List ℕ) → IsMatched scene → StandsOn (space_of scene) base t
    → Alike (likeness (space_of scene) mode) (place_walk scene.around mode base path).answer (text_walk (texts_in scene) mode t path).answer
