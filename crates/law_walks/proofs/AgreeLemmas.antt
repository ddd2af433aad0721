-- One component looks alike from a place and from its guest text, and so walks agree.
use Rattle.std.proofs.Common.{◌≡◌, ℕ, Bool, true, false, List, sym, subst}
use Rattle.pt_canon.specs.pr_base.Alike.{Likeness, SeenAlike}
use Rattle.pt_canon.specs.pr_base.MountText.{MountText}
use Rattle.pt_canon.specs.pr_base.Paths.{Component, Dot, DotDot, IsComponent, Name}
use Rattle.pt_canon.specs.pr_base.Texts.{Text}
use Rattle.pt_canon.specs.pr_base.WalkFrame.{Leads, is_followed}
use Rattle.pt_canon.specs.pr_base.declared.path.WalkMode.{WalkMode}
use Rattle.pt_canon.specs.pr_base.declared.path.WalkMode.TheVariants as modes
use Rattle.pt_canon.proofs.pr_base.AlikeLemmas.{walks_end_alike}
use Rattle.pt_canon.proofs.pr_base.PathLemmas.{paths_have_components}
use Rattle.pt_canon.specs.pt_bind.Binding.{host_of}
use Rattle.pt_canon.specs.ProcessLinks.{above as text_above}
use Rattle.pt_canon.specs.TextWalk.{TextSurroundings, inside_text, look_text, looking_texts}
use Rattle.kr_mounts.specs.kr_tree.declared.place.Host.{Host}
use Rattle.kr_mounts.specs.kr_tree.declared.place.Place.{Place}
use Rattle.kr_mounts.specs.kr_tree.Tree.{Tree}
use Rattle.kr_mounts.specs.kr_view.Component.{Namespace, above, inside, is_directory_at, look_up, may_search}
use Rattle.kr_mounts.specs.kr_view.Walk.{looking}
use Rattle.kr_mounts.proofs.kr_view.ArrivalLemmas.{directory_firm}
use Rattle.kr_mounts.specs.Standing.{texts_of}
use Rattle.law_walks.specs.Laws.{LooksAgree, WalksAgree}
use Rattle.law_walks.specs.Scene.{IsMatched, Scene, space_of, texts_in}
use Rattle.law_walks.specs.Standing.{Stands, StandsOn, likeness, place_in}
use Rattle.law_walks.proofs.UpLemmas.{GoesUp, goes_up}
use Rattle.law_walks.proofs.StandingLemmas.{roots_stand}
use Rattle.law_walks.proofs.LookLemmas.{guard_alike, leads_to, name_alike}

module _ (scene : Scene) (m : IsMatched scene) (mode : WalkMode) where
  abbrev space : Namespace
  space = space_of scene

  abbrev tree : Tree
  tree = space.tree

  abbrev bindings : List MountText
  bindings = texts_of space.table

  abbrev texts : TextSurroundings
  texts = texts_in scene

  abbrev like : Likeness (Place ℕ) (Place ℕ) Text Text
  like = likeness space mode

  up_alike : (p : Place ℕ) (u : Text) → GoesUp space p u → SeenAlike like (above space p) (Leads true u u)
  up_alike p u g = subst (λ s. SeenAlike like s (Leads true u u)) (sym g.goes) (leads_to scene m mode true g.to u g.stands (directory_firm tree g.to.host g.is_dir))

  -- ---- one component

  inside_alike : (k : ℕ) (x : Host) (u : Text) (c : Component) → Stands space (place_in k x) u → IsComponent c → is_directory_at tree x ≡ true → may_search tree space.user x ≡ true → SeenAlike like (inside scene.around (place_in k x) c) (inside_text texts u c)
  inside_alike k x u Dot r fine dir search = leads_to scene m mode true (place_in k x) u r (directory_firm tree x dir)
  inside_alike k x u DotDot r fine dir search = up_alike (place_in k x) (text_above u) (goes_up space m.settled scene.around.leads m.processes k x u r dir)
  inside_alike k x u (Name name) r fine dir search = name_alike scene m mode k x u name r.mount r.way dir (r.above dir) search fine

  look_alike : (p : Place ℕ) (u : Text) (c : Component) → StandsOn space p u → IsComponent c → SeenAlike like (look_up scene.around p c) (look_text texts u c)
  unfolding look_text
  look_alike p u c on fine =
      guard_alike scene m mode p.host (host_of bindings u) on.stands.way on.firm (inside scene.around p c) (inside_text texts u c) (λ dir search. inside_alike p.mount p.host u c on.stands fine dir search)

pub looks_agree : LooksAgree
looks_agree scene mode p t c m on fine = look_alike scene m mode p t c on fine

-- where a slash makes no link followed, none is without one
unfollowed : (mode : WalkMode) (slash : Bool) → is_followed mode slash ≡ false → is_followed mode false ≡ true → ⊥
unfollowed modes.Look slash e f = cc
unfollowed modes.LookLink slash e f = cc
unfollowed modes.Name slash e f = cc
unfollowed modes.Open slash e f = cc

pub walks_agree : WalksAgree
walks_agree scene mode base t path m on =
    walks_end_alike (likeness (space_of scene) mode) (looking scene.around) (looking_texts (texts_in scene)) mode base t path
    (record {
      roots = roots_stand (space_of scene) m.settled;
      heres = λ p u r. record { stands = r.stands; firm = λ _. r.firm };
      texts = paths_have_components;
      looks = look_alike scene m mode;
      unfollowed = λ slash p u e r. record { stands = r; firm = λ f. absurd (unfollowed mode slash e f) };
    })
    on
