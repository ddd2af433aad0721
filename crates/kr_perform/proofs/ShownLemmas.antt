-- What is seen of the target of a walk under its name.
use Rattle.std.proofs.Common.{◌≡◌, ℕ, ◌≤◌, Bool, true, false, List, length, None, refl, sym, ap, subst, ◌∙◌, arith}
use Rattle.std.specs.Prelude.{Ok}
use Rattle.std.proofs.lemmas.Bool.Decides.{nat_tests}
use Rattle.std.proofs.lemmas.Option.{none-some}
use Rattle.law_allowed.specs.pr_base.Paths.{Component, Dot, DotDot, IsName, Name, kind_of}
use Rattle.law_allowed.specs.pr_base.WalkFrame.{name_of}
use Rattle.law_allowed.specs.pr_base.WalkLaws.{Shows}
use Rattle.law_allowed.specs.pr_base.declared.path.Last.TheVariants as last
use Rattle.law_allowed.specs.pr_base.declared.path.WalkMode.{WalkMode}
use Rattle.law_allowed.proofs.pr_base.EndLemmas.{found_is_shown}
use Rattle.law_allowed.specs.kr_tree.declared.place.Place.{Place}
use Rattle.law_allowed.specs.kr_view.Component.{Surroundings, look_up, is_directory_at, may_search, named_in, too_long}
use Rattle.law_allowed.specs.kr_view.Walk.{PlaceTarget, looking, place_walk}
use Rattle.law_allowed.proofs.kr_view.DirectoryLemmas.{jumped_to}
use Rattle.kr_perform.proofs.EntryLemmas.{looked_for}
use Rattle.kr_perform.proofs.TextLemmas.{IsTextPart}

-- a component of the kind of a name is one
pub a_name : (c : Component) (name : List ℕ) → kind_of c ≡ last.Name → name_of c ≡ name → c ≡ Name name
a_name Dot name kind same = absurd cc
a_name DotDot name kind same = absurd cc
a_name (Name other) name kind same = ap Name same

-- one of a text that isn't too long is well-formed
pub well_formed : (name : List ℕ) → IsTextPart (Name name) → too_long name ≡ false → IsName name
well_formed name part short =
    let few : length name ≤ 255 = grind (arith, nat_tests) in
    record { some = part.0.some; short = few; no_slash = part.0.no_slash; no_zero = part.1; not_dot = part.0.not_dot; not_dot_dot = part.0.not_dot_dot }

module _ (around : Surroundings) (mode : WalkMode) (base : Place ℕ) (path : List ℕ) (w : PlaceTarget) (ends : (place_walk around mode base path).answer ≡ Ok w) where
  -- a name that isn't where a process link leads was looked up in its directory
  pub shown_name : w.jumped ≡ false → w.last ≡ last.Name → Shows (look_up around w.dir (Name w.name)) w.found
  shown_name jumped name =
      let shown = found_is_shown _ _ (looking around) mode base path w ends jumped (λ root. let clash : last.Name ≡ last.Root = sym name ∙ root in absurd cc) in
      let is : shown.0 ≡ Name w.name = a_name shown.0 w.name (shown.1 ∙ name) shown.2 in
      subst (λ (c : Component). Shows (look_up around w.dir c) w.found) is shown.3

  -- so it isn't too long
  pub short_name : w.jumped ≡ false → w.last ≡ last.Name → too_long w.name ≡ false
  short_name jumped name =
      (looked_for (is_directory_at around.space.tree w.dir.host) (may_search around.space.tree around.space.user w.dir.host) (too_long w.name) (named_in around w.dir.mount w.dir.host w.name) w.found (shown_name jumped name)).0

  -- what a process link led to is found
  pub free_stays : w.found ≡ None → w.jumped ≡ false
  free_stays none = by w.jumped refl
    where
      by : (b : Bool) → w.jumped ≡ b → w.jumped ≡ false
      by false is = is
      by true is = let landed = jumped_to around mode base path w ends is in absurd (none-some landed.0 (sym none ∙ landed.1))
