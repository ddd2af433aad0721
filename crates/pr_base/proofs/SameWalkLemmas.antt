-- Two walks are one where both ways of looking agree on each look.
use Rattle.std.proofs.Common.{◌≡◌, ℕ, zero, suc, Bool, true, false, ◌||◌, List, [], ◌∷◌, ◌++◌, Option, Some, None, All, refl, ap, ◌∙◌}
use Rattle.std.specs.Bool.{if◌then◌else◌}
use Rattle.std.proofs.lemmas.List.Elements.{All-head, All-tail}
use Rattle.pr_base.specs.Paths.{Component, components_of, has_slash, is_absolute}
use Rattle.pr_base.specs.WalkFrame.{Seen, Fails, Missing, Leads, Links, Jumps, Looking, LookedAt, Landing, Trail, Onward, ends, after_look, after_jump, begins_at, target_at, is_followed, loops, jumps_on, in_middle, at_last, along, walk_on, walk, most_links}
use Rattle.pr_base.specs.declared.path.Last.TheVariants as last
use Rattle.pr_base.specs.declared.path.WalkMode.{WalkMode}
use Rattle.pr_base.specs.SameWalks.{ShowsTheSame, BeginAlike, WalksAgree}

module _ {S F : Type 0} (one two : Looking S F) (alike : BeginAlike one two) (mode : WalkMode) where
  -- where all looks of the one trail show the same, the other trail is that one
  abbrev SameTrail : Trail S F → Trail S F → Type 0
  SameTrail a b = All (ShowsTheSame one two) a.looks → a ≡ b

  abbrev SameAgain : Onward S F → Onward S F → Type 0
  SameAgain x y = (s : S) (cs : List Component) (slash : Bool) → SameTrail (x s cs slash) (y s cs slash)

  choice : (b : Bool) (x y z : Trail S F) → SameTrail x y → SameTrail (if b then x else z) (if b then y else z)
  choice true x y z h = h
  choice false x y z h = λ _. refl

  begins_same : (s : S) (text : List ℕ) → begins_at one s text ≡ begins_at two s text
  begins_same s text = ap (λ r. if is_absolute text then r else s) alike.roots

  followed : (x y : Onward S F) → SameAgain x y → (s : S) (text : List ℕ) (cs : List Component) (slash : Bool) → SameTrail (x (begins_at one s text) cs slash) (y (begins_at two s text) cs slash)
  followed x y again s text cs slash all = again (begins_at one s text) cs slash all ∙ ap (λ q. y q cs slash) (begins_same s text)

  jumps_same : (left : ℕ) (x y : Landing S F → Trail S F) (lead : Option (Landing S F)) → ((l : Landing S F) → SameTrail (x l) (y l)) → SameTrail (jumps_on left x lead) (jumps_on left y lead)
  jumps_same zero x y lead each all = refl
  jumps_same (suc left) x y None each all = refl
  jumps_same (suc left) x y (Some l) each all = ap (after_jump l) (each l all)

  last_same : (left : ℕ) (x y : Onward S F) → SameAgain x y → (s : S) (c : Component) (slash : Bool) (seen : Seen S F) → SameTrail (at_last one mode left x s c slash seen) (at_last two mode left y s c slash seen)
  last_same left x y again s c slash (Fails e) all = refl
  last_same left x y again s c slash Missing all = refl
  last_same left x y again s c slash (Leads is_dir q f) all = refl
  last_same left x y again s c slash (Links f text) all =
      choice (is_followed mode slash) (x (begins_at one s text) (components_of text) (slash || has_slash text)) (y (begins_at two s text) (components_of text) (slash || has_slash text)) (ends (target_at s c slash (Some f)))
      (followed x y again s text (components_of text) (slash || has_slash text)) all
  last_same left x y again s c slash (Jumps f lead) all = refl

  middle_same : (left : ℕ) (x y : Onward S F) → SameAgain x y → (s : S) (rest : List Component) (slash : Bool) (go gone : S → Trail S F) → ((q : S) → SameTrail (go q) (gone q)) → (seen : Seen S F)
      → SameTrail (in_middle one left x s rest slash go seen) (in_middle two left y s rest slash gone seen)
  middle_same left x y again s rest slash go gone each (Fails e) all = refl
  middle_same left x y again s rest slash go gone each Missing all = refl
  middle_same left x y again s rest slash go gone each (Leads is_dir q f) all = each q all
  middle_same left x y again s rest slash go gone each (Links f text) all = followed x y again s text (components_of text ++ rest) slash all
  middle_same left x y again s rest slash go gone each (Jumps f lead) all = jumps_same left (λ l. x l.place rest slash) (λ l. y l.place rest slash) lead (λ l. again l.place rest slash) all

  along_same : (left : ℕ) (x y : Onward S F) → SameAgain x y → (cs : List Component) (s : S) (slash : Bool) → SameTrail (along one mode left x s cs slash) (along two mode left y s cs slash)
  along_same left x y again [] s slash all = ap (λ f. ends (record { dir = s; name = []; last = last.Root; slash = slash; found = Some f; jumped = false })) (alike.heres s)
  along_same left x y again (c ∷ []) s slash all =
      let l : LookedAt S = record { place = s; component = c; is_last = true } in
      let behind = (at_last one mode left x s c slash (one.look s c)).looks in
      let rest = last_same left x y again s c slash (one.look s c) (All-tail (ShowsTheSame one two) l behind all) in
      ap (after_look l) (rest ∙ ap (at_last two mode left y s c slash) (All-head (ShowsTheSame one two) l behind all))
  along_same left x y again (c ∷ d ∷ cs) s slash all =
      let l : LookedAt S = record { place = s; component = c; is_last = false } in
      let go : S → Trail S F = λ q. along one mode left x q (d ∷ cs) slash in
      let gone : S → Trail S F = λ q. along two mode left y q (d ∷ cs) slash in
      let behind = (in_middle one left x s (d ∷ cs) slash go (one.look s c)).looks in
      let rest = middle_same left x y again s (d ∷ cs) slash go gone (λ q. along_same left x y again (d ∷ cs) q slash) (one.look s c) (All-tail (ShowsTheSame one two) l behind all) in
      ap (after_look l) (rest ∙ ap (in_middle two left y s (d ∷ cs) slash gone) (All-head (ShowsTheSame one two) l behind all))

  walk_same : (left : ℕ) (s : S) (cs : List Component) (slash : Bool) → SameTrail (walk_on one mode left s cs slash) (walk_on two mode left s cs slash)
  unfolding walk_on
  walk_same zero s cs slash = along_same zero loops loops (λ s cs slash all. refl) cs s slash
  walk_same (suc left) s cs slash = along_same (suc left) (walk_on one mode left) (walk_on two mode left) (walk_same left) cs s slash

  pub path_same : (base : S) (path : List ℕ) → SameTrail (walk one mode base path) (walk two mode base path)
  path_same base path all =
      walk_same most_links (begins_at one base path) (components_of path) (has_slash path) all
      ∙ ap (λ q. walk_on two mode most_links q (components_of path) (has_slash path)) (begins_same base path)

pub walks_agree : (S F : Type 0) → WalksAgree S F
walks_agree S F one two mode base path alike all = path_same one two alike mode base path all
