-- Where a walk ends: what holds of each of its three endings holds of its target.
use Rattle.std.proofs.Common.{◌≡◌, ◌≢◌, ℕ, zero, suc, Bool, true, false, ◌||◌, List, [], ◌∷◌, ◌++◌, Option, Some, None, Result, Ok, refl, sym, ap, subst, ◌∙◌}
use Rattle.std.specs.Bool.{if◌then◌else◌}
use Rattle.pr_base.specs.Paths.{Component, components_of, has_slash}
use Rattle.pr_base.specs.WalkFrame.{Seen, Fails, Missing, Leads, Links, Jumps, Looking, Landing, Target, Trail, Onward, fails, ends, begins_at, loops, is_followed, wants_directory, may_be_free, target_at, here, landed, ends_landed, jumps_on, in_middle, at_last, along, walk_on, most_links}
use Rattle.pr_base.specs.declared.errno.Errno.{Errno}
use Rattle.pr_base.specs.declared.errno.Errno.TheVariants.{ENOENT, ENOTDIR}
use Rattle.pr_base.specs.declared.path.Last.TheVariants as last
use Rattle.pr_base.specs.declared.path.WalkMode.{WalkMode}
use Rattle.pr_base.specs.WalkLaws.{Shows, IsShown, FoundIsShown, JumpIsShown}

pub same_target : {S F : Type 0} (one two : Target S F) → ◌≡◌ {A = Result (Target S F) Errno} (Ok one) (Ok two) → one ≡ two
same_target one two h = cc

module _ {S F : Type 0} (looking : Looking S F) (P : Target S F → Type 0) where
  -- the target of a trail, if it has one, is such
  abbrev pub EndsSo : Trail S F → Type 0
  EndsSo trail = (t : Target S F) → trail.answer ≡ Ok t → P t

  pub failed : (e : Errno) → EndsSo (fails e)
  failed e t h = absurd cc

  pub ended : (target : Target S F) → P target → EndsSo (ends target)
  ended target holds t h = subst P (same_target target t h) holds

  pub either_way : (b : Bool) (x y : Trail S F) → EndsSo x → EndsSo y → EndsSo (if b then x else y)
  either_way true x y p q = p
  either_way false x y p q = q

  pub lands : (mode : WalkMode) (slash : Bool) (l : Landing S F) → P (landed l slash) → EndsSo (ends_landed mode slash l)
  lands mode slash l holds =
      let t : Target S F = landed l slash in
      either_way (wants_directory mode slash) (if l.is_dir then ends t else fails ENOTDIR) (ends t) (either_way l.is_dir (ends t) (fails ENOTDIR) (ended t holds) (failed ENOTDIR)) (ended t holds)

  pub jumps : (left : ℕ) (go : Landing S F → Trail S F) (lead : Option (Landing S F)) → ((l : Landing S F) → lead ≡ Some l → EndsSo (go l)) → EndsSo (jumps_on left go lead)
  jumps zero go lead each = failed _
  jumps (suc left) go None each = failed ENOENT
  jumps (suc left) go (Some l) each = each l refl

  -- `Begins` is what is known of a place where no component is left
  module _ (Begins : S → Type 0)
      (at_beginning : (s : S) (slash : Bool) → Begins s → P (here looking s slash))
      (at_component : (s : S) (c : Component) (slash : Bool) (found : Option F) → Shows (looking.look s c) found → P (target_at s c slash found))
      (at_landing : (s : S) (c : Component) (slash : Bool) (f : F) (l : Landing S F) → looking.look s c ≡ Jumps f (Some l) → P (landed l slash))
      (at_text : (s : S) (c : Component) (f : F) (text : List ℕ) → looking.look s c ≡ Links f text → Begins (begins_at looking s text)) where
    module _ (mode : WalkMode) (left : ℕ) (again : Onward S F) (onward : (s : S) (cs : List Component) (slash : Bool) → (cs ≡ [] → Begins s) → EndsSo (again s cs slash)) where
      shown : (s : S) (c : Component) (slash : Bool) (found : Option F) (seen : Seen S F) → looking.look s c ≡ seen → Shows seen found → EndsSo (ends (target_at s c slash found))
      shown s c slash found seen looked shows =
          let Q : Seen S F → Type 0 = λ seen. Shows seen found in
          ended (target_at s c slash found) (at_component s c slash found (subst Q (sym looked) shows))

      last_ends : (s : S) (c : Component) (slash : Bool) (seen : Seen S F) → looking.look s c ≡ seen → EndsSo (at_last looking mode left again s c slash seen)
      last_ends s c slash (Fails e) looked = failed e
      last_ends s c slash Missing looked =
          either_way (may_be_free mode) (ends (target_at s c slash None)) (fails ENOENT) (shown s c slash None Missing looked refl) (failed ENOENT)
      last_ends s c slash (Leads is_dir q f) looked =
          let t = target_at s c slash (Some f) in
          let found = shown s c slash (Some f) (Leads is_dir q f) looked refl in
          either_way (wants_directory mode slash) (if is_dir then ends t else fails ENOTDIR) (ends t) (either_way is_dir (ends t) (fails ENOTDIR) found (failed ENOTDIR)) found
      last_ends s c slash (Links f text) looked =
          either_way (is_followed mode slash) (again (begins_at looking s text) (components_of text) (slash || has_slash text)) (ends (target_at s c slash (Some f)))
          (onward (begins_at looking s text) (components_of text) (slash || has_slash text) (λ none. at_text s c f text looked)) (shown s c slash (Some f) (Links f text) looked refl)
      last_ends s c slash (Jumps f lead) looked =
          either_way (is_followed mode slash) (jumps_on left (ends_landed mode slash) lead) (ends (target_at s c slash (Some f)))
          (jumps left (ends_landed mode slash) lead (λ l is. lands mode slash l (at_landing s c slash f l (looked ∙ ap (Jumps f) is)))) (shown s c slash (Some f) (Jumps f lead) looked refl)

      middle_ends : (s : S) (c d : Component) (cs : List Component) (slash : Bool) (go : S → Trail S F) (seen : Seen S F) → looking.look s c ≡ seen → ((q : S) → EndsSo (go q))
          → EndsSo (in_middle looking left again s (d ∷ cs) slash go seen)
      middle_ends s c d cs slash go (Fails e) looked each = failed e
      middle_ends s c d cs slash go Missing looked each = failed ENOENT
      middle_ends s c d cs slash go (Leads is_dir q f) looked each = each q
      middle_ends s c d cs slash go (Links f text) looked each = onward (begins_at looking s text) (components_of text ++ d ∷ cs) slash (λ none. at_text s c f text looked)
      middle_ends s c d cs slash go (Jumps f lead) looked each =
          jumps left (λ l. again l.place (d ∷ cs) slash) lead (λ l is. onward l.place (d ∷ cs) slash (λ none. absurd cc))

      along_ends : (cs : List Component) (s : S) (slash : Bool) → (cs ≡ [] → Begins s) → EndsSo (along looking mode left again s cs slash)
      along_ends [] s slash begins = ended (here looking s slash) (at_beginning s slash (begins refl))
      along_ends (c ∷ []) s slash begins = last_ends s c slash (looking.look s c) refl
      along_ends (c ∷ d ∷ cs) s slash begins =
          middle_ends s c d cs slash (λ q. along looking mode left again q (d ∷ cs) slash) (looking.look s c) refl (λ q. along_ends (d ∷ cs) q slash (λ none. absurd cc))

    pub walk_ends : (mode : WalkMode) (left : ℕ) (s : S) (cs : List Component) (slash : Bool) → (cs ≡ [] → Begins s) → EndsSo (walk_on looking mode left s cs slash)
    unfolding walk_on
    walk_ends mode zero s cs slash begins = along_ends mode zero loops (λ s cs slash begins. failed _) cs s slash begins
    walk_ends mode (suc left) s cs slash begins = along_ends mode (suc left) (walk_on looking mode left) (walk_ends mode left) cs s slash begins

module _ {S F : Type 0} (looking : Looking S F) where
  -- a target that a component shows is shown
  abbrev pub IsShownThere : Target S F → Type 0
  IsShownThere t = t.jumped ≡ false → t.last ≢ last.Root → IsShown looking t

  pub walk_shown : (mode : WalkMode) (left : ℕ) (s : S) (cs : List Component) (slash : Bool) → EndsSo looking IsShownThere (walk_on looking mode left s cs slash)
  walk_shown mode left s cs slash =
      walk_ends looking IsShownThere (λ s. Unit {0}) (λ s slash begins jumped root. absurd (root refl)) (λ s c slash found shows jumped root. (c, refl, refl, shows)) (λ s c slash f l looked jumped. absurd cc) (λ s c f text looked. tt)
      mode left s cs slash (λ none. tt)

  -- and one to which a process link led is where that link leads
  abbrev pub IsJumpThere : Target S F → Type 0
  IsJumpThere t = t.jumped ≡ true → (s : S) × (c : Component) × (f : F) × (l : Landing S F) × (looking.look s c ≡ Jumps f (Some l)) × (t ≡ landed l t.slash)

  pub walk_jumped : (mode : WalkMode) (left : ℕ) (s : S) (cs : List Component) (slash : Bool) → EndsSo looking IsJumpThere (walk_on looking mode left s cs slash)
  walk_jumped mode left s cs slash =
      walk_ends looking IsJumpThere (λ s. Unit {0}) (λ s slash begins jumped. absurd cc) (λ s c slash found shows jumped. absurd cc) (λ s c slash f l looked jumped. (s, c, f, l, looked, refl)) (λ s c f text looked. tt)
      mode left s cs slash (λ none. tt)

pub found_is_shown : (S F : Type 0) → FoundIsShown S F
found_is_shown S F looking mode base path = walk_shown looking mode most_links (begins_at looking base path) (components_of path) (has_slash path)

pub jump_is_shown : (S F : Type 0) → JumpIsShown S F
jump_is_shown S F looking mode base path = walk_jumped looking mode most_links (begins_at looking base path) (components_of path) (has_slash path)
