-- Where a walk ends, by what its last component is, whatever components show.
use Rattle.std.proofs.Common.{◌≡◌, ◌⊎◌, inl, inr, ℕ, zero, suc, Bool, true, false, ◌||◌, List, [], ◌∷◌, ◌++◌, Some, None, refl, sym, ◌∙◌}
use Rattle.std.specs.Bool.{if◌then◌else◌}
use Rattle.law_allowed.specs.pr_base.Paths.{Component, components_of, has_slash, kind_of}
use Rattle.law_allowed.specs.pr_base.WalkFrame.{Seen, Fails, Missing, Leads, Links, Jumps, Looking, Landing, Target, Trail, Onward, fails, ends, begins_at, loops, is_followed, wants_directory, may_be_free, name_of, target_at, here, landed, ends_landed, jumps_on, in_middle, at_last, along, walk_on, walk, most_links}
use Rattle.law_allowed.specs.pr_base.declared.errno.Errno.TheVariants.{ENOENT, ENOTDIR}
use Rattle.law_allowed.specs.pr_base.declared.path.Last.TheVariants as last
use Rattle.law_allowed.specs.pr_base.declared.path.WalkMode.{WalkMode}
use Rattle.law_allowed.proofs.pr_base.EndLemmas.{EndsSo, failed, ended, either_way, lands, jumps}

-- what holds of the last of some components, if there is any
abbrev pub HasLast : (Component → Type 0) → List Component → Type 0
HasLast Q [] = Unit {0}
HasLast Q (c ∷ []) = Q c
HasLast Q (c ∷ d ∷ cs) = HasLast Q (d ∷ cs)

pub last_behind : (Q : Component → Type 0) (before : List Component) (c : Component) (cs : List Component) → HasLast Q (c ∷ cs) → HasLast Q (before ++ c ∷ cs)
last_behind Q [] c cs has = has
last_behind Q (b ∷ []) c cs has = has
last_behind Q (b ∷ d ∷ before) c cs has = last_behind Q (d ∷ before) c cs has

-- a target's kind and name are those of such a component
abbrev pub Comes : {S F : Type 0} → (Component → Type 0) → Target S F → Type 0
Comes Q t = (c : Component) × Q c × (kind_of c ≡ t.last) × (name_of c ≡ t.name)

-- `Asked` is what is asked before anything is known of last components
module _ {S F : Type 0} (looking : Looking S F) (mode : WalkMode) (P : Target S F → Type 0) (Q : Component → Type 0) (Asked : Type 0)
    -- of the text of a link that is the last component of a path
    (texts : (s : S) (c : Component) (f : F) (text : List ℕ) (slash : Bool) → looking.look s c ≡ Links f text → is_followed mode slash ≡ true → Asked → HasLast Q (components_of text))
    (at_beginning : (s : S) (slash : Bool) → P (here looking s slash))
    (at_free : (s : S) (c : Component) (slash : Bool) → may_be_free mode ≡ true → (Asked → Q c) → P (target_at s c slash None))
    (at_found : (s : S) (c : Component) (slash : Bool) (f : F) → (Asked → Q c) → P (target_at s c slash (Some f)))
    (at_landing : (slash : Bool) (l : Landing S F) → is_followed mode slash ≡ true → P (landed l slash)) where
  abbrev IsKnown : List Component → Type 0
  IsKnown cs = Asked → HasLast Q cs

  module _ (left : ℕ) (again : Onward S F) (onward : (s : S) (cs : List Component) (slash : Bool) → IsKnown cs → EndsSo looking P (again s cs slash)) where
    found : (s : S) (c : Component) (slash : Bool) (f : F) → IsKnown (c ∷ []) → EndsSo looking P (ends (target_at s c slash (Some f)))
    found s c slash f known = ended looking P (target_at s c slash (Some f)) (at_found s c slash f known)

    last_comes : (s : S) (c : Component) (slash : Bool) (seen : Seen S F) → looking.look s c ≡ seen → IsKnown (c ∷ []) → EndsSo looking P (at_last looking mode left again s c slash seen)
    last_comes s c slash (Fails e) looked known = failed looking P e
    last_comes s c slash Missing looked known = by (may_be_free mode) refl
      where
        by : (b : Bool) → may_be_free mode ≡ b → EndsSo looking P (if b then ends (target_at s c slash None) else fails ENOENT)
        by true free = ended looking P (target_at s c slash None) (at_free s c slash free known)
        by false free = failed looking P ENOENT
    last_comes s c slash (Leads is_dir q f) looked known =
        let t = target_at s c slash (Some f) in
        either_way looking P (wants_directory mode slash) (if is_dir then ends t else fails ENOTDIR) (ends t) (either_way looking P is_dir (ends t) (fails ENOTDIR) (found s c slash f known) (failed looking P ENOTDIR)) (found s c slash f known)
    last_comes s c slash (Links f text) looked known = by (is_followed mode slash) refl
      where
        by : (b : Bool) → is_followed mode slash ≡ b
            → EndsSo looking P (if b then again (begins_at looking s text) (components_of text) (slash || has_slash text) else ends (target_at s c slash (Some f)))
        by true followed = onward (begins_at looking s text) (components_of text) (slash || has_slash text) (texts s c f text slash looked followed)
        by false followed = found s c slash f known
    last_comes s c slash (Jumps f lead) looked known = by (is_followed mode slash) refl
      where
        by : (b : Bool) → is_followed mode slash ≡ b → EndsSo looking P (if b then jumps_on left (ends_landed mode slash) lead else ends (target_at s c slash (Some f)))
        by true followed = jumps looking P left (ends_landed mode slash) lead (λ l is. lands looking P mode slash l (at_landing slash l followed))
        by false followed = found s c slash f known

    middle_comes : (s : S) (c d : Component) (cs : List Component) (slash : Bool) (go : S → Trail S F) (seen : Seen S F) → IsKnown (d ∷ cs) → ((q : S) → EndsSo looking P (go q))
        → EndsSo looking P (in_middle looking left again s (d ∷ cs) slash go seen)
    middle_comes s c d cs slash go (Fails e) known each = failed looking P e
    middle_comes s c d cs slash go Missing known each = failed looking P ENOENT
    middle_comes s c d cs slash go (Leads is_dir q f) known each = each q
    middle_comes s c d cs slash go (Links f text) known each =
        onward (begins_at looking s text) (components_of text ++ d ∷ cs) slash (λ asked. last_behind Q (components_of text) d cs (known asked))
    middle_comes s c d cs slash go (Jumps f lead) known each = jumps looking P left (λ l. again l.place (d ∷ cs) slash) lead (λ l is. onward l.place (d ∷ cs) slash known)

    along_comes : (cs : List Component) (s : S) (slash : Bool) → IsKnown cs → EndsSo looking P (along looking mode left again s cs slash)
    along_comes [] s slash known = ended looking P (here looking s slash) (at_beginning s slash)
    along_comes (c ∷ []) s slash known = last_comes s c slash (looking.look s c) refl known
    along_comes (c ∷ d ∷ cs) s slash known =
        middle_comes s c d cs slash (λ q. along looking mode left again q (d ∷ cs) slash) (looking.look s c) known (λ q. along_comes (d ∷ cs) q slash known)

  pub walk_comes : (left : ℕ) (s : S) (cs : List Component) (slash : Bool) → IsKnown cs → EndsSo looking P (walk_on looking mode left s cs slash)
  unfolding walk_on
  walk_comes zero s cs slash known = along_comes zero loops (λ s cs slash known. failed looking P _) cs s slash known
  walk_comes (suc left) s cs slash known = along_comes (suc left) (walk_on looking mode left) (walk_comes left) cs s slash known

module _ {S F : Type 0} (looking : Looking S F) (mode : WalkMode) (base : S) (path : List ℕ) where
  -- the last component of a free name is that of the path or, where a last link is followed, of a link's text
  pub free_comes : (Q : Component → Type 0)
      → ((s : S) (c : Component) (f : F) (text : List ℕ) (slash : Bool) → looking.look s c ≡ Links f text → is_followed mode slash ≡ true → may_be_free mode ≡ true → HasLast Q (components_of text))
      → (may_be_free mode ≡ true → HasLast Q (components_of path))
      → EndsSo looking (λ t. t.found ≡ None → Comes Q t) (walk looking mode base path)
  free_comes Q texts known =
      walk_comes looking mode (λ t. t.found ≡ None → Comes Q t) Q (may_be_free mode ≡ true) texts (λ s slash none. absurd cc) (λ s c slash free is none. (c, is free, refl, refl)) (λ s c slash f is none. absurd cc)
      (λ slash l followed none. absurd cc) most_links (begins_at looking base path) (components_of path) (has_slash path) known

  -- that of any target is one of the path or of a link's text, where no process link led to it and where any component was left
  pub all_come : (Q : Component → Type 0) → ((s : S) (c : Component) (f : F) (text : List ℕ) → looking.look s c ≡ Links f text → HasLast Q (components_of text)) → HasLast Q (components_of path)
      → EndsSo looking (λ t. t.jumped ≡ false → ((t.last ≡ last.Root) × (t.name ≡ [])) ⊎ Comes Q t) (walk looking mode base path)
  all_come Q texts known =
      walk_comes looking mode (λ t. t.jumped ≡ false → ((t.last ≡ last.Root) × (t.name ≡ [])) ⊎ Comes Q t) Q (Unit {0}) (λ s c f text slash looked followed asked. texts s c f text looked) (λ s slash jumped. inl (refl, refl))
      (λ s c slash free is jumped. inr (c, is tt, refl, refl)) (λ s c slash f is jumped. inr (c, is tt, refl, refl)) (λ slash l followed jumped. absurd cc) most_links (begins_at looking base path) (components_of path) (has_slash path)
      (λ asked. known)

  -- where no last link is followed a walk doesn't end where a process link leads
  pub never_jumped : ((slash : Bool) → is_followed mode slash ≡ false) → EndsSo looking (λ t. t.jumped ≡ false) (walk looking mode base path)
  never_jumped never =
      walk_comes looking mode (λ t. t.jumped ≡ false) (λ c. Unit {0}) (Unit {0}) (λ s c f text slash looked followed asked. all (components_of text)) (λ s slash. refl) (λ s c slash free is. refl) (λ s c slash f is. refl)
      (λ slash l followed. let clash : false ≡ true = sym (never slash) ∙ followed in absurd cc) most_links (begins_at looking base path) (components_of path) (has_slash path) (λ asked. all (components_of path))
    where
      all : (cs : List Component) → HasLast (λ c. Unit {0}) cs
      all [] = tt
      all (c ∷ []) = tt
      all (c ∷ d ∷ cs) = all (d ∷ cs)
