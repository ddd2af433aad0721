-- The last look of a walk is in its trail.
use Rattle.std.proofs.Common.{◌≡◌, ◌≢◌, ℕ, zero, suc, Bool, true, false, ◌||◌, List, [], ◌∷◌, ◌++◌, Option, Some, None, Ok, refl, sym, ap, subst, ◌∙◌}
use Rattle.std.specs.Bool.{if◌then◌else◌}
use Rattle.pr_start.specs.pr_base.Paths.{Component, components_of, has_slash, kind_of}
use Rattle.pr_start.specs.pr_base.WalkFrame.{Fails, Jumps, Landing, Leads, Links, LookedAt, Looking, Missing, Onward, Seen, Target, Trail, after_look, along, at_last, begins_at, ends, ends_landed, fails, here, in_middle, is_followed, jumps_on, landed, loops, may_be_free, name_of, target_at, walk_on, wants_directory}
use Rattle.pr_start.specs.pr_base.WalkLaws.{Shows}
use Rattle.pr_start.specs.pr_base.declared.errno.Errno.{Errno}
use Rattle.pr_start.specs.pr_base.declared.errno.Errno.TheVariants.{ELOOP, ENOENT, ENOTDIR}
use Rattle.pr_start.specs.pr_base.declared.path.Last.TheVariants as last
use Rattle.pr_start.specs.pr_base.declared.path.WalkMode.{WalkMode}
use Rattle.pr_start.proofs.pr_base.EndLemmas.{same_target}
use Rattle.law_programs.proofs.EndLemmas.{Each}

-- `Q` is what holds of each look
module _ {S F : Type 0} (looking : Looking S F) (mode : WalkMode) (Q : LookedAt S → Type 0) where
  abbrev look_at : S → Component → Bool → LookedAt S
  look_at s c is_last = record { place = s; component = c; is_last = is_last }

  -- a target that a component shows is shown by the last look
  pub record IsLastLook (t : Target S F) : Type 0 where
    pub component : Component
    pub kind : kind_of component ≡ t.last
    pub name : name_of component ≡ t.name
    pub shows : Shows (looking.look t.dir component) t.found
    pub looked : Q (look_at t.dir component true)

  abbrev pub EndsLooking : Trail S F → Type 0
  EndsLooking trail = Each Q trail.looks → (t : Target S F) → trail.answer ≡ Ok t → t.jumped ≡ false → t.last ≢ last.Root → IsLastLook t

  failed : (e : Errno) → EndsLooking (fails e)
  failed e each t h jumped other = absurd cc

  -- ---- behind the last component

  abbrev Behind : S → Component → Trail S F → Type 0
  Behind s c trail = EndsLooking (after_look (look_at s c true) trail)

  either : (s : S) (c : Component) (b : Bool) (x y : Trail S F) → Behind s c x → Behind s c y → Behind s c (if b then x else y)
  either s c true x y p q = p
  either s c false x y p q = q

  fails-behind : (s : S) (c : Component) (e : Errno) → Behind s c (fails e)
  fails-behind s c e each t h jumped other = absurd cc

  shown : (s : S) (c : Component) (slash : Bool) (found : Option F) → Shows (looking.look s c) found → Behind s c (ends (target_at s c slash found))
  shown s c slash found shows each t h jumped other =
      subst IsLastLook (same_target (target_at s c slash found) t h) (record { component = c; kind = refl; name = refl; shows = shows; looked = each.0 })

  goes-on : (s : S) (c : Component) (trail : Trail S F) → EndsLooking trail → Behind s c trail
  goes-on s c trail rest each t h jumped other = rest each.1 t h jumped other

  landed-behind : (s : S) (c : Component) (slash : Bool) (l : Landing S F) → Behind s c (ends (landed l slash))
  landed-behind s c slash l each t h jumped other =
      let clash : true ≡ false = ap (λ (t : Target S F). t.jumped) (same_target (landed l slash) t h) ∙ jumped in
      absurd cc

  lands : (s : S) (c : Component) (slash : Bool) (l : Landing S F) → Behind s c (ends_landed mode slash l)
  lands s c slash l =
      let there : Trail S F = ends (landed l slash) in
      either s c (wants_directory mode slash) (if l.is_dir then there else fails ENOTDIR) there
      (either s c l.is_dir there (fails ENOTDIR) (landed-behind s c slash l) (fails-behind s c ENOTDIR)) (landed-behind s c slash l)

  jumps : (s : S) (c : Component) (slash : Bool) (left : ℕ) (lead : Option (Landing S F)) → Behind s c (jumps_on left (ends_landed mode slash) lead)
  jumps s c slash zero lead = fails-behind s c ELOOP
  jumps s c slash (suc left) None = fails-behind s c ENOENT
  jumps s c slash (suc left) (Some l) = λ each t h jumped other. lands s c slash l each t h jumped other

  module _ (left : ℕ) (again : Onward S F) (onward : (s : S) (cs : List Component) (slash : Bool) → EndsLooking (again s cs slash)) where
    at-last : (s : S) (c : Component) (slash : Bool) (seen : Seen S F) → looking.look s c ≡ seen → Behind s c (at_last looking mode left again s c slash seen)
    at-last s c slash (Fails e) looked = fails-behind s c e
    at-last s c slash Missing looked =
        either s c (may_be_free mode) (ends (target_at s c slash None)) (fails ENOENT)
        (shown s c slash None (subst (λ (seen : Seen S F). Shows seen None) (sym looked) refl)) (fails-behind s c ENOENT)
    at-last s c slash (Leads is_dir q f) looked =
        let there : Trail S F = ends (target_at s c slash (Some f)) in
        let own = shown s c slash (Some f) (subst (λ (seen : Seen S F). Shows seen (Some f)) (sym looked) refl) in
        either s c (wants_directory mode slash) (if is_dir then there else fails ENOTDIR) there (either s c is_dir there (fails ENOTDIR) own (fails-behind s c ENOTDIR)) own
    at-last s c slash (Links f text) looked =
        either s c (is_followed mode slash) (again (begins_at looking s text) (components_of text) (slash || has_slash text)) (ends (target_at s c slash (Some f)))
        (goes-on s c (again (begins_at looking s text) (components_of text) (slash || has_slash text)) (onward (begins_at looking s text) (components_of text) (slash || has_slash text)))
        (shown s c slash (Some f) (subst (λ (seen : Seen S F). Shows seen (Some f)) (sym looked) refl))
    at-last s c slash (Jumps f lead) looked =
        either s c (is_followed mode slash) (jumps_on left (ends_landed mode slash) lead) (ends (target_at s c slash (Some f)))
        (jumps s c slash left lead) (shown s c slash (Some f) (subst (λ (seen : Seen S F). Shows seen (Some f)) (sym looked) refl))

    -- ---- in the middle

    jumps-on : (lead : Option (Landing S F)) (n : ℕ) (rest : List Component) (slash : Bool) → EndsLooking (jumps_on n (λ (l : Landing S F). again l.place rest slash) lead)
    jumps-on lead zero rest slash = failed ELOOP
    jumps-on None (suc n) rest slash = failed ENOENT
    jumps-on (Some l) (suc n) rest slash = λ each t h jumped other. onward l.place rest slash each t h jumped other

    in-middle : (s : S) (rest : List Component) (slash : Bool) (go : S → Trail S F) → ((q : S) → EndsLooking (go q)) → (seen : Seen S F) → EndsLooking (in_middle looking left again s rest slash go seen)
    in-middle s rest slash go each (Fails e) = failed e
    in-middle s rest slash go each Missing = failed ENOENT
    in-middle s rest slash go each (Leads is_dir q f) = each q
    in-middle s rest slash go each (Links f text) = onward (begins_at looking s text) (components_of text ++ rest) slash
    in-middle s rest slash go each (Jumps f lead) = jumps-on lead left rest slash

    at-beginning : (s : S) (slash : Bool) → EndsLooking (ends (here looking s slash))
    at-beginning s slash each t h jumped other = absurd (other (sym (ap (λ (t : Target S F). t.last) (same_target (here looking s slash) t h))))

    along-looks : (cs : List Component) (s : S) (slash : Bool) → EndsLooking (along looking mode left again s cs slash)
    along-looks [] s slash = at-beginning s slash
    along-looks (c ∷ []) s slash = at-last s c slash (looking.look s c) refl
    along-looks (c ∷ d ∷ cs) s slash =
        let rest = in-middle s (d ∷ cs) slash (λ q. along looking mode left again q (d ∷ cs) slash) (λ q. along-looks (d ∷ cs) q slash) (looking.look s c) in
        λ each t h jumped other. rest each.1 t h jumped other

  pub walk-looks : (left : ℕ) (s : S) (cs : List Component) (slash : Bool) → EndsLooking (walk_on looking mode left s cs slash)
  unfolding walk_on
  walk-looks zero s cs slash = along-looks zero loops (λ s cs slash. failed ELOOP) cs s slash
  walk-looks (suc left) s cs slash = along-looks (suc left) (walk_on looking mode left) (walk-looks left) cs s slash
