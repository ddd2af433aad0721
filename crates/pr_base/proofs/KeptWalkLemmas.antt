-- What holds of the places that a walk goes through, where each of its own looks keeps it.
use Rattle.std.proofs.Common.{◌≡◌, ℕ, zero, suc, Bool, true, false, ◌||◌, List, [], ◌∷◌, ◌++◌, Option, Some, None, All, refl, sym, ap, subst, ◌∙◌, Ok}
use Rattle.std.specs.Bool.{if◌then◌else◌}
use Rattle.std.proofs.lemmas.List.Elements.{All-nil, All-cons, All-head, All-tail}
use Rattle.pr_base.specs.Paths.{Component, components_of, has_slash, is_absolute}
use Rattle.pr_base.specs.WalkFrame.{Seen, Fails, Missing, Leads, Links, Jumps, Looking, LookedAt, Landing, Target, Trail, Onward, fails, ends, ends_landed, after_look, after_jump, begins_at, target_at, here, landed, is_followed, may_be_free, wants_directory, loops, jumps_on, in_middle, at_last, along, walk_on, walk, most_links}
use Rattle.pr_base.specs.declared.errno.Errno.{Errno}
use Rattle.pr_base.specs.declared.errno.Errno.TheVariants.{ENOENT, ENOTDIR, ELOOP}
use Rattle.pr_base.specs.declared.path.WalkMode.{WalkMode}
use Rattle.pr_base.specs.WalkLaws.{Shows}
use Rattle.pr_base.proofs.EndLemmas.{same_target}
use Rattle.pr_base.specs.KeptWalks.{GoesOn, IsKeptByLooks, IsFromGood, IsKeptAlong, WalksKeep}

module _ {S F : Type 0} (Good : S → Type 0) (Fine : LookedAt S → Type 0) (looking : Looking S F) (P : Target S F → Type 0) (kept : IsKeptByLooks Good Fine looking P) where
  pub record Held (trail : Trail S F) : Type 0 where
    pub looks : All (IsFromGood Good Fine) trail.looks
    pub target : (t : Target S F) → trail.answer ≡ Ok t → P t

  abbrev pub EndsWell : Trail S F → Type 0
  EndsWell trail = All Fine trail.looks → Held trail

  failed : (e : Errno) → EndsWell (fails e)
  failed e all = record { looks = All-nil (IsFromGood Good Fine); target = λ t h. absurd cc }

  ended : (target : Target S F) → P target → EndsWell (ends target)
  ended target holds all = record { looks = All-nil (IsFromGood Good Fine); target = λ t h. subst P (same_target target t h) holds }

  either_way : (b : Bool) (x y : Trail S F) → EndsWell x → EndsWell y → EndsWell (if b then x else y)
  either_way true x y p q = p
  either_way false x y p q = q

  looked : (l : LookedAt S) (trail : Trail S F) → Good l.place → (Fine l → EndsWell trail) → EndsWell (after_look l trail)
  looked l trail good each all =
      let fine = All-head Fine l trail.looks all in
      let rest = each fine (All-tail Fine l trail.looks all) in
      record { looks = All-cons (IsFromGood Good Fine) l trail.looks (good, fine) rest.looks; target = rest.target }

  landed_well : (l : Landing S F) (trail : Trail S F) → EndsWell trail → EndsWell (after_jump l trail)
  landed_well l trail each all = let rest = each all in record { looks = rest.looks; target = rest.target }

  ends_found_well : (mode : WalkMode) (slash is_dir : Bool) (t : Target S F) → P t → EndsWell (if wants_directory mode slash then (if is_dir then ends t else fails ENOTDIR) else ends t)
  ends_found_well mode slash is_dir t holds =
      either_way (wants_directory mode slash) (if is_dir then ends t else fails ENOTDIR) (ends t) (either_way is_dir (ends t) (fails ENOTDIR) (ended t holds) (failed ENOTDIR)) (ended t holds)

  jumps_well : (left : ℕ) (go : Landing S F → Trail S F) (lead : Option (Landing S F)) → ((l : Landing S F) → lead ≡ Some l → EndsWell (go l)) → EndsWell (jumps_on left go lead)
  jumps_well zero go lead each = failed ELOOP
  jumps_well (suc left) go None each = failed ENOENT
  jumps_well (suc left) go (Some l) each = landed_well l (go l) (each l refl)

  pub begins : (s : S) (path : List ℕ) → Good s → Good (begins_at looking s path)
  begins s path good = elim (is_absolute path) as (λ b. Good (if b then looking.root else s)) [ true ↦ kept.root | false ↦ good ]

  abbrev AgainWell : Onward S F → Type 0
  AgainWell again = (s : S) (cs : List Component) (slash : Bool) → Good s → EndsWell (again s cs slash)

  module _ (mode : WalkMode) (left : ℕ) (again : Onward S F) (onward : AgainWell again) where
    shown : (l : LookedAt S) (slash : Bool) (found : Option F) (seen : Seen S F) → Good l.place → Fine l → looking.look l.place l.component ≡ seen → Shows seen found → P (target_at l.place l.component slash found)
    shown l slash found seen good fine looks shows =
        let Q : Seen S F → Type 0 = λ seen. Shows seen found in
        kept.component l slash found good fine (subst Q (sym looks) shows)

    last_well : (l : LookedAt S) (slash : Bool) (seen : Seen S F) → Good l.place → Fine l → looking.look l.place l.component ≡ seen → EndsWell (at_last looking mode left again l.place l.component slash seen)
    last_well l slash (Fails e) good fine looks = failed e
    last_well l slash Missing good fine looks =
        either_way (may_be_free mode) (ends (target_at l.place l.component slash None)) (fails ENOENT) (ended _ (shown l slash None Missing good fine looks refl)) (failed ENOENT)
    last_well l slash (Leads is_dir q f) good fine looks =
        ends_found_well mode slash is_dir (target_at l.place l.component slash (Some f)) (shown l slash (Some f) (Leads is_dir q f) good fine looks refl)
    last_well l slash (Links f text) good fine looks =
        either_way (is_followed mode slash) (again (begins_at looking l.place text) (components_of text) (slash || has_slash text)) (ends (target_at l.place l.component slash (Some f)))
        (onward (begins_at looking l.place text) (components_of text) (slash || has_slash text) (begins l.place text good)) (ended _ (shown l slash (Some f) (Links f text) good fine looks refl))
    last_well l slash (Jumps f lead) good fine looks =
        either_way (is_followed mode slash) (jumps_on left (ends_landed mode slash) lead) (ends (target_at l.place l.component slash (Some f)))
        (jumps_well left (ends_landed mode slash) lead (λ to is. ends_found_well mode slash to.is_dir (landed to slash) (kept.landing l slash f to good fine (looks ∙ ap (Jumps f) is))))
        (ended _ (shown l slash (Some f) (Jumps f lead) good fine looks refl))

    middle_well : (s : S) (rest : List Component) (slash : Bool) (go : S → Trail S F) (seen : Seen S F) → Good s → GoesOn Good seen → ((q : S) → Good q → EndsWell (go q))
        → EndsWell (in_middle looking left again s rest slash go seen)
    middle_well s rest slash go (Fails e) good on each = failed e
    middle_well s rest slash go Missing good on each = failed ENOENT
    middle_well s rest slash go (Leads is_dir q f) good on each = each q on
    middle_well s rest slash go (Links f text) good on each = onward (begins_at looking s text) (components_of text ++ rest) slash (begins s text good)
    middle_well s rest slash go (Jumps f lead) good on each =
        jumps_well left (λ l. again l.place rest slash) lead
        (λ l is. onward l.place rest slash (let Q : Option (Landing S F) → Type 0 = λ o. GoesOn Good (Jumps f o) in subst Q is on))

    along_well : (cs : List Component) (s : S) (slash : Bool) → Good s → EndsWell (along looking mode left again s cs slash)
    along_well [] s slash good = ended (here looking s slash) (kept.beginning s slash good)
    along_well (c ∷ []) s slash good =
        let l : LookedAt S = record { place = s; component = c; is_last = true } in
        looked l (at_last looking mode left again s c slash (looking.look s c)) good (λ fine. last_well l slash (looking.look s c) good fine refl)
    along_well (c ∷ d ∷ cs) s slash good =
        let l : LookedAt S = record { place = s; component = c; is_last = false } in
        let go : S → Trail S F = λ q. along looking mode left again q (d ∷ cs) slash in
        looked l (in_middle looking left again s (d ∷ cs) slash go (looking.look s c)) good
        (λ fine. middle_well s (d ∷ cs) slash go (looking.look s c) good (kept.looks l good fine) (λ q. along_well (d ∷ cs) q slash))

  pub walk_well : (mode : WalkMode) (left : ℕ) (s : S) (cs : List Component) (slash : Bool) → Good s → EndsWell (walk_on looking mode left s cs slash)
  unfolding walk_on
  walk_well mode zero s cs slash good = along_well mode zero loops (λ s cs slash good. failed ELOOP) cs s slash good
  walk_well mode (suc left) s cs slash good = along_well mode (suc left) (walk_on looking mode left) (walk_well mode left) cs s slash good

  pub path_well : (mode : WalkMode) (base : S) (path : List ℕ) → Good base → All Fine (walk looking mode base path).looks → IsKeptAlong Good Fine looking P mode base path
  path_well mode base path good all =
      let h = walk_well mode most_links (begins_at looking base path) (components_of path) (has_slash path) (begins base path good) all in
      record { looks = h.looks; target = h.target }

pub walks_keep : {S F : Type 0} (Good : S → Type 0) (Fine : LookedAt S → Type 0) (P : Target S F → Type 0) → WalksKeep Good Fine P
walks_keep Good Fine P looking mode base path kept good all = path_well Good Fine looking P kept mode base path good all
