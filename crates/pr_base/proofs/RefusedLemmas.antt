-- A walk that doesn't answer an error has no look that fails by it.
use Rattle.std.proofs.Common.{◌≡◌, ◌≢◌, ℕ, zero, suc, Bool, true, false, ◌||◌, List, [], ◌∷◌, ◌++◌, Option, Some, None, Ok, Err, All, ap}
use Rattle.std.specs.Bool.{if◌then◌else◌}
use Rattle.std.proofs.lemmas.List.Elements.{All-nil, All-cons}
use Rattle.pr_base.specs.Paths.{Component, components_of, has_slash}
use Rattle.pr_base.specs.WalkFrame.{Seen, Fails, Missing, Leads, Links, Jumps, Looking, LookedAt, Landing, Target, Trail, Onward, fails, ends, ends_landed, begins_at, target_at, landed, is_followed, may_be_free, wants_directory, loops, jumps_on, in_middle, at_last, along, walk_on, walk, most_links}
use Rattle.pr_base.specs.declared.errno.Errno.{Errno}
use Rattle.pr_base.specs.declared.errno.Errno.TheVariants.{ENOENT, ENOTDIR, ELOOP}
use Rattle.pr_base.specs.declared.path.WalkMode.{WalkMode}

module _ {S F : Type 0} (looking : Looking S F) (mode : WalkMode) (e : Errno) where
  abbrev pub Passes : LookedAt S → Type 0
  Passes l = looking.look l.place l.component ≢ Fails e

  abbrev pub Unrefused : Trail S F → Type 0
  Unrefused trail = trail.answer ≢ Err e → All Passes trail.looks

  abbrev UnrefusedOn : Onward S F → Type 0
  UnrefusedOn again = (s : S) (cs : List Component) (slash : Bool) → Unrefused (again s cs slash)

  failed : (f : Errno) → Unrefused (fails f)
  failed f h = All-nil Passes

  ended : (target : Target S F) → Unrefused (ends target)
  ended target h = All-nil Passes

  either_way : (b : Bool) (x y : Trail S F) → Unrefused x → Unrefused y → Unrefused (if b then x else y)
  either_way true x y p q = p
  either_way false x y p q = q

  found : (slash is_dir : Bool) (t : Target S F) → Unrefused (if wants_directory mode slash then (if is_dir then ends t else fails ENOTDIR) else ends t)
  found slash is_dir t =
      either_way (wants_directory mode slash) (if is_dir then ends t else fails ENOTDIR) (ends t) (either_way is_dir (ends t) (fails ENOTDIR) (ended t) (failed ENOTDIR)) (ended t)

  jumps : (left : ℕ) (go : Landing S F → Trail S F) (lead : Option (Landing S F)) → ((l : Landing S F) → Unrefused (go l)) → Unrefused (jumps_on left go lead)
  jumps zero go lead each = failed ELOOP
  jumps (suc left) go None each = failed ENOENT
  jumps (suc left) go (Some l) each = each l

  module _ (left : ℕ) (again : Onward S F) (onward : UnrefusedOn again) where
    last_passes : (s : S) (c : Component) (slash : Bool) (seen : Seen S F) → Unrefused (at_last looking mode left again s c slash seen)
    last_passes s c slash (Fails f) = failed f
    last_passes s c slash Missing = either_way (may_be_free mode) (ends (target_at s c slash None)) (fails ENOENT) (ended (target_at s c slash None)) (failed ENOENT)
    last_passes s c slash (Leads is_dir q f) = found slash is_dir (target_at s c slash (Some f))
    last_passes s c slash (Links f text) =
        either_way (is_followed mode slash) (again (begins_at looking s text) (components_of text) (slash || has_slash text)) (ends (target_at s c slash (Some f)))
        (onward (begins_at looking s text) (components_of text) (slash || has_slash text)) (ended (target_at s c slash (Some f)))
    last_passes s c slash (Jumps f lead) =
        either_way (is_followed mode slash) (jumps_on left (ends_landed mode slash) lead) (ends (target_at s c slash (Some f)))
        (jumps left (ends_landed mode slash) lead (λ l. found slash l.is_dir (landed l slash))) (ended (target_at s c slash (Some f)))

    middle_passes : (s : S) (rest : List Component) (slash : Bool) (go : S → Trail S F) (seen : Seen S F) → ((q : S) → Unrefused (go q)) → Unrefused (in_middle looking left again s rest slash go seen)
    middle_passes s rest slash go (Fails f) each = failed f
    middle_passes s rest slash go Missing each = failed ENOENT
    middle_passes s rest slash go (Leads is_dir q f) each = each q
    middle_passes s rest slash go (Links f text) each = onward (begins_at looking s text) (components_of text ++ rest) slash
    middle_passes s rest slash go (Jumps f lead) each = jumps left (λ l. again l.place rest slash) lead (λ l. onward l.place rest slash)

    along_passes : (cs : List Component) (s : S) (slash : Bool) → Unrefused (along looking mode left again s cs slash)
    along_passes [] s slash h = All-nil Passes
    along_passes (c ∷ []) s slash h =
        All-cons Passes (record { place = s; component = c; is_last = true }) (at_last looking mode left again s c slash (looking.look s c)).looks
        (λ is. h (ap (λ seen. (at_last looking mode left again s c slash seen).answer) is)) (last_passes s c slash (looking.look s c) h)
    along_passes (c ∷ d ∷ cs) s slash h =
        let go : S → Trail S F = λ q. along looking mode left again q (d ∷ cs) slash in
        All-cons Passes (record { place = s; component = c; is_last = false }) (in_middle looking left again s (d ∷ cs) slash go (looking.look s c)).looks
        (λ is. h (ap (λ seen. (in_middle looking left again s (d ∷ cs) slash go seen).answer) is))
        (middle_passes s (d ∷ cs) slash go (looking.look s c) (λ q. along_passes (d ∷ cs) q slash) h)

  walk_passes : (left : ℕ) (s : S) (cs : List Component) (slash : Bool) → Unrefused (walk_on looking mode left s cs slash)
  unfolding walk_on
  walk_passes zero s cs slash = along_passes zero loops (λ s cs slash. failed ELOOP) cs s slash
  walk_passes (suc left) s cs slash = along_passes (suc left) (walk_on looking mode left) (walk_passes left) cs s slash

  pub path_passes : (base : S) (path : List ℕ) → Unrefused (walk looking mode base path)
  path_passes base path = walk_passes most_links (begins_at looking base path) (components_of path) (has_slash path)
