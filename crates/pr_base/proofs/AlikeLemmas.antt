-- Two walks over ways of looking that are alike end alike.
use Rattle.std.proofs.Common.{◌≡◌, ℕ, zero, suc, Bool, true, false, cond, Option, Some, None, Result, Ok, Err, List, [], ◌∷◌, refl, ap, subst, All}
use Rattle.std.specs.Prelude.{◌||◌}
use Rattle.std.specs.Bool.{if◌then◌else◌}
use Rattle.std.proofs.lemmas.List.Elements.{All-head, All-tail, All-append}
use Rattle.pr_base.specs.Paths.{Component, components_of, is_absolute, has_slash}
use Rattle.pr_base.specs.declared.errno.Errno.{Errno}
use Rattle.pr_base.specs.declared.errno.Errno.TheVariants.{ENOENT, ENOTDIR, ELOOP}
use Rattle.pr_base.specs.declared.path.WalkMode.{WalkMode}
use Rattle.pr_base.specs.WalkFrame.{Seen, Landing, Looking, Target, Trail, Onward, loops, fails as failed, ends as ended, begins_at, target_at, is_followed, wants_directory, may_be_free, landed, ends_found, ends_landed, jumps_on, in_middle, at_last, along, walk_on, walk, most_links}
use Rattle.pr_base.specs.Alike.{Likeness, OptionAlike, neither, both, LandingAlike, SeenAlike, fails, missing, leads, links, jumps, LooksAlike, TargetAlike, Alike, errs, ends, WalksEndAlike}
use Rattle.pr_base.proofs.TextLemmas.{some_is}

module _ {S F T G : Type 0} (like : Likeness S F T G) (one : Looking S F) (two : Looking T G) (mode : WalkMode) (alike : LooksAlike like one two mode) where
  unjumped : false ≡ true → ⊥
  unjumped e = cc

  -- what comes after a followed link is alike
  AgainAlike : Onward S F → Onward T G → Type 0
  AgainAlike x y = (s : S) (t : T) (cs : List Component) (slash : Bool) → like.places s t → All like.fine cs → Alike like (x s cs slash).answer (y t cs slash).answer

  choice : (b : Bool) (x x' : Trail S F) (y y' : Trail T G) → Alike like x.answer y.answer → Alike like x'.answer y'.answer → Alike like (if b then x else x').answer (if b then y else y').answer
  choice true x x' y y' h h' = h
  choice false x x' y y' h h' = h'

  choice_known : (b : Bool) (x x' : Trail S F) (y y' : Trail T G) → Alike like x.answer y.answer → (b ≡ false → Alike like x'.answer y'.answer) → Alike like (if b then x else x').answer (if b then y else y').answer
  choice_known true x x' y y' h h' = h
  choice_known false x x' y y' h h' = h' refl

  begins_alike : (s : S) (t : T) (text : List ℕ) → like.places s t → like.places (begins_at one s text) (begins_at two t text)
  begins_alike s t text r = elim (is_absolute text) as (λ b. like.places (cond b one.root s) (cond b two.root t)) [ true ↦ alike.roots | false ↦ r ]

  target_alike : (s : S) (t : T) (c : Component) (slash : Bool) (f : Option F) (g : Option G) → like.fine c → like.places s t → OptionAlike like.found f g → TargetAlike like (target_at s c slash f) (target_at t c slash g)
  target_alike s t c slash f g fine r q = record { dir = λ _. r; name = refl; last = refl; slash = refl; jumped = refl; found = q; landed = λ no. absurd (unjumped no); component = λ _ _. (c, refl, refl, fine) }

  found_alike : (is_dir : Bool) (a : Target S F) (b : Target T G) → TargetAlike like a b → Alike like (ends_found mode is_dir a).answer (ends_found mode is_dir b).answer
  found_alike is_dir a b k =
      subst (λ sl. Alike like (ends_found mode is_dir a).answer (if wants_directory mode sl then (if is_dir then ended b else failed ENOTDIR) else ended b).answer) k.slash
      (choice (wants_directory mode a.slash) (if is_dir then ended a else failed ENOTDIR) (ended a) (if is_dir then ended b else failed ENOTDIR) (ended b)
      (choice is_dir (ended a) (failed ENOTDIR) (ended b) (failed ENOTDIR) (ends k) (errs ENOTDIR)) (ends k))

  landed_alike : (slash : Bool) (a : Landing S F) (b : Landing T G) → LandingAlike like a b → Alike like (ends_landed mode slash a).answer (ends_landed mode slash b).answer
  landed_alike slash a b k =
      let x : Target S F = landed a slash in
      let y : Target T G = landed b slash in
      let same : TargetAlike like x y = record { dir = λ no. let clash : true ≡ false = no in cc; name = k.name; last = refl; slash = refl; jumped = refl; found = both k.found; landed = λ _ f g ef eg. subst (λ f. like.entries a.dir a.name f g) (some_is a.found f ef) (subst (λ g. like.entries a.dir a.name a.found g) (some_is b.found g eg) k.entry); component = λ e. let clash : true ≡ false = e in absurd cc } in
      subst (λ d. Alike like (ends_found mode a.is_dir x).answer (ends_found mode d y).answer) k.is_dir (found_alike a.is_dir x y same)

  jumps_alike : (left : ℕ) (x : Landing S F → Trail S F) (y : Landing T G → Trail T G) (a : Option (Landing S F)) (b : Option (Landing T G))
      → ((l : Landing S F) (m : Landing T G) → LandingAlike like l m → Alike like (x l).answer (y m).answer) → OptionAlike (LandingAlike like) a b → Alike like (jumps_on left x a).answer (jumps_on left y b).answer
  jumps_alike zero x y a b each k = errs ELOOP
  jumps_alike (suc left) x y _ _ each neither = errs ENOENT
  jumps_alike (suc left) x y _ _ each (both k) = each _ _ k

  middle_alike : (left : ℕ) (x : Onward S F) (y : Onward T G) → AgainAlike x y → (s : S) (t : T) (rest : List Component) (slash : Bool) (go : S → Trail S F) (gone : T → Trail T G) → like.places s t → All like.fine rest
      → ((q : S) (u : T) → like.places q u → Alike like (go q).answer (gone u).answer) → (a : Seen S F) (b : Seen T G) → SeenAlike like a b
      → Alike like (in_middle one left x s rest slash go a).answer (in_middle two left y t rest slash gone b).answer
  unfolding AgainAlike
  middle_alike left x y ag s t rest slash go gone r fine g _ _ (fails e) = errs e
  middle_alike left x y ag s t rest slash go gone r fine g _ _ missing = errs ENOENT
  middle_alike left x y ag s t rest slash go gone r fine g _ _ (leads d q f) = g _ _ q
  middle_alike left x y ag s t rest slash go gone r fine g _ _ (links text q) = ag _ _ _ slash (begins_alike s t text r) (All-append like.fine _ rest (alike.texts text) fine)
  middle_alike left x y ag s t rest slash go gone r fine g _ _ (jumps q k) = jumps_alike left _ _ _ _ (λ l m k. ag _ _ rest slash k.place fine) k

  last_alike : (left : ℕ) (x : Onward S F) (y : Onward T G) → AgainAlike x y → (s : S) (t : T) (c : Component) (slash : Bool) → like.fine c → like.places s t → (a : Seen S F) (b : Seen T G) → SeenAlike like a b
      → Alike like (at_last one mode left x s c slash a).answer (at_last two mode left y t c slash b).answer
  unfolding AgainAlike
  last_alike left x y ag s t c slash fine r _ _ (fails e) = errs e
  last_alike left x y ag s t c slash fine r _ _ missing = choice (may_be_free mode) _ _ _ _ (ends (target_alike s t c slash None None fine r neither)) (errs ENOENT)
  last_alike left x y ag s t c slash fine r _ _ (leads d q f) = found_alike d _ _ (target_alike s t c slash _ _ fine r (both f))
  last_alike left x y ag s t c slash fine r _ _ (links text q) =
      choice_known (is_followed mode slash) _ _ _ _ (ag _ _ _ (slash || has_slash text) (begins_alike s t text r) (alike.texts text)) (λ e. ends (target_alike s t c slash _ _ fine r (both (alike.unfollowed slash _ _ e q))))
  last_alike left x y ag s t c slash fine r _ _ (jumps q k) =
      choice_known (is_followed mode slash) _ _ _ _ (jumps_alike left _ _ _ _ (landed_alike slash) k) (λ e. ends (target_alike s t c slash _ _ fine r (both (alike.unfollowed slash _ _ e q))))

  along_alike : (left : ℕ) (x : Onward S F) (y : Onward T G) → AgainAlike x y → (s : S) (t : T) (cs : List Component) (slash : Bool) → like.places s t → All like.fine cs
      → Alike like (along one mode left x s cs slash).answer (along two mode left y t cs slash).answer
  along_alike left x y ag s t [] slash r fine = ends (record { dir = λ _. r; name = refl; last = refl; slash = refl; jumped = refl; found = both (alike.heres s t r); landed = λ no. absurd (unjumped no); component = λ _ root. absurd (root refl) })
  along_alike left x y ag s t (c ∷ []) slash r fine =
      let own = All-head like.fine c [] fine in last_alike left x y ag s t c slash own r _ _ (alike.looks s t c r own)
  along_alike left x y ag s t (c ∷ d ∷ cs) slash r fine =
      let own = All-head like.fine c (d ∷ cs) fine in
      let others = All-tail like.fine c (d ∷ cs) fine in
      middle_alike left x y ag s t (d ∷ cs) slash _ _ r others (λ q u k. along_alike left x y ag q u (d ∷ cs) slash k others) _ _ (alike.looks s t c r own)

  pub walks_alike : (left : ℕ) (s : S) (t : T) (cs : List Component) (slash : Bool) → like.places s t → All like.fine cs → Alike like (walk_on one mode left s cs slash).answer (walk_on two mode left t cs slash).answer
  unfolding walk_on AgainAlike
  walks_alike zero s t cs slash r fine = along_alike zero loops loops (λ q u ds sl k f. errs ELOOP) s t cs slash r fine
  walks_alike (suc left) s t cs slash r fine = along_alike (suc left) (walk_on one mode left) (walk_on two mode left) (walks_alike left) s t cs slash r fine

  pub paths_alike : (s : S) (t : T) (path : List ℕ) → like.places s t → Alike like (walk one mode s path).answer (walk two mode t path).answer
  paths_alike s t path r = walks_alike most_links (begins_at one s path) (begins_at two t path) (components_of path) (has_slash path) (begins_alike s t path r) (alike.texts path)

pub walks_end_alike : {S F T G : Type 0} (like : Likeness S F T G) → WalksEndAlike like
walks_end_alike like one two mode s t path alike = paths_alike like one two mode alike s t path

-- ---- what alike answers tell

module _ {S F T G : Type 0} (like : Likeness S F T G) where
  -- where one walk ends, the other does
  pub alike_ok : (a : Target S F) (x : Result (Target S F) Errno) (y : Result (Target T G) Errno) → Alike like x y → x ≡ Ok a → (b : Target T G) × (y ≡ Ok b) × TargetAlike like a b
  alike_ok a _ _ (errs e) h = absurd cc
  alike_ok a _ _ (ends {a = c} {b = b} k) h = let same : c ≡ a = cc in (b, refl, subst (λ c. TargetAlike like c b) same k)

  -- where one walk is refused, the other is for the same reason
  pub alike_err : (e : Errno) (x : Result (Target S F) Errno) (y : Result (Target T G) Errno) → Alike like x y → x ≡ Err e → y ≡ Err e
  alike_err e _ _ (errs d) h = let same : d ≡ e = cc in ap Err same
  alike_err e _ _ (ends k) h = absurd cc

-- what one finds, the other does
pub alike_some : {F G : Type 0} (Q : F → G → Type 0) (x : Option F) (y : Option G) (p : F) → OptionAlike Q x y → x ≡ Some p → (u : G) × (y ≡ Some u) × Q p u
alike_some Q _ _ p neither h = absurd cc
alike_some Q _ _ p (both {a = a} {b = b} q) h = (b, refl, subst (λ a. Q a b) (some_is a p h) q)
