-- The walk, one component at a time.
use Rattle.std.proofs.Common.{◌≡◌, ◌≢◌, ◌-◌, ℕ, zero, suc, Bool, true, false, List, [], ◌∷◌, refl, ap, arith}
use Rattle.pr_base.specs.Paths.{Component}
use Rattle.pr_base.specs.declared.errno.Errno.TheVariants.{ELOOP}
use Rattle.pr_base.specs.declared.path.WalkMode.{WalkMode}
use Rattle.pr_base.specs.WalkFrame.{Looking, fails, ends_here, after_look, in_middle, at_last, onward, walk_on}
use Rattle.pr_base.specs.WalkLaws.{WalksGoByComponents}

module _ {S F : Type 0} (looking : Looking S F) (mode : WalkMode) where
  -- without a component a walk ends where it is
  pub walk-none : (left : ℕ) (s : S) (slash : Bool) → walk_on looking mode left s [] slash ≡ ends_here looking s slash
  unfolding walk_on
  walk-none zero s slash = refl
  walk-none (suc left) s slash = refl

  pub walk-last :
      (left : ℕ) (s : S) (c : Component) (slash : Bool) →
      walk_on looking mode left s (c ∷ []) slash ≡
      after_look (record { place = s; component = c; is_last = true }) (at_last looking mode left (onward looking mode left) s c slash (looking.look s c))
  unfolding walk_on
  walk-last zero s c slash = refl
  walk-last (suc left) s c slash = refl

  pub walk-middle :
      (left : ℕ) (s : S) (c d : Component) (cs : List Component) (slash : Bool) →
      walk_on looking mode left s (c ∷ d ∷ cs) slash ≡
      after_look (record { place = s; component = c; is_last = false })
      (in_middle looking left (onward looking mode left) s (d ∷ cs) slash (λ q. walk_on looking mode left q (d ∷ cs) slash) (looking.look s c))
  unfolding walk_on
  walk-middle zero s c d cs slash = refl
  walk-middle (suc left) s c d cs slash = refl

  -- a link that may be followed leaves one less
  pub onward-less : (left : ℕ) (s : S) (cs : List Component) (slash : Bool) → left ≢ 0 → onward looking mode left s cs slash ≡ walk_on looking mode (left - 1) s cs slash
  onward-less zero s cs slash some = absurd (some refl)
  onward-less (suc left) s cs slash some = let one : left ≡ suc left - 1 = omega arith in ap (λ n. walk_on looking mode n s cs slash) one

  pub onward-none : (left : ℕ) (s : S) (cs : List Component) (slash : Bool) → left ≡ 0 → onward looking mode left s cs slash ≡ fails ELOOP
  onward-none zero s cs slash e = refl
  onward-none (suc left) s cs slash e = absurd (omega arith)

pub walks_go_by_components : (S F : Type 0) → WalksGoByComponents S F
walks_go_by_components S F = record { none = walk-none; one = walk-last; more = walk-middle }
