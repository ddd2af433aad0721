-- A walk to a name doesn't follow a process link as its last component.
use Rattle.std.proofs.Common.{◌≡◌, ℕ, zero, suc, Bool, false, List, [], ◌∷◌, ◌++◌, refl, Ok}
use Rattle.kr_tree.specs.pr_base.Paths.{Component, components_of, has_slash}
use Rattle.kr_tree.specs.pr_base.WalkFrame.{Seen, Fails, Missing, Leads, Links, Jumps, Looking, Target, Trail, Onward, begins_at, loops, here, in_middle, at_last, along, walk_on, walk, most_links}
use Rattle.kr_tree.specs.pr_base.declared.errno.Errno.TheVariants.{ENOENT, ELOOP}
use Rattle.kr_tree.specs.pr_base.declared.path.WalkMode.TheVariants.{Name as NameMode}
use Rattle.kr_tree.proofs.pr_base.EndLemmas.{EndsSo, failed, ended, jumps}

module _ {S F : Type 0} (looking : Looking S F) where
  abbrev Stays : Target S F → Type 0
  Stays t = t.jumped ≡ false

  module _ (left : ℕ) (again : Onward S F) (onward : (s : S) (cs : List Component) (slash : Bool) → EndsSo looking Stays (again s cs slash)) where
    last-stays : (s : S) (c : Component) (slash : Bool) (seen : Seen S F) → EndsSo looking Stays (at_last looking NameMode left again s c slash seen)
    last-stays s c slash (Fails e) = failed looking Stays e
    last-stays s c slash Missing = ended looking Stays _ refl
    last-stays s c slash (Leads is_dir q f) = ended looking Stays _ refl
    last-stays s c slash (Links f text) = ended looking Stays _ refl
    last-stays s c slash (Jumps f lead) = ended looking Stays _ refl

    middle-stays : (s : S) (rest : List Component) (slash : Bool) (go : S → Trail S F) (seen : Seen S F) → ((q : S) → EndsSo looking Stays (go q)) → EndsSo looking Stays (in_middle looking left again s rest slash go seen)
    middle-stays s rest slash go (Fails e) each = failed looking Stays e
    middle-stays s rest slash go Missing each = failed looking Stays ENOENT
    middle-stays s rest slash go (Leads is_dir q f) each = each q
    middle-stays s rest slash go (Links f text) each = onward (begins_at looking s text) (components_of text ++ rest) slash
    middle-stays s rest slash go (Jumps f lead) each = jumps looking Stays left (λ l. again l.place rest slash) lead (λ l is. onward l.place rest slash)

    along-stays : (cs : List Component) (s : S) (slash : Bool) → EndsSo looking Stays (along looking NameMode left again s cs slash)
    along-stays [] s slash = ended looking Stays (here looking s slash) refl
    along-stays (c ∷ []) s slash = last-stays s c slash (looking.look s c)
    along-stays (c ∷ d ∷ cs) s slash = middle-stays s (d ∷ cs) slash (λ q. along looking NameMode left again q (d ∷ cs) slash) (looking.look s c) (λ q. along-stays (d ∷ cs) q slash)

  walk-stays : (left : ℕ) (s : S) (cs : List Component) (slash : Bool) → EndsSo looking Stays (walk_on looking NameMode left s cs slash)
  unfolding walk_on
  walk-stays zero s cs slash = along-stays zero loops (λ s cs slash. failed looking Stays ELOOP) cs s slash
  walk-stays (suc left) s cs slash = along-stays (suc left) (walk_on looking NameMode left) (walk-stays left) cs s slash

  pub names-stay : (base : S) (path : List ℕ) (t : Target S F) → (walk looking NameMode base path).answer ≡ Ok t → t.jumped ≡ false
  names-stay base path = walk-stays most_links (begins_at looking base path) (components_of path) (has_slash path)
