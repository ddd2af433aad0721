-- A walk that asks for what a path names finds something.
use Rattle.std.proofs.Common.{◌≡◌, ℕ, zero, suc, Bool, ◌||◌, List, ◌∷◌, ◌++◌, Some, Ok, refl, []}
use Rattle.std.specs.Bool.{if◌then◌else◌}
use Rattle.std.specs.Prelude.{IsSome}
use Rattle.kr_first.specs.pr_base.Paths.{Component, components_of, has_slash}
use Rattle.kr_first.specs.pr_base.WalkFrame.{Seen, Fails, Missing, Leads, Links, Jumps, Looking, Target, Trail, Onward, fails, ends, begins_at, loops, target_at, here, ends_landed, in_middle, at_last, along, walk, walk_on, most_links}
use Rattle.kr_first.specs.pr_base.declared.errno.Errno.TheVariants.{ELOOP, ENOENT, ENOTDIR}
use Rattle.kr_first.specs.pr_base.declared.path.WalkMode.TheVariants.{Look}
use Rattle.kr_first.proofs.pr_base.EndLemmas.{EndsSo, either_way, ended, failed, jumps, lands}

module _ {S F : Type 0} (looking : Looking S F) where
  abbrev IsFound : Target S F → Type 0
  IsFound t = IsSome t.found

  abbrev EndsFound : Trail S F → Type 0
  EndsFound trail = EndsSo looking IsFound trail

  module _ (left : ℕ) (again : Onward S F) (onward : (s : S) (cs : List Component) (slash : Bool) → EndsFound (again s cs slash)) where
    found-last : (s : S) (c : Component) (slash : Bool) (seen : Seen S F) → EndsFound (at_last looking Look left again s c slash seen)
    found-last s c slash (Fails e) = failed looking IsFound e
    found-last s c slash Missing = failed looking IsFound ENOENT
    found-last s c slash (Leads is_dir q f) =
        let t = target_at s c slash (Some f) in
        either_way looking IsFound slash (if is_dir then ends t else fails ENOTDIR) (ends t) (either_way looking IsFound is_dir (ends t) (fails ENOTDIR) (ended looking IsFound t refl) (failed looking IsFound ENOTDIR)) (ended looking IsFound t refl)
    found-last s c slash (Links f text) = onward (begins_at looking s text) (components_of text) (slash || has_slash text)
    found-last s c slash (Jumps f lead) = jumps looking IsFound left (ends_landed Look slash) lead (λ l is. lands looking IsFound Look slash l refl)

    found-middle : (s : S) (d : Component) (cs : List Component) (slash : Bool) (go : S → Trail S F) (seen : Seen S F) → ((q : S) → EndsFound (go q)) → EndsFound (in_middle looking left again s (d ∷ cs) slash go seen)
    found-middle s d cs slash go (Fails e) each = failed looking IsFound e
    found-middle s d cs slash go Missing each = failed looking IsFound ENOENT
    found-middle s d cs slash go (Leads is_dir q f) each = each q
    found-middle s d cs slash go (Links f text) each = onward (begins_at looking s text) (components_of text ++ d ∷ cs) slash
    found-middle s d cs slash go (Jumps f lead) each = jumps looking IsFound left (λ l. again l.place (d ∷ cs) slash) lead (λ l is. onward l.place (d ∷ cs) slash)

    found-along : (cs : List Component) (s : S) (slash : Bool) → EndsFound (along looking Look left again s cs slash)
    found-along [] s slash = ended looking IsFound (here looking s slash) refl
    found-along (c ∷ []) s slash = found-last s c slash (looking.look s c)
    found-along (c ∷ d ∷ cs) s slash = found-middle s d cs slash (λ q. along looking Look left again q (d ∷ cs) slash) (looking.look s c) (λ q. found-along (d ∷ cs) q slash)

  found-walk : (left : ℕ) (s : S) (cs : List Component) (slash : Bool) → EndsFound (walk_on looking Look left s cs slash)
  unfolding walk_on
  found-walk zero s cs slash = found-along zero loops (λ s cs slash. failed looking IsFound ELOOP) cs s slash
  found-walk (suc left) s cs slash = found-along (suc left) (walk_on looking Look left) (found-walk left) cs s slash

  pub looked-is-found : (base : S) (path : List ℕ) (t : Target S F) → (walk looking Look base path).answer ≡ Ok t → IsSome t.found
  looked-is-found base path = found-walk most_links (begins_at looking base path) (components_of path) (has_slash path)
