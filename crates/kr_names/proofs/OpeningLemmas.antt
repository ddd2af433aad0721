-- Files to be opened, by their targets.
use Rattle.std.proofs.Common.{◌≡◌, ℕ, Bool, true, false, List, Option, Some, None, refl, sym, ap, subst, ◌∙◌}
use Rattle.std.specs.Bool.{if◌then◌else◌}
use Rattle.std.specs.Option.{option_map, option_map_or}
use Rattle.kr_seen.specs.pr_base.declared.errno.Errno.TheVariants.{ENOENT}
use Rattle.kr_seen.specs.pr_base.declared.path.Last.{Last}
use Rattle.kr_seen.specs.pr_base.declared.path.Last.TheVariants as last
use Rattle.kr_seen.specs.kr_tree.declared.place.Host.{Host}
use Rattle.kr_seen.specs.kr_tree.declared.place.Place.{Place}
use Rattle.kr_seen.specs.kr_tree.Tree.{Tree}
use Rattle.kr_seen.specs.kr_view.declared.target.Target.{Target}
use Rattle.kr_seen.specs.kr_view.InTree.{IsObjectOf}
use Rattle.kr_seen.specs.kr_view.Leads.{numbered}
use Rattle.kr_seen.specs.kr_view.View.{Row}
use Rattle.kr_seen.specs.kr_model.FileRows.{creates}
use Rattle.kr_seen.specs.kr_model.Seen.{Looked, OpensFound, OpensNew, OpensNoName, OpensSlashed, Seen, Opens, WalkFails}
use Rattle.kr_seen.specs.kr_model.State.{Image, State}
use Rattle.kr_seen.specs.kr_model.Walks.{if_name, looked_at, opened_at}
use Rattle.kr_seen.specs.Placed.{placed_in}
use Rattle.kr_seen.specs.Resolved.{IsFoundIn, IsFreeIn}
use Rattle.kr_names.specs.Adding.{IsFreeName}
use Rattle.kr_names.proofs.MadeLemmas.{none-before}

-- what is told of an opening, by its parts
abbrev opened_by : Bool → Last → Bool → Option (Place ℕ) → (Place ℕ → Looked) → Host → List ℕ → Seen
opened_by b kind slash found look h n =
    if b then Opens (if_name kind (if slash then OpensSlashed else option_map_or (λ p. OpensFound (look p)) found (OpensNew h n)) (OpensNoName kind))
    else option_map_or (λ p. Opens (OpensFound (look p))) found (WalkFails ENOENT)

found-by : (b : Bool) (kind : Last) (slash : Bool) (found : Option (Place ℕ)) (look : Place ℕ → Looked) (h : Host) (n : List ℕ) (l : Looked) → ((p : Place ℕ) → (look p).host ≡ p.host)
    → Opens (OpensFound l) ≡ opened_by b kind slash found look h n → (p : Place ℕ) × (found ≡ Some p) × (l.host ≡ p.host)
found-by true last.Name true found look h n l hosts e = absurd cc
found-by true last.Name false None look h n l hosts e = absurd cc
found-by true last.Name false (Some p) look h n l hosts e = let same : l ≡ look p = cc in (p, refl, ap (λ (l : Looked). l.host) same ∙ hosts p)
found-by true last.Dot slash found look h n l hosts e = absurd cc
found-by true last.DotDot slash found look h n l hosts e = absurd cc
found-by true last.Root slash found look h n l hosts e = absurd cc
found-by false kind slash None look h n l hosts e = absurd cc
found-by false kind slash (Some p) look h n l hosts e = let same : l ≡ look p = cc in (p, refl, ap (λ (l : Looked). l.host) same ∙ hosts p)

-- what a target has where a file may be made
record IsNewFile (kind : Last) (at : Option (Place ℕ)) (h d : Host) (n m : List ℕ) : Type 0 where
  named : kind ≡ last.Name
  free : at ≡ None
  dir : d ≡ h
  name : m ≡ n

new-by : (b : Bool) (kind : Last) (slash : Bool) (found : Option (Place ℕ)) (look : Place ℕ → Looked) (h d : Host) (n m : List ℕ) → Opens (OpensNew d m) ≡ opened_by b kind slash found look h n → IsNewFile kind found h d n m
new-by true last.Name true found look h d n m e = absurd cc
new-by true last.Name false None look h d n m e = record { named = refl; free = refl; dir = cc; name = cc }
new-by true last.Name false (Some p) look h d n m e = absurd cc
new-by true last.Dot slash found look h d n m e = absurd cc
new-by true last.DotDot slash found look h d n m e = absurd cc
new-by true last.Root slash found look h d n m e = absurd cc
new-by false kind slash None look h d n m e = absurd cc
new-by false kind slash (Some p) look h d n m e = absurd cc

placed-object : {T : Type 0} (number : T → ℕ) (o : Option (Place T)) (p : Place ℕ) → option_map (numbered number) o ≡ Some p → (q : Place T) × (o ≡ Some q) × (p.host ≡ q.host)
placed-object number None p e = absurd cc
placed-object number (Some q) p e = let same : numbered number q ≡ p = cc in (q, refl, ap (λ (p : Place ℕ). p.host) (sym same))

module _ {T : Type 0} (number : T → ℕ) (table : List Row) (pid : ℕ) (s : State ℕ Image) (flags : ℕ) (target : Target T) where
  module _ (l : Looked) (told : Opens (OpensFound l) ≡ opened_at table pid s flags (placed_in number target)) where
    pub opened-place : (q : Place T) × (target.found ≡ Some q) × (l.host ≡ q.host)
    opened-place =
        let p = found-by (creates flags) target.last target.slash (option_map (numbered number) target.found) (looked_at table pid s (placed_in number target)) target.dir.host target.name l (λ p. refl) told in
        let q = placed-object number target.found p.0 p.1 in
        (q.0, q.1, p.2 ∙ q.2)

    pub opened-object : (t : Tree) → IsFoundIn t target → IsObjectOf t l.host
    opened-object t found = let P : Host → Type 0 = λ h. IsObjectOf t h in subst P (sym opened-place.2) (found opened-place.0 opened-place.1)

  module _ (d : Host) (name : List ℕ) (told : Opens (OpensNew d name) ≡ opened_at table pid s flags (placed_in number target)) where
    new : IsNewFile target.last (option_map (numbered number) target.found) target.dir.host d target.name name
    new = new-by (creates flags) target.last target.slash (option_map (numbered number) target.found) (looked_at table pid s (placed_in number target)) target.dir.host d target.name name told

    pub new-dir : d ≡ target.dir.host
    new-dir = new.dir

    pub new-free : (t : Tree) → IsFreeIn t target → IsFreeName t d name
    new-free t free =
        subst (λ (n : List ℕ). IsFreeName t d n) (sym new.name) (λ dir at takes. free dir new.named (none-before (numbered number) target.found new.free) (sym new.dir ∙ at) takes)
