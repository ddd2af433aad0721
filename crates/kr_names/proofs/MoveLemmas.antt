-- Entries that are moved.
use Rattle.std.proofs.Common.{◌≡◌, ℕ, Bool, true, false, not, List, [], ◌∷◌, Option, Some, None, Result, Ok, Err, refl, sym, ap, ◌∙◌, arith, inl}
use mathlib.Core.Bool.{beq}
use Rattle.std.specs.Prelude.{◌&&◌, ◌||◌, ◌+◌}
use Rattle.std.specs.Bool.{if◌then◌else◌}
use Rattle.std.specs.Option.{option_map, option_map_or}
use Rattle.kr_seen.specs.pr_base.declared.errno.Errno.{Errno}
use Rattle.kr_seen.specs.pr_base.declared.errno.Errno.TheVariants.{EPERM, ENOENT, EACCES, EBUSY, ENOTDIR, EISDIR, EINVAL, ENOTEMPTY}
use Rattle.kr_seen.proofs.kr_inode.NameLemmas.{name_decides}
use Rattle.kr_seen.proofs.kr_tree.EntryLemmas.{entry_named_well}
use Rattle.kr_seen.specs.kr_tree.declared.place.Host.{Host}
use Rattle.kr_seen.specs.kr_tree.declared.place.Host.TheVariants as host
use Rattle.kr_seen.specs.kr_tree.declared.place.Place.{Place}
use Rattle.kr_seen.specs.kr_view.Leads.{numbered}
use Rattle.kr_seen.specs.kr_view.View.{Row}
use Rattle.kr_seen.specs.kr_view.declared.target.Target.{Target}
use Rattle.kr_seen.specs.pr_base.declared.path.Last.{Last}
use Rattle.kr_seen.specs.kr_tree.Lawful.{IsBelow, IsLawfulMove, IsSound}
use Rattle.kr_seen.specs.kr_tree.Names.{is_name}
use Rattle.kr_seen.specs.kr_tree.Rights.{is_kept_by_sticky}
use Rattle.kr_seen.specs.kr_tree.Tree.{Node, Tree, body_is, entry, is_directory, is_filled, takes_names}
use Rattle.kr_seen.specs.kr_model.Asking.{is_directory_host, is_processes_host, writable}
use Rattle.kr_seen.specs.kr_model.Change.{MoveName}
use Rattle.kr_seen.specs.kr_model.Known.{Known, known, known_node}
use Rattle.kr_seen.specs.kr_model.NameRows.{can_move, is_above_old, is_at_or_above, is_one, move_entry, move_found, move_free, move_onto, move_over, renameat2_row, unless_kept}
use Rattle.kr_seen.specs.kr_model.Reply.{Replying, done, refuse}
use Rattle.kr_seen.specs.kr_model.Seen.{Entered, Moves, Taken, Takes, TakesCovered, TakesNoName}
use Rattle.kr_seen.specs.kr_model.Walks.{taken_at}
use Rattle.kr_seen.specs.kr_model.State.{Image, State, image_layout}
use Rattle.kr_seen.specs.Asked.{IsTaking}
use Rattle.kr_seen.specs.Placed.{placed_in}
use Rattle.kr_seen.specs.Resolved.{IsFreeIn}
use Rattle.kr_seen.specs.Told.{entered_told}
use Rattle.kr_seen.specs.declared.told.Entered.{Entered as EnteredTold}
use Rattle.kr_names.specs.Adding.{IsFreeName}
use Rattle.kr_names.specs.Moving.{AnswersOnto, AnswersOver, IsLike}
use Rattle.kr_names.specs.declared.moving.Moving.{Moving}
use Rattle.kr_names.specs.Taking.{IsEntryOf}
use Rattle.kr_names.proofs.AboveLemmas.{below-within}
use Rattle.kr_names.proofs.TakeLemmas.{taken-dir, taken-found, taken-name, taken-named}
use Rattle.kr_names.proofs.NodeLemmas.{if-true, if-false}

-- ---- the tests of both entries

abbrev moves : ℕ → List ℕ → ℕ → List ℕ → Replying
moves d old to new = done 0 (MoveName d old to new ∷ [])

module _ (k : Known) (old new : Entered) (d to : ℕ) (n : Node) where
  pub free-goes : can_move k d to n ≡ true → move_free k old new d to n ≡ moves d old.name to new.name
  free-goes e = if-true (can_move k d to n) (moves d old.name to new.name) (refuse EACCES) e

  pub free-stays : can_move k d to n ≡ false → move_free k old new d to n ≡ refuse EACCES
  free-stays e = if-false (can_move k d to n) (moves d old.name to new.name) (refuse EACCES) e

  -- the tests where one entry takes the place of another
  abbrev by-kinds : Bool → Bool → Bool → Bool → Replying
  by-kinds can a b filled =
      if not can then refuse EACCES
      else if a && not b then refuse ENOTDIR
      else if b && not a then refuse EISDIR
      else if filled then refuse ENOTEMPTY
      else moves d old.name to new.name

  pub over-by : (x : Node) (can a b filled : Bool) → can_move k d to n ≡ can → is_directory n.body ≡ a → is_directory x.body ≡ b → is_filled x.body ≡ filled
      → move_over k old new d to n x ≡ by-kinds can a b filled
  over-by x can a b filled e f g h =
      ap (λ v. by-kinds v (is_directory n.body) (is_directory x.body) (is_filled x.body)) e ∙ ap (λ v. by-kinds can v (is_directory x.body) (is_filled x.body)) f
      ∙ ap (λ v. by-kinds can a v (is_filled x.body)) g ∙ ap (λ v. by-kinds can a b v) h

  pub alike-filled : (a : Bool) → by-kinds true a a true ≡ refuse ENOTEMPTY
  alike-filled true = refl
  alike-filled false = refl

  pub alike-goes : (a : Bool) → by-kinds true a a false ≡ moves d old.name to new.name
  alike-goes true = refl
  alike-goes false = refl

  module _ (dn tn : Node) where
    pub free-kept : is_kept_by_sticky k.user dn n ≡ true → move_onto k old new d to dn tn n None ≡ refuse EPERM
    free-kept e = if-true (is_kept_by_sticky k.user dn n) (refuse EPERM) (move_free k old new d to n) e

    pub free-left : is_kept_by_sticky k.user dn n ≡ false → move_onto k old new d to dn tn n None ≡ move_free k old new d to n
    free-left e = if-false (is_kept_by_sticky k.user dn n) (refuse EPERM) (move_free k old new d to n) e

    module _ (j : ℕ) where
      abbrev onto-new : Option Node → Replying
      onto-new o = option_map_or (λ x. unless_kept k tn x (move_over k old new d to n x)) o (refuse ENOENT)

      pub over-kept : is_kept_by_sticky k.user dn n ≡ true → move_onto k old new d to dn tn n (Some (host.Node j)) ≡ refuse EPERM
      over-kept e = if-true (is_kept_by_sticky k.user dn n) (refuse EPERM) (onto-new (known_node k j)) e

      over-left : is_kept_by_sticky k.user dn n ≡ false → move_onto k old new d to dn tn n (Some (host.Node j)) ≡ onto-new (known_node k j)
      over-left e = if-false (is_kept_by_sticky k.user dn n) (refuse EPERM) (onto-new (known_node k j)) e

      pub over-gone : is_kept_by_sticky k.user dn n ≡ false → known_node k j ≡ None → move_onto k old new d to dn tn n (Some (host.Node j)) ≡ refuse ENOENT
      over-gone e none = over-left e ∙ ap onto-new none

      module _ (x : Node) (left : is_kept_by_sticky k.user dn n ≡ false) (there : known_node k j ≡ Some x) where
        pub new-kept : is_kept_by_sticky k.user tn x ≡ true → move_onto k old new d to dn tn n (Some (host.Node j)) ≡ refuse EPERM
        new-kept e = over-left left ∙ ap onto-new there ∙ if-true (is_kept_by_sticky k.user tn x) (refuse EPERM) (move_over k old new d to n x) e

        pub new-left : is_kept_by_sticky k.user tn x ≡ false → move_onto k old new d to dn tn n (Some (host.Node j)) ≡ move_over k old new d to n x
        new-left e = over-left left ∙ ap onto-new there ∙ if-false (is_kept_by_sticky k.user tn x) (refuse EPERM) (move_over k old new d to n x) e

-- what is answered of the kinds is answered of both entries
pub onto-over : (k : Known) (m : Moving) (j : ℕ) (above below node x : Node) (r : Result (Unit {0}) Errno) → is_kept_by_sticky k.user above node ≡ false → known_node k j ≡ Some x → is_kept_by_sticky k.user below x ≡ false
    → AnswersOver k m node x r → AnswersOnto k m (Some (host.Node j)) above below node r
onto-over k m j above below node x (Ok u) e f g h = λ old new. new-left k old new m.dir m.to node above below j x e f g ∙ h old new
onto-over k m j above below node x (Err errno) e f g h = λ old new. new-left k old new m.dir m.to node above below j x e f g ∙ h old new

pub unlike : (a b : Bool) → not (beq a b) ≡ true → a ≡ true → b ≡ false
unlike true true h e = absurd cc
unlike true false h e = refl
unlike false b h e = absurd cc

pub alike : (a b : Bool) → not (beq a b) ≡ false → a ≡ b
alike true true h = refl
alike true false h = absurd cc
alike false true h = absurd cc
alike false false h = refl

-- ---- the directories

module _ {T : Type 0} (pid : ℕ) (s : State T Image) (old new : Entered) (i : ℕ) where
  abbrev k : Known
  k = known image_layout pid s

  pub old-refuses : (found : Host) (errno : Errno) → ((next : ℕ → Node → Replying) → writable k old.dir next ≡ refuse errno) → move_entry k old new found ≡ refuse errno
  old-refuses (host.Node j) errno h = h _
  old-refuses (host.Proc j at) errno h = h _

  module _ (d : ℕ) (t : IsTaking k old.dir d) where
    abbrev rest : Node → ℕ → Node → Option Node → Replying
    rest dn to tn o = option_map_or (λ n. move_onto k old new d to dn tn n new.found) o (refuse ENOENT)

    pub new-refuses : (errno : Errno) → ((next : ℕ → Node → Replying) → writable k new.dir next ≡ refuse errno) → move_entry k old new (host.Node i) ≡ refuse errno
    new-refuses errno h = t.goes_on _ ∙ h _

    module _ (to : ℕ) (u : IsTaking k new.dir to) where
      pub entry-there : (n : Node) → known_node k i ≡ Some n → move_entry k old new (host.Node i) ≡ move_onto k old new d to t.node u.node n new.found
      entry-there n there = t.goes_on _ ∙ u.goes_on _ ∙ ap (rest t.node to u.node) there

-- ---- the move itself

module _ {T : Type 0} (pid : ℕ) (s : State T Image) (sound : IsSound s.tree) where
  pub not-below : (top at : ℕ) → is_at_or_above (known image_layout pid s) (host.Node top) (host.Node at) ≡ false → ¬ IsBelow s.tree top at
  not-below top at e below =
      let within = below-within pid s sound top (s.tree.next + 2) 0 at (omega arith) (inl refl) below in
      absurd cc

module _ (t : Tree) (sound : IsSound t) (old new : EnteredTold) (found : Host) (dir to i : ℕ)
    (at : old.dir ≡ host.Node dir) (onto : new.dir ≡ host.Node to) (object : found ≡ host.Node i)
    (leaves : body_is takes_names t dir ≡ true) (takes : body_is takes_names t to ≡ true)
    (own : IsEntryOf t old found) (over : (h : Host) → new.found ≡ Some h → IsEntryOf t new h) (free : new.found ≡ None → IsFreeName t new.dir new.name.now)
    (apart : ¬ IsBelow t i to) (like : IsLike t i new.found) where
  there : entry t dir old.name.now ≡ Some i
  there =
      let e = own dir at leaves in
      let same : e.0 ≡ i = (let a = e.1 in cc) in
      e.2 ∙ ap (λ j. Some j) same

  abbrev IsFit : Option Host → Type 0
  IsFit o = (is_name new.name.now ≡ true) × ((j : ℕ) → entry t to new.name.now ≡ Some j → (body_is is_directory t j ≡ body_is is_directory t i) × (body_is is_filled t j ≡ false))

  fit : (o : Option Host) → new.found ≡ o → IsFit o
  fit None e =
      let f = free e to onto takes in
      (f.0, λ j is. let none = f.1 in absurd cc)
  fit (Some h) e =
      let o = over h e to onto takes in
      ((name_decides new.name.now).1 (entry_named_well t sound to new.name.now o.0 o.2), λ j is. let same : o.0 ≡ j = (let a = o.2 in cc) in like j (e ∙ ap (λ x. Some x) (o.1 ∙ ap (λ j. host.Node j) same)))

  pub lawful-move : IsLawfulMove t dir old.name.now to new.name.now
  lawful-move = record {
    moved = i;
    there = there;
    takes = takes;
    well_formed = (fit new.found refl).0;
    apart = λ _. apart;
    like = λ j is _. (fit new.found refl).1 j is;
  }

-- ---- the tests of what was found

module _ (k : Known) (old new : Entered) (found : Host) where
  abbrev by-tests : Bool → Bool → Bool → Bool → Bool → Bool → Replying
  by-tests processes over slash inside above one =
      if processes then refuse EBUSY
      else if over then refuse EBUSY
      else if slash then refuse ENOTDIR
      else if inside then refuse EINVAL
      else if above then refuse ENOTEMPTY
      else if one then done 0 []
      else move_entry k old new found

  pub found-by : (processes over slash inside above one : Bool) → is_processes_host k found ≡ processes → option_map_or (is_processes_host k) new.found false ≡ over
      → (not (is_directory_host k found) && (old.slash || new.slash)) ≡ slash → is_at_or_above k found new.dir ≡ inside → is_above_old k old new.found ≡ above → is_one found new.found ≡ one
      → move_found k old new found ≡ by-tests processes over slash inside above one
  found-by p q s i a o e1 e2 e3 e4 e5 e6 =
      let over = option_map_or (is_processes_host k) new.found false in
      let slash = not (is_directory_host k found) && (old.slash || new.slash) in
      let inside = is_at_or_above k found new.dir in
      let above = is_above_old k old new.found in
      let one = is_one found new.found in
      ap (λ v. by-tests v over slash inside above one) e1 ∙ ap (λ v. by-tests p v slash inside above one) e2 ∙ ap (λ v. by-tests p q v inside above one) e3
      ∙ ap (λ v. by-tests p q s v above one) e4 ∙ ap (λ v. by-tests p q s i v one) e5 ∙ ap (λ v. by-tests p q s i a v) e6

-- ---- both paths

pub covered-busy : (k : Known) (new : Taken) → renameat2_row k TakesCovered new true ≡ refuse EBUSY
covered-busy k (TakesNoName last) = refl
covered-busy k TakesCovered = refl
covered-busy k (Takes e) = refl

pub no-name-busy : (k : Known) (old : Taken) (kind : Last) → renameat2_row k old (TakesNoName kind) true ≡ refuse EBUSY
no-name-busy k (TakesNoName last) kind = refl
no-name-busy k TakesCovered kind = refl
no-name-busy k (Takes e) kind = refl

-- what is told of two paths is told of each
pub record IsMoved (old new from to : Taken) : Type 0 where
  pub old_told : old ≡ from
  pub new_told : new ≡ to

pub moved-both : (old new from to : Taken) (a b : Bool) → Moves old new a ≡ Moves from to b → IsMoved old new from to
moved-both old new from to a b e = record { old_told = cc; new_told = cc }

placed-none : {T : Type 0} (number : T → ℕ) (o : Option (Place T)) → ◌≡◌ {A = Option Host} (option_map (λ p. p.host) (option_map (numbered number) o)) None → o ≡ None
placed-none number None e = refl
placed-none number (Some p) e = absurd cc

-- a name that found nothing is free
pub taken-free : {T : Type 0} (number : T → ℕ) (table : List Row) (pid : ℕ) (s : State ℕ Image) (target : Target T) (e : EnteredTold) → Takes (entered_told e) ≡ taken_at table pid s (placed_in number target)
    → (t : Tree) → IsFreeIn t target → e.found ≡ None → IsFreeName t e.dir e.name.now
taken-free number table pid s target e told t free none dir at takes =
    let f = free dir (taken-named number table pid s target e told) (placed-none number target.found (sym (taken-found number table pid s target e told) ∙ none)) (sym (taken-dir number table pid s target e told) ∙ at) takes in
    let name = taken-name number table pid s target e told in
    (ap is_name name ∙ f.0, ap (entry t dir) name ∙ f.1)
