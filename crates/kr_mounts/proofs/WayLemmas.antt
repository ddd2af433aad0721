-- Ways of locations, name after name, and the names that are made on them.
use Rattle.std.proofs.Common.{◌≡◌, ◌≤◌, ◌<◌, ◌+◌, ◌*◌, ◌^◌, ◌&&◌, not, ℕ, Bool, true, false, List, [], Option, Some, None, Result, Ok, Err, refl, ap, sym, subst, ◌∙◌, arith}
use Rattle.std.specs.Bool.{if◌then◌else◌}
use Rattle.kr_walk.specs.kr_inode.declared.user.User.{User}
use Rattle.kr_walk.specs.kr_inode.declared.user.Right.TheVariants.{Write, Search}
use Rattle.kr_walk.specs.kr_tree.Changes.{has_no_room, next_serial}
use Rattle.kr_walk.specs.kr_tree.Lawful.{IsSound, IsCounted}
use Rattle.kr_walk.specs.kr_tree.Names.{is_name}
use Rattle.kr_walk.specs.kr_tree.Rights.{may}
use Rattle.kr_walk.specs.kr_tree.Tree.{Tree, body_is, entry, takes_names}
use Rattle.kr_walk.specs.kr_tree.declared.place.Host.{Host}
use Rattle.kr_walk.specs.kr_tree.declared.place.Host.TheVariants.{Node, Proc}
use Rattle.kr_walk.specs.kr_tree.declared.place.Place.{Place}
use Rattle.kr_walk.specs.kr_tree.declared.place.ProcAt.{ProcAt}
use Rattle.kr_walk.specs.kr_view.Laws.{is_link}
use Rattle.kr_walk.specs.kr_view.View.{Point, Row, down}
use Rattle.kr_mounts.specs.Growth.{IsGrown, Same, Made}
use Rattle.kr_mounts.specs.Points.{Left, Wanted, at_entry, at_last_name, fits, made, may_make, point_unless, refused, through, way}
use Rattle.kr_mounts.specs.Ways.{HasNumbers, IsEnded, IsEntered, IsMade, IsPut, IsReached, entering}
use Rattle.kr_mounts.specs.declared.fault.BindWhy.{BindWhy}
use Rattle.kr_mounts.specs.declared.fault.BindWhy.TheVariants.{LinkOnTheWay, NoPoint}
use Rattle.kr_mounts.specs.declared.point.Foot.{Foot}
use Rattle.kr_mounts.specs.declared.location.Stop.{Stop}
use Rattle.kr_mounts.specs.declared.location.Stop.TheVariants as stop
use Rattle.kr_mounts.proofs.BeforeLemmas.{grown_trees_have_all_before}

pub grown_onward : (user : User) (s t v : Tree) → IsGrown user s t → IsGrown user t v → IsGrown user s v
grown_onward user s t v grown Same = grown
grown_onward user s t _ grown (Made {u} dir name is_dir more takes free may_be) = Made dir name is_dir (grown_onward user s t u grown more) takes free may_be

pub numbers_grown : (user : User) (t v : Tree) → IsSound t → IsCounted t → HasNumbers t → IsGrown user t v → HasNumbers v
numbers_grown user t v sound counted has Same = has
numbers_grown user t _ sound counted has (Made {u} dir name is_dir more takes free may_be) =
    let v = made u user dir name is_dir in
    let inner = (grown_trees_have_all_before user t u sound counted more).more_names in
    let before = grown_trees_have_all_before user t v sound counted (Made dir name is_dir more takes free may_be) in
    let numbers : v.next + t.names ≡ t.next + v.names = before.numbers in
    let first : t.next ≤ 2 ^ 30 + t.names = has.numbers in
    let names : v.names ≡ u.names + 1 = refl in
    record {
      numbers = omega (arith, numbers, first);
      serials = λ dir.
          let one : next_serial v dir + t.names ≤ next_serial t dir + 3 + v.names = before.serials dir in
          let two : next_serial t dir ≤ 2 ^ 62 + 4 * t.names = has.serials dir in
          let goal : next_serial v dir ≤ 2 ^ 62 + 4 * v.names = omega (arith, one, two, names, inner) in goal;
    }

-- where a step ends with an error the way does
pub error_ends : (left : Left Point) (step : (Tree → ℕ → ℕ → Left Point) → Left Point) (go : Tree → ℕ → ℕ → Left Point) (new : Tree) (e : Stop) → left ≡ step go → IsEntered step new (Err e) → IsEnded left new (Err e)
error_ends left step go new (stop.Bad why) is entered = let same = is ∙ entered go in (ap (λ (l : Left Point). l.tree) same, ap (λ (l : Left Point). l.answer) same)
error_ends left step go new stop.NoMemory is entered = tt

-- ---- names that are made

all_four : (a b c r : Bool) → (a && b && c) ≡ true → r ≡ false → (a && (b && (c && not r))) ≡ true
all_four true true true true h none = absurd cc
all_four true true true false h none = refl
all_four true true false r h none = absurd cc
all_four true false c r h none = absurd cc
all_four false b c r h none = absurd cc

not_four : (a b c r : Bool) → (a && b && c) ≡ false → (a && (b && (c && not r))) ≡ false
not_four true true true r h = absurd cc
not_four true true false r h = refl
not_four true false c r h = refl
not_four false b c r h = refl

full_four : (a b c r : Bool) → r ≡ true → (a && (b && (c && not r))) ≡ false
full_four true true true true h = refl
full_four true true true false h = absurd cc
full_four true true false r h = refl
full_four true false c r h = refl
full_four false b c r h = refl

module _ (user : User) (t : Tree) (dir : ℕ) (name : List ℕ) (is_dir : Bool) where
  abbrev tests : Bool
  tests = is_name name && may t user dir Write && may t user dir Search

  pub not_allowed : tests ≡ false → IsMade user t dir name is_dir t (Err (stop.Bad NoPoint))
  not_allowed h = (not_four (is_name name) (may t user dir Write) (may t user dir Search) (has_no_room 0 t) h, refl, refl)

  pub put_made : (new : Tree) (r : Result ℕ Stop) → tests ≡ true → IsPut user t dir name is_dir new r → IsMade user t dir name is_dir new r
  put_made new (Ok i) h put = (all_four (is_name name) (may t user dir Write) (may t user dir Search) (has_no_room 0 t) h put.0, put.1, put.2)
  put_made new (Err (stop.Bad why)) h put = (full_four (is_name name) (may t user dir Write) (may t user dir Search) (has_no_room 0 t) put.0, put.1, put.2)
  put_made new (Err stop.NoMemory) h put = put

  abbrev Grows : Tree → Type 0
  Grows = IsGrown user t

  pub made_grows : (new : Tree) (r : Result ℕ Stop) → body_is takes_names t dir ≡ true → entry t dir name ≡ None → IsMade user t dir name is_dir new r → IsGrown user t new
  made_grows new (Ok i) takes free made = subst Grows (sym made.1) (Made dir name is_dir Same takes free made.0)
  made_grows new (Err (stop.Bad why)) takes free made = subst Grows (sym made.1) Same
  made_grows new (Err stop.NoMemory) takes free made = subst Grows (sym made) Same

  -- what a tree must keep for a new name
  pub numbers_left : IsSound t → HasNumbers t → t.next + 1 < 2 ^ 32
  numbers_left sound has = let names = sound.names_limited in let numbers = has.numbers in omega arith

  pub serials_left : IsSound t → HasNumbers t → next_serial t dir + 1 < 2 ^ 64
  serials_left sound has = let names = sound.names_limited in let serials : next_serial t dir ≤ 2 ^ 62 + 4 * t.names = has.serials dir in omega (arith, names, serials)

first_test : (a b c : Bool) → (a && b && c) ≡ true → a ≡ true
first_test true b c h = refl
first_test false b c h = absurd cc

pub tests_name : (user : User) (t : Tree) (dir : ℕ) (name : List ℕ) → (is_name name && may t user dir Write && may t user dir Search) ≡ true → is_name name ≡ true
tests_name user t dir name h = first_test (is_name name) (may t user dir Write) (may t user dir Search) h

-- ---- a name behind which others come

pub same_step : (one two : (Tree → ℕ → ℕ → Left Point) → Left Point) (new : Tree) (r : Result Foot Stop) → ((go : Tree → ℕ → ℕ → Left Point) → one go ≡ two go) → IsEntered two new r → IsEntered one new r
same_step one two new (Ok foot) same entered = λ go. same go ∙ entered go
same_step one two new (Err (stop.Bad why)) same entered = λ go. same go ∙ entered go
same_step one two new (Err stop.NoMemory) same entered = tt

module _ (user : User) (t : Tree) (mount dir : ℕ) (name : List ℕ) where
  abbrev at : Option ℕ → (Tree → ℕ → ℕ → Left Point) → Left Point
  at o go = at_entry t user mount dir name o go

  pub entry_links : (o : Option ℕ) (i : ℕ) → o ≡ Some i → body_is is_link t i ≡ true → IsEntered (at o) t (Err (stop.Bad LinkOnTheWay))
  entry_links o i is link = λ go. ap (λ o. at o go) is ∙ ap (λ b. if b then refused t LinkOnTheWay else go t mount i) link

  pub entry_goes : (o : Option ℕ) (i : ℕ) → o ≡ Some i → body_is is_link t i ≡ false → (go : Tree → ℕ → ℕ → Left Point) → at o go ≡ go t mount i
  entry_goes o i is none go = ap (λ o. at o go) is ∙ ap (λ b. if b then refused t LinkOnTheWay else go t mount i) none

  made_is : (go : Tree → ℕ → ℕ → Left Point) (b : Bool) → may_make t user dir name ≡ b → at None go ≡ (if b then go (made t user dir name true) mount t.next else refused t NoPoint)
  made_is go b may = ap (λ b. if b then go (made t user dir name true) mount t.next else refused t NoPoint) may

  pub made_goes : (o : Option ℕ) (new : Tree) (i : ℕ) → o ≡ None → IsMade user t dir name true new (Ok i) → (go : Tree → ℕ → ℕ → Left Point) → at o go ≡ go new mount i
  made_goes o new i none made go = ap (λ o. at o go) none ∙ made_is go true made.0 ∙ (λ j. go (sym made.1 j) mount (sym made.2 j))

  pub made_fails : (o : Option ℕ) (new : Tree) (e : Stop) → o ≡ None → IsMade user t dir name true new (Err e) → IsEntered (at o) new (Err e)
  made_fails o new (stop.Bad why) none made = λ go. ap (λ o. at o go) none ∙ made_is go false made.0 ∙ (λ j. refused (sym made.1 j) (sym made.2 j))
  made_fails o new stop.NoMemory none made = tt

module _ (user : User) (table : List Row) (t : Tree) (mount dir : ℕ) (name : List ℕ) where
  abbrev step : (Tree → ℕ → ℕ → Left Point) → Left Point
  step go = entering user table t mount dir name go

  pub step_refused : body_is takes_names t dir ≡ false → IsEntered step t (Err (stop.Bad NoPoint))
  step_refused none = λ go. ap (λ b. if b then through t user mount dir name (down table mount dir name) go else refused t NoPoint) none

  taken : (go : Tree → ℕ → ℕ → Left Point) (o : Option (Place ℕ)) → body_is takes_names t dir ≡ true → down table mount dir name ≡ o → step go ≡ through t user mount dir name o go
  taken go o takes is = ap (λ b. if b then through t user mount dir name (down table mount dir name) go else refused t NoPoint) takes ∙ ap (λ o. through t user mount dir name o go) is

  pub step_through : (m i : ℕ) → body_is takes_names t dir ≡ true → down table mount dir name ≡ Some (record { mount = m; host = Node i }) → (go : Tree → ℕ → ℕ → Left Point) → step go ≡ go t m i
  step_through m i takes is go = taken go (Some (record { mount = m; host = Node i })) takes is

  pub step_in_processes : (m i : ℕ) (p : ProcAt) → body_is takes_names t dir ≡ true → down table mount dir name ≡ Some (record { mount = m; host = Proc i p }) → IsEntered step t (Err (stop.Bad NoPoint))
  step_in_processes m i p takes is = λ go. taken go (Some (record { mount = m; host = Proc i p })) takes is

  pub step_at_entry : body_is takes_names t dir ≡ true → down table mount dir name ≡ None → (go : Tree → ℕ → ℕ → Left Point) → step go ≡ at_entry t user mount dir name (entry t dir name) go
  step_at_entry takes is go = taken go None takes is

-- ---- the last name

module _ (user : User) (table : List Row) (wanted : Wanted) (t : Tree) (p : Point) where
  abbrev last : Left Point
  last = way user table wanted t p.mount p.dir p.name []

  pub last_refused : body_is takes_names t p.dir ≡ false → IsReached {A = Unit {0}} last p t (Err (stop.Bad NoPoint))
  last_refused none =
      let e = ap (λ b. if b then at_last_name t user wanted p (entry t p.dir p.name) else refused t NoPoint) none in
      (ap (λ (l : Left Point). l.tree) e, ap (λ (l : Left Point). l.answer) e)

  at_last : (o : Option ℕ) → body_is takes_names t p.dir ≡ true → entry t p.dir p.name ≡ o → last ≡ at_last_name t user wanted p o
  at_last o takes is = ap (λ b. if b then at_last_name t user wanted p (entry t p.dir p.name) else refused t NoPoint) takes ∙ ap (at_last_name t user wanted p) is

  both : (l : Left Point) → last ≡ l → (last.tree ≡ l.tree) × (last.answer ≡ l.answer)
  both l e = (ap (λ (l : Left Point). l.tree) e, ap (λ (l : Left Point). l.answer) e)

  pub last_fits : (i : ℕ) → body_is takes_names t p.dir ≡ true → entry t p.dir p.name ≡ Some i → fits t wanted i ≡ None → (last.tree ≡ t) × (last.answer ≡ Ok p)
  last_fits i takes is fit = both (record { tree = t; answer = Ok p }) (at_last (Some i) takes is ∙ ap (point_unless t p) fit)

  pub last_misfits : (i : ℕ) (why : BindWhy) → body_is takes_names t p.dir ≡ true → entry t p.dir p.name ≡ Some i → fits t wanted i ≡ Some why → (last.tree ≡ t) × (last.answer ≡ Err why)
  last_misfits i why takes is fit = both (refused t why) (at_last (Some i) takes is ∙ ap (point_unless t p) fit)

  abbrev making_last : Bool → Left Point
  making_last b = if b then record { tree = made t user p.dir p.name wanted.is_dir; answer = Ok p } else refused t NoPoint

  pub last_made : (new : Tree) (i : ℕ) → body_is takes_names t p.dir ≡ true → entry t p.dir p.name ≡ None → IsMade user t p.dir p.name wanted.is_dir new (Ok i) → (last.tree ≡ new) × (last.answer ≡ Ok p)
  last_made new i takes is made = let b = both (making_last true) (at_last None takes is ∙ ap making_last made.0) in (b.0 ∙ sym made.1, b.1)

  pub last_fails : (A : Type 0) (new : Tree) (e : Stop) → body_is takes_names t p.dir ≡ true → entry t p.dir p.name ≡ None → IsMade user t p.dir p.name wanted.is_dir new (Err e) → IsReached {A = A} last p new (Err e)
  last_fails A new (stop.Bad why) takes is made = let b = both (making_last false) (at_last None takes is ∙ ap making_last made.0) in (b.0 ∙ sym made.1, b.1 ∙ ap Err (sym made.2))
  last_fails A new stop.NoMemory takes is made = tt

abbrev pub node_number : Host → ℕ
node_number (Node i) = i
node_number (Proc i at) = i
