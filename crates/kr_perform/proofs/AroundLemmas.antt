-- What the walks of a caller go through over a lawful state stands, and so does the place where each of its paths begins.
use Rattle.std.proofs.Common.{◌≡◌, ◌≢◌, ℕ, Bool, true, false, List, [], ◌∷◌, Option, Some, None, refl, sym, ap, subst, ◌∙◌}
use Rattle.std.specs.Prelude.{Result, Ok, Err}
use Rattle.std.specs.Bool.{if◌then◌else◌}
use Rattle.std.specs.List.{All}
use Rattle.std.specs.Option.{option_map, option_map_or, option_and_then}
use Rattle.std.proofs.lemmas.Bool.{false≢true}
use Rattle.std.proofs.lemmas.Option.{same_Some, none-some}
use Rattle.law_allowed.specs.pr_base.Paths.{IsName, is_absolute}
use Rattle.law_allowed.specs.pr_base.declared.errno.Errno.{Errno}
use Rattle.law_allowed.specs.pr_base.declared.errno.Errno.TheVariants.{EBADF, ENOENT, ENOTDIR}
use Rattle.law_allowed.specs.kr_calls.PathTable.{PathUse}
use Rattle.law_allowed.specs.kr_tree.Tree.{Tree, Inode, Body, Directory, RegularFile, SymbolicLink, ProcessDirectory, inode, body, body_is, is_directory, is_file}
use Rattle.law_allowed.specs.kr_tree.declared.place.Host.{Host}
use Rattle.law_allowed.specs.kr_tree.declared.place.Host.TheVariants.{Node, Proc}
use Rattle.law_allowed.specs.kr_tree.declared.place.Place.{Place}
use Rattle.law_allowed.specs.kr_tree.declared.place.ProcAt.{ProcAt}
use Rattle.law_allowed.specs.kr_tree.declared.place.ProcAt.TheVariants.{SelfLink, Dir, Cwd, Root, Exe, FdDir, Fd}
use Rattle.law_allowed.proofs.kr_tree.CountLemmas.{there}
use Rattle.law_allowed.specs.kr_view.declared.procs.Lead.{Lead}
use Rattle.law_allowed.specs.kr_view.declared.procs.Lead.TheVariants.{Text, Jump, Nameless, NoLink}
use Rattle.law_allowed.specs.kr_view.Component.{is_directory_at}
use Rattle.law_allowed.specs.kr_view.InTree.{IsPlaceOf, LeadToPlaces, StandsAround}
use Rattle.law_allowed.specs.kr_view.Names.{guest_name}
use Rattle.law_allowed.specs.kr_view.View.{Row, StandsIn, is_there, root_place}
use Rattle.law_allowed.specs.kr_view.Walk.{PlaceTarget, place_walk}
use Rattle.law_allowed.specs.kr_files.declared.opened.Opened.{Opened}
use Rattle.law_allowed.specs.kr_files.Descriptors.{Named}
use Rattle.law_allowed.specs.kr_files.Files.{file_at}
use Rattle.law_allowed.specs.kr_model.Applied.{cwd_of}
use Rattle.law_allowed.specs.kr_model.Asking.{descriptor_number, is_working_directory}
use Rattle.law_allowed.specs.kr_model.FileRows.{is_dir, is_file_open}
use Rattle.law_allowed.specs.kr_model.Lawful.{IsLawful, IsOpenIn, is_file_at}
use Rattle.law_allowed.specs.kr_model.ProcessDirectory.{around_of, jump_to, lead_of_open, leads_of, remembered, space_of}
use Rattle.law_allowed.specs.kr_model.State.{Image, Process, State, named, opened, process}
use Rattle.law_allowed.specs.kr_model.Walks.{Targets, and_then, base_of, place_of_descriptor, place_of_open, target_at, walked}
use Rattle.kr_perform.proofs.TextLemmas.{IsTextByte, decimal_text}

-- ---- kinds of objects

file_no_directory : (t : Tree) (h : Host) → is_file_at t h ≡ true → is_directory_at t h ≡ false
file_no_directory t (Proc i at) f = absurd (false≢true f)
file_no_directory t (Node i) f = by (inode t i) f
  where
    kind : (b : Body) → is_file b ≡ true → is_directory b ≡ false
    kind (Directory entries standing) h = absurd (false≢true h)
    kind (RegularFile bytes) h = refl
    kind (SymbolicLink text) h = refl
    kind (ProcessDirectory standing) h = absurd (false≢true h)

    by : (o : Option Inode) → option_map_or (λ (x : Inode). is_file x.node.body) o false ≡ true → option_map_or (λ (x : Inode). is_directory x.node.body) o false ≡ false
    by None h = refl
    by (Some x) h = kind x.node.body h

directory_there : (t : Tree) (i : ℕ) → option_map is_directory (body t i) ≡ Some true → (is_there (inode t i) ≡ true) × (body_is is_directory t i ≡ true)
directory_there t i h = by (inode t i) h
  where
    by : (o : Option Inode) → option_map is_directory (option_map (λ (x : Inode). x.node.body) o) ≡ Some true → (is_there o ≡ true) × (option_map_or (λ (x : Inode). is_directory x.node.body) o false ≡ true)
    by None h = absurd (none-some true h)
    by (Some x) h = (refl, same_Some (is_directory x.node.body) true h)

root_stands : (t : Tree) (table : List Row) → StandsIn t table → IsPlaceOf t table (root_place table) × (is_directory_at t (root_place table).host ≡ true)
root_stands t [] stands = absurd (none-some stands.rooted.0 stands.rooted.1)
root_stands t (r ∷ rows) stands =
    let own : r ≡ stands.rooted.0 = same_Some r stands.rooted.0 stands.rooted.1 in
    let kind : option_map is_directory (body t r.source) ≡ Some true = stands.sources 0 r refl ∙ ap Some (ap (λ (q : Row). q.is_dir) own ∙ stands.rooted.2) in
    let source = directory_there t r.source kind in
    (record { mounted = refl; object = source.0 }, source.1)

-- ---- what is remembered of a place

-- a place of the view, and the directory and name that its object remembers
record IsEntered (t : Tree) (table : List Row) (p : Place ℕ) (dir : ℕ) (name : List ℕ) : Type 0 where
  place : IsPlaceOf t table p
  file : is_directory_at t p.host ≡ false → name ≢ [] → IsName name
  directory : is_directory_at t p.host ≡ true → (dir ≡ 0) × (name ≡ [])

directory_entered : (t : Tree) (table : List Row) (p : Place ℕ) → IsPlaceOf t table p → is_directory_at t p.host ≡ true → IsEntered t table p 0 []
directory_entered t table p place is = record { place = place; file = λ no some. absurd (some refl); directory = λ d. (refl, refl) }

module _ (table : List Row) (s : State ℕ Image) (lawful : IsLawful (λ m. m) table s) where
  abbrev IsIn : Place ℕ → ℕ → List ℕ → Type 0
  IsIn p dir name = IsEntered s.tree table p dir name

  -- where a link of the process directory leads
  abbrev IsLed : Lead ℕ → Type 0
  IsLed (Text text) = All IsTextByte text
  IsLed (Jump p dir name) = IsIn p dir name
  IsLed Nameless = Unit {0}
  IsLed NoLink = Unit {0}

  jump_led : (p : Place ℕ) (dir : ℕ) (name : List ℕ) → IsIn p dir name → IsLed (jump_to (space_of table s) p dir name)
  jump_led p dir name is = by (is_there (guest_name (space_of table s) p (remembered dir name)))
    where
      by : (b : Bool) → IsLed (if b then Jump p dir name else Nameless)
      by true = is
      by false = tt

  -- of a living process
  living_led : (pid : ℕ) (lead : Process ℕ Image → Lead ℕ) → ((p : Process ℕ Image) → process pid s ≡ Some p → IsLed (lead p)) → IsLed (option_map_or lead (process pid s) NoLink)
  living_led pid lead each = by (process pid s) refl
    where
      by : (o : Option (Process ℕ Image)) → process pid s ≡ o → IsLed (option_map_or lead o NoLink)
      by None is = tt
      by (Some p) is = each p is

  cwd_entered : (pid : ℕ) (p : Process ℕ Image) → process pid s ≡ Some p → IsIn p.cwd 0 []
  cwd_entered pid p is = let own = (lawful.processes pid p is).cwd in directory_entered s.tree table p.cwd own.0 own.1

  exe_entered : (pid : ℕ) (p : Process ℕ Image) → process pid s ≡ Some p → IsIn p.exe p.exe_dir p.exe_name
  exe_entered pid p is =
      let own = lawful.processes pid p is in
      record {
        place = own.exe.0;
        file = λ no some. own.exe_name some;
        directory = λ d. absurd (false≢true (sym (file_no_directory s.tree p.exe.host own.exe.1) ∙ d));
      }

  root_entered : IsIn (root_place table) 0 []
  root_entered = let stands = root_stands s.tree table lawful.mounts in directory_entered s.tree table (root_place table) stands.0 stands.1

  -- of an open file
  open_lawful : (pid fd : ℕ) (o : Opened ℕ) → opened pid fd s ≡ Some o → IsOpenIn (λ m. m) s.tree table o
  open_lawful pid fd o is = by (named pid fd s) is
    where
      by : (x : Option Named) → option_and_then (λ (x : Named). file_at s.files x.number) x ≡ Some o → IsOpenIn (λ m. m) s.tree table o
      by None e = absurd (none-some o e)
      by (Some x) e = lawful.files x.number o e

  open_entered : (o : Opened ℕ) → IsOpenIn (λ m. m) s.tree table o → (p : Place ℕ) → o.place ≡ Some p → IsIn p o.dir o.name
  open_entered o own p is = by (is_dir o.what) refl (is_file_open o.what) refl
    where
      by : (d : Bool) → is_dir o.what ≡ d → (f : Bool) → is_file_open o.what ≡ f → IsIn p o.dir o.name
      by true d f file = let none = own.directories d in record { place = (own.placed p is).0; file = λ no some. absurd (some none.2); directory = λ is. (none.1, none.2) }
      by false d true file = record { place = (own.placed p is).0; file = λ no some. own.name some; directory = λ dir. absurd (false≢true (sym ((own.placed p is).1 ∙ d) ∙ dir)) }
      by false d false file = absurd (false≢true (sym (own.others file d) ∙ ap is_there is))

  opened_led : (o : Opened ℕ) → IsOpenIn (λ m. m) s.tree table o → IsLed (lead_of_open (space_of table s) o)
  opened_led o own = by o.place refl
    where
      by : (p : Option (Place ℕ)) → o.place ≡ p → IsLed (option_map_or (λ (p : Place ℕ). jump_to (space_of table s) p o.dir o.name) p Nameless)
      by None is = tt
      by (Some p) is = jump_led p o.dir o.name (open_entered o own p is)

  descriptor_led : (pid fd : ℕ) → IsLed (option_map_or (lead_of_open (space_of table s)) (opened pid fd s) NoLink)
  descriptor_led pid fd = by (opened pid fd s) refl
    where
      by : (o : Option (Opened ℕ)) → opened pid fd s ≡ o → IsLed (option_map_or (lead_of_open (space_of table s)) o NoLink)
      by None is = tt
      by (Some o) is = opened_led o (open_lawful pid fd o is)

  led : (caller : ℕ) (at : ProcAt) → IsLed (leads_of table s caller at)
  led caller SelfLink = decimal_text caller
  led caller (Dir pid) = tt
  led caller (Cwd pid) = living_led pid (λ p. jump_to (space_of table s) p.cwd 0 []) (λ p is. jump_led p.cwd 0 [] (cwd_entered pid p is))
  led caller (Root pid) = living_led pid (λ p. jump_to (space_of table s) (root_place table) 0 []) (λ p is. jump_led (root_place table) 0 [] root_entered)
  led caller (Exe pid) = living_led pid (λ p. jump_to (space_of table s) p.exe p.exe_dir p.exe_name) (λ p is. jump_led p.exe p.exe_dir p.exe_name (exe_entered pid p is))
  led caller (FdDir pid) = tt
  led caller (Fd pid fd) = descriptor_led pid fd

  entered_at : (caller : ℕ) (at : ProcAt) (p : Place ℕ) (dir : ℕ) (name : List ℕ) → leads_of table s caller at ≡ Jump p dir name → IsIn p dir name
  entered_at caller at p dir name is = subst IsLed is (led caller at)

  pub leads_texts : (caller : ℕ) (at : ProcAt) (text : List ℕ) → leads_of table s caller at ≡ Text text → All IsTextByte text
  leads_texts caller at text is = subst IsLed is (led caller at)

  pub lead_to_places : (caller : ℕ) → LeadToPlaces s.tree table (leads_of table s caller)
  lead_to_places caller = record {
    places = λ at p dir name is. (entered_at caller at p dir name is).place;
    files = λ at p dir name is. (entered_at caller at p dir name is).file;
    directories = λ at p dir name is. (entered_at caller at p dir name is).directory;
  }

  -- ---- where paths begin

  abbrev IsGood : Result (Place ℕ) Errno → Type 0
  IsGood (Ok p) = IsPlaceOf s.tree table p
  IsGood (Err e) = Unit {0}

  good_either : (b : Bool) (x y : Result (Place ℕ) Errno) → IsGood x → IsGood y → IsGood (if b then x else y)
  good_either true x y p q = p
  good_either false x y p q = q

  cwd_good : (pid : ℕ) → IsGood (option_map_or (λ p. Ok p) (cwd_of pid s) (Err ENOENT))
  cwd_good pid = by (process pid s) refl
    where
      by : (o : Option (Process ℕ Image)) → process pid s ≡ o → IsGood (option_map_or (λ p. Ok p) (option_map (λ (p : Process ℕ Image). p.cwd) o) (Err ENOENT))
      by None is = tt
      by (Some p) is = (cwd_entered pid p is).place

  open_good : (o : Opened ℕ) → IsOpenIn (λ m. m) s.tree table o → IsGood (place_of_open o)
  open_good o own = good_either (is_dir o.what) (option_map_or (λ p. Ok p) o.place (Err ENOTDIR)) (Err ENOTDIR) (by o.place refl) tt
    where
      by : (p : Option (Place ℕ)) → o.place ≡ p → IsGood (option_map_or (λ p. Ok p) p (Err ENOTDIR))
      by None is = tt
      by (Some p) is = (own.placed p is).0

  descriptor_good : (pid : ℕ) (fd : Option ℕ) → IsGood (place_of_descriptor table pid s fd)
  descriptor_good pid None = tt
  descriptor_good pid (Some fd) = by (opened pid fd s) refl
    where
      by : (o : Option (Opened ℕ)) → opened pid fd s ≡ o → IsGood (option_map_or place_of_open o (Err EBADF))
      by None is = tt
      by (Some o) is = open_good o (open_lawful pid fd o is)

  base_good : (pid : ℕ) (u : PathUse) → IsGood (base_of table pid s u)
  base_good pid u =
      good_either (is_absolute u.text) (Ok (root_place table)) (if is_working_directory u.dirfd then option_map_or (λ p. Ok p) (cwd_of pid s) (Err ENOENT) else place_of_descriptor table pid s (descriptor_number u.dirfd))
      root_entered.place
      (good_either (is_working_directory u.dirfd) (option_map_or (λ p. Ok p) (cwd_of pid s) (Err ENOENT)) (place_of_descriptor table pid s (descriptor_number u.dirfd)) (cwd_good pid) (descriptor_good pid (descriptor_number u.dirfd)))

  pub stands_around : (pid : ℕ) (u : PathUse) (base : Place ℕ) → base_of table pid s u ≡ Ok base → StandsAround (around_of table pid s) base
  stands_around pid u base is = record {
    sound = lawful.tree.sound;
    inodes = there s.tree lawful.tree.sound lawful.tree.counted;
    mounts = lawful.mounts;
    leads = lead_to_places pid;
    begins = subst IsGood is (base_good pid u);
  }

  -- ---- walks

  -- what holds of every walk's target along a path holds of that path's
  pub of_walk : (pid : ℕ) (P : PlaceTarget → Type 0) (w : PlaceTarget) (o : Option PathUse)
      → ((u : PathUse) (base : Place ℕ) → o ≡ Some u → StandsAround (around_of table pid s) base → (place_walk (around_of table pid s) u.mode base u.text).answer ≡ Ok w → P w)
      → target_at table pid s o ≡ Ok (Some w) → P w
  of_walk pid P w None each is = absurd cc
  of_walk pid P w (Some u) each is = along u.text refl is
    where
      answered : (path : List ℕ) (base : Place ℕ) → base_of table pid s u ≡ Ok base → u.text ≡ path → (a : Result PlaceTarget Errno) → (place_walk (around_of table pid s) u.mode base path).answer ≡ a
          → and_then a (λ target. Ok (Some target)) ≡ Ok (Some w) → P w
      answered path base begins text (Err e) ends is = absurd cc
      answered path base begins text (Ok x) ends is =
          let one : x ≡ w = cc in
          each u base refl (stands_around pid u base begins) (ap (λ path. (place_walk (around_of table pid s) u.mode base path).answer) text ∙ ends ∙ ap Ok one)

      from_base : (path : List ℕ) → u.text ≡ path → (r : Result (Place ℕ) Errno) → base_of table pid s u ≡ r
          → and_then r (λ base. and_then (place_walk (around_of table pid s) u.mode base path).answer (λ target. Ok (Some target))) ≡ Ok (Some w) → P w
      from_base path text (Err e) begins is = absurd cc
      from_base path text (Ok base) begins is = answered path base begins text (place_walk (around_of table pid s) u.mode base path).answer refl is

      along : (text : List ℕ) → u.text ≡ text → walked table pid s u text ≡ Ok (Some w) → P w
      along [] text is = absurd cc
      along (b ∷ rest) text is = from_base (b ∷ rest) text (base_of table pid s u) refl is

-- what two paths lead to is what each of them leads to
pub both : (a b : Result (Option PlaceTarget) Errno) (t : Targets) → and_then a (λ first. and_then b (λ second. Ok (record { first = first; second = second }))) ≡ Ok t → (a ≡ Ok t.first) × (b ≡ Ok t.second)
both (Err e) b t is = absurd cc
both (Ok first) (Err e) t is = absurd cc
both (Ok first) (Ok second) t is =
    let one : record { first = first; second = second } ≡ t = cc in
    (ap (λ (t : Targets). Ok t.first) one, ap (λ (t : Targets). Ok t.second) one)
