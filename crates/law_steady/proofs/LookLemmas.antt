-- A look of the plain view from what a text names, which looks up no name in the process directory, shows the same over a tree of the
-- same shape, whatever stands in the process directory. It comes to what a text names.
use Rattle.std.proofs.Common.{◌≡◌, ℕ, Bool, true, false, List, [], ◌∷◌, Option, Some, None, nat_eq, refl, sym, ap, subst, ◌∙◌}
use Rattle.std.specs.Bool.{if◌then◌else◌}
use Rattle.std.specs.Option.{option_map, option_and_then}
use Rattle.std.proofs.lemmas.Bool.{eq-eqb}
use Rattle.pt_canon.specs.pr_base.Paths.{Component, Dot, DotDot, Name}
use Rattle.pt_canon.specs.pr_base.WalkFrame.{Fails, Missing, Leads, Links, Jumps}
use Rattle.pt_canon.specs.pr_base.declared.errno.Errno.TheVariants.{ENOTDIR, EACCES, ENAMETOOLONG}
use Rattle.law_lawful.specs.kr_inode.declared.user.Right.TheVariants.{Search}
use Rattle.law_lawful.specs.kr_inode.declared.user.User.{User}
use Rattle.law_lawful.specs.kr_tree.Lawful.{IsSound}
use Rattle.law_lawful.specs.kr_tree.Names.{named}
use Rattle.law_lawful.specs.kr_tree.Tree.{Body, Directory, RegularFile, SymbolicLink, ProcessDirectory, Tree, root, above as node_above, body, body_is, body_without_bytes, entry, is_directory, node}
use Rattle.law_lawful.specs.kr_tree.Rights.{may}
use Rattle.law_lawful.specs.kr_tree.declared.place.Host.TheVariants.{Node}
use Rattle.law_lawful.specs.kr_tree.declared.place.Place.{Place}
use Rattle.law_lawful.specs.kr_tree.declared.place.ProcAt.{ProcAt}
use Rattle.law_lawful.proofs.kr_tree.EntryLemmas.{entry_stands}
use Rattle.law_lawful.proofs.kr_tree.NameLemmas.{then_some, some_is}
use Rattle.law_lawful.specs.kr_view.Component.{Finds, Namespace, SeenPlace, Surroundings, above, above_body, above_host, above_node, in_node, in_processes, inside, is_looked_up, is_processes, look_up, meets_processes, named as named_at, named_in, seen_at, seen_body, seen_entry, seen_in_processes, shows_directory, too_long}
use Rattle.law_lawful.specs.kr_view.View.{down, is_root_place, node_in, plain, up}
use Rattle.law_lawful.specs.kr_view.declared.procs.Lead.{Lead}
use Rattle.law_lawful.specs.kr_model.Judged.{HasShape, without_bytes}
use Rattle.law_steady.proofs.ShapeLemmas.{same_above, same_directory, same_entry, same_may, same_of_body, same_processes}

-- ---- the plain view

up_plain : (i : ℕ) → up plain 0 i ≡ None
up_plain i = elim (nat_eq root i) as (λ b. ◌≡◌ {A = Option (Place ℕ)} (if b then None else None) None) [ true ↦ refl | false ↦ refl ]

down_plain : (i : ℕ) (name : List ℕ) → down plain 0 i name ≡ None
down_plain i name = refl

-- ---- tests

if_same : {A : Type 0} (b : Bool) (x y z : A) → (b ≡ true → x ≡ y) → (if b then x else z) ≡ (if b then y else z)
if_same true x y z each = each refl
if_same false x y z each = refl

if_true : {A : Type 0} (b : Bool) (x y : A) → b ≡ true → (if b then x else y) ≡ x
if_true true x y h = refl
if_true false x y h = absurd cc

if_false : {A : Type 0} (b : Bool) (x y : A) → b ≡ false → (if b then x else y) ≡ y
if_false true x y h = absurd cc
if_false false x y h = refl

-- ---- places

-- a place of the host's one mount that a text names
pub record IsNamedPlace (t : Tree) (p : Place ℕ) : Type 0 where
  pub inode : ℕ
  pub text : List (List ℕ)
  pub is : p ≡ node_in 0 inode
  pub named : named t text ≡ Some inode

-- what is seen stands at such places, and is no link of the process directory
abbrev pub IsNamedSight : Tree → SeenPlace → Type 0
IsNamedSight t (Fails e) = Unit {0}
IsNamedSight t Missing = Unit {0}
IsNamedSight t (Leads is_dir q f) = IsNamedPlace t q × IsNamedPlace t f
IsNamedSight t (Links f text) = IsNamedPlace t f
IsNamedSight t (Jumps f lead) = ⊥

pub named_place : (t : Tree) (i : ℕ) (text : List (List ℕ)) → named t text ≡ Some i → IsNamedPlace t (node_in 0 i)
named_place t i text way = record { inode = i; text = text; is = refl; named = way }

pub named_root : (t : Tree) → IsNamedPlace t (node_in 0 root)
named_root t = named_place t root [] refl

module _ (t u : Tree) (sound : IsSound t) (shape : HasShape t u) (user : User) (finds found_there : Finds) (leads leads_there : ProcAt → Lead ℕ) where
  abbrev here_space : Namespace
  here_space = record { table = plain; tree = t; user = user; finds = finds }

  abbrev there_space : Namespace
  there_space = record { table = plain; tree = u; user = user; finds = found_there }

  abbrev around : Surroundings
  around = record { space = here_space; leads = leads }

  abbrev around_there : Surroundings
  around_there = record { space = there_space; leads = leads_there }

  -- what stands at a node is the same
  sight_same : (j : ℕ) (text : List (List ℕ)) (p : Place ℕ) → named t text ≡ Some j → seen_at around_there p (Node j) ≡ seen_at around p (Node j)
  sight_same j text p way = same_of_body t u j (shape.nodes text j way) (seen_body p) by
    where
      by : (b : Body) → seen_body p (Some (body_without_bytes b)) ≡ seen_body p (Some b)
      by (Directory entries standing) = refl
      by (RegularFile bytes) = refl
      by (SymbolicLink text) = refl
      by (ProcessDirectory standing) = refl

  -- at a place that a text names
  pub place_same : (p : Place ℕ) → IsNamedPlace t p → seen_at around_there p p.host ≡ seen_at around p p.host
  place_same p n = subst (λ q. seen_at around_there q q.host ≡ seen_at around q q.host) (sym n.is) (sight_same n.inode n.text (node_in 0 n.inode) n.named)

  body_named : (p : Place ℕ) (o : Option Body) → IsNamedPlace t p → IsNamedSight t (seen_body p o)
  body_named p None n = tt
  body_named p (Some (Directory entries standing)) n = (n, n)
  body_named p (Some (RegularFile bytes)) n = (n, n)
  body_named p (Some (SymbolicLink text)) n = n
  body_named p (Some (ProcessDirectory standing)) n = (n, n)

  pub place_sight : (p : Place ℕ) → IsNamedPlace t p → IsNamedSight t (seen_at around p p.host)
  place_sight p n = subst (λ q. IsNamedSight t (seen_at around q q.host)) (sym n.is) (body_named (node_in 0 n.inode) (body t n.inode) (named_place t n.inode n.text n.named))

  module _ (i : ℕ) (text : List (List ℕ)) (way : named t text ≡ Some i) where
    node_same : option_map without_bytes (node u i) ≡ option_map without_bytes (node t i)
    node_same = shape.nodes text i way

    -- ---- `..`

    -- the directory above one that a text names is named by that text without its first name
    above_named : (names : List (List ℕ)) → named t names ≡ Some i → body_is is_directory t i ≡ true → is_root_place plain (node_in 0 i) ≡ false → IsNamedSight t (above_body 0 (node_above t i))
    above_named [] h is away = let e : root ≡ i = some_is root i h in absurd (let no = sym away ∙ eq-eqb i root (sym e) in cc)
    above_named (name ∷ names) h is away =
        let dir = then_some (λ d. entry t d name) (named t names) i h in
        let q = named_place t dir.0 names dir.1 in
        subst (λ o. IsNamedSight t (above_body 0 o)) (sym (entry_stands t sound dir.0 name i dir.2 is)) (q, q)

    above_same : above there_space (node_in 0 i) ≡ above here_space (node_in 0 i)
    above_same =
        ap (λ o. if is_root_place plain (node_in 0 i) then shows_directory (node_in 0 i) else o)
        (ap (above_node there_space 0 i) (up_plain i) ∙ ap (above_body 0) (same_above t u i node_same) ∙ sym (ap (above_node here_space 0 i) (up_plain i)))

    above_sight : body_is is_directory t i ≡ true → IsNamedSight t (above here_space (node_in 0 i))
    above_sight is = at (is_root_place plain (node_in 0 i)) refl
      where
        at : (b : Bool) → is_root_place plain (node_in 0 i) ≡ b → IsNamedSight t (if b then shows_directory (node_in 0 i) else above_host here_space 0 (Node i))
        at true e = let q = named_place t i text way in (q, q)
        at false e = subst (λ o. IsNamedSight t (above_node here_space 0 i o)) (sym (up_plain i)) (above_named text way is e)

    -- ---- a name

    entry_same : (name : List ℕ) → seen_entry around_there 0 (entry u i name) ≡ seen_entry around 0 (entry t i name)
    entry_same name = ap (seen_entry around_there 0) (same_entry t u i node_same name) ∙ at (entry t i name) refl
      where
        at : (o : Option ℕ) → entry t i name ≡ o → seen_entry around_there 0 o ≡ seen_entry around 0 o
        at None e = refl
        at (Some j) e = sight_same j (name ∷ text) (node_in 0 j) (ap (option_and_then (λ d. entry t d name)) way ∙ e)

    entry_sight : (name : List ℕ) → IsNamedSight t (seen_entry around 0 (entry t i name))
    entry_sight name = at (entry t i name) refl
      where
        at : (o : Option ℕ) → entry t i name ≡ o → IsNamedSight t (seen_entry around 0 o)
        at None e = tt
        at (Some j) e = let n = named_place t j (name ∷ text) (ap (option_and_then (λ d. entry t d name)) way ∙ e) in body_named (node_in 0 j) (body t j) n

    -- no process directory
    in_here : (name : List ℕ) → body_is is_processes t i ≡ false → in_node around 0 i name ≡ seen_entry around 0 (entry t i name)
    in_here name h = if_false (body_is is_processes t i) (seen_in_processes around 0 i (finds None name)) (seen_entry around 0 (entry t i name)) h

    in_there : (name : List ℕ) → body_is is_processes t i ≡ false → in_node around_there 0 i name ≡ seen_entry around_there 0 (entry u i name)
    in_there name h =
        if_false (body_is is_processes u i) (seen_in_processes around_there 0 i (found_there None name)) (seen_entry around_there 0 (entry u i name)) (same_processes t u i node_same ∙ h)

    -- whether a name is looked up among processes
    abbrev meets_in : Component → Bool
    meets_in c = if is_looked_up c then in_processes here_space (Node i) else false

    name_same : (name : List ℕ) → meets_in (Name name) ≡ false → named_at around_there (node_in 0 i) name ≡ named_at around (node_in 0 i) name
    name_same name h = at (too_long name) h
      where
        at : (b : Bool) → (if (if b then false else true) then in_processes here_space (Node i) else false) ≡ false
            → (if b then Fails ENAMETOOLONG else named_in around_there 0 (Node i) name) ≡ (if b then Fails ENAMETOOLONG else named_in around 0 (Node i) name)
        at true h = refl
        at false h = in_there name h ∙ entry_same name ∙ sym (in_here name h)

    name_sight : (name : List ℕ) → meets_in (Name name) ≡ false → IsNamedSight t (named_at around (node_in 0 i) name)
    name_sight name h = at (too_long name) h
      where
        at : (b : Bool) → (if (if b then false else true) then in_processes here_space (Node i) else false) ≡ false → IsNamedSight t (if b then Fails ENAMETOOLONG else named_in around 0 (Node i) name)
        at true h = tt
        at false h = subst (IsNamedSight t) (sym (in_here name h)) (entry_sight name)

    -- ---- one component

    inside_same : (c : Component) → meets_in c ≡ false → inside around_there (node_in 0 i) c ≡ inside around (node_in 0 i) c
    inside_same Dot h = refl
    inside_same DotDot h = above_same
    inside_same (Name name) h = name_same name h

    inside_sight : (c : Component) → body_is is_directory t i ≡ true → meets_in c ≡ false → IsNamedSight t (inside around (node_in 0 i) c)
    inside_sight Dot is h = let q = named_place t i text way in (q, q)
    inside_sight DotDot is h = above_sight is
    inside_sight (Name name) is h = name_sight name h

    abbrev is_dir : Bool
    is_dir = body_is is_directory t i

    abbrev may_here : Bool
    may_here = may t user i Search

    meets_inside : (c : Component) → meets_processes here_space (node_in 0 i) c ≡ false → is_dir ≡ true → may_here ≡ true → meets_in c ≡ false
    meets_inside c h d m = sym (if_true may_here (meets_in c) false m) ∙ sym (if_true is_dir (if may_here then meets_in c else false) false d) ∙ h

    node_look_same : (c : Component) → meets_processes here_space (node_in 0 i) c ≡ false → look_up around_there (node_in 0 i) c ≡ look_up around (node_in 0 i) c
    node_look_same c h =
        (λ j. if same_directory t u i node_same j then (if same_may t u i node_same user Search j then inside around_there (node_in 0 i) c else Fails EACCES) else Fails ENOTDIR)
        ∙ if_same is_dir (if may_here then inside around_there (node_in 0 i) c else Fails EACCES) (if may_here then inside around (node_in 0 i) c else Fails EACCES) (Fails ENOTDIR)
        (λ d. if_same may_here (inside around_there (node_in 0 i) c) (inside around (node_in 0 i) c) (Fails EACCES) (λ m. inside_same c (meets_inside c h d m)))

    node_look_sight : (c : Component) → meets_processes here_space (node_in 0 i) c ≡ false → IsNamedSight t (look_up around (node_in 0 i) c)
    node_look_sight c h = at is_dir refl
      where
        of : (b : Bool) → is_dir ≡ true → may_here ≡ b → IsNamedSight t (if b then inside around (node_in 0 i) c else Fails EACCES)
        of true d m = inside_sight c d (meets_inside c h d m)
        of false d m = tt

        at : (b : Bool) → is_dir ≡ b → IsNamedSight t (if b then (if may_here then inside around (node_in 0 i) c else Fails EACCES) else Fails ENOTDIR)
        at true d = of may_here d refl
        at false d = tt

    node_meets_same : (c : Component) → meets_processes there_space (node_in 0 i) c ≡ meets_processes here_space (node_in 0 i) c
    node_meets_same c =
        λ j. if same_directory t u i node_same j then (if same_may t u i node_same user Search j then (if is_looked_up c then same_processes t u i node_same j else false) else false) else false

  -- ---- from a place that a text names

  pub look_same : (p : Place ℕ) (c : Component) → IsNamedPlace t p → meets_processes here_space p c ≡ false → look_up around_there p c ≡ look_up around p c
  look_same p c n = subst (λ q. meets_processes here_space q c ≡ false → look_up around_there q c ≡ look_up around q c) (sym n.is) (node_look_same n.inode n.text n.named c)

  pub look_sight : (p : Place ℕ) (c : Component) → IsNamedPlace t p → meets_processes here_space p c ≡ false → IsNamedSight t (look_up around p c)
  look_sight p c n = subst (λ q. meets_processes here_space q c ≡ false → IsNamedSight t (look_up around q c)) (sym n.is) (node_look_sight n.inode n.text n.named c)

  pub meets_same : (p : Place ℕ) (c : Component) → IsNamedPlace t p → meets_processes there_space p c ≡ meets_processes here_space p c
  meets_same p c n = subst (λ q. meets_processes there_space q c ≡ meets_processes here_space q c) (sym n.is) (node_meets_same n.inode n.text n.named c)
