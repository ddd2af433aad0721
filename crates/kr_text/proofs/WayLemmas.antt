-- A listing while it is written.
use Rattle.std.proofs.Common.{◌≡◌, ◌≢◌, ℕ, suc, inl, inr, ◌<◌, true, false, List, [], ◌∷◌, ◌++◌, length, Option, Some, None, refl, sym, ap, subst, ◌∙◌, arith, append_assoc, append-nil, cond, map as map_list, Result, Ok, Err}
use Rattle.std.specs.Prelude.{OnOk}
use Rattle.std.specs.FinMap as map
use Rattle.std.specs.List.{AllByRecursion, flat_map}
use Rattle.std.specs.Option.{option_map, option_map_or}
use Rattle.std.specs.BTreeMap.{BTreeMap, get}
use Rattle.std.specs.Ordering.{nat_cmp}
use Rattle.std.proofs.lemmas.List.Concat.{flat_map-append}
use Rattle.kr_tree.specs.kr_inode.declared.user.User.{User}
use Rattle.kr_tree.specs.Tree.{Tree, Inode, Body, Directory, RegularFile, SymbolicLink, ProcessDirectory, Node, inode, entries, entries_of, body_is, is_file}
use Rattle.kr_tree.specs.Lawful.{IsKept}
use Rattle.kr_text.specs.declared.names.Named.{Named}
use Rattle.kr_text.specs.Canonical.{canonical, user_line, put_in_order, below, children, root_name, first_name, line_at, body_line, owner_of, lines_after}
use Rattle.kr_text.specs.FirstNames.{AreFirst, has_several, kept_name}
use Rattle.kr_text.proofs.NamesLemmas.{IsNamed, all-in_front, children_named, under, under_step}
use Rattle.kr_text.proofs.OrderedNames.{IsAmong, AreInOrder, among-last, names_inside, under_parts, all_in_order}
use Rattle.kr_text.proofs.OneName.{none_before}

-- only a file's line has its first name
same_line : (t : Tree) (n : Named) (a b : Option (List (List ℕ))) → (body_is is_file t n.ino ≡ true → a ≡ b) → line_at t n a ≡ line_at t n b
same_line t n a b same = go (inode t n.ino) same
  where
    by_body : (x : Node) (b2 : Body) → (is_file b2 ≡ true → a ≡ b) → body_line n.path (owner_of x) a b2 ≡ body_line n.path (owner_of x) b b2
    by_body x (Directory es standing) h = refl
    by_body x (RegularFile bytes) h = ap (λ first. body_line n.path (owner_of x) first (RegularFile bytes)) (h refl)
    by_body x (SymbolicLink text) h = refl
    by_body x (ProcessDirectory standing) h = refl

    go : (o : Option Inode) → (option_map_or (λ x. is_file x.node.body) o false ≡ true → a ≡ b) → option_map_or (λ x. body_line n.path (owner_of x) a x.body) (option_map (λ x. x.node) o) [] ≡ option_map_or (λ x. body_line n.path (owner_of x) b x.body) (option_map (λ x. x.node) o) []
    go None h = refl
    go (Some x) h = by_body x.node x.node.body h

-- the first name that is kept of a file is its first one, where none of a file with one name stands before
first_kept : (t : Tree) → IsKept t → (first : BTreeMap ℕ (List (List ℕ))) (earlier : List Named) (n : Named) → AreFirst t first earlier → ((m : Named) → IsAmong m earlier → IsNamed t m) → IsNamed t n → ((m : Named) → IsAmong m earlier → m.path ≢ n.path) → body_is is_file t n.ino ≡ true → get nat_cmp first n.ino ≡ first_name n.ino earlier
first_kept t kept first earlier n are all is fresh file =
    elim (has_several t n.ino) as (λ b. has_several t n.ino ≡ b → get nat_cmp first n.ino ≡ cond b (first_name n.ino earlier) None → get nat_cmp first n.ino ≡ first_name n.ino earlier)
    [ true ↦ λ several found. found | false ↦ λ one found. found ∙ sym (none_before t kept earlier n all is fresh one) ] refl (are n.ino file)

-- names of which each has another text than all before it
abbrev pub AreFresh : List Named → List Named → Type 0
AreFresh earlier [] = Unit {0}
AreFresh earlier (n ∷ names) = ((m : Named) → IsAmong m earlier → m.path ≢ n.path) × AreFresh (earlier ++ n ∷ []) names

fresh_in_order : (t : Tree) (earlier names : List Named) → AreInOrder t earlier names → AreFresh earlier names
fresh_in_order t earlier [] order = tt
fresh_in_order t earlier (n ∷ names) order = (order.0.fresh, fresh_in_order t (earlier ++ n ∷ []) names order.1)

all_fresh : (t : Tree) → IsKept t → AreFresh [] (under t root_name)
all_fresh t kept = subst (AreFresh []) (sym (under_parts (map.len t.inodes) t root_name)) ((λ m is. absurd is), fresh_in_order t (root_name ∷ []) (names_inside (map.len t.inodes) t root_name) (all_in_order t kept (map.len t.inodes)))

-- ---- the listing so far

-- with the lines of the names that wait it is the canonical one
pub record IsOnTheWay (t : Tree) (user : User) (listing : List ℕ) (first : BTreeMap ℕ (List (List ℕ))) (waiting : List Named) : Type 0 where
  pub earlier : List Named
  pub rest : listing ++ lines_after t earlier (flat_map (under t) waiting) ≡ canonical t user
  pub first_names : AreFirst t first earlier
  pub fresh : AreFresh earlier (flat_map (under t) waiting)
  pub all_named : (m : Named) → IsAmong m earlier → IsNamed t m
  pub there : AllByRecursion (IsNamed t) waiting

nothing_kept : (t : Tree) (i : ℕ) → kept_name t i [] ≡ None
nothing_kept t i = elim (has_several t i) as (λ b. cond b (first_name i []) None ≡ None) [ true ↦ refl | false ↦ refl ]

pub at_start : (t : Tree) → IsKept t → (user : User) (listing : List ℕ) (first : BTreeMap ℕ (List (List ℕ))) (waiting : List Named)
    → listing ≡ user_line user → ((i : ℕ) → get nat_cmp first i ≡ None) → waiting ≡ root_name ∷ [] → IsOnTheWay t user listing first waiting
at_start t kept user listing first waiting begun none alone =
    let names : flat_map (under t) waiting ≡ under t root_name = ap (flat_map (under t)) alone ∙ append-nil (under t root_name) in
    record {
      earlier = [];
      rest = (λ i. begun i ++ lines_after t [] (names i));
      first_names = λ i file. none i ∙ sym (nothing_kept t i);
      fresh = subst (AreFresh []) (sym names) (all_fresh t kept);
      all_named = λ m is. absurd is;
      there = subst (AllByRecursion (IsNamed t)) (sym alone) (refl, tt);
    }

-- the names that are left once one and all below it were put in their place
next_names : (t : Tree) → IsKept t → (n : Named) (rest : List Named) → IsNamed t n → flat_map (under t) (n ∷ rest) ≡ n ∷ flat_map (under t) (children t n ++ rest)
next_names t kept n rest is = ap (λ names. names ++ flat_map (under t) rest) (under_step t kept n is) ∙ ap (λ names. n ∷ names) (sym (flat_map-append (under t) (children t n) rest))

pub fewer_names : (t : Tree) → IsKept t → (n : Named) (rest before after : List Named) → before ≡ n ∷ rest → after ≡ children t n ++ rest → AllByRecursion (IsNamed t) before → length (flat_map (under t) after) < length (flat_map (under t) before)
fewer_names t kept n rest before after is_before is_after there =
    let all : AllByRecursion (IsNamed t) (n ∷ rest) = subst (AllByRecursion (IsNamed t)) is_before there in
    let shorter : length (flat_map (under t) before) ≡ suc (length (flat_map (under t) (children t n ++ rest))) = ap (λ names. length (flat_map (under t) names)) is_before ∙ ap length (next_names t kept n rest all.0) in
    let same : length (flat_map (under t) after) ≡ length (flat_map (under t) (children t n ++ rest)) = ap (λ names. length (flat_map (under t) names)) is_after in
    omega arith

pub on_the_way : (t : Tree) → IsKept t → (user : User) (n : Named) (rest before after : List Named) (listing more : List ℕ) (first next : BTreeMap ℕ (List (List ℕ)))
    → before ≡ n ∷ rest → after ≡ children t n ++ rest → more ≡ listing ++ line_at t n (get nat_cmp first n.ino)
    → ((earlier : List Named) → AreFirst t first earlier → AreFirst t next (earlier ++ n ∷ []))
    → IsOnTheWay t user listing first before → IsOnTheWay t user more next after
unfolding lines_after
on_the_way t kept user n rest before after listing more first next is_before is_after is_more noted way =
    let all : AllByRecursion (IsNamed t) (n ∷ rest) = subst (AllByRecursion (IsNamed t)) is_before way.there in
    let left : List Named = flat_map (under t) (children t n ++ rest) in
    let names : flat_map (under t) before ≡ n ∷ left = ap (flat_map (under t)) is_before ∙ next_names t kept n rest all.0 in
    let fresh : AreFresh way.earlier (n ∷ left) = subst (AreFresh way.earlier) names way.fresh in
    let line : line_at t n (get nat_cmp first n.ino) ≡ line_at t n (first_name n.ino way.earlier) = same_line t n (get nat_cmp first n.ino) (first_name n.ino way.earlier) (first_kept t kept first way.earlier n way.first_names way.all_named all.0 fresh.0) in
    record {
      earlier = way.earlier ++ n ∷ [];
      rest =
          (λ i. is_more i ++ lines_after t (way.earlier ++ n ∷ []) (flat_map (under t) (is_after i)))
          ∙ append_assoc listing (line_at t n (get nat_cmp first n.ino)) (lines_after t (way.earlier ++ n ∷ []) left)
          ∙ ap (λ l. listing ++ (l ++ lines_after t (way.earlier ++ n ∷ []) left)) line
          ∙ ap (λ names. listing ++ lines_after t way.earlier names) (sym names)
          ∙ way.rest;
      first_names = noted way.earlier way.first_names;
      fresh = subst (λ ns. AreFresh (way.earlier ++ n ∷ []) (flat_map (under t) ns)) (sym is_after) fresh.1;
      all_named = λ m is_m. elim (among-last m n way.earlier is_m) [ inl one ↦ way.all_named m one | inr same ↦ subst (IsNamed t) same all.0 ];
      there = subst (AllByRecursion (IsNamed t)) (sym is_after) (all-in_front (IsNamed t) (below n.path) (put_in_order [] (entries t n.ino)) rest (children_named t kept n all.0) all.1);
    }

pub at_end : (t : Tree) (user : User) (listing : List ℕ) (first : BTreeMap ℕ (List (List ℕ))) (waiting : List Named) → waiting ≡ [] → IsOnTheWay t user listing first waiting → listing ≡ canonical t user
unfolding lines_after
at_end t user listing first waiting none way =
    sym (append-nil listing) ∙ ap (λ names. listing ++ lines_after t way.earlier (flat_map (under t) names)) (sym none) ∙ way.rest

-- ---- what is no directory

pub file_children : (t : Tree) (n : Named) → body_is is_file t n.ino ≡ true → children t n ≡ []
file_children t n file = ap (λ es. map_list (below n.path) (put_in_order [] es)) (go (inode t n.ino) file)
  where
    by_body : (b : Body) → is_file b ≡ true → entries_of b ≡ []
    by_body (Directory es standing) is = cc
    by_body (RegularFile bytes) is = refl
    by_body (SymbolicLink text) is = refl
    by_body (ProcessDirectory standing) is = refl

    go : (o : Option Inode) → option_map_or (λ x. is_file x.node.body) o false ≡ true → option_map_or (λ x. entries_of x.node.body) o [] ≡ []
    go None is = refl
    go (Some x) is = by_body x.node.body is

-- what holds whatever was answered
pub when_ok : {A E P : Type 0} (r : Result A E) → P → OnOk r P
when_ok (Ok x) is = is
when_ok (Err error) is = tt
