-- A tree that was read of the first names of another one.
use Rattle.std.proofs.Common.{◌≡◌, ◌≢◌, ℕ, true, false, List, [], ◌∷◌, ◌++◌, Option, Some, None, refl, sym, ap, subst, ◌∙◌, inl, inr, cond, eq-eqb}
use Rattle.std.specs.Prelude.{nat_eq}
use Rattle.std.specs.List.{find}
use Rattle.std.specs.Option.{option_map, option_map_or, option_and_then}
use Rattle.std.proofs.lemmas.Bool.{eqb-true}
use Rattle.kr_tree.specs.Tree.{Tree, Inode, Node, Body, Directory, RegularFile, SymbolicLink, ProcessDirectory, root, inode, node, entry, standing, standing_of, body_is, is_directory, is_listed, is_file, takes_names}
use Rattle.kr_tree.specs.Names.{named}
use Rattle.kr_tree.specs.Lawful.{IsKept}
use Rattle.kr_tree.proofs.kr_inode.BodyLemmas.{listed-is_directory}
use Rattle.kr_text.specs.declared.names.Named.{Named}
use Rattle.kr_text.specs.Canonical.{first_name}
use Rattle.kr_text.specs.Same.{bare, bare_body, shown}
use Rattle.kr_text.proofs.NamesLemmas.{IsNamed}
use Rattle.kr_text.proofs.OrderedNames.{IsAmong, IsNext, among-last, among-end, among-front}
use Rattle.kr_text.proofs.Growth.{Grows, named_there, named_kept, named_new, named_only}
use Rattle.kr_text.proofs.DepthLemmas.{stands_in}
use Rattle.kr_tree.proofs.NameLemmas.{some_is}

pub record Mirrors (t : Tree) (earlier : List Named) (u : Tree) : Type 0 where
  pub kept : IsKept u
  pub are_named : (n : Named) → IsAmong n earlier → IsNamed t n
  pub shows : (n : Named) → IsAmong n earlier → shown u n.path ≡ shown t n.path
  pub only : (tx : List (List ℕ)) (i : ℕ) → named u tx ≡ Some i → (n : Named) × IsAmong n earlier × (n.path ≡ tx)
  pub one : (n m : Named) → IsAmong n earlier → IsAmong m earlier → body_is is_file t n.ino ≡ true → n.ino ≡ m.ino → named u n.path ≡ named u m.path
  pub apart : (n m : Named) → IsAmong n earlier → IsAmong m earlier → body_is is_file t n.ino ≡ true → body_is is_file t m.ino ≡ true → named u n.path ≡ named u m.path → n.ino ≡ m.ino

-- ---- what a text shows

pub shows_node : (t : Tree) (n : Named) (x : Node) → IsNamed t n → node t n.ino ≡ Some x → shown t n.path ≡ Some (bare x)
shows_node t n x is at = ap (option_and_then (λ i. option_map bare (node t i))) is ∙ ap (option_map bare) at

-- what is shown is named
pub named_of_shown : (t : Tree) (text : List (List ℕ)) (b : Node) → shown t text ≡ Some b → (i : ℕ) × (x : Node) × (named t text ≡ Some i) × (node t i ≡ Some x) × (bare x ≡ b)
named_of_shown t text b is = go (named t text) refl is
  where
    inner : (i : ℕ) (o : Option Node) → node t i ≡ o → named t text ≡ Some i → option_map bare o ≡ Some b → (i : ℕ) × (x : Node) × (named t text ≡ Some i) × (node t i ≡ Some x) × (bare x ≡ b)
    inner i None e at h = cc
    inner i (Some x) e at h = (i, x, at, e, cc)

    go : (o : Option ℕ) → named t text ≡ o → option_and_then (λ i. option_map bare (node t i)) o ≡ Some b → (i : ℕ) × (x : Node) × (named t text ≡ Some i) × (node t i ≡ Some x) × (bare x ≡ b)
    go None e h = cc
    go (Some i) e h = inner i (node t i) refl e h

pub node_there : (t : Tree) → IsKept t → (n : Named) → IsNamed t n → (x : Node) × (node t n.ino ≡ Some x)
node_there t kept n is = let x = named_there t kept n.path n.ino is in (x.0.node, ap (option_map (λ z. z.node)) x.1)

module _ {t : Tree} (kept_t : IsKept t) {earlier : List Named} {u : Tree} (mirrors : Mirrors t earlier u) where
  -- a name that was read is named, by a node like its own
  pub read_name : (n : Named) → IsAmong n earlier → (x : Node) → node t n.ino ≡ Some x → (i : ℕ) × (y : Node) × (named u n.path ≡ Some i) × (node u i ≡ Some y) × (bare y ≡ bare x)
  read_name n is x at = named_of_shown u n.path (bare x) (mirrors.shows n is ∙ shows_node t n x (mirrors.are_named n is) at)

-- ---- a directory in which more names can stand

pub bare_directory : (b : Body) → is_listed (bare_body b) ≡ is_listed b
bare_directory (Directory es standing) = refl
bare_directory (RegularFile bytes) = refl
bare_directory (SymbolicLink text) = refl
bare_directory (ProcessDirectory standing) = refl

takes_listed : (b : Body) → is_listed b ≡ true → (some : standing_of b ≢ None) → takes_names b ≡ true
takes_listed (Directory es None) is some = absurd (some refl)
takes_listed (Directory es (Some s)) is some = refl
takes_listed (RegularFile bytes) is some = is
takes_listed (SymbolicLink text) is some = is
takes_listed (ProcessDirectory s) is some = is

-- a directory that is named stands somewhere
named_stands : (u : Tree) → IsKept u → (text : List (List ℕ)) (i : ℕ) → named u text ≡ Some i → body_is is_directory u i ≡ true → standing u i ≢ None
named_stands u kept [] i is directory none = let root_at = kept.sound.rooted in let same : standing u root ≡ None = ap (standing u) (some_is root i is) ∙ none in cc
named_stands u kept (name ∷ text) i is directory none =
    let at = named_above_of u name text i is in
    let s = (stands_in u kept at.0 name i at.1 directory).1 in
    cc
  where
    named_above_of : (w : Tree) (c : List ℕ) (tx : List (List ℕ)) (k : ℕ) → named w (c ∷ tx) ≡ Some k → (d : ℕ) × (entry w d c ≡ Some k)
    named_above_of w c tx k e = go (named w tx) e
      where
        go : (o : Option ℕ) → option_and_then (λ d. entry w d c) o ≡ Some k → (d : ℕ) × (entry w d c ≡ Some k)
        go None h = cc
        go (Some d) h = (d, h)

pub takes_where_listed : (u : Tree) → IsKept u → (text : List (List ℕ)) (i : ℕ) (y : Node) → named u text ≡ Some i → node u i ≡ Some y → is_listed y.body ≡ true → body_is takes_names u i ≡ true
takes_where_listed u kept text i y is at listed = go (inode u i) refl at
  where
    go : (o : Option Inode) → inode u i ≡ o → option_map (λ z. z.node) o ≡ Some y → option_map_or (λ z. takes_names z.node.body) o false ≡ true
    go None e h = cc
    go (Some z) e h =
        let same : z.node ≡ y = cc in
        let listed_z : is_listed z.node.body ≡ true = ap (λ k. is_listed k.body) same ∙ listed in
        let directory : body_is is_directory u i ≡ true = ap (λ o. option_map_or (λ k. is_directory k.node.body) o false) e ∙ listed-is_directory z.node.body listed_z in
        takes_listed z.node.body listed_z (λ none. named_stands u kept text i is directory (ap (option_and_then (λ k. standing_of k.node.body)) e ∙ none))

-- ---- one name more

first_none : (i : ℕ) (earlier : List Named) (m : Named) → first_name i earlier ≡ None → IsAmong m earlier → m.ino ≢ i
first_none i [] m none is = absurd is
first_none i (n ∷ earlier) m none (inl same) =
    elim (nat_eq n.ino i) as (λ b. nat_eq n.ino i ≡ b → option_map (λ k. k.path) (cond b (Some n) (find (λ k. nat_eq k.ino i) earlier)) ≡ None → m.ino ≢ i) [
      | true ↦ λ t e. cc
      | false ↦ λ f e eq.
          let yes : nat_eq n.ino i ≡ true = eq-eqb n.ino i (ap (λ k. k.ino) same ∙ eq) in
          let never : true ≡ false = sym yes ∙ f in
          cc
    ] refl none
first_none i (n ∷ earlier) m none (inr more) =
    elim (nat_eq n.ino i) as (λ b. option_map (λ k. k.path) (cond b (Some n) (find (λ k. nat_eq k.ino i) earlier)) ≡ None → m.ino ≢ i)
    [ true ↦ λ e. cc | false ↦ λ e. first_none i earlier m e more ] none

pub first_found : (i : ℕ) (earlier : List Named) (path : List (List ℕ)) → first_name i earlier ≡ Some path → (m : Named) × IsAmong m earlier × (m.path ≡ path) × (m.ino ≡ i)
first_found i [] path is = cc
first_found i (n ∷ earlier) path is =
    elim (nat_eq n.ino i) as (λ b. nat_eq n.ino i ≡ b → option_map (λ k. k.path) (cond b (Some n) (find (λ k. nat_eq k.ino i) earlier)) ≡ Some path → (m : Named) × IsAmong m (n ∷ earlier) × (m.path ≡ path) × (m.ino ≡ i)) [
      | true ↦ λ t e. (n, inl refl, cc, eqb-true n.ino i t)
      | false ↦ λ f e. let more = first_found i earlier path e in (more.0, inr more.1, more.2, more.3)
    ] refl is

module _ {t : Tree} (kept_t : IsKept t) {earlier : List Named} {u v : Tree} (mirrors : Mirrors t earlier u) {n : Named} (next : IsNext t earlier n) {dir j : ℕ} (grows : Grows u v dir next.name j)
    (kept_v : IsKept v) (at : named u next.directory.path ≡ Some dir) (directory : body_is is_directory u dir ≡ true) (x : Node) (node_is : node t n.ino ≡ Some x) (new_shows : option_map bare (node v j) ≡ Some (bare x)) where
  new_named : named v n.path ≡ Some j
  new_named = ap (named v) next.path ∙ named_new grows next.directory.path at

  n_is_named : IsNamed t n
  n_is_named = ap (named t) next.path ∙ ap (option_and_then (λ d. entry t d next.name)) next.named ∙ next.entry_is

  old_named : (m : Named) → IsAmong m earlier → (i : ℕ) × (named u m.path ≡ Some i) × (named v m.path ≡ Some i)
  old_named m is =
      let y = node_there t kept_t m (mirrors.are_named m is) in
      let r = read_name kept_t mirrors m is y.0 y.1 in
      (r.0, r.2, named_kept grows m.path r.0 r.2)

  old_shows : (m : Named) → IsAmong m earlier → shown v m.path ≡ shown t m.path
  old_shows m is =
      let y = node_there t kept_t m (mirrors.are_named m is) in
      let r = read_name kept_t mirrors m is y.0 y.1 in
      ap (option_and_then (λ i. option_map bare (node v i))) (named_kept grows m.path r.0 r.2) ∙ grows.bare_kept r.0 r.1 r.3 ∙ ap Some r.4 ∙ sym (shows_node t m y.0 (mirrors.are_named m is) y.1)

  all_named : (m : Named) → IsAmong m (earlier ++ n ∷ []) → IsNamed t m
  all_named m is = elim (among-last m n earlier is) [ inl old ↦ mirrors.are_named m old | inr same ↦ subst (IsNamed t) same n_is_named ]

  all_show : (m : Named) → IsAmong m (earlier ++ n ∷ []) → shown v m.path ≡ shown t m.path
  all_show m is = elim (among-last m n earlier is) [
    | inl old ↦ old_shows m old
    | inr same ↦ subst (λ k. shown v k.path ≡ shown t k.path) same (ap (option_and_then (λ i. option_map bare (node v i))) new_named ∙ new_shows ∙ sym (shows_node t n x n_is_named node_is))
  ]

  all_only : (tx : List (List ℕ)) (i : ℕ) → named v tx ≡ Some i → (m : Named) × IsAmong m (earlier ++ n ∷ []) × (m.path ≡ tx)
  all_only tx i is = elim (named_only grows mirrors.kept next.directory.path at directory tx i is) [
    | inl old ↦ let m = mirrors.only tx i old in (m.0, among-front m.0 earlier (n ∷ []) m.1, m.2)
    | inr is_new ↦ (n, among-end n earlier, next.path ∙ sym is_new.0)
  ]

  -- an inode that had no name
  pub mirrors_new : ((tx : List (List ℕ)) → named u tx ≡ Some j → ⊥) → (body_is is_file t n.ino ≡ true → first_name n.ino earlier ≡ None) → Mirrors t (earlier ++ n ∷ []) v
  mirrors_new unnamed first = record {
    kept = kept_v;
    are_named = all_named;
    shows = all_show;
    only = all_only;
    one = λ a b is_a is_b file same. elim (among-last a n earlier is_a) [
      | inl old_a ↦ elim (among-last b n earlier is_b) [
        | inl old_b ↦ let p = old_named a old_a in let q = old_named b old_b in let both = mirrors.one a b old_a old_b file same in p.2 ∙ sym p.1 ∙ both ∙ q.1 ∙ sym q.2
        | inr is_n ↦ absurd (first_none n.ino earlier a (first (subst (λ i. body_is is_file t i ≡ true) (same ∙ ap (λ k. k.ino) (sym is_n)) file)) old_a (same ∙ ap (λ k. k.ino) (sym is_n)))
      ]
      | inr is_n ↦ elim (among-last b n earlier is_b) [
        | inl old_b ↦ absurd (first_none n.ino earlier b (first (subst (λ i. body_is is_file t i ≡ true) (ap (λ k. k.ino) (sym is_n)) file)) old_b (sym same ∙ ap (λ k. k.ino) (sym is_n)))
        | inr also_n ↦ ap (λ k. named v k.path) (sym is_n ∙ also_n)
      ]
    ];
    apart = λ a b is_a is_b file_a file_b same. elim (among-last a n earlier is_a) [
      | inl old_a ↦ elim (among-last b n earlier is_b) [
        | inl old_b ↦ let p = old_named a old_a in let q = old_named b old_b in mirrors.apart a b old_a old_b file_a file_b (p.1 ∙ sym p.2 ∙ same ∙ q.2 ∙ sym q.1)
        | inr is_n ↦ let p = old_named a old_a in absurd (unnamed a.path (p.1 ∙ sym p.2 ∙ same ∙ ap (λ k. named v k.path) (sym is_n) ∙ new_named))
      ]
      | inr is_n ↦ elim (among-last b n earlier is_b) [
        | inl old_b ↦ let q = old_named b old_b in absurd (unnamed b.path (q.1 ∙ sym q.2 ∙ sym same ∙ ap (λ k. named v k.path) (sym is_n) ∙ new_named))
        | inr also_n ↦ ap (λ k. k.ino) (sym is_n ∙ also_n)
      ]
    ];
  }

  -- a further name of a file that was read by an earlier one
  pub mirrors_again : (m : Named) → IsAmong m earlier → m.ino ≡ n.ino → body_is is_file t n.ino ≡ true → named u m.path ≡ Some j → Mirrors t (earlier ++ n ∷ []) v
  mirrors_again m is_m same_ino file_n at_m =
      let file_m : body_is is_file t m.ino ≡ true = subst (λ i. body_is is_file t i ≡ true) (sym same_ino) file_n in
      record {
        kept = kept_v;
        are_named = all_named;
        shows = all_show;
        only = all_only;
        one = λ a b is_a is_b file same. elim (among-last a n earlier is_a) [
          | inl old_a ↦ elim (among-last b n earlier is_b) [
            | inl old_b ↦ let p = old_named a old_a in let q = old_named b old_b in let both = mirrors.one a b old_a old_b file same in p.2 ∙ sym p.1 ∙ both ∙ q.1 ∙ sym q.2
            | inr is_n ↦
                let p = old_named a old_a in
                let to_m : named u a.path ≡ named u m.path = mirrors.one a m old_a is_m file (same ∙ ap (λ k. k.ino) (sym is_n) ∙ sym same_ino) in
                p.2 ∙ sym p.1 ∙ to_m ∙ at_m ∙ sym new_named ∙ ap (λ k. named v k.path) is_n
          ]
          | inr is_n ↦ elim (among-last b n earlier is_b) [
            | inl old_b ↦
                let q = old_named b old_b in
                let to_m : named u m.path ≡ named u b.path = mirrors.one m b is_m old_b file_m (same_ino ∙ ap (λ k. k.ino) is_n ∙ same) in
                ap (λ k. named v k.path) (sym is_n) ∙ new_named ∙ sym at_m ∙ to_m ∙ q.1 ∙ sym q.2
            | inr also_n ↦ ap (λ k. named v k.path) (sym is_n ∙ also_n)
          ]
        ];
        apart = λ a b is_a is_b file_a file_b same. elim (among-last a n earlier is_a) [
          | inl old_a ↦ elim (among-last b n earlier is_b) [
            | inl old_b ↦ let p = old_named a old_a in let q = old_named b old_b in mirrors.apart a b old_a old_b file_a file_b (p.1 ∙ sym p.2 ∙ same ∙ q.2 ∙ sym q.1)
            | inr is_n ↦
                let p = old_named a old_a in
                mirrors.apart a m old_a is_m file_a file_m (p.1 ∙ sym p.2 ∙ same ∙ ap (λ k. named v k.path) (sym is_n) ∙ new_named ∙ sym at_m) ∙ same_ino ∙ ap (λ k. k.ino) is_n
          ]
          | inr is_n ↦ elim (among-last b n earlier is_b) [
            | inl old_b ↦
                let q = old_named b old_b in
                ap (λ k. k.ino) (sym is_n) ∙ sym same_ino ∙ mirrors.apart m b is_m old_b file_m file_b (at_m ∙ sym new_named ∙ ap (λ k. named v k.path) is_n ∙ same ∙ q.2 ∙ sym q.1)
            | inr also_n ↦ ap (λ k. k.ino) (sym is_n ∙ also_n)
          ]
        ];
      }
