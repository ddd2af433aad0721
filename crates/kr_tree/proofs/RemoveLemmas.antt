-- A tree after a name was taken away.
use Rattle.std.specs.FinMap as map
use Rattle.std.proofs.Common.{◌≡◌, ◌≢◌, inl, inr, subst, ℕ, ◌+◌, ◌-◌, ◌≤◌, ◌<◌, Bool, true, false, List, [], ◌∷◌, length, refl, sym, ap, ◌∙◌, arith, Option, Some, None, nat_eq}
use Rattle.std.specs.Prelude.{bytes_eq}
use Rattle.std.specs.Option.{option_map, option_map_or, option_and_then}
use Rattle.std.proofs.lemmas.Bool.{cases_eq}
use Rattle.kr_inode.specs.declared.standing.Standing.{Standing}
use Rattle.kr_tree.specs.Tree.{Tree, Inode, Inodes, Entry, Body, RegularFile, root, inode, entry, entry_named, entries, entries_of, standing, standing_of, above, body_is, is_directory, is_listed, is_filled, body, bytes_of}
use Rattle.kr_inode.specs.Entries.{IsListed}
use Rattle.kr_tree.specs.Changes.{with_inode, without_entry, without_name, unnamed, unlinked, without_unused, freed, is_unused, counted, file_limit}
use Rattle.kr_tree.specs.Lawful.{IsKept, IsSound, IsCounted, RisesToEnd, AtRoot, AtRemoved, Above, IsIn, entries_beside, count_in, directories_in, names_of, total}
use Rattle.kr_inode.proofs.pr_base.MapLemmas.{get-changed_same, get-changed_other, len-changed}
use Rattle.kr_tree.proofs.InodesLemmas.{stays-names}
use Rattle.kr_tree.proofs.OfBytesLemmas.{of_bytes-parted}
use Rattle.kr_inode.proofs.EntryLemmas.{listed-without, named_in, in_named, in_above, serial_alone, in_without, in_still, weighed, weighed-without}
use Rattle.kr_inode.proofs.BodyLemmas.{entries-with_entries, standing-with_entries, is_directory-with_entries, is_listed-with_entries, bytes-with_entries, file-with_entries, entries-with_standing, is_directory-with_standing, is_listed-with_standing, bytes-with_standing, file-with_standing, standing-without, filled-entries, entries-is_listed}
use Rattle.kr_tree.proofs.CountLemmas.{value, sum-at, sum-changed, counted-same, counted-other, directories-same, entries_there, there, root_directory}
use Rattle.kr_tree.proofs.DropLemmas.{kept-dropped, freed-le}
use Rattle.kr_tree.proofs.QuietLemmas.{of_entries}
use Rattle.kr_inode.proofs.pr_base.TextLemmas.{some_is}

-- counts as weights
pub weighed-count : (i : ℕ) (es : List Entry) → weighed (λ e. counted (nat_eq i e.inode)) es ≡ count_in i es
weighed-count i [] = refl
weighed-count i (e ∷ es) = ap (λ n. counted (nat_eq i e.inode) + n) (weighed-count i es)

pub weighed-directories : (t : Tree) (es : List Entry) → weighed (λ e. counted (body_is is_directory t e.inode)) es ≡ directories_in t es
weighed-directories t [] = refl
weighed-directories t (e ∷ es) = ap (λ n. counted (body_is is_directory t e.inode) + n) (weighed-directories t es)

pub weighed-length : (es : List Entry) → weighed (λ _. 1) es ≡ length es
weighed-length [] = refl
weighed-length (e ∷ es) = let rest = weighed-length es in omega arith

pub entry_found : (name : List ℕ) (o : Option Entry) (i : ℕ) → option_map (λ e. e.inode) o ≡ Some i → (e : Entry) × (o ≡ Some e) × (e.inode ≡ i)
entry_found name None i h = absurd cc
entry_found name (Some e) i h = (e, refl, ap (λ o. option_map_or (λ s. s) o i) h)

module _ (t : Tree) (sound : IsSound t) (counts : IsCounted t) (dir : ℕ) (name : List ℕ) (i : ℕ) (is : entry t dir name ≡ Some i) (empty : body_is is_filled t i ≡ false) where
  abbrev dirs : Bool
  dirs = body_is is_directory t i

  abbrev shrink : Inode → Inode
  shrink = without_entry name dirs

  abbrev middle : Inodes
  middle = with_inode dir shrink t.inodes

  -- before the inode is dropped
  abbrev u : Tree
  u = record { inodes = with_inode i unnamed middle; next = t.next; names = t.names - 1; bytes = t.bytes }

  e : Entry
  e = (entry_found name (entry_named name (entries t dir)) i is).0

  found : entry_named name (entries t dir) ≡ Some e
  unfolding e
  found = (entry_found name (entry_named name (entries t dir)) i is).1

  e_is : e.inode ≡ i
  unfolding e
  e_is = (entry_found name (entry_named name (entries t dir)) i is).2

  e_in : IsIn e (entries t dir)
  e_in = (named_in name (entries t dir) e found).0

  x : Inode
  x = (entries_there t dir e e_in).0

  at_dir : inode t dir ≡ Some x
  unfolding x
  at_dir = (entries_there t dir e e_in).1

  y : Inode
  y = (there t sound counts dir e e_in).0

  at_i : inode t i ≡ Some y
  unfolding y
  at_i = ap (inode t) (sym e_is) ∙ (there t sound counts dir e e_in).1

  entries_at : entries t dir ≡ entries_of x.node.body
  entries_at = ap (λ o. option_map_or (λ z. entries_of z.node.body) o []) at_dir

  none_at : entries t i ≡ []
  none_at = ap (λ o. option_map_or (λ z. entries_of z.node.body) o []) at_i ∙ filled-entries y.node.body (sym (ap (λ o. option_map_or (λ z. is_filled z.node.body) o false) at_i) ∙ empty)

  apart : dir ≢ i
  apart same = let P : List Entry → Type 0 = λ es. IsIn e es in absurd (subst P (ap (entries t) same ∙ none_at) e_in)

  x_listed : is_listed x.node.body ≡ true
  x_listed = let P : List Entry → Type 0 = λ es. IsIn e es in entries-is_listed x.node.body e (subst P entries_at e_in)

  x_kept : IsListed (entries_beside x)
  x_kept = sound.listed dir x at_dir

  not_root : i ≢ root
  not_root same =
      let root_dirs : body_is is_directory t i ≡ true = ap (body_is is_directory t) same ∙ root_directory t sound in
      let stood : standing t i ≡ Some (record { inode = dir; serial = e.serial }) = sym (ap (standing t) e_is) ∙ sound.alone dir e e_in (ap (body_is is_directory t) e_is ∙ root_dirs) in
      let both : ◌≡◌ {A = Option Standing} (Some (record { inode = dir; serial = e.serial })) (Some (record { inode = root; serial = 0 })) = sym stood ∙ ap (standing t) same ∙ sound.rooted in
      let zero : e.serial ≡ 0 = ap (λ o. option_map_or (λ s. s.serial) o 0) both in
      let P : List Entry → Type 0 = λ es. IsIn e es in
      let low = in_above 2 x.next_serial (entries_of x.node.body) e x_kept.rises (subst P entries_at e_in) in
      absurd (omega arith)

  -- ---- what is there

  abbrev shrunk : Inode
  shrunk = shrink x

  dir_is : inode u dir ≡ Some shrunk
  dir_is = get-changed_other middle i unnamed dir apart ∙ get-changed_same t.inodes dir shrink ∙ ap (option_map shrink) at_dir

  i_is : inode u i ≡ Some (unnamed y)
  i_is = get-changed_same middle i unnamed ∙ ap (option_map unnamed) (get-changed_other t.inodes dir shrink i (λ s. apart (sym s)) ∙ at_i)

  other_is : (q : ℕ) → q ≢ dir → q ≢ i → inode u q ≡ inode t q
  other_is q d n = get-changed_other middle i unnamed q n ∙ get-changed_other t.inodes dir shrink q d

  by : (P : ℕ → Type 0) → P dir → P i → ((q : ℕ) → q ≢ dir → q ≢ i → P q) → (q : ℕ) → P q
  by P here there rest q =
      elim (cases_eq q dir) [
        | inl s ↦ subst P (sym s) here
        | inr d ↦ elim (cases_eq q i) [ inl s ↦ subst P (sym s) there | inr n ↦ rest q d n ]
      ]

  shrunk_entries : entries_of shrunk.node.body ≡ without_name name (entries_of x.node.body)
  shrunk_entries = entries-with_entries (without_name name) x.node.body x_listed

  entries_dir : entries u dir ≡ without_name name (entries t dir)
  entries_dir = ap (λ o. option_map_or (λ z. entries_of z.node.body) o []) dir_is ∙ shrunk_entries ∙ ap (without_name name) (sym entries_at)

  entries_other : (q : ℕ) → q ≢ dir → entries u q ≡ entries t q
  entries_other q d = elim (cases_eq q i) [
    | inl s ↦ ap (entries u) s ∙ ap (λ o. option_map_or (λ z. entries_of z.node.body) o []) i_is ∙ entries-with_standing None y.node.body ∙ sym (ap (λ o. option_map_or (λ z. entries_of z.node.body) o []) at_i) ∙ ap (entries t) (sym s)
    | inr n ↦ ap (λ o. option_map_or (λ z. entries_of z.node.body) o []) (other_is q d n)
  ]

  directories : (q : ℕ) → body_is is_directory u q ≡ body_is is_directory t q
  directories = by (λ q. body_is is_directory u q ≡ body_is is_directory t q)
      (ap (λ o. option_map_or (λ z. is_directory z.node.body) o false) dir_is ∙ is_directory-with_entries (without_name name) x.node.body ∙ sym (ap (λ o. option_map_or (λ z. is_directory z.node.body) o false) at_dir))
      (ap (λ o. option_map_or (λ z. is_directory z.node.body) o false) i_is ∙ is_directory-with_standing None y.node.body ∙ sym (ap (λ o. option_map_or (λ z. is_directory z.node.body) o false) at_i))
      (λ q d n. ap (λ o. option_map_or (λ z. is_directory z.node.body) o false) (other_is q d n))

  standing_i : standing u i ≡ None
  standing_i = ap (option_and_then (λ z. standing_of z.node.body)) i_is ∙ standing-without y.node.body

  standing_other : (q : ℕ) → q ≢ i → standing u q ≡ standing t q
  standing_other q n = elim (cases_eq q dir) [
    | inl s ↦ ap (standing u) s ∙ ap (option_and_then (λ z. standing_of z.node.body)) dir_is ∙ standing-with_entries (without_name name) x.node.body ∙ sym (ap (option_and_then (λ z. standing_of z.node.body)) at_dir) ∙ ap (standing t) (sym s)
    | inr d ↦ ap (option_and_then (λ z. standing_of z.node.body)) (other_is q d n)
  ]

  above_none : (q : ℕ) → above t q ≡ None → above u q ≡ None
  above_none q h = elim (cases_eq q i) [
    | inl s ↦ ap (option_map (λ s. s.inode)) (ap (standing u) s ∙ standing_i)
    | inr n ↦ ap (option_map (λ s. s.inode)) (standing_other q n) ∙ h
  ]

  rises_still : (q : ℕ) → RisesToEnd t q → RisesToEnd u q
  rises_still q AtRoot = AtRoot
  rises_still q (AtRemoved h) = AtRemoved (above_none q h)
  rises_still q (Above {up = up} h r) = elim (cases_eq q i) [
    | inl s ↦ AtRemoved (ap (option_map (λ s. s.inode)) (ap (standing u) s ∙ standing_i))
    | inr n ↦ Above (ap (option_map (λ s. s.inode)) (standing_other q n) ∙ h) (rises_still up r)
  ]

  -- ---- entries

  distinct_at : (es : List Entry) → entries_of x.node.body ≡ es → entry_named name es ≡ Some e → IsIn e es → (z : Entry) → IsIn z es → bytes_eq name z.name ≡ true → z ≡ e
  distinct_at es same f _ z h n =
      let P : List Entry → Type 0 = λ es. IsIn z es in
      let first : entry_named name (entries_of x.node.body) ≡ Some z = in_named name (entries_of x.node.body) z x_kept.distinct (subst P (sym same) h) n in
      ap (λ o. option_map_or (λ s. s) o z) (sym first ∙ ap (entry_named name) same ∙ f)

  kept : (q : ℕ) (z : Entry) → z.inode ≢ i → IsIn z (entries t q) → IsIn z (entries u q)
  kept q z n h = elim (cases_eq q dir) [
    | inl s ↦
        let P : List Entry → Type 0 = λ es. IsIn z es in
        let here : IsIn z (entries t dir) = subst P (ap (entries t) s) h in
        let other : bytes_eq name z.name ≡ false = elim (bytes_eq name z.name) as (λ b. bytes_eq name z.name ≡ b → b ≡ false) [
          | true ↦ λ m. absurd (n (ap (λ s. s.inode) (distinct_at (entries t dir) (sym entries_at) found e_in z here m) ∙ e_is))
          | false ↦ λ _. refl
        ] refl in
        subst P (sym (ap (entries u) s ∙ entries_dir)) (in_still name (entries t dir) z here other)
    | inr d ↦ let P : List Entry → Type 0 = λ es. IsIn z es in subst P (sym (entries_other q d)) h
  ]

  before : (q : ℕ) (z : Entry) → IsIn z (entries u q) → IsIn z (entries t q)
  before q z h = elim (cases_eq q dir) [
    | inl s ↦ let P : List Entry → Type 0 = λ es. IsIn z es in subst P (ap (entries t) (sym s)) (in_without name (entries t dir) z (subst P (ap (entries u) s ∙ entries_dir) h)).0
    | inr d ↦ let P : List Entry → Type 0 = λ es. IsIn z es in subst P (entries_other q d) h
  ]

  -- a directory's entry was the only one
  others : (q : ℕ) (z : Entry) → IsIn z (entries u q) → body_is is_directory t z.inode ≡ true → z.inode ≢ i
  others q z h is_dir s =
      let P : List Entry → Type 0 = λ es. IsIn z es in
      let mine : standing t i ≡ Some (record { inode = dir; serial = e.serial }) = sym (ap (standing t) e_is) ∙ sound.alone dir e e_in (ap (body_is is_directory t) (e_is ∙ sym s) ∙ is_dir) in
      let its : standing t i ≡ Some (record { inode = q; serial = z.serial }) = sym (ap (standing t) s) ∙ sound.alone q z (before q z h) is_dir in
      let both : ◌≡◌ {A = Option Standing} (Some (record { inode = dir; serial = e.serial })) (Some (record { inode = q; serial = z.serial })) = sym mine ∙ its in
      let same_dir : dir ≡ q = ap (λ o. option_map_or (λ s. s.inode) o 0) both in
      let same_serial : e.serial ≡ z.serial = ap (λ o. option_map_or (λ s. s.serial) o 0) both in
      let left = in_without name (entries t dir) z (subst P (ap (entries u) (sym same_dir) ∙ entries_dir) h) in
      let same : e ≡ z = serial_alone 2 x.next_serial (entries_of x.node.body) e z x_kept.rises (in_x e e_in) (in_x z left.0) same_serial in
      let no : true ≡ false = sym (named_in name (entries t dir) e found).1 ∙ ap (λ s. bytes_eq name s.name) same ∙ left.1 in
      absurd cc
    where
      in_x : (z : Entry) → IsIn z (entries t dir) → IsIn z (entries_of x.node.body)
      in_x z h = let P : List Entry → Type 0 = λ es. IsIn z es in subst P entries_at h

  body_some : (a c : Body) → Some a ≡ Some c → a ≡ c
  body_some a c h = ap (λ o. option_map_or (λ s. s) o a) h

  there_before : (q : ℕ) (z : Inode) → inode u q ≡ Some z → (w : Inode) × (inode t q ≡ Some w)
  there_before = by (λ q. (z : Inode) → inode u q ≡ Some z → (w : Inode) × (inode t q ≡ Some w))
      (λ z h. (x, at_dir)) (λ z h. (y, at_i)) (λ q d n z h. (z, sym (other_is q d n) ∙ h))

  listed_at : (q : ℕ) (z : Inode) → inode u q ≡ Some z → IsListed (entries_beside z)
  listed_at =
      let Q : Inode → Type 0 = λ z. IsListed (entries_beside z) in
      by (λ q. (z : Inode) → inode u q ≡ Some z → IsListed (entries_beside z))
      (λ z h. let R : List Entry → Type 0 = λ es. IsListed (record { list = es; next = x.next_serial }) in
      subst Q (some_is shrunk z (sym dir_is ∙ h)) (subst R (sym shrunk_entries) (listed-without name (entries_beside x) x_kept)))
      (λ z h. let R : List Entry → Type 0 = λ es. IsListed (record { list = es; next = y.next_serial }) in
      subst Q (some_is (unnamed y) z (sym i_is ∙ h)) (subst R (sym (entries-with_standing None y.node.body)) (sound.listed i y at_i)))
      (λ q d n z h. sound.listed q z (sym (other_is q d n) ∙ h))

  sound-parted : IsSound u
  sound-parted = record {
    rooted = standing_other root (λ s. not_root (sym s)) ∙ sound.rooted;
    root_listed = by (λ q. body_is is_listed u q ≡ body_is is_listed t q)
        (ap (λ o. option_map_or (λ z. is_listed z.node.body) o false) dir_is ∙ is_listed-with_entries (without_name name) x.node.body ∙ sym (ap (λ o. option_map_or (λ z. is_listed z.node.body) o false) at_dir))
        (ap (λ o. option_map_or (λ z. is_listed z.node.body) o false) i_is ∙ is_listed-with_standing None y.node.body ∙ sym (ap (λ o. option_map_or (λ z. is_listed z.node.body) o false) at_i))
        (λ q d n. ap (λ o. option_map_or (λ z. is_listed z.node.body) o false) (other_is q d n)) root ∙ sound.root_listed;
    numbered = λ q z h. let w = there_before q z h in sound.numbered q w.0 w.1;
    listed = listed_at;
    emptied = λ q h. elim (cases_eq q i) [
      | inl s ↦ ap (entries u) s ∙ entries_other i (λ s. apart (sym s)) ∙ none_at
      | inr n ↦ elim (cases_eq q dir) [
        | inl s ↦ ap (entries u) s ∙ entries_dir ∙ ap (without_name name) (ap (entries t) (sym s) ∙ sound.emptied q (sym (standing_other q n) ∙ h))
        | inr d ↦ entries_other q d ∙ sound.emptied q (sym (standing_other q n) ∙ h)
      ]
    ];
    alone = λ d z h dirs.
        let was = sym (directories z.inode) ∙ dirs in
        standing_other z.inode (others d z h was) ∙ sound.alone d z (before d z h) was;
    stands = λ d s away h. elim (cases_eq d i) [
      | inl same ↦ let no : None ≡ Some s = sym standing_i ∙ ap (standing u) (sym same) ∙ h in absurd cc
      | inr n ↦ let was = sound.stands d s away (sym (standing_other d n) ∙ h) in (was.0, kept s.inode (record { name = was.0; serial = s.serial; inode = d }) n was.1)
    ];
    rises = λ d h. rises_still d (sound.rises d (sym (directories d) ∙ h));
    inodes_limited = let l = sound.inodes_limited in let one = len-changed middle i unnamed in let two = len-changed t.inodes dir shrink in omega arith;
    names_limited = let l = sound.names_limited in omega arith;
    bytes_limited = sound.bytes_limited;
    files_limited = λ q bytes. by (λ q. body u q ≡ Some (RegularFile bytes) → length bytes ≤ file_limit)
        (λ h. sound.files_limited dir bytes (ap (option_map (λ z. z.node.body)) at_dir ∙ ap Some (file-with_entries (without_name name) x.node.body bytes (body_some _ _ (sym (ap (option_map (λ z. z.node.body)) dir_is) ∙ h)))))
        (λ h. sound.files_limited i bytes (ap (option_map (λ z. z.node.body)) at_i ∙ ap Some (file-with_standing None y.node.body bytes (body_some _ _ (sym (ap (option_map (λ z. z.node.body)) i_is) ∙ h)))))
        (λ q d n h. sound.files_limited q bytes (sym (ap (option_map (λ z. z.node.body)) (other_is q d n)) ∙ h)) q;
  }

  -- ---- counts

  total_parted : (f : Inode → ℕ) → f (unnamed y) ≡ f y → total f u + f x ≡ total f t + f shrunk
  total_parted f same =
      let one = sum-changed f t.inodes middle dir t.next ((sound.numbered dir x at_dir).1) (λ q d. get-changed_other t.inodes dir shrink q d) in
      let two = sum-changed f middle u.inodes i t.next ((sound.numbered i y at_i).1) (λ q d. get-changed_other middle i unnamed q d) in
      let was : value f (map.get t.inodes dir) ≡ f x = ap (value f) at_dir in
      let now : value f (map.get middle dir) ≡ f shrunk = ap (value f) (get-changed_same t.inodes dir shrink ∙ ap (option_map shrink) at_dir) in
      let was_i : value f (map.get middle i) ≡ f y = ap (value f) (get-changed_other t.inodes dir shrink i (λ s. apart (sym s)) ∙ at_i) in
      let now_i : value f (map.get u.inodes i) ≡ f (unnamed y) = ap (value f) i_is in
      omega arith

  found_x : entry_named name (entries_of x.node.body) ≡ Some e
  found_x = ap (entry_named name) (sym entries_at) ∙ found

  -- what is summed up over the entries of the directory
  less : (w : Entry → ℕ) → weighed w (entries_of shrunk.node.body) + w e ≡ weighed w (entries_of x.node.body)
  less w =
      let same = ap (weighed w) shrunk_entries in
      let rest = weighed-without w name (entries_of x.node.body) e x_kept.distinct found_x in
      omega arith

  counts_less : (q : ℕ) → count_in q (entries_of shrunk.node.body) + counted (nat_eq q i) ≡ count_in q (entries_of x.node.body)
  counts_less q =
      let step = less (λ z. counted (nat_eq q z.inode)) in
      let one = weighed-count q (entries_of shrunk.node.body) in
      let two = weighed-count q (entries_of x.node.body) in
      let here : counted (nat_eq q e.inode) ≡ counted (nat_eq q i) = ap (λ k. counted (nat_eq q k)) e_is in
      omega arith

  names_parted : (q : ℕ) → names_of u q + counted (nat_eq q i) ≡ names_of t q
  names_parted q =
      let sums = total_parted (λ z. count_in q (entries_of z.node.body)) (ap (count_in q) (entries-with_standing None y.node.body)) in
      let step = counts_less q in
      omega arith

  counted-parted : IsCounted u
  counted-parted = record {
    names = λ q.
        let step = names_parted q in
        let was = counts.names q in
        elim (cases_eq q i) [
          | inl s ↦
              let one = counted-same q i s in
              let here : value (λ z. z.names) (inode u q) ≡ y.names - 1 = ap (λ k. value (λ z. z.names) (inode u k)) s ∙ ap (value (λ z. z.names)) i_is in
              let old : value (λ z. z.names) (inode t q) ≡ y.names = ap (λ k. value (λ z. z.names) (inode t k)) s ∙ ap (value (λ z. z.names)) at_i in
              omega arith
          | inr n ↦
              let none = counted-other q i n in
              let here : value (λ z. z.names) (inode u q) ≡ value (λ z. z.names) (inode t q) = elim (cases_eq q dir) [
                | inl d ↦ ap (λ k. value (λ z. z.names) (inode u k)) d ∙ ap (value (λ z. z.names)) dir_is ∙ sym (ap (value (λ z. z.names)) at_dir) ∙ ap (λ k. value (λ z. z.names) (inode t k)) (sym d)
                | inr d ↦ ap (value (λ z. z.names)) (other_is q d n)
              ] in
              omega arith
        ];
    directories = λ q. elim (cases_eq q dir) [
      | inl s ↦
          let here : value (λ z. z.directories) (inode u q) ≡ x.directories - counted dirs = ap (λ k. value (λ z. z.directories) (inode u k)) s ∙ ap (value (λ z. z.directories)) dir_is in
          let was : x.directories ≡ directories_in t (entries_of x.node.body) = sym (ap (value (λ z. z.directories)) at_dir) ∙ counts.directories dir ∙ ap (directories_in t) entries_at in
          let now : directories_in u (entries u q) ≡ directories_in t (entries_of shrunk.node.body) =
          ap (directories_in u) (ap (entries u) s ∙ ap (λ o. option_map_or (λ z. entries_of z.node.body) o []) dir_is) ∙ directories-same t u (entries_of shrunk.node.body) (λ z _. directories z.inode) in
          let step = less (λ z. counted (body_is is_directory t z.inode)) in
          let one = weighed-directories t (entries_of shrunk.node.body) in
          let two = weighed-directories t (entries_of x.node.body) in
          let mine : counted (body_is is_directory t e.inode) ≡ counted dirs = ap (λ k. counted (body_is is_directory t k)) e_is in
          omega arith
      | inr d ↦
          stays_directories q d ∙ counts.directories q ∙ sym (directories-same t u (entries t q) (λ z _. directories z.inode)) ∙ ap (directories_in u) (sym (entries_other q d))
    ];
    all_names =
        let sums = total_parted (λ z. length (entries_of z.node.body)) (ap length (entries-with_standing None y.node.body)) in
        let step = less (λ _. 1) in
        let one = weighed-length (entries_of shrunk.node.body) in
        let two = weighed-length (entries_of x.node.body) in
        let was = counts.all_names in
        omega arith;
    all_bytes =
        let sums = total_parted (λ z. length (bytes_of z.node.body)) (ap length (bytes-with_standing None y.node.body)) in
        let same : length (bytes_of shrunk.node.body) ≡ length (bytes_of x.node.body) = ap length (bytes-with_entries (without_name name) x.node.body) in
        let was = counts.all_bytes in
        omega arith;
  }
    where
      stays_directories : (q : ℕ) → q ≢ dir → value (λ z. z.directories) (inode u q) ≡ value (λ z. z.directories) (inode t q)
      stays_directories q d = elim (cases_eq q i) [
        | inl s ↦ ap (λ k. value (λ z. z.directories) (inode u k)) s ∙ ap (value (λ z. z.directories)) i_is ∙ sym (ap (value (λ z. z.directories)) at_i) ∙ ap (λ k. value (λ z. z.directories) (inode t k)) (sym s)
        | inr n ↦ ap (value (λ z. z.directories)) (other_is q d n)
      ]

  used-parted : ((q : ℕ) (z : Inode) → inode t q ≡ Some z → is_unused z ≡ false) → (q : ℕ) (z : Inode) → q ≢ i → inode u q ≡ Some z → is_unused z ≡ false
  used-parted used q z n h = elim (cases_eq q dir) [
    | inl s ↦ ap is_unused (sym (some_is shrunk z (sym dir_is ∙ ap (inode u) (sym s) ∙ h))) ∙ used dir x at_dir
    | inr d ↦ used q z (sym (other_is q d n) ∙ h)
  ]

  -- its inode has a name
  pub has_name : 0 < value (λ z. z.names) (inode t i)
  has_name = let step = names_parted i in let one = counted-same i i refl in let was = counts.names i in omega arith

pub kept-unlinked : (t : Tree) → IsKept t → (dir : ℕ) (name : List ℕ) (i : ℕ) → entry t dir name ≡ Some i → body_is is_filled t i ≡ false → IsKept (unlinked dir name i t)
kept-unlinked t h dir name i is empty =
    kept-dropped _ (sound-parted t h.sound h.counted dir name i is empty) (counted-parted t h.sound h.counted dir name i is empty) i (used-parted t h.sound h.counted dir name i is empty h.used)
    (of_bytes-parted t.inodes h.bytes dir name i (body_is is_directory t i))

-- ---- the same of what the code leaves

-- the inodes after a name was taken away, before the inode is dropped
abbrev pub parted : ℕ → List ℕ → ℕ → Bool → Inodes → Inodes
parted dir name i dirs m = with_inode i unnamed (with_inode dir (without_entry name dirs) m)

pub kept-removed : (t : Tree) → IsKept t → (dir : ℕ) (name : List ℕ) (i : ℕ) → entry t dir name ≡ Some i → body_is is_filled t i ≡ false
    → (dirs : Bool) → dirs ≡ body_is is_directory t i → (m : Inodes) → m ≡ parted dir name i dirs t.inodes → (n : Inodes) → n ≡ without_unused i m → (gone : ℕ) → gone ≡ freed i m
    → IsKept (record { inodes = n; next = t.next; names = t.names - 1; bytes = t.bytes - gone }) × (gone ≤ t.bytes)
kept-removed t h dir name i is empty flag flag_is m m_is n n_is gone gone_is =
    let all : m ≡ parted dir name i (body_is is_directory t i) t.inodes = m_is ∙ ap (λ b. parted dir name i b t.inodes) flag_is in
    let P : Inodes → ℕ → Type 0 = λ n gone. IsKept (record { inodes = n; next = t.next; names = t.names - 1; bytes = t.bytes - gone }) × (gone ≤ t.bytes) in
    subst (λ k. P n k) (sym (gone_is ∙ ap (freed i) all))
    (subst (λ k. P k (freed i (parted dir name i (body_is is_directory t i) t.inodes))) (sym (n_is ∙ ap (without_unused i) all)) (
      kept-unlinked t h dir name i is empty,
      freed-le _ (sound-parted t h.sound h.counted dir name i is empty) (counted-parted t h.sound h.counted dir name i is empty) i,
    ))

-- a name can be taken off its inode
pub name_left : (t : Tree) → IsKept t → (dir : ℕ) (name : List ℕ) (i : ℕ) → entry t dir name ≡ Some i → body_is is_filled t i ≡ false → (dirs : Bool)
    → 0 < option_map_or (λ z. z.names) (map.get (with_inode dir (without_entry name dirs) t.inodes) i) 1
name_left t h dir name i is empty dirs =
    let some = has_name t h.sound h.counted dir name i is empty in
    let same = stays-names t.inodes dir (without_entry name dirs) i (λ _. refl) in
    by (map.get (with_inode dir (without_entry name dirs) t.inodes) i) (omega arith)
  where
    by : (o : Option Inode) → 0 < option_map_or (λ z. z.names) o 0 → 0 < option_map_or (λ z. z.names) o 1
    by None l = absurd (omega arith)
    by (Some z) l = l

pub some_name : (t : Tree) → IsKept t → (dir : ℕ) (name : List ℕ) (i : ℕ) → entry t dir name ≡ Some i → 1 ≤ t.names
some_name t h dir name i is =
    let e = entry_found name (entry_named name (entries t dir)) i is in
    let inside = (named_in name (entries t dir) e.0 e.1).0 in
    let at = entries_there t dir e.0 inside in
    let one = sum-at (λ z. length (entries_of z.node.body)) t.inodes dir t.next ((h.sound.numbered dir at.0 at.1).1) in
    let here : value (λ z. length (entries_of z.node.body)) (inode t dir) ≡ length (entries t dir) = of_entries length refl (inode t dir) in
    let some = filled (entries t dir) e.0 inside in
    let all = h.counted.all_names in
    omega arith
  where
    filled : (es : List Entry) (e : Entry) → IsIn e es → 1 ≤ length es
    filled [] e h = absurd h
    filled (x ∷ es) e h = omega arith
