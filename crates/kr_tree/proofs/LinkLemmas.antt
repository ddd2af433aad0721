-- A tree after a file or a link got another name.
use Rattle.std.specs.FinMap as map
use Rattle.std.proofs.Common.{◌≡◌, ◌≢◌, inl, inr, subst, ℕ, ◌+◌, ◌≤◌, ◌<◌, true, false, List, [], ◌∷◌, ◌++◌, length, length-append, refl, sym, ap, ◌∙◌, arith, Option, Some, None, nat_eq, nat_le, ◌&&◌}
use Rattle.std.specs.Option.{option_map, option_map_or, option_and_then}
use Rattle.std.proofs.lemmas.Bool.{cases_eq}
use Rattle.std.proofs.lemmas.Bool.Decides.{nat_tests}
use Rattle.kr_tree.specs.Tree.{Tree, Inode, Inodes, Entry, Body, RegularFile, root, inode, entry, entry_named, entries, entries_of, standing, standing_of, body_is, is_directory, is_listed, takes_names, may_be_linked, body, bytes_of}
use Rattle.kr_tree.specs.Names.{is_name}
use Rattle.kr_inode.specs.Entries.{IsListed}
use Rattle.kr_tree.specs.Changes.{linked, with_inode, with_entry, with_names, is_unused, has_no_name_left, counted, count_limit, file_limit}
use Rattle.kr_tree.specs.Lawful.{IsKept, IsSound, IsCounted, HasNoUnused, RisesToEnd, AtRoot, AtRemoved, Above, IsIn, entries_beside, count_in, directories_in, total, AreBytes}
use Rattle.kr_inode.proofs.pr_base.MapLemmas.{get-changed_same, get-changed_other, len-changed}
use Rattle.kr_tree.proofs.OfBytesLemmas.{of_bytes-linked}
use Rattle.kr_inode.proofs.EntryLemmas.{listed-new, in-new, in-append}
use Rattle.kr_inode.proofs.BodyLemmas.{entries-with_entries, standing-with_entries, is_directory-with_entries, is_listed-with_entries, bytes-with_entries, file-with_entries, takes-is_listed, takes-stands, listed-is_directory, linked-is_directory}
use Rattle.kr_tree.proofs.CountLemmas.{value, sum-changed, counted-same, counted-other, count-new, directories-same, directories-new}
use Rattle.kr_tree.proofs.AddLemmas.{passing, none_of}
use Rattle.kr_inode.proofs.pr_base.TextLemmas.{some_is}

module _ (t : Tree) (h : IsKept t) (dir : ℕ) (name : List ℕ) (file : ℕ)
    (takes : body_is takes_names t dir ≡ true) (well : is_name name ≡ true) (free : entry t dir name ≡ None)
    (leaf : body_is may_be_linked t file ≡ true) (room : has_no_name_left t ≡ false) where
  abbrev u : Tree
  u = linked dir name file t

  x : Inode
  x = (passing takes_names (inode t dir) takes).0

  at_dir : inode t dir ≡ Some x
  unfolding x
  at_dir = (passing takes_names (inode t dir) takes).1

  x_takes : takes_names x.node.body ≡ true
  unfolding x
  x_takes = (passing takes_names (inode t dir) takes).2

  y : Inode
  y = (passing may_be_linked (inode t file) leaf).0

  at_file : inode t file ≡ Some y
  unfolding y
  at_file = (passing may_be_linked (inode t file) leaf).1

  y_leaf : is_directory y.node.body ≡ false
  unfolding y
  y_leaf = linked-is_directory (passing may_be_linked (inode t file) leaf).0.node.body (passing may_be_linked (inode t file) leaf).2

  x_directory : is_directory x.node.body ≡ true
  x_directory = listed-is_directory x.node.body (takes-is_listed x.node.body x_takes)

  apart : dir ≢ file
  apart e =
      let both : is_directory x.node.body ≡ is_directory y.node.body = ap (λ o. option_map_or (λ z. is_directory z.node.body) o false) (sym at_dir ∙ ap (inode t) e ∙ at_file) in
      let no : true ≡ false = sym x_directory ∙ both ∙ y_leaf in
      absurd cc

  abbrev grow : Inode → Inode
  grow = with_entry name file false

  abbrev grown : Inode
  grown = grow x

  abbrev named : Inode
  named = with_names (λ n. n + 1) y

  abbrev middle : Inodes
  middle = with_inode dir grow t.inodes

  dir_is : inode u dir ≡ Some grown
  dir_is = get-changed_other middle file (with_names (λ n. n + 1)) dir apart ∙ get-changed_same t.inodes dir grow ∙ ap (option_map grow) at_dir

  file_is : inode u file ≡ Some named
  file_is = get-changed_same middle file (with_names (λ n. n + 1)) ∙ ap (option_map (with_names (λ n. n + 1))) (get-changed_other t.inodes dir grow file (λ e. apart (sym e)) ∙ at_file)

  other_is : (q : ℕ) → q ≢ dir → q ≢ file → inode u q ≡ inode t q
  other_is q d f = get-changed_other middle file (with_names (λ n. n + 1)) q f ∙ get-changed_other t.inodes dir grow q d

  by : (P : ℕ → Type 0) → P dir → P file → ((q : ℕ) → q ≢ dir → q ≢ file → P q) → (q : ℕ) → P q
  by P here there rest q =
      elim (cases_eq q dir) [
        | inl e ↦ subst P (sym e) here
        | inr d ↦ elim (cases_eq q file) [ inl e ↦ subst P (sym e) there | inr f ↦ rest q d f ]
      ]

  abbrev e : Entry
  e = record { name = name; serial = x.next_serial; inode = file }

  entries_at : entries t dir ≡ entries_of x.node.body
  entries_at = ap (λ o. option_map_or (λ z. entries_of z.node.body) o []) at_dir

  grown_entries : entries_of grown.node.body ≡ entries_of x.node.body ++ e ∷ []
  grown_entries = entries-with_entries (λ es. es ++ e ∷ []) x.node.body (takes-is_listed x.node.body x_takes)

  entries_dir : entries u dir ≡ entries t dir ++ e ∷ []
  entries_dir = ap (λ o. option_map_or (λ z. entries_of z.node.body) o []) dir_is ∙ grown_entries ∙ ap (λ es. es ++ e ∷ []) (sym entries_at)

  -- what tells nothing of a directory's entries or a file's names stays
  stays : {A : Type 0} (f : Option Inode → A) → f (Some grown) ≡ f (Some x) → f (Some named) ≡ f (Some y) → (q : ℕ) → f (inode u q) ≡ f (inode t q)
  stays f same same_file = by (λ q. f (inode u q) ≡ f (inode t q))
      (ap f dir_is ∙ same ∙ ap f (sym at_dir))
      (ap f file_is ∙ same_file ∙ ap f (sym at_file))
      (λ q d f'. ap f (other_is q d f'))

  entries_other : (q : ℕ) → q ≢ dir → entries u q ≡ entries t q
  entries_other q d = elim (cases_eq q file) [
    | inl e ↦ ap (entries u) e ∙ ap (λ o. option_map_or (λ z. entries_of z.node.body) o []) (file_is) ∙ sym (ap (λ o. option_map_or (λ z. entries_of z.node.body) o []) at_file) ∙ ap (entries t) (sym e)
    | inr f ↦ ap (λ o. option_map_or (λ z. entries_of z.node.body) o []) (other_is q d f)
  ]

  standings : (q : ℕ) → standing u q ≡ standing t q
  standings = stays (option_and_then (λ z. standing_of z.node.body)) (standing-with_entries (λ es. es ++ e ∷ []) x.node.body) refl

  directories : (q : ℕ) → body_is is_directory u q ≡ body_is is_directory t q
  directories = stays (λ o. option_map_or (λ z. is_directory z.node.body) o false) (is_directory-with_entries (λ es. es ++ e ∷ []) x.node.body) refl

  file_leaf : body_is is_directory u file ≡ false
  file_leaf = ap (λ o. option_map_or (λ z. is_directory z.node.body) o false) file_is ∙ y_leaf

  rises_still : (q : ℕ) → RisesToEnd t q → RisesToEnd u q
  rises_still q AtRoot = AtRoot
  rises_still q (AtRemoved n) = AtRemoved (ap (option_map (λ s. s.inode)) (standings q) ∙ n)
  rises_still q (Above {up = up} n r) = Above (ap (option_map (λ s. s.inode)) (standings q) ∙ n) (rises_still up r)

  kept : (q : ℕ) (z : Entry) → IsIn z (entries t q) → IsIn z (entries u q)
  kept q z is =
      let P : List Entry → Type 0 = λ es. IsIn z es in
      elim (cases_eq q dir) [
        | inl d ↦ let Q : ℕ → Type 0 = λ q. IsIn z (entries u q) in subst Q (sym d) (subst P (sym entries_dir) (in-new z e (entries t dir) (subst P (ap (entries t) d) is)))
        | inr d ↦ subst P (sym (entries_other q d)) is
      ]

  alone_in : (d : ℕ) (z : Entry) → IsIn z (entries u d) → body_is is_directory u z.inode ≡ true → standing u z.inode ≡ Some (record { inode = d; serial = z.serial })
  alone_in d z is dirs =
      let P : List Entry → Type 0 = λ es. IsIn z es in
      elim (cases_eq d dir) [
        | inl at ↦ elim (in-append z e (entries t dir) (subst P (ap (entries u) at ∙ entries_dir) is)) [
          | inl before ↦ among d (subst P (ap (entries t) (sym at)) before)
          | inr last ↦ let no : false ≡ true = sym file_leaf ∙ ap (λ e. body_is is_directory u e.inode) last ∙ dirs in absurd cc
        ]
        | inr away ↦ among d (subst P (entries_other d away) is)
      ]
    where
      among : (d : ℕ) → IsIn z (entries t d) → standing u z.inode ≡ Some (record { inode = d; serial = z.serial })
      among d before = standings z.inode ∙ h.sound.alone d z before (sym (directories z.inode) ∙ dirs)

  listed_at : (i : ℕ) (z : Inode) → inode u i ≡ Some z → IsListed (entries_beside z)
  listed_at =
      let P : Option Inode → Type 0 = λ o. (z : Inode) → o ≡ Some z → IsListed (entries_beside z) in
      let Q : Inode → Type 0 = λ z. IsListed (entries_beside z) in
      by (λ i. P (inode u i))
      (subst P (sym dir_is) (λ z is.
      let R : List Entry → Type 0 = λ es. IsListed (record { list = es; next = x.next_serial + 1 }) in
      subst Q (some_is grown z is) (subst R (sym grown_entries)
      (listed-new name file (entries_beside x) well (none_of (entry_named name (entries_of x.node.body)) (ap (λ es. option_map (λ s. s.inode) (entry_named name es)) (sym entries_at) ∙ free)) (h.sound.listed dir x at_dir)))))
      (subst P (sym file_is) (λ z is. subst Q (some_is named z is) (h.sound.listed file y at_file)))
      (λ q d f. subst P (sym (other_is q d f)) (h.sound.listed q))

  there_before : (i : ℕ) (z : Inode) → inode u i ≡ Some z → (w : Inode) × (inode t i ≡ Some w)
  there_before = by (λ i. (z : Inode) → inode u i ≡ Some z → (w : Inode) × (inode t i ≡ Some w))
      (λ z is. (x, at_dir)) (λ z is. (y, at_file)) (λ q d f z is. (z, sym (other_is q d f) ∙ is))

  body_some : (a c : Body) → Some a ≡ Some c → a ≡ c
  body_some a c is = ap (λ o. option_map_or (λ s. s) o a) is

  pub sound-linked : IsSound u
  sound-linked = record {
    rooted = standings root ∙ h.sound.rooted;
    root_listed = stays (λ o. option_map_or (λ z. is_listed z.node.body) o false) (is_listed-with_entries (λ es. es ++ e ∷ []) x.node.body) refl root ∙ h.sound.root_listed;
    numbered = λ i z is. let before = there_before i z is in h.sound.numbered i before.0 before.1;
    listed = listed_at;
    emptied = λ i is. elim (cases_eq i dir) [
      | inl at ↦ let s = takes-stands x.node.body x_takes in
          let no : Some s.0 ≡ None = sym (ap (standing u) at ∙ standings dir ∙ ap (option_and_then (λ z. standing_of z.node.body)) at_dir ∙ s.1) ∙ is in absurd cc
      | inr d ↦ entries_other i d ∙ h.sound.emptied i (sym (standings i) ∙ is)
    ];
    alone = alone_in;
    stands = λ d s away is. let before = h.sound.stands d s away (sym (standings d) ∙ is) in
        (before.0, kept s.inode (record { name = before.0; serial = s.serial; inode = d }) before.1);
    rises = λ d is. rises_still d (h.sound.rises d (sym (directories d) ∙ is));
    inodes_limited = let l = h.sound.inodes_limited in let one = len-changed middle file (with_names (λ n. n + 1)) in let two = len-changed t.inodes dir grow in omega arith;
    names_limited = let full : nat_le count_limit t.names ≡ false = room in let below : t.names < count_limit = grind (arith, nat_tests) in omega arith;
    bytes_limited = h.sound.bytes_limited;
    files_limited = λ i bytes. by (λ i. body u i ≡ Some (RegularFile bytes) → length bytes ≤ file_limit)
        (λ is. h.sound.files_limited dir bytes (ap (option_map (λ z. z.node.body)) at_dir ∙ ap Some (file-with_entries (λ es. es ++ e ∷ []) x.node.body bytes (body_some _ _ (sym (ap (option_map (λ z. z.node.body)) dir_is) ∙ is)))))
        (λ is. h.sound.files_limited file bytes (ap (option_map (λ z. z.node.body)) at_file ∙ sym (ap (option_map (λ z. z.node.body)) file_is) ∙ is))
        (λ q d f is. h.sound.files_limited q bytes (sym (ap (option_map (λ z. z.node.body)) (other_is q d f)) ∙ is)) i;
  }

  total_linked : (f : Inode → ℕ) → f named ≡ f y → total f u + f x ≡ total f t + f grown
  total_linked f same =
      let one = sum-changed f t.inodes middle dir t.next ((h.sound.numbered dir x at_dir).1) (λ q d. get-changed_other t.inodes dir grow q d) in
      let two = sum-changed f middle u.inodes file t.next ((h.sound.numbered file y at_file).1) (λ q d. get-changed_other middle file (with_names (λ n. n + 1)) q d) in
      let was : value f (map.get t.inodes dir) ≡ f x = ap (value f) at_dir in
      let is : value f (map.get middle dir) ≡ f grown = ap (value f) (get-changed_same t.inodes dir grow ∙ ap (option_map grow) at_dir) in
      let was_file : value f (map.get middle file) ≡ f y = ap (value f) (get-changed_other t.inodes dir grow file (λ e. apart (sym e)) ∙ at_file) in
      let is_file : value f (map.get u.inodes file) ≡ f named = ap (value f) file_is in
      omega arith

  pub counted-linked : IsCounted u
  counted-linked = record {
    names = λ i.
        let before = h.counted.names i in
        let sums = total_linked (λ z. count_in i (entries_of z.node.body)) refl in
        let at : count_in i (entries_of grown.node.body) ≡ count_in i (entries_of x.node.body) + counted (nat_eq i file) = ap (count_in i) grown_entries ∙ count-new i (entries_of x.node.body) e in
        elim (cases_eq i file) [
          | inl is ↦
              let here : value (λ z. z.names) (inode u i) ≡ y.names + 1 = ap (λ k. value (λ z. z.names) (inode u k)) is ∙ ap (value (λ z. z.names)) file_is in
              let was : value (λ z. z.names) (inode t i) ≡ y.names = ap (λ k. value (λ z. z.names) (inode t k)) is ∙ ap (value (λ z. z.names)) at_file in
              let one = counted-same i file is in
              omega arith
          | inr f ↦
              let none = counted-other i file f in
              let here : value (λ z. z.names) (inode u i) ≡ value (λ z. z.names) (inode t i) = elim (cases_eq i dir) [
                | inl d ↦ ap (λ k. value (λ z. z.names) (inode u k)) d ∙ ap (value (λ z. z.names)) dir_is ∙ sym (ap (value (λ z. z.names)) at_dir) ∙ ap (λ k. value (λ z. z.names) (inode t k)) (sym d)
                | inr d ↦ ap (value (λ z. z.names)) (other_is i d f)
              ] in
              omega arith
        ];
    directories = λ i. elim (cases_eq i dir) [
      | inl is ↦
          let here : value (λ z. z.directories) (inode u i) ≡ x.directories + 0 = ap (λ k. value (λ z. z.directories) (inode u k)) is ∙ ap (value (λ z. z.directories)) dir_is in
          let was : x.directories ≡ directories_in t (entries t dir) = sym (ap (value (λ z. z.directories)) at_dir) ∙ h.counted.directories dir in
          let same = directories-same t u (entries t dir) (λ z _. directories z.inode) in
          let last : counted (body_is is_directory u file) ≡ 0 = ap counted file_leaf in
          let now : directories_in u (entries u i) ≡ directories_in u (entries t dir) + counted (body_is is_directory u file) = ap (directories_in u) (ap (entries u) is ∙ entries_dir) ∙ directories-new u (entries t dir) e in
          omega arith
      | inr d ↦
          stays_directories i d ∙ h.counted.directories i ∙ sym (directories-same t u (entries t i) (λ z _. directories z.inode)) ∙ ap (directories_in u) (sym (entries_other i d))
    ];
    all_names =
        let sums = total_linked (λ z. length (entries_of z.node.body)) refl in
        let at : length (entries_of grown.node.body) ≡ length (entries_of x.node.body) + 1 = ap length grown_entries ∙ length-append (entries_of x.node.body) (e ∷ []) in
        let before = h.counted.all_names in
        omega arith;
    all_bytes =
        let sums = total_linked (λ z. length (bytes_of z.node.body)) refl in
        let at : length (bytes_of grown.node.body) ≡ length (bytes_of x.node.body) = ap length (bytes-with_entries (λ es. es ++ e ∷ []) x.node.body) in
        let before = h.counted.all_bytes in
        omega arith;
  }
    where
      stays_directories : (q : ℕ) → q ≢ dir → value (λ z. z.directories) (inode u q) ≡ value (λ z. z.directories) (inode t q)
      stays_directories q d = elim (cases_eq q file) [
        | inl f ↦ ap (λ k. value (λ z. z.directories) (inode u k)) f ∙ ap (value (λ z. z.directories)) file_is ∙ sym (ap (value (λ z. z.directories)) at_file) ∙ ap (λ k. value (λ z. z.directories) (inode t k)) (sym f)
        | inr f ↦ ap (value (λ z. z.directories)) (other_is q d f)
      ]

  pub used-linked : HasNoUnused u
  used-linked = by (λ i. (z : Inode) → inode u i ≡ Some z → is_unused z ≡ false)
      (λ z is. ap is_unused (sym (some_is grown z (sym dir_is ∙ is))) ∙ h.used dir x at_dir)
      (λ z is. ap is_unused (sym (some_is named z (sym file_is ∙ is))) ∙ still_used)
      (λ q d f z is. h.used q z (sym (other_is q d f) ∙ is))
    where
      still_used : (nat_eq (y.names + 1) 0 && nat_eq y.holds 0) ≡ false
      still_used = grind (arith, nat_tests)

pub kept-linked : (t : Tree) (h : IsKept t) (dir : ℕ) (name : List ℕ) (file : ℕ)
    → body_is takes_names t dir ≡ true → is_name name ≡ true → entry t dir name ≡ None → body_is may_be_linked t file ≡ true → has_no_name_left t ≡ false → AreBytes name
    → (m : Inodes) → m ≡ (linked dir name file t).inodes
    → IsKept (record { inodes = m; next = t.next; names = t.names + 1; bytes = t.bytes })
kept-linked t h dir name file takes well free leaf room bytes m same =
    let P : Inodes → Type 0 = λ m. IsKept (record { inodes = m; next = t.next; names = t.names + 1; bytes = t.bytes }) in
    subst P (sym same) (record {
      sound = sound-linked t h dir name file takes well free leaf room;
      counted = counted-linked t h dir name file takes well free leaf room;
      used = used-linked t h dir name file takes well free leaf room;
      bytes = of_bytes-linked t h.bytes dir name file bytes;
    })
