-- A tree after a new inode was put under a name in a directory.
use Rattle.std.specs.FinMap as map
use Rattle.std.proofs.Common.{◌≡◌, ◌≢◌, inl, inr, subst, ℕ, ◌+◌, ◌≤◌, ◌<◌, Bool, true, false, ◌||◌, List, [], ◌∷◌, ◌++◌, length, length-append, refl, sym, ap, ◌∙◌, arith, cond, Option, Some, None, is_some, nat_eq, nat_le, nat_lt}
use Rattle.std.specs.Option.{option_map, option_map_or, option_and_then}
use Rattle.std.specs.Cmp.{nat_cmp_total}
use Rattle.std.proofs.lemmas.Bool.{cases_eq}
use Rattle.std.proofs.lemmas.Bool.Decides.{nat_tests}
use Rattle.kr_inode.specs.declared.standing.Standing.{Standing}
use Rattle.kr_tree.specs.Tree.{Tree, Inode, Inodes, Entry, Body, RegularFile, root, inode, entry, entry_named, entries, entries_of, standing, standing_of, above, body_is, is_directory, is_listed, takes_names, body, bytes_of}
use Rattle.kr_tree.specs.Names.{is_name}
use Rattle.kr_inode.specs.Entries.{IsListed}
use Rattle.kr_tree.specs.Changes.{fresh, added, with_inode, with_entry, with_standing, next_serial, next_standing, is_unused, is_too_big, has_no_room, counted, count_limit, byte_limit, file_limit}
use Rattle.kr_tree.specs.Lawful.{IsKept, IsSound, IsCounted, HasNoUnused, RisesToEnd, AtRoot, AtRemoved, Above, IsIn, entries_beside, count_in, directories_in, names_of, total, AreBytes, IsOfBytes}
use Rattle.kr_inode.proofs.pr_base.MapLemmas.{get-insert_same, get-insert_other, get-changed_same, get-changed_other, len-changed}
use Rattle.kr_tree.proofs.OfBytesLemmas.{of_bytes-added}
use Rattle.kr_inode.proofs.EntryLemmas.{listed-none, listed-new, in-new, in-last, in-append}
use Rattle.kr_inode.proofs.BodyLemmas.{entries-with_entries, standing-with_entries, is_directory-with_entries, is_listed-with_entries, bytes-with_entries, file-with_entries, entries-with_standing, standing-with_standing, is_directory-with_standing, bytes-with_standing, file-with_standing, takes-is_listed, takes-stands, listed-is_directory, is_directory-stands}
use Rattle.kr_tree.proofs.CountLemmas.{value, sum-same, sum-changed, sum-suc, counted-same, counted-other, count-new, directories-same, directories-new, there, standing_there, above_there}
use Rattle.kr_inode.proofs.pr_base.TextLemmas.{some_is}

-- an inode whose body passes a test is there
pub passing : (test : Body → Bool) (o : Option Inode) → option_map_or (λ x. test x.node.body) o false ≡ true → (x : Inode) × (o ≡ Some x) × (test x.node.body ≡ true)
passing test None h = absurd cc
passing test (Some x) h = (x, refl, h)

pub none_of : (o : Option Entry) → option_map (λ s. s.inode) o ≡ None → o ≡ None
none_of None h = refl
none_of (Some s) h = absurd cc

or_first : (a b : Bool) → (a || b) ≡ false → a ≡ false
or_first true b h = absurd cc
or_first false b h = refl

or_second : (a b : Bool) → (a || b) ≡ false → b ≡ false
or_second true b h = absurd cc
or_second false b h = h

module _ (t : Tree) (sound : IsSound t) (counts : IsCounted t) (dir : ℕ) (name : List ℕ) (mode uid gid : ℕ) (b : Body)
    (takes : body_is takes_names t dir ≡ true) (well : is_name name ≡ true) (free : entry t dir name ≡ None)
    (plain : entries_of b ≡ []) (small : is_too_big b ≡ false) (room : has_no_room (length (bytes_of b)) t ≡ false) where
  abbrev u : Tree
  u = added dir name mode uid gid b t

  abbrev y : Inode
  y = fresh mode uid gid (with_standing (next_standing t dir) b)

  x : Inode
  x = (passing takes_names (inode t dir) takes).0

  at_dir : inode t dir ≡ Some x
  unfolding x
  at_dir = (passing takes_names (inode t dir) takes).1

  x_takes : takes_names x.node.body ≡ true
  unfolding x
  x_takes = (passing takes_names (inode t dir) takes).2

  abbrev grown : Inode
  grown = with_entry name t.next (is_directory b) x

  -- ---- what is there

  none_new : inode t t.next ≡ None
  none_new = elim (inode t t.next) as (λ o. inode t t.next ≡ o → o ≡ None) [
    | None ↦ λ _. refl
    | Some z ↦ λ h. let below : t.next < t.next = (sound.numbered t.next z h).1 in absurd (omega arith)
  ] refl

  old : (q : ℕ) (z : Inode) → inode t q ≡ Some z → q ≢ t.next
  old q z h e = let no : None ≡ Some z = sym (ap (inode t) e ∙ none_new) ∙ h in absurd cc

  dir_old : dir ≢ t.next
  dir_old = old dir x at_dir

  new_is : inode u t.next ≡ Some y
  new_is = get-insert_same (with_inode dir (with_entry name t.next (is_directory b)) t.inodes) t.next y

  dir_is : inode u dir ≡ Some grown
  dir_is = get-insert_other (with_inode dir (with_entry name t.next (is_directory b)) t.inodes) t.next y dir dir_old
      ∙ get-changed_same t.inodes dir (with_entry name t.next (is_directory b)) ∙ ap (option_map (with_entry name t.next (is_directory b))) at_dir

  other_is : (q : ℕ) → q ≢ dir → q ≢ t.next → inode u q ≡ inode t q
  other_is q d n = get-insert_other (with_inode dir (with_entry name t.next (is_directory b)) t.inodes) t.next y q n ∙ get-changed_other t.inodes dir (with_entry name t.next (is_directory b)) q d

  -- by the number: the new one, the directory's, another
  by : (P : ℕ → Type 0) → P t.next → P dir → ((q : ℕ) → q ≢ dir → q ≢ t.next → P q) → (q : ℕ) → P q
  by P new here rest q =
      elim (cases_eq q t.next) [
        | inl e ↦ subst P (sym e) new
        | inr n ↦ elim (cases_eq q dir) [ inl e ↦ subst P (sym e) here | inr d ↦ rest q d n ]
      ]

  serial_is : next_serial t dir ≡ x.next_serial
  serial_is = ap (λ o. option_map_or (λ z. z.next_serial) o 0) at_dir

  abbrev e : Entry
  e = record { name = name; serial = x.next_serial; inode = t.next }

  entries_at : entries t dir ≡ entries_of x.node.body
  entries_at = ap (λ o. option_map_or (λ z. entries_of z.node.body) o []) at_dir

  entries_new : entries u t.next ≡ []
  entries_new = ap (λ o. option_map_or (λ z. entries_of z.node.body) o []) new_is ∙ entries-with_standing (next_standing t dir) b ∙ plain

  entries_dir : entries u dir ≡ entries t dir ++ e ∷ []
  entries_dir = ap (λ o. option_map_or (λ z. entries_of z.node.body) o []) dir_is
      ∙ entries-with_entries (λ es. es ++ e ∷ []) x.node.body (takes-is_listed x.node.body x_takes) ∙ ap (λ es. es ++ e ∷ []) (sym entries_at)

  entries_other : (q : ℕ) → q ≢ dir → q ≢ t.next → entries u q ≡ entries t q
  entries_other q d n = ap (λ o. option_map_or (λ z. entries_of z.node.body) o []) (other_is q d n)

  -- what tells nothing of the entries stays at each old number
  stays : {A : Type 0} (f : Option Inode → A) → f (Some grown) ≡ f (Some x) → (q : ℕ) → q ≢ t.next → f (inode u q) ≡ f (inode t q)
  stays f same q n = elim (cases_eq q dir) [
    | inl is ↦ ap (λ k. f (inode u k)) is ∙ ap f dir_is ∙ same ∙ ap f (sym at_dir) ∙ ap (λ k. f (inode t k)) (sym is)
    | inr d ↦ ap f (other_is q d n)
  ]

  standing_old : (q : ℕ) → q ≢ t.next → standing u q ≡ standing t q
  standing_old = stays (option_and_then (λ z. standing_of z.node.body)) (standing-with_entries (λ es. es ++ e ∷ []) x.node.body)

  above_old : (q : ℕ) → q ≢ t.next → above u q ≡ above t q
  above_old q n = ap (option_map (λ s. s.inode)) (standing_old q n)

  directory_old : (q : ℕ) → q ≢ t.next → body_is is_directory u q ≡ body_is is_directory t q
  directory_old = stays (λ o. option_map_or (λ z. is_directory z.node.body) o false) (is_directory-with_entries (λ es. es ++ e ∷ []) x.node.body)

  directory_new : body_is is_directory u t.next ≡ is_directory b
  directory_new = ap (λ o. option_map_or (λ z. is_directory z.node.body) o false) new_is ∙ is_directory-with_standing (next_standing t dir) b

  standing_new : is_directory b ≡ true → standing u t.next ≡ Some (record { inode = dir; serial = x.next_serial })
  standing_new h = ap (option_and_then (λ z. standing_of z.node.body)) new_is ∙ standing-with_standing (next_standing t dir) b h
      ∙ ap (λ n. Some (record { inode = dir; serial = n })) serial_is

  -- each entry of the old tree is one of the new tree
  kept : (q : ℕ) (z : Entry) → IsIn z (entries t q) → IsIn z (entries u q)
  kept q z h = by (λ q. IsIn z (entries t q) → IsIn z (entries u q))
      (λ h. let no : entries t t.next ≡ [] = ap (λ o. option_map_or (λ z. entries_of z.node.body) o []) none_new in let P : List Entry → Type 0 = λ es. IsIn z es in absurd (subst P no h))
      (λ h. let P : List Entry → Type 0 = λ es. IsIn z es in subst P (sym entries_dir) (in-new z e (entries t dir) h))
      (λ q d n h. let P : List Entry → Type 0 = λ es. IsIn z es in subst P (sym (entries_other q d n)) h) q h

  -- the inode of an old entry is an old one
  entry_old : (q : ℕ) (z : Entry) → IsIn z (entries t q) → z.inode ≢ t.next
  entry_old q z h = let is = there t sound counts q z h in old z.inode is.0 is.1

  rises_old : (q : ℕ) → RisesToEnd t q → q ≢ t.next → RisesToEnd u q
  rises_old q AtRoot n = AtRoot
  rises_old q (AtRemoved h) n = AtRemoved (above_old q n ∙ h)
  rises_old q (Above {up = up} h r) n = let is = above_there t sound q up h in Above (above_old q n ∙ h) (rises_old up r (old up is.0 is.1))

  -- ---- what the new tree keeps

  rises_new : is_directory b ≡ true → RisesToEnd u t.next
  rises_new h =
      let dir_rises = sound.rises dir (ap (λ o. option_map_or (λ z. is_directory z.node.body) o false) at_dir ∙ listed-is_directory x.node.body (takes-is_listed x.node.body x_takes)) in
      Above (ap (option_map (λ s. s.inode)) (standing_new h)) (rises_old dir dir_rises dir_old)

  alone_in : (d : ℕ) (z : Entry) → IsIn z (entries u d) → body_is is_directory u z.inode ≡ true → standing u z.inode ≡ Some (record { inode = d; serial = z.serial })
  alone_in d z h is =
      by (λ d. IsIn z (entries u d) → standing u z.inode ≡ Some (record { inode = d; serial = z.serial }))
      (λ h. let P : List Entry → Type 0 = λ es. IsIn z es in absurd (subst P entries_new h))
      (λ h. let P : List Entry → Type 0 = λ es. IsIn z es in elim (in-append z e (entries t dir) (subst P entries_dir h)) [
        | inl before ↦ among dir before
        | inr last ↦
            let number : z.inode ≡ t.next = ap (λ e. e.inode) (sym last) in
            ap (standing u) number ∙ standing_new (sym directory_new ∙ ap (body_is is_directory u) (sym number) ∙ is) ∙ ap (λ e. Some (record { inode = dir; serial = e.serial })) last
      ])
      (λ d away n h. let P : List Entry → Type 0 = λ es. IsIn z es in among d (subst P (entries_other d away n) h)) d h
    where
      among : (d : ℕ) → IsIn z (entries t d) → standing u z.inode ≡ Some (record { inode = d; serial = z.serial })
      among d before =
          let n = entry_old d z before in
          standing_old z.inode n ∙ sound.alone d z before (sym (directory_old z.inode n) ∙ is)

  stands_in : (d : ℕ) (s : Standing) → d ≢ root → standing u d ≡ Some s → (nm : List ℕ) × IsIn (record { name = nm; serial = s.serial; inode = d }) (entries u s.inode)
  stands_in d s away h =
      elim (cases_eq d t.next) [
        | inl is ↦
            let at_new : standing u t.next ≡ Some s = ap (standing u) (sym is) ∙ h in
            let dirs : is_directory b ≡ true = sym (is_directory-with_standing (next_standing t dir) b) ∙ is_directory-stands (with_standing (next_standing t dir) b) s (sym (ap (option_and_then (λ z. standing_of z.node.body)) new_is) ∙ at_new) in
            let same : record { inode = dir; serial = x.next_serial } ≡ s = ap (λ o. option_map_or (λ s. s) o s) (sym (standing_new dirs) ∙ at_new) in
            let P : Standing → Type 0 = λ s. IsIn (record { name = name; serial = s.serial; inode = d }) (entries u s.inode) in
            let Q : ℕ → Type 0 = λ k. IsIn (record { name = name; serial = x.next_serial; inode = k }) (entries u dir) in
            let R : List Entry → Type 0 = λ es. IsIn e es in
            (name, subst P same (subst Q (sym is) (subst R (sym entries_dir) (in-last e (entries t dir)))))
        | inr n ↦
            let before = sound.stands d s away (sym (standing_old d n) ∙ h) in
            (before.0, kept s.inode (record { name = before.0; serial = s.serial; inode = d }) before.1)
      ]

  listed_at : (i : ℕ) (z : Inode) → inode u i ≡ Some z → IsListed (entries_beside z)
  listed_at i z h =
      let P : Option Inode → Type 0 = λ o. (z : Inode) → o ≡ Some z → IsListed (entries_beside z) in
      by (λ i. P (inode u i))
      (subst P (sym new_is) (λ z h. let Q : Inode → Type 0 = λ z. IsListed (entries_beside z) in
      let R : List Entry → Type 0 = λ es. IsListed (record { list = es; next = 3 }) in
      subst Q (some_is y z h) (subst R (sym (entries-with_standing (next_standing t dir) b ∙ plain)) listed-none)))
      (subst P (sym dir_is) (λ z h. let Q : Inode → Type 0 = λ z. IsListed (entries_beside z) in
      let R : List Entry → Type 0 = λ es. IsListed (record { list = es; next = x.next_serial + 1 }) in
      subst Q (some_is grown z h) (subst R (sym (entries-with_entries (λ es. es ++ e ∷ []) x.node.body (takes-is_listed x.node.body x_takes)))
      (listed-new name t.next (entries_beside x) well (free_in (entries_of x.node.body) (ap (entry_named name) entries_at)) (sound.listed dir x at_dir)))))
      (λ q d n. subst P (sym (other_is q d n)) (sound.listed q)) i z h
    where
      free_in : (es : List Entry) → entry_named name (entries t dir) ≡ entry_named name es → entry_named name es ≡ None
      free_in es same = none_of (entry_named name es) (ap (option_map (λ s. s.inode)) (sym same) ∙ free)

  pub sound-added : IsSound u
  sound-added = record {
    rooted = standing_old root root_old ∙ sound.rooted;
    root_listed = stays (λ o. option_map_or (λ z. is_listed z.node.body) o false) (is_listed-with_entries (λ es. es ++ e ∷ []) x.node.body) root root_old ∙ sound.root_listed;
    numbered = λ i z h. elim (cases_eq i t.next) [
      | inl is ↦ let first = (sound.numbered dir x at_dir) in (omega arith, omega arith)
      | inr n ↦ let before = there_before i z h n in let low = sound.numbered i before.0 before.1 in (low.0, omega arith)
    ];
    listed = listed_at;
    emptied = λ i h. by (λ i. standing u i ≡ None → entries u i ≡ [])
        (λ _. entries_new)
        (λ h. let s = takes-stands x.node.body x_takes in
        let no : Some s.0 ≡ None = sym (standing_old dir dir_old ∙ ap (option_and_then (λ z. standing_of z.node.body)) at_dir ∙ s.1) ∙ h in absurd cc)
        (λ q d n h. entries_other q d n ∙ sound.emptied q (sym (standing_old q n) ∙ h)) i h;
    alone = alone_in;
    stands = stands_in;
    rises = λ d h. elim (cases_eq d t.next) [
      | inl is ↦ let P : ℕ → Type 0 = λ k. RisesToEnd u k in subst P (sym is) (rises_new (sym directory_new ∙ ap (body_is is_directory u) (sym is) ∙ h))
      | inr n ↦ rises_old d (sound.rises d (sym (directory_old d n) ∙ h)) n
    ];
    inodes_limited =
        let full : nat_le count_limit (map.len t.inodes) ≡ false = or_first (nat_le count_limit (map.len t.inodes)) (nat_le count_limit t.names) (or_first (nat_le count_limit (map.len t.inodes) || nat_le count_limit t.names) (nat_lt byte_limit (t.bytes + length (bytes_of b))) room) in
        let below : map.len t.inodes < count_limit = grind (arith, nat_tests) in
        let one_more = map.len-insert nat_cmp_total (with_inode dir (with_entry name t.next (is_directory b)) t.inodes) t.next y
        ∙ ap (λ o. cond (is_some o) (map.len (with_inode dir (with_entry name t.next (is_directory b)) t.inodes)) (map.len (with_inode dir (with_entry name t.next (is_directory b)) t.inodes) + 1)) (get-changed_other t.inodes dir (with_entry name t.next (is_directory b)) t.next (λ is. dir_old (sym is)) ∙ none_new) in
        let same = len-changed t.inodes dir (with_entry name t.next (is_directory b)) in
        omega arith;
    names_limited =
        let full : nat_le count_limit t.names ≡ false = or_second (nat_le count_limit (map.len t.inodes)) (nat_le count_limit t.names) (or_first (nat_le count_limit (map.len t.inodes) || nat_le count_limit t.names) (nat_lt byte_limit (t.bytes + length (bytes_of b))) room) in
        let below : t.names < count_limit = grind (arith, nat_tests) in
        omega arith;
    bytes_limited =
        let full : nat_lt byte_limit (t.bytes + length (bytes_of b)) ≡ false = or_second (nat_le count_limit (map.len t.inodes) || nat_le count_limit t.names) (nat_lt byte_limit (t.bytes + length (bytes_of b))) room in
        grind (arith, nat_tests);
    files_limited = λ i bytes h. by (λ i. body u i ≡ Some (RegularFile bytes) → length bytes ≤ file_limit)
        (λ h. small_file b bytes (file-with_standing (next_standing t dir) b bytes (body_some (sym (ap (option_map (λ z. z.node.body)) new_is) ∙ h))) small)
        (λ h. sound.files_limited dir bytes (ap (option_map (λ z. z.node.body)) at_dir ∙ ap Some (file-with_entries (λ es. es ++ e ∷ []) x.node.body bytes (body_some (sym (ap (option_map (λ z. z.node.body)) dir_is) ∙ h)))))
        (λ q d n h. sound.files_limited q bytes (sym (ap (option_map (λ z. z.node.body)) (other_is q d n)) ∙ h)) i h;
  }
    where
      root_old : root ≢ t.next
      root_old = let s = sound.rooted in let is = standing_there t sound root (record { inode = root; serial = 0 }) sound.rooted in old root is.0 is.1

      there_before : (i : ℕ) (z : Inode) → inode u i ≡ Some z → i ≢ t.next → (w : Inode) × (inode t i ≡ Some w)
      there_before i z h n = elim (cases_eq i dir) [
        | inl is ↦ (x, ap (inode t) is ∙ at_dir)
        | inr d ↦ (z, sym (other_is i d n) ∙ h)
      ]

      body_some : {a c : Body} → Some a ≡ Some c → a ≡ c
      body_some {a} h = ap (λ o. option_map_or (λ s. s) o a) h

      small_file : (b : Body) (bytes : List ℕ) → b ≡ RegularFile bytes → is_too_big b ≡ false → length bytes ≤ file_limit
      small_file b bytes is h = let test : nat_lt file_limit (length bytes) ≡ false = ap is_too_big (sym is) ∙ h in grind (arith, nat_tests)

  pub used-added : HasNoUnused t → HasNoUnused u
  used-added used i z h = ap (λ o. option_map_or is_unused o false) (sym h)
      ∙ by (λ i. option_map_or is_unused (inode u i) false ≡ false)
      (ap (λ o. option_map_or is_unused o false) new_is)
      (ap (λ o. option_map_or is_unused o false) dir_is ∙ used dir x at_dir)
      (λ q d n. ap (λ o. option_map_or is_unused o false) (other_is q d n) ∙ unused_before q) i
    where
      unused_before : (q : ℕ) → option_map_or is_unused (inode t q) false ≡ false
      unused_before q = elim (inode t q) as (λ o. inode t q ≡ o → option_map_or is_unused o false ≡ false) [
        | None ↦ λ _. refl
        | Some z ↦ λ h. used q z h
      ] refl

  -- ---- its counts

  abbrev with_dir : Inodes
  with_dir = with_inode dir (with_entry name t.next (is_directory b)) t.inodes

  -- a sum over all inodes after the change
  total_added : (f : Inode → ℕ) → total f u + f x ≡ f y + total f t + f grown
  total_added f =
      let top = sum-suc f u.inodes t.next in
      let at_top : value f (map.get u.inodes t.next) ≡ f y = ap (value f) new_is in
      let below = sum-same f with_dir u.inodes t.next (λ q l. ap (value f) (get-insert_other with_dir t.next y q (λ is. absurd (omega arith)))) in
      let dir_below = (sound.numbered dir x at_dir).1 in
      let changed = sum-changed f t.inodes with_dir dir t.next dir_below (λ q d. get-changed_other t.inodes dir (with_entry name t.next (is_directory b)) q d) in
      let was : value f (map.get t.inodes dir) ≡ f x = ap (value f) at_dir in
      let is : value f (map.get with_dir dir) ≡ f grown = ap (value f) (get-changed_same t.inodes dir (with_entry name t.next (is_directory b)) ∙ ap (option_map (with_entry name t.next (is_directory b))) at_dir) in
      omega arith

  grown_entries : entries_of grown.node.body ≡ entries_of x.node.body ++ e ∷ []
  grown_entries = entries-with_entries (λ es. es ++ e ∷ []) x.node.body (takes-is_listed x.node.body x_takes)

  new_entries : entries_of y.node.body ≡ []
  new_entries = entries-with_standing (next_standing t dir) b ∙ plain

  names_added : (i : ℕ) → names_of u i ≡ names_of t i + counted (nat_eq i t.next)
  names_added i =
      let sums = total_added (λ z. count_in i (entries_of z.node.body)) in
      let at_new : count_in i (entries_of y.node.body) ≡ 0 = ap (count_in i) new_entries in
      let at_dir : count_in i (entries_of grown.node.body) ≡ count_in i (entries_of x.node.body) + counted (nat_eq i t.next) = ap (count_in i) grown_entries ∙ count-new i (entries_of x.node.body) e in
      omega arith

  pub counted-added : IsCounted u
  counted-added = record {
    names = λ i.
        let before = counts.names i in
        let after = names_added i in
        elim (cases_eq i t.next) [
          | inl is ↦
              let here : value (λ z. z.names) (inode u i) ≡ 1 = ap (λ k. value (λ z. z.names) (inode u k)) is ∙ ap (value (λ z. z.names)) new_is in
              let none : value (λ z. z.names) (inode t i) ≡ 0 = ap (λ k. value (λ z. z.names) (inode t k)) is ∙ ap (value (λ z. z.names)) none_new in
              let one = counted-same i t.next is in
              omega arith
          | inr n ↦
              let here = stays (value (λ z. z.names)) refl i n in
              let none = counted-other i t.next n in
              omega arith
        ];
    directories = λ i. by (λ i. value (λ z. z.directories) (inode u i) ≡ directories_in u (entries u i))
        (ap (value (λ z. z.directories)) new_is ∙ sym (ap (directories_in u) entries_new))
        (let here : value (λ z. z.directories) (inode u dir) ≡ x.directories + counted (is_directory b) = ap (value (λ z. z.directories)) dir_is in
        let was : x.directories ≡ directories_in t (entries t dir) = sym (ap (value (λ z. z.directories)) at_dir) ∙ counts.directories dir in
        let same = directories-same t u (entries t dir) (λ z h. directory_old z.inode (entry_old dir z h)) in
        let last : counted (body_is is_directory u t.next) ≡ counted (is_directory b) = ap counted directory_new in
        let now : directories_in u (entries u dir) ≡ directories_in u (entries t dir) + counted (body_is is_directory u t.next) = ap (directories_in u) entries_dir ∙ directories-new u (entries t dir) e in
        omega arith)
        (λ q d n. ap (value (λ z. z.directories)) (other_is q d n) ∙ counts.directories q
        ∙ sym (directories-same t u (entries t q) (λ z h. directory_old z.inode (entry_old q z h))) ∙ ap (directories_in u) (sym (entries_other q d n))) i;
    all_names =
        let sums = total_added (λ z. length (entries_of z.node.body)) in
        let at_new : length (entries_of y.node.body) ≡ 0 = ap length new_entries in
        let at_dir : length (entries_of grown.node.body) ≡ length (entries_of x.node.body) + 1 = ap length grown_entries ∙ length-append (entries_of x.node.body) (e ∷ []) in
        let before = counts.all_names in
        omega arith;
    all_bytes =
        let sums = total_added (λ z. length (bytes_of z.node.body)) in
        let at_new : length (bytes_of y.node.body) ≡ length (bytes_of b) = ap length (bytes-with_standing (next_standing t dir) b) in
        let at_dir : length (bytes_of grown.node.body) ≡ length (bytes_of x.node.body) = ap length (bytes-with_entries (λ es. es ++ e ∷ []) x.node.body) in
        let before = counts.all_bytes in
        omega arith;
  }

-- the same of what the code leaves
pub kept-added : (t : Tree) → IsKept t → (dir : ℕ) (name : List ℕ) (mode uid gid : ℕ) (b : Body)
    → body_is takes_names t dir ≡ true → is_name name ≡ true → entry t dir name ≡ None → entries_of b ≡ [] → is_too_big b ≡ false → (size : ℕ) → size ≡ length (bytes_of b) → has_no_room size t ≡ false → AreBytes name → IsOfBytes b
    → (m : Inodes) → m ≡ (added dir name mode uid gid b t).inodes
    → IsKept (record { inodes = m; next = t.next + 1; names = t.names + 1; bytes = t.bytes + size })
kept-added t h dir name mode uid gid b takes well free plain small size is room name_bytes bytes m same =
    let P : Inodes → ℕ → Type 0 = λ m size. IsKept (record { inodes = m; next = t.next + 1; names = t.names + 1; bytes = t.bytes + size }) in
    let room_is : has_no_room (length (bytes_of b)) t ≡ false = ap (λ n. has_no_room n t) (sym is) ∙ room in
    subst (λ n. P m n) (sym is) (subst (λ m. P m (length (bytes_of b))) (sym same)
    (record {
      sound = sound-added t h.sound h.counted dir name mode uid gid b takes well free plain small room_is;
      counted = counted-added t h.sound h.counted dir name mode uid gid b takes well free plain small room_is;
      used = used-added t h.sound h.counted dir name mode uid gid b takes well free plain small room_is h.used;
      bytes = of_bytes-added t h.bytes dir name mode uid gid b name_bytes bytes;
    }))
