-- A tree from which an inode was dropped that nothing names or holds.
use Rattle.std.specs.FinMap as map
use Rattle.std.proofs.Common.{◌≡◌, ◌≢◌, inl, inr, subst, ℕ, ◌+◌, ◌-◌, ◌≤◌, ◌<◌, Bool, true, false, ◌&&◌, [], length, refl, sym, ap, ◌∙◌, arith, cond, Option, Some, None, is_some, nat_eq}
use Rattle.std.specs.Option.{option_map, option_map_or, option_and_then}
use Rattle.std.specs.Cmp.{nat_cmp_total}
use Rattle.std.proofs.lemmas.Bool.{cases_eq, eqb-true}
use Rattle.kr_tree.specs.Tree.{Tree, Inode, Entry, RegularFile, root, inode, entries, entries_of, standing, standing_of, body_is, is_directory, is_listed, body, bytes_of}
use Rattle.kr_tree.specs.Changes.{is_unused, is_unused_at, freed, dropped_if_unused, file_limit}
use Rattle.kr_tree.specs.Lawful.{IsKept, IsSound, IsCounted, HasNoUnused, HasBytes, IsIn, entries_beside, count_in, directories_in, names_of, total}
use Rattle.kr_inode.proofs.pr_base.MapLemmas.{get-remove_same, get-remove_other, by_key}
use Rattle.kr_tree.proofs.OfBytesLemmas.{of_bytes-removed}
use Rattle.kr_tree.proofs.CountLemmas.{value, sum-changed, sum-at, in-counted, counted-same, entries_there}
use Rattle.kr_tree.proofs.QuietLemmas.{LooksAlike, of_entries, sound-alike, counted-alike}

module _ (u : Tree) (sound : IsSound u) (counts : IsCounted u) (k : ℕ) (x : Inode) (at : inode u k ≡ Some x) (no_names : x.names ≡ 0) where
  abbrev v : Tree
  v = record { inodes = map.remove u.inodes k; next = u.next; names = u.names; bytes = u.bytes - length (bytes_of x.node.body) }

  none_named : names_of u k ≡ 0
  none_named = sym (counts.names k) ∙ ap (value (λ x. x.names)) at ∙ no_names

  not_root : k ≢ root
  not_root is = let one = counted-same k root is in let none = none_named in absurd (omega arith)

  -- no entry stands for it
  unnamed : (d : ℕ) (e : Entry) → IsIn e (entries u d) → e.inode ≢ k
  unnamed d e h is =
      let there = entries_there u d e h in
      let below = (sound.numbered d there.0 there.1).1 in
      let some = sum-at (λ z. count_in k (entries_of z.node.body)) u.inodes d u.next below in
      let here : value (λ z. count_in k (entries_of z.node.body)) (inode u d) ≡ count_in k (entries u d) = of_entries (count_in k) refl (inode u d) in
      let one : 0 < count_in e.inode (entries u d) = in-counted e (entries u d) h in
      let same : count_in e.inode (entries u d) ≡ count_in k (entries u d) = ap (λ i. count_in i (entries u d)) is in
      let none = none_named in
      absurd (omega arith)

  gone : inode v k ≡ None
  gone = get-remove_same u.inodes k

  rest : (q : ℕ) → q ≢ k → inode v q ≡ inode u q
  rest q d = get-remove_other u.inodes k q d

  stands_nowhere : standing u k ≡ None
  stands_nowhere = elim (standing u k) as (λ o. standing u k ≡ o → o ≡ None) [
    | None ↦ λ _. refl
    | Some s ↦ λ is. let e = sound.stands k s not_root is in absurd (unnamed s.inode (record { name = e.0; serial = s.serial; inode = k }) e.1 refl)
  ] refl

  no_entries : entries u k ≡ []
  no_entries = sound.emptied k stands_nowhere

  looks : LooksAlike u v
  looks = record {
    lists = by_key (λ q. entries v q ≡ entries u q) k
        (ap (λ o. option_map_or (λ z. entries_of z.node.body) o []) gone ∙ sym no_entries)
        (λ q d. ap (λ o. option_map_or (λ z. entries_of z.node.body) o []) (rest q d));
    standings = by_key (λ q. standing v q ≡ standing u q) k
        (ap (option_and_then (λ z. standing_of z.node.body)) gone ∙ sym stands_nowhere)
        (λ q d. ap (option_and_then (λ z. standing_of z.node.body)) (rest q d));
    directory = by_key (λ q. body_is is_directory v q ≡ true → body_is is_directory u q ≡ true) k
        (λ h. let no : false ≡ true = sym (ap (λ o. option_map_or (λ z. is_directory z.node.body) o false) gone) ∙ h in absurd cc)
        (λ q d h. sym (ap (λ o. option_map_or (λ z. is_directory z.node.body) o false) (rest q d)) ∙ h);
    directory_in = λ d e h. ap (λ o. option_map_or (λ z. is_directory z.node.body) o false) (rest e.inode (unnamed d e h));
    root_listed = ap (λ o. option_map_or (λ z. is_listed z.node.body) o false) (rest root (λ is. not_root (sym is)));
    names = by_key (λ q. value (λ z. z.names) (inode v q) ≡ value (λ z. z.names) (inode u q)) k
        (ap (value (λ z. z.names)) gone ∙ sym (ap (value (λ z. z.names)) at ∙ no_names))
        (λ q d. ap (value (λ z. z.names)) (rest q d));
    directories = by_key (λ q. value (λ z. z.directories) (inode v q) ≡ value (λ z. z.directories) (inode u q)) k
        (ap (value (λ z. z.directories)) gone ∙ sym (counts.directories k ∙ ap (directories_in u) no_entries))
        (λ q d. ap (value (λ z. z.directories)) (rest q d));
    there = by_key (λ q. (y : Inode) → inode v q ≡ Some y → (x : Inode) × (inode u q ≡ Some x) × (entries_beside y ≡ entries_beside x)) k
        (λ y h. let no : None ≡ Some y = sym gone ∙ h in absurd cc)
        (λ q d y h. (y, sym (rest q d) ∙ h, refl));
    next = refl;
    all_names = refl;
  }

  total_dropped : (f : Inode → ℕ) → total f v + f x ≡ total f u
  total_dropped f =
      let changed = sum-changed f u.inodes v.inodes k u.next ((sound.numbered k x at).1) rest in
      let was : value f (map.get u.inodes k) ≡ f x = ap (value f) at in
      let is : value f (map.get v.inodes k) ≡ 0 = ap (value f) gone in
      omega arith

  pub sound-dropped : IsSound v
  sound-dropped =
      sound-alike u v looks sound
      (let len = map.len-remove nat_cmp_total u.inodes k ∙ ap (λ o. cond (is_some o) (map.len u.inodes - 1) (map.len u.inodes)) at in let l = sound.inodes_limited in omega arith)
      (let l = sound.bytes_limited in omega arith)
      (λ i bs. by_key (λ i. body v i ≡ Some (RegularFile bs) → length bs ≤ file_limit) k
      (λ h. let no : None ≡ Some (RegularFile bs) = sym (ap (option_map (λ z. z.node.body)) gone) ∙ h in absurd cc)
      (λ q d h. sound.files_limited q bs (sym (ap (option_map (λ z. z.node.body)) (rest q d)) ∙ h)) i)

  pub counted-dropped : IsCounted v
  counted-dropped = counted-alike u v looks counts (let sums = total_dropped (λ z. length (bytes_of z.node.body)) in let before = counts.all_bytes in omega arith)

  pub used-dropped : ((i : ℕ) (z : Inode) → i ≢ k → inode u i ≡ Some z → is_unused z ≡ false) → HasNoUnused v
  used-dropped used = by_key (λ i. (z : Inode) → inode v i ≡ Some z → is_unused z ≡ false) k
      (λ z h. let no : None ≡ Some z = sym gone ∙ h in absurd cc)
      (λ q d z h. used q z d (sym (rest q d) ∙ h))

-- what is unused has no names
unused_names : (x : Inode) → is_unused x ≡ true → x.names ≡ 0
unused_names x h = eqb-true x.names 0 (first (nat_eq x.names 0) (nat_eq x.holds 0) h)
  where
    first : (a b : Bool) → (a && b) ≡ true → a ≡ true
    first true b h = refl
    first false b h = absurd cc

-- an inode that may be unused is dropped if it is
pub kept-dropped : (u : Tree) → IsSound u → IsCounted u → (k : ℕ) → ((i : ℕ) (z : Inode) → i ≢ k → inode u i ≡ Some z → is_unused z ≡ false) → HasBytes u → IsKept (dropped_if_unused k u)
kept-dropped u sound counts k used bytes =
    elim (is_unused_at k u.inodes) as (λ b. is_unused_at k u.inodes ≡ b
    → IsKept (record { inodes = cond b (map.remove u.inodes k) u.inodes; next = u.next; names = u.names; bytes = u.bytes - cond b (value (λ x. length (bytes_of x.node.body)) (inode u k)) 0 })) [
      | true ↦ λ h. gone (inode u k) refl h
      | false ↦ λ h.
          let P : ℕ → Type 0 = λ n. IsKept (record { inodes = u.inodes; next = u.next; names = u.names; bytes = n }) in
          let same : u.bytes ≡ u.bytes - 0 = omega arith in
          subst P same (record {
            sound = sound;
            counted = counts;
            used = λ i z at. elim (cases_eq i k) [
              | inl e ↦ sym (ap (λ o. option_map_or is_unused o false) (ap (inode u) (sym e) ∙ at)) ∙ h
              | inr d ↦ used i z d at
            ];
            bytes = bytes;
          })
    ] refl
  where
    gone : (o : Option Inode) → inode u k ≡ o → option_map_or is_unused o false ≡ true
        → IsKept (record { inodes = map.remove u.inodes k; next = u.next; names = u.names; bytes = u.bytes - value (λ x. length (bytes_of x.node.body)) (inode u k) })
    gone None at h = absurd cc
    gone (Some x) at h =
        let P : ℕ → Type 0 = λ n. IsKept (record { inodes = map.remove u.inodes k; next = u.next; names = u.names; bytes = u.bytes - n }) in
        let none = unused_names x h in
        subst P (sym (ap (value (λ x. length (bytes_of x.node.body))) at)) (record {
          sound = sound-dropped u sound counts k x at none;
          counted = counted-dropped u sound counts k x at none;
          used = used-dropped u sound counts k x at none used;
          bytes = of_bytes-removed u.inodes k bytes;
        })

pub freed-le : (u : Tree) → IsSound u → IsCounted u → (k : ℕ) → freed k u.inodes ≤ u.bytes
freed-le u sound counts k =
    let is = counts.all_bytes in
    elim (is_unused_at k u.inodes) as (λ b. cond b (value (λ x. length (bytes_of x.node.body)) (inode u k)) 0 ≤ u.bytes) [
      | true ↦ some (inode u k) refl
      | false ↦ omega arith
    ]
  where
    some : (o : Option Inode) → inode u k ≡ o → value (λ x. length (bytes_of x.node.body)) o ≤ u.bytes
    some None at = omega arith
    some (Some x) at =
        let is = counts.all_bytes in
        let one = sum-at (λ x. length (bytes_of x.node.body)) u.inodes k u.next ((sound.numbered k x at).1) in
        let here : value (λ x. length (bytes_of x.node.body)) (map.get u.inodes k) ≡ length (bytes_of x.node.body) = ap (value (λ x. length (bytes_of x.node.body))) at in
        omega arith
