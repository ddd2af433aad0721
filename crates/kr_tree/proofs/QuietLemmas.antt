-- A tree after a change that leaves its entries and names: of a mode, an owner, holds or a file's bytes.
use Rattle.std.specs.FinMap as map
use Rattle.std.proofs.Common.{◌≡◌, subst, ℕ, ◌+◌, ◌≤◌, ◌<◌, true, false, ◌&&◌, nat_eq, ◌-◌, List, [], length, refl, sym, ap, ◌∙◌, arith, Option, Some, None}
use Rattle.std.specs.Option.{option_map, option_map_or, option_and_then}
use Rattle.std.proofs.lemmas.Bool.Decides.{nat_tests}
use Rattle.kr_tree.specs.Tree.{Tree, Inode, Inodes, Entry, RegularFile, root, inode, entries, entries_of, standing, standing_of, body_is, is_directory, is_listed, body, is_file, bytes_of}
use Rattle.kr_inode.specs.Entries.{IsListed}
use Rattle.kr_tree.specs.Changes.{with_inode, with_body, with_bytes, size, is_unused, count_limit, byte_limit, file_limit}
use Rattle.kr_tree.specs.Lawful.{IsKept, IsSound, IsCounted, HasNoUnused, RisesToEnd, AtRoot, AtRemoved, Above, IsIn, entries_beside, count_in, directories_in, total, sum_below, AreBytes, IsOfBytes}
use Rattle.kr_inode.proofs.pr_base.MapLemmas.{get-changed_same, get-changed_other, len-changed, by_key}
use Rattle.kr_tree.proofs.OfBytesLemmas.{of_bytes-with, of_bytes-with_bytes}
use Rattle.kr_inode.proofs.BodyLemmas.{entries-with_bytes, standing-with_bytes, is_directory-with_bytes, is_listed-with_bytes, file-with_bytes}
use Rattle.kr_tree.proofs.AddLemmas.{passing}
use Rattle.kr_tree.proofs.CountLemmas.{value, sum-at, sum-same, sum-changed, directories-same}

-- ---- trees that look alike

pub record LooksAlike (t u : Tree) : Type 0 where
  pub lists : (q : ℕ) → entries u q ≡ entries t q
  pub standings : (q : ℕ) → standing u q ≡ standing t q
  -- what is a directory was one, and what has an entry is as before
  pub directory : (q : ℕ) → body_is is_directory u q ≡ true → body_is is_directory t q ≡ true
  pub directory_in : (d : ℕ) (e : Entry) → IsIn e (entries t d) → body_is is_directory u e.inode ≡ body_is is_directory t e.inode
  pub root_listed : body_is is_listed u root ≡ body_is is_listed t root
  pub names : (q : ℕ) → value (λ x. x.names) (inode u q) ≡ value (λ x. x.names) (inode t q)
  pub directories : (q : ℕ) → value (λ x. x.directories) (inode u q) ≡ value (λ x. x.directories) (inode t q)
  pub there : (q : ℕ) (y : Inode) → inode u q ≡ Some y → (x : Inode) × (inode t q ≡ Some x) × (entries_beside y ≡ entries_beside x)
  pub next : u.next ≡ t.next
  pub all_names : u.names ≡ t.names

pub of_entries : (f : List Entry → ℕ) → f [] ≡ 0 → (o : Option Inode) → value (λ x. f (entries_of x.node.body)) o ≡ f (option_map_or (λ x. entries_of x.node.body) o [])
of_entries f none None = sym none
of_entries f none (Some x) = refl

module _ (t u : Tree) (alike : LooksAlike t u) where
  rises-alike : (q : ℕ) → RisesToEnd t q → RisesToEnd u q
  rises-alike q AtRoot = AtRoot
  rises-alike q (AtRemoved h) = AtRemoved (ap (option_map (λ s. s.inode)) (alike.standings q) ∙ h)
  rises-alike q (Above {up = up} h r) = Above (ap (option_map (λ s. s.inode)) (alike.standings q) ∙ h) (rises-alike up r)

  in-alike : (q : ℕ) (e : Entry) → IsIn e (entries u q) → IsIn e (entries t q)
  in-alike q e h = let P : List Entry → Type 0 = λ es. IsIn e es in subst P (alike.lists q) h

  in-alike_back : (q : ℕ) (e : Entry) → IsIn e (entries t q) → IsIn e (entries u q)
  in-alike_back q e h = let P : List Entry → Type 0 = λ es. IsIn e es in subst P (sym (alike.lists q)) h

  total-alike : (f : List Entry → ℕ) → f [] ≡ 0 → total (λ x. f (entries_of x.node.body)) u ≡ total (λ x. f (entries_of x.node.body)) t
  total-alike f none =
      ap (sum_below (λ x. f (entries_of x.node.body)) u.inodes) alike.next
      ∙ sum-same (λ x. f (entries_of x.node.body)) t.inodes u.inodes t.next
      (λ q l. of_entries f none (inode u q) ∙ ap f (alike.lists q) ∙ sym (of_entries f none (inode t q)))

  pub sound-alike : IsSound t → map.len u.inodes ≤ count_limit → u.bytes ≤ byte_limit → ((i : ℕ) (bytes : List ℕ) → body u i ≡ Some (RegularFile bytes) → length bytes ≤ file_limit) → IsSound u
  sound-alike sound inodes bytes files = record {
    rooted = alike.standings root ∙ sound.rooted;
    root_listed = alike.root_listed ∙ sound.root_listed;
    numbered = λ i y h. let x = alike.there i y h in let low = sound.numbered i x.0 x.1 in let e = alike.next in (low.0, omega arith);
    listed = λ i y h. let x = alike.there i y h in subst IsListed (sym x.2) (sound.listed i x.0 x.1);
    emptied = λ i h. alike.lists i ∙ sound.emptied i (sym (alike.standings i) ∙ h);
    alone = λ d e h is. alike.standings e.inode ∙ sound.alone d e (in-alike d e h) (alike.directory e.inode is);
    stands = λ d s away h. let before = sound.stands d s away (sym (alike.standings d) ∙ h) in
        (before.0, in-alike_back s.inode (record { name = before.0; serial = s.serial; inode = d }) before.1);
    rises = λ d h. rises-alike d (sound.rises d (alike.directory d h));
    inodes_limited = inodes;
    names_limited = let e = alike.all_names in let l = sound.names_limited in omega arith;
    bytes_limited = bytes;
    files_limited = files;
  }

  pub counted-alike : IsCounted t → u.bytes ≡ total (λ x. length (bytes_of x.node.body)) u → IsCounted u
  counted-alike counts bytes = record {
    names = λ i. let sums = total-alike (count_in i) refl in let before = counts.names i in let same = alike.names i in omega arith;
    directories = λ i. alike.directories i ∙ counts.directories i ∙ sym (directories-same t u (entries t i) (alike.directory_in i)) ∙ ap (directories_in u) (sym (alike.lists i));
    all_names = let sums = total-alike length refl in let before = counts.all_names in let same = alike.all_names in omega arith;
    all_bytes = bytes;
  }

-- ---- one inode changed

-- a change of an inode that leaves its entries, its standing and its counts
pub record IsQuiet (g : Inode → Inode) : Type 0 where
  pub entries : (x : Inode) → entries_of (g x).node.body ≡ entries_of x.node.body
  pub standing : (x : Inode) → standing_of (g x).node.body ≡ standing_of x.node.body
  pub directory : (x : Inode) → is_directory (g x).node.body ≡ is_directory x.node.body
  pub listed : (x : Inode) → is_listed (g x).node.body ≡ is_listed x.node.body
  pub names : (x : Inode) → (g x).names ≡ x.names
  pub directories : (x : Inode) → (g x).directories ≡ x.directories
  pub serial : (x : Inode) → (g x).next_serial ≡ x.next_serial

module _ (t : Tree) (k : ℕ) (g : Inode → Inode) (quiet : IsQuiet g) (bytes : ℕ) where
  abbrev u : Tree
  u = record { inodes = with_inode k g t.inodes; next = t.next; names = t.names; bytes = bytes }

  at : inode u k ≡ option_map g (inode t k)
  at = get-changed_same t.inodes k g

  stays : {A : Type 0} (f : Option Inode → A) → ((x : Inode) → f (Some (g x)) ≡ f (Some x)) → (q : ℕ) → f (inode u q) ≡ f (inode t q)
  stays f same = by_key (λ q. f (inode u q) ≡ f (inode t q)) k
      (ap f at ∙ mapped (inode t k))
      (λ q d. ap f (get-changed_other t.inodes k g q d))
    where
      mapped : (o : Option Inode) → f (option_map g o) ≡ f o
      mapped None = refl
      mapped (Some x) = same x

  pub looks-quiet : LooksAlike t u
  looks-quiet = record {
    lists = stays (λ o. option_map_or (λ x. entries_of x.node.body) o []) quiet.entries;
    standings = stays (option_and_then (λ x. standing_of x.node.body)) quiet.standing;
    directory = λ q h. sym (stays (λ o. option_map_or (λ x. is_directory x.node.body) o false) quiet.directory q) ∙ h;
    directory_in = λ d e h. stays (λ o. option_map_or (λ x. is_directory x.node.body) o false) quiet.directory e.inode;
    root_listed = stays (λ o. option_map_or (λ x. is_listed x.node.body) o false) quiet.listed root;
    names = stays (value (λ x. x.names)) quiet.names;
    directories = stays (value (λ x. x.directories)) quiet.directories;
    there = there;
    next = refl;
    all_names = refl;
  }
    where
      beside : (x : Inode) → entries_beside (g x) ≡ entries_beside x
      beside x = λ i. record { list = quiet.entries x i; next = quiet.serial x i }

      mapped : (o : Option Inode) (y : Inode) → option_map g o ≡ Some y → (x : Inode) × (o ≡ Some x) × (entries_beside y ≡ entries_beside x)
      mapped None y h = absurd cc
      mapped (Some x) y h = (x, refl, ap (λ o. option_map_or entries_beside o (entries_beside y)) (sym h) ∙ beside x)

      there : (q : ℕ) (y : Inode) → inode u q ≡ Some y → (x : Inode) × (inode t q ≡ Some x) × (entries_beside y ≡ entries_beside x)
      there = by_key (λ q. (y : Inode) → inode u q ≡ Some y → (x : Inode) × (inode t q ≡ Some x) × (entries_beside y ≡ entries_beside x)) k
          (λ y h. mapped (inode t k) y (sym at ∙ h))
          (λ q d y h. (y, sym (get-changed_other t.inodes k g q d) ∙ h, refl))

  -- the bytes in all
  total-quiet : (f : Inode → ℕ) → ((q : ℕ) (x : Inode) → inode t q ≡ Some x → q < t.next) → total f u + value f (inode t k) ≡ total f t + value f (option_map g (inode t k))
  total-quiet f low = elim (inode t k) as (λ o. inode t k ≡ o → total f u + value f o ≡ total f t + value f (option_map g o)) [
    | None ↦ λ h.
        let same = sum-same f t.inodes u.inodes t.next (by_key (λ q. q < t.next → value f (inode u q) ≡ value f (inode t q)) k
        (λ _. ap (value f) (at ∙ ap (option_map g) h) ∙ sym (ap (value f) h))
        (λ q d _. ap (value f) (get-changed_other t.inodes k g q d))) in
        omega arith
    | Some x ↦ λ h.
        let changed = sum-changed f t.inodes u.inodes k t.next (low k x h) (λ q d. get-changed_other t.inodes k g q d) in
        let was : value f (map.get t.inodes k) ≡ f x = ap (value f) h in
        let is : value f (map.get u.inodes k) ≡ f (g x) = ap (value f) (at ∙ ap (option_map g) h) in
        omega arith
  ] refl

  pub sound-quiet : IsSound t → bytes ≤ byte_limit
      → ((x : Inode) (bs : List ℕ) → inode t k ≡ Some x → (g x).node.body ≡ RegularFile bs → length bs ≤ file_limit)
      → IsSound u
  sound-quiet sound limit files =
      sound-alike t u looks-quiet sound (let l = sound.inodes_limited in let same = len-changed t.inodes k g in omega arith) limit
      (λ i bs. by_key (λ i. body u i ≡ Some (RegularFile bs) → length bs ≤ file_limit) k
      (λ is. mapped bs (inode t k) refl (sym (ap (option_map (λ x. x.node.body)) at) ∙ is))
      (λ q d is. sound.files_limited q bs (sym (ap (option_map (λ x. x.node.body)) (get-changed_other t.inodes k g q d)) ∙ is)) i)
    where
      mapped : (bs : List ℕ) (o : Option Inode) → inode t k ≡ o → option_map (λ x. x.node.body) (option_map g o) ≡ Some (RegularFile bs) → length bs ≤ file_limit
      mapped bs None at h = absurd cc
      mapped bs (Some x) at h = files x bs at (ap (λ o. option_map_or (λ b. b) o (g x).node.body) h)

  pub counted-quiet : IsSound t → IsCounted t → bytes + value (λ x. length (bytes_of x.node.body)) (inode t k) ≡ t.bytes + value (λ x. length (bytes_of x.node.body)) (option_map g (inode t k)) → IsCounted u
  counted-quiet sound counts sum =
      counted-alike t u looks-quiet counts
      (let sums = total-quiet (λ x. length (bytes_of x.node.body)) (λ q x is. (sound.numbered q x is).1) in let before = counts.all_bytes in omega arith)

  pub used-quiet : HasNoUnused t → ((x : Inode) → is_unused x ≡ false → is_unused (g x) ≡ false) → HasNoUnused u
  used-quiet h used =
      by_key (λ i. (y : Inode) → inode u i ≡ Some y → is_unused y ≡ false) k
      (λ y is. unused y (inode t k) refl (sym at ∙ is))
      (λ q d y is. h q y (sym (get-changed_other t.inodes k g q d) ∙ is))
    where
      unused : (y : Inode) (o : Option Inode) → inode t k ≡ o → option_map g o ≡ Some y → is_unused y ≡ false
      unused y None at h = absurd cc
      unused y (Some x) at is = ap (λ o. option_map_or is_unused o false) (sym is) ∙ used x (h k x at)

-- ---- a change that leaves the body as well

module _ (t : Tree) (k : ℕ) (g : Inode → Inode) (still : (x : Inode) → (g x).node.body ≡ x.node.body)
    (names : (x : Inode) → (g x).names ≡ x.names) (directories : (x : Inode) → (g x).directories ≡ x.directories) (serial : (x : Inode) → (g x).next_serial ≡ x.next_serial) where
  quiet : IsQuiet g
  quiet = record {
    entries = λ x. ap entries_of (still x);
    standing = λ x. ap standing_of (still x);
    directory = λ x. ap is_directory (still x);
    listed = λ x. ap is_listed (still x);
    names = names;
    directories = directories;
    serial = serial;
  }

  abbrev changed : Tree
  changed = record { inodes = with_inode k g t.inodes; next = t.next; names = t.names; bytes = t.bytes }

  pub sound-still : IsSound t → IsSound changed
  sound-still sound = sound-quiet t k g quiet t.bytes sound sound.bytes_limited (λ x bs at is. sound.files_limited k bs (ap (option_map (λ x. x.node.body)) at ∙ ap Some (sym (still x) ∙ is)))

  pub counted-still : IsSound t → IsCounted t → IsCounted changed
  counted-still sound counts = counted-quiet t k g quiet t.bytes sound counts (ap (λ n. t.bytes + n) (same (inode t k)))
    where
      same : (o : Option Inode) → value (λ x. length (bytes_of x.node.body)) o ≡ value (λ x. length (bytes_of x.node.body)) (option_map g o)
      same None = refl
      same (Some x) = ap (λ b. length (bytes_of b)) (sym (still x))

  pub kept-still : IsKept t → ((x : Inode) → is_unused x ≡ false → is_unused (g x) ≡ false) → (m : Inodes) → m ≡ with_inode k g t.inodes
      → IsKept (record { inodes = m; next = t.next; names = t.names; bytes = t.bytes })
  kept-still h used m is =
      let P : Inodes → Type 0 = λ m. IsKept (record { inodes = m; next = t.next; names = t.names; bytes = t.bytes }) in
      subst P (sym is) (record {
        sound = sound-still h.sound;
        counted = counted-still h.sound h.counted;
        used = used-quiet t k g quiet t.bytes h.used used;
        bytes = of_bytes-with t.inodes k g h.bytes (λ x of_bytes. subst IsOfBytes (sym (still x)) of_bytes);
      })

-- one more hold
pub held_used : (x : Inode) → is_unused x ≡ false → (nat_eq x.names 0 && nat_eq (x.holds + 1) 0) ≡ false
held_used x h = grind (arith, nat_tests)

-- ---- other bytes of a file

other_bytes : (f : List ℕ → List ℕ) → IsQuiet (with_body (with_bytes f))
other_bytes f = record {
  entries = λ x. entries-with_bytes f x.node.body;
  standing = λ x. standing-with_bytes f x.node.body;
  directory = λ x. is_directory-with_bytes f x.node.body;
  listed = λ x. is_listed-with_bytes f x.node.body;
  names = λ _. refl;
  directories = λ _. refl;
  serial = λ _. refl;
}

-- a file has no more bytes than there are in all
pub size-le : (t : Tree) → IsKept t → (k : ℕ) → value (λ x. length (bytes_of x.node.body)) (inode t k) ≤ t.bytes
size-le t h k = elim (inode t k) as (λ o. inode t k ≡ o → value (λ x. length (bytes_of x.node.body)) o ≤ t.bytes) [
  | None ↦ λ _. omega arith
  | Some x ↦ λ at.
      let one = sum-at (λ x. length (bytes_of x.node.body)) t.inodes k t.next ((h.sound.numbered k x at).1) in
      let here : value (λ x. length (bytes_of x.node.body)) (map.get t.inodes k) ≡ length (bytes_of x.node.body) = ap (value (λ x. length (bytes_of x.node.body))) at in
      let all = h.counted.all_bytes in
      omega arith
] refl

-- of what the code leaves: `new` bytes in the file
pub kept-bytes : (t : Tree) → IsKept t → (k : ℕ) → body_is is_file t k ≡ true → (f : List ℕ → List ℕ) → ((bytes : List ℕ) → AreBytes bytes → AreBytes (f bytes)) → (new : ℕ)
    → ((x : Inode) → inode t k ≡ Some x → new ≡ length (f (bytes_of x.node.body))) → new ≤ file_limit → (bytes : ℕ) → bytes ≡ t.bytes - size t k + new → bytes ≤ byte_limit
    → (m : Inodes) → m ≡ with_inode k (with_body (with_bytes f)) t.inodes
    → IsKept (record { inodes = m; next = t.next; names = t.names; bytes = bytes })
kept-bytes t h k file f stay new new_is limit bytes bytes_is all m m_is =
    let P : Inodes → Type 0 = λ m. IsKept (record { inodes = m; next = t.next; names = t.names; bytes = bytes }) in
    let x = passing is_file (inode t k) file in
    let g = with_body (with_bytes f) in
    let body_is : with_bytes f x.0.node.body ≡ RegularFile (f (bytes_of x.0.node.body)) = file-with_bytes f x.0.node.body x.2 in
    let count = new_is x.0 x.1 in
    let little = size-le t h k in
    let after : value (λ x. length (bytes_of x.node.body)) (option_map (with_body (with_bytes f)) (inode t k)) ≡ new =
    ap (λ o. value (λ x. length (bytes_of x.node.body)) (option_map (with_body (with_bytes f)) o)) x.1 ∙ ap (λ b. length (bytes_of b)) body_is ∙ sym count in
    subst P (sym m_is) (record {
      sound = sound-quiet t k (with_body (with_bytes f)) (other_bytes f) bytes h.sound all
          (λ z bs at is.
          let same : x.0 ≡ z = ap (λ o. option_map_or (λ s. s) o x.0) (sym x.1 ∙ at) in
          let it : RegularFile (f (bytes_of x.0.node.body)) ≡ RegularFile bs = sym body_is ∙ ap (λ z. with_bytes f z.node.body) same ∙ is in
          let long : length (f (bytes_of x.0.node.body)) ≡ length bs = ap (λ b. length (bytes_of b)) it in
          omega arith);
      counted = counted-quiet t k (with_body (with_bytes f)) (other_bytes f) bytes h.sound h.counted (omega arith);
      used = used-quiet t k (with_body (with_bytes f)) (other_bytes f) bytes h.used (λ _ u. u);
      bytes = of_bytes-with t.inodes k (with_body (with_bytes f)) h.bytes (λ z. of_bytes-with_bytes f stay z.node.body);
    })
