-- What the code keeps beside what a state means, after one of its living processes was changed.
use Rattle.std.specs.FinMap as map
use Rattle.std.proofs.Common.{◌≡◌, ◌≢◌, ℕ, zero, suc, ◌+◌, ◌≤◌, ◌<◌, Bool, is_some, List, [], ◌∷◌, length, get_or, refl, sym, ap, subst, ◌∙◌, arith, Option, Some, None}
use Rattle.std.specs.Prelude.{map as map_list, slice_set, sum, IsSome, OnErr, Result, Ok, Err}
use Rattle.std.specs.List.{AllByRecursion}
use Rattle.std.specs.Option.{option_map, option_map_or, option_and_then}
use Rattle.std.proofs.lemmas.Option.{none-some, same_Some}
use Rattle.law_lawful.specs.pr_base.Maps.{changed}
use Rattle.law_lawful.proofs.pr_base.MapLemmas.{by_key, each-changed, get-insert_same, get-insert_other, get-mapped}
use Rattle.law_lawful.specs.rv_mem.Memory.{Memory}
use Rattle.law_lawful.specs.kr_files.declared.descs.Descriptor.{Descriptor}
use Rattle.law_lawful.specs.kr_files.Descriptors.{Descriptors, meanings, named_count, with_cloexec, with_copy_at}
use Rattle.law_lawful.specs.kr_files.Files.{Counted, GivesPair, Kept, NamesOpenFiles, by_descriptor, copied, released, file_at}
use Rattle.law_lawful.specs.kr_files.Serves.{Serves}
use Rattle.law_lawful.proofs.kr_files.ServedLemmas.{served-close, served-dup_to, served-others}
use Rattle.law_lawful.proofs.kr_files.ServesLemmas.{one_at, serves-raise}
use Rattle.law_lawful.specs.kr_model.Known.{pages_in_all}
use Rattle.law_lawful.specs.kr_model.State as model
use Rattle.law_lawful.specs.kr_model.State.{image_layout, layout_of}
use Rattle.law_lawful.specs.kr_model.Uses.{names_of_file}
use Rattle.law_lawful.proofs.SumLemmas.{sum-cons}
use Rattle.kr_ops.specs.declared.state.Process.{Process}
use Rattle.kr_ops.specs.declared.state.State.{State}
use Rattle.law_lawful.specs.kr_model.Applied.{with_files}
use Rattle.kr_ops.specs.Making.{IsAsBefore}
use Rattle.kr_ops.specs.Meaning.{process_meaning, meaning}
use Rattle.kr_ops.specs.Sound.{IsServed, IsSound}
use Rattle.kr_ops.proofs.ChangeLemmas.{living_as}
use Rattle.kr_ops.proofs.ListLemmas.{apart, one-found}

-- ---- lists

pub all-at : {A : Type 0} (P : A → Type 0) (xs : List A) (k : ℕ) (x : A) → AllByRecursion P xs → k < length xs → x ≡ get_or xs k x → P x
all-at P [] k x all l e = absurd (let none : k < 0 = l in omega arith)
all-at P (y ∷ ys) zero x all l e = subst P (sym e) all.0
all-at P (y ∷ ys) (suc k) x all l e = all-at P ys k x all.1 (omega arith) e

-- each element of a list in which one was replaced
pub all-set : {A : Type 0} (P : A → Type 0) (xs : List A) (k : ℕ) (x : A) → ((j : ℕ) (y : A) → (j ≡ k → ⊥) → j < length xs → y ≡ get_or xs j y → P y) → P x → AllByRecursion P (slice_set xs k x)
all-set P [] k x others here = tt
all-set P (y ∷ ys) zero x others here = (here, rest ys (λ j z l e. others (suc j) z (λ same. omega arith) (omega arith) e))
  where
    rest : (zs : List _) → ((j : ℕ) (z : _) → j < length zs → z ≡ get_or zs j z → P z) → AllByRecursion P zs
    rest [] all = tt
    rest (z ∷ zs) all = (all 0 z (omega arith) refl, rest zs (λ j w l e. all (suc j) w (omega arith) e))
all-set P (y ∷ ys) (suc k) x others here =
    (others 0 y (λ same. omega arith) (omega arith) refl, all-set P ys k x (λ j z d l e. others (suc j) z (λ same. d (omega arith)) (omega arith) e) here)

pub set-same : {A : Type 0} (xs : List A) (k : ℕ) (x : A) → x ≡ get_or xs k x → slice_set xs k x ≡ xs
set-same [] k x e = refl
set-same (y ∷ ys) zero x e = ap (λ z. z ∷ ys) e
set-same (y ∷ ys) (suc k) x e = ap (λ zs. y ∷ zs) (set-same ys k x e)

-- a sum in which one summand was replaced
pub sum-set : {A : Type 0} (f : A → ℕ) (xs : List A) (k : ℕ) (x y : A) → k < length xs → x ≡ get_or xs k x → sum (map_list f (slice_set xs k y)) + f x ≡ sum (map_list f xs) + f y
sum-set f [] k x y l e = absurd (let none : k < 0 = l in omega arith)
sum-set f (z ∷ zs) zero x y l e = let same : f x ≡ f z = ap f e in let old = sum-cons (f z) (map_list f zs) in let new = sum-cons (f y) (map_list f zs) in omega arith
sum-set f (z ∷ zs) (suc k) x y l e =
    let rest = sum-set f zs k x y (omega arith) e in
    let old = sum-cons (f z) (map_list f zs) in
    let new = sum-cons (f z) (map_list f (slice_set zs k y)) in
    omega arith

maps-map : {A B C : Type 0} (f : B → C) (g : A → B) (xs : List A) → map_list f (map_list g xs) ≡ map_list (λ x. f (g x)) xs
maps-map f g [] = refl
maps-map f g (x ∷ xs) = ap (λ ys. f (g x) ∷ ys) (maps-map f g xs)

module _ {T : Type 0} where
  -- ---- descriptors of one process

  -- open files that keep their keys, or get new ones, are still named
  pub names-kept : (f g : Kept T) → g.keys ≡ f.keys → (d : Descriptors) → NamesOpenFiles f d → NamesOpenFiles g d
  names-kept f g same d names = λ fd x is. ap (λ keys. map.get keys x.key) same ∙ names fd x is

  pub names-insert : (f g : Kept T) (key n : ℕ) → map.get f.keys key ≡ None → g.keys ≡ map.insert f.keys key n → (d : Descriptors) → NamesOpenFiles f d → NamesOpenFiles g d
  names-insert f g key n free is d names = λ fd x there.
      ap (λ keys. map.get keys x.key) is
      ∙ get-insert_other f.keys key n x.key (λ same. none-some x.number (sym free ∙ ap (λ k. map.get f.keys k) (sym same) ∙ names fd x there))
      ∙ names fd x there

  -- a new open file, and a descriptor that names it
  pub names-add : (f g : Kept T) (key n fd : ℕ) (cloexec : Bool) (d e : Descriptors) → map.get f.keys key ≡ None → g.keys ≡ map.insert f.keys key n → e ≡ map.insert d fd (record { key = key; number = n; cloexec = cloexec })
      → NamesOpenFiles f d → NamesOpenFiles g e
  names-add f g key n fd cloexec d e free is descs names = subst (λ e. NamesOpenFiles g e) (sym descs) (λ q x there.
      by_key (λ q. map.get (map.insert d fd y) q ≡ Some x → map.get g.keys x.key ≡ Some x.number) fd
      (λ at. let same : y ≡ x = same_Some y x (sym (get-insert_same d fd y) ∙ at) in
      subst (λ (z : Descriptor). map.get g.keys z.key ≡ Some z.number) same (ap (λ keys. map.get keys key) is ∙ get-insert_same f.keys key n))
      (λ q other at. names-insert f g key n free is d names q x (sym (get-insert_other d fd y q other) ∙ at)) q there)
    where
      y : Descriptor
      y = record { key = key; number = n; cloexec = cloexec }

  -- two new open files, and two descriptors that name them
  module _ (f g : Kept T) (d e : Descriptors) (first second n : ℕ) (cloexec : Bool) (gives : GivesPair f.keys g.keys d e first second n cloexec) where
    between : Kept T
    between = record { keys = map.insert f.keys gives.reader n; table = f.table }

    still-free : map.get (map.insert f.keys gives.reader n) gives.writer ≡ None
    still-free = get-insert_other f.keys gives.reader n gives.writer gives.apart ∙ gives.writer_free

    pub names-paired : (c : Descriptors) → NamesOpenFiles f c → NamesOpenFiles g c
    unfolding between
    names-paired c names = names-insert between g gives.writer (n + 1) still-free gives.keys c (names-insert f between gives.reader n gives.reader_free refl c names)

    pub names-pair : NamesOpenFiles f d → NamesOpenFiles g e
    unfolding between
    names-pair names =
        names-add between g gives.writer (n + 1) second cloexec (map.insert d first (record { key = gives.reader; number = n; cloexec = cloexec })) e still-free gives.keys gives.descs
        (names-add f between gives.reader n first cloexec d (map.insert d first (record { key = gives.reader; number = n; cloexec = cloexec })) gives.reader_free refl refl names)

  -- a copy of a descriptor
  pub names-copy : (f : Kept T) (d : Descriptors) (fd to : ℕ) (cloexec : Bool) → IsSome (map.get d fd) → NamesOpenFiles f d → NamesOpenFiles f (with_copy_at d fd to cloexec)
  names-copy f d fd to cloexec there names = by (map.get d fd) refl there
    where
      by : (o : Option Descriptor) → map.get d fd ≡ o → IsSome o → NamesOpenFiles f (option_map_or (λ x. map.insert d to (with_cloexec cloexec x)) o d)
      by None is none = absurd cc
      by (Some x) is some = λ q z at.
          by_key (λ q. map.get (map.insert d to (with_cloexec cloexec x)) q ≡ Some z → map.get f.keys z.key ≡ Some z.number) to
          (λ at. let same : with_cloexec cloexec x ≡ z = same_Some (with_cloexec cloexec x) z (sym (get-insert_same d to (with_cloexec cloexec x)) ∙ at) in
          subst (λ (z : Descriptor). map.get f.keys z.key ≡ Some z.number) same (names fd x is))
          (λ q other at. names q z (sym (get-insert_other d to (with_cloexec cloexec x) q other) ∙ at)) q at

  -- a descriptor with another flag
  pub names-flag : (f : Kept T) (d : Descriptors) (fd : ℕ) (on : Bool) → NamesOpenFiles f d → NamesOpenFiles f (changed d fd (with_cloexec on))
  names-flag f d fd on names = each-changed (λ (x : Descriptor). map.get f.keys x.key ≡ Some x.number) d fd (with_cloexec on) names (λ x is here. here)

  -- what changes an open file by a descriptor leaves the keys
  pub keys-by : (d : Descriptors) (fd : ℕ) (change : Descriptor → Kept T → Kept T) (f : Kept T) → ((x : Descriptor) → (change x f).keys ≡ f.keys) → (by_descriptor d fd change f).keys ≡ f.keys
  keys-by d fd change f same = by (map.get d fd)
    where
      by : (o : Option Descriptor) → (option_map_or (λ x. change x f) o f).keys ≡ f.keys
      by None = refl
      by (Some x) = same x

module _ {T : Type 0} {M : ℕ} where
  -- ---- the room

  -- the pages of processes in code
  abbrev pub pages_of : Process T M → ℕ
  pages_of p = map.len (image_layout (process_meaning p).image)

  pub pages-counted : (ps : List (Process T M)) → pages_in_all image_layout (map_list process_meaning ps) ≡ sum (map_list pages_of ps)
  pages-counted ps = ap sum (maps-map (λ (p : model.Process T model.Image). map.len (image_layout p.image)) process_meaning ps)

  pub room-set : (ps : List (Process T M)) (k : ℕ) (p q : Process T M) → k < length ps → p ≡ get_or ps k p → pages_of q ≡ pages_of p
      → pages_in_all image_layout (map_list process_meaning (slice_set ps k q)) ≡ pages_in_all image_layout (map_list process_meaning ps)
  room-set ps k p q l e same =
      let before = pages-counted ps in
      let after = pages-counted (slice_set ps k q) in
      let sums = sum-set pages_of ps k p q l e in
      omega arith

  -- ---- open files

  -- the process at an index has other descriptors, and the others name what they named
  pub names-set : (f g : Kept T) (ps : List (Process T M)) (k : ℕ) (q : Process T M) → AllByRecursion (λ (p : Process T M). NamesOpenFiles f p.descs) ps
      → ((d : Descriptors) → NamesOpenFiles f d → NamesOpenFiles g d) → NamesOpenFiles g q.descs → AllByRecursion (λ (p : Process T M). NamesOpenFiles g p.descs) (slice_set ps k q)
  names-set f g ps k q all still here =
      all-set (λ (p : Process T M). NamesOpenFiles g p.descs) ps k q (λ j r d l e. still r.descs (all-at (λ (p : Process T M). NamesOpenFiles f p.descs) ps j r all l e)) here

  -- nothing else of it changed: its descriptors and its memory stay
  pub kept-names : (s : State T M) → IsServed s → (k : ℕ) (p q : Process T M) → k < length s.living.items → p ≡ get_or s.living.items k p → q.descs ≡ p.descs → AllByRecursion (λ (r : Process T M). NamesOpenFiles s.files r.descs) (slice_set s.living.items k q)
  kept-names s served k p q l e same =
      names-set s.files s.files s.living.items k q served.files (λ d names. names)
      (subst (λ d. NamesOpenFiles s.files d) (sym same) (all-at (λ (r : Process T M). NamesOpenFiles s.files r.descs) s.living.items k p served.files l e))

  pub kept-room : (s : State T M) → IsServed s → (k : ℕ) (p q : Process T M) → k < length s.living.items → p ≡ get_or s.living.items k p → q.mem ≡ p.mem → s.room ≡ pages_in_all image_layout (map_list process_meaning (slice_set s.living.items k q))
  kept-room s served k p q l e same = served.room ∙ sym (room-set s.living.items k p q l e (ap (λ (m : Memory). map.len (layout_of m.pages)) same))

  -- all processes name what they named, where no open file lost its key
  pub names-still : (f g : Kept T) → ((d : Descriptors) → NamesOpenFiles f d → NamesOpenFiles g d) → (ps : List (Process T M)) → AllByRecursion (λ (p : Process T M). NamesOpenFiles f p.descs) ps → AllByRecursion (λ (p : Process T M). NamesOpenFiles g p.descs) ps
  names-still f g still [] all = tt
  names-still f g still (p ∷ ps) all = (still p.descs all.0, names-still f g still ps all.1)

  -- ---- what the other processes name

  abbrev pub names_of : List (Process T M) → ℕ → ℕ
  names_of ps n = sum (map_list (λ (p : Process T M). named_count (meanings p.descs) n) ps)

  -- how many descriptors of all processes but the one at an index name a file
  abbrev pub others_of : ℕ → List (Process T M) → ℕ → ℕ
  others_of k [] n = 0
  others_of zero (p ∷ ps) n = names_of ps n
  others_of (suc k) (p ∷ ps) n = named_count (meanings p.descs) n + others_of k ps n

  names-counted : (ps : List (Process T M)) (n : ℕ) → names_of_file n (map_list process_meaning ps) ≡ names_of ps n
  names-counted ps n = ap sum (maps-map (λ (p : model.Process T model.Image). named_count p.descs n) process_meaning ps)

  names-more : (p : Process T M) (ps : List (Process T M)) (n : ℕ) → names_of (p ∷ ps) n ≡ named_count (meanings p.descs) n + names_of ps n
  names-more p ps n = sum-cons (named_count (meanings p.descs) n) (map_list (λ (p : Process T M). named_count (meanings p.descs) n) ps)

  one-and-others : (ps : List (Process T M)) (k n : ℕ) (p : Process T M) → k < length ps → p ≡ get_or ps k p → names_of ps n ≡ named_count (meanings p.descs) n + others_of k ps n
  one-and-others [] k n p l e = absurd (let none : k < 0 = l in omega arith)
  one-and-others (x ∷ ps) zero n p l e = names-more x ps n ∙ ap (λ (y : Process T M). named_count (meanings y.descs) n + names_of ps n) (sym e)
  one-and-others (x ∷ ps) (suc k) n p l e = let rest = one-and-others ps k n p (omega arith) e in let more = names-more x ps n in omega arith

  one-of-all : (ps : List (Process T M)) (j n : ℕ) (r : Process T M) → j < length ps → r ≡ get_or ps j r → named_count (meanings r.descs) n ≤ names_of ps n
  one-of-all [] j n r l e = absurd (let none : j < 0 = l in omega arith)
  one-of-all (x ∷ ps) zero n r l e =
      let same : named_count (meanings r.descs) n ≡ named_count (meanings x.descs) n = ap (λ (y : Process T M). named_count (meanings y.descs) n) e in
      let more = names-more x ps n in
      omega arith
  one-of-all (x ∷ ps) (suc j) n r l e = let rest = one-of-all ps j n r (omega arith) e in let more = names-more x ps n in omega arith

  one-of-others : (ps : List (Process T M)) (k j n : ℕ) (r : Process T M) → (j ≡ k → ⊥) → j < length ps → r ≡ get_or ps j r → named_count (meanings r.descs) n ≤ others_of k ps n
  one-of-others [] k j n r d l e = absurd (let none : j < 0 = l in omega arith)
  one-of-others (x ∷ ps) zero zero n r d l e = absurd (d refl)
  one-of-others (x ∷ ps) zero (suc j) n r d l e = one-of-all ps j n r (omega arith) e
  one-of-others (x ∷ ps) (suc k) zero n r d l e =
      let same : named_count (meanings r.descs) n ≡ named_count (meanings x.descs) n = ap (λ (y : Process T M). named_count (meanings y.descs) n) e in omega arith
  one-of-others (x ∷ ps) (suc k) (suc j) n r d l e = let rest = one-of-others ps k j n r (λ same. d (ap suc same)) (omega arith) e in omega arith

  -- ---- descriptors of a sound state

  module _ (s : State T M) (sound : IsSound s) where
    -- each descriptor is below 1,024 and names an open file
    pub descriptor-of : (k fd : ℕ) (p : Process T M) (x : Descriptor) → k < length s.living.items → p ≡ get_or s.living.items k p → map.get p.descs fd ≡ Some x → (fd < 1024) × IsSome (file_at s.files.table x.number)
    descriptor-of k fd p x l e is =
        sound.descriptors p.pid fd (record { number = x.number; cloexec = x.cloexec })
        (ap (option_and_then (λ (q : model.Process T model.Image). map.get q.descs fd)) (one-found p.pid s.living.items k p (apart s sound.pids) l e refl)
        ∙ get-mapped (λ n (y : Descriptor). record { number = y.number; cloexec = y.cloexec }) p.descs fd
        ∙ ap (option_map (λ (y : Descriptor). record { number = y.number; cloexec = y.cloexec })) is)

    last-number : (n : ℕ) → IsSome (file_at s.files.table n) → n ≤ s.files.table.last_file
    last-number n some = by (map.get s.files.table.files n) refl some
      where
        by : (o : Option (Counted T)) → map.get s.files.table.files n ≡ o → IsSome (option_map (λ (h : Counted T). h.opened) o) → n ≤ s.files.table.last_file
        by None is none = absurd cc
        by (Some h) is there = sound.uses.numbered n h is

    pub serves : (k : ℕ) (p : Process T M) → k < length s.living.items → p ≡ get_or s.living.items k p → Serves s.files p.descs (λ n. others_of k s.living.items n)
    serves k p l e = record {
      names = all-at (λ (q : Process T M). NamesOpenFiles s.files q.descs) s.living.items k p sound.served.files l e;
      below = λ fd x is. let there = descriptor-of k fd p x l e is in (there.0, last-number x.number there.1);
      counted = λ n h is. (sound.uses.counts n h is).0 ∙ names-counted s.living.items n ∙ one-and-others s.living.items k n p l e;
    }

    -- a descriptor of one process is closed: those of the others still name open files
    pub names-closed : (k fd : ℕ) (p q : Process T M) (g : Kept T) → k < length s.living.items → p ≡ get_or s.living.items k p → IsSome (map.get p.descs fd) → g ≡ by_descriptor p.descs fd released s.files → q.descs ≡ map.remove p.descs fd
        → AllByRecursion (λ (r : Process T M). NamesOpenFiles g r.descs) (slice_set s.living.items k q)
    names-closed k fd p q g l e there is descs =
        let all : Serves s.files p.descs (λ n. others_of k s.living.items n) = serves k p l e in
        all-set (λ (r : Process T M). NamesOpenFiles g r.descs) s.living.items k q
        (λ j r d m f. served-others s.files p.descs (λ n. others_of k s.living.items n) all g fd there is r.descs
        (all-at (λ (q : Process T M). NamesOpenFiles s.files q.descs) s.living.items j r sound.served.files m f)
        (λ at x named. (descriptor-of j at r x m f named).0)
        (λ n. one-of-others s.living.items k j n r d m f))
        (served-close s.files p.descs (λ n. others_of k s.living.items n) all g q.descs fd there is descs).names

    -- a descriptor of one process becomes a copy of another: those of the others still name open files
    names-copied-by : (k fd to : ℕ) (p r : Process T M) (x : Descriptor) (g : Kept T) (j : ℕ) → k < length s.living.items → p ≡ get_or s.living.items k p → (j ≡ k → ⊥) → j < length s.living.items → r ≡ get_or s.living.items j r
        → (o : Option Descriptor) → map.get p.descs to ≡ o → g ≡ by_descriptor p.descs to released (copied x s.files) → NamesOpenFiles g r.descs
    names-copied-by k fd to p r x g j l e apart_ m f None none is =
        names-kept s.files g (ap (λ (kept : Kept T). kept.keys) (is ∙ ap (λ (o : Option Descriptor). option_map_or (λ y. released y (copied x s.files)) o (copied x s.files)) none)) r.descs
        (all-at (λ (q : Process T M). NamesOpenFiles s.files q.descs) s.living.items j r sound.served.files m f)
    names-copied-by k fd to p r x g j l e apart_ m f (Some y) some is =
        served-others (copied x s.files) p.descs (λ n. others_of k s.living.items n + one_at x.number n)
        (serves-raise s.files p.descs (λ n. others_of k s.living.items n) (serves k p l e) x) g to (ap is_some some) is r.descs
        (names-kept s.files (copied x s.files) refl r.descs (all-at (λ (q : Process T M). NamesOpenFiles s.files q.descs) s.living.items j r sound.served.files m f))
        (λ at z named. (descriptor-of j at r z m f named).0)
        (λ n. let few = one-of-others s.living.items k j n r apart_ m f in omega arith)

    pub names-copied : (k fd to : ℕ) (cloexec : Bool) (p q : Process T M) (g : Kept T) → k < length s.living.items → p ≡ get_or s.living.items k p → IsSome (map.get p.descs fd) → to < 1024 → to ≢ fd
        → g ≡ by_descriptor p.descs to released (by_descriptor p.descs fd copied s.files) → q.descs ≡ with_copy_at p.descs fd to cloexec
        → AllByRecursion (λ (r : Process T M). NamesOpenFiles g r.descs) (slice_set s.living.items k q)
    names-copied k fd to cloexec p q g l e there low other is descs =
        all-set (λ (r : Process T M). NamesOpenFiles g r.descs) s.living.items k q
        (λ j r d m f. by j r d m f (map.get p.descs fd) refl there)
        (served-dup_to s.files p.descs (λ n. others_of k s.living.items n) (serves k p l e) g q.descs (Ok tt) fd to cloexec there low other is descs tt tt).names
      where
        by : (j : ℕ) (r : Process T M) → (j ≡ k → ⊥) → j < length s.living.items → r ≡ get_or s.living.items j r → (o : Option Descriptor) → map.get p.descs fd ≡ o → IsSome o → NamesOpenFiles g r.descs
        by j r d m f None at none = absurd cc
        by j r d m f (Some x) at some =
            names-copied-by k fd to p r x g j l e d m f (map.get p.descs to) refl
            (is ∙ ap (λ (o : Option Descriptor). by_descriptor p.descs to released (option_map_or (λ x. copied x s.files) o s.files)) at)

-- ---- refusals

pub on-err : {A E : Type 0} (X : Type 0) (r : Result A E) → X → OnErr r X
on-err X (Ok a) x = tt
on-err X (Err e) x = x

module _ {T : Type 0} {M : ℕ} where
  -- what was handed out to be changed, and came back as it was
  pub refused-before : (s new : State T M) → IsServed s → (k : ℕ) (p : Process T M) (files : Kept T) (d : Descriptors) → k < length s.living.items → p ≡ get_or s.living.items k p → files ≡ s.files → d ≡ p.descs
      → meaning new ≡ with_files (λ _. files.table) (living_as (map_list process_meaning (slice_set s.living.items k (record p { descs = d }))) (meaning s))
      → new.files ≡ files → new.living.items ≡ slice_set s.living.items k (record p { descs = d }) → new.room ≡ s.room → IsAsBefore s new
  refused-before s new served k p files d l e kept same means has_files items room =
      let back : slice_set s.living.items k (record p { descs = d }) ≡ s.living.items =
      ap (λ (d : Descriptors). slice_set s.living.items k (record p { descs = d })) same ∙ set-same s.living.items k p e in
      let meant : meaning new ≡ meaning s =
      means
      ∙ ap (λ (f : Kept T). with_files (λ _. f.table) (living_as (map_list process_meaning (slice_set s.living.items k (record p { descs = d }))) (meaning s))) kept
      ∙ ap (λ ps. living_as (map_list process_meaning ps) (meaning s)) back in
      record {
        same = meant;
        served = record {
          files = subst (λ (f : Kept T). AllByRecursion (λ (q : Process T M). NamesOpenFiles f q.descs) new.living.items) (sym (has_files ∙ kept))
              (subst (AllByRecursion (λ (q : Process T M). NamesOpenFiles s.files q.descs)) (sym (items ∙ back)) served.files);
          room = room ∙ served.room ∙ sym (ap (λ (m : model.State T model.Image). pages_in_all image_layout m.living) meant);
        };
      }
