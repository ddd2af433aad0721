-- A descriptor less: the open files, and the pipes with them.
use Rattle.std.specs.FinMap as map
use Rattle.std.proofs.Common.{◌≡◌, ◌≢◌, ◌⊎◌, ◌-◌, ◌≤◌, length, inl, inr, subst, ℕ, Bool, true, false, not, ◌||◌, List, refl, sym, ap, ◌∙◌, cond, Option, Some, None, is_some, nat_lt}
use Rattle.std.specs.Prelude.{IsSome}
use Rattle.std.specs.Option.{option_map, option_map_or, option_and_then}
use Rattle.std.specs.Ordering.{nat_cmp}
use Rattle.std.proofs.lemmas.Bool.{cases_eq}
use Rattle.std.proofs.lemmas.Option.{same_Some, none-some}
use Rattle.kr_files.specs.declared.descs.Descriptor.{Descriptor}
use Rattle.kr_files.specs.declared.opened.What.{What}
use Rattle.kr_files.specs.declared.opened.What.TheVariants.{File, Dir, In, Out, Err, PipeRead, PipeWrite}
use Rattle.kr_files.specs.Files.{Counted, Table, Kept, has_kind, closed, without_file, pipes_left, released}
use Rattle.kr_tree.specs.pr_base.Maps.{changed, mapped}
use Rattle.kr_files.specs.OpenFiles.{Store, ended_kind, with_one_less}
use Rattle.kr_files.specs.Opened.{is_no_end, is_reader, is_writer}
use Rattle.kr_files.specs.StoredPipes.{Pipe, PipeTable, reader_gone, writer_gone, end_gone, reader_open, writer_open, without_reader, without_writer}
use Rattle.kr_files.specs.Sound.{IsSound, is_end, is_noted, kept_of}
use Rattle.kr_tree.proofs.pr_base.MapLemmas.{same_values, by_key, get-insert_same, get-insert_other, get-remove_same, get-remove_other, remove-none, get-changed_same, get-changed_other, get-mapped, mapped-remove}
use Rattle.kr_files.proofs.KindLemmas.{either_true, kind_some, kind-remove_other, kind-remove_only}
use Rattle.kr_files.proofs.OpenFileLemmas.{value_of}
use Rattle.kr_files.proofs.SoundLemmas.{SameKinds, equal_same, equal_other, no_side, sound-same_kinds, sound-remove}

-- the bytes of each pipe
abbrev pub bytes_of : PipeTable → map.FinMap nat_cmp (List ℕ)
bytes_of pipes = mapped (λ p q. q.bytes) pipes

-- a change that keeps the bytes of a pipe keeps the bytes of all
pub bytes-changed : (pipes : PipeTable) (k : ℕ) (f : Pipe → Pipe) → ((q : Pipe) → (f q).bytes ≡ q.bytes) → bytes_of (changed pipes k f) ≡ bytes_of pipes
bytes-changed pipes k f same =
    same_values _ _ (by_key (λ r. map.get (bytes_of (changed pipes k f)) r ≡ map.get (bytes_of pipes) r) k
    (get-mapped (λ p q. q.bytes) (changed pipes k f) k ∙ ap (option_map (λ (q : Pipe). q.bytes)) (get-changed_same pipes k f) ∙ kept (map.get pipes k) ∙ sym (get-mapped (λ p q. q.bytes) pipes k))
    (λ r other. get-mapped (λ p q. q.bytes) (changed pipes k f) r ∙ ap (option_map (λ (q : Pipe). q.bytes)) (get-changed_other pipes k f r other) ∙ sym (get-mapped (λ p q. q.bytes) pipes r)))
  where
    kept : (o : Option Pipe) → option_map (λ (q : Pipe). q.bytes) (option_map f o) ≡ option_map (λ (q : Pipe). q.bytes) o
    kept None = refl
    kept (Some q) = ap Some (same q)

bytes-gone : (pipes : PipeTable) (k : ℕ) (f : Pipe → Pipe) (stays : Bool) → ((q : Pipe) → (f q).bytes ≡ q.bytes)
    → bytes_of (cond stays (changed pipes k f) (map.remove pipes k)) ≡ cond stays (bytes_of pipes) (map.remove (bytes_of pipes) k)
bytes-gone pipes k f true same = bytes-changed pipes k f same
bytes-gone pipes k f false same = mapped-remove (λ p q. q.bytes) pipes k

-- what isn't there goes by nothing
no_pipe : (pipes : PipeTable) (k : ℕ) (stays : Bool) → map.get pipes k ≡ None → cond stays (bytes_of pipes) (map.remove (bytes_of pipes) k) ≡ bytes_of pipes
no_pipe pipes k true none = refl
no_pipe pipes k false none = remove-none (bytes_of pipes) k (get-mapped (λ p q. q.bytes) pipes k ∙ ap (option_map (λ (q : Pipe). q.bytes)) none)

sides : (t side : Bool) → (t ≡ side) ⊎ (t ≡ not side)
sides true true = inl refl
sides true false = inr refl
sides false true = inr refl
sides false false = inl refl

module _ {M : Type 0} (files : map.FinMap nat_cmp (Counted M)) (pipes : PipeTable) (last_file last_pipe : ℕ) (s : IsSound files pipes last_file last_pipe) (n : ℕ) (h : Counted M) (here : map.get files n ≡ Some h) where
  -- the pipes without one side of pipe k: taken away where the other side isn't open
  abbrev pub gone : Bool → ℕ → PipeTable
  gone true k = reader_gone k pipes
  gone false k = writer_gone k pipes

  abbrev pub other_open : Bool → ℕ → Bool
  other_open true k = writer_open k pipes
  other_open false k = reader_open k pipes

  abbrev pub closing : Bool → Pipe → Pipe
  closing true q = without_reader q
  closing false q = without_writer q

  gone_is : (side : Bool) (k : ℕ) → gone side k ≡ cond (other_open side k) (changed pipes k (closing side)) (map.remove pipes k)
  gone_is true k = refl
  gone_is false k = refl

  noted_itself : (side : Bool) (q : Pipe) → is_noted side (closing side q) ≡ false
  noted_itself true q = refl
  noted_itself false q = refl

  noted_opposite : (side : Bool) (q : Pipe) → is_noted (not side) (closing side q) ≡ is_noted (not side) q
  noted_opposite true q = refl
  noted_opposite false q = refl

  closing_bytes : (side : Bool) (q : Pipe) → (closing side q).bytes ≡ q.bytes
  closing_bytes true q = refl
  closing_bytes false q = refl

  -- an end is left where the other side is open
  end_left : (side : Bool) (q : Pipe) → is_noted (not side) q ≡ true → ((closing side q).reader || (closing side q).writer) ≡ true
  end_left true q e = e
  end_left false q e = either_true q.reader false e

  other_noted : (side : Bool) (k : ℕ) (q : Pipe) → map.get pipes k ≡ Some q → other_open side k ≡ is_noted (not side) q
  other_noted true k q at = ap (λ o. option_map_or (λ (p : Pipe). p.writer) o false) at
  other_noted false k q at = ap (λ o. option_map_or (λ (p : Pipe). p.reader) o false) at

  -- whether the other side is open, by the files
  other_open_is : (side : Bool) (k : ℕ) (q : Pipe) → map.get pipes k ≡ Some q → other_open side k ≡ has_kind (is_end (not side) k) files
  other_open_is true k q at = ap (λ o. option_map_or (λ (p : Pipe). p.writer) o false) at ∙ s.noted false k q at
  other_open_is false k q at = ap (λ o. option_map_or (λ (p : Pipe). p.reader) o false) at ∙ s.noted true k q at

  module _ (side : Bool) (k : ℕ) (is : is_end side k h.opened.what ≡ true) (not_opposite : (p : ℕ) → is_end (not side) p h.opened.what ≡ false)
      (only_k : (p : ℕ) → p ≢ k → is_end side p h.opened.what ≡ false) where
    found_in_cond : (b : Bool) (p : ℕ) (q : Pipe) → map.get (cond b (changed pipes k (closing side)) (map.remove pipes k)) p ≡ Some q
        → (r : Pipe) × (map.get pipes p ≡ Some r) × (p ≢ k → q ≡ r) × (p ≡ k → q ≡ closing side r)
    found_in_cond b p q at =
        elim (cases_eq p k) [
          | inl same ↦ at_key b same at
          | inr other ↦ (q, away b other at, λ _. refl, λ e. absurd (other e))
        ]
      where
        of_map : (o : Option Pipe) (p : ℕ) (q : Pipe) → p ≡ k → map.get pipes p ≡ o → option_map (closing side) o ≡ Some q → (r : Pipe) × (map.get pipes p ≡ Some r) × (p ≢ k → q ≡ r) × (p ≡ k → q ≡ closing side r)
        of_map None p q same e f = absurd (none-some q f)
        of_map (Some r) p q same e f = (r, e, λ other. absurd (other same), λ _. sym (same_Some (closing side r) q f))

        at_key : (b : Bool) {p : ℕ} {q : Pipe} → p ≡ k → map.get (cond b (changed pipes k (closing side)) (map.remove pipes k)) p ≡ Some q
            → (r : Pipe) × (map.get pipes p ≡ Some r) × (p ≢ k → q ≡ r) × (p ≡ k → q ≡ closing side r)
        at_key true {p = p} {q = q} same at =
            of_map (map.get pipes p) p q same refl
            (ap (λ j. option_map (closing side) (map.get pipes j)) same ∙ sym (get-changed_same pipes k (closing side)) ∙ sym (ap (map.get (changed pipes k (closing side))) same) ∙ at)
        at_key false {p = p} {q = q} same at = absurd (none-some q (sym (get-remove_same pipes k) ∙ sym (ap (map.get (map.remove pipes k)) same) ∙ at))

        away : (b : Bool) {p : ℕ} {q : Pipe} → p ≢ k → map.get (cond b (changed pipes k (closing side)) (map.remove pipes k)) p ≡ Some q → map.get pipes p ≡ Some q
        away true {p = p} other at = sym (get-changed_other pipes k (closing side) p other) ∙ at
        away false {p = p} other at = sym (get-remove_other pipes k p other) ∙ at

    pub sound-end : IsSound (map.remove files n) (gone side k) last_file last_pipe
    sound-end =
        subst (λ left. IsSound (map.remove files n) left last_file last_pipe) (sym (gone_is side k))
        (sound-remove files pipes last_file last_pipe s n (cond (other_open side k) (changed pipes k (closing side)) (map.remove pipes k))
        (λ p q at. let r = found_in_cond (other_open side k) p q at in s.pipe_numbers p r.0 r.1)
        (λ p q at. let r = found_in_cond (other_open side k) p q at in
        elim (cases_eq p k) [
          | inl same ↦ subst (λ (x : Pipe). (x.reader || x.writer) ≡ true) (sym (r.3 same)) (end_left side r.0 (sym (other_noted side k r.0 (ap (map.get pipes) (sym same) ∙ r.1)) ∙ open_left (other_open side k) p q same at))
          | inr other ↦ subst (λ (x : Pipe). (x.reader || x.writer) ≡ true) (sym (r.2 other)) (s.has_end p r.0 r.1)
        ])
        (λ p q at. let r = found_in_cond (other_open side k) p q at in
        elim (cases_eq p k) [
          | inl same ↦ subst (λ (x : List ℕ). length x ≤ 65536) (sym (ap (λ (x : Pipe). x.bytes) (r.3 same) ∙ closing_bytes side r.0)) (s.bounded p r.0 r.1)
          | inr other ↦ subst (λ (x : Pipe). length x.bytes ≤ 65536) (sym (r.2 other)) (s.bounded p r.0 r.1)
        ])
        (λ t p m g away at is_g. elim (cases_eq p k) [
          | inl same ↦ still_there t p m g same away at is_g
          | inr other ↦ left_there (other_open side k) p other (s.has_pipe t p m g at is_g)
        ])
        (λ t p q at. let r = found_in_cond (other_open side k) p q at in
        elim (cases_eq p k) [
          | inl same ↦ at_k t p q r.0 same r.1 (r.3 same)
          | inr other ↦ ap (is_noted t) (r.2 other) ∙ s.noted t p r.0 r.1 ∙ sym (kind-remove_other (is_end t p) files n h here (not_it t p other))
        ]))
      where
        open_left : (b : Bool) (p : ℕ) (q : Pipe) → p ≡ k → map.get (cond b (changed pipes k (closing side)) (map.remove pipes k)) p ≡ Some q → b ≡ true
        open_left true p q same at = refl
        open_left false p q same at = absurd (none-some q (sym (get-remove_same pipes k) ∙ sym (ap (map.get (map.remove pipes k)) same) ∙ at))

        left_there : (b : Bool) (p : ℕ) → p ≢ k → IsSome (map.get pipes p) → IsSome (map.get (cond b (changed pipes k (closing side)) (map.remove pipes k)) p)
        left_there true p other there = subst IsSome (sym (get-changed_other pipes k (closing side) p other)) there
        left_there false p other there = subst IsSome (sym (get-remove_other pipes k p other)) there

        -- the pipe stays where another file is an end of it
        still_there : (t : Bool) (p m : ℕ) (g : Counted M) → p ≡ k → m ≢ n → map.get files m ≡ Some g → is_end t p g.opened.what ≡ true
            → IsSome (map.get (cond (other_open side k) (changed pipes k (closing side)) (map.remove pipes k)) p)
        still_there t p m g same away at is_g =
            let of_k : is_end t k g.opened.what ≡ true = ap (λ j. is_end t j g.opened.what) (sym same) ∙ is_g in
            let pipe = value_of (map.get pipes k) (s.has_pipe t k m g at of_k) in
            elim (sides t side) [
              | inl e ↦ absurd (away (s.single side k m n g h at here (ap (λ b. is_end b k g.opened.what) (sym e) ∙ of_k) is))
              | inr e ↦
                  let open_ : other_open side k ≡ true =
                  other_open_is side k pipe.0 pipe.1 ∙ kind_some (is_end (not side) k) files m g at (ap (λ b. is_end b k g.opened.what) (sym e) ∙ of_k) in
                  subst (λ b. IsSome (map.get (cond b (changed pipes k (closing side)) (map.remove pipes k)) p)) (sym open_)
                  (subst IsSome (sym (ap (map.get (changed pipes k (closing side))) same ∙ get-changed_same pipes k (closing side) ∙ ap (option_map (closing side)) pipe.1)) refl)
            ]

        not_it : (t : Bool) (p : ℕ) → p ≢ k → is_end t p h.opened.what ≡ false
        not_it t p other = by_side side t p other only_k not_opposite
          where
            by_side : (side t : Bool) (p : ℕ) → p ≢ k → ((j : ℕ) → j ≢ k → is_end side j h.opened.what ≡ false) → ((j : ℕ) → is_end (not side) j h.opened.what ≡ false) → is_end t p h.opened.what ≡ false
            by_side true true p other f g = f p other
            by_side true false p other f g = g p
            by_side false true p other f g = g p
            by_side false false p other f g = f p other

        at_k : (t : Bool) (p : ℕ) (q r : Pipe) → p ≡ k → map.get pipes p ≡ Some r → q ≡ closing side r → is_noted t q ≡ has_kind (is_end t p) (map.remove files n)
        at_k t p q r same there closes =
            elim (sides t side) [
              | inl e ↦ ap (λ b. is_noted b q) e ∙ ap (is_noted side) closes ∙ noted_itself side r
                  ∙ sym (ap (λ b. has_kind (is_end b p) (map.remove files n)) e
                  ∙ kind-remove_only (is_end side p) files n (λ m g at of_kind. s.single side k m n g h at here (subst (λ j. is_end side j g.opened.what ≡ true) same of_kind) is))
              | inr e ↦ ap (λ b. is_noted b q) e ∙ ap (is_noted (not side)) closes ∙ noted_opposite side r ∙ s.noted (not side) p r there
                  ∙ sym (ap (λ b. has_kind (is_end b p) (map.remove files n)) e ∙ kind-remove_other (is_end (not side) p) files n h here (not_opposite p))
            ]

  no_end_of : is_no_end h.opened.what ≡ true → IsSound (map.remove files n) pipes last_file last_pipe
  no_end_of is = sound-remove files pipes last_file last_pipe s n pipes s.pipe_numbers s.has_end s.bounded (λ side p m g away at is_g. s.has_pipe side p m g at is_g) (λ side p q at. s.noted side p q at ∙ sym (kind-remove_other (is_end side p) files n h here (no_side h.opened.what is side p)))

  -- the file was taken away, and the pipe whose last end it was
  pub sound-last : (what : What) → h.opened.what ≡ what → IsSound (map.remove files n) (end_gone what pipes) last_file last_pipe
  sound-last (PipeRead k) e = sound-end true k (ap (is_reader k) e ∙ equal_same k) (λ p. ap (is_writer p) e) (λ p other. ap (is_reader p) e ∙ equal_other k p other)
  sound-last (PipeWrite k) e = sound-end false k (ap (is_writer k) e ∙ equal_same k) (λ p. ap (is_reader p) e) (λ p other. ap (is_writer p) e ∙ equal_other k p other)
  sound-last File e = no_end_of (ap is_no_end e)
  sound-last Dir e = no_end_of (ap is_no_end e)
  sound-last In e = no_end_of (ap is_no_end e)
  sound-last Out e = no_end_of (ap is_no_end e)
  sound-last Err e = no_end_of (ap is_no_end e)

  left_of : (side : Bool) (k : ℕ) → is_end (not side) k h.opened.what ≡ false
      → bytes_of (gone side k) ≡ cond (has_kind (is_end (not side) k) (map.remove files n)) (bytes_of pipes) (map.remove (bytes_of pipes) k)
  left_of side k not_it =
      ap bytes_of (gone_is side k) ∙ bytes-gone pipes k (closing side) (other_open side k) (closing_bytes side)
      ∙ elim (map.get pipes k) as (λ o. map.get pipes k ≡ o → cond (other_open side k) (bytes_of pipes) (map.remove (bytes_of pipes) k) ≡ cond (has_kind (is_end (not side) k) (map.remove files n)) (bytes_of pipes) (map.remove (bytes_of pipes) k)) [
        | None ↦ λ at. no_pipe pipes k (other_open side k) at ∙ sym (no_pipe pipes k (has_kind (is_end (not side) k) (map.remove files n)) at)
        | Some q ↦ λ at. ap (λ b. cond b (bytes_of pipes) (map.remove (bytes_of pipes) k)) (other_open_is side k q at ∙ sym (kind-remove_other (is_end (not side) k) files n h here not_it))
      ] refl

  -- the bytes of the pipes that are left
  pub bytes-last : (what : What) → h.opened.what ≡ what → bytes_of (end_gone what pipes) ≡ pipes_left what (map.remove files n) (bytes_of pipes)
  bytes-last (PipeRead k) e = left_of true k (ap (is_writer k) e)
  bytes-last (PipeWrite k) e = left_of false k (ap (is_reader k) e)
  bytes-last File e = refl
  bytes-last Dir e = refl
  bytes-last In e = refl
  bytes-last Out e = refl
  bytes-last Err e = refl

pub same_kept : {M : Type 0} (j k : map.FinMap nat_cmp ℕ) (t u : Table M) → j ≡ k → t ≡ u → ◌≡◌ {A = Kept M} (record { keys = j; table = t }) (record { keys = k; table = u })
same_kept j k t u e f = λ i. record { keys = e i; table = f i }

module _ {M : Type 0} (table : Table M) (n : ℕ) where
  abbrev ended_by : Option (Counted M) → Option What
  ended_by r = option_and_then (λ (h : Counted M). cond (nat_lt 1 h.count) None (Some h.opened.what)) r

  abbrev less_by : Option (Counted M) → map.FinMap nat_cmp (Counted M)
  less_by r = option_map_or (λ (h : Counted M). cond (nat_lt 1 h.count) (map.insert table.files n (record h { count = h.count - 1 })) (map.remove table.files n)) r table.files

  abbrev closed_by : Option (Counted M) → Table M
  closed_by r = option_map_or (λ (h : Counted M). cond (nat_lt 1 h.count) (record table { files = map.insert table.files n (record h { count = h.count - 1 }) }) (without_file n h.opened.what table)) r table

  abbrev last_by : Option (Counted M) → Bool
  last_by r = option_map_or (λ (h : Counted M). not (nat_lt 1 h.count)) r false

  stays : (r : Option (Counted M)) → ended_by r ≡ None → (last_by r ≡ false) × (◌≡◌ {A = Table M} (record table { files = less_by r }) (closed_by r))
  stays None e = (refl, refl)
  stays (Some h) e =
      elim (nat_lt 1 h.count) as (λ b. ◌≡◌ {A = Option What} (cond b None (Some h.opened.what)) None
      → (not b ≡ false) × (◌≡◌ {A = Table M} (record table { files = cond b (map.insert table.files n (record h { count = h.count - 1 })) (map.remove table.files n) })
      (cond b (record table { files = map.insert table.files n (record h { count = h.count - 1 }) }) (without_file n h.opened.what table)))) [
        | true ↦ λ _. (refl, refl)
        | false ↦ λ f. absurd (none-some h.opened.what (sym f))
      ] e

  goes : (r : Option (Counted M)) (what : What) → ended_by r ≡ Some what
      → (h : Counted M) × (r ≡ Some h) × (h.opened.what ≡ what) × (last_by r ≡ true) × (less_by r ≡ map.remove table.files n) × (closed_by r ≡ without_file n what table)
  goes None what e = absurd (none-some what e)
  goes (Some h) what e =
      elim (nat_lt 1 h.count) as (λ b. ◌≡◌ {A = Option What} (cond b None (Some h.opened.what)) (Some what)
      → (g : Counted M) × (Some h ≡ Some g) × (g.opened.what ≡ what) × (not b ≡ true)
      × (cond b (map.insert table.files n (record h { count = h.count - 1 })) (map.remove table.files n) ≡ map.remove table.files n)
      × (cond b (record table { files = map.insert table.files n (record h { count = h.count - 1 }) }) (without_file n h.opened.what table) ≡ without_file n what table)) [
        | true ↦ λ f. absurd (none-some what f)
        | false ↦ λ f. (h, refl, same_Some h.opened.what what f, refl, refl, ap (λ w. without_file n w table) (same_Some h.opened.what what f))
      ] e

module _ {M : Type 0} (o new : Store M) (pipes : PipeTable) (last_file last_pipe : ℕ) (x : Descriptor)
    (files : new.files ≡ with_one_less o.files x.number)
    (keys : new.keys ≡ cond (is_some (ended_kind o.files x.number)) (map.remove o.keys x.key) o.keys) where
  abbrev table_before : Table M
  table_before = (kept_of o pipes last_file last_pipe).table

  -- nothing but a count changed
  pub released-none : ended_kind o.files x.number ≡ None → kept_of new pipes last_file last_pipe ≡ released x (kept_of o pipes last_file last_pipe)
  unfolding closed
  released-none ended =
      let f = stays table_before x.number (map.get o.files x.number) ended in
      same_kept new.keys _ _ _
      (keys ∙ ap (λ e. cond (is_some e) (map.remove o.keys x.key) o.keys) ended ∙ sym (ap (λ b. cond b (map.remove o.keys x.key) o.keys) f.0))
      (ap (λ fs. record { files = fs; pipes = bytes_of pipes; last_file = last_file; last_pipe = last_pipe }) files ∙ f.1)

  -- the file was taken away
  pub released-some : (what : What) → IsSound o.files pipes last_file last_pipe → ended_kind o.files x.number ≡ Some what
      → kept_of new (end_gone what pipes) last_file last_pipe ≡ released x (kept_of o pipes last_file last_pipe)
  unfolding closed
  released-some what s ended =
      let f = goes table_before x.number (map.get o.files x.number) what ended in
      same_kept new.keys _ _ _
      (keys ∙ ap (λ e. cond (is_some e) (map.remove o.keys x.key) o.keys) ended ∙ sym (ap (λ b. cond b (map.remove o.keys x.key) o.keys) f.3))
      (ap (λ fs. record { files = fs; pipes = bytes_of (end_gone what pipes); last_file = last_file; last_pipe = last_pipe }) (files ∙ f.4)
      ∙ ap (λ left. record { files = map.remove o.files x.number; pipes = left; last_file = last_file; last_pipe = last_pipe }) (bytes-last o.files pipes last_file last_pipe s x.number f.0 f.1 what f.2)
      ∙ sym f.5)

  less-same : (r : Option (Counted M)) → ended_by table_before x.number r ≡ None → map.get o.files x.number ≡ r → SameKinds o.files (less_by table_before x.number r)
  less-same None ended at n = refl
  less-same (Some h) ended at n =
      elim (nat_lt 1 h.count) as (λ b. ◌≡◌ {A = Option What} (cond b None (Some h.opened.what)) None
      → option_map (λ (g : Counted M). g.opened.what) (map.get (cond b (map.insert o.files x.number (record h { count = h.count - 1 })) (map.remove o.files x.number)) n) ≡ option_map (λ (g : Counted M). g.opened.what) (map.get o.files n)) [
        | true ↦ λ _. by_key (λ m. option_map (λ (g : Counted M). g.opened.what) (map.get (map.insert o.files x.number (record h { count = h.count - 1 })) m) ≡ option_map (λ (g : Counted M). g.opened.what) (map.get o.files m)) x.number
            (ap (option_map (λ (g : Counted M). g.opened.what)) (get-insert_same o.files x.number (record h { count = h.count - 1 })) ∙ sym (ap (option_map (λ (g : Counted M). g.opened.what)) at))
            (λ m other. ap (option_map (λ (g : Counted M). g.opened.what)) (get-insert_other o.files x.number (record h { count = h.count - 1 }) m other)) n
        | false ↦ λ f. absurd (none-some h.opened.what (sym f))
      ] ended

  pub sound-none : IsSound o.files pipes last_file last_pipe → ended_kind o.files x.number ≡ None → IsSound new.files pipes last_file last_pipe
  sound-none s ended =
      subst (λ fs. IsSound fs pipes last_file last_pipe) (sym files)
      (sound-same_kinds o.files (with_one_less o.files x.number) (less-same (map.get o.files x.number) ended refl) pipes last_file last_pipe s)

  pub sound-some : (what : What) → IsSound o.files pipes last_file last_pipe → ended_kind o.files x.number ≡ Some what → IsSound new.files (end_gone what pipes) last_file last_pipe
  sound-some what s ended =
      let f = goes table_before x.number (map.get o.files x.number) what ended in
      subst (λ fs. IsSound fs (end_gone what pipes) last_file last_pipe) (sym (files ∙ f.4))
      (sound-last o.files pipes last_file last_pipe s x.number f.0 f.1 what f.2)
