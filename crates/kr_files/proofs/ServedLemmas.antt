-- What a process's descriptors name stays served, whatever a call answers.
use Rattle.std.specs.FinMap as map
use Rattle.std.proofs.Common.{◌≡◌, ◌≢◌, ◌≤◌, ◌<◌, ◌+◌, inl, inr, subst, ℕ, Bool, true, false, refl, sym, ap, ◌∙◌, arith, List, Option, Some, None}
use Rattle.std.specs.Prelude.{IsSome, Result, Ok, Err, IfOk, OnOk, OnErr}
use Rattle.std.specs.Option.{option_map, option_map_or, option_and_then}
use Rattle.kr_tree.specs.pr_base.declared.memory.NoMemory.{NoMemory}
use Rattle.std.proofs.lemmas.Option.{none-some, same_Some}
use Rattle.kr_files.specs.Opened.{pipe_end}
use Rattle.kr_files.specs.declared.opened.What.TheVariants.{PipeRead, PipeWrite}
use Rattle.std.proofs.lemmas.Bool.{cases_eq}
use Rattle.kr_files.specs.declared.descs.Descriptor.{Descriptor}
use Rattle.kr_files.specs.declared.opened.Opened.{Opened}
use Rattle.kr_files.specs.declared.opened.FilesRefusal.{FilesRefusal}
use Rattle.kr_files.specs.Descriptors.{Descriptors, meanings, lowest_free, lowest_pair, IsLowestFree, with_copy_at, with_cloexec, named_count}
use Rattle.kr_files.specs.Files.{Counted, Kept, Table, NamesOpenFiles, with_copies, with_all_opened, with_bytes, Gives, GivesPair, empty_table, with_file, with_pipe, on_table, on_opened, with_opened, by_descriptor, copied, released}
use Rattle.kr_tree.specs.pr_base.Maps.{changed}
use Rattle.kr_files.specs.Serves.{Serves, IsFresh}
use Rattle.kr_tree.proofs.pr_base.MapLemmas.{same_values, by_key, get-insert_same, get-insert_other, get-remove_same, get-remove_other, get-changed_same, get-changed_other, get-mapped}
use Rattle.kr_files.proofs.DescriptorLemmas.{lowest_free-some}
use Rattle.kr_files.proofs.ServesLemmas.{one_at, serves-empty, serves-same, serves-add, serves-raise, serves-close, serves-put, serves-fork, names-close}
use Rattle.kr_files.proofs.OpenFileLemmas.{value_of}

insert_over : (d : Descriptors) (k : ℕ) (x : Descriptor) → map.insert (map.remove d k) k x ≡ map.insert d k x
insert_over d k x =
    same_values _ _ (by_key (λ q. map.get (map.insert (map.remove d k) k x) q ≡ map.get (map.insert d k x) q) k
    (get-insert_same (map.remove d k) k x ∙ sym (get-insert_same d k x))
    (λ q other. get-insert_other (map.remove d k) k x q other ∙ get-remove_other d k q other ∙ sym (get-insert_other d k x q other)))

-- the two lowest free descriptors
pair_found : (d : Descriptors) (first second : ℕ) → lowest_pair d ≡ Some (first, second) → IsLowestFree d 0 first × IsLowestFree d (first + 1) second
pair_found d first second e = first_found (lowest_free d 0) refl e
  where
    second_found : (k : ℕ) (o : Option ℕ) → lowest_free d (k + 1) ≡ o → option_map {U = ℕ × ℕ} (λ j. (k, j)) o ≡ Some (first, second) → (k ≡ first) × (o ≡ Some second)
    second_found k None p f = absurd (none-some (first, second) f)
    second_found k (Some j) p f = let same = same_Some (k, j) (first, second) f in (ap (λ v. v.0) same, ap (λ v. Some v.1) same)

    first_found : (o : Option ℕ) → lowest_free d 0 ≡ o → option_and_then {U = ℕ × ℕ} (λ k. option_map {U = ℕ × ℕ} (λ j. (k, j)) (lowest_free d (k + 1))) o ≡ Some (first, second) → IsLowestFree d 0 first × IsLowestFree d (first + 1) second
    first_found None p f = absurd (none-some (first, second) f)
    first_found (Some k) p f =
        let more = second_found k (lowest_free d (k + 1)) refl f in
        (lowest_free-some d 0 first (p ∙ ap Some more.0), lowest_free-some d (first + 1) second (ap (λ m. lowest_free d (m + 1)) (sym more.0) ∙ more.1))

module _ {M : Type 0} where
  pub served-new : (f : Kept M) (d : Descriptors) → f ≡ record { keys = map.empty; table = empty_table } → d ≡ map.empty → Serves f d (λ _. 0)
  served-new f d e g = serves-empty f d (ap (λ (k : Kept M). k.table.files) e) g

  module _ (f : Kept M) (d : Descriptors) (others : ℕ → ℕ) (s : Serves f d others) where
    served_as : (g : Kept M) (e : Descriptors) → g ≡ f → e ≡ d → Serves g e others
    served_as g e p q = subst (λ k. Serves k e others) (sym p) (subst (λ m. Serves f m others) (sym q) s)

    pub served-open : (g : Kept M) (e : Descriptors) (r : Result ℕ FilesRefusal) (o : Opened M) (from : ℕ) (cloexec : Bool) → IsFresh f others
        → IfOk r (λ fd. lowest_free d from ≡ Some fd) → OnOk r (g.table ≡ with_file o f.table) → IfOk r (λ fd. Gives f.keys g.keys d e fd (f.table.last_file + 1) cloexec)
        → OnErr r (g ≡ f) → OnErr r (e ≡ d) → Serves g e others
    served-open g e (Err x) o from cloexec fresh low table gives same same_descs = served_as g e same same_descs
    served-open g e (Ok fd) o from cloexec fresh low table gives same same_descs =
        let found = lowest_free-some d from fd low in
        let last = ap (λ (t : Table M). t.last_file) table in
        let x : Descriptor = record { key = gives.key; number = f.table.last_file + 1; cloexec = cloexec } in
        let added = serves-add f d others s g gives.key (record { opened = o; count = 1 }) refl gives.was_free (fresh (f.table.last_file + 1) (omega arith)) gives.keys (ap (λ (t : Table M). t.files) table) last in
        subst (λ m. Serves g m others) (sym gives.descs)
        (serves-put g d others fd x added found.free found.below (ap (λ m. map.get m gives.key) gives.keys ∙ get-insert_same f.keys gives.key (f.table.last_file + 1)) (omega (arith, last)))

    served_copy : (g : Kept M) (e : Descriptors) (fd to : ℕ) (x : Descriptor) (cloexec : Bool) → map.get d fd ≡ Some x → map.get d to ≡ None → to < 1024
        → g ≡ copied x f → e ≡ map.insert d to (with_cloexec cloexec x) → Serves g e others
    served_copy g e fd to x cloexec here free low is descs =
        let last = (s.below fd x here).1 in
        subst (λ k. Serves k e others) (sym is)
        (subst (λ m. Serves (copied x f) m others) (sym descs)
        (serves-put (copied x f) d others to (with_cloexec cloexec x) (serves-raise f d others s x) free low (s.names fd x here) last))

    pub served-dup : (g : Kept M) (e : Descriptors) (r : Result ℕ FilesRefusal) (fd from : ℕ) (cloexec : Bool) → IsSome (map.get d fd)
        → IfOk r (λ to. lowest_free d from ≡ Some to) → OnOk r (g ≡ by_descriptor d fd copied f) → IfOk r (λ to. e ≡ with_copy_at d fd to cloexec)
        → OnErr r (g ≡ f) → OnErr r (e ≡ d) → Serves g e others
    served-dup g e (Err x) fd from cloexec there low files descs same same_descs = served_as g e same same_descs
    served-dup g e (Ok to) fd from cloexec there low files descs same same_descs =
        let found = lowest_free-some d from to low in
        let x = value_of (map.get d fd) there in
        served_copy g e fd to x.0 cloexec x.1 found.free found.below
        (files ∙ ap (λ o. option_map_or (λ (y : Descriptor). copied y f) o f) x.1)
        (descs ∙ ap (λ o. option_map_or (λ (y : Descriptor). map.insert d to (with_cloexec cloexec y)) o d) x.1)

    pub served-close : (g : Kept M) (e : Descriptors) (fd : ℕ) → IsSome (map.get d fd) → g ≡ by_descriptor d fd released f → e ≡ map.remove d fd → Serves g e others
    served-close g e fd there files descs =
        let x = value_of (map.get d fd) there in
        let is = files ∙ ap (λ o. option_map_or (λ (y : Descriptor). released y f) o f) x.1 in
        subst (λ k. Serves k e others) (sym is)
        (subst (λ m. Serves (released x.0 f) m others) (sym descs) (serves-close f d others s fd x.0 x.1))

    -- what another process names stays open where a descriptor is closed
    pub served-others : (g : Kept M) (fd : ℕ) → IsSome (map.get d fd) → g ≡ by_descriptor d fd released f
        → (c : Descriptors) → NamesOpenFiles f c → ((q : ℕ) (y : Descriptor) → map.get c q ≡ Some y → q < 1024) → ((n : ℕ) → named_count (meanings c) n ≤ others n) → NamesOpenFiles g c
    served-others g fd there files c names below many =
        let x = value_of (map.get d fd) there in
        let is = files ∙ ap (λ o. option_map_or (λ (y : Descriptor). released y f) o f) x.1 in
        subst (λ m. NamesOpenFiles m c) (sym is) (names-close f d others s fd x.0 x.1 c names below many)

    -- a child's descriptors
    pub served-fork : (g : Kept M) → g ≡ on_table (with_copies (meanings d)) f → Serves g d (λ n. others n + named_count (meanings d) n)
    served-fork g forked = subst (λ k. Serves k d (λ n. others n + named_count (meanings d) n)) (sym forked) (serves-fork f d others s)

    -- a call that opens and closes nothing
    pub served-kept : (g : Kept M) → g.keys ≡ f.keys → g.table.last_file ≡ f.table.last_file
        → ((n : ℕ) → option_map (λ (h : Counted M). h.count) (map.get g.table.files n) ≡ option_map (λ (h : Counted M). h.count) (map.get f.table.files n)) → Serves g d others
    served-kept g keys last counts = serves-same f d others s g keys last counts

    -- names changed
    pub served-all_changed : (change : Opened M → Opened M) → Serves (on_table (with_all_opened change) f) d others
    served-all_changed change =
        served-kept (on_table (with_all_opened change) f) refl refl
        (λ n. ap (option_map (λ (h : Counted M). h.count)) (get-mapped (λ q. on_opened change) f.table.files n) ∙ kept (map.get f.table.files n))
      where
        kept : (o : Option (Counted M)) → option_map (λ (h : Counted M). h.count) (option_map (on_opened change) o) ≡ option_map (λ (h : Counted M). h.count) o
        kept None = refl
        kept (Some h) = refl

    -- bytes went through a pipe
    pub served-bytes : (p : ℕ) (change : List ℕ → List ℕ) → Serves (on_table (λ t. option_map_or (λ bytes. with_bytes p (change bytes) t) (map.get t.pipes p) t) f) d others
    served-bytes p change = of_pipe (map.get f.table.pipes p)
      where
        of_pipe : (o : Option (List ℕ)) → Serves (record { keys = f.keys; table = option_map_or (λ bytes. with_bytes p (change bytes) f.table) o f.table }) d others
        of_pipe None = s
        of_pipe (Some bytes) = served-kept (record { keys = f.keys; table = with_bytes p (change bytes) f.table }) refl refl (λ n. refl)

    -- a change that is made or refused
    pub served-if_ok : {T E : Type 0} (g : Kept M) (r : Result T E) (change : Table M → Table M) → Serves (on_table change f) d others → OnOk r (g ≡ on_table change f) → OnErr r (g ≡ f) → Serves g d others
    served-if_ok g (Ok x) change then_ ok err = subst (λ k. Serves k d others) (sym ok) then_
    served-if_ok g (Err x) change then_ ok err = subst (λ k. Serves k d others) (sym err) s

    -- what is open changed, and no count
    pub served-changed : (g : Kept M) (fd : ℕ) (change : Opened M → Opened M) → g ≡ by_descriptor d fd (λ x. on_table (with_opened x.number change)) f → Serves g d others
    served-changed g fd change is =
        subst (λ k. Serves k d others) (sym is) (of_one (map.get d fd))
      where
        count_kept : (n q : ℕ) → option_map (λ (h : Counted M). h.count) (map.get (changed f.table.files n (on_opened change)) q) ≡ option_map (λ (h : Counted M). h.count) (map.get f.table.files q)
        count_kept n q =
            elim (cases_eq q n) [
              | inl same ↦ ap (option_map (λ (h : Counted M). h.count)) (ap (map.get (changed f.table.files n (on_opened change))) same ∙ get-changed_same f.table.files n (on_opened change)) ∙ kept (map.get f.table.files n)
                  ∙ ap (λ k. option_map (λ (h : Counted M). h.count) (map.get f.table.files k)) (sym same)
              | inr other ↦ ap (option_map (λ (h : Counted M). h.count)) (get-changed_other f.table.files n (on_opened change) q other)
            ]
          where
            kept : (o : Option (Counted M)) → option_map (λ (h : Counted M). h.count) (option_map (on_opened change) o) ≡ option_map (λ (h : Counted M). h.count) o
            kept None = refl
            kept (Some h) = refl

        of_one : (o : Option Descriptor) → Serves (option_map_or (λ (x : Descriptor). on_table (with_opened x.number change) f) o f) d others
        of_one None = s
        of_one (Some x) = served-kept (on_table (with_opened x.number change) f) refl refl (count_kept x.number)

    pub served-dup_to : (g : Kept M) (e : Descriptors) (r : Result (Unit {0}) NoMemory) (fd to : ℕ) (cloexec : Bool) → IsSome (map.get d fd) → to < 1024 → to ≢ fd
        → OnOk r (g ≡ by_descriptor d to released (by_descriptor d fd copied f)) → OnOk r (e ≡ with_copy_at d fd to cloexec)
        → OnErr r (g ≡ f) → OnErr r (e ≡ d) → Serves g e others
    served-dup_to g e (Err x) fd to cloexec there low other files descs same same_descs = served_as g e same same_descs
    served-dup_to g e (Ok u) fd to cloexec there low other files descs same same_descs =
        let x = value_of (map.get d fd) there in
        let copies = ap (λ o. option_map_or (λ (y : Descriptor). copied y f) o f) x.1 in
        let put = descs ∙ ap (λ o. option_map_or (λ (y : Descriptor). map.insert d to (with_cloexec cloexec y)) o d) x.1 in
        elim (map.get d to) as (λ o. map.get d to ≡ o → g ≡ option_map_or (λ (y : Descriptor). released y (by_descriptor d fd copied f)) o (by_descriptor d fd copied f) → Serves g e others) [
          | None ↦ λ free is. served_copy g e fd to x.0 cloexec x.1 free low (is ∙ copies) put
          | Some y ↦ λ at is.
              let raised = serves-raise f d others s x.0 in
              let closed_ = serves-close (copied x.0 f) d (λ n. others n + one_at x.0.number n) raised to y at in
              let still = get-remove_other d to fd (λ same. other (sym same)) ∙ x.1 in
              let whole = put ∙ sym (insert_over d to (with_cloexec cloexec x.0)) in
              subst (λ k. Serves k e others) (sym (is ∙ ap (released y) copies))
              (subst (λ m. Serves (released y (copied x.0 f)) m others) (sym whole)
              (serves-put (released y (copied x.0 f)) (map.remove d to) others to (with_cloexec cloexec x.0) closed_ (get-remove_same d to) low (closed_.names fd x.0 still) (closed_.below fd x.0 still).1))
        ] refl files

    pub served-pipe : (g : Kept M) (e : Descriptors) (r : Result (ℕ × ℕ) FilesRefusal) (cloexec : Bool) → IsFresh f others
        → IfOk r (λ fds. lowest_pair d ≡ Some (fds.0, fds.1)) → OnOk r (g.table ≡ with_pipe f.table)
        → IfOk r (λ fds. GivesPair f.keys g.keys d e fds.0 fds.1 (f.table.last_file + 1) cloexec)
        → OnErr r (g ≡ f) → OnErr r (e ≡ d) → Serves g e others
    served-pipe g e (Err x) cloexec fresh low table gives same same_descs = served_as g e same same_descs
    served-pipe g e (Ok fds) cloexec fresh low table gives same same_descs =
        let pair = pair_found d fds.0 fds.1 low in
        let one : Counted M = record { opened = pipe_end (PipeRead (f.table.last_pipe + 1)) true false; count = 1 } in
        let two : Counted M = record { opened = pipe_end (PipeWrite (f.table.last_pipe + 1)) false true; count = 1 } in
        let half : Kept M = record { keys = map.insert f.keys gives.reader (f.table.last_file + 1); table = with_file one.opened f.table } in
        let first : Descriptor = record { key = gives.reader; number = f.table.last_file + 1; cloexec = cloexec } in
        let second : Descriptor = record { key = gives.writer; number = f.table.last_file + 1 + 1; cloexec = cloexec } in
        let added = serves-add f d others s half gives.reader one refl gives.reader_free (fresh (f.table.last_file + 1) (omega arith)) refl refl refl in
        let held = serves-put half d others fds.0 first added pair.0.free pair.0.below (get-insert_same f.keys gives.reader (f.table.last_file + 1)) (omega arith) in
        let last = ap (λ (t : Table M). t.last_file) table in
        let both = serves-add half (map.insert d fds.0 first) others held g gives.writer two refl (get-insert_other f.keys gives.reader (f.table.last_file + 1) gives.writer gives.apart ∙ gives.writer_free) (fresh (f.table.last_file + 1 + 1) (omega arith))
        gives.keys (ap (λ (t : Table M). t.files) table) last in
        let apart : fds.1 ≢ fds.0 = λ same. omega (arith, pair.1.from_on, same) in
        subst (λ m. Serves g m others) (sym gives.descs)
        (serves-put g (map.insert d fds.0 first) others fds.1 second both (get-insert_other d fds.0 first fds.1 apart ∙ pair.1.free) pair.1.below
        (ap (λ m. map.get m gives.writer) gives.keys ∙ get-insert_same (map.insert f.keys gives.reader (f.table.last_file + 1)) gives.writer (f.table.last_file + 1 + 1)) (omega (arith, last)))
