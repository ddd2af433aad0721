-- Two descriptors that were taken, and then name open files.
use Rattle.std.specs.FinMap as map
use Rattle.std.proofs.Common.{◌≡◌, ◌≢◌, ◌≤◌, ◌<◌, ◌+◌, subst, ℕ, Bool, true, false, ◌&&◌, nat_lt, is_some, refl, sym, ap, ◌∙◌, arith, Option, Some}
use Rattle.std.specs.Prelude.{◌↔◌, IsSome, Result, Ok, Err}
use Rattle.std.specs.Option.{option_map, option_and_then}
use Rattle.std.specs.Ordering.{nat_cmp}
use Rattle.std.proofs.lemmas.Bool.{false≢true}
use Rattle.std.proofs.lemmas.Bool.Decides.{nat_tests}
use Rattle.kr_files.specs.declared.descs.Descriptor.{Descriptor}
use Rattle.kr_files.specs.declared.opened.FilesRefusal.{FilesRefusal}
use Rattle.kr_files.specs.declared.opened.FilesRefusal.TheVariants.{Full, NoMemory}
use Rattle.kr_files.specs.Descriptors.{Descriptors, lowest_free, lowest_pair}
use Rattle.kr_files.specs.Slots.{unnamed}
use Rattle.kr_files.specs.Files.{Counted, Table, GivesPair, with_pipe, takes_pipe}
use Rattle.kr_files.specs.Opened.{pipe_end}
use Rattle.kr_files.specs.StoredPipes.{Pipe, PipeTable, fresh_pipe}
use Rattle.kr_files.specs.declared.opened.Opened.{Opened}
use Rattle.kr_files.specs.declared.opened.What.TheVariants.{PipeRead, PipeWrite}
use Rattle.kr_files.proofs.CloseLemmas.{bytes_of}
use Rattle.kr_files.proofs.OpenFileLemmas.{value_of}
use Rattle.kr_tree.proofs.pr_base.MapLemmas.{mapped-insert, some-insert, get-insert_same, insert-insert, insert-swap}

-- want of memory isn't Full, and neither is an answer that is Ok
pub wanting_not_full : {A : Type 0} → ◌≡◌ {A = Result A FilesRefusal} (Err NoMemory) (Err Full) → ⊥
wanting_not_full e = absurd (cc)

pub ok_not_full : {A : Type 0} (x : A) → ◌≡◌ {A = Result A FilesRefusal} (Ok x) (Err Full) → ⊥
ok_not_full x e = absurd (cc)

-- the two lowest free descriptors were found
pub pair_is : (d : Descriptors) (first second : ℕ) → Some first ≡ lowest_free d 0 → Some second ≡ lowest_free d (first + 1) → lowest_pair d ≡ Some (first, second)
pair_is d first second e f =
    ap (option_and_then (λ k. option_map (λ j. (k, j)) (lowest_free d (k + 1)))) (sym e) ∙ ap (option_map (λ j. (first, j))) (sym f)

module _ {M : Type 0} (t : Table M) (d : Descriptors) where
  -- there are enough descriptors, and fewer than 4,096 pipes
  pub pipe_taken : (first second : ℕ) → lowest_pair d ≡ Some (first, second) → map.len t.pipes < 4096 → takes_pipe t d ≡ true
  pipe_taken first second pair few =
      let small : nat_lt (map.len t.pipes) 4096 ≡ true = grind (arith, nat_tests) in
      ap (λ o. is_some o && nat_lt (map.len t.pipes) 4096) pair ∙ small

  -- there are as many pipes as there may be
  pub pipe_refused : 4096 ≤ map.len t.pipes → takes_pipe t d ≡ false
  pipe_refused many =
      let full : nat_lt (map.len t.pipes) 4096 ≡ false = grind (arith, nat_tests) in
      ap (λ b. is_some (lowest_pair d) && b) full ∙ none (is_some (lowest_pair d))
    where
      none : (b : Bool) → (b && false) ≡ false
      none true = refl
      none false = refl

  -- whether there are, by the count of pipes
  pub taken_by_count : (first : ℕ) (second : Option ℕ) (count : ℕ) → Some first ≡ lowest_free d 0 → second ≡ lowest_free d (first + 1) → is_some second ≡ true
      → count ≡ map.len t.pipes → nat_lt count 4096 ≡ takes_pipe t d
  taken_by_count first second count e f some same =
      let found = value_of second some in
      ap (λ n. nat_lt n 4096) same ∙ sym (ap (λ o. is_some o && nat_lt (map.len t.pipes) 4096) (pair_is d first found.0 e (sym found.1 ∙ f)))

  pub answers_no_full : {A : Type 0} (r : Result A FilesRefusal) → takes_pipe t d ≡ true → (r ≡ Err Full → ⊥) → (r ≡ Err Full) ↔ (takes_pipe t d ≡ false)
  answers_no_full r takes other = (λ e. absurd (other e), λ none. absurd (false≢true (sym none ∙ takes)))

module _ (d : Descriptors) (first second : ℕ) (u x y : Descriptor) where
  pub claimed_first : IsSome (map.get (map.insert (map.insert d first u) second u) first)
  claimed_first = some-insert (map.insert d first u) second first u (subst IsSome (sym (get-insert_same d first u)) refl)

  pub claimed_second : IsSome (map.get (map.insert (map.insert d first u) second u) second)
  claimed_second = subst IsSome (sym (get-insert_same (map.insert d first u) second u)) refl

  -- what they name stands in place of what was taken
  pub over_claimed : first ≢ second → map.insert (map.insert (map.insert (map.insert d first u) second u) first x) second y ≡ map.insert (map.insert d first x) second y
  over_claimed apart =
      ap (λ m. map.insert m second y) (insert-swap (map.insert d first u) second first u x (λ e. apart (sym e)))
      ∙ insert-insert (map.insert (map.insert d first u) first x) second u y
      ∙ ap (λ m. map.insert m second y) (insert-insert d first u x)

-- the two files have keys that were free before anything was taken, and stand in place of what was taken
pub given : {mid new old : map.FinMap nat_cmp ℕ} {claimed after before : Descriptors} {first second number last : ℕ} {cloexec : Bool}
    → GivesPair mid new claimed after first second number cloexec → mid ≡ old → claimed ≡ map.insert (map.insert before first (unnamed cloexec)) second (unnamed cloexec)
    → number ≡ last → first ≢ second → GivesPair old new before after first second last cloexec
given {mid = mid} {new = new} {old = old} {claimed = claimed} {after = after} {before = before} {first = first} {second = second} {number = number} {last = last} {cloexec = cloexec} gives keys descs is apart =
    subst (λ n. GivesPair old new before after first second n cloexec) is
    (record {
      reader = gives.reader;
      writer = gives.writer;
      reader_free = sym (ap (λ m. map.get m gives.reader) keys) ∙ gives.reader_free;
      writer_free = sym (ap (λ m. map.get m gives.writer) keys) ∙ gives.writer_free;
      apart = gives.apart;
      keys = gives.keys ∙ ap (λ m. map.insert (map.insert m gives.reader number) gives.writer (number + 1)) keys;
      descs = gives.descs
          ∙ ap (λ m. map.insert (map.insert m first (record { key = gives.reader; number = number; cloexec = cloexec })) second (record { key = gives.writer; number = number + 1; cloexec = cloexec })) descs
          ∙ over_claimed before first second (unnamed cloexec) (record { key = gives.reader; number = number; cloexec = cloexec }) (record { key = gives.writer; number = number + 1; cloexec = cloexec }) apart;
    })

-- the table with a new pipe
pub table_with_pipe : {M : Type 0} (new_files files : map.FinMap nat_cmp (Counted M)) (new_pipes pipes : PipeTable) (last_file last_pipe : ℕ) (r w : Opened M)
    → new_files ≡ map.insert (map.insert files (last_file + 1) (record { opened = r; count = 1 })) (last_file + 1 + 1) (record { opened = w; count = 1 })
    → r ≡ pipe_end (PipeRead (last_pipe + 1)) true false → w ≡ pipe_end (PipeWrite (last_pipe + 1)) false true
    → new_pipes ≡ map.insert pipes (last_pipe + 1) fresh_pipe
    → ◌≡◌ {A = Table M} (record { files = new_files; pipes = bytes_of new_pipes; last_file = last_file + 1 + 1; last_pipe = last_pipe + 1 })
    (with_pipe (record { files = files; pipes = bytes_of pipes; last_file = last_file; last_pipe = last_pipe }))
table_with_pipe {M} new_files files new_pipes pipes last_file last_pipe r w e is_r is_w f =
    let added = e
    ∙ ap (λ (o : Opened M). map.insert (map.insert files (last_file + 1) (record { opened = o; count = 1 })) (last_file + 1 + 1) (record { opened = w; count = 1 })) is_r
    ∙ ap (λ (o : Opened M). map.insert (map.insert files (last_file + 1) (record { opened = pipe_end (PipeRead (last_pipe + 1)) true false; count = 1 })) (last_file + 1 + 1) (record { opened = o; count = 1 })) is_w in
    let held = ap bytes_of f ∙ mapped-insert (λ p (q : Pipe). q.bytes) pipes (last_pipe + 1) fresh_pipe in
    λ i. record { files = added i; pipes = held i; last_file = last_file + 1 + 1; last_pipe = last_pipe + 1 }
