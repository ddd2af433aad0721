-- What ties pipes to open files, after each change.
use Rattle.std.specs.FinMap as map
use Rattle.std.proofs.Common.{◌≡◌, ◌≢◌, ◌⊎◌, ◌≤◌, ◌+◌, inl, inr, subst, ℕ, Bool, true, false, ◌||◌, [], refl, sym, ap, ◌∙◌, arith, Option, Some, None}
use Rattle.std.specs.Prelude.{◌==◌, length, IsSome}
use Rattle.std.specs.Option.{option_map}
use Rattle.std.specs.Ordering.{nat_cmp}
use Rattle.std.proofs.lemmas.Bool.{cases_eq, false≢true}
use Rattle.std.proofs.lemmas.Bool.Decides.{nat_tests}
use Rattle.kr_files.specs.declared.opened.What.TheVariants.{File, Dir, In, Out, Err, PipeRead, PipeWrite}
use Rattle.kr_files.specs.Opened.{is_no_end, is_reader, is_writer}
use Rattle.std.proofs.lemmas.Option.{same_Some, none-some}
use Rattle.kr_files.specs.declared.opened.What.{What}
use Rattle.kr_files.specs.Files.{Counted, has_kind}
use Rattle.kr_tree.specs.pr_base.Maps.{changed, mapped}
use Rattle.kr_files.specs.Sound.{IsSound, is_end, is_noted}
use Rattle.kr_files.specs.StoredPipes.{Pipe, PipeTable, fresh_pipe}
use Rattle.kr_files.proofs.OpenFileLemmas.{value_of}
use Rattle.kr_tree.proofs.pr_base.MapLemmas.{by_key, some-insert, get-insert_same, get-insert_other, get-remove_same, get-remove_other, get-changed_same, get-changed_other, get-mapped}
use Rattle.kr_files.proofs.KindLemmas.{same_kind, not_true, either_true, or_true, kind_some, no_kind, kind-insert}

pub equal_true : (a b : ℕ) → (a == b) ≡ true → a ≡ b
equal_true a b e = grind (arith, nat_tests)

pub equal_same : (a : ℕ) → (a == a) ≡ true
equal_same a = grind (arith, nat_tests)

pub equal_other : (a b : ℕ) → b ≢ a → (a == b) ≡ false
equal_other a b h = grind (arith, nat_tests)

-- what is no end of a pipe is neither side of any
pub no_side : (what : What) → is_no_end what ≡ true → (side : Bool) (p : ℕ) → is_end side p what ≡ false
no_side File h true p = refl
no_side File h false p = refl
no_side Dir h true p = refl
no_side Dir h false p = refl
no_side In h true p = refl
no_side In h false p = refl
no_side Out h true p = refl
no_side Out h false p = refl
no_side Err h true p = refl
no_side Err h false p = refl
no_side (PipeRead q) h side p = absurd (false≢true h)
no_side (PipeWrite q) h side p = absurd (false≢true h)

module _ {M : Type 0} where
  -- each file keeps its kind
  abbrev pub SameKinds : map.FinMap nat_cmp (Counted M) → map.FinMap nat_cmp (Counted M) → Type 0
  SameKinds old new = (n : ℕ) → option_map (λ h. h.opened.what) (map.get new n) ≡ option_map (λ h. h.opened.what) (map.get old n)

  of_kind : (o : Option (Counted M)) (h : Counted M) (p : Option (Counted M)) → o ≡ Some h → option_map (λ h. h.opened.what) p ≡ option_map (λ (h : Counted M). h.opened.what) o
      → (g : Counted M) × (p ≡ Some g) × (g.opened.what ≡ h.opened.what)
  of_kind None h p here same = absurd (none-some h here)
  of_kind (Some x) h None here same = absurd (none-some x.opened.what same)
  of_kind (Some x) h (Some g) here same = (g, refl, same_Some g.opened.what x.opened.what same ∙ ap (λ (y : Counted M). y.opened.what) (same_Some x h here))

  module _ (old new : map.FinMap nat_cmp (Counted M)) (same : SameKinds old new) where
    there : (n : ℕ) (h : Counted M) → map.get old n ≡ Some h → (g : Counted M) × (map.get new n ≡ Some g) × (g.opened.what ≡ h.opened.what)
    there n h here = of_kind (map.get old n) h (map.get new n) here (same n)

    back : (n : ℕ) (h : Counted M) → map.get new n ≡ Some h → (g : Counted M) × (map.get old n ≡ Some g) × (g.opened.what ≡ h.opened.what)
    back n h here = of_kind (map.get new n) h (map.get old n) here (sym (same n))

    pub same_has_kind : (test : What → Bool) → has_kind test new ≡ has_kind test old
    same_has_kind test =
        same_kind test new old
        (λ n h here is. let g = back n h here in (g.0, g.1, ap test g.2 ∙ is))
        (λ n h here is. let g = there n h here in (g.0, g.1, ap test g.2 ∙ is))

    pub sound-same_kinds : (pipes : PipeTable) (last_file last_pipe : ℕ) → IsSound old pipes last_file last_pipe → IsSound new pipes last_file last_pipe
    sound-same_kinds pipes last_file last_pipe s = record {
      file_numbers = λ n h here. s.file_numbers n (back n h here).0 (back n h here).1;
      pipe_numbers = s.pipe_numbers;
      has_pipe = λ side p n h here is. let g = back n h here in s.has_pipe side p n g.0 g.1 (ap (is_end side p) g.2 ∙ is);
      has_end = s.has_end;
      bounded = s.bounded;
      noted = λ side p q here. s.noted side p q here ∙ sym (same_has_kind (is_end side p));
      single = λ side p m n g h at_m at_n is_g is_h.
          let a = back m g at_m in
          let b = back n h at_n in
          s.single side p m n a.0 b.0 a.1 b.1 (ap (is_end side p) a.2 ∙ is_g) (ap (is_end side p) b.2 ∙ is_h);
    }

  -- nothing is open
  pub sound-empty : (files : map.FinMap nat_cmp (Counted M)) (pipes : PipeTable) → files ≡ map.empty → pipes ≡ map.empty → IsSound files pipes 0 0
  sound-empty files pipes no_files no_pipes =
      let no_file : (n : ℕ) (h : Counted M) → map.get files n ≡ Some h → ⊥ = λ n h here. none-some h (sym (map.get-empty nat_cmp n) ∙ sym (ap (λ f. map.get f n) no_files) ∙ here) in
      let no_pipe : (p : ℕ) (q : Pipe) → map.get pipes p ≡ Some q → ⊥ = λ p q here. none-some q (sym (map.get-empty nat_cmp p) ∙ sym (ap (λ f. map.get f p) no_pipes) ∙ here) in
      record {
        file_numbers = λ n h here. absurd (no_file n h here);
        pipe_numbers = λ p q here. absurd (no_pipe p q here);
        has_pipe = λ side p n h here is. absurd (no_file n h here);
        has_end = λ p q here. absurd (no_pipe p q here);
        bounded = λ p q here. absurd (no_pipe p q here);
        noted = λ side p q here. absurd (no_pipe p q here);
        single = λ side p m n g h at_m at_n is_g is_h. absurd (no_file m g at_m);
      }

  -- a file changed, and not its kind
  pub same-changed : (files : map.FinMap nat_cmp (Counted M)) (n : ℕ) (f : Counted M → Counted M) → ((h : Counted M) → (f h).opened.what ≡ h.opened.what) → SameKinds files (changed files n f)
  same-changed files n f same =
      by_key (λ m. option_map (λ (h : Counted M). h.opened.what) (map.get (changed files n f) m) ≡ option_map (λ (h : Counted M). h.opened.what) (map.get files m)) n
      (ap (option_map (λ (h : Counted M). h.opened.what)) (get-changed_same files n f) ∙ kept (map.get files n))
      (λ m other. ap (option_map (λ (h : Counted M). h.opened.what)) (get-changed_other files n f m other))
    where
      kept : (o : Option (Counted M)) → option_map (λ (h : Counted M). h.opened.what) (option_map f o) ≡ option_map (λ (h : Counted M). h.opened.what) o
      kept None = refl
      kept (Some h) = ap Some (same h)

  -- all files changed, and not their kinds
  pub same-mapped : (files : map.FinMap nat_cmp (Counted M)) (f : ℕ → Counted M → Counted M) → ((n : ℕ) (h : Counted M) → (f n h).opened.what ≡ h.opened.what) → SameKinds files (mapped f files)
  same-mapped files f same n = ap (option_map (λ (h : Counted M). h.opened.what)) (get-mapped f files n) ∙ kept (map.get files n)
    where
      kept : (o : Option (Counted M)) → option_map (λ (h : Counted M). h.opened.what) (option_map (f n) o) ≡ option_map (λ (h : Counted M). h.opened.what) o
      kept None = refl
      kept (Some h) = ap Some (same n h)

  module _ (files : map.FinMap nat_cmp (Counted M)) (pipes : PipeTable) (last_file last_pipe : ℕ) (s : IsSound files pipes last_file last_pipe) where
    pub fresh_file : map.get files (last_file + 1) ≡ None
    fresh_file =
        elim (map.get files (last_file + 1)) as (λ o. map.get files (last_file + 1) ≡ o → o ≡ None) [
          | None ↦ λ _. refl
          | Some h ↦ λ here. let low = s.file_numbers (last_file + 1) h here in absurd (omega arith)
        ] refl

    pub fresh_pipe_number : map.get pipes (last_pipe + 1) ≡ None
    fresh_pipe_number =
        elim (map.get pipes (last_pipe + 1)) as (λ o. map.get pipes (last_pipe + 1) ≡ o → o ≡ None) [
          | None ↦ λ _. refl
          | Some q ↦ λ here. let low = s.pipe_numbers (last_pipe + 1) q here in absurd (omega arith)
        ] refl

    -- an end of a pipe is that of one that was made
    pub end_number : (side : Bool) (p n : ℕ) (h : Counted M) → map.get files n ≡ Some h → is_end side p h.opened.what ≡ true → p ≤ last_pipe
    end_number side p n h here is = let there = value_of (map.get pipes p) (s.has_pipe side p n h here is) in s.pipe_numbers p there.0 there.1

    -- one more file
    pub sound-add : (h : Counted M) (more : PipeTable) (last : ℕ)
        → ((side : Bool) (p n : ℕ) (g : Counted M) → is_end side p h.opened.what ≡ true → map.get files n ≡ Some g → is_end side p g.opened.what ≡ true → ⊥)
        → ((side : Bool) (p : ℕ) → is_end side p h.opened.what ≡ true → IsSome (map.get more p))
        → ((p : ℕ) → IsSome (map.get pipes p) → IsSome (map.get more p))
        → ((p : ℕ) (q : Pipe) → map.get more p ≡ Some q → p ≤ last)
        → ((p : ℕ) (q : Pipe) → map.get more p ≡ Some q → (q.reader || q.writer) ≡ true)
        → ((p : ℕ) (q : Pipe) → map.get more p ≡ Some q → length q.bytes ≤ 65536)
        → ((side : Bool) (p : ℕ) (q : Pipe) → map.get more p ≡ Some q → is_noted side q ≡ (is_end side p h.opened.what || has_kind (is_end side p) files))
        → IsSound (map.insert files (last_file + 1) h) more (last_file + 1) last
    sound-add h more last only has stays numbers ends bounded noted =
        let now : (n : ℕ) (g : Counted M) → map.get (map.insert files (last_file + 1) h) n ≡ Some g → n ≡ last_file + 1 → h ≡ g
        = λ n g at here. same_Some h g (sym (get-insert_same files (last_file + 1) h) ∙ sym (ap (map.get (map.insert files (last_file + 1) h)) here) ∙ at) in
        let before : (n : ℕ) (g : Counted M) → map.get (map.insert files (last_file + 1) h) n ≡ Some g → n ≢ last_file + 1 → map.get files n ≡ Some g
        = λ n g at other. sym (get-insert_other files (last_file + 1) h n other) ∙ at in
        record {
          file_numbers = λ n g at. elim (cases_eq n (last_file + 1)) [
            | inl here ↦ omega arith
            | inr other ↦ let low = s.file_numbers n g (before n g at other) in omega arith
          ];
          pipe_numbers = numbers;
          has_pipe = λ side p n g at is. elim (cases_eq n (last_file + 1)) [
            | inl here ↦ has side p (ap (λ (x : Counted M). is_end side p x.opened.what) (now n g at here) ∙ is)
            | inr other ↦ stays p (s.has_pipe side p n g (before n g at other) is)
          ];
          has_end = ends;
          bounded = bounded;
          noted = λ side p q at. noted side p q at ∙ sym (kind-insert (is_end side p) files (last_file + 1) h fresh_file);
          single = λ side p m n f g at_m at_n is_f is_g. elim (cases_eq m (last_file + 1)) [
            | inl here_m ↦ elim (cases_eq n (last_file + 1)) [
              | inl here_n ↦ here_m ∙ sym here_n
              | inr other_n ↦ absurd (only side p n g (ap (λ (x : Counted M). is_end side p x.opened.what) (now m f at_m here_m) ∙ is_f) (before n g at_n other_n) is_g)
            ]
            | inr other_m ↦ elim (cases_eq n (last_file + 1)) [
              | inl here_n ↦ absurd (only side p m f (ap (λ (x : Counted M). is_end side p x.opened.what) (now n g at_n here_n) ∙ is_g) (before m f at_m other_m) is_f)
              | inr other_n ↦ s.single side p m n f g (before m f at_m other_m) (before n g at_n other_n) is_f is_g
            ]
          ];
        }

    -- a file that is no end of a pipe was opened
    pub sound-open : (h : Counted M) → is_no_end h.opened.what ≡ true → IsSound (map.insert files (last_file + 1) h) pipes (last_file + 1) last_pipe
    sound-open h is =
        let none = no_side h.opened.what is in
        sound-add h pipes last_pipe
        (λ side p n g e _ _. false≢true (sym (none side p) ∙ e))
        (λ side p e. absurd (false≢true (sym (none side p) ∙ e)))
        (λ p there. there)
        s.pipe_numbers s.has_end s.bounded
        (λ side p q at. s.noted side p q at ∙ ap (λ b. b || has_kind (is_end side p) files) (sym (none side p)))

    -- a file was closed
    pub sound-remove : (n : ℕ) (left : PipeTable)
        → ((p : ℕ) (q : Pipe) → map.get left p ≡ Some q → p ≤ last_pipe)
        → ((p : ℕ) (q : Pipe) → map.get left p ≡ Some q → (q.reader || q.writer) ≡ true)
        → ((p : ℕ) (q : Pipe) → map.get left p ≡ Some q → length q.bytes ≤ 65536)
        → ((side : Bool) (p m : ℕ) (g : Counted M) → m ≢ n → map.get files m ≡ Some g → is_end side p g.opened.what ≡ true → IsSome (map.get left p))
        → ((side : Bool) (p : ℕ) (q : Pipe) → map.get left p ≡ Some q → is_noted side q ≡ has_kind (is_end side p) (map.remove files n))
        → IsSound (map.remove files n) left last_file last_pipe
    sound-remove n left numbers ends bounded has noted =
        let away : (m : ℕ) (g : Counted M) → map.get (map.remove files n) m ≡ Some g → m ≢ n
        = λ m g at here. none-some g (sym (get-remove_same files n) ∙ sym (ap (map.get (map.remove files n)) here) ∙ at) in
        let before : (m : ℕ) (g : Counted M) → map.get (map.remove files n) m ≡ Some g → map.get files m ≡ Some g
        = λ m g at. sym (get-remove_other files n m (away m g at)) ∙ at in
        record {
          file_numbers = λ m g at. s.file_numbers m g (before m g at);
          pipe_numbers = numbers;
          has_pipe = λ side p m g at is. has side p m g (away m g at) (before m g at) is;
          has_end = ends;
          bounded = bounded;
          noted = noted;
          single = λ side p m k f g at_m at_k is_f is_g. s.single side p m k f g (before m f at_m) (before k g at_k) is_f is_g;
        }

-- a pipe with its end for reading alone, and with both
abbrev pub half_pipe : Pipe
half_pipe = record { bytes = []; reader = true; writer = false }

module _ {M : Type 0} (files : map.FinMap nat_cmp (Counted M)) (pipes : PipeTable) (last_file last_pipe : ℕ) (s : IsSound files pipes last_file last_pipe)
    (r w : Counted M) (is_r : r.opened.what ≡ PipeRead (last_pipe + 1)) (is_w : w.opened.what ≡ PipeWrite (last_pipe + 1)) where
  no_end_yet : (side : Bool) (n : ℕ) (g : Counted M) → map.get files n ≡ Some g → is_end side (last_pipe + 1) g.opened.what ≡ true → ⊥
  no_end_yet side n g at is = let low = end_number files pipes last_file last_pipe s side (last_pipe + 1) n g at is in absurd (omega arith)

  none_yet : (side : Bool) → has_kind (is_end side (last_pipe + 1)) files ≡ false
  none_yet side = no_kind (is_end side (last_pipe + 1)) files (λ n g at. not_true (is_end side (last_pipe + 1) g.opened.what) (no_end_yet side n g at))

  reader_side : (p : ℕ) → is_end true p r.opened.what ≡ (last_pipe + 1 == p)
  reader_side p = ap (is_reader p) is_r

  reader_not : (p : ℕ) → is_end false p r.opened.what ≡ false
  reader_not p = ap (is_writer p) is_r

  writer_side : (p : ℕ) → is_end false p w.opened.what ≡ (last_pipe + 1 == p)
  writer_side p = ap (is_writer p) is_w

  writer_not : (p : ℕ) → is_end true p w.opened.what ≡ false
  writer_not p = ap (is_reader p) is_w

  pipe_of : (x : Pipe) (p : ℕ) (q : Pipe) → map.get (map.insert pipes (last_pipe + 1) x) p ≡ Some q
      → ((p ≡ last_pipe + 1) × (x ≡ q)) ⊎ ((p ≢ last_pipe + 1) × (map.get pipes p ≡ Some q))
  pipe_of x p q at =
      elim (cases_eq p (last_pipe + 1)) [
        | inl same ↦ inl (same, same_Some x q (sym (get-insert_same pipes (last_pipe + 1) x) ∙ sym (ap (map.get (map.insert pipes (last_pipe + 1) x)) same) ∙ at))
        | inr other ↦ inr (other, sym (get-insert_other pipes (last_pipe + 1) x p other) ∙ at)
      ]

  there_now : (x : Pipe) (p : ℕ) → p ≡ last_pipe + 1 → IsSome (map.get (map.insert pipes (last_pipe + 1) x) p)
  there_now x p same = subst IsSome (sym (ap (map.get (map.insert pipes (last_pipe + 1) x)) same ∙ get-insert_same pipes (last_pipe + 1) x)) refl

  is_here : (p : ℕ) → (last_pipe + 1 == p) ≡ true → last_pipe + 1 ≡ p
  is_here p e = equal_true (last_pipe + 1) p e

  reader_here : (side : Bool) (p : ℕ) → is_end side p r.opened.what ≡ true → (side ≡ true) × (last_pipe + 1 ≡ p)
  reader_here true p e = (refl, is_here p (sym (reader_side p) ∙ e))
  reader_here false p e = absurd (false≢true (sym (reader_not p) ∙ e))

  writer_here : (side : Bool) (p : ℕ) → is_end side p w.opened.what ≡ true → (side ≡ false) × (last_pipe + 1 ≡ p)
  writer_here true p e = absurd (false≢true (sym (writer_not p) ∙ e))
  writer_here false p e = (refl, is_here p (sym (writer_side p) ∙ e))

  reader_away : (side : Bool) (p : ℕ) → p ≢ last_pipe + 1 → is_end side p r.opened.what ≡ false
  reader_away side p other = not_true (is_end side p r.opened.what) (λ e. other (sym (reader_here side p e).1))

  writer_away : (side : Bool) (p : ℕ) → p ≢ last_pipe + 1 → is_end side p w.opened.what ≡ false
  writer_away side p other = not_true (is_end side p w.opened.what) (λ e. other (sym (writer_here side p e).1))

  half_noted : (side : Bool) → is_noted side half_pipe ≡ (is_end side (last_pipe + 1) r.opened.what || has_kind (is_end side (last_pipe + 1)) files)
  half_noted true = sym (either_true (is_end true (last_pipe + 1) r.opened.what) (has_kind (is_end true (last_pipe + 1)) files) (reader_side (last_pipe + 1) ∙ equal_same (last_pipe + 1)))
  half_noted false = sym (ap (λ b. b || has_kind (is_end false (last_pipe + 1)) files) (reader_not (last_pipe + 1)) ∙ none_yet false)

  -- the end for reading was opened
  sound-half : IsSound (map.insert files (last_file + 1) r) (map.insert pipes (last_pipe + 1) half_pipe) (last_file + 1) (last_pipe + 1)
  sound-half =
      sound-add files pipes last_file last_pipe s r (map.insert pipes (last_pipe + 1) half_pipe) (last_pipe + 1)
      (λ side p n g e at is. no_end_yet side n g at (subst (λ k. is_end side k g.opened.what ≡ true) (sym (reader_here side p e).1) is))
      (λ side p e. there_now half_pipe p (sym (reader_here side p e).1))
      (λ p there. some-insert pipes (last_pipe + 1) p half_pipe there)
      (λ p q at. elim (pipe_of half_pipe p q at) [
        | inl here ↦ let e = here.0 in omega arith
        | inr away ↦ let low = s.pipe_numbers p q away.1 in omega arith
      ])
      (λ p q at. elim (pipe_of half_pipe p q at) [
        | inl here ↦ subst (λ (x : Pipe). (x.reader || x.writer) ≡ true) here.1 refl
        | inr away ↦ s.has_end p q away.1
      ])
      (λ p q at. elim (pipe_of half_pipe p q at) [
        | inl here ↦ subst (λ (x : Pipe). length x.bytes ≤ 65536) here.1 (omega arith)
        | inr away ↦ s.bounded p q away.1
      ])
      (λ side p q at. elim (pipe_of half_pipe p q at) [
        | inl here ↦ ap (is_noted side) (sym here.1) ∙ half_noted side ∙ sym (ap (λ k. is_end side k r.opened.what || has_kind (is_end side k) files) here.0)
        | inr away ↦ s.noted side p q away.1 ∙ ap (λ b. b || has_kind (is_end side p) files) (sym (reader_away side p away.0))
      ])

  half : map.FinMap nat_cmp (Counted M)
  half = map.insert files (last_file + 1) r

  whole_noted : (side : Bool) → is_noted side fresh_pipe ≡ (is_end side (last_pipe + 1) w.opened.what || has_kind (is_end side (last_pipe + 1)) half)
  unfolding half
  whole_noted true =
      sym (or_true (is_end true (last_pipe + 1) w.opened.what) (has_kind (is_end true (last_pipe + 1)) half)
      (kind_some (is_end true (last_pipe + 1)) half (last_file + 1) r (get-insert_same files (last_file + 1) r) (reader_side (last_pipe + 1) ∙ equal_same (last_pipe + 1))))
  whole_noted false = sym (either_true (is_end false (last_pipe + 1) w.opened.what) (has_kind (is_end false (last_pipe + 1)) half) (writer_side (last_pipe + 1) ∙ equal_same (last_pipe + 1)))

  no_writer_in_half : (n : ℕ) (g : Counted M) → map.get half n ≡ Some g → is_end false (last_pipe + 1) g.opened.what ≡ true → ⊥
  unfolding half
  no_writer_in_half n g at is =
      elim (cases_eq n (last_file + 1)) [
        | inl same ↦
            let equal = same_Some r g (sym (get-insert_same files (last_file + 1) r) ∙ sym (ap (map.get half) same) ∙ at) in
            false≢true (sym (reader_not (last_pipe + 1)) ∙ ap (λ (x : Counted M). is_end false (last_pipe + 1) x.opened.what) equal ∙ is)
        | inr other ↦ no_end_yet false n g (sym (get-insert_other files (last_file + 1) r n other) ∙ at) is
      ]

  old_kind : (side : Bool) (p : ℕ) → p ≢ last_pipe + 1 → has_kind (is_end side p) half ≡ has_kind (is_end side p) files
  unfolding half
  old_kind side p other =
      kind-insert (is_end side p) files (last_file + 1) r (fresh_file files pipes last_file last_pipe s)
      ∙ ap (λ b. b || has_kind (is_end side p) files) (reader_away side p other)

  -- a pipe was made
  pub sound-pipe : IsSound (map.insert (map.insert files (last_file + 1) r) (last_file + 1 + 1) w) (map.insert pipes (last_pipe + 1) fresh_pipe) (last_file + 1 + 1) (last_pipe + 1)
  unfolding half
  sound-pipe =
      sound-add half (map.insert pipes (last_pipe + 1) half_pipe) (last_file + 1) (last_pipe + 1) sound-half w (map.insert pipes (last_pipe + 1) fresh_pipe) (last_pipe + 1)
      (λ side p n g e at is. no_writer_in_half n g at
      (subst (λ k. is_end false k g.opened.what ≡ true) (sym (writer_here side p e).1) (subst (λ t. is_end t p g.opened.what ≡ true) (writer_here side p e).0 is)))
      (λ side p e. there_now fresh_pipe p (sym (writer_here side p e).1))
      (λ p there. by_key (λ q. IsSome (map.get (map.insert pipes (last_pipe + 1) half_pipe) q) → IsSome (map.get (map.insert pipes (last_pipe + 1) fresh_pipe) q)) (last_pipe + 1)
      (λ _. there_now fresh_pipe (last_pipe + 1) refl)
      (λ q other was. some-insert pipes (last_pipe + 1) q fresh_pipe (subst IsSome (get-insert_other pipes (last_pipe + 1) half_pipe q other) was)) p there)
      (λ p q at. elim (pipe_of fresh_pipe p q at) [
        | inl here ↦ let e = here.0 in omega arith
        | inr away ↦ let low = s.pipe_numbers p q away.1 in omega arith
      ])
      (λ p q at. elim (pipe_of fresh_pipe p q at) [
        | inl here ↦ subst (λ (x : Pipe). (x.reader || x.writer) ≡ true) here.1 refl
        | inr away ↦ s.has_end p q away.1
      ])
      (λ p q at. elim (pipe_of fresh_pipe p q at) [
        | inl here ↦ subst (λ (x : Pipe). length x.bytes ≤ 65536) here.1 (omega arith)
        | inr away ↦ s.bounded p q away.1
      ])
      (λ side p q at. elim (pipe_of fresh_pipe p q at) [
        | inl here ↦ ap (is_noted side) (sym here.1) ∙ whole_noted side ∙ sym (ap (λ k. is_end side k w.opened.what || has_kind (is_end side k) half) here.0)
        | inr away ↦ s.noted side p q away.1 ∙ sym (old_kind side p away.0) ∙ ap (λ b. b || has_kind (is_end side p) half) (sym (writer_away side p away.0))
      ])
