-- Tables of open files and pipes stay of bytes.
use Rattle.std.specs.FinMap as map
use Rattle.std.proofs.Common.{◌≡◌, ℕ, ◌+◌, ◌-◌, Bool, true, false, List, [], cond, drop, refl, sym, ap, subst, ◌∙◌, Option, Some, None}
use Rattle.std.specs.Prelude.{nat_lt}
use Rattle.std.specs.Option.{option_map, option_map_or}
use Rattle.std.specs.Ordering.{nat_cmp}
use Rattle.kr_first.specs.pr_base.Maps.{mapped}
use Rattle.kr_first.proofs.pr_base.MapLemmas.{by_key, each-changed, get-insert_other, get-insert_same, get-mapped, get-remove_other, get-remove_same}
use Rattle.kr_first.specs.kr_tree.Lawful.{AreBytes}
use Rattle.kr_first.proofs.kr_tree.NameLemmas.{some_is}
use Rattle.kr_first.specs.kr_files.Descriptors.{Meanings, named_count}
use Rattle.kr_first.specs.kr_files.Files.{Counted, Table, closed, counted_more, has_kind, has_reader, on_opened, pipe_after_read, pipe_after_write, pipes_left, with_all_opened, with_bytes, with_copies, with_copy, with_file, with_opened, with_pipe, without_file}
use Rattle.kr_first.specs.kr_files.Opened.{is_reader, is_writer, pipe_end}
use Rattle.kr_first.specs.kr_files.Pipes.{after_write}
use Rattle.kr_first.specs.kr_files.declared.opened.Opened.{Opened}
use Rattle.kr_first.specs.kr_files.declared.opened.What.{What}
use Rattle.kr_first.specs.kr_files.declared.opened.What.TheVariants.{Dir, Err, File, In, Out, PipeRead, PipeWrite}
use Rattle.law_kept.specs.Bytes.{FilesHaveBytes}
use Rattle.law_kept.proofs.ListLemmas.{first-of, joined, rest-of}

-- what holds of each value of a map
abbrev Each : {X : Type 0} → (X → Type 0) → map.FinMap nat_cmp X → Type 0
Each {X} P m = (q : ℕ) (x : X) → map.get m q ≡ Some x → P x

module _ {X : Type 0} (P : X → Type 0) where
  each-inserted : (m : map.FinMap nat_cmp X) (k : ℕ) (x : X) → P x → Each P m → Each P (map.insert m k x)
  each-inserted m k x own each =
      by_key (λ q. (y : X) → map.get (map.insert m k x) q ≡ Some y → P y) k
      (λ y e. subst P (some_is x y (sym (get-insert_same m k x) ∙ e)) own)
      (λ q d y e. each q y (sym (get-insert_other m k x q d) ∙ e))

  each-removed : (m : map.FinMap nat_cmp X) (k : ℕ) → Each P m → Each P (map.remove m k)
  each-removed m k each =
      by_key (λ q. (y : X) → map.get (map.remove m k) q ≡ Some y → P y) k
      (λ y e. let none : None ≡ Some y = sym (get-remove_same m k) ∙ e in absurd cc)
      (λ q d y e. each q y (sym (get-remove_other m k q d) ∙ e))

  each-mapped : (f : ℕ → X → X) (m : map.FinMap nat_cmp X) → ((q : ℕ) (x : X) → P x → P (f q x)) → Each P m → Each P (mapped f m)
  each-mapped f m keeps each q y e = by (map.get m q) refl (sym (get-mapped f m q) ∙ e)
    where
      by : (o : Option X) → map.get m q ≡ o → option_map (f q) o ≡ Some y → P y
      by None is e = absurd cc
      by (Some x) is e = subst P (some_is (f q x) y e) (keeps q x (each q x is))

-- ---- pipes

pipes-kept : (b : Bool) (p : ℕ) (pipes : map.FinMap nat_cmp (List ℕ)) → Each AreBytes pipes → Each AreBytes (cond b pipes (map.remove pipes p))
pipes-kept true p pipes each = each
pipes-kept false p pipes each = each-removed AreBytes pipes p each

after-write : (bytes : List ℕ) (reader : Bool) (b : List ℕ) → AreBytes bytes → AreBytes b → AreBytes (after_write bytes reader b)
after-write bytes true b are new = joined bytes _ are (first-of _ b new)
after-write bytes false b are new = are

module _ {M : Type 0} where
  -- what an open file remembers
  abbrev IsNamed : Counted M → Type 0
  IsNamed h = AreBytes h.opened.name

  -- ---- by the files and the pipes of a table

  names-of : (t : Table M) → FilesHaveBytes t → Each IsNamed t.files
  names-of t has n h e = has.names n h.opened (ap (option_map (λ (h : Counted M). h.opened)) e)

  has-both : (t : Table M) → Each IsNamed t.files → Each AreBytes t.pipes → FilesHaveBytes t
  has-both t names pipes = record { names = λ n o e. by n o (map.get t.files n) refl e; pipes = pipes }
    where
      by : (n : ℕ) (o : Opened M) (x : Option (Counted M)) → map.get t.files n ≡ x → option_map (λ (h : Counted M). h.opened) x ≡ Some o → AreBytes o.name
      by n o None is e = absurd cc
      by n o (Some h) is e = subst (λ (o : Opened M). AreBytes o.name) (some_is h.opened o e) (names n h is)

  -- ---- what is opened

  pub filed : (o : Opened M) (t : Table M) → AreBytes o.name → FilesHaveBytes t → FilesHaveBytes (with_file o t)
  filed o t are has = has-both (with_file o t) (each-inserted IsNamed t.files (t.last_file + 1) (record { opened = o; count = 1 }) are (names-of t has)) has.pipes

  pub piped : (t : Table M) → FilesHaveBytes t → FilesHaveBytes (with_pipe t)
  piped t has =
      let p : ℕ = t.last_pipe + 1 in
      let one : FilesHaveBytes (with_file (pipe_end (PipeRead p) true false) t) = filed (pipe_end (PipeRead p) true false) t tt has in
      let two = filed (pipe_end (PipeWrite p) false true) (with_file (pipe_end (PipeRead p) true false) t) tt one in
      has-both (with_pipe t) (names-of (with_file (pipe_end (PipeWrite p) false true) (with_file (pipe_end (PipeRead p) true false) t)) two) (each-inserted AreBytes t.pipes p [] tt has.pipes)

  pub copied : (n : ℕ) (t : Table M) → FilesHaveBytes t → FilesHaveBytes (with_copy n t)
  copied n t has = has-both (with_copy n t) (each-changed IsNamed t.files n (counted_more 1) (names-of t has) (λ h e own. own)) has.pipes

  pub all-copied : (d : Meanings) (t : Table M) → FilesHaveBytes t → FilesHaveBytes (with_copies d t)
  all-copied d t has = has-both (with_copies d t) (each-mapped IsNamed (λ n. counted_more (named_count d n)) t.files (λ n h own. own) (names-of t has)) has.pipes

  -- ---- what is closed

  pipes-left : (what : What) (files : map.FinMap nat_cmp (Counted M)) (pipes : map.FinMap nat_cmp (List ℕ)) → Each AreBytes pipes → Each AreBytes (pipes_left what files pipes)
  pipes-left (PipeRead p) files pipes each = pipes-kept (has_kind (is_writer p) files) p pipes each
  pipes-left (PipeWrite p) files pipes each = pipes-kept (has_kind (is_reader p) files) p pipes each
  pipes-left File files pipes each = each
  pipes-left Dir files pipes each = each
  pipes-left In files pipes each = each
  pipes-left Out files pipes each = each
  pipes-left Err files pipes each = each

  without-bytes : (n : ℕ) (what : What) (t : Table M) → FilesHaveBytes t → FilesHaveBytes (without_file n what t)
  without-bytes n what t has = has-both (without_file n what t) (each-removed IsNamed t.files n (names-of t has)) (pipes-left what (map.remove t.files n) t.pipes has.pipes)

  pub closed-bytes : (n : ℕ) (t : Table M) → FilesHaveBytes t → FilesHaveBytes (closed n t)
  unfolding closed
  closed-bytes n t has = by (map.get t.files n) refl
    where
      last : (h : Counted M) → map.get t.files n ≡ Some h → (b : Bool) → FilesHaveBytes (cond b (record t { files = map.insert t.files n (record h { count = h.count - 1 }) }) (without_file n h.opened.what t))
      last h is true = has-both (record t { files = map.insert t.files n (record h { count = h.count - 1 }) }) (each-inserted IsNamed t.files n (record h { count = h.count - 1 }) (names-of t has n h is) (names-of t has)) has.pipes
      last h is false = without-bytes n h.opened.what t has

      by : (o : Option (Counted M)) → map.get t.files n ≡ o
          → FilesHaveBytes (option_map_or (λ (h : Counted M). cond (nat_lt 1 h.count) (record t { files = map.insert t.files n (record h { count = h.count - 1 }) }) (without_file n h.opened.what t)) o t)
      by None is = has
      by (Some h) is = last h is (nat_lt 1 h.count)

  -- ---- what is changed

  pub opened-bytes : (n : ℕ) (f : Opened M → Opened M) (t : Table M) → ((o : Opened M) → AreBytes o.name → AreBytes (f o).name) → FilesHaveBytes t → FilesHaveBytes (with_opened n f t)
  opened-bytes n f t keeps has = has-both (with_opened n f t) (each-changed IsNamed t.files n (on_opened f) (names-of t has) (λ h e own. keeps h.opened own)) has.pipes

  pub all-opened-bytes : (f : Opened M → Opened M) (t : Table M) → ((o : Opened M) → AreBytes o.name → AreBytes (f o).name) → FilesHaveBytes t → FilesHaveBytes (with_all_opened f t)
  all-opened-bytes f t keeps has = has-both (with_all_opened f t) (each-mapped IsNamed (λ n. on_opened f) t.files (λ n h own. keeps h.opened own) (names-of t has)) has.pipes

  put-bytes : (p : ℕ) (bytes : List ℕ) (t : Table M) → AreBytes bytes → FilesHaveBytes t → FilesHaveBytes (with_bytes p bytes t)
  put-bytes p bytes t are has = has-both (with_bytes p bytes t) (names-of t has) (each-inserted AreBytes t.pipes p bytes are has.pipes)

  pub read-from-pipe : (p n : ℕ) (t : Table M) → FilesHaveBytes t → FilesHaveBytes (pipe_after_read p n t)
  read-from-pipe p n t has = by (map.get t.pipes p) refl
    where
      by : (o : Option (List ℕ)) → map.get t.pipes p ≡ o → FilesHaveBytes (option_map_or (λ bytes. with_bytes p (drop n bytes) t) o t)
      by None is = has
      by (Some bytes) is = put-bytes p (drop n bytes) t (rest-of n bytes (has.pipes p bytes is)) has

  pub written-to-pipe : (p : ℕ) (b : List ℕ) (t : Table M) → AreBytes b → FilesHaveBytes t → FilesHaveBytes (pipe_after_write p b t)
  written-to-pipe p b t new has = by (map.get t.pipes p) refl
    where
      by : (o : Option (List ℕ)) → map.get t.pipes p ≡ o → FilesHaveBytes (option_map_or (λ bytes. with_bytes p (after_write bytes (has_reader t p) b) t) o t)
      by None is = has
      by (Some bytes) is = put-bytes p (after_write bytes (has_reader t p) b) t (after-write bytes (has_reader t p) b (has.pipes p bytes is) new) has
