-- When the rows that may wait come to wait.
use Rattle.std.proofs.Common.{◌≡◌, ℕ, suc, ◌-◌, ◌*◌, Bool, true, false, not, ◌&&◌, cond, List, [], ◌∷◌, length, refl, sym, ap, ◌∙◌, arith, Option, Some, None, ℤ, is_some}
use Rattle.std.specs.Prelude.{◌==◌, nat_lt, nat_le}
use Rattle.std.specs.Option.{option_map, option_map_or, option_and_then}
use Rattle.std.proofs.lemmas.Bool.{and_parts}
use Rattle.std.proofs.lemmas.Bool.Decides.{nat_tests}
use Rattle.rv_cpu.specs.pr_base.declared.errno.Errno.TheVariants.{EBADF, EFAULT, EFBIG, EINVAL, EISDIR, ENOSPC}
use Rattle.rv_cpu.specs.rv_mem.Actions.{MayUse, ReadBytes, carried_out, allows_uses}
use Rattle.rv_cpu.specs.rv_mem.Memory.{Memory, after_read}
use Rattle.rv_cpu.specs.rv_mem.Pages.{Pages, bytes_from}
use Rattle.rv_cpu.specs.rv_mem.declared.rights.Use.TheVariants.{Read}
use Rattle.kr_perform.specs.kr_calls.CallTable.{sigpipe}
use Rattle.kr_perform.specs.kr_files.declared.opened.Opened.{Opened}
use Rattle.kr_perform.specs.kr_files.declared.opened.What.{What}
use Rattle.kr_perform.specs.kr_files.declared.opened.What.TheVariants.{File, Dir, In, Out, Err, PipeRead, PipeWrite}
use Rattle.kr_perform.specs.kr_model.Asking.{descriptor_number, or_closed, of_number, or_badf}
use Rattle.kr_perform.specs.kr_model.Change.{PutIntoPipe}
use Rattle.kr_perform.specs.kr_model.FileRows.{is_dir, pipe_limit, read_pipe, read_what, read_pieces, write_pipe, put_in_file, write_file, write_what, write_pieces}
use Rattle.kr_perform.specs.kr_model.Known.{Known}
use Rattle.kr_perform.specs.kr_model.Pieces.{Piece, asked, cut_to, pieces_of, move_limit, read_all, if_usable, if_summed, with_list}
use Rattle.kr_perform.specs.kr_model.ProcessRows.{wait_for}
use Rattle.kr_perform.specs.kr_model.Reply.{Replying, done, refuse, waits, ends}
use Rattle.kr_perform.specs.kr_model.State.{Ended}
use Rattle.kr_steps.specs.Waiting.{read_waits, write_waits, open_waits}
use Rattle.kr_steps.specs.Waits.{Nature, nature, IsAsWhenItWaited}
use Rattle.kr_steps.proofs.PieceLemmas.{Waits, NeverWaits, refused, answered, either, never, usable_on, used, read_never, handed_never, reaped_never}

-- ---- tests

not_empty : (n : ℕ) → (suc n == 0) ≡ true → ⊥
not_empty n e = absurd (grind (arith, nat_tests))

-- ---- reading

pipe_read_told : (k : Known) (pipe : ℕ) (pieces : List Piece) (m : Memory) (o : Option (List ℕ)) → Waits (read_pipe k pipe pieces o) m → option_map_or (λ bytes. length bytes == 0) o false && k.writer pipe ≡ true
pipe_read_told k pipe pieces m None is = absurd cc
pipe_read_told k pipe pieces m (Some []) is = by (k.writer pipe) is
  where
    by : (b : Bool) → Waits (cond b waits (done 0 [])) m → b ≡ true
    by true is = refl
    by false is = absurd cc
pipe_read_told k pipe pieces m (Some (b ∷ bytes)) is = absurd (never _ (handed_never pieces _ _) m is)

pipe_read_comes : (k : Known) (pipe : ℕ) (pieces : List Piece) (m : Memory) (o : Option (List ℕ)) → option_map_or (λ bytes. length bytes == 0) o false && k.writer pipe ≡ true → Waits (read_pipe k pipe pieces o) m
pipe_read_comes k pipe pieces m None is = absurd cc
pipe_read_comes k pipe pieces m (Some []) is = by (k.writer pipe) is
  where
    by : (b : Bool) → b ≡ true → Waits (cond b waits (done 0 [])) m
    by true is = refl
    by false is = absurd cc
pipe_read_comes k pipe pieces m (Some (b ∷ bytes)) is = absurd (not_empty (length bytes) (and_parts (length (b ∷ bytes) == 0) (k.writer pipe) is).0)

what_read_told : (k : Known) (fd : ℕ) (o : Opened (Unit {0})) (pieces : List Piece) (m : Memory) (what : What) → Waits (read_what k fd o pieces what) m → read_waits k what ≡ true
what_read_told k fd o pieces m File is = absurd (never _ (handed_never pieces _ _) m is)
what_read_told k fd o pieces m Dir is = absurd cc
what_read_told k fd o pieces m In is = absurd (never _ (handed_never pieces _ _) m is)
what_read_told k fd o pieces m Out is = absurd cc
what_read_told k fd o pieces m Err is = absurd cc
what_read_told k fd o pieces m (PipeRead p) is = pipe_read_told k p pieces m (k.pipe p) is
what_read_told k fd o pieces m (PipeWrite p) is = absurd cc

what_read_comes : (k : Known) (fd : ℕ) (o : Opened (Unit {0})) (pieces : List Piece) (m : Memory) (what : What) → read_waits k what ≡ true → Waits (read_what k fd o pieces what) m
what_read_comes k fd o pieces m File is = absurd cc
what_read_comes k fd o pieces m Dir is = absurd cc
what_read_comes k fd o pieces m In is = absurd cc
what_read_comes k fd o pieces m Out is = absurd cc
what_read_comes k fd o pieces m Err is = absurd cc
what_read_comes k fd o pieces m (PipeRead p) is = pipe_read_comes k p pieces m (k.pipe p) is
what_read_comes k fd o pieces m (PipeWrite p) is = absurd cc

-- ---- writing

-- bytes into what is free of a pipe
abbrev into_pipe : ℕ → List Piece → List ℕ → Replying
into_pipe pipe pieces held = read_all (cut_to (pipe_limit - length held) pieces) (λ bytes. done (length bytes) (PutIntoPipe pipe bytes ∷ []))

into_pipe_never : (pipe : ℕ) (pieces : List Piece) (held : List ℕ) → NeverWaits (into_pipe pipe pieces held)
into_pipe_never pipe pieces held = read_never (cut_to (pipe_limit - length held) pieces) (λ bytes. answered)

pipe_written_told : (k : Known) (pipe : ℕ) (pieces : List Piece) (m : Memory) (o : Option (List ℕ)) → Waits (write_pipe k pipe pieces o) m → option_map_or (λ bytes. nat_le pipe_limit (length bytes)) o false && k.reader pipe ≡ true
pipe_written_told k pipe pieces m None is = absurd cc
pipe_written_told k pipe pieces m (Some held) is = by (k.reader pipe) (nat_le pipe_limit (length held)) is
  where
    by : (reads full : Bool) → Waits (cond (not reads) (ends sigpipe) (cond full waits (into_pipe pipe pieces held))) m → full && reads ≡ true
    by false full is = absurd cc
    by true true is = refl
    by true false is = absurd (never (into_pipe pipe pieces held) (into_pipe_never pipe pieces held) m is)

pipe_written_comes : (k : Known) (pipe : ℕ) (pieces : List Piece) (m : Memory) (o : Option (List ℕ)) → option_map_or (λ bytes. nat_le pipe_limit (length bytes)) o false && k.reader pipe ≡ true → Waits (write_pipe k pipe pieces o) m
pipe_written_comes k pipe pieces m None is = absurd cc
pipe_written_comes k pipe pieces m (Some held) is = by (k.reader pipe) (nat_le pipe_limit (length held)) is
  where
    by : (reads full : Bool) → full && reads ≡ true → Waits (cond (not reads) (ends sigpipe) (cond full waits (into_pipe pipe pieces held))) m
    by true true is = refl
    by true false is = absurd cc
    by false true is = absurd cc
    by false false is = absurd cc

put_never : (k : Known) (fd : ℕ) (o : Opened (Unit {0})) (at : ℕ) (bytes : List ℕ) → NeverWaits (put_in_file k fd o at bytes)
put_never k fd o at bytes = either _ (refused ENOSPC) answered

file_never : (k : Known) (fd : ℕ) (o : Opened (Unit {0})) (pieces : List Piece) (at : ℕ) → NeverWaits (write_file k fd o pieces at)
file_never k fd o pieces at = either _ (refused EFBIG) (read_never _ (put_never k fd o at))

what_written_told : (k : Known) (fd : ℕ) (o : Opened (Unit {0})) (pieces : List Piece) (m : Memory) (what : What) → Waits (write_what k fd o pieces what) m → write_waits k what ≡ true
what_written_told k fd o pieces m File is = absurd (never _ (file_never k fd o pieces _) m is)
what_written_told k fd o pieces m Dir is = absurd cc
what_written_told k fd o pieces m In is = absurd cc
what_written_told k fd o pieces m Out is = absurd (never _ (read_never pieces (λ bytes. answered)) m is)
what_written_told k fd o pieces m Err is = absurd (never _ (read_never pieces (λ bytes. answered)) m is)
what_written_told k fd o pieces m (PipeRead p) is = absurd cc
what_written_told k fd o pieces m (PipeWrite p) is = pipe_written_told k p pieces m (k.pipe p) is

what_written_comes : (k : Known) (fd : ℕ) (o : Opened (Unit {0})) (pieces : List Piece) (m : Memory) (what : What) → write_waits k what ≡ true → Waits (write_what k fd o pieces what) m
what_written_comes k fd o pieces m File is = absurd cc
what_written_comes k fd o pieces m Dir is = absurd cc
what_written_comes k fd o pieces m In is = absurd cc
what_written_comes k fd o pieces m Out is = absurd cc
what_written_comes k fd o pieces m Err is = absurd cc
what_written_comes k fd o pieces m (PipeRead p) is = absurd cc
what_written_comes k fd o pieces m (PipeWrite p) is = pipe_written_comes k p pieces m (k.pipe p) is

-- ---- on some pieces

-- such a row comes to wait exactly where its pieces fit the pages and what is open passes a test
pub record Tries (next : Known → ℕ → Opened (Unit {0}) → Replying) (test : Known → What → Bool) (fits : Pages → Bool) : Type 0 where
  pub told : (k : Known) (fd : ℕ) (o : Opened (Unit {0})) (m : Memory) → Waits (next k fd o) m → (fits m.pages ≡ true) × (test k o.what ≡ true)
  pub comes : (k : Known) (fd : ℕ) (o : Opened (Unit {0})) (m : Memory) → fits m.pages ≡ true → test k o.what ≡ true → Waits (next k fd o) m

abbrev pub reads_fit : Pages → List Piece → Bool
reads_fit pages pieces = not (asked pieces == 0)

module _ (pieces : List Piece) where
  read_told : (none : Bool) (k : Known) (fd : ℕ) (o : Opened (Unit {0})) (m : Memory) → Waits (cond none (done 0 []) (read_what k fd o pieces o.what)) m → (not none ≡ true) × (read_waits k o.what ≡ true)
  read_told true k fd o m is = absurd cc
  read_told false k fd o m is = (refl, what_read_told k fd o pieces m o.what is)

  read_comes : (none : Bool) (k : Known) (fd : ℕ) (o : Opened (Unit {0})) (m : Memory) → not none ≡ true → read_waits k o.what ≡ true → Waits (cond none (done 0 []) (read_what k fd o pieces o.what)) m
  read_comes true k fd o m fit is = absurd cc
  read_comes false k fd o m fit is = what_read_comes k fd o pieces m o.what is

  pub reading : Tries (λ k fd o. read_pieces k fd o pieces) read_waits (λ pages. reads_fit pages pieces)
  reading = record { told = λ k fd o m is. read_told (asked pieces == 0) k fd o m is; comes = λ k fd o m fit is. read_comes (asked pieces == 0) k fd o m fit is }

abbrev pub writes_fit : Pages → List Piece → Bool
writes_fit pages pieces = not (asked pieces == 0) && usable_on pages Read pieces

module _ (pieces : List Piece) (k : Known) (fd : ℕ) (o : Opened (Unit {0})) (m : Memory) where
  abbrev into_what : Replying
  into_what = write_what k fd o pieces o.what

  outcome_is : (carried_out (if_usable Read pieces into_what) m).reply.outcome ≡ (carried_out (cond (usable_on m.pages Read pieces) into_what (refuse EFAULT)) m).reply.outcome
  outcome_is = ap (λ c. c.reply.outcome) (used Read pieces (λ allowed. cond allowed into_what (refuse EFAULT)) m)

  usable_told : (b : Bool) → Waits (cond b into_what (refuse EFAULT)) m → (b ≡ true) × (write_waits k o.what ≡ true)
  usable_told true is = (refl, what_written_told k fd o pieces m o.what is)
  usable_told false is = absurd cc

  usable_comes : (b : Bool) → b ≡ true → write_waits k o.what ≡ true → Waits (cond b into_what (refuse EFAULT)) m
  usable_comes true fit is = what_written_comes k fd o pieces m o.what is
  usable_comes false fit is = absurd cc

  write_told : (none : Bool) → Waits (cond none (done 0 []) (if_usable Read pieces into_what)) m → (not none && usable_on m.pages Read pieces ≡ true) × (write_waits k o.what ≡ true)
  write_told true is = absurd cc
  write_told false is = usable_told (usable_on m.pages Read pieces) (sym outcome_is ∙ is)

  write_comes : (none : Bool) → not none && usable_on m.pages Read pieces ≡ true → write_waits k o.what ≡ true → Waits (cond none (done 0 []) (if_usable Read pieces into_what)) m
  write_comes true fit is = absurd cc
  write_comes false fit is = outcome_is ∙ usable_comes (usable_on m.pages Read pieces) fit is

pub writing : (pieces : List Piece) → Tries (λ k fd o. write_pieces k fd o pieces) write_waits (λ pages. writes_fit pages pieces)
writing pieces = record {
  told = λ k fd o m is. write_told pieces k fd o m (asked pieces == 0) is;
  comes = λ k fd o m fit is. write_comes pieces k fd o m (asked pieces == 0) fit is;
}

-- ---- on a list of pieces

-- the pieces of a list that lies in memory
abbrev listed_on : (list count : ℕ) → Pages → List Piece
listed_on list count pages = pieces_of count (bytes_from pages list (16 * count))

abbrev too_large : List Piece → Bool
too_large pieces = nat_lt 0x7fffffffffffffff (asked pieces)

-- the list can be read, and its pieces fit
abbrev pub list_fits : (Pages → List Piece → Bool) → (list count : ℕ) → Pages → Bool
list_fits fits list count pages =
    not (nat_lt 1024 count)
    && (allows_uses pages list (16 * count) (Read ∷ []) && (not (too_large (listed_on list count pages)) && fits pages (cut_to move_limit (listed_on list count pages))))

module _ (next : Known → ℕ → Opened (Unit {0}) → List Piece → Replying) (test : Known → What → Bool) (fits : Pages → List Piece → Bool)
    (tries : (pieces : List Piece) → Tries (λ k fd o. next k fd o pieces) test (λ pages. fits pages pieces)) (list count : ℕ) where
  module _ (k : Known) (fd : ℕ) (o : Opened (Unit {0})) (m : Memory) where
    -- behind the list
    abbrev behind : Memory
    behind = after_read m list (16 * count)

    abbrev moved : List Piece
    moved = cut_to move_limit (listed_on list count m.pages)

    sum_told : (large : Bool) → Waits (cond large (refuse EINVAL) (next k fd o moved)) behind → (not large && fits m.pages moved ≡ true) × (test k o.what ≡ true)
    sum_told true is = absurd cc
    sum_told false is = (tries moved).told k fd o behind is

    sum_comes : (large : Bool) → not large && fits m.pages moved ≡ true → test k o.what ≡ true → Waits (cond large (refuse EINVAL) (next k fd o moved)) behind
    sum_comes true fit is = absurd cc
    sum_comes false fit is = (tries moved).comes k fd o behind fit is

    abbrev reads_list : Bool → Replying
    reads_list allowed = cond allowed (ReadBytes list (16 * count) (λ bytes. if_summed (pieces_of count bytes) (next k fd o))) (refuse EFAULT)

    allowed_told : (allowed : Bool) → Waits (reads_list allowed) m → (allowed && (not (too_large (listed_on list count m.pages)) && fits m.pages moved) ≡ true) × (test k o.what ≡ true)
    allowed_told true is = sum_told (too_large (listed_on list count m.pages)) is
    allowed_told false is = absurd cc

    allowed_comes : (allowed : Bool) → allowed && (not (too_large (listed_on list count m.pages)) && fits m.pages moved) ≡ true → test k o.what ≡ true → Waits (reads_list allowed) m
    allowed_comes true fit is = sum_comes (too_large (listed_on list count m.pages)) fit is
    allowed_comes false fit is = absurd cc

    list_told : (many : Bool) → Waits (cond many (refuse EINVAL) (MayUse list (16 * count) (Read ∷ []) reads_list)) m
        → (not many && (allows_uses m.pages list (16 * count) (Read ∷ []) && (not (too_large (listed_on list count m.pages)) && fits m.pages moved)) ≡ true) × (test k o.what ≡ true)
    list_told true is = absurd cc
    list_told false is = allowed_told (allows_uses m.pages list (16 * count) (Read ∷ [])) is

    list_comes : (many : Bool) → not many && (allows_uses m.pages list (16 * count) (Read ∷ []) && (not (too_large (listed_on list count m.pages)) && fits m.pages moved)) ≡ true → test k o.what ≡ true
        → Waits (cond many (refuse EINVAL) (MayUse list (16 * count) (Read ∷ []) reads_list)) m
    list_comes true fit is = absurd cc
    list_comes false fit is = allowed_comes (allows_uses m.pages list (16 * count) (Read ∷ [])) fit is

  pub listing : Tries (λ k fd o. with_list list count (next k fd o)) test (list_fits fits list count)
  listing = record { told = λ k fd o m is. list_told k fd o m (nat_lt 1024 count) is; comes = λ k fd o m fit is. list_comes k fd o m (nat_lt 1024 count) fit is }

-- ---- by a descriptor

-- what is done with what is open, if it was opened so and is no directory
abbrev pub if_open : (Nature → Bool) → (ℕ → Opened (Unit {0}) → Replying) → ℕ → Opened (Unit {0}) → Replying
if_open access next n o = cond (not (access (nature o))) (refuse EBADF) (cond (is_dir o.what) (refuse EISDIR) (next n o))

abbrev pub on_open : (Nature → Bool) → (ℕ → Opened (Unit {0}) → Replying) → Known → ℤ → Replying
on_open access next k fd = or_badf k fd (if_open access next)

-- what a row came upon where it waits
record CameUpon (access : Nature → Bool) (next : ℕ → Opened (Unit {0}) → Replying) (k : Known) (fd : ℤ) (m : Memory) : Type 0 where
  pub number : ℕ
  pub file : Opened (Unit {0})
  pub numbered : descriptor_number fd ≡ Some number
  pub opened : k.opened number ≡ Some file
  pub may : access (nature file) ≡ true
  pub flat : is_dir file.what ≡ false
  pub waiting : Waits (next number file) m

module _ (access : Nature → Bool) (next : ℕ → Opened (Unit {0}) → Replying) (k : Known) (fd : ℤ) (m : Memory) where
  came_upon : Waits (on_open access next k fd) m → CameUpon access next k fd m
  came_upon is = by_number (descriptor_number fd) refl is
    where
      by_kind : (n : ℕ) → descriptor_number fd ≡ Some n → (o : Opened (Unit {0})) → k.opened n ≡ Some o → (may dir : Bool) → access (nature o) ≡ may → is_dir o.what ≡ dir
          → Waits (cond (not may) (refuse EBADF) (cond dir (refuse EISDIR) (next n o))) m → CameUpon access next k fd m
      by_kind n numbered o opened false dir may flat is = absurd cc
      by_kind n numbered o opened true true may flat is = absurd cc
      by_kind n numbered o opened true false may flat is = record { number = n; file = o; numbered = numbered; opened = opened; may = may; flat = flat; waiting = is }

      by_file : (n : ℕ) → descriptor_number fd ≡ Some n → (f : Option (Opened (Unit {0}))) → k.opened n ≡ f → Waits (or_closed f (if_open access next n)) m → CameUpon access next k fd m
      by_file n numbered None opened is = absurd cc
      by_file n numbered (Some o) opened is = by_kind n numbered o opened (access (nature o)) (is_dir o.what) refl refl is

      by_number : (d : Option ℕ) → descriptor_number fd ≡ d → Waits (of_number k d (if_open access next)) m → CameUpon access next k fd m
      by_number None numbered is = absurd cc
      by_number (Some n) numbered is = by_file n numbered (k.opened n) refl is

  goes_on : (n : ℕ) (o : Opened (Unit {0})) → descriptor_number fd ≡ Some n → k.opened n ≡ Some o → access (nature o) ≡ true → is_dir o.what ≡ false → on_open access next k fd ≡ next n o
  goes_on n o numbered opened may flat =
      ap (λ d. of_number k d (if_open access next)) numbered ∙ ap (λ f. or_closed f (if_open access next n)) opened
      ∙ ap (λ b. cond (not b) (refuse EBADF) (cond (is_dir o.what) (refuse EISDIR) (next n o))) may ∙ ap (λ b. cond b (refuse EISDIR) (next n o)) flat

-- what is open under a descriptor passes a test
open_is : (test : What → Bool) (k : Known) (fd : ℤ) (n : ℕ) → descriptor_number fd ≡ Some n → (f : Option (Opened (Unit {0}))) → k.opened n ≡ f → open_waits test k (descriptor_number fd) ≡ option_map_or (λ o. test o.what) f false
open_is test k fd n numbered f opened =
    ap (λ d. option_map_or (λ (o : Opened (Unit {0})). test o.what) (option_and_then k.opened d) false) numbered ∙ ap (λ f. option_map_or (λ (o : Opened (Unit {0})). test o.what) f false) opened

impossible : {A : Type 0} → false ≡ true → A
impossible e = absurd cc

module _ (access : Nature → Bool) (next : Known → ℕ → Opened (Unit {0}) → Replying) (test : Known → What → Bool) (fits : Pages → Bool) (tries : Tries next test fits) (fd : ℤ) where
  pub row_told : (k : Known) (m : Memory) → Waits (on_open access (next k) k fd) m → open_waits (test k) k (descriptor_number fd) ≡ true
  row_told k m is =
      let came = came_upon access (next k) k fd m is in
      open_is (test k) k fd came.number came.numbered (Some came.file) came.opened ∙ (tries.told k came.number came.file m came.waiting).1

  again : (before now : Known) (m w : Memory) → CameUpon access (next before) before fd m → IsAsWhenItWaited before now m w → open_waits (test now) now (descriptor_number fd) ≡ true
      → Waits (on_open access (next now) now fd) w
  again before now m w came alike still = by (now.opened came.number) refl
    where
      by : (f : Option (Opened (Unit {0}))) → now.opened came.number ≡ f → Waits (on_open access (next now) now fd) w
      by None opened = impossible (sym (open_is (test now) now fd came.number came.numbered None opened) ∙ still)
      by (Some o) opened =
          let same : Some (nature o) ≡ Some (nature came.file) = ap (option_map nature) (sym opened) ∙ alike.opened came.number ∙ ap (option_map nature) came.opened in
          let natures : nature o ≡ nature came.file = cc in
          let goes = goes_on access (next now) now fd w came.number o came.numbered opened (ap access natures ∙ came.may) (ap (λ n. is_dir n.what) natures ∙ came.flat) in
          let fit = ap fits alike.pages ∙ (tries.told before came.number came.file m came.waiting).0 in
          let passes = sym (open_is (test now) now fd came.number came.numbered (Some o) opened) ∙ still in
          ap (λ (a : Replying). (carried_out a w).reply.outcome) goes ∙ tries.comes now came.number o w fit passes

  pub row_comes : (before now : Known) (m w : Memory) → Waits (on_open access (next before) before fd) m → IsAsWhenItWaited before now m w → open_waits (test now) now (descriptor_number fd) ≡ true
      → Waits (on_open access (next now) now fd) w
  row_comes before now m w is alike still = again before now m w (came_upon access (next before) before fd m is) alike still

-- ---- waiting for a child

pub child_told : (status usage : ℕ) (m : Memory) (lives no_hang : Bool) (o : Option Ended) → Waits (wait_for lives no_hang status usage o) m → (not (is_some o) && lives ≡ true) × (no_hang ≡ false)
child_told status usage m lives no_hang (Some e) is = absurd (never _ (reaped_never status usage e) m is)
child_told status usage m true true None is = absurd cc
child_told status usage m true false None is = (refl, refl)
child_told status usage m false no_hang None is = absurd cc

pub child_comes : (status usage : ℕ) (m : Memory) (lives no_hang : Bool) (o : Option Ended) → not (is_some o) && lives ≡ true → no_hang ≡ false → Waits (wait_for lives no_hang status usage o) m
child_comes status usage m lives no_hang (Some e) is hangs = absurd cc
child_comes status usage m true true None is hangs = absurd cc
child_comes status usage m true false None is hangs = refl
child_comes status usage m false no_hang None is hangs = absurd cc
