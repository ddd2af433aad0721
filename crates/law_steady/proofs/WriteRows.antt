-- What is written to what is open, and is no file, alters no file; and a write alters bytes where one of its changes does on the tree before them all.
use Rattle.std.proofs.Common.{◌≡◌, ℕ, ℤ, false, List, Option, Some, None, refl}
use Rattle.std.specs.List.{list_any}
use Rattle.law_lawful.specs.pr_base.declared.errno.Errno.TheVariants.{EBADF, EFBIG, EISDIR, ENOSPC}
use Rattle.law_lawful.specs.kr_calls.declared.request.Request.TheVariants as call
use Rattle.law_lawful.specs.kr_files.declared.opened.Opened.{Opened}
use Rattle.law_lawful.specs.kr_files.declared.opened.What.{What}
use Rattle.law_lawful.specs.kr_files.declared.opened.What.TheVariants.{File, Dir, In, Out, Err, PipeRead, PipeWrite}
use Rattle.law_lawful.specs.kr_model.Applied.{Mounts}
use Rattle.law_lawful.specs.kr_model.FileRows.{if_writable, is_file_open, put_in_file, write_file, write_pieces, write_pipe, write_row, write_what, writev_row}
use Rattle.law_lawful.specs.kr_model.Judged.{leaves_bytes}
use Rattle.law_lawful.specs.kr_model.Known.{Known}
use Rattle.law_lawful.specs.kr_model.Pieces.{Piece, one_piece}
use Rattle.law_lawful.specs.kr_model.Reply.{Reply, Replying}
use Rattle.law_lawful.specs.kr_model.State.{Image, State}
use Rattle.law_steady.specs.Ahead.{WritesAreFound}
use Rattle.law_steady.specs.Along.{passes_along}
use Rattle.law_steady.specs.Bytes.{alters_bytes_of}
use Rattle.law_steady.proofs.EndLemmas.{Ends, Pass, all_read, answered, by_open, either, ending, ends_hold, listed, refused, usable, waiting}

pipe_leaves : (k : Known) (pipe : ℕ) (pieces : List Piece) (o : Option (List ℕ)) → Pass leaves_bytes (write_pipe k pipe pieces o)
pipe_leaves k pipe pieces None = answered refl
pipe_leaves k pipe pieces (Some held) = either _ (ending refl) (either _ (waiting refl) (all_read (λ e. refl) _ (λ bytes. answered refl)))

what_leaves : (k : Known) (fd : ℕ) (o : Opened (Unit {0})) (pieces : List Piece) (what : What) → is_file_open what ≡ false → Pass leaves_bytes (write_what k fd o pieces what)
what_leaves k fd o pieces File away = absurd cc
what_leaves k fd o pieces Dir away = refused EISDIR refl
what_leaves k fd o pieces In away = refused EBADF refl
what_leaves k fd o pieces Out away = all_read (λ e. refl) pieces (λ bytes. answered refl)
what_leaves k fd o pieces Err away = all_read (λ e. refl) pieces (λ bytes. answered refl)
what_leaves k fd o pieces (PipeRead p) away = refused EBADF refl
what_leaves k fd o pieces (PipeWrite p) away = pipe_leaves k p pieces (k.pipe p)

pub elsewhere_leaves : (k : Known) (fd : ℕ) (o : Opened (Unit {0})) (pieces : List Piece) → is_file_open o.what ≡ false → Pass leaves_bytes (write_pieces k fd o pieces)
elsewhere_leaves k fd o pieces away = either _ (answered refl) (usable (λ e. refl) _ pieces (what_leaves k fd o pieces o.what away))

-- ---- of a write, by its own changes

module _ {M : Type 0} (mounts : Mounts M) (pid : ℕ) (s : State M Image) where
  abbrev IsFound : Reply → Type 0
  IsFound reply = passes_along alters_bytes_of mounts pid s reply.changes ≡ list_any (alters_bytes_of s.tree) reply.changes

  abbrev Found : Replying → Type 0
  Found row = Ends IsFound row

  pipe_found : (k : Known) (pipe : ℕ) (pieces : List Piece) (o : Option (List ℕ)) → Found (write_pipe k pipe pieces o)
  pipe_found k pipe pieces None = answered refl
  pipe_found k pipe pieces (Some held) = either _ (ending refl) (either _ (waiting refl) (all_read (λ e. refl) _ (λ bytes. answered refl)))

  put_found : (k : Known) (fd : ℕ) (o : Opened (Unit {0})) (at : ℕ) (bytes : List ℕ) → Found (put_in_file k fd o at bytes)
  put_found k fd o at bytes = either _ (refused ENOSPC refl) (answered refl)

  file_found : (k : Known) (fd : ℕ) (o : Opened (Unit {0})) (pieces : List Piece) (at : ℕ) → Found (write_file k fd o pieces at)
  file_found k fd o pieces at = either _ (refused EFBIG refl) (all_read (λ e. refl) _ (put_found k fd o at))

  what_found : (k : Known) (fd : ℕ) (o : Opened (Unit {0})) (pieces : List Piece) (what : What) → Found (write_what k fd o pieces what)
  what_found k fd o pieces File = file_found k fd o pieces _
  what_found k fd o pieces Dir = refused EISDIR refl
  what_found k fd o pieces In = refused EBADF refl
  what_found k fd o pieces Out = all_read (λ e. refl) pieces (λ bytes. answered refl)
  what_found k fd o pieces Err = all_read (λ e. refl) pieces (λ bytes. answered refl)
  what_found k fd o pieces (PipeRead p) = refused EBADF refl
  what_found k fd o pieces (PipeWrite p) = pipe_found k p pieces (k.pipe p)

  pieces_found : (k : Known) (fd : ℕ) (o : Opened (Unit {0})) (pieces : List Piece) → Found (write_pieces k fd o pieces)
  pieces_found k fd o pieces = either _ (answered refl) (usable (λ e. refl) _ pieces (what_found k fd o pieces o.what))

  open_found : (k : Known) (fd : ℤ) {next : ℕ → Opened (Unit {0}) → Replying} → ((n : ℕ) (o : Opened (Unit {0})) → Found (next n o)) → Found (if_writable k fd next)
  open_found k fd each = by_open (λ e. refl) k fd (λ n o. either _ (refused EBADF refl) (either _ (refused EISDIR refl) (each n o)))

  write_found : (k : Known) (fd : ℤ) (buf n : ℕ) → Found (write_row k fd buf n)
  write_found k fd buf n = open_found k fd (λ number o. pieces_found k number o (one_piece buf n))

  writev_found : (k : Known) (fd : ℤ) (list count : ℕ) → Found (writev_row k fd list count)
  writev_found k fd list count = open_found k fd (λ number o. listed (λ e. refl) list count (λ pieces. pieces_found k number o pieces))

pub writes_are_found : (M : Type 0) → WritesAreFound M
writes_are_found M mounts pid s (call.Write fd buf n) seen k m is = ends_hold (write_row k fd buf n) (write_found mounts pid s k fd buf n) m
writes_are_found M mounts pid s (call.Writev fd list count) seen k m is = ends_hold (writev_row k fd list count) (writev_found mounts pid s k fd list count) m
writes_are_found M mounts pid s _ seen k m is = absurd is
