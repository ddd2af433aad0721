-- Calls that come to wait have done nothing before: they changed nothing, and of the memory they only read.
use Rattle.std.proofs.Common.{◌≡◌, ℕ, ◌+◌, ◌-◌, ◌*◌, ◌==◌, ◌&&◌, Bool, true, false, not, ℤ, List, [], ◌∷◌, length, take, drop, cond, nat_le, nat_lt, Option, Some, None, refl, ap, ◌∙◌}
use Rattle.std.specs.List.{find, list_any}
use Rattle.kr_core.specs.pr_base.declared.errno.Errno.TheVariants.{EBADF, ECHILD, EFAULT, EFBIG, EINVAL, EISDIR, ENOSPC}
use Rattle.kr_core.specs.rv_mem.Actions.{CarriedOut, MayUse, ReadBytes, allows_uses, carried_out}
use Rattle.kr_core.specs.rv_mem.Memory.{Memory, after_read}
use Rattle.kr_core.specs.rv_mem.Pages.{bytes_from}
use Rattle.kr_core.specs.rv_mem.declared.rights.Use.{Use}
use Rattle.kr_core.specs.rv_mem.declared.rights.Use.TheVariants.{Read}
use Rattle.kr_core.specs.kr_calls.CallTable.{sigpipe}
use Rattle.kr_core.specs.kr_calls.declared.request.Request.{Request}
use Rattle.kr_core.specs.kr_calls.declared.request.Request.TheVariants as call
use Rattle.kr_core.specs.kr_files.declared.opened.Opened.{Opened}
use Rattle.kr_core.specs.kr_files.declared.opened.What.{What}
use Rattle.kr_core.specs.kr_files.declared.opened.What.TheVariants.{File, Dir, In, Out, Err, PipeRead, PipeWrite}
use Rattle.kr_core.specs.kr_model.Asking.{descriptor_number, of_number, or_closed}
use Rattle.kr_core.specs.kr_model.Change.{PutIntoPipe, Seek, TakeFromPipe, TakeInput, WriteErr, WriteOut}
use Rattle.kr_core.specs.kr_model.DescriptorRows.{open_bytes}
use Rattle.kr_core.specs.kr_model.FileRows.{if_readable, if_writable, is_dir, pipe_limit, put_in_file, read_pieces, read_pipe, read_what, write_file, write_pieces, write_pipe, write_place, write_what}
use Rattle.kr_core.specs.kr_model.Known.{Known}
use Rattle.kr_core.specs.kr_model.Laws.{may_wait}
use Rattle.kr_core.specs.kr_model.Operation.{operation}
use Rattle.kr_core.specs.kr_model.Pieces.{Piece, asked, cut_to, may_use_all, move_limit, one_piece, pieces_of, read_all, with_list}
use Rattle.kr_core.specs.kr_model.ProcessRows.{hangs_not, is_meant, wait_for}
use Rattle.kr_core.specs.kr_model.Reply.{Reply, Replying, done, ends, refuse, waits}
use Rattle.kr_core.specs.kr_model.Seen.{Seen}
use Rattle.kr_core.specs.kr_model.State.{Ended}
use Rattle.kr_core.specs.kr_model.declared.outcome.Outcome.TheVariants.{Wait}
use Rattle.kr_core.proofs.kr_steps.PieceLemmas.{NeverWaits, Waits, answered, either, handed_never, never, read_never, reaped_never, refused}
use Rattle.kr_loose.specs.Marks.{HasNoMarks}
use Rattle.kr_loose.proofs.UnmarkedLemmas.{unread}

-- what a call that waits comes to
abbrev pub waited : Memory → CarriedOut Reply
waited m = record { reply = record { outcome = Wait; changes = [] }; memory = m }

-- an action that has only tested and read where it comes to wait
data Idle : Replying → Type 0 where
  waits_on : Idle waits
  ending : {status : ℕ} → Idle (ends status)
  other : {action : Replying} → NeverWaits action → Idle action
  on_test : {at n : ℕ} {uses : List Use} {next : Bool → Replying} → ((b : Bool) → Idle (next b)) → Idle (MayUse at n uses next)
  on_read : {at n : ℕ} {next : List ℕ → Replying} → ((bytes : List ℕ) → Idle (next bytes)) → Idle (ReadBytes at n next)
  one_of : (b : Bool) {x y : Replying} → Idle x → Idle y → Idle (cond b x y)

idle : (action : Replying) → Idle action → (m : Memory) → HasNoMarks m.pages → Waits action m → carried_out action m ≡ waited m
idle action waits_on m clear is = refl
idle action ending m clear is = absurd cc
idle action (other none) m clear is = absurd (never action none m is)
idle action (on_test {at = at} {n = n} {uses = uses} {next = next} each) m clear is = idle (next (allows_uses m.pages at n uses)) (each (allows_uses m.pages at n uses)) m clear is
idle action (on_read {at = at} {n = n} {next = next} each) m clear is =
    idle (next (bytes_from m.pages at n)) (each (bytes_from m.pages at n)) (after_read m at n) clear is ∙ ap waited (unread m at n clear)
idle action (one_of true {x = x} first second) m clear is = idle x first m clear is
idle action (one_of false {y = y} first second) m clear is = idle y second m clear is

-- ---- reading

pipe-read : (k : Known) (pipe : ℕ) (pieces : List Piece) (o : Option (List ℕ)) → Idle (read_pipe k pipe pieces o)
pipe-read k pipe pieces None = other answered
pipe-read k pipe pieces (Some []) = one_of (k.writer pipe) waits_on (other answered)
pipe-read k pipe pieces (Some (b ∷ bytes)) =
    let moved : List ℕ = take (asked pieces) (b ∷ bytes) in
    other (handed_never pieces moved (TakeFromPipe pipe (length moved) ∷ []))

what-read : (k : Known) (fd : ℕ) (o : Opened (Unit {0})) (pieces : List Piece) (what : What) → Idle (read_what k fd o pieces what)
what-read k fd o pieces File =
    let moved : List ℕ = take (asked pieces) (drop o.at (open_bytes k o)) in
    other (handed_never pieces moved (Seek fd (o.at + length moved) ∷ []))
what-read k fd o pieces Dir = other (refused EISDIR)
what-read k fd o pieces In =
    let moved : List ℕ = take (asked pieces) k.input in
    other (handed_never pieces moved (TakeInput (length moved) ∷ []))
what-read k fd o pieces Out = other (refused EBADF)
what-read k fd o pieces Err = other (refused EBADF)
what-read k fd o pieces (PipeRead p) = pipe-read k p pieces (k.pipe p)
what-read k fd o pieces (PipeWrite p) = other (refused EBADF)

pieces-read : (k : Known) (fd : ℕ) (o : Opened (Unit {0})) (pieces : List Piece) → Idle (read_pieces k fd o pieces)
pieces-read k fd o pieces = one_of (asked pieces == 0) (other answered) (what-read k fd o pieces o.what)

-- ---- writing

-- bytes into what is free of a pipe
abbrev into_pipe : ℕ → List Piece → List ℕ → Replying
into_pipe pipe pieces held = read_all (cut_to (pipe_limit - length held) pieces) (λ bytes. done (length bytes) (PutIntoPipe pipe bytes ∷ []))

into-pipe-never : (pipe : ℕ) (pieces : List Piece) (held : List ℕ) → NeverWaits (into_pipe pipe pieces held)
into-pipe-never pipe pieces held = read_never (cut_to (pipe_limit - length held) pieces) (λ bytes. answered)

pipe-written : (k : Known) (pipe : ℕ) (pieces : List Piece) (o : Option (List ℕ)) → Idle (write_pipe k pipe pieces o)
pipe-written k pipe pieces None = other answered
pipe-written k pipe pieces (Some held) =
    one_of (not (k.reader pipe)) ending (one_of (nat_le pipe_limit (length held)) waits_on (other (into-pipe-never pipe pieces held)))

put-never : (k : Known) (fd : ℕ) (o : Opened (Unit {0})) (at : ℕ) (bytes : List ℕ) → NeverWaits (put_in_file k fd o at bytes)
put-never k fd o at bytes = either _ (refused ENOSPC) answered

file-never : (k : Known) (fd : ℕ) (o : Opened (Unit {0})) (pieces : List Piece) (at : ℕ) → NeverWaits (write_file k fd o pieces at)
file-never k fd o pieces at = either _ (refused EFBIG) (read_never _ (put-never k fd o at))

out-never : (pieces : List Piece) → NeverWaits (read_all pieces (λ bytes. done (length bytes) (WriteOut bytes ∷ [])))
out-never pieces = read_never pieces (λ bytes. answered)

err-never : (pieces : List Piece) → NeverWaits (read_all pieces (λ bytes. done (length bytes) (WriteErr bytes ∷ [])))
err-never pieces = read_never pieces (λ bytes. answered)

what-written : (k : Known) (fd : ℕ) (o : Opened (Unit {0})) (pieces : List Piece) (what : What) → Idle (write_what k fd o pieces what)
what-written k fd o pieces File = other (file-never k fd o pieces (write_place k o))
what-written k fd o pieces Dir = other (refused EISDIR)
what-written k fd o pieces In = other (refused EBADF)
what-written k fd o pieces Out = other (out-never pieces)
what-written k fd o pieces Err = other (err-never pieces)
what-written k fd o pieces (PipeRead p) = other (refused EBADF)
what-written k fd o pieces (PipeWrite p) = pipe-written k p pieces (k.pipe p)

-- behind a test of all pieces
tested-idle : (what : Use) (pieces : List Piece) (next : Bool → Replying) → ((b : Bool) → Idle (next b)) → Idle (may_use_all what pieces next)
tested-idle what [] next each = each true
tested-idle what (p ∷ pieces) next each = on_test (λ allowed. tested-idle what pieces (λ others. next (allowed && others)) (λ others. each (allowed && others)))

pieces-written : (k : Known) (fd : ℕ) (o : Opened (Unit {0})) (pieces : List Piece) → Idle (write_pieces k fd o pieces)
pieces-written k fd o pieces =
    one_of (asked pieces == 0) (other answered)
    (tested-idle Read pieces (λ allowed. cond allowed (write_what k fd o pieces o.what) (refuse EFAULT)) (λ allowed. one_of allowed (what-written k fd o pieces o.what) (other (refused EFAULT))))

-- ---- by a descriptor, and with a list of pieces

numbered-idle : (k : Known) (fd : Option ℕ) (next : ℕ → Opened (Unit {0}) → Replying) → ((n : ℕ) (o : Opened (Unit {0})) → Idle (next n o)) → Idle (of_number k fd next)
numbered-idle k None next each = other (refused EBADF)
numbered-idle k (Some fd) next each = found (k.opened fd)
  where
    found : (o : Option (Opened (Unit {0}))) → Idle (or_closed o (next fd))
    found None = other (refused EBADF)
    found (Some o) = each fd o

readable-idle : (k : Known) (fd : ℤ) (next : ℕ → Opened (Unit {0}) → Replying) → ((n : ℕ) (o : Opened (Unit {0})) → Idle (next n o)) → Idle (if_readable k fd next)
readable-idle k fd next each =
    numbered-idle k (descriptor_number fd) (λ n o. cond (not o.read) (refuse EBADF) (cond (is_dir o.what) (refuse EISDIR) (next n o)))
    (λ n o. one_of (not o.read) (other (refused EBADF)) (one_of (is_dir o.what) (other (refused EISDIR)) (each n o)))

writable-idle : (k : Known) (fd : ℤ) (next : ℕ → Opened (Unit {0}) → Replying) → ((n : ℕ) (o : Opened (Unit {0})) → Idle (next n o)) → Idle (if_writable k fd next)
writable-idle k fd next each =
    numbered-idle k (descriptor_number fd) (λ n o. cond (not o.write) (refuse EBADF) (cond (is_dir o.what) (refuse EISDIR) (next n o)))
    (λ n o. one_of (not o.write) (other (refused EBADF)) (one_of (is_dir o.what) (other (refused EISDIR)) (each n o)))

listed-idle : (list count : ℕ) (next : List Piece → Replying) → ((pieces : List Piece) → Idle (next pieces)) → Idle (with_list list count next)
listed-idle list count next each =
    one_of (nat_lt 1024 count) (other (refused EINVAL))
    (on_test (λ allowed. one_of allowed
    (on_read (λ bytes. one_of (nat_lt 0x7fffffffffffffff (asked (pieces_of count bytes))) (other (refused EINVAL)) (each (cut_to move_limit (pieces_of count bytes)))))
    (other (refused EFAULT))))

-- ---- a child

child-idle : (lives no_hang : Bool) (status usage : ℕ) (o : Option Ended) → Idle (wait_for lives no_hang status usage o)
child-idle lives no_hang status usage (Some e) = other (reaped_never status usage e)
child-idle lives no_hang status usage None = one_of lives (one_of no_hang (other answered) waits_on) (other (refused ECHILD))

-- ---- every call that can wait

impossible : {A : Type 0} → false ≡ true → A
impossible e = absurd cc

row-idle : (pid : ℕ) (r : Request) (seen : Seen) (k : Known) → may_wait r ≡ true → Idle (operation pid r seen k)
row-idle pid (call.Read fd buf n) seen k may = readable-idle k fd (λ number o. read_pieces k number o (one_piece buf n)) (λ number o. pieces-read k number o (one_piece buf n))
row-idle pid (call.Readv fd list count) seen k may =
    readable-idle k fd (λ number o. with_list list count (read_pieces k number o)) (λ number o. listed-idle list count (read_pieces k number o) (pieces-read k number o))
row-idle pid (call.Write fd buf n) seen k may = writable-idle k fd (λ number o. write_pieces k number o (one_piece buf n)) (λ number o. pieces-written k number o (one_piece buf n))
row-idle pid (call.Writev fd list count) seen k may =
    writable-idle k fd (λ number o. with_list list count (write_pieces k number o)) (λ number o. listed-idle list count (write_pieces k number o) (pieces-written k number o))
row-idle pid (call.Wait4 child status options usage) seen k may =
    child-idle (list_any (λ p. p.parent == pid && is_meant child p.pid) k.living) (hangs_not options) status usage (find (λ e. e.parent == pid && is_meant child e.pid) k.ended)
row-idle pid _ seen k may = impossible may

pub waits-idly : (pid : ℕ) (r : Request) (seen : Seen) (k : Known) → may_wait r ≡ true → (m : Memory) → HasNoMarks m.pages → Waits (operation pid r seen k) m → carried_out (operation pid r seen k) m ≡ waited m
waits-idly pid r seen k may m clear is = idle (operation pid r seen k) (row-idle pid r seen k may) m clear is
