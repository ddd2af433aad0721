-- Calls that wait have to wait still, and those that have to wait still wait.
use Rattle.std.proofs.Common.{◌≡◌, ℕ, true, sym, ◌∙◌}
use Rattle.std.specs.Prelude.{◌==◌, ◌&&◌}
use Rattle.std.specs.List.{find, list_any}
use Rattle.rv_cpu.specs.rv_mem.Memory.{Memory}
use Rattle.kr_perform.specs.kr_calls.declared.request.Request.{Request}
use Rattle.kr_perform.specs.kr_calls.declared.request.Request.TheVariants as call
use Rattle.kr_perform.specs.kr_model.FileRows.{read_pieces, write_pieces}
use Rattle.kr_perform.specs.kr_model.Known.{Known}
use Rattle.kr_perform.specs.kr_model.Laws.{may_wait}
use Rattle.kr_perform.specs.kr_model.Pieces.{one_piece, with_list}
use Rattle.kr_perform.specs.kr_model.ProcessRows.{is_meant, hangs_not}
use Rattle.kr_perform.specs.kr_model.Seen.{Seen}
use Rattle.kr_perform.proofs.kr_model.LineLemmas.{waits_as_told}
use Rattle.kr_steps.specs.Waiting.{read_waits, write_waits}
use Rattle.kr_steps.specs.Waits.{request_waits, ComesToWait, IsAsWhenItWaited, WaitsAreSeen, WaitsLast}
use Rattle.kr_steps.proofs.DecodedLemmas.{decoded_waits}
use Rattle.kr_steps.proofs.RowLemmas.{Tries, reads_fit, writes_fit, list_fits, reading, writing, listing, row_told, row_comes, child_told, child_comes}

-- the rows of one piece, and of a list of them
abbrev reads_one : (buf n : ℕ) → Tries (λ k fd o. read_pieces k fd o (one_piece buf n)) read_waits (λ pages. reads_fit pages (one_piece buf n))
reads_one buf n = reading (one_piece buf n)

abbrev reads_list : (list count : ℕ) → Tries (λ k fd o. with_list list count (read_pieces k fd o)) read_waits (list_fits reads_fit list count)
reads_list list count = listing read_pieces read_waits reads_fit reading list count

abbrev writes_one : (buf n : ℕ) → Tries (λ k fd o. write_pieces k fd o (one_piece buf n)) write_waits (λ pages. writes_fit pages (one_piece buf n))
writes_one buf n = writing (one_piece buf n)

abbrev writes_list : (list count : ℕ) → Tries (λ k fd o. with_list list count (write_pieces k fd o)) write_waits (list_fits writes_fit list count)
writes_list list count = listing write_pieces write_waits writes_fit writing list count

-- ---- by the request

told : (caller : ℕ) (r : Request) (seen : Seen) (k : Known) (m : Memory) → may_wait r ≡ true → ComesToWait caller r seen k m → request_waits k caller r ≡ true
told caller (call.Read fd buf n) seen k m may is = row_told (λ n. n.read) _ read_waits _ (reads_one buf n) fd k m is
told caller (call.Readv fd list count) seen k m may is = row_told (λ n. n.read) _ read_waits _ (reads_list list count) fd k m is
told caller (call.Write fd buf n) seen k m may is = row_told (λ n. n.write) _ write_waits _ (writes_one buf n) fd k m is
told caller (call.Writev fd list count) seen k m may is = row_told (λ n. n.write) _ write_waits _ (writes_list list count) fd k m is
told caller (call.Wait4 child status options usage) seen k m may is =
    (child_told status usage m (list_any (λ p. p.parent == caller && is_meant child p.pid) k.living) (hangs_not options) (find (λ e. e.parent == caller && is_meant child e.pid) k.ended) is).0
told caller _ seen k m may is = absurd cc

comes : (caller : ℕ) (r : Request) (first seen : Seen) (before now : Known) (m w : Memory) → ComesToWait caller r first before m → IsAsWhenItWaited before now m w
    → request_waits now caller r ≡ true → ComesToWait caller r seen now w
comes caller (call.Read fd buf n) first seen before now m w is alike still = row_comes (λ n. n.read) _ read_waits _ (reads_one buf n) fd before now m w is alike still
comes caller (call.Readv fd list count) first seen before now m w is alike still = row_comes (λ n. n.read) _ read_waits _ (reads_list list count) fd before now m w is alike still
comes caller (call.Write fd buf n) first seen before now m w is alike still = row_comes (λ n. n.write) _ write_waits _ (writes_one buf n) fd before now m w is alike still
comes caller (call.Writev fd list count) first seen before now m w is alike still = row_comes (λ n. n.write) _ write_waits _ (writes_list list count) fd before now m w is alike still
comes caller (call.Wait4 child status options usage) first seen before now m w is alike still =
    let hangs = (child_told status usage m (list_any (λ p. p.parent == caller && is_meant child p.pid) before.living) (hangs_not options) (find (λ e. e.parent == caller && is_meant child e.pid) before.ended) is).1 in
    child_comes status usage w (list_any (λ p. p.parent == caller && is_meant child p.pid) now.living) (hangs_not options) (find (λ e. e.parent == caller && is_meant child e.pid) now.ended) still hangs
comes caller _ first seen before now m w is alike still = absurd cc

-- ---- by the registers

pub waits_seen : WaitsAreSeen
waits_seen regs memory r decoded kind caller seen k m is = decoded_waits regs memory r decoded caller k ∙ told caller r seen k m (waits_as_told caller r seen k m kind is) is

pub waits_last : WaitsLast
waits_last regs memory r decoded kind caller first seen before now m w is alike still =
    comes caller r first seen before now m w is alike (sym (decoded_waits regs memory r decoded caller now) ∙ still)
