use Rattle.std.proofs.Common.{◌≢◌, ◌<◌, ◌≤◌, ◌+◌, ◌∙◌, ap, sym, subst, refl, arith}
use Rattle.std.specs.FinMap as map
use Rattle.std.specs.Prelude.{IsSome}
use Rattle.kr_files.specs.Slots.{unnamed}
use Rattle.kr_files.specs.Files.{Kept, Counted, with_pipe}
use Rattle.kr_files.specs.StoredPipes.{Pipe, fresh_pipe}
use Rattle.kr_files.specs.Sound.{IsSound, kept_of}
use Rattle.kr_files.proofs.AnswerLemmas.{ok_of}
use Rattle.kr_files.proofs.ClaimLemmas.{wanting_not_full, ok_not_full, pair_is, pipe_taken, pipe_refused, answers_no_full, claimed_first, claimed_second, given, table_with_pipe}
use Rattle.kr_files.proofs.CloseLemmas.{bytes_of, same_kept}
use Rattle.kr_files.proofs.DescriptorLemmas.{lowest_free-some}
use Rattle.kr_tree.proofs.pr_base.MapLemmas.{len-mapped, remove-insert}
use Rattle.kr_files.proofs.SoundLemmas.{fresh_pipe_number, sound-pipe}
use Rattle.kr_files.proofs.files.Files.pipe.Goals as goal

pub returns-then-len-ge-PIPES-clause-full : goal.returns-then-len-ge-PIPES-clause-full
returns-then-len-ge-PIPES-clause-full g c =
    let count = sym (ap (λ (k : Kept g.row.M.Denot). map.len k.table.pipes) c.self.view_is) ∙ len-mapped (λ p (q : Pipe). q.bytes) c.self.inside.pipes ∙ sym c.len.ensures in
    (λ _. pipe_refused c.args.self.now.table c.args.d.now (subst (λ n. 4096 ≤ n) (sym count) c.if-len-ge-PIPES.true), λ _. refl)

pub returns-then-is_err-clause-full : goal.returns-then-is_err-clause-full
returns-then-is_err-clause-full g c =
    let pair = pair_is c.args.d.now c.in-Some.first c.in-Some-lowest_free.second c.in-Some.ensures.free c.in-Some-lowest_free.ensures.free in
    let count = sym (ap (λ (k : Kept g.row.M.Denot). map.len k.table.pipes) c.self.view_is) ∙ len-mapped (λ p (q : Pipe). q.bytes) c.self.inside.pipes ∙ sym c.len.ensures in
    let takes = pipe_taken c.args.self.now.table c.args.d.now c.in-Some.first c.in-Some-lowest_free.second pair (subst (λ n. n < 4096) (sym count) c.if-len-ge-PIPES.false) in
    answers_no_full c.args.self.now.table c.args.d.now _ takes wanting_not_full

pub returns-then-is_err-2-clause-full : goal.returns-then-is_err-2-clause-full
returns-then-is_err-2-clause-full g c =
    let pair = pair_is c.args.d.now c.in-Some.first c.in-Some-lowest_free.second c.in-Some.ensures.free c.in-Some-lowest_free.ensures.free in
    let count = sym (ap (λ (k : Kept g.row.M.Denot). map.len k.table.pipes) c.self.view_is) ∙ len-mapped (λ p (q : Pipe). q.bytes) c.self.inside.pipes ∙ sym c.len.ensures in
    let takes = pipe_taken c.args.self.now.table c.args.d.now c.in-Some.first c.in-Some-lowest_free.second pair (subst (λ n. n < 4096) (sym count) c.if-len-ge-PIPES.false) in
    answers_no_full c.args.self.now.table c.args.d.now _ takes wanting_not_full

pub returns-then-is_err-3-clause-full : goal.returns-then-is_err-3-clause-full
returns-then-is_err-3-clause-full g c =
    let pair = pair_is c.args.d.now c.in-Some.first c.in-Some-lowest_free.second c.in-Some.ensures.free c.in-Some-lowest_free.ensures.free in
    let count = sym (ap (λ (k : Kept g.row.M.Denot). map.len k.table.pipes) c.self.view_is) ∙ len-mapped (λ p (q : Pipe). q.bytes) c.self.inside.pipes ∙ sym c.len.ensures in
    let takes = pipe_taken c.args.self.now.table c.args.d.now c.in-Some.first c.in-Some-lowest_free.second pair (subst (λ n. n < 4096) (sym count) c.if-len-ge-PIPES.false) in
    answers_no_full c.args.self.now.table c.args.d.now _ takes wanting_not_full

pub returns-clause-full : goal.returns-clause-full
returns-clause-full g c =
    let pair = pair_is c.args.d.now c.in-Some.first c.in-Some-lowest_free.second c.in-Some.ensures.free c.in-Some-lowest_free.ensures.free in
    let count = sym (ap (λ (k : Kept g.row.M.Denot). map.len k.table.pipes) c.self.view_is) ∙ len-mapped (λ p (q : Pipe). q.bytes) c.self.inside.pipes ∙ sym c.len.ensures in
    let takes = pipe_taken c.args.self.now.table c.args.d.now c.in-Some.first c.in-Some-lowest_free.second pair (subst (λ n. n < 4096) (sym count) c.if-len-ge-PIPES.false) in
    answers_no_full c.args.self.now.table c.args.d.now _ takes (ok_not_full _)

pub claim_pair-requires-clause-order : goal.claim_pair-requires-clause-order
claim_pair-requires-clause-order g c =
    let found = lowest_free-some c.args.d.now (c.in-Some.first + 1) c.in-Some-lowest_free.second (sym c.in-Some-lowest_free.ensures.free) in
    omega (arith, found.from_on)

pub invariant_of-self-then-is_err-3 : goal.invariant_of-self-then-is_err-3
invariant_of-self-then-is_err-3 g c =
    let added = ok_of c.add.result _ (sym c.is_err-2.ensures.value ∙ c.if-is_err-2.false) c.add.ensures.ok in
    let fresh = fresh_pipe_number c.self.inside.open.files c.self.inside.pipes c.self.inside.last_file c.self.inside.last_pipe c.self.invariant in
    let back = c.remove.ensures ∙ ap (λ m. map.remove m (c.self.inside.last_pipe + 1)) added ∙ remove-insert c.self.inside.pipes (c.self.inside.last_pipe + 1) fresh_pipe fresh in
    subst (λ files. IsSound files c.remove.new.self c.self.inside.last_file c.self.inside.last_pipe) (sym c.reserve.ensures.same.files)
    (subst (λ pipes. IsSound c.self.inside.open.files pipes c.self.inside.last_file c.self.inside.last_pipe) (sym back) c.self.invariant)

pub returns-then-is_err-3-clause-err : goal.returns-then-is_err-3-clause-err
returns-then-is_err-3-clause-err g c =
    let added = ok_of c.add.result _ (sym c.is_err-2.ensures.value ∙ c.if-is_err-2.false) c.add.ensures.ok in
    let fresh = fresh_pipe_number c.self.inside.open.files c.self.inside.pipes c.self.inside.last_file c.self.inside.last_pipe c.self.invariant in
    let back = c.remove.ensures ∙ ap (λ m. map.remove m (c.self.inside.last_pipe + 1)) added ∙ remove-insert c.self.inside.pipes (c.self.inside.last_pipe + 1) fresh_pipe fresh in
    ap (λ pipes. kept_of c.reserve.new.self pipes c.self.inside.last_file c.self.inside.last_pipe) back
    ∙ same_kept _ _ _ _ c.reserve.ensures.same.keys
    (ap (λ files. record { files = files; pipes = bytes_of c.self.inside.pipes; last_file = c.self.inside.last_file; last_pipe = c.self.inside.last_pipe }) c.reserve.ensures.same.files)
    ∙ c.self.view_is

pub add_pair-requires-clause-taken : goal.add_pair-requires-clause-taken
add_pair-requires-clause-taken g c =
    let claimed = ok_of c.claim_pair.result _ (sym c.is_err-3.ensures.value ∙ c.if-is_err-3.false) c.claim_pair.ensures.ok in
    subst (λ m. IsSome (map.get m c.in-Some.first)) (sym claimed) (claimed_first c.args.d.now c.in-Some.first c.in-Some-lowest_free.second (unnamed c.args.cloexec) (unnamed c.args.cloexec) (unnamed c.args.cloexec))

pub add_pair-requires-clause-taken_next : goal.add_pair-requires-clause-taken_next
add_pair-requires-clause-taken_next g c =
    let claimed = ok_of c.claim_pair.result _ (sym c.is_err-3.ensures.value ∙ c.if-is_err-3.false) c.claim_pair.ensures.ok in
    subst (λ m. IsSome (map.get m c.in-Some-lowest_free.second)) (sym claimed) (claimed_second c.args.d.now c.in-Some.first c.in-Some-lowest_free.second (unnamed c.args.cloexec) (unnamed c.args.cloexec) (unnamed c.args.cloexec))

pub invariant_of-self-2 : goal.invariant_of-self-2
invariant_of-self-2 g c =
    let added = ok_of c.add.result _ (sym c.is_err-2.ensures.value ∙ c.if-is_err-2.false) c.add.ensures.ok in
    let reader : Counted g.row.M.Denot = record { opened = c.reader.result; count = 1 } in
    let writer : Counted g.row.M.Denot = record { opened = c.writer.result; count = 1 } in
    subst (λ pipes. IsSound c.add_pair.new.self.files pipes (c.self.inside.last_file + 1 + 1) (c.self.inside.last_pipe + 1)) (sym added)
    (subst (λ files. IsSound files (map.insert c.self.inside.pipes (c.self.inside.last_pipe + 1) fresh_pipe) (c.self.inside.last_file + 1 + 1) (c.self.inside.last_pipe + 1))
    (sym (c.add_pair.ensures.files ∙ ap (λ files. map.insert (map.insert files (c.self.inside.last_file + 1) reader) (c.self.inside.last_file + 1 + 1) writer) c.reserve.ensures.same.files))
    (sound-pipe c.self.inside.open.files c.self.inside.pipes c.self.inside.last_file c.self.inside.last_pipe c.self.invariant reader writer (ap (λ o. o.what) c.reader.ensures) (ap (λ o. o.what) c.writer.ensures)))

pub returns-clause-table : goal.returns-clause-table
returns-clause-table g c =
    let added = ok_of c.add.result _ (sym c.is_err-2.ensures.value ∙ c.if-is_err-2.false) c.add.ensures.ok in
    let reader : Counted g.row.M.Denot = record { opened = c.reader.result; count = 1 } in
    let writer : Counted g.row.M.Denot = record { opened = c.writer.result; count = 1 } in
    table_with_pipe c.add_pair.new.self.files c.self.inside.open.files c.add.new.self c.self.inside.pipes c.self.inside.last_file c.self.inside.last_pipe c.reader.result c.writer.result
    (c.add_pair.ensures.files ∙ ap (λ files. map.insert (map.insert files (c.self.inside.last_file + 1) reader) (c.self.inside.last_file + 1 + 1) writer) c.reserve.ensures.same.files)
    c.reader.ensures c.writer.ensures added
    ∙ ap (λ (k : Kept g.row.M.Denot). with_pipe k.table) c.self.view_is

pub returns-clause-gives : goal.returns-clause-gives
returns-clause-gives g c =
    let claimed = ok_of c.claim_pair.result _ (sym c.is_err-3.ensures.value ∙ c.if-is_err-3.false) c.claim_pair.ensures.ok in
    let found = lowest_free-some c.args.d.now (c.in-Some.first + 1) c.in-Some-lowest_free.second (sym c.in-Some-lowest_free.ensures.free) in
    let apart : c.in-Some.first ≢ c.in-Some-lowest_free.second = omega (arith, found.from_on) in
    given c.add_pair.ensures.gives (c.reserve.ensures.same.keys ∙ ap (λ (k : Kept g.row.M.Denot). k.keys) c.self.view_is) claimed (ap (λ (k : Kept g.row.M.Denot). k.table.last_file + 1) c.self.view_is) apart
