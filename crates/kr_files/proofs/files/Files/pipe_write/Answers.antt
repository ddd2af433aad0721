use Rattle.std.proofs.Common.{◌∙◌, ◌-◌, ◌&&◌, refl, ap, sym, subst, length}
use Rattle.std.specs.FinMap as map
use Rattle.std.specs.Prelude.{IsSome, nat_le, min}
use Rattle.std.specs.Option.{option_map}
use Rattle.std.proofs.lemmas.Bool.{false≢true}
use Rattle.kr_files.specs.Files.{Kept, has_reader, writes_wait, on_table, pipe_after_write}
use Rattle.kr_files.specs.Pipes.{wrote_of}
use Rattle.kr_files.specs.StoredPipes.{Pipe}
use Rattle.kr_files.specs.Sound.{IsSound, kept_of}
use Rattle.kr_files.proofs.AnswerLemmas.{error_not_ok}
use Rattle.kr_files.proofs.PipeLemmas.{pipe_there, told, writes_wait-is, reader_is, reader_told, write-no_reader, write-no_reader_after, write-waits, write-waits_after, write-takes, write-takes_after, sound-write}
use Rattle.kr_files.proofs.files.Files.pipe_write.Goals as goal

pub returns-then-not-has_reader-clause-answer : goal.returns-then-not-has_reader-clause-answer
returns-then-not-has_reader-clause-answer g c =
    let there = pipe_there c.self.inside.pipes c.args.pipe (subst (λ (k : Kept g.row.M.Denot). IsSome (map.get k.table.pipes c.args.pipe)) (sym c.self.view_is) c.requires.exists) in
    let none = sym (reader_told c.self.inside.pipes c.args.pipe there.0 there.1) ∙ sym c.has_reader.ensures ∙ c.if-not-has_reader.true in
    sym (ap (λ (k : Kept g.row.M.Denot). option_map (λ bytes. wrote_of bytes (has_reader k.table c.args.pipe) c.args.b.now) (map.get k.table.pipes c.args.pipe)) c.self.view_is)
    ∙ write-no_reader c.self.inside.open c.self.inside.pipes c.self.inside.last_file c.self.inside.last_pipe c.self.invariant c.args.pipe there.0 there.1 c.args.b.now none

pub returns-then-not-has_reader-clause-after : goal.returns-then-not-has_reader-clause-after
returns-then-not-has_reader-clause-after g c =
    let there = pipe_there c.self.inside.pipes c.args.pipe (subst (λ (k : Kept g.row.M.Denot). IsSome (map.get k.table.pipes c.args.pipe)) (sym c.self.view_is) c.requires.exists) in
    let none = sym (reader_told c.self.inside.pipes c.args.pipe there.0 there.1) ∙ sym c.has_reader.ensures ∙ c.if-not-has_reader.true in
    sym c.self.view_is ∙ write-no_reader_after c.self.inside.open c.self.inside.pipes c.self.inside.last_file c.self.inside.last_pipe c.self.invariant c.args.pipe there.0 there.1 c.args.b.now none ∙ ap (λ (k : Kept g.row.M.Denot). on_table (pipe_after_write c.args.pipe c.args.b.now) k) c.self.view_is

pub returns-then-is_full-clause-answer : goal.returns-then-is_full-clause-answer
returns-then-is_full-clause-answer g c =
    let there = pipe_there c.self.inside.pipes c.args.pipe (subst (λ (k : Kept g.row.M.Denot). IsSome (map.get k.table.pipes c.args.pipe)) (sym c.self.view_is) c.requires.exists) in
    let some = sym (reader_told c.self.inside.pipes c.args.pipe there.0 there.1) ∙ sym c.has_reader.ensures ∙ c.if-not-has_reader.false in
    let full = told (λ (p : Pipe). nat_le 65536 (length p.bytes)) _ there.0 c.is_full.result there.1 c.is_full.ensures ∙ c.if-is_full.true in
    sym (ap (λ (k : Kept g.row.M.Denot). option_map (λ bytes. wrote_of bytes (has_reader k.table c.args.pipe) c.args.b.now) (map.get k.table.pipes c.args.pipe)) c.self.view_is)
    ∙ write-waits c.self.inside.open c.self.inside.pipes c.self.inside.last_file c.self.inside.last_pipe c.self.invariant c.args.pipe there.0 there.1 c.args.b.now some full

pub returns-then-is_full-clause-after : goal.returns-then-is_full-clause-after
returns-then-is_full-clause-after g c =
    let there = pipe_there c.self.inside.pipes c.args.pipe (subst (λ (k : Kept g.row.M.Denot). IsSome (map.get k.table.pipes c.args.pipe)) (sym c.self.view_is) c.requires.exists) in
    let some = sym (reader_told c.self.inside.pipes c.args.pipe there.0 there.1) ∙ sym c.has_reader.ensures ∙ c.if-not-has_reader.false in
    let full = told (λ (p : Pipe). nat_le 65536 (length p.bytes)) _ there.0 c.is_full.result there.1 c.is_full.ensures ∙ c.if-is_full.true in
    sym c.self.view_is ∙ write-waits_after c.self.inside.open c.self.inside.pipes c.self.inside.last_file c.self.inside.last_pipe c.self.invariant c.args.pipe there.0 there.1 c.args.b.now some full ∙ ap (λ (k : Kept g.row.M.Denot). on_table (pipe_after_write c.args.pipe c.args.b.now) k) c.self.view_is

pub invariant_of-self-2 : goal.invariant_of-self-2
invariant_of-self-2 g c =
    let there = pipe_there c.self.inside.pipes c.args.pipe (subst (λ (k : Kept g.row.M.Denot). IsSome (map.get k.table.pipes c.args.pipe)) (sym c.self.view_is) c.requires.exists) in
    subst (λ pipes. IsSound c.self.inside.open.files pipes c.self.inside.last_file c.self.inside.last_pipe) (sym c.in_ok-put.ensures.ok)
    (sound-write c.self.inside.open c.self.inside.pipes c.self.inside.last_file c.self.inside.last_pipe c.self.invariant c.args.pipe there.0 there.1 c.args.b.now)

pub returns-clause-answer : goal.returns-clause-answer
returns-clause-answer g c =
    let there = pipe_there c.self.inside.pipes c.args.pipe (subst (λ (k : Kept g.row.M.Denot). IsSome (map.get k.table.pipes c.args.pipe)) (sym c.self.view_is) c.requires.exists) in
    let some = sym (reader_told c.self.inside.pipes c.args.pipe there.0 there.1) ∙ sym c.has_reader.ensures ∙ c.if-not-has_reader.false in
    let room = told (λ (p : Pipe). nat_le 65536 (length p.bytes)) _ there.0 c.is_full.result there.1 c.is_full.ensures ∙ c.if-is_full.false in
    let count = told (λ (p : Pipe). min (length c.args.b.now) (65536 - length p.bytes)) _ there.0 c.in_ok-put.field-0 there.1 c.in_ok-put.ensures.count in
    sym (ap (λ (k : Kept g.row.M.Denot). option_map (λ bytes. wrote_of bytes (has_reader k.table c.args.pipe) c.args.b.now) (map.get k.table.pipes c.args.pipe)) c.self.view_is)
    ∙ write-takes c.self.inside.open c.self.inside.pipes c.self.inside.last_file c.self.inside.last_pipe c.self.invariant c.args.pipe there.0 there.1 c.args.b.now c.in_ok-put.field-0 some room (sym count)

pub returns-clause-after : goal.returns-clause-after
returns-clause-after g c =
    let there = pipe_there c.self.inside.pipes c.args.pipe (subst (λ (k : Kept g.row.M.Denot). IsSome (map.get k.table.pipes c.args.pipe)) (sym c.self.view_is) c.requires.exists) in
    let some = sym (reader_told c.self.inside.pipes c.args.pipe there.0 there.1) ∙ sym c.has_reader.ensures ∙ c.if-not-has_reader.false in
    ap (λ pipes. kept_of c.self.inside.open pipes c.self.inside.last_file c.self.inside.last_pipe) c.in_ok-put.ensures.ok
    ∙ write-takes_after c.self.inside.open c.self.inside.pipes c.self.inside.last_file c.self.inside.last_pipe c.self.invariant c.args.pipe there.0 there.1 c.args.b.now some
    ∙ ap (λ (k : Kept g.row.M.Denot). on_table (pipe_after_write c.args.pipe c.args.b.now) k) c.self.view_is

pub returns-then-not-has_reader-clause-waits : goal.returns-then-not-has_reader-clause-waits
returns-then-not-has_reader-clause-waits g c =
    let there = pipe_there c.self.inside.pipes c.args.pipe (subst (λ (k : Kept g.row.M.Denot). IsSome (map.get k.table.pipes c.args.pipe)) (sym c.self.view_is) c.requires.exists) in
    let reader = sym (reader_told c.self.inside.pipes c.args.pipe there.0 there.1) ∙ sym c.has_reader.ensures ∙ c.if-not-has_reader.true in
    let waits = sym (ap (λ (k : Kept g.row.M.Denot). writes_wait k.table c.args.pipe) c.self.view_is) ∙ writes_wait-is c.self.inside.open c.self.inside.pipes c.self.inside.last_file c.self.inside.last_pipe c.self.invariant c.args.pipe there.0 there.1 ∙ ap (λ r. r && nat_le 65536 (length there.0.bytes)) reader in
    (λ e. absurd (cc), λ waits_too. absurd (false≢true (sym waits ∙ waits_too)))

pub returns-then-not-has_reader-clause-no_reader : goal.returns-then-not-has_reader-clause-no_reader
returns-then-not-has_reader-clause-no_reader g c =
    let there = pipe_there c.self.inside.pipes c.args.pipe (subst (λ (k : Kept g.row.M.Denot). IsSome (map.get k.table.pipes c.args.pipe)) (sym c.self.view_is) c.requires.exists) in
    let reader = sym (reader_told c.self.inside.pipes c.args.pipe there.0 there.1) ∙ sym c.has_reader.ensures ∙ c.if-not-has_reader.true in
    let has = sym (ap (λ (k : Kept g.row.M.Denot). has_reader k.table c.args.pipe) c.self.view_is) ∙ sym (reader_is c.self.inside.open c.self.inside.pipes c.self.inside.last_file c.self.inside.last_pipe c.self.invariant c.args.pipe there.0 there.1) ∙ reader in
    (λ _. has, λ _. refl)

pub returns-then-is_full-clause-waits : goal.returns-then-is_full-clause-waits
returns-then-is_full-clause-waits g c =
    let there = pipe_there c.self.inside.pipes c.args.pipe (subst (λ (k : Kept g.row.M.Denot). IsSome (map.get k.table.pipes c.args.pipe)) (sym c.self.view_is) c.requires.exists) in
    let reader = sym (reader_told c.self.inside.pipes c.args.pipe there.0 there.1) ∙ sym c.has_reader.ensures ∙ c.if-not-has_reader.false in
    let full = told (λ (p : Pipe). nat_le 65536 (length p.bytes)) _ there.0 c.is_full.result there.1 c.is_full.ensures ∙ c.if-is_full.true in
    let waits = sym (ap (λ (k : Kept g.row.M.Denot). writes_wait k.table c.args.pipe) c.self.view_is) ∙ writes_wait-is c.self.inside.open c.self.inside.pipes c.self.inside.last_file c.self.inside.last_pipe c.self.invariant c.args.pipe there.0 there.1 ∙ ap (λ r. r && nat_le 65536 (length there.0.bytes)) reader ∙ full in
    (λ _. waits, λ _. refl)

pub returns-then-is_full-clause-no_reader : goal.returns-then-is_full-clause-no_reader
returns-then-is_full-clause-no_reader g c =
    let there = pipe_there c.self.inside.pipes c.args.pipe (subst (λ (k : Kept g.row.M.Denot). IsSome (map.get k.table.pipes c.args.pipe)) (sym c.self.view_is) c.requires.exists) in
    let reader = sym (reader_told c.self.inside.pipes c.args.pipe there.0 there.1) ∙ sym c.has_reader.ensures ∙ c.if-not-has_reader.false in
    let has = sym (ap (λ (k : Kept g.row.M.Denot). has_reader k.table c.args.pipe) c.self.view_is) ∙ sym (reader_is c.self.inside.open c.self.inside.pipes c.self.inside.last_file c.self.inside.last_pipe c.self.invariant c.args.pipe there.0 there.1) ∙ reader in
    (λ e. absurd (cc), λ none. absurd (false≢true (sym none ∙ has)))

pub returns-in_err-put-clause-waits : goal.returns-in_err-put-clause-waits
returns-in_err-put-clause-waits g c =
    let there = pipe_there c.self.inside.pipes c.args.pipe (subst (λ (k : Kept g.row.M.Denot). IsSome (map.get k.table.pipes c.args.pipe)) (sym c.self.view_is) c.requires.exists) in
    let reader = sym (reader_told c.self.inside.pipes c.args.pipe there.0 there.1) ∙ sym c.has_reader.ensures ∙ c.if-not-has_reader.false in
    let full = told (λ (p : Pipe). nat_le 65536 (length p.bytes)) _ there.0 c.is_full.result there.1 c.is_full.ensures ∙ c.if-is_full.false in
    let waits = sym (ap (λ (k : Kept g.row.M.Denot). writes_wait k.table c.args.pipe) c.self.view_is) ∙ writes_wait-is c.self.inside.open c.self.inside.pipes c.self.inside.last_file c.self.inside.last_pipe c.self.invariant c.args.pipe there.0 there.1 ∙ ap (λ r. r && nat_le 65536 (length there.0.bytes)) reader ∙ full in
    (λ e. absurd (error_not_ok _ _ c.from_residual.ensures.0 e), λ waits_too. absurd (false≢true (sym waits ∙ waits_too)))

pub returns-in_err-put-clause-no_reader : goal.returns-in_err-put-clause-no_reader
returns-in_err-put-clause-no_reader g c =
    let there = pipe_there c.self.inside.pipes c.args.pipe (subst (λ (k : Kept g.row.M.Denot). IsSome (map.get k.table.pipes c.args.pipe)) (sym c.self.view_is) c.requires.exists) in
    let reader = sym (reader_told c.self.inside.pipes c.args.pipe there.0 there.1) ∙ sym c.has_reader.ensures ∙ c.if-not-has_reader.false in
    let has = sym (ap (λ (k : Kept g.row.M.Denot). has_reader k.table c.args.pipe) c.self.view_is) ∙ sym (reader_is c.self.inside.open c.self.inside.pipes c.self.inside.last_file c.self.inside.last_pipe c.self.invariant c.args.pipe there.0 there.1) ∙ reader in
    (λ e. absurd (error_not_ok _ _ c.from_residual.ensures.0 e), λ none. absurd (false≢true (sym none ∙ has)))

pub returns-clause-waits : goal.returns-clause-waits
returns-clause-waits g c =
    let there = pipe_there c.self.inside.pipes c.args.pipe (subst (λ (k : Kept g.row.M.Denot). IsSome (map.get k.table.pipes c.args.pipe)) (sym c.self.view_is) c.requires.exists) in
    let reader = sym (reader_told c.self.inside.pipes c.args.pipe there.0 there.1) ∙ sym c.has_reader.ensures ∙ c.if-not-has_reader.false in
    let full = told (λ (p : Pipe). nat_le 65536 (length p.bytes)) _ there.0 c.is_full.result there.1 c.is_full.ensures ∙ c.if-is_full.false in
    let waits = sym (ap (λ (k : Kept g.row.M.Denot). writes_wait k.table c.args.pipe) c.self.view_is) ∙ writes_wait-is c.self.inside.open c.self.inside.pipes c.self.inside.last_file c.self.inside.last_pipe c.self.invariant c.args.pipe there.0 there.1 ∙ ap (λ r. r && nat_le 65536 (length there.0.bytes)) reader ∙ full in
    (λ e. absurd (cc), λ waits_too. absurd (false≢true (sym waits ∙ waits_too)))

pub returns-clause-no_reader : goal.returns-clause-no_reader
returns-clause-no_reader g c =
    let there = pipe_there c.self.inside.pipes c.args.pipe (subst (λ (k : Kept g.row.M.Denot). IsSome (map.get k.table.pipes c.args.pipe)) (sym c.self.view_is) c.requires.exists) in
    let reader = sym (reader_told c.self.inside.pipes c.args.pipe there.0 there.1) ∙ sym c.has_reader.ensures ∙ c.if-not-has_reader.false in
    let has = sym (ap (λ (k : Kept g.row.M.Denot). has_reader k.table c.args.pipe) c.self.view_is) ∙ sym (reader_is c.self.inside.open c.self.inside.pipes c.self.inside.last_file c.self.inside.last_pipe c.self.invariant c.args.pipe there.0 there.1) ∙ reader in
    (λ e. absurd (cc), λ none. absurd (false≢true (sym none ∙ has)))
