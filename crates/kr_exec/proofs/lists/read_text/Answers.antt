use Rattle.std.proofs.Common.{ap, ◌∙◌, sym, arith}
use Rattle.std.proofs.lemmas.Result.{err_from_is_err_and}
use Rattle.kr_exec.specs.Lists.{if_it_fits, text_at}
use Rattle.kr_exec.proofs.ListLemmas.{fits, passes, reads_err, reads_ok}
use Rattle.kr_exec.proofs.lists.read_text.Goals as goal

pub returns-in_err-text-clause-read : goal.returns-in_err-text-clause-read
returns-in_err-text-clause-read g c =
    let e = err_from_is_err_and c.from_residual.result c.from_residual.ensures.1 in
    rw (e.1, e.2) (reads_err (text_at c.args.at) (if_it_fits c.args.room) _ c.args.mem.now c.text_at.new.mem c.in_err-text.ensures.read)

pub returns-then-len-room-clause-read : goal.returns-then-len-room-clause-read
returns-then-len-room-clause-read g c =
    let whole = reads_ok (text_at c.args.at) (if_it_fits c.args.room) c.in_ok-text.text c.args.mem.now c.text_at.new.mem c.in_ok-text.ensures.read
    ∙ fits c.args.room c.in_ok-text.text c.text_at.new.mem (omega arith) in
    (ap (λ d. d.reply) whole, sym (ap (λ d. d.memory) whole))

pub returns-else-len-room-clause-read : goal.returns-else-len-room-clause-read
returns-else-len-room-clause-read g c =
    let whole = reads_ok (text_at c.args.at) (if_it_fits c.args.room) c.in_ok-text.text c.args.mem.now c.text_at.new.mem c.in_ok-text.ensures.read
    ∙ passes c.args.room c.in_ok-text.text c.text_at.new.mem (omega arith) in
    (ap (λ d. d.reply) whole, sym (ap (λ d. d.memory) whole))
