use Rattle.std.proofs.Common.{◌≡◌, ◌-◌, refl, sym, ap, arith}
use Rattle.std.proofs.lemmas.Result.{err_from_is_err_and}
use Rattle.kr_calls.specs.Expansion.{bytes_with_ends}
use Rattle.kr_exec.specs.Lists.{at_least_one, env_at, list_at, most_bytes}
use Rattle.kr_exec.proofs.ListLemmas.{env_err, env_is, env_ok, list_marks, reads_err, wanting_behind}
use Rattle.kr_exec.proofs.PlanLemmas.{lists_within}
use Rattle.kr_exec.proofs.lists.read_lists.Goals as goal

pub returns-in_err-args-clause-read : goal.returns-in_err-args-clause-read
returns-in_err-args-clause-read g c =
    let e = err_from_is_err_and c.from_residual.result c.from_residual.ensures.1 in
    rw (e.1, e.2) (reads_err (list_at c.args.args most_bytes) (λ texts. env_at c.args.env (at_least_one texts)) _ c.args.mem.now c.read_list.new.mem c.in_err-args.ensures.read)

pub returns-in_err-args-2-clause-read : goal.returns-in_err-args-2-clause-read
returns-in_err-args-2-clause-read g c =
    let e = err_from_is_err_and c.from_residual-in_err-args-2.result c.from_residual-in_err-args-2.ensures.1 in
    let texts = c.in_ok-args.args.texts in
    let m = c.args.mem.now in
    let after = c.read_list.new.mem in
    rw (e.1, e.2, c.in_err-args-2.ensures.err)
    (wanting_behind _ (env_at c.args.env (at_least_one texts)) m after (env_is c.args.args c.args.env texts (at_least_one texts) m after c.in_ok-args.ensures.read refl)
    c.in_ok-args.ensures.pages (list_marks (list_at c.args.args most_bytes) texts m after c.in_ok-args.ensures.read))

pub returns-in_err-env-clause-read : goal.returns-in_err-env-clause-read
returns-in_err-env-clause-read g c =
    let e = err_from_is_err_and c.from_residual-in_err-env.result c.from_residual-in_err-env.ensures.1 in
    let texts = c.in_ok-args.args.texts in
    let given = c.in_ok-args-2.args.texts in
    let m = c.args.mem.now in
    let after = c.read_list.new.mem in
    let room : c.in_ok-args-2.args.room ≡ most_bytes - bytes_with_ends given = omega (arith, c.in_ok-args.ensures.room, c.in_ok-args-2.ensures.room) in
    rw (e.1, e.2)
    (env_err c.args.env c.in_ok-args-2.args.room given _ _ m after c.read_list-2.new.mem (env_is c.args.args c.args.env texts given m after c.in_ok-args.ensures.read c.in_ok-args-2.ensures.texts) room
    c.in_ok-args.ensures.pages (list_marks (list_at c.args.args most_bytes) texts m after c.in_ok-args.ensures.read) c.in_err-env.ensures.read)

pub returns-clause-read : goal.returns-clause-read
returns-clause-read g c =
    let texts = c.in_ok-args.args.texts in
    let given = c.in_ok-args-2.args.texts in
    let m = c.args.mem.now in
    let after = c.read_list.new.mem in
    let room : c.in_ok-args-2.args.room ≡ most_bytes - bytes_with_ends given = omega (arith, c.in_ok-args.ensures.room, c.in_ok-args-2.ensures.room) in
    let whole =
    env_ok c.args.env c.in_ok-args-2.args.room given c.in_ok-env.env.texts _ after c.read_list-2.new.mem (env_is c.args.args c.args.env texts given m after c.in_ok-args.ensures.read c.in_ok-args-2.ensures.texts) room c.in_ok-env.ensures.read in
    (ap (λ d. d.reply) whole, sym (ap (λ d. d.memory) whole))

pub returns-clause-fit : goal.returns-clause-fit
returns-clause-fit g c =
    let few_args = c.in_ok-args-2.ensures.few c.in_ok-args.ensures.few in
    lists_within c.in_ok-args-2.args.texts c.in_ok-env.env.texts few_args c.in_ok-env.ensures.few (omega (arith, c.in_ok-args.ensures.room, c.in_ok-args-2.ensures.room, c.in_ok-env.ensures.room))
