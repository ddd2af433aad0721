use Rattle.std.proofs.Common.{◌≡◌, ◌<◌, ◌∷◌, sym, ◌∙◌, ap, subst, arith, length, rules}
use Rattle.pr_base.specs.Paths.{parts_of}
use Rattle.pr_base.specs.Pieces.{BeginsName}
use Rattle.pr_base.proofs.PathLemmas.{first_part}
use Rattle.pr_base.proofs.path.PartsLeftIterator.next.Goals as goal

-- the name that was split off is the first of the parts
first_of_rest : (c : goal.After-rest-2-1) → parts_of c.args.self.now.rest.now ≡ c.split_at_slash.result.0.now ∷ parts_of c.split_at_slash.result.1.now
first_of_rest c =
    let whole = c.split_at_slash.ensures.whole in
    let named : (parts_of c.in_ok-named.named.now ≡ parts_of c.args.self.now.rest.now) × BeginsName c.in_ok-named.named.now = c.in_ok-named.ensures in
    let begins = subst BeginsName whole named.1 in
    sym named.0 ∙ ap parts_of whole ∙ first_part _ _ c.split_at_slash.ensures.name c.split_at_slash.ensures.rest begins

pub returns-clause-steps : goal.returns-clause-steps
returns-clause-steps c = first_of_rest c

pub returns-clause-goes : goal.returns-clause-goes
returns-clause-goes c =
    let first = first_of_rest c in
    let fewer : length (parts_of c.split_at_slash.result.1.now) < length (parts_of c.args.self.now.rest.now) = rw first (omega arith) in
    search rules
