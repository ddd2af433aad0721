use Rattle.std.proofs.Common.{◌≤◌, ℕ, List, length, sym, subst}
use Rattle.kr_transfer.proofs.ListingLemmas.{own-name-short}
use Rattle.kr_transfer.proofs.listing.process_entry.Goals as goal

pub returns-clause-short : goal.returns-clause-short
returns-clause-short c = subst (λ (name : List ℕ). length name ≤ 255) (sym c.in_ok-name.ensures) (own-name-short c.args.at c.requires.small)
