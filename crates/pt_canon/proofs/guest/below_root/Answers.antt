use Rattle.std.proofs.Common.{◌∙◌, ap}
use Rattle.pt_bind.specs.Binding.{names_of}
use Rattle.pt_bind.proofs.ByteLemmas.{below_short, below_long, spelled_parts}
use Rattle.pt_canon.proofs.GuestLemmas.{below_names}
use Rattle.pt_canon.proofs.guest.below_root.Goals as goal

pub returns-then-text-eq1-clause-bytes : goal.returns-then-text-eq1-clause-bytes
returns-then-text-eq1-clause-bytes c = below_short c.args.text.now c.requires c.if-text-eq1.true

pub returns-then-text-eq1-clause-names : goal.returns-then-text-eq1-clause-names
returns-then-text-eq1-clause-names c =
    ap names_of (below_short c.args.text.now c.requires c.if-text-eq1.true) ∙ below_names (names_of c.args.text.now) (spelled_parts c.args.text.now c.requires)

pub returns-then-text-eq1-clause-below : goal.returns-then-text-eq1-clause-below
returns-then-text-eq1-clause-below c =
    record { names = names_of c.args.text.now; are_parts = spelled_parts c.args.text.now c.requires; written = below_short c.args.text.now c.requires c.if-text-eq1.true }

pub returns-clause-bytes : goal.returns-clause-bytes
returns-clause-bytes c = below_long c.args.text.now c.requires c.if-text-eq1.false

pub returns-clause-below : goal.returns-clause-below
returns-clause-below c =
    record { names = names_of c.args.text.now; are_parts = spelled_parts c.args.text.now c.requires; written = below_long c.args.text.now c.requires c.if-text-eq1.false }
