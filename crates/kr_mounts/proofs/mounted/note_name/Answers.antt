use Rattle.std.proofs.Common.{◌∙◌, ap, sym, is_some}
use Rattle.std.specs.Option.{unwrap_or}
use Rattle.pt_bind.proofs.IndexLemmas.{new_noted}
use Rattle.kr_mounts.proofs.mounted.note_name.Goals as goal

pub returns : goal.returns
returns c = record {
  noted = new_noted c.args.names.now c.insert.new.self c.args.name.now c.into_vec-key.result c.args.number (c.into_vec-key.ensures ∙ c.in_ok-copy.ensures)
      c.in_ok-insert.ensures.entries (ap is_some (sym c.in_default.ensures.value));
  given = ap (λ o. unwrap_or o c.args.number) c.in_default.ensures.value;
}
