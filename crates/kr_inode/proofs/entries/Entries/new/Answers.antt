use Rattle.std.proofs.Common.{◌∙◌, List, ap, sym, subst}
use Rattle.std.specs.Prelude.{bytes_eq}
use Rattle.std.specs.Map.{lookup}
use Rattle.std.specs.Option.{option_map}
use Rattle.kr_inode.specs.Inode.{Entry, entry_named}
use Rattle.kr_inode.specs.Entries.{IsListed, slot_of, stored}
use Rattle.kr_inode.proofs.EntryLemmas.{listed-none}
use Rattle.kr_inode.proofs.entries.Entries.new.Goals as goal

pub invariant_of-result : goal.invariant_of-result
invariant_of-result c =
    let P : List Entry → Type 0 = λ es. IsListed (record { list = es; next = 3 }) in (
      λ name. ap (lookup (λ k. bytes_eq name k.items)) c.new-2.ensures.empty ∙ ap (λ es. option_map slot_of (entry_named name (stored es))) (sym c.new.ensures.empty),
      subst P (sym (ap stored c.new.ensures.empty)) listed-none,
    )
