-- Code while it is written: its items are no branches, and its labels are bound while three stay open.
use Rattle.std.proofs.Common.{◌≡◌, ℕ, ◌+◌, ◌-◌, ◌*◌, List, length, replicate, length-append, arith}
use Rattle.std.specs.Int.{div_ceil}
use Rattle.std.proofs.lemmas.List.{length-replicate}
use Rattle.std.proofs.lemmas.List.Elements.{All-push}
use Rattle.rv_asm.specs.declared.item.Item.{Item}
use Rattle.rv_asm.specs.Program.{Program, with_item, padded, size_of}
use Rattle.rv_asm.specs.Assembly.{IsNoBranch}
use Rattle.rv_asm.proofs.Programs.{total-push}
use Rattle.pr_gen.specs.Draft.{IsKept}

pub kept_item : (p : Program) (size more : ℕ) (item : Item) → IsKept p size → IsNoBranch item → more ≡ size_of item → IsKept (with_item p item) (size + more)
kept_item p size more item kept straight is = record {
  counted = omega (arith, total-push p.items item, kept.counted);
  straight = All-push IsNoBranch p.items item kept.straight straight;
}

pub length-padded : (b : List ℕ) → length (padded b) ≡ div_ceil (length b) 4 * 4
length-padded b =
    omega (arith, length-append b (replicate (div_ceil (length b) 4 * 4 - length b) 0), length-replicate {A = ℕ} (div_ceil (length b) 4 * 4 - length b) 0)
