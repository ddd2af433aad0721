use Rattle.law_edits.proofs.ShelfLemmas.{decoded_behind, found_alike, shelf_poked}
use Rattle.law_edits.proofs.laws.swaps_are_decoded.Goals as goal

pub returns : goal.returns
returns c =
    let back = c.texts_are_read_back.ensures in
    let hold = c.shelves_hold_their_items.ensures in
    λ regs m w r first second sp named can too shelf calm is. record {
      reply = decoded_behind back hold regs m w r first second sp named can too shelf calm.alike calm.unread (found_alike regs m w r calm.alike calm.unread is);
      alike = shelf_poked hold m w first second sp shelf can too calm.alike;
    }
