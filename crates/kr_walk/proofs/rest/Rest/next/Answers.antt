use Rattle.std.proofs.Common.{◌≡◌, ◌+◌, ◌-◌, ℕ, List, length, take, drop, ap, sym, ◌∙◌, arith}
use Rattle.std.proofs.lemmas.List.{take_rest, length-drop}
use Rattle.kr_view.proofs.RestLemmas.{done_at_end, next_read}
use Rattle.kr_walk.proofs.rest.Rest.next.Goals as goal

-- what stands behind a place of a text
behind : (bytes text : List ℕ) (at : ℕ) → bytes ≡ text → take (length bytes - at) (drop at bytes) ≡ drop at text
behind bytes text at e = take_rest bytes at ∙ ap (drop at) e

pub returns-clause-first : goal.returns-clause-first
returns-clause-first c =
    let name = behind _ _ c.args.self.now.at c.as_slice.ensures in
    let slashes = behind _ _ (c.args.self.now.at + c.name_length.result) c.as_slice-2.ensures in
    let inside = rw (name, length-drop c.args.self.now.at c.args.self.now.text) at c.name_length.ensures.within in
    let plain = rw name at c.name_length.ensures.plain in
    let slashed = rw name at c.name_length.ensures.begins in
    let passed = rw slashes at c.slashes.ensures.parts in
    let at_most = c.args.self.now.within in
    let apart = done_at_end _ _ c.args.self.now.within c.args.self.now.begun ∙ sym c.is_done.ensures ∙ c.if-is_done.false in
    (omega (arith, at_most, inside), omega arith, next_read _ _ _ _ c.args.self.now.within c.args.self.now.begun apart plain slashed passed)
