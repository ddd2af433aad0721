-- A call whose paths were swapped is decoded to its request with the new texts.
use Rattle.std.proofs.Common.{◌≡◌, ◌≢◌, ℕ, ◌≤◌, false, Option, Some, None, Ok, arith, sym, subst, ◌∙◌}
use Rattle.pt_tracer.specs.rv_mem.Actions.{AreEqualUnmarked, carried_out}
use Rattle.pt_tracer.specs.rv_mem.Memory.{Memory}
use Rattle.pt_tracer.specs.rv_mem.declared.regs.Regs.{Regs}
use Rattle.law_walks.specs.kr_calls.Arguments.{number}
use Rattle.law_walks.specs.kr_calls.CallTable.{line}
use Rattle.law_walks.specs.kr_calls.Decoding.{decoding, decoding_of}
use Rattle.law_walks.specs.kr_calls.declared.request.Request.{Request}
use Rattle.law_walks.proofs.kr_calls.DecodingLemmas.{decoded_are_numbered}
use Rattle.law_edits.specs.Requests.{AreOfPaths, IsOfSecond, NewText, with_swaps}
use Rattle.law_edits.specs.Swapped.{AreSwapped, IsNotSecond}
use Rattle.law_edits.proofs.RegisterLemmas.{path_registers}
use Rattle.law_edits.proofs.RowLemmas.{goes}

module _ (old new : Regs) (m w : Memory) (r : Request) (first : NewText) (second : Option NewText) (named : AreOfPaths r first second) (alike : AreEqualUnmarked m.pages w.pages) (swapped : AreSwapped first second old new w.pages) where
  not_number : (register : ℕ) → (10 ≤ register) × (register ≤ 13) → 17 ≢ register
  not_number register within same = let h : ⊥ = omega (arith, within.1) in h

  other_second : (o : Option NewText) → IsOfSecond r o → IsNotSecond 17 o
  other_second None two = tt
  other_second (Some s) two = not_number s.register (path_registers r 1 s.register two)

  -- a call keeps its number
  pub number_stays : number new ≡ number old
  number_stays = swapped.same 17 (not_number first.register (path_registers r 0 first.register named.one)) (other_second second named.two)

  pub swapped_decoded : (carried_out (decoding old) m).reply ≡ Ok r → (carried_out (decoding old) m).memory.read_marked ≡ false → (carried_out (decoding new) w).reply ≡ Ok (with_swaps first second r)
  swapped_decoded is unread =
      let one : (line r).number ≡ number old = decoded_are_numbered old m r is in
      let other : (line r).number ≡ number new = one ∙ sym number_stays in
      subst (λ n. (carried_out (decoding_of n new) w).reply ≡ Ok (with_swaps first second r)) other
      ((goes old new m w first second alike swapped r named).go
      (subst (λ n. (carried_out (decoding_of n old) m).reply ≡ Ok r) (sym one) is) (subst (λ n. (carried_out (decoding_of n old) m).memory.read_marked ≡ false) (sym one) unread))
