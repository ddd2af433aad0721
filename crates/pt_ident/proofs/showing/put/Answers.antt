use Rattle.std.proofs.Common.{◌≡◌, ◌∙◌, ◌+◌, ◌-◌, ◌≤◌, ◌++◌, ℕ, List, length, take, drop, sym, ap, append_assoc, arith, w32}
use Rattle.std.specs.Int.{to_le_bytes}
use Rattle.std.proofs.Math.Seq.{sets, sets-eq}
use Rattle.std.proofs.lemmas.List.{drop-drop}
use Rattle.pt_ident.proofs.showing.put.Goals as goal

-- bytes put in the middle of others
put_over : (old field new : List ℕ) (at k : ℕ) → new ≡ field → k ≡ length field → at + length field ≤ length old → take at old ++ (new ++ drop k (drop at old)) ≡ sets old at field
put_over old field new at k is count within =
    let behind : at + k ≡ at + length field = omega arith in
    ap (λ f. take at old ++ (f ++ drop k (drop at old))) is
    ∙ ap (λ r. take at old ++ (field ++ r)) (drop-drop k at old ∙ ap (λ n. drop n old) behind)
    ∙ sym (append_assoc (take at old) field (drop (at + length field) old))
    ∙ sym (sets-eq field old at within)

pub returns : goal.returns
returns c =
    let old = c.args.bytes.now in
    let count : c.args.at + 4 - c.args.at ≡ 4 = omega arith in
    put_over old (to_le_bytes w32 c.args.number) c.copy_from_slice.new.self c.args.at _ (c.copy_from_slice.ensures.after ∙ c.to_le_bytes.ensures) count c.requires
