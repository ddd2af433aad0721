use Rattle.std.proofs.Common.{◌≡◌, ◌≤◌, ◌++◌, sym, ◌∙◌, subst, length, take, List, ℕ, arith}
use Rattle.std.proofs.lemmas.List.{take-append-le, take_all}
use Rattle.kr_seen.specs.Using.{Reads}
use Rattle.kr_seen.proofs.caller.read.Goals as goal

-- as many bytes as were read are all that were read
whole : (xs ys : List ℕ) (n : ℕ) → length xs ≡ n → take n (xs ++ ys) ≡ xs
whole xs ys n e = let least : n ≤ length xs = omega arith in let most : length xs ≤ n = omega arith in take-append-le n xs ys least ∙ take_all n xs most

pub returns-clause-ok : goal.returns-clause-ok
returns-clause-ok g c =
    let n : length c.deref_mut.result.now ≡ c.args.n = c.deref_mut.ensures.len ∙ c.in_ok-bytes.ensures.len in
    let long : length c.read_into.new.into ≡ c.in_ok-bytes.bytes.len = c.read_into.auto.into ∙ c.deref_mut.ensures.len in
    let P : ℕ → List ℕ → _ = λ n bytes. Reads c.args.pid c.args.at n bytes c.args.state.now c.read_into.new.state in
    subst (λ n. P n c.from.result) n (subst (P (length c.deref_mut.result.now)) (sym (c.from.ensures ∙ whole c.read_into.new.into _ c.in_ok-bytes.bytes.len long)) c.in-Ok.ensures.ok)
