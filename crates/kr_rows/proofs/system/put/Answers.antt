use Rattle.std.proofs.Common.{◌≡◌, ℕ, ◌++◌, ◌-◌, ◌≤◌, length, take, drop, replicate, ap, ◌∙◌, append_assoc, arith}
use Rattle.std.proofs.lemmas.List.{drop-replicate, length-replicate, take_all}
use Rattle.std.proofs.lemmas.Result.{on_ok_weaker}
use Rattle.kr_rows.proofs.system.put.Goals as goal

pub returns : goal.returns
returns c =
    let n = length c.args.text.now in
    let most : length (replicate (65 - n) 0) ≤ 65 - n = omega (arith, length-replicate {A = ℕ} (65 - n) 0) in
    on_ok_weaker c.append-2.result
    (λ (h : c.append-2.new.self ≡ c.append.new.self ++ take (65 - n) (drop n (replicate 65 0))).
    h ∙ ap (λ zeros. c.append.new.self ++ take (65 - n) zeros) (drop-replicate n 65 0)
    ∙ ap (λ zeros. c.append.new.self ++ zeros) (take_all (65 - n) (replicate (65 - n) 0) most)
    ∙ ap (λ bytes. bytes ++ replicate (65 - n) 0) c.in_ok-append.ensures.ok
    ∙ append_assoc c.args.bytes.now c.args.text.now (replicate (65 - n) 0))
    c.append-2.ensures.ok
