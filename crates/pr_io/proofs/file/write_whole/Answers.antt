use Rattle.std.proofs.Common.{◌≡◌, ◌≤◌, ℕ, ◌+◌, ◌-◌, length, List, ◌++◌, take, drop, Option, Some, None, arith, append_assoc}
use Rattle.std.proofs.Math.Seq.{take-add}
use Rattle.std.proofs.lemmas.Grind.{common_steps}
use Rattle.std.specs.Io.KnownBytes.{Appends}
use Rattle.pr_io.proofs.file.write_whole.Goals as goal
use Rattle.pr_io.proofs.file.write_whole.Goals.{in-Ok, in-Err}

-- what is left of b from i on has no more bytes than b has past i
within-rest : (b : List ℕ) (i n j : ℕ) → i ≤ length b → n ≤ length (take (length b - i) (drop i b)) → j ≡ i + n → j ≤ length b
within-rest b i n j within few is = grind (arith, common_steps)

-- the first i bytes, and then n bytes of the rest, are the first i + n
take-rest : (b : List ℕ) (i n j : ℕ) → j ≡ i + n → take j b ≡ take i b ++ take n (take (length b - i) (drop i b))
take-rest b i n j is = grind (arith, common_steps, take-add i n b)

-- what grew by the first i bytes, and then by n bytes of the rest, grew by the first i + n
appends-rest : (x y z : Option (List ℕ)) (b : List ℕ) (i n j : ℕ) → Appends x y (take i b) → Appends y z (take n (take (length b - i) (drop i b))) → j ≡ i + n → Appends x z (take j b)
appends-rest None y z b i n j front rest is = tt
appends-rest (Some x) None z b i n j front rest is = absurd front
appends-rest (Some x) (Some y) None b i n j front rest is = absurd rest
appends-rest (Some x) (Some y) (Some z) b i n j front rest is = let e = take-rest b i n j is in grind (arith, append_assoc)

pub loop-preserved : goal.loop-preserved
loop-preserved g c = elim c.match-write.branch [
  | in-Ok w ↦ record {
    within = within-rest c.args.b.now c.loop.at w.in-Ok.n _ c.loop.invariant.within w.in-Ok.ensures.bound w.at-is;
    written = appends-rest (g.W.Write.contents c.args.writer.now) (g.W.Write.contents c.loop.writer) (g.W.Write.contents c.write.new.self) c.args.b.now c.loop.at w.in-Ok.n _ c.loop.invariant.written w.in-Ok.ensures.bytes w.at-is;
  }
  | in-Err w ↦ grind (arith, common_steps)
]
