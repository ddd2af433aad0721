-- What was drawn from a source.
use Rattle.std.proofs.Common.{◌≡◌, ◌∙◌, ℕ, List, [], sym, subst}
use Rattle.std.proofs.KnownBytes.{Consumes-nil}
use Rattle.std.proofs.Transfers.{drop-appended}
use Rattle.std.proofs.lemmas.List.{append-nil}
use Rattle.std.specs.Io.KnownBytes.{Consumes}
use Rattle.pr_io.specs.Drawn.{Drawn, Gave, IsDrawn, gave}

-- the bytes that came behind the others are those that it gave
pub gave_by : (d : Drawn) (bs : List ℕ) → Gave d bs → gave d ≡ bs
gave_by d bs g = drop-appended d.before d.now bs g.grew

pub drawn_by : (d : Drawn) (bs : List ℕ) → Gave d bs → IsDrawn d
drawn_by d bs g = subst (Gave d) (sym (gave_by d bs g)) g

-- a source that wasn't touched gave none
pub none_given : (d : Drawn) → d.now ≡ d.before → d.has ≡ d.had → Gave d []
none_given d same left = record {
  grew = same ∙ sym (append-nil d.before);
  lost = subst (λ has. Consumes d.had has []) (sym left) (Consumes-nil d.had);
}

pub drawn_none : (d : Drawn) → d.now ≡ d.before → d.has ≡ d.had → IsDrawn d
drawn_none d same left = drawn_by d [] (none_given d same left)
