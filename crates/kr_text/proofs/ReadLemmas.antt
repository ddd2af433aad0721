-- A listing read from one of its lines on.
use Rattle.std.proofs.Common.{◌≡◌, ℕ, List, [], ◌∷◌, length, Result, Ok, Err, refl, sym, ap, ◌∙◌, arith}
use Rattle.kr_tree.specs.kr_inode.declared.user.User.{User}
use Rattle.kr_tree.specs.Tree.{Tree}
use Rattle.kr_text.specs.declared.fault.TreeWhy.TheVariants.{Form}
use Rattle.kr_text.specs.declared.fault.ListFault.{ListFault}
use Rattle.kr_text.specs.declared.fault.ListFault.TheVariants.{Bad, NoMemory}
use Rattle.kr_text.specs.declared.so_far.SoFar.{SoFar}
use Rattle.kr_text.specs.Reading.{read_from, line_added, counted, finished, then_on}
use Rattle.kr_text.specs.Results.{AddsLine, IsListing}

one_more : (elf : List ℕ) (n : ℕ) (line next : List ℕ) (more : List (List ℕ)) (s : SoFar) → read_from elf n (line ∷ next ∷ more) s ≡ then_on n (line_added elf line s) (read_from elf (counted n) (next ∷ more))
unfolding read_from
one_more elf n [] next more s = refl
one_more elf n (b ∷ line) next more s = refl

pub more_read : (elf : List ℕ) (n : ℕ) (line next : List ℕ) (lines more : List (List ℕ)) (s after : SoFar) → lines ≡ next ∷ more → line_added elf line s ≡ Ok after → read_from elf n (line ∷ lines) s ≡ read_from elf (counted n) (next ∷ more) after
more_read elf n line next lines more s after e added =
    ap (λ ls. read_from elf n (line ∷ ls) s) e ∙ one_more elf n line next more s ∙ ap (λ r. then_on n r (read_from elf (counted n) (next ∷ more))) added

pub fault_read : (elf : List ℕ) (n : ℕ) (line next : List ℕ) (lines more : List (List ℕ)) (s after : SoFar) (fault : ListFault) → lines ≡ next ∷ more → AddsLine n (line_added elf line s) (Err fault) after → IsListing (read_from elf n (line ∷ lines) s) (Err fault)
fault_read elf n line next lines more s after (Bad m why) e added =
    ap (λ ls. read_from elf n (line ∷ ls) s) e ∙ one_more elf n line next more s ∙ ap (λ r. then_on n r (read_from elf (counted n) (next ∷ more))) added.1 ∙ ap (λ k. Err (Bad k why)) (sym added.0)
fault_read elf n line next lines more s after NoMemory e added = tt

end_read : (elf : List ℕ) (n : ℕ) (s : SoFar) (l : List ℕ) → length l ≡ 0 → read_from elf n (l ∷ []) s ≡ finished n s.tree s.user
unfolding read_from
end_read elf n s [] h = refl
end_read elf n s (b ∷ l) h = absurd (omega (arith, h))

pub last_read : (elf : List ℕ) (n : ℕ) (line : List ℕ) (lines : List (List ℕ)) (s : SoFar) → lines ≡ [] → length line ≡ 0 → read_from elf n (line ∷ lines) s ≡ finished n s.tree s.user
last_read elf n line lines s e none = ap (λ ls. read_from elf n (line ∷ ls) s) e ∙ end_read elf n s line none

no_newline_read : (elf : List ℕ) (n : ℕ) (s : SoFar) (l : List ℕ) → (length l ≡ 0 → ⊥) → read_from elf n (l ∷ []) s ≡ Err (Bad n Form)
unfolding read_from
no_newline_read elf n s [] h = absurd (h refl)
no_newline_read elf n s (b ∷ l) h = refl

pub cut_read : (elf : List ℕ) (n : ℕ) (line : List ℕ) (lines : List (List ℕ)) (s : SoFar) → lines ≡ [] → (length line ≡ 0 → ⊥) → read_from elf n (line ∷ lines) s ≡ Err (Bad n Form)
cut_read elf n line lines s e some = ap (λ ls. read_from elf n (line ∷ ls) s) e ∙ no_newline_read elf n s line some

pub is_listing : (expected result : Result (Tree × User) ListFault) → expected ≡ result → IsListing expected result
is_listing expected (Ok read) e = e
is_listing expected (Err (Bad line why)) e = e
is_listing expected (Err NoMemory) e = tt
