-- What is drawn or written so far, and one more.
use Rattle.std.proofs.Common.{◌≡◌, ℕ, suc, ◌+◌, ◌*◌, List, [], ◌++◌, sym, ap, ◌∙◌, arith, append_assoc}
use Rattle.pr_gen.specs.Draws.{stepped, after, after_file, after_files, after_directories, file_bytes}
use Rattle.pr_gen.specs.Listing.{directory_line, directory_lines, directory_path, file_line, file_lines, file_path, target_lines, target_path}
use Rattle.pr_gen.specs.Guest.{rounds, round_at}

one_more : {A : Type 0} (f : ℕ → A) (k : ℕ) → f (k + 1) ≡ f (suc k)
one_more f k = ap f (omega arith)

-- the state, and what stands behind the lines so far
pub one_file_more : (out now more : List ℕ) (d f x state after_state : ℕ) → now ≡ out ++ file_lines d f x → state ≡ after_files f x
    → (line : List ℕ) → line ≡ file_line (file_path d f) (file_bytes state) → more ≡ now ++ line → after_state ≡ after_file state
    → (more ≡ out ++ file_lines d (f + 1) x) × (after_state ≡ after_files (f + 1) x)
unfolding file_lines after_files
one_file_more out now more d f x state after_state lines at line is grown next = (
  grown ∙ ap (λ a. a ++ line) lines ∙ append_assoc out (file_lines d f x) line ∙ ap (λ l. out ++ (file_lines d f x ++ l)) (is ∙ ap (λ s. file_line (file_path d f) (file_bytes s)) at) ∙ sym (ap (λ l. out ++ l) (one_more (λ k. file_lines d k x) f)),
  next ∙ ap after_file at ∙ sym (one_more (λ k. after_files k x) f),
)

pub one_directory_more : (out now more : List ℕ) (d x state after_state : ℕ) → now ≡ out ++ directory_lines d x → state ≡ after_directories d x
    → more ≡ (now ++ directory_line (directory_path d)) ++ file_lines d 256 state → after_state ≡ after_files 256 state
    → (more ≡ out ++ directory_lines (d + 1) x) × (after_state ≡ after_directories (d + 1) x)
unfolding directory_lines after_directories
one_directory_more out now more d x state after_state lines at grown next = (
  grown ∙ append_assoc now (directory_line (directory_path d)) (file_lines d 256 state)
      ∙ ap (λ a. a ++ (directory_line (directory_path d) ++ file_lines d 256 state)) lines
      ∙ append_assoc out (directory_lines d x) (directory_line (directory_path d) ++ file_lines d 256 state)
      ∙ ap (λ s. out ++ (directory_lines d x ++ (directory_line (directory_path d) ++ file_lines d 256 s))) at
      ∙ sym (ap (λ l. out ++ l) (one_more (λ k. directory_lines k x) d)),
  next ∙ ap (after_files 256) at ∙ sym (one_more (λ k. after_directories k x) d),
)

pub one_target_more : (out now more : List ℕ) (k : ℕ) → now ≡ out ++ target_lines k → more ≡ now ++ file_line (target_path k) [] → more ≡ out ++ target_lines (k + 1)
unfolding target_lines
one_target_more out now more k lines grown =
    grown ∙ ap (λ a. a ++ file_line (target_path k) []) lines ∙ append_assoc out (target_lines k) (file_line (target_path k) []) ∙ sym (ap (λ l. out ++ l) (one_more target_lines k))

twice : (k x : ℕ) → after (2 * (k + 1)) x ≡ stepped (stepped (after (2 * k) x))
unfolding after
twice k x = let more : 2 * (k + 1) ≡ suc (suc (2 * k)) = omega arith in ap (λ j. after j x) more

pub one_round_more : (now more : List ℕ) (k x state after_state : ℕ) → now ≡ rounds k x → state ≡ after (2 * k) x
    → more ≡ now ++ round_at k state → after_state ≡ stepped (stepped state)
    → (more ≡ rounds (k + 1) x) × (after_state ≡ after (2 * (k + 1)) x)
unfolding rounds
one_round_more now more k x state after_state texts at grown next = (
  grown ∙ ap (λ a. a ++ round_at k state) texts ∙ ap (λ s. rounds k x ++ round_at k s) at ∙ sym (one_more (λ j. rounds j x) k),
  next ∙ ap (λ s. stepped (stepped s)) at ∙ sym (twice k x),
)
