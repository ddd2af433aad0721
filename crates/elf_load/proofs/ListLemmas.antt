-- Lists of texts, words and segments, one after the other.
use Rattle.std.proofs.Common.{◌≡◌, ℕ, ◌+◌, ◌-◌, ◌*◌, ◌<◌, ◌≤◌, zero, suc, List, [], ◌∷◌, ◌++◌, length, take, drop, replicate, get_or, refl, sym, ap, ◌∙◌, arith, append_assoc, length-append, add-one, drop-cons, Some}
use Rattle.std.specs.Prelude.{slice_get, Result, Ok, Err, OnOk}
use Rattle.std.specs.Int.{to_le_bytes, w64}
use Rattle.std.proofs.lemmas.List.{drop_all, length-replicate, take-replicate}
use Rattle.elf_read.specs.declared.plan.Plan.{Plan}
use Rattle.elf_load.specs.FirstStack.{ArePlaced, pair_place, aligned, text_bytes, text_addresses, word_bytes, pair_words, pairs_of, words_of, zeros, texts_at, texts_size, stack_pointer, word_count, stack_bytes, random_bytes, random_at}
use Rattle.elf_load.specs.declared.stack.Pair.{Pair}

-- what is left behind a place that is there
pub drop-at : {A : Type 0} (xs : List A) (k : ℕ) (x : A) → slice_get xs k ≡ Some x → drop k xs ≡ x ∷ drop (k + 1) xs
drop-at [] k x e = cc
drop-at (y ∷ xs) zero x e = let same : y ≡ x = cc in ap (λ z. z ∷ xs) same
drop-at (y ∷ xs) (suc k) x e =
    let next : suc (k + 1) ≡ suc k + 1 = omega arith in
    drop-at xs k x e ∙ ap (λ j. x ∷ drop j (y ∷ xs)) next

-- texts: the first of those left, and none
pub text_bytes-at : (ts : List (List ℕ)) (k : ℕ) (t : List ℕ) → drop k ts ≡ t ∷ drop (k + 1) ts → text_bytes (drop k ts) ≡ t ++ (0 ∷ text_bytes (drop (k + 1) ts))
text_bytes-at ts k t e = ap text_bytes e

pub size-at : (ts : List (List ℕ)) (k : ℕ) (t : List ℕ) → drop k ts ≡ t ∷ drop (k + 1) ts → length (text_bytes (drop k ts)) ≡ length t + 1 + length (text_bytes (drop (k + 1) ts))
size-at ts k t e = ap length (text_bytes-at ts k t e) ∙ length-append t (0 ∷ text_bytes (drop (k + 1) ts)) ∙ omega arith

pub text_bytes-end : (ts : List (List ℕ)) (k : ℕ) → length ts ≤ k → text_bytes (drop k ts) ≡ []
text_bytes-end ts k past = ap text_bytes (drop_all k ts past)

pub size-end : (ts : List (List ℕ)) (k : ℕ) → length ts ≤ k → length (text_bytes (drop k ts)) ≡ 0
size-end ts k past = ap length (text_bytes-end ts k past)

-- a text and its end were added
pub text-added : (bytes t rest : List ℕ) → ((bytes ++ t) ++ (0 ∷ [])) ++ rest ≡ bytes ++ (t ++ (0 ∷ rest))
text-added bytes t rest = append_assoc (bytes ++ t) (0 ∷ []) rest ∙ append_assoc bytes t (0 ∷ rest)

-- their addresses
pub addresses-at : (ts : List (List ℕ)) (k : ℕ) (t : List ℕ) (at : ℕ) → drop k ts ≡ t ∷ drop (k + 1) ts → word_bytes (text_addresses at (drop k ts)) ≡ to_le_bytes w64 at ++ word_bytes (text_addresses (at + length t + 1) (drop (k + 1) ts))
addresses-at ts k t at e = ap (λ r. word_bytes (text_addresses at r)) e

pub addresses-end : (ts : List (List ℕ)) (k at : ℕ) → length ts ≤ k → word_bytes (text_addresses at (drop k ts)) ≡ []
addresses-end ts k at past = ap (λ r. word_bytes (text_addresses at r)) (drop_all k ts past)

-- words of pairs
pub pairs-at : (ps : List Pair) (k : ℕ) (d : Pair) → k < length ps → word_bytes (pair_words (drop k ps)) ≡ to_le_bytes w64 (get_or ps k d).kind ++ (to_le_bytes w64 (get_or ps k d).value ++ word_bytes (pair_words (drop (k + 1) ps)))
pairs-at ps k d within =
    ap (λ r. word_bytes (pair_words r)) (drop-cons ps k d within)
    ∙ ap (λ j. to_le_bytes w64 (get_or ps k d).kind ++ (to_le_bytes w64 (get_or ps k d).value ++ word_bytes (pair_words (drop j ps)))) (sym (add-one k))

pub pairs-end : (ps : List Pair) (k : ℕ) → length ps ≤ k → word_bytes (pair_words (drop k ps)) ≡ []
pairs-end ps k past = ap (λ r. word_bytes (pair_words r)) (drop_all k ps past)

pub word_bytes-append : (vs ws : List ℕ) → word_bytes (vs ++ ws) ≡ word_bytes vs ++ word_bytes ws
word_bytes-append [] ws = refl
word_bytes-append (v ∷ vs) ws =
    ap (λ r. to_le_bytes w64 v ++ r) (word_bytes-append vs ws) ∙ sym (append_assoc (to_le_bytes w64 v) (word_bytes vs) (word_bytes ws))

-- ---- bytes to which words were added

pub pair-added : (old before between after : List ℕ) (ps : List Pair) (k : ℕ) (d : Pair) → k < length ps
    → between ≡ before ++ to_le_bytes w64 (get_or ps k d).kind → after ≡ between ++ to_le_bytes w64 (get_or ps k d).value
    → before ++ word_bytes (pair_words (drop k ps)) ≡ old ++ word_bytes (pair_words ps) → after ++ word_bytes (pair_words (drop (k + 1) ps)) ≡ old ++ word_bytes (pair_words ps)
pair-added old before between after ps k d within first second so_far =
    let kind : List ℕ = to_le_bytes w64 (get_or ps k d).kind in
    let value : List ℕ = to_le_bytes w64 (get_or ps k d).value in
    let rest : List ℕ = word_bytes (pair_words (drop (k + 1) ps)) in
    ap (λ b. b ++ rest) (second ∙ ap (λ b. b ++ value) first)
    ∙ append_assoc (before ++ kind) value rest
    ∙ append_assoc before kind (value ++ rest)
    ∙ ap (λ r. before ++ r) (sym (pairs-at ps k d within))
    ∙ so_far

one_word : (before after : List ℕ) (w : ℕ) (ws : List ℕ) → after ≡ before ++ to_le_bytes w64 w → after ++ word_bytes ws ≡ before ++ word_bytes (w ∷ ws)
one_word before after w ws e = ap (λ b. b ++ word_bytes ws) e ∙ append_assoc before (to_le_bytes w64 w) (word_bytes ws)

some_words : (before after vs ws : List ℕ) → after ≡ before ++ word_bytes vs → after ++ word_bytes ws ≡ before ++ word_bytes (vs ++ ws)
some_words before after vs ws e =
    ap (λ b. b ++ word_bytes ws) e ∙ append_assoc before (word_bytes vs) (word_bytes ws) ∙ ap (λ r. before ++ r) (sym (word_bytes-append vs ws))

-- a number, words, a zero, words, a zero, words
pub words-added : (b0 b1 b2 b3 b4 b5 b6 : List ℕ) (n : ℕ) (first second last : List ℕ) → b1 ≡ b0 ++ to_le_bytes w64 n → b2 ≡ b1 ++ word_bytes first → b3 ≡ b2 ++ to_le_bytes w64 0
    → b4 ≡ b3 ++ word_bytes second → b5 ≡ b4 ++ to_le_bytes w64 0 → b6 ≡ b5 ++ word_bytes last → b6 ≡ b0 ++ word_bytes (n ∷ (first ++ (0 ∷ (second ++ (0 ∷ last)))))
words-added b0 b1 b2 b3 b4 b5 b6 n first second last e1 e2 e3 e4 e5 e6 =
    e6
    ∙ one_word b4 b5 0 last e5
    ∙ some_words b3 b4 second (0 ∷ last) e4
    ∙ one_word b2 b3 0 (second ++ (0 ∷ last)) e3
    ∙ some_words b1 b2 first (0 ∷ (second ++ (0 ∷ last))) e2
    ∙ one_word b0 b1 n (first ++ (0 ∷ (second ++ (0 ∷ last)))) e1

pub on_ok : {T E : Type 0} (r : Result T E) (P Q : Type 0) → (P → Q) → OnOk r P → OnOk r Q
on_ok (Ok x) P Q f h = f h
on_ok (Err x) P Q f h = tt

pub zeros-cut : (n : ℕ) → n < 16 → take n (replicate 16 0) ≡ zeros n
unfolding zeros
zeros-cut n h = take-replicate n 16 0 (omega arith)

-- ---- the stack, part by part

pub stack-built : (pairs : List Pair) (args env : List (List ℕ)) (b0 b1 b2 b3 b4 b5 b6 : List ℕ) (n k : ℕ) → b0 ≡ []
    → b1 ≡ b0 ++ word_bytes (words_of pairs args env) → b2 ≡ b1 ++ zeros n → b3 ≡ b2 ++ text_bytes args → b4 ≡ b3 ++ text_bytes env → b5 ≡ b4 ++ zeros k → b6 ≡ b5 ++ random_bytes
    → n ≡ texts_at args env - (stack_pointer args env + 8 * word_count args env) → k ≡ random_at - (texts_at args env + texts_size args env)
    → b6 ≡ stack_bytes pairs args env
stack-built pairs args env b0 b1 b2 b3 b4 b5 b6 n k e0 e1 e2 e3 e4 e5 e6 is_n is_k =
    let first : b1 ≡ word_bytes (words_of pairs args env) = e1 ∙ ap (λ b. b ++ word_bytes (words_of pairs args env)) e0 in
    e6
    ∙ ap (λ b. b ++ random_bytes) (e5
    ∙ ap (λ j. b4 ++ zeros j) is_k
    ∙ ap (λ b. b ++ zeros (random_at - (texts_at args env + texts_size args env))) (e4
    ∙ ap (λ b. b ++ text_bytes env) (e3
    ∙ ap (λ b. b ++ text_bytes args) (e2
    ∙ ap (λ j. b1 ++ zeros j) is_n
    ∙ ap (λ b. b ++ zeros (texts_at args env - (stack_pointer args env + 8 * word_count args env))) first))))

-- ---- how large the stack is

length-word_bytes : (ws : List ℕ) → length (word_bytes ws) ≡ 8 * length ws
length-word_bytes [] = refl
length-word_bytes (w ∷ ws) =
    let first : length (to_le_bytes w64 w) ≡ 8 = refl in
    omega (arith, first, length-append (to_le_bytes w64 w) (word_bytes ws), length-word_bytes ws)

length-text_addresses : (at : ℕ) (ts : List (List ℕ)) → length (text_addresses at ts) ≡ length ts
length-text_addresses at [] = refl
length-text_addresses at (t ∷ ts) = ap suc (length-text_addresses (at + length t + 1) ts)

length-words : (pairs : List Pair) (args env : List (List ℕ)) → length (pair_words pairs) ≡ 24 → length (words_of pairs args env) ≡ word_count args env
length-words pairs args env twelve =
    let at = texts_at args env in
    let behind = at + length (text_bytes args) in
    omega (
      arith,
      twelve,
      length-text_addresses at args,
      length-text_addresses behind env,
      length-append (text_addresses at args) (0 ∷ (text_addresses behind env ++ (0 ∷ pair_words pairs))),
      length-append (text_addresses behind env) (0 ∷ pair_words pairs),
    )

length-zeros : (n : ℕ) → length (zeros n) ≡ n
unfolding zeros
length-zeros n = length-replicate n 0

-- what may be given leaves room in 1 MiB
pub stack_low : (args env : List (List ℕ)) → texts_size args env ≤ 131072 → length args ≤ 4096 → length env ≤ 4096 → 0x3F_FFEF_F000 ≤ stack_pointer args env
stack_low args env size few_args few_env = omega arith

-- and reaches to the top
pub stack_ends : (plan : Plan) (ids : List ℕ) (args env : List (List ℕ)) → texts_size args env ≤ 131072 → length args ≤ 4096 → length env ≤ 4096
    → stack_pointer args env + length (stack_bytes (pairs_of plan ids) args env) ≡ 0x3F_FFFF_F000
stack_ends plan ids args env size few_args few_env =
    let pairs = pairs_of plan ids in
    let words : length (word_bytes (words_of pairs args env)) ≡ 8 * word_count args env =
    length-word_bytes (words_of pairs args env) ∙ ap (λ n. 8 * n) (length-words pairs args env refl) in
    let below = texts_at args env - (stack_pointer args env + 8 * word_count args env) in
    let above = random_at - (texts_at args env + texts_size args env) in
    let b1 = word_bytes (words_of pairs args env) in
    let b2 = b1 ++ zeros below in
    let b3 = b2 ++ text_bytes args in
    let b4 = b3 ++ text_bytes env in
    omega (
      arith,
      words,
      length-append b1 (zeros below),
      length-zeros below,
      length-append b2 (text_bytes args),
      length-append b3 (text_bytes env),
      length-append b4 (zeros above),
      length-zeros above,
      length-append (b4 ++ zeros above) random_bytes,
    )

-- the stack pointer as it is computed
pub pointer-is : (args env : List (List ℕ)) (size at args_count env_count sp : ℕ) → at ≡ aligned (random_at - size) → size ≡ texts_size args env → args_count ≡ length args → env_count ≡ length env
    → sp ≡ aligned (at - 8 * (args_count + env_count + 27)) → sp ≡ stack_pointer args env
pointer-is args env size at args_count env_count sp is_at is_size is_args is_env is_sp =
    let first : at ≡ texts_at args env = is_at ∙ ap (λ s. aligned (random_at - s)) is_size in
    let count : 8 * (args_count + env_count + 27) ≡ 8 * word_count args env = omega arith in
    is_sp ∙ ap (λ n. aligned (at - n)) count ∙ ap (λ t. aligned (t - 8 * word_count args env)) first

-- ---- where the pairs stand

behind : (xs ys : List ℕ) (k : ℕ) → slice_get (xs ++ ys) (length xs + k) ≡ slice_get ys k
behind [] ys k = let same : 0 + k ≡ k = omega arith in ap (slice_get ys) same
behind (x ∷ xs) ys k = let next : suc (length xs) + k ≡ suc (length xs + k) = omega arith in ap (slice_get (x ∷ (xs ++ ys))) next ∙ behind xs ys k

kind_at : (ps : List Pair) (k : ℕ) (p : Pair) → slice_get ps k ≡ Some p → slice_get (pair_words ps) (2 * k) ≡ Some p.kind
kind_at [] k p e = cc
kind_at (q ∷ ps) zero p e = let same : q ≡ p = cc in ap (λ (r : Pair). Some r.kind) same
kind_at (q ∷ ps) (suc k) p e = let next : 2 * suc k ≡ suc (suc (2 * k)) = omega arith in ap (slice_get (pair_words (q ∷ ps))) next ∙ kind_at ps k p e

value_at : (ps : List Pair) (k : ℕ) (p : Pair) → slice_get ps k ≡ Some p → slice_get (pair_words ps) (2 * k + 1) ≡ Some p.value
value_at [] k p e = cc
value_at (q ∷ ps) zero p e = let same : q ≡ p = cc in ap (λ (r : Pair). Some r.value) same
value_at (q ∷ ps) (suc k) p e = let next : 2 * suc k + 1 ≡ suc (suc (2 * k + 1)) = omega arith in ap (slice_get (pair_words (q ∷ ps))) next ∙ value_at ps k p e

-- behind the number of arguments, the two lists and their ends
word_at : (n : ℕ) (first second last : List ℕ) (k : ℕ) → slice_get (n ∷ (first ++ (0 ∷ (second ++ (0 ∷ last))))) (length first + length second + 3 + k) ≡ slice_get last k
word_at n first second last k =
    let place : length first + length second + 3 + k ≡ suc (length first + suc (length second + suc k)) = omega arith in
    ap (slice_get (n ∷ (first ++ (0 ∷ (second ++ (0 ∷ last)))))) place
    ∙ behind first (0 ∷ (second ++ (0 ∷ last))) (suc (length second + suc k))
    ∙ behind second (0 ∷ last) (suc k)

pub are_placed : ArePlaced
are_placed = λ pairs args env k p e.
    let at = texts_at args env in
    let first : List ℕ = text_addresses at args in
    let second : List ℕ = text_addresses (at + length (text_bytes args)) env in
    let place : pair_place args env k ≡ length first + length second + 3 + 2 * k = omega (arith, length-text_addresses at args, length-text_addresses (at + length (text_bytes args)) env) in
    let next : pair_place args env k + 1 ≡ length first + length second + 3 + (2 * k + 1) = omega (arith, length-text_addresses at args, length-text_addresses (at + length (text_bytes args)) env) in (
      ap (slice_get (words_of pairs args env)) place ∙ word_at (length args) first second (pair_words pairs) (2 * k) ∙ kind_at pairs k p e,
      ap (slice_get (words_of pairs args env)) next ∙ word_at (length args) first second (pair_words pairs) (2 * k + 1) ∙ value_at pairs k p e,
    )
