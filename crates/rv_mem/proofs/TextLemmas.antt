-- Texts, byte after byte and page after page.
use Rattle.std.proofs.Common.{◌≡◌, subst, ℕ, ◌+◌, ◌-◌, ◌*◌, ◌/◌, ◌%◌, ◌≤◌, ◌<◌, zero, suc, Bool, true, false, ◌&&◌, ◌||◌, List, [], ◌∷◌, ◌++◌, length, get_or, refl, sym, ap, ◌∙◌, arith, cond, Option, Some, None, Result, Ok, Err, nat_eq, nat_lt}
use Rattle.std.specs.List.{position, position_or_len}
use Rattle.std.specs.Option.{IfNone, IfSome}
use Rattle.std.proofs.lemmas.Bool.Decides.{nat_tests}
use Rattle.std.proofs.lemmas.List.{append_assoc, append-nil}
use Rattle.std.proofs.lemmas.List.Sums.{fails_before_first, passes_at_first}
use Rattle.rv_mem.specs.declared.fault.TextFault.{TextFault}
use Rattle.rv_mem.specs.declared.fault.TextFault.TheVariants.{BadAddress, TooLong}
use Rattle.rv_mem.specs.declared.rights.Use.TheVariants.{Read}
use Rattle.rv_mem.specs.Pages.{Pages, byte_at, page_allows, allows, allows_all, bytes_from, any_marked, HasNoZero}
use Rattle.rv_mem.specs.Memory.{text_of, text_reach, text_after}
use Rattle.rv_mem.proofs.PagesLemmas.{bytes_from-add, length-bytes_from, allows_all-add, any_marked-add, allows_all_in_page}

-- ---- the first zero of a list

is_zero : ℕ → Bool
is_zero b = nat_eq b 0

get_or-bytes_from : (m : Pages) (at n k : ℕ) → k < n → get_or (bytes_from m at n) k 0 ≡ byte_at m (at + k)
unfolding bytes_from
get_or-bytes_from m at zero k h = absurd (omega arith)
get_or-bytes_from m at (suc n) zero h = let e : at ≡ at + zero = omega arith in ap (byte_at m) e
get_or-bytes_from m at (suc n) (suc k) h = let e : at + 1 + k ≡ at + suc k = omega arith in get_or-bytes_from m (at + 1) n k (omega arith) ∙ ap (byte_at m) e

no_position : (l n : ℕ) (b : Bool) → nat_lt l n ≡ b → ◌≡◌ {A = Option ℕ} (cond b (Some l) None) None → n ≤ l
no_position l n true e h = absurd cc
no_position l n false e h = grind (arith, nat_tests)

some_position : (l n z : ℕ) (b : Bool) → nat_lt l n ≡ b → ◌≡◌ {A = Option ℕ} (cond b (Some l) None) (Some z) → (l < n) × (l ≡ z)
some_position l n z true e h = (grind (arith, nat_tests), cc)
some_position l n z false e h = absurd cc

no_zero_from : (m : Pages) (at n : ℕ) → position (λ b. nat_eq b 0) (bytes_from m at n) ≡ None → HasNoZero m at n
no_zero_from m at n h k l =
    let size = length-bytes_from m at n in
    let far : length (bytes_from m at n) ≤ position_or_len (λ b. nat_eq b 0) (bytes_from m at n) = no_position _ _ _ refl h in
    let before : k < position_or_len (λ b. nat_eq b 0) (bytes_from m at n) = omega (arith, size, far) in
    ap (λ b. nat_eq b 0) (sym (get_or-bytes_from m at n k l)) ∙ fails_before_first (λ b. nat_eq b 0) (bytes_from m at n) k 0 before

zero_from : (m : Pages) (at n z : ℕ) → position (λ b. nat_eq b 0) (bytes_from m at n) ≡ Some z → (z < n) × (nat_eq (byte_at m (at + z)) 0 ≡ true) × HasNoZero m at z
zero_from m at n z h =
    let size = length-bytes_from m at n in
    let found : (position_or_len (λ b. nat_eq b 0) (bytes_from m at n) < length (bytes_from m at n)) × (position_or_len (λ b. nat_eq b 0) (bytes_from m at n) ≡ z) = some_position _ _ z _ refl h in
    let is : position_or_len (λ b. nat_eq b 0) (bytes_from m at n) ≡ z = found.1 in
    let within : z < n = omega (arith, size, found.0, is) in (
      within,
      ap (λ b. nat_eq b 0) (sym (get_or-bytes_from m at n z within) ∙ ap (λ i. get_or (bytes_from m at n) i 0) (sym is)) ∙ passes_at_first (λ b. nat_eq b 0) (bytes_from m at n) 0 found.0,
      λ k l. ap (λ b. nat_eq b 0) (sym (get_or-bytes_from m at n k (omega arith))) ∙ fails_before_first (λ b. nat_eq b 0) (bytes_from m at n) k 0 (omega (arith, is)),
    )

-- what a search among bytes tells
pub none_found : (m : Pages) (at n : ℕ) (o : Option ℕ) → o ≡ position (λ b. nat_eq b 0) (bytes_from m at n) → IfNone o (HasNoZero m at n)
none_found m at n None e = no_zero_from m at n (sym e)
none_found m at n (Some z) e = tt

pub one_found : (m : Pages) (at n : ℕ) (o : Option ℕ) → o ≡ position (λ b. nat_eq b 0) (bytes_from m at n) → IfSome o (λ z. (z < n) × (nat_eq (byte_at m (at + z)) 0 ≡ true) × HasNoZero m at z)
one_found m at n None e = tt
one_found m at n (Some z) e = zero_from m at n z (sym e)

-- ---- a text past bytes that aren't zero

abbrev pub text_past : List ℕ → Result (List ℕ) TextFault → Result (List ℕ) TextFault
text_past xs (Ok bs) = Ok (xs ++ bs)
text_past xs (Err fault) = Err fault

past_more : (b : ℕ) (xs : List ℕ) (r : Result (List ℕ) TextFault) → text_after b (text_past xs r) ≡ text_past (b ∷ xs) r
past_more b xs (Ok bs) = refl
past_more b xs (Err fault) = refl

past_nothing : (r : Result (List ℕ) TextFault) → r ≡ text_past [] r
past_nothing (Ok bs) = refl
past_nothing (Err fault) = refl

and_first : (a b : Bool) → (a && b) ≡ true → a ≡ true
and_first true b h = refl
and_first false b h = absurd cc

and_second : (a b : Bool) → (a && b) ≡ true → b ≡ true
and_second true b h = h
and_second false b h = absurd cc

pub reach_past : (m : Pages) (at n r : ℕ) → allows_all m at n Read ≡ true → HasNoZero m at n → text_reach m at (n + r) ≡ n + text_reach m (at + n) r
unfolding allows_all text_reach
reach_past m at zero r h none =
    let count : zero + r ≡ r = omega arith in
    let from : at ≡ at + zero = omega arith in
    let sum : text_reach m (at + zero) r ≡ zero + text_reach m (at + zero) r = omega arith in
    ap (text_reach m at) count ∙ ap (λ a. text_reach m a r) from ∙ sum
reach_past m at (suc n) r h none =
    let count : suc n + r ≡ suc (n + r) = omega arith in
    let here : at + 0 ≡ at = omega arith in
    let from : at + 1 + n ≡ at + suc n = omega arith in
    let sum : 1 + (n + text_reach m (at + suc n) r) ≡ suc n + text_reach m (at + suc n) r = omega arith in
    let some : nat_eq (byte_at m at) 0 ≡ false = subst (λ a. nat_eq (byte_at m a) 0 ≡ false) here (none 0 (omega arith)) in
    let rest : HasNoZero m (at + 1) n = λ k l. let e : at + suc k ≡ at + 1 + k = omega arith in subst (λ a. nat_eq (byte_at m a) 0 ≡ false) e (none (suc k) (omega arith)) in
    ap (text_reach m at) count
    ∙ ap (λ b. cond b (cond (nat_eq (byte_at m at) 0) 1 (1 + text_reach m (at + 1) (n + r))) 0) (and_first (allows m at Read) (allows_all m (at + 1) n Read) h)
    ∙ ap (λ b. cond b 1 (1 + text_reach m (at + 1) (n + r))) some
    ∙ ap (λ x. 1 + x) (reach_past m (at + 1) n r (and_second (allows m at Read) (allows_all m (at + 1) n Read) h) rest ∙ ap (λ a. n + text_reach m a r) from)
    ∙ sum

pub text_of_past : (m : Pages) (at n r : ℕ) → allows_all m at n Read ≡ true → HasNoZero m at n → text_of m at (n + r) ≡ text_past (bytes_from m at n) (text_of m (at + n) r)
unfolding allows_all text_of bytes_from
text_of_past m at zero r h none =
    let count : zero + r ≡ r = omega arith in
    let from : at ≡ at + zero = omega arith in
    ap (text_of m at) count ∙ ap (λ a. text_of m a r) from ∙ past_nothing (text_of m (at + zero) r)
text_of_past m at (suc n) r h none =
    let count : suc n + r ≡ suc (n + r) = omega arith in
    let here : at + 0 ≡ at = omega arith in
    let from : at + 1 + n ≡ at + suc n = omega arith in
    let some : nat_eq (byte_at m at) 0 ≡ false = subst (λ a. nat_eq (byte_at m a) 0 ≡ false) here (none 0 (omega arith)) in
    let rest : HasNoZero m (at + 1) n = λ k l. let e : at + suc k ≡ at + 1 + k = omega arith in subst (λ a. nat_eq (byte_at m a) 0 ≡ false) e (none (suc k) (omega arith)) in
    ap (text_of m at) count
    ∙ ap (λ b. cond b (cond (nat_eq (byte_at m at) 0) (Ok []) (text_after (byte_at m at) (text_of m (at + 1) (n + r)))) (Err BadAddress)) (and_first (allows m at Read) (allows_all m (at + 1) n Read) h)
    ∙ ap (λ b. cond b (Ok []) (text_after (byte_at m at) (text_of m (at + 1) (n + r)))) some
    ∙ ap (text_after (byte_at m at)) (text_of_past m (at + 1) n r (and_second (allows m at Read) (allows_all m (at + 1) n Read) h) rest ∙ ap (λ a. text_past (bytes_from m (at + 1) n) (text_of m a r)) from)
    ∙ past_more (byte_at m at) (bytes_from m (at + 1) n) (text_of m (at + suc n) r)

-- ---- where the search ends

pub reach_refused : (m : Pages) (at n : ℕ) → allows m at Read ≡ false → text_reach m at n ≡ 0
unfolding text_reach
reach_refused m at zero h = refl
reach_refused m at (suc n) h = ap (λ b. cond b (cond (nat_eq (byte_at m at) 0) 1 (1 + text_reach m (at + 1) n)) 0) h

pub text_of_refused : (m : Pages) (at n : ℕ) → 0 < n → allows m at Read ≡ false → text_of m at n ≡ Err BadAddress
unfolding text_of
text_of_refused m at zero l h = absurd (omega arith)
text_of_refused m at (suc n) l h = ap (λ b. cond b (cond (nat_eq (byte_at m at) 0) (Ok []) (text_after (byte_at m at) (text_of m (at + 1) n))) (Err BadAddress)) h

pub reach_end : (m : Pages) (at n : ℕ) → 0 < n → allows m at Read ≡ true → nat_eq (byte_at m at) 0 ≡ true → text_reach m at n ≡ 1
unfolding text_reach
reach_end m at zero l h z = absurd (omega arith)
reach_end m at (suc n) l h z =
    ap (λ b. cond b (cond (nat_eq (byte_at m at) 0) 1 (1 + text_reach m (at + 1) n)) 0) h
    ∙ ap (λ b. cond b 1 (1 + text_reach m (at + 1) n)) z

pub text_of_end : (m : Pages) (at n : ℕ) → 0 < n → allows m at Read ≡ true → nat_eq (byte_at m at) 0 ≡ true → text_of m at n ≡ Ok []
unfolding text_of
text_of_end m at zero l h z = absurd (omega arith)
text_of_end m at (suc n) l h z =
    ap (λ b. cond b (cond (nat_eq (byte_at m at) 0) (Ok []) (text_after (byte_at m at) (text_of m (at + 1) n))) (Err BadAddress)) h
    ∙ ap (λ b. cond b (Ok []) (text_after (byte_at m at) (text_of m (at + 1) n))) z

pub reach_limit : (m : Pages) (at : ℕ) → text_reach m at 0 ≡ 0
unfolding text_reach
reach_limit m at = refl

pub text_of_limit : (m : Pages) (at : ℕ) → text_of m at 0 ≡ Err TooLong
unfolding text_of
text_of_limit m at = refl

-- ---- one page more searched

pub allowed_more : (m : Pages) (at reach n : ℕ) → allows_all m at reach Read ≡ true → allows_all m (at + reach) n Read ≡ true → allows_all m at (reach + n) Read ≡ true
allowed_more m at reach n h k = allows_all-add m at reach n Read ∙ ap (λ b. b && allows_all m (at + reach) n Read) h ∙ k

pub seen_more : (m : Pages) (at reach n : ℕ) (marked seen : Bool) → marked ≡ any_marked m at reach → seen ≡ any_marked m (at + reach) n → (marked || seen) ≡ any_marked m at (reach + n)
seen_more m at reach n marked seen h k = ap (λ b. b || seen) h ∙ ap (λ b. any_marked m at reach || b) k ∙ sym (any_marked-add m at reach n)

pub reach_more : (m : Pages) (at reach n max : ℕ) → reach + n ≤ max → allows_all m (at + reach) n Read ≡ true → HasNoZero m (at + reach) n
    → text_reach m at max ≡ reach + text_reach m (at + reach) (max - reach) → text_reach m at max ≡ reach + n + text_reach m (at + (reach + n)) (max - (reach + n))
reach_more m at reach n max l h none e =
    let rest : max - reach ≡ n + (max - (reach + n)) = omega arith in
    let from : at + reach + n ≡ at + (reach + n) = omega arith in
    let past : text_reach m (at + reach) (max - reach) ≡ n + text_reach m (at + (reach + n)) (max - (reach + n))
    = ap (text_reach m (at + reach)) rest ∙ reach_past m (at + reach) n (max - (reach + n)) h none ∙ ap (λ a. n + text_reach m a (max - (reach + n))) from in
    omega (arith, e, past)

past_past : (xs ys : List ℕ) (r : Result (List ℕ) TextFault) → text_past xs (text_past ys r) ≡ text_past (xs ++ ys) r
past_past xs ys (Ok bs) = ap Ok (sym (append_assoc xs ys bs))
past_past xs ys (Err fault) = refl

pub text_more : (m : Pages) (at reach n max : ℕ) → reach + n ≤ max → allows_all m (at + reach) n Read ≡ true → HasNoZero m (at + reach) n
    → text_of m at max ≡ text_past (bytes_from m at reach) (text_of m (at + reach) (max - reach))
    → text_of m at max ≡ text_past (bytes_from m at (reach + n)) (text_of m (at + (reach + n)) (max - (reach + n)))
text_more m at reach n max l h none e =
    let rest : max - reach ≡ n + (max - (reach + n)) = omega arith in
    let from : at + reach + n ≡ at + (reach + n) = omega arith in
    e
    ∙ ap (text_past (bytes_from m at reach))
    (ap (text_of m (at + reach)) rest ∙ text_of_past m (at + reach) n (max - (reach + n)) h none ∙ ap (λ a. text_past (bytes_from m (at + reach) n) (text_of m a (max - (reach + n)))) from)
    ∙ past_past (bytes_from m at reach) (bytes_from m (at + reach) n) (text_of m (at + (reach + n)) (max - (reach + n)))
    ∙ ap (λ xs. text_past xs (text_of m (at + (reach + n)) (max - (reach + n)))) (sym (bytes_from-add m at reach n))

-- the zero found: what was read before it is the text
pub reach_found : (m : Pages) (at reach z max : ℕ) → reach + z < max → allows_all m (at + reach) z Read ≡ true → HasNoZero m (at + reach) z
    → allows m (at + (reach + z)) Read ≡ true → nat_eq (byte_at m (at + (reach + z))) 0 ≡ true
    → text_reach m at max ≡ reach + text_reach m (at + reach) (max - reach) → reach + (z + 1) ≡ text_reach m at max
reach_found m at reach z max l h none here zero_here e =
    let end : text_reach m (at + (reach + z)) (max - (reach + z)) ≡ 1 = reach_end m (at + (reach + z)) (max - (reach + z)) (omega arith) here zero_here in
    omega (arith, reach_more m at reach z max (omega arith) h none e, end)

past_empty : (xs : List ℕ) → text_past xs (Ok []) ≡ Ok xs
past_empty xs = ap Ok (append-nil xs)

pub text_found : (m : Pages) (at reach z max : ℕ) → reach + z < max → allows_all m (at + reach) z Read ≡ true → HasNoZero m (at + reach) z
    → allows m (at + (reach + z)) Read ≡ true → nat_eq (byte_at m (at + (reach + z))) 0 ≡ true
    → text_of m at max ≡ text_past (bytes_from m at reach) (text_of m (at + reach) (max - reach)) → text_of m at max ≡ Ok (bytes_from m at (reach + (z + 1) - 1))
text_found m at reach z max l h none here zero_here e =
    let count : reach + z ≡ reach + (z + 1) - 1 = omega arith in
    text_more m at reach z max (omega arith) h none e
    ∙ ap (text_past (bytes_from m at (reach + z))) (text_of_end m (at + (reach + z)) (max - (reach + z)) (omega arith) here zero_here)
    ∙ past_empty (bytes_from m at (reach + z))
    ∙ ap (λ n. Ok (bytes_from m at n)) count

-- ---- the search at its start and inside a page

pub reach_start : (m : Pages) (at max : ℕ) → text_reach m at max ≡ 0 + text_reach m (at + 0) (max - 0)
reach_start m at max =
    let from : at ≡ at + 0 = omega arith in
    let count : max ≡ max - 0 = omega arith in
    let sum : text_reach m (at + 0) (max - 0) ≡ 0 + text_reach m (at + 0) (max - 0) = omega arith in
    ap (λ a. text_reach m a max) from ∙ ap (text_reach m (at + 0)) count ∙ sum

pub text_start : (m : Pages) (at max : ℕ) → text_of m at max ≡ text_past (bytes_from m at 0) (text_of m (at + 0) (max - 0))
unfolding bytes_from
text_start m at max =
    let from : at ≡ at + 0 = omega arith in
    let count : max ≡ max - 0 = omega arith in
    ap (λ a. text_of m a max) from ∙ ap (text_of m (at + 0)) count ∙ past_nothing (text_of m (at + 0) (max - 0))

pub page_readable : (m : Pages) (next n : ℕ) → next % 4096 + n ≤ 4096 → page_allows m (next / 4096) Read ≡ true → allows_all m next n Read ≡ true
page_readable m next n h allowed =
    let placed : next ≡ next / 4096 * 4096 + next % 4096 = omega arith in
    allows_all_in_page m (next / 4096) (next % 4096) next n Read placed h allowed

pub byte_readable : (m : Pages) (at reach z : ℕ) → (at + reach) % 4096 + z < 4096 → page_allows m ((at + reach) / 4096) Read ≡ true → allows m (at + (reach + z)) Read ≡ true
byte_readable m at reach z h allowed =
    let number : (at + (reach + z)) / 4096 ≡ (at + reach) / 4096 = omega arith in
    ap (λ k. page_allows m k Read) number ∙ allowed

pub zero_moved : (m : Pages) (at reach z : ℕ) → nat_eq (byte_at m (at + reach + z)) 0 ≡ true → nat_eq (byte_at m (at + (reach + z))) 0 ≡ true
zero_moved m at reach z h = let e : at + (reach + z) ≡ at + reach + z = omega arith in ap (λ a. nat_eq (byte_at m a) 0) e ∙ h
