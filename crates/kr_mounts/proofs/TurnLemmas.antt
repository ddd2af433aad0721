-- Bindings in their turns, as the code finds them from the last one on.
use Rattle.std.proofs.Common.{◌≡◌, ◌<◌, ◌+◌, ◌||◌, ℕ, Bool, true, false, not, is_some, List, [], ◌∷◌, ◌++◌, append_assoc, append-nil, length, map, All, Some, refl, ap, sym, subst, ◌∙◌, arith, nat_lt, nat_le, Vec}
use Rattle.std.specs.Bool.{if◌then◌else◌}
use Rattle.std.specs.BTreeMap.{BTreeMap, get_by, insert_entry, is_at as is_key, values}
use Rattle.std.specs.Map.{lookup}
use Rattle.std.specs.Cmp.Lexicographic.{slice_cmp}
use Rattle.std.specs.List.{AllByRecursion, list_any}
use Rattle.std.specs.Option.{unwrap_or}
use Rattle.std.specs.Ordering.{match_ordering, nat_cmp, ordering_then}
use Rattle.std.specs.Str.{bytes_eq}
use Rattle.std.specs.declared.cmp.Ordering.{Ordering}
use Rattle.std.specs.declared.cmp.Ordering.TheVariants.{Less, Equal, Greater}
use Rattle.std.proofs.lemmas.Bool.Decides.{nat_tests}
use Rattle.std.proofs.lemmas.List.{length-append}
use Rattle.std.proofs.lemmas.List.Elements.{All-cons, All-nil, All-pop}
use Rattle.std.proofs.lemmas.Slice.Eq.{bytes_eq-Decides}
use Rattle.pt_bind.specs.pr_base.Texts.{texts_eq}
use Rattle.pt_bind.specs.pr_base.Paths.{text_of}
use Rattle.pt_bind.proofs.pr_base.TextLemmas.{texts_same, texts_true}
use Rattle.pt_bind.specs.Binding.{IsWritten, names_of}
use Rattle.pt_bind.specs.Kept.{IsNoted as IsKept}
use Rattle.pt_bind.proofs.ByteLemmas.{spelled}
use Rattle.kr_mounts.specs.Found.{HasTexts, located_told}
use Rattle.kr_mounts.specs.MountTable.{Located as LocatedData, counting, in_order, is_located_as, placed_before}
use Rattle.kr_mounts.specs.Turns.{HasTurn, HaveTurns, IsNoted, turn_cmp, was_seen}
use Rattle.kr_mounts.specs.declared.order.Located.{Located}
use Rattle.kr_mounts.specs.declared.order.Turn.{Turn}

-- ---- turns

less : (a b : ℕ) → a < b → nat_cmp a b ≡ Less
less a b h = grind (arith, nat_tests)

greater : (a b : ℕ) → b < a → nat_cmp a b ≡ Greater
greater a b h = grind (arith, nat_tests)

equal : (a b : ℕ) → a ≡ b → nat_cmp a b ≡ Equal
equal a b h = grind (arith, nat_tests)

comes_before : (x y : Turn) → nat_le x.names y.names ≡ true → x.number < y.number → turn_cmp x y ≡ Less
comes_before x y names number = of (nat_lt x.names y.names) refl
  where
    smaller : nat_lt x.names y.names ≡ true → x.names < y.names
    smaller h = grind (arith, nat_tests)

    same : nat_lt x.names y.names ≡ false → x.names ≡ y.names
    same h = grind (arith, nat_tests)

    of : (b : Bool) → nat_lt x.names y.names ≡ b → turn_cmp x y ≡ Less
    of true h = ap (λ o. ordering_then o (nat_cmp x.number y.number)) (less x.names y.names (smaller h))
    of false h = ap (λ o. ordering_then o (nat_cmp x.number y.number)) (equal x.names y.names (same h)) ∙ less x.number y.number number

comes_behind : (x y : Turn) → nat_le x.names y.names ≡ false → turn_cmp x y ≡ Greater
comes_behind x y names = ap (λ o. ordering_then o (nat_cmp x.number y.number)) (greater x.names y.names larger)
  where
    larger : y.names < x.names
    larger = grind (arith, nat_tests)

abbrev told_values : List (Turn × Located) → List LocatedData
told_values es = map located_told (map (λ (e : Turn × Located). e.1) es)

-- one more takes its place before those with as many names, since its number is smaller
inserted : (es : List (Turn × Located)) (turn : Turn) (one : Located) → AllByRecursion (HasTurn (turn.number + 1)) es → turn.names ≡ length (names_of one.location)
    → told_values (insert_entry turn_cmp es turn one) ≡ placed_before (located_told one) (told_values es)
inserted [] turn one each names = refl
inserted (e ∷ es) turn one each names = of (nat_le turn.names e.0.names) refl (inserted es turn one each.1 names)
  where
    lengths : nat_le (length (names_of one.location)) (length (names_of e.1.location)) ≡ nat_le turn.names e.0.names
    lengths = let a = sym names in let b = sym each.0.names in λ i. nat_le (a i) (b i)

    placed : (b : Bool) → nat_le turn.names e.0.names ≡ b
        → placed_before (located_told one) (told_values (e ∷ es)) ≡ (if b then located_told one ∷ located_told e.1 ∷ told_values es else located_told e.1 ∷ placed_before (located_told one) (told_values es))
    placed b h = ap (λ b. if b then located_told one ∷ located_told e.1 ∷ told_values es else located_told e.1 ∷ placed_before (located_told one) (told_values es)) (lengths ∙ h)

    of : (b : Bool) → nat_le turn.names e.0.names ≡ b → told_values (insert_entry turn_cmp es turn one) ≡ placed_before (located_told one) (told_values es)
        → told_values (insert_entry turn_cmp (e ∷ es) turn one) ≡ placed_before (located_told one) (told_values (e ∷ es))
    of true h rest =
        let before : turn.number < e.0.number = let l = each.0.number in omega arith in
        ap (λ o. told_values (match_ordering o ((turn, one) ∷ e ∷ es) ((e.0, one) ∷ es) (e ∷ insert_entry turn_cmp es turn one))) (comes_before turn e.0 h before) ∙ sym (placed true h)
    of false h rest =
        ap (λ o. told_values (match_ordering o ((turn, one) ∷ e ∷ es) ((e.0, one) ∷ es) (e ∷ insert_entry turn_cmp es turn one))) (comes_behind turn e.0 h) ∙ ap (λ xs. located_told e.1 ∷ xs) rest ∙ sym (placed false h)

fewer : (left : ℕ) (es : List (Turn × Located)) → AllByRecursion (HasTurn (left + 1)) es → AllByRecursion (HasTurn left) es
fewer left [] each = tt
fewer left (e ∷ es) each = (record { names = each.0.names; number = (let l = each.0.number in omega arith); texts = each.0.texts }, fewer left es each.1)

each_inserted : (es : List (Turn × Located)) (turn : Turn) (one : Located) → AllByRecursion (HasTurn (turn.number + 1)) es → HasTurn turn.number (turn, one) → AllByRecursion (HasTurn turn.number) (insert_entry turn_cmp es turn one)
each_inserted [] turn one each own = (own, tt)
each_inserted (e ∷ es) turn one each own = of (nat_le turn.names e.0.names) refl (each_inserted es turn one each.1 own)
  where
    of : (b : Bool) → nat_le turn.names e.0.names ≡ b → AllByRecursion (HasTurn turn.number) (insert_entry turn_cmp es turn one) → AllByRecursion (HasTurn turn.number) (insert_entry turn_cmp (e ∷ es) turn one)
    of true h rest =
        let before : turn.number < e.0.number = let l = each.0.number in omega arith in
        let Q : Ordering → Type 0 = λ o. AllByRecursion (HasTurn turn.number) (match_ordering o ((turn, one) ∷ e ∷ es) ((e.0, one) ∷ es) (e ∷ insert_entry turn_cmp es turn one)) in
        subst Q (sym (comes_before turn e.0 h before)) (own, fewer turn.number (e ∷ es) each)
    of false h rest =
        let Q : Ordering → Type 0 = λ o. AllByRecursion (HasTurn turn.number) (match_ordering o ((turn, one) ∷ e ∷ es) ((e.0, one) ∷ es) (e ∷ insert_entry turn_cmp es turn one)) in
        subst Q (sym (comes_behind turn e.0 h)) ((fewer turn.number (e ∷ es) each).0, rest)

-- ---- locations that were seen

texts_by_bytes : (a b : List ℕ) → IsWritten a → IsWritten b → texts_eq (names_of a) (names_of b) ≡ bytes_eq b a
texts_by_bytes a b wa wb = of (bytes_eq b a) refl (texts_eq (names_of a) (names_of b)) refl
  where
    of : (x : Bool) → bytes_eq b a ≡ x → (y : Bool) → texts_eq (names_of a) (names_of b) ≡ y → texts_eq (names_of a) (names_of b) ≡ bytes_eq b a
    of true h y k = texts_true (names_of a) (names_of b) (ap names_of (sym ((bytes_eq-Decides b a).0 h))) ∙ sym h
    of false h false k = k ∙ sym h
    of false h true k =
        let same : a ≡ b = spelled a wa ∙ ap text_of (texts_same (names_of a) (names_of b) k) ∙ sym (spelled b wb) in
        k ∙ sym ((bytes_eq-Decides b a).1 (sym same))

any_by_bytes : (one : Located) (done : List Located) → HasTexts one → AllByRecursion HasTexts done
    → list_any (is_located_as (located_told one)) (map located_told done) ≡ list_any (λ (o : Located). bytes_eq o.location one.location) done
any_by_bytes one [] own texts = refl
any_by_bytes one (o ∷ done) own texts =
    let here = texts_by_bytes one.location o.location own.location texts.0.location in
    let rest = any_by_bytes one done own texts.1 in
    λ i. here i || rest i

-- ---- one binding more

module _ {Z : Type 0} (all left old : List Located) (seen new : BTreeMap (Vec ℕ Z) ℕ) (turns : BTreeMap Turn Located) (have : HaveTurns all old seen turns) (one : Located) (popped : old ≡ left ++ one ∷ []) where
  both : All HasTexts left × HasTexts one
  both = All-pop HasTexts old left (Some one) popped have.texts_left

  own_texts : HasTexts one
  own_texts = both.1

  parted : all ≡ left ++ one ∷ have.done
  parted = have.parted ∙ ap (λ xs. xs ++ have.done) popped ∙ append_assoc left (one ∷ []) have.done

  long : length old ≡ length left + 1
  long = ap length popped ∙ length-append left (one ∷ [])

  any : list_any (is_located_as (located_told one)) (map located_told have.done) ≡ was_seen seen one.location
  any = any_by_bytes one have.done own_texts have.texts_done ∙ sym (have.noted one.location)

  noted : (is_new : Bool) → IsNoted seen one.location new is_new → (bytes : List ℕ) → was_seen new bytes ≡ list_any (λ (o : Located). bytes_eq o.location bytes) (one ∷ have.done)
  noted is_new is bytes = is.noted bytes ∙ ap (λ b. bytes_eq one.location bytes || b) (have.noted bytes)

  -- a location that is new takes its turn
  new_turn : (turn : Turn) (turns_new : BTreeMap Turn Located) → IsNoted seen one.location new true → turn.names ≡ length (names_of one.location) → turn.number ≡ length left → turns_new.entries ≡ insert_entry turn_cmp turns.entries turn one
      → HaveTurns all left new turns_new
  new_turn turn turns_new is names number entries =
      let each : AllByRecursion (HasTurn (turn.number + 1)) turns.entries = let P : ℕ → Type 0 = λ n. AllByRecursion (HasTurn n) turns.entries in subst P (long ∙ ap (λ n. n + 1) (sym number)) have.each in
      let unseen : list_any (is_located_as (located_told one)) (map located_told have.done) ≡ false = any ∙ not_true (was_seen seen one.location) is.fresh in
      let counts : counting (map located_told (one ∷ have.done)) ≡ located_told one ∷ counting (map located_told have.done) =
      ap (λ b. if b then counting (map located_told have.done) else located_told one ∷ counting (map located_told have.done)) unseen in
      record {
        done = one ∷ have.done;
        parted = parted;
        noted = noted true is;
        ordered =
            ap told_values entries ∙ inserted turns.entries turn one each names
            ∙ ap (placed_before (located_told one)) have.ordered
            ∙ sym (ap in_order counts);
        each =
            let P : List (Turn × Located) → ℕ → Type 0 = λ es n. AllByRecursion (HasTurn n) es in
            subst (P turns_new.entries) number (subst (λ es. P es turn.number) (sym entries) (each_inserted turns.entries turn one each (record { names = names; number = omega arith; texts = own_texts })));
        texts_done = (own_texts, have.texts_done);
        texts_left = both.0;
      }
    where
      not_true : (b : Bool) → true ≡ not b → b ≡ false
      not_true true h = absurd cc
      not_true false h = refl

  -- a later binding at its location counts in its place
  no_turn : (turns_new : BTreeMap Turn Located) → IsNoted seen one.location new false → turns_new.entries ≡ turns.entries → HaveTurns all left new turns_new
  no_turn turns_new is same =
      let seen_there : list_any (is_located_as (located_told one)) (map located_told have.done) ≡ true = any ∙ not_false (was_seen seen one.location) is.fresh in
      record {
        done = one ∷ have.done;
        parted = parted;
        noted = noted false is;
        ordered = ap told_values same ∙ have.ordered ∙ sym (ap in_order (ap (λ b. if b then counting (map located_told have.done) else located_told one ∷ counting (map located_told have.done)) seen_there));
        each =
            let P : List (Turn × Located) → Type 0 = AllByRecursion (HasTurn (length left)) in
            subst P (sym same) (fewer (length left) turns.entries (let P : ℕ → Type 0 = λ n. AllByRecursion (HasTurn n) turns.entries in subst P long have.each));
        texts_done = (own_texts, have.texts_done);
        texts_left = both.0;
      }
    where
      not_false : (b : Bool) → false ≡ not b → b ≡ true
      not_false true h = refl
      not_false false h = absurd cc

  -- whether or not it takes a turn
  pub turn_taken : (turn : Turn) (turns_new : BTreeMap Turn Located) (is_new : Bool) → IsNoted seen one.location new is_new → turn.names ≡ length (names_of one.location) → turn.number ≡ length left
      → turns_new.entries ≡ (if is_new then insert_entry turn_cmp turns.entries turn one else turns.entries) → HaveTurns all left new turns_new
  turn_taken turn turns_new true is names number entries = new_turn turn turns_new is names number entries
  turn_taken turn turns_new false is names number entries = no_turn turns_new is entries

-- ---- none of them, and all

pub no_turns : {Z : Type 0} (all : List Located) (seen : BTreeMap (Vec ℕ Z) ℕ) (turns : BTreeMap Turn Located) → All HasTexts all → seen.entries ≡ [] → turns.entries ≡ [] → HaveTurns all all seen turns
no_turns all seen turns texts unseen none = record {
  done = [];
  parted = sym (append-nil all);
  noted = λ bytes. ap (λ es. is_some (lookup (is_key (λ key. slice_cmp nat_cmp bytes key.items)) es)) unseen;
  ordered = ap told_values none;
  each = let P : List (Turn × Located) → Type 0 = AllByRecursion (HasTurn (length all)) in subst P (sym none) tt;
  texts_done = tt;
  texts_left = texts;
}

pub all_turns : {Z : Type 0} (all left : List Located) (seen : BTreeMap (Vec ℕ Z) ℕ) (turns : BTreeMap Turn Located) → HaveTurns all left seen turns → left ≡ [] → map located_told (values turns) ≡ in_order (counting (map located_told all))
all_turns all left seen turns have none =
    let whole : all ≡ have.done = have.parted ∙ ap (λ xs. xs ++ have.done) none in
    have.ordered ∙ ap (λ xs. in_order (counting (map located_told xs))) (sym whole)

pub all_texts : (left : ℕ) (es : List (Turn × Located)) → AllByRecursion (HasTurn left) es → All HasTexts (map (λ (e : Turn × Located). e.1) es)
all_texts left [] each = All-nil HasTexts
all_texts left (e ∷ es) each = All-cons HasTexts e.1 (map (λ (e : Turn × Located). e.1) es) each.0.texts (all_texts left es each.1)

pub own_of : {Z : Type 0} (all left old : List Located) (seen : BTreeMap (Vec ℕ Z) ℕ) (turns : BTreeMap Turn Located) → HaveTurns all old seen turns → (one : Located) → old ≡ left ++ one ∷ [] → HasTexts one
own_of all left old seen turns have one popped = (All-pop HasTexts old left (Some one) popped have.texts_left).1

pub empty_is : (xs : List Located) → length xs ≡ 0 → xs ≡ []
empty_is [] h = refl
empty_is (x ∷ xs) h = absurd (omega arith)

-- ---- what is noted

pub seen_again : {Z : Type 0} (seen : BTreeMap (Vec ℕ Z) ℕ) (location : List ℕ) → was_seen seen location ≡ true → IsNoted seen location seen false
seen_again seen location is = record { fresh = ap not (sym is); noted = λ bytes. of bytes (bytes_eq location bytes) refl }
  where
    of : (bytes : List ℕ) (b : Bool) → bytes_eq location bytes ≡ b → was_seen seen bytes ≡ (bytes_eq location bytes || was_seen seen bytes)
    of bytes true h = ap (was_seen seen) (sym ((bytes_eq-Decides location bytes).0 h)) ∙ is ∙ ap (λ b. b || was_seen seen bytes) (sym h)
    of bytes false h = ap (λ b. b || was_seen seen bytes) (sym h)

pub newly_seen : {Z : Type 0} (old : BTreeMap (Vec ℕ Z) ℕ) (location : List ℕ) (number : ℕ) (new : BTreeMap (Vec ℕ Z) ℕ) → was_seen old location ≡ false → IsKept old location number new → IsNoted old location new true
newly_seen old location number new unseen kept = record { fresh = ap not (sym unseen); noted = λ bytes. ap is_some (kept bytes) ∙ of bytes (bytes_eq location bytes) }
  where
    of : (bytes : List ℕ) (b : Bool)
        → is_some (if b then Some (unwrap_or (get_by (λ key. slice_cmp nat_cmp bytes key.items) old) number) else get_by (λ key. slice_cmp nat_cmp bytes key.items) old) ≡ (b || was_seen old bytes)
    of bytes true = refl
    of bytes false = refl
