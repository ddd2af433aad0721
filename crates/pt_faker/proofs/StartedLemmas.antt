-- An identity on the first stack of a program.
use Rattle.std.specs.FinMap as map
use Rattle.std.proofs.Common.{◌≡◌, ◌⊎◌, inl, inr, ◌≤◌, ◌<◌, ◌+◌, ◌-◌, ◌*◌, ◌/◌, ◌%◌, ◌^◌, ℕ, suc, false, ◌||◌, nat_lt, List, [], ◌∷◌, ◌++◌, length, length-append, refl, sym, ap, subst, ◌∙◌, arith, w64, append_assoc}
use Rattle.std.specs.Prelude.{slice_index}
use Rattle.std.specs.Int.{to_le_bytes}
use Rattle.std.specs.Option.{option_map_or}
use Rattle.std.proofs.lemmas.Bool.Decides.{nat_tests}
use Rattle.pt_ident.specs.rv_mem.Actions.{Action, carried_out}
use Rattle.pt_ident.specs.rv_mem.Memory.{Memory, empty_memory}
use Rattle.pt_ident.specs.rv_mem.Page.{grants}
use Rattle.pt_ident.specs.rv_mem.Pages.{IsWhole, Pages, allows, byte_at, mapped}
use Rattle.pt_ident.specs.rv_mem.declared.rights.Use.{Use}
use Rattle.pt_ident.specs.rv_mem.declared.rights.Use.TheVariants.{Read, Write}
use Rattle.pt_ident.proofs.rv_mem.AddressLemmas.{allows-written, byte_at-written_other}
use Rattle.pt_ident.proofs.rv_mem.ChangeLemmas.{get-mapped_in}
use Rattle.pt_ident.proofs.rv_mem.TableLemmas.{below_or_not}
use Rattle.pt_ident.proofs.rv_mem.SpaceLemmas.{IsWhole-empty, IsWhole-mapped, IsWhole-written}
use Rattle.kr_exec.specs.elf_read.Headers.{entry_size}
use Rattle.kr_exec.specs.elf_read.Plans.{planned}
use Rattle.kr_exec.specs.elf_read.declared.plan.Plan.{Plan}
use Rattle.kr_exec.specs.elf_read.declared.plan.Segment.{Segment}
use Rattle.elf_load.specs.FirstStack.{exceeds_arguments, pair_words, pairs_of, random_at, random_bytes, stack_bytes, stack_pointer, stack_top, text_addresses, text_bytes, texts_at, texts_size, word_bytes, word_count, words_of, zeros}
use Rattle.elf_load.specs.Image.{end_page, file_bytes, first_page, image_memory, image_pages, rights_in, stack_rights, with_segment, with_segments, with_stack}
use Rattle.elf_load.specs.Placed.{HoldsBytes}
use Rattle.elf_load.proofs.ImageLemmas.{image_stack}
use Rattle.elf_load.proofs.ListLemmas.{stack_ends, stack_low, word_bytes-append}
use Rattle.pt_ident.specs.Identity.{Identity}
use Rattle.pt_ident.specs.Showing.{auxiliary_values}
use Rattle.pt_faker.specs.Faking.{behind_list, most_words, next_word, put_values, show_identity}
use Rattle.pt_faker.specs.Started.{AreAsLoaded, ArePut, BeginSo, DifferOnStack, HasFirstStack}
use Rattle.pt_faker.proofs.HeldLemmas.{MayBeUsed, allows-with_words, holds-back, holds-laced, laced, others-with_words, whole-with_words, with_words}
use Rattle.pt_faker.proofs.ReachLemmas.{AreAddresses, Leads, list-leads, texts-have-addresses, values-lead}

-- ---- what may be given to a program

record IsFew (args env : List (List ℕ)) : Type 0 where
  bytes : texts_size args env ≤ 131072
  first_few : length args ≤ 4096
  second_few : length env ≤ 4096

not-more : (a b c : ℕ) → (nat_lt 4096 a || nat_lt 4096 b || nat_lt 131072 c) ≡ false → (a ≤ 4096) × (b ≤ 4096) × (c ≤ 131072)
not-more a b c small = (grind (arith, nat_tests), grind (arith, nat_tests), grind (arith, nat_tests))

few : (args env : List (List ℕ)) → exceeds_arguments args env ≡ false → IsFew args env
few args env small =
    let each = not-more (length args) (length env) (texts_size args env) small in
    record { bytes = each.2; first_few = each.0; second_few = each.1 }

-- ---- the stack, by its parts

joined : (a b c d e f : List ℕ) → ((((a ++ b) ++ c) ++ d) ++ e) ++ f ≡ a ++ (b ++ (c ++ (d ++ (e ++ f))))
joined a b c d e f = simp append_assoc

parted : (a b c d e p f : List ℕ) → (a ++ (b ++ (c ++ (d ++ (e ++ p))))) ++ f ≡ a ++ (b ++ (c ++ (d ++ (e ++ (p ++ f)))))
parted a b c d e p f = simp append_assoc

-- what stands above the words
texts-above : (args env : List (List ℕ)) → List ℕ
texts-above args env =
    zeros (texts_at args env - (stack_pointer args env + 8 * word_count args env))
    ++ (text_bytes args ++ (text_bytes env ++ (zeros (random_at - (texts_at args env + texts_size args env)) ++ random_bytes)))

-- up to the kind of the user's pair, the values with the kind behind each, and the pairs behind them
first-pairs : Plan → List ℕ
first-pairs plan = word_bytes (3 ∷ plan.phdr ∷ 4 ∷ entry_size ∷ 5 ∷ plan.phnum ∷ 6 ∷ 4096 ∷ 9 ∷ plan.entry ∷ 11 ∷ [])

kinds-behind : List ℕ
kinds-behind = 12 ∷ 13 ∷ 14 ∷ 23 ∷ []

four-of : List ℕ → List ℕ
four-of ids = slice_index ids 0 ∷ slice_index ids 1 ∷ slice_index ids 2 ∷ slice_index ids 3 ∷ []

last-pairs : List ℕ → List ℕ
last-pairs above = word_bytes (0 ∷ 25 ∷ random_at ∷ 0 ∷ 0 ∷ []) ++ above

module _ (plan : Plan) (ids : List ℕ) (args env : List (List ℕ)) where
  abbrev pairs-with : List ℕ
  pairs-with = first-pairs plan ++ laced (four-of ids) kinds-behind (last-pairs (texts-above args env))

  abbrev behind-number : List ℕ
  behind-number =
      word_bytes (text_addresses (texts_at args env) args)
      ++ (to_le_bytes w64 0 ++ (word_bytes (text_addresses (texts_at args env + length (text_bytes args)) env) ++ (to_le_bytes w64 0 ++ pairs-with)))

  pairs-are : word_bytes (pair_words (pairs_of plan ids)) ++ texts-above args env ≡ pairs-with
  unfolding first-pairs kinds-behind four-of last-pairs
  pairs-are = refl

  lists-are : word_bytes (words_of (pairs_of plan ids) args env) ≡ to_le_bytes w64 (length args) ++ (word_bytes (text_addresses (texts_at args env) args)
      ++ (to_le_bytes w64 0 ++ (word_bytes (text_addresses (texts_at args env + length (text_bytes args)) env) ++ (to_le_bytes w64 0 ++ word_bytes (pair_words (pairs_of plan ids))))))
  lists-are =
      let first : List ℕ = text_addresses (texts_at args env) args in
      let second : List ℕ = text_addresses (texts_at args env + length (text_bytes args)) env in
      let last : List ℕ = pair_words (pairs_of plan ids) in
      ap (λ (bs : List ℕ). to_le_bytes w64 (length args) ++ bs)
      (word_bytes-append first (0 ∷ (second ++ (0 ∷ last))) ∙ ap (λ (bs : List ℕ). word_bytes first ++ (to_le_bytes w64 0 ++ bs)) (word_bytes-append second (0 ∷ last)))

  stack-is : stack_bytes (pairs_of plan ids) args env ≡ to_le_bytes w64 (length args) ++ behind-number
  unfolding texts-above
  stack-is =
      let first : List ℕ = word_bytes (text_addresses (texts_at args env) args) in
      let second : List ℕ = word_bytes (text_addresses (texts_at args env + length (text_bytes args)) env) in
      let above : List ℕ = texts-above args env in
      joined (word_bytes (words_of (pairs_of plan ids) args env)) (zeros (texts_at args env - (stack_pointer args env + 8 * word_count args env)))
      (text_bytes args) (text_bytes env) (zeros (random_at - (texts_at args env + texts_size args env))) random_bytes
      ∙ ap (λ (bs : List ℕ). bs ++ above) lists-are
      ∙ parted (to_le_bytes w64 (length args)) first (to_le_bytes w64 0) second (to_le_bytes w64 0) (word_bytes (pair_words (pairs_of plan ids))) above
      ∙ ap (λ (bs : List ℕ). to_le_bytes w64 (length args) ++ (first ++ (to_le_bytes w64 0 ++ (second ++ (to_le_bytes w64 0 ++ bs))))) pairs-are

  -- what stands below the values
  front : List ℕ
  front =
      to_le_bytes w64 (length args) ++ (word_bytes (text_addresses (texts_at args env) args)
      ++ (to_le_bytes w64 0 ++ (word_bytes (text_addresses (texts_at args env + length (text_bytes args)) env) ++ (to_le_bytes w64 0 ++ first-pairs plan))))

  stack-fronted : stack_bytes (pairs_of plan ids) args env ≡ front ++ laced (four-of ids) kinds-behind (last-pairs (texts-above args env))
  unfolding front
  stack-fronted =
      stack-is
      ∙ sym (parted (to_le_bytes w64 (length args)) (word_bytes (text_addresses (texts_at args env) args)) (to_le_bytes w64 0)
      (word_bytes (text_addresses (texts_at args env + length (text_bytes args)) env)) (to_le_bytes w64 0) (first-pairs plan) (laced (four-of ids) kinds-behind (last-pairs (texts-above args env))))

-- ---- how long its parts are

length-words : (ws : List ℕ) → length (word_bytes ws) ≡ 8 * length ws
length-words [] = refl
length-words (w ∷ ws) =
    let first : length (to_le_bytes w64 w) ≡ 8 = refl in
    omega (arith, first, length-append (to_le_bytes w64 w) (word_bytes ws), length-words ws)

length-addresses : (ts : List (List ℕ)) (at : ℕ) → length (text_addresses at ts) ≡ length ts
length-addresses [] at = refl
length-addresses (t ∷ ts) at = ap suc (length-addresses ts (at + length t + 1))

length-lists : (a b c d e f : List ℕ) → length a ≡ 8 → length c ≡ 8 → length e ≡ 8 → length f ≡ 88 → length (a ++ (b ++ (c ++ (d ++ (e ++ f))))) ≡ length b + length d + 112
length-lists a b c d e f first third fifth last =
    omega (
      arith,
      length-append a (b ++ (c ++ (d ++ (e ++ f)))),
      length-append b (c ++ (d ++ (e ++ f))),
      length-append c (d ++ (e ++ f)),
      length-append d (e ++ f),
      length-append e f,
    )

length-front : (plan : Plan) (ids : List ℕ) (args env : List (List ℕ)) → length (front plan ids args env) ≡ 8 * length args + 8 * length env + 112
unfolding front first-pairs
length-front plan ids args env =
    let first : List ℕ = text_addresses (texts_at args env) args in
    let second : List ℕ = text_addresses (texts_at args env + length (text_bytes args)) env in
    let all : length (front plan ids args env) ≡ length (word_bytes first) + length (word_bytes second) + 112 =
    length-lists (to_le_bytes w64 (length args)) (word_bytes first) (to_le_bytes w64 0) (word_bytes second) (to_le_bytes w64 0) (first-pairs plan) refl refl refl refl in
    omega (arith, length-words first, length-words second, length-addresses args (texts_at args env), length-addresses env (texts_at args env + length (text_bytes args)))

-- ---- the numbers are reached and written

module _ (i : Identity) (plan : Plan) (ids : List ℕ) (args env : List (List ℕ)) (m : Pages) (is-few : IsFew args env) (has : HasFirstStack m (pairs_of plan ids) args env) where
  sp : ℕ
  sp = stack_pointer args env

  -- the user's value
  here : ℕ
  here = sp + (8 * length args + 8 * length env + 112)

  values : List ℕ
  values = auxiliary_values i

  shown : Pages
  shown = with_words here values m

  here-is : here ≡ sp + (8 * length args + 8 * length env + 112)
  unfolding here
  here-is = refl

  may-be-read : MayBeUsed m sp stack_top Read
  unfolding sp
  may-be-read = λ a low high. has.usable a Read low high refl

  may-be-written : MayBeUsed m sp stack_top Write
  unfolding sp
  may-be-written = λ a low high. has.usable a Write low high refl

  below-top : here + 64 ≤ stack_top
  unfolding here sp
  below-top = let size = is-few.bytes in let first = is-few.first_few in let second = is-few.second_few in omega arith

  four : length values ≡ 4
  unfolding values
  four = refl

  put : Leads (put_values here values) m shown
  unfolding shown
  put = values-lead values m sp stack_top here may-be-written (omega (arith, here-is)) (omega (arith, below-top, four)) (omega arith)

  -- the addresses of the arguments, and those of the environment
  first : List ℕ
  first = text_addresses (texts_at args env) args

  second : List ℕ
  second = text_addresses (texts_at args env + length (text_bytes args)) env

  first-are : AreAddresses first
  unfolding first
  first-are = let size = is-few.bytes in texts-have-addresses args (texts_at args env) (omega arith) (omega arith)

  second-are : AreAddresses second
  unfolding second
  second-are = let size = is-few.bytes in texts-have-addresses env (texts_at args env + length (text_bytes args)) (omega arith) (omega arith)

  first-length : length first ≡ length args
  unfolding first
  first-length = length-addresses args (texts_at args env)

  second-length : length second ≡ length env
  unfolding second
  second-length = length-addresses env (texts_at args env + length (text_bytes args))

  behind-number-held : HoldsBytes m (sp + 8) (word_bytes first ++ (to_le_bytes w64 0 ++ (word_bytes second ++ (to_le_bytes w64 0 ++ pairs-with plan ids args env))))
  unfolding sp first second
  behind-number-held = holds-back m (stack_pointer args env) (to_le_bytes w64 (length args)) (behind-number plan ids args env) (subst (HoldsBytes m (stack_pointer args env)) (stack-is plan ids args env) has.holds)

  environment : ℕ
  environment = sp + 8 + 8 * length args + 8

  behind-arguments-held : HoldsBytes m environment (word_bytes second ++ (to_le_bytes w64 0 ++ pairs-with plan ids args env))
  unfolding environment
  behind-arguments-held =
      let rest : List ℕ = word_bytes second ++ (to_le_bytes w64 0 ++ pairs-with plan ids args env) in
      let place : sp + 8 + length (word_bytes first) + 8 ≡ sp + 8 + 8 * length args + 8 = omega (arith, length-words first, first-length) in
      subst (λ at. HoldsBytes m at rest) place (holds-back m (sp + 8 + length (word_bytes first)) (to_le_bytes w64 0) rest (holds-back m (sp + 8) (word_bytes first) (to_le_bytes w64 0 ++ rest) behind-number-held))

  environment-is : environment ≡ sp + 8 + 8 * length args + 8
  unfolding environment
  environment-is = refl

  put-at : (pairs : ℕ) → Action (Unit {0})
  put-at pairs = put_values ((pairs + 88) % 2 ^ 64) values

  put-behind : Leads (put-at (environment + 8 * length env + 8)) m shown
  unfolding put-at environment
  put-behind =
      let place : (sp + 8 + 8 * length args + 8 + 8 * length env + 8 + 88) % 2 ^ 64 ≡ here = omega (arith, here-is, below-top) in
      subst (λ at. Leads (put_values at values) m shown) (sym place) put

  from-environment : Leads (behind_list most_words environment put-at) m shown
  from-environment =
      let few-env = is-few.second_few in
      let is : environment ≡ sp + 8 + 8 * length args + 8 = environment-is in
      list-leads second (pairs-with plan ids args env) most_words m shown sp stack_top environment (environment + 8 * length env + 8) put-at second-are (omega (arith, second-length)) may-be-read (omega arith) (omega arith)
      (omega (arith, second-length)) (omega (arith, here-is, below-top)) behind-arguments-held put-behind

  led : Leads (show_identity i sp) m shown
  unfolding values put-at environment
  led =
      let few-args = is-few.first_few in
      let step : next_word sp ≡ sp + 8 = omega (arith, here-is, below-top) in
      let next : ℕ → Action (Unit {0}) = λ at. behind_list most_words at put-at in
      let rest : List ℕ = word_bytes second ++ (to_le_bytes w64 0 ++ pairs-with plan ids args env) in
      let all : Leads (behind_list most_words (sp + 8) next) m shown =
      list-leads first rest most_words m shown sp stack_top (sp + 8) environment next first-are (omega (arith, first-length)) may-be-read (omega arith) (omega arith)
      (omega (arith, first-length)) (omega (arith, here-is, below-top)) behind-number-held from-environment in
      subst (λ at. Leads (behind_list most_words at next) m shown) (sym step) all

  held : HoldsBytes m sp (stack_bytes (pairs_of plan ids) args env)
  unfolding sp
  held = has.holds

  numbers-held : HoldsBytes shown sp (stack_bytes (pairs_of plan values) args env)
  unfolding front four-of kinds-behind values shown
  numbers-held =
      let above : List ℕ = last-pairs (texts-above args env) in
      let old : HoldsBytes m sp (front plan ids args env ++ laced (four-of ids) kinds-behind above) = subst (HoldsBytes m sp) (stack-fronted plan ids args env) held in
      let place : here ≡ sp + length (front plan ids args env) = omega (arith, here-is, length-front plan ids args env) in
      subst (HoldsBytes shown sp) (sym (stack-fronted plan (auxiliary_values i) args env))
      (holds-laced (four-of ids) (auxiliary_values i) kinds-behind m sp here sp stack_top (front plan ids args env) above has.whole may-be-written place (omega (arith, here-is)) (omega (arith, below-top)) refl refl old)

  further : (a : ℕ) → (a < stack_pointer args env) ⊎ (stack_top ≤ a) → (a < here) ⊎ (here + 56 ≤ a)
  unfolding sp
  further a (inl low) = inl (omega (arith, here-is))
  further a (inr high) = inr (omega (arith, below-top))

  outcome : HasFirstStack shown (pairs_of plan (auxiliary_values i)) args env × DifferOnStack args env m shown
  unfolding shown values sp
  outcome = (
    record {
      whole = whole-with_words (auxiliary_values i) here m has.whole;
      holds = numbers-held;
      usable = λ a what low high granted. allows-with_words (auxiliary_values i) here m a what ∙ has.usable a what low high granted;
    },
    record {
      bytes = λ a apart. others-with_words (auxiliary_values i) here m a (here + 56) (omega arith) (further a apart);
      rights = λ a what. allows-with_words (auxiliary_values i) here m a what;
    },
  )

pub are_put : ArePut
unfolding sp
are_put = λ i plan ids args env m small has.
    let is-few = few args env small in
    subst (λ (n : Pages). HasFirstStack n (pairs_of plan (auxiliary_values i)) args env × DifferOnStack args env m.pages n) (sym (led i plan ids args env m.pages is-few has m.read_marked)) (outcome i plan ids args env m.pages is-few has)

-- ---- programs that were loaded

whole-with_segments : (file : List ℕ) (m : Pages) (segments : List Segment) → IsWhole m → IsWhole (with_segments file m segments)
unfolding with_segment with_segments
whole-with_segments file m [] whole = whole
whole-with_segments file m (s ∷ segments) whole =
    whole-with_segments file (with_segment file m s) segments
    (IsWhole-written (mapped m (first_page s) (end_page s - first_page s) (rights_in s.flags)) s.at (file_bytes file s) (IsWhole-mapped m (first_page s) (end_page s - first_page s) (rights_in s.flags) whole))

module _ (file : List ℕ) (plan : Plan) (args env : List (List ℕ)) where
  -- the pages below the bytes of the stack
  below : Pages
  below = mapped (with_segments file empty_memory.pages (planned plan)) 67108607 256 stack_rights

  below-allow : (a : ℕ) (what : Use) → 0x3F_FFEF_F000 ≤ a → a < stack_top → allows below a what ≡ grants stack_rights what
  unfolding below
  below-allow a what low high =
      let place : 67108607 + (a / 4096 - 67108607) ≡ a / 4096 = omega arith in
      ap (λ k. option_map_or (λ p. grants p.rights what) (map.get below k) false) (sym place)
      ∙ ap (λ o. option_map_or (λ p. grants p.rights what) o false) (get-mapped_in (with_segments file empty_memory.pages (planned plan)) 67108607 256 stack_rights (a / 4096 - 67108607) (omega arith))

  image-allows : (ids : List ℕ) (a : ℕ) (what : Use) → allows (image_pages file plan args env ids) a what ≡ allows below a what
  unfolding image_pages with_stack below
  image-allows ids a what = allows-written below (stack_pointer args env) (stack_bytes (pairs_of plan ids) args env) a what

  image-outside : (ids : List ℕ) (a : ℕ) → IsFew args env → (a < stack_pointer args env) ⊎ (stack_top ≤ a) → byte_at (image_pages file plan args env ids) a ≡ byte_at below a
  unfolding image_pages with_stack below
  image-outside ids a is-few apart =
      byte_at-written_other below (stack_pointer args env) (stack_bytes (pairs_of plan ids) args env) a (λ k l e. by k l e apart)
    where
      by : (k : ℕ) → k < length (stack_bytes (pairs_of plan ids) args env) → a ≡ stack_pointer args env + k → (a < stack_pointer args env) ⊎ (stack_top ≤ a) → ⊥
      by k l e (inl low) = omega arith
      by k l e (inr high) = omega (arith, stack_ends plan ids args env is-few.bytes is-few.first_few is-few.second_few)

pub begin_so : BeginSo
unfolding image_pages with_stack below
begin_so = λ file plan args env ids small.
    let is-few = few args env small in
    let low : 0x3F_FFEF_F000 ≤ stack_pointer args env = stack_low args env is-few.bytes is-few.first_few is-few.second_few in
    let ends = stack_ends plan ids args env is-few.bytes is-few.first_few is-few.second_few in
    record {
      whole =
          IsWhole-written (below file plan args env) (stack_pointer args env) (stack_bytes (pairs_of plan ids) args env)
          (IsWhole-mapped (with_segments file empty_memory.pages (planned plan)) 67108607 256 stack_rights (whole-with_segments file empty_memory.pages (planned plan) IsWhole-empty));
      holds = image_stack file plan args env ids low (omega (arith, ends));
      usable = λ a what from to granted. image-allows file plan args env ids a what ∙ below-allow file plan args env a what (omega (arith, low)) to ∙ granted;
    }

pub are_as_loaded : AreAsLoaded
are_as_loaded = λ i file plan args env ids small a.
    let is-few = few args env small in
    let start : Memory = image_memory file plan args env ids in
    let after : Pages = (carried_out (show_identity i (stack_pointer args env)) start).memory.pages in
    let loaded : Pages = image_pages file plan args env (auxiliary_values i) in
    let done = are_put i plan ids args env start small (begin_so file plan args env ids small) in
    let other = begin_so file plan args env (auxiliary_values i) small in
    let outside : (a < stack_pointer args env) ⊎ (stack_top ≤ a) → byte_at after a ≡ byte_at loaded a =
    λ apart. done.1.bytes a apart ∙ image-outside file plan args env ids a is-few apart ∙ sym (image-outside file plan args env (auxiliary_values i) a is-few apart) in
    let inside : stack_pointer args env ≤ a → a < stack_top → byte_at after a ≡ byte_at loaded a =
    λ low high.
    let place : stack_pointer args env + (a - stack_pointer args env) ≡ a = omega arith in
    let ends = stack_ends plan (auxiliary_values i) args env is-few.bytes is-few.first_few is-few.second_few in
    let within : a - stack_pointer args env < length (stack_bytes (pairs_of plan (auxiliary_values i)) args env) = omega (arith, ends) in
    ap (byte_at after) (sym place) ∙ done.0.holds (a - stack_pointer args env) within ∙ sym (other.holds (a - stack_pointer args env) within) ∙ ap (byte_at loaded) place in (
      below_or_not (byte_at after a ≡ byte_at loaded a) a (stack_pointer args env) (λ low. outside (inl low)) (λ low. below_or_not (byte_at after a ≡ byte_at loaded a) a stack_top (λ high. inside low high) (λ high. outside (inr high))),
      λ what. done.1.rights a what ∙ image-allows file plan args env ids a what ∙ sym (image-allows file plan args env (auxiliary_values i) a what),
    )
