-- The processes that can go on in two states that match.
use Rattle.std.proofs.Common.{◌≡◌, ◌≤◌, ℕ, suc, Bool, true, false, cond, List, [], ◌∷◌, length, Some, None, refl, sym, ap, ◌∙◌, arith, eq-eqb}
use Rattle.std.specs.Prelude.{◌==◌, ◌&&◌, ◌%◌, map as map_list, not, slice_get}
use Rattle.std.specs.List.{filter, find}
use Rattle.std.specs.Option.{option_map}
use Rattle.pt_results.specs.pt_bind.Tags.{TagTable}
use Rattle.std.proofs.lemmas.Option.{same_Some, slice_get-map}
use Rattle.law_places.specs.kr_view.View.{Row, plain}
use Rattle.law_places.specs.kr_model.Bare.{bare_process, pins_of}
use Rattle.law_places.specs.kr_model.Known.{known}
use Rattle.law_places.specs.kr_model.Lawful.{RiseFrom}
use Rattle.law_places.specs.kr_model.State.{Image, Process, State, image_layout, is_pid}
use Rattle.law_places.proofs.kr_model.KnownLemmas.{known-bare}
use Rattle.kr_core.proofs.law_lawful.SumLemmas.{other-test}
use Rattle.kr_core.specs.kr_steps.Waiting.{goes_on, ready_processes, still_waits}
use Rattle.kr_core.specs.kr_turns.Run.{Deadlock, Over, if_any}
use Rattle.law_places.specs.Matching.{IsMatch}
use Rattle.law_turns.specs.Turning.{MatchesGoOnAlike}
use Rattle.law_turns.proofs.MatchLemmas.{pids_in, same_pids}

-- equal registers under each number from one on
abbrev HasRegistersFrom : ℕ → (xs ys : List (Process ℕ Image)) → Type 0
HasRegistersFrom low xs ys = (k : ℕ) → low ≤ k → option_map (λ p. p.image.regs) (find (is_pid k) xs) ≡ option_map (λ p. p.image.regs) (find (is_pid k) ys)

same_head : {A : Type 0} {x y : A} {xs ys : List A} → x ∷ xs ≡ y ∷ ys → x ≡ y
same_head e = cc

same_tail : {A : Type 0} {x y : A} {xs ys : List A} → x ∷ xs ≡ y ∷ ys → xs ≡ ys
same_tail e = cc

module _ (table : List Row) (tags : TagTable) (s w : State ℕ Image) (m : IsMatch table tags s w) where
  pub same_known : (pid : ℕ) → known image_layout pid s ≡ known image_layout pid w
  same_known pid = known-bare ℕ (pins_of table) pid s ∙ ap (known (λ m. m) pid) m.bares ∙ sym (known-bare ℕ (pins_of plain) pid w)

  -- a process goes on in both, or in none
  go_alike : (x y : Process ℕ Image) → bare_process image_layout x ≡ bare_process image_layout y → x.image.regs ≡ y.image.regs → goes_on s x ≡ goes_on w y
  go_alike x y bares regs =
      let pid : x.pid ≡ y.pid = ap (λ b. b.pid) bares in
      let waits : x.waits ≡ y.waits = ap (λ b. b.waits) bares in
      λ i. not (waits i && still_waits ((same_known x.pid ∙ ap (λ k. known image_layout k w) pid) i) (pid i) (regs i))

  ready_alike : (low next : ℕ) (xs ys : List (Process ℕ Image)) → RiseFrom low next (pids_in xs) → map_list (bare_process image_layout) xs ≡ map_list (bare_process image_layout) ys → HasRegistersFrom low xs ys
      → pids_in (filter (goes_on s) xs) ≡ pids_in (filter (goes_on w) ys)
  ready_alike low next [] [] rise bares regs = refl
  ready_alike low next [] (y ∷ ys) rise bares regs = absurd (never bares)
    where
      never : {A : Type 0} {a : A} {more : List A} → [] ≡ a ∷ more → ⊥
      never e = cc
  ready_alike low next (x ∷ xs) [] rise bares regs = absurd (never bares)
    where
      never : {A : Type 0} {a : A} {more : List A} → a ∷ more ≡ [] → ⊥
      never e = cc
  ready_alike low next (x ∷ xs) (y ∷ ys) rise bares regs =
      let heads = same_head bares in
      let pid : x.pid ≡ y.pid = ap (λ b. b.pid) heads in
      let here : x.image.regs ≡ y.image.regs = at_head pid in
      let rest = ready_alike (suc x.pid) next xs ys rise.2 (same_tail bares) (λ k above. behind pid k above) in
      by pid (goes_on s x) (goes_on w y) (go_alike x y heads here) rest
    where
      at_head : x.pid ≡ y.pid → x.image.regs ≡ y.image.regs
      at_head pid =
          let one : (x.pid == x.pid) ≡ true = eq-eqb x.pid x.pid refl in
          let two : (y.pid == x.pid) ≡ true = eq-eqb y.pid x.pid (sym pid) in
          same_Some _ _ (sym (ap (λ b. option_map (λ (p : Process ℕ Image). p.image.regs) (cond b (Some x) (find (is_pid x.pid) xs))) one) ∙ regs x.pid rise.0 ∙ ap (λ b. option_map (λ (p : Process ℕ Image). p.image.regs) (cond b (Some y) (find (is_pid x.pid) ys))) two)

      behind : x.pid ≡ y.pid → (k : ℕ) → suc x.pid ≤ k → option_map (λ p. p.image.regs) (find (is_pid k) xs) ≡ option_map (λ p. p.image.regs) (find (is_pid k) ys)
      behind pid k above =
          let low_is = rise.0 in
          let one : (x.pid == k) ≡ false = other-test x.pid k (λ e. absurd (omega (arith, e, above))) in
          let two : (y.pid == k) ≡ false = other-test y.pid k (λ e. absurd (omega (arith, e, above, pid))) in
          sym (ap (λ b. option_map (λ (p : Process ℕ Image). p.image.regs) (cond b (Some x) (find (is_pid k) xs))) one) ∙ regs k (omega (arith, above, low_is)) ∙ ap (λ b. option_map (λ (p : Process ℕ Image). p.image.regs) (cond b (Some y) (find (is_pid k) ys))) two

      by : x.pid ≡ y.pid → (b c : Bool) → b ≡ c → pids_in (filter (goes_on s) xs) ≡ pids_in (filter (goes_on w) ys)
          → pids_in (cond b (x ∷ filter (goes_on s) xs) (filter (goes_on s) xs)) ≡ pids_in (cond c (y ∷ filter (goes_on w) ys) (filter (goes_on w) ys))
      by pid true true e rest = λ i. pid i ∷ rest i
      by pid false false e rest = rest
      by pid true false e rest = absurd (differ e)
        where
          differ : true ≡ false → ⊥
          differ e = cc
      by pid false true e rest = absurd (differ e)
        where
          differ : false ≡ true → ⊥
          differ e = cc

  pub same_ready : pids_in (ready_processes s) ≡ pids_in (ready_processes w)
  same_ready = ready_alike 2 s.next_pid s.living w.living m.placed.lawful.pids.living (ap (λ b. b.living) m.bares) (λ k above. m.images.registers k)

-- ---- picks and ends, by the numbers of processes alone

taken : (ps : List (Process ℕ Image)) (k : ℕ) → option_map (λ p. p.pid) (slice_get ps k) ≡ slice_get (pids_in ps) k
taken ps k = sym (slice_get-map (λ (p : Process ℕ Image). p.pid) ps k)

counted : (ps : List (Process ℕ Image)) → length (pids_in ps) ≡ length ps
counted [] = refl
counted (p ∷ ps) = ap suc (counted ps)

pick_alike : (xs ys : List (Process ℕ Image)) (pick : ℕ) → pids_in xs ≡ pids_in ys → option_map (λ p. p.pid) (slice_get xs (pick % length xs)) ≡ option_map (λ p. p.pid) (slice_get ys (pick % length ys))
pick_alike xs ys pick same =
    let size : length xs ≡ length ys = sym (counted xs) ∙ ap length same ∙ counted ys in
    taken xs (pick % length xs) ∙ (λ i. slice_get (same i) (pick % size i)) ∙ sym (taken ys (pick % length ys))

any_alike : {B : Type 0} (xs ys : List (Process ℕ Image)) (none some : B) → pids_in xs ≡ pids_in ys → if_any xs none some ≡ if_any ys none some
any_alike [] [] none some same = refl
any_alike (x ∷ xs) (y ∷ ys) none some same = refl
any_alike [] (y ∷ ys) none some same = absurd (never same)
  where
    never : {A : Type 0} {a : A} {more : List A} → [] ≡ a ∷ more → ⊥
    never e = cc
any_alike (x ∷ xs) [] none some same = absurd (never same)
  where
    never : {A : Type 0} {a : A} {more : List A} → a ∷ more ≡ [] → ⊥
    never e = cc

pub matches_go_on_alike : {S T : Type 0} → MatchesGoOnAlike S T
matches_go_on_alike table tags m n match =
    let ready = same_ready table tags m.state n.state match in
    record {
      picks = λ pick. pick_alike (ready_processes m.state) (ready_processes n.state) pick ready;
      ends =
          any_alike m.state.living n.state.living (Some Over) (if_any (ready_processes m.state) (Some Deadlock) None) (same_pids table tags m.state n.state match)
          ∙ ap (if_any n.state.living (Some Over)) (any_alike (ready_processes m.state) (ready_processes n.state) (Some Deadlock) None ready);
    }
