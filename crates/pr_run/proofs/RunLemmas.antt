-- A run whose slots are used one after the other, and whose bytes are put.
use Rattle.std.proofs.Common.{◌≡◌, inl, inr, ℕ, zero, suc, ◌-◌, ◌<◌, ◌≤◌, List, ◌++◌, take, drop, Some, None, refl, sym, ap, subst, ◌∙◌, arith, take-append-drop}
use Rattle.std.specs.Option.{option_map_or}
use Rattle.std.proofs.lemmas.List.{append-nil}
use Rattle.pr_sources.specs.pr_io.Drawn.{Received, SinkFailed}
use Rattle.pr_sources.specs.pr_io.Moves.{Gets}
use Rattle.kr_loose.specs.kr_turns.Run.{Ending, Put, Slot}
use Rattle.pr_run.specs.Going.{Going, Went, gone, or_spent, went_ended, went_from, went_put}
use Rattle.pr_run.specs.Report.{errs, out_part, outs}
use Rattle.pr_run.specs.Puts.{Got, GotNone, StopsBetween, StopsMaking, StopsRun}
use Rattle.pr_run.specs.declared.turns.Stop.{Stop}
use Rattle.pr_run.specs.declared.turns.Stop.TheVariants as stop
use Rattle.pr_run.proofs.BytesLemmas.{gets-next, gets-past, gets-kept, goes-on, GoesOnWith, rose-since}

-- a sink in a later part of a call, from when it had got so much and failed so often
abbrev pub part : Received → List ℕ → ℕ → Received
part whole got failed = record { before = got; now = whole.now; failed_before = failed; failed_now = whole.failed_now }

-- a count that rose in a part of the call rose in the call
failed-too : (sink : Received) (got : List ℕ) (count : ℕ) → sink.failed_before ≤ count → SinkFailed (part sink got count) → SinkFailed sink
failed-too sink got count below rose = rose-since sink.failed_before count sink.failed_now below rose

module _ {X : Type 0} (g : Going X) (slots : ℕ → Slot) where
  abbrev rest-of : ℕ → ℕ → X → Went X
  rest-of left made x = went_from g slots left made x

  abbrev after : ℕ → X → X
  after made x = gone g slots made x

  -- ---- steps

  -- what can't go on has ended
  rest-ended : (left made : ℕ) (x : X) (ending : Ending) → g.ending x ≡ Some ending → rest-of left made x ≡ went_ended x ending
  unfolding went_from
  rest-ended zero made x ending e = ap (λ o. went_ended x (or_spent o)) e
  rest-ended (suc left) made x ending e = ap (λ o. option_map_or (went_ended x) o (went_put (g.put (after made x)) (rest-of left (suc made) (g.forgets (after made x))))) e

  -- so has what used its slots
  rest-spent : (made : ℕ) (x : X) → rest-of zero made x ≡ went_ended x (or_spent (g.ending x))
  unfolding went_from
  rest-spent made x = refl

  -- else it goes on
  rest-slot : (left made : ℕ) (x : X) → g.ending x ≡ None → rest-of (suc left) made x ≡ went_put (g.put (after made x)) (rest-of left (suc made) (g.forgets (after made x)))
  unfolding went_from
  rest-slot left made x e = ap (λ o. option_map_or (went_ended x) o (went_put (g.put (after made x)) (rest-of left (suc made) (g.forgets (after made x))))) e

  -- ---- what is left of a run

  abbrev behind : ℕ → Went X → Went X
  behind made whole = record { puts = drop made whole.puts; ending = whole.ending; left = whole.left }

  -- `made` slots of a whole run were used, and what is left is the run of this
  pub record IsRest (whole : Went X) (limit made : ℕ) (x : X) : Type 0 where
    pub rest : rest-of (limit - made) made x ≡ behind made whole

  pub rest-first : (limit : ℕ) (x : X) → IsRest (went_from g slots limit 0 x) limit 0 x
  rest-first limit x = record { rest = let all : limit - 0 ≡ limit = omega arith in ap (λ n. rest-of n 0 x) all }

  -- nothing is left of a run
  pub record IsOver (whole : Went X) (made : ℕ) (x : X) (ending : Ending) : Type 0 where
    pub puts : take made whole.puts ≡ whole.puts
    pub ending_is : whole.ending ≡ ending
    pub left : whole.left ≡ x

  over-by : (whole : Went X) (made : ℕ) (x : X) (ending : Ending) → went_ended x ending ≡ behind made whole → IsOver whole made x ending
  over-by whole made x ending e =
      let none = ap (λ (r : Went X). r.puts) e in
      record {
        puts = sym (append-nil (take made whole.puts)) ∙ ap (λ l. take made whole.puts ++ l) none ∙ take-append-drop made whole.puts;
        ending_is = sym (ap (λ (r : Went X). r.ending) e);
        left = sym (ap (λ (r : Went X). r.left) e);
      }

  pub over : (whole : Went X) (limit made : ℕ) (x : X) (ending : Ending) → IsRest whole limit made x → g.ending x ≡ Some ending → IsOver whole made x ending
  over whole limit made x ending rest e = over-by whole made x ending (sym (rest-ended (limit - made) made x ending e) ∙ rest.rest)

  pub spent : (whole : Went X) (limit made : ℕ) (x : X) → IsRest whole limit made x → limit ≤ made → IsOver whole made x (or_spent (g.ending x))
  spent whole limit made x rest past =
      let none : limit - made ≡ zero = omega (arith, past) in
      over-by whole made x (or_spent (g.ending x)) (sym (ap (λ n. rest-of n made x) none ∙ rest-spent made x) ∙ rest.rest)

  -- what the next slot makes of what goes on is next in the run
  pub record IsNext (whole : Went X) (limit made : ℕ) (x : X) : Type 0 where
    pub on : GoesOnWith made whole.puts (g.put (after made x)) (drop (suc made) whole.puts)
    pub rest : IsRest whole limit (suc made) (g.forgets (after made x))

  pub next : (whole : Went X) (limit made : ℕ) (x : X) → IsRest whole limit made x → g.ending x ≡ None → made < limit → IsNext whole limit made x
  next whole limit made x rest goes below =
      let left = limit - suc made in
      let more = rest-of left (suc made) (g.forgets (after made x)) in
      let one : limit - made ≡ suc left = omega (arith, below) in
      let e : went_put (g.put (after made x)) more ≡ behind made whole = sym (ap (λ n. rest-of n made x) one ∙ rest-slot left made x goes) ∙ rest.rest in
      let on = goes-on made whole.puts (g.put (after made x)) more.puts (sym (ap (λ (r : Went X). r.puts) e)) in
      record {
        on = record { got = on.got; taken = on.taken; left = refl };
        rest = record { rest = let left-is = sym on.left in λ i. record { puts = left-is i; ending = (e i).ending; left = (e i).left } };
      }

  -- ---- along a run

  -- so many slots were used, it is such now, and the sinks got the bytes of these slots
  pub record IsAlong (whole : Went X) (limit made : ℕ) (Is : X → Type 0) (out out_now err err_now : List ℕ) : Type 0 where
    pub now : X
    pub stands : Is now
    pub rest : IsRest whole limit made now
    pub out_got : Gets out out_now (outs (take made whole.puts))
    pub err_got : Gets err err_now (errs (take made whole.puts))

  -- and so it is with bytes that are kept
  pub record IsKeptAlong (whole : Went X) (limit made : ℕ) (Is : X → Type 0) (puts : List Put) : Type 0 where
    pub now : X
    pub stands : Is now
    pub rest : IsRest whole limit made now
    pub kept : puts ≡ take made whole.puts

  -- ---- where it stops

  module _ (whole : Went X) (limit made : ℕ) (x : X) (rest : IsRest whole limit made x) (below : made < limit) (out err : Received) (mid mid_err : List ℕ) (failed failed_err : ℕ)
      (out_got : Gets out.before mid (outs (take made whole.puts))) (err_got : Gets err.before mid_err (errs (take made whole.puts))) (out_count : out.failed_before ≤ failed) (err_count : err.failed_before ≤ failed_err) where
    abbrev put : Put
    put = g.put (after made x)

    between : GotNone (part out mid failed) → GotNone (part err mid_err failed_err) → StopsBetween whole.puts out err
    between kept kept_err = record {
      made = made;
      out_got = gets-kept out.before mid out.now (outs (take made whole.puts)) out_got kept;
      err_got = inl (gets-kept err.before mid_err err.now (errs (take made whole.puts)) err_got kept_err);
    }

    -- between the output and the error bytes of the turn
    halfway : g.ending x ≡ None → Got (part out mid failed) put.out → GotNone (part err mid_err failed_err) → StopsBetween whole.puts out err
    halfway goes got kept_err =
        let on = (next whole limit made x rest goes below).on in
        let same : made ≡ suc made - 1 = omega arith in
        record {
          made = suc made;
          out_got = gets-next out_part made whole.puts put out.before mid out.now on.taken out_got got;
          err_got = inr (subst (λ n. Got err (errs (take n whole.puts))) same (gets-kept err.before mid_err err.now (errs (take made whole.puts)) err_got kept_err));
        }

    pub stops : (s : Stop) → StopsMaking (g.ending x) put (part out mid failed) (part err mid_err failed_err) s → StopsRun whole.puts out err s
    stops stop.NoMemory (inl kept) = between kept.0 kept.1
    stops stop.NoMemory (inr (goes, (inl kept, kept_err))) = between kept kept_err
    stops stop.NoMemory (inr (goes, (inr got, kept_err))) = halfway goes got kept_err
    stops stop.Out p =
        let on = (next whole limit made x rest p.0 below).on in (
          failed-too out mid failed out_count p.1.0,
          record {
            made = made;
            put = put;
            next = on.got;
            some = p.1.1;
            out_got = gets-past (outs (take made whole.puts)) put.out out.before mid out.now out_got p.1.2;
            err_got = gets-kept err.before mid_err err.now (errs (take made whole.puts)) err_got p.1.3;
          },
        )
    stops stop.Err p =
        let on = (next whole limit made x rest p.0 below).on in (
          failed-too err mid_err failed_err err_count p.1.0,
          record {
            made = made;
            put = put;
            next = on.got;
            some = p.1.1;
            out_got = gets-next out_part made whole.puts put out.before mid out.now on.taken out_got p.1.2;
            err_got = gets-past (errs (take made whole.puts)) put.err err.before mid_err err.now err_got p.1.3;
          },
        )
    stops stop.Left p = p.1
