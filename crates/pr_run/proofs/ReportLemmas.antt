-- A report that stops behind its turns.
use Rattle.std.proofs.Common.{◌≡◌, ◌≤◌, inl, inr, ℕ, List, length, take, sym, subst, arith}
use Rattle.std.specs.Prelude.{Err}
use Rattle.std.proofs.lemmas.List.{take_all}
use Rattle.pr_sources.specs.pr_io.Drawn.{Received}
use Rattle.pr_sources.specs.pr_io.Moves.{Gets}
use Rattle.pr_run.specs.Report.{Report, errs, outs}
use Rattle.pr_run.specs.Puts.{Got, GotNone, PutsCalm, PutsListing, PutsTurns, StopsReport}
use Rattle.pr_run.specs.declared.turns.Stop.{Stop}
use Rattle.pr_run.specs.declared.turns.Stop.TheVariants as stop
use Rattle.pr_run.proofs.BytesLemmas.{gets-past, gets-kept, rose-since}
use Rattle.pr_run.proofs.RunLemmas.{part}

module _ (r : Report) (out err left : Received) where
  -- at the line on calm, before which the error sink had got so much and failed so often
  pub stops-at-calm : (mid : List ℕ) (failed : ℕ) → err.failed_before ≤ failed → Got out (outs r.puts) → Gets err.before mid (errs r.puts) → GotNone left → (s : Stop) → PutsCalm r.calm (part err mid failed) (Err s) → StopsReport r out err left s
  stops-at-calm mid failed below out_got err_got none stop.Err p = (
    rose-since err.failed_before failed err.failed_now below p.0,
    inr (record { due = p.1; out_got = out_got; err_got = gets-past (errs r.puts) r.calm err.before mid err.now err_got p.2 }),
    none,
  )
  stops-at-calm mid failed below out_got err_got none stop.NoMemory p =
      let all : take (length r.puts) r.puts ≡ r.puts = take_all (length r.puts) r.puts (omega arith) in (
        inl (record {
          made = length r.puts;
          out_got = subst (λ l. Got out (outs l)) (sym all) out_got;
          err_got = inl (subst (λ l. Got err (errs l)) (sym all) (gets-kept err.before mid err.now (errs r.puts) err_got p));
        }),
        none,
      )
  stops-at-calm mid failed below out_got err_got none stop.Out p = absurd p
  stops-at-calm mid failed below out_got err_got none stop.Left p = absurd p

  -- at the listing
  pub stops-at-listing : PutsTurns r out err → (s : Stop) → PutsListing r.left left (Err s) → StopsReport r out err left s
  stops-at-listing puts stop.Left p = (p.0, puts, p.1)
  stops-at-listing puts stop.NoMemory p = (inr puts, p)
  stops-at-listing puts stop.Out p = absurd p
  stops-at-listing puts stop.Err p = absurd p
