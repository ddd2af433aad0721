use Rattle.std.proofs.Common.{arith, refl, ◌∙◌, ap, true, false}
use Rattle.law_walks.specs.kr_files.declared.opened.What.TheVariants.{Out, Err as ErrorPart}
use Rattle.law_walks.specs.kr_model.Applied.{open_in}
use Rattle.kr_start.specs.Start.{first_pid, console}
use Rattle.kr_start.proofs.FirstLemmas.{on-ok}
use Rattle.kr_start.proofs.first.open_console.Goals as goal

pub open_part-requires-2 : goal.open_part-requires-2
open_part-requires-2 g c = (omega arith, (refl, (1, omega arith, c.in_ok-open_part.ensures.next 0 (omega arith) c.requires)))

pub open_part-requires-3 : goal.open_part-requires-3
open_part-requires-3 g c =
    let one = c.in_ok-open_part.ensures.next 0 (omega arith) c.requires in
    (omega arith, (refl, (2, omega arith, c.in_ok-open_part-2.ensures.next 1 (omega arith) one)))

pub returns-clause-opens : goal.returns-clause-opens
returns-clause-opens g c =
    let one = c.in_ok-open_part.ensures.next 0 (omega arith) c.requires in
    let two = c.in_ok-open_part-2.ensures.next 1 (omega arith) one in
    on-ok c.open_part-3.result
    (λ opens m.
    opens 2 (omega arith) two m
    ∙ ap (open_in first_pid 2 false (console ErrorPart false true) m)
    (c.in_ok-open_part-2.ensures.opens 1 (omega arith) one m ∙ ap (open_in first_pid 1 false (console Out false true) m) (c.in_ok-open_part.ensures.opens 0 (omega arith) c.requires m)))
    c.open_part-3.ensures.opens

pub returns-clause-lawful : goal.returns-clause-lawful
returns-clause-lawful g c =
    on-ok c.open_part-3.result
    (λ keeps number table l. keeps number table (c.in_ok-open_part-2.ensures.lawful number table (c.in_ok-open_part.ensures.lawful number table l)))
    c.open_part-3.ensures.lawful
