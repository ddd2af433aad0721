-- A generated case: two runs, whether their outcomes are equal, and what is put of them.
use Rattle.std.specs.Prelude.{◌≡◌, ℕ, zero, suc, ◌-◌, ◌==◌, Bool, count_by, List, [], ◌∷◌, ◌++◌, length, codes, refl, if◌then◌else◌}
use Rattle.std.specs.FinMap as map
use Rattle.std.specs.Coded.{Coded, code_by, coded×, coded_ℕ, coded_list}
use Rattle.std.specs.Fmt.{decimal}
use Rattle.pt_tracer.specs.kr_inode.Inode.{node_code}
use Rattle.pt_tracer.specs.kr_inode.declared.user.User.{User}
use Rattle.pr_sources.specs.kr_tree.Tree.{Nodes, nodes}
use Rattle.pr_sources.specs.kr_text.Canonical.{canonical}
use Rattle.kr_loose.specs.kr_turns.Run.{Deadlock, Ending, Over, Put, Ran, Spent}
use Rattle.pr_sources.specs.declared.answer.Answer.TheVariants as answer
use Rattle.pr_run.specs.Alike.{alike}
use Rattle.pr_run.specs.Report.{Report, outs}

-- ---- outcomes

-- what became of a run: the bytes of each turn, how it ended, the status, and the nodes of the tree that it left
pub record Outcome : Type 0 where
  pub puts : List Put
  pub ending : Ending
  pub status : ℕ
  pub tree : Nodes

abbrev pub outcome : {S : Type 0} → Ran S → Outcome
outcome ran = record { puts = ran.puts; ending = ran.ending; status = ran.machine.tally.status; tree = nodes ran.machine.state.tree }

-- ---- how outcomes are told apart

abbrev pub put_code : Coded Put
put_code = code_by (List ℕ × List ℕ) (coded× (coded_list coded_ℕ) (coded_list coded_ℕ)) (λ p. (p.out, p.err)) (λ p. record { out = p.0; err = p.1 }) (λ _. refl)

abbrev pub ending_number : Ending → ℕ
ending_number Over = 0
ending_number Deadlock = 1
ending_number Spent = 2

abbrev pub ending_at : ℕ → Ending
ending_at zero = Over
ending_at (suc zero) = Deadlock
ending_at (suc (suc n)) = Spent

abbrev pub ending_of_its_number : (e : Ending) → ending_at (ending_number e) ≡ e
ending_of_its_number Over = refl
ending_of_its_number Deadlock = refl
ending_of_its_number Spent = refl

abbrev pub ending_code : Coded Ending
ending_code = code_by ℕ coded_ℕ ending_number ending_at ending_of_its_number

abbrev pub nodes_code : Coded Nodes
nodes_code = map.code coded_ℕ node_code

abbrev pub outcome_code : Coded Outcome
outcome_code =
    code_by (List Put × (Ending × (ℕ × Nodes))) (coded× (coded_list put_code) (coded× ending_code (coded× coded_ℕ nodes_code)))
    (λ o. (o.puts, (o.ending, (o.status, o.tree))))
    (λ p. record { puts = p.0; ending = p.1.0; status = p.1.1.0; tree = p.1.1.1 }) (λ _. refl)

-- true exactly where they are equal
unfoldable pub agree : Outcome → Outcome → Bool
agree a b = alike outcome_code a b

-- ---- the summary

-- a name, its value, and a newline; and what comes behind it
abbrev pub line : List ℕ → List ℕ → List ℕ → List ℕ
line name value rest = name ++ (value ++ (10 ∷ rest))

abbrev pub end_words : Ending → ℕ → List ℕ
end_words Over status = codes "ended " ++ decimal status
end_words Deadlock status = codes "deadlock"
end_words Spent status = codes "spent"

-- each line has its newline
abbrev pub lines : List ℕ → ℕ
lines text = count_by (λ b. b == 10) text

abbrev pub yes_or_no : Bool → List ℕ
yes_or_no same = if same then codes "yes" else codes "no"

abbrev pub summary_lines : (case : ℕ) (end : List ℕ) (turns names out : ℕ) (agree : List ℕ) → List ℕ
summary_lines case end turns names out agree =
    line (codes "case ") (decimal case)
    (line (codes "end ") end
    (line (codes "turns ") (decimal turns)
    (line (codes "names ") (decimal names)
    (line (codes "out ") (decimal out)
    (line (codes "agree ") agree [])))))

-- that of the case of a number, by what its watched run put out, how it ended, and the listing that it left, whose first line has no name
abbrev pub summary : ℕ → List Put → Ending → ℕ → List ℕ → Bool → List ℕ
summary n puts ending status listing same = summary_lines n (end_words ending status) (length puts) (lines listing - 1) (length (outs puts)) (yes_or_no same)

-- ---- the report

abbrev pub status_by : Bool → ℕ
status_by same = if same then 0 else 1

-- the summary as if one turn had put it, the watched run's listing, and whether the outcomes are equal
abbrev pub told_of : ℕ → Outcome → List ℕ → Bool → Report
told_of n o listing same = record {
  puts = record { out = summary n o.puts o.ending o.status listing same; err = [] } ∷ [];
  calm = [];
  left = listing;
  answer = answer.Ended (status_by same);
}

abbrev pub case_report_of : {S T : Type 0} → ℕ → User → Ran S → Ran T → Report
case_report_of n user watched mounted = told_of n (outcome watched) (canonical watched.machine.state.tree user) (agree (outcome watched) (outcome mounted))
