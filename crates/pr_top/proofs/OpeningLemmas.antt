-- From what was read to the opening.
use Rattle.std.proofs.Common.{◌≡◌, inl, inr, ℕ, false, List, Some, None, sym, ap, subst, ◌∙◌}
use Rattle.std.specs.Prelude.{Result, Ok, Err, IfErr, IfOk, IsSome, is_some}
use Rattle.pr_start.specs.pr_words.declared.options.Options.{Options}
use Rattle.pr_run.specs.pr_sources.declared.answer.Answer.{Answer}
use Rattle.pr_run.specs.pr_sources.declared.answer.Answer.TheVariants.{Ended, Deadlock, Spent, Usage, TooLong, TreeBad, BadBind, NoStart, ReadFault, WriteFault, NoMemory}
use Rattle.pr_run.specs.pr_sources.Asking.{IsOfAsking, IsRefused}
use Rattle.pr_run.specs.pr_sources.Reading.{AllAreRead, AsksCase, EndsBeforeElf, EndsBeforeInput, HasCause, IsOfWords, IsRead, IsReadAs, IsReadUpTo, IsRefusal, ReadHasCause, ReadsSources, Sources, read_asked}
use Rattle.pr_run.specs.pr_sources.Within.{ComesTo, and_then}
use Rattle.pr_run.specs.pr_sources.declared.reading.Asked.{Asked}
use Rattle.pr_top.specs.Opening.{Begun, IsOfStart, OpensFrom, ReadsAs, WasRead, begins, case_begun, opened_for}
use Rattle.pr_top.specs.declared.opening.Opened.{Opened}

-- what is read is settled and started
pub opens-then : (r : Result Asked Answer) (x : Asked) (answer : Result Opened Answer) → ComesTo r (Ok x) → OpensFrom (begins x) answer → OpensFrom (and_then r (λ a. begins a)) answer
opens-then r x answer first next = subst (λ q. OpensFrom (and_then q (λ a. begins a)) answer) (sym first) next

-- what is refused stays so
pub opens-stop : (r : Result Asked Answer) (a : Answer) → ComesTo r (Err a) → OpensFrom (and_then r (λ x. begins x)) (Err a)
opens-stop r a (inl e) = inl (ap (λ (q : Result Asked Answer). and_then q (λ x. begins x)) e)
opens-stop r a (inr early) = inr early

-- ---- what was read

pub reads-stop : (r : Result Asked Answer) (a : Answer) → ComesTo r (Err a) → ReadsAs r (Err a)
reads-stop r a (inl e) = inl (subst WasRead (sym e) tt)
reads-stop r a (inr early) = inr early

was-read : (r : Result Asked Answer) (x : Asked) → ComesTo r (Ok x) → IsRead x → WasRead r
was-read r x comes read = subst WasRead (sym comes) read

pub reads-then : (r : Result Asked Answer) (x : Asked) (answer : Result Opened Answer) → ComesTo r (Ok x) → IsRead x → ReadsAs r answer
reads-then r x (Ok opened) comes read = was-read r x comes read
reads-then r x (Err a) comes read = inl (was-read r x comes read)

-- ---- what was read to its end

-- a start comes behind all sources
pub ends-start : (s : Sources) (answer : Result Opened Answer) → AllAreRead s → IfErr answer IsOfStart → IsReadAs s answer
ends-start s (Ok opened) all is = all
ends-start s (Err (BadBind index why)) all is = all
ends-start s (Err (NoStart errno)) all is = all
ends-start s (Err NoMemory) all is = tt
ends-start s (Err (Ended status)) all is = absurd is
ends-start s (Err Deadlock) all is = absurd is
ends-start s (Err Spent) all is = absurd is
ends-start s (Err (Usage word why)) all is = absurd is
ends-start s (Err (TooLong which)) all is = absurd is
ends-start s (Err (TreeBad line why)) all is = absurd is
ends-start s (Err (ReadFault which)) all is = absurd is
ends-start s (Err (WriteFault which)) all is = absurd is

-- words that are refused ask for no source
pub ends-refused : (words : Result Options Answer) (s : Sources) (a : Answer) → IsOfAsking a → IsRefused words a → ReadsSources words → IsReadUpTo s a
ends-refused words s (Usage word why) is e reads = subst ReadsSources e reads
ends-refused words s NoMemory is e reads = tt
ends-refused words s (Ended status) is e reads = absurd is
ends-refused words s Deadlock is e reads = absurd is
ends-refused words s Spent is e reads = absurd is
ends-refused words s (TooLong which) is e reads = absurd is
ends-refused words s (TreeBad line why) is e reads = absurd is
ends-refused words s (BadBind index why) is e reads = absurd is
ends-refused words s (NoStart errno) is e reads = absurd is
ends-refused words s (ReadFault which) is e reads = absurd is
ends-refused words s (WriteFault which) is e reads = absurd is

-- words that are refused, or want of memory
pub reads-refused : (words : Result Options Answer) (told : Options → Result Asked Answer) (a : Answer) → IsOfAsking a → IsRefused words a → IfOk words (λ o. o.case ≡ None → ReadsAs (told o) (Err a))
reads-refused (Err b) told a is e = tt
reads-refused (Ok o) told (Usage word why) is e = absurd cc
reads-refused (Ok o) told NoMemory is e = λ alone. inr tt
reads-refused (Ok o) told (Ended status) is e = absurd is
reads-refused (Ok o) told Deadlock is e = absurd is
reads-refused (Ok o) told Spent is e = absurd is
reads-refused (Ok o) told (TooLong which) is e = absurd is
reads-refused (Ok o) told (TreeBad line why) is e = absurd is
reads-refused (Ok o) told (BadBind index why) is e = absurd is
reads-refused (Ok o) told (NoStart errno) is e = absurd is
reads-refused (Ok o) told (ReadFault which) is e = absurd is
reads-refused (Ok o) told (WriteFault which) is e = absurd is

-- a generated case, or sources
pub reads-case : (words : Result Options Answer) (o : Options) (P : Options → Type 0) (n : ℕ) → words ≡ Ok o → o.case ≡ Some n → IfOk words (λ o. o.case ≡ None → P o)
reads-case words o P n worded is = subst (λ w. IfOk w (λ o. o.case ≡ None → P o)) (sym worded) (λ alone. absurd (let clash : Some n ≡ None = sym is ∙ alone in cc))

pub reads-sources : (words : Result Options Answer) (o : Options) (P : Options → Type 0) → words ≡ Ok o → P o → IfOk words (λ o. o.case ≡ None → P o)
reads-sources words o P worded is = subst (λ w. IfOk w (λ o. o.case ≡ None → P o)) (sym worded) (λ alone. is)

-- ---- the words, and what they ask for

-- words that are refused, or want of memory
pub opens-refused : (words : Result Options Answer) (go : Options → Result Begun Answer) (a : Answer) → IsOfAsking a → IsRefused words a → OpensFrom (and_then words go) (Err a)
opens-refused words go (Usage word why) is e = inl (ap (λ (w : Result Options Answer). and_then w go) e)
opens-refused words go NoMemory is e = inr tt
opens-refused words go (Ended status) is e = absurd is
opens-refused words go Deadlock is e = absurd is
opens-refused words go Spent is e = absurd is
opens-refused words go (TooLong which) is e = absurd is
opens-refused words go (TreeBad line why) is e = absurd is
opens-refused words go (BadBind index why) is e = absurd is
opens-refused words go (NoStart errno) is e = absurd is
opens-refused words go (ReadFault which) is e = absurd is
opens-refused words go (WriteFault which) is e = absurd is

module _ (words : Result Options Answer) (o : Options) (worded : words ≡ Ok o) where
  module _ (n : ℕ) (is : o.case ≡ Some n) where
    -- a generated case is asked for
    pub opens-case : (tree elf input : List ℕ) (answer : Result Opened Answer) → OpensFrom (case_begun n o) answer → OpensFrom (and_then words (λ o. opened_for o.case o tree elf input)) answer
    opens-case tree elf input answer opens =
        subst (λ w. OpensFrom (and_then w (λ o. opened_for o.case o tree elf input)) answer) (sym worded) (subst (λ k. OpensFrom (opened_for k o tree elf input) answer) (sym is) opens)

    pub reads-not : ReadsSources words → ⊥
    reads-not reads = let none : o.case ≡ None = subst ReadsSources worded reads in absurd cc

  module _ (is : o.case ≡ None) where
    -- none is
    pub opens-sources : (tree elf input : List ℕ) (answer : Result Opened Answer) → OpensFrom (and_then (read_asked o tree elf input) (λ a. begins a)) answer → OpensFrom (and_then words (λ o. opened_for o.case o tree elf input)) answer
    opens-sources tree elf input answer opens =
        subst (λ w. OpensFrom (and_then w (λ o. opened_for o.case o tree elf input)) answer) (sym worded) (subst (λ k. OpensFrom (opened_for k o tree elf input) answer) (sym is) opens)

    pub reads : ReadsSources words
    reads = subst ReadsSources (sym worded) is

    pub asks-not : AsksCase words → ⊥
    asks-not asks = let some : IsSome o.case = subst AsksCase worded asks in let none : is_some o.case ≡ false = ap is_some is in absurd cc

  pub refused-not : IsRefusal words → ⊥
  refused-not refusal = subst IsRefusal worded refusal

-- the cause of a fault, behind words that ask for sources
pub has-cause : (words : Result Options Answer) (s : Sources) → ReadsSources words → (a : Answer) → ReadHasCause s a → HasCause words s a
has-cause words s asks (ReadFault which) cause = (asks, cause)
has-cause words s asks (Usage word why) cause = tt
has-cause words s asks NoMemory cause = tt
has-cause words s asks (Ended status) cause = tt
has-cause words s asks Deadlock cause = tt
has-cause words s asks Spent cause = tt
has-cause words s asks (TooLong which) cause = tt
has-cause words s asks (TreeBad line why) cause = tt
has-cause words s asks (BadBind index why) cause = tt
has-cause words s asks (NoStart errno) cause = tt
has-cause words s asks (WriteFault which) cause = tt

pub err-then : {A : Type 0} (P Q : Answer → Type 0) (answer : Result A Answer) → ((a : Answer) → P a → Q a) → IfErr answer P → IfErr answer Q
err-then P Q (Ok x) f is = tt
err-then P Q (Err a) f is = f a is

-- ---- answers of the bindings and the start say nothing of the sources

abbrev Start : (Answer → Type 0) → Type 0
Start P = (a : Answer) → IsOfStart a → P a

of-start : (P : Answer → Type 0) → ((index : ℕ) (why : _) → P (BadBind index why)) → ((errno : _) → P (NoStart errno)) → P NoMemory → Start P
of-start P bind start memory (BadBind index why) is = bind index why
of-start P bind start memory (NoStart errno) is = start errno
of-start P bind start memory NoMemory is = memory
of-start P bind start memory (Ended status) is = absurd is
of-start P bind start memory Deadlock is = absurd is
of-start P bind start memory Spent is = absurd is
of-start P bind start memory (Usage word why) is = absurd is
of-start P bind start memory (TooLong which) is = absurd is
of-start P bind start memory (TreeBad line why) is = absurd is
of-start P bind start memory (ReadFault which) is = absurd is
of-start P bind start memory (WriteFault which) is = absurd is

pub if-err : {A : Type 0} (P : Answer → Type 0) (answer : Result A Answer) → Start P → IfErr answer IsOfStart → IfErr answer P
if-err P (Ok x) f is = tt
if-err P (Err a) f is = f a is

pub not-of-words : (Q : Answer → Type 0) → Start (λ a. IsOfWords a → Q a)
not-of-words Q = of-start (λ a. IsOfWords a → Q a) (λ index why words. absurd words) (λ errno words. absurd words) (λ words. absurd words)

pub no-fault : (words : Result Options Answer) (s : Sources) → Start (HasCause words s)
no-fault words s = of-start (HasCause words s) (λ index why. tt) (λ errno. tt) tt

pub no-read-fault : (s : Sources) → Start (ReadHasCause s)
no-read-fault s = of-start (ReadHasCause s) (λ index why. tt) (λ errno. tt) tt

pub not-before-elf : (Q : Type 0) → Start (λ a. EndsBeforeElf a → Q)
not-before-elf Q = of-start (λ a. EndsBeforeElf a → Q) (λ index why ends. absurd ends) (λ errno ends. absurd ends) (λ ends. absurd ends)

pub not-before-input : (Q : Type 0) → Start (λ a. EndsBeforeInput a → Q)
not-before-input Q = of-start (λ a. EndsBeforeInput a → Q) (λ index why ends. absurd ends) (λ errno ends. absurd ends) (λ ends. absurd ends)
