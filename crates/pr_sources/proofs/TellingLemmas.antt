-- What sources that tell what they have left come to is what the bytes that they gave come to.
use Rattle.std.proofs.Common.{◌≡◌, ◌∙◌, ◌⊎◌, inl, inr, ℕ, ◌+◌, ◌<◌, ◌++◌, Bool, true, false, List, [], length, Option, Some, None, IfSome, IsTrue, refl, sym, ap, subst, arith, nat_lt, if◌then◌else◌, length-append}
use Rattle.std.proofs.lemmas.Bool.Decides.{nat_tests}
use Rattle.std.proofs.lemmas.List.{append-nil}
use Rattle.std.specs.Prelude.{Result, Ok, Err}
use Rattle.std.specs.Io.KnownBytes.{Consumes, IsAtEnd}
use Rattle.pr_words.specs.declared.options.Options.{Options}
use Rattle.kr_start.specs.kr_inode.declared.user.User.{User}
use Rattle.kr_start.specs.kr_tree.Tree.{Tree}
use Rattle.kr_start.specs.kr_text.Reading.{wants_elf}
use Rattle.pr_io.specs.Drawn.{Drawn, IsDrawn, IsWhole, gave}
use Rattle.pr_sources.specs.declared.answer.Answer.{Answer}
use Rattle.pr_sources.specs.declared.answer.Answer.TheVariants.{Ended, Deadlock, Spent, Usage, TooLong, TreeBad, BadBind, NoStart, ReadFault, WriteFault, NoMemory}
use Rattle.pr_sources.specs.declared.answer.Which.{Which}
use Rattle.pr_sources.specs.declared.answer.Which.TheVariants.{Tree as TreeSource, Elf, Input, Out, Err as ErrSink, Left}
use Rattle.pr_sources.specs.Reading.{AllAreRead, AreDrawn, IsPast, IsReadUpTo, IsRefusal, IsWanted, ListingIsRead, Sources, WantsElf, file_limit, listed, read_asked, read_file, read_input, read_listing, read_tree, tree_limit, with_input, asks}
use Rattle.pr_sources.specs.Telling.{Agrees, IsUnwanted, SourcesThatTellAgree, Stage, UnlistedAreUntouched, UnwantedAreUntouched, and_told, told_asked, told_file, told_input, told_listing, told_tree, told_with_input, told_within}
use Rattle.pr_sources.specs.Within.{IsEarly, and_then, within}

-- ---- one source

-- all that was lost up to the end is all that there was
all_lost : (had has : Option (List ℕ)) (bs : List ℕ) → Consumes had has bs → IsAtEnd has → IfSome had (λ xs. xs ≡ bs)
all_lost None has bs lost end = tt
all_lost (Some xs) None bs lost end = absurd lost
all_lost (Some xs) (Some ys) bs lost end = lost ∙ ap (λ l. bs ++ l) end ∙ append-nil bs

-- what was read to its end is within its limit as all that it had
within_whole : (limit : ℕ) (which : Which) (had : Option (List ℕ)) (bs : List ℕ) → IfSome had (λ xs. xs ≡ bs) → Agrees (told_within limit which had) (within limit which bs)
within_whole limit which None bs same = tt
within_whole limit which (Some xs) bs same = ap (within limit which) same

-- what gave more bytes than its limit had more
too_long : (limit : ℕ) (which : Which) (bytes : List ℕ) → limit < length bytes → within limit which bytes ≡ Err (TooLong which)
too_long limit which bytes more =
    let yes : nat_lt limit (length bytes) ≡ true = grind (arith, nat_tests) in
    ap (λ (b : Bool). if b then Err (TooLong which) else Ok bytes) yes

more_before : (limit : ℕ) (xs bs ys : List ℕ) → xs ≡ bs ++ ys → length bs ≡ limit + 1 → limit < length xs
more_before limit xs bs ys is long =
    let sum : length xs ≡ length bs + length ys = ap length is ∙ length-append bs ys in omega (arith, sum, long)

gave_long : (limit : ℕ) (which : Which) (d : Drawn) → length (gave d) ≡ limit + 1 → within limit which (gave d) ≡ Err (TooLong which)
gave_long limit which d long = too_long limit which (gave d) (omega (arith, long))

within_long : (limit : ℕ) (which : Which) (had has : Option (List ℕ)) (bs : List ℕ) → Consumes had has bs → length bs ≡ limit + 1 → IfSome (told_within limit which had) (λ told. told ≡ Err (TooLong which))
within_long limit which None has bs lost long = tt
within_long limit which (Some xs) None bs lost long = absurd lost
within_long limit which (Some xs) (Some ys) bs lost long = too_long limit which xs (more_before limit xs bs ys lost long)

module _ (limit : ℕ) (which : Which) (d : Drawn) (is : IsDrawn d) where
  agrees_whole : IsWhole d → Agrees (told_within limit which d.had) (within limit which (gave d))
  agrees_whole whole = within_whole limit which d.had (gave d) (all_lost d.had d.has (gave d) is.lost whole.none_left)

  agrees_long : length (gave d) ≡ limit + 1 → Agrees (told_within limit which d.had) (within limit which (gave d))
  agrees_long long = subst (λ r. IfSome (told_within limit which d.had) (λ told. told ≡ r)) (sym (gave_long limit which d long)) (within_long limit which d.had d.has (gave d) is.lost long)

-- ---- stages

-- where a stage agrees, and what follows agrees at its outcome, so do both
pub agrees_then : {A B : Type 0} (told : Stage A) (r : Result A Answer) (go : A → Stage B) (next : A → Result B Answer) → Agrees told r → ((x : A) → r ≡ Ok x → Agrees (go x) (next x)) → Agrees (and_told told go) (and_then r next)
agrees_then None r go next e f = tt
agrees_then (Some (Ok x)) r go next e f = subst (λ q. Agrees (go x) (and_then q next)) e (f x (sym e))
agrees_then (Some (Err a)) r go next e f = subst (λ q. Err a ≡ and_then q next) e refl

-- a refusal has no outcome
no_outcome : {A : Type 0} (r : Result A Answer) (a : Answer) (P : Type 0) (x : A) → r ≡ Err a → r ≡ Ok x → P
no_outcome (Ok y) a P x refused e = absurd cc
no_outcome (Err b) a P x refused e = absurd cc

agrees_file : (had : Option (List ℕ)) (bytes listing : List ℕ) → (IsTrue (wants_elf listing) → Agrees (told_within file_limit Elf had) (within file_limit Elf bytes)) → Agrees (told_file had listing) (read_file bytes listing)
agrees_file had bytes listing f = by (wants_elf listing) f
  where
    by : (wants : Bool) → (IsTrue wants → Agrees (told_within file_limit Elf had) (within file_limit Elf bytes))
        → Agrees (if wants then told_within file_limit Elf had else Some (Ok [])) (if wants then within file_limit Elf bytes else Ok [])
    by true f = f refl
    by false f = refl

module _ (s : Sources) (are : AreDrawn s) where
  pub agrees_tree : IsWhole s.tree → Agrees (told_tree s.tree.had) (read_tree (gave s.tree))
  agrees_tree whole = agrees_whole tree_limit TreeSource s.tree are.tree_drawn whole

  -- the listing, where the ELF file agrees if it is wanted
  listing_by : IsWhole s.tree → (IsWanted (read_tree (gave s.tree)) → Agrees (told_within file_limit Elf s.elf.had) (within file_limit Elf (gave s.elf)))
      → Agrees (told_listing s.tree.had s.elf.had) (read_listing (gave s.tree) (gave s.elf))
  listing_by whole elf =
      agrees_then (told_tree s.tree.had) (read_tree (gave s.tree)) (λ listing. and_told (told_file s.elf.had listing) (λ file. Some (listed file listing))) (λ listing. and_then (read_file (gave s.elf) listing) (λ file. listed file listing)) (agrees_tree whole)
      (λ listing e. agrees_then (told_file s.elf.had listing) (read_file (gave s.elf) listing) (λ file. Some (listed file listing)) (λ file. listed file listing)
      (agrees_file s.elf.had (gave s.elf) listing (λ wants. elf (subst IsWanted (sym e) wants))) (λ file e. refl))

  pub agrees_listing : ListingIsRead s.tree s.elf → Agrees (told_listing s.tree.had s.elf.had) (read_listing (gave s.tree) (gave s.elf))
  agrees_listing read = listing_by read.tree_end (λ wanted. agrees_whole file_limit Elf s.elf are.elf_drawn (read.elf_end wanted))

  module _ (o : Options) where
    -- all, where what follows the listing agrees at its outcome
    asked_by : Agrees (told_listing s.tree.had s.elf.had) (read_listing (gave s.tree) (gave s.elf)) → ((read : Tree × User) → read_listing (gave s.tree) (gave s.elf) ≡ Ok read → Agrees (told_input s.input.had) (read_input (gave s.input)))
        → Agrees (told_asked o s.tree.had s.elf.had s.input.had) (read_asked o (gave s.tree) (gave s.elf) (gave s.input))
    asked_by listing input =
        agrees_then (told_listing s.tree.had s.elf.had) (read_listing (gave s.tree) (gave s.elf)) (λ read. told_with_input o read s.input.had) (λ read. with_input o read (gave s.input)) listing
        (λ read e. agrees_then (told_input s.input.had) (read_input (gave s.input)) (λ bytes. Some (Ok (asks o read bytes))) (λ bytes. Ok (asks o read bytes)) (input read e) (λ bytes e. refl))

    all_read : AllAreRead s → Agrees (told_asked o s.tree.had s.elf.had s.input.had) (read_asked o (gave s.tree) (gave s.elf) (gave s.input))
    all_read all = asked_by (agrees_listing all.listing) (λ read e. agrees_whole file_limit Input s.input are.input_drawn all.input_end)

    -- what is refused before the input is read
    refused_before : (a : Answer) → Agrees (told_listing s.tree.had s.elf.had) (read_listing (gave s.tree) (gave s.elf)) → read_listing (gave s.tree) (gave s.elf) ≡ Err a
        → Agrees (told_asked o s.tree.had s.elf.had s.input.had) (read_asked o (gave s.tree) (gave s.elf) (gave s.input))
    refused_before a listing refused = asked_by listing (λ read e. no_outcome (read_listing (gave s.tree) (gave s.elf)) a (Agrees (told_input s.input.had) (read_input (gave s.input))) read refused e)

    long_tree : length (gave s.tree) ≡ tree_limit + 1 → Agrees (told_asked o s.tree.had s.elf.had s.input.had) (read_asked o (gave s.tree) (gave s.elf) (gave s.input))
    long_tree long =
        let refused = gave_long tree_limit TreeSource s.tree long in
        refused_before (TooLong TreeSource)
        (agrees_then (told_tree s.tree.had) (read_tree (gave s.tree)) (λ listing. and_told (told_file s.elf.had listing) (λ file. Some (listed file listing))) (λ listing. and_then (read_file (gave s.elf) listing) (λ file. listed file listing))
        (agrees_long tree_limit TreeSource s.tree are.tree_drawn long)
        (λ listing e. no_outcome (read_tree (gave s.tree)) (TooLong TreeSource) (Agrees (and_told (told_file s.elf.had listing) (λ file. Some (listed file listing))) (and_then (read_file (gave s.elf) listing) (λ file. listed file listing))) listing refused e))
        (ap (λ r. and_then r (λ listing. and_then (read_file (gave s.elf) listing) (λ file. listed file listing))) refused)

    -- an ELF file that is wanted and too long is what the listing comes to
    wanted_refused : (tree : Result (List ℕ) Answer) → IsWanted tree → length (gave s.elf) ≡ file_limit + 1 → and_then tree (λ listing. and_then (read_file (gave s.elf) listing) (λ file. listed file listing)) ≡ Err (TooLong Elf)
    wanted_refused (Ok listing) wants long =
        ap (λ (b : Bool). and_then (if b then within file_limit Elf (gave s.elf) else Ok []) (λ file. listed file listing)) wants
        ∙ ap (λ (r : Result (List ℕ) Answer). and_then r (λ file. listed file listing)) (gave_long file_limit Elf s.elf long)
    wanted_refused (Err a) wants long = absurd wants

    long_elf : WantsElf s.tree → length (gave s.elf) ≡ file_limit + 1 → Agrees (told_asked o s.tree.had s.elf.had s.input.had) (read_asked o (gave s.tree) (gave s.elf) (gave s.input))
    long_elf wants long =
        refused_before (TooLong Elf) (listing_by wants.tree_end (λ wanted. agrees_long file_limit Elf s.elf are.elf_drawn long)) (wanted_refused (read_tree (gave s.tree)) wants.wanted long)

    -- each answer that isn't an early end
    pub agrees_or_early : (a : Answer) → IsReadUpTo s a → Agrees (told_asked o s.tree.had s.elf.had s.input.had) (read_asked o (gave s.tree) (gave s.elf) (gave s.input)) ⊎ IsEarly a
    agrees_or_early (Usage word why) ends = absurd ends
    agrees_or_early NoMemory ends = inr tt
    agrees_or_early (ReadFault which) ends = inr tt
    agrees_or_early (TooLong TreeSource) ends = inl (long_tree ends)
    agrees_or_early (TooLong Elf) ends = inl (long_elf ends.0 ends.1)
    agrees_or_early (TooLong Input) ends = inl (asked_by (agrees_listing ends.0.listing) (λ read e. agrees_long file_limit Input s.input are.input_drawn ends.1))
    agrees_or_early (TooLong Out) ends = absurd ends
    agrees_or_early (TooLong ErrSink) ends = absurd ends
    agrees_or_early (TooLong Left) ends = absurd ends
    agrees_or_early (TreeBad line why) ends = inl (refused_before (TreeBad line why) (agrees_listing ends.0) ends.1)
    agrees_or_early (BadBind index why) ends = inl (all_read ends)
    agrees_or_early (NoStart errno) ends = inl (all_read ends)
    agrees_or_early (WriteFault which) ends = inl (all_read ends)
    agrees_or_early (Ended status) ends = inl (all_read ends)
    agrees_or_early Deadlock ends = inl (all_read ends)
    agrees_or_early Spent ends = inl (all_read ends)

pub sources_that_tell_agree : SourcesThatTellAgree
sources_that_tell_agree = λ s are o a ends. agrees_or_early s are o a ends

-- ---- what isn't touched

-- what agrees with a value that has a property has it, where it is known
pub has : {A : Type 0} (P : Result A Answer → Type 0) (told : Stage A) (r : Result A Answer) → Agrees told r → P r → IfSome told P
has P None r agrees holds = tt
has P (Some known) r agrees holds = subst P (sym agrees) holds

always : {A : Type 0} (P : Result A Answer → Type 0) (told : Stage A) → ((r : Result A Answer) → P r) → IfSome told P
always P None f = tt
always P (Some known) f = f known

wanted_or_not : (r : Result (List ℕ) Answer) → IsWanted r → IsUnwanted r → ⊥
wanted_or_not (Ok listing) wanted un = let clash : true ≡ false = sym wanted ∙ un in absurd cc
wanted_or_not (Err a) wanted un = wanted

past_or_not : (r : Result (Tree × User) Answer) → IsPast r → IsRefusal r → ⊥
past_or_not (Ok read) past refused = refused
past_or_not (Err a) past refused = past

pub unwanted_are_untouched : (S : Type 0) → UnwantedAreUntouched S
unwanted_are_untouched S s are old new (inl same) = always (λ listing. IsUnwanted listing → new ≡ old) (told_tree s.tree.had) (λ r un. same)
unwanted_are_untouched S s are old new (inr wants) =
    has (λ listing. IsUnwanted listing → new ≡ old) (told_tree s.tree.had) (read_tree (gave s.tree)) (agrees_tree s are wants.tree_end) (λ un. absurd (wanted_or_not (read_tree (gave s.tree)) wants.wanted un))

pub unlisted_are_untouched : (S : Type 0) → UnlistedAreUntouched S
unlisted_are_untouched S s are old new (inl same) = always (λ listing. IsRefusal listing → new ≡ old) (told_listing s.tree.had s.elf.had) (λ r refused. same)
unlisted_are_untouched S s are old new (inr is) =
    has (λ listing. IsRefusal listing → new ≡ old) (told_listing s.tree.had s.elf.had) (read_listing (gave s.tree) (gave s.elf)) (agrees_listing s are is.listing)
    (λ refused. absurd (past_or_not (read_listing (gave s.tree) (gave s.elf)) is.past refused))
