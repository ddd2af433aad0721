-- What a second call reads.
use Rattle.std.proofs.Common.{◌≡◌, ◌≤◌, ◌∙◌, ℕ, Bool, false, List, length, Option, None, refl, ap, arith, nat_lt, if◌then◌else◌}
use Rattle.std.specs.Prelude.{Result, Ok, Err}
use Rattle.std.proofs.lemmas.Bool.Decides.{nat_tests}
use Rattle.pr_start.specs.pr_words.declared.options.Options.{Options}
use Rattle.pr_start.specs.kr_inode.declared.user.User.{User}
use Rattle.pr_start.specs.kr_tree.Tree.{Tree}
use Rattle.pr_gen.specs.kr_text.Canonical.{canonical}
use Rattle.pr_gen.specs.kr_text.Reading.{listing_of}
use Rattle.pr_gen.specs.kr_text.declared.fault.ListFault.{ListFault}
use Rattle.pr_gen.proofs.kr_text.ReadAll.{listings_read}
use Rattle.pr_run.specs.pr_sources.declared.answer.Answer.{Answer}
use Rattle.pr_run.specs.pr_sources.declared.answer.Answer.TheVariants.{TooLong}
use Rattle.pr_run.specs.pr_sources.declared.answer.Which.{Which}
use Rattle.pr_run.specs.pr_sources.declared.answer.Which.TheVariants.{Tree as TreeSource, Input}
use Rattle.pr_run.specs.pr_sources.Asking.{asked}
use Rattle.pr_run.specs.pr_sources.Reading.{asks, file_limit, listed, listed_of, read_asked, read_file, read_listing, tree_limit, with_input}
use Rattle.pr_run.specs.pr_sources.Within.{and_then, within}
use Rattle.pr_run.specs.pr_sources.declared.reading.Asked.{Asked}
use Rattle.pr_top.specs.Opening.{Begun, Both, Loosely, Mounts, Started, Traced, begins, opened_for, opening, report, report_on}
use Rattle.pr_top.specs.Again.{AreReadAgain, tree_left, tree_on}

fits : (limit : ℕ) (which : Which) (bytes : List ℕ) → length bytes ≤ limit → within limit which bytes ≡ Ok bytes
fits limit which bytes few =
    let no : nat_lt limit (length bytes) ≡ false = grind (arith, nat_tests) in
    ap (λ (b : Bool). if b then Err (TooLong which) else Ok bytes) no

module _ (words : List (List ℕ)) (options : Options) (left elf file input : List ℕ) (read : Tree × User) where
  -- the listing is read, and so is the ELF file, if it is named
  listing_is_read : length left ≤ tree_limit → read_file elf left ≡ Ok file → listing_of file left ≡ Ok read → read_listing left elf ≡ Ok read
  listing_is_read few named is =
      ap (λ (tree : Result (List ℕ) Answer). and_then tree (λ listing. and_then (read_file elf listing) (λ file. listed file listing))) (fits tree_limit TreeSource left few)
      ∙ ap (λ (bytes : Result (List ℕ) Answer). and_then bytes (λ file. listed file left)) named
      ∙ ap (λ (r : Result (Tree × User) ListFault). listed_of r) is

  input_is_read : length input ≤ file_limit → with_input options read input ≡ Ok (asks options read input)
  input_is_read few = ap (λ (bytes : Result (List ℕ) Answer). and_then bytes (λ bytes. Ok (asks options read bytes))) (fits file_limit Input input few)

  all_is_read : read_listing left elf ≡ Ok read → with_input options read input ≡ Ok (asks options read input) → read_asked options left elf input ≡ Ok (asks options read input)
  all_is_read listed given =
      ap (λ (r : Result (Tree × User) Answer). and_then r (λ read. with_input options read input)) listed
      ∙ given

  open_all : asked words ≡ Ok options → options.case ≡ None → read_asked options left elf input ≡ Ok (asks options read input) → opening words left elf input ≡ begins (asks options read input)
  open_all worded none told =
      ap (λ (o : Result Options Answer). and_then o (λ (o : Options). opened_for o.case o left elf input)) worded
      ∙ ap (λ (n : Option ℕ). opened_for n options left elf input) none
      ∙ ap (λ (r : Result Asked Answer). and_then r (λ asked. begins asked)) told

-- whichever machine made the run, its report has the listing of the tree that it left
left_is : (b : Begun) (s : Started) → (report_on b.plan s).left ≡ canonical (tree_on b s) b.plan.user
left_is b (Mounts table m) = refl
left_is b (Traced m) = refl
left_is b (Loosely met m) = refl
left_is b (Both n m table k) = refl

pub are_read_again : AreReadAgain
are_read_again = λ b kept can few words options worded none elf file named input short.
    let left : List ℕ = (report b).left in
    let again = listings_read (tree_left b) b.plan.user file kept can in
    let read : Tree × User = (again.0, b.plan.user) in
    let is : listing_of file left ≡ Ok read = ap (listing_of file) (left_is b b.started) ∙ again.1 in
    let listed = listing_is_read words options left elf file input read few named is in
    let told = all_is_read words options left elf file input read listed (input_is_read words options left elf file input read short) in
    (again.0, open_all words options left elf file input read worded none told, again.2)
