-- Words of bytes ask for options of bytes.
use Rattle.std.proofs.Common.{◌≡◌, ◌≤◌, ◌++◌, ℕ, zero, suc, ◌+◌, ◌-◌, ◌==◌, ◌&&◌, Bool, true, false, List, [], ◌∷◌, length, take, drop, Option, Some, None, Result, Ok, Err, refl, sym, ap, subst, arith}
use Rattle.std.specs.Prelude.{codes, unwrap_or, IfOk, IfSome, bytes_eq, nat_eq, nat_le}
use Rattle.std.specs.Bool.{if◌then◌else◌}
use Rattle.std.specs.List.{AllByRecursion, ends_with, position, starts_with}
use Rattle.std.specs.Option.{ok_or, option_map}
use Rattle.std.proofs.lemmas.List.{length-drop}
use Rattle.pr_top.specs.pr_words.declared.fault.Why.{Why}
use Rattle.pr_top.specs.pr_words.declared.fault.Why.TheVariants.{BadEnv, BadNumber, BadBind, BadSchedule, BadId, CalmAlone, CaseAlone, LooseAlone, ZeroByte}
use Rattle.pr_top.specs.pr_words.declared.fault.WordsFault.{WordsFault}
use Rattle.pr_top.specs.pr_words.declared.options.Options.{Options}
use Rattle.pr_top.specs.pr_words.Spelling.{by_name, cut_at, flag_named, long_named, own_value, renamed, second_or_none, short_named, spelled_or, spelling_of}
use Rattle.pr_top.specs.pr_words.Values.{Binding, binding_of, case_of, ids_of, is_variable, parts_of, schedule_of, turns_of, variable_name, without_mark}
use Rattle.pr_top.specs.pr_words.Variables.{same_name, with_variable}
use Rattle.pr_top.specs.pr_words.Reading.{accepted, broken_at, has_zero, line_of, or_twice, reading_of, setting_of}
use Rattle.pr_top.specs.pr_words.Steps.{Front, added, calm_alone_in, case_alone_in, finished, front_by, front_of, is_again_in, loose_alone_in, next_value, options_in, so_far_of, step_of, with_front, with_setting}
use Rattle.pr_top.proofs.pr_words.ReadLemmas.{Reached, reached_command, reached_end, reached_fault, reached_first, reached_more}
use Rattle.pr_top.proofs.pr_words.SoundLemmas.{answer_is_sound}
use Rattle.pr_top.specs.kr_tree.Lawful.{AreBytes}
use Rattle.law_starts.specs.law_kept.Bytes.{AreAllBytes}
use Rattle.law_starts.proofs.law_kept.ListLemmas.{all-drop, bytes-tested, first-of, rest-of}
use Rattle.law_starts.proofs.law_allowed.PieceLemmas.{all-append}
use Rattle.law_starts.proofs.kr_start.FieldLemmas.{FirstOf}
use Rattle.pr_top.specs.pr_sources.Asking.{asked_of}
use Rattle.law_machines.specs.Asking.{AreOfBytes, AskedAreSound, AskedAreOfBytes, IsOfByteParts}

-- ---- values

abbrev AreBoth : List ℕ × List ℕ → Type 0
AreBoth parts = AreBytes parts.0 × AreBytes parts.1

cut-bytes : (c : ℕ) (text : List ℕ) → AreBytes text → IfSome (cut_at c text) AreBoth
cut-bytes c text are = by (position (λ b. b == c) text)
  where
    by : (o : Option ℕ) → IfSome (option_map (λ at. (take at text, drop (at + 1) text)) o) AreBoth
    by None = tt
    by (Some at) = (first-of at text are, rest-of (at + 1) text are)

own-value-bytes : (word : List ℕ) → AreBytes word → AreBytes (own_value word)
own-value-bytes word are = by (cut_at 61 word) (cut-bytes 61 word are)
  where
    by : (cut : Option (List ℕ × List ℕ)) → IfSome cut AreBoth → AreBytes (second_or_none cut)
    by None is = tt
    by (Some parts) is = is.1

mark-bytes : (path : List ℕ) → AreBytes path → AreBytes (without_mark path).0
mark-bytes path are = by (ends_with nat_eq path (codes "!"))
  where
    by : (b : Bool) → AreBytes (let p : List ℕ × Bool = (if b then (take (length path - 1) path, true) else (path, false)) in p).0
    by true = first-of (length path - 1) path are
    by false = are

abbrev AreParts : Binding → Type 0
AreParts b = AreBytes b.host × AreBytes b.guest

parts-bytes : (text : List ℕ) → AreBytes text → AreParts (parts_of text (cut_at 58 text))
parts-bytes text are = by (cut_at 58 text) (cut-bytes 58 text are)
  where
    by : (cut : Option (List ℕ × List ℕ)) → IfSome cut AreBoth → AreParts (parts_of text cut)
    by None is = (mark-bytes text are, mark-bytes text are)
    by (Some parts) is = (is.0, mark-bytes parts.1 is.1)

binding-bytes : (text : List ℕ) → AreBytes text → IfSome (binding_of text) AreParts
binding-bytes text are = by (nat_le 1 (length whole.host) && nat_le 1 (length whole.guest))
  where
    whole : Binding
    whole = parts_of text (cut_at 58 text)

    by : (b : Bool) → IfSome (if b then Some whole else None) AreParts
    by true = parts-bytes text are
    by false = tt

-- ---- what is kept of options

-- what functions take first: pr_words gives its types no names for others
abbrev SoFar : Type 0
SoFar = FirstOf options_in

abbrev Setting : Type 0
Setting = FirstOf (λ setting. added 0 setting (so_far_of []))

abbrev Kind : Type 0
Kind = FirstOf setting_of

abbrev Spelled : Type 0
Spelled = FirstOf front_by

record IsByteSoFar (s : SoFar) : Type 0 where
  root : IfSome s.root AreBytes
  binds : AllByRecursion IsOfByteParts s.binds
  directory : IfSome s.directory AreBytes
  variables : AreAllBytes s.variables

-- a setting that keeps this
abbrev KeepsBytes : Setting → Type 0
KeepsBytes setting = (place : ℕ) (s : SoFar) → IsByteSoFar s → IsByteSoFar (added place setting s)

abbrev Gives : Kind → Type 0
Gives what = (value : List ℕ) → AreBytes value → IfOk (setting_of what value) KeepsBytes

mapped : {A : Type 0} (P : A → Type 0) (o : Option A) (f : A → Setting) (why : Why) → IfSome o P → ((a : A) → P a → KeepsBytes (f a)) → IfOk (ok_or (option_map f o) why) KeepsBytes
mapped P None f why is on = tt
mapped P (Some a) f why is on = on a is

any-mapped : {A : Type 0} (o : Option A) (f : A → Setting) (why : Why) → ((a : A) → KeepsBytes (f a)) → IfOk (ok_or (option_map f o) why) KeepsBytes
any-mapped None f why on = tt
any-mapped (Some a) f why on = on a

tested : (b : Bool) (setting : Setting) (why : Why) → KeepsBytes setting → IfOk (if b then Ok setting else Err why) KeepsBytes
tested true setting why on = on
tested false setting why on = tt

with-variable-is : (text : List ℕ) (texts : List (List ℕ)) → AreBytes text → AreAllBytes texts → AreAllBytes (with_variable text texts)
with-variable-is text [] is all = (is, tt)
with-variable-is text (other ∷ texts) is all = by (with-variable-is text texts is all.1) (same_name (variable_name text) (variable_name other))
  where
    by : AreAllBytes (with_variable text texts) → (b : Bool) → AreAllBytes (if b then text ∷ texts else other ∷ with_variable text texts)
    by rest true = (is, all.1)
    by rest false = (all.0, rest)

-- ---- kinds, by their names

pick : {A : Type 0} (P : A → Type 0) (b : Bool) (x : A) (o : Option A) → P x → IfSome o P → IfSome (if b then Some x else o) P
pick P true x o one rest = one
pick P false x o one rest = rest

flags-give : (word : List ℕ) → IfSome (flag_named word) Gives
flags-give word =
    pick Gives (bytes_eq word (codes "-0")) _ _ (λ value are place s is. record { root = is.root; binds = is.binds; directory = is.directory; variables = is.variables })
    (pick Gives (bytes_eq word (codes "--root-id")) _ _ (λ value are place s is. record { root = is.root; binds = is.binds; directory = is.directory; variables = is.variables })
    (pick Gives (bytes_eq word (codes "--native")) _ _ (λ value are place s is. record { root = is.root; binds = is.binds; directory = is.directory; variables = is.variables })
    (pick Gives (bytes_eq word (codes "--calm")) _ _ (λ value are place s is. record { root = is.root; binds = is.binds; directory = is.directory; variables = is.variables }) tt)))

-- a binding behind others
one-more : (s : SoFar) (b : Binding) → IsByteSoFar s → AreParts b → (index : ℕ) → AllByRecursion IsOfByteParts (s.binds ++ record { index = index; host = b.host; guest = b.guest; keep = b.keep } ∷ [])
one-more s b is own index = all-append IsOfByteParts s.binds (record { index = index; host = b.host; guest = b.guest; keep = b.keep } ∷ []) is.binds (record { host = own.0; guest = own.1 }, tt)

shorts-give : (word : List ℕ) → IfSome (short_named word) Gives
shorts-give word =
    pick Gives (bytes_eq word (codes "-r")) _ _ (λ value are place s is. record { root = are; binds = is.binds; directory = is.directory; variables = is.variables })
    (pick Gives (bytes_eq word (codes "-b")) _ _ (λ value are. mapped AreParts (binding_of value) _ BadBind (binding-bytes value are) (λ b own place s is. record { root = is.root; binds = one-more s b is own (length s.binds + 1); directory = is.directory; variables = is.variables }))
    (pick Gives (bytes_eq word (codes "-m")) _ _ (λ value are. mapped AreParts (binding_of value) _ BadBind (binding-bytes value are) (λ b own place s is. record { root = is.root; binds = one-more s b is own (length s.binds + 1); directory = is.directory; variables = is.variables }))
    (pick Gives (bytes_eq word (codes "-w")) _ _ (λ value are place s is. record { root = is.root; binds = is.binds; directory = are; variables = is.variables })
    (pick Gives (bytes_eq word (codes "-i")) _ _ (λ value are. any-mapped (ids_of value) _ BadId (λ ids place s is. record { root = is.root; binds = is.binds; directory = is.directory; variables = is.variables })) tt))))

renamed-give : (word : List ℕ) → IfSome (renamed word) Gives
renamed-give word =
    pick Gives (bytes_eq word (codes "--rootfs")) _ _ (λ value are place s is. record { root = are; binds = is.binds; directory = is.directory; variables = is.variables })
    (pick Gives (bytes_eq word (codes "--bind")) _ _ (λ value are. mapped AreParts (binding_of value) _ BadBind (binding-bytes value are) (λ b own place s is. record { root = is.root; binds = one-more s b is own (length s.binds + 1); directory = is.directory; variables = is.variables }))
    (pick Gives (bytes_eq word (codes "--mount")) _ _ (λ value are. mapped AreParts (binding_of value) _ BadBind (binding-bytes value are) (λ b own place s is. record { root = is.root; binds = one-more s b is own (length s.binds + 1); directory = is.directory; variables = is.variables }))
    (pick Gives (bytes_eq word (codes "--pwd")) _ _ (λ value are place s is. record { root = is.root; binds = is.binds; directory = are; variables = is.variables })
    (pick Gives (bytes_eq word (codes "--cwd")) _ _ (λ value are place s is. record { root = is.root; binds = is.binds; directory = are; variables = is.variables })
    (pick Gives (bytes_eq word (codes "--change-id")) _ _ (λ value are. any-mapped (ids_of value) _ BadId (λ ids place s is. record { root = is.root; binds = is.binds; directory = is.directory; variables = is.variables })) tt)))))

longs-give : (word : List ℕ) → IfSome (long_named word) Gives
longs-give word =
    pick Gives (bytes_eq word (codes "--env")) _ _ (λ value are. tested (is_variable value) _ BadEnv (λ place s is. record { root = is.root; binds = is.binds; directory = is.directory; variables = with-variable-is value s.variables are is.variables }))
    (pick Gives (bytes_eq word (codes "--turns")) _ _ (λ value are. any-mapped (turns_of value) _ BadNumber (λ n place s is. record { root = is.root; binds = is.binds; directory = is.directory; variables = is.variables }))
    (pick Gives (bytes_eq word (codes "--schedule")) _ _ (λ value are. any-mapped (schedule_of value) _ BadSchedule (λ slots place s is. record { root = is.root; binds = is.binds; directory = is.directory; variables = is.variables }))
    (pick Gives (bytes_eq word (codes "--loose")) _ _ (λ value are. any-mapped (schedule_of value) _ BadSchedule (λ slots place s is. record { root = is.root; binds = is.binds; directory = is.directory; variables = is.variables }))
    (pick Gives (bytes_eq word (codes "--case")) _ _ (λ value are. any-mapped (case_of value) _ BadNumber (λ n place s is. record { root = is.root; binds = is.binds; directory = is.directory; variables = is.variables })) (renamed-give word)))))

-- ---- an option in front

abbrev FrontGives : Front → Type 0
FrontGives f = IfOk (setting_of f.kind f.value) KeepsBytes

by-kind : (P : Spelled → Type 0) (form : Kind → Spelled) (other : Spelled) (o : Option Kind) → ((what : Kind) → Gives what → P (form what)) → P other → IfSome o Gives → P (spelled_or form other o)
by-kind P form other None each none gives = none
by-kind P form other (Some what) each none gives = each what gives

either-way : (P : Spelled → Type 0) (b : Bool) (x y : Spelled) → P x → P y → P (if b then x else y)
either-way P true x y one two = one
either-way P false x y one two = two

module _ (word : List ℕ) (words : List (List ℕ)) (own : AreBytes word) (rest : AreAllBytes words) where
  abbrev Fits : Spelled → Type 0
  Fits spelled = IfOk (front_by spelled word words) (λ o. IfSome o FrontGives)

  next-gives : (what : Kind) → Gives what → (words : List (List ℕ)) → AreAllBytes words → IfOk (next_value what words) (λ o. IfSome o FrontGives)
  next-gives what gives [] all = tt
  next-gives what gives (value ∷ words) all = gives value all.0

  name-fits : (cut : Option (List ℕ × List ℕ)) → Fits (by_name word cut)
  name-fits None =
      by-kind Fits _ _ (flag_named word) (λ what gives. gives [] tt)
      (by-kind Fits _ _ (short_named word) (λ what gives. next-gives what gives words rest) (by-kind Fits _ _ (long_named word) (λ what gives. tt) tt (longs-give word)) (shorts-give word)) (flags-give word)
  name-fits (Some parts) = by-kind Fits _ _ (long_named parts.0) (λ what gives. gives (own_value word) (own-value-bytes word own)) tt (longs-give parts.0)

  front-fits : Fits (spelling_of word)
  front-fits = either-way Fits (starts_with nat_eq word (codes "-")) _ _ (name-fits (cut_at 61 word)) tt

  -- ---- a step

  abbrev KeepsOn : Result (ℕ × SoFar) Why → Type 0
  KeepsOn step = IfOk step (λ p. IsByteSoFar p.1)

  twice : (again : Bool) (r : Result Setting Why) → IfOk r KeepsBytes → IfOk (or_twice again r) KeepsBytes
  twice false r is = is
  twice true (Ok setting) is = tt
  twice true (Err why) is = tt

  set-keeps : (place taken : ℕ) (s : SoFar) → IsByteSoFar s → (r : Result Setting Why) → IfOk r KeepsBytes → KeepsOn (with_setting place taken s r)
  set-keeps place taken s is (Ok setting) keeps = keeps place s is
  set-keeps place taken s is (Err why) keeps = tt

  front-keeps : (place : ℕ) (s : SoFar) → IsByteSoFar s → (r : Result (Option Front) Why) → IfOk r (λ o. IfSome o FrontGives) → KeepsOn (with_front place s r)
  front-keeps place s is (Ok None) fits = is
  front-keeps place s is (Ok (Some f)) fits = set-keeps place f.taken s is (or_twice (is_again_in f.kind s) (setting_of f.kind f.value)) (twice (is_again_in f.kind s) (setting_of f.kind f.value) fits)
  front-keeps place s is (Err why) fits = tt

  step-keeps : (place : ℕ) (s : SoFar) → IsByteSoFar s → KeepsOn (step_of place word words s)
  step-keeps place s is = front-keeps place s is (front_of word words) front-fits

-- ---- the words

abbrev Read : Type 0
Read = Result Options WordsFault

or-default : (o : Option (List ℕ)) (d : List ℕ) → IfSome o AreBytes → AreBytes d → AreBytes (unwrap_or o d)
or-default None d some none = none
or-default (Some x) d some none = some

slash-is : AreBytes (codes "/")
slash-is = bytes-tested (codes "/") refl

unbroken : (place : Option ℕ) (why : Why) (r : Read) → IfOk r AreOfBytes → IfOk (broken_at place why r) AreOfBytes
unbroken None why r is = is
unbroken (Some n) why r is = tt

finished-are : (s : SoFar) (n : ℕ) (command : List (List ℕ)) → IsByteSoFar s → AreAllBytes command → IfOk (finished s n command) AreOfBytes
finished-are s n command is all =
    unbroken (case_alone_in s n command) CaseAlone (broken_at (calm_alone_in s) CalmAlone (broken_at (loose_alone_in s) LooseAlone (Ok (options_in s command))))
    (unbroken (calm_alone_in s) CalmAlone (broken_at (loose_alone_in s) LooseAlone (Ok (options_in s command)))
    (unbroken (loose_alone_in s) LooseAlone (Ok (options_in s command)) (record {
      root = or-default s.root (codes "/") is.root slash-is;
      binds = is.binds;
      cwd = or-default s.directory (codes "/") is.directory slash-is;
      env = is.variables;
      command = all;
    })))

abbrev IsRead : Read → Type 0
IsRead r = IfOk r AreOfBytes

reached-are : (most : ℕ) (words : List (List ℕ)) (s : SoFar) (n : ℕ) (answer : Read) → length words ≤ most → AreAllBytes words → IsByteSoFar s → Reached s n words answer → IsRead answer
reached-are most [] s n answer few all is reached = subst IsRead (reached_end s n answer reached) (finished-are s n [] is tt)
reached-are zero (word ∷ words) s n answer few all is reached = absurd (omega (arith, few))
reached-are (suc most) (word ∷ words) s n answer few all is reached = by (λ after taken. reached-are most (drop taken words) after (n + suc taken) answer) (step_of n word words s) refl (step-keeps word words all.0 all.1 n s is)
  where
    by : ((after : SoFar) (taken : ℕ) → length (drop taken words) ≤ most → AreAllBytes (drop taken words) → IsByteSoFar after → Reached after (n + suc taken) (drop taken words) answer → IsRead answer)
        → (r : Result (ℕ × SoFar) Why) → step_of n word words s ≡ r → IfOk r (λ p. IsByteSoFar p.1) → IsRead answer
    by more (Ok (zero, after)) e keeps = subst IsRead (reached_command s after n word words answer reached e) (finished-are after n (word ∷ words) keeps all)
    by more (Ok (suc taken, after)) e keeps =
        let len = length-drop taken words in
        let fewer : length (drop taken words) ≤ most = omega (arith, few, len) in
        more after taken fewer (all-drop AreBytes taken words all.1) keeps (reached_more s after n (suc taken) word words answer reached e (λ e. cc))
    by more (Err why) e keeps = subst IsRead (sym (reached_fault s n word words why answer reached e)) tt

read-of : (r : Read) (o : Options) → asked_of r ≡ Ok o → r ≡ Ok o
read-of (Ok x) o e = let same : x ≡ o = cc in ap Ok same
read-of (Err fault) o e = absurd cc

none-broken : IsByteSoFar (so_far_of [])
none-broken = record { root = tt; binds = tt; directory = tt; variables = tt }

pub asked-are-of-bytes : AskedAreOfBytes
asked-are-of-bytes words o are e =
    let line = accepted [] (line_of 1 words) in
    let all = reached-are (length words) words (so_far_of []) 1 line (omega arith) are none-broken (reached_first words) in
    subst IsRead (read-of (reading_of words) o e) (unbroken (option_map (λ at. at + 1) (position has_zero words)) ZeroByte line all)

pub asked-are-sound : AskedAreSound
asked-are-sound words o e = answer_is_sound words (Ok o) (read-of (reading_of words) o e)
