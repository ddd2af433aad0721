-- How much data the steps of a probe need.
use Rattle.std.proofs.Common.{◌≡◌, ℕ, ◌+◌, ◌*◌, ◌<◌, ◌≤◌, List, [], ◌∷◌, ◌++◌, length, length-append, drop, get_or, slice_get, Some, None, zero, suc, arith, refl, ap, ◌∙◌}
use Rattle.std.proofs.lemmas.List.{drop_more}
use Rattle.std.proofs.lemmas.Option.{slice_get_within, get_or_from_slice_get}
use Rattle.pr_gen.specs.declared.steps.ProbeStep.{ProbeStep}
use Rattle.pr_gen.specs.declared.steps.ProbeStep.TheVariants.{Call, SetSp}
use Rattle.pr_gen.specs.declared.steps.Arg.{Arg}
use Rattle.pr_gen.specs.declared.steps.Arg.TheVariants.{Num, Text, List as TextList, Buf, Answer}
use Rattle.pr_gen.specs.Steps.{texts_of, texts_in, texts, bytes_in, text_room, texts_room, room_of, room_in, room, IsProbe}

pub bytes_in-append : (ts us : List (List ℕ)) → bytes_in (ts ++ us) ≡ bytes_in ts + bytes_in us
bytes_in-append [] us = omega arith
bytes_in-append (t ∷ ts) us = omega (arith, bytes_in-append ts us)

texts_room-bound : (ts : List (List ℕ)) → texts_room ts ≤ bytes_in ts + 8 * length ts
texts_room-bound [] = omega arith
texts_room-bound (t ∷ ts) = omega (arith, texts_room-bound ts)

room_of-bound : (arg : Arg) → room_of arg ≤ bytes_in (texts_of arg) + 24 * length (texts_of arg)
room_of-bound (Num n) = omega arith
room_of-bound (Text t) = omega arith
room_of-bound (TextList ts) = omega (arith, texts_room-bound ts)
room_of-bound Buf = omega arith
room_of-bound (Answer k) = omega arith

room_in-bound : (args : List Arg) → room_in args ≤ bytes_in (texts_in args) + 24 * length (texts_in args)
room_in-bound [] = omega arith
room_in-bound (arg ∷ rest) =
    omega (arith, room_of-bound arg, room_in-bound rest, bytes_in-append (texts_of arg) (texts_in rest), length-append (texts_of arg) (texts_in rest))

texts-bound : (steps : List ProbeStep) → room steps ≤ bytes_in (texts steps) + 24 * length (texts steps)
texts-bound [] = omega arith
texts-bound (Call number args who show ∷ rest) =
    omega (arith, room_in-bound args, texts-bound rest, bytes_in-append (texts_in args) (texts rest), length-append (texts_in args) (texts rest))
texts-bound (SetSp sp ∷ rest) = omega (arith, texts-bound rest)

pub room-bound : (steps : List ProbeStep) → IsProbe steps → room steps ≤ 2621440
room-bound steps is = omega (arith, texts-bound steps, is.few_texts, is.few_bytes)

-- ---- the texts of a list, one after another

pub texts_next : (ts : List (List ℕ)) (k : ℕ) (t : List ℕ) → slice_get ts k ≡ Some t → (k < length ts) × (texts_room (drop k ts) ≡ text_room t + texts_room (drop (k + 1) ts))
texts_next ts k t here =
    let within : k < length ts = slice_get_within ts k t here in
    let is : get_or ts k t ≡ t = get_or_from_slice_get ts k t t here in
    (within, ap texts_room (drop_more ts k t within) ∙ ap (λ (u : List ℕ). text_room u + texts_room (drop (k + 1) ts)) is)

pub texts_end : (ts : List (List ℕ)) (k : ℕ) → slice_get ts k ≡ None → texts_room (drop k ts) ≡ 0
texts_end [] zero none = refl
texts_end [] (suc k) none = refl
texts_end (t ∷ ts) zero none = cc
texts_end (t ∷ ts) (suc k) none = texts_end ts k none

pub texts_passed : (ts : List (List ℕ)) (k : ℕ) → slice_get ts k ≡ None → length ts ≤ k
texts_passed [] k none = omega arith
texts_passed (t ∷ ts) zero none = cc
texts_passed (t ∷ ts) (suc k) none = omega (arith, texts_passed ts k none)

-- each text takes some room
pub count-bound : (ts : List (List ℕ)) → length ts ≤ texts_room ts
count-bound [] = omega arith
count-bound (t ∷ ts) = omega (arith, count-bound ts)
