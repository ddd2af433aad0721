-- What worked lists of words are read as.
use Rattle.std.proofs.Common.{◌≡◌, ℕ, [], ◌∷◌, Result, Ok, Err, Some, None, true, false, refl}
use Rattle.std.specs.Prelude.{codes}
use Rattle.pr_words.specs.declared.fault.Why.{Why}
use Rattle.pr_words.specs.declared.fault.Why.TheVariants.{Unknown, NoValue, BadNumber, BadSchedule, BadBind, BadEnv, Twice, CalmAlone, CaseAlone, ZeroByte, BadId, LooseAlone}
use Rattle.pr_words.specs.declared.fault.WordsFault.{WordsFault}
use Rattle.pr_words.specs.declared.fault.WordsFault.TheVariants.{Usage}
use Rattle.pr_words.specs.declared.options.Options.{Options}
use Rattle.pr_words.specs.Reading.{line_of, with_next, accepted, reading_of}

abbrev Read : Type 0
Read = Result Options WordsFault

abbrev usage : ℕ → Why → Read
usage word why = Err (Usage word why)

-- ---- one word breaks a rule

bind_is_last : reading_of (codes "-b" ∷ []) ≡ usage 1 NoValue
unfolding line_of with_next accepted
bind_is_last = refl

no_turn : reading_of (codes "--turns=0" ∷ []) ≡ usage 1 BadNumber
unfolding line_of with_next accepted
no_turn = refl

no_such_option : reading_of (codes "-x" ∷ []) ≡ usage 1 Unknown
unfolding line_of with_next accepted
no_such_option = refl

directory_twice : reading_of (codes "-w" ∷ codes "/" ∷ codes "-w" ∷ codes "/" ∷ []) ≡ usage 3 Twice
unfolding line_of with_next accepted
directory_twice = refl

calm_alone : reading_of (codes "--calm" ∷ codes "/p" ∷ []) ≡ usage 1 CalmAlone
unfolding line_of with_next accepted
calm_alone = refl

case_with_command : reading_of (codes "--case=1" ∷ codes "/p" ∷ []) ≡ usage 2 CaseAlone
unfolding line_of with_next accepted
case_with_command = refl

no_name : reading_of (codes "--env==v" ∷ []) ≡ usage 1 BadEnv
unfolding line_of with_next accepted
no_name = refl

no_fuel : reading_of (codes "--schedule=1" ∷ []) ≡ usage 1 BadSchedule
unfolding line_of with_next accepted
no_fuel = refl

no_host : reading_of (codes "-b" ∷ codes ":/x" ∷ []) ≡ usage 1 BadBind
unfolding line_of with_next accepted
no_host = refl

turns_without_value : reading_of (codes "--turns" ∷ []) ≡ usage 1 NoValue
unfolding line_of with_next accepted
turns_without_value = refl

one_id : reading_of (codes "-i" ∷ codes "7" ∷ []) ≡ usage 1 BadId
unfolding line_of with_next accepted
one_id = refl

ids_are_last : reading_of (codes "-i" ∷ []) ≡ usage 1 NoValue
unfolding line_of with_next accepted
ids_are_last = refl

root_id_behind_ids : reading_of (codes "-i" ∷ codes "7:8" ∷ codes "-0" ∷ []) ≡ usage 3 Twice
unfolding line_of with_next accepted
root_id_behind_ids = refl

twice_before_bad_id : reading_of (codes "-0" ∷ codes "-i" ∷ codes "7" ∷ []) ≡ usage 2 Twice
unfolding line_of with_next accepted
twice_before_bad_id = refl

bad_number_before_twice : reading_of (codes "--turns=1" ∷ codes "--turns=0" ∷ []) ≡ usage 2 BadNumber
unfolding line_of with_next accepted
bad_number_before_twice = refl

zero_byte_first : reading_of (codes "-x" ∷ codes "/p" ∷ (97 ∷ 0 ∷ []) ∷ []) ≡ usage 3 ZeroByte
unfolding line_of with_next accepted
zero_byte_first = refl

case_before_calm : reading_of (codes "--calm" ∷ codes "--case=1" ∷ []) ≡ usage 1 CaseAlone
unfolding line_of with_next accepted
case_before_calm = refl

loose_before_native : reading_of (codes "--loose=0*1" ∷ codes "--native" ∷ codes "/p" ∷ []) ≡ usage 1 LooseAlone
unfolding line_of with_next accepted
loose_before_native = refl

loose_behind_root_id : reading_of (codes "-0" ∷ codes "--loose=0*1" ∷ []) ≡ usage 2 LooseAlone
unfolding line_of with_next accepted
loose_behind_root_id = refl

loose_without_fuel : reading_of (codes "--loose=1" ∷ codes "/p" ∷ []) ≡ usage 1 BadSchedule
unfolding line_of with_next accepted
loose_without_fuel = refl

calm_before_loose : reading_of (codes "--loose=0*1" ∷ codes "--schedule=0*1" ∷ codes "--calm" ∷ []) ≡ usage 3 CalmAlone
unfolding line_of with_next accepted
calm_before_loose = refl

-- ---- words are accepted

abbrev no_words : Options
no_words = record { root = codes "/"; binds = []; cwd = codes "/"; ids = None; env = []; turns = 1000000; schedule = []; loose = []; native = false; calm = false; case = None; command = [] }

nothing_asked : reading_of [] ≡ Ok no_words
unfolding line_of with_next accepted
nothing_asked = refl

last_id : reading_of (codes "-i" ∷ codes "4294967294:0" ∷ []) ≡ Ok (record no_words { ids = Some (4294967294, 0) })
unfolding line_of with_next accepted
last_id = refl

root_id_repeated : reading_of (codes "-0" ∷ codes "--root-id" ∷ []) ≡ Ok (record no_words { ids = Some (0, 0) })
unfolding line_of with_next accepted
root_id_repeated = refl

variable_in_place : reading_of (codes "--env=A=1" ∷ codes "--env=B=2" ∷ codes "--env=A=3" ∷ []) ≡ Ok (record no_words { env = codes "A=3" ∷ codes "B=2" ∷ [] })
unfolding line_of with_next accepted
variable_in_place = refl

two_bindings : reading_of (codes "-b" ∷ codes "a:b:c" ∷ codes "--mount=x!" ∷ codes "sh" ∷ codes "-c" ∷ []) ≡ Ok (record no_words { binds = record { index = 1; host = codes "a"; guest = codes "b:c"; keep = false } ∷ record { index = 2; host = codes "x"; guest = codes "x"; keep = true } ∷ []; command = codes "sh" ∷ codes "-c" ∷ [] })
unfolding line_of with_next accepted
two_bindings = refl

two_slots : reading_of (codes "--schedule=255*100000,0*01" ∷ codes "--turns=10000000" ∷ codes "--case=65535" ∷ []) ≡ Ok (record no_words { schedule = record { pick = 255; fuel = 100000 } ∷ record { pick = 0; fuel = 1 } ∷ []; turns = 10000000; case = Some 65535 })
unfolding line_of with_next accepted
two_slots = refl

two_steps : reading_of (codes "--loose=1*1000,255*1" ∷ codes "--turns=4" ∷ codes "/p" ∷ []) ≡ Ok (record no_words { loose = record { pick = 1; fuel = 1000 } ∷ record { pick = 255; fuel = 1 } ∷ []; turns = 4; command = codes "/p" ∷ [] })
unfolding line_of with_next accepted
two_steps = refl
