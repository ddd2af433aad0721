-- What of identities is done at the stops, where there are any, as relations between what was before and what is after.
use Rattle.std.specs.Prelude.{◌≡◌, ℕ, ℤ, Option, Some, None}
use Rattle.std.specs.Option.{option_map}
use Rattle.pt_results.specs.kr_calls.declared.request.Request.{Request}
use Rattle.pt_faker.specs.Stopping.{register_at, Stopped}
use Rattle.pt_faker.specs.pt_ident.Identity.{Identity, after_exec, effect}
use Rattle.pt_faker.specs.pt_ident.IdentityTable.{IdentityTable, identity_at, starting_table, with_identity}
use Rattle.pt_faker.specs.Carrying.{AnswersAny, on_its_memory}
use Rattle.pt_faker.specs.Faking.{show_identity, stack_register}

abbrev pub starting_identities : Option (ℕ × ℕ) → Option IdentityTable
starting_identities ids = option_map (λ i. starting_table i.0 i.1) ids

-- a call on users and groups was answered, and the identity that it leaves is kept; of any other call nothing was done
pub record AnswersBy (table : IdentityTable) (r : Request) (told : Option ℤ) (after : IdentityTable) (old new : Stopped) : Type 0 where
  pub identity : Identity
  pub keeps : after ≡ with_identity old.pid identity table
  pub answers : AnswersAny (identity_at table old.pid) (effect (identity_at table old.pid) r) told identity old new

abbrev pub AnswersFaked : Option IdentityTable → Request → Option ℤ → Option IdentityTable → (old new : Stopped) → Type 0
AnswersFaked (Some table) r told (Some after) old new = AnswersBy table r told after old new
AnswersFaked (Some table) r told None old new = ⊥
AnswersFaked None r told after old new = (told ≡ None) × (after ≡ None) × (new ≡ old)

-- the effective numbers were saved, and shown to the new program
pub record BeginsBy (table : IdentityTable) (old : Stopped) (after : IdentityTable) (new : Stopped) : Type 0 where
  pub keeps : after ≡ with_identity old.pid (after_exec (identity_at table old.pid)) table
  pub shows : new ≡ on_its_memory (show_identity (after_exec (identity_at table old.pid)) (register_at old stack_register)) old

abbrev pub BeginsAs : Option IdentityTable → Stopped → Option IdentityTable → Stopped → Type 0
BeginsAs (Some table) old (Some after) new = BeginsBy table old after new
BeginsAs (Some table) old None new = ⊥
BeginsAs None old after new = (after ≡ None) × (new ≡ old)
