-- What calls on users and groups come to, and where they have what they read and write.
use Rattle.std.proofs.Common.{◌≡◌, ◌∙◌, ◌≤◌, ◌==◌, ℕ, Bool, true, false, List, [], ◌∷◌, length, ℤ, nat_lt, arith, Option, Some, None, Result, Ok, Err, if◌then◌else◌, refl, sym, ap, subst}
use Rattle.std.specs.Prelude.{slice_index}
use Rattle.std.specs.Option.{option_map}
use Rattle.std.proofs.lemmas.Bool.Decides.{nat_tests}
use Rattle.elf_load.specs.pr_base.declared.errno.Errno.{Errno}
use Rattle.elf_load.specs.pr_base.declared.errno.Errno.TheVariants.{EINVAL, EPERM}
use Rattle.pt_ident.specs.kr_calls.declared.request.Request.{Request}
use Rattle.pt_ident.specs.kr_calls.declared.request.Request.TheVariants as call
use Rattle.pt_ident.specs.declared.calls.IdAnswer.TheVariants.{Value, Three, Groups, SetGroups}
use Rattle.pt_ident.specs.Answering.{answer_of, identity_behind}
use Rattle.pt_ident.specs.Identity.{Answers, Effect, Identity, Numbers, TakesGroups, TellsGroups, TellsNumbers, effect, get_groups, is_privileged, keeps_group, keeps_user, most_groups, natural, numbers_of, on_memory, refuses, take_groups, tells, three_of}
use Rattle.kr_stops.specs.Stopped.{IsThere, Stopped}
use Rattle.pt_faker.specs.Asking.{group_list, number_places}
use Rattle.pt_faker.specs.Carrying.{AnswersAny, CarriesOut}
use Rattle.pt_faker.specs.declared.asking.GroupList.{GroupList}

-- ---- a request has the addresses of what it comes to

abbrev listed : (count at : ℕ) → GroupList
listed count at = record { count = count; at = at }

abbrev IsOf : Request → Effect → Type 0
IsOf r (Answers n after) = Unit {0}
IsOf r (TellsNumbers n real effective saved) = number_places r ≡ Some (real ∷ effective ∷ saved ∷ [])
IsOf r (TellsGroups at) = (count : ℕ) × (group_list r ≡ Some (listed count at))
IsOf r (TakesGroups count at) = (group_list r ≡ Some (listed count at)) × (count ≤ most_groups)

abbrev IsOfAny : Request → Option Effect → Type 0
IsOfAny r None = Unit {0}
IsOfAny r (Some e) = IsOf r e

user-of : (r : Request) (i : Identity) (set : Result Numbers Errno) → IsOf r (keeps_user i set)
user-of r i (Ok user) = tt
user-of r i (Err e) = tt

group-of : (r : Request) (i : Identity) (set : Result Numbers Errno) → IsOf r (keeps_group i set)
group-of r i (Ok group) = tt
group-of r i (Err e) = tt

got-of : (r : Request) (i : Identity) (o : Option ℕ) (list : ℕ) → group_list r ≡ option_map (λ count. listed count list) o → IsOf r (get_groups i o list)
got-of r i None list e = tt
got-of r i (Some size) list e = by (size == 0) (nat_lt size (length i.groups))
  where
    by : (b d : Bool) → IsOf r (if b then tells i (length i.groups) else if d then refuses i EINVAL else TellsGroups list)
    by true d = tt
    by false true = tt
    by false false = (size, e)

within : (most size : ℕ) → nat_lt most size ≡ false → size ≤ most
within most size e = grind (arith, nat_tests)

taken-of : (r : Request) (i : Identity) (o : Option ℕ) (list : ℕ) → group_list r ≡ option_map (λ count. listed count list) o → IsOf r (take_groups i o list)
taken-of r i None list e = tt
taken-of r i (Some size) list e = by (nat_lt most_groups size) refl
  where
    by : (b : Bool) → nat_lt most_groups size ≡ b → IsOf r (if b then refuses i EINVAL else TakesGroups size list)
    by true is = tt
    by false is = (e, within most_groups size is)

of-each : (i : Identity) (r : Request) → IsOfAny r (effect i r)
of-each i (call.Getresuid ruid euid suid) = refl
of-each i (call.Getresgid rgid egid sgid) = refl
of-each i (call.Setuid uid) = user-of (call.Setuid uid) i _
of-each i (call.Setgid gid) = group-of (call.Setgid gid) i _
of-each i (call.Setreuid ruid euid) = user-of (call.Setreuid ruid euid) i _
of-each i (call.Setregid rgid egid) = group-of (call.Setregid rgid egid) i _
of-each i (call.Setresuid ruid euid suid) = user-of (call.Setresuid ruid euid suid) i _
of-each i (call.Setresgid rgid egid sgid) = group-of (call.Setresgid rgid egid sgid) i _
of-each i (call.Getgroups size list) = got-of (call.Getgroups size list) i (natural size) list refl
of-each i (call.Setgroups size list) = set (is_privileged i)
  where
    set : (b : Bool) → IsOf (call.Setgroups size list) (if b then take_groups i (natural size) list else refuses i EPERM)
    set true = taken-of (call.Setgroups size list) i (natural size) list refl
    set false = tt
of-each i _ = tt

-- ---- what was answered tells what it came to

pub none-told : (o : Option Effect) → None ≡ option_map answer_of o → o ≡ None
none-told None e = refl
none-told (Some effect) e = absurd cc

pub value-told : (i : Identity) (n : ℤ) (o : Option Effect) → Some (Value n) ≡ option_map answer_of o → o ≡ Some (Answers n (identity_behind i o))
value-told i n None e = absurd cc
value-told i n (Some (Answers m after)) e = let same : m ≡ n = cc in ap (λ k. Some (Answers k after)) same
value-told i n (Some (TellsNumbers m real effective saved)) e = absurd cc
value-told i n (Some (TellsGroups at)) e = absurd cc
value-told i n (Some (TakesGroups count at)) e = absurd cc

module _ (r : Request) where
  three-by : (numbers places : List ℕ) (o : Option Effect) → IsOfAny r o → Some (Three numbers) ≡ option_map answer_of o → Some places ≡ number_places r
      → o ≡ Some (TellsNumbers (numbers_of numbers) (slice_index places 0) (slice_index places 1) (slice_index places 2))
  three-by numbers places None of e placed = absurd cc
  three-by numbers places (Some (Answers m after)) of e placed = absurd cc
  three-by numbers places (Some (TellsNumbers n real effective saved)) of e placed =
      let same : three_of n ≡ numbers = cc in
      let there : real ∷ effective ∷ saved ∷ [] ≡ places = cc in
      ap (λ (k : List ℕ). Some (TellsNumbers (numbers_of k) real effective saved)) same
      ∙ ap (λ (p : List ℕ). Some (TellsNumbers (numbers_of numbers) (slice_index p 0) (slice_index p 1) (slice_index p 2))) there
  three-by numbers places (Some (TellsGroups at)) of e placed = absurd cc
  three-by numbers places (Some (TakesGroups count at)) of e placed = absurd cc

  no-places : (numbers : List ℕ) (o : Option Effect) → IsOfAny r o → Some (Three numbers) ≡ option_map answer_of o → number_places r ≡ None → ⊥
  no-places numbers None of e placed = cc
  no-places numbers (Some (Answers m after)) of e placed = cc
  no-places numbers (Some (TellsNumbers n real effective saved)) of e placed = cc
  no-places numbers (Some (TellsGroups at)) of e placed = cc
  no-places numbers (Some (TakesGroups count at)) of e placed = cc

  groups-by : (list : GroupList) (o : Option Effect) → IsOfAny r o → Some Groups ≡ option_map answer_of o → Some list ≡ group_list r → o ≡ Some (TellsGroups list.at)
  groups-by list None of e placed = absurd cc
  groups-by list (Some (Answers m after)) of e placed = absurd cc
  groups-by list (Some (TellsNumbers n real effective saved)) of e placed = absurd cc
  groups-by list (Some (TellsGroups at)) of e placed =
      let known = placed ∙ of.1 in
      let same : list ≡ listed of.0 at = cc in
      sym (ap (λ (l : GroupList). Some (TellsGroups l.at)) same)
  groups-by list (Some (TakesGroups count at)) of e placed = absurd cc

  no-groups : (o : Option Effect) → IsOfAny r o → Some Groups ≡ option_map answer_of o → group_list r ≡ None → ⊥
  no-groups None of e placed = cc
  no-groups (Some (Answers m after)) of e placed = cc
  no-groups (Some (TellsNumbers n real effective saved)) of e placed = cc
  no-groups (Some (TellsGroups at)) of e placed = let known = sym placed ∙ of.1 in cc
  no-groups (Some (TakesGroups count at)) of e placed = cc

  taken-by : (list : GroupList) (o : Option Effect) → IsOfAny r o → Some SetGroups ≡ option_map answer_of o → Some list ≡ group_list r → (o ≡ Some (TakesGroups list.count list.at)) × (list.count ≤ most_groups)
  taken-by list None of e placed = absurd cc
  taken-by list (Some (Answers m after)) of e placed = absurd cc
  taken-by list (Some (TellsNumbers n real effective saved)) of e placed = absurd cc
  taken-by list (Some (TellsGroups at)) of e placed = absurd cc
  taken-by list (Some (TakesGroups count at)) of e placed =
      let known = placed ∙ of.0 in
      let same : list ≡ listed count at = cc in
      let few = of.1 in
      let counted : list.count ≡ count = ap (λ (l : GroupList). l.count) same in
      (sym (ap (λ (l : GroupList). Some (TakesGroups l.count l.at)) same), omega (arith, few, counted))

  no-list : (o : Option Effect) → IsOfAny r o → Some SetGroups ≡ option_map answer_of o → group_list r ≡ None → ⊥
  no-list None of e placed = cc
  no-list (Some (Answers m after)) of e placed = cc
  no-list (Some (TellsNumbers n real effective saved)) of e placed = cc
  no-list (Some (TellsGroups at)) of e placed = cc
  no-list (Some (TakesGroups count at)) of e placed = let known = sym placed ∙ of.0 in cc

module _ (i : Identity) (r : Request) where
  pub three-told : (numbers places : List ℕ) → Some (Three numbers) ≡ option_map answer_of (effect i r) → Some places ≡ number_places r
      → effect i r ≡ Some (TellsNumbers (numbers_of numbers) (slice_index places 0) (slice_index places 1) (slice_index places 2))
  three-told numbers places e placed = three-by r numbers places (effect i r) (of-each i r) e placed

  pub three-placed : (numbers : List ℕ) → Some (Three numbers) ≡ option_map answer_of (effect i r) → number_places r ≡ None → ⊥
  three-placed numbers e placed = no-places r numbers (effect i r) (of-each i r) e placed

  pub groups-told : (list : GroupList) → Some Groups ≡ option_map answer_of (effect i r) → Some list ≡ group_list r → effect i r ≡ Some (TellsGroups list.at)
  groups-told list e placed = groups-by r list (effect i r) (of-each i r) e placed

  pub groups-placed : Some Groups ≡ option_map answer_of (effect i r) → group_list r ≡ None → ⊥
  groups-placed e placed = no-groups r (effect i r) (of-each i r) e placed

  pub groups-taken : (list : GroupList) → Some SetGroups ≡ option_map answer_of (effect i r) → Some list ≡ group_list r → (effect i r ≡ Some (TakesGroups list.count list.at)) × (list.count ≤ most_groups)
  groups-taken list e placed = taken-by r list (effect i r) (of-each i r) e placed

  pub list-placed : Some SetGroups ≡ option_map answer_of (effect i r) → group_list r ≡ None → ⊥
  list-placed e placed = no-list r (effect i r) (of-each i r) e placed

-- ---- on the memory of the process

-- what is known before the memory is looked at
pub value-answers : (t : Stopped) → IsThere t → (i j : Identity) (r : Request) (n told : ℤ) → Some (Value n) ≡ option_map answer_of (effect i r) → j ≡ identity_behind i (effect i r) → told ≡ n → AnswersAny i (effect i r) (Some told) j t t
value-answers t there i j r n told e kept same =
    subst (λ o. AnswersAny i o (Some told) j t t) (sym (value-told i n (effect i r) e))
    (record { tells = λ k. record { answer = sym same k; identity = sym kept k }; leaves = sym there.one })

-- what is read or written there
pub memory-answers : (t u : Stopped) (i j : Identity) (o : Option Effect) (e : Effect) (n told : ℤ) → o ≡ Some e → j ≡ identity_behind i o → told ≡ n → identity_behind i (Some e) ≡ i
    → CarriesOut (on_memory i e) (record { answer = n; identity = i }) t u → AnswersAny i o (Some told) j t u
memory-answers t u i j o e n told is kept same stays carries =
    let own : j ≡ i = kept ∙ ap (identity_behind i) is ∙ stays in
    subst (λ p. AnswersAny i p (Some told) j t u) (sym is)
    (record { tells = carries.tells ∙ (λ k. record { answer = sym same k; identity = sym own k }); leaves = carries.leaves })
