-- Where the numbers come from that a call sets, and what stays where it is refused.
use Rattle.std.proofs.Common.{◌≡◌, ◌∙◌, ◌⊎◌, ◌==◌, ◌&&◌, ◌||◌, ◌*◌, ℕ, Bool, true, false, [], ◌∷◌, length, pos, negsuc, Option, Some, None, Result, Ok, Err, if◌then◌else◌, nat_eq, nat_lt, refl, sym, ap, subst, inl, inr, arith, w32}
use Rattle.std.specs.Int.{to_le_bytes}
use Rattle.kr_inode.specs.pr_base.declared.errno.Errno.{Errno}
use Rattle.kr_inode.specs.pr_base.declared.errno.Errno.TheVariants.{EPERM, EINVAL, EFAULT}
use Rattle.kr_calls.specs.rv_mem.Actions.{ReadBytes, WriteBytes, carried_out, allows_uses}
use Rattle.kr_calls.specs.rv_mem.Memory.{Memory}
use Rattle.kr_calls.specs.rv_mem.declared.rights.Use.TheVariants.{Read, Write}
use Rattle.kr_calls.specs.declared.request.Request.{Request}
use Rattle.kr_calls.specs.declared.request.Request.TheVariants as call
use Rattle.pt_ident.specs.Identity.{Answered, Effect, TellsNumbers, TellsGroups, TakesGroups, Identity, Numbers, answered, effect, get_groups, is_allowed, is_among, is_privileged, is_saved, keeps_group, keeps_user, most_groups, natural, no_number, number_bytes, numbers_in, or_old, refusal, refuses, set_one, set_three, set_two, take_groups, tells, three_of, with_groups, with_three, with_two}
use Rattle.pt_ident.specs.Laws.{AreOf, HasNothingNew, IsOneOf, NobodyBecomesPrivileged, RefusedChangeNothing, UnprivilegedMakeNothing, behind, outcome, outcome_of}

-- ---- tests on lists of numbers

same : (a b : ℕ) → nat_eq a b ≡ true → b ≡ a
same a b e = grind arith

among_two : (a b id : ℕ) (first second : Bool) → nat_eq a id ≡ first → nat_eq b id ≡ second → (first || (second || false)) ≡ true → (id ≡ a) ⊎ (id ≡ b)
among_two a b id true second p q e = inl (same a id p)
among_two a b id false true p q e = inr (same b id q)
among_two a b id false false p q e = absurd (cc)

among_three : (a b c id : ℕ) (first second third : Bool) → nat_eq a id ≡ first → nat_eq b id ≡ second → nat_eq c id ≡ third → (first || (second || (third || false))) ≡ true → (id ≡ a) ⊎ ((id ≡ b) ⊎ (id ≡ c))
among_three a b c id true second third p q r e = inl (same a id p)
among_three a b c id false true third p q r e = inr (inl (same b id q))
among_three a b c id false false true p q r e = inr (inr (same c id r))
among_three a b c id false false false p q r e = absurd (cc)

is_one : (old : Numbers) (id : ℕ) → is_among (three_of old) id ≡ true → IsOneOf old id
is_one old id e = among_three old.real old.effective old.saved id _ _ _ refl refl refl e

real_or_saved : (old : Numbers) (id : ℕ) → is_among (old.real ∷ old.saved ∷ []) id ≡ true → IsOneOf old id
real_or_saved old id e = elim (among_two old.real old.saved id _ _ refl refl e) [ inl is ↦ inl is | inr is ↦ inr (inr is) ]

real_or_effective : (old : Numbers) (id : ℕ) → is_among (old.real ∷ old.effective ∷ []) id ≡ true → IsOneOf old id
real_or_effective old id e = elim (among_two old.real old.effective id _ _ refl refl e) [ inl is ↦ inl is | inr is ↦ inr (inl is) ]

-- ---- what is set

-- what is set comes from the old numbers, unless the call is refused
abbrev AllOf : Numbers → Result Numbers Errno → Type 0
AllOf old (Ok new) = AreOf old new
AllOf old (Err e) = Unit {0}

one : (none own : Bool) (id : ℕ) (old : Numbers) → (own ≡ true → IsOneOf old id) → AllOf old (if none then Err EINVAL else if own then Ok (record { real = old.real; effective = id; saved = old.saved }) else Err EPERM)
one true own id old h = tt
one false true id old h = record { real = inl refl; effective = h refl; saved = inr (inr refl) }
one false false id old h = tt

set_one_is_of : (id : ℕ) (old : Numbers) → AllOf old (set_one false id old)
set_one_is_of id old = one (id == no_number) (is_among (old.real ∷ old.saved ∷ []) id) id old (real_or_saved old id)

-- a number that is allowed is an old one, and so is the one that is kept
chosen : (none own : Bool) (id kept : ℕ) (old : Numbers) → IsOneOf old kept → (own ≡ true → IsOneOf old id) → (none || own) ≡ true → IsOneOf old (if none then kept else id)
chosen true own id kept old is h e = is
chosen false true id kept old is h e = h refl
chosen false false id kept old is h e = absurd (cc)

picked : (b : Bool) (x y : ℕ) (old : Numbers) → IsOneOf old x → IsOneOf old y → IsOneOf old (if b then x else y)
picked true x y old p q = p
picked false x y old p q = q

two : (a b : Bool) (real effective : ℕ) (old : Numbers) → (a ≡ true → IsOneOf old (or_old real old.real)) → (b ≡ true → IsOneOf old (or_old effective old.effective)) → AllOf old (if a && b then Ok (with_two real effective old) else Err EPERM)
two true true real effective old p q =
    record { real = p refl; effective = q refl; saved = picked (is_saved real effective old) (or_old effective old.effective) old.saved old (q refl) (inr (inr refl)) }
two true false real effective old p q = tt
two false b real effective old p q = tt

set_two_is_of : (real effective : ℕ) (old : Numbers) → AllOf old (set_two false real effective old)
set_two_is_of real effective old =
    two (is_allowed (old.real ∷ old.effective ∷ []) real) (is_allowed (three_of old) effective) real effective old
    (chosen (real == no_number) (is_among (old.real ∷ old.effective ∷ []) real) real old.real old (inl refl) (real_or_effective old real))
    (chosen (effective == no_number) (is_among (three_of old) effective) effective old.effective old (inr (inl refl)) (is_one old effective))

three : (a b c : Bool) (real effective saved : ℕ) (old : Numbers) → (a ≡ true → IsOneOf old (or_old real old.real)) → (b ≡ true → IsOneOf old (or_old effective old.effective)) → (c ≡ true → IsOneOf old (or_old saved old.saved)) → AllOf old (if a && b && c then Ok (with_three real effective saved old) else Err EPERM)
three true true true real effective saved old p q r = record { real = p refl; effective = q refl; saved = r refl }
three true true false real effective saved old p q r = tt
three true false c real effective saved old p q r = tt
three false b c real effective saved old p q r = tt

set_three_is_of : (real effective saved : ℕ) (old : Numbers) → AllOf old (set_three false real effective saved old)
set_three_is_of real effective saved old =
    let allowed = λ (id kept : ℕ) (is : IsOneOf old kept). chosen (id == no_number) (is_among (three_of old) id) id kept old is (is_one old id) in
    three (is_allowed (three_of old) real) (is_allowed (three_of old) effective) (is_allowed (three_of old) saved) real effective saved old
    (allowed real old.real (inl refl)) (allowed effective old.effective (inr (inl refl))) (allowed saved old.saved (inr (inr refl)))

-- ---- of whole calls

all_stay : (n : Numbers) → AreOf n n
all_stay n = record { real = inl refl; effective = inr (inl refl); saved = inr (inr refl) }

nothing_new : (i : Identity) → HasNothingNew i i
nothing_new i = record { users = all_stay i.user; of_group = all_stay i.group; same_groups = refl }

same_new : (i j : Identity) → j ≡ i → HasNothingNew i j
same_new i j e = subst (λ k. HasNothingNew i k) (sym e) (nothing_new i)

-- what is behind an effect
abbrev after : Memory → Identity → Effect → Identity
after m i e = behind i (outcome_of m i (Some e))

user_kept : (m : Memory) (i : Identity) (set : Result Numbers Errno) → AllOf i.user set → HasNothingNew i (after m i (keeps_user i set))
user_kept m i (Ok user) h = record { users = h; of_group = all_stay i.group; same_groups = refl }
user_kept m i (Err e) h = nothing_new i

group_kept : (m : Memory) (i : Identity) (set : Result Numbers Errno) → AllOf i.group set → HasNothingNew i (after m i (keeps_group i set))
group_kept m i (Ok group) h = record { users = all_stay i.user; of_group = h; same_groups = refl }
group_kept m i (Err e) h = nothing_new i

-- whatever is told, the identity stays
numbers_told : (m : Memory) (i : Identity) (n : Numbers) (real effective saved : ℕ) → after m i (TellsNumbers n real effective saved) ≡ i
numbers_told m i n real effective saved = told (may real && may effective && may saved)
  where
    may : ℕ → Bool
    may at = allows_uses m.pages at 4 (Write ∷ [])

    told : (b : Bool) → (carried_out (if b then WriteBytes real (to_le_bytes w32 n.real) (WriteBytes effective (to_le_bytes w32 n.effective) (WriteBytes saved (to_le_bytes w32 n.saved) (answered (pos 0) i))) else answered (refusal EFAULT) i) m).reply.identity ≡ i
    told true = refl
    told false = refl

groups_told : (m : Memory) (i : Identity) (at : ℕ) → after m i (TellsGroups at) ≡ i
groups_told m i at = told (allows_uses m.pages at (length (number_bytes i.groups)) (Write ∷ []))
  where
    told : (b : Bool) → (carried_out (if b then WriteBytes at (number_bytes i.groups) (answered (pos (length i.groups)) i) else answered (refusal EFAULT) i) m).reply.identity ≡ i
    told true = refl
    told false = refl

groups_got : (m : Memory) (i : Identity) (size : Option ℕ) (list : ℕ) → after m i (get_groups i size list) ≡ i
groups_got m i None list = refl
groups_got m i (Some size) list = got (size == 0) (nat_lt size (length i.groups))
  where
    got : (b d : Bool) → after m i (if b then tells i (length i.groups) else if d then refuses i EINVAL else TellsGroups list) ≡ i
    got true d = refl
    got false true = refl
    got false false = groups_told m i list

module _ (m : Memory) (i : Identity) (h : is_privileged i ≡ false) where
  nothing_made : (r : Request) → HasNothingNew i (behind i (outcome_of m i (effect i r)))
  nothing_made (call.Getresuid ruid euid suid) = same_new i _ (numbers_told m i i.user ruid euid suid)
  nothing_made (call.Getresgid rgid egid sgid) = same_new i _ (numbers_told m i i.group rgid egid sgid)
  nothing_made (call.Setuid uid) = user_kept m i _ (subst (λ p. AllOf i.user (set_one p uid i.user)) (sym h) (set_one_is_of uid i.user))
  nothing_made (call.Setgid gid) = group_kept m i _ (subst (λ p. AllOf i.group (set_one p gid i.group)) (sym h) (set_one_is_of gid i.group))
  nothing_made (call.Setreuid ruid euid) = user_kept m i _ (subst (λ p. AllOf i.user (set_two p ruid euid i.user)) (sym h) (set_two_is_of ruid euid i.user))
  nothing_made (call.Setregid rgid egid) = group_kept m i _ (subst (λ p. AllOf i.group (set_two p rgid egid i.group)) (sym h) (set_two_is_of rgid egid i.group))
  nothing_made (call.Setresuid ruid euid suid) = user_kept m i _ (subst (λ p. AllOf i.user (set_three p ruid euid suid i.user)) (sym h) (set_three_is_of ruid euid suid i.user))
  nothing_made (call.Setresgid rgid egid sgid) = group_kept m i _ (subst (λ p. AllOf i.group (set_three p rgid egid sgid i.group)) (sym h) (set_three_is_of rgid egid sgid i.group))
  nothing_made (call.Getgroups size list) = same_new i _ (groups_got m i (natural size) list)
  nothing_made (call.Setgroups size list) =
      subst (λ p. HasNothingNew i (after m i (if p then take_groups i (natural size) list else refuses i EPERM))) (sym h) (nothing_new i)
  nothing_made _ = nothing_new i

pub unprivileged_make_nothing : UnprivilegedMakeNothing
unprivileged_make_nothing i asked h = nothing_made asked.1 i h asked.0

-- ---- of calls one after another

one_of_of : (a b : Numbers) → AreOf a b → (id : ℕ) → IsOneOf b id → IsOneOf a id
one_of_of a b of id o =
    elim o [
      | inl e ↦ subst (λ x. IsOneOf a x) (sym e) of.real
      | inr other ↦ elim other [ inl e ↦ subst (λ x. IsOneOf a x) (sym e) of.effective | inr e ↦ subst (λ x. IsOneOf a x) (sym e) of.saved ]
    ]

all_of_of : (a b c : Numbers) → AreOf a b → AreOf b c → AreOf a c
all_of_of a b c first next =
    record { real = one_of_of a b first c.real next.real; effective = one_of_of a b first c.effective next.effective; saved = one_of_of a b first c.saved next.saved }

still_nothing_new : (a b c : Identity) → HasNothingNew a b → HasNothingNew b c → HasNothingNew a c
still_nothing_new a b c first next =
    record { users = all_of_of a.user b.user c.user first.users next.users; of_group = all_of_of a.group b.group c.group first.of_group next.of_group; same_groups = next.same_groups ∙ first.same_groups }

not_privileged : (i : Identity) (b : Bool) → is_privileged i ≡ b → ¬ IsOneOf i.user 0 → is_privileged i ≡ false
not_privileged i true e h = absurd (h (inr (inl (same i.user.effective 0 e))))
not_privileged i false e h = e

pub nobody_becomes_privileged : NobodyBecomesPrivileged
nobody_becomes_privileged i [] h = nothing_new i
nobody_becomes_privileged i (asked ∷ calls) h =
    let next = behind i (outcome i asked) in
    let first : HasNothingNew i next = nothing_made asked.1 i (not_privileged i _ refl h) asked.0 in
    still_nothing_new i next _ first (nobody_becomes_privileged next calls (λ o. h (one_of_of i.user next.user first.users 0 o)))

-- ---- what stays where a call is refused

abbrev Stays : Identity → Option Answered → Type 0
Stays i None = Unit {0}
Stays i (Some a) = (n : ℕ) → a.answer ≡ negsuc n → a.identity ≡ i

not_negative : (k n : ℕ) → pos k ≡ negsuc n → ⊥
not_negative k n e = cc

user_stays : (m : Memory) (i : Identity) (set : Result Numbers Errno) → Stays i (outcome_of m i (Some (keeps_user i set)))
user_stays m i (Ok user) = λ n e. absurd (not_negative 0 n e)
user_stays m i (Err errno) = λ n e. refl

group_stays : (m : Memory) (i : Identity) (set : Result Numbers Errno) → Stays i (outcome_of m i (Some (keeps_group i set)))
group_stays m i (Ok group) = λ n e. absurd (not_negative 0 n e)
group_stays m i (Err errno) = λ n e. refl

groups_read : (m : Memory) (i : Identity) (size list : ℕ) (b : Bool) → Stays i (Some (carried_out (if b then ReadBytes list (4 * size) (λ bytes. answered (pos 0) (with_groups i (numbers_in bytes))) else answered (refusal EFAULT) i) m).reply)
groups_read m i size list true = λ n e. absurd (not_negative 0 n e)
groups_read m i size list false = λ n e. refl

groups_taken : (m : Memory) (i : Identity) (size list : ℕ) (b : Bool) → Stays i (outcome_of m i (Some (if b then refuses i EINVAL else TakesGroups size list)))
groups_taken m i size list true = λ n e. refl
groups_taken m i size list false = groups_read m i size list (allows_uses m.pages list (4 * size) (Read ∷ []))

groups_stay : (m : Memory) (i : Identity) (size : Option ℕ) (list : ℕ) → Stays i (outcome_of m i (Some (take_groups i size list)))
groups_stay m i None list = λ n e. refl
groups_stay m i (Some size) list = groups_taken m i size list (nat_lt most_groups size)

module _ (m : Memory) (i : Identity) where
  refused_stay : (r : Request) → Stays i (outcome_of m i (effect i r))
  refused_stay call.Getuid = λ n e. refl
  refused_stay call.Geteuid = λ n e. refl
  refused_stay call.Getgid = λ n e. refl
  refused_stay call.Getegid = λ n e. refl
  refused_stay (call.Getresuid ruid euid suid) = λ n e. numbers_told m i i.user ruid euid suid
  refused_stay (call.Getresgid rgid egid sgid) = λ n e. numbers_told m i i.group rgid egid sgid
  refused_stay (call.Setuid uid) = user_stays m i _
  refused_stay (call.Setgid gid) = group_stays m i _
  refused_stay (call.Setreuid ruid euid) = user_stays m i _
  refused_stay (call.Setregid rgid egid) = group_stays m i _
  refused_stay (call.Setresuid ruid euid suid) = user_stays m i _
  refused_stay (call.Setresgid rgid egid sgid) = group_stays m i _
  refused_stay (call.Getgroups size list) = λ n e. groups_got m i (natural size) list
  refused_stay (call.Setgroups size list) = set (is_privileged i)
    where
      set : (p : Bool) → Stays i (outcome_of m i (Some (if p then take_groups i (natural size) list else refuses i EPERM)))
      set true = groups_stay m i (natural size) list
      set false = λ n e. refl
  refused_stay _ = tt

stays_at : (i j : Identity) (n : ℕ) (o : Option Answered) → Stays i o → o ≡ Some (record { answer = negsuc n; identity = j }) → j ≡ i
stays_at i j n None h e = absurd (cc)
stays_at i j n (Some a) h e =
    let is : a ≡ record { answer = negsuc n; identity = j } = cc in
    sym (ap (λ b. b.identity) is) ∙ h n (ap (λ b. b.answer) is)

pub refused_change_nothing : RefusedChangeNothing
refused_change_nothing i asked n j e = stays_at i j n (outcome i asked) (refused_stay asked.1 i asked.0) e
