-- Where in its memory a call on users and groups has what it reads or writes.
use Rattle.std.specs.Prelude.{ℕ, List, [], ◌∷◌, ℤ, Option, None, Some}
use Rattle.std.specs.Option.{option_map}
use Rattle.pt_ident.specs.kr_calls.declared.request.Request.{Request}
use Rattle.pt_ident.specs.kr_calls.declared.request.Request.TheVariants as call
use Rattle.pt_ident.specs.Identity.{natural}
use Rattle.pt_faker.specs.declared.asking.GroupList.{GroupList}

-- the addresses to which a real, an effective and a saved number are written
abbrev pub number_places : Request → Option (List ℕ)
number_places (call.Getresuid ruid euid suid) = Some (ruid ∷ euid ∷ suid ∷ [])
number_places (call.Getresgid rgid egid sgid) = Some (rgid ∷ egid ∷ sgid ∷ [])
number_places _ = None

-- a list of groups, whose size isn't negative
abbrev pub sized_list : ℤ → ℕ → Option GroupList
sized_list size list = option_map (λ count. record { count = count; at = list }) (natural size)

abbrev pub group_list : Request → Option GroupList
group_list (call.Getgroups size list) = sized_list size list
group_list (call.Setgroups size list) = sized_list size list
group_list _ = None
