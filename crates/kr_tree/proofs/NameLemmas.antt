-- The host names of directories.
use Rattle.std.proofs.Common.{◌≡◌, ◌≢◌, inl, inr, subst, ℕ, zero, suc, ◌+◌, ◌-◌, ◌<◌, true, false, List, [], ◌∷◌, length, drop, ◌++◌, reverse, append-nil, append_assoc, refl, sym, ap, ◌∙◌, arith, cond, Option, Some, None, nat_eq}
use Rattle.std.specs.Option.{option_map, option_map_or, option_and_then}
use Rattle.std.proofs.lemmas.Bool.{cases_eq, eqb-true, eq-eqb, ne_eqb}
use Rattle.std.proofs.lemmas.Slice.Eq.{bytes_eq-Decides}
use Rattle.std.proofs.lemmas.List.{length-drop, reverse-append}
use Rattle.std.proofs.lemmas.List.Elements.{All-cons, All-nil}
use Rattle.kr_tree.proofs.CountingLemmas.{pigeonhole}
use Rattle.kr_inode.specs.pr_base.Paths.{IsName, AreNames, slash, below_root}
use Rattle.kr_inode.specs.declared.standing.Standing.{Standing}
use Rattle.kr_tree.specs.Tree.{Tree, Inode, Entry, root, inode, entry, entry_named, entry_at, entries, entries_of, standing, standing_of, above, body_is, is_directory}
use Rattle.kr_tree.specs.Names.{is_name, named, step_up, host_name_within, host_name, NamedHaveHostNames, StandingHaveHostNames, HostNamesLead}
use Rattle.kr_inode.specs.Entries.{IsListed, RisesWithin}
use Rattle.kr_tree.specs.Lawful.{IsSound, IsIn, RisesToEnd, AtRoot, AtRemoved, Above}
use Rattle.kr_inode.proofs.BodyLemmas.{entries-is_listed, listed-is_directory, is_directory-stands}
use Rattle.kr_inode.proofs.EntryLemmas.{named_in, in_named, in_above, all-in, serial_alone}
use Rattle.kr_inode.proofs.NameLemmas.{name_decides}
use Rattle.kr_tree.proofs.CountLemmas.{entries_there, root_directory}
pub use Rattle.kr_inode.proofs.pr_base.TextLemmas.{some_is, map_some}

-- ---- what is found

pub then_some : {A B : Type 0} (f : A → Option B) (o : Option A) (y : B) → option_and_then f o ≡ Some y → (x : A) × (o ≡ Some x) × (f x ≡ Some y)
then_some f None y h = absurd cc
then_some f (Some x) y h = (x, refl, h)

second : (p q : List ℕ × ℕ) → p ≡ q → p.1 ≡ q.1
second p q h = ap (λ (p : List ℕ × ℕ). p.1) h

-- the entry of a serial stands in the list
pub at_in : (serial : ℕ) (es : List Entry) (e : Entry) → entry_at serial es ≡ Some e → IsIn e es × (serial ≡ e.serial)
at_in serial [] e h = absurd cc
at_in serial (x ∷ es) e h =
    elim (nat_eq serial x.serial) as (λ b. nat_eq serial x.serial ≡ b → cond b (Some x) (entry_at serial es) ≡ Some e → IsIn e (x ∷ es) × (serial ≡ e.serial)) [
      | true ↦ λ is h. let same : x ≡ e = some_is x e h in (inl same, eqb-true serial x.serial is ∙ ap (λ s. s.serial) same)
      | false ↦ λ is h. let rest = at_in serial es e h in (inr rest.0, rest.1)
    ] refl h

-- an entry is the one that is found by its serial
pub in_at : (low next : ℕ) (es : List Entry) (e : Entry) → RisesWithin low next es → IsIn e es → entry_at e.serial es ≡ Some e
in_at low next [] e h is = absurd is
in_at low next (x ∷ es) e h (inl same) =
    ap (λ b. cond b (Some x) (entry_at e.serial es)) (eq-eqb e.serial x.serial (ap (λ s. s.serial) (sym same))) ∙ ap Some same
in_at low next (x ∷ es) e h (inr is) =
    let above = in_above x.serial next es e h.1 is in
    ap (λ b. cond b (Some x) (entry_at e.serial es)) (ne_eqb e.serial x.serial (λ same. absurd (omega arith))) ∙ in_at x.serial next es e h.1 is

-- ---- going up

pub host_name-zero : (t : Tree) (dir : ℕ) → host_name_within zero t dir ≡ None
unfolding host_name_within
host_name-zero t dir = refl

pub host_name-root : (n : ℕ) (t : Tree) (dir : ℕ) → dir ≡ root → host_name_within (suc n) t dir ≡ Some []
unfolding host_name_within
host_name-root n t dir e =
    ap (λ b. cond b (Some []) (option_and_then (λ up. option_map (λ text. up.0 ∷ text) (host_name_within n t up.1)) (step_up t dir))) (eq-eqb dir root e)

pub host_name-step : (n : ℕ) (t : Tree) (dir : ℕ) → dir ≢ root
    → host_name_within (suc n) t dir ≡ option_and_then (λ up. option_map (λ text. up.0 ∷ text) (host_name_within n t up.1)) (step_up t dir)
unfolding host_name_within
host_name-step n t dir away =
    ap (λ b. cond b (Some []) (option_and_then (λ up. option_map (λ text. up.0 ∷ text) (host_name_within n t up.1)) (step_up t dir))) (ne_eqb dir root away)

module _ (t : Tree) (sound : IsSound t) where
  -- the entries of a directory are listed
  pub listed_in : (k : ℕ) (e : Entry) → IsIn e (entries t k) → (next : ℕ) × IsListed (record { list = entries t k; next = next })
  listed_in k e is =
      let x = entries_there t k e is in
      let P : Option Inode → Type 0 = λ o. IsListed (record { list = option_map_or (λ z. entries_of z.node.body) o []; next = x.0.next_serial }) in
      (x.0.next_serial, subst P (sym x.1) (sound.listed k x.0 x.1))

  -- what has an entry is a directory
  pub filled_directory : (k : ℕ) (e : Entry) → IsIn e (entries t k) → body_is is_directory t k ≡ true
  filled_directory k e is =
      let x = entries_there t k e is in
      let P : Option Inode → Type 0 = λ o. IsIn e (option_map_or (λ z. entries_of z.node.body) o []) in
      ap (λ o. option_map_or (λ z. is_directory z.node.body) o false) x.1 ∙ listed-is_directory x.0.node.body (entries-is_listed x.0.node.body e (subst P x.1 is))

  -- what stands somewhere is a directory
  pub standing_directory : (k : ℕ) (s : Standing) → standing t k ≡ Some s → body_is is_directory t k ≡ true
  standing_directory k s h = elim (inode t k) as (λ o. option_and_then (λ z. standing_of z.node.body) o ≡ Some s → option_map_or (λ z. is_directory z.node.body) o false ≡ true) [
    | None ↦ λ h. absurd cc
    | Some x ↦ λ h. is_directory-stands x.node.body s h
  ] h

  pub directory_below : (k : ℕ) → body_is is_directory t k ≡ true → k < t.next
  directory_below k h = elim (inode t k) as (λ o. inode t k ≡ o → option_map_or (λ z. is_directory z.node.body) o false ≡ true → k < t.next) [
    | None ↦ λ _ h. absurd cc
    | Some x ↦ λ at h. (sound.numbered k x at).1
  ] refl h

  -- one step up from a directory names it
  pub step_names : (dir : ℕ) (up : List ℕ × ℕ) → dir ≢ root → step_up t dir ≡ Some up → (entry t up.1 up.0 ≡ Some dir) × (body_is is_directory t dir ≡ true) × IsName up.0
  step_names dir up away h =
      let s = then_some (λ s. option_map (λ e. (e.name, s.inode)) (entry_at s.serial (entries t s.inode))) (standing t dir) up h in
      let e = map_some (λ e. (e.name, s.0.inode)) (entry_at s.0.serial (entries t s.0.inode)) up s.2 in
      let found = at_in s.0.serial (entries t s.0.inode) e.0 e.1 in
      let stands = sound.stands dir s.0 away s.1 in
      let own : Entry = record { name = stands.0; serial = s.0.serial; inode = dir } in
      let list = listed_in s.0.inode e.0 found.0 in
      let same : e.0 ≡ own = serial_alone 2 list.0 (entries t s.0.inode) e.0 own list.1.rises found.0 stands.1 (sym found.1) in
      let by_name : entry_named e.0.name (entries t s.0.inode) ≡ Some e.0 = in_named e.0.name (entries t s.0.inode) e.0 list.1.distinct found.0 ((bytes_eq-Decides e.0.name e.0.name).1 refl) in
      let well : is_name e.0.name ≡ true = all-in (λ name. is_name name ≡ true) (entries t s.0.inode) e.0 list.1.well_formed found.0 in
      let P : List ℕ × ℕ → Type 0 = λ up. (entry t up.1 up.0 ≡ Some dir) × (body_is is_directory t dir ≡ true) × IsName up.0 in
      subst P e.2 (ap (option_map (λ e. e.inode)) by_name ∙ ap (λ e. Some e.inode) same, standing_directory dir s.0 s.1, (name_decides e.0.name).0 well)

  pub host_name-leads : (n dir : ℕ) (text : List (List ℕ)) → host_name_within n t dir ≡ Some text → (named t text ≡ Some dir) × (body_is is_directory t dir ≡ true) × AreNames text
  host_name-leads zero dir text h = let no : None ≡ Some text = sym (host_name-zero t dir) ∙ h in absurd cc
  host_name-leads (suc n) dir text h = elim (cases_eq dir root) [
    | inl e ↦
        let P : List (List ℕ) → Type 0 = λ text. (named t text ≡ Some dir) × (body_is is_directory t dir ≡ true) × AreNames text in
        subst P (some_is [] text (sym (host_name-root n t dir e) ∙ h)) (ap Some (sym e), ap (body_is is_directory t) e ∙ root_directory t sound, All-nil IsName)
    | inr away ↦
        let up = then_some (λ up. option_map (λ text. up.0 ∷ text) (host_name_within n t up.1)) (step_up t dir) text (sym (host_name-step n t dir away) ∙ h) in
        let rest = map_some (λ text. up.0.0 ∷ text) (host_name_within n t up.0.1) text up.2 in
        let step = step_names dir up.0 away up.1 in
        let above = host_name-leads n up.0.1 rest.0 rest.1 in
        let P : List (List ℕ) → Type 0 = λ text. (named t text ≡ Some dir) × (body_is is_directory t dir ≡ true) × AreNames text in
        subst P rest.2 (ap (option_and_then (λ d. entry t d up.0.0)) above.0 ∙ step.0, step.1, All-cons IsName up.0.0 rest.0 step.2 above.2)
  ]

  -- the name under which a named directory stands, and where
  pub named_step : (name : List ℕ) (up dir : ℕ) → entry t up name ≡ Some dir → body_is is_directory t dir ≡ true → (step_up t dir ≡ Some (name, up)) × (dir ≢ root) × (body_is is_directory t up ≡ true)
  named_step name up dir h is =
      let e = map_some (λ e. e.inode) (entry_named name (entries t up)) dir h in
      let found = named_in name (entries t up) e.0 e.1 in
      let same : name ≡ e.0.name = (bytes_eq-Decides name e.0.name).0 found.1 in
      let list = listed_in up e.0 found.0 in
      let stands : standing t dir ≡ Some (record { inode = up; serial = e.0.serial }) = ap (standing t) (sym e.2) ∙ sound.alone up e.0 found.0 (ap (body_is is_directory t) e.2 ∙ is) in
      let at : entry_at e.0.serial (entries t up) ≡ Some e.0 = in_at 2 list.0 (entries t up) e.0 list.1.rises found.0 in (
        ap (option_and_then (λ s. option_map (λ e. (e.name, s.inode)) (entry_at s.serial (entries t s.inode)))) stands
            ∙ ap (option_map (λ e. (e.name, up))) at ∙ ap (λ n. Some (n, up)) (sym same),
        (λ r.
            let both : ◌≡◌ {A = Option Standing} (Some (record { inode = up; serial = e.0.serial })) (Some (record { inode = root; serial = 0 })) = sym stands ∙ ap (standing t) r ∙ sound.rooted in
            let zero : e.0.serial ≡ 0 = ap (λ o. option_map_or (λ s. s.serial) o 0) both in
            let low = in_above 2 list.0 (entries t up) e.0 list.1.rises found.0 in
            absurd (omega arith)),
        filled_directory up e.0 found.0,
      )

  -- what a text names and is a directory is called so, given steps enough
  pub host_name-found : (text : List (List ℕ)) (dir : ℕ) → named t text ≡ Some dir → body_is is_directory t dir ≡ true → (n : ℕ) → length text < n → host_name_within n t dir ≡ Some text
  host_name-found [] dir h is zero l = absurd (omega arith)
  host_name-found [] dir h is (suc n) l = host_name-root n t dir (sym (some_is root dir h))
  host_name-found (name ∷ text) dir h is zero l = absurd (omega arith)
  host_name-found (name ∷ text) dir h is (suc n) l =
      let up = then_some (λ d. entry t d name) (named t text) dir h in
      let step = named_step name up.0 dir up.2 is in
      host_name-step n t dir step.1 ∙ ap (option_and_then (λ up. option_map (λ text. up.0 ∷ text) (host_name_within n t up.1))) step.0
      ∙ ap (option_map (λ text. name ∷ text)) (host_name-found text up.0 up.1 step.2 n (omega arith))

  pub texts_same : (one two : List (List ℕ)) (dir : ℕ) → named t one ≡ Some dir → named t two ≡ Some dir → body_is is_directory t dir ≡ true → one ≡ two
  texts_same one two dir h k is =
      some_is one two (sym (host_name-found one dir h is (length one + length two + 1) (omega arith)) ∙ host_name-found two dir k is (length one + length two + 1) (omega arith))

  -- what stands above it on the way
  pub named_above : (k : ℕ) (text : List (List ℕ)) (dir : ℕ) → named t text ≡ Some dir → body_is is_directory t dir ≡ true
      → (up : ℕ) × (named t (drop k text) ≡ Some up) × (body_is is_directory t up ≡ true)
  named_above zero text dir h is = (dir, h, is)
  named_above (suc k) [] dir h is = (dir, h, is)
  named_above (suc k) (name ∷ text) dir h is =
      let up = then_some (λ d. entry t d name) (named t text) dir h in
      named_above k text up.0 up.1 (named_step name up.0 dir up.2 is).2

  -- no directory is met twice on the way, so a text is shorter than the next number
  pub depth : (text : List (List ℕ)) (dir : ℕ) → named t text ≡ Some dir → body_is is_directory t dir ≡ true → length text < t.next
  depth text dir h is =
      let met : ℕ → ℕ = λ k. option_map_or (λ i. i) (named t (drop k text)) 0 in
      let many = pigeonhole (length text + 1) t.next met (λ k l. below k) (λ i j l m e. apart i j l m e) in
      omega arith
    where
      below : (k : ℕ) → option_map_or (λ i. i) (named t (drop k text)) 0 < t.next
      below k = let up = named_above k text dir h is in rw up.1 (directory_below up.0 up.2)

      apart : (i j : ℕ) → i < length text + 1 → j < length text + 1 → option_map_or (λ i. i) (named t (drop i text)) 0 ≡ option_map_or (λ i. i) (named t (drop j text)) 0 → i ≡ j
      apart i j l m e =
          let one = named_above i text dir h is in
          let two = named_above j text dir h is in
          let same : one.0 ≡ two.0 = sym (ap (λ o. option_map_or (λ i. i) o 0) one.1) ∙ e ∙ ap (λ o. option_map_or (λ i. i) o 0) two.1 in
          let texts : drop i text ≡ drop j text = texts_same (drop i text) (drop j text) two.0 (one.1 ∙ ap Some same) two.1 two.2 in
          let lengths : length (drop i text) ≡ length (drop j text) = ap length texts in
          let left_one = length-drop i text in
          let left_two = length-drop j text in
          omega arith

  -- what has an entry wasn't removed
  pub stands_above : (k : ℕ) (e : Entry) (o : Option Standing) → standing t k ≡ o → IsIn e (entries t k) → (s : Standing) × (standing t k ≡ Some s)
  stands_above k e None n is = absurd (subst (λ es. IsIn e es) (sound.emptied k n) is)
  stands_above k e (Some s) h is = (s, h)

  -- what stands somewhere is named: what is above it has an entry and so wasn't removed
  pub text_of_rise : (dir : ℕ) (s : Standing) → standing t dir ≡ Some s → RisesToEnd t dir → (text : List (List ℕ)) × (named t text ≡ Some dir)
  text_of_rise dir s h AtRoot = ([], refl)
  text_of_rise dir s h (AtRemoved n) = let no : Some s.inode ≡ None = sym (ap (option_map (λ s. s.inode)) h) ∙ n in absurd cc
  text_of_rise dir s h (Above {up = up} a r) = elim (cases_eq dir root) [
    | inl e ↦ ([], ap Some (sym e))
    | inr away ↦
        let own = sound.stands dir s away h in
        let e : Entry = record { name = own.0; serial = s.serial; inode = dir } in
        let list = listed_in s.inode e own.1 in
        let here : entry t s.inode own.0 ≡ Some dir = ap (option_map (λ e. e.inode)) (in_named own.0 (entries t s.inode) e list.1.distinct own.1 ((bytes_eq-Decides own.0 own.0).1 refl)) in
        let same : up ≡ s.inode = some_is up s.inode (sym a ∙ ap (option_map (λ s. s.inode)) h) in
        let stood = stands_above up e (standing t up) refl (subst (λ k. IsIn e (entries t k)) (sym same) own.1) in
        let above = text_of_rise up stood.0 stood.1 r in
        (own.0 ∷ above.0, ap (option_and_then (λ d. entry t d own.0)) (above.1 ∙ ap Some same) ∙ here)
  ]

  -- one step up towards the root
  pub host_name-above : (n dir up : ℕ) (text : List (List ℕ)) → dir ≢ root → above t dir ≡ Some up → host_name_within (suc n) t dir ≡ Some text → (rest : List (List ℕ)) × (host_name_within n t up ≡ Some rest)
  host_name-above n dir up text away a h =
      let step = then_some (λ up. option_map (λ text. up.0 ∷ text) (host_name_within n t up.1)) (step_up t dir) text (sym (host_name-step n t dir away) ∙ h) in
      let rest = map_some (λ text. step.0.0 ∷ text) (host_name_within n t step.0.1) text step.2 in
      let s = then_some (λ s. option_map (λ e. (e.name, s.inode)) (entry_at s.serial (entries t s.inode))) (standing t dir) step.0 step.1 in
      let e = map_some (λ e. (e.name, s.0.inode)) (entry_at s.0.serial (entries t s.0.inode)) step.0 s.2 in
      let same : step.0.1 ≡ up = sym (second (e.0.name, s.0.inode) step.0 e.2) ∙ some_is s.0.inode up (sym (ap (option_map (λ s. s.inode)) s.1) ∙ a) in
      (rest.0, subst (λ k. host_name_within n t k ≡ Some rest.0) same rest.1)

  pub named-host_name : NamedHaveHostNames t
  named-host_name text dir h is = host_name-found text dir h is t.next (depth text dir h is)

  pub standing-host_name : StandingHaveHostNames t
  standing-host_name dir s h =
      let dirs = standing_directory dir s h in
      let text = text_of_rise dir s h (sound.rises dir dirs) in
      (text.0, named-host_name text.0 dir text.1 dirs)

  pub host_names-lead : HostNamesLead t
  host_names-lead dir text h = host_name-leads t.next dir text h

  pub host_name-of_root : host_name t root ≡ Some []
  host_name-of_root = named-host_name [] root refl (root_directory t sound)

  -- a directory is called as its entry, below what is above it
  pub host_name-entry : (dir : ℕ) (name : List ℕ) (i : ℕ) → entry t dir name ≡ Some i → body_is is_directory t i ≡ true → host_name t i ≡ option_map (λ text. name ∷ text) (host_name t dir)
  host_name-entry dir name i h is =
      let e = map_some (λ e. e.inode) (entry_named name (entries t dir)) i h in
      let stood = stands_above dir e.0 (standing t dir) refl (named_in name (entries t dir) e.0 e.1).0 in
      let text = standing-host_name dir stood.0 stood.1 in
      let leads = host_names-lead dir text.0 text.1 in
      named-host_name (name ∷ text.0) i (ap (option_and_then (λ d. entry t d name)) leads.0 ∙ h) is ∙ sym (ap (option_map (λ text. name ∷ text)) text.1)

  pub host_name-below : (i dir : ℕ) → i ≢ root → above t i ≡ Some dir → (name : List ℕ) × (host_name t i ≡ option_map (λ text. name ∷ text) (host_name t dir)) × (is_name name ≡ true)
  host_name-below i dir away h =
      let s = map_some (λ s. s.inode) (standing t i) dir h in
      let own = sound.stands i s.0 away s.1 in
      let e : Entry = record { name = own.0; serial = s.0.serial; inode = i } in
      let list = listed_in s.0.inode e own.1 in
      let here : entry t s.0.inode own.0 ≡ Some i = ap (option_map (λ e. e.inode)) (in_named own.0 (entries t s.0.inode) e list.1.distinct own.1 ((bytes_eq-Decides own.0 own.0).1 refl)) in (
        own.0,
        host_name-entry s.0.inode own.0 i here (standing_directory i s.0 s.1) ∙ ap (λ k. option_map (λ text. own.0 ∷ text) (host_name t k)) s.2,
        all-in (λ name. is_name name ≡ true) (entries t s.0.inode) e list.1.well_formed own.1,
      )

  -- what is no directory, or was removed, has none
  pub no_host_name : (i : ℕ) → standing t i ≡ None → host_name t i ≡ None
  no_host_name i none = elim (host_name t i) as (λ o. host_name t i ≡ o → o ≡ None) [
    | None ↦ λ _. refl
    | Some text ↦ λ h. let leads = host_names-lead i text h in nowhere text leads.0 leads.1
  ] refl
    where
      nowhere : (text : List (List ℕ)) → named t text ≡ Some i → body_is is_directory t i ≡ true → Some text ≡ None
      nowhere [] h is = let no : ◌≡◌ {A = Option Standing} (Some (record { inode = root; serial = 0 })) None = sym sound.rooted ∙ ap (standing t) (some_is root i h) ∙ none in absurd cc
      nowhere (name ∷ text) h is =
          let up = then_some (λ d. entry t d name) (named t text) i h in
          let step = named_step name up.0 i up.2 is in
          let no : ◌≡◌ {A = Option (List ℕ × ℕ)} (Some (name, up.0)) None = sym step.0 ∙ ap (option_and_then (λ s. option_map (λ e. (e.name, s.inode)) (entry_at s.serial (entries t s.inode)))) none in
          absurd cc

  pub no_directory_name : (i : ℕ) → body_is is_directory t i ≡ false → host_name t i ≡ None
  no_directory_name i h = elim (host_name t i) as (λ o. host_name t i ≡ o → o ≡ None) [
    | None ↦ λ _. refl
    | Some text ↦ λ is. let no : false ≡ true = sym h ∙ (host_names-lead i text is).1 in absurd cc
  ] refl

-- ---- names written from their end

-- bytes, and the host name of a directory from its end after them
abbrev pub written : List ℕ → ℕ → Tree → ℕ → Option (List ℕ)
written bytes n t dir = option_map (λ text. bytes ++ reverse (below_root text)) (host_name_within n t dir)

pub written-none : (bytes : List ℕ) (n : ℕ) (t : Tree) (dir : ℕ) → n ≡ 0 → written bytes n t dir ≡ None
written-none bytes n t dir e = ap (λ n. written bytes n t dir) e ∙ ap (option_map (λ text. bytes ++ reverse (below_root text))) (host_name-zero t dir)

pub written-root : (bytes : List ℕ) (n k : ℕ) (t : Tree) (dir : ℕ) → k < n → dir ≡ root → written bytes (n - k) t dir ≡ Some bytes
written-root bytes n k t dir l e =
    let more : n - k ≡ suc (n - suc k) = omega arith in
    ap (λ n. written bytes n t dir) more ∙ ap (option_map (λ text. bytes ++ reverse (below_root text))) (host_name-root (n - suc k) t dir e) ∙ ap Some (append-nil bytes)

-- one step up writes a name
pub written-step : (bytes : List ℕ) (n k : ℕ) (t : Tree) (dir : ℕ) → k < n → dir ≢ root → (up : Option (List ℕ × ℕ)) → up ≡ step_up t dir
    → written bytes (n - k) t dir ≡ option_and_then (λ up. written (bytes ++ reverse (slash ∷ up.0)) (n - (k + 1)) t up.1) up
written-step bytes n k t dir l away up is =
    let more : n - k ≡ suc (n - (k + 1)) = omega arith in
    ap (λ n. written bytes n t dir) more ∙ ap (option_map (λ text. bytes ++ reverse (below_root text))) (host_name-step (n - (k + 1)) t dir away ∙ ap (option_and_then (λ up. option_map (λ text. up.0 ∷ text) (host_name_within (n - (k + 1)) t up.1))) (sym is))
    ∙ by up
  where
    both : (name : List ℕ) (o : Option (List (List ℕ))) → option_map (λ text. bytes ++ reverse (below_root text)) (option_map (λ text. name ∷ text) o) ≡ option_map (λ text. (bytes ++ reverse (slash ∷ name)) ++ reverse (below_root text)) o
    both name None = refl
    both name (Some text) = ap Some (ap (λ r. bytes ++ r) (reverse-append (below_root text) (slash ∷ name)) ∙ sym (append_assoc bytes (reverse (slash ∷ name)) (reverse (below_root text))))

    by : (up : Option (List ℕ × ℕ)) → option_map (λ text. bytes ++ reverse (below_root text)) (option_and_then (λ up. option_map (λ text. up.0 ∷ text) (host_name_within (n - (k + 1)) t up.1)) up)
        ≡ option_and_then (λ up. written (bytes ++ reverse (slash ∷ up.0)) (n - (k + 1)) t up.1) up
    by None = refl
    by (Some up) = both up.0 (host_name_within (n - (k + 1)) t up.1)
