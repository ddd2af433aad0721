-- The texts in place of paths are short, where walks reach no long host name.
use Rattle.std.proofs.Common.{◌≡◌, ◌≢◌, ◌≤◌, ◌+◌, ℕ, Bool, true, false, List, [], ◌∷◌, ◌++◌, length, Option, Some, None, Ok, Err, Result, refl, sym, ap, subst, arith, ◌∙◌, length-append}
use Rattle.std.specs.Bool.{if◌then◌else◌}
use Rattle.std.specs.Prelude.{is_some}
use Rattle.std.specs.Option.{unwrap_or}
use Rattle.std.proofs.lemmas.List.Elements.{All-cons}
use Rattle.pt_tracer.specs.pr_base.Alike.{OptionAlike, TargetAlike, both, neither}
use Rattle.pt_tracer.specs.pr_base.MountText.{MountText}
use Rattle.pt_tracer.specs.pr_base.Paths.{AreParts, IsComponent, IsPart, below_root, dot, dot_dot, slash, text_of}
use Rattle.pt_tracer.specs.pr_base.Texts.{Text}
use Rattle.pt_tracer.specs.pr_base.WalkFrame.{Target}
use Rattle.pt_tracer.specs.pr_base.declared.errno.Errno.{Errno}
use Rattle.pt_tracer.specs.pr_base.declared.errno.Errno.TheVariants.{EISDIR}
use Rattle.pt_tracer.specs.pr_base.declared.path.Last.{Last}
use Rattle.pt_tracer.specs.pr_base.declared.path.Last.TheVariants as last
use Rattle.pt_tracer.specs.pr_base.declared.path.WalkMode.{WalkMode}
use Rattle.pt_tracer.specs.pr_base.declared.path.WalkMode.TheVariants as modes
use Rattle.pt_tracer.proofs.pr_base.EndLemmas.{jump_is_shown}
use Rattle.pt_tracer.proofs.pr_base.PathLemmas.{names_are_parts}
use Rattle.pt_tracer.specs.pt_args.Purposes.{entry_swap, made_swap, named_path, own_path, purpose_of, swap_for}
use Rattle.pt_tracer.specs.pt_bind.Binding.{host_of, names_of}
use Rattle.pt_tracer.proofs.pt_bind.ByteLemmas.{names_written}
use Rattle.law_walks.specs.pt_canon.Canon.{canon_at, canon_result, ending_of, entry_text, found_entry}
use Rattle.law_walks.specs.pt_canon.TextWalk.{looking_texts}
use Rattle.law_walks.specs.pt_canon.declared.canon.Canon.{Canon}
use Rattle.law_walks.proofs.kr_tree.NameLemmas.{some_is}
use Rattle.law_walks.specs.kr_tree.declared.place.Place.{Place}
use Rattle.law_walks.specs.kr_view.declared.target.Reach.{Reach}
use Rattle.law_walks.specs.kr_view.Reach.{reach_after}
use Rattle.law_walks.specs.kr_view.Walk.{PlaceTarget, looking, place_walk}
use Rattle.law_walks.proofs.kr_view.StayingLemmas.{names-stay}
use Rattle.law_walks.specs.Handed.{BothEnd}
use Rattle.law_walks.specs.Scene.{Scene, space_of, texts_in}
use Rattle.law_walks.specs.Standing.{FoundStands, likeness}
use Rattle.law_walks.proofs.HandedLemmas.{alike, directory_on, last_name, text_target_named}
use Rattle.law_walks.proofs.StandingLemmas.{standing_places_are_called}
use Rattle.law_edits.specs.Short.{AreShort, SwapsAreShort}
use Rattle.law_edits.proofs.ShortLemmas.{reached_texts_are_short}

-- ---- lengths

-- the bytes of a text have one more where they are the root's
text_behind : (h : Text) → length (text_of h) ≤ length (below_root h) + 1
text_behind [] = omega arith
text_behind (name ∷ h) = omega arith

behind_at_most : (b : Bool) → length (if b then slash ∷ [] else []) ≤ 1
behind_at_most true = omega arith
behind_at_most false = omega arith

-- a text, a slash, a name and maybe a slash
joined_long : (h : Text) (part : List ℕ) (b : Bool) → length (text_of h ++ slash ∷ (part ++ (if b then slash ∷ [] else []))) ≤ length (text_of h) + (length part + 2)
joined_long h part b =
    let more = length-append (text_of h) (slash ∷ (part ++ (if b then slash ∷ [] else []))) in
    let rest = length-append part (if b then slash ∷ [] else []) in
    let short = behind_at_most b in
    omega (arith, more, rest, short)

-- so a name has at most two bytes more than its text
named_long : (h : Text) (name : List ℕ) (b : Bool) → length (text_of h ++ slash ∷ (name ++ (if b then slash ∷ [] else []))) ≤ length (text_of (name ∷ h)) + 2
named_long h name b =
    let long = joined_long h name b in
    let whole = length-append (below_root h) (slash ∷ name) in
    let behind = text_behind h in
    omega (arith, long, whole, behind)

same_text : (one two : List ℕ) → ◌≡◌ {A = Result (List ℕ) Errno} (Ok one) (Ok two) → one ≡ two
same_text one two e = cc

same_canon : (one two : Canon) → ◌≡◌ {A = Result Canon Errno} (Ok one) (Ok two) → one ≡ two
same_canon one two e = cc

no_text : (e : Errno) (text : List ℕ) → ◌≡◌ {A = Result (List ℕ) Errno} (Err e) (Ok text) → ⊥
no_text e text is = cc

-- what the other finds, the one does
other_some : {F G : Type 0} (Q : F → G → Type 0) (x : Option F) (y : Option G) (u : G) → OptionAlike Q x y → y ≡ Some u → (p : F) × (x ≡ Some p) × Q p u
other_some Q _ _ u neither h = absurd cc
other_some Q _ _ u (both {a = a} {b = b} q) h = (a, refl, subst (λ b. Q a b) (some_is b u h) q)

other_none : {F G : Type 0} (Q : F → G → Type 0) (x : Option F) (y : Option G) → OptionAlike Q x y → y ≡ None → x ≡ None
other_none Q _ _ neither h = refl
other_none Q _ _ (both q) h = absurd cc

module _ (scene : Scene) (mode : WalkMode) (base : Place ℕ) (t : Text) (path : List ℕ) (a : PlaceTarget) (b : Target Text Text) (r : Reach) (e : BothEnd scene mode base t path a b)
    (calm : (reach_after scene.around mode (place_walk scene.around mode base path) r).longest ≤ 4000) where
  abbrev bindings : List MountText
  bindings = (texts_in scene).bindings

  abbrev h : Text → Text
  h u = host_of bindings u

  short : AreShort scene mode (reach_after scene.around mode (place_walk scene.around mode base path) r).longest a b
  short = reached_texts_are_short scene mode base t path a b r e

  k : TargetAlike (likeness (space_of scene) mode) a b
  k = alike scene mode base t path a b e

  -- ---- what was found

  found_short : (u : Text) → b.found ≡ Some u → length (text_of (h u)) ≤ 4000
  found_short u eb =
      let p = other_some (FoundStands (space_of scene) mode) a.found b.found u k.found eb in
      let long = short.found p.0 u p.1 eb in omega (arith, long, calm)

  jumped_found : a.jumped ≡ true → b.found ≡ None → ⊥
  jumped_found jumped none =
      let s = jump_is_shown _ _ (looking_texts (texts_in scene)) mode t path b e.text (sym k.jumped ∙ jumped) in
      no_found s.3.found (sym none ∙ ap (λ (t : Target Text Text). t.found) s.5)
    where
      no_found : (u : Text) → None ≡ Some u → ⊥
      no_found u e = cc

  unjumped : (l : Last) → a.last ≡ l → l ≢ last.Name → a.jumped ≡ false
  unjumped l is other = by a.jumped refl
    where
      by : (j : Bool) → a.jumped ≡ j → j ≡ false
      by false jumped = refl
      by true jumped =
          let s = jump_is_shown _ _ (looking scene.around) mode base path a e.place jumped in
          absurd (other (sym is ∙ ap (λ (t : PlaceTarget). t.last) s.5))

  dir_short : a.jumped ≡ false → length (text_of (h b.dir)) ≤ 4000
  dir_short jumped = let long = short.dir jumped in omega (arith, long, calm)

  looked_short : (o : Option Text) → b.found ≡ o → length (text_of (h (unwrap_or o b.dir))) ≤ 4095
  looked_short (Some u) eb = let long = found_short u eb in omega (arith, long)
  looked_short None eb = by a.jumped refl
    where
      by : (j : Bool) → a.jumped ≡ j → length (text_of (h b.dir)) ≤ 4095
      by true jumped = absurd (jumped_found jumped eb)
      by false jumped = let long = dir_short jumped in omega (arith, long)

  -- ---- names

  parts_dir : a.jumped ≡ false → AreParts b.dir
  parts_dir jumped = names_are_parts b.dir ((standing_places_are_called (space_of scene) scene.around.leads a.dir b.dir e.matched.settled e.matched.processes (directory_on scene mode base t path a b e jumped).stands).1)

  is_part : a.jumped ≡ false → a.last ≡ last.Name → IsPart b.name
  is_part jumped is =
      let c = k.component jumped (λ root. let clash : last.Name ≡ last.Root = sym is ∙ root in absurd cc) in
      subst IsPart k.name (subst IsComponent (last_name c.0 a.name (c.1 ∙ is) c.2) c.3)

  named_back : a.jumped ≡ false → a.last ≡ last.Name → names_of (text_of (b.name ∷ b.dir)) ≡ b.name ∷ b.dir
  named_back jumped is = names_written (b.name ∷ b.dir) (All-cons IsPart b.name b.dir (is_part jumped is) (parts_dir jumped))

  name_short : a.jumped ≡ false → a.last ≡ last.Name → length (text_of (a.name ∷ h b.dir)) ≤ 4000 → (behind : Bool) → length (own_path bindings (names_of (text_of (b.name ∷ b.dir))) behind) ≤ 4095
  name_short jumped is at_most behind =
      let long = named_long (h b.dir) b.name behind in
      let same : length (text_of (a.name ∷ h b.dir)) ≡ length (text_of (b.name ∷ h b.dir)) = ap (λ name. length (text_of (name ∷ h b.dir))) k.name in
      subst (λ names. length (own_path bindings names behind) ≤ 4095) (sym (named_back jumped is)) (omega (arith, long, same, at_most))

  part_short : a.jumped ≡ false → (part : List ℕ) → length part ≤ 2 → (behind : Bool) → length (named_path bindings (names_of (text_of b.dir)) part behind) ≤ 4095
  part_short jumped part few behind =
      let long = joined_long (h b.dir) part behind in
      let dir = dir_short jumped in
      subst (λ names. length (named_path bindings names part behind) ≤ 4095) (sym (names_written b.dir (parts_dir jumped))) (omega (arith, long, dir, few))

  module _ (text : List ℕ) where
    so : (one : List ℕ) → ◌≡◌ {A = Result (List ℕ) Errno} (Ok one) (Ok text) → length one ≤ 4095 → length text ≤ 4095
    so one is at_most = subst (λ text. length text ≤ 4095) (same_text one text is) at_most

    abbrev end_at : Last → Canon
    end_at l = canon_at bindings (record { guest = entry_text l b; last = l; slash = b.slash; exists = found_entry l b })

    -- a file that may be made
    made_short : (l : Last) → a.last ≡ l → made_swap bindings (end_at l) l ≡ Ok text → length text ≤ 4095
    made_short last.Name is swap = by b.slash b.found refl swap
      where
        by : (s : Bool) (o : Option Text) → b.found ≡ o
            → (if s then Err EISDIR else if is_some o then Ok (text_of (h (unwrap_or o (b.name ∷ b.dir)))) else Ok (own_path bindings (names_of (text_of (unwrap_or o (b.name ∷ b.dir)))) s)) ≡ Ok text → length text ≤ 4095
        by true o eb swap = absurd (no_text EISDIR text swap)
        by false (Some u) eb swap = so (text_of (h u)) swap (let long = found_short u eb in omega (arith, long))
        by false None eb swap = free a.jumped refl
          where
            free : (j : Bool) → a.jumped ≡ j → length text ≤ 4095
            free true jumped = absurd (jumped_found jumped eb)
            free false jumped =
                let none = other_none (FoundStands (space_of scene) mode) a.found b.found k.found eb in
                so (own_path bindings (names_of (text_of (b.name ∷ b.dir))) false) swap (name_short jumped is (let long = short.free jumped none in omega (arith, long, calm)) false)
    made_short last.Dot is swap = so (named_path bindings (names_of (text_of b.dir)) dot b.slash) swap (part_short (unjumped last.Dot is (λ e. absurd cc)) dot (omega arith) b.slash)
    made_short last.DotDot is swap = so (named_path bindings (names_of (text_of b.dir)) dot_dot b.slash) swap (part_short (unjumped last.DotDot is (λ e. absurd cc)) dot_dot (omega arith) b.slash)
    made_short last.Root is swap = so (slash ∷ []) swap (omega arith)

    -- a name of an entry
    entry_named : a.jumped ≡ false → a.last ≡ last.Name → unwrap_or b.found (b.name ∷ b.dir) ≡ b.name ∷ b.dir
    entry_named jumped is = by b.found refl
      where
        by : (o : Option Text) → b.found ≡ o → unwrap_or o (b.name ∷ b.dir) ≡ b.name ∷ b.dir
        by None eb = refl
        by (Some u) eb = text_target_named (texts_in scene) mode t path b u e.text (sym k.jumped ∙ jumped) (sym k.last ∙ is) eb

    entry_short : mode ≡ modes.Name → (l : Last) → a.last ≡ l → a.jumped ≡ false → ◌≡◌ {A = Result (List ℕ) Errno} (Ok (entry_swap bindings (end_at l) l)) (Ok text) → length text ≤ 4095
    entry_short by_name last.Name is jumped swap =
        so (own_path bindings (names_of (text_of (unwrap_or b.found (b.name ∷ b.dir)))) b.slash) swap
        (subst (λ guest. length (own_path bindings (names_of (text_of guest)) b.slash) ≤ 4095) (sym (entry_named jumped is))
        (name_short jumped is (let long = short.entry by_name jumped is in omega (arith, long, calm)) b.slash))
    entry_short by_name last.Dot is jumped swap = so (named_path bindings (names_of (text_of b.dir)) dot b.slash) swap (part_short jumped dot (omega arith) b.slash)
    entry_short by_name last.DotDot is jumped swap = so (named_path bindings (names_of (text_of b.dir)) dot_dot b.slash) swap (part_short jumped dot_dot (omega arith) b.slash)
    entry_short by_name last.Root is jumped swap = so (slash ∷ []) swap (omega arith)

    -- by the mode of the walk
    by_mode : (opening : Bool) (m : WalkMode) → mode ≡ m → swap_for bindings (purpose_of opening m) (canon_at bindings (ending_of m b)) ≡ Ok text → length text ≤ 4095
    by_mode opening modes.Look is swap = so (text_of (h (unwrap_or b.found b.dir))) swap (looked_short b.found refl)
    by_mode opening modes.LookLink is swap = so (text_of (h (unwrap_or b.found b.dir))) swap (looked_short b.found refl)
    by_mode true modes.Name is swap = made_short b.last k.last swap
    by_mode false modes.Name is swap =
        let stays = names-stay (looking scene.around) base path a (ap (λ m. (place_walk scene.around m base path).answer) (sym is) ∙ e.place) in
        entry_short is b.last k.last stays swap
    by_mode opening modes.Open is swap = made_short b.last k.last swap

pub swaps_are_short : SwapsAreShort
swaps_are_short scene mode base t path a b r opening canon text e calm answer swap =
    let own = same_canon (canon_at (texts_in scene).bindings (ending_of mode b)) canon (sym (ap (canon_result (texts_in scene).bindings mode) e.text) ∙ answer) in
    by_mode scene mode base t path a b r e calm text opening mode refl (ap (swap_for (texts_in scene).bindings (purpose_of opening mode)) own ∙ swap)
