-- Text walks over states of one shape and user.
use Rattle.std.proofs.Common.{◌≡◌, ℕ, true, List, All, ap, ◌∙◌}
use Rattle.std.specs.List.{list_all}
use Rattle.std.proofs.lemmas.List.Elements.{All-weaker}
use Rattle.std.proofs.lemmas.List.Sums.{AllPass-from_list_all, list_all-from_AllPass}
use Rattle.pt_canon.specs.pr_base.MountText.{MountText}
use Rattle.pt_canon.specs.pr_base.Texts.{Text}
use Rattle.pt_canon.specs.pr_base.WalkFrame.{LookedAt, Trail}
use Rattle.pt_canon.specs.pr_base.declared.path.WalkMode.{WalkMode}
use Rattle.pt_canon.specs.pt_bind.Tags.{TagTable}
use Rattle.pt_canon.specs.Canon.{canon_result}
use Rattle.pt_canon.specs.LookedPaths.{TellsTheSame, are_all, paths_at}
use Rattle.pt_canon.specs.TextWalk.{TextSurroundings, text_walk}
use Rattle.pt_canon.proofs.AgreeLemmas.{paths_same, walk_same}
use Rattle.law_lawful.specs.kr_model.Peeks.{is_steady_path, peeked_of}
use Rattle.law_lawful.specs.kr_model.State.{State}
use Rattle.law_steady.specs.Steady.{HaveOneShape}
use Rattle.law_steady.specs.TextSteady.{KeyLasts, SteadyKeysLast, is_steady_key, texts_over}
use Rattle.law_steady.proofs.SteadyLemmas.{peeks_last, walk_lasts}

module _ {M N X Y : Type 0} (bindings : List MountText) (s : State M X) (t : State N Y) (caller asker : ℕ) (tags more : TagTable) (shape : HaveOneShape s t) where
  abbrev texts_here : TextSurroundings
  texts_here = texts_over bindings s caller tags

  abbrev texts_there : TextSurroundings
  texts_there = texts_over bindings t asker more

  abbrev IsSteady : List ℕ → Type 0
  IsSteady path = is_steady_path s caller path ≡ true

  abbrev IsSteadyThere : List ℕ → Type 0
  IsSteadyThere path = is_steady_path t asker path ≡ true

  abbrev Same : List ℕ → Type 0
  Same = TellsTheSame (peeked_of s caller) (peeked_of t asker)

  told_same : (path : List ℕ) → IsSteady path → Same path
  told_same path steady = let p = peeks_last s t caller asker shape path steady in record { told = p.kind; no_jump = p.no_jump; link_text = p.link_text }

  steady_there : (path : List ℕ) → IsSteady path → IsSteadyThere path
  steady_there path steady = (walk_lasts s t caller asker shape _ path steady).steady

  abbrev LooksSteadily : LookedAt Text → Type 0
  LooksSteadily l = list_all (is_steady_path s caller) (paths_at texts_here l) ≡ true

  look_told : (l : LookedAt Text) → LooksSteadily l → All Same (paths_at texts_here l)
  look_told l h = All-weaker IsSteady Same told_same (paths_at texts_here l) (AllPass-from_list_all (is_steady_path s caller) (paths_at texts_here l) h)

  look_steady : (l : LookedAt Text) → LooksSteadily l → list_all (is_steady_path t asker) (paths_at texts_there l) ≡ true
  look_steady l h =
      ap (list_all (is_steady_path t asker)) (paths_same bindings (peeked_of s caller) (peeked_of t asker) tags more l (look_told l h))
      ∙ list_all-from_AllPass (is_steady_path t asker) (paths_at texts_here l) (All-weaker IsSteady IsSteadyThere steady_there (paths_at texts_here l) (AllPass-from_list_all (is_steady_path s caller) (paths_at texts_here l) h))

  pub key_lasts : (mode : WalkMode) (base : Text) (path : List ℕ) → is_steady_key bindings s caller tags mode base path ≡ true → KeyLasts bindings s t caller asker tags more mode base path
  key_lasts mode base path steady =
      let looks = (text_walk texts_here mode base path).looks in
      let all : All LooksSteadily looks = AllPass-from_list_all (λ l. list_all (is_steady_path s caller) (paths_at texts_here l)) looks steady in
      let walk = walk_same bindings (peeked_of s caller) (peeked_of t asker) tags more mode base path (All-weaker LooksSteadily (λ l. All Same (paths_at texts_here l)) look_told looks all) in
      record {
        walk = walk;
        answer = ap (λ (trail : Trail Text Text). canon_result bindings mode trail.answer) walk;
        steady = ap (are_all (is_steady_path t asker) texts_there) walk
            ∙ list_all-from_AllPass (λ l. list_all (is_steady_path t asker) (paths_at texts_there l)) looks (All-weaker LooksSteadily (λ l. list_all (is_steady_path t asker) (paths_at texts_there l) ≡ true) look_steady looks all);
      }

pub steady_keys_last : (M N X Y : Type 0) → SteadyKeysLast M N X Y
steady_keys_last M N X Y bindings s t caller asker tags more mode base path shape steady = key_lasts bindings s t caller asker tags more shape mode base path steady
