-- Words that don't ask for mounts don't ask whether a run is calm.
use Rattle.std.proofs.Common.{◌≡◌, ℕ, ◌+◌, false, List, [], ◌∷◌, Option, Some, None, Result, Ok, Err, refl, sym, ap, subst, ◌∙◌}
use Rattle.std.specs.Prelude.{is_some, if◌then◌else◌}
use Rattle.std.specs.List.{position}
use Rattle.std.specs.Option.{option_map}
use Rattle.law_loosely.specs.law_machines.pr_words.declared.fault.Why.{Why}
use Rattle.law_loosely.specs.law_machines.pr_words.declared.fault.Why.TheVariants.{CalmAlone, CaseAlone, LooseAlone, ZeroByte}
use Rattle.law_loosely.specs.law_machines.pr_words.declared.fault.WordsFault.{WordsFault}
use Rattle.law_loosely.specs.law_machines.pr_words.declared.options.Options.{Options}
use Rattle.law_loosely.specs.law_machines.pr_words.Meaning.{calm_in, latest, native_in, options_of, or_earlier}
use Rattle.law_loosely.specs.law_machines.pr_words.Reading.{Command, Given, Line, Then, accepted, broken_at, calm_alone, case_alone, ended, first_place, has_zero, is_calm, line_of, loose_alone, or_else, place_if, reading_of, settings_of, told}
use Rattle.law_loosely.proofs.law_machines.pr_words.SoundLemmas.{accepted-then, accepted_step, go_on}
use Rattle.law_loosely.specs.law_machines.pr_sources.Asking.{asked, asked_of}

-- words without a first `--calm` have none
none_calm : (given : List Given) → first_place is_calm given ≡ None → is_some (latest calm_in (settings_of given)) ≡ false
none_calm [] first = refl
none_calm (g ∷ given) first = by_first (none_calm given) (first_place is_calm given) refl (calm_in g.setting) refl
  where
    by_first : (first_place is_calm given ≡ None → is_some (latest calm_in (settings_of given)) ≡ false) → (place : Option ℕ) → first_place is_calm given ≡ place → (o : Option (Unit {0})) → calm_in g.setting ≡ o
        → is_some (or_earlier (calm_in g.setting) (latest calm_in (settings_of given))) ≡ false
    by_first rest (Some n) earlier o e = absurd (let some : or_else (Some n) (place_if (is_calm g.setting) g.place) ≡ None = subst (λ p. or_else p (place_if (is_calm g.setting) g.place) ≡ None) earlier first in cc)
    by_first rest None earlier (Some x) e = absurd (
        let own : place_if (is_some (calm_in g.setting)) g.place ≡ None = subst (λ p. or_else p (place_if (is_calm g.setting) g.place) ≡ None) earlier first in
        let some : Some g.place ≡ None = subst (λ o. place_if (is_some o) g.place ≡ None) e own in cc)
    by_first rest None earlier None e = subst (λ o. is_some (or_earlier o (latest calm_in (settings_of given))) ≡ false) (sym e) (rest earlier)

-- what breaks no rule
standing : (place : Option ℕ) (why : Why) (other : Result Options WordsFault) (o : Options) → broken_at place why other ≡ Ok o → (place ≡ None) × (other ≡ Ok o)
standing None why other o e = (refl, e)
standing (Some n) why other o e = absurd cc

same_options : (x y : Options) → ◌≡◌ {A = Result Options WordsFault} (Ok x) (Ok y) → x ≡ y
same_options x y e = cc

ended_quiet : (given : List Given) (n : ℕ) (command : List (List ℕ)) (o : Options) → ended given n command ≡ Ok o → o.native ≡ false → o.calm ≡ false
ended_quiet given n command o e watched =
    let own = standing (case_alone given n command) CaseAlone (broken_at (calm_alone given) CalmAlone (broken_at (loose_alone given) LooseAlone (Ok (options_of (settings_of given) command)))) o e in
    let calm = standing (calm_alone given) CalmAlone (broken_at (loose_alone given) LooseAlone (Ok (options_of (settings_of given) command))) o own.1 in
    let loose = standing (loose_alone given) LooseAlone (Ok (options_of (settings_of given) command)) o calm.1 in
    let same : options_of (settings_of given) command ≡ o = same_options (options_of (settings_of given) command) o loose.1 in
    let native : is_some (latest native_in (settings_of given)) ≡ false = ap (λ (o : Options). o.native) same ∙ watched in
    let first : first_place is_calm given ≡ None = subst (λ b. (if b then None else first_place is_calm given) ≡ None) native calm.0 in
    sym (ap (λ (o : Options). o.calm) same) ∙ none_calm given first

accepted_quiet : (given : List Given) (line : Line) (o : Options) → accepted given line ≡ Ok o → o.native ≡ false → o.calm ≡ false
unfolding accepted
accepted_quiet given (Command n command) o e watched = ended_quiet given n command o e watched
accepted_quiet given (Then n asked line) o e watched = by_told (λ setting. accepted_quiet (record { place = n; setting = setting } ∷ given) line o) (told (settings_of given) asked) refl
  where
    by_told : ((setting : _) → accepted (record { place = n; setting = setting } ∷ given) line ≡ Ok o → o.native ≡ false → o.calm ≡ false) → (read : Result _ Why) → told (settings_of given) asked ≡ read → o.calm ≡ false
    by_told more (Ok setting) h = more setting (sym (accepted_step given n asked line setting h) ∙ e) watched
    by_told more (Err why) h = let fault = accepted-then given n asked line ∙ ap (go_on given n line) h in absurd cc

read_of : (read : Result Options WordsFault) (o : Options) → asked_of read ≡ Ok o → read ≡ Ok o
read_of (Ok x) o e = let same : x ≡ o = cc in ap (λ (y : Options). Ok y) same
read_of (Err fault) o e = absurd cc

-- `--calm` without `--native` is refused
pub watched_is_quiet : (words : List (List ℕ)) (o : Options) → asked words ≡ Ok o → o.native ≡ false → o.calm ≡ false
watched_is_quiet words o e watched =
    let read = standing (option_map (λ at. at + 1) (position has_zero words)) ZeroByte (accepted [] (line_of 1 words)) o (read_of (reading_of words) o e) in
    accepted_quiet [] (line_of 1 words) o read.1 watched
