-- What calls are told of names: of the link that is read, and of the working directory.
use Rattle.std.specs.Prelude.{◌≡◌, ℕ, List, [], Option, Result, Ok, Err}
use Rattle.std.specs.Option.{option_and_then}
use Rattle.kr_seen.specs.kr_tree.declared.place.Host.{Host}
use Rattle.kr_seen.specs.kr_view.View.{Row}
use Rattle.kr_seen.specs.kr_view.declared.target.Target.{Target}
use Rattle.kr_seen.specs.kr_model.Applied.{cwd_of}
use Rattle.kr_seen.specs.kr_model.AttributeRows.{readlink_host, tell_text}
use Rattle.kr_seen.specs.kr_model.Known.{Known}
use Rattle.kr_seen.specs.kr_model.ProcessDirectory.{name_text, space_of}
use Rattle.kr_seen.specs.kr_model.Reply.{refuse}
use Rattle.kr_seen.specs.kr_model.Seen.{NamesDirectory, ReadsLink, Seen}
use Rattle.kr_seen.specs.kr_model.Walks.{text_at}
use Rattle.kr_seen.specs.kr_ops.declared.state.State.{State}
use Rattle.kr_seen.specs.kr_ops.Meaning.{meaning}
use Rattle.kr_seen.specs.Numbered.{state_numbered}
use Rattle.kr_seen.specs.Performing.{seen_found}
use Rattle.kr_attributes.specs.declared.links.TextFault.{TextFault}
use Rattle.kr_attributes.specs.declared.links.TextFault.TheVariants.{Refused, NoMemory}

module _ {T : Type 0} {M : ℕ} (number : T → ℕ) (table : List Row) (pid : ℕ) (s : State T M) where
  abbrev pub seen_link : Target T → Seen
  seen_link target = seen_found number table pid s target (λ l. ReadsLink l (text_at table pid (state_numbered number (meaning s)) l.host))

  abbrev pub seen_directory : Seen
  seen_directory =
      let numbered = state_numbered number (meaning s) in
      NamesDirectory (option_and_then (λ p. name_text (space_of table numbered) p 0 []) (cwd_of pid numbered))

-- the text of a link, as far as it fits, or the error; want of memory answers nothing
abbrev pub AnswersText : Known → Host → Option (List ℕ) → Result (List ℕ) TextFault → Type 0
AnswersText k host text (Ok bytes) = (buf size : ℕ) → readlink_host k host text buf size ≡ tell_text buf size bytes
AnswersText k host text (Err (Refused errno)) = (buf size : ℕ) → readlink_host k host text buf size ≡ refuse errno
AnswersText k host text (Err NoMemory) = Unit {0}
