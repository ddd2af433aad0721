pub use Rattle.kr_core.proofs.pr_base as pr_base
pub use Rattle.pt_results.proofs.rv_mem as rv_mem
pub use Rattle.pt_results.proofs.kr_calls as kr_calls
pub use Rattle.law_places.proofs.kr_model as kr_model
pub use Rattle.kr_core.proofs.law_lawful as law_lawful
pub use Rattle.kr_core.proofs.law_allowed as law_allowed
pub use Rattle.kr_core.proofs.kr_perform as kr_perform
pub use Rattle.law_places.proofs.kr_calm as kr_calm
pub use Rattle.kr_core.proofs.kr_turns as kr_turns
pub use Rattle.kr_core.proofs.kr_stops as kr_stops
pub use Rattle.law_kept.proofs as law_kept
pub use Rattle.law_places.proofs.law_walks as law_walks
pub use Rattle.law_places.proofs as law_places
pub mod AlikeLemmas
pub mod CallLemmas
pub mod CalledLemmas
pub mod ClearLemmas
pub mod ComeLemmas
pub mod DeathLemmas
pub mod EnterLemmas
pub mod ImageLemmas
pub mod KeepLemmas
pub mod LineLemmas
pub mod LastLemmas
pub mod MatchLemmas
pub mod OperateLemmas
pub mod PathlessLemmas
pub mod PickLemmas
pub mod QuietLemmas
pub mod RegisterLemmas
pub mod RunLemmas
pub mod SettleLemmas
pub mod UnreadLemmas
pub mod BringLemmas
pub mod CalmLemmas
pub mod FoundLemmas
pub mod IndexLemmas
pub mod MadeLemmas
pub mod MoveLemmas
pub mod NoteLemmas
pub mod OpenLemmas
pub mod RuleLemmas
pub mod SettingLemmas
pub mod UsesLemmas
pub mod WalkedLemmas
