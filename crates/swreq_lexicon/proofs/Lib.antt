pub use Rattle.swreq_closure.proofs as swreq_closure
pub use Rattle.swreq_rank.proofs as swreq_rank
pub use Rattle.swreq_decl.proofs.swreq_lex as swreq_lex
pub use Rattle.swreq_names.proofs as swreq_names
pub use Rattle.swreq_derive.proofs.swreq_param as swreq_param
pub use Rattle.swreq_derive.proofs as swreq_derive
pub mod Places
pub mod Declarers
pub mod KeyOrders
pub mod SymbolPlaces
pub mod SymbolMembers
pub mod OneLexicon
pub mod OrderKeys
pub mod SymbolRanks
pub mod Declared
pub mod Whole
pub mod Few
pub mod RankLaws
pub mod Orders
pub mod Depths
pub mod Positions
pub mod Mapped
pub mod Keyed
pub mod PairKeys
pub mod PairPlaces
pub mod Rankings
pub mod Rows
pub mod Upwards
pub mod PlaceSets
