pub use Rattle.swreq_candidates.specs.swreq_canonical as swreq_canonical
pub use Rattle.swreq_candidates.specs as swreq_candidates
pub mod Typed
pub mod Sorted
pub mod OfMachines
pub mod Passed
pub mod Told
pub mod Evident
pub mod OfParams
pub mod Halves
pub mod TextLists
pub mod Lists
