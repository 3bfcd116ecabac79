pub use Rattle.swreq_word.specs as swreq_word
pub use Rattle.swreq_world.specs.swreq_lexicon as swreq_lexicon
pub mod Alphabets
pub mod Inherited
pub mod Readable
