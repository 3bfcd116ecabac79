pub use Rattle.swreq_decl.specs as swreq_decl
