-- What contracts see of a derivation that is being written.
use Rattle.std.specs.Prelude.{List}
use Rattle.swreq_derive.specs.{swreq_param.Terms.{Term}, declared.lines.Line.{Line}}

-- the type parameters of the table, and the lines
pub record DerivationView : Type 0 where
  pub table : List Term
  pub lines : List Line
