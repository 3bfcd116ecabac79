-- What the fields of a derivation that is being written show, and what is true of them.
use Rattle.std.specs.Prelude.{◌≡◌}
use Rattle.swreq_derive.specs.Lines.{stated_by}
use Rattle.swreq_derivation.specs.{declared.derivation.Derivation.TheInside.{Inside}, UnderWay.{AllIn}, Views.{DerivationView}}

abbrev pub view_of : Inside → DerivationView
view_of d = record { table = d.table; lines = d.lines.items }

-- The ids in what the lines state are of the table, and `stated` has what the lines state, in order.
pub record IsUnderWay (d : Inside) : Type 0 where
  pub ids : AllIn d.table d.lines.items
  pub stated : d.stated ≡ stated_by d.lines.items
