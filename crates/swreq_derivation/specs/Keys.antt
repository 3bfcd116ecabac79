-- Keys by which statements are looked up.
use Rattle.swreq_derive.specs.declared.requirements.Statement.{Statement}
use Rattle.swreq_derivation.specs.declared.stated.Key.{Key, TheVariants.{Valid, Conf, Layout, Same}}
use Rattle.swreq_derive.specs.declared.requirements.Requirement.TheVariants as required
use Rattle.swreq_derive.specs.declared.requirements.Statement.TheVariants as stated

-- the statement of a key
abbrev pub statement_by : Key → Statement
statement_by (Valid t) = stated.Valid t
statement_by (Conf t p) = stated.Holds (required.Conf t p)
statement_by (Layout t) = stated.Holds (required.Layout t)
statement_by (Same t u) = stated.Holds (required.Same t u)
