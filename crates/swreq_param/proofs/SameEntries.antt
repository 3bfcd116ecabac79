-- Equal entries are one.
use Rattle.std.proofs.Common.{◌≡◌, true, rules}
use Rattle.swreq_param.specs.contracts.table.EntryPartialEq.TheImpl.{eq-value}
use Rattle.swreq_param.specs.declared.table.Entry.{Entry}
use Rattle.swreq_param.specs.declared.table.Entry.TheVariants.{Param, Member}

pub entry_same : (x y : Entry) → eq-value.it x y ≡ true → x ≡ y
entry_same (Param p) (Param q) h = search rules
entry_same (Param p) (Member b s) h = search rules
entry_same (Member b s) (Param p) h = search rules
entry_same (Member b s) (Member c t) h = search rules
