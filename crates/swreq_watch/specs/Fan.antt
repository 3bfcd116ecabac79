-- The members of a fan.
use Rattle.std.specs.Prelude.{List}
use Rattle.std.specs.declared.alloc.Global.{Global}
use Rattle.std.specs.declared.dyn_box.DynBox.{DynBox}
use Rattle.swreq_watch.specs.declared.fan.Fan.{Fan}

-- the boxed watchers that a fan tells, in order
abbrev pub members : {Kind : Type 0} {Value : Kind → Type 0} → Fan Kind Value → List (DynBox Kind Global Value)
members fan = fan.members.items
