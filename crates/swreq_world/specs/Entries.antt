-- What the code keeps of a signature: of its list what is written in itself.
use Rattle.std.specs.Prelude.{List, [], ◌++◌, Option, Some, None, map, slice_index_or}
use Rattle.swreq_param.specs.Terms.{Term}
use Rattle.swreq_lowering.specs.declared.ids.FuncId.{FuncId}
use Rattle.swreq_lowering.specs.declared.ids.Written.{Written}
use Rattle.swreq_lowering.specs.Requirements.{PlacedRequirement}
use Rattle.swreq_lowering.specs.ByTable.{AreOf}
use Rattle.swreq_world.specs.declared.entry.Entry.{Entry}
use Rattle.swreq_world.specs.ByTable.{signature_by}
use Rattle.swreq_world.specs.Filling.{Fills}
use Rattle.swreq_world.specs.Worlds.{SignatureOver}

-- what the struct around a signature requires
abbrev pub around : List Entry → Option FuncId → List Written
around es None = []
around es (Some f) = slice_index_or (map (λ e. e.own) es) f.place []

-- the signature among these, with its list: that of the struct around it, followed by its own requirements
abbrev pub entry_view : List Entry → Entry → SignatureOver Written
entry_view es e = record {
  signature = e.signature;
  name = e.name;
  outer = e.outer;
  own_depth = e.own_depth;
  params = e.params;
  requirements = around es e.outer ++ e.own;
}

-- the signature with its own requirements alone
abbrev pub own_view : Entry → SignatureOver Written
own_view e =
    record { signature = e.signature; name = e.name; outer = e.outer; own_depth = e.own_depth; params = e.params; requirements = e.own }

abbrev pub entry_meant : List Term → Entry → SignatureOver PlacedRequirement
entry_meant terms e = signature_by terms (own_view e)

abbrev pub IsEntryOf : List Term → Entry → Type 0
IsEntryOf terms e = AreOf terms e.own

abbrev pub FillsEntries : List Term → List Term → List (SignatureOver PlacedRequirement) → List Entry → Type 0
FillsEntries = Fills IsEntryOf entry_meant
