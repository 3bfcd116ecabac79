-- Functions of structs in which nothing of their own is written.
use Rattle.std.specs.Prelude.{◌≡◌, List, None, Some, slice_index_or}
use Rattle.swreq_lowering.specs.declared.ids.FuncId.{FuncId}
use Rattle.swreq_world.specs.Worlds.{SignatureOver, no_signature}

-- Of these signatures the one at f is a function of the struct at `outer`, and has the generic parameters and the list of the struct.
pub record AddsNothing {R : Type 0} (gs : List (SignatureOver R)) (outer f : FuncId) : Type 0 where
  pub inside : (slice_index_or gs f.place no_signature).outer ≡ Some outer
  pub at_top : (slice_index_or gs outer.place no_signature).outer ≡ None
  pub params : (slice_index_or gs f.place no_signature).params ≡ (slice_index_or gs outer.place no_signature).params
  pub requirements : (slice_index_or gs f.place no_signature).requirements ≡ (slice_index_or gs outer.place no_signature).requirements
