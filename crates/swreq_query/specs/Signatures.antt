-- What is printed of a signature: its name, and its minimised list.
use Rattle.std.specs.Prelude.{◌≡◌, ◌++◌, ◌<◌, List, [], codes, length}
use Rattle.std.specs.Option.{option_map_or}
use Rattle.swreq_text.specs.Joined.{GrewByPart}
use Rattle.swreq_print.specs.swreq_param.Terms.{Term}
use Rattle.swreq_print.specs.swreq_derive.Derivation.{TermRequirement}
use Rattle.swreq_print.specs.swreq_derive.Equivalence.{AreEquivalent}
use Rattle.swreq_print.specs.swreq_derive.Facts.{generic_params}
use Rattle.swreq_print.specs.swreq_lowering.declared.ids.FuncId.{FuncId}
use Rattle.swreq_print.specs.swreq_lowering.Requirements.{PlacedRequirement}
use Rattle.swreq_machine.specs.Machines.{IsMachineOf, MachineView}
use Rattle.swreq_machine.specs.swreq_world.ByTable.{world_by}
use Rattle.swreq_machine.specs.swreq_world.FactsAt.{written_list}
use Rattle.swreq_machine.specs.swreq_world.Lookups.{outer_name}
use Rattle.swreq_machine.specs.swreq_world.Worlds.{IdWorld, SignatureOver, TextWorld, signature_at}
use Rattle.swreq_machine.specs.swreq_symbols.Meaning.{facts_of}
use Rattle.swreq_minimal.specs.swreq_canonical.Minimised.{IsMinimised}
use Rattle.swreq_print.specs.Names.{Text}
use Rattle.swreq_print.specs.Signatures.{signature_text}

-- The signature is of the text, and the machine is that of its list, with its generic parameters.
pub record IsMachineOfSignature (terms : List Term) (w : IdWorld) (f : FuncId) (m : MachineView) : Type 0 where
  pub signature : f.place < length w.signatures
  pub machine : IsMachineOf (world_by terms w) (written_list (signature_at (world_by terms w) f)) m
  pub params : m.params ≡ (signature_at (world_by terms w) f).params

-- `f`, and `S.f` for a function f of a struct S
abbrev pub full_name : TextWorld → SignatureOver PlacedRequirement → Text
full_name w g = option_map_or (λ outer. outer ++ codes ".") (outer_name w g.outer) [] ++ g.name

-- The line is the text of the minimised list of the signature, from which one derives exactly what one derives from the written list.
pub record IsMinimisedLine (w : TextWorld) (g : SignatureOver PlacedRequirement) (line : Text) : Type 0 where
  pub list : List TermRequirement
  pub minimised : IsMinimised (facts_of w) (generic_params g.params) (written_list g) list
  pub same : AreEquivalent (facts_of w) (generic_params g.params) (written_list g) list
  pub line_is : line ≡ signature_text w.lexicon (generic_params g.params) list ++ codes "\n"

-- The new text is the old one with the line after it.
abbrev pub AppendsMinimised : TextWorld → FuncId → Text → Text → Type 0
AppendsMinimised w f old new = (line : Text) × IsMinimisedLine w (signature_at w f) line × (new ≡ old ++ line)

-- The new text is the old one with the first bytes of the line after it.
abbrev pub AppendsPartOfMinimised : TextWorld → FuncId → Text → Text → Type 0
AppendsPartOfMinimised w f old new = (line : Text) × IsMinimisedLine w (signature_at w f) line × GrewByPart old line new

-- It follows the name of the signature.
abbrev pub IsNamedLine : TextWorld → SignatureOver PlacedRequirement → Text → Type 0
IsNamedLine w g line = (minimised : Text) × IsMinimisedLine w g minimised × (line ≡ full_name w g ++ (codes ": " ++ minimised))
