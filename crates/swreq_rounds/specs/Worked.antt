-- A worked text: its equations and requirements, in order.
use Rattle.std.specs.Prelude.{List, [], ◌∷◌}
use Rattle.swreq_correspondence.specs.swreq_param.declared.ids.NameId.{NameId}
use Rattle.swreq_correspondence.specs.swreq_param.declared.ids.ParamId.{ParamId}
use Rattle.swreq_correspondence.specs.swreq_param.declared.ids.ProtoId.{ProtoId}
use Rattle.swreq_correspondence.specs.swreq_param.Terms.{self}
use Rattle.swreq_complete.specs.swreq_word.declared.symbols.Symbol.TheVariants.{Proto, Member, Name, Layout}
use Rattle.swreq_correspondence.specs.swreq_derive.Derivation.{TermRequirement, TermFacts}
use Rattle.swreq_correspondence.specs.swreq_derive.Derivation.TermRequirement.{Conforms, IsAnyObject, Equals}
use Rattle.swreq_correspondence.specs.swreq_derive.Worked.{◌·◌, protocol, name, assoc, param, declared, facts, τ_0_0, τ_0_1}
use Rattle.swreq_correspondence.specs.Symbols.{Word, Symbols}
use Rattle.swreq_correspondence.specs.Worked.{first_param, second_param, member_of, symbols}

-- protocol Tree { associatedtype Parent: AnyObject; associatedtype Label: Tree }
-- protocol Leaf: Tree { associatedtype Next where Next == Label; associatedtype Color: Leaf }
-- func f<T: Leaf, U>() where T.Color == U

-- `Leaf` has the lesser rank, and `Tree` stands first in the text.
abbrev pub Leaf : ProtoId
Leaf = protocol 0

abbrev pub Tree : ProtoId
Tree = protocol 1

abbrev pub Color : NameId
Color = name 0

abbrev pub Label : NameId
Label = name 1

abbrev pub Next : NameId
Next = name 2

abbrev pub Parent : NameId
Parent = name 3

abbrev pub tree_requirements : List TermRequirement
tree_requirements = IsAnyObject (self · Parent) ∷ Conforms (self · Label) Tree ∷ []

abbrev pub leaf_requirements : List TermRequirement
leaf_requirements = Conforms self Tree ∷ Equals (self · Next) (self · Label) ∷ Conforms (self · Color) Leaf ∷ []

abbrev pub trees : TermFacts
trees = facts
    (declared Leaf Color (assoc 0) ∷ declared Tree Label (assoc 1) ∷ declared Leaf Next (assoc 2) ∷ declared Tree Parent (assoc 3) ∷ [])
    (leaf_requirements ∷ tree_requirements ∷ [])

-- Member symbols go by name, and for one name the protocol that inherits more comes first.
abbrev pub trees_symbols : Symbols
trees_symbols = symbols (Tree ∷ Leaf ∷ [])
    (member_of Leaf Color ∷ member_of Leaf Label ∷ member_of Tree Label ∷ member_of Leaf Next ∷ member_of Leaf Parent
    ∷ member_of Tree Parent ∷ [])
    (0 ∷ 2 ∷ 3 ∷ 5 ∷ [])

-- For each protocol as the text has them: it is doubled, and then its member names, by name, also those that it inherits.
abbrev pub trees_basic : List (Word × Word)
trees_basic =
    (Proto 1 ∷ Proto 1 ∷ [], Proto 1 ∷ [])
    ∷ (Proto 1 ∷ Name 1 ∷ [], Member 2 ∷ [])
    ∷ (Proto 1 ∷ Name 3 ∷ [], Member 5 ∷ [])
    ∷ (Proto 0 ∷ Proto 0 ∷ [], Proto 0 ∷ [])
    ∷ (Proto 0 ∷ Name 0 ∷ [], Member 0 ∷ [])
    ∷ (Proto 0 ∷ Name 1 ∷ [], Member 1 ∷ [])
    ∷ (Proto 0 ∷ Name 2 ∷ [], Member 3 ∷ [])
    ∷ (Proto 0 ∷ Name 3 ∷ [], Member 4 ∷ [])
    ∷ []

-- the equations of all requirements of the protocols, as the text has them
abbrev pub trees_required : List (Word × Word)
trees_required =
    (Proto 1 ∷ Name 3 ∷ Layout ∷ [], Proto 1 ∷ Name 3 ∷ [])
    ∷ (Proto 1 ∷ Name 1 ∷ Proto 1 ∷ [], Proto 1 ∷ Name 1 ∷ [])
    ∷ (Proto 0 ∷ Proto 1 ∷ [], Proto 0 ∷ [])
    ∷ (Proto 0 ∷ Name 2 ∷ [], Proto 0 ∷ Name 1 ∷ [])
    ∷ (Proto 0 ∷ Name 0 ∷ Proto 0 ∷ [], Proto 0 ∷ Name 0 ∷ [])
    ∷ []

-- the generic parameters of f, its requirements and their equations
abbrev pub f_params : List ParamId
f_params = param 0 ∷ param 1 ∷ []

abbrev pub f_requirements : List TermRequirement
f_requirements = Conforms τ_0_0 Leaf ∷ Equals (τ_0_0 · Color) τ_0_1 ∷ []

abbrev pub f_equations : List (Word × Word)
f_equations =
    (first_param ∷ Proto 0 ∷ [], first_param ∷ [])
    ∷ (first_param ∷ Name 0 ∷ [], second_param ∷ [])
    ∷ []
