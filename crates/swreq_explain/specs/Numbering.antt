-- Written requirements with their numbers, and the equations of those that a round uses.
use Rattle.std.specs.Prelude.{◌≡◌, ◌+◌, ◌<◌, ◌^◌, ℕ, suc, length, List, [], ◌∷◌, ◌++◌, Option, Some, None, Contains, slice_get}
use Rattle.swreq_machine.specs.swreq_param.{declared.ids.{ProtoId.{ProtoId}, ParamId.{ParamId}}, Terms.{Term}}
use Rattle.swreq_machine.specs.swreq_derive.{declared.requirements.Requirement.{Requirement}, Derivation.{Source, TermRequirement}}
use Rattle.swreq_machine.specs.swreq_derive.{Derivation.Source.{SelfOf, Written as WrittenList}, Facts.{requirement_of}}
use Rattle.swreq_machine.specs.swreq_correspondence.Symbols.{Symbols, Word, left_side, right_side}
use Rattle.swreq_machine.specs.{swreq_lexicon.{declared.pair.ProtocolName.{ProtocolName}, Views.{LexiconView}}, swreq_rounds.Plan.{Item}}
use Rattle.swreq_machine.specs.swreq_symbols.{declared.text.Text.{Text}, Known.{IsRequirementIn}, Overs.{source_by}}
use Rattle.swreq_machine.specs.{swreq_valid.{Rounds.{RoundView}, Plans.{bare}}, swreq_world.Worlds.{IdWorld, requirements_of}}
use Rattle.swreq_readings.specs.swreq_word.declared.symbols.Symbol.TheVariants.{Member, Name, Proto}
use Rattle.swreq_births.specs.declared.history.{Equation.{Equation}, OwnedRequirement.{OwnedRequirement}, Reason.{Reason}}
use Rattle.swreq_births.specs.{declared.history.Reason.TheVariants.{Doubled, Named as NamedBy, Required}, Systems.{requirement_by}}
use Rattle.swreq_explain.specs.{declared.numbered.Numbered.{Numbered}, Uses.{HaveFlags, IsShownBy, Origin}}

-- ---- numbers

-- the requirements with their numbers, from n on
abbrev pub numbered_from : Option ProtoId → ℕ → List Requirement → List Numbered
numbered_from owner n [] = []
numbered_from owner n (r ∷ rs) = record { owner = owner; number = n; requirement = r } ∷ numbered_from owner (suc n) rs

-- the requirements of these protocols, in order; the numbers of each protocol begin with 1
abbrev pub numbered_in : IdWorld → List ProtoId → List Numbered
numbered_in w [] = []
numbered_in w (p ∷ ps) = numbered_from (Some p) 1 (bare (requirements_of w p)) ++ numbered_in w ps

-- The type parameters of the requirements are of the table, and their protocols are of the text.
abbrev pub AreNumberedIn : List Term → LexiconView → List Numbered → Type 0
AreNumberedIn terms x all = (n : Numbered) → Contains all n → IsRequirementIn terms x n.requirement

-- The requirements are of the text, each round has a flag for each of them, and the system of each round has a place of 64 bits.
pub record AreMadeOf (t : Text) (all : List Numbered) (rounds : List RoundView) (first : ℕ) : Type 0 where
  pub of_text : AreNumberedIn t.table.now t.world.now.lexicon all
  pub flags : HaveFlags (length all) rounds
  pub room : first + length rounds < 2 ^ 64

-- what a requirement is read over: [τ_0_0 : P], or the list with these generic parameters
abbrev pub source_in : List ParamId → List TermRequirement → Option ProtoId → Source
source_in params list (Some p) = SelfOf p
source_in params list None = WrittenList params list

abbrev pub item_by : List Term → List ParamId → List TermRequirement → Numbered → Item
item_by terms params list x = record { source = source_in params list x.owner; requirement = requirement_of terms x.requirement }

-- ---- equations

-- the left side and the right side
abbrev pub sides_of : Equation → Word × Word
sides_of e = (e.left, e.right)

-- The equation is the basic one that its reason names.
abbrev pub IsBasicBy : List ProtocolName → Reason → Word → Word → Type 0
IsBasicBy members (Doubled p) left right = (left ≡ Proto p.rank ∷ Proto p.rank ∷ []) × (right ≡ Proto p.rank ∷ [])
IsBasicBy members (NamedBy k) left right =
    (n : ProtocolName) × (slice_get members k ≡ Some n) × (left ≡ Proto n.proto.rank ∷ Name n.name.rank ∷ []) × (right ≡ Member k ∷ [])
IsBasicBy members (Required owner n q shown) left right = ⊥

-- Each equation is a basic one.
abbrev pub AreBasic : List ProtocolName → List Equation → Type 0
AreBasic members given = (k : ℕ) (e : Equation) → slice_get given k ≡ Some e → IsBasicBy members e.reason e.left e.right

-- The reason is that the requirement is written, with this number, and that the rules of the system show its type parameters valid.
pub record IsReasonOf (terms : List Term) (x : Numbered) (shown : ℕ) (why : Reason) : Type 0 where
  pub requirement : OwnedRequirement
  pub stands : requirement_by requirement ≡ requirement_of terms x.requirement
  pub is : why ≡ Required x.owner x.number requirement shown

-- It is the equation of the requirement, and its reason names this system.
pub record IsEquationOf (m : Symbols) (terms : List Term) (x : Numbered) (shown : ℕ) (e : Equation) : Type 0 where
  pub left : e.left ≡ left_side m (source_by x.owner) (requirement_of terms x.requirement)
  pub right : e.right ≡ right_side m (source_by x.owner) (requirement_of terms x.requirement)
  pub reason : IsReasonOf terms x shown e.reason

-- It is the equation of the requirement in the round k.
abbrev pub IsEquationIn : Symbols → List Term → Origin → ℕ → Numbered → Equation → Type 0
IsEquationIn m terms o k x e = (shown : ℕ) × IsShownBy o.all o.rounds o.first k x shown × IsEquationOf m terms x shown e

-- They are the equations of these requirements in the round k, in order.
abbrev pub AreEquationsOf : Symbols → List Term → Origin → ℕ → List Numbered → List Equation → Type 0
AreEquationsOf m terms o k [] [] = Unit {0}
AreEquationsOf m terms o k [] (e ∷ es) = ⊥
AreEquationsOf m terms o k (x ∷ xs) [] = ⊥
AreEquationsOf m terms o k (x ∷ xs) (e ∷ es) = IsEquationIn m terms o k x e × AreEquationsOf m terms o k xs es
