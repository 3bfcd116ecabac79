-- What holds of the world of each text whose names resolve: all that is written in it is of the world, and inheritance is written.
use Rattle.std.specs.Prelude.{◌≡◌, ◌↔◌, ◌<◌, ℕ, length, Contains, All, IsTrue, Some, slice_get}
use Rattle.swreq_lexicon.specs.swreq_derive.declared.known.Params.{Params}
use Rattle.swreq_lexicon.specs.swreq_derive.Facts.{AreOneToOne, generic_params}
use Rattle.swreq_param.specs.declared.ids.NameId.{NameId}
use Rattle.swreq_param.specs.declared.ids.ParamId.{ParamId}
use Rattle.swreq_param.specs.declared.ids.ProtoId.{ProtoId}
use Rattle.swreq_param.specs.Terms.{head}
use Rattle.swreq_lexicon.specs.declared.pair.ProtocolName.{ProtocolName}
use Rattle.swreq_lexicon.specs.Lexicons.{pair, associated_types}
use Rattle.swreq_lexicon.specs.Views.{LexiconView, IsProtocol, IsName, HasMember, inherits, depth}
use Rattle.swreq_lowering.specs.declared.ids.FuncId.{FuncId}
use Rattle.swreq_lowering.specs.Heads.{IsOver, IsOverSelf}
pub use Rattle.swreq_lowering.specs.OfText.{IsStepOf, IsTermOf, IsRequirementOf}
use Rattle.swreq_lowering.specs.Requirements.{PlacedRequirement}
use Rattle.swreq_lowering.specs.Queries.{TermAsks, TermQuery}
use Rattle.swreq_lowering.specs.Queries.TermAsks.{AsksSignature, AsksReduced, AsksRequirement}
use Rattle.swreq_world.specs.FactsAt.{facts_of}
use Rattle.swreq_world.specs.Inheritance.{LeadsOnTo}
use Rattle.swreq_world.specs.Worlds.{TextWorld, SignatureOver, signature_at}

-- ---- protocols, names, associated types and member symbols

-- Protocols stand in written order, each once, and no others. Each associated type is a protocol of the text with a name of it, and each
-- such pair is one associated type. Member symbols are the pairs of a protocol and a member name of it, each once. Associated types and
-- member symbols go by their names first.
pub record AreIds (x : LexiconView) : Type 0 where
  pub written_order : (p : ProtoId) → Contains x.written_order p ↔ IsProtocol x p
  pub each_once : length x.written_order ≡ length x.protocols
  pub associated : (d : ProtocolName) → Contains x.associated d → IsProtocol x d.proto × IsName x d.name
  pub one_to_one : AreOneToOne (associated_types x.associated)
  pub associated_by_name : (i j : ℕ) (d e : ProtocolName) → slice_get x.associated i ≡ Some d → slice_get x.associated j ≡ Some e
      → d.name.rank < e.name.rank → i < j
  pub symbols : (p : ProtoId) (a : NameId) → Contains x.symbols (pair p a) ↔ (IsProtocol x p × HasMember x p a)
  pub one_symbol : (i j : ℕ) (d : ProtocolName) → slice_get x.symbols i ≡ Some d → slice_get x.symbols j ≡ Some d → i ≡ j
  pub symbols_by_name : (i j : ℕ) (d e : ProtocolName) → slice_get x.symbols i ≡ Some d → slice_get x.symbols j ≡ Some e
      → d.name.rank < e.name.rank → i < j

-- ---- what is written

-- one of these generic parameters
abbrev pub IsParamOf : Params → ParamId → Type 0
IsParamOf params g = Contains (generic_params params) g

-- A requirement of a protocol is over τ_0_0 alone.
abbrev pub IsOfProtocol : LexiconView → PlacedRequirement → Type 0
IsOfProtocol x r = IsRequirementOf x r.requirement × IsOverSelf r.requirement

-- A requirement of a signature is over the generic parameters of the signature.
abbrev pub IsOfSignature : LexiconView → Params → PlacedRequirement → Type 0
IsOfSignature x params r = IsRequirementOf x r.requirement × IsOver (IsParamOf params) r.requirement

abbrev pub HasOwn : LexiconView → SignatureOver PlacedRequirement → Type 0
HasOwn x g = All (IsOfSignature x g.params) g.requirements

-- What is asked is of the text, and over these generic parameters.
abbrev pub IsAskedOf : LexiconView → Params → TermAsks → Type 0
IsAskedOf x params AsksSignature = Unit {0}
IsAskedOf x params (AsksReduced t) = IsTermOf x t × IsParamOf params (head t)
IsAskedOf x params (AsksRequirement r) = IsRequirementOf x r × IsOver (IsParamOf params) r

module _ (w : TextWorld) where
  abbrev pub IsSignature : FuncId → Type 0
  IsSignature f = f.place < length w.signatures

  -- The struct around a signature is of the world.
  abbrev pub HasOuter : SignatureOver PlacedRequirement → Type 0
  HasOuter g = (f : FuncId) → g.outer ≡ Some f → IsSignature f

  -- A query asks a signature of the world about type parameters over its generic parameters.
  abbrev pub IsQueryOf : TermQuery → Type 0
  IsQueryOf q = IsSignature q.f × IsAskedOf w.lexicon (signature_at w q.f).params q.asks

-- A protocol inherits another if and only if a chain of written conformances of the bare `Self`, one or more, leads there.
abbrev pub IsInheritanceWritten : TextWorld → Type 0
IsInheritanceWritten w =
    (p q : ProtoId) → IsProtocol w.lexicon p → IsProtocol w.lexicon q → IsTrue (inherits w.lexicon p q) ↔ LeadsOnTo (facts_of w) p q

-- Written inheritance goes down by depth: a protocol inherits more protocols than each one to which its written conformances lead.
abbrev pub InheritanceGoesDown : TextWorld → Type 0
InheritanceGoesDown w =
    (p q : ProtoId) → IsProtocol w.lexicon p → IsProtocol w.lexicon q → LeadsOnTo (facts_of w) p q → depth w.lexicon q < depth w.lexicon p

-- All that is written is of the world; what a protocol inherits is written, and goes down by depth.
pub record IsClosed (w : TextWorld) : Type 0 where
  pub ids : AreIds w.lexicon
  pub protocols : length w.requirements ≡ length w.lexicon.protocols
  pub requirements : All (All (IsOfProtocol w.lexicon)) w.requirements
  pub signatures : All (HasOwn w.lexicon) w.signatures
  pub outer : All (HasOuter w) w.signatures
  pub queries : All (IsQueryOf w) w.queries
  pub inheritance : IsInheritanceWritten w
  pub goes_down : InheritanceGoesDown w
