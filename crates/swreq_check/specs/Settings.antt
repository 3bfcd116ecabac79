-- Over what the pieces of a command are made.
use Rattle.std.specs.Prelude.{◌≡◌, ◌<◌, ℕ, List, Option, Some, None, Contains, get_or, length}
use Rattle.std.specs.Option.{option_copied}
use Rattle.swreq_machine.specs.swreq_param.Terms.{Term}
use Rattle.swreq_machine.specs.swreq_derive.WellFormed.{AreProtocolsWellFormed}
use Rattle.swreq_machine.specs.swreq_lowering.declared.ids.FuncId.{FuncId}
use Rattle.swreq_machine.specs.swreq_world.ByTable.{world_by}
use Rattle.swreq_machine.specs.swreq_world.FactsAt.{written_list}
use Rattle.swreq_machine.specs.swreq_world.Worlds.{IdWorld, TextWorld, signature_at}
use Rattle.swreq_machine.specs.swreq_symbols.Known.{IsTextOver}
use Rattle.swreq_machine.specs.swreq_symbols.Meaning.{facts_of}
use Rattle.swreq_machine.specs.swreq_valid.Protocols.{AreRulesOf, ProtocolsView, protocols_of}
use Rattle.swreq_machine.specs.Machines.{IsMachineOf, MachineView}
use Rattle.swreq_machine.specs.OfSignatures.{signature_plan, signature_sides}
use Rattle.swreq_machine.specs.swreq_valid.Rounds.{AreRounds, last_rules}
use Rattle.swreq_machine.specs.swreq_valid.Sides.{HoldsOfEach, IsValidSide}
use Rattle.swreq_check.specs.declared.content.Backing.TheVariants.{Derivation}
use Rattle.swreq_check.specs.declared.content.Content.{Content}
use Rattle.swreq_check.specs.declared.piece.Piece.{Piece}
use Rattle.swreq_check.specs.declared.setting.Kept.{Kept}
use Rattle.swreq_check.specs.declared.setting.Means.{Means}
use Rattle.swreq_check.specs.declared.setting.Own.{Own}
use Rattle.swreq_check.specs.declared.setting.Setting.{Setting}
use Rattle.swreq_machine.specs.swreq_lowering.declared.ids.Query.{Query}
use Rattle.swreq_machine.specs.swreq_map.Follows.{AreEndingsOf, EndingsView, IsMapOf, MapView}
use Rattle.swreq_explain.specs.Histories.{IsHistoryFor, IsTextHistory}
use Rattle.swreq_explain.specs.declared.history.TextHistory.{TextHistory}
use Rattle.swreq_births.specs.declared.history.History.{History}
use Rattle.swreq_check.specs.Contents.{backing_of}
use Rattle.swreq_check.specs.Made.{AreMade, IsPiece}
use Rattle.swreq_check.specs.Wanted.{count_of, machine_asked, maker}

-- the world of the text, by the table that has its ids
abbrev pub world_in : List Term → Setting → TextWorld
world_in terms s = world_by terms s.world.now

-- Where derivations are printed for queries there is what all histories of the text have in common.
abbrev pub HasBase : List Term → IdWorld → ProtocolsView → Content → Option TextHistory → Type 0
HasBase terms w p content None = backing_of content ≡ Derivation → 0 < length w.queries → ⊥
HasBase terms w p content (Some base) = IsTextHistory terms w p base

-- What is kept with the endings of words, where it is, is that of the rules of the protocols.
abbrev pub HaveEndings : IdWorld → ProtocolsView → Option EndingsView → Type 0
HaveEndings w p None = Unit {0}
HaveEndings w p (Some endings) = AreEndingsOf (length w.lexicon.protocols) (last_rules p.rounds) endings

-- The ids are of the table, the rules are those of the protocols, whose requirements are over type parameters, what the histories have in
-- common is there where it is read, and endings are those of the rules.
pub record IsReady (terms : List Term) (s : Setting) : Type 0 where
  pub text : IsTextOver terms s.world.now
  pub formed : AreProtocolsWellFormed (facts_of (world_in terms s))
  pub rules : AreRulesOf (world_in terms s) (last_rules s.protocols.now.rounds)
  pub rounds : AreRounds s.limits (protocols_of (world_in terms s)) s.protocols.now.rounds
  pub base : HasBase terms s.world.now s.protocols.now s.content s.base.now
  pub endings : HaveEndings s.world.now s.protocols.now s.endings.now

-- The signature is of the text, each side of its requirements is a type parameter, and this is its machine, over the rules of the
-- protocols.
pub record IsMachineFor (terms : List Term) (s : Setting) (f : FuncId) (m : MachineView) : Type 0 where
  pub signature : f.place < length s.world.now.signatures
  pub valid : HoldsOfEach (IsValidSide (facts_of (world_in terms s))) (signature_sides (signature_at (world_in terms s) f))
  pub machine : IsMachineOf (world_in terms s) (written_list (signature_at (world_in terms s) f)) m
  pub params : m.params ≡ (signature_at (world_in terms s) f).params
  pub rounds : AreRounds s.limits
      (signature_plan (world_in terms s) (last_rules s.protocols.now.rounds) (signature_at (world_in terms s) f)) m.rounds

-- The machine is that of the signature with which it is kept.
abbrev pub IsKeptFor : List Term → Setting → Kept → Type 0
IsKeptFor terms s kept = IsMachineFor terms s kept.f kept.machine

-- If a machine is kept, it is that of the signature with which it is kept.
abbrev pub IsLast : List Term → Setting → Option Kept → Type 0
IsLast terms s None = Unit {0}
IsLast terms s (Some kept) = IsKeptFor terms s kept

-- The setting is that of the text, and this is the machine of the signature.
pub record IsOwn (terms : List Term) (own : Own) : Type 0 where
  pub ready : IsReady terms own.s.now
  pub machine : IsMachineFor terms own.s.now own.f own.machine.now

-- The query is one of the text, and asks this signature.
pub record IsQueryFor (s : Setting) (f : FuncId) (q : Query) : Type 0 where
  pub is : Contains s.world.now.queries q
  pub asks : machine_asked q ≡ Some f

-- At this place of the text stands a query that asks this signature.
pub record IsPlaceFor (s : Setting) (f : FuncId) (place : ℕ) : Type 0 where
  pub below : place < length s.world.now.queries
  pub query : (q : Query) → q ≡ get_or s.world.now.queries place q → IsQueryFor s f q

-- The map is that of the rules of the machine.
pub record IsMapFor (s : Setting) (m : MachineView) (map : MapView) : Type 0 where
  pub rules : IsMapOf (last_rules m.rounds) map
  pub protocols : map.protocols ≡ length s.world.now.lexicon.protocols

-- Where derivations are printed there is a history, and it is one for the signature.
abbrev pub HasHistory : List Term → Setting → FuncId → Option History → Type 0
HasHistory terms s f history = backing_of s.content ≡ Derivation → (b : History) × (history ≡ Some b) × IsHistoryFor (world_in terms s) f b

-- The machine is that of the signature, the map is that of its rules, and there is a history where one is read.
pub record AreMeansFor (terms : List Term) (m : Means) : Type 0 where
  pub own : IsOwn terms m.own
  pub map : IsMapFor m.own.s.now m.own.machine.now m.map.now
  pub history : HasHistory terms m.own.s.now m.own.f (option_copied m.history)

-- The pieces that the machines of the first `signatures` signatures make stand at their places.
abbrev pub AreMadeIn : List Term → Setting → ℕ → List (Option Piece) → Type 0
AreMadeIn terms s signatures pieces =
    AreMade (IsPiece (world_in terms s) s.content) (maker s.world.now s.content) (count_of s.world.now s.content) signatures pieces
