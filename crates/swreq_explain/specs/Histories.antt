-- The history of a machine.
use Rattle.std.specs.Prelude.{◌≡◌, ◌↔◌, ◌<◌, ◌-◌, ◌^◌, ℕ, [], List, None, Option, Some, length, slice_get}
use Rattle.swreq_machine.specs.swreq_param.{declared.ids.{ProtoId.{ProtoId}, TermId.{TermId}}, Tables.{term_at}, Terms.{Term, self}}
use Rattle.swreq_machine.specs.swreq_derive.declared.{known.Params.{Params}, requirements.Requirement.TheVariants.{Conf}}
use Rattle.swreq_machine.specs.{swreq_derive.Facts.{generic_params}, swreq_correspondence.Symbols.{IsInText}}
use Rattle.swreq_machine.specs.{swreq_complete.Complete.{IsComplete}, swreq_lowering.declared.ids.FuncId.{FuncId}}
use Rattle.swreq_machine.specs.{swreq_rounds.Presents.{AreListRules}, swreq_symbols.Meaning.{symbols_of}, Machines.{MachineView}}
use Rattle.swreq_machine.specs.swreq_valid.{Protocols.{ProtocolsView}, Plans.{bare}, Rounds.{RoundView, last_rules}}
use Rattle.swreq_machine.specs.swreq_world.{FactsAt.{facts_of, source_of, written_list}, Worlds.{IdWorld, TextWorld, requirements_of}}
use Rattle.swreq_machine.specs.swreq_world.{ByTable.{world_by}, Worlds.{signature_at}}
use Rattle.swreq_readings.specs.declared.alphabet.Alphabet.{Alphabet}
use Rattle.swreq_derivation.specs.UnderWay.{Assumptions}
use Rattle.swreq_births.specs.{declared.history.History.{History}, Systems.{AreSymbols, FitsHistory, IsHistory, rules_at, systems_of}}
use Rattle.swreq_explain.specs.{declared.history.TextHistory.{TextHistory}, Numbering.{numbered_from, numbered_in}, Rounds.{AreSystemsOf}}
use Rattle.swreq_explain.specs.Uses.{Origin}
use Rattle.swreq_machine.specs.swreq_rounds.Given.{basic_equations}

-- It is the id of `Self` in each requirement `[T : Q]` of a protocol.
abbrev pub IsSelfId : List Term → IdWorld → Option TermId → Type 0
IsSelfId terms w s = (p : ProtoId) (k : ℕ) (t : TermId) (q : ProtoId) → slice_get (bare (requirements_of w p)) k ≡ Some (Conf t q)
    → (term_at terms t ≡ self) ↔ (s ≡ Some t)

-- Words are read by the world and by these generic parameters.
pub record IsAlphabetOf (terms : List Term) (w : IdWorld) (params : Params) (g : Alphabet) : Type 0 where
  pub world : g.world.now ≡ w
  pub self_id : IsSelfId terms g.world.now g.self_id
  pub params_are : g.params ≡ params

-- The rounds of the protocols begin with no rules, and use the requirements of all protocols.
abbrev pub protocols_origin : IdWorld → List RoundView → Origin
protocols_origin w rounds = record {
  base = 0;
  members = w.lexicon.symbols;
  basic = basic_equations (symbols_of w.lexicon);
  all = numbered_in w w.lexicon.written_order;
  rounds = rounds;
  first = 0;
}

-- The rounds of a list begin with the rules of the last round of the protocols.
abbrev pub list_origin : IdWorld → FuncId → ProtocolsView → MachineView → Origin
list_origin w f p m = record {
  base = length (last_rules p.rounds);
  members = w.lexicon.symbols;
  basic = [];
  all = numbered_from None 1 (bare (signature_at w f).requirements);
  rounds = m.rounds;
  first = length p.rounds;
}

-- It is of the world, with the id of `Self`, and the systems are those of the rounds of the protocols.
pub record IsTextHistory (terms : List Term) (w : IdWorld) (p : ProtocolsView) (b : TextHistory) : Type 0 where
  pub world : b.world.now ≡ w
  pub self_id : IsSelfId terms w b.self_id
  pub systems : AreSystemsOf (symbols_of w.lexicon) terms (protocols_origin w p.rounds) b.systems

-- Words are read by the world, and the systems are those of the rounds of the protocols and of the machine. Each has a place of 64 bits.
pub record IsHistoryOf (terms : List Term) (w : IdWorld) (f : FuncId) (p : ProtocolsView) (m : MachineView) (b : History) : Type 0 where
  pub alphabet : IsAlphabetOf terms w m.params b.alphabet
  pub few : length (systems_of b) < 2 ^ 64
  pub of_protocols : AreSystemsOf (symbols_of w.lexicon) terms (protocols_origin w p.rounds) b.below.now
  pub of_list : AreSystemsOf (symbols_of w.lexicon) terms (list_origin w f p m) b.own

-- ---- a history that answers for a signature

-- What its lines are derived from: the facts of the text, and the list of the signature with its generic parameters.
abbrev pub assumptions_of : TextWorld → FuncId → Assumptions
assumptions_of w f = record {
  facts = facts_of w;
  params = generic_params (signature_at w f).params;
  written = written_list (signature_at w f);
}

-- The signature is of the world. This is a history, and its equations are of written requirements. Its last system has the rules of the
-- signature's list, and they are complete.
pub record IsHistoryFor (w : TextWorld) (f : FuncId) (b : History) : Type 0 where
  pub signature : f.place < length w.signatures
  pub history : IsHistory b
  pub fits : FitsHistory b (assumptions_of w f)
  pub symbols : AreSymbols b.alphabet (symbols_of w.lexicon) (facts_of w)
  pub params : b.alphabet.params ≡ (signature_at w f).params
  pub some : 0 < length (systems_of b)
  pub rules : AreListRules (symbols_of w.lexicon) (facts_of w) (generic_params (signature_at w f).params) (written_list (signature_at w f))
      (rules_at b (length (systems_of b) - 1))
  pub complete : IsComplete (rules_at b (length (systems_of b) - 1))
  pub in_text : IsInText (symbols_of w.lexicon) (source_of (signature_at w f))

-- The history is that of the signature of the world over a table.
abbrev pub IsHistoryOver : List Term → IdWorld → FuncId → History → Type 0
IsHistoryOver terms w f b = IsHistoryFor (world_by terms w) f b
