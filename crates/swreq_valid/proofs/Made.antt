-- What building the rules of the protocols answers of a text.
use Rattle.std.proofs.Common.{◌≡◌, refl, sym, subst, Bool, List, length, Contains, Option, Result, Ok, Err, IfOk}
use Rattle.swreq_rounds.specs.swreq_param.Terms.{Term}
use Rattle.swreq_rounds.specs.swreq_derive.declared.requirements.Requirement.{Requirement}
use Rattle.swreq_complete.specs.swreq_rule.declared.rules.Rule.{Rule}
use Rattle.swreq_complete.specs.swreq_watch.declared.events.Event.{Event}
use Rattle.swreq_complete.specs.declared.limit.Failed.{Failed}
use Rattle.swreq_complete.specs.declared.limit.Limits.{Limits}
use Rattle.swreq_rounds.specs.Presents.{AreProtocolRules}
use Rattle.swreq_complete.proofs.swreq_lemmas.Members.{contains_of_map}
use Rattle.swreq_world.specs.swreq_lexicon.Views.{LexiconView}
use Rattle.swreq_world.specs.swreq_lowering.declared.ids.Written.{Written}
use Rattle.swreq_world.specs.Closed.{IsClosed}
use Rattle.swreq_world.specs.Worlds.{TextWorld}
use Rattle.swreq_symbols.proofs.Symbols.{symbols_law, text_law}
use Rattle.swreq_symbols.specs.Known.{IsRequirementIn}
use Rattle.swreq_symbols.specs.Meaning.{facts_of, symbols_of}
use Rattle.swreq_valid.specs.declared.refused.Refused.{Refused}
use Rattle.swreq_valid.specs.Answers.{Answers}
use Rattle.swreq_valid.specs.Built.{Builds, Judges, protocol_rules, refusal}
use Rattle.swreq_valid.specs.Keeping.{TellEach, TellUsable, kept_facts}
use Rattle.swreq_valid.specs.Protocols.{AreRulesOf, ProtocolsView, protocols_of}
use Rattle.swreq_valid.specs.Plans.{AreKnown, AreWritten, bare}
use Rattle.swreq_valid.specs.Rounds.{RoundView, last_rules}
use Rattle.swreq_valid.specs.Sides.{IsShownSide, protocol_sides}
use Rattle.swreq_valid.proofs.Building.{builds_failed, builds_judged}
use Rattle.swreq_valid.proofs.OfKept.{kept_of_text, tell_usable}
use Rattle.swreq_valid.proofs.Valid.{protocol_shown, protocol_valid}

pub written_known : (terms : List Term) (x : LexiconView) (written : List Written) (list : List Requirement) → list ≡ bare written
    → AreWritten terms x written → AreKnown terms x list
written_known terms x written list e h r c =
    let q = contains_of_map (λ (z : Written). z.requirement) written r (subst (λ z. Contains z r) e c) in
    subst (IsRequirementIn terms x) (sym q.2) (h q.0 q.1)

-- ---- the protocols

module _ (w : TextWorld) (closed : IsClosed w) (limits : Limits) (old new : Option (List Event)) where
  pub protocols_failed : (e : Failed) (r : Refused) → r ≡ refusal e → Answers limits (protocols_of w) old new (Err e)
      → Builds limits (protocols_of w) (facts_of w) (protocol_sides w) old new (Err r)
  protocols_failed e r k a =
      subst (λ z. Builds limits (protocols_of w) (facts_of w) (protocol_sides w) old new (Err z)) (sym k)
      (builds_failed limits (protocols_of w) (facts_of w) (protocol_sides w) e old new a)

  pub protocols_judged : (rounds : List RoundView) (answer : Result ProtocolsView Refused)
      → Answers limits (protocols_of w) old new (Ok (last_rules rounds))
      → AreRulesOf w (last_rules rounds) → Judges (IsShownSide (symbols_of w.lexicon) (facts_of w) (last_rules rounds)) (protocol_sides w)
      (last_rules rounds) (protocol_rules answer)
      → Builds limits (protocols_of w) (facts_of w) (protocol_sides w) old new (protocol_rules answer)
  protocols_judged rounds answer a are judged =
      builds_judged limits (protocols_of w) (facts_of w) (protocol_sides w)
      (IsShownSide (symbols_of w.lexicon) (facts_of w) (last_rules rounds)) (last_rules rounds)
      (protocol_rules answer) old new (λ s c h. protocol_valid w closed (last_rules rounds) are s c h)
      (λ s c h. protocol_shown w closed (last_rules rounds) are s c h) a judged

-- ---- usable requirements

pub build_usable : (w : TextWorld) → IsClosed w → (rules : List Rule) → AreRulesOf w rules → (answer : Result ProtocolsView Refused)
    → IfOk answer (λ p. TellEach w rules p.usable (length w.lexicon.protocols)) → IfOk answer (λ p. TellUsable w (facts_of w) p.usable)
build_usable w closed rules are (Ok p) h =
    tell_usable w closed (facts_of w) refl (symbols_law w closed) (text_law w closed) rules are p.usable h
build_usable w closed rules are (Err e) h = tt

pub kept_usable : (w : TextWorld) → IsClosed w → (keep : List (List Bool)) (rules : List Rule)
    → AreProtocolRules (symbols_of w.lexicon) (kept_facts w keep) rules → (flags : List (List Bool))
    → TellEach w rules flags (length w.lexicon.protocols) → TellUsable w (kept_facts w keep) flags
kept_usable w closed keep rules are flags h =
    tell_usable w closed (kept_facts w keep) refl (symbols_law w closed) (kept_of_text w closed keep) rules are flags h
