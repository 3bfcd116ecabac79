-- The rounds of the protocols and of a list have ended: what their rules give.
use Rattle.std.proofs.Common.{List, [], sym, subst, length}
use Rattle.swreq_print.specs.swreq_derive.Derivation.Source.{Written}
use Rattle.swreq_print.specs.swreq_derive.Facts.{generic_params}
use Rattle.swreq_print.specs.swreq_rule.declared.rules.Rule.{Rule}
use Rattle.swreq_machine.specs.swreq_watch.declared.events.Event.{Event}
use Rattle.swreq_machine.specs.swreq_pair.CriticalPairs.{PairsMeet}
use Rattle.swreq_machine.specs.swreq_complete.declared.limit.Limits.{Limits}
use Rattle.swreq_machine.proofs.swreq_complete.Ended.{pairs_meet}
use Rattle.swreq_machine.specs.swreq_correspondence.Equations.{UsableEquation}
use Rattle.swreq_machine.specs.swreq_correspondence.Symbols.{IsInText}
use Rattle.swreq_machine.specs.swreq_rounds.Plan.{Item, Plan, given}
use Rattle.swreq_machine.specs.swreq_rounds.Presents.{AreListRules, AreProtocolRules, ProtocolEquation}
use Rattle.swreq_machine.specs.swreq_rounds.Rounds.{IsLastRound}
use Rattle.swreq_machine.proofs.swreq_rounds.LastRound.{list_law, protocols_law}
use Rattle.swreq_minimal.specs.swreq_candidates.Completed.{IsCompleted}
use Rattle.swreq_minimal.proofs.swreq_candidates.RulesGive.{least_words}
use Rattle.swreq_print.specs.swreq_lowering.Requirements.{PlacedRequirement}
use Rattle.swreq_machine.specs.swreq_world.Closed.{IsClosed}
use Rattle.swreq_machine.specs.swreq_world.Worlds.{SignatureOver, TextWorld}
use Rattle.swreq_machine.specs.swreq_symbols.Meaning.{facts_of, symbols_of}
use Rattle.swreq_machine.proofs.swreq_symbols.Symbols.{ranks_law, symbols_law, text_law}
use Rattle.swreq_machine.specs.Machines.{list_of}
use Rattle.swreq_machine.specs.swreq_valid.Protocols.{protocols_of}
use Rattle.swreq_minimal.proofs.Named.{members_named}
use Rattle.swreq_query.specs.Ended.{HasEnded}
use Rattle.swreq_machine.specs.swreq_world.FactsAt.{written_list}

-- no rules have pairs
none_meet : PairsMeet []
none_meet place left right p = absurd (let e = p.first_at.2 in cc)

-- The pairs of the rules of a last round meet where those of its base do.
last_meet : (limits : Limits) (plan : Plan) (used : List Item) (rules : List Rule) (told : List Event) → PairsMeet plan.base
    → IsLastRound limits plan used rules told → PairsMeet rules
last_meet limits plan used rules told meet last =
    pairs_meet (length plan.base) (given plan used) rules (subst PairsMeet (sym last.ends.0) meet) last.ends.1.ended

pub completed : (limits : Limits) (w : TextWorld) (g : SignatureOver PlacedRequirement) → IsClosed w
    → IsInText (symbols_of w.lexicon) (Written (generic_params g.params) (written_list g)) → HasEnded limits w g
    → IsCompleted (symbols_of w.lexicon) (facts_of w) (generic_params g.params) (written_list g)
completed limits w g closed in_text ended =
    let m = symbols_of w.lexicon in
    let f = facts_of w in
    let gs = generic_params g.params in
    let list = written_list g in
    let symbols = symbols_law w closed in
    let of_text = text_law w closed in
    let (used, last) = ended.of_protocols in
    let (own_used, own_last) = ended.of_list in
    let rules : AreProtocolRules m f ended.rules = protocols_law m f symbols of_text limits used ended.rules ended.first last in
    let own : AreListRules m f gs list ended.own =
    list_law m f symbols of_text limits ended.rules rules gs list in_text own_used ended.own ended.more own_last in
    let meet : PairsMeet ended.rules = last_meet limits (protocols_of w) used ended.rules ended.first none_meet last in
    let own_meet : PairsMeet ended.own =
    last_meet limits (list_of w ended.rules g.params list) own_used ended.own ended.more meet own_last in
    record {
      symbols = symbols;
      of_text = of_text;
      in_text = in_text;
      ranked = ranks_law w closed;
      named = members_named w closed;
      protocols = least_words ended.rules (ProtocolEquation m f) rules meet;
      of_list = least_words ended.own (UsableEquation m f (Written gs list)) own own_meet;
    }
