-- Reduction by the rules of a signature's history shows what is derivable from its list.
use Rattle.std.proofs.Common.{List, []}
use Rattle.swreq_machine.specs.{swreq_rule.declared.rules.Rule.{Rule}, swreq_complete.{Alike.{ReduceAlike}, Complete.{IsComplete}}}
use Rattle.swreq_machine.specs.{swreq_param.declared.ids.ParamId.{ParamId}, swreq_derive.Derivation.{Derivable, Source, TermFacts}}
use Rattle.swreq_machine.specs.swreq_derive.Derivation.{TermRequirement, Source.{Written}, TermRequirement.{Conforms, Equals, IsAnyObject}}
use Rattle.swreq_machine.specs.{swreq_derive.Derivation.TermStatement.{Requires}, swreq_correspondence.Equations.{Linking, UsableEquation}}
use Rattle.swreq_machine.specs.swreq_correspondence.{Shown.{Shows, ShowsUsable}, Symbols.{AreOfText, AreSymbolsOf, IsInText, Symbols, Word}}
use Rattle.swreq_machine.specs.{swreq_correspondence.Symbols.{left_side, right_side}, swreq_rounds.Presents.{AreListRules}}
use Rattle.swreq_machine.proofs.swreq_correspondence.{Chained.{chained_usable}, Shown.{shown_by_more}}
use Rattle.swreq_machine.proofs.swreq_complete.Alike.{linked_are_alike}
use Rattle.swreq_births.proofs.Ends.{alike_back}

module _ (m : Symbols) (f : TermFacts) (fit : AreSymbolsOf m f) (ranges : AreOfText m f) (rules : List Rule) (gs : List ParamId)
    (rs : List TermRequirement)
    (are : AreListRules m f gs rs rules) (complete : IsComplete rules) (n : IsInText m (Written gs rs)) where
  abbrev L : Source
  L = Written gs rs

  alike : (u v : Word) → Linking (UsableEquation m f L) u v → ReduceAlike rules u v
  alike u v h = linked_are_alike rules complete u v ((are u v).1 h)

  shows : (r : TermRequirement) → Derivable f L (Requires r) → Shows m f L (Linking (UsableEquation m f L)) (Requires r)
  shows r e = chained_usable m fit ranges n e

  back : (u v : Word) → Linking (UsableEquation m f L) u v → ReduceAlike rules v u
  back u v h = alike_back rules u v (alike u v h)

  pub asked_shown : (r : TermRequirement) → Derivable f L (Requires r)
      → ShowsUsable m f L (ReduceAlike rules) r × ReduceAlike rules (right_side m L r) (left_side m L r)
  asked_shown (Conforms t p) e =
      let h = shows (Conforms t p) e in
      (shown_by_more m f L (Linking (UsableEquation m f L)) (ReduceAlike rules) alike t h.1, back _ _ (h.2 []))
  asked_shown (IsAnyObject t) e =
      let h = shows (IsAnyObject t) e in
      (shown_by_more m f L (Linking (UsableEquation m f L)) (ReduceAlike rules) alike t h.0, back _ _ (h.1 []))
  asked_shown (Equals t u) e =
      let h = shows (Equals t u) e in (
        (
          shown_by_more m f L (Linking (UsableEquation m f L)) (ReduceAlike rules) alike t h.0,
          shown_by_more m f L (Linking (UsableEquation m f L)) (ReduceAlike rules) alike u h.1,
        ),
        back _ _ (h.2 []),
      )
