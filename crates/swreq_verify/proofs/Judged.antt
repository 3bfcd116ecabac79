-- What is found of derivations over the ids of a table, and what that says over type parameters.
use Rattle.std.proofs.Common.{◌≡◌, ◌∙◌, refl, sym, ap, subst, ℕ, List, [], ◌∷◌, ◌++◌, length, map}
use Rattle.std.specs.Prelude.{Some, slice_get}
use Rattle.std.proofs.lemmas.List.{map-append}
use Rattle.swreq_world.proofs.swreq_lemmas.Elements.{get_contains, get_map}
use Rattle.swreq_world.specs.swreq_derive.declared.lines.DerivRule.{DerivRule}
use Rattle.swreq_world.specs.swreq_derive.declared.lines.DerivRule.TheVariants as Rule
use Rattle.swreq_world.specs.swreq_derive.declared.lines.Line.{Line}
use Rattle.swreq_world.specs.swreq_derive.declared.requirements.Requirement.TheVariants.{Conf, Layout, Same}
use Rattle.swreq_world.specs.swreq_derive.declared.requirements.Statement.{Statement}
use Rattle.swreq_world.specs.swreq_derive.declared.requirements.Statement.TheVariants.{Holds, Valid}
use Rattle.swreq_world.specs.swreq_derive.Derivation.{BookDerivable, TermFacts, TermRequirement, TermStatement}
use Rattle.swreq_world.specs.swreq_derive.Derivation.TermStatement.{Requires}
use Rattle.swreq_world.specs.swreq_derive.Facts.{IsStatementOver, generic_params, requirement_of, statement_of}
use Rattle.swreq_world.specs.swreq_derive.Instances.{IsDerivation, IsFirstBad, TermLine}
use Rattle.swreq_world.specs.swreq_derive.Lines.{AreDerived, AreLinesOf, IsFirstNotDerived, IsRuleOf, line_of}
use Rattle.swreq_world.proofs.swreq_derive.LineLemmas.{lines_hold}
use Rattle.swreq_lines.specs.GoodLines.{IsReadableLine, IsReadableStatement}
use Rattle.swreq_lines.specs.LineTexts.{HasRuleIds, HasStatementIds, fields_of}
use Rattle.swreq_world.specs.swreq_lowering.declared.ids.FuncId.{FuncId}
use Rattle.swreq_world.specs.swreq_lowering.declared.ids.Written.{Written}
use Rattle.swreq_world.specs.swreq_lowering.Queries.{TermQuery}
use Rattle.swreq_world.specs.swreq_param.declared.ids.ParamId.{ParamId}
use Rattle.swreq_world.specs.swreq_param.Terms.{Term}
use Rattle.swreq_symbols.proofs.OfText.{facts_are, requirements_placed, signature_is}
use Rattle.swreq_world.specs.ByTable.{world_by}
use Rattle.swreq_world.specs.FactsAt.{facts_at, facts_of, source_of, written_list}
use Rattle.swreq_world.specs.Worlds.{IdWorld, SignatureOver, TextWorld, signature_at}
use Rattle.swreq_verify.specs.declared.judging.Judgement.{Judgement}
use Rattle.swreq_verify.specs.declared.judging.Judgement.TheVariants.{Skipped, BadLine, Derived, NotThis}
use Rattle.swreq_verify.specs.declared.reading.Section.{Section}
use Rattle.swreq_verify.specs.Found.{IsFound}
use Rattle.swreq_verify.specs.Judgements.{EndsIn, IsDerivationFrom, IsFirstBadFrom, IsJudged, IsToDerive}
use Rattle.swreq_verify.specs.Laying.{IsSectionOver}
use Rattle.swreq_verify.specs.SecondParts.{TermSection}
use Rattle.swreq_verify.proofs.ReadBack.{at_place}

-- ---- ids of lines

module _ (w : IdWorld) (f : FuncId) where
  rule_over : (r : DerivRule) → HasRuleIds w.lexicon (fields_of r) → IsRuleOf (facts_at w f) r
  rule_over Rule.Generic h = tt
  rule_over (Rule.Conf n) h = tt
  rule_over (Rule.Same n) h = tt
  rule_over (Rule.Layout n) h = tt
  rule_over (Rule.AssocName p a) h = h
  rule_over (Rule.AssocDecl p a) h = h
  rule_over (Rule.AssocBind p a) h = h
  rule_over (Rule.AssocConf p n) h = h.0
  rule_over (Rule.AssocSame p n) h = h.0
  rule_over (Rule.AssocLayout p n) h = h.0
  rule_over Rule.Reflex h = tt
  rule_over Rule.Symm h = tt
  rule_over Rule.Trans h = tt
  rule_over (Rule.SameConf p) h = h.0
  rule_over Rule.SameLayout h = tt
  rule_over (Rule.SameName p a) h = h
  rule_over (Rule.SameDecl p a) h = h

  module _ (terms : List Term) where
    statement_over : (st : Statement) → HasStatementIds terms st → IsReadableStatement w.lexicon (statement_of terms st)
        → IsStatementOver terms (facts_at w f) st
    statement_over (Valid t) h r = h
    statement_over (Holds (Conf t p)) h r = (h, r.1)
    statement_over (Holds (Layout t)) h r = h
    statement_over (Holds (Same t u)) h r = h

    pub lines_over : (s : Section) → IsSectionOver w.lexicon terms s → AreLinesOf terms (facts_at w f) s.derivation.items
    lines_over s h k l e =
        let ids = h.ids l (get_contains s.derivation.items k l e) in
        let readable =
        at_place (IsReadableLine w.lexicon) (map (line_of terms) s.derivation.items) k (line_of terms l) h.section.derivation
        (get_map (line_of terms) s.derivation.items k l e) in
        (rule_over l.rule ids.0, statement_over l.statement ids.1 readable.statement)

    -- ---- the list of the signature, over ids and over type parameters

    over_terms : (P : TermFacts → List ParamId → List TermRequirement → Type 0)
        → P (facts_of (world_by terms w)) (generic_params (signature_at w f).params) (map (requirement_of terms) (facts_at w f).written)
        → P (facts_of (world_by terms w)) (generic_params (signature_at (world_by terms w) f).params)
        (written_list (signature_at (world_by terms w) f))
    over_terms P h =
        let g : SignatureOver Written = signature_at w f in
        let placed = subst (P (facts_of (world_by terms w)) (generic_params g.params)) (requirements_placed terms g.requirements) h in
        subst (λ G. P (facts_of (world_by terms w)) (generic_params G.params) (written_list G)) (sym (signature_is w terms f)) placed

    pub derivation_from : (ls : List Line) → AreDerived terms (facts_at w f) ls
        → IsDerivationFrom (world_by terms w) f (map (line_of terms) ls)
    derivation_from ls d =
        over_terms (λ F gs rs. IsDerivation F gs rs (map (line_of terms) ls))
        (subst (λ F.
        IsDerivation F (generic_params (signature_at w f).params) (map (requirement_of terms) (facts_at w f).written)
        (map (line_of terms) ls)) (facts_are w terms f) d)

    pub first_bad_from : (ls : List Line) (n : ℕ) → IsFirstNotDerived terms (facts_at w f) ls n
        → IsFirstBadFrom (world_by terms w) f (map (line_of terms) ls) n
    first_bad_from ls n b =
        over_terms (λ F gs rs. IsFirstBad F gs rs (map (line_of terms) ls) n)
        (subst (λ F.
        IsFirstBad F (generic_params (signature_at w f).params) (map (requirement_of terms) (facts_at w f).written)
        (map (line_of terms) ls) n) (facts_are w terms f) b)

-- ---- the last line

last_same : {A : Type 0} (xs ys : List A) (x y : A) → xs ++ (x ∷ []) ≡ ys ++ (y ∷ []) → x ≡ y
last_same [] [] x y e = cc
last_same [] (b ∷ []) x y e = absurd cc
last_same [] (b ∷ c ∷ ys) x y e = absurd cc
last_same (a ∷ []) [] x y e = absurd cc
last_same (a ∷ c ∷ xs) [] x y e = absurd cc
last_same (a ∷ xs) (b ∷ ys) x y e = last_same xs ys x y (let rest : xs ++ (x ∷ []) ≡ ys ++ (y ∷ []) = cc in rest)

at_end : {A : Type 0} (before : List A) (last : A) → slice_get (before ++ (last ∷ [])) (length before) ≡ Some last
at_end [] last = refl
at_end (x ∷ before) last = at_end before last

-- the place of the last element
pub last_at : {A : Type 0} (xs before : List A) (last : A) → xs ≡ before ++ (last ∷ []) → slice_get xs (length before) ≡ Some last
last_at xs before last e = ap (λ ls. slice_get ls (length before)) e ∙ at_end before last

pub no_end : (ls : List TermLine) (st : TermStatement) → ls ≡ [] → EndsIn ls st → ⊥
no_end ls st none (before, last, e, s) = by before (sym none ∙ e)
  where
    by : (b : List TermLine) → [] ≡ b ++ (last ∷ []) → ⊥
    by [] e = cc
    by (x ∷ b) e = cc

module _ (terms : List Term) (ls before : List Line) (last : Line) (e : ls ≡ before ++ (last ∷ [])) where
  pub ends : (st : TermStatement) → statement_of terms last.statement ≡ st → EndsIn (map (line_of terms) ls) st
  ends st same = (
    map (line_of terms) before,
    line_of terms last,
    ap (map (line_of terms)) e
        ∙ map-append (line_of terms) before (last ∷ []),
    same,
  )

  pub ends_so : (st : TermStatement) → EndsIn (map (line_of terms) ls) st → statement_of terms last.statement ≡ st
  ends_so st (b, l, f, s) =
      let same : line_of terms last ≡ l =
      last_same (map (line_of terms) before) b (line_of terms last) l
      (sym (ap (map (line_of terms)) e ∙ map-append (line_of terms) before (last ∷ [])) ∙ f) in
      ap (λ (k : TermLine). k.statement) same ∙ s

-- ---- judgements

module _ (w : TextWorld) (q : TermQuery) (s : TermSection) where
  pub found_judged : (r : TermRequirement) (j : Judgement) → IsToDerive q s r → IsFound w q.f r s.derivation j → IsJudged w q s j
  found_judged r Skipped d h = absurd h
  found_judged r (BadLine n) d h = (r, d, h)
  found_judged r Derived d h = (r, d, h.0, h.1)
  found_judged r NotThis d h = (r, d, h.0, h.1)

  -- the last line of a derivation is derivable
  pub ok_derivable : IsJudged w q s Derived
      → (r : TermRequirement) × IsToDerive q s r × BookDerivable (facts_of w) (source_of (signature_at w q.f)) (Requires r)
  ok_derivable (r, d, derivation, (before, last, e, same)) =
      let g = signature_at w q.f in (
        r,
        d,
        subst (λ st. BookDerivable (facts_of w) (source_of g) st) same
            (lines_hold (facts_of w) (generic_params g.params) (written_list g) s.derivation derivation (length before) last
            (last_at s.derivation before last e)),
      )
