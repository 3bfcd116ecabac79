-- Parts that are told one after the other.
use Rattle.std.proofs.Common.{◌≡◌, ◌∙◌, inl, inr, refl, sym, ap, subst, List, [], ◌++◌, Option, Result, Ok, Err, IsErrAnd, append-nil, append_assoc}
use Rattle.swreq_machine.specs.swreq_derive.Derivation.{TermRequirement}
use Rattle.swreq_machine.specs.swreq_rule.declared.rules.Rule.{Rule}
use Rattle.swreq_candidates.specs.swreq_watch.declared.events.Event.{Event}
use Rattle.swreq_candidates.proofs.swreq_watch.Told.{grew_none, grew_on}
use Rattle.swreq_machine.specs.swreq_complete.declared.limit.Limits.{Limits}
use Rattle.swreq_machine.specs.swreq_complete.declared.limit.Failed.{Failed}
use Rattle.swreq_machine.specs.swreq_complete.declared.limit.Failed.TheVariants.{Limit, Memory}
use Rattle.swreq_machine.specs.swreq_rounds.Plan.{Plan}
use Rattle.swreq_machine.specs.swreq_valid.Answers.{Answers}
use Rattle.swreq_candidates.specs.swreq_canonical.Generators.{Takes}
use Rattle.swreq_list_rules.specs.declared.setting.Setting.{Setting}
use Rattle.swreq_list_rules.specs.Settings.{facts_in, params_in, plan_in}
use Rattle.swreq_minimal.specs.Passed.{IsLeftWithout, IsPassed, IsTakenBefore}
use Rattle.swreq_minimal.specs.Told.{AreParts, FailsBy, Tells, TellsFailure, TellsParts}
use Rattle.swreq_minimal.specs.Told.AreParts.{a_part, no_part}

module _ (limits : Limits) (plan : List TermRequirement → Plan) where
  module _ (P : List TermRequirement → Type 0) where
    parts_on : (a b : List Event) → AreParts limits plan P a → AreParts limits plan P b → AreParts limits plan P (a ++ b)
    parts_on a b p no_part = subst (AreParts limits plan P) (sym (append-nil a)) p
    parts_on a b p (a_part {before = before} {part = part} list rules q one outcome e) =
        a_part list rules (parts_on a before p q) one outcome (ap (λ z. a ++ z) e ∙ sym (append_assoc a before part))

    fails_on : (a b : List Event) → AreParts limits plan P a → (failed : Failed) → FailsBy limits plan P failed b
        → FailsBy limits plan P failed (a ++ b)
    fails_on a b p (Limit which trace) s = record {
      before = a ++ s.before;
      part = s.part;
      list = s.list;
      parts = parts_on a s.before p s.parts;
      is_one = s.is_one;
      outcome = s.outcome;
      told_is = ap (λ z. a ++ z) s.told_is ∙ sym (append_assoc a s.before s.part);
    }
    fails_on a b p Memory (inl q) = inl (parts_on a b p q)
    fails_on a b p Memory (inr s) = inr (record {
      before = a ++ s.before;
      part = s.part;
      list = s.list;
      parts = parts_on a s.before p s.parts;
      is_one = s.is_one;
      comes = s.comes;
      told_is = ap (λ z. a ++ z) s.told_is ∙ sym (append_assoc a s.before s.part);
    })

    pub tells_none : (told : Option (List Event)) → TellsParts limits plan P told told
    tells_none told = ([], no_part, grew_none told)

    pub tells_on : (old mid new : Option (List Event)) → TellsParts limits plan P old mid → TellsParts limits plan P mid new
        → TellsParts limits plan P old new
    tells_on old mid new (a, p, g) (b, q, h) = (a ++ b, parts_on a b p q, grew_on old mid new a b g h)

    pub fails_after : (old mid new : Option (List Event)) → TellsParts limits plan P old mid → (failed : Failed)
        → TellsFailure limits plan P mid new failed → TellsFailure limits plan P old new failed
    fails_after old mid new (a, p, g) failed (b, q, h) = (a ++ b, fails_on a b p failed q, grew_on old mid new a b g h)

    pub wants_memory : (old new : Option (List Event)) → TellsParts limits plan P old new → TellsFailure limits plan P old new Memory
    wants_memory old new (a, p, g) = (a, inl p, g)

    pub wants_at_once : (told : Option (List Event)) → TellsFailure limits plan P told told Memory
    wants_at_once told = wants_memory told told (tells_none told)

  -- the same of other lists
  module _ (P Q : List TermRequirement → Type 0) (to : (list : List TermRequirement) → P list → Q list) where
    parts_of : (a : List Event) → AreParts limits plan P a → AreParts limits plan Q a
    parts_of a no_part = no_part
    parts_of a (a_part {before = before} list rules q one outcome e) = a_part list rules (parts_of before q) (to list one) outcome e

    fails_of : (a : List Event) (failed : Failed) → FailsBy limits plan P failed a → FailsBy limits plan Q failed a
    fails_of a (Limit which trace) s = record {
      before = s.before;
      part = s.part;
      list = s.list;
      parts = parts_of s.before s.parts;
      is_one = to s.list s.is_one;
      outcome = s.outcome;
      told_is = s.told_is;
    }
    fails_of a Memory (inl q) = inl (parts_of a q)
    fails_of a Memory (inr s) = inr (record {
      before = s.before;
      part = s.part;
      list = s.list;
      parts = parts_of s.before s.parts;
      is_one = to s.list s.is_one;
      comes = s.comes;
      told_is = s.told_is;
    })

    pub tells_of : (old new : Option (List Event)) → TellsParts limits plan P old new → TellsParts limits plan Q old new
    tells_of old new (a, p, g) = (a, parts_of a p, g)

    pub failure_of : (old new : Option (List Event)) (failed : Failed) → TellsFailure limits plan P old new failed
        → TellsFailure limits plan Q old new failed
    failure_of old new failed (a, p, g) = (a, fails_of a failed p, g)

  -- one of these lists more
  module _ (P : List TermRequirement → Type 0) (list : List TermRequirement) (one : P list) (old mid new : Option (List Event))
      (before : TellsParts limits plan P old mid) where
    is_one : (l : List TermRequirement) → l ≡ list → P l
    is_one l e = subst P (sym e) one

    pub tells_next : TellsParts limits plan (λ l. l ≡ list) mid new → TellsParts limits plan P old new
    tells_next h = tells_on P old mid new before (tells_of (λ l. l ≡ list) P is_one mid new h)

    pub fails_next : (failed : Failed) → TellsFailure limits plan (λ l. l ≡ list) mid new failed → TellsFailure limits plan P old new failed
    fails_next failed h = fails_after P old mid new before failed (failure_of (λ l. l ≡ list) P is_one mid new failed h)

  -- the rounds of one list
  module _ (list : List TermRequirement) where
    abbrev IsIt : List TermRequirement → Type 0
    IsIt l = l ≡ list

    pub one_part : (old new : Option (List Event)) (rules : List Rule) → Answers limits (plan list) old new (Ok rules)
        → TellsParts limits plan IsIt old new
    one_part old new rules (told, outcome, grew) = (told, a_part list rules no_part refl outcome refl, grew)

    pub one_failure : (old new : Option (List Event)) (failed : Failed) → Answers limits (plan list) old new (Err failed)
        → TellsFailure limits plan IsIt old new failed
    one_failure old new (Limit which trace) (told, outcome, grew) =
        (told, record { before = []; part = told; list = list; parts = no_part; is_one = refl; outcome = outcome; told_is = refl }, grew)
    one_failure old new Memory (told, comes, grew) =
        (told, inr (record { before = []; part = told; list = list; parts = no_part; is_one = refl; comes = comes; told_is = refl }), grew)

-- ---- what a call tells

module _ (s : Setting) (P : List TermRequirement → Type 0) where
  -- at the exit of a `?`
  pub stopped : {T : Type 0} (result : Result T Failed) (failed : Failed) (old new : Option (List Event))
      → IsErrAnd result (λ e. e ≡ failed) → TellsFailure s.limits (plan_in s) P old new failed → Tells s P result old new
  stopped (Ok x) failed old new is h = absurd is
  stopped (Err e) failed old new is h = subst (TellsFailure s.limits (plan_in s) P old new) (sym is) h

  -- there, where memory ran out after parts
  pub out_of_memory : {T : Type 0} (result : Result T Failed) (old new : Option (List Event)) → IsErrAnd result (λ e. e ≡ Memory)
      → TellsParts s.limits (plan_in s) P old new → Tells s P result old new
  out_of_memory result old new is h = stopped result Memory old new is (wants_memory s.limits (plan_in s) P old new h)

  -- there, before anything was told
  pub out_of_memory_at_once : {T : Type 0} (result : Result T Failed) (told : Option (List Event)) → IsErrAnd result (λ e. e ≡ Memory)
      → Tells s P result told told
  out_of_memory_at_once result told is = out_of_memory result told told is (tells_none s.limits (plan_in s) P told)

  -- after parts
  pub tells_after : {T : Type 0} (result : Result T Failed) (old mid new : Option (List Event)) → TellsParts s.limits (plan_in s) P old mid
      → Tells s P result mid new → Tells s P result old new
  tells_after (Ok x) old mid new before h = tells_on s.limits (plan_in s) P old mid new before h
  tells_after (Err e) old mid new before h = fails_after s.limits (plan_in s) P old mid new before e h

  -- the same of other lists
  pub tells_those : {T : Type 0} (Q : List TermRequirement → Type 0) → ((list : List TermRequirement) → P list → Q list)
      → (result : Result T Failed) (old new : Option (List Event)) → Tells s P result old new → Tells s Q result old new
  tells_those Q to (Ok x) old new h = tells_of s.limits (plan_in s) P Q to old new h
  tells_those Q to (Err e) old new h = failure_of s.limits (plan_in s) P Q to old new e h

-- ---- what minimising tells: what taking candidates tells, and then what dropping generators tells

module _ (s : Setting) (cs : List TermRequirement) where
  abbrev IsTaken : List TermRequirement → Type 0
  IsTaken = IsTakenBefore (facts_in s) (params_in s) cs

  abbrev pub IsOnTheWay : List TermRequirement → Type 0
  IsOnTheWay = IsPassed (facts_in s) (params_in s) cs

  pub taking_told : (old new : Option (List Event)) → TellsParts s.limits (plan_in s) IsTaken old new
      → TellsParts s.limits (plan_in s) IsOnTheWay old new
  taking_told old new h = tells_of s.limits (plan_in s) IsTaken IsOnTheWay (λ list one. inl one) old new h

  pub taking_failed : (old new : Option (List Event)) (failed : Failed) → TellsFailure s.limits (plan_in s) IsTaken old new failed
      → TellsFailure s.limits (plan_in s) IsOnTheWay old new failed
  taking_failed old new failed h = failure_of s.limits (plan_in s) IsTaken IsOnTheWay (λ list one. inl one) old new failed h

  module _ (gs : List TermRequirement) (takes : Takes (facts_in s) (params_in s) [] cs gs) (old mid new : Option (List Event))
      (taken : TellsParts s.limits (plan_in s) IsTaken old mid) where
    abbrev IsLeft : List TermRequirement → Type 0
    IsLeft = IsLeftWithout (facts_in s) (params_in s) gs

    on_the_way : (list : List TermRequirement) → IsLeft list → IsOnTheWay list
    on_the_way list one = inr (gs, takes, one)

    pub dropping_told : TellsParts s.limits (plan_in s) IsLeft mid new → TellsParts s.limits (plan_in s) IsOnTheWay old new
    dropping_told h =
        tells_on s.limits (plan_in s) IsOnTheWay old mid new (taking_told old mid taken)
        (tells_of s.limits (plan_in s) IsLeft IsOnTheWay on_the_way mid new h)

    pub dropping_failed : (failed : Failed) → TellsFailure s.limits (plan_in s) IsLeft mid new failed
        → TellsFailure s.limits (plan_in s) IsOnTheWay old new failed
    dropping_failed failed h =
        fails_after s.limits (plan_in s) IsOnTheWay old mid new (taking_told old mid taken) failed
        (failure_of s.limits (plan_in s) IsLeft IsOnTheWay on_the_way mid new failed h)
