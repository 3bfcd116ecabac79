-- Type parameters as they are read: a generic parameter, and steps with a dot before each.
use Rattle.std.proofs.Common.{◌≡◌, ◌∙◌, ◌&&◌, ◌==◌, ◌++◌, ◌∷◌, [], refl, sym, ap, ap₂, subst, ℕ, false, true, List}
use Rattle.std.specs.Prelude.{not}
use Rattle.std.specs.Fmt.{decimal}
use Rattle.std.specs.List.{AllByRecursion, list_all}
use Rattle.std.proofs.lemmas.Bool.{and_parts}
use Rattle.std.proofs.lemmas.List.{append-nil}
use Rattle.swreq_print.specs.swreq_lexicon.Lexicons.{pair}
use Rattle.swreq_print.specs.swreq_lexicon.Views.{IsName, IsProtocol, LexiconView}
use Rattle.swreq_print.specs.swreq_lowering.OfText.{IsStepOf, IsTermOf}
use Rattle.swreq_print.specs.swreq_param.ComparisonLaws.{steps_of}
use Rattle.swreq_print.specs.swreq_param.declared.ids.AssocId.{AssocId}
use Rattle.swreq_print.specs.swreq_param.declared.ids.NameId.{NameId}
use Rattle.swreq_print.specs.swreq_param.declared.ids.ParamId.{ParamId}
use Rattle.swreq_print.specs.swreq_param.declared.ids.ProtoId.{ProtoId}
use Rattle.swreq_print.specs.swreq_param.declared.ids.Step.{Step}
use Rattle.swreq_print.specs.swreq_param.declared.ids.Step.TheVariants.{Bound, Name}
use Rattle.swreq_print.specs.swreq_param.declared.owned.TypeParam.{TypeParam}
use Rattle.swreq_print.specs.swreq_param.Owned.{as_term}
use Rattle.swreq_print.specs.swreq_param.OwnedLaws.{heads_same}
use Rattle.swreq_print.specs.swreq_param.Terms.{Term, head, with_steps}
use Rattle.swreq_print.specs.swreq_param.Terms.Term.{Generic, Member}
use Rattle.swreq_print.specs.Names.{Text, name_text, pair_at, protocol_name}
use Rattle.swreq_print.specs.Reading.{HasNumbers, IsAssociated, IsReadableType, TellsApart, in_name}
use Rattle.swreq_print.specs.Types.{bound_text, param_text, step_text, steps_text, type_text}
use Rattle.swreq_print.proofs.Steps.{by_steps, each_step, steps_of_text}
use Rattle.swreq_lines.specs.Pieces.{Ends, IsWithout, behind}
use Rattle.swreq_lines.proofs.Cuts.{without_append}
use Rattle.swreq_lines.proofs.Digits.{number_without}
use Rattle.swreq_lines.proofs.Names.{name_without, protocol_without}
use Rattle.swreq_lines.proofs.ReadNumbers.{ReadsTo}

-- ---- generic parameters

-- The two numbers after the underscores.
pub numbers_of_param : (g : ParamId) (text tau behind_tau depth index : Text) → HasNumbers g → ReadsTo 95 text tau behind_tau
    → ReadsTo 95 behind_tau depth index
    → text ≡ param_text g → (depth ≡ decimal g.depth) × (index ≡ decimal g.index)
numbers_of_param g text tau behind_tau depth index h first second e =
    let k = first (207 ∷ 132 ∷ []) (95 ∷ (decimal g.depth ++ (95 ∷ decimal g.index))) refl refl e in
    second (decimal g.depth) (95 ∷ decimal g.index) (number_without 95 refl g.depth h.0) refl k.1

-- A generic parameter has no dot and no space.
param_without : (byte : ℕ) → (not (207 == byte) && (not (132 == byte) && not (95 == byte))) ≡ true → (g : ParamId) → HasNumbers g
    → IsWithout byte (decimal g.depth) → IsWithout byte (decimal g.index) → IsWithout byte (param_text g)
param_without byte h g n d i =
    let p = and_parts (not (207 == byte)) _ h in
    let q = and_parts (not (132 == byte)) _ p.1 in
    let index : IsWithout byte (95 ∷ decimal g.index) = ap₂ (λ a b. a && b) q.1 i in
    let depth : IsWithout byte (95 ∷ (decimal g.depth ++ (95 ∷ decimal g.index))) =
    ap₂ (λ a b. a && b) q.1 (without_append byte (decimal g.depth) (95 ∷ decimal g.index) d index) in
    ap₂ (λ a b. a && b) p.0 (ap₂ (λ a b. a && b) q.0 depth)

pub no_dot : (g : ParamId) → HasNumbers g → IsWithout 46 (param_text g)
no_dot g h =
    param_without 46 refl g h (number_without 46 refl g.depth h.0) (number_without 46 refl g.index h.1)

no_space : (g : ParamId) → HasNumbers g → IsWithout 32 (param_text g)
no_space g h =
    param_without 32 refl g h (number_without 32 refl g.depth h.0) (number_without 32 refl g.index h.1)

-- ---- type parameters by their steps

module _ (x : LexiconView) where
  steps_end : (steps : List Step) → Ends 46 (steps_text x steps)
  steps_end [] = tt
  steps_end (Name a ∷ steps) = refl
  steps_end (Bound d ∷ steps) = refl

  behind_step : (s : Step) (rest : Text) → behind (step_text x s ++ rest) ≡ behind (step_text x s) ++ rest
  behind_step (Name a) rest = refl
  behind_step (Bound d) rest = refl

  -- ---- type parameters by themselves

  all_steps : (t : Term) (steps : List Step) → IsTermOf x t → AllByRecursion (IsStepOf x) steps → IsTermOf x (with_steps t steps)
  all_steps t [] h k = h
  all_steps t (s ∷ steps) h k = all_steps (Member t s) steps (h, k.0) k.1

  pub readable_by_steps : (t : TypeParam) → HasNumbers t.head → AllByRecursion (IsStepOf x) t.steps → IsReadableType x (as_term t)
  readable_by_steps t n h = (subst HasNumbers (sym (heads_same (Generic t.head) t.steps)) n, all_steps (Generic t.head) t.steps tt h)

  pub by_steps_readable : (t : TypeParam) → IsReadableType x (as_term t) → AllByRecursion (IsStepOf x) t.steps
  by_steps_readable t h = (steps_of_text x (Generic t.head) t.steps h.1).1

module _ {x : LexiconView} (names : TellsApart x) where
  -- ---- one step

  bound_without : (byte : ℕ) → in_name byte ≡ false → not (91 == byte) ≡ true → not (93 == byte) ≡ true
      → (d : AssocId) → IsStepOf x (Bound d)
      → IsWithout byte (bound_text x (pair_at x d))
  bound_without byte n l r d h =
      let p = names.pairs d h in
      let name : IsWithout byte (93 ∷ name_text x (pair_at x d).name) =
      ap₂ (λ a b. a && b) r (name_without names byte n (pair_at x d).name p.1) in
      ap₂ (λ a b. a && b) l
      (without_append byte (protocol_name x (pair_at x d).proto) (93 ∷ name_text x (pair_at x d).name)
      (protocol_without names byte n (pair_at x d).proto p.0) name)

  step_without : (byte : ℕ) → in_name byte ≡ false → not (91 == byte) ≡ true → not (93 == byte) ≡ true → (s : Step) → IsStepOf x s
      → IsWithout byte (behind (step_text x s))
  step_without byte n l r (Name a) h = name_without names byte n a h
  step_without byte n l r (Bound d) h = bound_without byte n l r d h

  -- A name is not empty, nor is a step.
  empty_name : (a : NameId) → IsName x a → name_text x a ≡ [] → ⊥
  empty_name a h e = let p = names.names a h in let bad : p.first ∷ p.rest ≡ [] = sym p.is ∙ e in cc

  some_step : (s : Step) (rest : Text) → IsStepOf x s → behind (step_text x s ++ rest) ≡ [] → ⊥
  some_step (Name a) rest h e =
      let p = names.names a h in let bad : p.first ∷ (p.rest ++ rest) ≡ [] = ap (λ z. z ++ rest) (sym p.is) ∙ e in cc
  some_step (Bound d) rest h e = cc

  module _ (s : Step) (text before_bracket behind_bracket : Text) (h : IsStepOf x s)
      (bracket : ReadsTo 91 text before_bracket behind_bracket) where
    -- With a bracket in front it is the bound step of this protocol and this name.
    pub bound_step : (proto name : Text) (p : ProtoId) (a : NameId) (d : AssocId) → ReadsTo 93 behind_bracket proto name
        → ((q : ProtoId) → IsProtocol x q → proto ≡ protocol_name x q → p ≡ q) → ((b : NameId) → IsName x b → name ≡ name_text x b → a ≡ b)
        → ((e : AssocId) → IsAssociated x e → pair p a ≡ pair_at x e → d ≡ e) → before_bracket ≡ []
        → text ≡ behind (step_text x s) → Bound d ≡ s
    bound_step proto name p a d close as_protocol as_name as_associated none e = by s h e
      where
        by : (s : Step) → IsStepOf x s → text ≡ behind (step_text x s) → Bound d ≡ s
        by (Name b) h e = absurd (empty_name b h
            (sym (bracket (name_text x b) [] (name_without names 91 refl b h) tt (e ∙ sym (append-nil (name_text x b)))).0 ∙ none))
        by (Bound q) h e =
            let k = bracket [] (91 ∷ (protocol_name x (pair_at x q).proto ++ (93 ∷ name_text x (pair_at x q).name))) refl refl e in
            let o = names.pairs q h in
            let j = close (protocol_name x (pair_at x q).proto) (93 ∷ name_text x (pair_at x q).name)
            (protocol_without names 93 refl (pair_at x q).proto o.0) refl k.1 in
            let proto_is = as_protocol (pair_at x q).proto o.0 j.0 in
            let name_is = as_name (pair_at x q).name o.1 j.1 in
            ap Bound (as_associated q h (λ i. record { proto = proto_is i; name = name_is i }))

    -- Without it is a name.
    pub name_step : (a : NameId) → ((b : NameId) → IsName x b → text ≡ name_text x b → a ≡ b) → (before_bracket ≡ [] → ⊥)
        → text ≡ behind (step_text x s)
        → Name a ≡ s
    name_step a as_name some e = by s h e
      where
        by : (s : Step) → IsStepOf x s → text ≡ behind (step_text x s) → Name a ≡ s
        by (Name b) h e = ap Name (as_name b h e)
        by (Bound q) h e =
            absurd (some (bracket [] (91 ∷ (protocol_name x (pair_at x q).proto ++ (93 ∷ name_text x (pair_at x q).name))) refl refl e).0)

  -- ---- many steps

  -- The steps that are left begin with one.
  pub record IsNext (steps : List Step) (piece rest : Text) : Type 0 where
    pub first : Step
    pub others : List Step
    pub are : steps ≡ first ∷ others
    pub of_text : IsStepOf x first
    pub others_of_text : AllByRecursion (IsStepOf x) others
    pub piece_is : piece ≡ behind (step_text x first)
    pub rest_is : rest ≡ behind (steps_text x others)

  pub next_step : (steps : List Step) (text piece rest : Text) → AllByRecursion (IsStepOf x) steps → (text ≡ [] → ⊥)
      → text ≡ behind (steps_text x steps)
      → ReadsTo 46 text piece rest → IsNext steps piece rest
  next_step [] text piece rest h some e reads = absurd (some e)
  next_step (s ∷ steps) text piece rest h some e reads =
      let r = reads (behind (step_text x s)) (steps_text x steps) (step_without 46 refl refl refl s h.0) (steps_end x steps)
      (e ∙ behind_step x s (steps_text x steps)) in
      record { first = s; others = steps; are = refl; of_text = h.0; others_of_text = h.1; piece_is = r.0; rest_is = r.1 }

  -- At the end no step is left.
  pub no_step : (steps : List Step) (text : Text) → AllByRecursion (IsStepOf x) steps → text ≡ []
      → text ≡ behind (steps_text x steps) → steps ≡ []
  no_step [] text h none e = refl
  no_step (s ∷ steps) text h none e = absurd (some_step s (steps_text x steps) h.0 (sym e ∙ none))

  -- ---- type parameters

  -- The generic parameter, and the steps after the first dot.
  pub parts_of_type : (t : Term) (text param steps : Text) → IsReadableType x t → ReadsTo 46 text param steps → text ≡ type_text x t
      → (param ≡ param_text (head t)) × (steps ≡ behind (steps_text x (steps_of t)))
  parts_of_type t text param steps h reads e =
      reads (param_text (head t)) (steps_text x (steps_of t)) (no_dot (head t) h.0) (steps_end x (steps_of t)) (e ∙ by_steps x t)

  steps_without : (steps : List Step) → AllByRecursion (IsStepOf x) steps → IsWithout 32 (steps_text x steps)
  steps_without [] h = refl
  steps_without (Name a ∷ steps) h =
      without_append 32 (46 ∷ name_text x a) (steps_text x steps) (step_without 32 refl refl refl (Name a) h.0) (steps_without steps h.1)
  steps_without (Bound d ∷ steps) h =
      without_append 32 (46 ∷ bound_text x (pair_at x d)) (steps_text x steps) (step_without 32 refl refl refl (Bound d) h.0)
      (steps_without steps h.1)

  -- The text of a type parameter has no space.
  pub type_without : (t : Term) → IsReadableType x t → IsWithout 32 (type_text x t)
  type_without t h =
      ap (λ z. list_all (λ c. not (c == 32)) z) (by_steps x t)
      ∙ without_append 32 (param_text (head t)) (steps_text x (steps_of t)) (no_space (head t) h.0)
      (steps_without (steps_of t) (each_step x t h.1))
