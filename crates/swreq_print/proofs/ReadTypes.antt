-- The text of a type parameter says which one it is.
use Rattle.std.proofs.Common.{◌≡◌, ◌∙◌, ◌==◌, ◌++◌, ◌∷◌, ◌<◌, ◌^◌, [], ap, ap₂, refl, sym, ℕ, Bool, true, false, List, true≢false, arith, if◌then◌else◌}
use Rattle.std.specs.List.{list_all, AllByRecursion}
use Rattle.std.proofs.lemmas.Bool.{and_parts}
use Rattle.std.proofs.lemmas.List.{append_assoc}
use Rattle.std.proofs.lemmas.Fmt.{decimal_is_IsNumeral}
use Rattle.std.specs.Str.Parse.{digits_value}
use Rattle.std.specs.Fmt.{decimal}
use Rattle.swreq_lexicon.specs.swreq_param.declared.ids.NameId.{NameId}
use Rattle.swreq_lexicon.specs.swreq_param.declared.ids.ParamId.{ParamId}
use Rattle.swreq_lexicon.specs.swreq_param.declared.ids.ProtoId.{ProtoId}
use Rattle.swreq_lexicon.specs.swreq_param.declared.ids.Step.{Step}
use Rattle.swreq_lexicon.specs.swreq_param.declared.ids.Step.TheVariants.{Bound, Name}
use Rattle.swreq_lexicon.specs.swreq_param.Terms.{Term, head, with_steps}
use Rattle.swreq_lexicon.specs.swreq_param.Terms.Term.{Generic}
use Rattle.swreq_lexicon.specs.swreq_param.ComparisonLaws.{as_steps, steps_of}
use Rattle.swreq_lexicon.specs.declared.pair.ProtocolName.{ProtocolName}
use Rattle.swreq_lexicon.specs.Views.{LexiconView, IsName, IsProtocol}
use Rattle.swreq_print.specs.Names.{Text, protocol_name, name_text, pair_at}
use Rattle.swreq_print.specs.Types.{param_text, bound_text, step_text, steps_text, type_text}
use Rattle.swreq_lowering.specs.OfText.{IsStepOf}
use Rattle.swreq_print.specs.Reading.{in_name, IsPair, TellsApart, HasNumbers, IsReadableType}
use Rattle.swreq_print.proofs.Cutting.{Stops, cut, rest_of, first_of, empty_not}
use Rattle.swreq_print.proofs.Digits.{in_number, digits_only}
use Rattle.swreq_print.proofs.Steps.{by_steps, each_step}

-- ---- numbers and generic parameters

pub decimal_read : (a b : ℕ) (x y : Text) → a < 2 ^ 64 → b < 2 ^ 64 → Stops in_number x → Stops in_number y
    → decimal a ++ x ≡ decimal b ++ y
    → (a ≡ b) × (x ≡ y)
decimal_read a b x y la lb sx sy e =
    let c = cut in_number (decimal a) (decimal b) x y (digits_only a la) (digits_only b lb) sx sy e in
    (sym (decimal_is_IsNumeral a la).1 ∙ ap (digits_value 10) c.0 ∙ (decimal_is_IsNumeral b lb).1, c.1)

pub param_read : (g h : ParamId) (x y : Text) → HasNumbers g → HasNumbers h → Stops in_number x → Stops in_number y
    → param_text g ++ x ≡ param_text h ++ y → (g ≡ h) × (x ≡ y)
unfolding rest_of
param_read g h x y (ld, li) (le, lj) sx sy eq =
    let tails : (decimal g.depth ++ (95 ∷ decimal g.index)) ++ x ≡ (decimal h.depth ++ (95 ∷ decimal h.index)) ++ y
    = ap (λ t. rest_of (rest_of (rest_of t))) eq in
    let inner =
    sym (append_assoc (decimal g.depth) (95 ∷ decimal g.index) x) ∙ (tails ∙ append_assoc (decimal h.depth) (95 ∷ decimal h.index) y) in
    let m =
    decimal_read g.depth h.depth (95 ∷ (decimal g.index ++ x)) (95 ∷ (decimal h.index ++ y)) (omega arith) (omega arith) refl refl inner in
    let n = decimal_read g.index h.index x y (omega arith) (omega arith) sx sy (ap rest_of m.1) in
    ((λ i. record { depth = m.0 i; index = n.0 i }), n.1)

-- ---- what may follow a type parameter

-- a byte of a name, or a dot
abbrev pub in_type : ℕ → Bool
in_type c = if c == 46 then true else in_name c

ends_name : (b : Bool) (c : ℕ) → (if b then true else in_name c) ≡ false → in_name c ≡ false
ends_name true c e = absurd (true≢false e)
ends_name false c e = e

-- What ends a type ends a name.
pub stops_name : (x : Text) → Stops in_type x → Stops in_name x
stops_name [] s = tt
stops_name (c ∷ x) s = ends_name (c == 46) c s

abbrev pub EndsType : Text → Type 0
EndsType x = Stops in_type x × Stops in_number x

-- ---- type parameters by their steps

module _ (x : LexiconView) (names : TellsApart x) where
  pub name_read : (a b : NameId) (v w : Text) → IsName x a → IsName x b → Stops in_name v → Stops in_name w
      → name_text x a ++ v ≡ name_text x b ++ w → (a ≡ b) × (v ≡ w)
  name_read a b v w oa ob sv sw e =
      let c = cut in_name (name_text x a) (name_text x b) v w (names.names a oa).bytes (names.names b ob).bytes sv sw e in
      (names.one_name a b oa ob c.0, c.1)

  pub protocol_read : (p q : ProtoId) (v w : Text) → IsProtocol x p → IsProtocol x q → Stops in_name v → Stops in_name w
      → protocol_name x p ++ v ≡ protocol_name x q ++ w → (p ≡ q) × (v ≡ w)
  protocol_read p q v w op oq sv sw e =
      let c = cut in_name (protocol_name x p) (protocol_name x q) v w (names.protocols p op).bytes (names.protocols q oq).bytes sv sw e in
      (names.one_protocol p q op oq c.0, c.1)

  -- A name does not begin with a bracket.
  no_bracket : (a : NameId) (v w : Text) → IsName x a → name_text x a ++ v ≡ 91 ∷ w → ⊥
  unfolding first_of
  no_bracket a v w oa e =
      let p = names.names a oa in
      let first : p.first ≡ 91 = ap (first_of 0) (ap (λ t. t ++ v) (sym p.is) ∙ e) in
      absurd (true≢false (sym (and_parts (in_name p.first) _ (ap (list_all in_name) (sym p.is) ∙ p.bytes)).0 ∙ ap in_name first))

  bound_read : (d e : ProtocolName) (v w : Text) → IsPair x d → IsPair x e → Stops in_name v → Stops in_name w
      → bound_text x d ++ v ≡ bound_text x e ++ w → (d ≡ e) × (v ≡ w)
  unfolding rest_of
  bound_read d e v w od oe sv sw eq =
      let tails : (protocol_name x d.proto ++ (93 ∷ name_text x d.name)) ++ v ≡ (protocol_name x e.proto ++ (93 ∷ name_text x e.name)) ++ w
      = ap rest_of eq in
      let inner = sym (append_assoc (protocol_name x d.proto) (93 ∷ name_text x d.name) v)
      ∙ (tails ∙ append_assoc (protocol_name x e.proto) (93 ∷ name_text x e.name) w) in
      let k = protocol_read d.proto e.proto (93 ∷ (name_text x d.name ++ v)) (93 ∷ (name_text x e.name ++ w)) od.0 oe.0 refl refl inner in
      let j = name_read d.name e.name v w od.1 oe.1 sv sw (ap rest_of k.1) in
      ((λ i. record { proto = k.0 i; name = j.0 i }), j.1)

  step_read : (s t : Step) (v w : Text) → IsStepOf x s → IsStepOf x t → Stops in_name v → Stops in_name w
      → step_text x s ++ v ≡ step_text x t ++ w → (s ≡ t) × (v ≡ w)
  unfolding rest_of
  step_read (Name a) (Name b) v w os ot sv sw e = let k = name_read a b v w os ot sv sw (ap rest_of e) in (ap Name k.0, k.1)
  step_read (Name a) (Bound d) v w os ot sv sw e = absurd (no_bracket a v _ os (ap rest_of e))
  step_read (Bound d) (Name b) v w os ot sv sw e = absurd (no_bracket b w _ ot (sym (ap rest_of e)))
  step_read (Bound d) (Bound g) v w os ot sv sw e =
      let k = bound_read (pair_at x d) (pair_at x g) v w (names.pairs d os) (names.pairs g ot) sv sw (ap rest_of e) in
      (ap Bound (names.one_pair d g os ot k.0), k.1)

  steps_stop : (xs : List Step) (v : Text) → Stops in_name v → Stops in_name (steps_text x xs ++ v)
  steps_stop [] v s = s
  steps_stop (Name a ∷ xs) v s = refl
  steps_stop (Bound d ∷ xs) v s = refl

  steps_end : (xs : List Step) (v : Text) → Stops in_number v → Stops in_number (steps_text x xs ++ v)
  steps_end [] v s = s
  steps_end (Name a ∷ xs) v s = refl
  steps_end (Bound d ∷ xs) v s = refl

  -- A step begins with a dot.
  no_dot : (s : Step) (v w : Text) → Stops in_type v → v ≡ step_text x s ++ w → ⊥
  unfolding first_of
  no_dot (Name a) [] w stop e = empty_not _ _ e
  no_dot (Bound d) [] w stop e = empty_not _ _ e
  no_dot (Name a) (c ∷ v) w stop e = true≢false (sym (ap in_type (ap (first_of 0) e)) ∙ stop)
  no_dot (Bound d) (c ∷ v) w stop e = true≢false (sym (ap in_type (ap (first_of 0) e)) ∙ stop)

  steps_read : (xs ys : List Step) (v w : Text) → AllByRecursion (IsStepOf x) xs → AllByRecursion (IsStepOf x) ys
      → Stops in_type v → Stops in_type w
      → steps_text x xs ++ v ≡ steps_text x ys ++ w → (xs ≡ ys) × (v ≡ w)
  steps_read [] [] v w ox oy sv sw e = (refl, e)
  steps_read [] (t ∷ ys) v w ox oy sv sw e =
      absurd (no_dot t v (steps_text x ys ++ w) sv (e ∙ append_assoc (step_text x t) (steps_text x ys) w))
  steps_read (s ∷ xs) [] v w ox oy sv sw e =
      absurd (no_dot s w (steps_text x xs ++ v) sw (sym e ∙ append_assoc (step_text x s) (steps_text x xs) v))
  steps_read (s ∷ xs) (t ∷ ys) v w ox oy sv sw e =
      let k = step_read s t (steps_text x xs ++ v) (steps_text x ys ++ w) ox.0 oy.0 (steps_stop xs v (stops_name v sv))
      (steps_stop ys w (stops_name w sw))
      (sym (append_assoc (step_text x s) (steps_text x xs) v) ∙ e ∙ append_assoc (step_text x t) (steps_text x ys) w) in
      let j = steps_read xs ys v w ox.1 oy.1 sv sw k.1 in
      (ap₂ (λ h r. h ∷ r) k.0 j.0, j.1)

  -- ---- the whole text

  pub type_read : (t u : Term) (v w : Text) → IsReadableType x t → IsReadableType x u → EndsType v → EndsType w
      → type_text x t ++ v ≡ type_text x u ++ w
      → (t ≡ u) × (v ≡ w)
  type_read t u v w ot ou sv sw e =
      let inner : param_text (head t) ++ (steps_text x (steps_of t) ++ v) ≡ param_text (head u) ++ (steps_text x (steps_of u) ++ w)
      = sym (append_assoc (param_text (head t)) (steps_text x (steps_of t)) v) ∙ (ap (λ z. z ++ v) (sym (by_steps x t)) ∙ (e
      ∙ (ap (λ z. z ++ w) (by_steps x u) ∙ append_assoc (param_text (head u)) (steps_text x (steps_of u)) w))) in
      let k = param_read (head t) (head u) (steps_text x (steps_of t) ++ v) (steps_text x (steps_of u) ++ w) ot.0 ou.0
      (steps_end (steps_of t) v sv.1) (steps_end (steps_of u) w sw.1) inner in
      let j = steps_read (steps_of t) (steps_of u) v w (each_step x t ot.1) (each_step x u ou.1) sv.0 sw.0 k.1 in
      (sym (as_steps t) ∙ (ap₂ (λ g xs. with_steps (Generic g) xs) k.0 j.0 ∙ as_steps u), j.1)
