-- Written requirements with their numbers, and their equations.
use Rattle.std.proofs.Common.{◌≡◌, ◌∙◌, inl, inr, ℕ, zero, suc, ◌+◌, ◌-◌, ◌^◌, ◌<◌, ◌≤◌, All, Bool, List, [], ◌∷◌, ◌++◌, Option, Some, None}
use Rattle.std.proofs.Common.{ap, ap₂, append_assoc, arith, drop, get_or, length, map, refl, slice_get, subst, sym, take, take_all, true}
use Rattle.std.proofs.{Common.{false}, lemmas.{Bool.{cases_lt}, List.{append-nil, drop_all, drop_more, get_or_past, length-map}}}
use Rattle.std.proofs.lemmas.List.{map-append, Elements.{All-get_or}}
use Rattle.swreq_machine.proofs.swreq_lemmas.Elements.{contains_get, get_cases, get_contains, get_either, get_map, get_of_map}
use Rattle.swreq_machine.proofs.swreq_symbols.OfText.{own_requirements, protocol_written, signature_written}
use Rattle.swreq_machine.specs.swreq_param.{declared.ids.{ParamId.{ParamId}, ProtoId.{ProtoId}}, Terms.{Term}}
use Rattle.swreq_machine.specs.swreq_derive.{declared.requirements.Requirement.{Requirement, TheVariants.{Conf}}, Derivation.{TermFacts}}
use Rattle.swreq_machine.specs.swreq_derive.Derivation.{TermRequirement, TermRequirement.{Conforms, Equals, IsAnyObject}}
use Rattle.swreq_machine.specs.{swreq_derive.{Facts.{requirement_of}, Instances.{HasNumber}}, swreq_correspondence.Symbols.{Symbols}}
use Rattle.swreq_machine.specs.{swreq_correspondence.Symbols.{left_side, right_side}, swreq_lowering.declared.ids.FuncId.{FuncId}}
use Rattle.swreq_machine.specs.{swreq_lowering.{declared.ids.Written.{Written}, ByTable.{placed}}, swreq_rounds.Plan.{equation_of}}
use Rattle.swreq_machine.specs.swreq_symbols.{Overs.{source_by}, Known.{IsRequirementIn, IsTextOver}}
use Rattle.swreq_machine.specs.{swreq_lexicon.declared.pair.ProtocolName.{ProtocolName}, swreq_valid.{Flags.{chosen}, Plans.{bare, listed}}}
use Rattle.swreq_machine.specs.swreq_world.{ByTable.{world_by}, FactsAt.{facts_of}, Worlds.{IdWorld, requirements_of, signature_at}}
use Rattle.swreq_births.specs.declared.history.Equation.{Equation}
use Rattle.swreq_explain.specs.{declared.numbered.Numbered.{Numbered}, Numbering.{AreBasic, AreEquationsOf, AreNumberedIn, IsBasicBy}}
use Rattle.swreq_explain.specs.{Numbering.{IsEquationIn, item_by, numbered_from, numbered_in, sides_of, source_in}, Uses.{Origin}}
use Rattle.swreq_machine.specs.swreq_rounds.Given.{items_of, of_self}

-- a requirement where a list has none
abbrev pub no_requirement : Numbered
no_requirement = record { owner = None; number = 0; requirement = Conf (record { place = 0 }) (record { rank = 0 }) }

-- ---- words

-- The words of a requirement do not depend on the list.
pub left_by : (m : Symbols) (params : List ParamId) (list : List TermRequirement) (owner : Option ProtoId) (r : TermRequirement)
    → left_side m (source_by owner) r ≡ left_side m (source_in params list owner) r
left_by m params list None (Conforms t p) = refl
left_by m params list None (IsAnyObject t) = refl
left_by m params list None (Equals t u) = refl
left_by m params list (Some p) r = refl

pub right_by : (m : Symbols) (params : List ParamId) (list : List TermRequirement) (owner : Option ProtoId) (r : TermRequirement)
    → right_side m (source_by owner) r ≡ right_side m (source_in params list owner) r
right_by m params list None (Conforms t p) = refl
right_by m params list None (IsAnyObject t) = refl
right_by m params list None (Equals t u) = refl
right_by m params list (Some p) r = refl

-- ---- equations

module _ (m : Symbols) (terms : List Term) (o : Origin) (n : ℕ) where
  pub equations_at : (xs : List Numbered) (es : List Equation) → AreEquationsOf m terms o n xs es → (k : ℕ) (e : Equation)
      → slice_get es k ≡ Some e → (x : Numbered) × (slice_get xs k ≡ Some x) × IsEquationIn m terms o n x e
  equations_at [] [] h k e is = cc
  equations_at [] (f ∷ es) h k e is = absurd h
  equations_at (x ∷ xs) [] h k e is = absurd h
  equations_at (x ∷ xs) (f ∷ es) h zero e is = (x, refl, (let same : f ≡ e = cc in subst (IsEquationIn m terms o n x) same h.0))
  equations_at (x ∷ xs) (f ∷ es) h (suc k) e is = equations_at xs es h.1 k e is

  pub equations_more : (xs : List Numbered) (es : List Equation) (x : Numbered) (e : Equation) → AreEquationsOf m terms o n xs es
      → IsEquationIn m terms o n x e → AreEquationsOf m terms o n (xs ++ x ∷ []) (es ++ e ∷ [])
  equations_more [] [] x e h i = (i, tt)
  equations_more [] (f ∷ es) x e h i = absurd h
  equations_more (y ∷ xs) [] x e h i = absurd h
  equations_more (y ∷ xs) (f ∷ es) x e h i = (h.0, equations_more xs es x e h.1 i)

  module _ (params : List ParamId) (list : List TermRequirement) where
    pub equations_sides : (xs : List Numbered) (es : List Equation) → AreEquationsOf m terms o n xs es
        → map sides_of es ≡ map (equation_of m) (map (item_by terms params list) xs)
    equations_sides [] [] h = refl
    equations_sides [] (f ∷ es) h = absurd h
    equations_sides (x ∷ xs) [] h = absurd h
    equations_sides (x ∷ xs) (e ∷ es) h =
        let r = requirement_of terms x.requirement in
        let (shown, by, eq) = h.0 in
        let left : e.left ≡ left_side m (source_in params list x.owner) r = eq.left ∙ left_by m params list x.owner r in
        let right : e.right ≡ right_side m (source_in params list x.owner) r = eq.right ∙ right_by m params list x.owner r in
        let rest = equations_sides xs es h.1 in
        λ i. (left i, right i) ∷ rest i

-- ---- numbers

pub numbered_is : (owner : Option ProtoId) (n : ℕ) (list : List Requirement) (k : ℕ) (x : Numbered)
    → slice_get (numbered_from owner n list) k ≡ Some x
    → (x.owner ≡ owner) × (x.number ≡ n + k) × (slice_get list k ≡ Some x.requirement)
numbered_is owner n [] k x e = cc
numbered_is owner n (r ∷ rs) zero x e =
    let same : record { owner = owner; number = n; requirement = r } ≡ x = cc in (
      sym (ap (λ (z : Numbered). z.owner) same),
      (let i : n + 0 ≡ n = omega arith in sym (ap (λ (z : Numbered). z.number) same) ∙ sym i),
      ap (λ (z : Numbered). Some z.requirement) same,
    )
numbered_is owner n (r ∷ rs) (suc k) x e =
    let h = numbered_is owner (suc n) rs k x e in
    let i = h.1 in
    (h.0, omega (arith, i), h.2)

pub numbered_more : (owner : Option ProtoId) (list : List Requirement) (k : ℕ) (d : Requirement) (v w all : List Numbered) → k < length list
    → w ≡ v ++ record { owner = owner; number = k + 1; requirement = get_or list k d } ∷ []
    → v ++ numbered_from owner (k + 1) (drop k list) ≡ all → w ++ numbered_from owner (k + 1 + 1) (drop (k + 1) list) ≡ all
numbered_more owner list k d v w all l e h =
    let x : Numbered = record { owner = owner; number = k + 1; requirement = get_or list k d } in
    let next : suc (k + 1) ≡ k + 1 + 1 = omega arith in
    ap (λ z. z ++ numbered_from owner (k + 1 + 1) (drop (k + 1) list)) e
    ∙ append_assoc v (x ∷ []) (numbered_from owner (k + 1 + 1) (drop (k + 1) list))
    ∙ ap (λ n. v ++ x ∷ numbered_from owner n (drop (k + 1) list)) (sym next)
    ∙ ap (λ z. v ++ numbered_from owner (k + 1) z) (sym (drop_more list k d l)) ∙ h

pub numbered_all : (owner : Option ProtoId) (list : List Requirement) (k : ℕ) (v all : List Numbered) → length list ≤ k
    → v ++ numbered_from owner (k + 1) (drop k list) ≡ all → v ≡ all
numbered_all owner list k v all l h = sym (append-nil v) ∙ ap (λ z. v ++ z) (sym (ap (numbered_from owner (k + 1)) (drop_all k list l))) ∙ h

pub numbered_items : (terms : List Term) (params : List ParamId) (all : List TermRequirement) (owner : Option ProtoId) (n : ℕ)
    (list : List Requirement)
    → map (item_by terms params all) (numbered_from owner n list)
    ≡ map (λ (r : TermRequirement). record { source = source_in params all owner; requirement = r }) (listed terms list)
numbered_items terms params all owner n [] = refl
numbered_items terms params all owner n (r ∷ rs) =
    let rest = numbered_items terms params all owner (suc n) rs in
    λ i. record { source = source_in params all owner; requirement = requirement_of terms r } ∷ rest i

module _ (terms : List Term) (w : IdWorld) where
  abbrev f : TermFacts
  f = facts_of (world_by terms w)

  pub protocols_items : (params : List ParamId) (all : List TermRequirement) (ps : List ProtoId)
      → items_of f ps ≡ map (item_by terms params all) (numbered_in w ps)
  protocols_items params all [] = refl
  protocols_items params all (p ∷ ps) =
      ap₂ (λ a b. a ++ b)
      (ap (map (of_self p)) (own_requirements w terms p) ∙ sym (numbered_items terms params all (Some p) 1 (bare (requirements_of w p))))
      (protocols_items params all ps)
      ∙ sym (map-append (item_by terms params all) (numbered_from (Some p) 1 (bare (requirements_of w p))) (numbered_in w ps))

  -- a requirement of a protocol has its number among those of the protocol
  pub protocol_number : (ps : List ProtoId) (k : ℕ) (x : Numbered) → slice_get (numbered_in w ps) k ≡ Some x
      → (p : ProtoId) × (x.owner ≡ Some p) × HasNumber x.number (bare (requirements_of w p)) x.requirement
  protocol_number [] k x e = cc
  protocol_number (p ∷ ps) k x e = elim (get_either (numbered_from (Some p) 1 (bare (requirements_of w p))) (numbered_in w ps) k x e) [
    | inl h ↦ (let (o, n, at) = numbered_is (Some p) 1 (bare (requirements_of w p)) k x h in
        let same : x.number - 1 ≡ k = omega (arith, n) in
        (p, o, (omega (arith, n), ap (slice_get (bare (requirements_of w p))) same ∙ at)))
    | inr h ↦ protocol_number ps h.0 x h.2
  ]

  pub written_of : (p : ProtoId) (n : ℕ) (r : Requirement) → HasNumber n (bare (requirements_of w p)) r
      → HasNumber n (f.of_protocol p) (requirement_of terms r)
  written_of p n r (above, at) = (
    above,
    ap (λ (z : List TermRequirement). slice_get z (n - 1)) (own_requirements w terms p)
        ∙ get_map (requirement_of terms) (bare (requirements_of w p)) (n - 1) r at,
  )

-- ---- equations, one by one

pub basic_more : (members : List ProtocolName) (es : List Equation) (e : Equation) → AreBasic members es
    → IsBasicBy members e.reason e.left e.right
    → AreBasic members (es ++ e ∷ [])
basic_more members es e h i k x at = elim (get_cases es e k x at) [
  | inl j ↦ h k x j
  | inr j ↦ subst (λ (z : Equation). IsBasicBy members z.reason z.left z.right) (sym j.1) i
]

pub basic_none : (members : List ProtocolName) → AreBasic members []
basic_none members k e at = cc

module _ {A : Type 0} where
  pub chosen_yes : (xs : List A) (bs : List Bool) (k : ℕ) (x : A) → slice_get bs k ≡ Some true → slice_get xs k ≡ Some x
      → chosen (take (suc k) xs) (take (suc k) bs) ≡ chosen (take k xs) (take k bs) ++ x ∷ []
  chosen_yes [] bs k x m e = cc
  chosen_yes (y ∷ xs) [] k x m e = cc
  chosen_yes (y ∷ xs) (true ∷ bs) zero x m e = let h : y ≡ x = cc in ap (λ z. z ∷ []) h
  chosen_yes (y ∷ xs) (false ∷ bs) zero x m e = cc
  chosen_yes (y ∷ xs) (true ∷ bs) (suc k) x m e = ap (λ zs. y ∷ zs) (chosen_yes xs bs k x m e)
  chosen_yes (y ∷ xs) (false ∷ bs) (suc k) x m e = chosen_yes xs bs k x m e

  pub chosen_no : (xs : List A) (bs : List Bool) (k : ℕ) → slice_get bs k ≡ Some false
      → chosen (take (suc k) xs) (take (suc k) bs) ≡ chosen (take k xs) (take k bs)
  chosen_no [] bs zero m = refl
  chosen_no [] bs (suc k) m = refl
  chosen_no (y ∷ xs) [] k m = cc
  chosen_no (y ∷ xs) (true ∷ bs) zero m = cc
  chosen_no (y ∷ xs) (false ∷ bs) zero m = refl
  chosen_no (y ∷ xs) (true ∷ bs) (suc k) m = ap (λ zs. y ∷ zs) (chosen_no xs bs k m)
  chosen_no (y ∷ xs) (false ∷ bs) (suc k) m = chosen_no xs bs k m

  pub chosen_all : (xs : List A) (bs : List Bool) (k : ℕ) → length bs ≡ length xs → length xs ≤ k
      → chosen (take k xs) (take k bs) ≡ chosen xs bs
  chosen_all xs bs k c l = ap₂ chosen (take_all k xs l) (take_all k bs (omega (arith, c, l)))

-- ---- requirements of the text

-- the requirements of a protocol are numbered by 32 bits
pub short_list : (w : IdWorld) → All (λ (rs : List Written). length rs < 2 ^ 32) w.requirements → (p : ProtoId)
    → length (requirements_of w p) < 2 ^ 32
short_list w all p = elim (cases_lt p.rank (length w.requirements)) [
  | inl l ↦ All-get_or (λ (rs : List Written). length rs < 2 ^ 32) w.requirements p.rank [] l all
  | inr l ↦ subst (λ (z : List Written). length z < 2 ^ 32) (sym (get_or_past w.requirements p.rank [] l)) (omega arith)
]

module _ (terms : List Term) (w : IdWorld) (text : IsTextOver terms w) where
  pub required_in_text : (p : ProtoId) (k : ℕ) (r : Requirement) → slice_get (bare (requirements_of w p)) k ≡ Some r
      → IsRequirementIn terms w.lexicon r
  required_in_text p k r at =
      let (x, there, same) = get_of_map (λ (z : Written). z.requirement) (requirements_of w p) k r at in
      subst (IsRequirementIn terms w.lexicon) same (protocol_written w terms text p x (get_contains (requirements_of w p) k x there))

  -- a protocol with a requirement is of the text
  pub required_of_text : (p : ProtoId) (k : ℕ) (r : Requirement) → slice_get (bare (requirements_of w p)) k ≡ Some r
      → p.rank < length w.lexicon.protocols
  required_of_text p k r at = elim (cases_lt p.rank (length w.requirements)) [
    | inl l ↦ (let count = length-map w.requirements (placed terms) in let all = text.closed.protocols in omega (arith, l, count, all))
    | inr l ↦ (let none : slice_get (bare []) k ≡ Some r
        = subst (λ (z : List Written). slice_get (bare z) k ≡ Some r) (get_or_past w.requirements p.rank [] l) at in
        absurd cc)
  ]

  pub protocols_in_text : (ps : List ProtoId) → AreNumberedIn terms w.lexicon (numbered_in w ps)
  protocols_in_text ps x c =
      let (k, at) = contains_get (numbered_in w ps) x c in
      let (p, own, number) = protocol_number terms w ps k x at in
      required_in_text p (x.number - 1) x.requirement number.1

  pub list_in_text : (fn : FuncId) → fn.place < length w.signatures
      → AreNumberedIn terms w.lexicon (numbered_from None 1 (bare (signature_at w fn).requirements))
  list_in_text fn l x c =
      let list = bare (signature_at w fn).requirements in
      let (k, at) = contains_get (numbered_from None 1 list) x c in
      let (own, number, there) = numbered_is None 1 list k x at in
      let (r, in_list, same) = get_of_map (λ (z : Written). z.requirement) (signature_at w fn).requirements k x.requirement there in
      subst (IsRequirementIn terms w.lexicon) same
      (signature_written w terms text fn l r (get_contains (signature_at w fn).requirements k r in_list))
