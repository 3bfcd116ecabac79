-- The candidates are read off the rules of the reduced system, one after the other.
use Rattle.std.proofs.Common.{◌≡◌, ◌↔◌, ℕ, List, [], ◌∷◌, ◌++◌, Contains, Some, length, length-append, refl, ap, subst, sym, ◌∙◌, inl, inr, arith}
use Rattle.std.specs.List.{slice_get}
use Rattle.std.proofs.Math.Decide.{dec_lt}
use Rattle.swreq_canonical.specs.swreq_param.declared.ids.NameId.{NameId}
use Rattle.swreq_canonical.specs.swreq_param.declared.ids.ParamId.{ParamId}
use Rattle.swreq_canonical.specs.swreq_param.declared.ids.ProtoId.{ProtoId}
use Rattle.swreq_canonical.specs.swreq_param.declared.ids.Step.TheVariants.{Bound, Name}
use Rattle.swreq_canonical.specs.swreq_param.Terms.{Term}
use Rattle.swreq_canonical.specs.swreq_param.Terms.Term.{Generic, Member}
use Rattle.swreq_canonical.specs.swreq_derive.Derivation.{Derivable, Source, TermFacts, TermRequirement}
use Rattle.swreq_canonical.specs.swreq_derive.Derivation.Derives.{assoc_decl, generic}
use Rattle.swreq_canonical.specs.swreq_derive.Derivation.Source.{Written}
use Rattle.swreq_canonical.specs.swreq_derive.Derivation.TermRequirement.{Conforms, Equals, IsAnyObject}
use Rattle.swreq_canonical.specs.swreq_derive.Derivation.TermStatement.{IsValid}
use Rattle.swreq_canonical.proofs.swreq_lemmas.Members.{first_member, later_member, member_cases, no_member}
use Rattle.swreq_canonical.specs.swreq_word.declared.symbols.Symbol.{Symbol}
use Rattle.swreq_canonical.specs.swreq_word.declared.symbols.Symbol.TheVariants.{Layout as LayoutSymbol, Member as MemberSymbol, Name as NameSymbol, Param as ParamSymbol, Proto as ProtoSymbol}
use Rattle.swreq_canonical.specs.swreq_word.Least.{IsLeast, IsMinimal}
use Rattle.swreq_canonical.specs.swreq_word.Order.{WordLess}
use Rattle.swreq_canonical.proofs.swreq_word.Chains.{joined}
use Rattle.swreq_canonical.proofs.swreq_word.Comparing.{not_below_itself, trichotomy}
use Rattle.swreq_canonical.proofs.swreq_word.LeastWords.{one_least}
use Rattle.swreq_rounds.specs.swreq_rule.declared.rules.Rule.{Rule}
use Rattle.swreq_rounds.specs.swreq_complete.Reduced.{IsReducedSystem}
use Rattle.swreq_canonical.specs.swreq_correspondence.Equations.{AreCongruent}
use Rattle.swreq_canonical.specs.swreq_correspondence.Readings.{CanReadAll, HasName, HasReading, after, first}
use Rattle.swreq_canonical.specs.swreq_correspondence.Symbols.{Symbols, Word, name_of}
use Rattle.swreq_canonical.specs.swreq_correspondence.Types.{IsTypeOf}
use Rattle.swreq_canonical.proofs.swreq_correspondence.Chained.{turn_all}
use Rattle.swreq_canonical.proofs.swreq_correspondence.OneType.{one_param, one_type}
use Rattle.swreq_canonical.proofs.swreq_correspondence.Orders.{has_type}
use Rattle.swreq_canonical.proofs.swreq_correspondence.Readings.{sides_of, valid_base, valid_generic}
use Rattle.swreq_canonical.proofs.ReducedLemmas.{same_or_not}
use Rattle.swreq_canonical.proofs.Sorting.{some_sorted}
use Rattle.swreq_canonical.proofs.swreq_lemmas.Elements.{contains_get, get_contains}
use Rattle.swreq_candidates.specs.Candidates.{IsCandidate, IsCandidateList, IsNamed, IsReadOff, IsReducedRule, SpeaksOf}
use Rattle.swreq_candidates.specs.Completed.{IsCompleted}
use Rattle.swreq_candidates.proofs.Completions.{canonical_here, firsts_here, over_text, param_decided, reads_here}
use Rattle.swreq_candidates.proofs.Deciding.{has_name}
use Rattle.std.proofs.lemmas.List.{same_from_push}
use Rattle.swreq_candidates.proofs.ReadOff.{not_empty, one_name, one_read_off, one_spoken, typed_read}
use Rattle.swreq_candidates.proofs.SameTypes.{by_last}

-- ---- exactly the rules of the reduced system

module _ (m : Symbols) (f : TermFacts) (s : Source) (rules : List Rule) (system : IsReducedSystem (AreCongruent m f s) rules) where
  abbrev pub IsOffRules : List Rule → TermRequirement → Type 0
  IsOffRules rs q = (k : ℕ) × (rule : Rule) × (slice_get rs k ≡ Some rule) × IsReadOff m f s rule.left rule.right q

  pub off_rules : (q : TermRequirement) → IsCandidate m f s q ↔ IsOffRules rules q
  off_rules q = (
    (λ h. let (l, r, (minimal, c, least), off) = h in
        let (k, rule, g, e) = system.all l minimal in
        let (_, d, also) = system.each k rule g in
        let same : r ≡ rule.right = one_least (AreCongruent m f s) r rule.right
        (joined (turn_all c) (subst (λ x. AreCongruent m f s x rule.right) e d))
        (joined (turn_all (subst (λ x. AreCongruent m f s x rule.right) e d)) c) least also in
        (k, rule, g, subst (λ x. IsReadOff m f s x rule.right q) (sym e) (subst (λ x. IsReadOff m f s l x q) same off))),
    λ h. let (k, rule, g, off) = h in (rule.left, rule.right, system.each k rule g, off),
  )

-- ---- what one rule says is decided

words_decided : (u v : Word) → Dec (u ≡ v)
words_decided u v = elim (trichotomy u v) [
  | inl l ↦ no (λ e. not_below_itself v (subst (λ x. WordLess x v) e l))
  | inr (inl e) ↦ yes e
  | inr (inr l) ↦ no (λ e. not_below_itself v (subst (λ x. WordLess v x) e l))
]

module _ (m : Symbols) (f : TermFacts) (ps : List ParamId) (list : List TermRequirement) (ended : IsCompleted m f ps list) where
  abbrev L : Source
  L = Written ps list

  abbrev C : Word → Word → Type 0
  C = AreCongruent m f L

  reads_all : (t : Term) (w : Word) → Dec (CanReadAll m f L t w)
  reads_all t [] = yes tt
  reads_all t (x ∷ w) = elim (reads_here m f ps list ended t x) [
    | no n ↦ no (λ h. n h.0)
    | yes c ↦ elim (reads_all (after m t x) w) [ yes r ↦ yes (c, r) | no n ↦ no (λ h. n h.1) ]
  ]

  reading_decided : (w : Word) → Dec (HasReading m f L w)
  reading_decided [] = no (λ h. h)
  reading_decided (ParamSymbol d i ∷ w) = elim (param_decided m f ps list ended (record { depth = d; index = i })) [
    | no n ↦ no (λ h. n h.0)
    | yes c ↦ elim (reads_all (first m (ParamSymbol d i)) w) [ yes r ↦ yes (c, r) | no n ↦ no (λ h. n h.1) ]
  ]
  reading_decided (ProtoSymbol p ∷ w) = no (λ h. h.0)
  reading_decided (MemberSymbol k ∷ w) = no (λ h. h.0)
  reading_decided (NameSymbol a ∷ w) = no (λ h. h.0)
  reading_decided (LayoutSymbol ∷ w) = no (λ h. h.0)

  -- a valid type parameter is the type of a least word, or none is
  abbrev HasValidType : Word → Type 0
  HasValidType w = (t : Term) × IsTypeOf m f L w t × Derivable f L (IsValid t)

  type_decided : (w : Word) → IsLeast C w → Dec (HasValidType w)
  type_decided w l = elim (reading_decided w) [
    | yes h ↦ (let (t, i, e) =
        has_type m f ps list ended.symbols ended.of_text ended.in_text ended.ranked (firsts_here m f ps list ended) w h l in
        yes (t, i, (sides_of e).1))
    | no n ↦ no (λ h. let (t, i, v) = h in n (typed_read m f ps list (over_text m f ps list ended) t w v i).0)
  ]

  -- a valid type parameter is spoken of by a minimal word, or none is
  abbrev Speaks : Word → Type 0
  Speaks l = (v : Term) × Derivable f L (IsValid v) × SpeaksOf m f L v l

  -- the last symbol is neither a generic parameter nor of a name
  no_speech : (u : Word) (x : Symbol) → ((g : ParamId) → x ≡ ParamSymbol g.depth g.index → ⊥) → ((a : NameId) → IsNamed m x a → ⊥)
      → Speaks (u ++ (x ∷ [])) → ⊥
  no_speech u x no_param no_name (Generic g, v, e) = no_param g (same_from_push u [] x (ParamSymbol g.depth g.index) e).1
  no_speech u x no_param no_name (Member t (Name a), v, e) = e
  no_speech u x no_param no_name (Member t (Bound d), v, (w, y, a, e, h, o, i)) =
      no_name a (subst (λ z. IsNamed m z a) (sym (same_from_push u w x y e).1) o)

  -- a generic parameter
  param_spoken : (u : Word) (d i : ℕ) → Speaks (u ++ (ParamSymbol d i ∷ [])) → (u ≡ []) × Contains ps (record { depth = d; index = i })
  param_spoken u d i (Generic g, v, e) =
      let (h, k) = same_from_push u [] (ParamSymbol d i) (ParamSymbol g.depth g.index) e in
      (h, subst (λ x. Contains ps x) (sym (one_param {g = record { depth = d; index = i }} {h = g} k)) (valid_generic v))
  param_spoken u d i (Member t (Name a), v, e) = absurd e
  param_spoken u d i (Member t (Bound c), v, (w, y, a, e, h, o, j)) =
      absurd (subst (λ z. IsNamed m z a) (sym (same_from_push u w (ParamSymbol d i) y e).1) o)

  param_speaks : (u : Word) (d i : ℕ) → Dec (Speaks (u ++ (ParamSymbol d i ∷ [])))
  param_speaks [] d i = elim (param_decided m f ps list ended (record { depth = d; index = i })) [
    | yes h ↦ yes (Generic (record { depth = d; index = i }), generic h, refl)
    | no n ↦ no (λ h. n (param_spoken [] d i h).1)
  ]
  param_speaks (y ∷ u) d i = no (λ h. full (param_spoken (y ∷ u) d i h).0)
    where
      full : {y : Symbol} {u : Word} → y ∷ u ≡ [] → ⊥
      full e = cc

  -- a member by name
  named_spoken : (u : Word) (x : Symbol) (a : NameId) → IsNamed m x a → Speaks (u ++ (x ∷ []))
      → (t : Term) × IsTypeOf m f L u t × Derivable f L (IsValid t) × HasName f L t a
  named_spoken u x a o (Generic g, v, e) = absurd (subst (λ z. IsNamed m z a) (same_from_push u [] x (ParamSymbol g.depth g.index) e).1 o)
  named_spoken u x a o (Member t (Name b), v, e) = absurd e
  named_spoken u x a o (Member t (Bound d), v, (w, y, b, e, h, k, i)) =
      let (uw, xy) = same_from_push u w x y e in
      let ab : a ≡ b = one_name m x a b o (subst (λ z. IsNamed m z b) (sym xy) k) in (
        t,
        subst (λ z. IsTypeOf m f L z t) (sym uw) h,
        valid_base (Bound d) v,
        subst (λ c. HasName f L t c) (sym ab) (i.proto, d, i.conforms, i.declares),
      )

  named_speaks : (u : Word) (x : Symbol) (a : NameId) → IsNamed m x a → IsLeast C u → Dec (Speaks (u ++ (x ∷ [])))
  named_speaks u x a o l = elim (type_decided u l) [
    | no n ↦ no (λ h. let (t, i, v, k) = named_spoken u x a o h in n (t, i, v))
    | yes (t, h, v) ↦ elim (has_name m f L ended.symbols ended.of_text ended.in_text ended.of_list t a) [
      | no n ↦ no (λ s. let (z, i, w, k) = named_spoken u x a o s in n (subst (λ y. HasName f L y a) (one_type m f L z t u i h) k))
      | yes k ↦ (let (d, i) = firsts_here m f ps list ended t a k in
          yes (Member t (Bound d), assoc_decl i.conforms i.declares, (u, x, a, refl, h, o, i)))
    ]
  ]

  by_symbol : (u : Word) (x : Symbol) → IsLeast C u → Dec (Speaks (u ++ (x ∷ [])))
  by_symbol u (ProtoSymbol p) l = no (no_speech u (ProtoSymbol p) (λ g e. cc) (λ a h. h))
  by_symbol u LayoutSymbol l = no (no_speech u LayoutSymbol (λ g e. cc) (λ a h. h))
  by_symbol u (ParamSymbol d i) l = param_speaks u d i
  by_symbol u (NameSymbol b) l = named_speaks u (NameSymbol b) (record { rank = b }) refl l
  by_symbol u (MemberSymbol k) l = elim (dec_lt k (length m.members)) [
    | yes h ↦ named_speaks u (MemberSymbol k) (name_of m k) (h, refl) l
    | no n ↦ no (no_speech u (MemberSymbol k) (λ g e. cc) (λ a h. n h.0))
  ]

  nothing_spoken : Speaks [] → ⊥
  nothing_spoken (Generic g, v, e) = not_empty [] (ParamSymbol g.depth g.index) e
  nothing_spoken (Member t (Name a), v, e) = e
  nothing_spoken (Member t (Bound d), v, (w, y, a, e, h, o, i)) = not_empty w y e

  speech_decided : (l : Word) → IsMinimal C l → Dec (Speaks l)
  speech_decided l minimal = elim (by_last l) [
    | inl e ↦ no (λ h. nothing_spoken (subst Speaks e h))
    | inr (u, x, e) ↦ (let least = minimal.factors [] u (x ∷ []) e (let n = ap length e in omega (arith, length-append u (x ∷ []))) in
        subst (λ w. Dec (Speaks w)) (sym e) (by_symbol u x least))
  ]

  -- ---- the requirement that a rule says

  abbrev EndsInProto : Word → Word → Type 0
  EndsInProto l r = (p : ProtoId) × (l ≡ r ++ (ProtoSymbol p.rank ∷ []))

  no_proto : {p : ℕ} (x : Symbol) → ((q : ℕ) → x ≡ ProtoSymbol q → ⊥) → x ≡ ProtoSymbol p → ⊥
  no_proto {p = p} x n e = n p e

  proto_by_symbol : (u r : Word) (x : Symbol) → Dec (EndsInProto (u ++ (x ∷ [])) r)
  proto_by_symbol u r (ProtoSymbol p) = elim (words_decided u r) [
    | yes e ↦ yes (record { rank = p }, ap (λ w. w ++ (ProtoSymbol p ∷ [])) e)
    | no n ↦ no (λ h. n (same_from_push u r (ProtoSymbol p) (ProtoSymbol h.0.rank) h.1).0)
  ]
  proto_by_symbol u r (MemberSymbol k) =
      no (λ h. no_proto (MemberSymbol k) (λ q e. cc) (same_from_push u r (MemberSymbol k) (ProtoSymbol h.0.rank) h.1).1)
  proto_by_symbol u r (ParamSymbol d i) =
      no (λ h. no_proto (ParamSymbol d i) (λ q e. cc) (same_from_push u r (ParamSymbol d i) (ProtoSymbol h.0.rank) h.1).1)
  proto_by_symbol u r (NameSymbol a) =
      no (λ h. no_proto (NameSymbol a) (λ q e. cc) (same_from_push u r (NameSymbol a) (ProtoSymbol h.0.rank) h.1).1)
  proto_by_symbol u r LayoutSymbol =
      no (λ h. no_proto LayoutSymbol (λ q e. cc) (same_from_push u r LayoutSymbol (ProtoSymbol h.0.rank) h.1).1)

  proto_decided : (l r : Word) → Dec (EndsInProto l r)
  proto_decided l r = elim (by_last l) [
    | inl e ↦ no (λ h. not_empty r (ProtoSymbol h.0.rank) (sym e ∙ h.1))
    | inr (u, x, e) ↦ subst (λ w. Dec (EndsInProto w r)) (sym e) (proto_by_symbol u r x)
  ]

  right_typed : (l r : Word) → (q : TermRequirement) → IsReadOff m f L l r q → HasValidType r
  right_typed l r (Conforms t p) (v, h, e) = (t, h, v)
  right_typed l r (IsAnyObject t) (v, h, e) = (t, h, v)
  right_typed l r (Equals u v) (vu, vv, differ, h, s) = (u, h, vu)

  none_read_off : (l r : Word) → (EndsInProto l r → ⊥) → (l ≡ r ++ (LayoutSymbol ∷ []) → ⊥)
      → ((u v : Term) → (u ≡ v → ⊥) → IsTypeOf m f L r u → Derivable f L (IsValid v) → SpeaksOf m f L v l → ⊥) → (q : TermRequirement)
      → IsReadOff m f L l r q → ⊥
  none_read_off l r no_p no_l no_s (Conforms t p) (v, h, e) = no_p (p, e)
  none_read_off l r no_p no_l no_s (IsAnyObject t) (v, h, e) = no_l e
  none_read_off l r no_p no_l no_s (Equals u v) (vu, vv, differ, h, s) = no_s u v differ h vv s

  read_off_decided : (l r : Word) → IsReducedRule C l r → Dec ((q : TermRequirement) × IsReadOff m f L l r q)
  read_off_decided l r (minimal, c, least) = elim (type_decided r least) [
    | no n ↦ no (λ h. n (right_typed l r h.0 h.1))
    | yes (t, h, v) ↦ elim (proto_decided l r) [
      | yes (p, e) ↦ yes (Conforms t p, (v, h, e))
      | no no_p ↦ elim (words_decided l (r ++ (LayoutSymbol ∷ []))) [
        | yes e ↦ yes (IsAnyObject t, (v, h, e))
        | no no_l ↦ elim (speech_decided l minimal) [
          | no n ↦ no (λ h. none_read_off l r no_p no_l (λ u w differ i vw s. n (w, vw, s)) h.0 h.1)
          | yes (w, vw, s) ↦ elim (same_or_not t w) [
            | no differ ↦ yes (Equals t w, (v, vw, differ, h, s))
            | yes same ↦ no (λ k. none_read_off l r no_p no_l
                (λ u z differ i vz o. differ (one_type m f L u t r i h ∙ (same ∙ one_spoken m f L w z l s o))) k.0 k.1)
          ]
        ]
      ]
    ]
  ]

  -- ---- all that some rules say

  abbrev Said : List Rule → TermRequirement → Type 0
  Said rs q = (rule : Rule) × Contains rs rule × IsReadOff m f L rule.left rule.right q

  collected : (rs : List Rule) → ((rule : Rule) → Contains rs rule → IsReducedRule C rule.left rule.right)
      → (qs : List TermRequirement) × ((q : TermRequirement) → Contains qs q ↔ Said rs q)
  collected [] each = ([], λ q. ((λ h. no_member q h), λ h. no_member h.0 h.1))
  collected (rule ∷ rs) each =
      let (qs, all) = collected rs (λ x h. each x (later_member rule x rs h)) in
      elim (read_off_decided rule.left rule.right (each rule (first_member rule rs))) [
        | no n ↦ (
          qs,
          λ q. (
            (λ h. let (x, i, o) = (all q).0 h in (x, later_member rule x rs i, o)),
            λ h. let (x, i, o) = h in elim (member_cases rule x rs i) [
              | inl e ↦ absurd (n (q, subst (λ z. IsReadOff m f L z.left z.right q) e o))
              | inr k ↦ (all q).1 (x, k, o)
            ],
          ),
        )
        | yes (r, off) ↦ (
          r ∷ qs,
          λ q. (
            (λ h. elim (member_cases r q qs h) [
              | inl e ↦ (rule, first_member rule rs, subst (λ z. IsReadOff m f L rule.left rule.right z) (sym e) off)
              | inr k ↦ (let (x, i, o) = (all q).0 k in (x, later_member rule x rs i, o))
            ]),
            λ h. let (x, i, o) = h in elim (member_cases rule x rs i) [
              | inl e ↦ subst (λ z. Contains (r ∷ qs) z)
                  (one_read_off m f L rule.left rule.right r q off (subst (λ z. IsReadOff m f L z.left z.right q) e o)) (first_member r qs)
              | inr k ↦ later_member r q qs ((all q).1 (x, k, o))
            ],
          ),
        )
      ]

  pub some_candidates : (rules : List Rule) → IsReducedSystem C rules
      → (candidates : List TermRequirement) × IsCandidateList m f L candidates
  some_candidates rules system =
      let (qs, all) = collected rules (λ rule h. let (k, e) = contains_get rules rule h in system.each k rule e) in
      let here : (q : TermRequirement) → Contains qs q ↔ IsCandidate m f L q
      = λ q. (
        (λ h.
            let (rule, i, o) = (all q).0 h in let (k, e) = contains_get rules rule i in (off_rules m f L rules system q).1 (k, rule, e, o)),
        λ h. let (k, rule, e, o) = (off_rules m f L rules system q).0 h in (all q).1 (rule, get_contains rules k rule e, o),
      ) in
      let (out, sorted, same) = some_sorted f L qs (λ q h. canonical_here m f ps list ended q ((here q).0 h)) in
      (out, record { sorted = sorted; members = λ q. ((λ h. (here q).0 ((same q).0 h)), λ h. (same q).1 ((here q).1 h)) })
