-- What is unsaid by a family is not derivable from it.
use Rattle.std.proofs.Common.{◌≡◌, ◌∙◌, ◌⊎◌, ap, inl, inr, refl, sym, Contains, List, Option, Some, None}
use Rattle.std.proofs.lemmas.Option.{get_or_from_slice_get}
use Rattle.swreq_valid.specs.swreq_param.declared.ids.AssocId.{AssocId}
use Rattle.swreq_valid.specs.swreq_param.declared.ids.NameId.{NameId}
use Rattle.swreq_valid.specs.swreq_param.declared.ids.ProtoId.{ProtoId}
use Rattle.swreq_valid.specs.swreq_param.Terms.{Term, self}
use Rattle.swreq_valid.specs.swreq_param.Terms.Term.{Generic, Member}
use Rattle.swreq_valid.specs.swreq_derive.Derivation.{Declares, Derivable, TermFacts, TermRequirement, for_self}
use Rattle.swreq_valid.specs.swreq_derive.Derivation.Derives.{conf, same, layout, assoc_bind, assoc_conf, assoc_same, assoc_layout, reflex, symm, trans, same_conf, same_layout, same_name, same_decl}
use Rattle.swreq_valid.specs.swreq_derive.Derivation.Source.{SelfOf}
use Rattle.swreq_valid.specs.swreq_derive.Derivation.TermRequirement.{Conforms, IsAnyObject, Equals}
use Rattle.swreq_valid.specs.swreq_derive.Derivation.TermStatement.{Requires}
use Rattle.swreq_valid.specs.swreq_derive.Kept.{Owned, owned_by, owned_facts}
use Rattle.swreq_valid.specs.swreq_lexicon.declared.pair.ProtocolName.{ProtocolName}
use Rattle.swreq_valid.specs.swreq_lexicon.Lexicons.{associated_types, pair}
use Rattle.swreq_valid.specs.swreq_lexicon.Views.{LexiconView}
use Rattle.swreq_valid.specs.swreq_symbols.Meaning.{associated_at}
use Rattle.swreq_valid.proofs.swreq_symbols.Declared.{at_rank}
use Rattle.swreq_reqsig.specs.Families.{own}
use Rattle.swreq_reqsig.specs.Reaching.Reaches.{by_conformance, itself}
use Rattle.swreq_reqsig.specs.Saying.{BearsOn, IsUnsaid, SaysConforms, SaysEqual, SaysObject, last_name}
use Rattle.swreq_reqsig.proofs.ByReach.{own_there}

-- ---- last names

-- with a type parameter for `Self` the last name is as it was, or that of this type parameter
named_for : (x : LexiconView) (t u : Term)
    → (last_name x (for_self t u) ≡ last_name x u) ⊎ ((last_name x u ≡ None) × (for_self t u ≡ t))
named_for x t (Generic g) = inr (refl, refl)
named_for x t (Member u step) = inl refl

-- an associated type has the name with which it is declared
bound_name : (x : LexiconView) (family : List Owned) (p : ProtoId) (b : NameId) (d : AssocId)
    → Declares (owned_facts (associated_types x.associated) family) p b d → (associated_at x d).name ≡ b
bound_name x family p b d c =
    ap (λ (z : ProtocolName). z.name)
    (get_or_from_slice_get x.associated d.rank (pair p b) (pair (record { rank = 0 }) (record { rank = 0 })) (at_rank x p b d c))

module _ (x : LexiconView) (family : List Owned) (p : ProtoId) (a : Option NameId) (apart : SaysEqual x family a → ⊥) where
  abbrev whole : TermFacts
  whole = owned_facts (associated_types x.associated) family

  -- What is derivable of type parameters with the last name is said of them, but for P of `Self`; and what is equal to them has the name.
  abbrev Claim : TermRequirement → Type 0
  Claim (Conforms t q) = last_name x t ≡ a → SaysConforms x family a q ⊎ ((a ≡ None) × (q ≡ p))
  Claim (IsAnyObject t) = last_name x t ≡ a → SaysObject x family a
  Claim (Equals t u) = (last_name x t ≡ a → last_name x u ≡ a) × (last_name x u ≡ a → last_name x t ≡ a)

  -- what a protocol requires of `u` bears on one with the last name, where it is required of one with a type parameter for `Self` that
  -- conforms to it
  bears : (t u : Term) (q : ProtoId) → Claim (Conforms t q) → last_name x (for_self t u) ≡ a → BearsOn x family a q u
  bears t u q claim n = elim (named_for x t u) [
    | inl e ↦ inl (sym e ∙ n)
    | inr (none, is) ↦ elim (claim (ap (last_name x) (sym is) ∙ n)) [
      | inl s ↦ inr (none, s)
      | inr (lacks, e) ↦ inl (none ∙ sym lacks)
    ]
  ]

  says_conforms : (t u : Term) (q r : ProtoId) → Claim (Conforms t q) → Contains (owned_by family q) (Conforms u r)
      → last_name x (for_self t u) ≡ a → SaysConforms x family a r
  says_conforms t u q r claim c n =
      let there = own_there family q (Conforms u r) c in
      elim (bears t u q claim n) [
        | inl e ↦ record {
          member = own q (Conforms u r);
          there = there;
          subject = u;
          proto = r;
          says = refl;
          named = e;
          reaches = itself refl;
        }
        | inr (none, s) ↦ record {
          member = s.member;
          there = s.there;
          subject = s.subject;
          proto = s.proto;
          says = s.says;
          named = s.named;
          reaches = by_conformance s.reaches there;
        }
      ]

  says_equal : (t u v : Term) (q : ProtoId) → Claim (Conforms t q) → Contains (owned_by family q) (Equals u v)
      → (last_name x (for_self t u) ≡ a) ⊎ (last_name x (for_self t v) ≡ a) → ⊥
  says_equal t u v q claim c n = apart (record {
    member = own q (Equals u v);
    there = own_there family q (Equals u v) c;
    left = u;
    right = v;
    says = refl;
    bears = elim n [
      | inl e ↦ inl (bears t u q claim e)
      | inr e ↦ inr (bears t v q claim e)
    ];
  })

  claim : {r : TermRequirement} → Derivable whole (SelfOf p) (Requires r) → Claim r
  claim (conf {t = t} {p = q} e v) = λ n. let is : t ≡ self = cc in inr (sym n ∙ ap (last_name x) is, cc)
  claim (same e v w) = absurd cc
  claim (layout e v) = absurd cc
  claim (assoc_bind {t = t} {p = q} {a = b} {d = d} e c) =
      let alike = ap Some (bound_name x family q b d c) in ((λ n. sym alike ∙ n), λ n. alike ∙ n)
  claim (assoc_conf {t = t} {u = u} {p = q} {q = r} e c v) = λ n. inl (says_conforms t u q r (claim e) c n)
  claim (assoc_same {t = t} {u = u} {v = w} {p = q} e c l r) = (
    (λ n. absurd (says_equal t u w q (claim e) c (inl n))),
    λ n. absurd (says_equal t u w q (claim e) c (inr n)),
  )
  claim (assoc_layout {t = t} {u = u} {p = q} e c v) = λ n. record {
    member = own q (IsAnyObject u);
    there = own_there family q (IsAnyObject u) c;
    subject = u;
    says = refl;
    bears = bears t u q (claim e) n;
  }
  claim (reflex e) = ((λ n. n), λ n. n)
  claim (symm e) = let k = claim e in (k.1, k.0)
  claim (trans e i) = let j = claim e in let k = claim i in ((λ n. k.0 (j.0 n)), λ n. j.1 (k.1 n))
  claim (same_conf e i) = λ n. claim e ((claim i).0 n)
  claim (same_layout e i) = λ n. claim e ((claim i).0 n)
  claim (same_name e i d) = ((λ n. n), λ n. n)
  claim (same_decl e i d) = ((λ n. n), λ n. n)

pub unsaid_not_derivable : (x : LexiconView) (family : List Owned) (p : ProtoId) (r : TermRequirement) → IsUnsaid x family p r
    → Derivable (owned_facts (associated_types x.associated) family) (SelfOf p) (Requires r) → ⊥
unsaid_not_derivable x family p (Conforms t q) (apart, lacks, other) e = elim (claim x family p (last_name x t) apart e refl) [
  | inl s ↦ lacks s
  | inr s ↦ other s
]
unsaid_not_derivable x family p (IsAnyObject t) (apart, lacks) e = lacks (claim x family p (last_name x t) apart e refl)
unsaid_not_derivable x family p (Equals t u) (differ, apart) e = elim apart [
  | inl one ↦ differ (sym ((claim x family p (last_name x t) one e).0 refl))
  | inr other ↦ differ ((claim x family p (last_name x u) other e).1 refl)
]
