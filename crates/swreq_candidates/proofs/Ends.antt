-- Where a word is least and the word with one more symbol is not, a minimal word ends the longer one. `[P]` alone and the layout alone are
-- least.
use Rattle.std.proofs.Common.{◌≡◌, ◌⊎◌, ℕ, ◌-◌, ◌<◌, List, [], ◌∷◌, ◌++◌, length, length-append, take, append-nil, refl, ap, subst, sym, ◌∙◌, inl, inr, arith}
use Rattle.std.proofs.Math.Seq.{take-append_seam}
use Rattle.swreq_canonical.specs.swreq_param.declared.ids.ParamId.{ParamId}
use Rattle.swreq_canonical.specs.swreq_param.declared.ids.ProtoId.{ProtoId}
use Rattle.swreq_canonical.specs.swreq_derive.Derivation.{Source, TermFacts, TermRequirement}
use Rattle.swreq_canonical.specs.swreq_derive.Derivation.Source.{Written}
use Rattle.swreq_canonical.specs.swreq_derive.Derivation.TermRequirement.{Conforms, Equals, IsAnyObject}
use Rattle.swreq_canonical.specs.swreq_word.declared.symbols.Symbol.{Symbol}
use Rattle.swreq_canonical.specs.swreq_word.declared.symbols.Symbol.TheVariants.{Layout as LayoutSymbol, Member as MemberSymbol, Name as NameSymbol, Param as ParamSymbol, Proto as ProtoSymbol}
use Rattle.swreq_canonical.specs.swreq_word.Least.{EachFactor, IsLeast, IsMinimal}
use Rattle.swreq_canonical.specs.swreq_word.Order.{WordLess, symbol_cmp}
use Rattle.swreq_canonical.specs.swreq_word.OrderLaws.{nat_less, then_less}
use Rattle.std.specs.declared.cmp.Ordering.TheVariants.{Less}
use Rattle.std.specs.Ordering.{nat_cmp}
use Rattle.swreq_canonical.specs.swreq_word.Relations.Chain.{done, more}
use Rattle.swreq_canonical.proofs.swreq_word.Comparing.{less_cases}
use Rattle.swreq_canonical.proofs.swreq_word.LeastWords.{each_by_ends}
use Rattle.swreq_canonical.specs.swreq_correspondence.Equations.{AreCongruent, Equation, Link, Linking, UsableIn, UsableOf}
use Rattle.swreq_canonical.specs.swreq_correspondence.Equations.Equation.{member, of_protocol, of_source, twice}
use Rattle.swreq_canonical.specs.swreq_correspondence.Equations.Link.{back, forth, there}
use Rattle.swreq_canonical.specs.swreq_correspondence.Symbols.{Symbols, Word, proto_of}
use Rattle.swreq_candidates.proofs.LessParts.{less_at, nothing_less}
use Rattle.swreq_candidates.proofs.Longer.{factor_least, least_by_none}

no_symbol : (u : Word) → length u < 1 → u ≡ []
no_symbol [] h = refl
no_symbol (x ∷ u) h = absurd (omega arith)

module _ (E : Word → Word → Type 0) where
  abbrev Least : Word → Type 0
  Least = IsLeast (Linking E)

  empty_least : Least []
  empty_least = least_by_none (Linking E) [] (λ v c h. nothing_less v h)

  -- the proper factors of one symbol are least
  pub single_factors : (x : Symbol) → EachFactor (x ∷ []) Least
  single_factors x before u after e l = subst Least (sym (no_symbol u l)) empty_least

  -- the proper factors of y·u·x are least where y·u and u·x are
  pub factors_by_ends : (x y : Symbol) (u : Word) → Least (y ∷ u) → Least (u ++ (x ∷ [])) → EachFactor ((y ∷ u) ++ (x ∷ [])) Least
  factors_by_ends x y u front rest =
      each_by_ends Least (λ before w after l. factor_least E (before ++ (w ++ after)) before w after l refl)
      ((y ∷ u) ++ (x ∷ [])) (omega arith) rest
      (subst Least (sym ends) front)
    where
      n : length ((y ∷ u) ++ (x ∷ [])) - 1 ≡ length (y ∷ u)
      n = omega (arith, length-append (y ∷ u) (x ∷ []))

      ends : take (length ((y ∷ u) ++ (x ∷ [])) - 1) ((y ∷ u) ++ (x ∷ [])) ≡ y ∷ u
      ends = ap (λ k. take k ((y ∷ u) ++ (x ∷ []))) n ∙ take-append_seam (y ∷ u) (x ∷ [])

  -- where it is decided which words are least, the shortest end that is not
  module _ (leasts : (w : Word) → Dec (Least w)) (x : Symbol) where
    abbrev pub HasMinimalEnd : Word → Type 0
    HasMinimalEnd u = (before e : Word) × (u ≡ before ++ e) × IsMinimal (Linking E) (e ++ (x ∷ []))

    pub minimal_end : (u : Word) → Least u → Least (u ++ (x ∷ [])) ⊎ HasMinimalEnd u
    minimal_end [] l = elim (leasts (x ∷ [])) [
      | yes h ↦ inl h
      | no n ↦ inr ([], [], refl, record { not_least = n; factors = single_factors x })
    ]
    minimal_end (y ∷ u) l = elim (minimal_end u (factor_least E (y ∷ u) (y ∷ []) u [] l (ap (λ w. y ∷ w) (sym (append-nil u))))) [
      | inr (before, e, i, h) ↦ inr (y ∷ before, e, ap (λ w. y ∷ w) i, h)
      | inl k ↦ elim (leasts ((y ∷ u) ++ (x ∷ []))) [
        | yes h ↦ inl h
        | no n ↦ inr ([], y ∷ u, refl, record { not_least = n; factors = factors_by_ends x y u l k })
      ]
    ]

-- What the first symbol stands for stays along a chain: a protocol or a member of it, a generic parameter, a name, or the layout.
abbrev group : Symbols → Symbol → Symbol
group m (ProtoSymbol p) = ProtoSymbol p
group m (MemberSymbol k) = ProtoSymbol (proto_of m k).rank
group m (ParamSymbol d i) = ParamSymbol 0 0
group m (NameSymbol a) = NameSymbol a
group m LayoutSymbol = LayoutSymbol

abbrev first_group : Symbols → Word → Word
first_group m [] = []
first_group m (x ∷ u) = group m x ∷ []

-- a word that is less than one symbol is empty or a symbol that is less
less_than_one : (x : Symbol) (v : Word) → WordLess v (x ∷ []) → (v ≡ []) ⊎ ((y : Symbol) × (v ≡ y ∷ []) × (symbol_cmp y x ≡ Less))
less_than_one x [] h = inl refl
less_than_one x (y ∷ []) h = elim (less_cases (y ∷ []) (x ∷ []) h) [
  | inl l ↦ absurd (omega arith)
  | inr (n, l) ↦ elim (less_at y x [] [] l) [ inl k ↦ inr (y, refl, k) | inr (e, k) ↦ cc ]
]
less_than_one x (y ∷ z ∷ v) h =
    elim (less_cases (y ∷ z ∷ v) (x ∷ []) h) [ inl l ↦ absurd (omega arith) | inr (n, l) ↦ absurd (omega arith) ]

module _ (m : Symbols) (f : TermFacts) (ps : List ParamId) (list : List TermRequirement) where
  abbrev L : Source
  L = Written ps list

  front_group : {l r : Word} → Equation m (UsableOf f) (UsableIn f L) L l r → (y : Word) → first_group m (l ++ y) ≡ first_group m (r ++ y)
  front_group (twice p h) y = refl
  front_group (member k h) y = refl
  front_group (of_protocol q (Conforms u n) h) y = refl
  front_group (of_protocol q (IsAnyObject u) h) y = refl
  front_group (of_protocol q (Equals u v) h) y = refl
  front_group (of_source (Conforms u n) h) y = refl
  front_group (of_source (IsAnyObject u) h) y = refl
  front_group (of_source (Equals u v) h) y = refl

  link_group : {u v : Word} → Link (Equation m (UsableOf f) (UsableIn f L) L) u v → first_group m u ≡ first_group m v
  link_group (forth y e) = front_group e y
  link_group (back y e) = sym (front_group e y)
  link_group (there x l) = refl

  chain_group : {u v : Word} → AreCongruent m f L u v → first_group m u ≡ first_group m v
  chain_group done = refl
  chain_group (more l c) = link_group l ∙ chain_group c

  -- no symbol that is less than `[P]` stands for P
  no_less_proto : (n : ℕ) (x : Symbol) → symbol_cmp x (ProtoSymbol n) ≡ Less → ProtoSymbol n ∷ [] ≡ group m x ∷ [] → ⊥
  no_less_proto n (ProtoSymbol q) h e = let k : n ≡ q = cc in let l : q < n = nat_less q n h in omega arith
  no_less_proto n (MemberSymbol k) h e = cc
  no_less_proto n (ParamSymbol d i) h e = cc
  no_less_proto n (NameSymbol a) h e = cc
  no_less_proto n LayoutSymbol h e = cc

  no_less_layout : (x : Symbol) → symbol_cmp x LayoutSymbol ≡ Less → LayoutSymbol ∷ [] ≡ group m x ∷ [] → ⊥
  no_less_layout (ProtoSymbol q) h e = cc
  no_less_layout (MemberSymbol k) h e = cc
  no_less_layout (ParamSymbol d i) h e = cc
  no_less_layout (NameSymbol a) h e = cc
  no_less_layout LayoutSymbol h e = cc

  single_least : (x : Symbol) → ((y : Symbol) → symbol_cmp y x ≡ Less → group m x ∷ [] ≡ group m y ∷ [] → ⊥)
      → IsLeast (AreCongruent m f L) (x ∷ [])
  single_least x none = least_by_none (AreCongruent m f L) (x ∷ []) (λ v c h. elim (less_than_one x v h) [
    | inl e ↦ full (subst (λ w. group m x ∷ [] ≡ first_group m w) e (chain_group c))
    | inr (y, e, l) ↦ none y l (subst (λ w. group m x ∷ [] ≡ first_group m w) e (chain_group c))
  ])
    where
      full : {y : Symbol} → y ∷ [] ≡ [] → ⊥
      full e = cc

  pub proto_least : (p : ProtoId) → IsLeast (AreCongruent m f L) (ProtoSymbol p.rank ∷ [])
  proto_least p = single_least (ProtoSymbol p.rank) (no_less_proto p.rank)

  pub layout_least : IsLeast (AreCongruent m f L) (LayoutSymbol ∷ [])
  layout_least = single_least LayoutSymbol no_less_layout

  -- so is the first generic parameter
  no_less_param : (x : Symbol) → symbol_cmp x (ParamSymbol 0 0) ≡ Less → ParamSymbol 0 0 ∷ [] ≡ group m x ∷ [] → ⊥
  no_less_param (ProtoSymbol q) h e = cc
  no_less_param (MemberSymbol k) h e = cc
  no_less_param (ParamSymbol d i) h e = elim (then_less (nat_cmp d 0) (nat_cmp i 0) h) [
    | inl l ↦ (let k : d < 0 = nat_less d 0 l in omega arith)
    | inr l ↦ (let k : i < 0 = nat_less i 0 l.1 in omega arith)
  ]
  no_less_param (NameSymbol a) h e = cc
  no_less_param LayoutSymbol h e = cc

  pub param_least : IsLeast (AreCongruent m f L) (ParamSymbol 0 0 ∷ [])
  param_least = single_least (ParamSymbol 0 0) no_less_param
