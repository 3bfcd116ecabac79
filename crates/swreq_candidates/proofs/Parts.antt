-- The parts of the word of a reduced type, and what is read over `[τ_0_0 : P]` from a member symbol `[P:A]` of it on.
use Rattle.std.proofs.Common.{◌≡◌, ℕ, suc, ◌<◌, ◌≤◌, ◌+◌, List, [], ◌∷◌, ◌++◌, append_assoc, length, length-append, refl, ap, subst, sym, ◌∙◌, arith}
use Rattle.std.proofs.Math.Decide.{ℕ_discrete}
use Rattle.swreq_canonical.specs.swreq_param.declared.ids.AssocId.{AssocId}
use Rattle.swreq_canonical.specs.swreq_param.declared.ids.ParamId.{ParamId}
use Rattle.swreq_canonical.specs.swreq_param.declared.ids.ProtoId.{ProtoId}
use Rattle.swreq_canonical.specs.swreq_param.declared.ids.Step.TheVariants.{Bound, Name}
use Rattle.swreq_canonical.specs.swreq_param.Terms.{Term, member_count, self}
use Rattle.swreq_canonical.specs.swreq_param.Terms.Term.{Generic, Member}
use Rattle.swreq_canonical.specs.swreq_derive.Derivation.{Derivable, Source, TermFacts, TermRequirement, TermStatement, for_self}
use Rattle.swreq_canonical.specs.swreq_derive.Derivation.Derives.{assoc_bind, reflex, same_conf, same_layout, same_name, symm, trans}
use Rattle.swreq_canonical.specs.swreq_derive.Derivation.Source.{SelfOf, Written}
use Rattle.swreq_canonical.specs.swreq_derive.Derivation.TermRequirement.{Conforms, Equals, IsAnyObject}
use Rattle.swreq_canonical.specs.swreq_derive.Derivation.TermStatement.{Requires}
use Rattle.swreq_canonical.specs.swreq_derive.Reduced.{IsReduced}
use Rattle.swreq_canonical.proofs.swreq_derive.Substitution.{stands_for_self}
use Rattle.swreq_canonical.specs.swreq_word.declared.symbols.Symbol.{Symbol}
use Rattle.swreq_canonical.specs.swreq_word.declared.symbols.Symbol.TheVariants.{Layout as LayoutSymbol, Member as MemberSymbol, Name as NameSymbol, Param as ParamSymbol, Proto as ProtoSymbol}
use Rattle.swreq_canonical.proofs.swreq_word.Cuts.{same_cut}
use Rattle.swreq_canonical.specs.swreq_correspondence.Readings.{CanRead, CanReadAll, after, read_on}
use Rattle.swreq_canonical.specs.swreq_correspondence.Symbols.{Symbols, Word, name_of, proto_of}
use Rattle.swreq_canonical.specs.swreq_correspondence.Types.{BeginsAs, IsFirstFor, IsTypeOf}
use Rattle.swreq_canonical.specs.Generators.{Follows}
use Rattle.swreq_canonical.proofs.Following.{by_one, by_two}
use Rattle.swreq_canonical.proofs.ReducedLemmas.{base_reduced}
use Rattle.swreq_canonical.proofs.Sides.{IsShorter, shorter_conformance, valid_by_shorter}

-- ---- reading on

pub read_on-for_self : (m : Symbols) (x t : Term) (w : Word) → for_self x (read_on m t w) ≡ read_on m (for_self x t) w
read_on-for_self m x t [] = refl
read_on-for_self m x t (ProtoSymbol q ∷ w) = read_on-for_self m x t w
read_on-for_self m x t (LayoutSymbol ∷ w) = read_on-for_self m x t w
read_on-for_self m x t (ParamSymbol d i ∷ w) = read_on-for_self m x t w
read_on-for_self m x t (NameSymbol a ∷ w) = read_on-for_self m x (Member t (Name (record { rank = a }))) w
read_on-for_self m x t (MemberSymbol k ∷ w) = read_on-for_self m x (Member t (Name (name_of m k))) w

pub read_on-push : (m : Symbols) (t : Term) (w : Word) (x : Symbol) → read_on m t (w ++ (x ∷ [])) ≡ after m (read_on m t w) x
read_on-push m t [] x = refl
read_on-push m t (y ∷ w) x = read_on-push m (after m t y) w x

-- the last symbol is read after the others
pub last_read : (m : Symbols) (f : TermFacts) (b : Source) (t : Term) (w : Word) (x : Symbol) → CanReadAll m f b t (w ++ (x ∷ []))
    → CanReadAll m f b t w × CanRead m f b (read_on m t w) x
last_read m f b t [] x c = (tt, c.0)
last_read m f b t (y ∷ w) x c = let (r, l) = last_read m f b (after m t y) w x c.1 in ((c.0, r), l)

module _ (m : Symbols) (f : TermFacts) (ps : List ParamId) (list : List TermRequirement) where
  abbrev L : Source
  L = Written ps list

  -- After x, the member symbols of w lead to the type t: each stands for the bound member with the first associated type of its name.
  unfoldable pub Leads : Term → Word → Term → Type 0
  Leads x [] t = x ≡ t
  Leads x (MemberSymbol k ∷ w) t =
      (d : AssocId) × CanRead m f L x (MemberSymbol k) × IsFirstFor f L x (name_of m k) d × Leads (Member x (Bound d)) w t
  Leads x (_ ∷ w) t = ⊥

  -- ---- the type at a place

  front_of : (t : Term) (rest u : Word) → BeginsAs m f L t rest u → (front : Word) × (u ≡ front ++ rest)
  front_of (Generic g) rest u h = (ParamSymbol g.depth g.index ∷ [], h)
  front_of (Member t (Name a)) rest u h = absurd h
  front_of (Member t (Bound d)) rest u (k, c, i, h) =
      let (front, e) = front_of t (MemberSymbol k ∷ rest) u h in
      (front ++ (MemberSymbol k ∷ []), e ∙ sym (append_assoc front (MemberSymbol k ∷ []) rest))

  same_end : (a b c d : Word) → a ++ b ≡ c ++ d → length b ≡ length d → b ≡ d
  same_end a b c d e n = let h = ap length e in (same_cut a b c d e (omega (arith, length-append a b, length-append c d))).1

  -- The word begins with a word of some type, after which the rest leads to z.
  abbrev pub HasTypeAt : Term → Word → Word → Type 0
  HasTypeAt z u rest = (x : Term) × BeginsAs m f L x rest u × Leads x rest z

  stop : (t z : Term) (rest u before s : Word) → BeginsAs m f L t rest u → Leads t rest z → u ≡ before ++ s
      → length rest ≡ length s → HasTypeAt z u s
  stop t z rest u before s h l e n =
      let (front, q) = front_of t rest u h in
      let i : rest ≡ s = same_end front rest before s (sym q ∙ e) n in
      (t, subst (λ c. BeginsAs m f L t c u) i h, subst (λ c. Leads t c z) i l)

  pub type_at : (t z : Term) (rest u before s : Word) → BeginsAs m f L t rest u → Leads t rest z → u ≡ before ++ s → 0 < length before
      → length rest ≤ length s
      → HasTypeAt z u s
  unfolding Leads
  type_at (Generic g) z rest u before s h l e some n = elim (ℕ_discrete (length rest) (length s)) [
    | yes q ↦ stop (Generic g) z rest u before s h l e q
    | no q ↦ (let p : length rest ≡ length s → ⊥ = q in
        let i = ap length (sym e ∙ h) in
        absurd (omega (arith, length-append before s)))
  ]
  type_at (Member t (Name a)) z rest u before s h l e some n = absurd h
  type_at (Member t (Bound d)) z rest u before s (k, c, i, h) l e some n = elim (ℕ_discrete (length rest) (length s)) [
    | yes q ↦ stop (Member t (Bound d)) z rest u before s (k, c, i, h) l e q
    | no q ↦ (let p : length rest ≡ length s → ⊥ = q in type_at t z (MemberSymbol k ∷ rest) u before s h (d, c, i, l) e some (omega arith))
  ]

  -- the type of the whole word
  pub type_of_part : (z : Term) (u before s : Word) → IsTypeOf m f L u z → u ≡ before ++ s → 0 < length before → HasTypeAt z u s
  unfolding Leads
  type_of_part z u before s h e some = type_at z z [] u before s h refl e some (omega arith)

  pub leads_longer : (x z : Term) (w : Word) → Leads x w z → member_count z ≡ member_count x + length w
  unfolding Leads
  leads_longer x z [] l = ap member_count (sym l) ∙ omega arith
  leads_longer x z (MemberSymbol k ∷ w) (d, c, i, l) = let h = leads_longer (Member x (Bound d)) z w l in omega arith
  leads_longer x z (ProtoSymbol q ∷ w) l = absurd l
  leads_longer x z (LayoutSymbol ∷ w) l = absurd l
  leads_longer x z (ParamSymbol d i ∷ w) l = absurd l
  leads_longer x z (NameSymbol a ∷ w) l = absurd l

  pub part_reduced : (x z : Term) (w : Word) → Leads x w z → IsReduced f L z → IsReduced f L x
  unfolding Leads
  part_reduced x z [] l r = subst (λ y. IsReduced f L y) (sym l) r
  part_reduced x z (MemberSymbol k ∷ w) (d, c, i, l) r = base_reduced x d (part_reduced (Member x (Bound d)) z w l r)
  part_reduced x z (ProtoSymbol q ∷ w) l r = absurd l
  part_reduced x z (LayoutSymbol ∷ w) l r = absurd l
  part_reduced x z (ParamSymbol d i ∷ w) l r = absurd l
  part_reduced x z (NameSymbol a ∷ w) l r = absurd l

  -- ---- what follows from canonical requirements of types with fewer members than n

  abbrev pub Shorter : ℕ → TermStatement → Type 0
  Shorter n st = Follows f ps (IsShorter f ps list n) st

  pub conformance : (n : ℕ) (t : Term) (p : ProtoId) → IsReduced f L t → Derivable f L (Requires (Conforms t p)) → member_count t < n
      → Shorter n (Requires (Conforms t p))
  conformance n t p r c h = shorter_conformance f ps list n t p r c h (valid_by_shorter f ps list n t r (omega arith))

  -- where t equals x, what w is read as after t equals z
  pub reads_as : (n : ℕ) (x z t : Term) (w : Word) → Leads x w z → IsReduced f L z → member_count z ≤ n → Shorter n (Requires (Equals t x))
      → Shorter n (Requires (Equals (read_on m t w) z))
  unfolding Leads
  reads_as n x z t [] l r g h =
      by_one f ps (IsShorter f ps list n) h (λ rs e. subst (λ y. Derivable f (Written ps rs) (Requires (Equals t y))) l e)
  reads_as n x z t (MemberSymbol k ∷ w) (d, c, i, l) r g h =
      let b : IsReduced f L x = part_reduced x z (MemberSymbol k ∷ w) (d, c, i, l) r in
      let o : member_count z ≡ (member_count x + 1) + length w = leads_longer (Member x (Bound d)) z w l in
      reads_as n (Member x (Bound d)) z (Member t (Name (name_of m k))) w l r g
      (by_two f ps (IsShorter f ps list n) h (conformance n x i.proto b i.conforms (omega arith))
      (λ rs e q. trans (same_name q e i.declares) (symm (assoc_bind q i.declares))))
  reads_as n x z t (ProtoSymbol q ∷ w) l r g h = absurd l
  reads_as n x z t (LayoutSymbol ∷ w) l r g h = absurd l
  reads_as n x z t (ParamSymbol d i ∷ w) l r g h = absurd l
  reads_as n x z t (NameSymbol a ∷ w) l r g h = absurd l

  -- An end of the word of a reduced type z begins with a member symbol of P. Then some X conforms to P, and what the end is read as over
  -- `[τ_0_0 : P]`, with X for `Self`, is z.
  HasBase : Term → ℕ → Word → Type 0
  HasBase z k w = (x : Term) × Shorter (member_count z) (Requires (Conforms x (proto_of m k)))
      × Shorter (member_count z) (Requires (Equals (for_self x (read_on m self (MemberSymbol k ∷ w))) z))

  base_of : (z : Term) (u before w : Word) (k : ℕ) → IsReduced f L z → IsTypeOf m f L u z → u ≡ before ++ (MemberSymbol k ∷ w)
      → 0 < length before → HasBase z k w
  unfolding Leads HasBase
  base_of z u before w k r h e some =
      let (x, b, l) = type_of_part z u before (MemberSymbol k ∷ w) h e some in
      let (d, q, i, l') = l in
      let y : IsReduced f L x = part_reduced x z (MemberSymbol k ∷ w) l r in
      let n : ℕ = member_count z in
      let o : member_count z ≡ member_count x + suc (length w) = leads_longer x z (MemberSymbol k ∷ w) l in (
        x,
        conformance n x (proto_of m k) y q.1 (omega arith),
        subst (λ t. Shorter n (Requires (Equals t z))) (sym (read_on-for_self m x self (MemberSymbol k ∷ w)))
            (reads_as n x z x (MemberSymbol k ∷ w) l r (omega arith)
            (by_one f ps (IsShorter f ps list n) (valid_by_shorter f ps list n x y (omega arith)) (λ rs v. reflex v))),
      )

  -- Where the end and then `[P]` are read over `[τ_0_0 : Q]`, [z : P] follows; and the same for the layout.
  pub conformance_follows : (z : Term) (p : ProtoId) (u before w : Word) (k : ℕ) → IsReduced f L z → IsTypeOf m f L u z
      → u ≡ before ++ (MemberSymbol k ∷ w) → 0 < length before
      → CanReadAll m f (SelfOf (proto_of m k)) self ((MemberSymbol k ∷ w) ++ (ProtoSymbol p.rank ∷ []))
      → Shorter (member_count z) (Requires (Conforms z p))
  unfolding HasBase
  conformance_follows z p u before w k r h e some c =
      let (x, y, g) = base_of z u before w k r h e some in
      let (_, s) = last_read m f (SelfOf (proto_of m k)) self (MemberSymbol k ∷ w) (ProtoSymbol p.rank) c in
      by_two f ps (IsShorter f ps list (member_count z)) y g
      (λ rs i j. same_conf (stands_for_self f (Written ps rs) x (proto_of m k)
      (Requires (Conforms (read_on m self (MemberSymbol k ∷ w)) p)) i s) (symm j))

  pub layout_follows : (z : Term) (u before w : Word) (k : ℕ) → IsReduced f L z → IsTypeOf m f L u z
      → u ≡ before ++ (MemberSymbol k ∷ w) → 0 < length before
      → CanReadAll m f (SelfOf (proto_of m k)) self ((MemberSymbol k ∷ w) ++ (LayoutSymbol ∷ []))
      → Shorter (member_count z) (Requires (IsAnyObject z))
  unfolding HasBase
  layout_follows z u before w k r h e some c =
      let (x, y, g) = base_of z u before w k r h e some in
      let (_, s) = last_read m f (SelfOf (proto_of m k)) self (MemberSymbol k ∷ w) LayoutSymbol c in
      by_two f ps (IsShorter f ps list (member_count z)) y g
      (λ rs i j. same_layout (stands_for_self f (Written ps rs) x (proto_of m k)
      (Requires (IsAnyObject (read_on m self (MemberSymbol k ∷ w)))) i s) (symm j))
