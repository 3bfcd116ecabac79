-- Derivations line by line: when a line is an instance of its rule over the lines before it.
--
-- The rules are those of `Derives`, without the guard. Here each has its name, its premises in order and its conclusion, as a table: `from`
-- is what it takes and `gives` what it gives.
use Rattle.std.specs.Prelude.{◌≡◌, ℕ, ◌-◌, ◌<◌, List, [], ◌∷◌, Some, Contains, map, slice_get, take}
use Rattle.swreq_param.specs.declared.ids.AssocId.{AssocId}
use Rattle.swreq_param.specs.declared.ids.ParamId.{ParamId}
use Rattle.swreq_param.specs.declared.ids.ProtoId.{ProtoId}
use Rattle.swreq_param.specs.declared.ids.Step.TheVariants.{Bound, Name}
use Rattle.swreq_param.specs.Terms.{Term}
use Rattle.swreq_param.specs.Terms.Term.{Generic, Member}
use Rattle.swreq_derive.specs.declared.lines.DerivRule.{DerivRule}
use Rattle.swreq_derive.specs.declared.lines.DerivRule.TheVariants as Rule
use Rattle.swreq_derive.specs.Derivation.{TermRequirement, TermStatement, TermFacts, Declares, for_self}
use Rattle.swreq_derive.specs.Derivation.TermRequirement.{Conforms, IsAnyObject, Equals}
use Rattle.swreq_derive.specs.Derivation.TermStatement.{IsValid, Requires}

-- ---- the table of rules

-- x is the n-th of the list, counted from 1.
abbrev pub HasNumber : {A : Type 0} → ℕ → List A → A → Type 0
HasNumber n xs x = (0 < n) × (slice_get xs (n - 1) ≡ Some x)

-- From these premises the rule gives this conclusion, over a list of requirements with its generic parameters.
abbrev pub IsInstance : TermFacts → List ParamId → List TermRequirement → DerivRule → List TermStatement → TermStatement → Type 0
-- GENERIC. A generic parameter of the list is valid.
IsInstance f params written Rule.Generic from gives =
    (g : ParamId) × (from ≡ []) × (gives ≡ IsValid (Generic g)) × Contains params g
-- CONF. The n-th written requirement, [T : P].
IsInstance f params written (Rule.Conf n) from gives =
    (t : Term) × (p : ProtoId) × (from ≡ []) × (gives ≡ Requires (Conforms t p)) × HasNumber n written (Conforms t p)
-- SAME. The n-th written requirement, [T == U].
IsInstance f params written (Rule.Same n) from gives =
    (t : Term) × (u : Term) × (from ≡ []) × (gives ≡ Requires (Equals t u)) × HasNumber n written (Equals t u)
-- LAYOUT. The n-th written requirement, [T : AnyObject].
IsInstance f params written (Rule.Layout n) from gives =
    (t : Term) × (from ≡ []) × (gives ≡ Requires (IsAnyObject t)) × HasNumber n written (IsAnyObject t)
-- ASSOCNAME. From [T : P], where P declares A: T.A is valid.
IsInstance f params written (Rule.AssocName p a) from gives =
    (t : Term) × (d : AssocId) × (from ≡ Requires (Conforms t p) ∷ []) × (gives ≡ IsValid (Member t (Name a))) × Declares f p a d
-- ASSOCDECL. From [T : P], where P declares A: T.[P]A is valid.
IsInstance f params written (Rule.AssocDecl p a) from gives =
    (t : Term) × (d : AssocId) × (from ≡ Requires (Conforms t p) ∷ []) × (gives ≡ IsValid (Member t (Bound d))) × Declares f p a d
-- ASSOCBIND. From [T : P], where P declares A: [T.[P]A == T.A].
IsInstance f params written (Rule.AssocBind p a) from gives =
    (t : Term) × (d : AssocId) × (from ≡ Requires (Conforms t p) ∷ [])
    × (gives ≡ Requires (Equals (Member t (Bound d)) (Member t (Name a)))) × Declares f p a d
-- ASSOCCONF. From [T : P], and the n-th requirement of P, [U : Q]: that one with T for `Self`.
IsInstance f params written (Rule.AssocConf p n) from gives =
    (t : Term) × (u : Term) × (q : ProtoId)
    × (from ≡ Requires (Conforms t p) ∷ []) × (gives ≡ Requires (Conforms (for_self t u) q)) × HasNumber n (f.of_protocol p) (Conforms u q)
-- ASSOCSAME. From [T : P], and the n-th requirement of P, [U == V]: that one with T for `Self`.
IsInstance f params written (Rule.AssocSame p n) from gives =
    (t : Term) × (u : Term) × (v : Term)
    × (from ≡ Requires (Conforms t p) ∷ []) × (gives ≡ Requires (Equals (for_self t u) (for_self t v)))
    × HasNumber n (f.of_protocol p) (Equals u v)
-- ASSOCLAYOUT. From [T : P], and the n-th requirement of P, [U : AnyObject]: that one with T for `Self`.
IsInstance f params written (Rule.AssocLayout p n) from gives =
    (t : Term) × (u : Term)
    × (from ≡ Requires (Conforms t p) ∷ []) × (gives ≡ Requires (IsAnyObject (for_self t u)))
    × HasNumber n (f.of_protocol p) (IsAnyObject u)
-- REFLEX. From a valid T: [T == T].
IsInstance f params written Rule.Reflex from gives =
    (t : Term) × (from ≡ IsValid t ∷ []) × (gives ≡ Requires (Equals t t))
-- SYMM. From [T == U]: [U == T].
IsInstance f params written Rule.Symm from gives =
    (t : Term) × (u : Term) × (from ≡ Requires (Equals t u) ∷ []) × (gives ≡ Requires (Equals u t))
-- TRANS. From [T == U] and [U == V]: [T == V].
IsInstance f params written Rule.Trans from gives =
    (t : Term) × (u : Term) × (v : Term) × (from ≡ Requires (Equals t u) ∷ Requires (Equals u v) ∷ []) × (gives ≡ Requires (Equals t v))
-- SAMECONF. From [U : P] and [T == U]: [T : P].
IsInstance f params written (Rule.SameConf p) from gives =
    (t : Term) × (u : Term) × (from ≡ Requires (Conforms u p) ∷ Requires (Equals t u) ∷ []) × (gives ≡ Requires (Conforms t p))
-- SAMELAYOUT. From [U : AnyObject] and [T == U]: [T : AnyObject].
IsInstance f params written Rule.SameLayout from gives =
    (t : Term) × (u : Term) × (from ≡ Requires (IsAnyObject u) ∷ Requires (Equals t u) ∷ []) × (gives ≡ Requires (IsAnyObject t))
-- SAMENAME. From [U : P] and [T == U], where P declares A: [T.A == U.A].
IsInstance f params written (Rule.SameName p a) from gives =
    (t : Term) × (u : Term) × (d : AssocId)
    × (from ≡ Requires (Conforms u p) ∷ Requires (Equals t u) ∷ [])
    × (gives ≡ Requires (Equals (Member t (Name a)) (Member u (Name a)))) × Declares f p a d
-- SAMEDECL. From [U : P] and [T == U], where P declares A: [T.[P]A == U.[P]A].
IsInstance f params written (Rule.SameDecl p a) from gives =
    (t : Term) × (u : Term) × (d : AssocId)
    × (from ≡ Requires (Conforms u p) ∷ Requires (Equals t u) ∷ [])
    × (gives ≡ Requires (Equals (Member t (Bound d)) (Member u (Bound d)))) × Declares f p a d

-- ---- lines

-- A line of a derivation: what it states, the rule that gives it, and the numbers of the earlier lines from which the rule gives it.
pub record TermLine : Type 0 where
  pub rule : DerivRule
  pub premises : List ℕ
  pub statement : TermStatement

-- Each number is that of an earlier statement, counted from 1, and that is the statement in its place.
abbrev pub AreStated : {S : Type 0} → List S → List ℕ → List S → Type 0
AreStated earlier [] [] = Unit {0}
AreStated earlier [] (st ∷ sts) = ⊥
AreStated earlier (n ∷ ns) [] = ⊥
AreStated earlier (n ∷ ns) (st ∷ sts) = HasNumber n earlier st × AreStated earlier ns sts

-- A line is an instance of its rule over what the lines before it state.
pub record Follows (f : TermFacts) (params : List ParamId) (written : List TermRequirement) (earlier : List TermStatement) (l : TermLine) :
    Type 0 where
  pub from : List TermStatement
  pub stated : AreStated earlier l.premises from
  pub instance : IsInstance f params written l.rule from l.statement

abbrev pub statements_of : List TermLine → List TermStatement
statements_of ls = map (λ l. l.statement) ls

-- Each line is an instance of its rule over the lines before it.
abbrev pub IsDerivation : TermFacts → List ParamId → List TermRequirement → List TermLine → Type 0
IsDerivation f params written ls = (k : ℕ) (l : TermLine) → slice_get ls k ≡ Some l → Follows f params written (take k (statements_of ls)) l

-- The line with this number is the first that is not an instance of its rule over the lines before it.
pub record IsFirstBad (f : TermFacts) (params : List ParamId) (written : List TermRequirement) (ls : List TermLine) (n : ℕ) : Type 0 where
  pub line : TermLine
  pub number : HasNumber n ls line
  pub bad : Follows f params written (take (n - 1) (statements_of ls)) line → ⊥
  pub before : (k : ℕ) (l : TermLine) → k < n - 1 → slice_get ls k ≡ Some l → Follows f params written (take k (statements_of ls)) l
