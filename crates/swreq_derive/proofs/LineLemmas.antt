-- Lines of derivations: what they state is derivable by the book's rules, and how a line's premises are read.
use Rattle.std.proofs.Common.{◌≡◌, ℕ, zero, suc, ◌+◌, ◌-◌, ◌<◌, ◌≤◌, false, List, [], ◌∷◌, length, Some, map, slice_get, take, refl, sym, ap, subst, ◌∙◌, ◌↔◌, inl, inr, arith, IsTrue}
use Rattle.std.proofs.lemmas.Option.{slice_get_within}
use Rattle.swreq_param.specs.declared.ids.ParamId.{ParamId}
use Rattle.swreq_param.specs.Terms.{Term}
use Rattle.swreq_derive.specs.declared.requirements.Statement.{Statement}
use Rattle.swreq_derive.specs.declared.lines.Line.{Line}
use Rattle.swreq_derive.specs.declared.lines.DerivRule.{DerivRule}
use Rattle.swreq_derive.specs.declared.lines.DerivRule.TheVariants as Rule
use Rattle.swreq_derive.specs.Derivation.{TermRequirement, TermStatement, TermFacts, Derives}
use Rattle.swreq_derive.specs.Derivation.Source.{Written}
use Rattle.swreq_derive.specs.Derivation.TermRequirement.{Conforms, IsAnyObject, Equals}
use Rattle.swreq_derive.specs.Derivation.Derives.{generic, conf, same, layout, assoc_name, assoc_decl, assoc_bind, assoc_conf, assoc_same, assoc_layout, reflex, symm, trans, same_conf, same_layout, same_name, same_decl}
use Rattle.swreq_derive.specs.Facts.{requirement_of, statement_of, IdFacts, generic_params, term_facts, term_source, IsStatementOver}
use Rattle.swreq_derive.specs.Instances.{statements_of, TermLine, HasNumber, IsInstance, AreStated, Follows, IsDerivation}
use Rattle.swreq_derive.specs.Lines.{stated_by, line_of, IsGiven, IsNext, AreLinesOf, AreDerived, IsFirstNotDerived}
use Rattle.swreq_derive.proofs.Guard.{unguarded}
use Rattle.swreq_param.proofs.swreq_lemmas.Members.{Each}
use Rattle.swreq_derive.proofs.InstanceLemmas.{contains_number, one_number, number_map, map_number}
use Rattle.swreq_param.proofs.swreq_lemmas.Elements.{get_of_map, get_map}
use Rattle.swreq_param.proofs.swreq_lemmas.Numbers.{last_or_below}

-- From derivable premises an instance gives what is derivable.
pub instance_derives : (f : TermFacts) (gs : List ParamId) (ws : List TermRequirement) (rule : DerivRule)
    (from : List TermStatement) (gives : TermStatement)
    → IsInstance f gs ws rule from gives → Each (Derives f false (Written gs ws)) from → Derives f false (Written gs ws) gives
instance_derives f gs ws Rule.Generic from gives w h = subst (Derives f false (Written gs ws)) (sym w.2) (generic w.3)
instance_derives f gs ws (Rule.Conf n) from gives w h =
    subst (Derives f false (Written gs ws)) (sym w.3) (conf (contains_number n ws (Conforms w.0 w.1) w.4) unguarded)
instance_derives f gs ws (Rule.Same n) from gives w h =
    subst (Derives f false (Written gs ws)) (sym w.3) (same (contains_number n ws (Equals w.0 w.1) w.4) unguarded unguarded)
instance_derives f gs ws (Rule.Layout n) from gives w h =
    subst (Derives f false (Written gs ws)) (sym w.2) (layout (contains_number n ws (IsAnyObject w.0) w.3) unguarded)
instance_derives f gs ws (Rule.AssocName p a) from gives w h =
    let k = subst (Each (Derives f false (Written gs ws))) w.2 h in subst (Derives f false (Written gs ws)) (sym w.3) (assoc_name k.0 w.4)
instance_derives f gs ws (Rule.AssocDecl p a) from gives w h =
    let k = subst (Each (Derives f false (Written gs ws))) w.2 h in subst (Derives f false (Written gs ws)) (sym w.3) (assoc_decl k.0 w.4)
instance_derives f gs ws (Rule.AssocBind p a) from gives w h =
    let k = subst (Each (Derives f false (Written gs ws))) w.2 h in subst (Derives f false (Written gs ws)) (sym w.3) (assoc_bind k.0 w.4)
instance_derives f gs ws (Rule.AssocConf p n) from gives w h =
    let k = subst (Each (Derives f false (Written gs ws))) w.3 h in
    subst (Derives f false (Written gs ws)) (sym w.4)
    (assoc_conf k.0 (contains_number n (f.of_protocol p) (Conforms w.1 w.2) w.5) unguarded)
instance_derives f gs ws (Rule.AssocSame p n) from gives w h =
    let k = subst (Each (Derives f false (Written gs ws))) w.3 h in
    subst (Derives f false (Written gs ws)) (sym w.4)
    (assoc_same k.0 (contains_number n (f.of_protocol p) (Equals w.1 w.2) w.5) unguarded unguarded)
instance_derives f gs ws (Rule.AssocLayout p n) from gives w h =
    let k = subst (Each (Derives f false (Written gs ws))) w.2 h in
    subst (Derives f false (Written gs ws)) (sym w.3)
    (assoc_layout k.0 (contains_number n (f.of_protocol p) (IsAnyObject w.1) w.4) unguarded)
instance_derives f gs ws Rule.Reflex from gives w h =
    let k = subst (Each (Derives f false (Written gs ws))) w.1 h in subst (Derives f false (Written gs ws)) (sym w.2) (reflex k.0)
instance_derives f gs ws Rule.Symm from gives w h =
    let k = subst (Each (Derives f false (Written gs ws))) w.2 h in subst (Derives f false (Written gs ws)) (sym w.3) (symm k.0)
instance_derives f gs ws Rule.Trans from gives w h =
    let k = subst (Each (Derives f false (Written gs ws))) w.3 h in subst (Derives f false (Written gs ws)) (sym w.4) (trans k.0 k.1.0)
instance_derives f gs ws (Rule.SameConf p) from gives w h =
    let k = subst (Each (Derives f false (Written gs ws))) w.2 h in subst (Derives f false (Written gs ws)) (sym w.3) (same_conf k.0 k.1.0)
instance_derives f gs ws Rule.SameLayout from gives w h =
    let k = subst (Each (Derives f false (Written gs ws))) w.2 h in
    subst (Derives f false (Written gs ws)) (sym w.3) (same_layout k.0 k.1.0)
instance_derives f gs ws (Rule.SameName p a) from gives w h =
    let k = subst (Each (Derives f false (Written gs ws))) w.3 h in
    subst (Derives f false (Written gs ws)) (sym w.4) (same_name k.0 k.1.0 w.5)
instance_derives f gs ws (Rule.SameDecl p a) from gives w h =
    let k = subst (Each (Derives f false (Written gs ws))) w.3 h in
    subst (Derives f false (Written gs ws)) (sym w.4) (same_decl k.0 k.1.0 w.5)

-- ---- earlier lines

pub get_take : {A : Type 0} (k i : ℕ) (xs : List A) (x : A) → slice_get (take k xs) i ≡ Some x → (i < k) × (slice_get xs i ≡ Some x)
get_take zero i xs x e = absurd cc
get_take (suc k) i [] x e = absurd cc
get_take (suc k) zero (y ∷ ys) x e = (omega arith, e)
get_take (suc k) (suc i) (y ∷ ys) x e = let w = get_take k i ys x e in (omega (arith, w.0), w.1)

-- ---- what the lines of a derivation state is derivable by the book's rules

module _ (f : TermFacts) (gs : List ParamId) (ws : List TermRequirement) where
  all_hold : (earlier : List TermStatement) (ns : List ℕ) (sts : List TermStatement) → AreStated earlier ns sts
      → ((n : ℕ) (st : TermStatement) → HasNumber n earlier st → Derives f false (Written gs ws) st)
      → Each (Derives f false (Written gs ws)) sts
  all_hold earlier [] [] h holds = tt
  all_hold earlier [] (st ∷ sts) h holds = absurd h
  all_hold earlier (n ∷ ns) [] h holds = absurd h
  all_hold earlier (n ∷ ns) (st ∷ sts) h holds = (holds n st h.0, all_hold earlier ns sts h.1 holds)

  below : (ls : List TermLine) → IsDerivation f gs ws ls → (b k : ℕ) (l : TermLine) → k < b → slice_get ls k ≡ Some l
      → Derives f false (Written gs ws) l.statement
  below ls d zero k l h e = absurd (omega arith)
  below ls d (suc b) k l h e =
      let w = d k l e in
      instance_derives f gs ws l.rule w.from l.statement w.instance (all_hold (take k (statements_of ls)) l.premises w.from w.stated
      (λ n st i.
      let j = get_take k (n - 1) (statements_of ls) st i.1 in
      let x = get_of_map (λ (z : TermLine). z.statement) ls (n - 1) st j.1 in
      subst (Derives f false (Written gs ws)) x.2 (below ls d b (n - 1) x.0 (omega (arith, j.0)) x.1)))

  pub lines_hold : (ls : List TermLine) → IsDerivation f gs ws ls → (k : ℕ) (l : TermLine) → slice_get ls k ≡ Some l
      → Derives f false (Written gs ws) l.statement
  lines_hold ls d k l e = below ls d (suc k) k l (omega arith) e

pub lines_say : (terms : List Term) (m : IdFacts) (ls : List Line) → AreDerived terms m ls → (k : ℕ) (l : Line) → slice_get ls k ≡ Some l
    → Derives (term_facts terms m) false (term_source terms m) (statement_of terms l.statement)
lines_say terms m ls d k l e = lines_hold (term_facts terms m) (generic_params m.params) (map (requirement_of terms) m.written)
    (map (line_of terms) ls) d k (line_of terms l) (get_map (line_of terms) ls k l e)

-- ---- the premises of a line

pub stated_once : {S : Type 0} (earlier : List S) (ns : List ℕ) (sts others : List S) → AreStated earlier ns sts
    → AreStated earlier ns others → sts ≡ others
stated_once earlier [] [] [] h k = refl
stated_once earlier [] [] (o ∷ os) h k = absurd k
stated_once earlier [] (st ∷ sts) os h k = absurd h
stated_once earlier (n ∷ ns) [] os h k = absurd h
stated_once earlier (n ∷ ns) (st ∷ sts) [] h k = absurd k
stated_once earlier (n ∷ ns) (st ∷ sts) (o ∷ os) h k =
    let e : st ≡ o = one_number n earlier st o h.0 k.0 in
    let r : sts ≡ os = stated_once earlier ns sts os h.1 k.1 in
    λ i. e i ∷ r i

pub stated_map : {A B : Type 0} (g : A → B) (earlier : List A) (ns : List ℕ) (sts : List A) → AreStated earlier ns sts
    → AreStated (map g earlier) ns (map g sts)
stated_map g earlier [] [] h = tt
stated_map g earlier [] (st ∷ sts) h = absurd h
stated_map g earlier (n ∷ ns) [] h = absurd h
stated_map g earlier (n ∷ ns) (st ∷ sts) h = (map_number g n earlier st h.0, stated_map g earlier ns sts h.1)

map_stated : {A B : Type 0} (g : A → B) (earlier : List A) (ns : List ℕ) (sts : List B) → AreStated (map g earlier) ns sts
    → (os : List A) × AreStated earlier ns os × (map g os ≡ sts)
map_stated g earlier [] [] h = ([], tt, refl)
map_stated g earlier [] (st ∷ sts) h = absurd h
map_stated g earlier (n ∷ ns) [] h = absurd h
map_stated g earlier (n ∷ ns) (st ∷ sts) h =
    let x = number_map g n earlier st h.0 in
    let (os, w, e) = map_stated g earlier ns sts h.1 in
    (x.0 ∷ os, (x.1, w), λ i. x.2 i ∷ e i)

pub stated_of : (terms : List Term) (m : IdFacts) (earlier : List Line) (ns : List ℕ) (sts : List Statement) → AreLinesOf terms m earlier
    → AreStated (stated_by earlier) ns sts
    → Each (IsStatementOver terms m) sts
stated_of terms m earlier [] [] of h = tt
stated_of terms m earlier [] (st ∷ sts) of h = absurd h
stated_of terms m earlier (n ∷ ns) [] of h = absurd h
stated_of terms m earlier (n ∷ ns) (st ∷ sts) of h =
    let x = number_map (λ (z : Line). z.statement) n earlier st h.0 in
    (subst (IsStatementOver terms m) x.2 (of (n - 1) x.0 x.1.1).1, stated_of terms m earlier ns sts of h.1)

-- Where these are the statements of the premises, a line follows if and only if its rule gives what it states.
pub follows_from : (terms : List Term) (m : IdFacts) (earlier : List Statement) (l : Line) (sts : List Statement) (b : _)
    → AreStated earlier l.premises sts
    → IsTrue b ↔ IsGiven terms m l.rule sts l.statement → IsTrue b ↔ IsNext terms m earlier l
follows_from terms m earlier l sts b h w = (
  (λ e.
      record { from = map (statement_of terms) sts; stated = stated_map (statement_of terms) earlier l.premises sts h; instance = w.0 e }),
  λ x. w.1 (subst (λ z. IsInstance (term_facts terms m) (generic_params m.params) (map (requirement_of terms) m.written) l.rule z
      (statement_of terms l.statement))
      (stated_once (map (statement_of terms) earlier) l.premises x.from (map (statement_of terms) sts) x.stated
      (stated_map (statement_of terms) earlier l.premises sts h)) x.instance),
)

-- No rule has three premises.
abbrev IsShort : {A : Type 0} → List A → Type 0
IsShort xs = length xs < 3

short : (terms : List Term) (sts : List Statement) → IsShort (map (statement_of terms) sts) → IsShort sts
short terms [] h = omega arith
short terms (a ∷ []) h = omega arith
short terms (a ∷ b ∷ []) h = omega arith
short terms (a ∷ b ∷ c ∷ ds) h = absurd (omega arith)

few : (f : TermFacts) (gs : List ParamId) (ws : List TermRequirement) (rule : DerivRule) (from : List TermStatement) (gives : TermStatement)
    → IsInstance f gs ws rule from gives → IsShort from
few f gs ws Rule.Generic from gives w = subst IsShort (sym w.1) (omega arith)
few f gs ws (Rule.Conf n) from gives w = subst IsShort (sym w.2) (omega arith)
few f gs ws (Rule.Same n) from gives w = subst IsShort (sym w.2) (omega arith)
few f gs ws (Rule.Layout n) from gives w = subst IsShort (sym w.1) (omega arith)
few f gs ws (Rule.AssocName p a) from gives w = subst IsShort (sym w.2) (omega arith)
few f gs ws (Rule.AssocDecl p a) from gives w = subst IsShort (sym w.2) (omega arith)
few f gs ws (Rule.AssocBind p a) from gives w = subst IsShort (sym w.2) (omega arith)
few f gs ws (Rule.AssocConf p n) from gives w = subst IsShort (sym w.3) (omega arith)
few f gs ws (Rule.AssocSame p n) from gives w = subst IsShort (sym w.3) (omega arith)
few f gs ws (Rule.AssocLayout p n) from gives w = subst IsShort (sym w.2) (omega arith)
few f gs ws Rule.Reflex from gives w = subst IsShort (sym w.1) (omega arith)
few f gs ws Rule.Symm from gives w = subst IsShort (sym w.2) (omega arith)
few f gs ws Rule.Trans from gives w = subst IsShort (sym w.3) (omega arith)
few f gs ws (Rule.SameConf p) from gives w = subst IsShort (sym w.2) (omega arith)
few f gs ws Rule.SameLayout from gives w = subst IsShort (sym w.2) (omega arith)
few f gs ws (Rule.SameName p a) from gives w = subst IsShort (sym w.3) (omega arith)
few f gs ws (Rule.SameDecl p a) from gives w = subst IsShort (sym w.3) (omega arith)

pub follows_never : (terms : List Term) (m : IdFacts) (earlier : List Statement) (l : Line)
    → ((sts : List Statement) → AreStated earlier l.premises sts → length sts < 3 → ⊥)
    → IsNext terms m earlier l → ⊥
follows_never terms m earlier l none x =
    let (os, w, e) = map_stated (statement_of terms) earlier l.premises x.from x.stated in
    none os w (short terms os (subst IsShort (sym e) (few (term_facts terms m) (generic_params m.params)
    (map (requirement_of terms) m.written) l.rule x.from (statement_of terms l.statement) x.instance)))

-- ---- lines of a list so far

-- the statements before a place, over ids and over type parameters
pub said_before : (terms : List Term) (k : ℕ) (ls : List Line)
    → map (statement_of terms) (stated_by (take k ls)) ≡ take k (statements_of (map (line_of terms) ls))
said_before terms zero ls = refl
said_before terms (suc k) [] = refl
said_before terms (suc k) (l ∷ ls) = ap (λ z. statement_of terms l.statement ∷ z) (said_before terms k ls)

-- the k-th line, over type parameters, follows if and only if the k-th line does
pub next_at : (terms : List Term) (m : IdFacts) (ls : List Line) (k : ℕ) (l : Line)
    → IsNext terms m (stated_by (take k ls)) l ↔ Follows (term_facts terms m) (generic_params m.params)
    (map (requirement_of terms) m.written) (take k (statements_of (map (line_of terms) ls))) (line_of terms l)
next_at terms m ls k l = (
  (λ h. subst (λ z. Follows (term_facts terms m) (generic_params m.params) (map (requirement_of terms) m.written) z (line_of terms l))
      (said_before terms k ls) h),
  λ h. subst (λ z. Follows (term_facts terms m) (generic_params m.params) (map (requirement_of terms) m.written) z (line_of terms l))
      (sym (said_before terms k ls)) h,
)

-- Each line before the n-th follows.
abbrev pub FollowBelow : List Term → IdFacts → List Line → ℕ → Type 0
FollowBelow terms m ls n = (k : ℕ) (l : Line) → k < n → slice_get ls k ≡ Some l → IsNext terms m (stated_by (take k ls)) l

follows_below : (terms : List Term) (m : IdFacts) (ls : List Line) (n : ℕ) → FollowBelow terms m ls n → (k : ℕ) (l : TermLine) → k < n
    → slice_get (map (line_of terms) ls) k ≡ Some l
    → Follows (term_facts terms m) (generic_params m.params) (map (requirement_of terms) m.written)
    (take k (statements_of (map (line_of terms) ls))) l
follows_below terms m ls n h k l i e =
    let x = get_of_map (line_of terms) ls k l e in
    subst (λ z. Follows (term_facts terms m) (generic_params m.params) (map (requirement_of terms) m.written)
    (take k (statements_of (map (line_of terms) ls))) z) x.2
    ((next_at terms m ls k x.0).0 (h k x.0 i x.1))

pub all_derived : (terms : List Term) (m : IdFacts) (ls : List Line) (n : ℕ) → length ls ≤ n
    → FollowBelow terms m ls n → AreDerived terms m ls
all_derived terms m ls n b h k l e =
    let x = get_of_map (line_of terms) ls k l e in
    follows_below terms m ls n h k l (let i = slice_get_within ls k x.0 x.1 in omega arith) e

pub not_derived : (terms : List Term) (m : IdFacts) (ls : List Line) (k : ℕ) (l : Line) → slice_get ls k ≡ Some l
    → (IsNext terms m (stated_by (take k ls)) l → ⊥) → AreDerived terms m ls → ⊥
not_derived terms m ls k l e bad d = bad ((next_at terms m ls k l).1 (d k (line_of terms l) (get_map (line_of terms) ls k l e)))

pub first_bad : (terms : List Term) (m : IdFacts) (ls : List Line) (k : ℕ) (l : Line) → slice_get ls k ≡ Some l
    → (IsNext terms m (stated_by (take k ls)) l → ⊥)
    → FollowBelow terms m ls k → IsFirstNotDerived terms m ls (k + 1)
first_bad terms m ls k l e bad h =
    let n : k + 1 - 1 ≡ k = omega arith in
    record {
      line = line_of terms l;
      number = (
        omega arith,
        subst (λ z. slice_get (map (line_of terms) ls) z ≡ Some (line_of terms l)) (sym n) (get_map (line_of terms) ls k l e),
      );
      bad = λ x. bad ((next_at terms m ls k l).1 (subst (λ z. Follows (term_facts terms m) (generic_params m.params)
          (map (requirement_of terms) m.written) (take z (statements_of (map (line_of terms) ls))) (line_of terms l)) n x));
      before = λ j x i. follows_below terms m ls k h j x (omega (arith, i));
    }

-- One line more follows.
pub follow_more : (terms : List Term) (m : IdFacts) (ls : List Line) (n : ℕ) (x : Line) → FollowBelow terms m ls n → slice_get ls n ≡ Some x
    → IsNext terms m (stated_by (take n ls)) x
    → FollowBelow terms m ls (n + 1)
follow_more terms m ls n x h e w k l i f = elim (last_or_below k n (omega arith)) [
  | inl j ↦ (let s : Some x ≡ Some l = sym e ∙ subst (λ z. slice_get ls z ≡ Some l) j f in
      let y : x ≡ l = one_some s in
      subst (λ z. IsNext terms m (stated_by (take z ls)) l) (sym j) (subst (λ z. IsNext terms m (stated_by (take n ls)) z) y w))
  | inr j ↦ h k l j f
]
  where
    one_some : {x y : Line} → Some x ≡ Some y → x ≡ y
    one_some e = cc
