-- Lists of lines, from the left: what is derivable by the book's rules has lines.
use Rattle.std.proofs.Common.{◌≡◌, ℕ, zero, suc, ◌+◌, ◌-◌, ◌<◌, false, List, [], ◌∷◌, ◌++◌, length, Some, map, slice_get, take, refl, sym, ap, subst, ◌∙◌, arith, append_assoc, append-nil}
use Rattle.swreq_param.specs.declared.ids.ParamId.{ParamId}
use Rattle.swreq_param.specs.declared.ids.Step.TheVariants.{Bound, Name}
use Rattle.swreq_param.specs.Terms.Term.{Generic, Member}
use Rattle.swreq_derive.specs.declared.lines.DerivRule.{DerivRule}
use Rattle.swreq_derive.specs.declared.lines.DerivRule.TheVariants as Rule
use Rattle.swreq_derive.specs.Derivation.{TermRequirement, TermStatement, TermFacts, Source, Derives, BookDerivable, HasParam, HasRequirement, for_self}
use Rattle.swreq_derive.specs.Derivation.TermRequirement.{Conforms, IsAnyObject, Equals}
use Rattle.swreq_derive.specs.Derivation.TermStatement.{IsValid, Requires}
use Rattle.swreq_derive.specs.Derivation.Source.{Written}
use Rattle.swreq_derive.specs.Derivation.Derives.{generic, conf, same, layout, assoc_name, assoc_decl, assoc_bind, assoc_conf, assoc_same, assoc_layout, reflex, symm, trans, same_conf, same_layout, same_name, same_decl}
use Rattle.swreq_derive.specs.Instances.{TermLine, HasNumber, IsInstance, AreStated, Follows, IsDerivation, statements_of}
use Rattle.swreq_derive.proofs.PathLemmas.{number_of}
use Rattle.swreq_param.proofs.swreq_lemmas.Elements.{get_left, get_after}

-- ---- numbers in longer lists

pub number_left : {A : Type 0} (xs ys : List A) (n : ℕ) (x : A) → HasNumber n xs x → HasNumber n (xs ++ ys) x
number_left xs ys n x h = (h.0, get_left xs ys (n - 1) x h.1)

pub number_right : {A : Type 0} (xs ys : List A) (n : ℕ) (x : A) → HasNumber n ys x → HasNumber (length xs + n) (xs ++ ys) x
number_right xs ys n x h =
    let p : 0 < n = h.0 in
    let e : length xs + n - 1 ≡ length xs + (n - 1) = omega arith in
    (omega arith, ap (slice_get (xs ++ ys)) e ∙ get_after xs ys (n - 1) ∙ h.1)

pub number_last : {A : Type 0} (xs : List A) (x : A) → HasNumber (length xs + 1) (xs ++ x ∷ []) x
number_last xs x = number_right xs (x ∷ []) 1 x (omega arith, refl)

-- ---- lines from the left

module _ (f : TermFacts) (gs : List ParamId) (ws : List TermRequirement) where
  -- Each line follows from what is stated before the list and by the lines before it.
  abbrev AllFollow : List TermStatement → List TermLine → Type 0
  AllFollow earlier [] = Unit {0}
  AllFollow earlier (l ∷ ls) = Follows f gs ws earlier l × AllFollow (earlier ++ l.statement ∷ []) ls

  each_follows : (earlier : List TermStatement) (ls : List TermLine) → AllFollow earlier ls → (k : ℕ) (l : TermLine)
      → slice_get ls k ≡ Some l
      → Follows f gs ws (earlier ++ take k (statements_of ls)) l
  each_follows earlier [] a k l e = absurd cc
  each_follows earlier (x ∷ ls) a zero l e =
      let i : x ≡ l = cc in
      subst (λ z. Follows f gs ws z l) (sym (append-nil earlier)) (subst (λ z. Follows f gs ws earlier z) i a.0)
  each_follows earlier (x ∷ ls) a (suc k) l e =
      subst (λ z. Follows f gs ws z l) (append_assoc earlier (x.statement ∷ []) (take k (statements_of ls)))
      (each_follows (earlier ++ x.statement ∷ []) ls a.1 k l e)

  pub is_derivation : (ls : List TermLine) → AllFollow [] ls → IsDerivation f gs ws ls
  is_derivation ls a k l e = each_follows [] ls a k l e

  -- One list after another, the second with its numbers raised by the length of the first.
  abbrev raised : ℕ → List TermLine → List TermLine
  raised n [] = []
  raised n (l ∷ ls) = record { rule = l.rule; premises = map (λ k. n + k) l.premises; statement = l.statement } ∷ raised n ls

  stated_right : (before earlier : List TermStatement) (ns : List ℕ) (sts : List TermStatement) → AreStated earlier ns sts
      → AreStated (before ++ earlier) (map (λ k. length before + k) ns) sts
  stated_right before earlier [] [] h = tt
  stated_right before earlier [] (st ∷ sts) h = absurd h
  stated_right before earlier (n ∷ ns) [] h = absurd h
  stated_right before earlier (n ∷ ns) (st ∷ sts) h = (number_right before earlier n st h.0, stated_right before earlier ns sts h.1)

  raised_follow : (before earlier : List TermStatement) (ls : List TermLine) → AllFollow earlier ls
      → AllFollow (before ++ earlier) (raised (length before) ls)
  raised_follow before earlier [] a = tt
  raised_follow before earlier (l ∷ ls) a = (
    record { from = a.0.from; stated = stated_right before earlier l.premises a.0.from a.0.stated; instance = a.0.instance },
    subst (λ z. AllFollow z (raised (length before) ls)) (sym (append_assoc before earlier (l.statement ∷ [])))
        (raised_follow before (earlier ++ l.statement ∷ []) ls a.1),
  )

  both_follow : (earlier : List TermStatement) (first others : List TermLine) → AllFollow earlier first
      → AllFollow (earlier ++ statements_of first) others → AllFollow earlier (first ++ others)
  both_follow earlier [] others a b = subst (λ z. AllFollow z others) (append-nil earlier) b
  both_follow earlier (l ∷ first) others a b = (
    a.0,
    both_follow (earlier ++ l.statement ∷ []) first others a.1
        (subst (λ z. AllFollow z others) (sym (append_assoc earlier (l.statement ∷ []) (statements_of first))) b),
  )

  joined : (first others : List TermLine) → AllFollow [] first → AllFollow [] others
      → AllFollow [] (first ++ raised (length (statements_of first)) others)
  joined first others a b =
      both_follow [] first (raised (length (statements_of first)) others) a
      (subst (λ z. AllFollow z (raised (length (statements_of first)) others)) (append-nil (statements_of first))
      (raised_follow (statements_of first) [] others b))

  statements-raised : (n : ℕ) (ls : List TermLine) → statements_of (raised n ls) ≡ statements_of ls
  statements-raised n [] = refl
  statements-raised n (l ∷ ls) = ap (λ z. l.statement ∷ z) (statements-raised n ls)

  statements-append : (first others : List TermLine) → statements_of (first ++ others) ≡ statements_of first ++ statements_of others
  statements-append [] others = refl
  statements-append (l ∷ first) others = ap (λ z. l.statement ∷ z) (statements-append first others)

  -- ---- from a derivation to lines

  -- lines the last of which states this
  record HasLines (st : TermStatement) : Type 0 where
    pub lines : List TermLine
    pub last : TermLine
    pub follow : AllFollow [] (lines ++ last ∷ [])
    pub states : last.statement ≡ st

  number_of_last : (st : TermStatement) (h : HasLines st)
      → HasNumber (length (statements_of h.lines) + 1) (statements_of (h.lines ++ h.last ∷ [])) st
  number_of_last st h =
      subst (λ z. HasNumber (length (statements_of h.lines) + 1) z st) (sym (statements-append h.lines (h.last ∷ [])))
      (subst (λ z. HasNumber (length (statements_of h.lines) + 1) (statements_of h.lines ++ z ∷ []) st) (sym h.states)
      (number_last (statements_of h.lines) st))

  concluded : (ls : List TermLine) (rule : DerivRule) (ns : List ℕ) (from : List TermStatement) (st : TermStatement) → AllFollow [] ls
      → AreStated (statements_of ls) ns from → IsInstance f gs ws rule from st → HasLines st
  concluded ls rule ns from st a h i = record {
    lines = ls;
    last = record { rule = rule; premises = ns; statement = st };
    follow = both_follow [] ls (record { rule = rule; premises = ns; statement = st } ∷ []) a
        (record { from = from; stated = h; instance = i }, tt);
    states = refl;
  }

  from_none : (rule : DerivRule) (st : TermStatement) → IsInstance f gs ws rule [] st → HasLines st
  from_none rule st i = concluded [] rule [] [] st tt tt i

  from_one : (rule : DerivRule) (a st : TermStatement) → HasLines a → IsInstance f gs ws rule (a ∷ []) st → HasLines st
  from_one rule a st h i =
      concluded (h.lines ++ h.last ∷ []) rule ((length (statements_of h.lines) + 1) ∷ []) (a ∷ []) st h.follow (number_of_last a h, tt) i

  from_two : (rule : DerivRule) (a b st : TermStatement) → HasLines a → HasLines b → IsInstance f gs ws rule (a ∷ b ∷ []) st → HasLines st
  from_two rule a b st h k i =
      let first = h.lines ++ h.last ∷ [] in
      let others = k.lines ++ k.last ∷ [] in
      let n = length (statements_of first) in
      let all = first ++ raised n others in
      let e : statements_of all ≡ statements_of first ++ statements_of others =
      statements-append first (raised n others) ∙ ap (λ z. statements_of first ++ z) (statements-raised n others) in
      concluded all rule ((length (statements_of h.lines) + 1) ∷ (n + (length (statements_of k.lines) + 1)) ∷ []) (a ∷ b ∷ []) st
      (joined first others h.follow k.follow)
      (subst (λ z. AreStated z ((length (statements_of h.lines) + 1) ∷ (n + (length (statements_of k.lines) + 1)) ∷ []) (a ∷ b ∷ []))
      (sym e) (
        number_left (statements_of first) (statements_of others) (length (statements_of h.lines) + 1) a (number_of_last a h),
        (number_right (statements_of first) (statements_of others) (length (statements_of k.lines) + 1) b (number_of_last b k), tt),
      )) i

has_lines : {f : TermFacts} {s : Source} {st : TermStatement} → Derives f false s st → (gs : List ParamId) (ws : List TermRequirement)
    → s ≡ Written gs ws → HasLines f gs ws st
has_lines {f = f} (generic {g = g} h) gs ws e =
    from_none f gs ws Rule.Generic (IsValid (Generic g)) (g, refl, refl, subst (λ z. HasParam z g) e h)
has_lines {f = f} (conf {t = t} {p = p} h v) gs ws e =
    let n = number_of ws (Conforms t p) (subst (λ z. HasRequirement z (Conforms t p)) e h) in
    from_none f gs ws (Rule.Conf n.0) (Requires (Conforms t p)) (t, p, refl, refl, n.1)
has_lines {f = f} (same {t = t} {u = u} h v w) gs ws e =
    let n = number_of ws (Equals t u) (subst (λ z. HasRequirement z (Equals t u)) e h) in
    from_none f gs ws (Rule.Same n.0) (Requires (Equals t u)) (t, u, refl, refl, n.1)
has_lines {f = f} (layout {t = t} h v) gs ws e =
    let n = number_of ws (IsAnyObject t) (subst (λ z. HasRequirement z (IsAnyObject t)) e h) in
    from_none f gs ws (Rule.Layout n.0) (Requires (IsAnyObject t)) (t, refl, refl, n.1)
has_lines {f = f} (assoc_name {t = t} {p = p} {a = a} {d = d} h k) gs ws e =
    from_one f gs ws (Rule.AssocName p a) (Requires (Conforms t p)) (IsValid (Member t (Name a)))
    (has_lines h gs ws e) (t, d, refl, refl, k)
has_lines {f = f} (assoc_decl {t = t} {p = p} {a = a} {d = d} h k) gs ws e =
    from_one f gs ws (Rule.AssocDecl p a) (Requires (Conforms t p)) (IsValid (Member t (Bound d)))
    (has_lines h gs ws e) (t, d, refl, refl, k)
has_lines {f = f} (assoc_bind {t = t} {p = p} {a = a} {d = d} h k) gs ws e =
    from_one f gs ws (Rule.AssocBind p a) (Requires (Conforms t p)) (Requires (Equals (Member t (Bound d)) (Member t (Name a))))
    (has_lines h gs ws e) (t, d, refl, refl, k)
has_lines {f = f} (assoc_conf {t = t} {u = u} {p = p} {q = q} h k v) gs ws e =
    let n = number_of (f.of_protocol p) (Conforms u q) k in
    from_one f gs ws (Rule.AssocConf p n.0) (Requires (Conforms t p)) (Requires (Conforms (for_self t u) q)) (has_lines h gs ws e)
    (t, u, q, refl, refl, n.1)
has_lines {f = f} (assoc_same {t = t} {u = u} {v = v} {p = p} h k x y) gs ws e =
    let n = number_of (f.of_protocol p) (Equals u v) k in
    from_one f gs ws (Rule.AssocSame p n.0) (Requires (Conforms t p)) (Requires (Equals (for_self t u) (for_self t v)))
    (has_lines h gs ws e) (t, u, v, refl, refl, n.1)
has_lines {f = f} (assoc_layout {t = t} {u = u} {p = p} h k x) gs ws e =
    let n = number_of (f.of_protocol p) (IsAnyObject u) k in
    from_one f gs ws (Rule.AssocLayout p n.0) (Requires (Conforms t p)) (Requires (IsAnyObject (for_self t u)))
    (has_lines h gs ws e) (t, u, refl, refl, n.1)
has_lines {f = f} (reflex {t = t} h) gs ws e =
    from_one f gs ws Rule.Reflex (IsValid t) (Requires (Equals t t)) (has_lines h gs ws e) (t, refl, refl)
has_lines {f = f} (symm {t = t} {u = u} h) gs ws e =
    from_one f gs ws Rule.Symm (Requires (Equals t u)) (Requires (Equals u t)) (has_lines h gs ws e) (t, u, refl, refl)
has_lines {f = f} (trans {t = t} {u = u} {v = v} h k) gs ws e =
    from_two f gs ws Rule.Trans (Requires (Equals t u)) (Requires (Equals u v)) (Requires (Equals t v)) (has_lines h gs ws e)
    (has_lines k gs ws e) (t, u, v, refl, refl)
has_lines {f = f} (same_conf {t = t} {u = u} {p = p} h k) gs ws e =
    from_two f gs ws (Rule.SameConf p) (Requires (Conforms u p)) (Requires (Equals t u)) (Requires (Conforms t p)) (has_lines h gs ws e)
    (has_lines k gs ws e) (t, u, refl, refl)
has_lines {f = f} (same_layout {t = t} {u = u} h k) gs ws e =
    from_two f gs ws Rule.SameLayout (Requires (IsAnyObject u)) (Requires (Equals t u)) (Requires (IsAnyObject t)) (has_lines h gs ws e)
    (has_lines k gs ws e) (t, u, refl, refl)
has_lines {f = f} (same_name {t = t} {u = u} {p = p} {a = a} {d = d} h k x) gs ws e =
    from_two f gs ws (Rule.SameName p a) (Requires (Conforms u p)) (Requires (Equals t u))
    (Requires (Equals (Member t (Name a)) (Member u (Name a)))) (has_lines h gs ws e) (has_lines k gs ws e)
    (t, u, d, refl, refl, x)
has_lines {f = f} (same_decl {t = t} {u = u} {p = p} {a = a} {d = d} h k x) gs ws e =
    from_two f gs ws (Rule.SameDecl p a) (Requires (Conforms u p)) (Requires (Equals t u))
    (Requires (Equals (Member t (Bound d)) (Member u (Bound d)))) (has_lines h gs ws e) (has_lines k gs ws e)
    (t, u, d, refl, refl, x)

-- What is derivable by the book's rules is stated by the last of some lines that follow from one another.
pub lines_exist : (f : TermFacts) (gs : List ParamId) (ws : List TermRequirement) (st : TermStatement) → BookDerivable f (Written gs ws) st
    → (ls : List TermLine) × (l : TermLine) × IsDerivation f gs ws (ls ++ l ∷ []) × (l.statement ≡ st)
lines_exist f gs ws st d =
    let h = has_lines d gs ws refl in
    (h.lines, h.last, is_derivation f gs ws (h.lines ++ h.last ∷ []) h.follow, h.states)
