-- Parts between two separators, in one list, are lists between the one of parts between the other.
use Rattle.std.proofs.Common.{◌≡◌, Bool, true, false, List, [], ◌∷◌, ◌++◌, refl, sym, ap, subst, ◌∙◌, append_assoc}
use Rattle.std.specs.Prelude.{◌||◌, nat_eq}
use Rattle.std.proofs.lemmas.Bool.{or_left, or_right}
use Rattle.swreq_grammar.specs.Grammar.{has, mapped, terminal, Matches, Parts}
use Rattle.swreq_decl.specs.declared.terminal.Terminal.{Terminal}
use Rattle.swreq_decl.specs.declared.terminal.Terminal.TheVariants.{Comma, Ampersand, Colon}
use Rattle.swreq_decl.specs.Terminals.{number}
use Rattle.swreq_decl.specs.Source as lines
use Rattle.swreq_decl.specs.Source.{Line, mark, after, separated}
use Rattle.swreq_decl.specs.Written as written
use Rattle.swreq_decl.specs.Written.{SameTexts, joined}
use Rattle.swreq_decl.proofs.SameTexts.{Tokens, after_same}

module _ {A : Type 0} (c d : Terminal) (g : Line A) where
  -- a part after either separator, after the inner one, and a list of parts after the outer one
  abbrev Any : Line A
  Any = after (terminal (c ∷ d ∷ [])) g

  abbrev Inner : Line A
  Inner = after (terminal (d ∷ [])) g

  abbrev Group : Line (List A)
  Group = separated (d ∷ []) g

  abbrev Outer : Line (List A)
  Outer = after (terminal (c ∷ [])) Group

  grouped : (v : A) (vs : List A) (body rest : Tokens) → Matches number g body v → Parts (Matches number Inner) rest vs
      → Matches number Group (body ++ rest) (v ∷ vs)
  grouped v vs body rest m ms = ((v, vs), (body, rest, refl, m, (ms, tt)), refl)

  abbrev Split : Tokens → List A → Type 0
  Split ts vs = (front back : Tokens) × (inner : List A) × (outer : List (List A)) × (ts ≡ front ++ back)
      × Parts (Matches number Inner) front inner × Parts (Matches number Outer) back outer × (vs ≡ inner ++ joined outer)

  split_one : (v : A) (vs : List A) (first rest : Tokens) → Matches number Any first v → Split rest vs → Split (first ++ rest) (v ∷ vs)
  split_one v vs first rest (w, (sep, body, e, (q, h), n), k) r = go (nat_eq (number c) (number w.0.terminal)) refl h
    where
      part : Matches number g body v
      part = subst (Matches number g body) k n

      go : (b : Bool) → nat_eq (number c) (number w.0.terminal) ≡ b → (b || (nat_eq (number d) (number w.0.terminal) || false)) ≡ true
          → Split (first ++ rest) (v ∷ vs)
      go true z y =
          let one : Matches number Outer (first ++ r.0) (v ∷ r.2) = (
            (w.0, v ∷ r.2),
            (
              sep,
              body ++ r.0,
              rw e (append_assoc sep body r.0),
              (q, or_left (nat_eq (number c) (number w.0.terminal)) false z),
              grouped v r.2 body r.0 part r.5,
            ),
            refl,
          ) in (
            [],
            first ++ rest,
            [],
            (v ∷ r.2) ∷ r.3,
            refl,
            refl,
            (first ++ r.0, r.1, rw r.4 (sym (append_assoc first r.0 r.1)), one, r.6),
            ap (λ us. v ∷ us) r.7,
          )
      go false z y =
          let one : Matches number Inner first v = ((w.0, v), (sep, body, e, (q, y), part), refl) in (
            first ++ r.0,
            r.1,
            v ∷ r.2,
            r.3,
            rw r.4 (sym (append_assoc first r.0 r.1)),
            (first, r.0, refl, one, r.5),
            r.6,
            ap (λ us. v ∷ us) r.7,
          )

  split : (vs : List A) (ts : Tokens) → Parts (Matches number Any) ts vs → Split ts vs
  split [] ts e = ([], [], [], [], e, refl, refl, refl)
  split (v ∷ vs) ts (first, rest, s, m, ms) = subst (λ us. Split us (v ∷ vs)) (sym s) (split_one v vs first rest m (split vs rest ms))

  inner_any : (first : Tokens) (v : A) → Matches number Inner first v → Matches number Any first v
  inner_any first v (w, (sep, body, e, (q, h), n), k) = (
    w,
    (sep, body, e, (q, or_right (nat_eq (number c) (number w.0.terminal)) (nat_eq (number d) (number w.0.terminal) || false) h), n),
    k,
  )

  outer_has : (t : Terminal) → has number (c ∷ []) t ≡ true → has number (c ∷ d ∷ []) t ≡ true
  outer_has t h = go (nat_eq (number c) (number t)) h
    where
      go : (b : Bool) → (b || false) ≡ true → (b || (nat_eq (number d) (number t) || false)) ≡ true
      go true h = refl
      go false h = absurd cc

  join_inner : (inner : List A) (front : Tokens) → Parts (Matches number Inner) front inner → (vs : List A) (back : Tokens)
      → Parts (Matches number Any) back vs → Parts (Matches number Any) (front ++ back) (inner ++ vs)
  join_inner [] front e vs back ms = rw e ms
  join_inner (v ∷ inner) front (first, rest, s, m, ns) vs back ms =
      (first, rest ++ back, rw s (append_assoc first rest back), inner_any first v m, join_inner inner rest ns vs back ms)

  four : (sep b1 b2 rest : Tokens) → (sep ++ (b1 ++ b2)) ++ rest ≡ (sep ++ b1) ++ (b2 ++ rest)
  four sep b1 b2 rest =
      append_assoc sep (b1 ++ b2) rest ∙ ap (λ (us : Tokens). sep ++ us) (append_assoc b1 b2 rest) ∙ sym (append_assoc sep b1 (b2 ++ rest))

  join_outer : (outer : List (List A)) (ts : Tokens) → Parts (Matches number Outer) ts outer → Parts (Matches number Any) ts (joined outer)
  join_outer [] ts e = e
  join_outer (vs ∷ outer) ts (first, rest, s, (w, (sep, body, e, (q, h), (p, (b1, b2, f, m, (ns, u)), j)), k), ms) =
      let part : Matches number Any (sep ++ b1) p.0 = ((w.0, p.0), (sep, b1, refl, (q, outer_has w.0.terminal h), m), refl) in
      let more = join_inner p.1 b2 ns (joined outer) rest (join_outer outer rest ms) in
      subst (λ (us : List A). Parts (Matches number Any) ts (us ++ joined outer)) (j ∙ k) (
        sep ++ b1,
        b2 ++ rest,
        s ∙ ap (λ (us : Tokens). us ++ rest) (e ∙ ap (λ (us : Tokens). sep ++ us) f) ∙ four sep b1 b2 rest,
        part,
        more,
      )

  pub separated_joined : SameTexts (separated (c ∷ d ∷ []) g) (mapped joined (separated (c ∷ []) Group))
  separated_joined = record { onward = to; back = from }
    where
      to : (ts : Tokens) (v : List A) → Matches number (separated (c ∷ d ∷ []) g) ts v
          → Matches number (mapped joined (separated (c ∷ []) Group)) ts v
      to ts v (p, (first, rest, s, m, (ms, u)), k) =
          let r = split p.1 rest ms in (
            (p.0 ∷ r.2) ∷ r.3,
            (
              (p.0 ∷ r.2, r.3),
              (
                first ++ r.0,
                r.1,
                s ∙ ap (λ (us : Tokens). first ++ us) r.4 ∙ sym (append_assoc first r.0 r.1),
                grouped p.0 r.2 first r.0 m r.5,
                (r.6, tt),
              ),
              refl,
            ),
            ap (λ us. p.0 ∷ us) (sym r.7) ∙ k,
          )

      from : (ts : Tokens) (v : List A) → Matches number (mapped joined (separated (c ∷ []) Group)) ts v
          → Matches number (separated (c ∷ d ∷ []) g) ts v
      from ts v (all, (p, (first, rest, s, (o, (b1, b2, f, m, (ns, u)), j), (ms, x)), k), e) = (
        (o.0, o.1 ++ joined p.1),
        (
          b1,
          b2 ++ rest,
          s ∙ ap (λ (us : Tokens). us ++ rest) f ∙ append_assoc b1 b2 rest,
          m,
          (join_inner o.1 b2 ns (joined p.1) rest (join_outer p.1 rest ms), tt),
        ),
        ap (λ (us : List A). us ++ joined p.1) j ∙ ap joined k ∙ e,
      )

pub inherit_as_written : SameTexts lines.inherit written.inherit
unfolding lines.inherit lines.bounds
inherit_as_written = after_same (mark Colon) (separated_joined Comma Ampersand lines.entity)
