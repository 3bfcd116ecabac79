-- Texts that are cut at a byte.
use Rattle.std.proofs.Common.{◌≡◌, ◌≢◌, ◌∙◌, ◌⊎◌, inl, inr, refl, sym, ap, ap₂, subst, ℕ, suc, ◌<◌, ◌≤◌, ◌+◌, ◌-◌, arith, ltb-true, ltb-false, Bool, true, false, cond, [], ◌∷◌, ◌++◌, length, take, drop, Some, None}
use Rattle.std.specs.Prelude.{not, position, ◌==◌, nat_lt}
use Rattle.std.specs.List.{list_all, position_or_len}
use Rattle.std.proofs.lemmas.Bool.{and_from, and_parts, eq-eqb, eqb-true}
use Rattle.std.proofs.lemmas.List.{append-nil, take_rest}
use Rattle.std.proofs.lemmas.List.Elements.{All-cons, All-nil}
use Rattle.swreq_text.specs.Lines.{IsOneLine, line_feed}
use Rattle.swreq_print.specs.Names.{Text}
use Rattle.swreq_lines.specs.Pieces.{Ends, IsWithout, behind}

module _ (byte : ℕ) where
  abbrev is : ℕ → Bool
  is c = c == byte

  abbrev at : Text → ℕ
  at t = position_or_len is t

  -- ---- where the byte stands first

  not_itself : (b : Bool) → not b ≡ b → ⊥
  not_itself true e = cc
  not_itself false e = cc

  -- the text is cut at its n-th byte, which is the first such
  record IsCut (t : Text) (n : ℕ) : Type 0 where
    pub before : IsWithout byte (take n t)
    pub split : t ≡ take n t ++ (byte ∷ drop (n + 1) t)

  cut_by : (c : ℕ) (t : Text) (b : Bool) → is c ≡ b → (at t < length t → IsCut t (at t)) → cond (not b) (1 + at t) 0 < suc (length t)
      → IsCut (c ∷ t) (cond (not b) (1 + at t) 0)
  cut_by c t true e more l =
      let one : 1 ≡ 0 + 1 = omega arith in
      record { before = refl; split = ap (λ z. z ∷ t) (eqb-true c byte e) ∙ ap (λ (n : ℕ). byte ∷ drop n (c ∷ t)) one }
  cut_by c t false e more l =
      let one : suc (at t) ≡ 1 + at t = omega arith in
      let two : suc (at t + 1) ≡ suc (at t) + 1 = omega arith in
      let k : IsCut t (at t) = more (omega (arith, l)) in
      subst (IsCut (c ∷ t)) one (record {
        before = and_from (not (is c)) (list_all (λ z. not (z == byte)) (take (at t) t)) (ap not e) k.before;
        split = ap (λ z. c ∷ z) k.split ∙ ap (λ (n : ℕ). (c ∷ take (at t) t) ++ (byte ∷ drop n (c ∷ t))) two;
      })

  cut_first : (t : Text) → at t < length t → IsCut t (at t)
  cut_first [] l = absurd (omega (arith, l))
  cut_first (c ∷ t) l = cut_by c t (is c) refl (cut_first t) l

  none_by : (c : ℕ) (t : Text) (b : Bool) → is c ≡ b → (length t ≤ at t → IsWithout byte t) → suc (length t) ≤ cond (not b) (1 + at t) 0
      → IsWithout byte (c ∷ t)
  none_by c t true e more l = absurd (omega (arith, l))
  none_by c t false e more l = and_from (not (is c)) (list_all (λ z. not (z == byte)) t) (ap not e) (more (omega (arith, l)))

  cut_none : (t : Text) → length t ≤ at t → IsWithout byte t
  cut_none [] l = refl
  cut_none (c ∷ t) l = none_by c t (is c) refl (cut_none t) l

  -- what the place of the byte tells
  pub found : (t : Text) (n : ℕ) → Some n ≡ position is t
      → (n < length t) × IsWithout byte (take n t) × (t ≡ take n t ++ (byte ∷ drop (n + 1) t))
  found t n e = by (nat_lt (at t) (length t)) refl e
    where
      by : (b : Bool) → nat_lt (at t) (length t) ≡ b → Some n ≡ cond b (Some (at t)) None
          → (n < length t) × IsWithout byte (take n t) × (t ≡ take n t ++ (byte ∷ drop (n + 1) t))
      by true l h =
          let same : at t ≡ n = cc in
          let less : at t < length t = ltb-true (at t) (length t) l in
          let k : IsCut t n = subst (IsCut t) same (cut_first t less) in
          (subst (λ (z : ℕ). z < length t) same less, k.before, k.split)
      by false l h = absurd cc

  pub not_found : (t : Text) → None ≡ position is t → IsWithout byte t
  not_found t e = by (nat_lt (at t) (length t)) refl e
    where
      by : (b : Bool) → nat_lt (at t) (length t) ≡ b → None ≡ cond b (Some (at t)) None → IsWithout byte t
      by true l h = absurd cc
      by false l h = cut_none t (ltb-false (at t) (length t) l)

  -- ---- one way to cut

  -- Texts without the byte, each before the byte, end at one place.
  pub cut_one : (a b v w : Text) → IsWithout byte a → IsWithout byte b → a ++ (byte ∷ v) ≡ b ++ (byte ∷ w) → (a ≡ b) × (v ≡ w)
  cut_one [] [] v w h k e = (refl, cc)
  cut_one [] (d ∷ b) v w h k e =
      let same : byte ≡ d = cc in
      absurd (not_itself (is d) ((and_parts (not (is d)) (list_all (λ z. not (z == byte)) b) k).0 ∙ sym (eq-eqb d byte (sym same))))
  cut_one (c ∷ a) [] v w h k e =
      let same : c ≡ byte = cc in
      absurd (not_itself (is c) ((and_parts (not (is c)) (list_all (λ z. not (z == byte)) a) h).0 ∙ sym (eq-eqb c byte same)))
  cut_one (c ∷ a) (d ∷ b) v w h k e =
      let same : c ≡ d = cc in
      let rest : a ++ (byte ∷ v) ≡ b ++ (byte ∷ w) = cc in
      let one = cut_one a b v w (and_parts (not (is c)) (list_all (λ z. not (z == byte)) a) h).1
      (and_parts (not (is d)) (list_all (λ z. not (z == byte)) b) k).1 rest in
      (ap₂ (λ x y. x ∷ y) same one.0, one.1)

  -- A text without the byte is not one with it.
  pub not_cut : (a b v : Text) → IsWithout byte a → a ≡ b ++ (byte ∷ v) → ⊥
  not_cut [] [] v h e = cc
  not_cut [] (d ∷ b) v h e = cc
  not_cut (c ∷ a) [] v h e = let same : c ≡ byte = cc in
      not_itself (is c) ((and_parts (not (is c)) (list_all (λ z. not (z == byte)) a) h).0 ∙ sym (eq-eqb c byte same))
  not_cut (c ∷ a) (d ∷ b) v h e =
      not_cut a b v (and_parts (not (is c)) (list_all (λ z. not (z == byte)) a) h).1 (let rest : a ≡ b ++ (byte ∷ v) = cc in rest)

  pub without_append : (a b : Text) → IsWithout byte a → IsWithout byte b → IsWithout byte (a ++ b)
  without_append [] b h k = k
  without_append (c ∷ a) b h k =
      let p = and_parts (not (is c)) (list_all (λ z. not (z == byte)) a) h in
      and_from (not (is c)) (list_all (λ z. not (z == byte)) (a ++ b)) p.0 (without_append a b p.1 k)

  -- ---- pieces

  -- The text is a piece without the byte, and the byte with what follows it, or the piece alone.
  pub record IsPiece (t piece rest : Text) : Type 0 where
    pub without : IsWithout byte piece
    pub whole : (t ≡ piece ++ (byte ∷ rest)) ⊎ ((t ≡ piece) × (rest ≡ []))

  pub piece_is : (t a r piece tail : Text) → IsPiece t a r → IsWithout byte piece → Ends byte tail → t ≡ piece ++ tail
      → (a ≡ piece) × (r ≡ behind tail)
  piece_is t a r piece [] p w ends e = by p.whole
    where
      by : ((t ≡ a ++ (byte ∷ r)) ⊎ ((t ≡ a) × (r ≡ []))) → (a ≡ piece) × (r ≡ [])
      by (inl h) = absurd (not_cut piece a r w (sym (append-nil piece) ∙ sym e ∙ h))
      by (inr h) = (sym h.0 ∙ e ∙ append-nil piece, h.1)
  piece_is t a r piece (c ∷ tail) p w ends e = by p.whole
    where
      by : ((t ≡ a ++ (byte ∷ r)) ⊎ ((t ≡ a) × (r ≡ []))) → (a ≡ piece) × (r ≡ tail)
      by (inl h) = cut_one a piece r tail p.without w (sym h ∙ e ∙ ap (λ z. piece ++ (z ∷ tail)) ends)
      by (inr h) = absurd (not_cut a piece tail p.without (sym h.0 ∙ e ∙ ap (λ z. piece ++ (z ∷ tail)) ends))

  -- What is left is shorter, if anything was there.
  pub shorter : (t piece rest : Text) → IsPiece t piece rest → length rest ≤ length t - 1
  shorter t piece rest p = by p.whole
    where
      longer : (a : Text) → length rest < length (a ++ (byte ∷ rest))
      longer [] = omega arith
      longer (c ∷ a) = let k = longer a in omega (arith, k)

      by : ((t ≡ piece ++ (byte ∷ rest)) ⊎ ((t ≡ piece) × (rest ≡ []))) → length rest ≤ length t - 1
      by (inl h) = let k = longer piece in let e = ap length h in omega (arith, k, e)
      by (inr h) = let e = ap length h.1 in omega (arith, e)

  -- ---- what is found

  pub none_found : (t : Text) → None ≡ position is t → IsPiece t t []
  none_found t e = record { without = not_found t e; whole = inr (refl, refl) }

  pub one_found : (t : Text) (n : ℕ) → Some n ≡ position is t → IsPiece t (take n t) (take (length t - (n + 1)) (drop (n + 1) t))
  one_found t n e =
      let f = found t n e in
      record { without = f.1; whole = inl (f.2 ∙ ap (λ z. take n t ++ (byte ∷ z)) (sym (take_rest t (n + 1)))) }

-- ---- lines

-- A text without a line feed is one line.
pub is_one_line : (t : Text) → IsWithout 10 t → IsOneLine t
is_one_line [] h = All-nil (λ c. c ≢ line_feed)
is_one_line (c ∷ t) h =
    let k = and_parts (not (c == 10)) (list_all (λ z. not (z == 10)) t) h in
    All-cons (λ z. z ≢ line_feed) c t (λ e. not_itself 10 (c == 10) (k.0 ∙ sym (eq-eqb c 10 e))) (is_one_line t k.1)

-- ---- whether a byte is left

pub some_left : (t : Text) → false ≡ (length t == 0) → t ≡ [] → ⊥
some_left [] h e = cc
some_left (c ∷ t) h e = cc

pub none_left : (t : Text) → true ≡ (length t == 0) → t ≡ []
none_left [] h = refl
none_left (c ∷ t) h = absurd (let e = eqb-true (length (c ∷ t)) 0 (sym h) in omega (arith, e))

-- Texts whose first bytes differ are not equal.
pub heads_apart : (a b : ℕ) (x y : Text) → (a ≡ b → ⊥) → a ∷ x ≡ b ∷ y → ⊥
heads_apart a b x y n e = n cc
