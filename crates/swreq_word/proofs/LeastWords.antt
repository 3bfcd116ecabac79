-- Least words of classes, and factors of words.
use Rattle.std.proofs.Common.{◌≡◌, ◌+◌, ◌-◌, ◌<◌, inl, inr, sym, ◌∙◌, ap, subst, arith, List, [], ◌∷◌, ◌++◌, append-nil, length, length-append, length-take, length-drop, take, drop, take-append-drop}
use Rattle.std.proofs.Math.Seq.{drop-append_seam, take-append-add}
use Rattle.swreq_word.specs.declared.symbols.Symbol.{Symbol}
use Rattle.swreq_word.specs.Least.{IsLeast, EachFactor, IsMinimal}
use Rattle.swreq_word.proofs.Comparing.{not_both_below}

-- a class has one least word
pub one_least : (Class : List Symbol → List Symbol → Type 0) (u v : List Symbol) → Class u v → Class v u → IsLeast Class u
    → IsLeast Class v → u ≡ v
one_least Class u v c d a b = elim (a v c) [ inl e ↦ sym e | inr l ↦ elim (b u d) [ inl e ↦ e | inr k ↦ absurd (not_both_below u v l k) ] ]

-- what is least, and minimal, is so by each relation with the same classes
module _ (C D : List Symbol → List Symbol → Type 0) (there : (u v : List Symbol) → C u v → D u v)
    (back : (u v : List Symbol) → D u v → C u v) where
  pub least_along : (w : List Symbol) → IsLeast C w → IsLeast D w
  least_along w l v d = l v (back w v d)

  pub minimal_along : (w : List Symbol) → IsMinimal C w → IsMinimal D w
  minimal_along w m = record {
    not_least = λ l. m.not_least (λ v c. l v (there w v c));
    factors = λ before u after e n. least_along u (m.factors before u after e n);
  }

-- what holds of a word and of all its factors holds of the proper factors of a longer one where it holds of the two longest
module _ (Holds : List Symbol → Type 0) (factor : (before u after : List Symbol) → Holds (before ++ (u ++ after)) → Holds u) where
  pub each_by_ends : (w : List Symbol) → 0 < length w → Holds (drop 1 w) → Holds (take (length w - 1) w) → EachFactor w Holds
  each_by_ends w some rest front (x ∷ b) u a e l =
      let f : drop 1 w ≡ b ++ (u ++ a) = ap (drop 1) e ∙ drop-append_seam (x ∷ []) (b ++ (u ++ a)) in
      factor b u a (subst Holds f rest)
  each_by_ends w some rest front [] u a e l =
      let h = simp length-append at (ap length e) in
      let n : length w ≡ length u + length a = omega (arith, h) in
      let m : length w - 1 ≡ length u + (length a - 1) = omega (arith, n, l) in
      let f : take (length w - 1) w ≡ u ++ take (length a - 1) a =
      ap (λ k. take k w) m ∙ ap (take (length u + (length a - 1))) e ∙ take-append-add u a (length a - 1) in
      factor [] u (take (length a - 1) a) (subst Holds f front)

module _ (Holds : List Symbol → Type 0) where
  pub rest_of : (w : List Symbol) → 0 < length w → EachFactor w Holds → Holds (drop 1 w)
  rest_of w some h = h (take 1 w) (drop 1 w) [] (sym (take-append-drop 1 w) ∙ ap (λ x. take 1 w ++ x) (sym (append-nil (drop 1 w))))
      (rw length-drop (omega (arith, some)))

  pub front_of : (w : List Symbol) → 0 < length w → EachFactor w Holds → Holds (take (length w - 1) w)
  front_of w some h =
      h [] (take (length w - 1) w) (drop (length w - 1) w) (sym (take-append-drop (length w - 1) w)) (rw length-take (omega (arith, some)))
