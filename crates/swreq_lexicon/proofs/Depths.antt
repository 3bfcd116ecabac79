-- A protocol inherits more protocols than each protocol that it inherits.
use Rattle.std.proofs.Common.{◌≡◌, ℕ, zero, suc, ◌<◌, ◌≤◌, ⊎_elim, Bool, true, false, cond, length, refl, sym, ap, ◌∙◌, arith}
use Rattle.std.proofs.lemmas.Bool.{false_from_ne_true}
use Rattle.swreq_rank.proofs.swreq_lemmas.Numbers.{last_or_below}
use Rattle.swreq_closure.proofs.Marks.{joined_chains}
use Rattle.swreq_decl.specs.declared.skeleton.Skeleton.{Skeleton}
use Rattle.swreq_names.specs.Inheritance.{inheritance}
use Rattle.swreq_derive.specs.swreq_param.declared.ids.ProtoId.{ProtoId}
use Rattle.swreq_rank.specs.Ranks.{Bytes}
use Rattle.swreq_lexicon.specs.Associated.{protocol, count_below}
use Rattle.swreq_lexicon.specs.Texts.{IsLexiconOf}
use Rattle.swreq_lexicon.specs.Views.{LexiconView, IsProtocol, inherits, depth}

-- the number that the answer of a test counts for
abbrev counted : Bool → ℕ
counted b = cond b 1 0

-- what passes the first test passes the second
module _ (one other : ℕ → Bool) (passes : (k : ℕ) → one k ≡ true → other k ≡ true) where
  no_less : (a b : Bool) → (a ≡ true → b ≡ true) → counted a ≤ counted b
  no_less true b h = let e : counted b ≡ 1 = ap counted (h refl) in omega (arith, e)
  no_less false b h = omega arith

  count_le : (n : ℕ) → count_below one n ≤ count_below other n
  count_le zero = omega arith
  count_le (suc n) =
      let h = count_le n in
      let l = no_less (one n) (other n) (passes n) in
      omega (arith, h, l)

  -- if some number passes only the second test, more numbers pass the second test
  pub count_less : (k n : ℕ) → k < n → one k ≡ false → other k ≡ true → count_below one n < count_below other n
  count_less k zero h e d = absurd (omega (arith, h))
  count_less k (suc n) h e d = ⊎_elim at_last (λ b. further (count_less k n b e d)) (last_or_below k n (omega (arith, h)))
    where
      at_last : k ≡ n → count_below one (suc n) < count_below other (suc n)
      at_last s =
          let l = count_le n in
          let none : counted (one n) ≡ 0 = ap (λ m. counted (one m)) (sym s) ∙ ap counted e in
          let some : counted (other n) ≡ 1 = ap (λ m. counted (other m)) (sym s) ∙ ap counted d in
          omega (arith, l, none, some)

      further : count_below one n < count_below other n → count_below one (suc n) < count_below other (suc n)
      further h =
          let l = no_less (one n) (other n) (passes n) in
          omega (arith, h, l)

module _ (text : Bytes) (s : Skeleton) (x : LexiconView) (is : IsLexiconOf text s x) where
  inherits_through : (p q r : ProtoId) → inherits x p q ≡ true → inherits x q r ≡ true → inherits x p r ≡ true
  inherits_through p q r h k =
      (is.inheritance p r).1 (joined_chains (inheritance text s) ((is.inheritance p q).0 h) ((is.inheritance q r).0 k))

  pub inherits_more : (p q : ProtoId) → IsProtocol x q → inherits x p q ≡ true → (inherits x q q ≡ true → ⊥) → depth x q < depth x p
  inherits_more p q within h once =
      count_less (λ r. inherits x q (protocol r)) (λ r. inherits x p (protocol r)) (λ r k. inherits_through p q (protocol r) h k)
      q.rank (length x.protocols) within (false_from_ne_true (inherits x q q) once) h
