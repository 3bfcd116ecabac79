-- What rules spare stays: no word that goes on after a word which has parted for good from a least word is in its class.
use Rattle.std.proofs.Common.{◌≡◌, ℕ, zero, suc, ◌+◌, ◌-◌, ◌<◌, ◌≤◌, inl, inr, List, [], ◌∷◌, ◌++◌, length, take, drop, Some, Contains, slice_get, refl, sym, ap, ap₂, subst, ◌∙◌, arith, append_assoc, min, length-append, take-append-drop}
use Rattle.std.proofs.Math.Seq.{take-append-add}
use Rattle.std.proofs.lemmas.Bool.{cases_lt}
use Rattle.std.proofs.lemmas.List.Elements.{Contains-append_left, Contains-append_right, Contains-push_cases}
use Rattle.std.proofs.lemmas.Option.{slice_get_within}
use Rattle.swreq_print.proofs.swreq_lemmas.Elements.{contains_get, get_contains, get_front, get_left, in_front, same_heads, same_tails, take_one, there_is}
use Rattle.swreq_print.proofs.swreq_lemmas.Numbers.{last_or_below}
use Rattle.swreq_machine.proofs.swreq_derive.LineLemmas.{get_take}
use Rattle.swreq_print.specs.swreq_word.declared.symbols.Symbol.{Symbol}
use Rattle.swreq_print.specs.swreq_word.declared.symbols.Symbol.TheVariants.{Proto}
use Rattle.swreq_print.specs.swreq_word.Relations.{Chain, IsIrreducible}
use Rattle.swreq_print.specs.swreq_word.Relations.Chain.{done, more}
use Rattle.swreq_print.proofs.swreq_word.Chains.{linked_back}
use Rattle.swreq_print.proofs.swreq_word.Cuts.{cut}
use Rattle.swreq_print.proofs.swreq_word.Cuts.Cut.{left, right}
use Rattle.swreq_print.proofs.swreq_word.Newman.{reached_by_class}
use Rattle.swreq_print.proofs.swreq_word.WordsFounded.{words_founded}
use Rattle.swreq_print.specs.swreq_rule.declared.rules.Rule.{Rule}
use Rattle.swreq_print.specs.swreq_rule.Steps.{Step}
use Rattle.swreq_print.proofs.swreq_rule.Context.{Step-after}
use Rattle.swreq_print.proofs.swreq_rule.Downward.{step_down}
use Rattle.swreq_machine.proofs.swreq_pair.CriticalPairs.{locally}
use Rattle.swreq_machine.specs.swreq_complete.Complete.{IsComplete}
use Rattle.swreq_machine.proofs.swreq_complete.ReducedSystem.{least_irreducible}
use Rattle.swreq_machine.specs.swreq_correspondence.Symbols.{Word}
use Rattle.swreq_machine.specs.swreq_symbols.Vanishing.{IsLeastBy, Links}
use Rattle.swreq_machine.proofs.Typed.{at_front}
use Rattle.swreq_confpath.specs.Parting.{AllSpare, AllSpareOthers, AreBeforeProtocol, AreInCommon, FirstSpareOthers, HasNoProtocol, PartsForGood, Spares, SparesOthers}
use Rattle.swreq_confpath.proofs.Covering.{one_there}

-- ---- cuts of words

pub no_word : (front rest : Word) (x : Symbol) → [] ≡ front ++ (x ∷ rest) → ⊥
no_word [] rest x e = cc
no_word (y ∷ front) rest x e = cc

-- where two words with one symbol and some after them are one, the longer end has the shorter one's last symbol as its last
last_part : (front before : Word) (x y : Symbol) (q : Word) → front ++ x ∷ [] ≡ before ++ (y ∷ q)
    → (b : Word) × (y ∷ q ≡ b ++ x ∷ []) × (front ≡ before ++ b)
last_part front [] x y q e = (front, sym e, refl)
last_part [] (c ∷ before) x y q e = absurd (no_word before q y (same_tails e))
last_part (a ∷ front) (c ∷ before) x y q e =
    let r = last_part front before x y q (same_tails e) in
    let h : a ≡ c = same_heads e in
    (r.0, r.1, ap₂ ◌∷◌ h r.2)

get_dropped : (n : ℕ) (xs : Word) (i : ℕ) (x : Symbol) → slice_get xs (n + i) ≡ Some x → slice_get (drop n xs) i ≡ Some x
get_dropped zero xs i x e = let z : 0 + i ≡ i = omega arith in subst (λ k. slice_get xs k ≡ Some x) z e
get_dropped (suc n) [] i x e = absurd (let l = slice_get_within [] (suc n + i) x e in omega arith)
get_dropped (suc n) (y ∷ xs) i x e =
    let z : suc n + i ≡ suc (n + i) = omega arith in
    get_dropped n xs i x (subst (λ k. slice_get (y ∷ xs) k ≡ Some x) z e)

pub stands_between : (xs : Word) (from to i : ℕ) (x : Symbol) → from ≤ i → i < to → slice_get xs i ≡ Some x
    → Contains (take (to - from) (drop from xs)) x
stands_between xs from to i x low high e =
    let z : i ≡ from + (i - from) = omega arith in
    get_contains (take (to - from) (drop from xs)) (i - from) x
    (in_front (drop from xs) (to - from) (i - from) x (omega arith)
    (get_dropped from xs (i - from) x (subst (λ k. slice_get xs k ≡ Some x) z e)))

-- ---- steps

module _ (rules : List Rule) (front : Word) (x : Symbol) (none : HasNoProtocol (front ++ x ∷ [])) (spare : AllSpare rules x)
    (stays : IsIrreducible (Step rules) (front ++ x ∷ [])) where
  -- the word is the same up to the spared symbol
  abbrev Keeps : Word → Type 0
  Keeps v = (rest : Word) × (v ≡ front ++ (x ∷ rest))

  -- by a rule whose left side ends after the spared symbol, and begins up to it
  over : (rule : Rule) (k : ℕ) → slice_get rules k ≡ Some rule → (before after q : Word) (y z : Symbol) (end : Word)
      → front ++ x ∷ [] ≡ before ++ (y ∷ q)
      → rule.left ≡ (y ∷ q) ++ (z ∷ end) → (v : Word) → v ≡ before ++ (rule.right ++ after) → Keeps v
  over rule k is before after q y z end e f v target =
      let b = last_part front before x y q e in
      let sides : rule.left ≡ b.0 ++ (x ∷ (z ∷ end)) = f ∙ ap (λ w. w ++ (z ∷ end)) b.1 ∙ append_assoc b.0 (x ∷ []) (z ∷ end) in
      let whole : front ++ x ∷ [] ≡ before ++ (b.0 ++ x ∷ []) = e ∙ ap (λ w. before ++ w) b.1 in
      let clear : HasNoProtocol (b.0 ++ x ∷ [])
      = λ p c. none p (subst (λ w. Contains w (Proto p)) (sym whole) (Contains-append_right before (b.0 ++ x ∷ []) (Proto p) c)) in
      let r = spare k rule is b.0 end z sides clear in (
        r.0 ++ after,
        target ∙ ap (λ w. before ++ (w ++ after)) r.1 ∙ ap (λ w. before ++ w) (append_assoc b.0 (x ∷ r.0) after)
            ∙ sym (append_assoc before b.0 (x ∷ (r.0 ++ after))) ∙ ap (λ w. w ++ (x ∷ (r.0 ++ after))) (sym b.2),
      )

  -- by a rule whose left side begins up to the spared symbol
  up_to : (s v rest : Word) (t : Step rules s v) (y : Symbol) (q : Word) → front ++ x ∷ [] ≡ t.at.before ++ (y ∷ q)
      → t.rule.left ++ t.at.after ≡ (y ∷ q) ++ rest → Keeps v
  up_to s v rest t y q e f = elim (cut t.rule.left t.at.after (y ∷ q) rest f) [
    | left p g h ↦ absurd (stays (t.at.before ++ (t.rule.right ++ p)) (record {
      rule = t.rule;
      number = t.number;
      is_rule = t.is_rule;
      at = record { before = t.at.before; after = p; source = e ∙ ap (λ w. t.at.before ++ w) g; target = refl };
    }))
    | right z p g h ↦ over t.rule t.is_rule.0 t.is_rule.2 t.at.before t.at.after q y z p e g v t.at.target
  ]

  step_keeps : (s v rest : Word) → s ≡ front ++ (x ∷ rest) → Step rules s v → Keeps v
  step_keeps s v rest is t =
      elim (cut (front ++ x ∷ []) rest t.at.before (t.rule.left ++ t.at.after) (append_assoc front (x ∷ []) rest ∙ sym is ∙ t.at.source)) [
        | left q e f ↦ (
          q ++ (t.rule.right ++ t.at.after),
          t.at.target ∙ ap (λ w. w ++ (t.rule.right ++ t.at.after)) e ∙ append_assoc (front ++ x ∷ []) q (t.rule.right ++ t.at.after)
              ∙ append_assoc front (x ∷ []) (q ++ (t.rule.right ++ t.at.after)),
        )
        | right y q e f ↦ up_to s v rest t y q e f
      ]

  chain_keeps : {s v : Word} → Chain (Step rules) s v → Keeps s → Keeps v
  chain_keeps done k = k
  chain_keeps (more {a = s} {b = w} t h) k = chain_keeps h (step_keeps s w k.0 k.1 t)

-- ---- words that part for good

module _ (rules : List Rule) (complete : IsComplete rules) where
  -- steps lead to a least word from each word of its class
  pub steps_down : (u v : Word) → IsLeastBy rules u → Links rules v u → Chain (Step rules) v u
  steps_down u v least l =
      let local = locally rules complete.meet in
      reached_by_class (step_down rules) words_founded local done (least_irreducible rules local u least) (linked_back l)

  front_stays : (a b : Word) → IsIrreducible (Step rules) (a ++ b) → IsIrreducible (Step rules) a
  front_stays a b i v s = i (v ++ b) (Step-after b s)

  pub stays_apart : (u v tail : Word) → IsLeastBy rules u → IsLeastBy rules v → PartsForGood rules u v → Links rules (v ++ tail) u → ⊥
  stays_apart u v tail lu lv p l =
      let local = locally rules complete.meet in
      let parts : v ≡ (p.front ++ p.spared ∷ []) ++ p.rest = p.cut ∙ sym (append_assoc p.front (p.spared ∷ []) p.rest) in
      let stays : IsIrreducible (Step rules) (p.front ++ p.spared ∷ [])
      = front_stays (p.front ++ p.spared ∷ []) p.rest (subst (IsIrreducible (Step rules)) parts (least_irreducible rules local v lv)) in
      let begins : v ++ tail ≡ p.front ++ (p.spared ∷ (p.rest ++ tail))
      = ap (λ w. w ++ tail) p.cut ∙ append_assoc p.front (p.spared ∷ p.rest) tail in
      let ends = chain_keeps rules p.front p.spared p.no_protocol p.by_all stays (steps_down u (v ++ tail) lu l) (p.rest ++ tail, begins) in
      p.apart ends.0 ends.1

-- ---- what the code finds

pub differ_at : (u v : Word) (k : ℕ) (x y : Symbol) → take k u ≡ take k v → slice_get u k ≡ Some x → slice_get v k ≡ Some y
    → (x ≡ y → ⊥) → AreInCommon u v k
differ_at u v k x y same a b differ =
    let within_left = slice_get_within u k x a in
    let within_right = slice_get_within v k y b in
    record {
      within_left = omega (arith, within_left);
      within_right = omega (arith, within_right);
      same = same;
      then_differ = λ p q e f g. differ (one_there u k x p a e ∙ (g ∙ one_there v k q y f b));
    }

pub all_in_common : (u v : Word) (k : ℕ) → k ≡ min (length u) (length v) → take k u ≡ take k v → AreInCommon u v k
all_in_common u v k size same = record {
  within_left = omega (arith, size);
  within_right = omega (arith, size);
  same = same;
  then_differ = λ x y e f g.
      let a = slice_get_within u k x e in
      let b = slice_get_within v k y f in
      omega (arith, a, b, size);
}

pub no_protocol_more : (w : Word) (k : ℕ) (x : Symbol) → HasNoProtocol (take k w) → slice_get w k ≡ Some x → ((p : ℕ) → x ≡ Proto p → ⊥)
    → HasNoProtocol (take (k + 1) w)
no_protocol_more w k x before is other p c =
    let e : k + 1 ≡ suc k = omega arith in
    elim (Contains-push_cases (take k w) x (Proto p) (subst (λ z. Contains z (Proto p)) (ap (λ n. take n w) e ∙ take_one w k x is) c)) [
      | inl i ↦ before p i
      | inr same ↦ other p same
    ]

pub protocol_at : (w : Word) (k p : ℕ) → HasNoProtocol (take k w) → slice_get w k ≡ Some (Proto p) → AreBeforeProtocol w k
protocol_at w k p before is =
    let within = slice_get_within w k (Proto p) is in
    record { within = omega (arith, within); none = before; then_one = λ l. (p, is) }

pub none_at_all : (w : Word) (k : ℕ) → k ≡ length w → HasNoProtocol (take k w) → AreBeforeProtocol w k
none_at_all w k all before = record { within = omega (arith, all); none = before; then_one = λ l. absurd (omega (arith, all, l)) }

-- what both sides of a rule have in common stays
in_front_of_both : (sides other before after : Word) (x : Symbol) (n from : ℕ) → from ≡ length before + suc n
    → take from sides ≡ take from other
    → sides ≡ before ++ (x ∷ after) → (rest : Word) × (other ≡ before ++ (x ∷ rest))
in_front_of_both sides other before after x n from size same e =
    let front : take from sides ≡ before ++ (x ∷ take n after) = ap₂ take size e ∙ take-append-add before (x ∷ after) (suc n) in (
      take n after ++ drop from other,
      sym (take-append-drop from other) ∙ ap (λ w. w ++ drop from other) (sym same ∙ front)
          ∙ append_assoc before (x ∷ take n after) (drop from other),
    )

-- a symbol after what both sides have in common, with another after it and no protocol's symbol up to it, is among those that may change
pub others_spared : (rule : Rule) (from clear to : ℕ) (changed : Word) → AreInCommon rule.left rule.right from
    → AreBeforeProtocol rule.left clear
    → ((i : ℕ) → i < clear → i + 1 < length rule.left → i < to)
    → ((i : ℕ) (x : Symbol) → from ≤ i → i < to → slice_get rule.left i ≡ Some x → Contains changed x)
    → SparesOthers rule changed
others_spared rule from clear to changed common protocol bound stands x none before after y e no_protocol =
    let size : length rule.left ≡ length before + suc (suc (length after)) =
    let l = simp length-append at (ap length e) in omega (arith, l) in
    let here : slice_get rule.left (length before) ≡ Some x =
    subst (λ w. slice_get w (length before) ≡ Some x) (sym e) (at_front before x (y ∷ after)) in
    elim (cases_lt (length before) from) [
      | inl less ↦ in_front_of_both rule.left rule.right before (y ∷ after) x (from - suc (length before)) from (omega arith) common.same e
      | inr far ↦ elim (cases_lt (length before) clear) [
        | inl early ↦ absurd (none (stands (length before) x far (bound (length before) early (omega (arith, size))) here))
        | inr late ↦
            let one = protocol.then_one (omega (arith, size, late)) in
            let whole : rule.left ≡ (before ++ x ∷ []) ++ (y ∷ after) = e ∙ sym (append_assoc before (x ∷ []) (y ∷ after)) in
            let count = length-append before (x ∷ []) in
            absurd (no_protocol one.0 (get_contains (before ++ x ∷ []) clear (Proto one.0)
            (get_front (before ++ x ∷ []) (y ∷ after) clear (Proto one.0) (omega (arith, count, late))
            (subst (λ w. slice_get w clear ≡ Some (Proto one.0)) whole one.1))))
      ]
    ]

-- one rule more
pub spared_more : (rules : List Rule) (k : ℕ) (rule : Rule) (changed part : Word) → FirstSpareOthers rules k changed
    → slice_get rules k ≡ Some rule
    → SparesOthers rule part → FirstSpareOthers rules (k + 1) (changed ++ part)
spared_more rules k rule changed part before is own x none n r less there_now = elim (last_or_below n k less) [
  | inl last ↦
      let same : r ≡ rule = one_there rules k r rule (subst (λ z. slice_get rules z ≡ Some r) last there_now) is in
      subst (λ (z : Rule). Spares z x) (sym same) (own x (λ c. none (Contains-append_right changed part x c)))
  | inr earlier ↦ before x (λ c. none (Contains-append_left changed part x c)) n r earlier there_now
]

pub all_spared : (rules : List Rule) (count : ℕ) (changed : Word) → length rules ≤ count → FirstSpareOthers rules count changed
    → AllSpareOthers rules changed
all_spared rules count changed all h x none k rule is =
    h x none k rule (let l = slice_get_within rules k rule is in omega (arith, l, all)) is

-- a spared symbol past what two words have in common
pub parts_at : (rules : List Rule) (changed u v : Word) (from clear k : ℕ) (x : Symbol)
    → AllSpareOthers rules changed → AreInCommon u v from
    → AreBeforeProtocol v clear → from ≤ k → k < clear → slice_get v k ≡ Some x → (Contains changed x → ⊥) → PartsForGood rules u v
parts_at rules changed u v from clear k x spare common protocol low high is none = record {
  front = take k v;
  spared = x;
  rest = drop (suc k) v;
  cut = sym (take-append-drop (suc k) v) ∙ ap (λ w. w ++ drop (suc k) v) one_more ∙ append_assoc (take k v) (x ∷ []) (drop (suc k) v);
  no_protocol = λ p c.
      let j = contains_get (take (suc k) v) (Proto p) (subst (λ w. Contains w (Proto p)) (sym one_more) c) in
      let within = get_take (suc k) j.0 v (Proto p) j.1 in
      protocol.none p
      (get_contains (take clear v) j.0 (Proto p) (in_front v clear j.0 (Proto p) (let l = within.0 in omega arith) within.1));
  by_all = spare x none;
  apart = λ after e.
      let y = there_is v from (let l = slice_get_within v k x is in omega arith) in
      let near : slice_get (take k v ++ x ∷ []) from ≡ Some y.0
      = subst (λ w. slice_get w from ≡ Some y.0) one_more (in_front v (suc k) from y.0 (omega arith) y.1) in
      let whole : u ≡ (take k v ++ x ∷ []) ++ after = e ∙ sym (append_assoc (take k v) (x ∷ []) after) in
      common.then_differ y.0 y.0
      (subst (λ w. slice_get w from ≡ Some y.0) (sym whole) (get_left (take k v ++ x ∷ []) after from y.0 near)) y.1 refl;
}
  where
    one_more : take (suc k) v ≡ take k v ++ x ∷ []
    one_more = take_one v k x is
