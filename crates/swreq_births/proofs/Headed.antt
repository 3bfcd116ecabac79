-- Both sides of each rule ask the same.
use Rattle.std.proofs.Common.{◌≡◌, inl, inr, ℕ, zero, suc, ◌+◌, ◌-◌, ◌<◌, ◌≤◌, List, length, take, slice_get, Some, Option}
use Rattle.std.proofs.Common.{None, refl, sym, ap, subst, ◌∙◌, arith}
use Rattle.std.proofs.lemmas.{Option.{get_or_from_slice_get, slice_get_within, same_Some}, Bool.{cases_lt}}
use Rattle.std.proofs.lemmas.List.{get_or_past, take_all}
use Rattle.swreq_param.specs.{declared.ids.ProtoId.{ProtoId}, Terms.{Term}}
use Rattle.swreq_correspondence.{specs.swreq_word.declared.symbols.Symbol.{Symbol}, proofs.swreq_derive.LineLemmas.{get_take}}
use Rattle.swreq_complete.specs.swreq_rule.declared.rules.{Birth.{Birth, TheVariants.{Given, Pair}}, Rule.{Rule}, Place.{Place}}
use Rattle.swreq_complete.specs.swreq_rule.Steps.{RuleAt}
use Rattle.swreq_complete.proofs.swreq_rule.Numbers.{number_some}
use Rattle.swreq_derivation.specs.declared.derivation.Derivation.{Derivation}
use Rattle.swreq_readings.specs.{declared.alphabet.Alphabet.{Alphabet}, Alphabets.{lexicon}, Readable.{AllowsWord, read_word}}
use Rattle.swreq_births.specs.declared.history.{RulePlace.{RulePlace}, History.{History}, Equation.{Equation}}
use Rattle.swreq_births.specs.declared.history.{OwnedRequirement.{OwnedRequirement, TheVariants.{Conf, Layout, Same}}, Reason.{Reason}}
use Rattle.swreq_births.specs.declared.history.{Reason.TheVariants.{Doubled, Named, Required}, System.{System}}
use Rattle.swreq_births.specs.Heads.{head_of, IsHeadStated}
use Rattle.swreq_births.specs.Systems.{HasRule, HasRules, HasShownSides, HasSystem, IsBornAt, IsGivenBy, IsHistory, IsShown, IsSystem}
use Rattle.swreq_births.specs.Systems.{ReducesTo, rules_at, system_at, systems_of}
use Rattle.swreq_births.proofs.Asking.{IsHeaded, AreHeaded, head_front, head_of_born, head_reduces}
use Rattle.swreq_births.proofs.Births.{born_of, BornOf, GivenBy, PairedBy, first_allows, given_by, pair_headed, paired_by, paired_with}
use Rattle.swreq_births.proofs.Births.{rule_at_number, second_allows}

-- ---- equations

-- what the word of a type parameter asks: that what stands for `Self` conforms to the owner, or nothing if there is no owner
pub shown_head : (g : Alphabet) (owner : Option ProtoId) (rules : List Rule) (t : _) (w : List Symbol) → IsShown g owner rules t w
    → head_of g w ≡ Some owner
shown_head g (Some p) rules t w h = ap (head_of g) h.word
shown_head g None rules t w h = ap (head_of g) h.word

headed_by : (g : Alphabet) (u v : List Symbol) (h : Option ProtoId) → head_of g u ≡ Some h → head_of g v ≡ Some h → IsHeaded g u v
headed_by g u v h e f = (h, e, f)

sides_headed : (g : Alphabet) (owner : Option ProtoId) (rules : List Rule) (q : OwnedRequirement) (left right : List Symbol)
    → HasShownSides g owner rules q left right → IsHeaded g left right
sides_headed g owner rules (Conf t p) left right h =
    let e = shown_head g owner rules _ right h.0 in headed_by g left right owner (ap (head_of g) h.1 ∙ head_front g right _ owner e) e
sides_headed g owner rules (Layout t) left right h =
    let e = shown_head g owner rules _ right h.0 in headed_by g left right owner (ap (head_of g) h.1 ∙ head_front g right _ owner e) e
sides_headed g owner rules (Same t u) left right h = headed_by g left right owner (shown_head g owner rules _ left h.0)
    (shown_head g owner rules _ right h.1)

pub given_headed : (b : History) (r : ℕ) (reason : Reason) (left right : List Symbol) → IsGivenBy b r reason left right
    → IsHeaded b.alphabet left right
given_headed b r (Doubled p) left right h = headed_by b.alphabet left right (Some p) (ap (head_of b.alphabet) h.0)
    (ap (head_of b.alphabet) h.1)
given_headed b r (Named k) left right h =
    headed_by b.alphabet left right (Some h.0.proto) (ap (head_of b.alphabet) h.2)
    (ap (head_of b.alphabet) h.3 ∙ ap (λ n. Some (Some n.proto)) (get_or_from_slice_get (lexicon b.alphabet).symbols k h.0 _ h.1))
given_headed b r (Required owner n q shown) left right h = sides_headed b.alphabet owner _ q left right h.1

-- ---- rules

-- Both sides of a rule ask the same if the two words that it is born of do, and the sides of each rule before it do.
reduced_headed : (g : Alphabet) (rules : List Rule) (k : ℕ) (left right : List Symbol) (rule : Rule) → AreHeaded g (take k rules)
    → IsHeaded g left right
    → ReducesTo rules k left right rule → IsHeaded g rule.left rule.right
reduced_headed g rules k left right rule all w r =
    let first : head_of g r.first ≡ Some w.0 = head_reduces g (take k rules) left r.first w.0 all r.first_reduces w.1 in
    let last : head_of g r.last ≡ Some w.0 = head_reduces g (take k rules) right r.last w.0 all r.last_reduces w.2 in
    elim r.oriented [
      | inl o ↦ headed_by g rule.left rule.right w.0 (ap (head_of g) o.0 ∙ first) (ap (head_of g) o.1 ∙ last)
      | inr o ↦ headed_by g rule.left rule.right w.0 (ap (head_of g) o.0 ∙ last) (ap (head_of g) o.1 ∙ first)
    ]

module _ (b : History) (r : ℕ) (v : System) (w : IsSystem b r v) where
  -- the two sides of each rule of the system before this place ask the same
  abbrev HeadedBelow : ℕ → Type 0
  HeadedBelow n = (k : ℕ) (rule : Rule) → k < n → slice_get v.rules k ≡ Some rule → IsHeaded b.alphabet rule.left rule.right

  of_birth : (k : ℕ) (rule : Rule) (moment : Birth) → rule.birth ≡ moment → v.base ≤ k → slice_get v.rules k ≡ Some rule → HeadedBelow k
      → IsHeaded b.alphabet rule.left rule.right
  of_birth k rule (Given n) birth past e below =
      let f = given_by v k rule n (born_of v k rule (Given n) past e birth (w.born k rule past e)) in
      reduced_headed b.alphabet v.rules k f.equation.left f.equation.right rule
      (λ i x j. (let q = get_take k i v.rules x j in below i x q.0 q.1))
      (given_headed b r f.equation.reason f.equation.left f.equation.right (w.given (n - 1) f.equation f.is_there)) f.reduces
  of_birth k rule (Pair i j at) birth past e below =
      let place : Place = record { i = i; j = j; at = at } in
      let (first, second, p) = paired_by v k rule place (born_of v k rule (Pair i j at) past e birth (w.born k rule past e)) in
      let before : (n : ℕ) (x : Rule) (h : RuleAt v.rules n x) → n ≤ k → IsHeaded b.alphabet x.left x.right
      = λ n x h m. (let f : n ≡ suc h.0 = h.1 in below h.0 x (omega (arith, f, m)) h.2) in
      reduced_headed b.alphabet v.rules k _ _ rule (λ i x j. (let q = get_take k i v.rules x j in below i x q.0 q.1))
      (pair_headed b.alphabet first second at p.met (before j second p.is_second p.second_within)
      (before i first p.is_first p.first_within)) p.reduces

  module _ (lower : (q k : ℕ) (rule : Rule) → q < r → slice_get (rules_at b q) k ≡ Some rule → IsHeaded b.alphabet rule.left rule.right)
    where
      one : (k : ℕ) (rule : Rule) → slice_get v.rules k ≡ Some rule → HeadedBelow k → IsHeaded b.alphabet rule.left rule.right
      one k rule e below = elim (cases_lt k v.base) [
        | inl h ↦ (let l = w.lower k rule h e in lower v.below k rule l.0 l.1)
        | inr h ↦ of_birth k rule rule.birth refl h e below
      ]

      all_below : (n : ℕ) → HeadedBelow n
      all_below zero k rule h e = absurd (omega arith)
      all_below (suc n) k rule h e = one k rule e (λ i x j. all_below n i x (omega arith))

      all_headed : AreHeaded b.alphabet v.rules
      all_headed k rule e = one k rule e (all_below k)

-- a system that is not there has no rules
none_past : (b : History) (r k : ℕ) (rule : Rule) → slice_get (rules_at b r) k ≡ Some rule → r < length (systems_of b)
none_past b r k rule e = elim (cases_lt r (length (systems_of b))) [
  | inl h ↦ h
  | inr h ↦ absurd (no_rule (sym (ap (λ (v : System). slice_get v.rules k) (get_or_past (systems_of b) r _ h)) ∙ e))
]
  where
    no_rule : {x : Rule} → None ≡ Some x → ⊥
    no_rule e = cc

below_systems : (b : History) → IsHistory b → (n r k : ℕ) (rule : Rule) → r < n → slice_get (rules_at b r) k ≡ Some rule
    → IsHeaded b.alphabet rule.left rule.right
below_systems b w zero r k rule h e = absurd (omega arith)
below_systems b w (suc n) r k rule h e =
    all_headed b r (system_at b r) (w.systems r (none_past b r k rule e)) (λ q i x j. below_systems b w n q i x (omega arith)) k rule e

-- Both sides of each rule of a history ask the same.
pub headed : (b : History) → IsHistory b → (r : ℕ) → AreHeaded b.alphabet (rules_at b r)
headed b w r k rule e = below_systems b w (r + 1) r k rule (omega arith) e

-- ---- what a rule of a history is born of

-- what a rule past the base is born of, from its system, which stands at this place of the history
pub born_past : {b : History} {at : RulePlace} {rule : Rule} {moment : Birth} {v : System} → v ≡ system_at b at.system → v.base ≤ at.rule
    → rule.birth ≡ moment → IsBornAt b at rule moment
born_past {at = at} same past birth = record { past = subst (λ (z : System). z.base ≤ at.rule) same past; birth = birth }

module _ {b : History} {at : RulePlace} {rule : Rule} (w : HasRule b at rule) where
  bore : (moment : Birth) → IsBornAt b at rule moment → BornOf (system_at b at.system) at.rule rule moment
  bore moment h =
      born_of (system_at b at.system) at.rule rule moment h.past w.is h.birth
      ((w.system.history.systems at.system w.system.within).born at.rule rule h.past w.is)

  pub given_at : (n : ℕ) → IsBornAt b at rule (Given n) → GivenBy (system_at b at.system) at.rule rule n
  given_at n h = given_by (system_at b at.system) at.rule rule n (bore (Given n) h)

  -- The two rules of the place, if the rule is born of their pair.
  pub paired_at : (place : Place) → IsBornAt b at rule (Pair place.i place.j place.at)
      → (first : Rule) × (second : Rule) × PairedBy (system_at b at.system) at.rule rule place first second
  paired_at place h = paired_by (system_at b at.system) at.rule rule place (bore (Pair place.i place.j place.at) h)

  -- the same of the two rules that its numbers name
  pub paired_here : {first second : Rule} {rules : List Rule} (place : Place) → IsBornAt b at rule (Pair place.i place.j place.at)
      → rules ≡ rules_at b at.system → RuleAt rules place.i first → RuleAt rules place.j second
      → PairedBy (system_at b at.system) at.rule rule place first second
  paired_here {first} {second} place h same is js =
      let (x, y, p) = paired_at place h in
      paired_with (subst (λ z. RuleAt z place.i first) same is) (subst (λ z. RuleAt z place.j second) same js) p

  -- the system has the rules before its rule
  pub rules_until : HasRules b at
  rules_until =
      let within : at.rule < length (rules_at b at.system) = slice_get_within (rules_at b at.system) at.rule rule w.is in
      record { system = w.system; within = omega (arith, within) }

-- A rule of the system that stands before this place.
pub record StandsBefore (b : History) (at before : RulePlace) (rule : Rule) : Type 0 where
  pub same : before.system ≡ at.system
  pub earlier : before.rule < at.rule
  pub there : HasRule b before rule

pub stands_before : (b : History) (at before : RulePlace) (n : ℕ) (rule : Rule) → HasSystem b at.system
    → before ≡ record { system = at.system; rule = n - 1 } → n - 1 < at.rule → slice_get (rules_at b at.system) (n - 1) ≡ Some rule
    → StandsBefore b at before rule
stands_before b at before n rule w e h is =
    subst (λ z. StandsBefore b at z rule) (sym e) (record { same = refl; earlier = h; there = record { system = w; is = is } })

module _ {b : History} {at : RulePlace} {rule : Rule} {place : Place} {first second : Rule} (w : HasRule b at rule)
    (p : PairedBy (system_at b at.system) at.rule rule place first second) where
  abbrev rules : List Rule
  rules = rules_at b at.system

  -- the rule that a number up to that of the rule names stands before the rule
  before_it : (n : ℕ) (x : Rule) (before : RulePlace) → RuleAt rules n x → n ≤ at.rule
      → before ≡ record { system = at.system; rule = n - 1 } → StandsBefore b at before x
  before_it n x before is within e =
      stands_before b at before n x w.system e (omega (arith, number_some rules n x is, within)) (rule_at_number rules n x is)

  pub first_before : (before : RulePlace) → before ≡ record { system = at.system; rule = place.i - 1 } → StandsBefore b at before first
  first_before before = before_it place.i first before p.is_first p.first_within

  pub second_before : (before : RulePlace) → before ≡ record { system = at.system; rule = place.j - 1 } → StandsBefore b at before second
  second_before before = before_it place.j second before p.is_second p.second_within

  -- if lines state what the rule asks, they state what the first rule of the pair asks
  pub first_asked : (s : Derivation) (t : Term) → IsHeadStated b.alphabet s t rule.left → IsHeadStated b.alphabet s t first.left
  first_asked s t a =
      let all = headed b w.system.history at.system in
      first_allows b.alphabet s t (system_at b at.system) at.rule rule first second place all (all at.rule rule w.is)
      (all (place.i - 1) first (rule_at_number rules place.i first p.is_first)) p a

  -- if lines allow the left side of the first rule, they state what the second rule asks after the part that stands before it
  pub second_asked : (s : Derivation) (t : Term) → AllowsWord b.alphabet s t first.left
      → IsHeadStated b.alphabet s (read_word b.alphabet t (take place.at first.left)) second.left
  second_asked = second_allows b.alphabet first second place.at p.met
      (headed b w.system.history at.system (place.j - 1) second (rule_at_number rules place.j second p.is_second))

-- The two words ask the same. The left side of an equation and that of the rule that is born of it do.
pub record AsksAlike (g : Alphabet) (u v : List Symbol) : Type 0 where
  pub asked : Option ProtoId
  pub first : head_of g u ≡ Some asked
  pub second : head_of g v ≡ Some asked

pub equation_asks : {b : History} {at : RulePlace} {rule : Rule} → HasRule b at rule → (n : ℕ) (e : Equation) → IsBornAt b at rule (Given n)
    → slice_get (system_at b at.system).given (n - 1) ≡ Some e → AsksAlike b.alphabet e.left rule.left
equation_asks {b} {at} {rule} w n e born there =
    let f = given_at w n born in
    let same : f.equation ≡ e = same_Some _ _ (sym f.is_there ∙ there) in
    let all = headed b w.system.history at.system in
    let asks = given_headed b at.system f.equation.reason f.equation.left f.equation.right
    ((w.system.history.systems at.system w.system.within).given (n - 1) f.equation f.is_there) in
    subst (λ (z : Equation). AsksAlike b.alphabet z.left rule.left) same (record {
      asked = asks.0;
      first = asks.1;
      second = head_of_born b.alphabet (rules_at b at.system) at.rule f.equation.left f.equation.right rule asks.0 all
          (all at.rule rule w.is) f.reduces asks.1;
    })

-- ---- all rules of a system

-- These are all rules of the system.
pub record AreAll (b : History) (at : RulePlace) (r : ℕ) : Type 0 where
  pub same : at.system ≡ r
  pub within : at.rule ≤ length (rules_at b at.system)
  pub taken : take at.rule (rules_at b at.system) ≡ rules_at b r
  pub few : at.rule < 4294967295

pub all_at : (b : History) (at : RulePlace) (r : ℕ) (rules : List Rule) → HasSystem b r → at ≡ record { system = r; rule = length rules }
    → rules ≡ rules_at b r → AreAll b at r
all_at b at r rules w e f = subst (λ z. AreAll b z r) (sym e)
    (subst (λ z. AreAll b (record { system = r; rule = length z }) r) (sym f) (record {
      same = refl;
      within = omega arith;
      taken = take_all (length (rules_at b r)) (rules_at b r) (omega arith);
      few = (w.history.systems r w.within).few;
    }))

-- the system has all its rules
pub all_there : (b : History) (at : RulePlace) (r : ℕ) → HasSystem b r → AreAll b at r → HasRules b at
all_there b at r w h = record { system = subst (HasSystem b) (sym h.same) w; within = h.within }
