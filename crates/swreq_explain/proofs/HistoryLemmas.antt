-- The history of a machine is a history (`IsHistory`), and fits the facts of its signature.
use Rattle.std.proofs.Common.{◌≡◌, ◌∙◌, inl, inr, ℕ, suc, ◌+◌, ◌-◌, ◌<◌, ◌≤◌, ◌^◌, List, [], ◌∷◌, ◌++◌, Option, Some, None, ap, ap₂, arith}
use Rattle.std.proofs.{Common.{length, length-append, map, refl, slice_get, subst, sym}, lemmas.List.{length-map, map-append}}
use Rattle.std.proofs.lemmas.Option.{get_or_from_slice_get, same_Some, slice_get-get_or, slice_get_within}
use Rattle.swreq_machine.proofs.swreq_lemmas.Elements.{get_after, get_cases, get_either, get_left, get_map, in_front, there_is}
use Rattle.swreq_machine.proofs.{swreq_valid.Flagged.{chosen_map}, swreq_symbols.OfText.{requirements_placed, signature_is}}
use Rattle.swreq_machine.{proofs.swreq_correspondence.Spelling.{spell-append}, specs.swreq_param.declared.ids.ParamId.{ParamId}}
use Rattle.swreq_machine.specs.swreq_param.{declared.ids.ProtoId.{ProtoId}, Owned.{as_term}, Terms.{Term}}
use Rattle.swreq_machine.specs.{swreq_rule.declared.rules.Rule.{Rule}, swreq_derive.Derivation.{TermFacts, TermRequirement}}
use Rattle.swreq_machine.specs.swreq_derive.{Derivation.Source.{Written as WrittenList}, Facts.{generic_params, requirement_of}}
use Rattle.swreq_machine.specs.{swreq_derive.Instances.{HasNumber}, swreq_complete.{Alike.{ReduceAlike}, declared.limit.Limits.{Limits}}}
use Rattle.swreq_machine.specs.{swreq_complete.{Complete.{IsComplete}, Reached.{IsBorn}}, swreq_correspondence.Shown.{ShowsUsable}}
use Rattle.swreq_machine.specs.swreq_correspondence.{Shown.{ShowsValid}, Symbols.{IsInText, Symbols, Word, left_side, right_side, word_of}}
use Rattle.swreq_machine.specs.swreq_lowering.{declared.ids.FuncId.{FuncId}, Requirements.{PlacedRequirement}}
use Rattle.swreq_machine.specs.swreq_rounds.{Presents.{AreListRules}, Plan.{AreShownByReduction, Item, Plan, equation_of, given}}
use Rattle.swreq_machine.specs.{swreq_lexicon.declared.pair.ProtocolName.{ProtocolName}, swreq_symbols.Known.{IsTextOver}}
use Rattle.swreq_machine.specs.{swreq_symbols.{Meaning.{symbols_of}, Overs.{source_by}}, swreq_valid.Flags.{chosen}}
use Rattle.swreq_machine.specs.swreq_valid.{Protocols.{ProtocolsView, protocols_of}, Plans.{bare, listed}, Rounds.{AreRounds, RoundView}}
use Rattle.swreq_machine.specs.{swreq_valid.Rounds.{last_rules}, Machines.{MachineView, machine_plan}, swreq_world.ByTable.{signature_by}}
use Rattle.swreq_machine.specs.swreq_world.{ByTable.{world_by}, FactsAt.{facts_of, written_list}, Worlds.{IdWorld, SignatureOver}}
use Rattle.swreq_machine.specs.swreq_world.Worlds.{signature_at}
use Rattle.swreq_derivation.specs.UnderWay.{Assumptions}
use Rattle.swreq_readings.specs.{declared.alphabet.Alphabet.{Alphabet}, Alphabets.{lexicon}}
use Rattle.swreq_births.specs.declared.history.{History.{History}, Equation.{Equation}, OwnedRequirement.{OwnedRequirement}}
use Rattle.swreq_births.specs.declared.history.{OwnedRequirement.TheVariants.{Conf, Layout, Same}, Reason.{Reason, TheVariants.{Doubled}}}
use Rattle.swreq_births.specs.declared.history.{Reason.TheVariants.{Named as NamedBy, Required}, System.{System}}
use Rattle.swreq_explain.specs.{declared.numbered.Numbered.{Numbered}, Histories.{IsHistoryFor, IsHistoryOf, assumptions_of, list_origin}}
use Rattle.swreq_explain.specs.{Histories.{protocols_origin}, Numbering.{IsBasicBy, item_by, sides_of, source_in}, Rounds.{AreFirstSystems}}
use Rattle.swreq_explain.{specs.{Rounds.{AreSystemsOf, IsSystemOf}, Uses.{IsShownBy, Origin}}, proofs.ReadRounds.{AreRoundsRead}}
use Rattle.swreq_explain.proofs.{AlphabetLemmas.{are_symbols, fits_assumptions}, NumberingLemmas.{equations_at, equations_sides, left_by}}
use Rattle.swreq_explain.proofs.NumberingLemmas.{numbered_is, numbered_items, protocol_number, protocols_items, right_by, written_of}
use Rattle.swreq_explain.proofs.RoundLemmas.{chosen_of, ended_complete, last_ends, last_is, none_complete, reached_at, some_round}
use Rattle.swreq_explain.proofs.UseLemmas.{shown_before}
use Rattle.swreq_readings.specs.swreq_word.declared.symbols.Symbol.TheVariants as symbols
use Rattle.swreq_machine.specs.swreq_rounds.Given.{of_list}
use Rattle.swreq_births.specs.Systems.{AreSymbols, FitsHistory, HasShownSides, IsGivenBy, IsHistory, IsShown, IsSystem, IsWritten, given_of, requirement_by, rules_at, source_of, system_at, systems_of}

-- ---- systems by their places

module _ (m : Symbols) (terms : List Term) (o : Origin) where
  pub no_systems : AreFirstSystems m terms o 0 []
  no_systems = record { count_is = refl; each = λ k v e. cc }

  pub systems_more : (n : ℕ) (vs : List System) (v : System) → AreFirstSystems m terms o n vs → IsSystemOf m terms o n v
      → AreFirstSystems m terms o (n + 1) (vs ++ v ∷ [])
  systems_more n vs v h is = record {
    count_is = (let c = h.count_is in let l = length-append vs (v ∷ []) in omega (arith, c, l));
    each = λ k u e. elim (get_cases vs v k u e) [
      | inl i ↦ h.each k u i
      | inr i ↦ subst (λ n. IsSystemOf m terms o n u) (sym (i.0 ∙ h.count_is)) (subst (IsSystemOf m terms o n) (sym i.1) is)
    ];
  }

  -- each round has its system, with the round's rules
  pub system_in : (vs : List System) → AreSystemsOf m terms o vs → (k : ℕ) (round : RoundView) → slice_get o.rounds k ≡ Some round
      → (v : System) × (slice_get vs k ≡ Some v) × (v.rules ≡ round.rules) × (length v.rules < 2 ^ 32 - 1)
  system_in vs h k round e =
      let within = slice_get_within o.rounds k round e in
      let (v, at) = there_is vs k (subst (λ n. k < n) (sym h.count_is) within) in
      let made = h.each k v at in
      let same : made.round ≡ round = same_Some _ _ (sym made.there ∙ e) in
      (v, at, made.rules ∙ ap (λ (z : RoundView). z.rules) same, made.few)

  -- a round has fewer than 2^32 - 1 rules
  pub few_rules : (vs : List System) → AreSystemsOf m terms o vs → (k : ℕ) (round : RoundView) → slice_get o.rounds k ≡ Some round
      → length round.rules < 2 ^ 32 - 1
  few_rules vs h k round e =
      let (v, at, rules, few) = system_in vs h k round e in subst (λ (z : List Rule). length z < 2 ^ 32 - 1) rules few

-- ---- the sides of a requirement that rules show

module _ (g : Alphabet) (m : Symbols) (f : TermFacts) (are : AreSymbols g m f) (rules : List Rule) (list : List TermRequirement)
    (owner : Option ProtoId) where
  shown_word : (t : Term) (w : Word) → ShowsValid m f (source_of g list owner) (ReduceAlike rules) t
      → w ≡ word_of m (source_of g list owner) t
      → IsShown g owner rules t w
  shown_word t w h e = record { symbols = m; facts = f; list = list; are = are; shown = h; word = e }

  shown_sides : (q : OwnedRequirement) (left right : Word) → left ≡ left_side m (source_of g list owner) (requirement_by q)
      → right ≡ right_side m (source_of g list owner) (requirement_by q)
      → ShowsUsable m f (source_of g list owner) (ReduceAlike rules) (requirement_by q) → HasShownSides g owner rules q left right
  shown_sides (Conf t p) left right l r h = (
    shown_word (as_term t) right h r,
    l ∙ sym (spell-append m (source_of g list owner) (as_term t) [] (symbols.Proto p.rank ∷ []))
        ∙ ap (λ z. z ++ symbols.Proto p.rank ∷ []) (sym r),
  )
  shown_sides (Layout t) left right l r h = (
    shown_word (as_term t) right h r,
    l ∙ sym (spell-append m (source_of g list owner) (as_term t) [] (symbols.Layout ∷ [])) ∙ ap (λ z. z ++ symbols.Layout ∷ []) (sym r),
  )
  shown_sides (Same t u) left right l r h = (shown_word (as_term t) left h.0 l, shown_word (as_term u) right h.1 r)

  source_same : source_of g list owner ≡ source_in (generic_params g.params) list owner
  source_same = elim owner [ None ↦ refl | Some p ↦ refl ]

  pub sides_are_shown : (terms : List Term) (x : Numbered) (q : OwnedRequirement) (left right : Word) → x.owner ≡ owner
      → requirement_by q ≡ requirement_of terms x.requirement
      → left ≡ left_side m (source_by x.owner) (requirement_of terms x.requirement)
      → right ≡ right_side m (source_by x.owner) (requirement_of terms x.requirement)
      → ShowsUsable m f (source_in (generic_params g.params) list x.owner) (ReduceAlike rules) (requirement_of terms x.requirement)
      → HasShownSides g owner rules q left right
  sides_are_shown terms x q left right own stands l r h =
      let params = generic_params g.params in
      let r_x = requirement_of terms x.requirement in
      let source : source_in params list x.owner ≡ source_of g list owner = ap (source_in params list) own ∙ sym source_same in
      shown_sides q left right
      (l ∙ left_by m params list x.owner r_x ∙ ap₂ (λ s z. left_side m s z) source (sym stands))
      (r ∙ right_by m params list x.owner r_x ∙ ap₂ (λ s z. right_side m s z) source (sym stands))
      (subst (λ s. ShowsUsable m f s (ReduceAlike rules) (requirement_by q)) source
      (subst (ShowsUsable m f (source_in params list x.owner) (ReduceAlike rules)) (sym stands) h))

-- ---- the systems of the rounds of a plan

-- The systems of the history from the place o.first on are those of the rounds of the plan, whose base is complete.
record HasRounds (terms : List Term) (b : History) (list : List TermRequirement) (o : Origin) (plan : Plan)
    (vs : List System) : Type 0 where
  limits : Limits
  rounds : AreRounds limits plan o.rounds
  complete : IsComplete plan.base
  base : length plan.base ≡ o.base
  basic : plan.basic ≡ o.basic
  all : plan.all ≡ map (item_by terms (generic_params b.alphabet.params) list) o.all
  members : o.members ≡ (lexicon b.alphabet).symbols
  symbols : AreSymbols b.alphabet plan.symbols plan.facts
  systems : AreSystemsOf plan.symbols terms o vs
  there : (k : ℕ) (v : System) → slice_get vs k ≡ Some v → slice_get (systems_of b) (o.first + k) ≡ Some v

module _ {terms : List Term} {b : History} {list : List TermRequirement} {o : Origin} {plan : Plan} {vs : List System}
    (h : HasRounds terms b list o plan vs) where
  abbrev item_in : Numbered → Item
  item_in = item_by terms (generic_params b.alphabet.params) list

  rules_are : (k : ℕ) (round : RoundView) → slice_get o.rounds k ≡ Some round → rules_at b (o.first + k) ≡ round.rules
  rules_are k round e =
      let (v, at, rules, few) = system_in plan.symbols terms o vs h.systems k round e in
      ap (λ (z : System). z.rules) (get_or_from_slice_get (systems_of b) (o.first + k) v
      (record { base = 0; below = 0; rules = []; given = [] }) (h.there k v at)) ∙ rules

  few_in : (k : ℕ) (round : RoundView) → slice_get o.rounds k ≡ Some round → length round.rules < 2 ^ 32 - 1
  few_in = few_rules plan.symbols terms o vs h.systems

  -- the rules of the last round are complete
  last_complete : IsComplete (last_rules o.rounds)
  last_complete =
      let (used, ends) = last_ends h.rounds in
      let (last, at, rules) = last_is o.rounds (some_round h.rounds) in
      ended_complete h.limits plan used (last_rules o.rounds) h.complete ends
      (subst (λ (z : List Rule). length z < 2 ^ 32 - 1) rules (few_in (length o.rounds - 1) last at))

  -- the rules of an earlier system show that a requirement is usable
  shown_earlier : (k : ℕ) (x : Numbered) (s : ℕ) → IsShownBy o.all o.rounds o.first k x s
      → (s < o.first + k) × AreShownByReduction plan (rules_at b s) (item_in x)
  shown_earlier k x s by =
      let e = shown_before plan o item_in h.all h.rounds h.complete few_in by.round by.place x by.there by.first_use in
      let place : s ≡ o.first + by.round - 1 = by.system_is in
      let next : by.round ≡ suc e.before = e.next in
      let within : by.round ≤ k = by.within in
      let same : s ≡ o.first + e.before = omega (arith, place, next) in
      let rules : rules_at b s ≡ e.earlier.rules = ap (rules_at b) same ∙ rules_are e.before e.earlier e.there in
      (omega (arith, same, next, within), subst (λ z. AreShownByReduction plan z (item_in x)) (sym rules) e.shows)

  module _ (k : ℕ) (v : System) (is : IsSystemOf plan.symbols terms o k v) where
    abbrev used : List Numbered
    used = chosen o.all is.round.used

    given_is : given_of v ≡ given plan (chosen plan.all is.round.used)
    given_is =
        let g = is.given in
        ap (map sides_of) g.given_are ∙ map-append sides_of g.basic g.more
        ∙ ap₂ (λ u w. u ++ w) (g.sides ∙ sym h.basic)
        (equations_sides plan.symbols terms o k (generic_params b.alphabet.params) list used g.more g.are_of
        ∙ ap (map (equation_of plan.symbols))
        (sym (chosen_map item_in o.all is.round.used) ∙ ap (λ z. chosen z is.round.used) (sym h.all)))

    born_is : (j : ℕ) (rule : Rule) → v.base ≤ j → slice_get v.rules j ≡ Some rule → IsBorn v.base (given_of v) v.rules j rule.birth
    born_is j rule above at =
        let from : v.base ≡ length plan.base = is.base ∙ sym h.base in
        let at_round : slice_get is.round.rules j ≡ Some rule = ap (λ (z : List Rule). slice_get z j) (sym is.rules) ∙ at in
        let born = (reached_at h.rounds k is.round is.there).1.born j rule (subst (λ n. n ≤ j) from above) at_round in
        subst (λ n. IsBorn n (given_of v) v.rules j rule.birth) (sym from)
        (subst (λ z. IsBorn (length plan.base) z v.rules j rule.birth) (sym given_is)
        (subst (λ z. IsBorn (length plan.base) (given plan (chosen plan.all is.round.used)) z j rule.birth) (sym is.rules) born))

    basic_given : (why : Reason) (left right : Word) → IsBasicBy o.members why left right → IsGivenBy b (o.first + k) why left right
    basic_given (Doubled p) left right i = i
    basic_given (NamedBy n) left right (m, at, l, w) = (m, ap (λ (z : List ProtocolName). slice_get z n) (sym h.members) ∙ at, l, w)
    basic_given (Required owner n q s) left right i = absurd i

    given_by : (j : ℕ) (e : Equation) → slice_get v.given j ≡ Some e → IsGivenBy b (o.first + k) e.reason e.left e.right
    given_by j e at =
        let g = is.given in
        elim (get_either g.basic g.more j e (sym (ap (λ (z : List Equation). slice_get z j) g.given_are) ∙ at)) [
          | inl i ↦ basic_given e.reason e.left e.right (g.are_basic j e i)
          | inr i ↦ (let (x, at_x, is_in) = equations_at plan.symbols terms o k used g.more g.are_of i.0 e i.2 in
              let (s, by, eq) = is_in in
              let (earlier, usable) = shown_earlier k x s by in
              subst (λ why. IsGivenBy b (o.first + k) why e.left e.right) (sym eq.reason.is) (
                earlier,
                sides_are_shown b.alphabet plan.symbols plan.facts h.symbols (rules_at b s) list x.owner terms x
                    eq.reason.requirement e.left e.right refl eq.reason.stands eq.left eq.right usable,
              ))
        ]

    basic_written : (assumptions : Assumptions) (why : Reason) (left right : Word) → IsBasicBy o.members why left right
        → IsWritten assumptions why
    basic_written assumptions (Doubled p) left right i = tt
    basic_written assumptions (NamedBy n) left right i = tt
    basic_written assumptions (Required owner n q s) left right i = absurd i

    written_by : (assumptions : Assumptions) → ((i : ℕ) (x : Numbered) (q : OwnedRequirement) (s : ℕ) → slice_get o.all i ≡ Some x
        → requirement_by q ≡ requirement_of terms x.requirement → IsWritten assumptions (Required x.owner x.number q s))
        → (j : ℕ) (e : Equation) → slice_get v.given j ≡ Some e → IsWritten assumptions e.reason
    written_by assumptions from j e at =
        let g = is.given in
        elim (get_either g.basic g.more j e (sym (ap (λ (z : List Equation). slice_get z j) g.given_are) ∙ at)) [
          | inl i ↦ basic_written assumptions e.reason e.left e.right (g.are_basic j e i)
          | inr i ↦ (let (x, at_x, is_in) = equations_at plan.symbols terms o k used g.more g.are_of i.0 e i.2 in
              let (s, by, eq) = is_in in
              let (place, there) = chosen_of o.all is.round.used i.0 x at_x in
              subst (IsWritten assumptions) (sym eq.reason.is) (from place x eq.reason.requirement s there eq.reason.stands))
        ]

    is_system : ((j : ℕ) (rule : Rule) → j < v.base → slice_get v.rules j ≡ Some rule
        → (v.below < o.first + k) × (slice_get (rules_at b v.below) j ≡ Some rule)) → IsSystem b (o.first + k) v
    is_system lower = record { few = is.few; born = born_is; lower = lower; given = given_by }

-- ---- the history

module _ (terms : List Term) (w : IdWorld) (fn : FuncId) (p : ProtocolsView) (m : MachineView) (b : History)
    (is : IsHistoryOf terms w fn p m b)
    (rounds : AreRoundsRead terms w fn p m) (text : IsTextOver terms w) where
  abbrev f : TermFacts
  f = facts_of (world_by terms w)

  -- the requirements of the signature's list
  abbrev pub own_list : List TermRequirement
  own_list = listed terms (bare (signature_at w fn).requirements)

  abbrev params : List ParamId
  params = generic_params b.alphabet.params

  same_params : generic_params m.params ≡ params
  same_params = ap generic_params (sym is.alphabet.params_are)

  own_text : IsTextOver terms b.alphabet.world.now
  own_text = subst (IsTextOver terms) (sym is.alphabet.world) text

  pub history_symbols : AreSymbols b.alphabet (symbols_of w.lexicon) f
  history_symbols = subst (λ (z : IdWorld). AreSymbols b.alphabet (symbols_of z.lexicon) (facts_of (world_by terms z))) is.alphabet.world
      (are_symbols terms b.alphabet is.alphabet.self_id own_text)

  members : w.lexicon.symbols ≡ (lexicon b.alphabet).symbols
  members = ap (λ (z : IdWorld). z.lexicon.symbols) (sym is.alphabet.world)

  abbrev below_plan : Plan
  below_plan = protocols_of (world_by terms w)

  abbrev own_plan : Plan
  own_plan = machine_plan terms w (last_rules p.rounds) m.params (bare (signature_at w fn).requirements)

  abbrev below_origin : Origin
  below_origin = protocols_origin w p.rounds

  abbrev own_origin : Origin
  own_origin = list_origin w fn p m

  abbrev item : Numbered → Item
  item = item_by terms params own_list

  own_all : own_plan.all ≡ map item own_origin.all
  own_all =
      ap (λ gs. map (of_list gs own_list) own_list) same_params
      ∙ sym (numbered_items terms params own_list None 1 (bare (signature_at w fn).requirements))

  below_length : length b.below.now ≡ length p.rounds
  below_length = is.of_protocols.count_is

  own_length : length b.own ≡ length m.rounds
  own_length = is.of_list.count_is

  none_before : (k : ℕ) → k ≡ 0 + k
  none_before k = omega arith

  -- the systems of the protocols come first
  below_rounds : HasRounds terms b own_list below_origin below_plan b.below.now
  below_rounds = record {
    limits = rounds.protocols.0;
    rounds = rounds.protocols.1;
    complete = none_complete;
    base = refl;
    basic = refl;
    all = protocols_items terms w params own_list w.lexicon.written_order;
    members = members;
    symbols = history_symbols;
    systems = is.of_protocols;
    there = λ k v e. subst (λ n. slice_get (systems_of b) n ≡ Some v) (none_before k) (get_left b.below.now b.own k v e);
  }

  -- the systems of the list, whose rounds begin with the rules of the protocols, come after them
  own_rounds : HasRounds terms b own_list own_origin own_plan b.own
  own_rounds = record {
    limits = rounds.list.0;
    rounds = rounds.list.1;
    complete = last_complete below_rounds;
    base = refl;
    basic = refl;
    all = own_all;
    members = members;
    symbols = history_symbols;
    systems = is.of_list;
    there = λ k v e. subst (λ n. slice_get (systems_of b) (n + k) ≡ Some v) below_length (get_after b.below.now b.own k ∙ e);
  }

  -- the rules of the base of the list are those of the last round of the protocols
  own_lower : (k : ℕ) (v : System) (made : IsSystemOf (symbols_of w.lexicon) terms own_origin k v) (j : ℕ) (rule : Rule) → j < v.base
      → slice_get v.rules j ≡ Some rule → (v.below < length p.rounds + k) × (slice_get (rules_at b v.below) j ≡ Some rule)
  own_lower k v made j rule l e =
      let reached = reached_at rounds.list.1 k made.round made.there in
      let last_count : j < length (last_rules p.rounds) = subst (λ n. j < n) made.base l in
      let some = some_round rounds.protocols.1 in
      let (last, at_last, rules_last) = last_is p.rounds some in
      let e_below : v.below ≡ length p.rounds - 1 = made.below in
      let at_round : slice_get made.round.rules j ≡ Some rule = ap (λ (z : List Rule). slice_get z j) (sym made.rules) ∙ e in
      let in_base : slice_get (last_rules p.rounds) j ≡ Some rule
      = ap (λ (z : List Rule). slice_get z j) (sym reached.0)
      ∙ in_front made.round.rules (length (last_rules p.rounds)) j rule last_count at_round in
      let below_is : rules_at b v.below ≡ last_rules p.rounds
      = ap (rules_at b) (made.below ∙ none_before (length p.rounds - 1)) ∙ rules_are below_rounds (length p.rounds - 1) last at_last
      ∙ rules_last in
      (omega (arith, e_below, some), ap (λ (z : List Rule). slice_get z j) below_is ∙ in_base)

  each_system : (r : ℕ) (v : System) → slice_get (systems_of b) r ≡ Some v → IsSystem b r v
  each_system r v e = elim (get_either b.below.now b.own r v e) [
    | inl i ↦ (let made = is.of_protocols.each r v i in subst (λ n. IsSystem b n v) (sym (none_before r))
        (is_system below_rounds r v made (λ j rule l at. absurd (let z : v.base ≡ 0 = made.base in omega (arith, l, z)))))
    | inr i ↦ subst (λ n. IsSystem b n v) (ap (λ n. n + i.0) (sym below_length) ∙ sym i.1)
        (is_system own_rounds i.0 v (is.of_list.each i.0 v i.2) (own_lower i.0 v (is.of_list.each i.0 v i.2)))
  ]

  system_there : (r : ℕ) → r < length (systems_of b) → slice_get (systems_of b) r ≡ Some (system_at b r)
  system_there r l = slice_get-get_or (systems_of b) r (record { base = 0; below = 0; rules = []; given = [] }) l

  pub is_history : IsHistory b
  is_history = record {
    few = is.few;
    systems = λ r l. each_system r (system_at b r) (system_there r l);
  }

  -- ---- facts

  module _ (assumptions : Assumptions) (facts : assumptions.facts ≡ f) (params_are : assumptions.params ≡ generic_params m.params)
      (written : assumptions.written ≡ own_list) where
    below_written : (j : ℕ) (x : Numbered) (q : OwnedRequirement) (s : ℕ) → slice_get below_origin.all j ≡ Some x
        → requirement_by q ≡ requirement_of terms x.requirement → IsWritten assumptions (Required x.owner x.number q s)
    below_written j x q s e stands =
        let (o, own, number) = protocol_number terms w w.lexicon.written_order j x e in
        let n = written_of terms w o x.number x.requirement number in
        subst (λ (z : Option ProtoId). IsWritten assumptions (Required z x.number q s)) (sym own)
        (subst (λ (z : TermFacts). HasNumber x.number (z.of_protocol o) (requirement_by q)) (sym facts)
        (subst (HasNumber x.number (f.of_protocol o)) (sym stands) n))

    own_written : (j : ℕ) (x : Numbered) (q : OwnedRequirement) (s : ℕ) → slice_get own_origin.all j ≡ Some x
        → requirement_by q ≡ requirement_of terms x.requirement → IsWritten assumptions (Required x.owner x.number q s)
    own_written j x q s e stands =
        let list = bare (signature_at w fn).requirements in
        let (own, n, at) = numbered_is None 1 list j x e in
        let same : x.number - 1 ≡ j = omega (arith, n) in
        let there : slice_get own_list (x.number - 1) ≡ Some (requirement_of terms x.requirement)
        = ap (slice_get own_list) same ∙ get_map (requirement_of terms) list j x.requirement at in
        subst (λ (z : Option ProtoId). IsWritten assumptions (Required z x.number q s)) (sym own)
        (omega (arith, n), ap (λ (z : List TermRequirement). slice_get z (x.number - 1)) written ∙ there ∙ ap Some (sym stands))

    each_written : (r k : ℕ) (v : System) (e : Equation) → slice_get (systems_of b) r ≡ Some v → slice_get v.given k ≡ Some e
        → IsWritten assumptions e.reason
    each_written r k v e at in_v = elim (get_either b.below.now b.own r v at) [
      | inl i ↦ written_by below_rounds r v (is.of_protocols.each r v i) assumptions below_written k e in_v
      | inr i ↦ written_by own_rounds i.0 v (is.of_list.each i.0 v i.2) assumptions own_written k e in_v
    ]

    pub fits_history : FitsHistory b assumptions
    fits_history = record {
      alphabet = fits_assumptions terms b.alphabet is.alphabet.self_id own_text assumptions
          (facts ∙ ap (λ (z : IdWorld). facts_of (world_by terms z)) (sym is.alphabet.world)) (params_are ∙ same_params);
      written = λ r k e l at. each_written r k (system_at b r) e (system_there r l) at;
    }

  -- ---- for the signature

  signature_now : signature_at (world_by terms w) fn ≡ signature_by terms (signature_at w fn)
  signature_now = signature_is w terms fn

  params_now : generic_params (signature_at (world_by terms w) fn).params ≡ generic_params m.params
  params_now = ap (λ (g : SignatureOver PlacedRequirement). generic_params g.params) signature_now ∙ sym (ap generic_params rounds.params)

  list_now : written_list (signature_at (world_by terms w) fn) ≡ own_list
  list_now = ap written_list signature_now ∙ sym (requirements_placed terms (signature_at w fn).requirements)

  last_rules_are : rules_at b (length (systems_of b) - 1) ≡ last_rules m.rounds
  last_rules_are =
      let some = some_round rounds.list.1 in
      let (last, at, rules) = last_is m.rounds some in
      let count = length-append b.below.now b.own in
      let own = own_length in
      let below = below_length in
      let place : length (systems_of b) - 1 ≡ length p.rounds + (length m.rounds - 1) = omega (arith, some, count, own, below) in
      ap (rules_at b) place ∙ rules_are own_rounds (length m.rounds - 1) last at ∙ rules

  pub history_for : IsHistoryFor (world_by terms w) fn b
  history_for = record {
    signature = (let e = length-map w.signatures (signature_by terms) in let l = rounds.signature in omega (arith, l, e));
    history = is_history;
    fits = fits_history (assumptions_of (world_by terms w) fn) refl params_now list_now;
    symbols = history_symbols;
    params = is.alphabet.params_are ∙ rounds.params ∙ sym (ap (λ (g : SignatureOver PlacedRequirement). g.params) signature_now);
    some = (let some = some_round rounds.list.1 in
        let count = length-append b.below.now b.own in
        let own = own_length in
        omega (arith, some, count, own));
    rules = subst (λ gs. AreListRules (symbols_of w.lexicon) f gs (written_list (signature_at (world_by terms w) fn))
        (rules_at b (length (systems_of b) - 1))) (sym params_now)
        (subst (λ rs. AreListRules (symbols_of w.lexicon) f (generic_params m.params) rs (rules_at b (length (systems_of b) - 1)))
        (sym list_now)
        (subst (AreListRules (symbols_of w.lexicon) f (generic_params m.params) own_list) (sym last_rules_are) rounds.machine.rules));
    complete = subst IsComplete (sym last_rules_are) (last_complete own_rounds);
    in_text = subst (IsInText (symbols_of w.lexicon)) (λ i. WrittenList (sym params_now i) (sym list_now i)) rounds.machine.in_text;
  }
