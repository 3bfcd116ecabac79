-- The plan of the protocols, and its lists, made item by item.
use Rattle.std.proofs.Common.{◌≡◌, refl, sym, ap, ap₂, subst, ◌∙◌, ℕ, suc, ◌≤◌, ◌+◌, arith, Bool, true, false, List, [], ◌∷◌, ◌++◌, length, map, drop, slice_get, append_assoc, Option, Some, inl, inr, Result, Ok, Err, IfOk}
use Rattle.std.specs.Bool.{if◌then◌else◌, nat_eq}
use Rattle.std.specs.Option.{option_map}
use Rattle.std.proofs.lemmas.List.{append-nil, map-append, drop_all}
use Rattle.std.proofs.lemmas.List.Elements.{Contains-append_cases}
use Rattle.std.proofs.lemmas.Option.{get_or_from_slice_get, slice_get-map, slice_get_within}
use Rattle.std.proofs.lemmas.Simd.{map-map}
use Rattle.swreq_rounds.specs.swreq_param.declared.ids.ProtoId.{ProtoId}
use Rattle.swreq_rounds.specs.swreq_param.Terms.{Term}
use Rattle.swreq_rounds.specs.swreq_derive.Derivation.{TermFacts, TermRequirement}
use Rattle.swreq_rounds.specs.swreq_derive.Derivation.Source.{SelfOf}
use Rattle.swreq_rounds.specs.swreq_derive.Facts.{requirement_of}
use Rattle.swreq_complete.proofs.swreq_lemmas.Elements.{drop_from}
use Rattle.swreq_complete.proofs.swreq_lemmas.Members.{no_member, contains_of_map}
use Rattle.swreq_complete.specs.swreq_rule.declared.rules.Rule.{Rule}
use Rattle.swreq_complete.specs.swreq_watch.declared.events.Event.{Event}
use Rattle.swreq_complete.specs.declared.limit.Failed.{Failed}
use Rattle.swreq_complete.specs.declared.limit.Limits.{Limits}
use Rattle.swreq_rounds.specs.swreq_correspondence.Symbols.{MemberName, Word}
use Rattle.swreq_rounds.specs.Given.{basic_equations, basic_of, doubled, items_of as items_from, named, named_from, of_self}
use Rattle.swreq_rounds.proofs.LastRound.{protocols_law}
use Rattle.swreq_world.specs.swreq_lexicon.declared.pair.ProtocolName.{ProtocolName}
use Rattle.swreq_world.specs.swreq_lexicon.Views.{IsProtocol, LexiconView}
use Rattle.swreq_world.specs.swreq_lowering.declared.ids.Written.{Written}
use Rattle.swreq_world.specs.swreq_lowering.ByTable.{placed}
use Rattle.swreq_world.specs.ByTable.{world_by}
use Rattle.swreq_world.specs.Closed.{AreIds, IsClosed}
use Rattle.swreq_world.specs.Worlds.{IdWorld, TextWorld, requirements_of}
use Rattle.swreq_symbols.proofs.OfText.{own_requirements, protocol_written, requirements_by}
use Rattle.swreq_symbols.proofs.Symbols.{symbols_law, text_law}
use Rattle.swreq_symbols.specs.Known.{IsRequirementIn, IsTextOver}
use Rattle.swreq_symbols.specs.Meaning.{facts_of, member_name, symbols_of}
use Rattle.swreq_valid.specs.declared.wanted.RoundStart.{RoundStart}
use Rattle.swreq_valid.specs.declared.wanted.RoundRequirement.{RoundRequirement}
use Rattle.swreq_valid.specs.Answers.{Answers}
use Rattle.swreq_valid.specs.Protocols.{AreRulesOf, protocols_of}
use Rattle.swreq_valid.specs.Plans.{AreWanted, AreWritten, bare, in_protocol, in_protocols, item_of, items_of, plan_of, says}
use Rattle.swreq_valid.specs.Rounds.{RoundView, last_rules, rules_of}
use Rattle.swreq_valid.specs.Sides.{Side, sides}
use Rattle.swreq_valid.proofs.FirstSide.{Found}

-- ---- lists that are made from the items at the places of another

module _ {A B : Type 0} (of : List A → List B) (part : A → List B) (one : (x : A) (xs : List A) → of (x ∷ xs) ≡ part x ++ of xs) where
  pub part_at : (xs : List A) (k : ℕ) (x : A) (v w all : List B) → slice_get xs k ≡ Some x → w ≡ v ++ part x → v ++ of (drop k xs) ≡ all
      → w ++ of (drop (k + 1) xs) ≡ all
  part_at xs k x v w all e f h =
      ap (λ z. z ++ of (drop (k + 1) xs)) f
      ∙ append_assoc v (part x) (of (drop (k + 1) xs))
      ∙ ap (λ z. v ++ z) (sym (one x (drop (k + 1) xs)) ∙ ap of (sym (drop_from xs k x e)))
      ∙ h

-- ---- the basic equations, protocol by protocol

-- the equations, and those of the protocols from a place on, are all
abbrev pub AreBasicBefore : LexiconView → ℕ → List (Word × Word) → Type 0
AreBasicBefore x k v = v ++ basic_of (symbols_of x) (drop k x.written_order) ≡ basic_equations (symbols_of x)

pub basic_at : (x : LexiconView) (k : ℕ) (p : ProtoId) (v w : List (Word × Word)) → slice_get x.written_order k ≡ Some p
    → w ≡ v ++ (doubled p ∷ named_from p 0 (symbols_of x).members)
    → AreBasicBefore x k v → AreBasicBefore x (k + 1) w
basic_at x k p v w e f h =
    part_at (basic_of (symbols_of x)) (λ p. doubled p ∷ named_from p 0 (symbols_of x).members) (λ p ps. refl) x.written_order k p v w
    (basic_equations (symbols_of x)) e f h

-- ---- the equations of member names

name_if : (p : ProtoId) (k : ℕ) (x : MemberName) (xs : List MemberName) (b : Bool)
    → (if b then named p x k ∷ named_from p (suc k) xs else named_from p (suc k) xs)
    ≡ (if b then named p x k ∷ [] else []) ++ named_from p (suc k) xs
name_if p k x xs true = refl
name_if p k x xs false = refl

pub name_more : (p : ProtoId) (symbols : List ProtocolName) (k : ℕ) (s : ProtocolName) (v w all : List (Word × Word))
    → slice_get symbols k ≡ Some s
    → w ≡ v ++ (if nat_eq s.proto.rank p.rank then named p (member_name s) k ∷ [] else [])
    → v ++ named_from p k (drop k (map member_name symbols)) ≡ all
    → w ++ named_from p (k + 1) (drop (k + 1) (map member_name symbols)) ≡ all
name_more p symbols k s v w all e f h =
    let xs = map member_name symbols in
    let x = member_name s in
    let at : slice_get xs k ≡ Some x = slice_get-map member_name symbols k ∙ ap (option_map member_name) e in
    let next : suc k ≡ k + 1 = omega arith in
    ap (λ z. z ++ named_from p (k + 1) (drop (k + 1) xs)) f
    ∙ append_assoc v (if nat_eq x.proto.rank p.rank then named p x k ∷ [] else []) (named_from p (k + 1) (drop (k + 1) xs))
    ∙ ap (λ z. v ++ z)
    (subst (λ n. (if nat_eq x.proto.rank p.rank then named p x k ∷ [] else []) ++ named_from p n (drop (k + 1) xs)
    ≡ named_from p k (x ∷ drop (k + 1) xs)) next
    (sym (name_if p k x (drop (k + 1) xs) (nat_eq x.proto.rank p.rank)))
    ∙ ap (named_from p k) (sym (drop_from xs k x at)))
    ∙ h

pub names_all : (p : ProtoId) (xs : List MemberName) (k : ℕ) (v all : List (Word × Word)) → length xs ≤ k
    → v ++ named_from p k (drop k xs) ≡ all → v ≡ all
names_all p xs k v all l h = sym (append-nil v) ∙ ap (λ z. v ++ z) (sym (ap (named_from p k) (drop_all k xs l))) ∙ h

-- ---- requirements of protocols

pub proto_within : (x : LexiconView) → AreIds x → (k : ℕ) (p : ProtoId) → slice_get x.written_order k ≡ Some p → IsProtocol x p
proto_within x ids k p e =
    (ids.written_order p).0 (k, slice_get_within x.written_order k p e, get_or_from_slice_get x.written_order k p p e)

pub protocol_listed : (w : IdWorld) (terms : List Term) → IsTextOver terms w → (p : ProtoId) (list : List Written)
    → list ≡ requirements_of w p → AreWritten terms w.lexicon list
protocol_listed w terms text p list e = subst (AreWritten terms w.lexicon) (sym e) (protocol_written w terms text p)

pub protocol_found : (w : IdWorld) (terms : List Term) (P : Side → Type 0) (p : ProtoId) (list : List Written) (found : Option ℕ)
    → list ≡ requirements_of w p
    → Found P (sides (SelfOf p) (placed terms list)) found → Found P (sides (SelfOf p) (requirements_of (world_by terms w) p)) found
protocol_found w terms P p list found e h =
    subst (λ z. Found P (sides (SelfOf p) z) found) (ap (placed terms) e ∙ sym (requirements_by w terms p)) h

pub protocols_wanted : (w : IdWorld) (terms : List Term) → IsTextOver terms w → (ps : List ProtoId)
    → AreWanted terms w.lexicon (in_protocols w ps)
protocols_wanted w terms text [] x c = no_member x c
protocols_wanted w terms text (p ∷ ps) x c =
    elim (Contains-append_cases (map (in_protocol p) (bare (requirements_of w p))) (in_protocols w ps) x c) [
      | inl k ↦ (let r = contains_of_map (in_protocol p) (bare (requirements_of w p)) x k in
          let q = contains_of_map (λ (z : Written). z.requirement) (requirements_of w p) r.0 r.1 in
          subst (λ (z : RoundRequirement). IsRequirementIn terms w.lexicon z.requirement) (sym r.2)
          (subst (IsRequirementIn terms w.lexicon) (sym q.2) (protocol_written w terms text p q.0 q.1)))
      | inr k ↦ protocols_wanted w terms text ps x k
    ]

-- ---- the plan

module _ (w : IdWorld) (terms : List Term) where
  abbrev f : TermFacts
  f = facts_of (world_by terms w)

  own_items : (rs : List TermRequirement) (p : ProtoId)
      → map (item_of terms rs) (map (in_protocol p) (bare (requirements_of w p))) ≡ map (of_self p) (f.of_protocol p)
  own_items rs p =
      map-map (item_of terms rs) (in_protocol p) (bare (requirements_of w p))
      ∙ sym (ap (map (of_self p)) (own_requirements w terms p) ∙ map-map (of_self p) (requirement_of terms) (bare (requirements_of w p)))

  items_are : (rs : List TermRequirement) (ps : List ProtoId) → map (item_of terms rs) (in_protocols w ps) ≡ items_from f ps
  items_are rs [] = refl
  items_are rs (p ∷ ps) =
      map-append (item_of terms rs) (map (in_protocol p) (bare (requirements_of w p))) (in_protocols w ps)
      ∙ ap₂ (λ a b. a ++ b) (own_items rs p) (items_are rs ps)

  pub protocols_plan_is : (base : List Rule) (start : RoundStart) → base ≡ [] → start.basic.items ≡ basic_equations (symbols_of w.lexicon)
      → start.all.items ≡ in_protocols w w.lexicon.written_order → plan_of w terms base start ≡ protocols_of (world_by terms w)
  protocols_plan_is base start none basic_is all_is =
      let items : items_of terms start.all.items ≡ items_from f w.lexicon.written_order =
      ap (items_of terms) all_is ∙ items_are (says terms (in_protocols w w.lexicon.written_order)) w.lexicon.written_order in
      λ i. record { symbols = symbols_of w.lexicon; facts = f; base = none i; basic = basic_is i; all = items i }

pub protocols_wanted_all : (w : IdWorld) (terms : List Term) → IsTextOver terms w → (all : List RoundRequirement)
    → all ≡ in_protocols w w.lexicon.written_order → AreWanted terms w.lexicon all
protocols_wanted_all w terms text all e = subst (AreWanted terms w.lexicon) (sym e) (protocols_wanted w terms text w.lexicon.written_order)

pub protocols_rules : (w : TextWorld) → IsClosed w
    → (limits : Limits) (old new : Option (List Event)) (answer : Result (List RoundView) Failed)
    → Answers limits (protocols_of w) old new (rules_of answer) → IfOk answer (λ rounds. AreRulesOf w (last_rules rounds))
protocols_rules w closed limits old new (Ok rounds) a =
    protocols_law (symbols_of w.lexicon) (facts_of w) (symbols_law w closed) (text_law w closed) limits a.1.0 (last_rules rounds) a.0 a.1.1
protocols_rules w closed limits old new (Err failed) a = tt
