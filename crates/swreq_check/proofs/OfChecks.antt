-- The check of a text: its parts one after another, what is told of them, and what a check without a refusal gives.
use Rattle.std.proofs.Common.{IsErrAnd, ◌≢◌, ◌∙◌, inl, inr, refl, sym, ap, subst, List, ◌++◌, append_assoc, Contains, Option, None, Result, Ok, Err, map, length, ◌≡◌, ℕ, suc, ◌+◌, ◌<◌, ◌∷◌, append-nil, drop, drop-cons, take, Some}
use Rattle.swreq_machine.specs.swreq_derive.Derivation.{TermFacts}
use Rattle.swreq_machine.specs.swreq_derive.WellFormed.{IsListWellFormed, IsWellFormed}
use Rattle.swreq_machine.proofs.swreq_lemmas.Members.{member_cases, no_member, contains_of_map}
use Rattle.swreq_machine.specs.swreq_rule.declared.rules.Rule.{Rule}
use Rattle.swreq_machine.specs.swreq_complete.Limits.{IsWithin}
use Rattle.swreq_machine.specs.swreq_rounds.Plan.{Plan, given}
use Rattle.swreq_machine.specs.swreq_rounds.Rounds.{ComesTo, IsOutcome, IsStoppedRound}
use Rattle.swreq_machine.proofs.swreq_rounds.Turning.{stopped_comes}
use Rattle.swreq_machine.specs.swreq_watch.declared.events.Event.{Event}
use Rattle.swreq_machine.specs.swreq_lowering.Requirements.{PlacedRequirement}
use Rattle.swreq_machine.specs.swreq_world.Closed.{IsClosed}
use Rattle.swreq_machine.specs.swreq_world.Worlds.{SignatureOver, TextWorld, no_signature, signature_at}
use Rattle.swreq_machine.specs.swreq_symbols.Meaning.{facts_of}
use Rattle.swreq_machine.specs.swreq_valid.Built.{Builds, IsBuilt, IsOnlyBuilt}
use Rattle.swreq_machine.specs.swreq_valid.Protocols.{protocols_of}
use Rattle.swreq_machine.specs.OfSignatures.{signature_plan, signature_sides}
use Rattle.swreq_machine.specs.swreq_valid.Sides.{Side, protocol_sides}
use Rattle.swreq_machine.specs.swreq_valid.declared.refused.Refused.{Refused}
use Rattle.swreq_machine.specs.swreq_valid.declared.refused.Refused.TheVariants.{Limit, NotATypeParameter, Memory}
use Rattle.swreq_machine.specs.swreq_complete.declared.limit.Limits.{Limits}
use Rattle.swreq_machine.specs.swreq_complete.declared.limit.Which.{Which}
use Rattle.swreq_machine.specs.swreq_world.FactsAt.{source_of}
use Rattle.swreq_reqsig.proofs.WellFormed.{list_formed, protocols_formed}
use Rattle.swreq_check.specs.Machines.{IsBuiltOver, IsChecked, SignatureComes, SignaturesCome}
use Rattle.swreq_check.specs.Machines.IsChecked.{protocols_built, protocols_refused}
use Rattle.swreq_check.specs.Machines.SignaturesCome.{all, next, stopped}
use Rattle.swreq_check.specs.Told.{CheckTells, SignaturesTell, Tells}
use Rattle.swreq_check.specs.Told.CheckTells.{in_protocols, past_protocols}
use Rattle.swreq_check.specs.Told.SignaturesTell.{nothing_yet, in_first, past_first}
use Rattle.std.proofs.lemmas.List.{take-append-drop, take_more}
use Rattle.swreq_births.proofs.swreq_watch.Told.{grew_on}
use Rattle.swreq_check.specs.Checks.{Checks, ChecksAll, ChecksOne}

-- what the exit of a `?` returns
pub err_is : {A E : Type 0} (r : Result A E) (e : E) → IsErrAnd r (λ f. f ≡ e) → r ≡ Err e
err_is (Ok x) e h = absurd h
err_is (Err f) e h = ap Err h

abbrev Signatures : Type 0
Signatures = List (SignatureOver PlacedRequirement)

module _ (limits : Limits) (w : TextWorld) (rules : List Rule) where
  -- ---- signatures after signatures

  pub come_on : {gs hs : Signatures} {refused : Option Refused} {a b : List Event} → SignaturesCome limits w rules gs None a
      → SignaturesCome limits w rules hs refused b → SignaturesCome limits w rules (gs ++ hs) refused (a ++ b)
  come_on all h = h
  come_on {b = b} (next {first = first} {more = more} own one rest e) h =
      next own one (come_on rest h) (ap (λ (t : List Event). t ++ b) e ∙ append_assoc first more b)

  pub tell_on : {gs hs : Signatures} {a b : List Event} → SignaturesCome limits w rules gs None a → SignaturesTell limits w rules hs b
      → SignaturesTell limits w rules (gs ++ hs) (a ++ b)
  tell_on all h = h
  tell_on {b = b} (next {first = first} {more = more} own one rest e) h =
      past_first own one (tell_on rest h) (ap (λ (t : List Event). t ++ b) e ∙ append_assoc first more b)

  -- each signature of those that come to rules
  pub each_comes : {gs : Signatures} {told : List Event} → SignaturesCome limits w rules gs None told
      → (g : SignatureOver PlacedRequirement)
      → Contains gs g → (own : List Rule) × (told : List Event) × SignatureComes limits w rules g (Ok own) told
  each_comes all g c = no_member g c
  each_comes (next {g = h} {gs = gs} {first = first} own one rest e) g c = elim (member_cases h g gs c) [
    | inl i ↦ (own, first, rw i one)
    | inr k ↦ each_comes rest g k
  ]

  -- where the machine of such a signature is built again, it comes to rules again, or memory runs out
  pub only_memory : {gs : Signatures} {told : List Event} → SignaturesCome limits w rules gs None told
      → (g : SignatureOver PlacedRequirement) → Contains gs g → (e : Refused)
      → IsOnlyBuilt limits (signature_plan w rules g) (facts_of w) (signature_sides g) (Err e) → e ≡ Memory
  only_memory come g c e only =
      let (own, told, comes) = each_comes come g c in
      elim (only (Ok own) told comes) [ inl same ↦ cc | inr (inl lost) ↦ cc | inr (inr lost) ↦ cc ]

-- ---- a check that is done tells all that it tells

module _ (limits : Limits) (plan : Plan) where
  ends_come : (rules : List Rule) (told : List Event) → IsOutcome limits plan (Ok rules) told → ComesTo limits plan told
  ends_come rules told (used, last) =
      let within : IsWithin limits (length plan.base) (given plan used) rules =
      record { reached = last.ends.1.ended.reached; kept = λ k rule b s e. last.ends.1.kept k rule b e } in
      record {
        used = used;
        first = last.first;
        before = last.before;
        round = last.round;
        part = inr (rules, last.due, last.ends.0, within, last.told_is);
      }

  refused_comes : (f : TermFacts) (every : List Side) (refused : Refused) (told : List Event) → refused ≢ Memory
      → IsBuilt limits plan f every (Err refused) told → ComesTo limits plan told
  refused_comes f every (Limit which trace) told real h = stopped_comes which trace told h
  refused_comes f every (NotATypeParameter at) told real (rules, h, fails) = ends_come rules told h
  refused_comes f every Memory told real h = absurd (real refl)

module _ (limits : Limits) (w : TextWorld) where
  signatures_tell : (rules : List Rule) {gs : Signatures} {refused : Option Refused} {told : List Event}
      → SignaturesCome limits w rules gs refused told → SignaturesTell limits w rules gs told
  signatures_tell rules all = nothing_yet
  signatures_tell rules (next own one rest e) = past_first own one (signatures_tell rules rest) e
  signatures_tell rules {told = told} (stopped refused real come) = in_first (refused_comes limits _ _ _ refused told real come)

  pub check_tells : {refused : Option Refused} {told : List Event} → IsChecked limits w refused told → CheckTells limits w told
  check_tells {told = told} (protocols_refused refused real come) = in_protocols (refused_comes limits _ _ _ refused told real come)
  check_tells (protocols_built rules come signatures e) = past_protocols rules come (signatures_tell rules signatures) e

  -- a text that is not refused is checked
  pub built_checked : (rules : List Rule) (told : List Event) → IsBuiltOver limits w rules told → IsChecked limits w None told
  built_checked rules told built = protocols_built rules built.protocols built.signatures built.told_is

  -- and it is well formed
  pub is_formed : IsClosed w → {rules : List Rule} {told : List Event} → IsBuiltOver limits w rules told
      → IsWellFormed (facts_of w) (map source_of w.signatures)
  is_formed closed {rules = rules} built = record {
    protocols = protocols_formed w closed built.protocols.1;
    lists = λ s c.
        let (g, has, is) = contains_of_map source_of w.signatures s c in
        let (own, told, comes) = each_comes limits w rules built.signatures g has in
        subst (IsListWellFormed (facts_of w)) (sym is) (λ r k. list_formed (facts_of w) (source_of g) g.requirements comes.1 r k);
  }

-- ---- what is told

-- first the ones are told, and then the others
pub told_on : {First Then Both : List Event → Type 0} (old mid new : Option (List Event)) → Tells First old mid → Tells Then mid new
    → ((a b : List Event) → First a → Then b → Both (a ++ b)) → Tells Both old new
told_on old mid new (a, h, grew) (b, k, more) both = (a ++ b, both a b h k, grew_on old mid new a b grew more)

-- ---- one signature

-- where building its machine is refused, the signature is
pub one_refused : (limits : Limits) (w : TextWorld) (base : List Rule) (g : SignatureOver PlacedRequirement) (old new : Option (List Event))
    → (e : Refused) → Builds limits (signature_plan w base g) (facts_of w) (signature_sides g) old new (Err e)
    → ChecksOne limits w base g old new (Err e)
one_refused limits w base g old new Memory b = (b.0, inl b.1, b.2)
one_refused limits w base g old new e b = b

-- ---- one after another

-- The first k signatures came to rules.
abbrev pub CameFirst : Limits → TextWorld → List Rule → ℕ → Option (List Event) → Option (List Event) → Type 0
CameFirst limits w base k = Tells (SignaturesCome limits w base (take k w.signatures) None)

-- one more is checked, as the text stands by the table that has grown
module _ (limits : Limits) (now w : TextWorld) (stays : now ≡ w) (base : List Rule) (k : ℕ) (l : k < length w.signatures)
    (old mid new : Option (List Event)) (came : CameFirst limits w base k old mid) where
  abbrev ChecksNext : Result (Unit {0}) Refused → Type 0
  ChecksNext = ChecksOne limits now base (signature_at now (record { place = k })) mid new

  pub came_more : (done : Unit {0}) → ChecksNext (Ok done) → CameFirst limits w base (k + 1) old new
  came_more done one = told_on old mid new came (rw stays at one) (λ a b before comes.
      rw (take_more w.signatures k no_signature l) (come_on limits w base before (next comes.0 comes.1 all (sym (append-nil b)))))

  split : take k w.signatures ++ (signature_at w (record { place = k }) ∷ drop (suc k) w.signatures) ≡ w.signatures
  split = rw (← drop-cons w.signatures k no_signature l) (take-append-drop k w.signatures)

  pub stopped_at : (e : Refused) → ChecksNext (Err e) → ChecksAll limits w base old new (Err e)
  stopped_at Memory one = told_on old mid new came (rw stays at one) (λ a b before part.
      subst (λ gs. SignaturesTell limits w base gs (a ++ b)) split (tell_on limits w base before (elim part [
        | inl told ↦ in_first told
        | inr (own, comes) ↦ past_first own comes nothing_yet (sym (append-nil b))
      ])))
  stopped_at e one = told_on old mid new came (rw stays at one) (λ a b before stops.
      subst (λ gs. SignaturesCome limits w base gs (Some e) (a ++ b)) split (come_on limits w base before (stopped e (λ is. (cc)) stops)))

-- ---- the protocols, and then the signatures

module _ (limits : Limits) (w : TextWorld) (old new : Option (List Event)) where
  abbrev BuildsProtocols : Option (List Event) → Result (List Rule) Refused → Type 0
  BuildsProtocols = Builds limits (protocols_of w) (facts_of w) (protocol_sides w) old

  pub protocols_failed : (e : Refused) → BuildsProtocols new (Err e) → Checks limits w old new (Err e)
  protocols_failed Memory (told, h, grew) = (told, in_protocols h, grew)
  protocols_failed e (told, h, grew) = (told, protocols_refused e (λ is. (cc)) h, grew)

  module _ (mid : Option (List Event)) (rules : List Rule) (built : BuildsProtocols mid (Ok rules)) where
    pub then_failed : (e : Refused) → ChecksAll limits w rules mid new (Err e) → Checks limits w old new (Err e)
    then_failed Memory rest = told_on old mid new built rest (λ a b h part. past_protocols rules h part refl)
    then_failed e rest = told_on old mid new built rest (λ a b h stops. protocols_built rules h stops refl)

    pub then_all : (done : Unit {0}) → ChecksAll limits w rules mid new (Ok done) → Tells (IsBuiltOver limits w rules) old new
    then_all done rest =
        told_on old mid new built rest (λ a b h come. record { first = a; more = b; protocols = h; signatures = come; told_is = refl })
