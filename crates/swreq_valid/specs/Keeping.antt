-- The rules of the protocols by a part of their requirements.
use Rattle.std.specs.Prelude.{◌≡◌, ◌↔◌, ◌<◌, ℕ, zero, suc, Bool, List, [], ◌∷◌, ◌++◌, IsTrue, Some, false, length, map, slice_get, slice_index_or, Result, Ok, Err}
use Rattle.std.specs.Bool.{if◌then◌else◌, nat_eq}
use Rattle.swreq_rounds.specs.swreq_param.declared.ids.ProtoId.{ProtoId}
use Rattle.swreq_rounds.specs.swreq_derive.Derivation.{TermFacts, TermRequirement}
use Rattle.swreq_rounds.specs.swreq_derive.Derivation.Source.{SelfOf}
use Rattle.swreq_rounds.specs.swreq_derive.WellFormed.{HasValidSides}
use Rattle.swreq_complete.specs.swreq_rule.declared.rules.Rule.{Rule}
use Rattle.swreq_complete.specs.declared.limit.Failed.{Failed}
use Rattle.swreq_rounds.specs.swreq_correspondence.Shown.{ShowsUsable}
use Rattle.swreq_rounds.specs.Given.{protocols_plan}
use Rattle.swreq_rounds.specs.Plan.{Plan}
use Rattle.swreq_world.specs.Worlds.{IdWorld, TextWorld, requirements_of}
use Rattle.swreq_symbols.specs.Meaning.{facts_of, symbols_of}
use Rattle.swreq_symbols.specs.Vanishing.{Links}
use Rattle.swreq_valid.specs.declared.wanted.RoundRequirement.{RoundRequirement}
use Rattle.swreq_valid.specs.Flags.{Tells, chosen}
use Rattle.swreq_valid.specs.Protocols.{ProtocolsView}
use Rattle.swreq_valid.specs.Plans.{bare, in_protocol}
use Rattle.swreq_valid.specs.Rounds.{last_rules}

-- the flags of the requirements of P, where there is a list for each of these protocols
abbrev pub flags_of : List ProtoId → List (List Bool) → ProtoId → List Bool
flags_of [] keep p = []
flags_of (q ∷ ps) [] p = []
flags_of (q ∷ ps) (flags ∷ keep) p = if nat_eq q.rank p.rank then flags else flags_of ps keep p

-- What one derives from with the kept requirements alone: those whose flags are set, protocols in written order.
abbrev pub kept_facts : TextWorld → List (List Bool) → TermFacts
kept_facts w keep = record {
  associated_types = (facts_of w).associated_types;
  of_protocol = λ p. chosen ((facts_of w).of_protocol p) (flags_of w.lexicon.written_order keep p);
}

-- There is a list for each protocol, in written order, with a flag for each of its requirements.
pub record AreFlags (w : IdWorld) (keep : List (List Bool)) : Type 0 where
  pub protocols : length keep ≡ length w.lexicon.written_order
  pub requirements : (k : ℕ) (p : ProtoId) (flags : List Bool) → slice_get w.lexicon.written_order k ≡ Some p
      → slice_get keep k ≡ Some flags → length flags ≡ length (requirements_of w p)

-- the rounds of the protocols of the world with the kept requirements, over the symbols and the basic equations of the whole world
abbrev pub kept_plan : TextWorld → List (List Bool) → Plan
kept_plan w keep = protocols_plan (symbols_of w.lexicon) (kept_facts w keep)

-- the kept requirements of these protocols
abbrev pub kept_in : IdWorld → List ProtoId → List (List Bool) → List RoundRequirement
kept_in w [] keep = []
kept_in w (p ∷ ps) [] = []
kept_in w (p ∷ ps) (flags ∷ keep) = map (in_protocol p) (chosen (bare (requirements_of w p)) flags) ++ kept_in w ps keep

-- ---- usable requirements

-- the flag with this number, where they are numbered from 1, or false where there is none
abbrev pub flag_with : List Bool → ℕ → Bool
flag_with flags zero = false
flag_with flags (suc n) = slice_index_or flags n false

-- the flag of the requirement of P with this number, in lists by the ranks of protocols
abbrev pub flag_at : List (List Bool) → ProtoId → ℕ → Bool
flag_at flags p n = flag_with (slice_index_or flags p.rank []) n

-- This is the requirement of P with this number, from 1.
abbrev pub HasNumber : TextWorld → ProtoId → ℕ → TermRequirement → Type 0
HasNumber w p zero r = ⊥
HasNumber w p (suc n) r = slice_get ((facts_of w).of_protocol p) n ≡ Some r

-- The flags tell of each requirement of the world whether its type parameters are derivable from these facts.
abbrev pub TellUsable : TextWorld → TermFacts → List (List Bool) → Type 0
TellUsable w f flags = (p : ProtoId) (n : ℕ) (r : TermRequirement) → HasNumber w p n r
    → IsTrue (flag_at flags p n) ↔ HasValidSides f (SelfOf p) r

-- The rules show a requirement of P usable.
abbrev pub IsUsableBy : TextWorld → List Rule → ProtoId → TermRequirement → Type 0
IsUsableBy w rules p r = ShowsUsable (symbols_of w.lexicon) (facts_of w) (SelfOf p) (Links rules) r

-- For each protocol of lesser rank, the flags tell which of its requirements the rules show usable.
abbrev pub TellEach : TextWorld → List Rule → List (List Bool) → ℕ → Type 0
TellEach w rules flags bound = (k : ℕ) → k < bound
    → Tells (IsUsableBy w rules (record { rank = k })) ((facts_of w).of_protocol (record { rank = k })) (slice_index_or flags k [])

-- the answer with the rules of the last round
abbrev pub kept_answer : Result ProtocolsView Failed → Result (List Rule) Failed
kept_answer (Ok p) = Ok (last_rules p.rounds)
kept_answer (Err failed) = Err failed
