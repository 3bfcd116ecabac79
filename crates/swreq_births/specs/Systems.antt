-- The systems of rules of all rounds, those of the protocols first.
use Rattle.std.specs.Prelude.{◌≡◌, ℕ, ◌<◌, ◌≤◌, ◌-◌, ◌^◌, List, [], ◌∷◌, ◌++◌, Option, Some, None, length, map, get_or, slice_get, take}
use Rattle.swreq_param.specs.{Owned.{as_term}, Terms.{Term}, declared.ids.{AssocId.{AssocId}, NameId.{NameId}, ProtoId.{ProtoId}}}
use Rattle.swreq_correspondence.specs.swreq_word.declared.symbols.Symbol.{Symbol}
use Rattle.swreq_correspondence.specs.swreq_word.declared.symbols.Symbol.TheVariants.{Layout as LayoutSymbol, Member, Name, Proto}
use Rattle.swreq_correspondence.specs.swreq_derive.Derivation.{Declares, Source, TermFacts, TermRequirement, Source.{SelfOf, Written}}
use Rattle.swreq_correspondence.specs.swreq_derive.{Derivation.TermRequirement.{Conforms, Equals, IsAnyObject}, Facts.{generic_params}}
use Rattle.swreq_correspondence.specs.{swreq_derive.Instances.{HasNumber}, Shown.{ShowsValid}, Symbols.{Symbols, word_of}}
use Rattle.swreq_complete.specs.swreq_rule.{declared.rules.{Birth.{Birth}, Rule.{Rule}}, Oriented.{IsOriented}, Reduction.{Reduces}}
use Rattle.swreq_complete.specs.{Alike.{ReduceAlike}, Reached.{IsBorn}}
use Rattle.swreq_derivation.specs.{Origins.{written_by}, UnderWay.{Assumptions}}
use Rattle.swreq_readings.specs.{declared.alphabet.Alphabet.{Alphabet}, swreq_lexicon.declared.pair.ProtocolName.{ProtocolName}}
use Rattle.swreq_readings.specs.{swreq_lexicon.Lexicons.{pair}, Alphabets.{Fits, lexicon}}
use Rattle.swreq_births.specs.declared.history.{RulePlace.{RulePlace}, History.{History}, Equation.{Equation}}
use Rattle.swreq_births.specs.declared.history.{OwnedRequirement.{OwnedRequirement, TheVariants.{Conf, Layout, Same}}, Reason.{Reason}}
use Rattle.swreq_births.specs.declared.history.{Reason.TheVariants.{Doubled, Named as NamedBy, Required}, System.{System}}

-- the requirement, as the rules of derivation have it
abbrev pub requirement_by : OwnedRequirement → TermRequirement
requirement_by (Conf t p) = Conforms (as_term t) p
requirement_by (Layout t) = IsAnyObject (as_term t)
requirement_by (Same t u) = Equals (as_term t) (as_term u)

-- ---- type parameters that rules show

-- what a requirement is read over: `[Self : P]` if P is its owner, and the requirements of the list if it has no owner
abbrev pub source_of : Alphabet → List TermRequirement → Option ProtoId → Source
source_of g list (Some p) = SelfOf p
source_of g list None = Written (generic_params g.params) list

-- Each associated type of the facts is one of the text, with its protocol and its name, and so is its member symbol.
pub record AreSymbols (g : Alphabet) (m : Symbols) (f : TermFacts) : Type 0 where
  pub associated : (p : ProtoId) (a : NameId) (d : AssocId) → Declares f p a d
      → slice_get (lexicon g).associated d.rank ≡ Some (pair p a)
  pub members : (p : ProtoId) (a : NameId) (d : AssocId) → Declares f p a d
      → slice_get (lexicon g).symbols (m.rank_of d) ≡ Some (pair p a)

-- Reduction by the rules shows that T is valid, and this is the word of T.
pub record IsShown (g : Alphabet) (owner : Option ProtoId) (rules : List Rule) (t : Term) (w : List Symbol) : Type 0 where
  pub symbols : Symbols
  pub facts : TermFacts
  pub list : List TermRequirement
  pub are : AreSymbols g symbols facts
  pub shown : ShowsValid symbols facts (source_of g list owner) (ReduceAlike rules) t
  pub word : w ≡ word_of symbols (source_of g list owner) t

-- ---- equations

-- The two sides of the equation of a requirement. Reduction by the rules shows that its type parameters are valid.
abbrev pub HasShownSides : Alphabet → Option ProtoId → List Rule → OwnedRequirement → List Symbol → List Symbol → Type 0
HasShownSides g owner rules (Conf t p) left right = IsShown g owner rules (as_term t) right × (left ≡ right ++ Proto p.rank ∷ [])
HasShownSides g owner rules (Layout t) left right = IsShown g owner rules (as_term t) right × (left ≡ right ++ LayoutSymbol ∷ [])
HasShownSides g owner rules (Same t u) left right = IsShown g owner rules (as_term t) left × IsShown g owner rules (as_term u) right

-- the equations of a system
abbrev pub given_of : System → List (List Symbol × List Symbol)
given_of v = map (λ (e : Equation). (e.left, e.right)) v.given

-- the systems in order: those of the protocols, and then those of the list
abbrev pub systems_of : History → List System
systems_of b = b.below.now ++ b.own

abbrev pub system_at : History → ℕ → System
system_at b r = get_or (systems_of b) r (record { base = 0; below = 0; rules = []; given = [] })

abbrev pub rules_at : History → ℕ → List Rule
rules_at b r = (system_at b r).rules

-- The two sides are the equation of this reason in the round r. A requirement has its equation since the rules of an earlier round show its
-- type parameters valid.
abbrev pub IsGivenBy : History → ℕ → Reason → List Symbol → List Symbol → Type 0
IsGivenBy b r (Doubled p) left right = (left ≡ Proto p.rank ∷ Proto p.rank ∷ []) × (right ≡ Proto p.rank ∷ [])
IsGivenBy b r (NamedBy k) left right =
    (n : ProtocolName) × (slice_get (lexicon b.alphabet).symbols k ≡ Some n)
    × (left ≡ Proto n.proto.rank ∷ Name n.name.rank ∷ []) × (right ≡ Member k ∷ [])
IsGivenBy b r (Required owner n q shown) left right = (shown < r) × HasShownSides b.alphabet owner (rules_at b shown) q left right

-- ---- systems

-- There are so few rules that each has a number of 32 bits, whether they are complete or not. Each rule past the base is born of an
-- equation or of a pair that is settled. Each rule of the base is the rule with the same number of an earlier system. Each equation has its
-- reason.
pub record IsSystem (b : History) (r : ℕ) (v : System) : Type 0 where
  pub few : length v.rules < 2 ^ 32 - 1
  pub born : (k : ℕ) (rule : Rule) → v.base ≤ k → slice_get v.rules k ≡ Some rule → IsBorn v.base (given_of v) v.rules k rule.birth
  pub lower : (k : ℕ) (rule : Rule) → k < v.base → slice_get v.rules k ≡ Some rule
      → (v.below < r) × (slice_get (rules_at b v.below) k ≡ Some rule)
  pub given : (k : ℕ) (e : Equation) → slice_get v.given k ≡ Some e → IsGivenBy b r e.reason e.left e.right

-- Each system has a place of 64 bits, and is the system of a round.
pub record IsHistory (b : History) : Type 0 where
  pub few : length (systems_of b) < 2 ^ 64
  pub systems : (r : ℕ) → r < length (systems_of b) → IsSystem b r (system_at b r)

-- It is a history that has the system.
pub record HasSystem (b : History) (r : ℕ) : Type 0 where
  pub history : IsHistory b
  pub within : r < length (systems_of b)

-- It is a history, and its system has at least this many rules.
pub record HasRules (b : History) (at : RulePlace) : Type 0 where
  pub system : HasSystem b at.system
  pub within : at.rule ≤ length (rules_at b at.system)

-- It is a history, and the rule stands at this place of its system.
pub record HasRule (b : History) (at : RulePlace) (rule : Rule) : Type 0 where
  pub system : HasSystem b at.system
  pub is : slice_get (rules_at b at.system) at.rule ≡ Some rule

-- The rule at this place is past the base, and this is its birth.
pub record IsBornAt (b : History) (at : RulePlace) (rule : Rule) (moment : Birth) : Type 0 where
  pub past : (system_at b at.system).base ≤ at.rule
  pub birth : rule.birth ≡ moment

-- It is a history, and the equation is one of this system.
pub record HasEquation (b : History) (r : ℕ) (e : Equation) : Type 0 where
  pub system : HasSystem b r
  pub there : (k : ℕ) × (slice_get (system_at b r).given k ≡ Some e)

-- The requirement of the reason is written, with its number, by its protocol or in the list.
abbrev pub IsWritten : Assumptions → Reason → Type 0
IsWritten b (Required owner n q shown) = HasNumber n (written_by b owner) (requirement_by q)
IsWritten b _ = Unit {0}

-- The names of the history are those of the facts, and the requirement of each reason is written.
pub record FitsHistory (history : History) (b : Assumptions) : Type 0 where
  pub alphabet : Fits history.alphabet b
  pub written : (r k : ℕ) (e : Equation) → r < length (systems_of history) → slice_get (system_at history r).given k ≡ Some e → IsWritten b
      e.reason

-- The first k rules reduce the two words to the sides of the rule, in one order or the other.
pub record ReducesTo (rules : List Rule) (k : ℕ) (left right : List Symbol) (rule : Rule) : Type 0 where
  pub first : List Symbol
  pub last : List Symbol
  pub first_reduces : Reduces (take k rules) left first
  pub last_reduces : Reduces (take k rules) right last
  pub oriented : IsOriented rule first last

-- It is a history, and the rule stands at this place of its system. The rules before it reduce the two words to its sides.
pub record IsReducedAt (b : History) (at : RulePlace) (rule : Rule) (left right : List Symbol) : Type 0 where
  pub stands : HasRule b at rule
  pub reduces : ReducesTo (rules_at b at.system) at.rule left right rule

-- The system has an equation with this number, counted from 1.
abbrev pub HasNumbered : History → ℕ → ℕ → Type 0
HasNumbered b r n = (r < length (systems_of b)) × (0 < n) × (n ≤ length (system_at b r).given)
