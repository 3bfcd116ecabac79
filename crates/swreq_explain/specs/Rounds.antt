-- The systems of rounds.
use Rattle.std.specs.{Prelude.{◌≡◌, ℕ, ◌<◌, ◌-◌, ◌^◌, List, [], ◌++◌, Some, length, map, slice_get}, Bool.{if◌then◌else◌}}
use Rattle.swreq_machine.specs.{swreq_param.Terms.{Term}, swreq_correspondence.Symbols.{Symbols}, swreq_valid.Flags.{chosen}}
use Rattle.swreq_machine.specs.{swreq_valid.Rounds.{RoundView}, swreq_symbols.{declared.text.Text.{Text}, Meaning.{symbols_of}}}
use Rattle.swreq_births.specs.declared.history.{Equation.{Equation}, System.{System}}
use Rattle.swreq_explain.specs.{declared.numbered.{Numbered.{Numbered}, Makings.{Makings}}, Numbering.{AreBasic, AreEquationsOf, sides_of}}
use Rattle.swreq_explain.specs.Uses.{Origin}
use Rattle.swreq_machine.specs.swreq_rounds.Given.{basic_equations}

-- what the systems of a text's rounds, or of a list's, are made from
abbrev pub origin_of : Makings → Origin
origin_of m = record {
  base = m.base;
  members = m.text.world.now.lexicon.symbols;
  basic = if m.basic then basic_equations (symbols_of m.text.world.now.lexicon) else [];
  all = m.all.now;
  rounds = m.rounds.now;
  first = m.first;
}

-- The equations are the basic ones, and then those of the requirements that the round k uses.
pub record AreGiven (m : Symbols) (terms : List Term) (o : Origin) (k : ℕ) (used : List Numbered) (given : List Equation) : Type 0 where
  pub basic : List Equation
  pub more : List Equation
  pub given_are : given ≡ basic ++ more
  pub sides : map sides_of basic ≡ o.basic
  pub are_basic : AreBasic o.members basic
  pub are_of : AreEquationsOf m terms o k used more

-- It is the system of the round k.
pub record IsSystemOf (m : Symbols) (terms : List Term) (o : Origin) (k : ℕ) (v : System) : Type 0 where
  pub round : RoundView
  pub there : slice_get o.rounds k ≡ Some round
  pub base : v.base ≡ o.base
  pub below : v.below ≡ o.first - 1
  pub rules : v.rules ≡ round.rules
  pub few : length v.rules < 2 ^ 32 - 1
  pub given : AreGiven m terms o k (chosen o.all round.used) v.given

-- They are the systems of the first `count` rounds, in order.
pub record AreFirstSystems (m : Symbols) (terms : List Term) (o : Origin) (count : ℕ) (vs : List System) : Type 0 where
  pub count_is : length vs ≡ count
  pub each : (k : ℕ) (v : System) → slice_get vs k ≡ Some v → IsSystemOf m terms o k v

-- They are the systems of all rounds.
abbrev pub AreSystemsOf : Symbols → List Term → Origin → List System → Type 0
AreSystemsOf m terms o vs = AreFirstSystems m terms o (length o.rounds) vs

-- It is the system of the round k over a text.
abbrev pub IsSystemIn : Text → Origin → ℕ → System → Type 0
IsSystemIn t o k v = IsSystemOf (symbols_of t.world.now.lexicon) t.table.now o k v

-- They are the systems of all rounds over a text.
abbrev pub AreSystemsIn : Text → Origin → List System → Type 0
AreSystemsIn t o vs = AreSystemsOf (symbols_of t.world.now.lexicon) t.table.now o vs
