-- What is asked of a requirement: whether it is seen without rounds that it does not follow, and of which others it is asked.
use Rattle.std.specs.Prelude.{◌≡◌, ◌⊎◌, ℕ, Bool, List, Some, slice_get}
use Rattle.swreq_valid.specs.swreq_param.declared.ids.ProtoId.{ProtoId}
use Rattle.swreq_valid.specs.swreq_param.Terms.{Term}
use Rattle.swreq_valid.specs.swreq_derive.Derivation.TermRequirement.{Conforms}
use Rattle.swreq_valid.specs.swreq_derive.Kept.{Owned}
use Rattle.swreq_valid.specs.swreq_world.Worlds.{TextWorld}
use Rattle.swreq_reqsig.specs.Families.{family_of, owned}
use Rattle.swreq_reqsig.specs.Reaching.{AreReachedFlags, Reaches}
use Rattle.swreq_reqsig.specs.Saying.{IsUnsaid}

-- It says that something conforms to a protocol that its own does not reach by the family.
pub record IsOutOfReach (family : List Owned) (o : Owned) : Type 0 where
  pub subject : Term
  pub proto : ProtoId
  pub says : o.requirement ≡ Conforms subject proto
  pub unreached : Reaches family o.proto proto → ⊥

-- If it says that something conforms to a protocol, its own reaches that by the family.
abbrev pub IsWithinReach : List Owned → Owned → Type 0
IsWithinReach family o = (t : Term) (q : ProtoId) → o.requirement ≡ Conforms t q → Reaches family o.proto q

module _ (w : TextWorld) where
  -- The requirement at the place is unsaid or out of reach by the others, whose flags are set: it does not follow from them.
  pub record IsBeyond (n : ℕ) (others : List Bool) : Type 0 where
    pub requirement : Owned
    pub stands : slice_get (owned w) n ≡ Some requirement
    pub follows_not : IsUnsaid w.lexicon (family_of w others) requirement.proto requirement.requirement
        ⊎ IsOutOfReach (family_of w others) requirement

  -- The requirement at the place is neither, and these flags are of those of the others that its protocol reaches: whether it follows is
  -- asked of them.
  pub record AreAsked (n : ℕ) (others asked : List Bool) : Type 0 where
    pub requirement : Owned
    pub stands : slice_get (owned w) n ≡ Some requirement
    pub said : IsUnsaid w.lexicon (family_of w others) requirement.proto requirement.requirement → ⊥
    pub within : IsWithinReach (family_of w others) requirement
    pub reached : AreReachedFlags (owned w) others requirement.proto asked
