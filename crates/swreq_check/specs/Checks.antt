-- How the check of a text comes out.
use Rattle.std.specs.Prelude.{◌⊎◌, List, Option, Some, None, Result, Ok, Err, length}
use Rattle.swreq_machine.specs.swreq_param.Terms.{Term}
use Rattle.swreq_machine.specs.swreq_rule.declared.rules.Rule.{Rule}
use Rattle.swreq_machine.specs.swreq_rounds.Rounds.{ComesTo}
use Rattle.swreq_machine.specs.swreq_complete.declared.limit.Limits.{Limits}
use Rattle.swreq_machine.specs.swreq_watch.declared.events.Event.{Event}
use Rattle.swreq_machine.specs.swreq_lowering.declared.ids.FuncId.{FuncId}
use Rattle.swreq_machine.specs.swreq_lowering.Requirements.{PlacedRequirement}
use Rattle.swreq_machine.specs.swreq_world.ByTable.{world_by}
use Rattle.swreq_machine.specs.swreq_world.Worlds.{IdWorld, SignatureOver, TextWorld, signature_at}
use Rattle.swreq_machine.specs.swreq_valid.Protocols.{AreRulesOf}
use Rattle.swreq_machine.specs.OfSignatures.{signature_plan}
use Rattle.swreq_machine.specs.swreq_valid.Rounds.{last_rules}
use Rattle.swreq_machine.specs.swreq_valid.declared.refused.Refused.{Refused}
use Rattle.swreq_machine.specs.swreq_valid.declared.refused.Refused.TheVariants.{Memory}
use Rattle.swreq_check.specs.declared.asked.Asked.{Asked}
use Rattle.swreq_check.specs.declared.checking.Checked.{Checked}
use Rattle.swreq_check.specs.Machines.{IsBuiltOver, IsChecked, SignatureComes, SignaturesCome}
use Rattle.swreq_check.specs.declared.content.Content.{Content}
use Rattle.swreq_check.specs.Settings.{world_in}
use Rattle.swreq_check.specs.declared.setting.Setting.{Setting}
use Rattle.swreq_check.specs.Made.{AreMade, IsPiece}
use Rattle.swreq_check.specs.Wanted.{count_of, maker}
use Rattle.swreq_check.specs.Told.{CheckTells, SignaturesTell, Tells}

-- how a check comes out, without what it gives
abbrev pub ending : {A : Type 0} → Result A Refused → Result (Unit {0}) Refused
ending (Ok x) = Ok tt
ending (Err refused) = Err refused

module _ (limits : Limits) (w : TextWorld) where
  -- The rules are those of the protocols, and each signature comes to rules over them.
  pub record HavePassed (rules : List Rule) : Type 0 where
    pub rules_are : AreRulesOf w rules
    pub told : List Event
    pub built : IsBuiltOver limits w rules told

  -- What a check without a refusal gives: such rules, and the pieces that the machines of all signatures make.
  pub record IsCheckedFor (ids : IdWorld) (c : Content) (checked : Checked) : Type 0 where
    pub passed : HavePassed (last_rules checked.protocols.rounds)
    pub pieces : AreMade (IsPiece w c) (maker ids c) (count_of ids c) (length ids.signatures) checked.pieces.items

  -- The check of one signature comes to this, and the watcher was told what it tells, or a part of that if memory runs out.
  abbrev pub ChecksOne : List Rule → SignatureOver PlacedRequirement → Option (List Event) → Option (List Event)
      → Result (Unit {0}) Refused → Type 0
  ChecksOne rules g old new (Ok done) = Tells (λ told. (own : List Rule) × SignatureComes limits w rules g (Ok own) told) old new
  ChecksOne rules g old new (Err Memory) =
      Tells (λ told. ComesTo limits (signature_plan w rules g) told ⊎ ((own : List Rule) × SignatureComes limits w rules g (Ok own) told))
      old new
  ChecksOne rules g old new (Err e) = Tells (SignatureComes limits w rules g (Err e)) old new

  -- The checks of all signatures come to this, and the watcher was told what they tell, or a part of that if memory runs out.
  abbrev pub ChecksAll : List Rule → Option (List Event) → Option (List Event) → Result (Unit {0}) Refused → Type 0
  ChecksAll rules old new (Ok done) = Tells (SignaturesCome limits w rules w.signatures None) old new
  ChecksAll rules old new (Err Memory) = Tells (SignaturesTell limits w rules w.signatures) old new
  ChecksAll rules old new (Err e) = Tells (SignaturesCome limits w rules w.signatures (Some e)) old new

  -- The check of the text comes to this, and the watcher was told what it tells, or a part of that if memory runs out.
  abbrev pub Checks : Option (List Event) → Option (List Event) → Result Checked Refused → Type 0
  Checks old new (Ok checked) = Tells (IsBuiltOver limits w (last_rules checked.protocols.rounds)) old new
  Checks old new (Err Memory) = Tells (CheckTells limits w) old new
  Checks old new (Err e) = Tells (IsChecked limits w (Some e)) old new

-- The check of the signature at f comes to this, over the rules of the protocols that were checked.
abbrev pub ChecksAt : List Term → Setting → FuncId → Option (List Event) → Option (List Event) → Result (Unit {0}) Refused → Type 0
ChecksAt terms s f = ChecksOne s.limits (world_in terms s) (last_rules s.protocols.now.rounds) (signature_at (world_in terms s) f)

-- the world that is asked, over a table
abbrev pub world_asked : List Term → Asked → TextWorld
world_asked terms a = world_by terms a.world.now
