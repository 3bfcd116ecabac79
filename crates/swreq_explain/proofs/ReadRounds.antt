-- Rounds for a signature, over its list as it is read from a world over ids.
use Rattle.std.proofs.Common.{◌≡◌, ◌<◌, List, length, refl}
use Rattle.swreq_machine.specs.{swreq_param.Terms.{Term}, swreq_complete.declared.limit.Limits.{Limits}}
use Rattle.swreq_machine.specs.{swreq_lowering.declared.ids.FuncId.{FuncId}, swreq_world.{ByTable.{world_by}, Worlds.{IdWorld}}}
use Rattle.swreq_machine.specs.{swreq_world.Worlds.{signature_at}, Machines.{IsMachineOf, MachineView, list_of, machine_plan}}
use Rattle.swreq_machine.specs.swreq_valid.{Protocols.{ProtocolsView, protocols_of}, Plans.{bare, listed}, Rounds.{AreRounds, last_rules}}
use Rattle.swreq_machine.proofs.OfSignatures.{as_read}
use Rattle.swreq_explain.specs.Asked.{AreRoundsFor}

pub record AreRoundsRead (terms : List Term) (w : IdWorld) (f : FuncId) (p : ProtocolsView) (m : MachineView) : Type 0 where
  pub signature : f.place < length w.signatures
  pub params : m.params ≡ (signature_at w f).params
  pub protocols : (limits : Limits) × AreRounds limits (protocols_of (world_by terms w)) p.rounds
  pub list : (limits : Limits)
      × AreRounds limits (machine_plan terms w (last_rules p.rounds) m.params (bare (signature_at w f).requirements)) m.rounds
  pub machine : IsMachineOf (world_by terms w) (listed terms (bare (signature_at w f).requirements)) m

pub rounds_read : (terms : List Term) (w : IdWorld) (f : FuncId) (p : ProtocolsView) (m : MachineView) → AreRoundsFor terms w f p m
    → AreRoundsRead terms w f p m
rounds_read terms w f p m h =
    let (params, rounds, machine) = as_read terms w f _ _ refl refl
    (λ ps rs qs. (m.params ≡ ps) × AreRounds h.list.0 (list_of (world_by terms w) (last_rules p.rounds) m.params rs) m.rounds
    × IsMachineOf (world_by terms w) rs m)
    (h.params, rw h.params h.list.1, h.machine) in record {
      signature = h.signature;
      params = params;
      protocols = h.protocols;
      list = (h.list.0, rounds);
      machine = machine;
    }
