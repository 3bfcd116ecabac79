use Rattle.std.proofs.Common.{◌≡◌, ◌∙◌, ℕ, List, Result, Ok, Err, IfOk, ap, length, subst, subst₂, sym, take}
use Rattle.std.specs.declared.alloc.AllocError.{AllocError}
use Rattle.swreq_machine.specs.swreq_rule.declared.rules.Rule.{Rule}
use Rattle.swreq_machine.specs.swreq_map.Follows.{AreEndingsOf, IsMapOf, MapView}
use Rattle.swreq_machine.specs.swreq_valid.Rounds.{last_rules}
use Rattle.swreq_machine.proofs.swreq_valid.FromBase.{last_begins}
use Rattle.swreq_machine.specs.Machines.{MachineView}
use Rattle.swreq_check.specs.declared.setting.Setting.{Setting}
use Rattle.swreq_check.specs.Settings.{HaveEndings, IsMapFor}
use Rattle.swreq_check.proofs.answering.map_for.Goals as goal

-- a map of the rules of the machine, for the protocols of the text
map_is : (s : Setting) (m : MachineView) (rules : List Rule) (protocols : ℕ) → rules ≡ last_rules m.rounds
    → protocols ≡ length s.world.now.lexicon.protocols → (made : Result MapView AllocError) → IfOk made (λ map. map.protocols ≡ protocols)
    → IfOk made (IsMapOf rules) → IfOk made (IsMapFor s m)
map_is s m rules protocols e n (Ok map) p r = record { rules = subst (λ rs. IsMapOf rs map) e r; protocols = p ∙ n }
map_is s m rules protocols e n (Err x) p r = tt

pub over-requires : goal.over-requires
over-requires c =
    let s = c.args.own.now.s.now in
    let base = last_rules s.protocols.now.rounds in
    let rules = c.rules-rules.result.now in
    let count : c.count-count.result ≡ length base = c.count-count.ensures.count ∙ ap length c.rules.ensures in
    let front : take c.count-count.result rules ≡ base =
    ap (λ n. take n rules) count ∙ ap (take (length base)) c.rules-rules.ensures ∙ last_begins c.requires.1.machine.rounds in
    record {
      below = subst₂ (λ n rs. AreEndingsOf n rs c.in-Some.endings) (sym c.protocols-protocols.ensures) (sym front)
          (subst (HaveEndings s.world.now s.protocols.now) c.in-Some.is c.requires.1.ready.endings);
    }

pub returns-in-None : goal.returns-in-None
returns-in-None c =
    map_is c.args.own.now.s.now c.args.own.now.machine.now c.rules-rules.result.now c.protocols-protocols.result c.rules-rules.ensures
    c.protocols-protocols.ensures c.build.result c.build.ensures.protocols c.build.ensures.map

pub returns-in-Some : goal.returns-in-Some
returns-in-Some c =
    map_is c.args.own.now.s.now c.args.own.now.machine.now c.rules-rules.result.now c.protocols-protocols.result c.rules-rules.ensures
    c.protocols-protocols.ensures c.over.result c.over.ensures.protocols c.over.ensures.map
