-- Calls that are answered, while the table of their text grows.
use Rattle.std.proofs.Common.{◌≡◌, ◌<◌, ◌∙◌, inl, inr, sym, ap, subst, ℕ, List, Option, Some, length, map, slice_get}
use Rattle.std.specs.Prelude.{All}
use Rattle.std.specs.Option.{option_map}
use Rattle.std.proofs.lemmas.Bool.{cases_lt}
use Rattle.std.proofs.lemmas.Option.{get_or_from_slice_get, none-some, same_Some, slice_get_past}
use Rattle.swreq_machine.proofs.swreq_lemmas.Elements.{there_is}
use Rattle.swreq_machine.specs.swreq_lowering.declared.ids.FuncId.{FuncId}
use Rattle.swreq_machine.specs.Machines.{MachineView}
use Rattle.swreq_machine.specs.swreq_param.Tables.{Extends}
use Rattle.swreq_machine.specs.swreq_param.Terms.{Term}
use Rattle.swreq_machine.proofs.swreq_symbols.Growing.{world_stays}
use Rattle.swreq_machine.specs.swreq_world.Worlds.{IdWorld, TextWorld}
use Rattle.swreq_subst.specs.Calls.{IsCallIn, IsMachineOn, call_by}
use Rattle.swreq_subst.specs.declared.calls.Call.{Call}
use Rattle.swreq_subst.proofs.Staying.{calls_in_stay, calls_stay}
use Rattle.swreq_check.specs.declared.called.Called.{Called}
use Rattle.swreq_check.specs.declared.called.CallsOf.{CallsOf}
use Rattle.swreq_check.specs.declared.piece.Piece.{Piece}
use Rattle.swreq_check.specs.CallLines.{IsLineThere, caller_at}
use Rattle.swreq_check.specs.Called.{AreCalled, AreLinesTo, HaveMachine, IsLineFor}
use Rattle.swreq_check.specs.Made.{AreMade}
use Rattle.swreq_check.specs.Passed.{world_of}
use Rattle.swreq_check.proofs.Settled.{passed_on}

-- a call that is there is within the list
pub call_within : (calls : List Call) (place : ℕ) (f : FuncId) → caller_at calls place ≡ Some f → place < length calls
call_within calls place f is = elim (cases_lt place (length calls)) [
  | inl l ↦ l
  | inr l ↦ absurd (none-some f (sym (ap (option_map (λ (c : Call). c.f)) (slice_get_past calls place l)) ∙ is))
]

-- and so is the caller of a call of the text
pub caller_within : (terms : List Term) (w : IdWorld) (calls : List Call) (place : ℕ) (f : FuncId) → All (IsCallIn terms w) calls
    → caller_at calls place ≡ Some f → f.place < length w.signatures
caller_within terms w calls place f known is =
    let l = call_within calls place f is in
    let (call, at) = there_is calls place l in
    let same : call.f ≡ f = same_Some call.f f (sym (ap (option_map (λ (c : Call). c.f)) at) ∙ is) in
    subst (λ (g : FuncId). g.place < length w.signatures) same
    (subst (λ (c : Call). c.f.place < length w.signatures) (get_or_from_slice_get calls place call call at) (known place call l).caller)

-- and its machine is that of the signature
pub machine_for : (w : TextWorld) (f : FuncId) (m : MachineView) (calls : List Call) (place : ℕ) (call : Call) → IsMachineOn w f m
    → caller_at calls place ≡ Some f → slice_get calls place ≡ Some call → IsMachineOn w call.f m
machine_for w f m calls place call is makes at =
    subst (λ (g : FuncId). IsMachineOn w g m)
    (same_Some f call.f (sym makes ∙ ap (option_map (λ (c : Call). c.f)) at)) is

module _ (old new : List Term) (more : Extends old new) where
  pub called_on : (c : Called) → AreCalled old c → AreCalled new c
  called_on c h = record {
    passed = passed_on old new more c.passed h.passed;
    calls = calls_in_stay old new more c.passed.world.now c.calls.now h.calls;
  }

  pub machine_by : (of : CallsOf) (m : MachineView) → HaveMachine old of m → HaveMachine new of m
  machine_by of m h =
      let p = of.called.passed in record {
        called = called_on of.called h.called;
        machine = subst (λ (w : TextWorld). IsMachineOn w of.f m)
            (sym (world_stays old new more p.world.now h.called.passed.text.table)) h.machine;
      }

  module _ (c : Called) (h : AreCalled old c) where
    -- the line of a call is that over the one table as over the other
    lines_there : IsLineFor new c ≡ IsLineFor old c
    lines_there = ap (λ (w : TextWorld). IsLineThere w (map (call_by new) c.calls.now))
        (world_stays old new more c.passed.world.now h.passed.text.table)
        ∙ ap (IsLineThere (world_of old c.passed)) (calls_stay old new more c.passed.world.now c.calls.now h.calls)

    pub line_under : (place : ℕ) (line : Piece) → IsLineFor new c place line → IsLineFor old c place line
    line_under place line = subst (λ (Is : ℕ → Piece → Type 0). Is place line) lines_there

    abbrev AreThere : ℕ → List (Option Piece) → (ℕ → Piece → Type 0) → Type 0
    AreThere n lines Is = AreMade Is (caller_at c.calls.now) (length c.calls.now) n lines

    pub lines_under : (n : ℕ) (lines : List (Option Piece)) → AreLinesTo new c n lines → AreLinesTo old c n lines
    lines_under n lines = subst (AreThere n lines) lines_there

    pub lines_over : (n : ℕ) (lines : List (Option Piece)) → AreLinesTo old c n lines → AreLinesTo new c n lines
    lines_over n lines = subst (AreThere n lines) (sym lines_there)
