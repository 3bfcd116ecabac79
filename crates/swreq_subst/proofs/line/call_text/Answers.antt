use Rattle.std.proofs.Common.{◌≡◌, ◌<◌, ◌≤◌, ◌++◌, ◌∙◌, true, false, inl, inr, List, length, refl, sym, ap, subst}
use Rattle.std.specs.Prelude.{All, MatchBool, codes}
use Rattle.swreq_machine.specs.swreq_derive.declared.known.Params.{Params}
use Rattle.swreq_machine.specs.swreq_derive.Derivation.{Derivable, TermRequirement}
use Rattle.swreq_machine.specs.swreq_derive.Derivation.Source.{Written}
use Rattle.swreq_machine.specs.swreq_derive.Facts.{generic_params}
use Rattle.swreq_machine.specs.swreq_lexicon.Views.{LexiconView}
use Rattle.swreq_machine.specs.swreq_lowering.ByTable.{HasIdsOf}
use Rattle.swreq_machine.proofs.swreq_lowering.Growing.{on_ok}
use Rattle.swreq_machine.proofs.swreq_symbols.Growing.{text_stays, world_stays}
use Rattle.swreq_machine.specs.Asked.{IsDerivable}
use Rattle.swreq_machine.specs.swreq_valid.Plans.{listed}
use Rattle.swreq_machine.specs.swreq_world.ByTable.{world_by}
use Rattle.swreq_machine.specs.swreq_world.FactsAt.{facts_of, source_of, written_list}
use Rattle.swreq_machine.specs.swreq_world.Worlds.{TextWorld, signature_at}
use Rattle.swreq_subst.specs.Calls.{AreAllValid, IsOneInvalid, call_by}
use Rattle.swreq_subst.specs.Lines.{verdict_text}
use Rattle.swreq_subst.proofs.Calling.{list_is, list_size, of_callee}
use Rattle.swreq_subst.proofs.Lining.{all_there, numbers_within, one_invalid, valid_types}
use Rattle.swreq_subst.proofs.line.call_text.Goals as goal

pub invariant_of-text : goal.invariant_of-text
invariant_of-text c = record { belong = ∣ c.requires.text ∣₁ }

pub returns-then-not-branch-clause-line : goal.returns-then-not-branch-clause-line
returns-then-not-branch-clause-line c =
    let old = c.args.table.now in
    let v = world_by old c.args.world.now in
    let m = c.args.machine.now in
    let list = written_list (signature_at v c.args.c.now.f) in
    let answer = c.in_ok-are_valid.ensures list c.requires.machine.machine in
    let is_false : c.in_ok-are_valid.field-0 ≡ false = (let n = c.if-not-branch.true in cc) in
    let wrong = subst (λ b. MatchBool b (AreAllValid (IsDerivable v m list) old c.items.result.now)
    (IsOneInvalid (IsDerivable v m list) old c.items.result.now)) is_false answer in
    let here = subst (IsOneInvalid (IsDerivable v m list) old) c.items.ensures wrong in
    let of_source = subst (λ (ps : Params). IsOneInvalid (Derivable (facts_of v) (Written (generic_params ps) list)) old c.args.c.now.args)
    c.requires.machine.params here in
    on_ok c.append_bytes.result
    (λ e. (codes "invalid\n", inl (one_invalid v (call_by old c.args.c.now) old c.args.c.now.args refl of_source, refl), e))
    c.append_bytes.ensures.ok

pub failing-requires-clause-there : goal.failing-requires-clause-there
failing-requires-clause-there c =
    let old = c.args.table.now in
    let v = world_by old c.args.world.now in
    let m = c.args.machine.now in
    let list = written_list (signature_at v c.args.c.now.f) in
    let answer = c.in_ok-are_valid.ensures list c.requires.machine.machine in
    let is_true : c.in_ok-are_valid.field-0 ≡ true = (let n = c.if-not-branch.false in cc) in
    let right = subst (λ b. MatchBool b (AreAllValid (IsDerivable v m list) old c.items.result.now)
    (IsOneInvalid (IsDerivable v m list) old c.items.result.now)) is_true answer in
    all_there (IsDerivable v m list) old c.args.c.now.args (subst (AreAllValid (IsDerivable v m list) old) c.items.ensures right)

pub put_verdict-requires-clause-ids : goal.put_verdict-requires-clause-ids
put_verdict-requires-clause-ids c =
    let new = c.failing.new.table in
    let w = c.args.world.now in
    let text = text_stays c.args.table.now new c.failing.ensures.extends w c.requires.text in
    subst (All (HasIdsOf new)) (sym c.deref.ensures.value)
    (λ k d l. (of_callee new w c.args.c.now.g c.in_ok-list.list.items c.in_ok-list.ensures text c.requires.call.callee k d l).0.0)

pub put_verdict-requires-clause-numbers : goal.put_verdict-requires-clause-numbers
put_verdict-requires-clause-numbers c =
    let old = c.args.table.now in
    let w = c.args.world.now in
    let v = world_by old w in
    let g = c.args.c.now.g in
    let (ts, (are, failing)) = c.in_ok-numbers.ensures.failing in
    let size = list_size old w g c.in_ok-list.list.items c.in_ok-list.ensures ∙ sym (ap length c.deref.ensures.value) in
    subst (All (λ n. (0 < n) × (n ≤ length c.deref.result.now))) (sym c.deref-2.ensures.value)
    (numbers_within (facts_of v) (source_of (signature_at v c.args.c.now.f)) (signature_at v g).params ts (written_list (signature_at v g))
    (length c.deref.result.now)
    c.in_ok-numbers.numbers.items size failing)

pub returns-clause-line : goal.returns-clause-line
returns-clause-line c =
    let old = c.args.table.now in
    let new = c.failing.new.table in
    let w = c.args.world.now in
    let m = c.args.machine.now in
    let v = world_by old w in
    let f = signature_at v c.args.c.now.f in
    let g = c.args.c.now.g in
    let rs = written_list (signature_at v g) in
    let list = c.in_ok-list.list.items in
    let args = c.args.c.now.args in
    let ns = c.in_ok-numbers.numbers.items in
    let answer = c.in_ok-are_valid.ensures (written_list f) c.requires.machine.machine in
    let is_true : c.in_ok-are_valid.field-0 ≡ true = (let n = c.if-not-branch.false in cc) in
    let right = subst (λ b. MatchBool b (AreAllValid (IsDerivable v m (written_list f)) old c.items.result.now)
    (IsOneInvalid (IsDerivable v m (written_list f)) old c.items.result.now)) is_true answer in
    let here = subst (AreAllValid (IsDerivable v m (written_list f)) old) c.items.ensures right in
    let valid = subst (λ (ps : Params). AreAllValid (Derivable (facts_of v) (Written (generic_params ps) (written_list f))) old args)
    c.requires.machine.params here in
    let (ts, (are, failing)) = c.in_ok-numbers.ensures.failing in
    let world = world_stays old new c.failing.ensures.extends w c.requires.text.table in
    let same : listed new c.deref.result.now ≡ rs
    = ap (listed new) c.deref.ensures.value ∙ sym (list_is new w g list c.in_ok-list.ensures)
    ∙ ap (λ (u : TextWorld). written_list (signature_at u g)) world in
    let names = ap (λ (x : LexiconView). c.new-line.result.items ++ verdict_text x (listed new c.deref.result.now) c.deref-2.result.now)
    c.lexicon.ensures in
    let begun = ap (λ z. z ++ verdict_text w.lexicon (listed new c.deref.result.now) c.deref-2.result.now) c.new-line.ensures.items in
    let text =
    c.in_ok-put_verdict.ensures ∙ names ∙ begun ∙ ap (λ (z : List TermRequirement). verdict_text w.lexicon z c.deref-2.result.now) same
    ∙ ap (verdict_text w.lexicon rs) c.deref-2.ensures.value in
    on_ok c.append_bytes-2.result
    (λ e. (
      verdict_text w.lexicon rs ns,
      inr (ts, ns, (are, failing), valid_types v (call_by old c.args.c.now) old args refl valid ts are, refl),
      e ∙ ap (λ z. c.args.out.now.items ++ z) (c.deref-3.ensures.value ∙ text),
    )) c.append_bytes-2.ensures.ok
