use Rattle.std.proofs.Common.{◌≡◌, ◌↔◌, ◌∙◌, ◌≤◌, ◌+◌, ◌-◌, ◌/◌, ◌++◌, arith, ap, sym, subst, suc, List, take, drop, length, Contains, IfSome, OnOk, []}
use Rattle.std.specs.Prelude.{remove}
use Rattle.std.proofs.lemmas.Result.{on_ok_weaker}
use Rattle.swreq_machine.specs.swreq_derive.declared.requirements.Requirement.{Requirement}
use Rattle.swreq_machine.specs.swreq_derive.Derivation.{TermRequirement}
use Rattle.swreq_list_rules.specs.ListRules.{AreOfList}
use Rattle.swreq_list_rules.specs.Settings.{facts_in, params_in, said_in}
use Rattle.swreq_minimal.specs.declared.dropping.Half.{Half}
use Rattle.swreq_minimal.specs.Halves.{AreOutsideBoth, outside_span, part_of}
use Rattle.swreq_minimal.specs.Passed.{IsLeftFrom, IsLeftWithout}
use Rattle.swreq_minimal.proofs.Halving.{both_stay, for_first, for_second, grown_to, halves, if_some_weaker, new_length, one_place, where_borrowed}
use Rattle.swreq_minimal.proofs.Ending.{outside_stays, shorter}
use Rattle.swreq_minimal.proofs.Inserting.{any}
use Rattle.swreq_minimal.proofs.Passing.{passed_on, is_without, without}
use Rattle.swreq_minimal.proofs.Telling.{out_of_memory_at_once, stopped, tells_after, tells_those}
use Rattle.swreq_minimal.proofs.dropping.+halves.Goals as goal

-- ---- a span of one place

pub drop_halves-drop_at-requires-clause-rules : goal.drop_halves-drop_at-requires-clause-rules
drop_halves-drop_at-requires-clause-rules g t c =
    let s = c.args.setting.now in
    let now = c.args.left.now.items in
    let from = c.args.span.from in
    let one : c.args.span.to ≡ suc from = one_place from c.args.span.to c.requires.left.within.0 c.if-middle-span.true in
    let w = c.requires.left.within.1 in
    where_borrowed (AreOfList s (said_in s (remove now from))) c.as_ref.result c.args.rules c.as_ref.ensures.value
    (subst (λ (z : List Requirement). IfSome c.args.rules (AreOfList s (said_in s z)))
    (ap (λ n. take from now ++ drop n now) one ∙ sym (without s.checked.text.table.now now from any (omega (arith, w, one))))
    c.requires.rules)

pub drop_halves-returns-then-middle-span-clause-leaves : goal.drop_halves-returns-then-middle-span-clause-leaves
drop_halves-returns-then-middle-span-clause-leaves g t c =
    let s = c.args.setting.now in
    let now = c.args.left.now.items in
    let from = c.args.span.from in
    let one : c.args.span.to ≡ suc from = one_place from c.args.span.to c.requires.left.within.0 c.if-middle-span.true in
    on_ok_weaker c.drop_at.result (λ leaves all within left.
    passed_on (facts_in s) (params_in s) s.checked.text.table.now all now from any (subst (λ n. n ≤ length all) one within)
    (subst (λ n. IsLeftFrom (facts_in s) (params_in s) n all (said_in s now)) one left) c.drop_at.new.left.items leaves)
    c.drop_at.ensures.leaves

pub drop_halves-returns-then-middle-span-clause-stays : goal.drop_halves-returns-then-middle-span-clause-stays
drop_halves-returns-then-middle-span-clause-stays g t c =
    let from = c.args.span.from in
    let now = c.args.left.now.items in
    let one : c.args.span.to ≡ suc from = one_place from c.args.span.to c.requires.left.within.0 c.if-middle-span.true in
    subst (λ n. OnOk c.drop_at.result ((kept : List Requirement) × (c.drop_at.new.left.items ≡ take from now ++ (kept ++ drop n now))))
    (sym one) c.drop_at.ensures.stays

pub drop_halves-returns-then-middle-span-clause-tells : goal.drop_halves-returns-then-middle-span-clause-tells
drop_halves-returns-then-middle-span-clause-tells g t c all within left =
    let s = c.args.setting.now in
    let now = c.args.left.now.items in
    let from = c.args.span.from in
    let one : c.args.span.to ≡ suc from = one_place from c.args.span.to c.requires.left.within.0 c.if-middle-span.true in
    let P = IsLeftWithout (facts_in s) (params_in s) all in
    tells_those s (λ l. l ≡ said_in s (remove now from)) P
    (λ l e. subst P (sym e)
    (is_without (facts_in s) (params_in s) s.checked.text.table.now all now from any (subst (λ n. n ≤ length all) one within)
    (subst (λ n. IsLeftFrom (facts_in s) (params_in s) n all (said_in s now)) one left)))
    c.drop_at.result (g.W.Watch.told c.args.watch.now) (g.W.Watch.told c.drop_at.new.watch) c.drop_at.ensures.tells

-- ---- a span that ends earlier

pub drop_in-drop_end_by-requires-clause-rules : goal.drop_in-drop_end_by-requires-clause-rules
drop_in-drop_end_by-requires-clause-rules g t c =
    let s = c.args.setting.now in
    where_borrowed (AreOfList s (said_in s (outside_span c.args.left.now.items c.args.span)))
    c.as_ref.result c.args.rules c.as_ref.ensures.value c.requires.rules

pub drop_in-drop_halves-requires : goal.drop_in-drop_halves-requires
drop_in-drop_halves-requires g t c κs sub =
    let s = c.args.setting.now in
    let old = c.args.left.now.items in
    let now = c.drop_end_by.new.left.items in
    let from = c.args.span.from in
    let to = c.in_ok-to.to in
    let (after, within) = c.in_ok-to.ensures.within in
    let is = c.in_ok-to.ensures.stays in
    let all = c.requires.left.within.1 in
    let same = outside_stays old now from to c.args.span.to (omega (arith, after)) within all is in
    let long = shorter old now from to c.args.span.to (omega (arith, after)) within all is in (
      omega (arith, c.decreases, within),
      (
        sub,
        (
          subst (λ (z : List Requirement). IfSome c.args.rules (AreOfList s (said_in s z))) (sym same) c.requires.rules,
          record { known = c.in_ok-to.ensures.known; within = (after, omega (arith, long)) },
        ),
      ),
    )

pub drop_in-returns-clause-stays : goal.drop_in-returns-clause-stays
drop_in-returns-clause-stays g t c =
    let (after, within) = c.in_ok-to.ensures.within in
    on_ok_weaker c.drop_halves.result (λ h. (
      h.0 ++ [],
      both_stay c.args.left.now.items c.args.span.from c.in_ok-to.to c.args.span.to (omega (arith, after)) within c.requires.left.within.1
          c.drop_end_by.new.left.items [] c.in_ok-to.ensures.stays c.drop_halves.new.left.items h.0 h.1,
    )) c.drop_halves.ensures.stays

pub drop_in-returns-clause-leaves : goal.drop_in-returns-clause-leaves
drop_in-returns-clause-leaves g t c =
    let (after, within) = c.in_ok-to.ensures.within in
    on_ok_weaker c.drop_halves.result (λ h all all_within left.
    h all (omega (arith, within, all_within)) (c.in_ok-to.ensures.leaves all all_within left))
    c.drop_halves.ensures.leaves

pub drop_in-returns-clause-tells : goal.drop_in-returns-clause-tells
drop_in-returns-clause-tells g t c all all_within left =
    let (after, within) = c.in_ok-to.ensures.within in
    c.drop_halves.ensures.tells all (omega (arith, within, all_within)) (c.in_ok-to.ensures.leaves all all_within left)

pub drop_in-returns-in_err-to-clause-tells : goal.drop_in-returns-in_err-to-clause-tells
drop_in-returns-in_err-to-clause-tells g t c all within left =
    let s = c.args.setting.now in
    out_of_memory_at_once s (IsLeftWithout (facts_in s) (params_in s) all) c.from_residual.result
    (g.W.Watch.told c.args.watch.now) c.from_residual.ensures.1

-- ---- a half of a span

pub drop_half-drop_in-requires : goal.drop_half-drop_in-requires
drop_half-drop_in-requires g t c κs sub =
    let s = c.args.setting.now in
    let now = c.args.left.now.items in
    let other = c.args.half.other in
    let span = c.args.half.span in
    let grown = rw c.deref.ensures.value at c.in_ok-extended.ensures in
    let rules = if_some_weaker _ (AreOfList s (said_in s (outside_span now span))) c.in_ok-extended.extended
    (λ new h. let (old, e, grew) = h in
    let (list, are, same) = rw e at c.requires.rules in
    grown_to s list (part_of now other) (outside_span now span) old new same are grew) grown in (
      omega (arith, c.decreases),
      (sub, (rules, c.requires.half.over)),
    )

pub drop_half-returns-in_err-extended-clause-tells : goal.drop_half-returns-in_err-extended-clause-tells
drop_half-returns-in_err-extended-clause-tells g t c all within left =
    let s = c.args.setting.now in
    out_of_memory_at_once s (IsLeftWithout (facts_in s) (params_in s) all) c.from_residual.result
    (g.W.Watch.told c.args.watch.now) c.from_residual.ensures.1

-- ---- both halves

pub drop_halves-returns-in_err-same-clause-tells : goal.drop_halves-returns-in_err-same-clause-tells
drop_halves-returns-in_err-same-clause-tells g t c all within left =
    let s = c.args.setting.now in
    out_of_memory_at_once s (IsLeftWithout (facts_in s) (params_in s) all) c.from_residual.result
    (g.W.Watch.told c.args.watch.now) c.from_residual.ensures.1

pub drop_halves-drop_half-requires : goal.drop_halves-drop_half-requires
drop_halves-drop_half-requires g t c κs sub =
    let s = c.args.setting.now in
    let now = c.args.left.now.items in
    let span = c.args.span in
    let half = halves span.from span.to c.requires.left.within.0 c.if-middle-span.false in
    let middle = span.from + (span.to - span.from) / 2 in
    let last_half : Half = record { span = record { from = middle; to = span.to }; other = record { from = span.from; to = middle } } in
    let borrowed = where_borrowed (AreOfList s (said_in s (take span.from now ++ drop span.to now)))
    c.as_ref-2.result c.args.rules c.as_ref-2.ensures.value c.requires.rules in
    let rules = if_some_weaker _ (AreOutsideBoth s now last_half) c.in_ok-same.same (λ new h. let (old, e, is) = h in (
      said_in s (take span.from now ++ drop span.to now),
      subst (AreOfList s (said_in s (take span.from now ++ drop span.to now))) (sym is) (rw e at borrowed),
      for_second s now span.from middle span.to (omega (arith, half.0)) (omega (arith, half.1)) c.requires.left.within.1,
    )) c.in_ok-same.ensures in (
      omega (arith, c.decreases, half.0, half.1),
      (
        sub,
        (
          rules,
          record {
            over = record { known = c.requires.left.known; within = (half.1, c.requires.left.within.1) };
            other = (omega (arith, half.0), omega (arith, half.1, c.requires.left.within.1));
          },
        ),
      ),
    )

pub drop_halves-returns-in_err-drop_half-clause-tells : goal.drop_halves-returns-in_err-drop_half-clause-tells
drop_halves-returns-in_err-drop_half-clause-tells g t c all within left =
    let s = c.args.setting.now in
    let result = c.from_residual-in_err-drop_half.result in
    stopped s (IsLeftWithout (facts_in s) (params_in s) all) result c.in_err-drop_half.field-0.0
    (g.W.Watch.told c.args.watch.now) (g.W.Watch.told c.drop_half.new.watch) c.from_residual-in_err-drop_half.ensures.1
    (c.in_err-drop_half.ensures.tells all within left)

pub drop_halves-drop_half-requires-2 : goal.drop_halves-drop_half-requires-2
drop_halves-drop_half-requires-2 g t c κs sub =
    let s = c.args.setting.now in
    let now = c.args.left.now.items in
    let span = c.args.span in
    let half = halves span.from span.to c.requires.left.within.0 c.if-middle-span.false in
    let middle = span.from + (span.to - span.from) / 2 in
    let new = c.drop_half.new.left.items in
    let (kept, is) = c.in_ok-drop_half.ensures.stays in
    let long = new_length now span.from middle span.to (omega (arith, half.0)) (omega (arith, half.1))
    c.requires.left.within.1 new kept is in
    let end : length new - (length now - span.to) ≡ c.len-2.result - (c.len.result - span.to) =
    omega (arith, c.len-2.ensures, c.len.ensures) in
    let first_half : Half = record {
      span = record { from = span.from; to = middle };
      other = record { from = middle; to = c.len-2.result - (c.len.result - span.to) };
    } in
    let rules = if_some_weaker _ (AreOutsideBoth s new first_half) c.args.rules (λ rules are. (
      said_in s (take span.from now ++ drop span.to now),
      are,
      subst (λ n. (q : TermRequirement)
          → Contains (said_in s (take span.from now ++ drop span.to now) ++ said_in s (take (n - middle) (drop middle new))) q
          ↔ Contains (said_in s (take span.from new ++ drop middle new)) q) end
          (for_first s now span.from middle span.to (omega (arith, half.0)) (omega (arith, half.1)) c.requires.left.within.1 new kept is),
    )) c.requires.rules in (
      omega (arith, c.decreases, half.0, half.1),
      (
        sub,
        (
          rules,
          record {
            over = record { known = c.in_ok-drop_half.ensures.known; within = (half.0, omega (arith, long)) };
            other = (omega (arith, long, end), omega (arith, long, end));
          },
        ),
      ),
    )

pub drop_halves-returns-clause-leaves : goal.drop_halves-returns-clause-leaves
drop_halves-returns-clause-leaves g t c =
    let half = halves c.args.span.from c.args.span.to c.requires.left.within.0 c.if-middle-span.false in
    on_ok_weaker c.drop_half-2.result (λ h all within left.
    h all (omega (arith, within, half.1)) (c.in_ok-drop_half.ensures.leaves all within left))
    c.drop_half-2.ensures.leaves

pub drop_halves-returns-clause-stays : goal.drop_halves-returns-clause-stays
drop_halves-returns-clause-stays g t c =
    let from = c.args.span.from in
    let to = c.args.span.to in
    let half = halves from to c.requires.left.within.0 c.if-middle-span.false in
    let (kept, is) = c.in_ok-drop_half.ensures.stays in
    on_ok_weaker c.drop_half-2.result (λ h. (
      h.0 ++ kept,
      both_stay c.args.left.now.items from (from + (to - from) / 2) to (omega (arith, half.0)) (omega (arith, half.1))
          c.requires.left.within.1 c.drop_half.new.left.items kept is c.drop_half-2.new.left.items h.0 h.1,
    )) c.drop_half-2.ensures.stays

pub drop_halves-returns-clause-tells : goal.drop_halves-returns-clause-tells
drop_halves-returns-clause-tells g t c all within left =
    let s = c.args.setting.now in
    let half = halves c.args.span.from c.args.span.to c.requires.left.within.0 c.if-middle-span.false in
    tells_after s (IsLeftWithout (facts_in s) (params_in s) all) c.drop_half-2.result
    (g.W.Watch.told c.args.watch.now) (g.W.Watch.told c.drop_half.new.watch) (g.W.Watch.told c.drop_half-2.new.watch)
    (c.in_ok-drop_half.ensures.tells all within left)
    (c.drop_half-2.ensures.tells all (omega (arith, within, half.1)) (c.in_ok-drop_half.ensures.leaves all within left))
