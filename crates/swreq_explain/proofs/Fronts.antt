-- The first lines of a derivation, up to the line that states this.
use Rattle.std.proofs.{Common.{◌≡◌, ◌∙◌, ℕ, suc, ◌-◌, List, ap, arith, map, refl, subst, sym, take}, lemmas.List.{take-map, take-take}}
use Rattle.swreq_machine.proofs.{swreq_lemmas.Elements.{get_map, get_of_map, in_whole, take_one}, swreq_derive.LineLemmas.{get_take}}
use Rattle.swreq_machine.specs.{swreq_param.{Tables.{AreDistinct}, Terms.{Term}}, swreq_derive.declared.lines.Line.{Line}}
use Rattle.swreq_machine.specs.swreq_derive.{declared.requirements.Statement.{Statement}, Facts.{IdFacts, generic_params, requirement_of}}
use Rattle.swreq_machine.specs.swreq_derive.{Facts.{statement_of, term_facts}, Instances.{Follows, HasNumber, TermLine, statements_of}}
use Rattle.swreq_machine.specs.swreq_derive.Lines.{AreDerived, line_of, stated_by}
use Rattle.swreq_derivation.specs.{declared.derivation.Derivation.{Derivation}, UnderWay.{AllIn, AreIdsIn, statements_in}}
use Rattle.swreq_derivation.{specs.Needed.{AreSomeOf, EndIn}, proofs.DerivationLemmas.{same_ids}}

-- the first lines of a derivation are a derivation
pub front_derived : (terms : List Term) (m : IdFacts) (ls : List Line) (n : ℕ) → AreDerived terms m ls → AreDerived terms m (take n ls)
front_derived terms m ls n d k l e =
    let (x, at, same) = get_of_map (line_of terms) (take n ls) k l e in
    let (below, there) = get_take n k ls x at in
    let h = d k (line_of terms x) (get_map (line_of terms) ls k x there) in
    let earlier : take k (statements_of (map (line_of terms) (take n ls))) ≡ take k (statements_of (map (line_of terms) ls))
    = ap (take k) (ap statements_of (sym (take-map (line_of terms) n ls))
    ∙ sym (take-map (λ (z : TermLine). z.statement) n (map (line_of terms) ls)))
    ∙ take-take k n (statements_of (map (line_of terms) ls)) (omega (arith, below)) in
    subst (λ z. Follows (term_facts terms m) (generic_params m.params) (map (requirement_of terms) m.written) z l) (sym earlier)
    (subst (Follows (term_facts terms m) (generic_params m.params) (map (requirement_of terms) m.written)
    (take k (statements_of (map (line_of terms) ls)))) same h)

pub front_ends : (ls : List Line) (n : ℕ) (l : Line) → HasNumber n ls l → EndIn (take n ls) l.statement
front_ends ls n l (above, at) =
    let e : suc (n - 1) ≡ n = omega (arith, above) in
    (take (n - 1) ls, l, ap (λ k. take k ls) (sym e) ∙ take_one ls (n - 1) l at, refl)

-- The ids in what some of the first lines state are of the table if those of all lines are.
pub front_ids : (terms : List Term) (some ls : List Line) (n : ℕ) → AllIn terms ls → AreSomeOf some (take n ls) → AllIn terms some
front_ids terms some ls n ids h k l e =
    let (j, a, at, rule, statement) = h k l e in subst (AreIdsIn terms) (sym statement) (ids j a (in_whole ls n j a at))

-- the line whose statement has this number
pub line_said : (s : Derivation) (st : Statement) (n : ℕ) → AllIn s.table s.lines → AreDistinct s.table → AreIdsIn s.table st
    → HasNumber n (statements_in s) (statement_of s.table st) → (l : Line) × HasNumber n s.lines l × (l.statement ≡ st)
line_said s st n all distinct ids (above, at) =
    let (x, at_x, same_x) = get_of_map (statement_of s.table) (stated_by s.lines) (n - 1) (statement_of s.table st) at in
    let (l, at_l, same_l) = get_of_map (λ (z : Line). z.statement) s.lines (n - 1) x at_x in
    let of_l = all (n - 1) l at_l in
    (l, (above, at_l), same_ids s.table distinct l.statement st of_l ids (ap (statement_of s.table) same_l ∙ same_x))
