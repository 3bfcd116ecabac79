-- The lines under a heading, as they are passed one by one.
use Rattle.std.proofs.Common.{◌≡◌, sym, subst, ℕ, ◌-◌, [], ◌∷◌, length, take, drop}
use Rattle.std.specs.List.{AllByRecursion}
use Rattle.swreq_text.specs.Lines.{lines, IsFirstLine}
use Rattle.swreq_text.proofs.LineEnds.{IsLineEnd, all_before, line_end_next, line_end_zero}
use Rattle.swreq_lines.specs.swreq_print.Names.{Text}
use Rattle.swreq_verify.specs.Laying.{IsUnder}
use Rattle.swreq_world.proofs.swreq_lemmas.Members.{each_append}

-- A line ends at the place, and those before it begin with a space.
pub record IsBodyUpTo (text : Text) (at : ℕ) : Type 0 where
  pub ends : IsLineEnd text at
  pub under : AllByRecursion IsUnder (lines (take at text))

pub body_zero : (text : Text) → IsBodyUpTo text 0
body_zero text = record { ends = line_end_zero text; under = tt }

pub body_more : (text : Text) (at : ℕ) (line rest : Text) → IsBodyUpTo text at → IsFirstLine (drop at text) line rest → IsUnder line
    → IsBodyUpTo text (length text - length rest)
body_more text at line rest body first under =
    let next = line_end_next text at line rest body.ends first in
    record {
      ends = next.0;
      under = subst (AllByRecursion IsUnder) (sym next.1) (each_append IsUnder (lines (take at text)) (line ∷ []) body.under (under, tt));
    }

pub body_all : (text : Text) (at : ℕ) → IsBodyUpTo text at → drop at text ≡ [] → AllByRecursion IsUnder (lines text)
body_all text at body e = subst (λ z. AllByRecursion IsUnder (lines z)) (all_before text at e) body.under
