-- The rule among others that has a name.
use Rattle.std.proofs.Common.{◌≡◌, ◌∙◌, sym, ap, ℕ, ◌+◌, ◌<◌, ◌≤◌, Bool, true, false, List, length, drop, get_or}
use Rattle.std.specs.Bool.{if◌then◌else◌}
use Rattle.std.specs.Str.{bytes_eq}
use Rattle.std.proofs.lemmas.List.{drop_all, drop_more}
use Rattle.swreq_print.specs.swreq_derive.declared.lines.DerivRule.{DerivRule}
use Rattle.swreq_print.specs.swreq_derive.declared.lines.DerivRule.TheVariants.{Generic}
use Rattle.swreq_print.specs.Names.{Text}
use Rattle.swreq_lines.specs.LineTexts.{rule_name}
use Rattle.swreq_lines.specs.Written.{rule_named}

module _ (rules : List DerivRule) (name : Text) (k : ℕ) (whole : DerivRule) (left : rule_named (drop k rules) name ≡ whole) where
  module _ (d : DerivRule) (shown : Text) (l : k < length rules) (named : shown ≡ rule_name (get_or rules k d)) where
    abbrev rule : DerivRule
    rule = get_or rules k d

    test : (b : Bool) → b ≡ bytes_eq shown name → (if b then rule else rule_named (drop (k + 1) rules) name) ≡ whole
    test b e =
        ap (λ (z : Bool). if z then rule else rule_named (drop (k + 1) rules) name) (e ∙ ap (λ z. bytes_eq z name) named)
        ∙ ap (λ z. rule_named z name) (sym (drop_more rules k d l)) ∙ left

    pub here : true ≡ bytes_eq shown name → rule ≡ whole
    here e = test true e

    pub later : false ≡ bytes_eq shown name → rule_named (drop (k + 1) rules) name ≡ whole
    later e = test false e

  pub nowhere : length rules ≤ k → Generic ≡ whole
  nowhere l = ap (λ z. rule_named z name) (sym (drop_all k rules l)) ∙ left
