-- What the lines of a signature are made of.
use Rattle.std.proofs.Common.{◌≡◌, ◌∙◌, refl, sym, subst, ℕ, List, ◌++◌}
use Rattle.std.specs.Prelude.{codes}
use Rattle.swreq_print.specs.swreq_param.Terms.{Term}
use Rattle.swreq_print.specs.swreq_derive.declared.known.Params.{Params}
use Rattle.swreq_print.specs.swreq_derive.declared.requirements.Requirement.{Requirement}
use Rattle.swreq_print.specs.swreq_derive.Derivation.{TermRequirement}
use Rattle.swreq_print.specs.swreq_derive.Derivation.Source.{Written as WrittenList}
use Rattle.swreq_print.specs.swreq_derive.Equivalence.{AreEquivalent}
use Rattle.swreq_print.specs.swreq_derive.Facts.{generic_params}
use Rattle.swreq_print.specs.swreq_word.Relations.{Linked}
use Rattle.swreq_print.specs.swreq_rule.declared.rules.Rule.{Rule}
use Rattle.swreq_print.specs.swreq_rule.Steps.{Step}
use Rattle.swreq_machine.specs.swreq_complete.Reduced.{IsReducedSystem}
use Rattle.swreq_print.specs.swreq_lowering.declared.ids.FuncId.{FuncId}
use Rattle.swreq_print.specs.swreq_lowering.Requirements.{PlacedRequirement}
use Rattle.swreq_machine.specs.swreq_world.ByTable.{world_by}
use Rattle.swreq_machine.specs.swreq_world.Worlds.{IdWorld, SignatureOver, TextWorld, signature_at}
use Rattle.swreq_machine.specs.swreq_correspondence.Equations.{AreCongruent, UsableEquation}
use Rattle.swreq_minimal.specs.swreq_canonical.Minimised.{IsMinimised}
use Rattle.swreq_minimal.proofs.swreq_candidates.RulesGive.{reduced_system}
use Rattle.swreq_machine.specs.swreq_symbols.Meaning.{facts_of, symbols_of}
use Rattle.swreq_machine.specs.Machines.{IsMachineOf, MachineView}
use Rattle.swreq_machine.specs.swreq_valid.Plans.{listed}
use Rattle.swreq_machine.specs.swreq_valid.Rounds.{last_rules}
use Rattle.swreq_print.specs.Signatures.{signature_text}
use Rattle.swreq_query.specs.Signatures.{IsMinimisedLine}
use Rattle.swreq_machine.specs.swreq_world.FactsAt.{written_list}
use Rattle.swreq_query.specs.Systems.{IsSystemText, system_text}
use Rattle.swreq_query.proofs.Reading.{params_are}

-- what holds of the text of the minimised list holds of the line
line_appended : (P : List ℕ → Type 0) (terms : List Term) (w : IdWorld) (f : FuncId) (of_machine params : Params)
    (list : List TermRequirement)
    → of_machine ≡ (signature_at (world_by terms w) f).params → params ≡ (signature_at w f).params
    → IsMinimised (facts_of (world_by terms w)) (generic_params of_machine) (written_list (signature_at (world_by terms w) f)) list
    → AreEquivalent (facts_of (world_by terms w)) (generic_params of_machine) (written_list (signature_at (world_by terms w) f)) list
    → P (signature_text w.lexicon (generic_params params) list ++ codes "\n")
    → (line : List ℕ) × IsMinimisedLine (world_by terms w) (signature_at (world_by terms w) f) line × P line
line_appended P terms w f of_machine params list alike read minimised same holds =
    let g : SignatureOver PlacedRequirement = signature_at (world_by terms w) f in (
      signature_text w.lexicon (generic_params g.params) list ++ codes "\n",
      record {
        list = list;
        minimised =
            subst (λ (p : Params). IsMinimised (facts_of (world_by terms w)) (generic_params p) (written_list g) list) alike minimised;
        same = subst (λ (p : Params). AreEquivalent (facts_of (world_by terms w)) (generic_params p) (written_list g) list) alike same;
        line_is = refl;
      },
      subst (λ (p : Params). P (signature_text w.lexicon (generic_params p) list ++ codes "\n")) (read ∙ sym (params_are terms w f)) holds,
    )

-- the line, by what the code reads
pub line_read : (P : List ℕ → Type 0) (terms new_terms : List Term) (w : IdWorld) (f : FuncId) (of_machine params : Params)
    (rs shown : List Requirement)
    → of_machine ≡ (signature_at (world_by terms w) f).params → params ≡ (signature_at w f).params → shown ≡ rs
    → IsMinimised (facts_of (world_by terms w)) (generic_params of_machine)
    (written_list (signature_at (world_by terms w) f)) (listed new_terms rs)
    → AreEquivalent (facts_of (world_by terms w)) (generic_params of_machine)
    (written_list (signature_at (world_by terms w) f)) (listed new_terms rs)
    → P (signature_text w.lexicon (generic_params params) (listed new_terms shown) ++ codes "\n")
    → (line : List ℕ) × IsMinimisedLine (world_by terms w) (signature_at (world_by terms w) f) line × P line
line_read P terms new_terms w f of_machine params rs shown alike read are minimised same holds =
    line_appended P terms w f of_machine params (listed new_terms rs) alike read minimised same
    (subst (λ (z : List Requirement). P (signature_text w.lexicon (generic_params params) (listed new_terms z) ++ codes "\n")) are holds)

-- The reduced system by the rules of the machine, which the code reads as its own.
pub system_read : (P : List ℕ → Type 0) (w : TextWorld) (g : SignatureOver PlacedRequirement) (machine : MachineView)
    (own rules shown : List Rule)
    → IsMachineOf w (written_list g) machine → machine.params ≡ g.params
    → own ≡ last_rules machine.rounds → IsReducedSystem (Linked (Step own)) rules → shown ≡ rules
    → P (system_text w g shown)
    → (text : List ℕ) × IsSystemText w g text × P text
system_read P w g machine own rules shown is same of_machine reduced are holds =
    let m = symbols_of w.lexicon in
    let f = facts_of w in
    let list = written_list g in
    let here = subst (λ z. IsReducedSystem (Linked (Step z)) rules) of_machine reduced in (
      system_text w g rules,
      record {
        rules = rules;
        reduced = subst (λ (p : Params). IsReducedSystem (AreCongruent m f (WrittenList (generic_params p) list)) rules) same
            (reduced_system (last_rules machine.rounds)
            (UsableEquation m f (WrittenList (generic_params machine.params) list)) is.rules rules here);
        text_is = refl;
      },
      subst (λ (z : List Rule). P (system_text w g z)) are holds,
    )
