-- Lines, and the lines of queries.
use Rattle.std.proofs.Common.{◌≡◌, ◌≢◌, ◌∙◌, refl, sym, ap, subst, ℕ, ◌+◌, ◌<◌, ◌≤◌, true, List, [], ◌∷◌, ◌++◌, take, get_or, length, append-nil, Contains, Option, Some}
use Rattle.std.specs.List.{concat}
use Rattle.std.proofs.lemmas.List.{take_all, take_more}
use Rattle.std.proofs.lemmas.List.Folds.{concat-append}
use Rattle.swreq_machine.specs.swreq_derive.Derivation.{Derivable, Source, TermRequirement}
use Rattle.swreq_machine.specs.swreq_derive.Derivation.Source.{Written}
use Rattle.swreq_machine.specs.swreq_derive.Facts.{generic_params}
use Rattle.swreq_machine.specs.swreq_derive.declared.known.Params.{Params}
use Rattle.swreq_machine.proofs.swreq_lemmas.Members.{first_member, later_member}
use Rattle.swreq_lines.specs.swreq_print.Names.{Text}
use Rattle.swreq_machine.specs.swreq_param.Terms.{Term}
use Rattle.swreq_machine.specs.swreq_lowering.declared.ids.FuncId.{FuncId}
use Rattle.swreq_machine.specs.swreq_lowering.Queries.{TermAsks, TermQuery}
use Rattle.swreq_machine.specs.swreq_lowering.Queries.TermAsks.{AsksRequirement, AsksSignature}
use Rattle.swreq_machine.specs.swreq_world.Worlds.{TextWorld, signature_at}
use Rattle.swreq_machine.specs.swreq_symbols.Meaning.{facts_of}
use Rattle.swreq_query.specs.Answers.{Answer}
use Rattle.swreq_query.specs.Answers.Answer.{Yes}
use Rattle.swreq_query.specs.declared.verdict.Verdict.{Verdict}
use Rattle.swreq_query.specs.declared.verdict.Verdict.TheVariants as verdicts
use Rattle.swreq_query.proofs.OneAnswer.{one_answer}
use Rattle.swreq_machine.specs.swreq_world.FactsAt.{source_of, written_list}
use Rattle.swreq_check.specs.Lines.{AreLines, AreLinesIn}
use Rattle.swreq_check.specs.Lines.AreLines.{none, more}
use Rattle.swreq_check.specs.declared.content.Backing.{Backing}
use Rattle.swreq_check.specs.declared.setting.Own.{Own}
use Rattle.swreq_check.specs.QueryLines.{AnswersByTypes, Backs, BacksYes, HasAnswer, HasVerdict, IsLineOf, IsLineWhere}
use Rattle.swreq_check.specs.Settings.{IsOwn, world_in}

-- ---- lines after lines

module _ {A : Type 0} (P : A → Text → Type 0) where
  pub lines_end : {xs : List A} {ls : List Text} {x : A} {l : Text} → AreLines P xs ls → P x l → AreLines P (xs ++ x ∷ []) (ls ++ l ∷ [])
  lines_end none h = more h none
  lines_end (more a rest) h = more a (lines_end rest h)

  -- the lines of the first of all: of none, of one more, and of all
  pub lines_none : (xs : List A) (text : Text) → text ≡ [] → AreLinesIn P (take 0 xs) text
  lines_none xs text is = ([], none, is)

  pub lines_next : (xs : List A) (k : ℕ) (d : A) (line old new : Text) → k < length xs → AreLinesIn P (take k xs) old
      → P (get_or xs k d) line
      → new ≡ old ++ line → AreLinesIn P (take (k + 1) xs) new
  lines_next xs k d line old new below (ls, are, is) of_it grown = (
    ls ++ line ∷ [],
    subst (λ (ys : List A). AreLines P ys (ls ++ line ∷ [])) (sym (take_more xs k d below)) (lines_end are of_it),
    grown ∙ ap (λ (t : Text). t ++ line) is ∙ sym (concat-append ls (line ∷ []) ∙ ap (λ (t : Text). concat ls ++ t) (append-nil line)),
  )

  pub lines_all : (xs : List A) (k : ℕ) (text : Text) → length xs ≤ k → AreLinesIn P (take k xs) text → AreLinesIn P xs text
  lines_all xs k text l h = subst (λ (ys : List A). AreLinesIn P ys text) (take_all k xs l) h

pub lines_by : {A : Type 0} (P Q : A → Text → Type 0) {xs : List A} {ls : List Text} → ((x : A) (l : Text) → Contains xs x → P x l → Q x l)
    → AreLines P xs ls → AreLines Q xs ls
lines_by P Q by none = none
lines_by P Q by (more {x} {xs} {line} is rest) =
    more (by x line (first_member x xs) is) (lines_by P Q (λ y m c. by y m (later_member x y xs c)) rest)

-- ---- one piece

-- what holds from the list of a signature with the generic parameters of its machine holds from what a query of that signature asks
pub by_machine : (terms : List Term) (own : Own) → IsOwn terms own → (q : TermQuery) → q.f ≡ own.f → (P : Source → Type 0)
    → P (Written (generic_params own.machine.now.params) (written_list (signature_at (world_in terms own.s.now) own.f)))
    → P (source_of (signature_at (world_in terms own.s.now) q.f))
by_machine terms own is q asks P holds =
    let w = world_in terms own.s.now in
    subst (λ (g : FuncId). P (source_of (signature_at w g))) (sym asks)
    (subst (λ (p : Params). P (Written (generic_params p) (written_list (signature_at w own.f)))) is.machine.params holds)

-- a text that answers a query of types is its line
line_where : (w : TextWorld) (b : Backing) (q : TermQuery) (text : Text) (a : TermAsks) → a ≢ AsksSignature
    → AnswersByTypes w true b q text → IsLineWhere w true a b q text
line_where w b q text AsksSignature types h = absurd (types refl)
line_where w b q text _ types h = h

pub line_by_types : (w : TextWorld) (b : Backing) (q : TermQuery) (text : Text) → q.asks ≢ AsksSignature → AnswersByTypes w true b q text
    → IsLineOf w true b q text
line_by_types w b q text = line_where w b q text q.asks

module _ (w : TextWorld) (b : Backing) (q : TermQuery) where
  -- what backs a `yes` follows each answer that the query has, where it has that one
  pub behind_yes : (text : Text) (r : TermRequirement) → HasAnswer w true Yes q → q.asks ≡ AsksRequirement r → BacksYes w b q.f r text
      → (a : Answer) → HasAnswer w true a q → Backs w b q a text
  behind_yes text r is asks backs a has =
      subst (λ (o : Answer). Backs w b q o text)
      (one_answer (Derivable (facts_of w) (source_of (signature_at w q.f))) q.asks Yes a is has) (r, asks, backs)

  -- nothing follows where no requirement is asked
  pub behind_types : ((r : TermRequirement) → q.asks ≢ AsksRequirement r) → (a : Answer) → HasAnswer w true a q → Backs w b q a []
  behind_types other Yes has = absurd (other has.1.0 has.1.1)
  behind_types other _ has = refl

  -- and nothing follows it where the verdict is another, or none
  pub behind_others : (verdict : Option Verdict) → HasVerdict w true verdict q → (verdict ≡ Some verdicts.Yes → ⊥)
      → (a : Answer) → HasAnswer w true a q → Backs w b q a []
  behind_others verdict is other Yes has = absurd (other ((is verdicts.Yes).0 has))
  behind_others verdict is other _ has = refl
