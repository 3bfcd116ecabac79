-- What is selected of the requirements, as the code asks for it.
use Rattle.std.proofs.Common.{◌≡◌, ◌∙◌, ◌↔◌, ap, length, sym, subst, Bool, IsTrue, List, Option}
use Rattle.std.proofs.lemmas.List.{length-map}
use Rattle.swreq_valid.specs.swreq_param.declared.ids.NameId.{NameId}
use Rattle.swreq_valid.specs.swreq_param.declared.ids.ProtoId.{ProtoId}
use Rattle.swreq_reqsig.specs.declared.outlines.Kind.{Kind}
use Rattle.swreq_reqsig.specs.declared.outlines.Outline.{Outline}
use Rattle.swreq_reqsig.specs.declared.selection.Selection.{Selection}
use Rattle.swreq_reqsig.specs.declared.setting.Setting.{Setting}
use Rattle.swreq_reqsig.specs.Families.{owned}
use Rattle.swreq_reqsig.specs.Marks.{IsMarked}
use Rattle.swreq_reqsig.specs.Named.{AreNamed}
use Rattle.swreq_reqsig.specs.Outlines.{IsSaidAt, outline_of}
use Rattle.swreq_reqsig.specs.Saying.{SaysConforms}
use Rattle.swreq_reqsig.specs.Selections.{lexicon_in, selected_in}
use Rattle.swreq_reqsig.specs.Settings.{text_in}
use Rattle.swreq_reqsig.proofs.Naming.{named_stable}
use Rattle.swreq_reqsig.proofs.Placing.{places_count}
use Rattle.swreq_reqsig.proofs.Spoken.{Says, says}

-- the lists keep the places of what the outlines name
pub named_in : (s : Setting) → AreNamed s.outlines.now s.named.now
named_in s = named_stable s.outlines.now s.named.now s.by_name

module _ (s : Selection) where
  -- there is an outline for each place
  pub outlines_count : length s.setting.places.now ≡ length s.setting.outlines.now
  outlines_count =
      ap length s.setting.all ∙ places_count s.setting.text.world.now s.setting.text.table.now
      ∙ sym (length-map (owned (text_in s.setting)) (outline_of (lexicon_in s))) ∙ ap length (sym s.setting.outlined)

  -- where those protocols are marked to which a type parameter with the last name conforms
  module _ (a : Option NameId) (v marks : List Bool) (same : marks ≡ v)
      (tell : (q : ProtoId) → IsMarked v q ↔ SaysConforms (lexicon_in s) (selected_in s) a q) where
    marks_tell : (q : ProtoId) → IsMarked marks q ↔ SaysConforms (lexicon_in s) (selected_in s) a q
    marks_tell q = subst (λ (z : List Bool). IsMarked z q ↔ SaysConforms (lexicon_in s) (selected_in s) a q) (sym same) (tell q)

    pub says_so : (kind : Kind) (b : Bool) → IsTrue b ↔ IsSaidAt s.setting.outlines.now s.flags.now kind a marks
        → IsTrue b ↔ Says (lexicon_in s) (selected_in s) a kind
    says_so kind b h =
        let law = says (lexicon_in s) (owned (text_in s.setting)) s.flags.now a marks marks_tell kind in
        let k = subst (λ (z : List Outline). IsTrue b ↔ IsSaidAt z s.flags.now kind a marks) s.setting.outlined h in
        ((λ t. law.0 (k.0 t)), λ d. k.1 (law.1 d))
