-- Sections that are laid against the queries of a text, and what one of them is to derive.
use Rattle.std.specs.Prelude.{◌≡◌, ◌<◌, List, length, map}
use Rattle.std.specs.List.{AllByRecursion}
use Rattle.swreq_world.specs.swreq_derive.declared.requirements.Requirement.{Requirement}
use Rattle.swreq_world.specs.swreq_derive.Facts.{requirement_of}
use Rattle.swreq_world.specs.swreq_lowering.declared.ids.FuncId.{FuncId}
use Rattle.swreq_symbols.specs.declared.text.Text.{Text}
use Rattle.swreq_symbols.specs.Texts.{IsRequirementOfText, world_of}
use Rattle.swreq_verify.specs.declared.judging.Judgement.{Judgement}
use Rattle.swreq_verify.specs.declared.reading.Section.{Section}
use Rattle.swreq_verify.specs.Found.{IsFound}
use Rattle.swreq_verify.specs.Laying.{IsSectionOver, section_of}
use Rattle.swreq_verify.specs.SecondParts.{TermSection}

-- what contracts see of sections that are laid against the queries of a text
pub record LaidView : Type 0 where
  pub text : Text
  pub sections : List Section

-- There is one section for each query, and each is of the text.
pub record AreLaid (l : LaidView) : Type 0 where
  pub count : length l.sections ≡ length l.text.world.now.queries
  pub each : AllByRecursion (IsSectionOver l.text.world.now.lexicon l.text.table.now) l.sections

-- the sections over type parameters
abbrev pub sections_of : LaidView → List TermSection
sections_of l = map (section_of l.text.table.now) l.sections

-- what contracts see of a section that is to derive a requirement from the list of a signature
pub record ClaimView : Type 0 where
  pub text : Text
  pub f : FuncId
  pub r : Requirement
  pub section : Section

-- The signature, the requirement and the section are of the text.
pub record IsClaim (c : ClaimView) : Type 0 where
  pub f : c.f.place < length c.text.world.now.signatures
  pub r : IsRequirementOfText c.text c.r
  pub section : IsSectionOver c.text.world.now.lexicon c.text.table.now c.section

-- This is said of its lines.
abbrev pub IsFoundOf : ClaimView → Judgement → Type 0
IsFoundOf c j = IsFound (world_of c.text) c.f (requirement_of c.text.table.now c.r) (section_of c.text.table.now c.section).derivation j
