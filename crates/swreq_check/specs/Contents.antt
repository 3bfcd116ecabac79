-- What is made of the signatures of a text for what is printed of it.
use Rattle.std.specs.Prelude.{◌≡◌}
use Rattle.swreq_check.specs.declared.content.Backing.{Backing}
use Rattle.swreq_check.specs.declared.content.Backing.TheVariants.{Nothing}
use Rattle.swreq_check.specs.declared.content.Content.{Content}
use Rattle.swreq_check.specs.declared.content.Content.TheVariants.{Answers, Signatures, Systems, Calls, Families, Judgements}
use Rattle.swreq_check.specs.declared.content.Made.{Made}
use Rattle.swreq_check.specs.declared.content.Made.TheVariants as made
use Rattle.swreq_check.specs.declared.content.Shown.{Shown}
use Rattle.swreq_check.specs.declared.content.Shown.TheVariants.{Each, Counts}

-- what follows a `yes`
abbrev pub backed_by : Shown → Backing
backed_by (Each b) = b
backed_by (Counts n) = Nothing

abbrev pub backing_of : Content → Backing
backing_of (Answers s) = backed_by s
backing_of _ = Nothing

-- what is made of the signatures of a text, to be printed
abbrev pub makes : Content → Made
makes (Answers s) = made.Lines
makes Signatures = made.Lists
makes Systems = made.Systems
makes Families = made.Nothing
makes Judgements = made.Nothing
makes Calls = made.Nothing

-- Answers to queries are printed.
abbrev pub AreAnswers : Content → Type 0
AreAnswers c = makes c ≡ made.Lines

-- Reduced rewriting systems are printed.
abbrev pub AreSystems : Content → Type 0
AreSystems c = makes c ≡ made.Systems

-- Minimised lists are printed, after the names of their signatures.
abbrev pub AreSignatures : Content → Type 0
AreSignatures c = makes c ≡ made.Lists

-- Requirement signatures of protocols are printed.
abbrev pub AreFamilies : Content → Type 0
AreFamilies c = c ≡ Families

-- What the checker of derivations says is printed.
abbrev pub AreJudgements : Content → Type 0
AreJudgements c = c ≡ Judgements

-- The lines of calls are printed.
abbrev pub AreCalls : Content → Type 0
AreCalls c = c ≡ Calls

-- Something is made.
abbrev pub IsSomething : Made → Type 0
IsSomething made.Nothing = ⊥
IsSomething _ = Unit {0}

-- What is made of signatures is printed: pieces of machines, or minimised lists.
abbrev pub PrintsPieces : Content → Type 0
PrintsPieces c = IsSomething (makes c)
