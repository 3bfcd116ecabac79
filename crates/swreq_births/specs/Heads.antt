-- After which type parameters the sides of rules may be read.
use Rattle.std.specs.Prelude.{◌≡◌, List, [], ◌∷◌, Option, Some, None}
use Rattle.swreq_param.specs.{declared.ids.ProtoId.{ProtoId}, Terms.{Term}}
use Rattle.swreq_correspondence.specs.swreq_word.declared.symbols.Symbol.{Symbol, TheVariants.{Proto, Member, Param, Name, Layout}}
use Rattle.swreq_derivation.specs.{declared.derivation.Derivation.{Derivation}, Origins.{ConformsIfAny}}
use Rattle.swreq_readings.specs.{declared.alphabet.Alphabet.{Alphabet}, Alphabets.{member_at}}

-- What a word asks of the type parameter after which it is read: that it conforms to a protocol, or nothing if the word begins with a
-- generic parameter. Rules do not rewrite other words.
abbrev pub head_of : Alphabet → List Symbol → Option (Option ProtoId)
head_of g [] = None
head_of g (Proto q ∷ w) = Some (Some (record { rank = q }))
head_of g (Member k ∷ w) = Some (Some (member_at g k).proto)
head_of g (Param d i ∷ w) = Some None
head_of g (Name a ∷ w) = None
head_of g (Layout ∷ w) = None

-- A line states what the word asks, if anything.
abbrev pub IsHeadStated : Alphabet → Derivation → Term → List Symbol → Type 0
IsHeadStated g s t w = (h : Option ProtoId) × (head_of g w ≡ Some h) × ConformsIfAny s t h
