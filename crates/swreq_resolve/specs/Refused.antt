-- Which names of a text are refused, and as what: the rule of spaces, and then the rows of the table of what each name has to be, in their
-- order (docs/LANGUAGE.md, "Names").
use Rattle.std.specs.Prelude.{◌≡◌, ◌≢◌, ◌⊎◌, ℕ, ◌<◌, false, List, [], ◌++◌, length, Option, Some, None, slice_get, slice_index_or, Contains}
use Rattle.swreq_decl.specs.declared.skeleton.Span.{Span}
use Rattle.swreq_decl.specs.declared.skeleton.Entity.{Entity}
use Rattle.swreq_decl.specs.declared.skeleton.StepDecl.TheVariants as steps
use Rattle.swreq_decl.specs.declared.skeleton.TypeDecl.{TypeDecl}
use Rattle.swreq_decl.specs.declared.skeleton.QueryDecl.{QueryDecl}
use Rattle.swreq_decl.specs.declared.skeleton.Skeleton.{Skeleton}
use Rattle.swreq_names.specs.declared.directory.Declaration.{Declaration}
use Rattle.swreq_names.specs.declared.signature.Signature.{Signature}
use Rattle.swreq_names.specs.declared.signature.Signature.TheVariants.{Struct, Function, Nested}
use Rattle.swreq_names.specs.Directories.{names_of}
use Rattle.swreq_names.specs.Inheritance.{Inherits}
use Rattle.swreq_names.specs.Parts.{Scope, in_protocol, in_signature, in_query, types, entities}
use Rattle.swreq_names.specs.Spaces.{word, self_bytes, outer_params, own_params, Spaces, spaces}
use Rattle.swreq_resolve.specs.declared.refusal.Fault.{Fault}
use Rattle.swreq_resolve.specs.declared.refusal.Fault.TheVariants.{Duplicate, NotAProtocol, ConcreteType, NoSuchMember, UnknownSignature, WrongArity}
use Rattle.swreq_resolve.specs.declared.refusal.Refusal.{Refusal}
use Rattle.swreq_resolve.specs.First.{precedes}

-- ---- spaces

-- In each of these a name is declared once.
pub data Space : Type 0 where
  -- the protocols and structs of the text
  protocols_and_structs : Space
  -- its structs and the functions at its top
  structs_and_functions : Space
  -- the functions of the i-th struct
  functions_of : ℕ → Space
  -- the associated types of the i-th protocol
  associated_types_of : ℕ → Space
  -- its primary names
  primary_names_of : ℕ → Space
  -- the generic parameters of a struct or function
  parameters_of : Signature → Space

module _ (d : Spaces) where
  -- the declarations of a space
  abbrev pub declarations_of : Space → List Declaration
  declarations_of protocols_and_structs = d.protocols ++ d.structs
  declarations_of structs_and_functions = d.structs ++ d.functions
  declarations_of (functions_of i) = slice_index_or d.nested i []
  declarations_of (associated_types_of i) = slice_index_or d.members i []
  declarations_of (primary_names_of i) = slice_index_or d.primaries i []
  declarations_of (parameters_of g) = own_params d g

  -- what these are told apart from: from one another, and the generic parameters of a function of a struct also from those of the struct
  abbrev pub told_apart : Space → List Declaration
  told_apart (parameters_of g) = outer_params d g ++ own_params d g
  told_apart space = declarations_of space

-- One of the declarations has the name, and stands before the offset.
pub record HasEarlier (ds : List Declaration) (name : List ℕ) (at : ℕ) : Type 0 where
  pub earlier : Declaration
  pub declared : Contains ds earlier
  pub same : earlier.name ≡ name
  pub before : earlier.at < at

-- ---- what a name means

-- The name means the i-th of these declarations: that has the name, and no earlier one in the space has it.
pub record Means (ds space : List Declaration) (name : List ℕ) (i : ℕ) : Type 0 where
  pub declaration : Declaration
  pub place : slice_get ds i ≡ Some declaration
  pub named : declaration.name ≡ name
  pub first : HasEarlier space name declaration.at → ⊥

module _ (text : List ℕ) (s : Skeleton) where
  -- the i-th protocol, among protocols and structs
  abbrev pub MeansProtocol : List ℕ → ℕ → Type 0
  MeansProtocol name i = Means (spaces text s).protocols (declarations_of (spaces text s) protocols_and_structs) name i

  abbrev pub NamesProtocol : Span → ℕ → Type 0
  NamesProtocol p i = MeansProtocol (word text p) i

  -- the i-th struct, among structs and functions
  abbrev pub NamesStruct : Span → ℕ → Type 0
  NamesStruct p i = Means (spaces text s).structs (declarations_of (spaces text s) structs_and_functions) (word text p) i

  -- the i-th function at the top, among structs and functions
  abbrev pub NamesFunction : Span → ℕ → Type 0
  NamesFunction p i = Means (spaces text s).functions (declarations_of (spaces text s) structs_and_functions) (word text p) i

  -- the j-th function of the i-th struct
  abbrev pub NamesInner : ℕ → Span → ℕ → Type 0
  NamesInner i p j =
      Means (declarations_of (spaces text s) (functions_of i)) (declarations_of (spaces text s) (functions_of i)) (word text p) j

  -- the signature of a query `S(..)` or `S.f(..)`
  abbrev pub NamesSignature : Option Span → Span → Signature → Type 0
  NamesSignature None p (Struct i) = NamesStruct p i
  NamesSignature None p (Function i) = NamesFunction p i
  NamesSignature (Some outer) p (Nested i j) = NamesStruct outer i × NamesInner i p j
  NamesSignature _ _ _ = ⊥

  -- The i-th protocol declares an associated type of this name itself.
  abbrev pub DeclaresName : ℕ → List ℕ → Type 0
  DeclaresName i name = Contains (names_of (declarations_of (spaces text s) (associated_types_of i))) name

  -- It has a member of this name: it, or a protocol that it inherits, declares one.
  abbrev pub HasMemberName : ℕ → List ℕ → Type 0
  HasMemberName i name = DeclaresName i name ⊎ ((j : ℕ) × Inherits text s i j × DeclaresName j name)

  -- The signature, or the struct around the function, has a generic parameter of this name.
  abbrev pub HasParameter : Signature → List ℕ → Type 0
  HasParameter g name = Contains (names_of (told_apart (spaces text s) (parameters_of g))) name

  -- ---- scopes

  -- The scope is the signature, or a query on it.
  abbrev pub IsScopeOf : Signature → Scope → Type 0
  IsScopeOf g (in_protocol i) = ⊥
  IsScopeOf g (in_signature h) = h ≡ g
  IsScopeOf g (in_query k) = (q : QueryDecl) × (slice_get s.queries k ≡ Some q) × NamesSignature q.outer q.function g

  -- What stands in a declaration is looked at, and what stands in a query on a signature. The rest of a query on an unknown signature is
  -- not.
  abbrev pub IsLookedAt : Scope → Type 0
  IsLookedAt (in_query k) = (g : Signature) × IsScopeOf g (in_query k)
  IsLookedAt _ = Unit {0}

  -- The type is written in the scope, and is looked at.
  pub record HasType (scope : Scope) (t : TypeDecl) : Type 0 where
    pub written : Contains (types s) (scope, t)
    pub looked_at : IsLookedAt scope

  -- The entity stands in the scope, is looked at, and is a name, which `AnyObject` is not.
  pub record HasEntity (scope : Scope) (e : Entity) : Type 0 where
    pub written : Contains (entities s) (scope, e)
    pub looked_at : IsLookedAt scope
    pub named : e.layout ≡ false

-- ---- refusals

abbrev pub refused : Fault → ℕ → Refusal
refused fault at = record { fault = fault; at = at }

-- A name of the text is refused.
pub data IsRefused (text : List ℕ) (s : Skeleton) : Refusal → Type 0 where
  -- A second declaration in a space is refused, at the second.
  declared_again : (space : Space) {d : Declaration}
      → Contains (declarations_of (spaces text s) space) d
      → HasEarlier (told_apart (spaces text s) space) d.name d.at
      → IsRefused text s (refused Duplicate d.at)
  -- On the right of `:` or `&` stands a protocol, by its first declaration among protocols and structs.
  no_protocol : {scope : Scope} {e : Entity}
      → HasEntity text s scope e
      → ((i : ℕ) → NamesProtocol text s e.span i → ⊥)
      → IsRefused text s (refused NotAProtocol e.span.start)
  -- The same in brackets in a query.
  no_protocol_in_brackets : {scope : Scope} {t : TypeDecl} {p a : Span}
      → HasType text s scope t → Contains t.steps (steps.Bound p a)
      → ((i : ℕ) → NamesProtocol text s p i → ⊥)
      → IsRefused text s (refused NotAProtocol p.start)
  -- With arguments, it is a protocol with as many primary names as there are arguments.
  wrong_arguments : {scope : Scope} {e : Entity} {i : ℕ}
      → HasEntity text s scope e
      → NamesProtocol text s e.span i
      → length e.args ≢ 0
      → length e.args ≢ length (declarations_of (spaces text s) (primary_names_of i))
      → IsRefused text s (refused WrongArity e.span.start)
  -- The first word of a type in a protocol is `Self` or a member name of the protocol.
  concrete_in_protocol : {i : ℕ} {t : TypeDecl}
      → HasType text s (in_protocol i) t
      → word text t.head ≢ self_bytes
      → (HasMemberName text s i (word text t.head) → ⊥)
      → IsRefused text s (refused ConcreteType t.head.start)
  -- The first word of a type in a struct, a function or a query is a generic parameter of it, or of the struct around the function.
  concrete_in_signature : {scope : Scope} (g : Signature) {t : TypeDecl}
      → HasType text s scope t
      → IsScopeOf text s g scope
      → (HasParameter text s g (word text t.head) → ⊥)
      → IsRefused text s (refused ConcreteType t.head.start)
  -- In `[P]A` in a query, where P is a protocol, A is an associated type that P itself declares.
  no_such_member : {scope : Scope} {t : TypeDecl} {p a : Span} {i : ℕ}
      → HasType text s scope t → Contains t.steps (steps.Bound p a)
      → NamesProtocol text s p i
      → (DeclaresName text s i (word text a) → ⊥)
      → IsRefused text s (refused NoSuchMember a.start)
  -- A primary name is a member name of its protocol.
  no_such_primary : {i : ℕ} {d : Declaration}
      → Contains (declarations_of (spaces text s) (primary_names_of i)) d
      → (HasMemberName text s i d.name → ⊥)
      → IsRefused text s (refused NoSuchMember d.at)
  -- In a query `S(..)` S is a struct, or a function at the top.
  no_signature : {q : QueryDecl}
      → Contains s.queries q → q.outer ≡ None
      → ((i : ℕ) → NamesStruct text s q.function i → ⊥)
      → ((i : ℕ) → NamesFunction text s q.function i → ⊥)
      → IsRefused text s (refused UnknownSignature q.function.start)
  -- In a query `S.f(..)` S is a struct, by its first declaration among structs and functions.
  no_struct : {q : QueryDecl} {outer : Span}
      → Contains s.queries q → q.outer ≡ Some outer
      → ((i : ℕ) → NamesStruct text s outer i → ⊥)
      → IsRefused text s (refused UnknownSignature outer.start)
  -- Then f is a function of the struct S.
  no_function : {q : QueryDecl} {outer : Span} {i : ℕ}
      → Contains s.queries q → q.outer ≡ Some outer
      → NamesStruct text s outer i
      → ((j : ℕ) → NamesInner text s i q.function j → ⊥)
      → IsRefused text s (refused UnknownSignature q.function.start)

-- It is refused, and none that is refused precedes it.
pub record IsFirstRefused (text : List ℕ) (s : Skeleton) (r : Refusal) : Type 0 where
  pub is : IsRefused text s r
  pub first : (q : Refusal) → IsRefused text s q → precedes q r ≡ false
