-- The parts of each kind grow part by part.
use Rattle.std.proofs.Common.{◌≡◌, List, [], ◌∷◌, ◌++◌, Option, Some, None, refl, ap, ◌∙◌}
use Rattle.std.proofs.lemmas.List.{append-nil}
use Rattle.std.proofs.lemmas.List.Elements.{filter_map-append}
use Rattle.std.specs.List.{filter_map}
use Rattle.swreq_decl.specs.declared.skeleton.ProtocolDecl.{ProtocolDecl}
use Rattle.swreq_decl.specs.declared.skeleton.StructDecl.{StructDecl}
use Rattle.swreq_decl.specs.declared.skeleton.FunctionDecl.{FunctionDecl}
use Rattle.swreq_decl.specs.declared.skeleton.QueryDecl.{QueryDecl}
use Rattle.swreq_decl.specs.declared.skeleton.Item.{Item}
use Rattle.swreq_decl.specs.declared.skeleton.Item.TheVariants as items
use Rattle.swreq_decl.specs.Skeletons.{protocol_of, struct_of, function_of, query_of}

module _ {A : Type 0} (f : Item → Option A) (parts : List Item) (part : Item) (vs : List A) where
  added : (v : A) → f part ≡ Some v → filter_map f parts ≡ vs → filter_map f (parts ++ part ∷ []) ≡ vs ++ v ∷ []
  added v e h = filter_map-append f parts (part ∷ []) ∙ rw (e, h) refl

  kept : f part ≡ None → filter_map f parts ≡ vs → filter_map f (parts ++ part ∷ []) ≡ vs
  kept e h = filter_map-append f parts (part ∷ []) ∙ rw (e, h) (append-nil vs)

-- these are the parts of each kind
abbrev pub AreSorted : List Item → List ProtocolDecl → List StructDecl → List FunctionDecl → List QueryDecl → Type 0
AreSorted parts ps ss fs qs = (filter_map protocol_of parts ≡ ps) × (filter_map struct_of parts ≡ ss) × (filter_map function_of parts ≡ fs)
    × (filter_map query_of parts ≡ qs)

module _ (parts : List Item) (part : Item) (ps : List ProtocolDecl) (ss : List StructDecl) (fs : List FunctionDecl)
    (qs : List QueryDecl) where
  pub one_protocol : (p : ProtocolDecl) → part ≡ items.Protocol p → AreSorted parts ps ss fs qs
      → AreSorted (parts ++ part ∷ []) (ps ++ p ∷ []) ss fs qs
  one_protocol p e h = (
    added protocol_of parts part ps p (ap protocol_of e) h.0,
    kept struct_of parts part ss (ap struct_of e) h.1,
    kept function_of parts part fs (ap function_of e) h.2,
    kept query_of parts part qs (ap query_of e) h.3,
  )

  pub one_struct : (s : StructDecl) → part ≡ items.Struct s → AreSorted parts ps ss fs qs
      → AreSorted (parts ++ part ∷ []) ps (ss ++ s ∷ []) fs qs
  one_struct s e h = (
    kept protocol_of parts part ps (ap protocol_of e) h.0,
    added struct_of parts part ss s (ap struct_of e) h.1,
    kept function_of parts part fs (ap function_of e) h.2,
    kept query_of parts part qs (ap query_of e) h.3,
  )

  pub one_function : (f : FunctionDecl) → part ≡ items.Function f → AreSorted parts ps ss fs qs
      → AreSorted (parts ++ part ∷ []) ps ss (fs ++ f ∷ []) qs
  one_function f e h = (
    kept protocol_of parts part ps (ap protocol_of e) h.0,
    kept struct_of parts part ss (ap struct_of e) h.1,
    added function_of parts part fs f (ap function_of e) h.2,
    kept query_of parts part qs (ap query_of e) h.3,
  )

  pub one_query : (q : QueryDecl) → part ≡ items.Query q → AreSorted parts ps ss fs qs
      → AreSorted (parts ++ part ∷ []) ps ss fs (qs ++ q ∷ [])
  one_query q e h = (
    kept protocol_of parts part ps (ap protocol_of e) h.0,
    kept struct_of parts part ss (ap struct_of e) h.1,
    kept function_of parts part fs (ap function_of e) h.2,
    added query_of parts part qs q (ap query_of e) h.3,
  )
