-- What requirements of a protocol are over.
use Rattle.std.proofs.Common.{◌≡◌, ◌∙◌, ℕ, zero, suc, Bool, true, false, cond, List, [], ◌∷◌, ◌++◌, map, refl, subst, sym, arith}
use Rattle.std.specs.List.{All, flat_map}
use Rattle.std.specs.Str.{bytes_eq}
use Rattle.swreq_param.specs.Terms.{Term, self, self_param, head}
use Rattle.swreq_param.specs.OwnedLaws.{heads_same}
use Rattle.swreq_lexicon.specs.swreq_derive.Derivation.TermRequirement.{Conforms, IsAnyObject}
use Rattle.swreq_lexicon.specs.swreq_decl.declared.skeleton.Span.{Span}
use Rattle.swreq_lexicon.specs.swreq_decl.declared.skeleton.Entity.{Entity}
use Rattle.swreq_lexicon.specs.swreq_decl.declared.skeleton.TypeDecl.{TypeDecl}
use Rattle.swreq_lexicon.specs.swreq_decl.declared.skeleton.ReqDecl.{ReqDecl}
use Rattle.swreq_lexicon.specs.swreq_decl.declared.skeleton.ReqDecl.TheVariants as requirements
use Rattle.swreq_lexicon.specs.swreq_decl.declared.skeleton.AssocDecl.{AssocDecl}
use Rattle.swreq_lexicon.specs.swreq_decl.declared.skeleton.ProtocolDecl.{ProtocolDecl}
use Rattle.swreq_lexicon.specs.swreq_names.Spaces.{word, self_bytes}
use Rattle.swreq_lowering.specs.declared.context.Context.TheVariants.{Protocol}
use Rattle.swreq_lowering.specs.Heads.{IsOverSelf}
use Rattle.swreq_lowering.specs.Requirements.{PlacedRequirement, bound_of, of_one_side, arguments, in_bound, in_bounds, in_protocol}
use Rattle.swreq_lowering.specs.Walk.{in_requirement, in_clause, in_member, in_members}
use Rattle.swreq_lowering.specs.Types.{member_named, protocol_head, step_of, type_in}
use Rattle.swreq_lowering.specs.Words.{WordsView, proto_of, primaries_named}
use Rattle.swreq_lowering.proofs.Walked.{protocol_walked}

abbrev Over : PlacedRequirement → Type 0
Over r = IsOverSelf r.requirement

pub all_append : {A : Type 0} (P : A → Type 0) (xs ys : List A) → All P xs → All P ys → All P (xs ++ ys)
all_append P [] ys h g k d l = g k d l
all_append P (x ∷ xs) ys h g zero d l = h 0 x (omega arith)
all_append P (x ∷ xs) ys h g (suc k) d l = all_append P xs ys (λ j e m. h (suc j) e (omega arith)) g k d (omega arith)

pub all_cons : {A : Type 0} (P : A → Type 0) (x : A) (xs : List A) → P x → All P xs → All P (x ∷ xs)
all_cons P x xs h g zero d l = h
all_cons P x xs h g (suc k) d l = g k d (omega arith)

pub all_none : {A : Type 0} (P : A → Type 0) → All P []
all_none P k d l = absurd (omega arith)

pub all_pieces : {A B : Type 0} (P : B → Type 0) (f : A → List B) (xs : List A) → ((x : A) → All P (f x)) → All P (flat_map f xs)
all_pieces P f [] h = all_none P
all_pieces P f (x ∷ xs) h = all_append P (f x) (flat_map f xs) (h x) (all_pieces P f xs h)

module _ (w : WordsView) where
  first_by : (s : Span) (b : Bool) → head (cond b self (member_named w self s)) ≡ self_param
  first_by s true = refl
  first_by s false = refl

  type_head : (t : TypeDecl) → head (type_in w Protocol t) ≡ self_param
  type_head t = heads_same (protocol_head w t.head) (map (step_of w) t.steps) ∙ first_by t.head (bytes_eq self_bytes (word w.text t.head))

  bound_over : (t : Term) (e : Entity) (b : Bool) → head t ≡ self_param
      → IsOverSelf (cond b (IsAnyObject t) (Conforms t (proto_of w e.span)))
  bound_over t e true h = h
  bound_over t e false h = h

  arguments_over : (t : Term) (at : ℕ) (names : List Span) (us : List TypeDecl) → head t ≡ self_param
      → All Over (arguments w Protocol t at names us)
  arguments_over t at [] us h = all_none Over
  arguments_over t at (a ∷ names) [] h = all_none Over
  arguments_over t at (a ∷ names) (u ∷ us) h =
      all_cons Over _ (arguments w Protocol t at names us) (h, type_head u) (arguments_over t at names us h)

  bounds_over : (t : Term) (at : ℕ) (es : List Entity) → head t ≡ self_param → All Over (in_bounds w Protocol t at es)
  bounds_over t at es h = all_pieces Over (in_bound w Protocol t at) es one
    where
      one : (e : Entity) → All Over (in_bound w Protocol t at e)
      one e = all_cons Over (of_one_side (bound_of w t e) at) (arguments w Protocol t e.span.start (primaries_named w e.span) e.args)
          (bound_over t e e.layout h) (arguments_over t e.span.start (primaries_named w e.span) e.args h)

  requirement_over : (r : ReqDecl) → All Over (in_requirement w Protocol r)
  requirement_over (requirements.Bound t bounds) = bounds_over (type_in w Protocol t) t.head.start bounds (type_head t)
  requirement_over (requirements.Same t u) = all_cons Over _ [] (type_head t, type_head u) (all_none Over)

  clause_over : (rs : List ReqDecl) → All Over (in_clause w Protocol rs)
  clause_over rs = all_pieces Over (in_requirement w Protocol) rs requirement_over

  member_over : (m : AssocDecl) → All Over (in_member w m)
  member_over m =
      all_append Over (in_bounds w Protocol (member_named w self m.name) m.name.start m.inherits) (in_clause w Protocol m.clause)
      (bounds_over (member_named w self m.name) m.name.start m.inherits refl) (clause_over m.clause)

  pub protocol_over : (p : ProtocolDecl) → All Over (in_protocol w p)
  protocol_over p =
      subst (All Over) (sym (protocol_walked w p))
      (all_append Over (in_bounds w Protocol self p.name.start p.inherits) (in_clause w Protocol p.clause ++ in_members w p.members)
      (bounds_over self p.name.start p.inherits refl)
      (all_append Over (in_clause w Protocol p.clause) (in_members w p.members) (clause_over p.clause)
      (all_pieces Over (in_member w) p.members member_over)))
