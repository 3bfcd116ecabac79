-- Where a protocol inherits another directly, it is written that `Self` conforms to it.
use Rattle.std.proofs.Common.{◌≡◌, ℕ, ⊎_elim, Bool, true, false, cond, ◌&&◌, List, [], ◌∷◌, ◌++◌, Option, Some, None, map, Contains, refl, sym, ap, subst, ◌∙◌, arith}
use Rattle.std.specs.List.{flat_map}
use Rattle.std.specs.Option.{option_to_list}
use Rattle.std.specs.Str.{bytes_eq}
use Rattle.std.proofs.lemmas.List.Elements.{Contains-append_cases, Contains-append_left, Contains-append_right}
use Rattle.std.proofs.lemmas.Bool.{and_parts}
use Rattle.swreq_param.specs.Terms.{self, with_steps}
use Rattle.swreq_lexicon.specs.swreq_decl.declared.skeleton.AssocDecl.{AssocDecl}
use Rattle.swreq_lexicon.specs.swreq_decl.declared.skeleton.Entity.{Entity}
use Rattle.swreq_lexicon.specs.swreq_decl.declared.skeleton.ProtocolDecl.{ProtocolDecl}
use Rattle.swreq_lexicon.specs.swreq_decl.declared.skeleton.ReqDecl.{ReqDecl}
use Rattle.swreq_lexicon.specs.swreq_decl.declared.skeleton.ReqDecl.TheVariants.{Bound, Same}
use Rattle.swreq_lexicon.specs.swreq_decl.declared.skeleton.Span.{Span}
use Rattle.swreq_lexicon.specs.swreq_decl.declared.skeleton.StepDecl.{StepDecl}
use Rattle.swreq_lexicon.specs.swreq_derive.Derivation.TermRequirement.{Conforms, IsAnyObject}
use Rattle.swreq_param.proofs.swreq_lemmas.Members.{no_member, only_member}
use Rattle.swreq_lexicon.specs.swreq_names.Inheritance.{direct, is_bare, named_by, named_in}
use Rattle.swreq_lexicon.specs.swreq_names.Walk.{inherited_in, inherited_in_clause}
use Rattle.swreq_lexicon.proofs.swreq_names.Walked.{same_direct}
use Rattle.swreq_lexicon.specs.swreq_names.Spaces.{self_bytes, Spaces, protocol_of, word}
use Rattle.swreq_lexicon.proofs.Declared.{from_pieces, in_pieces}
use Rattle.swreq_lowering.specs.declared.context.Context.TheVariants.{Protocol}
use Rattle.swreq_lowering.specs.Requirements.{PlacedRequirement, bound_of, in_bound, in_bounds, in_protocol, of_one_side}
use Rattle.swreq_lowering.specs.Walk.{in_clause, in_member, in_members, in_requirement}
use Rattle.swreq_lowering.proofs.Walked.{protocol_walked}
use Rattle.swreq_lowering.specs.Types.{member_named, step_of, type_in}
use Rattle.swreq_lowering.specs.Words.{WordsView, proto_of}

-- One of the requirements is that `Self` conforms to the protocol at this place, by a name that refers to it.
pub record Says (d : Spaces) (w : WordsView) (rs : List PlacedRequirement) (j : ℕ) : Type 0 where
  pub name : Span
  pub requirement : PlacedRequirement
  pub refers : protocol_of d (word w.text name) ≡ Some j
  pub among : Contains rs requirement
  pub is : requirement.requirement ≡ Conforms self (proto_of w name)

bare : (steps : List StepDecl) → is_bare steps ≡ true → steps ≡ []
bare [] e = refl
bare (s ∷ steps) e = absurd cc

module _ (d : Spaces) (w : WordsView) (j : ℕ) where
  more : (rs ts : List PlacedRequirement) → ((r : PlacedRequirement) → Contains rs r → Contains ts r) → Says d w rs j → Says d w ts j
  more rs ts to says = record {
    name = says.name;
    requirement = says.requirement;
    refers = says.refers;
    among = to says.requirement says.among;
    is = says.is;
  }

  -- ---- bounds of `Self`

  bound_says : (at : ℕ) (e : Entity) → Contains (option_to_list (named_by w.text d e)) j → Says d w (in_bound w Protocol self at e) j
  bound_says at e c = by e.layout refl c
    where
      of : e.layout ≡ false → (o : Option ℕ) → protocol_of d (word w.text e.span) ≡ o → Contains (option_to_list o) j
          → Says d w (in_bound w Protocol self at e) j
      of l None n h = no_member j h
      of l (Some k) n h = record {
        name = e.span;
        requirement = of_one_side (bound_of w self e) at;
        refers = n ∙ ap Some (sym (only_member k j h));
        among = (0, omega arith, refl);
        is = ap (λ b. cond b (IsAnyObject self) (Conforms self (proto_of w e.span))) l;
      }

      by : (b : Bool) → e.layout ≡ b → Contains (option_to_list (cond b None (protocol_of d (word w.text e.span)))) j
          → Says d w (in_bound w Protocol self at e) j
      by true l h = no_member j h
      by false l h = of l (protocol_of d (word w.text e.span)) refl h

  bounds_say : (at : ℕ) (es : List Entity) → Contains (named_in w.text d es) j → Says d w (in_bounds w Protocol self at es) j
  bounds_say at es c =
      let (e, m, h) = from_pieces (λ (e : Entity). option_to_list (named_by w.text d e)) es j c in
      more (in_bound w Protocol self at e) (in_bounds w Protocol self at es)
      (λ r k. in_pieces (in_bound w Protocol self at) es e r m k) (bound_says at e h)

  -- ---- clauses

  requirement_says : (q : ReqDecl) → Contains (inherited_in w.text d q) j → Says d w (in_requirement w Protocol q) j
  requirement_says (Bound t bounds) c = by (bytes_eq self_bytes (word w.text t.head) && is_bare t.steps) refl c
    where
      is_self : (bytes_eq self_bytes (word w.text t.head) && is_bare t.steps) ≡ true → type_in w Protocol t ≡ self
      is_self e =
          let begins = (and_parts (bytes_eq self_bytes (word w.text t.head)) (is_bare t.steps) e).0 in
          let ends = bare t.steps (and_parts (bytes_eq self_bytes (word w.text t.head)) (is_bare t.steps) e).1 in
          λ i. with_steps (cond (begins i) self (member_named w self t.head)) (map (step_of w) (ends i))

      by : (b : Bool) → (bytes_eq self_bytes (word w.text t.head) && is_bare t.steps) ≡ b
          → Contains (cond b (named_in w.text d bounds) []) j → Says d w (in_requirement w Protocol (Bound t bounds)) j
      by true e h =
          subst (λ u. Says d w (in_bounds w Protocol u t.head.start bounds) j) (sym (is_self e)) (bounds_say t.head.start bounds h)
      by false e h = no_member j h
  requirement_says (Same t u) c = no_member j c

  clause_says : (clause : List ReqDecl) → Contains (inherited_in_clause w.text d clause) j → Says d w (in_clause w Protocol clause) j
  clause_says clause c =
      let (q, m, h) = from_pieces (inherited_in w.text d) clause j c in
      more (in_requirement w Protocol q) (in_clause w Protocol clause)
      (λ r k. in_pieces (in_requirement w Protocol) clause q r m k) (requirement_says q h)

  -- ---- protocols

  member_says : (m : AssocDecl) → Contains (inherited_in_clause w.text d m.clause) j → Says d w (in_member w m) j
  member_says m c =
      more (in_clause w Protocol m.clause) (in_member w m)
      (Contains-append_right (in_bounds w Protocol (member_named w self m.name) m.name.start m.inherits) (in_clause w Protocol m.clause))
      (clause_says m.clause c)

  members_say : (ms : List AssocDecl) → Contains (flat_map (λ (m : AssocDecl). inherited_in_clause w.text d m.clause) ms) j
      → Says d w (in_members w ms) j
  members_say ms c =
      let (m, k, h) = from_pieces (λ (m : AssocDecl). inherited_in_clause w.text d m.clause) ms j c in
      more (in_member w m) (in_members w ms) (λ r l. in_pieces (in_member w) ms m r k l) (member_says m h)

  pub direct_says : (p : ProtocolDecl) → Contains (direct w.text d p) j → Says d w (in_protocol w p) j
  direct_says p c =
      let head = in_bounds w Protocol self p.name.start p.inherits in
      let clause = in_clause w Protocol p.clause in
      let members = in_members w p.members in
      let clause_of = inherited_in_clause w.text d p.clause in
      let members_of = flat_map (λ (m : AssocDecl). inherited_in_clause w.text d m.clause) p.members in
      subst (λ rs. Says d w rs j) (sym (protocol_walked w p))
      (⊎_elim (λ h.
      more head (head ++ (clause ++ members)) (Contains-append_left head (clause ++ members)) (bounds_say p.name.start p.inherits h))
      (λ rest. more (clause ++ members) (head ++ (clause ++ members)) (Contains-append_right head (clause ++ members))
      (⊎_elim (λ h. more clause (clause ++ members) (Contains-append_left clause members) (clause_says p.clause h))
      (λ h. more members (clause ++ members) (Contains-append_right clause members) (members_say p.members h))
      (Contains-append_cases clause_of members_of j rest)))
      (Contains-append_cases (named_in w.text d p.inherits) (clause_of ++ members_of) j
      (subst (λ (js : List ℕ). Contains js j) (sym (same_direct w.text d p)) c)))
