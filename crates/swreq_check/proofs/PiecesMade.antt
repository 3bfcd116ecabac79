-- Pieces at their places.
use Rattle.std.proofs.Common.{◌≡◌, ◌≢◌, ◌⊎◌, ◌∙◌, inl, inr, sym, ap, subst, ℕ, ◌+◌, ◌<◌, arith, List, Option, Some, None, Contains, get_or, set, length}
use Rattle.std.proofs.lemmas.Bool.{cases_eq}
use Rattle.std.proofs.lemmas.List.{get_or_default, get_or-set_other, get_or-set_same, length-set}
use Rattle.std.proofs.lemmas.Option.{none-some, same_Some}
use Rattle.swreq_machine.specs.swreq_lowering.declared.ids.FuncId.{FuncId}
use Rattle.swreq_check.specs.declared.piece.Piece.{Piece}
use Rattle.swreq_check.specs.Made.{AreMade, AreMadeTo}

module _ (Is : ℕ → Piece → Type 0) (made_by : ℕ → Option FuncId) (count : ℕ) where
  -- nothing is made yet
  pub none_made : (pieces : List (Option Piece)) → length pieces ≡ count → ((k : ℕ) → get_or pieces k None ≡ None)
      → AreMade Is made_by count 0 pieces
  none_made pieces counted none = record {
    counted = counted;
    right = λ k piece e. absurd (none-some piece (sym (none k) ∙ e));
    filled = λ k f below by l. absurd (omega (arith, l));
  }

  module _ (signatures : ℕ) (pieces : List (Option Piece)) (h : AreMade Is made_by count signatures pieces) where
    -- a piece more at its place
    module _ (at : ℕ) (l : at < count) (piece : Piece) (is : Is at piece) where
      abbrev new : List (Option Piece)
      new = set pieces at (Some piece)

      here : get_or new at None ≡ Some piece
      here = get_or-set_same pieces at (Some piece) None (omega (arith, h.counted, l))

      right_at : (k : ℕ) (other : Piece) → get_or new k None ≡ Some other → (k ≡ at) ⊎ (k ≢ at) → Is k other
      right_at k other e (inl same) =
          subst (λ (n : ℕ). Is n other) (sym same)
          (subst (Is at) (same_Some piece other (sym here ∙ ap (λ (n : ℕ). get_or new n None) (sym same) ∙ e)) is)
      right_at k other e (inr n) = h.right k other (sym (get_or-set_other pieces at k (Some piece) None n) ∙ e)

      -- what is there stays
      pub stays : (k : ℕ) → (other : Piece) × (get_or pieces k None ≡ Some other) → (other : Piece) × (get_or new k None ≡ Some other)
      stays k (other, e) = elim (cases_eq k at) [
        | inl same ↦ (piece, ap (λ (n : ℕ). get_or new n None) same ∙ here)
        | inr n ↦ (other, get_or-set_other pieces at k (Some piece) None n ∙ e)
      ]

      pub one_made : AreMade Is made_by count signatures new
      one_made = record {
        counted = length-set pieces at (Some piece) ∙ h.counted;
        right = λ k other e. right_at k other e (cases_eq k at);
        filled = λ k f below by m. stays k (h.filled k f below by m);
      }

    -- the first places of the next signature, of which none is filled
    pub begin : (places : List ℕ) → AreMadeTo Is made_by count signatures places 0 pieces
    begin places = record { before = h; here = λ j l. absurd (omega (arith, l)) }

    -- all places of the next signature are filled
    pub next_signature : ((k : ℕ) (f : FuncId) → k < count → made_by k ≡ Some f → f.place ≡ signatures
        → (piece : Piece) × (get_or pieces k None ≡ Some piece))
        → AreMade Is made_by count (signatures + 1) pieces
    next_signature fills = record {
      counted = h.counted;
      right = h.right;
      filled = λ k f below by l. elim (cases_eq f.place signatures) [
        | inl e ↦ fills k f below by e
        | inr n ↦ h.filled k f below by (omega (arith, l, n))
      ];
    }

  -- one place more of the next signature
  pub go_on : (signatures : ℕ) (places : List ℕ) (next : ℕ) (pieces : List (Option Piece))
      → AreMadeTo Is made_by count signatures places next pieces
      → (l : get_or places next 0 < count) (piece : Piece) → Is (get_or places next 0) piece
      → AreMadeTo Is made_by count signatures places (next + 1) (set pieces (get_or places next 0) (Some piece))
  go_on signatures places next pieces h l piece is = record {
    before = one_made signatures pieces h.before (get_or places next 0) l piece is;
    here = λ j below. elim (cases_eq j next) [
      | inl e ↦ (
        piece,
        ap (λ (n : ℕ). get_or (set pieces (get_or places next 0) (Some piece)) (get_or places n 0) None) e
            ∙ get_or-set_same pieces (get_or places next 0) (Some piece) None (omega (arith, h.before.counted, l)),
      )
      | inr n ↦ stays signatures pieces h.before (get_or places next 0) l piece is (get_or places j 0) (h.here j (omega (arith, below, n)))
    ];
  }

  -- all places of the next signature
  pub go_through : (signatures : ℕ) (places : List ℕ) (pieces : List (Option Piece))
      → AreMadeTo Is made_by count signatures places (length places) pieces
      → ((k : ℕ) (f : FuncId) → k < count → made_by k ≡ Some f → f.place ≡ signatures → Contains places k)
      → AreMade Is made_by count (signatures + 1) pieces
  go_through signatures places pieces h are = next_signature signatures pieces h.before fills
    where
      fills : (k : ℕ) (f : FuncId) → k < count → made_by k ≡ Some f → f.place ≡ signatures
          → (piece : Piece) × (get_or pieces k None ≡ Some piece)
      fills k f below by e =
          let c = are k f below by e in
          let at : get_or places c.0 0 ≡ k = get_or_default places c.0 0 k c.1 ∙ c.2 in
          let found = h.here c.0 c.1 in
          (found.0, ap (λ (n : ℕ). get_or pieces n None) (sym at) ∙ found.1)

  -- the one piece of the next signature
  pub only_one : (signatures : ℕ) (pieces : List (Option Piece)) → AreMade Is made_by count signatures pieces → (at : ℕ)
      → at < count → (piece : Piece)
      → Is at piece → ((k : ℕ) (f : FuncId) → k < count → made_by k ≡ Some f → f.place ≡ signatures → k ≡ at)
      → AreMade Is made_by count (signatures + 1) (set pieces at (Some piece))
  only_one signatures pieces h at l piece is only =
      next_signature signatures (set pieces at (Some piece)) (one_made signatures pieces h at l piece is)
      (λ k f below by e. (
        piece,
        ap (λ (n : ℕ). get_or (set pieces at (Some piece)) n None) (only k f below by e)
            ∙ get_or-set_same pieces at (Some piece) None (omega (arith, h.counted, l)),
      ))
