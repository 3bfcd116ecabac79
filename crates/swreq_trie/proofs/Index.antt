-- What the nodes of a trie say, as sides are stored and sought.
use Rattle.std.proofs.Common.{◌≡◌, inl, inr, ℕ, ◌+◌, ◌<◌, ◌≤◌, max, min, get_or, take, List, [], ◌∷◌, ◌++◌, length, length-append, refl, sym, ◌∙◌, ap, subst, arith, Option, Some, Vec}
use Rattle.std.specs.List.{slice_get}
use Rattle.std.specs.declared.alloc.Global.{Global}
use Rattle.std.proofs.lemmas.Bool.{cases_lt, cases_eq}
use Rattle.std.proofs.lemmas.Option.{slice_get_within, get_or_from_slice_get}
use Rattle.swreq_rule.specs.swreq_word.declared.symbols.Symbol.{Symbol}
use Rattle.swreq_rule.proofs.swreq_word.Cuts.{same_cut}
use Rattle.swreq_trie.specs.declared.edges.Edge.{Edge}
use Rattle.swreq_trie.specs.declared.lengths.Lengths.{Lengths}
use Rattle.swreq_trie.specs.declared.spots.Spot.{Spot}
use Rattle.swreq_trie.specs.declared.trie.Entry.{Entry}
use Rattle.swreq_trie.specs.Paths.{IsForked, IsGrown, Leads}
use Rattle.swreq_trie.specs.Marks.{EndsAt, NoneEndsAt, SameEnds, Marked, IsListed, KeepsListed, ListsOnly, Forgets, AreCopies}
use Rattle.swreq_trie.specs.Walk.{NoEnd, FirstEnd}
use Rattle.swreq_trie.specs.Stored.{NoneBegins, Shortest}
use Rattle.swreq_trie.specs.Index.{IsIndex, FirstThere, HasSpot, IsPassing, IsPassingUpTo, IsOnWay, IsInside, IsInsideBelow, IsWithin, PassesRight, StandsRight, begin_of, spot_of}
use Rattle.swreq_rule.proofs.swreq_lemmas.Elements.{get_left, get_last, get_cases}
use Rattle.swreq_trie.proofs.Paths.{grown_itself, child_kept, leads_kept, one_end, one_word}
use Rattle.swreq_trie.proofs.Marks.{copies_keep, copies_keep_back, only_like}
use Rattle.swreq_trie.proofs.Ways.{front_is}

pub has_spot_kept : (edges edges' : List Edge) (inside inside' : List (Vec Spot Global)) → IsGrown edges edges' → KeepsListed inside inside'
    → (spot : Spot) (symbol : Symbol) → HasSpot edges inside spot symbol → HasSpot edges' inside' spot symbol
has_spot_kept edges edges' inside inside' g q spot symbol s = (s.0, child_kept edges edges' g 0 symbol s.0 s.1, q s.0 spot s.2)

pub passing_kept : (edges edges' : List Edge) (passing passing' : List (Vec Spot Global)) → IsGrown edges edges'
    → KeepsListed passing passing'
    → (begin : Spot) (left : List Symbol) (n : ℕ) → IsPassingUpTo edges passing begin left n → IsPassingUpTo edges' passing' begin left n
passing_kept edges edges' passing passing' g q begin left n h front rest e some short =
    let r = h front rest e some short in (r.0, leads_kept edges edges' g front 0 r.0 r.1, q r.0 begin r.2)

pub way_kept : (edges edges' : List Edge) → IsGrown edges edges' → (left : List Symbol) (node : ℕ) → IsOnWay edges left node
    → IsOnWay edges' left node
way_kept edges edges' g left node w = (w.0, w.1, w.2, leads_kept edges edges' g w.0 0 node w.3)

-- what is listed besides is the start of a side, on its way over more edges too
pub only_on_way : (edges edges' : List Edge) → IsGrown edges edges' → (begin : Spot) (left : List Symbol) (old new : List (Vec Spot Global))
    → ListsOnly old new (λ n s. (s ≡ begin) × IsOnWay edges left n)
    → ListsOnly old new (λ n s. (s ≡ begin) × IsOnWay edges' left n)
only_on_way edges edges' g begin left old new =
    only_like (λ n s. (s ≡ begin) × IsOnWay edges left n) (λ n s. (s ≡ begin) × IsOnWay edges' left n) old new
    (λ n s h. (h.0, way_kept edges edges' g left n h.1))

pub within_kept : (edges edges' : List Edge) → IsGrown edges edges' → (left : List Symbol) (at node : ℕ) → IsWithin edges left at node
    → IsWithin edges' left at node
within_kept edges edges' g left at node w = (w.0, w.1, w.2, child_kept edges edges' g 0 w.0 node w.3)

passes_kept : (edges edges' : List Edge) → IsGrown edges edges' → (stored : List Entry) (node : ℕ) (spot : Spot)
    → PassesRight edges stored node spot
    → PassesRight edges' stored node spot
passes_kept edges edges' g stored node spot r =
    record { entry = r.entry; is_entry = r.is_entry; spot_is = r.spot_is; on_way = way_kept edges edges' g r.entry.left node r.on_way }

stands_kept : (edges edges' : List Edge) → IsGrown edges edges' → (stored : List Entry) (node : ℕ) (spot : Spot)
    → StandsRight edges stored node spot
    → StandsRight edges' stored node spot
stands_kept edges edges' g stored node spot r =
    record {
      entry = r.entry;
      is_entry = r.is_entry;
      spot_is = r.spot_is;
      within = within_kept edges edges' g r.entry.left spot.at node r.within;
    }

-- nothing is listed yet
pub none_passing : (edges : List Edge) (passing : List (Vec Spot Global)) (begin : Spot) (left : List Symbol)
    → IsPassingUpTo edges passing begin left 0
none_passing edges passing begin left front rest e some short = absurd (omega (arith, some, short))

pub none_inside : (edges : List Edge) (inside : List (Vec Spot Global)) (k : ℕ) (entry : Entry) → IsInsideBelow edges inside k entry 1
none_inside edges inside k entry at symbol l m e = absurd (omega (arith, l, m))

-- a symbol more on the way
pub passing_on : (edges : List Edge) (passing : List (Vec Spot Global)) (begin : Spot) (left : List Symbol) (n node : ℕ)
    → IsPassingUpTo edges passing begin left n
    → Leads edges 0 (take (n + 1) left) node → IsListed passing node begin → IsPassingUpTo edges passing begin left (n + 1)
passing_on edges passing begin left n node below leads listed front rest e some short = elim (cases_lt n (length front)) [
  | inr l ↦ below front rest e some l
  | inl l ↦ (node, subst (λ x. Leads edges 0 x node) (sym (front_is left front rest (n + 1) e (omega (arith, l, short)))) leads, listed)
]

-- a place more
pub inside_on : (edges edges' : List Edge) (inside inside' : List (Vec Spot Global)) (k : ℕ) (entry : Entry) (n : ℕ) (d : Symbol)
    → IsGrown edges edges' → KeepsListed inside inside' → IsInsideBelow edges inside k entry n
    → HasSpot edges' inside' (spot_of k entry n) (get_or entry.left n d) → IsInsideBelow edges' inside' k entry (n + 1)
inside_on edges edges' inside inside' k entry n d g q below here at symbol some l e = elim (cases_eq at n) [
  | inl i ↦ (let f : slice_get entry.left n ≡ Some symbol = rw (← i) e in
      let same : get_or entry.left n d ≡ symbol = get_or_from_slice_get entry.left n symbol d f in
      subst (λ m. HasSpot edges' inside' (spot_of k entry m) symbol) (sym i) (subst (HasSpot edges' inside' (spot_of k entry n)) same here))
  | inr i ↦ has_spot_kept edges edges' inside inside' g q (spot_of k entry at) symbol (below at symbol some (omega (arith, l, i)) e)
]

pub all_inside : (edges : List Edge) (inside : List (Vec Spot Global)) (k : ℕ) (entry : Entry) (n : ℕ) → length entry.left ≤ n
    → IsInsideBelow edges inside k entry n → IsInside edges inside k entry
all_inside edges inside k entry n le h at symbol some l e = h at symbol some (omega (arith, l, le)) e

pub index_of_none : (lengths : Lengths) → IsIndex [] [] [] [] lengths []
index_of_none lengths = record {
  forked = λ node symbol a b p q. (let e = p.2 in cc);
  some = λ k entry e. cc;
  none_longer = λ k entry e. cc;
  none_shorter = λ k entry e. cc;
  ends_right = λ node place e. cc;
  has_end = λ k entry e. cc;
  is_passing = λ k entry e. cc;
  is_inside = λ k entry e. cc;
  passing_right = λ node spot h. (let e = h.1 in cc);
  inside_right = λ node spot h. (let e = h.1 in cc);
}

module _ (edges edges' : List Edge) (ends ends' : List (Option ℕ))
    (passing passing' inside inside' : List (Vec Spot Global)) (lengths : Lengths)
    (stored : List Entry) (index : IsIndex edges ends passing inside lengths stored) (grown : IsGrown edges edges') (fork : IsForked edges')
    (same : SameEnds ends ends') (begun : KeepsListed passing passing') (within : KeepsListed inside inside')
    (begun_only : KeepsListed passing' passing)
    (within_only : KeepsListed inside' inside) where
  -- where more edges and room come in, it stays an index of the same sides
  pub index_grown : IsIndex edges' ends' passing' inside' lengths stored
  index_grown = record {
    forked = fork;
    some = index.some;
    none_longer = index.none_longer;
    none_shorter = index.none_shorter;
    ends_right = λ node number e. (let r = index.ends_right node number ((same node number).1 e) in
        record {
          side = r.side;
          entry = r.entry;
          is_entry = r.is_entry;
          number_is = r.number_is;
          leads = leads_kept edges edges' grown r.entry.left 0 node r.leads;
          first = r.first;
        });
    has_end = λ k entry e. (let h = index.has_end k entry e in
        (h.0, h.1, leads_kept edges edges' grown entry.left 0 h.0 h.2, (same h.0 h.1).0 h.3));
    is_passing = λ k entry e. passing_kept edges edges' passing passing' grown begun (begin_of k entry) entry.left (length entry.left)
        (index.is_passing k entry e);
    is_inside = λ k entry e at symbol some l g. has_spot_kept edges edges' inside inside' grown within (spot_of k entry at) symbol
        (index.is_inside k entry e at symbol some l g);
    passing_right = λ node spot h. passes_kept edges edges' grown stored node spot (index.passing_right node spot (begun_only node spot h));
    inside_right = λ node spot h. stands_kept edges edges' grown stored node spot (index.inside_right node spot (within_only node spot h));
  }

-- a copy of all that it has
pub index_copied : (edges edges' : List Edge) (ends ends' : List (Option ℕ))
    (passing passing' inside inside' : List (Vec Spot Global)) (lengths : Lengths)
    (stored stored' : List Entry) → IsIndex edges ends passing inside lengths stored → edges' ≡ edges → ends' ≡ ends
    → AreCopies passing passing'
    → AreCopies inside inside' → stored' ≡ stored → IsIndex edges' ends' passing' inside' lengths stored'
index_copied edges edges' ends ends' passing passing' inside inside' lengths stored stored' index e f begun within g =
    rw (e, f, g) (index_grown edges edges ends ends passing passing' inside inside' lengths stored index (grown_itself edges) index.forked
    (λ node number. ((λ h. h), (λ h. h))) (copies_keep passing passing' begun) (copies_keep inside inside' within)
    (copies_keep_back passing passing' begun)
    (copies_keep_back inside inside' within))

-- the way of a side was made, which is not stored yet
module _ (edges edges' : List Edge) (ends ends' : List (Option ℕ))
    (passing passing' inside inside' : List (Vec Spot Global)) (lengths : Lengths)
    (stored : List Entry) (index : IsIndex edges ends passing inside lengths stored) (entry : Entry)
    (side : ℕ) (is_side : side ≡ length stored) (grown : IsGrown edges edges')
    (fork : IsForked edges')
    (same : SameEnds ends ends') (begun : KeepsListed passing passing') (within : KeepsListed inside inside')
    (passes_at : ListsOnly passing passing' (λ n s. (s ≡ begin_of side entry) × IsOnWay edges' entry.left n))
    (stands_at : ListsOnly inside inside' (λ n s. (at : ℕ) × (s ≡ spot_of side entry at) × IsWithin edges' entry.left at n)) where
  passes : ListsOnly passing passing' (λ n s. (s ≡ begin_of (length stored) entry) × IsOnWay edges' entry.left n)
  passes = subst (λ k. ListsOnly passing passing' (λ n s. (s ≡ begin_of k entry) × IsOnWay edges' entry.left n)) is_side passes_at

  stands : ListsOnly inside inside' (λ n s. (at : ℕ) × (s ≡ spot_of (length stored) entry at) × IsWithin edges' entry.left at n)
  stands = subst (λ k. ListsOnly inside inside' (λ n s. (at : ℕ) × (s ≡ spot_of k entry at) × IsWithin edges' entry.left at n))
      is_side stands_at

  -- if memory runs out, its spots are forgotten
  module _ (passing'' inside'' : List (Vec Spot Global))
      (forgot : Forgets passing' passing'' side)
      (forgot_inside : Forgets inside' inside'' side) where
    below_passing : (node : ℕ) (spot : Spot) → IsListed passing node spot → spot.side < side
    below_passing node spot h =
        let r = index.passing_right node spot h in let l = slice_get_within stored spot.side r.entry r.is_entry in omega (arith, l, is_side)

    below_inside : (node : ℕ) (spot : Spot) → IsListed inside node spot → spot.side < side
    below_inside node spot h =
        let r = index.inside_right node spot h in let l = slice_get_within stored spot.side r.entry r.is_entry in omega (arith, l, is_side)

    pub index_forgot : IsIndex edges' ends' passing'' inside'' lengths stored
    index_forgot = index_grown edges edges' ends ends' passing passing'' inside inside'' lengths stored index grown fork same
        (λ node spot h. forgot.all node spot (begun node spot h) (below_passing node spot h))
        (λ node spot h. forgot_inside.all node spot (within node spot h) (below_inside node spot h))
        (λ node spot h. (let r = forgot.only node spot h in elim (passes node spot r.0) [
          | inl i ↦ i
          | inr i ↦ absurd (let l = r.1 in let e = ap (λ (s : Spot). s.side) i.0 in omega (arith, l, e, is_side))
        ]))
        (λ node spot h. (let r = forgot_inside.only node spot h in elim (stands node spot r.0) [
          | inl i ↦ i
          | inr i ↦ absurd (let l = r.1 in let e = ap (λ (s : Spot). s.side) i.1 in omega (arith, l, e, is_side))
        ]))

  -- a side more
  module _ (ends'' : List (Option ℕ)) (node : ℕ) (leads : Leads edges' 0 entry.left node) (marked : Marked ends' ends'' node entry.number)
      (listed_at : IsPassing edges' passing' (begin_of side entry) entry.left)
      (spots_at : IsInside edges' inside' side entry)
      (long : 0 < length entry.left) where
    listed : IsPassing edges' passing' (begin_of (length stored) entry) entry.left
    listed = subst (λ k. IsPassing edges' passing' (begin_of k entry) entry.left) is_side listed_at

    spots : IsInside edges' inside' (length stored) entry
    spots = subst (λ k. IsInside edges' inside' k entry) is_side spots_at

    abbrev more : List Entry
    more = stored ++ entry ∷ []

    has_end' : (k : ℕ) (e : Entry) → slice_get stored k ≡ Some e → (n : ℕ) × (p : ℕ) × Leads edges' 0 e.left n × EndsAt ends' n p
    has_end' k e g = let h = index.has_end k e g in (h.0, h.1, leads_kept edges edges' grown e.left 0 h.0 h.2, (same h.0 h.1).0 h.3)

    -- the first there stays the first
    first_still : (m p : ℕ) → EndsAt ends' m p → FirstThere edges' more m p
    first_still m p h = let r = index.ends_right m p ((same m p).1 h) in record {
      side = r.side;
      entry = r.entry;
      is_entry = get_left stored (entry ∷ []) r.side r.entry r.is_entry;
      number_is = r.number_is;
      leads = leads_kept edges edges' grown r.entry.left 0 m r.leads;
      first = λ k other g even. elim (get_cases stored entry k other g) [
        | inl i ↦ r.first k other i even
        | inr i ↦ (let j = i.0 in let l = slice_get_within stored r.side r.entry r.is_entry in omega (arith, l, j))
      ];
    }

    -- the new one is the first where none ended
    first_new : NoneEndsAt ends' node → FirstThere edges' more node entry.number
    first_new none = record {
      side = length stored;
      entry = entry;
      is_entry = get_last stored entry;
      number_is = refl;
      leads = leads;
      first = λ k other g even. elim (get_cases stored entry k other g) [
        | inl h ↦ (let e = has_end' k other h in
            let there : e.0 ≡ node = one_end edges' fork entry.left 0 e.0 node (subst (λ x. Leads edges' 0 x e.0) even e.2) leads in
            absurd (none e.1 (subst (λ n. EndsAt ends' n e.1) there e.3)))
        | inr h ↦ (let i = h.0 in omega (arith, i))
      ];
    }

    passes_still : (n : ℕ) (spot : Spot) → PassesRight edges stored n spot → PassesRight edges' more n spot
    passes_still n spot r = record {
      entry = r.entry;
      is_entry = get_left stored (entry ∷ []) spot.side r.entry r.is_entry;
      spot_is = r.spot_is;
      on_way = way_kept edges edges' grown r.entry.left n r.on_way;
    }

    stands_still : (n : ℕ) (spot : Spot) → StandsRight edges stored n spot → StandsRight edges' more n spot
    stands_still n spot r = record {
      entry = r.entry;
      is_entry = get_left stored (entry ∷ []) spot.side r.entry r.is_entry;
      spot_is = r.spot_is;
      within = within_kept edges edges' grown r.entry.left spot.at n r.within;
    }

    passes_new : (n : ℕ) (spot : Spot) → spot ≡ begin_of (length stored) entry → IsOnWay edges' entry.left n
        → PassesRight edges' more n spot
    passes_new n spot e way =
        subst (PassesRight edges' more n) (sym e) (record { entry = entry; is_entry = get_last stored entry; spot_is = refl; on_way = way })

    stands_new : (n : ℕ) (spot : Spot) (at : ℕ) → spot ≡ spot_of (length stored) entry at → IsWithin edges' entry.left at n
        → StandsRight edges' more n spot
    stands_new n spot at e w =
        subst (StandsRight edges' more n) (sym e) (record { entry = entry; is_entry = get_last stored entry; spot_is = refl; within = w })

    pub index_more : (new : List Entry) (lengths' : Lengths) → new ≡ stored ++ entry ∷ []
        → lengths'.shortest ≡ min lengths.shortest (length entry.left)
        → lengths'.longest ≡ max lengths.longest (length entry.left) → IsIndex edges' ends'' passing' inside' lengths' new
    index_more new lengths' is least most = rw is (record {
      forked = fork;
      some = λ k e g. elim (get_cases stored entry k e g)
          [ inl h ↦ index.some k e h | inr h ↦ subst (λ (x : Entry). 0 < length x.left) (sym h.1) long ];
      none_longer = λ k e g. elim (get_cases stored entry k e g) [
        | inl h ↦ (let l = index.none_longer k e h in omega (arith, l, most))
        | inr h ↦ subst (λ (x : Entry). length x.left ≤ lengths'.longest) (sym h.1) (omega (arith, most))
      ];
      none_shorter = λ k e g. elim (get_cases stored entry k e g) [
        | inl h ↦ (let l = index.none_shorter k e h in omega (arith, l, least))
        | inr h ↦ subst (λ (x : Entry). lengths'.shortest ≤ length x.left) (sym h.1) (omega (arith, least))
      ];
      ends_right = λ m p g. elim (marked.only m p g) [
        | inl h ↦ first_still m p h
        | inr h ↦ rw (h.0, h.1) (first_new h.2)
      ];
      has_end = λ k e g. elim (get_cases stored entry k e g) [
        | inl h ↦ (let r = has_end' k e h in (r.0, r.1, r.2, marked.kept r.0 r.1 r.3))
        | inr h ↦ rw h.1 (node, marked.here.0, leads, marked.here.1)
      ];
      is_passing = λ k e g. elim (get_cases stored entry k e g) [
        | inl h ↦ passing_kept edges edges' passing passing' grown begun (begin_of k e) e.left (length e.left) (index.is_passing k e h)
        | inr h ↦ rw (h.0, h.1) listed
      ];
      is_inside = λ k e g. elim (get_cases stored entry k e g) [
        | inl h ↦ (λ at symbol some l f.
            has_spot_kept edges edges' inside inside' grown within (spot_of k e at) symbol (index.is_inside k e h at symbol some l f))
        | inr h ↦ rw (h.0, h.1) spots
      ];
      passing_right = λ m spot g.
          elim (passes m spot g) [ inl h ↦ passes_still m spot (index.passing_right m spot h) | inr h ↦ passes_new m spot h.0 h.1 ];
      inside_right = λ m spot g.
          elim (stands m spot g) [ inl h ↦ stands_still m spot (index.inside_right m spot h) | inr h ↦ stands_new m spot h.0 h.1 h.2 ];
    })

-- what the way of a word says of the stored sides
module _ (edges : List Edge) (ends : List (Option ℕ)) (passing inside : List (Vec Spot Global)) (lengths : Lengths)
    (stored : List Entry) (index : IsIndex edges ends passing inside lengths stored) (w : List Symbol) where
  pub none_begins : NoEnd edges ends w → NoneBegins stored w
  none_begins none k entry e b =
      let h = index.has_end k entry e in
      let size = simp length-append at (ap length b.1) in
      none entry.left b.0 h.0 h.1 b.1 (index.some k entry e) (omega (arith, size)) h.2 h.3

  pub shortest : (number : ℕ) → FirstEnd edges ends w number → Shortest stored w number
  shortest number f =
      let r = index.ends_right f.node number f.ends_there in
      let word : r.entry.left ≡ f.front = one_word edges r.entry.left f.front f.node r.leads f.leads in
      record {
        side = r.side;
        entry = r.entry;
        is_entry = r.is_entry;
        number_is = r.number_is;
        begins = (f.rest, f.cut ∙ ap (λ x. x ++ f.rest) (sym word));
        least = λ k other g b. (let h = index.has_end k other g in
            elim (cases_lt (length r.entry.left) (length other.left)) [
              | inl l ↦ inl l
              | inr l ↦ elim (cases_lt f.count (length other.left)) [
                | inr m ↦ absurd (f.none_before other.left b.0 h.0 h.1 b.1 (index.some k other g) m h.2 h.3)
                | inl m ↦ (let sizes = ap length word in let next = f.next in let longer = f.longer in
                    let even : length other.left ≡ length f.front = omega (arith, l, m, sizes, next) in
                    let cut = same_cut other.left b.0 f.front f.rest (sym b.1 ∙ f.cut) even in
                    inr (omega (arith, sizes, even), r.first k other g (cut.0 ∙ sym word)))
              ]
            ]);
      }

  -- none begins a word that is shorter than all of them
  pub none_so_short : length w < lengths.shortest → NoneBegins stored w
  none_so_short short k entry e b =
      let size = simp length-append at (ap length b.1) in let l = index.none_shorter k entry e in absurd (omega (arith, size, short, l))
