-- Where kind 3 leaves several pieces: one is the further piece of each variable that holds values outside the row. So many they are, and the loop that
-- goes down through the variables places them. Assumes nothing.
use mathlib.Core.Path.{◌≡◌, refl, sym, ap, ◌∙◌, subst}
use mathlib.Core.Logic.{inr}
use mathlib.Core.Bool.{true, false, not, cond, ◌&&◌}
use mathlib.Core.List.{List, [], ◌∷◌, ◌++◌}
use Prim.Native.Nat.{ℕ, zero, suc, ◌+◌, ◌-◌, ◌*◌, ◌≤◌, ◌<◌}
use native.Mathlib.Omega.{arith}
use native.Mathlib.Nat.{le_refl, add-zero}
use native.Mathlib.Decide.{dec_lt, ℕ_discrete}
use lib.ListN.{length, get_or, length-set, length-append}
use lib.Seq.{get_or-set_same, get_or-set_other, ext_get_or}
use lib.Dec.{eqb}
use borrow.Author.Tests.{eq-eqb, ne_eqb, le-leb, lt-ltb, le-ltb}
use Rattle.problem.specs.Masks.{single, common, minus}
use Rattle.problem.specs.Problem.{table_of}
use Rattle.problem.specs.Lists.{total, changed, splice}
use Rattle.splits.specs.Subproblems.{domain, empty}
use Rattle.splits.specs.Splits.{without, cut, cut_each, cut_beside, precluded_by, disjunct, inferred, pieces, candidates, candidate}
use Rattle.splits.specs.Calls.{readable, Piece, Candidates}
use Rattle.splits.specs.declared.subproblem.Subproblem.{Subproblem}
use Rattle.problem.proofs.mask.Masks.{common_none, none_minus, minus_part, part_lt, all_common, all_minus}
use Rattle.problem.proofs.Tests.{true_false, some_none, some_all_not}
use Rattle.problem.proofs.Changed.{changed_next}
use Rattle.splits.proofs.subproblem.Domains.{length_changed, changed_before, changed_after}
use Rattle.splits.proofs.subproblem.Subproblems.{empty_at, precluded_empty}
use Rattle.search.specs.Agenda.{slot_words}
use Rattle.searches.specs.Chooser.{request}
use Rattle.search.specs.Loops.Slots.{SlotIn}
use Rattle.search.specs.Loops.Steps.{Replaced}
use Rattle.splits.specs.AtOnce.{outside_to, filled}
use Rattle.search.specs.Loops.Found.{FurtherOf, FurtherPiece, several, value_in}
use Rattle.search.specs.declared.chooser.Choice.{Choice}
use Rattle.search.specs.declared.chooser.Further.{Further}
use Rattle.search.proofs.step.Candidates.{firsts, firsts_start, firsts_drop, firsts_keep, pieces_are}
use Rattle.search.proofs.step.Gathering.{Gathered, gather_none, gather_drop, gather_slot, gather_keep, gather_replaced}
use Rattle.search.proofs.lanes.AtOnce.{word}
use Rattle.search.proofs.chooser.Lone.{some_left}
use Rattle.search.proofs.chooser.Settling.{AtTop, RoomFor, several_kept, several_more, put_variable, put_member, put_reads, put_precluded, put_kept}

module _ (n d : ℕ) (t : List ℕ) (P : Subproblem) (c : Choice) (below words : ℕ) (h : AtTop n d t P c below words) (s : several c ≡ true) where
  abbrev r : List ℕ
  r = request 3 c.variable (value_in P c)

  -- V without v; and the variables before j cut to what is allowed beside it.
  less : List ℕ
  less = (without P c.variable (single (value_in P c))).domains

  besides : ℕ → ℕ → ℕ
  besides i m = cond (eqb i c.variable) m (common m (table_of n d t c.variable i (value_in P c)))

  abbrev pub cut_down : ℕ → List ℕ
  cut_down j = (cut_beside (table_of n d t) (without P c.variable (single (value_in P c))) c.variable (value_in P c) j).domains

  cut_is : (j : ℕ) → cut_down j ≡ changed j besides less
  unfolding cut_beside besides less
  cut_is j = refl

  below_n : c.variable < n
  below_n = put_variable n d t P c below words h

  few : n ≤ 32
  few = h.fitting.few

  long : length less ≡ 32
  unfolding less without
  long = length-set P.domains c.variable _ ∙ h.regular.shape.long

  -- What it holds at V and elsewhere.
  less_own : get_or less c.variable 0 ≡ minus (domain P c.variable) (single (value_in P c))
  unfolding less without
  less_own = get_or-set_same P.domains c.variable _ 0 (omega (arith, below_n, few, h.regular.shape.long))

  less_other : (i : ℕ) → (i ≡ c.variable → ⊥) → get_or less i 0 ≡ domain P i
  unfolding less without
  less_other i k = get_or-set_other P.domains c.variable i _ 0 k

  less_past : (i : ℕ) → n ≤ i → get_or less i 0 ≡ 0
  less_past i k = less_other i (λ e. omega (arith, below_n)) ∙ h.regular.shape.past i k

  less_some : (i : ℕ) → i < n → get_or less i 0 ≡ 0 → ⊥
  less_some i l z = elim (ℕ_discrete i c.variable) [
    | yes e ↦
        some_left n d (table_of n d t) P c.variable (value_in P c) few h.regular below_n (put_member n d t P c below words h)
        (several_more n d t P c h.found s)
        (sym less_own ∙ rw e at z)
    | no k ↦ h.regular.filled i l (sym (less_other i k) ∙ z)
  ]

  -- What is allowed leaves something of each other variable.
  cut_some : (i : ℕ) → i < n → (i ≡ c.variable → ⊥) → common (domain P i) (table_of n d t c.variable i (value_in P c)) ≡ 0 → ⊥
  cut_some i l k z =
      let none =
      precluded_empty n (table_of n d t) P c.variable (value_in P c) h.regular.shape.long below_n few ∙ sym h.found.lost ∙ several_kept c s in
      let at = some_none (λ i. not (eqb i c.variable) && eqb (common (domain P i) (table_of n d t c.variable i (value_in P c))) 0) n i l none in
      true_false (rw (ne_eqb i c.variable k, eq-eqb (common (domain P i) (table_of n d t c.variable i (value_in P c))) 0 z) at at)

  -- Kind 3's words and places.
  reads : readable n d t r ≡ true
  reads = put_reads n d t P c below words h 3 (inr refl)

  its_named : Candidates n r (n + 1)
  unfolding candidates
  its_named = rw (le-leb n 32 few) refl

  piece_of : (k : ℕ) (Q : Subproblem) → k < n + 1 → Q ≡ candidate n (table_of n d t) P r k → Piece P n d t r k Q
  unfolding candidates
  piece_of k Q l e = e ∙ rw (reads, lt-ltb k (n + 1) l) refl

  -- V's own candidate is empty.
  own_empty : empty n (cut P c.variable 0) ≡ true
  unfolding cut
  own_empty =
      sym (empty_at n (cut P c.variable 0) c.variable below_n
      (get_or-set_same P.domains c.variable _ 0 (omega (arith, below_n, few, h.regular.shape.long)) ∙ common_none (domain P c.variable)))

  -- ---- what the pieces are made of

  module _ (f : Further) (its : FurtherOf P c f) where
    -- V without v; the row, with all values for V.
    rest_is : f.rest ≡ without P c.variable (single (value_in P c))
    rest_is = its.rest ∙ ap (without P c.variable) h.found.row.own

    rest_domains : f.rest.domains ≡ less
    unfolding less
    rest_domains = ap (λ (Q : Subproblem). Q.domains) rest_is

    row_own : get_or f.row c.variable 0 ≡ 65535
    row_own =
        ap (λ (l : List ℕ). get_or l c.variable 0) its.row ∙ get_or-set_same c.row c.variable 65535 0
        (omega (arith, below_n, few, h.found.row.long))

    row_other : (i : ℕ) → i < n → (i ≡ c.variable → ⊥) → get_or f.row i 0 ≡ table_of n d t c.variable i (value_in P c)
    row_other i l k = ap (λ (l : List ℕ). get_or l i 0) its.row ∙ get_or-set_other c.row c.variable i 65535 0 k ∙ h.found.row.other i l k

    -- A domain is a word of 16 bits.
    less_word : (i : ℕ) → get_or less i 0 < 65536
    less_word i = elim (ℕ_discrete i c.variable) [
      | yes e ↦
          rw (e, less_own)
          (part_lt 16 _ _ (minus_part (domain P c.variable) (single (value_in P c))) (word n d P few h.fitting.small h.regular c.variable))
      | no k ↦ rw (less_other i k) (word n d P few h.fitting.small h.regular i)
    ]

    -- What is outside the row.
    out_by : (i : ℕ) → i < 32 → get_or f.out i 0 ≡ minus (get_or less i 0) (get_or f.row i 0)
    unfolding outside_to
    out_by i l =
        ap (λ (l : List ℕ). get_or l i 0) its.out
        ∙ changed_before 32 (λ j m. minus m (get_or f.row j 0)) f.rest.domains i l (rw rest_domains (omega (arith, long)))
        ∙ ap (λ (l : List ℕ). minus (get_or l i 0) (get_or f.row i 0)) rest_domains

    out_own : get_or f.out c.variable 0 ≡ 0
    out_own = out_by c.variable (omega (arith, below_n, few)) ∙ rw row_own (all_minus 16 (get_or less c.variable 0) (less_word c.variable))

    out_other : (i : ℕ) → i < n → (i ≡ c.variable → ⊥) → get_or f.out i 0 ≡ minus (get_or less i 0) (table_of n d t c.variable i (value_in P c))
    out_other i l k = out_by i (omega (arith, few)) ∙ rw (row_other i l k) refl

    out_past : (i : ℕ) → n ≤ i → i < 32 → get_or f.out i 0 ≡ 0
    out_past i l k = out_by i k ∙ rw (less_past i l) (none_minus (get_or f.row i 0))

    -- ---- the piece of a variable
    module _ (j : ℕ) (l : 0 < j) (le : j ≤ n) where
      abbrev rest : ℕ
      rest = get_or f.out (j - 1) 0

      other_rest : (j - 1 ≡ c.variable → ⊥) → rest ≡ minus (get_or less (j - 1) 0) (table_of n d t c.variable (j - 1) (value_in P c))
      other_rest k = out_other (j - 1) (omega arith) k

      -- V's own has nothing left.
      pub rest_other : (rest ≡ 0 → ⊥) → j - 1 ≡ c.variable → ⊥
      rest_other k e = k (rw e out_own)

      -- The candidate in its place.
      candidate_own : j - 1 ≡ c.variable → candidate n (table_of n d t) P r j ≡ cut P c.variable 0
      unfolding candidate inferred
      candidate_own e = rw (ne_eqb j 0 (λ z. omega arith), eq-eqb (j - 1) c.variable e) refl

      candidate_other : (j - 1 ≡ c.variable → ⊥) → candidate n (table_of n d t) P r j ≡ disjunct (table_of n d t) P c.variable (value_in P c) (j - 1)
      unfolding candidate inferred
      candidate_other e = rw (ne_eqb j 0 (λ z. omega arith), ne_eqb (j - 1) c.variable e) refl

      -- What the further piece holds for its own variable, and for another.
      here : domain (disjunct (table_of n d t) P c.variable (value_in P c) (j - 1)) (j - 1)
          ≡ minus (get_or less (j - 1) 0) (table_of n d t c.variable (j - 1) (value_in P c))
      unfolding disjunct without
      here =
          get_or-set_same (cut_down (j - 1)) (j - 1) _ 0 (rw (cut_is (j - 1), length_changed (j - 1) besides less) (omega (arith, long, few)))
          ∙ ap (λ (m : ℕ). minus m (table_of n d t c.variable (j - 1) (value_in P c))) (rw (cut_is (j - 1)) (changed_next (j - 1) besides less))

      elsewhere : (i : ℕ) → (i ≡ j - 1 → ⊥)
          → domain (disjunct (table_of n d t) P c.variable (value_in P c) (j - 1)) i ≡ get_or (changed (j - 1) besides less) i 0
      unfolding disjunct without
      elsewhere i k = get_or-set_other (cut_down (j - 1)) (j - 1) i _ 0 k ∙ rw (cut_is (j - 1)) refl

      -- The candidate is empty where nothing is left.
      none_left : rest ≡ 0 → empty n (candidate n (table_of n d t) P r j) ≡ true
      none_left z = elim (ℕ_discrete (j - 1) c.variable) [
        | yes e ↦ rw (candidate_own e) own_empty
        | no k ↦
            rw (candidate_other k)
            (sym (empty_at n (disjunct (table_of n d t) P c.variable (value_in P c) (j - 1)) (j - 1) (omega arith) (here ∙ sym (other_rest k) ∙ z)))
      ]

      -- It is not where something is.
      some_rest : (rest ≡ 0 → ⊥) → empty n (candidate n (table_of n d t) P r j) ≡ false
      unfolding empty besides
      some_rest k =
          rw (candidate_other (rest_other k))
          (some_all_not (λ i. eqb (domain (disjunct (table_of n d t) P c.variable (value_in P c) (j - 1)) i) 0) n (λ i q. ne_eqb _ 0 (at i q)))
        where
          at : (i : ℕ) → i < n → domain (disjunct (table_of n d t) P c.variable (value_in P c) (j - 1)) i ≡ 0 → ⊥
          at i q z = elim (ℕ_discrete i (j - 1)) [
            | yes e ↦ k (other_rest (rest_other k) ∙ sym here ∙ rw e at z)
            | no w ↦ elim (dec_lt i (j - 1)) [
              | yes b ↦
                  let m : cond (eqb i c.variable) (get_or less i 0) (common (get_or less i 0) (table_of n d t c.variable i (value_in P c))) ≡ 0 =
                  sym (changed_before (j - 1) besides less i b (omega (arith, long, few))) ∙ sym (elsewhere i w) ∙ z in
                  elim (ℕ_discrete i c.variable) [
                    | yes e ↦ less_some i q (rw (eq-eqb i c.variable e) at m)
                    | no o ↦ cut_some i q o (rw (ne_eqb i c.variable o, less_other i o) at m)
                  ]
              | no b ↦ less_some i q (sym (changed_after (j - 1) besides less i (omega arith)) ∙ sym (elsewhere i w) ∙ z)
            ]
          ]

      -- The piece that the code makes is the candidate.
      module _ (Q : Subproblem) (q : FurtherPiece f (j - 1) Q) (k : rest ≡ 0 → ⊥) where
        abbrev masks : List ℕ
        masks = q.0

        abbrev made : List ℕ
        made = changed 32 (λ i m. common m (get_or masks i 0)) less

        made_at : (i : ℕ) → i < 32 → get_or made i 0 ≡ get_or (changed (j - 1) besides less) i 0
        unfolding besides
        made_at i b =
            changed_before 32 (λ i m. common m (get_or masks i 0)) less i b (omega (arith, long)) ∙ q.1.each i b (get_or less i 0) (less_word i)
            ∙ elim (dec_lt i (j - 1)) [
              | yes u ↦ rw (lt-ltb i (j - 1) u) (cut_at u) ∙ sym (changed_before (j - 1) besides less i u (omega (arith, long)))
              | no u ↦ rw (le-ltb i (j - 1) (omega arith)) (sym (changed_after (j - 1) besides less i (omega arith)))
            ]
          where
            cut_at : i < j - 1
                → common (get_or less i 0) (get_or f.row i 0) ≡ cond (eqb i c.variable) (get_or less i 0) (common (get_or less i 0) (table_of n d t c.variable i (value_in P c)))
            cut_at u = elim (ℕ_discrete i c.variable) [
              | yes e ↦ rw (eq-eqb i c.variable e) (rw (e, row_own) (all_common 16 (get_or less c.variable 0) (less_word c.variable)))
              | no w ↦ rw (ne_eqb i c.variable w, row_other i (omega arith) w) refl
            ]

        made_long : length made ≡ 32
        made_long = length_changed 32 (λ i m. common m (get_or masks i 0)) less ∙ long

        all : made ≡ changed (j - 1) besides less
        all = ext_get_or 0 _ _ (made_long ∙ sym (length_changed (j - 1) besides less ∙ long)) (λ i b. made_at i (omega (arith, made_long)))

        cut_same : cut_each f.rest masks
            ≡ cut_beside (table_of n d t) (without P c.variable (single (value_in P c))) c.variable (value_in P c) (j - 1)
        unfolding cut_each cut_beside
        cut_same =
            let marks : f.rest.marked ≡ (without P c.variable (single (value_in P c))).marked = ap (λ (R : Subproblem). R.marked) rest_is in
            λ i. record { domains = (ap (changed 32 (λ i m. common m (get_or masks i 0))) rest_domains ∙ all ∙ sym (cut_is (j - 1))) i; marked = marks i }

        pub made_is : Q ≡ candidate n (table_of n d t) P r j
        unfolding disjunct
        made_is =
            q.2 ∙ ap (λ (R : Subproblem). without R (j - 1) (get_or f.row (j - 1) 0)) cut_same
            ∙ ap (without (cut_beside (table_of n d t) (without P c.variable (single (value_in P c))) c.variable (value_in P c) (j - 1)) (j - 1))
            (row_other (j - 1) (omega arith) (rest_other k))
            ∙ sym (candidate_other (rest_other k))

        pub made_domains : length Q.domains ≡ 32
        unfolding without cut_each
        made_domains =
            ap (λ (R : Subproblem). length R.domains) q.2
            ∙ length-set (cut_each f.rest masks).domains (j - 1) (minus (domain (cut_each f.rest masks) (j - 1)) (get_or f.row (j - 1) 0))
            ∙ ap (λ (l : List ℕ). length (changed 32 (λ i m. common m (get_or masks i 0)) l)) rest_domains ∙ made_long

      -- ---- a turn of the loop
      module _ (before agenda : List ℕ) (at : ℕ) (whole : length before ≡ words) (room : RoomFor n d t P c 3 below words) (so_far : Gathered n d t P r before below agenda at (j + 1)) where
        back : (j + 1) - 1 ≡ j
        back = omega arith

        down : (j + 1) - 1 ≡ (j - 1) + 1
        down = omega arith

        pub spread_drop : rest ≡ 0 → Gathered n d t P r before below agenda at ((j - 1) + 1)
        spread_drop z =
            subst (λ (k : ℕ). Gathered n d t P r before below agenda at k) down
            (gather_drop n d t P r reads before below agenda at (j + 1) so_far (n + 1) its_named (omega arith) (omega arith)
            (candidate n (table_of n d t) P r j)
            (subst (λ (k : ℕ). Piece P n d t r k (candidate n (table_of n d t) P r j)) (sym back) (piece_of j _ (omega arith) refl))
            true (sym (none_left z)) refl)

        module _ (Q : Subproblem) (q : FurtherPiece f (j - 1) Q) (k : rest ≡ 0 → ⊥) where
          its_piece : Piece P n d t r ((j + 1) - 1) Q
          its_piece = subst (λ (i : ℕ). Piece P n d t r i Q) (sym back) (piece_of j Q (omega arith) (made_is Q q k))

          its_filled : false ≡ empty n Q
          its_filled = sym (rw (made_is Q q k) (some_rest k))

          pub spread_slot : SlotIn n at (length agenda)
          spread_slot =
              gather_slot n d t P r reads before below agenda at (j + 1) so_far (n + 1) its_named (omega arith) (omega arith) Q its_piece false
              its_filled refl few
              (rw whole room)

          pub spread_keep : (after : List ℕ) → after ≡ splice agenda (at * (n + 2)) (slot_words n Q) → length after ≡ length agenda
              → Gathered n d t P r before below after (at + 1) ((j - 1) + 1)
          spread_keep after w m =
              subst (λ (i : ℕ). Gathered n d t P r before below after (at + 1) i) down
              (gather_keep n d t P r reads before below agenda at (j + 1) so_far (n + 1) its_named (omega arith) (omega arith) Q its_piece false its_filled refl after few
              (rw whole room) (made_domains Q q k) w m)

  -- ---- the start and the end
  module _ (before : List ℕ) (whole : length before ≡ words) (room : RoomFor n d t P c 3 below words) where
    pub spread_none : Gathered n d t P r before below before below (n + 1)
    spread_none = gather_none n d t P r reads before below (n + 1) h.regular.shape.long its_named

    module _ (agenda : List ℕ) (at j : ℕ) (so_far : Gathered n d t P r before below agenda at (j + 1)) (end : j ≡ 0) (Q : Subproblem) (q : Q ≡ precluded_by P c.variable c.row) where
      first : Gathered n d t P r before below agenda at 1
      first = subst (λ (k : ℕ). Gathered n d t P r before below agenda at k) (omega arith) so_far

      is_first : Q ≡ candidate n (table_of n d t) P r 0
      unfolding candidate inferred
      is_first = q ∙ put_precluded n d t P c below words h

      first_filled : false ≡ empty n Q
      first_filled = sym (rw (q ∙ put_precluded n d t P c below words h) (put_kept n d t P c below words h s))

      pub spread_last : SlotIn n at (length agenda)
      spread_last =
          gather_slot n d t P r reads before below agenda at 1 first (n + 1) its_named (omega arith) (omega arith) Q
          (piece_of 0 Q (omega arith) is_first) false first_filled refl few (rw whole room)

      some : 1 ≤ length (pieces n (table_of n d t) P r)
      some =
          let all : length (pieces n (table_of n d t) P r) ≡ length (firsts n (candidate n (table_of n d t) P r) 1) + length first.rest = ap length
          first.all ∙ simp length-append in
          let one : length (firsts n (candidate n (table_of n d t) P r) 1) ≡ 1 =
          ap length (firsts_keep n (candidate n (table_of n d t) P r) 0 (rw is_first at (sym first_filled))) ∙ rw
          (length-append, firsts_start n (candidate n (table_of n d t) P r)) refl in
          omega arith

      pub spread_end : (after : List ℕ) → length Q.domains ≡ 32 → after ≡ splice agenda (at * (n + 2)) (slot_words n Q)
          → length after ≡ length agenda
          → Replaced n (pieces n (table_of n d t) P r) below before after (at + 1)
      spread_end after l w m =
          gather_replaced n d t P r reads before below after (at + 1) 0
          (gather_keep n d t P r reads before below agenda at 1 first (n + 1) its_named (omega arith) (omega arith) Q
          (piece_of 0 Q (omega arith) is_first) false first_filled refl after few (rw whole room) l w m)
          refl
          some (rw whole room)

  -- ---- how many they are
  module _ (f : Further) (its : FurtherOf P c f) where
    -- One for each variable before j with values outside the row, and the first.
    first_kept : empty n (candidate n (table_of n d t) P r 0) ≡ false
    unfolding candidate inferred
    first_kept = put_kept n d t P c below words h s

    one_more : (j : ℕ) → j < n
        → length (firsts n (candidate n (table_of n d t) P r) (suc j + 1)) ≡ length (firsts n (candidate n (table_of n d t) P r) (suc j)) + cond (eqb (get_or f.out j 0) 0) 0 1
    one_more j k = elim (ℕ_discrete (get_or f.out j 0) 0) [
      | yes z ↦
          ap length (firsts_drop n (candidate n (table_of n d t) P r) (suc j) (none_left f its (suc j) (omega arith) k (at ∙ z)))
          ∙ rw (eq-eqb (get_or f.out j 0) 0 z) (omega arith)
      | no z ↦
          ap length (firsts_keep n (candidate n (table_of n d t) P r) (suc j) (some_rest f its (suc j) (omega arith) k (λ e. z (sym at ∙ e))))
          ∙ rw (length-append, ne_eqb (get_or f.out j 0) 0 z) refl
    ]
      where
        at : get_or f.out (suc j - 1) 0 ≡ get_or f.out j 0
        at = let back : suc j - 1 ≡ j = omega arith in rw back refl

    so_many : (j : ℕ) → j ≤ n → length (firsts n (candidate n (table_of n d t) P r) (suc j)) ≡ filled f.out j + 1
    unfolding filled total
    so_many zero k = ap length (firsts_keep n (candidate n (table_of n d t) P r) 0 first_kept) ∙ start
      where
        start : length (firsts n (candidate n (table_of n d t) P r) 0 ++ (candidate n (table_of n d t) P r 0 ∷ [])) ≡ 0 + 1
        start = rw (length-append, firsts_start n (candidate n (table_of n d t) P r)) refl
    so_many (suc j) k =
        let up : suc (suc j) ≡ suc j + 1 = omega arith in
        ap (λ (x : ℕ). length (firsts n (candidate n (table_of n d t) P r) x)) up ∙ one_more j k ∙ rw (so_many j (omega arith)) (omega arith)

    -- None past the last variable.
    past_none : (j : ℕ) → n + j ≤ 32 → filled f.out (n + j) ≡ filled f.out n
    unfolding filled total
    past_none zero k = ap (filled f.out) (add-zero n)
    past_none (suc j) k =
        let up : n + suc j ≡ suc (n + j) = omega arith in
        rw (up, past_none j (omega arith), eq-eqb (get_or f.out (n + j) 0) 0 (out_past f its (n + j) (omega arith) (omega arith))) (omega arith)

    pub count_three : length (pieces n (table_of n d t) P r) ≡ filled f.out 32 + 1
    unfolding candidates
    count_three =
        let end : n + (32 - n) ≡ 32 = omega (arith, few) in
        ap length (pieces_are n d t P r reads h.regular.shape.long) ∙
        (let up : n + 1 ≡ suc n = omega arith in ap (λ (x : ℕ). length (firsts n (candidate n (table_of n d t) P r) x)) up) ∙ so_many n (le_refl n) ∙
        ap (λ (k : ℕ). k + 1) (sym (rw end at (past_none (32 - n) (omega arith))))
