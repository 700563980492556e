-- Which pieces the rule's request leaves, and whether they have room: one at most, kind 3's, or kind 2's two.
-- Assumes nothing.
use mathlib.Core.Path.{◌≡◌, refl, sym, ap, ◌∙◌, subst}
use mathlib.Core.Logic.{inl}
use mathlib.Core.Bool.{Bool, true, false, cond}
use mathlib.Core.List.{List, [], ◌∷◌}
use Prim.Native.Nat.{ℕ, ◌+◌, ◌-◌, ◌*◌, ◌≤◌, ◌<◌}
use native.Mathlib.Omega.{arith}
use native.Mathlib.Nat.{le_trans, mul-le-mul_right, div-mul-le_self, le-div_iff_mul-le}
use lib.ListN.{length, get_or}
use borrow.Author.Tests.{le-leb, lt-ltb, le-ltb}
use Rattle.problem.specs.Masks.{single}
use Rattle.problem.specs.Problem.{table_of}
use Rattle.splits.specs.Subproblems.{empty}
use Rattle.splits.specs.Splits.{precluded, precluded_by, without, pieces, filled, named, forward_checking, checked, candidates, candidate}
use Rattle.problem.specs.Lists.{keep, splice}
use Rattle.splits.specs.Calls.{Piece, Candidates}
use Rattle.splits.specs.declared.subproblem.Subproblem.{Subproblem}
use Rattle.search.specs.Agenda.{slot_words, slots_in}
use Rattle.search.specs.Loops.Slots.{SlotIn}
use Rattle.search.specs.Loops.Steps.{Replaced}
use Rattle.search.specs.Loops.Choices.{chosen_for}
use Rattle.search.specs.Loops.Found.{Puts, request_by, left_by, several, value_in}
use Rattle.search.specs.declared.chooser.Choice.{Choice}
use Rattle.search.proofs.step.Gathering.{Gathered, gather_none, gather_slot, gather_keep, gather_replaced}
use Rattle.search.proofs.chooser.Settling.{AtTop, RoomFor, several_kept, left_is, left_few, kind_by, chosen_by, put_reads, put_precluded, put_kept, put_rest}

-- Kind 2's pieces, where several are left.
module _ (n d : ℕ) (t : List ℕ) (P : Subproblem) (c : Choice) (below words : ℕ) (h : AtTop n d t P c below words) (s : several c ≡ true) where
  abbrev r : List ℕ
  r = request_by P c 2

  pub two_pieces : pieces n (table_of n d t) P r ≡ precluded n (table_of n d t) P c.variable (value_in P c) ∷ without P c.variable (single (value_in P c)) ∷ []
  unfolding pieces filled named keep forward_checking
  two_pieces = rw (put_kept n d t P c below words h s, put_rest n d t P c below words h s) refl

  two_named : Candidates n r 2
  unfolding candidates
  two_named = rw (le-leb n 32 h.fitting.few) refl

  piece_of : (k : ℕ) (Q : Subproblem) → k < 2 → Q ≡ candidate n (table_of n d t) P r k → Piece P n d t r k Q
  unfolding candidates
  piece_of k Q l e = e ∙ rw (put_reads n d t P c below words h 2 (inl refl), lt-ltb k 2 l) refl

  module _ (before : List ℕ) (whole : length before ≡ words) (room : RoomFor n d t P c 2 below words) (Q : Subproblem) (q : Q ≡ without P c.variable (get_or c.row c.variable 0))
      (R : Subproblem) (p : R ≡ precluded_by P c.variable c.row) where
    start : Gathered n d t P r before below before below 2
    start = gather_none n d t P r (put_reads n d t P c below words h 2 (inl refl)) before below 2 h.regular.shape.long two_named

    rest_is : Q ≡ without P c.variable (single (value_in P c))
    rest_is = q ∙ ap (without P c.variable) h.found.row.own

    rest_piece : Piece P n d t r (2 - 1) Q
    unfolding candidate checked
    rest_piece = piece_of 1 Q (omega arith) rest_is

    rest_kept : false ≡ empty n Q
    rest_kept = sym (rw rest_is (put_rest n d t P c below words h s))

    first_piece : Piece P n d t r (1 - 1) R
    unfolding candidate checked
    first_piece = piece_of 0 R (omega arith) (p ∙ put_precluded n d t P c below words h)

    first_kept : false ≡ empty n R
    first_kept = sym (rw (p ∙ put_precluded n d t P c below words h) (put_kept n d t P c below words h s))

    module _ (agenda : List ℕ) (long : length Q.domains ≡ 32) (e : agenda ≡ splice before (below * (n + 2)) (slot_words n Q)) (same : length agenda ≡ length before) where
      one : Gathered n d t P r before below agenda (below + 1) 1
      one =
          gather_keep n d t P r (put_reads n d t P c below words h 2 (inl refl)) before below before below 2 start 2 two_named (omega arith)
          (omega arith) Q rest_piece false rest_kept refl
          agenda h.fitting.few (rw whole room) long e same

      -- A slot for the second, and both placed.
      pub two_slot : SlotIn n (below + 1) (length agenda)
      two_slot =
          gather_slot n d t P r (put_reads n d t P c below words h 2 (inl refl)) before below agenda (below + 1) 1 one 2 two_named (omega arith)
          (omega arith) R first_piece false first_kept refl
          h.fitting.few (rw whole room)

      pub two_end : (after : List ℕ) → length R.domains ≡ 32 → after ≡ splice agenda ((below + 1) * (n + 2)) (slot_words n R)
          → length after ≡ length agenda
          → Replaced n (pieces n (table_of n d t) P r) below before after (below + 2)
      two_end after l w m =
          subst (λ (k : ℕ). Replaced n (pieces n (table_of n d t) P r) below before after k) (omega arith)
          (gather_replaced n d t P r (put_reads n d t P c below words h 2 (inl refl)) before below after (below + 1 + 1) 0
          (gather_keep n d t P r (put_reads n d t P c below words h 2 (inl refl)) before below agenda (below + 1) 1 one 2 two_named (omega arith)
          (omega arith) R first_piece false first_kept refl
          after h.fitting.few (rw whole room) l w m) refl (omega (arith, ap length two_pieces)) (rw whole room))

-- ---- room

module _ (n d : ℕ) (t : List ℕ) (P : Subproblem) (c : Choice) (below words : ℕ) (h : AtTop n d t P c below words) where
  -- The slot of the top is free, and slots that are free lie in memory.
  pub top_slot : below + 1 ≤ slots_in n words
  top_slot = (le-div_iff_mul-le (let some : 0 < n + 2 = omega arith in some)).1 h.slot.within

  room_in : (k : ℕ) → k ≤ slots_in n words - below → (below + k) * (n + 2) ≤ words
  room_in k l = le_trans (mul-le-mul_right (n + 2) (omega (arith, top_slot))) (div-mul-le_self words (n + 2))

  -- For kind 3's pieces, and for kind 2's two.
  pub room_three : length (pieces n (table_of n d t) P (request_by P c 3)) ≤ slots_in n words - below → RoomFor n d t P c 3 below words
  room_three l = room_in _ l

  pub room_two : several c ≡ true → 2 ≤ slots_in n words - below → RoomFor n d t P c 2 below words
  room_two s k = rw (ap length (two_pieces n d t P c below words h s)) (room_in 2 k)

-- ---- the rule's request

module _ (n d : ℕ) (t : List ℕ) (P : Subproblem) (c : Choice) (below : ℕ) (before : List ℕ) (h : AtTop n d t P c below (length before)) where
  abbrev free : ℕ
  free = slots_in n (length before) - below

  some_free : 1 ≤ free
  some_free = omega (arith, top_slot n d t P c below (length before) h)

  -- The request by its kind.
  by_kind : (k : ℕ) → kind_by n d t P h.fitting h.regular h.runs c h.found free ≡ k → chosen_for n d t P free ≡ request_by P c k
  by_kind k e = chosen_by n d t P h.fitting h.regular h.runs c h.found free ∙ ap (request_by P c) e

  -- Pieces of it that are placed, or have no room.
  module _ (R : List ℕ) (its : chosen_for n d t P free ≡ R) where
    placed_by : (after : List ℕ) (count : ℕ) → length (pieces n (table_of n d t) P R) ≤ free
        → Replaced n (pieces n (table_of n d t) P R) below before after count → Puts n d t P below before after (record { refusal = 0; subproblems = count })
    placed_by after count l m = record {
      refusal = rw (its, le-ltb _ _ l) refl;
      placed = λ z. rw its m;
      kept = λ k. absurd (k refl);
    }

    full_by : free < length (pieces n (table_of n d t) P R) → Puts n d t P below before before (record { refusal = 12; subproblems = 0 })
    full_by l = record {
      refusal = rw (its, lt-ltb _ _ l) refl;
      placed = λ z. absurd (omega arith);
      kept = λ k. refl;
    }

  -- One piece at most.
  pub puts_left : several c ≡ false → (after : List ℕ) (count : ℕ) → Replaced n (left_by P c) below before after count
      → Puts n d t P below before after (record { refusal = 0; subproblems = count })
  unfolding kind_by
  puts_left s after count m =
      placed_by (request_by P c (cond c.lost 2 3)) (by_kind (cond c.lost 2 3) (go c.lost refl)) after count
      (rw all (omega (arith, some_free, left_few P c))) (rw all m)
    where
      all : pieces n (table_of n d t) P (request_by P c (cond c.lost 2 3)) ≡ left_by P c
      all = left_is n d t P h.fitting h.regular h.runs c h.found s

      go : (b : Bool) → c.lost ≡ b → kind_by n d t P h.fitting h.regular h.runs c h.found free ≡ cond b 2 3
      go true e = rw e refl
      go false e =
          let few : length (pieces n (table_of n d t) P (request_by P c 3)) ≤ free = rw
          (subst (λ (b : Bool). pieces n (table_of n d t) P (request_by P c (cond b 2 3)) ≡ left_by P c) e all) (omega (arith, some_free, left_few P c)) in
          rw (e, le-ltb free _ few) refl

  -- Several.
  module _ (s : several c ≡ true) where
    pub puts_three : length (pieces n (table_of n d t) P (request_by P c 3)) ≤ free → (after : List ℕ) (count : ℕ)
        → Replaced n (pieces n (table_of n d t) P (request_by P c 3)) below before after count → Puts n d t P below before after (record { refusal = 0; subproblems = count })
    unfolding kind_by
    puts_three l after count m = placed_by (request_by P c 3) (by_kind 3 (rw (several_kept c s, le-ltb free _ l) refl)) after count l m

    module _ (l : free < length (pieces n (table_of n d t) P (request_by P c 3))) where
      kind_two : kind_by n d t P h.fitting h.regular h.runs c h.found free ≡ 2
      unfolding kind_by
      kind_two = rw (several_kept c s, lt-ltb free _ l) refl

      two : length (pieces n (table_of n d t) P (request_by P c 2)) ≡ 2
      two = ap length (two_pieces n d t P c below (length before) h s)

      pub puts_two : 2 ≤ free → (after : List ℕ) (count : ℕ) → Replaced n (pieces n (table_of n d t) P (request_by P c 2)) below before after count
          → Puts n d t P below before after (record { refusal = 0; subproblems = count })
      puts_two k after count m = placed_by (request_by P c 2) (by_kind 2 kind_two) after count (rw two k) m

      pub puts_none : free < 2 → Puts n d t P below before before (record { refusal = 12; subproblems = 0 })
      puts_none k = full_by (request_by P c 2) (by_kind 2 kind_two) (rw two k)
