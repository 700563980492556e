-- The loops over the candidates of a request: one counts those that are not empty, one places them, the last named lowest.
-- Assumes nothing.
use mathlib.Core.Path.{◌≡◌, refl, sym, ap, ◌∙◌}
use mathlib.Core.Bool.{Bool, true, false, not}
use mathlib.Core.List.{List, [], ◌∷◌, ◌++◌, append_assoc, append-nil}
use Prim.Native.Nat.{ℕ, ◌+◌, ◌-◌, ◌*◌, ◌≤◌, ◌<◌}
use native.Mathlib.Omega.{arith}
use native.Mathlib.Nat.{le_antisymm, zero-mul, mul-le-mul_right}
use lib.ListN.{length, replicate, length-append, length-replicate}
use lib.Dec.{ltb}
use borrow.Author.Tests.{le-leb, lt-ltb, le-ltb, not-true, not-false}
use Rattle.problem.specs.Problem.{table_of}
use Rattle.splits.specs.Subproblems.{empty}
use Rattle.splits.specs.Splits.{pieces, candidates, candidate}
use Rattle.splits.specs.Calls.{readable, Piece, Candidates}
use Rattle.splits.specs.declared.subproblem.Subproblem.{Subproblem}
use Rattle.splits.proofs.split.ByKind.{few}
use Rattle.search.specs.Agenda.{slot_words, stack_words}
use Rattle.problem.specs.Lists.{splice}
use Rattle.search.specs.Loops.Slots.{SlotIn}
use Rattle.search.specs.Loops.Steps.{Placed, Replaced}
use Rattle.problem.proofs.Copies.{splice_none, splice_splice, splice_cover}
use Rattle.search.proofs.agenda.Slots.{slot_below}
use Rattle.search.proofs.Encoding.{length_slot}
use Rattle.search.proofs.step.Candidates.{firsts, firsts_le, firsts_drop, firsts_keep, pieces_are}

-- What is placed when the candidates from k on were seen.
pub record Gathered (n d : ℕ) (t : List ℕ) (P : Subproblem) (r before : List ℕ) (from : ℕ) (agenda : List ℕ) (at k : ℕ) : Type 0 where
  pub rest : List Subproblem
  pub all : pieces n (table_of n d t) P r ≡ firsts n (candidate n (table_of n d t) P r) k ++ rest
  pub count : at ≡ from + length rest
  pub sized : length (stack_words n rest) ≡ length rest * (n + 2)
  pub words : agenda ≡ splice before (from * (n + 2)) (stack_words n rest)
  pub same : length agenda ≡ length before

module _ (n d : ℕ) (t : List ℕ) (P : Subproblem) (r : List ℕ) (fits : readable n d t r ≡ true) where
  -- Their number.
  pub named_is : (named : ℕ) → Candidates n r named → named ≡ candidates n r
  named_is named c = c ∙ rw (le-leb n 32 (few n d t r fits)) refl

  -- What the call of the k-th hands back.
  piece_is : (named k : ℕ) (Q : Subproblem) → Candidates n r named → k < named → Piece P n d t r k Q → Q ≡ candidate n (table_of n d t) P r k
  piece_is named k Q c h e = e ∙ rw (fits, ← named_is named c, lt-ltb k named h) refl

  -- The count goes on, or stays.
  pub count_more : (named k count : ℕ) (Q : Subproblem) (b : Bool) → Candidates n r named → k < named → Piece P n d t r k Q
      → count ≡ length (firsts n (candidate n (table_of n d t) P r) k) → b ≡ empty n Q → not b ≡ true
      → count + 1 ≡ length (firsts n (candidate n (table_of n d t) P r) (k + 1))
  count_more named k count Q b c h e s q z =
      let none : empty n (candidate n (table_of n d t) P r k) ≡ false = rw (piece_is named k Q c h e) at (sym q ∙ not-true b z) in
      rw (firsts_keep n (candidate n (table_of n d t) P r) k none) (simp length-append (omega arith))

  -- An empty candidate is not counted.
  pub count_same : (named k count : ℕ) (Q : Subproblem) (b : Bool) → Candidates n r named → k < named → Piece P n d t r k Q
      → count ≡ length (firsts n (candidate n (table_of n d t) P r) k) → b ≡ empty n Q → not b ≡ false
      → count ≡ length (firsts n (candidate n (table_of n d t) P r) (k + 1))
  count_same named k count Q b c h e s q z =
      let yes : empty n (candidate n (table_of n d t) P r k) ≡ true = rw (piece_is named k Q c h e) at (sym q ∙ not-false b z) in
      rw (firsts_drop n (candidate n (table_of n d t) P r) k yes) s

  -- At the end the count is of all pieces.
  pub count_end : (named k count : ℕ) → length P.domains ≡ 32 → Candidates n r named → k ≤ named → named ≤ k
      → count ≡ length (firsts n (candidate n (table_of n d t) P r) k) → count ≡ length (pieces n (table_of n d t) P r)
  count_end named k count long c h l e =
      e ∙ rw (le_antisymm h l ∙ named_is named c, pieces_are n d t P r fits long) refl

  -- No more pieces than candidates.
  pub roomy : (named free : ℕ) → length P.domains ≡ 32 → Candidates n r named → named ≤ free
      → false ≡ ltb free (length (pieces n (table_of n d t) P r))
  roomy named free long c h =
      rw (pieces_are n d t P r fits long, ← named_is named c)
      (sym
      (le-ltb free (length (firsts n (candidate n (table_of n d t) P r) named)) (omega (arith, firsts_le n (candidate n (table_of n d t) P r) named))))

  -- At the start nothing is placed.
  pub gather_none : (before : List ℕ) (from named : ℕ) → length P.domains ≡ 32 → Candidates n r named
      → Gathered n d t P r before from before from named
  unfolding stack_words
  gather_none before from named long c = record {
    rest = [];
    all = pieces_are n d t P r fits long ∙ rw (← named_is named c) (sym (append-nil (firsts n (candidate n (table_of n d t) P r) named)));
    count = omega arith;
    sized = sym (zero-mul (n + 2));
    words = splice_none before (from * (n + 2));
    same = refl;
  }

  -- A candidate that is empty is dropped, made or not.
  pub gather_less : (before : List ℕ) (from : ℕ) (agenda : List ℕ) (at k : ℕ) → Gathered n d t P r before from agenda at k → 0 < k
      → empty n (candidate n (table_of n d t) P r (k - 1)) ≡ true → Gathered n d t P r before from agenda at (k - 1)
  gather_less before from agenda at k g some told =
      let up : (k - 1) + 1 ≡ k = omega arith in
      let less : firsts n (candidate n (table_of n d t) P r) k ≡ firsts n (candidate n (table_of n d t) P r) (k - 1) =
      ap (firsts n (candidate n (table_of n d t) P r)) (sym up) ∙ firsts_drop n (candidate n (table_of n d t) P r) (k - 1) told in
      record { rest = g.rest; all = g.all ∙ rw less refl; count = g.count; sized = g.sized; words = g.words; same = g.same }

  module _ (before : List ℕ) (from : ℕ) (agenda : List ℕ) (at k : ℕ) (g : Gathered n d t P r before from agenda at k)
      (named : ℕ) (c : Candidates n r named) (k-le : k ≤ named) (k-some : 0 < k) (Q : Subproblem) (piece : Piece P n d t r (k - 1) Q)
      (b : Bool) (tested : b ≡ empty n Q) where
    its : Q ≡ candidate n (table_of n d t) P r (k - 1)
    its = piece_is named (k - 1) Q c (omega arith) piece

    back : (k - 1) + 1 ≡ k
    back = omega arith

    -- An empty one is dropped.
    pub gather_drop : not b ≡ false → Gathered n d t P r before from agenda at (k - 1)
    gather_drop z = gather_less before from agenda at k g k-some (rw its at (sym tested ∙ not-false b z))

    module _ (filled : not b ≡ true) where
      more : pieces n (table_of n d t) P r ≡ firsts n (candidate n (table_of n d t) P r) (k - 1) ++ (Q ∷ g.rest)
      more =
          let none : empty n (candidate n (table_of n d t) P r (k - 1)) ≡ false = rw its at (sym tested ∙ not-true b filled) in
          let less : firsts n (candidate n (table_of n d t) P r) k ≡ firsts n (candidate n (table_of n d t) P r) (k - 1) ++ (Q ∷ []) =
          ap (firsts n (candidate n (table_of n d t) P r)) (sym back) ∙ firsts_keep n (candidate n (table_of n d t) P r) (k - 1) none ∙ rw its refl in
          g.all ∙ rw less (append_assoc (firsts n (candidate n (table_of n d t) P r) (k - 1)) (Q ∷ []) g.rest)

      -- There is a slot for it.
      pub gather_slot : n ≤ 32 → (from + length (pieces n (table_of n d t) P r)) * (n + 2) ≤ length before → SlotIn n at (length agenda)
      gather_slot few room =
          let long : length (pieces n (table_of n d t) P r) ≡ length (firsts n (candidate n (table_of n d t) P r) (k - 1)) + length (Q ∷ g.rest) =
          ap length more ∙ simp length-append in
          slot_below n at (from + length (pieces n (table_of n d t) P r)) (length agenda) few (omega (arith, g.count)) (omega (arith, g.same))

      -- It is written there.
      pub gather_keep : (after : List ℕ) → n ≤ 32 → (from + length (pieces n (table_of n d t) P r)) * (n + 2) ≤ length before
          → length Q.domains ≡ 32
          → after ≡ splice agenda (at * (n + 2)) (slot_words n Q) → length after ≡ length agenda → Gathered n d t P r before from after (at + 1) (k - 1)
      unfolding stack_words
      gather_keep after few room long e s =
          let slot : SlotIn n at (length agenda) = gather_slot few room in
          let words : length (slot_words n Q) ≡ n + 2 = length_slot n Q (omega arith) in
          let seam : from * (n + 2) + length (stack_words n g.rest) ≡ at * (n + 2) = rw (g.sized, g.count) (omega arith) in
          record {
            rest = Q ∷ g.rest;
            all = more;
            count = omega (arith, g.count);
            sized = rw (length-append, g.sized, words) (omega arith);
            words =
                e ∙ rw g.words
                (splice_splice before (from * (n + 2)) (stack_words n g.rest) (slot_words n Q) (at * (n + 2)) seam
                (omega (arith, slot.within, g.same)));
            same = s ∙ g.same;
          }

  -- At the end all are placed.
  pub gather_end : (before : List ℕ) (from : ℕ) (agenda : List ℕ) (at k : ℕ) → Gathered n d t P r before from agenda at k → k ≡ 0
      → Placed n (pieces n (table_of n d t) P r) from before agenda at
  unfolding firsts
  gather_end before from agenda at k g e =
      let rest : pieces n (table_of n d t) P r ≡ g.rest = g.all ∙ rw e refl in
      record { count = rw rest g.count; words = rw rest g.words }

  -- So they stand in the place of the top, if there are some.
  pub gather_replaced : (before : List ℕ) (from : ℕ) (agenda : List ℕ) (at k : ℕ) → Gathered n d t P r before from agenda at k → k ≡ 0
      → 1 ≤ length (pieces n (table_of n d t) P r) → (from + length (pieces n (table_of n d t) P r)) * (n + 2) ≤ length before
      → Replaced n (pieces n (table_of n d t) P r) from before agenda at
  unfolding firsts
  gather_replaced before from agenda at k g e some room =
      let rest : pieces n (table_of n d t) P r ≡ g.rest = g.all ∙ rw e refl in
      let none : length {A = ℕ} (replicate (n + 2) 0) ≡ n + 2 = length-replicate (n + 2) 0 in
      let least : 1 * (n + 2) ≤ length g.rest * (n + 2) = mul-le-mul_right (n + 2) (rw rest at some) in
      let inside : (from + length g.rest) * (n + 2) ≤ length before = rw rest at room in
      record {
        count = rw rest g.count;
        words =
            rw rest
            (g.words ∙ sym
            (splice_cover before (replicate (n + 2) 0) (stack_words n g.rest) (from * (n + 2)) (omega (arith, g.sized)) (omega (arith, g.sized))));
      }
