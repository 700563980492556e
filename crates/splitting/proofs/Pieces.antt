-- What one piece of a split is, and what follows of it alone: soundness, the rules, a smaller size or fewer variables left.
-- Assumes nothing.
use mathlib.Core.Path.{◌≡◌, refl, sym, ◌∙◌}
use mathlib.Core.Logic.{◌⊎◌, inl, inr, ⊎_elim}
use Prim.Native.Nat.{ℕ, ◌≤◌, ◌<◌, max}
use native.Mathlib.Omega.{arith}
use native.Mathlib.Nat.{le_refl, le_trans}
use native.Mathlib.Decide.{ℕ_discrete}
use lib.Bits.{bit_or}
use Rattle.problem.specs.Masks.{bit, ◌∈◌, Part, single, size}
use Rattle.problem.specs.Problem.{Problem, Proper, possibilities}
use Rattle.splits.specs.Subproblems.{domain, Instantiated, Rules, SolutionOf, size_of}
use Rattle.splitting.specs.Measure.{unmarked}
use Rattle.splits.specs.declared.subproblem.Subproblem.{Subproblem}
use Rattle.problem.proofs.mask.Masks.{bit_le, bit-bit_or, bit_single_same, bit_single_other, single_member, size_single, size_some, size_part, member_lt}
use Rattle.problem.proofs.Products.{product_lt, product_some, total_le, total_lt}

-- P obeys the rules, and p is proper.
pub record Held (p : Problem) (P : Subproblem) : Type 0 where
  pub proper : Proper p
  pub rules : Rules p P

-- What two values allow is the same both ways.
pub mirror : {p : Problem} {P : Subproblem} → Held p P → (i j a b : ℕ) → i < p.n → j < p.n → (i ≡ j → ⊥) → a ∈ domain P i → b ∈ domain P j
    → bit (p.allowed i j a) b ≡ bit (p.allowed j i b) a
mirror {p} {P} held i j a b k l d s t = held.proper.symmetric i j a b k l d (lt i a k s) (lt j b l t)
  where
    lt : (i a : ℕ) → i < p.n → a ∈ domain P i → a < p.d
    lt i a k m = member_lt p.d (p.domain i) a (held.proper.domains i k) (held.rules.part i k a m)

-- A piece that marks nothing and has a smaller domain.
pub record Shrinks (p : Problem) (P Q : Subproblem) : Type 0 where
  pub marks : Q.marked ≡ P.marked
  pub at : ℕ
  pub below : at < p.n
  pub smaller : size (domain Q at) < size (domain P at)

-- A piece in which a variable is instantiated anew, to a value allowed beside every instantiated one.
pub record Marks (p : Problem) (P Q : Subproblem) : Type 0 where
  pub at : ℕ
  pub to : ℕ
  pub below : at < p.n
  pub new : Instantiated P at → ⊥
  pub marks : Q.marked ≡ bit_or P.marked (single at)
  pub value : domain Q at ≡ single to
  pub beside : (i b : ℕ) → i < p.n → (i ≡ at → ⊥) → Instantiated P i → b ∈ domain Q i → b ∈ p.allowed at i to

-- A piece of P: each domain is part of P's, and it shrinks or marks.
pub record Piece (p : Problem) (P Q : Subproblem) : Type 0 where
  pub part : (i : ℕ) → i < p.n → Part (domain Q i) (domain P i)
  pub way : Shrinks p P Q ⊎ Marks p P Q

-- A subproblem that is not empty has a possibility.
pub filled_size : (n : ℕ) (Q : Subproblem) → ((i : ℕ) → i < n → domain Q i ≡ 0 → ⊥) → 1 ≤ size_of n Q
unfolding possibilities
filled_size n Q h = product_some n _ (λ i k. size_some (domain Q i) (h i k))

-- A variable that is not instantiated counts.
pub free_unmarked : (n : ℕ) (Q : Subproblem) (i : ℕ) → i < n → (Instantiated Q i → ⊥) → 1 ≤ unmarked n Q
unfolding unmarked
free_unmarked n Q i k d =
    le_trans (omega arith) (total_lt n (λ j. 0) _ i (λ j l. omega arith) k (omega (arith, d, bit_le Q.marked i)))

module _ {p : Problem} {P Q : Subproblem} (held : Held p P) (piece : Piece p P Q) where
  -- A solution of the piece is one of P.
  pub piece_sound : (f : ℕ → ℕ) → SolutionOf p Q f → SolutionOf p P f
  piece_sound f s = record { possible = λ i k. piece.part i k (f i) (s.possible i k); consistent = s.consistent }

  -- What P has instantiated, the piece has.
  pub piece_marks : (i : ℕ) → bit P.marked i ≤ bit Q.marked i
  piece_marks i =
      ⊎_elim (λ (s : Shrinks p P Q). rw s.marks (le_refl (bit P.marked i)))
      (λ (m : Marks p P Q). rw (m.marks, bit-bit_or) (omega arith)) piece.way

  -- What the piece has instantiated besides the variable marked anew, P has.
  stay : (m : Marks p P Q) (i : ℕ) → Instantiated Q i → (i ≡ m.at → ⊥) → Instantiated P i
  stay m i h d =
      let h' : max (bit P.marked i) (bit (single m.at) i) ≡ 1 = sym (bit-bit_or P.marked (single m.at) i) ∙ rw m.marks at h in
      omega (arith, bit_single_other m.at i d)

  -- What the piece has instantiated, P has, or it is the variable marked anew.
  Known : ℕ → Type 0
  Known i = Instantiated P i ⊎ ((m : Marks p P Q) × (i ≡ m.at))

  -- So is each.
  known : (i : ℕ) → Instantiated Q i → Known i
  unfolding Known
  known i h = go piece.way
    where
      go : Shrinks p P Q ⊎ Marks p P Q → Instantiated P i ⊎ ((m : Marks p P Q) × (i ≡ m.at))
      go (inl s) = inl (rw s.marks at h)
      go (inr m) = elim (ℕ_discrete i m.at) [ yes e ↦ inr (m, e) | no d ↦ inl (stay m i h d) ]

  -- The variable marked anew has a value allowed beside every instantiated one.
  anew : (m : Marks p P Q) (i j a b : ℕ) → i ≡ m.at → j < p.n → (i ≡ j → ⊥) → Instantiated P j → a ∈ domain Q i → b ∈ domain Q j
      → b ∈ p.allowed i j a
  anew m i j a b e l d h s t =
      rw (e, single_member m.to a (rw (e, m.value) at s)) (m.beside j b l (λ q. d (e ∙ sym q)) h t)

  -- The piece obeys the rules, unless it is empty.
  pub piece_rules : ((i : ℕ) → i < p.n → domain Q i ≡ 0 → ⊥) → Rules p Q
  unfolding Known
  piece_rules filled = record {
    filled = filled;
    part = λ i k v m. held.rules.part i k v (piece.part i k v m);
    one_value = λ i k h. one i k (known i h);
    mutual_values = λ i j a b k l d h g s t. mutual_at i j a b k l d h s t (known i h) (known j g);
    marks = λ i k h. ⊎_elim (held.rules.marks i k) (λ o. omega (arith, o.0.below, o.1)) (known i h);
  }
    where
      one : (i : ℕ) → i < p.n → Known i → size (domain Q i) ≡ 1
      one i k (inl o) =
          omega (arith, held.rules.one_value i k o, size_part (domain Q i) (domain P i) (piece.part i k), size_some (domain Q i) (filled i k))
      one i k (inr (m, e)) = rw (e, m.value) (size_single m.to)

      mutual_at : (i j a b : ℕ) → i < p.n → j < p.n → (i ≡ j → ⊥) → Instantiated Q i → a ∈ domain Q i → b ∈ domain Q j
          → Known i → Known j → b ∈ p.allowed i j a
      mutual_at i j a b k l d h s t (inl o) (inl g) = held.rules.mutual_values i j a b k l d o g (piece.part i k a s) (piece.part j l b t)
      mutual_at i j a b k l d h s t (inr (m, e)) (inl g) = anew m i j a b e l d g s t
      mutual_at i j a b k l d h s t o (inr (m, e)) =
          mirror held i j a b k l d (piece.part i k a s) (piece.part j l b t)
          ∙ anew m j i b a e k (λ q. d (sym q)) (stay m i h (λ q. d (q ∙ sym e))) t s

  -- It is no larger than P and leaves no more variables, and one of the two is less.
  pub piece_unmarked : unmarked p.n Q ≤ unmarked p.n P
  unfolding unmarked
  piece_unmarked = total_le p.n _ _ (λ i k. omega (arith, piece_marks i))

  pub piece_less : (size_of p.n Q < size_of p.n P) ⊎ (unmarked p.n Q < unmarked p.n P)
  unfolding possibilities unmarked
  piece_less = go piece.way
    where
      go : Shrinks p P Q ⊎ Marks p P Q → (size_of p.n Q < size_of p.n P) ⊎ (unmarked p.n Q < unmarked p.n P)
      go (inl s) =
          inl (product_lt p.n _ _ s.at (λ i k. size_part (domain Q i) (domain P i) (piece.part i k))
          (λ i k. size_some (domain P i) (held.rules.filled i k)) s.below s.smaller)
      go (inr m) =
          let now : bit Q.marked m.at ≡ max (bit P.marked m.at) 1 = rw (m.marks, bit-bit_or, bit_single_same) refl in
          inr (total_lt p.n _ _ m.at (λ i k. omega (arith, piece_marks i)) m.below
          (omega (arith, m.new, bit_le P.marked m.at)))
