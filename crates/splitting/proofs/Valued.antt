-- Kinds 1 to 3: the splits around a value v of the variable V, here x.
-- Assumes nothing.
use mathlib.Core.Path.{◌≡◌, refl, sym, ap, ap₂, ◌∙◌}
use mathlib.Core.Logic.{inl, inr}
use mathlib.Core.Bool.{Bool, true, false, not, cond, ◌&&◌, false≢true}
use mathlib.Core.List.{List, [], ◌∷◌, ◌++◌, map, Memᴰ}
use Prim.Native.Nat.{ℕ, zero, suc, ◌+◌, ◌≤◌, ◌<◌}
use native.Mathlib.Omega.{arith}
use native.Mathlib.Decide.{ℕ_discrete}
use lib.Bits.{bit_or}
use lib.Dec.{eqb}
use lib.ListN.{length, get_or, length-set}
use lib.Seq.{get_or-set_same, get_or-set_other}
use borrow.Author.Tests.{eqb-true, eqb-false, eq-eqb, ne_eqb, not-true, not-false}
use Rattle.problem.specs.Masks.{bit, ◌∈◌, Part, single, common, minus, size, lowest}
use Rattle.problem.specs.Problem.{Problem, Consistent}
use Rattle.splits.specs.Subproblems.{domain, Instantiated, SolutionOf}
use Rattle.problem.specs.Lists.{changed, below, keep, sum}
use Rattle.splits.specs.Splits.{instantiate, without, cut_beside, forbids, instantiated_other, forbidden, precluded, disjunct, backtracking, forward_checking, idc}
use Rattle.splits.specs.declared.subproblem.Subproblem.{Subproblem}
use Rattle.problem.proofs.mask.Masks.{bit_le, bit_common, bit_single_same, single_member, size_single, size_part, part_single, part_common, common_part, common_part_right, minus_part}
use Rattle.problem.proofs.Tests.{some_found, some_none}
use Rattle.problem.proofs.Lists.{sum_below, each_none, each_more, each_of}
use Rattle.splits.proofs.subproblem.Domains.{Within, length_changed, changed_before, within_changed, within_set, within_sets, row_within}
use Rattle.problem.proofs.Products.{product_same}
use Rattle.splitting.proofs.Weights.{Weight, weigh, by_size, fits, weigh_le, weigh_two, weigh_peel, fits_le, fits_one, one_fits}
use Rattle.splitting.proofs.Pieces.{Held, Piece, mirror}
use Rattle.splitting.proofs.Splitting.{weight, weights, Split, fits_whole, even, shrunk, long, lowest_only}

-- What an accepted request of these kinds grants: x is a variable, not instantiated, and has the value v.
pub record Valued (p : Problem) (P : Subproblem) (x v : ℕ) : Type 0 where
  pub below : x < p.n
  pub new : Instantiated P x → ⊥
  pub has : v ∈ domain P x

module _ {p : Problem} {P : Subproblem} {x v : ℕ} (held : Held p P) (at : Valued p P x v) where
  -- V is left to instantiate, and has its place in the list of domains.
  free : (i : ℕ) × (i < p.n) × (Instantiated P i → ⊥)
  free = (x, at.below, at.new)

  in_x : x < length P.domains
  in_x = omega (arith, long held, at.below)

  -- V instantiated to v; V without v; the precluded piece.
  abbrev inst : Subproblem
  inst = instantiate P x v

  abbrev rest : Subproblem
  rest = without P x (single v)

  abbrev precl : Subproblem
  precl = precluded p.n p.allowed P x v

  -- Every weight of V's domain is v's and that of the rest.
  apart : (w : Weight) → w.of x (single v) + w.of x (minus (domain P x) (single v)) ≡ w.of x (domain P x)
  apart w = rw (part_common (single v) (domain P x) (part_single (domain P x) v at.has)) at (w.split x (domain P x) (single v))

  -- V instantiated to v, and V without v: together they weigh what P does.
  inst_rest : (w : Weight) → weight w p.n inst + weight w p.n rest ≡ weight w p.n P
  unfolding instantiate without
  inst_rest w = weigh_two w p.n P.domains x (single v) (minus (domain P x) (single v)) at.below in_x (apart w)

  -- Whatever lies within the rest, unmarked, is a piece.
  rest_piece : (Q : Subproblem) → Q.marked ≡ P.marked → Within Q.domains rest.domains → Piece p P Q
  unfolding without
  rest_piece Q e h =
      shrunk Q x e (λ i u m. within_set P.domains x _ (minus_part (domain P x) (single v)) i u (h i u m)) at.below
      (omega (
        arith,
        size_part (domain Q x) _ (h x),
        ap size (get_or-set_same P.domains x (minus (domain P x) (single v)) 0 in_x),
        apart by_size,
        size_single v,
      ))

  -- Whatever lies within V instantiated to v, and marks V, is a piece if what P has instantiated keeps values allowed beside v.
  new_piece : (Q : Subproblem) → Q.marked ≡ bit_or P.marked (single x) → Within Q.domains inst.domains → domain Q x ≡ single v
      → ((i b : ℕ) → i < p.n → (i ≡ x → ⊥) → Instantiated P i → b ∈ domain Q i → b ∈ p.allowed x i v) → Piece p P Q
  unfolding instantiate
  new_piece Q e h value beside = record {
    part = λ i k u m. within_set P.domains x (single v) (part_single (domain P x) v at.has) i u (h i u m);
    way = inr (record { at = x; to = v; below = at.below; new = at.new; marks = e; value = value; beside = beside });
  }

  -- f instantiates V to v if it fits.
  inst_value : (f : ℕ → ℕ) → 1 ≤ weight (fits f) p.n inst → f x ≡ v
  unfolding instantiate
  inst_value f h = single_member v (f x) (rw (get_or-set_same P.domains x (single v) 0 in_x) at (one_fits f p.n _ h x at.below))

  -- V instantiated to v is a piece if v is allowed beside every instantiated value.
  inst_piece : ((i : ℕ) → i < p.n → (i ≡ x → ⊥) → Instantiated P i → v ∈ p.allowed i x (lowest (domain P i))) → Piece p P inst
  unfolding instantiate
  inst_piece h =
      new_piece inst refl (λ i u m. m) (get_or-set_same P.domains x (single v) 0 in_x)
      (λ i b k d o m.
      let m' : b ∈ domain P i = rw (get_or-set_other P.domains x i (single v) 0 d) at m in
      mirror held x i v b at.below k (λ e. d (sym e)) at.has m' ∙ rw (lowest_only held i b k o m') at (h i k d o))

  -- What cuts a domain but V's to the values allowed beside v.
  abbrev beside : ℕ → ℕ → ℕ
  beside i m = cond (eqb i x) m (common m (p.allowed x i v))

  -- It leaves a part, what is allowed beside v, and V's as it was.
  beside_part : (i m : ℕ) → Part (beside i m) m
  beside_part i m = go (eqb i x)
    where
      go : (b : Bool) → Part (cond b m (common m (p.allowed x i v))) m
      go true u h = h
      go false u h = common_part m (p.allowed x i v) u h

  beside_other : (i m : ℕ) → (i ≡ x → ⊥) → beside i m ≡ common m (p.allowed x i v)
  beside_other i m d = ap (λ (b : Bool). cond b m (common m (p.allowed x i v))) (ne_eqb i x d)

  beside_same : (i m : ℕ) → eqb i x ≡ true → beside i m ≡ m
  beside_same i m e = ap (λ (b : Bool). cond b m (common m (p.allowed x i v))) e

  -- The precluded piece lies within V instantiated to v, and weighs no more.
  precl_within : Within precl.domains inst.domains
  unfolding precluded cut_beside instantiate
  precl_within =
      within_sets (changed p.n beside P.domains) P.domains x (single v) (length_changed p.n beside P.domains)
      (within_changed p.n beside P.domains (λ i k. beside_part i (domain P i)))

  precl_le : (w : Weight) → weight w p.n precl ≤ weight w p.n inst
  precl_le w = weigh_le w p.n precl.domains inst.domains (λ i k. precl_within i)

  -- The domains and the marks of the precluded piece.
  precl_same : domain precl x ≡ single v
  unfolding precluded cut_beside instantiate
  precl_same = get_or-set_same (changed p.n beside P.domains) x (single v) 0 (rw length_changed in_x)

  precl_other : (i : ℕ) → i < p.n → (i ≡ x → ⊥) → domain precl i ≡ common (domain P i) (p.allowed x i v)
  unfolding precluded cut_beside instantiate
  precl_other i k d =
      get_or-set_other (changed p.n beside P.domains) x i (single v) 0 d
      ∙ changed_before p.n beside P.domains i k (omega (arith, long held)) ∙ beside_other i (domain P i) d

  precl_marks : precl.marked ≡ bit_or P.marked (single x)
  unfolding precluded cut_beside instantiate
  precl_marks = refl

  precl_piece : Piece p P precl
  precl_piece =
      new_piece precl precl_marks precl_within precl_same
      (λ i b k d o m. common_part_right (domain P i) (p.allowed x i v) b (rw (precl_other i k d) at m))

  -- A possibility of P with v for V, and values allowed beside v, fits the precluded piece.
  precl_fits : (g : ℕ → ℕ) → g x ≡ v → ((i : ℕ) → i < p.n → (i ≡ x → ⊥) → (g i ∈ domain P i) × (g i ∈ p.allowed x i v))
      → weight (fits g) p.n precl ≡ 1
  precl_fits g e h = fits_one g p.n precl.domains (λ i k. go i k (ℕ_discrete i x))
    where
      go : (i : ℕ) → i < p.n → Dec (i ≡ x) → g i ∈ domain precl i
      go i k (yes q) = rw (q, precl_same, e) (bit_single_same v)
      go i k (no d) = rw (precl_other i k d, bit_common, (h i k d).0, (h i k d).1)

  -- The precluded piece has the solutions that V instantiated to v has.
  precl_exact : (f : ℕ → ℕ) → SolutionOf p P f → weight (fits f) p.n precl ≡ weight (fits f) p.n inst
  precl_exact f s = go (weight (fits f) p.n inst) refl
    where
      go : (y : ℕ) → weight (fits f) p.n inst ≡ y → weight (fits f) p.n precl ≡ weight (fits f) p.n inst
      go zero e = omega (arith, precl_le (fits f))
      go (suc y) e =
          let q : f x ≡ v = inst_value f (omega arith) in
          omega (
            arith,
            fits_le f p.n inst.domains,
            precl_fits f q (λ i k d. (s.possible i k, rw q at (s.consistent x i at.below k (λ z. d (sym z))))),
          )

  -- Whether v is allowed beside the value of variable i: 1 or 0.
  abbrev given : ℕ → ℕ
  given i = bit (p.allowed i x (lowest (domain P i))) v

  -- Where an instantiated value forbids v, no solution of P has v for V.
  forbidden_none : (f : ℕ → ℕ) → SolutionOf p P f → forbidden p.n p.allowed P x v ≡ true → f x ≡ v → ⊥
  unfolding forbidden instantiated_other forbids
  forbidden_none f s e q = let (i, k, t) = some_found _ p.n e in go i k (eqb (bit P.marked i) 1) refl (eqb i x) refl t
    where
      go : (i : ℕ) → i < p.n → (b : Bool) → eqb (bit P.marked i) 1 ≡ b → (c : Bool) → eqb i x ≡ c
          → ((b && not c) && eqb (given i) 0) ≡ true → ⊥
      go i k true y true z t = false≢true t
      go i k false y c z t = false≢true t
      go i k true y false z t =
          let o : lowest (domain P i) ≡ f i = lowest_only held i (f i) k (eqb-true (bit P.marked i) 1 y) (s.possible i k) in
          let m : v ∈ p.allowed i x (f i) = rw q at (s.consistent i x k at.below (eqb-false i x z)) in
          omega (arith, m, rw o at (eqb-true (given i) 0 t))

  -- Where none forbids it, v is allowed beside every instantiated value.
  forbidden_not : forbidden p.n p.allowed P x v ≡ false → (i : ℕ) → i < p.n → (i ≡ x → ⊥) → Instantiated P i
      → v ∈ p.allowed i x (lowest (domain P i))
  unfolding forbidden instantiated_other forbids
  forbidden_not e i k d o =
      let allowed : eqb (given i) 0 ≡ false =
      ap₂ (λ (b c : Bool). (b && not c) && eqb (given i) 0) (sym (eq-eqb (bit P.marked i) 1 o)) (sym (ne_eqb i x d))
      ∙ some_none _ p.n i k e in
      omega (arith, eqb-false (given i) 0 allowed, bit_le (p.allowed i x (lowest (domain P i))) v)

  -- V without v, the one piece of a list or its last.
  rest_alone : (Q : Subproblem) → Memᴰ Q (rest ∷ []) → Piece p P Q
  unfolding without
  rest_alone = each_more (Piece p P) rest [] (rest_piece rest refl (λ i u m. m)) (each_none (Piece p P))

  -- So V instantiated to v, dropped, has no solution.
  inst_none : (f : ℕ → ℕ) → SolutionOf p P f → forbidden p.n p.allowed P x v ≡ true → weight (fits f) p.n inst ≡ 0
  inst_none f s e = let h : 1 ≤ weight (fits f) p.n inst → ⊥ = λ k. forbidden_none f s e (inst_value f k) in omega arith

  -- Kind 1.
  pub kind_1 : Split p P 1 (backtracking p.n p.allowed P x v)
  unfolding backtracking sum
  kind_1 = go (forbidden p.n p.allowed P x v) refl
    where
      go : (b : Bool) → forbidden p.n p.allowed P x v ≡ b → Split p P 1 (cond b [] (inst ∷ []) ++ (rest ∷ []))
      go true e = record {
        free = free;
        each = rest_alone;
        most = λ w. omega (arith, inst_rest w);
        size_sum = inr (omega arith, omega (arith, inst_rest by_size));
        fit_sum = λ f s. inl (omega (arith, inst_rest (fits f), fits_whole p P f s, inst_none f s e));
      }
      go false e =
          even 1 (inst ∷ rest ∷ []) free
          (each_more (Piece p P) inst (rest ∷ []) (inst_piece (forbidden_not e)) rest_alone)
          (λ w. omega (arith, inst_rest w))

  -- Kind 2.
  pub kind_2 : Split p P 2 (forward_checking p.n p.allowed P x v)
  unfolding forward_checking sum
  kind_2 = record {
    free = free;
    each = each_more (Piece p P) precl (rest ∷ []) precl_piece rest_alone;
    most = λ w. omega (arith, inst_rest w, precl_le w);
    size_sum = inr (omega arith, omega (arith, inst_rest by_size, precl_le by_size));
    fit_sum = λ f s. inl (omega (arith, precl_exact f s, inst_rest (fits f), fits_whole p P f s));
  }

  -- A solution of P whose values are allowed beside v is, with v for V, one of the precluded piece (000's Theorem 3).
  swapped : (f : ℕ → ℕ) → SolutionOf p P f → ((i : ℕ) → i < p.n → (i ≡ x → ⊥) → f i ∈ p.allowed x i v)
      → (g : ℕ → ℕ) × Consistent p.n p.allowed g × (weight (fits g) p.n precl ≡ 1)
  swapped f s h = (g, consistent, precl_fits g g_same (λ i k d. (rw (g_other i d) (s.possible i k), rw (g_other i d) (h i k d))))
    where
      g : ℕ → ℕ
      g i = cond (eqb i x) v (f i)

      g_same : g x ≡ v
      g_same = ap (λ (b : Bool). cond b v (f x)) (eq-eqb x x refl)

      g_other : (i : ℕ) → (i ≡ x → ⊥) → g i ≡ f i
      g_other i d = ap (λ (b : Bool). cond b v (f i)) (ne_eqb i x d)

      by : (i j : ℕ) → i < p.n → j < p.n → (i ≡ j → ⊥) → Dec (i ≡ x) → Dec (j ≡ x) → g j ∈ p.allowed i j (g i)
      by i j k l d (yes e) (yes q) = absurd (d (e ∙ sym q))
      by i j k l d (yes e) (no q) = rw (e, g_same, g_other j q) (h j l q)
      by i j k l d (no e) (yes q) = rw (q, g_same, g_other i e) (mirror held i x (f i) v k at.below e (s.possible i k) at.has ∙ h i k e)
      by i j k l d (no e) (no q) = rw (g_other i e, g_other j q) (s.consistent i j k l d)

      consistent : Consistent p.n p.allowed g
      consistent i j k l d = by i j k l d (ℕ_discrete i x) (ℕ_discrete j x)

  -- V without v is the peel by what is allowed beside v: all cut, and a row for each other variable.
  others : ℕ → Bool
  others j = not (eqb j x)

  rows : List Subproblem
  rows = map (disjunct p.allowed P x v) (keep others (below p.n))

  rest_long : p.n ≤ length rest.domains
  unfolding without
  rest_long = omega (arith, long held, length-set P.domains x (minus (domain P x) (single v)))

  -- Together they weigh what V without v does.
  rest_peel : (w : Weight) → weigh w p.n (changed p.n beside rest.domains) + weights w p.n rows ≡ weight w p.n rest
  unfolding rows others disjunct without cut_beside
  rest_peel w =
      ap (λ (y : ℕ). weigh w p.n (changed p.n beside rest.domains) + y) (sum_below _ (disjunct p.allowed P x v) others p.n)
      ∙ weigh_peel w p.n others beside (λ j. p.allowed x j v) rest.domains
      rest_long (λ j k e. beside_other j _ (eqb-false j x (not-true _ e)))
      (λ j k e. beside_same j _ (not-false (eqb j x) e))

  -- A row lies within V without v.
  row_piece : (j : ℕ) → Piece p P (disjunct p.allowed P x v j)
  unfolding disjunct without cut_beside
  row_piece j = rest_piece _ refl (row_within beside (λ i. p.allowed x i v) rest.domains j (λ i k. beside_part i (get_or rest.domains i 0)))

  -- Either f lies in a row, or the precluded piece has a solution.
  rows_cover : (f : ℕ → ℕ) → SolutionOf p P f
      → (g : ℕ → ℕ) × Consistent p.n p.allowed g × (1 ≤ weight (fits g) p.n precl + weights (fits g) p.n rows)
  rows_cover f s = go (weight (fits f) p.n inst) refl (weigh (fits f) p.n (changed p.n beside rest.domains)) refl
    where
      Result : Type 0
      Result = (g : ℕ → ℕ) × Consistent p.n p.allowed g × (1 ≤ weight (fits g) p.n precl + weights (fits g) p.n rows)

      swap : ((i : ℕ) → i < p.n → (i ≡ x → ⊥) → f i ∈ p.allowed x i v) → Result
      swap h = let (g, c, e) = swapped f s h in (g, c, omega arith)

      go : (y : ℕ) → weight (fits f) p.n inst ≡ y → (z : ℕ) → weigh (fits f) p.n (changed p.n beside rest.domains) ≡ z → Result
      go (suc y) a z b = swap (λ i k d. rw (inst_value f (omega arith)) at (s.consistent x i at.below k (λ e. d (sym e))))
      go zero a zero b = (f, s.consistent, omega (arith, rest_peel (fits f), inst_rest (fits f), fits_whole p P f s))
      go zero a (suc z) b = swap (λ i k d. common_part_right (get_or rest.domains i 0) (p.allowed x i v) (f i)
          (rw (changed_before p.n beside rest.domains i k (omega (arith, rest_long)), beside_other i (get_or rest.domains i 0) d)
          at (one_fits f p.n (changed p.n beside rest.domains) (omega arith) i k)))

  -- Kind 3.
  pub kind_3 : Split p P 3 (idc p.n p.allowed P x v)
  unfolding idc sum rows others
  kind_3 = record {
    free = free;
    each = each_more (Piece p P) precl rows precl_piece (each_of (Piece p P) (disjunct p.allowed P x v) others p.n (λ j k e. row_piece j));
    most = λ w. omega (arith, rest_peel w, inst_rest w, precl_le w);
    size_sum = inr (omega arith, omega (arith, rest_peel by_size, inst_rest by_size, precl_le by_size));
    fit_sum = λ f s. inr (refl, rows_cover f s);
  }

  -- All cut, then V without v, is V without v, then all cut.
  cut_rest : (i : ℕ) → i < p.n
      → get_or (without (cut_beside p.allowed P x v p.n) x (single v)).domains i 0 ≡ get_or (changed p.n beside rest.domains) i 0
  unfolding without cut_beside
  cut_rest i k =
      let cut_at : (j : ℕ) → j < p.n → get_or (changed p.n beside P.domains) j 0 ≡ beside j (domain P j) =
      λ j h. changed_before p.n beside P.domains j h (omega (arith, long held)) in
      let rest_at : get_or (changed p.n beside rest.domains) i 0 ≡ beside i (get_or rest.domains i 0) =
      changed_before p.n beside rest.domains i k (omega (arith, rest_long)) in
      elim (ℕ_discrete i x) [
        | yes e ↦
            let same : (m : ℕ) → beside x m ≡ m = λ m. beside_same x m (eq-eqb x x refl) in
            rw e (get_or-set_same (changed p.n beside P.domains) x _ 0 (rw length_changed in_x)
            ∙ ap (λ m. minus m (single v)) (cut_at x at.below ∙ same (domain P x))
            ∙ sym (get_or-set_same P.domains x (minus (domain P x) (single v)) 0 in_x)
            ∙ sym (same (get_or rest.domains x 0))) ∙ sym rest_at
        | no d ↦
            get_or-set_other (changed p.n beside P.domains) x i _ 0 d ∙ cut_at i k
            ∙ ap (beside i) (sym (get_or-set_other P.domains x i (minus (domain P x) (single v)) 0 d)) ∙ sym rest_at
      ]

  -- What the peel takes off is the consistent subproblem.
  pub peel_3 : (w : Weight)
      → weights w p.n (idc p.n p.allowed P x v) + weight w p.n (without (cut_beside p.allowed P x v p.n) x (single v))
      ≡ weight w p.n precl + weight w p.n rest
  unfolding idc sum rows others weigh
  peel_3 w =
      let same : weight w p.n (without (cut_beside p.allowed P x v p.n) x (single v)) ≡ weigh w p.n (changed p.n beside rest.domains)
      =
      product_same p.n _ _ (λ i k. ap (w.of i) (cut_rest i k)) in
      omega (arith, same, rest_peel w)
