-- What is said by the kind of a request, at each kind. Assumes nothing.
use mathlib.Core.Path.{◌≡◌, refl, ◌∙◌}
use mathlib.Core.Bool.{Bool, true, false, cond, ◌&&◌, and-true}
use mathlib.Core.List.{List}
use Prim.Native.Nat.{ℕ, ◌+◌, ◌≤◌, ◌<◌}
use native.Mathlib.Omega.{arith}
use native.Mathlib.Nat.{lt_of_not-le}
use native.Mathlib.Decide.{ℕ_discrete, dec_lt}
use mathlib.Core.Logic.{◌⊎◌, inl, inr, ⊎_elim}
use lib.Dec.{eqb, leb, ltb}
use borrow.Author.Tests.{ne_eqb, leb-true, le-leb, lt-ltb, le-ltb}
use Rattle.problem.specs.Problem.{table_of}
use Rattle.splits.specs.Requests.{kind_of, variable_of, value_of}
use Rattle.splits.specs.Splits.{by_kind, backtracked, checked, inferred, halved, extracted, candidate, candidates}
use Rattle.splits.specs.Checks.{checks, tried, values_in, others}
use Rattle.splits.specs.Calls.{readable, Piece, ChecksOf}
use Rattle.problem.specs.Ranges.{inside}
use Rattle.splits.specs.Loops.Kinds.{around_value}
use Rattle.splits.specs.Loops.Around.{allowed, Taken}
use Rattle.splits.specs.declared.around.Around.{Around}
use Rattle.splits.specs.declared.subproblem.Subproblem.{Subproblem}
use Rattle.problem.proofs.Tests.{and_left}
use Rattle.problem.proofs.tables.Ranges.{inside_true, inside_is}

-- what holds of each of the five kinds and of any other number holds of every number
pub kinds : (Q : ℕ → Type 0) → Q 1 → Q 2 → Q 3 → Q 4 → Q 5 → ((k : ℕ) → (k < 1) ⊎ (5 < k) → Q k) → (k : ℕ) → Q k
kinds Q a b c d e other k = elim (ℕ_discrete k 1) [
  | yes i ↦ rw i a
  | no f1 ↦ elim (ℕ_discrete k 2) [
    | yes i ↦ rw i b
    | no f2 ↦ elim (ℕ_discrete k 3) [
      | yes i ↦ rw i c
      | no f3 ↦ elim (ℕ_discrete k 4) [
        | yes i ↦ rw i d
        | no f4 ↦ elim (ℕ_discrete k 5) [
          | yes i ↦ rw i e
          | no f5 ↦ other k (elim (dec_lt k 1) [ yes l ↦ inl l | no l ↦ inr (lt_of_not-le (λ h. absurd (omega arith))) ])
        ]
      ]
    ]
  ]
]

-- whoever is 1 to 5 is one of the five
pub five : (C : ℕ → Type 0) (k : ℕ) → ((k < 1) ⊎ (5 < k) → ⊥) → C 1 → C 2 → C 3 → C 4 → C 5 → C k
five C k h a b c d e = kinds (λ m. m ≡ k → C m) (λ z. a) (λ z. b) (λ z. c) (λ z. d) (λ z. e) (λ m o z. absurd (h (rw z at o))) k refl

-- what is said of a number that is no kind
pub no_kind : {A : Type 0} (k : ℕ) (a b c d e other : A) → (k < 1) ⊎ (5 < k) → by_kind k a b c d e other ≡ other
no_kind k a b c d e other (inl h) = let z : k ≡ 0 = omega arith in rw z
no_kind k a b c d e other (inr h) =
    let f : (m : ℕ) → m ≤ 5 → eqb k m ≡ false = λ m l. ne_eqb k m (λ z. absurd (omega arith)) in
    simp (f 1 (omega arith), f 2 (omega arith), f 3 (omega arith), f 4 (omega arith), f 5 (omega arith))

-- what is said of kinds 1 to 3 alike
pub one_to_three : {A : Type 0} (k : ℕ) (a d e other : A) → (k ≡ 0 → ⊥) → k < 4 → by_kind k a a a d e other ≡ a
one_to_three k a d e other =
    kinds (λ k. (k ≡ 0 → ⊥) → k < 4 → by_kind k a a a d e other ≡ a) (λ f l. refl) (λ f l. refl) (λ f l. refl)
    (λ f l. absurd (omega arith)) (λ f l. absurd (omega arith))
    (λ k o f l. absurd (⊎_elim (λ z. f (omega arith)) (λ z. omega arith) o)) k

either : {A : Type 0} {x y : A} (Q : A → Type 0) (t : Bool) → Q x → Q y → Q (cond t x y)
either Q true p q = p
either Q false p q = q

module _ {A : Type 0} (k : ℕ) (a b c d e other : A) where
  pub kind_3 : k ≡ 3 → by_kind k a b c d e other ≡ c
  kind_3 h = rw h

  -- what holds of each answer holds of the one that is picked
  pub kind_any : (Q : A → Type 0) → Q a → Q b → Q c → Q d → Q e → Q other → Q (by_kind k a b c d e other)
  kind_any Q qa qb qc qd qe qo =
      either Q (eqb k 1) qa (either Q (eqb k 2) qb (either Q (eqb k 3) qc (either Q (eqb k 4) qd (either Q (eqb k 5) qe qo))))

-- the answers of kinds 1 to 3 left out
pub kind_last : {A : Type 0} (k : ℕ) (a b c d : A) → (k ≡ 1 → ⊥) → (k ≡ 2 → ⊥) → (k ≡ 3 → ⊥) → by_kind k a b c d d d ≡ d
kind_last k a b c d p q r =
    simp (ne_eqb k 1 p, ne_eqb k 2 q, ne_eqb k 3 r) (either (λ x. x ≡ d) (eqb k 4) refl (either (λ x. x ≡ d) (eqb k 5) refl refl))

-- no more than 32 variables
pub few : (n d : ℕ) (t r : List ℕ) → readable n d t r ≡ true → n ≤ 32
unfolding readable
few n d t r fits =
    let ranged : inside n d t (variable_of r) (value_of r) ≡ true → n ≤ 32 = λ h. (inside_true n d t (variable_of r) (value_of r) h).fit.few in
    let alone : leb n 32 ≡ true → n ≤ 32 = leb-true n 32 in
    kind_any (kind_of r) _ _ _ _ _ _ (λ b. b ≡ true → n ≤ 32) ranged ranged ranged (λ h. alone (and_left (leb n 32) (ltb (variable_of r) n) h)) alone
    alone fits

-- of a request and what it is made with
module _ (n d : ℕ) (t r : List ℕ) (P : Subproblem) where
  -- kinds 1 to 3 read V and v
  read : (kind_of r ≡ 0 → ⊥) → kind_of r < 4 → (b : Bool) → inside n d t (variable_of r) (value_of r) ≡ b → readable n d t r ≡ b
  unfolding readable
  read f l b e = one_to_three (kind_of r) _ _ _ _ f l ∙ e

  module _ (kind : ℕ) (its_kind : kind ≡ kind_of r) where
    pub checks_none : (kind ≡ 1 → ⊥) → (kind < 1) ⊎ (4 ≤ kind) → ChecksOf P n d t r 0
    unfolding checks
    checks_none p o =
        let q : kind ≡ 2 → ⊥ = λ e. ⊎_elim (λ l. absurd (omega arith)) (λ l. absurd (omega arith)) o in
        let s : kind ≡ 3 → ⊥ = λ e. ⊎_elim (λ l. absurd (omega arith)) (λ l. absurd (omega arith)) o in
        rw (← its_kind, kind_last {A = ℕ} kind _ _ _ 0 p q s) (either (λ (x : ℕ). 0 ≡ x) (readable n d t r) refl refl)

    module _ (a : Around) (its : Taken P n d t r a) where
      fits : inside n d t (variable_of r) (value_of r) ≡ true
      fits = rw (← its.variables, ← its.values, ← its.words, ← its.variable, ← its.value) (inside_is _ _ _ _ _ a.fits)

      allows : allowed a ≡ table_of n d t
      allows = rw (its.variables, its.values, its.words) refl

      pub checks_1 : (q : ℕ) → kind ≡ 1 → q ≡ tried (others a.variable) a.n (allowed a) a.top a.variable a.value → ChecksOf P n d t r q
      unfolding checks
      checks_1 q h e =
          rw (read (λ z. absurd (omega (arith, its_kind))) (omega (arith, its_kind)) true fits, ← its_kind, h, ← allows, ← its.variables, ← its.top, ← its.variable, ← its.value) e

      pub checks_2_3 : (q : ℕ) → (kind ≡ 1 → ⊥) → 1 ≤ kind → kind < 4 → q ≡ values_in (others a.variable) a.n a.top → ChecksOf P n d t r q
      unfolding checks
      checks_2_3 q p l m e =
          let fit = read (λ z. absurd (omega (arith, its_kind))) (omega (arith, its_kind)) true fits in
          elim (ℕ_discrete kind 2) [
            | yes h ↦ rw (fit, ← its_kind, h, ← its.variables, ← its.top, ← its.variable) e
            | no f ↦ let h : kind ≡ 3 = omega arith in rw (fit, ← its_kind, h, ← its.variables, ← its.top, ← its.variable) e
          ]

      module _ (k : ℕ) (Q : Subproblem) where
        pub around_1 : kind ≡ 1 → Q ≡ backtracked a.n (allowed a) a.top a.variable a.value k → Q ≡ around_value P n d t r k
        unfolding around_value candidate
        around_1 h e = rw (fits, ← its_kind, h, ← allows, ← its.variables, ← its.top, ← its.variable, ← its.value) e

        pub around_2 : kind ≡ 2 → Q ≡ checked a.n (allowed a) a.top a.variable a.value k → Q ≡ around_value P n d t r k
        unfolding around_value candidate
        around_2 h e = rw (fits, ← its_kind, h, ← allows, ← its.variables, ← its.top, ← its.variable, ← its.value) e

        pub around_3 : kind ≡ 3 → Q ≡ inferred a.n (allowed a) a.top a.variable a.value k → Q ≡ around_value P n d t r k
        unfolding around_value candidate
        around_3 h e = rw (fits, ← its_kind, h, ← allows, ← its.variables, ← its.top, ← its.variable, ← its.value) e

  -- where they do not fit
  module _ (misfit : inside n d t (variable_of r) (value_of r) ≡ false) where
    pub checks_out : ChecksOf P n d t r 0
    checks_out = elim (dec_lt (kind_of r) 4) [
      | yes l ↦ elim (ℕ_discrete (kind_of r) 0) [
        | yes z ↦ none (λ e. absurd (omega arith)) (inl (omega arith))
        | no f ↦ rw (read f l false misfit)
      ]
      | no l ↦ none (λ e. absurd (omega arith)) (inr (omega arith))
    ]
      where
        none : (kind_of r ≡ 1 → ⊥) → (kind_of r < 1) ⊎ (4 ≤ kind_of r) → ChecksOf P n d t r 0
        none = checks_none (kind_of r) refl

    pub around_out : (k : ℕ) → P ≡ around_value P n d t r k
    unfolding around_value
    around_out k = rw misfit

-- a request with a k-th candidate is of kind 1 to 5, and of kind 3 or 5 has n + 1
module _ (n : ℕ) (r : List ℕ) (k : ℕ) (more : k < candidates n r) (kind : ℕ) (its_kind : kind ≡ kind_of r) where
  pub named : (kind < 1) ⊎ (5 < kind) → ⊥
  unfolding candidates
  named h = let none : candidates n r ≡ 0 = no_kind (kind_of r) _ _ _ _ _ _ (rw (← its_kind) h) in omega (arith, more)

  pub to_three : (kind ≡ 4 → ⊥) → (kind ≡ 5 → ⊥) → kind_of r ≤ 3
  to_three f g = rw (← its_kind) (five (λ i. (i ≡ 4 → ⊥) → (i ≡ 5 → ⊥) → i ≤ 3) kind named
      (λ f g. omega arith) (λ f g. omega arith) (λ f g. omega arith) (λ f g. absurd (f refl)) (λ f g. absurd (g refl)) f g)

  pub peel_place : (kind ≡ 3) ⊎ (kind ≡ 5) → k ≤ n
  unfolding candidates
  peel_place h =
      let three : kind ≡ 3 → candidates n r ≡ n + 1 = λ e. rw (← its_kind, e) refl in
      let five : kind ≡ 5 → candidates n r ≡ n + 1 = λ e. rw (← its_kind, e) refl in
      let all : candidates n r ≡ n + 1 = ⊎_elim three five h in
      omega (arith, more)

-- where there is one, with their number as the code has it
pub some_place : (n : ℕ) (r : List ℕ) (k count : ℕ) → count ≡ cond (leb n 32) (candidates n r) 0 → k < count → (n ≤ 32) × (k < candidates n r)
some_place n r k count counted h = go (leb n 32) refl
  where
    go : (b : Bool) → leb n 32 ≡ b → (n ≤ 32) × (k < candidates n r)
    go true e = let all : count ≡ candidates n r = counted ∙ rw e refl in (leb-true n 32 e, rw (← all) h)
    go false e = let none : count ≡ 0 = counted ∙ rw e refl in absurd (omega arith)

-- the k-th candidate, with their number as the code has it
module _ (n d : ℕ) (t : List ℕ) (P : Subproblem) (r : List ℕ) (k count : ℕ) (counted : count ≡ cond (leb n 32) (candidates n r) 0) where
  pub piece_over : count ≤ k → Piece P n d t r k P
  piece_over h = go (readable n d t r) refl
    where
      go : (b : Bool) → readable n d t r ≡ b → P ≡ cond (b && ltb k (candidates n r)) (candidate n (table_of n d t) P r k) P
      go false e = refl
      go true e =
          let all : count ≡ candidates n r = counted ∙ rw (le-leb n 32 (few n d t r e)) refl in
          rw (le-ltb k (candidates n r) (rw (← all) h))

  module _ (more : k < count) (kind : ℕ) (its_kind : kind ≡ kind_of r) (Q : Subproblem) where
    place : (n ≤ 32) × (k < candidates n r)
    place = some_place n r k count counted more

    placed : Q ≡ cond (readable n d t r) (candidate n (table_of n d t) P r k) P → Piece P n d t r k Q
    placed e = rw (lt-ltb k (candidates n r) place.1, and-true (readable n d t r)) e

    pub piece_3 : (kind ≡ 4 → ⊥) → (kind ≡ 5 → ⊥) → Q ≡ around_value P n d t r k → Piece P n d t r k Q
    unfolding readable around_value
    piece_3 f g e =
        let low : kind_of r ≤ 3 = to_three n r k place.1 kind its_kind f g in
        let some : kind_of r ≡ 0 → ⊥ = λ z. named n r k place.1 kind its_kind (inl (omega (arith, its_kind))) in
        placed (rw (one_to_three (kind_of r) _ _ _ _ some (omega arith)) e)

    pub piece_4 : kind ≡ 4 → Q ≡ cond (ltb (variable_of r) n) (halved P (variable_of r) k) P → Piece P n d t r k Q
    unfolding readable candidate
    piece_4 h e = placed (rw (← its_kind, h, le-leb n 32 place.0) e)

    pub piece_5 : kind ≡ 5 → Q ≡ extracted n P r k → Piece P n d t r k Q
    unfolding readable candidate
    piece_5 h e = placed (rw (← its_kind, h, le-leb n 32 place.0) e)
