-- Sums and products over the numbers below n, and the one law of the peel.
-- Assumes nothing.
use mathlib.Core.Path.{◌≡◌, refl, sym, ap, ap₂, ◌∙◌}
use mathlib.Core.Logic.{◌⊎◌, ⊎_elim}
use mathlib.Core.Bool.{Bool, true, false, cond}
use Prim.Native.Nat.{ℕ, zero, suc, ◌+◌, ◌*◌, ◌≤◌, ◌<◌}
use native.Mathlib.Omega.{arith}
use native.Mathlib.Numerals.{add-one}
use native.Mathlib.Nat.{eq-or-lt_of_le, le_of_suc-le-suc, le_refl, zero-mul, mul-zero, add-mul, mul-le-mul, mul-le-mul_left, mul-le-mul_right, mul-lt-mul_of_pos_left, mul-lt-mul_of_pos_right}
use Rattle.problem.specs.Lists.{product, total}

-- A number below n + 1 is n or below n.
pub last : {i n : ℕ} → i < suc n → (i ≡ n) ⊎ (i < n)
last h = eq-or-lt_of_le (le_of_suc-le-suc h)

-- Products of equal factors are equal.
pub product_same : (n : ℕ) (f g : ℕ → ℕ) → ((i : ℕ) → i < n → f i ≡ g i) → product n f ≡ product n g
unfolding product
product_same zero f g h = refl
product_same (suc n) f g h = ap₂ ◌*◌ (product_same n f g (λ i l. h i (omega arith))) (h n (le_refl (suc n)))

-- A product of smaller factors is no larger.
pub product_le : (n : ℕ) (f g : ℕ → ℕ) → ((i : ℕ) → i < n → f i ≤ g i) → product n f ≤ product n g
unfolding product
product_le zero f g h = le_refl 1
product_le (suc n) f g h = mul-le-mul (product_le n f g (λ i l. h i (omega arith))) (h n (le_refl (suc n)))

-- Of factors that are 1 the product is 1.
pub product_one : (n : ℕ) (f : ℕ → ℕ) → ((i : ℕ) → i < n → f i ≡ 1) → product n f ≡ 1
unfolding product
product_one zero f h = refl
product_one (suc n) f h = ap₂ ◌*◌ (product_one n f (λ i l. h i (omega arith))) (h n (le_refl (suc n)))

-- Of factors that are 1 at least, so is the product.
pub product_some : (n : ℕ) (f : ℕ → ℕ) → ((i : ℕ) → i < n → 1 ≤ f i) → 1 ≤ product n f
unfolding product
product_some zero f h = le_refl 1
product_some (suc n) f h = mul-le-mul (product_some n f (λ i l. h i (omega arith))) (h n (le_refl (suc n)))

-- A factor 0 makes the product 0.
pub product_none : (n : ℕ) (f : ℕ → ℕ) (i : ℕ) → i < n → f i ≡ 0 → product n f ≡ 0
unfolding product
product_none zero f i l e = omega arith
product_none (suc n) f i l e =
    ⊎_elim (λ (s : i ≡ n). ap (λ (x : ℕ). product n f * x) (ap f (sym s) ∙ e) ∙ mul-zero (product n f))
    (λ (s : i < n). ap (λ (x : ℕ). x * f n) (product_none n f i s e) ∙ zero-mul (f n)) (last l)

-- With one factor smaller and none larger, a product of factors that are not 0 is smaller.
pub product_lt : (n : ℕ) (f g : ℕ → ℕ) (j : ℕ) → ((i : ℕ) → i < n → f i ≤ g i) → ((i : ℕ) → i < n → 1 ≤ g i) → j < n → f j < g j
    → product n f < product n g
unfolding product
product_lt zero f g j h s l d = omega arith
product_lt (suc n) f g j h s l d =
    let h' : (i : ℕ) → i < n → f i ≤ g i = λ i k. h i (omega arith) in
    let s' : (i : ℕ) → i < n → 1 ≤ g i = λ i k. s i (omega arith) in
    ⊎_elim
    (λ (e : j ≡ n).
    let d' : f n < g n = rw e at d in
    omega (arith, mul-le-mul_right (f n) (product_le n f g h'), mul-lt-mul_of_pos_left d' (product_some n g s')))
    (λ (k : j < n).
    let t : 1 ≤ g n = s n (le_refl (suc n)) in
    omega (arith, mul-le-mul_left (product n f) (h n (le_refl (suc n))), mul-lt-mul_of_pos_right (product_lt n f g j h' s' k d) t))
    (last l)

-- One factor taken apart into two, the others kept: the product is the sum of the two products.
pub product_two : (n j : ℕ) (a b d : ℕ → ℕ) → j < n → a j + b j ≡ d j → ((i : ℕ) → i < n → (i ≡ j → ⊥) → a i ≡ d i)
    → ((i : ℕ) → i < n → (i ≡ j → ⊥) → b i ≡ d i) → product n a + product n b ≡ product n d
unfolding product
product_two zero j a b d l e s t = omega arith
product_two (suc n) j a b d l e s t =
    ⊎_elim
    (λ (q : j ≡ n). let e' : a n + b n ≡ d n = rw q at e in
    rw (product_same n a d (λ i k. s i (omega arith) (λ x. omega arith)), product_same n b d (λ i k. t i (omega arith) (λ x. omega arith)), ← e')
    (omega arith))
    (λ (k : j < n). rw (
      s n (le_refl (suc n)) (λ x. omega arith),
      t n (le_refl (suc n)) (λ x. omega arith),
      ← product_two n j a b d k e (λ i m. s i (omega arith)) (λ i m. t i (omega arith)),
    ) (omega arith))
    (last l)

-- A sum of smaller numbers is no larger.
pub total_le : (n : ℕ) (f g : ℕ → ℕ) → ((i : ℕ) → i < n → f i ≤ g i) → total n f ≤ total n g
unfolding total
total_le zero f g h = le_refl 0
total_le (suc n) f g h = omega (arith, total_le n f g (λ i l. h i (omega arith)), h n (le_refl (suc n)))

-- With one of them smaller, it is smaller.
pub total_lt : (n : ℕ) (f g : ℕ → ℕ) (j : ℕ) → ((i : ℕ) → i < n → f i ≤ g i) → j < n → f j < g j → total n f < total n g
unfolding total
total_lt zero f g j h l d = omega arith
total_lt (suc n) f g j h l d =
    ⊎_elim
    (λ (e : j ≡ n). let d' : f n < g n = rw e at d in omega (arith, total_le n f g (λ i k. h i (omega arith))))
    (λ (k : j < n). omega (arith, total_lt n f g j (λ i k. h i (omega arith)) k d, h n (le_refl (suc n)))) (last l)

-- A common factor of all is a factor of the sum.
total_times : (n : ℕ) (f g : ℕ → ℕ) (c : ℕ) → ((j : ℕ) → j < n → f j ≡ g j * c) → total n f ≡ total n g * c
unfolding total
total_times zero f g c h = sym (zero-mul c)
total_times (suc n) f g c h =
    ap₂ ◌+◌ (total_times n f g c (λ j l. h j (omega arith))) (h n (le_refl (suc n))) ∙ sym (add-mul (total n g) (g n) c)

-- The peel of d by t: row j of q has t before j and d after j, and t j with it is d j; where j is passed over, t j is d j.
pub record Peeled (n : ℕ) (kept : ℕ → Bool) (t d : ℕ → ℕ) (q : ℕ → ℕ → ℕ) : Type 0 where
  pub split : (j : ℕ) → j < n → kept j ≡ true → t j + q j j ≡ d j
  pub same : (j : ℕ) → j < n → kept j ≡ false → t j ≡ d j
  pub before : (j i : ℕ) → j < n → i < j → q j i ≡ t i
  pub after : (j i : ℕ) → i < n → j < i → q j i ≡ d i

-- A row's last factor, where it is kept.
scaled : (b : Bool) (x y c : ℕ) → y ≡ c → cond b (x * y) 0 ≡ cond b x 0 * c
scaled true x y c e = ap (λ (z : ℕ). x * z) e
scaled false x y c e = sym (zero-mul c)

-- 000's Theorems 4 and 5: the product of t and those of the rows kept sum to the product of d.
pub product_peel : (n : ℕ) (kept : ℕ → Bool) (t d : ℕ → ℕ) (q : ℕ → ℕ → ℕ) → Peeled n kept t d q
    → product n t + total n (λ j. cond (kept j) (product n (q j)) 0) ≡ product n d
unfolding product total
product_peel zero kept t d q h = refl
product_peel (suc n) kept t d q h =
    let rest : product n t + total n (λ j. cond (kept j) (product n (q j)) 0) ≡ product n d =
    product_peel n kept t d q (record {
      split = λ j l. h.split j (omega arith);
      same = λ j l. h.same j (omega arith);
      before = λ j i l. h.before j i (omega arith);
      after = λ j i l. h.after j i (omega arith);
    }) in
    let rows : total n (λ j. cond (kept j) (product n (q j) * q j n) 0) ≡ total n (λ j. cond (kept j) (product n (q j)) 0) * d n =
    total_times n _ _ (d n) (λ j l. scaled (kept j) (product n (q j)) (q j n) (d n) (h.after j n (le_refl (suc n)) l)) in
    omega (arith, rows, ap (λ (x : ℕ). x * d n) rest, end (kept n) refl)
  where
    end : (b : Bool) → kept n ≡ b → product n t * t n + cond b (product n (q n) * q n n) 0 ≡ product n t * d n
    end true e = rw (product_same n (q n) t (λ i l. h.before n i (le_refl (suc n)) l), ← h.split n (le_refl (suc n)) e) (omega arith)
    end false e = rw (h.same n (le_refl (suc n)) e) (omega arith)

-- A sum of one more.
pub total_turn : (g : ℕ → ℕ) (i sum s : ℕ) → sum ≡ total i g → s ≡ g i → sum + s ≡ total (i + 1) g
unfolding total
total_turn g i sum s e f = rw (e, f, add-one) refl
