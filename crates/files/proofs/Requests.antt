-- Lists of requests: two lists one after the other, and a list without the first of them.
-- Assumes nothing.
use mathlib.Core.Path.{◌≡◌, refl, sym, ap, ap₂, ◌∙◌}
use mathlib.Core.List.{List, [], ◌∷◌, ◌++◌}
use Prim.Native.Nat.{ℕ, zero, suc, ◌+◌, ◌-◌, ◌*◌, ◌/◌, ◌≤◌}
use native.Mathlib.Omega.{arith}
use native.Mathlib.Nat.{zero-add, suc-add, zero-mul, suc-mul, add-mul, mul-div_cancel, add_comm}
use lib.ListN.{length, take, drop, length-append, length-drop}
use lib.Seq.{take-append-le, drop-append-le, drop-drop}
use Rattle.searches.specs.Runs.{cut_into, requests_in}
use Rattle.search.specs.FirstChecks.{WholeRequests}

cut_append : (m k size : ℕ) (a b : List ℕ) → length a ≡ m * size → cut_into (m + k) size (a ++ b) ≡ cut_into m size a ++ cut_into k size b
unfolding cut_into
cut_append zero k size [] b e = ap (λ (j : ℕ). cut_into j size b) (zero-add k)
cut_append zero k size (x ∷ a) b e = absurd (omega (arith, zero-mul size))
cut_append (suc m) k size a b e =
    let some : size ≤ length a = omega (arith, suc-mul m size) in
    let rest : length (drop size a) ≡ m * size = length-drop size a ∙ omega (arith, suc-mul m size) in
    rw (suc-add m k, take-append-le size a b some, drop-append-le size a b some)
    (ap {B = List (List ℕ)} (λ l. take size a ∷ l) (cut_append m k size (drop size a) b rest))

cut_drop : (t k size : ℕ) (w : List ℕ) → cut_into k size (drop (t * size) w) ≡ drop t (cut_into (t + k) size w)
unfolding cut_into
cut_drop zero k size w = rw (zero-mul size, zero-add k) refl
cut_drop (suc t) k size w =
    let size-first : suc t * size ≡ size + t * size = suc-mul t size ∙ add_comm (t * size) size in
    rw (suc-add t k)
    (ap (λ (j : ℕ). cut_into k size (drop j w)) size-first ∙ ap (cut_into k size) (sym (drop-drop (t * size) size w)) ∙ cut_drop t k size (drop size w))

-- So many parts are cut as asked.
pub cut_length : (m size : ℕ) (w : List ℕ) → length (cut_into m size w) ≡ m
unfolding cut_into
cut_length zero size w = refl
cut_length (suc m) size w = ap suc (cut_length m size (drop size w))

module _ (n : ℕ) where
  -- So many words of whole requests are so many requests.
  count : (m : ℕ) → m * (n + 3) / (n + 3) ≡ m
  count m = mul-div_cancel m (omega arith)

  requests_are : (m : ℕ) (w : List ℕ) → length w ≡ m * (n + 3) → requests_in n w ≡ cut_into m (n + 3) w
  unfolding requests_in
  requests_are m w e = ap (λ (j : ℕ). cut_into j (n + 3) w) (ap (λ (j : ℕ). j / (n + 3)) e ∙ count m)

  -- Two lists of whole requests are whole requests.
  pub whole_append : (a b : List ℕ) → WholeRequests n (length a) → WholeRequests n (length b) → WholeRequests n (length (a ++ b))
  whole_append a b (m, e) (k, f) = (m + k, length-append a b ∙ ap₂ ◌+◌ e f ∙ sym (add-mul m k (n + 3)))

  -- They are those of the first, then those of the second.
  pub requests_append : (a b : List ℕ) → WholeRequests n (length a) → WholeRequests n (length b)
      → requests_in n (a ++ b) ≡ requests_in n a ++ requests_in n b
  requests_append a b (m, e) (k, f) =
      requests_are (m + k) (a ++ b) (length-append a b ∙ ap₂ ◌+◌ e f ∙ sym (add-mul m k (n + 3)))
      ∙ cut_append m k (n + 3) a b e ∙ ap₂ ◌++◌ (sym (requests_are m a e)) (sym (requests_are k b f))

  -- Without the first t of them.
  module _ (w : List ℕ) (whole : WholeRequests n (length w)) (t : ℕ) (few : t ≤ length (requests_in n w)) where
    some : t ≤ whole.0
    some = omega (arith, ap length (requests_are whole.0 w whole.1), cut_length whole.0 (n + 3) w)

    left : length (drop (t * (n + 3)) w) ≡ (whole.0 - t) * (n + 3)
    left =
        let sum : t + (whole.0 - t) ≡ whole.0 = omega (arith, some) in
        let all : whole.0 * (n + 3) ≡ t * (n + 3) + (whole.0 - t) * (n + 3) = ap (λ (j : ℕ). j * (n + 3)) (sym sum) ∙ add-mul t (whole.0 - t)
        (n + 3) in
        length-drop (t * (n + 3)) w ∙ omega (arith, whole.1)

    -- What is left is whole requests.
    pub whole_drop : WholeRequests n (length (drop (t * (n + 3)) w))
    whole_drop = (whole.0 - t, left)

    -- They are the requests without the first t.
    pub requests_drop : requests_in n (drop (t * (n + 3)) w) ≡ drop t (requests_in n w)
    requests_drop =
        let sum : t + (whole.0 - t) ≡ whole.0 = omega (arith, some) in
        requests_are (whole.0 - t) (drop (t * (n + 3)) w) left ∙ cut_drop t (whole.0 - t) (n + 3) w
        ∙ ap (λ (j : ℕ). drop t (cut_into j (n + 3) w)) sum ∙ ap (drop t) (sym (requests_are whole.0 w whole.1))
