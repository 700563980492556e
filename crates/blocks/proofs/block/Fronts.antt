-- Memory that is filled from the front.
-- Assumes nothing.
use mathlib.Core.Path.{◌≡◌, refl, sym, ap, ◌∙◌}
use mathlib.Core.List.{List, [], ◌∷◌, ◌++◌, map, map-append, append_assoc}
use Prim.Native.Nat.{ℕ, suc, ◌+◌, ◌-◌, ◌≤◌, ◌<◌}
use native.Mathlib.Omega.{arith}
use native.Mathlib.Numerals.{add-one}
use lib.ListN.{length, get_or, take, drop, set}
use lib.Seq.{drop-cons, append_snoc, set_at, take_at, drop_at, drop-drop}
use borrow.Rule.Slice.PartMut.{put_mid, Post-is}
use Rattle.problem.specs.Lists.{below}
use Rattle.blocks.proofs.Lists.{map_length}

module _ (f : ℕ → ℕ) where
  -- None is written yet.
  pub front_none : (l : List ℕ) → l ≡ map f (below 0) ++ drop 0 l
  unfolding below
  front_none l = refl

  -- One more.
  pub front_more : (l m : List ℕ) (k x : ℕ) → m ≡ map f (below k) ++ drop k l → x ≡ f k → k < length l
      → set m k x ≡ map f (below (k + 1)) ++ drop (k + 1) l
  unfolding below
  front_more l m k x e s h =
      rw (e, s, drop-cons l k 0 h)
      (set_at (map f (below k)) (get_or l k 0) (drop (suc k) l) (f k) k (map_length f k)
      ∙ sym (append_snoc (map f (below k)) (f k) (drop (suc k) l)) ∙ rw (add-one, map-append f (below k) (k ∷ [])) refl)

-- What a callee left in the part that was lent to it comes after what was written before.
pub part_more : (p q l m ys : List ℕ) (a w : ℕ) → m ≡ p ++ drop a l → length p ≡ a → ys ≡ q → a + w ≤ length l
    → put_mid a ((a + w) - a) m ys ≡ (p ++ q) ++ drop (a + w) l
part_more p q l m ys a w e s y h =
    let front : take a m ≡ p = ap (take a) e ∙ take_at p (drop a l) a s in
    let back : drop (a + w) m ≡ drop (a + w) l =
    sym (drop-drop w a m) ∙ ap (drop w) (ap (drop a) e ∙ drop_at p (drop a l) a s) ∙ drop-drop w a l in
    rw (Post-is a (a + w) m (omega arith), front, back, y) (sym (append_assoc p q (drop (a + w) l)))
