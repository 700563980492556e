-- Text written from the front: a byte more, parts joined, a slice, lines.
-- Assumes nothing.
use native.Mathlib.Omega.{arith}
use mathlib.Core.Path.{◌≡◌, refl, sym, ap, subst, ◌∙◌}
use mathlib.Core.List.{List, [], ◌∷◌, ◌++◌, append_assoc, append-nil}
use Prim.Native.Nat.{ℕ, suc, ◌+◌, ◌-◌, ◌<◌}
use lib.ListN.{length, replicate, set, get_or, length-append}
use lib.Seq.{set_at, append_snoc}
use Rattle.problem.specs.Masks.{lowest}
use Rattle.answer.specs.Text.{plan_line}
use Rattle.answer.specs.Loops.Writing.{Holds, Adds, value_lines}
use Rattle.answer.specs.declared.text.Text.{Text}

-- Parts added one after the other are added together.
pub adds_both : (a b c : Text) (p q : List ℕ) → Adds a p b → Adds b q c → Adds a (p ++ q) c
adds_both a b c p q first second text holds room =
    let both : length (p ++ q) ≡ length p + length q = length-append p q in
    let far : length (text ++ p) ≡ length text + length p = length-append text p in
    subst (Holds c) (append_assoc text p q) (second (text ++ p) (first text holds (omega (arith, both, room))) (omega (arith, both, far, room)))

-- Nothing added.
pub adds_none : (a : Text) → Adds a [] a
adds_none a text holds room = subst (Holds a) (sym (append-nil text)) holds

-- What is added of equal parts.
pub adds_same : (a b : Text) (p q : List ℕ) → p ≡ q → Adds a p b → Adds a q b
adds_same a b p q e h = subst (λ part. Adds a part b) e h

-- One zero of the rest becomes the byte.
pub adds_byte : (a b : Text) (byte : ℕ) → a.length < 512 → b.bytes ≡ set a.bytes a.length byte → b.length ≡ a.length + 1
    → Adds a (byte ∷ []) b
adds_byte a b byte h bytes its_length text holds room =
    let long : length (text ++ (byte ∷ [])) ≡ length text + 1 = length-append text (byte ∷ []) in
    let at : a.length ≡ length text = holds.its_length in
    let less : 512 - length text ≡ suc (512 - length (text ++ (byte ∷ []))) = omega (arith, long, room) in
    let now : b.bytes ≡ set (text ++ replicate (512 - length text) 0) (length text) byte = bytes ∙ ap (λ l. set l a.length byte) holds.bytes ∙
    ap (λ k. set (text ++ replicate (512 - length text) 0) k byte) at in
    record {
      bytes = now ∙ ap (λ k. set (text ++ replicate k 0) (length text) byte) less
          ∙ set_at text 0 (replicate (512 - length (text ++ (byte ∷ []))) 0) byte (length text) refl
          ∙ sym (append_snoc text byte (replicate (512 - length (text ++ (byte ∷ []))) 0));
      its_length = its_length ∙ ap (λ k. k + 1) at ∙ sym long;
    }

-- The next line.
pub adds_line : (a b c : Text) (masks : List ℕ) (i mask : ℕ) → mask ≡ get_or masks i 0 → Adds a (value_lines i masks) b
    → Adds b (plan_line i (lowest mask)) c
    → Adds a (value_lines (i + 1) masks) c
unfolding value_lines
adds_line a b c masks i mask is before next =
    adds_same a c (value_lines i masks ++ plan_line i (lowest mask)) (value_lines (i + 1) masks)
    (ap (λ m. value_lines i masks ++ plan_line i (lowest m)) is ∙ ap (λ k. value_lines k masks) (let e : suc i ≡ i + 1 = omega arith in e))
    (adds_both a b c (value_lines i masks) (plan_line i (lowest mask)) before next)
