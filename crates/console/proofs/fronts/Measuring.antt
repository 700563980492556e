-- How much of an agenda a run needs, and what of it is written back.
-- Assumes nothing.
use mathlib.Core.Path.{◌≡◌, refl, sym, ap, subst, ◌∙◌}
use mathlib.Core.Logic.{◌⊎◌, inl, inr}
use mathlib.Core.Bool.{Bool, true}
use mathlib.Core.List.{List}
use Prim.Native.Nat.{ℕ, ◌+◌, ◌-◌, ◌*◌, ◌/◌, ◌%◌, ◌≤◌, ◌<◌, min}
use native.Mathlib.Omega.{arith}
use native.Mathlib.Nat.{mul-le-mul_right, lt_of_mul-lt-mul_right, div-add-mod'}
use native.Mathlib.Decide.{dec_lt}
use lib.ListN.{length, get_or, take, drop, length-drop, get_or-eq_default}
use lib.Seq.{take_all, length-take-le, get_or-drop}
use Rattle.word_bytes.specs.Bytes.{Whole, Fits, zeros}
use Rattle.word_bytes.proofs.Zero.{zeros_each}
use Rattle.console.specs.Calls.{WholeProblem}
use Rattle.console.specs.Loops.Rooms.{Room}
use Rattle.console.specs.Loops.Fronts.{Shorter, Reach, FrontOf}

-- Fewer bytes than there are.
pub reach_shorter : (n subproblems requests agenda slots : ℕ) → agenda % (2 * (n + 2)) ≡ 0 → agenda ≤ 512 * (2 * (n + 2))
    → slots ≡ subproblems + (n + 1) * (requests / (2 * (n + 3))) + 1 → slots * (2 * (n + 2)) < agenda
    → Reach n subproblems requests agenda (slots * (2 * (n + 2)))
reach_shorter n subproblems requests agenda slots even most e l =
    let w : ℕ = 2 * (n + 2) in
    let whole : agenda ≡ agenda / w * w = omega (arith, div-add-mod' agenda w) in
    let few : agenda / w * w < 513 * w = omega arith in
    let less : slots * w < agenda / w * w = omega arith in
    record {
      inside = omega arith;
      how = inl (record {
        all = agenda / w;
        whole = whole;
        few = omega (arith, lt_of_mul-lt-mul_right w few);
        slots = slots;
        its = refl;
        within = omega (arith, lt_of_mul-lt-mul_right w less);
        room = omega arith;
      });
    }

-- All of them.
pub reach_all : (n subproblems requests agenda : ℕ) → Reach n subproblems requests agenda agenda
reach_all n subproblems requests agenda = record { inside = omega arith; how = inr refl }

-- So many, or all if there are no more.
pub reach_least : (n subproblems requests agenda slots r : ℕ) → agenda % (2 * (n + 2)) ≡ 0 → agenda ≤ 512 * (2 * (n + 2))
    → slots ≡ subproblems + (n + 1) * (requests / (2 * (n + 3))) + 1 → r ≡ min (slots * (2 * (n + 2))) agenda
    → Reach n subproblems requests agenda r
reach_least n subproblems requests agenda slots r even most e is = elim (dec_lt (slots * (2 * (n + 2))) agenda) [
  | yes l ↦
      let fewer : slots * (2 * (n + 2)) ≡ r = omega arith in
      subst (λ (k : ℕ). Reach n subproblems requests agenda k) fewer (reach_shorter n subproblems requests agenda slots even most e l)
  | no l ↦
      let all : agenda ≡ r = omega arith in
      subst (λ (k : ℕ). Reach n subproblems requests agenda k) all (reach_all n subproblems requests agenda)
]

-- Where all that is past them is zero.
pub front_zeros : (n subproblems requests : ℕ) (agenda : List ℕ) (r : ℕ) (b : Bool) → Reach n subproblems requests (length agenda) r
    → b ≡ zeros (take (length agenda - r) (drop r agenda)) → b ≡ true → FrontOf n subproblems requests agenda r
front_zeros n subproblems requests agenda r b h is y = record {
  reach = h;
  zero = λ i l.
      let at : r + (i - r) ≡ i = omega arith in
      let rest : take (length agenda - r) (drop r agenda) ≡ drop r agenda = take_all (length agenda - r) (drop r agenda)
      (rw length-drop (omega arith)) in
      ap (λ (k : ℕ). get_or agenda k 0) (sym at) ∙ sym (get_or-drop r agenda (i - r) 0)
      ∙ zeros_each (drop r agenda) (ap zeros (sym rest) ∙ sym is ∙ y) (i - r);
}

-- Past all there is nothing.
pub front_whole : (n subproblems requests : ℕ) (agenda : List ℕ) → FrontOf n subproblems requests agenda (length agenda)
front_whole n subproblems requests agenda =
    record { reach = reach_all n subproblems requests (length agenda); zero = λ i l. get_or-eq_default agenda 0 l }

-- It is whole words, some, if all of the agenda is; and if it is, all is.
pub front_fits : {n subproblems requests r : ℕ} {agenda : List ℕ} {most : ℕ} → FrontOf n subproblems requests agenda r → Fits (length agenda) most
    → Fits r most
front_fits {n} {subproblems} {requests} {r} {agenda} {most} f h = go f.reach.how
  where
    go : Shorter n subproblems requests (length agenda) r ⊎ (r ≡ length agenda) → Fits r most
    go (inl k) =
        let two : k.slots * (2 * (n + 2)) ≡ 2 * (k.slots * (n + 2)) = omega arith in
        let up : 1 * (2 * (n + 2)) ≤ k.slots * (2 * (n + 2)) = mul-le-mul_right (2 * (n + 2)) (omega (arith, k.room)) in
        record { even = omega (arith, k.its); some = omega (arith, k.its); few = omega (arith, h.few, f.reach.inside) }
    go (inr e) = subst (λ (j : ℕ). Fits j most) (sym e) h

pub front_whole_problem : {n subproblems requests r : ℕ} {domains tables agenda : List ℕ} → FrontOf n subproblems requests agenda r
    → Fits (length domains) 32 × Fits (length tables) 16384 × Fits r 17408 → WholeProblem domains tables agenda
front_whole_problem {n} {subproblems} {requests} {r} {agenda = agenda} f (a, b, c) =
    record { of_domains = a.even; of_tables = b.even; of_agenda = go f.reach.how }
  where
    go : Shorter n subproblems requests (length agenda) r ⊎ (r ≡ length agenda) → Whole agenda
    go (inl k) = let two : k.all * (2 * (n + 2)) ≡ 2 * (k.all * (n + 2)) = omega arith in omega (arith, k.whole)
    go (inr e) = rw (← e) c.even

-- So what is lent has room.
pub front_room : {n subproblems requests r : ℕ} {domains tables agenda : List ℕ} → FrontOf n subproblems requests agenda r
    → Fits (length domains) 32 × Fits (length tables) 16384 × Fits r 17408 → Room domains tables (take r agenda) 17408
front_room {r = r} {agenda = agenda} f (a, b, c) =
    let long : r ≡ length (take r agenda) = sym (length-take-le r agenda f.reach.inside) in
    record { of_domains = a; of_tables = b; of_agenda = subst (λ (j : ℕ). Fits j 17408) long c }
