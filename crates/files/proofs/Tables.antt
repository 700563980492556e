-- Two tables that agree at every place of two different variables: the same rules, and a proper problem stays one.
-- Assumes nothing.
use mathlib.Core.Path.{sym}
use Prim.Native.Nat.{ℕ, ◌<◌, ◌^◌}
use Rattle.problem.specs.Problem.{Problem, Proper, Table, AllowSame}
use Rattle.splits.specs.Subproblems.{Rules}
use Rattle.splits.specs.declared.subproblem.Subproblem.{Subproblem}
use Rattle.problem.proofs.mask.Masks.{member_lt}

-- The problem with another table.
abbrev pub with_table : ℕ → ℕ → (ℕ → ℕ) → Table → Problem
with_table n d whole f = record { n = n; d = d; domain = whole; allowed = f }

module _ (n d : ℕ) (whole : ℕ → ℕ) (f g : Table) (agree : AllowSame n d f g) where
  -- A subproblem obeys the same rules.
  pub rules_agree : ((i : ℕ) → i < n → whole i < 2 ^ d) → (P : Subproblem) → Rules (with_table n d whole f) P → Rules (with_table n d whole g) P
  rules_agree small P r = record {
    filled = r.filled;
    part = r.part;
    one_value = r.one_value;
    mutual_values = λ i j a b l k q m o x y.
        let v : a < d = member_lt d (whole i) a (small i l) (r.part i l a x) in
        rw (← agree i j a l k q v) (r.mutual_values i j a b l k q m o x y);
    marks = r.marks;
  }

  -- A proper problem stays proper.
  pub proper_agree : Proper (with_table n d whole f) → Proper (with_table n d whole g)
  proper_agree h = record {
    some_variable = h.some_variable;
    variables = h.variables;
    some_value = h.some_value;
    values = h.values;
    domains = h.domains;
    masks = λ i j a l k q m. rw (← agree i j a l k q m) (h.masks i j a l k q m);
    symmetric = λ i j a b l k q m o.
        rw (← agree i j a l k q m, ← agree j i b k l (λ e. q (sym e)) o) (h.symmetric i j a b l k q m o);
  }

-- To agree goes both ways.
pub agree_back : {n d : ℕ} (f g : Table) → AllowSame n d f g → AllowSame n d g f
agree_back f g h i j a l k q m = sym (h i j a l k q m)
