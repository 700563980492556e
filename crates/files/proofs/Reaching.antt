-- A search begun by opening is reached with every table that agrees.
-- Assumes nothing.
use mathlib.Core.List.{List}
use Prim.Native.Nat.{ℕ}
use Rattle.problem.specs.Problem.{AllowSame, Proper, table_of, problem_of}
use Rattle.search.specs.Slots.{slots, Search}
use Rattle.searches.specs.Reached.{Passes, opened, ran, chose, moved}
use Rattle.search.specs.Promises.{Reached}
use Rattle.search.proofs.Reaching.{reached_passes}
use Rattle.files.proofs.AgreeingRuns.{run_same, choose_same}

module _ (n d : ℕ) (domains tables : List ℕ) (proper : Proper (problem_of n d domains tables)) where
  passes : {room : ℕ} {s : Search} → Reached n d domains tables room s → Passes (problem_of n d domains tables) (slots room) s
  passes {room} {s} h = reached_passes n d domains tables room s proper h

  -- It is reached with every table that agrees.
  pub reached_agree : (tables' : List ℕ) → AllowSame n d (table_of n d tables) (table_of n d tables') → {room : ℕ} {s : Search}
      → Reached n d domains tables room s → Reached n d domains tables' room s
  reached_agree tables' a (opened m fits is) = opened m fits is
  reached_agree tables' a (ran {room} {s} h rs) =
      rw (run_same (problem_of n d domains tables) (table_of n d tables') a room rs s (passes h)) (ran (reached_agree tables' a h) rs)
  reached_agree tables' a (chose {room} {s} h limit) =
      rw (choose_same (problem_of n d domains tables) (table_of n d tables') a room limit s (passes h)) (chose (reached_agree tables' a h) limit)
  reached_agree tables' a (moved h m fits same) = moved (reached_agree tables' a h) m fits same
