-- A step of the chooser worked out on all masks at once: what it finds is the rule's, and what it leaves is what the request leaves.
-- Assumes nothing.
use mathlib.Core.Path.{◌≡◌, refl, sym, ap, ◌∙◌, subst}
use mathlib.Core.Logic.{◌⊎◌, inl, inr, ⊎_elim}
use mathlib.Core.Bool.{Bool, true, false, cond, ◌||◌}
use mathlib.Core.List.{List, [], ◌∷◌}
use Prim.Native.Nat.{ℕ, ◌+◌, ◌-◌, ◌*◌, ◌%◌, ◌/◌, ◌^◌, ◌≤◌, ◌<◌}
use native.Mathlib.Omega.{arith}
use lib.ListN.{length, get_or, replicate, length-replicate}
use lib.Bits.{bit_or}
use lib.Dec.{eqb, ltb}
use borrow.Author.Tests.{eq-eqb, ne_eqb, eqb-true, eqb-false}
use Rattle.problem.specs.Masks.{◌∈◌, single, size, lowest}
use Rattle.problem.specs.Problem.{table_of}
use Rattle.problem.specs.Lists.{total, splice}
use Rattle.splits.specs.Subproblems.{domain, empty, all_instantiated}
use Rattle.splits.specs.Splits.{pieces, precluded, without, precluded_by}
use Rattle.problem.specs.Beside.{RowOf}
use Rattle.splits.specs.Checks.{checks, values_in, others}
use Rattle.splits.specs.Tests.Refusals.{refusal_of}
use Rattle.problem.specs.Ranges.{inside, Sized, Inside}
use Rattle.splits.specs.Calls.{readable}
use Rattle.splits.specs.declared.subproblem.Subproblem.{Subproblem}
use Rattle.problem.proofs.mask.Masks.{bit_le, bit-bit_or, lowest_member}
use Rattle.problem.proofs.Tests.{true_false}
use Rattle.problem.proofs.tables.Ranges.{inside_is}
use Rattle.splits.proofs.refusal.Refusals.{is_none}
use Rattle.splits.proofs.Promises.{by_row}
use Rattle.search.specs.Agenda.{slot_words, stack_words, slots_in}
use Rattle.searches.specs.Chooser.{fewest, request}
use Rattle.search.specs.Loops.Slots.{SlotIn}
use Rattle.search.specs.Loops.Kept.{Regular}
use Rattle.search.specs.Loops.Choices.{kind_for, chosen_for}
use Rattle.search.specs.Loops.Steps.{Replaced, Taking, refusal_for}
use Rattle.search.specs.Loops.Lanes.{Beyond, LeastKey}
use Rattle.splits.specs.AtOnce.{loses}
use Rattle.search.specs.Loops.Found.{Found, OfTop, Puts, request_by, left_by, several, TakesChosen, value_in}
use Rattle.search.specs.declared.state.State.{State}
use Rattle.search.specs.declared.chooser.Choice.{Choice}
use Rattle.search.specs.Loops.Found.{Left}
use Rattle.problem.proofs.Copies.{splice_cover, splice_none}
use Rattle.search.proofs.agenda.Slots.{slot_below}
use Rattle.search.proofs.Encoding.{length_slot}
use Rattle.search.proofs.step.Accepting.{refused_at_11}
use Rattle.search.proofs.step.Stepping.{in_slots, take_refused, take_steps, take_taken}
use Rattle.searches.proofs.Picking.{accepted, fewest_is}
use Rattle.search.proofs.lanes.AtOnce.{word, least_is, values_are}
use Rattle.search.proofs.chooser.Lone.{lost_is, rest_full, two_none, two_rest, three_one}
use Rattle.search.proofs.Running.{top_regular}
use Rattle.search.proofs.chooser.Choosing.{variable_below, value_below}

-- ---- the pieces, as the code makes them

module _ (n : ℕ) (P : Subproblem) (c : Choice) (before after : List ℕ) (below : ℕ) (slot : SlotIn n below (length before)) where
  -- One piece in the place of the top.
  replaced_one : (Q : Subproblem) → length Q.domains ≡ 32 → after ≡ splice before (below * (n + 2)) (slot_words n Q)
      → Replaced n (Q ∷ []) below before after (below + 1)
  unfolding stack_words
  replaced_one Q long e = record {
    count = refl;
    words =
        let zeros : length {A = ℕ} (replicate (n + 2) 0) ≡ n + 2 = length-replicate (n + 2) 0 in
        let its : length (slot_words n Q) ≡ n + 2 = length_slot n Q (omega (arith, slot.few)) in
        e ∙ sym (splice_cover before (replicate (n + 2) 0) (slot_words n Q) (below * (n + 2)) (omega arith) (omega (arith, slot.within)));
  }

  -- None.
  replaced_none : after ≡ splice before (below * (n + 2)) (replicate (n + 2) 0) → Replaced n [] below before after below
  unfolding stack_words
  replaced_none e = record { count = omega arith; words = e ∙ splice_none _ (below * (n + 2)) }

  -- What is left, case by case.
  left_kept : c.lost ≡ false → left_by P c ≡ precluded_by P c.variable c.row ∷ []
  unfolding left_by
  left_kept b = rw b refl

  left_none : c.lost ≡ true → c.values ≡ 1 → left_by P c ≡ []
  unfolding left_by
  left_none b k = rw (b, eq-eqb c.values 1 k) refl

  left_rest : c.lost ≡ true → (c.values ≡ 1 → ⊥) → left_by P c ≡ without P c.variable (get_or c.row c.variable 0) ∷ []
  unfolding left_by
  left_rest b k = rw (b, ne_eqb c.values 1 k) refl

  pub settle_kept : c.lost ≡ false → (Q : Subproblem) → Q ≡ precluded_by P c.variable c.row → length Q.domains ≡ 32
      → after ≡ splice before (below * (n + 2)) (slot_words n Q) → Replaced n (left_by P c) below before after (below + 1)
  settle_kept b Q e long w =
      subst (λ (l : List Subproblem). Replaced n l below before after (below + 1)) (ap (λ (R : Subproblem). R ∷ []) e ∙ sym (left_kept b))
      (replaced_one Q long w)

  pub settle_none : c.lost ≡ true → c.values ≡ 1 → after ≡ splice before (below * (n + 2)) (replicate (n + 2) 0)
      → Replaced n (left_by P c) below before after below
  settle_none b k w = subst (λ (l : List Subproblem). Replaced n l below before after below) (sym (left_none b k)) (replaced_none w)

  pub settle_rest : c.lost ≡ true → (c.values ≡ 1 → ⊥) → (Q : Subproblem) → Q ≡ without P c.variable (get_or c.row c.variable 0)
      → length Q.domains ≡ 32 → after ≡ splice before (below * (n + 2)) (slot_words n Q) → Replaced n (left_by P c) below before after (below + 1)
  settle_rest b k Q e long w =
      subst (λ (l : List Subproblem). Replaced n l below before after (below + 1)) (ap (λ (R : Subproblem). R ∷ []) e ∙ sym (left_rest b k))
      (replaced_one Q long w)

-- Of what is left there is one at most.
pub left_few : (P : Subproblem) (c : Choice) → length (left_by P c) ≤ 1
unfolding left_by
left_few P c = go c.lost (eqb c.values 1)
  where
    go : (b k : Bool)
        → length (cond b (cond k [] (without P c.variable (get_or c.row c.variable 0) ∷ [])) (precluded_by P c.variable c.row ∷ [])) ≤ 1
    go true true = omega arith
    go true false = omega arith
    go false k = omega arith

-- ---- what is found

module _ (n d : ℕ) (t : List ℕ) (P : Subproblem) (fit : Sized n d t) (reg : Regular n d P) (runs : all_instantiated n P ≡ false) where
  -- The variable is one of the n, and the value is in its domain.
  its_variable : (V' : ℕ) → V' ≡ fewest n P → V' < n
  its_variable V' e = rw e (variable_below n P runs)

  its_value : (V' v : ℕ) → V' ≡ fewest n P → v ≡ lowest (domain P V') → v ∈ domain P V'
  its_value V' v e f = rw f (lowest_member (domain P V') (word n d P fit.few fit.small reg V') (reg.filled V' (its_variable V' e)))

  module _ (past k V' x v : ℕ) (beyond : Beyond n past) (least : LeastKey P.domains (bit_or P.marked past) 16 k) (rest : V' ≡ k % 32) (its : x ≡ domain P V') (low : v ≡ lowest x) where
    key_is : k ≡ size (domain P (fewest n P)) * 32 + fewest n P
    key_is =
        least_is n d P fit.few fit.small reg (bit_or P.marked past) k
        (λ i h l. rw (bit-bit_or, beyond.after i h l) (omega (arith, bit_le P.marked i)))
        (λ i h. rw (bit-bit_or, beyond.before i h) (omega arith))
        least (fewest n P) (fewest_is n P runs)

    is_fewest : V' ≡ fewest n P
    is_fewest = omega (arith, key_is, variable_below n P runs, fit.few)

    -- They lie within the tables.
    pub found_inside : Inside n d t V' v
    found_inside = record {
      fit = fit;
      a_variable = its_variable V' is_fewest;
      a_value = rw (low, its) (value_below n d t P V' fit reg (its_variable V' is_fewest));
    }

    -- All of it is the rule's.
    pub found_is : (row : List ℕ) (b : Bool) → RowOf n (table_of n d t) V' v row → b ≡ loses P.domains row
        → Found n d t P (record { variable = V'; values = k / 32; row = row; lost = b })
    found_is row b r e = record {
      variable = is_fewest;
      values = rw is_fewest (omega (arith, key_is, variable_below n P runs, fit.few));
      row = subst (λ (u : ℕ). RowOf n (table_of n d t) V' u row) (low ∙ ap lowest its) r;
      lost =
          e ∙ lost_is n d (table_of n d t) P V' v fit.few reg (its_variable V' is_fewest) (its_value V' v is_fewest (low ∙ ap lowest its)) row r
          ∙ ap (λ (u : ℕ). empty n (precluded n (table_of n d t) P V' u)) (low ∙ ap lowest its);
    }

  -- ---- what it tells

  module _ (c : Choice) (h : Found n d t P c) where
    pub variable_is : c.variable < n
    variable_is = its_variable c.variable h.variable

    pub value_is : value_in P c ∈ domain P c.variable
    value_is = its_value c.variable (value_in P c) h.variable refl

    -- The words of its request fit.
    pub its_words : (k : ℕ) → (k ≡ 2) ⊎ (k ≡ 3) → readable n d t (request k c.variable (value_in P c)) ≡ true
    unfolding readable
    its_words k e =
        let all : inside n d t c.variable (value_in P c) ≡ true =
        inside_is n d t c.variable (value_in P c) (record {
          fit = fit;
          a_variable = variable_is;
          a_value = value_below n d t P c.variable fit reg variable_is;
        }) in
        ⊎_elim (λ (q : k ≡ 2). rw q all) (λ (q : k ≡ 3). rw q all) e

    -- The precluded piece.
    pub precluded_is : precluded_by P c.variable c.row ≡ precluded n (table_of n d t) P c.variable (value_in P c)
    precluded_is =
        by_row n (table_of n d t) P c.variable (value_in P c) c.row fit.few reg.shape.long (word n d P fit.few fit.small reg) variable_is h.row

    -- One piece at most.
    pub left_is : several c ≡ false → pieces n (table_of n d t) P (request_by P c (cond c.lost 2 3)) ≡ left_by P c
    unfolding several left_by
    left_is s = go c.lost (sym h.lost) (eqb c.values 1) refl s
      where
        more : eqb c.values 1 ≡ false → size (domain P c.variable) ≡ 1 → ⊥
        more e z = eqb-false c.values 1 e (h.values ∙ z)

        one : eqb c.values 1 ≡ true → size (domain P c.variable) ≡ 1
        one e = sym h.values ∙ eqb-true c.values 1 e

        go : (b : Bool) → empty n (precluded n (table_of n d t) P c.variable (value_in P c)) ≡ b → (k : Bool) → eqb c.values 1 ≡ k
            → cond b false (cond k false true) ≡ false
            → pieces n (table_of n d t) P (request (cond b 2 3) c.variable (value_in P c))
            ≡ cond b (cond k [] (without P c.variable (get_or c.row c.variable 0) ∷ [])) (precluded_by P c.variable c.row ∷ [])
        go true e true k s = two_none n d (table_of n d t) P c.variable (value_in P c) fit.few reg variable_is value_is e (one k)
        go true e false k s =
            rw h.row.own (two_rest n d (table_of n d t) P c.variable (value_in P c) fit.few reg variable_is value_is e (more k))
        go false e true k s =
            three_one n d (table_of n d t) P c.variable (value_in P c) fit.few reg variable_is value_is e (one k)
            ∙ ap (λ (Q : Subproblem). Q ∷ []) (sym precluded_is)
        go false e false k s = absurd (true_false s)

    -- The checks, of kind 2 as of kind 3.
    pub checks_by : (k : ℕ) → (k ≡ 2) ⊎ (k ≡ 3) → checks n (table_of n d t) P (request_by P c k) ≡ values_in (others c.variable) n P
    unfolding checks
    checks_by k e = ⊎_elim (λ (q : k ≡ 2). rw q refl) (λ (q : k ≡ 3). rw q refl) e

    pub counted : (c.values ≤ total 32 (λ i. size (domain P i))) × (total 32 (λ i. size (domain P i)) - c.values ≡ values_in (others c.variable) n P)
    counted =
        let sum = values_are n d P fit.few fit.small reg c.variable variable_is in
        (omega (arith, sum, h.values), omega (arith, sum, h.values))

    -- Both are accepted.
    pub accepted_by : (k : ℕ) → (k ≡ 2) ⊎ (k ≡ 3) → refusal_of n d P (request_by P c k) ≡ 0
    accepted_by k e =
        (is_none n d P (request_by P c k)).1
        (accepted n d P (request_by P c k) e variable_is (rw h.variable (fewest_is n P runs).uninstantiated)
        (value_below n d t P c.variable fit reg variable_is) value_is)

    -- The one that the rule chooses: kind 2 where the precluded piece is empty or kind 3 has no room, else kind 3.
    unfoldable pub kind_by : ℕ → ℕ
    kind_by free = cond (c.lost || ltb free (length (pieces n (table_of n d t) P (request_by P c 3)))) 2 3

    pub kind_is : (free : ℕ) → (kind_by free ≡ 2) ⊎ (kind_by free ≡ 3)
    unfolding kind_by
    kind_is free = go (c.lost || ltb free (length (pieces n (table_of n d t) P (request_by P c 3))))
      where
        go : (b : Bool) → (◌≡◌ {A = ℕ} (cond b 2 3) 2) ⊎ (◌≡◌ {A = ℕ} (cond b 2 3) 3)
        go true = inl refl
        go false = inr refl

    pub chosen_by : (free : ℕ) → chosen_for n d t P free ≡ request_by P c (kind_by free)
    unfolding chosen_for kind_for kind_by
    chosen_by free = rw (← h.variable, ← h.lost) refl

-- A top P that runs stands in a slot, with what is found of it.
pub record AtTop (n d : ℕ) (tables : List ℕ) (P : Subproblem) (c : Choice) (below words : ℕ) : Type 0 where
  pub fitting : Sized n d tables
  pub regular : Regular n d P
  pub runs : all_instantiated n P ≡ false
  pub found : Found n d tables P c
  pub slot : SlotIn n below words

-- The slots from there on hold the pieces of a kind.
abbrev pub RoomFor : ℕ → ℕ → List ℕ → Subproblem → Choice → ℕ → ℕ → ℕ → Type 0
RoomFor n d tables P c kind below words = (below + length (pieces n (table_of n d tables) P (request_by P c kind))) * (n + 2) ≤ words

pub at_top : (n d : ℕ) (tables : List ℕ) (P : Subproblem) (c : Choice) (below words : ℕ) → OfTop n d tables P c → SlotIn n below words
    → AtTop n d tables P c below words
at_top n d tables P c below words h slot = record { fitting = h.fitting; regular = h.regular; runs = h.runs; found = h.found; slot = slot }

-- ---- the step

module _ (n d : ℕ) (t agenda : List ℕ) (P : Subproblem) (s : State) (h : Taking n d t agenda P s) where
  -- The top is regular.
  pub taking_regular : Regular n d P
  taking_regular = top_regular n d t agenda s h.ready P (λ z. omega (arith, h.some)) h.top

  -- It has its slot, which is free for its pieces.
  pub taking_slot : SlotIn n (s.subproblems - 1) (length agenda)
  taking_slot =
      slot_below n (s.subproblems - 1) (slots_in n (length agenda)) (length agenda) h.ready.fitting.few
      (omega (arith, in_slots n d t agenda P [] s h, h.some)) (omega (arith, h.ready.whole))

  -- At the last count of steps nothing is taken.
  pub chosen_refused : s.counts.steps.0 ≡ 4294967295 → TakesChosen n d t P agenda agenda s (record { refusal = 11; taken = 0; state = s })
  chosen_refused e =
      take_refused n d t agenda P _ s h 11
      (refused_at_11 n d t P (chosen_for n d t P (slots_in n (length agenda) - (s.subproblems - 1))) s.counts.steps.0
      (slots_in n (length agenda) - (s.subproblems - 1)) e)
      (λ z. omega arith)

  -- That is the top, with what is found of it.
  pub taking_top : (c : Choice) → Found n d t P c → OfTop n d t P c
  taking_top c f = record {
    fitting = h.ready.fitting;
    regular = taking_regular;
    runs = h.runs;
    found = f;
    variable = variable_is n d t P h.ready.fitting taking_regular h.runs c f;
    values = (counted n d t P h.ready.fitting taking_regular h.runs c f).0;
  }

  module _ (c : Choice) (f : Found n d t P c) (go_on : s.counts.steps.0 ≡ 4294967295 → ⊥) (after : List ℕ) (l : Left)
      (put : Puts n d t P (s.subproblems - 1) agenda after l) where
    abbrev free : ℕ
    free = slots_in n (length agenda) - (s.subproblems - 1)

    abbrev kind : ℕ
    kind = kind_by n d t P h.ready.fitting taking_regular h.runs c f free

    is_chosen : chosen_for n d t P free ≡ request_by P c kind
    is_chosen = chosen_by n d t P h.ready.fitting taking_regular h.runs c f free

    its_kind : (kind ≡ 2) ⊎ (kind ≡ 3)
    its_kind = kind_is n d t P h.ready.fitting taking_regular h.runs c f free

    -- The refusal of the request is that of its room.
    its_refusal : l.refusal ≡ refusal_for n d t P (chosen_for n d t P free) s.counts.steps.0 free
    unfolding refusal_for
    its_refusal =
        let taken : refusal_of n d P (chosen_for n d t P free) ≡ 0 = rw is_chosen
        (accepted_by n d t P h.ready.fitting taking_regular h.runs c f kind its_kind) in
        put.refusal ∙ rw (ne_eqb s.counts.steps.0 4294967295 go_on, eq-eqb (refusal_of n d P (chosen_for n d t P free)) 0 taken) refl

    -- Refused, or taken.
    pub chosen_full : (l.refusal ≡ 0 → ⊥) → TakesChosen n d t P agenda after s (record { refusal = l.refusal; taken = 0; state = s })
    chosen_full k = rw (put.kept k) (take_refused n d t agenda P _ s h l.refusal its_refusal k)

    pub chosen_steps : l.refusal ≡ 0 → s.counts.steps.0 + 1 < 2 ^ 32
    chosen_steps z = take_steps n d t agenda P _ s h l.refusal its_refusal z

    pub chosen_taken : l.refusal ≡ 0 → (k : ℕ) → k ≡ s.counts.checks.0 + (total 32 (λ i. size (domain P i)) - c.values)
        → TakesChosen n d t P agenda after s
        (record {
          refusal = 0;
          taken = 1;
          state = record
              { counts = record { steps = record { 0 = s.counts.steps.0 + 1 }; checks = record { 0 = k } }; subproblems = l.subproblems };
        })
    chosen_taken z k e =
        let sum : total 32 (λ i. size (domain P i)) - c.values ≡ checks n (table_of n d t) P (chosen_for n d t P free) =
        (counted n d t P h.ready.fitting taking_regular h.runs c f).1
        ∙ sym (rw is_chosen (checks_by n d t P h.ready.fitting taking_regular h.runs c f kind its_kind)) in
        take_taken n d t agenda P _ s h l.refusal its_refusal z after l.subproblems k (put.placed z)
        (e ∙ ap (λ (x : ℕ). s.counts.checks.0 + x) sum)

-- ---- the pieces put

-- Several may be left: the precluded piece is not empty, and V has another value.
pub several_kept : (c : Choice) → several c ≡ true → c.lost ≡ false
unfolding several
several_kept c e = go c.lost e
  where
    go : (b : Bool) → cond b false (cond (eqb c.values 1) false true) ≡ true → b ≡ false
    go true e = absurd (true_false (sym e))
    go false e = refl

pub several_more : (n d : ℕ) (t : List ℕ) (P : Subproblem) (c : Choice) → Found n d t P c → several c ≡ true → size (domain P c.variable) ≡ 1 → ⊥
unfolding several
several_more n d t P c h s one = true_false (sym (rw (several_kept c s, eq-eqb c.values 1 (h.values ∙ one)) at s))

module _ (n d : ℕ) (t : List ℕ) (P : Subproblem) (c : Choice) (below words : ℕ) (h : AtTop n d t P c below words) where
  -- V is one of the n, and its value is in its domain.
  pub put_variable : c.variable < n
  put_variable = variable_is n d t P h.fitting h.regular h.runs c h.found

  pub put_member : value_in P c ∈ domain P c.variable
  put_member = value_is n d t P h.fitting h.regular h.runs c h.found

  -- The words of its request fit.
  pub put_reads : (k : ℕ) → (k ≡ 2) ⊎ (k ≡ 3) → readable n d t (request_by P c k) ≡ true
  put_reads = its_words n d t P h.fitting h.regular h.runs c h.found

  -- The precluded piece is as the code makes it; where several are left it is not empty, nor is V without its value.
  pub put_precluded : precluded_by P c.variable c.row ≡ precluded n (table_of n d t) P c.variable (value_in P c)
  put_precluded = precluded_is n d t P h.fitting h.regular h.runs c h.found

  pub put_kept : several c ≡ true → empty n (precluded n (table_of n d t) P c.variable (value_in P c)) ≡ false
  put_kept s = sym h.found.lost ∙ several_kept c s

  pub put_rest : several c ≡ true → empty n (without P c.variable (single (value_in P c))) ≡ false
  put_rest s =
      rest_full n d (table_of n d t) P c.variable (value_in P c) h.fitting.few h.regular put_variable put_member
      (several_more n d t P c h.found s)
