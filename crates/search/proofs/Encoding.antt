-- A subproblem in the words of a slot, and a stack in the words of an agenda: what is written is read back.
-- Assumes nothing.
use mathlib.Core.Path.{◌≡◌, refl, sym, ap, ◌∙◌}
use mathlib.Core.List.{List, Memᴰ, [], ◌∷◌, ◌++◌, append_assoc, append-nil}
use Prim.Native.Nat.{ℕ, zero, suc, ◌+◌, ◌-◌, ◌*◌, ◌/◌, ◌%◌, ◌^◌, ◌≤◌, ◌<◌}
use native.Mathlib.Omega.{arith}
use native.Mathlib.Decide.{dec_lt}
use native.Mathlib.Nat.{zero-mul}
use native.Mathlib.Numerals.{add-one}
use lib.ListN.{length, get_or, take, drop, set, replicate, length-append, length-take, length-drop, length-replicate, take-append-drop, drop_of_length-le, get_or-replicate, get_or-eq_default, replicate-append-replicate}
use lib.Seq.{length-take-le, drop-cons, append_snoc, set_at, take_at, drop_at, get_or_at, get_or-take, get_or-drop, get_or-append-add, take-add, ext_get_or, take-take}
use Rattle.splits.specs.declared.subproblem.Subproblem.{Subproblem}
use Rattle.search.specs.Agenda.{holding, Shape, slot_words, subproblem_of, slot_at, stack_of, stack_words, agenda_of}
use Rattle.problem.specs.Lists.{splice}
use Rattle.search.specs.Loops.Slots.{SlotIn}
use Rattle.problem.proofs.Copies.{splice_between}

-- A slot of a subproblem of nothing is zeros.
pub slot_none : (n : ℕ) → n ≤ 32 → slot_words n (record { domains = replicate 32 0; marked = 0 }) ≡ replicate (n + 2) 0
unfolding slot_words
slot_none n h =
    let all : replicate {A = ℕ} 32 0 ≡ replicate n 0 ++ replicate (32 - n) 0 = sym
    (rw replicate-append-replicate (let e : n + (32 - n) ≡ 32 = omega arith in rw e refl)) in
    rw (all, take_at {A = ℕ} (replicate n 0) (replicate (32 - n) 0) n (length-replicate n 0)) (replicate-append-replicate n 2 0)

-- The words of slot k, as the code lends them.
pub slot_part : (n k : ℕ) (l : List ℕ) → take ((k * (n + 2) + (n + 2)) - k * (n + 2)) (drop (k * (n + 2)) l) ≡ slot_at n l k
unfolding slot_at
slot_part n k l = let w : (k * (n + 2) + (n + 2)) - k * (n + 2) ≡ n + 2 = omega arith in ap (λ (j : ℕ). take j (drop (k * (n + 2)) l)) w

pub slot_long : (n k : ℕ) (l : List ℕ) → SlotIn n k (length l) → length (slot_at n l k) ≡ n + 2
unfolding slot_at
slot_long n k l s = length-take-le (n + 2) (drop (k * (n + 2)) l) (rw length-drop (omega (arith, s.within)))

-- The subproblem of slot k: its masks where they lie, its set in the two words after them.
pub slot_lies : (n k m : ℕ) (agenda words : List ℕ) → take n words ≡ take n (drop (k * (n + 2)) agenda)
    → m ≡ get_or agenda (k * (n + 2) + n) 0 * 65536 + get_or agenda (k * (n + 2) + n + 1) 0 → holding n words m ≡ subproblem_of n (slot_at n agenda k)
unfolding subproblem_of slot_at holding
slot_lies n k m agenda words e s =
    let front : take n words ≡ take n (take (n + 2) (drop (k * (n + 2)) agenda)) = e ∙ sym
    (take-take n (n + 2) (drop (k * (n + 2)) agenda) (omega arith)) in
    let one : get_or (take (n + 2) (drop (k * (n + 2)) agenda)) n 0 ≡ get_or agenda (k * (n + 2) + n) 0 =
    get_or-take (n + 2) (drop (k * (n + 2)) agenda) n 0 (omega arith) ∙ get_or-drop (k * (n + 2)) agenda n 0 in
    let two : get_or (take (n + 2) (drop (k * (n + 2)) agenda)) (n + 1) 0 ≡ get_or agenda (k * (n + 2) + n + 1) 0 =
    get_or-take (n + 2) (drop (k * (n + 2)) agenda) (n + 1) 0 (omega arith) ∙ get_or-drop (k * (n + 2)) agenda (n + 1) 0 ∙
    (let up : k * (n + 2) + (n + 1) ≡ k * (n + 2) + n + 1 = omega arith in ap (λ (x : ℕ). get_or agenda x 0) up) in
    let marks : m ≡ get_or (take (n + 2) (drop (k * (n + 2)) agenda)) n 0 * 65536 + get_or (take (n + 2) (drop (k * (n + 2)) agenda)) (n + 1) 0 = s ∙ rw
    (one, two) refl in
    λ i. record { domains = front i ++ replicate (32 - n) 0; marked = marks i }

-- The same of the words of the slot alone.
pub slot_read : (n k m : ℕ) (agenda words : List ℕ) (r : Subproblem) → words ≡ slot_at n agenda k → m ≡ get_or words n 0 * 65536 + get_or words (n + 1) 0
    → r ≡ holding n words m → r ≡ subproblem_of n (slot_at n agenda k)
unfolding subproblem_of
slot_read n k m agenda words r own marks e = e ∙ ap (holding n words) marks ∙ ap (subproblem_of n) own

-- A slot has n + 2 words.
pub length_slot : (n : ℕ) (P : Subproblem) → n ≤ length P.domains → length (slot_words n P) ≡ n + 2
unfolding slot_words
length_slot n P h = simp (length-append, length-take) (omega arith)

-- What the stores into a slot make.
pub slot_made : (n : ℕ) (P : Subproblem) (slot ys : List ℕ) → ys ≡ take n P.domains → length slot ≡ n + 2
    → n ≤ length P.domains → set (set (ys ++ drop n slot) n (P.marked / 65536)) (n + 1) (P.marked % 65536) ≡ slot_words n P
unfolding slot_words
slot_made n P slot ys e s h =
    let long : length (take n P.domains) ≡ n = length-take-le n P.domains h in
    let none : drop (suc (suc n)) slot ≡ [] = let h : length slot ≤ suc (suc n) = omega arith in drop_of_length-le slot h in
    let two : drop n slot ≡ get_or slot n 0 ∷ get_or slot (suc n) 0 ∷ [] =
    drop-cons slot n 0 (omega arith)
    ∙ ap (λ (t : List ℕ). get_or slot n 0 ∷ t) (drop-cons slot (suc n) 0 (omega arith) ∙ ap (λ (t : List ℕ). get_or slot (suc n) 0 ∷ t) none) in
    let high : List ℕ = take n P.domains ++ ((P.marked / 65536) ∷ []) in
    let longer : length high ≡ n + 1 = simp length-append (omega arith) in
    rw (e, two, set_at (take n P.domains) (get_or slot n 0) (get_or slot (suc n) 0 ∷ []) (P.marked / 65536) n long)
    (rw (← append_snoc (take n P.domains) (P.marked / 65536) (get_or slot (suc n) 0 ∷ []))
    (set_at high (get_or slot (suc n) 0) [] (P.marked % 65536) (n + 1) longer ∙ append_snoc (take n P.domains) (P.marked / 65536) ((P.marked % 65536) ∷ [])))

-- ---- a slot read back

-- The last two words of n + 2.
last_two : (n : ℕ) (ws : List ℕ) → length ws ≡ n + 2 → drop n ws ≡ get_or ws n 0 ∷ get_or ws (n + 1) 0 ∷ []
last_two n ws e =
    let short : length ws ≤ suc (suc n) = omega arith in
    rw add-one (drop-cons ws n 0 (omega arith)
    ∙ ap (λ (t : List ℕ). get_or ws n 0 ∷ t) (drop-cons ws (suc n) 0 (omega arith) ∙ ap (λ (t : List ℕ). get_or ws (suc n) 0 ∷ t) (drop_of_length-le ws short)))

-- A list that is zero from k on ends in zeros.
tail_zeros : (k : ℕ) (l : List ℕ) → ((i : ℕ) → k ≤ i → get_or l i 0 ≡ 0) → drop k l ≡ replicate (length l - k) 0
tail_zeros k l h =
    ext_get_or 0 (drop k l) (replicate (length l - k) 0) (simp (length-drop, length-replicate))
    (λ i b. get_or-drop k l i 0 ∙ h (k + i) (omega arith) ∙ sym (get_or-replicate (length l - k) i 0 0 (within i b)))
  where
    within : (i : ℕ) → i < length (drop k l) → i < length l - k
    within i b = omega (arith, length-drop k l)

-- Words of a part are words.
pub part_small : (w a : ℕ) (l : List ℕ) → ((i : ℕ) → get_or l i 0 < 2 ^ 16) → (i : ℕ) → get_or (take w (drop a l)) i 0 < 2 ^ 16
part_small w a l small i = elim (dec_lt i w) [
  | yes h ↦ rw (get_or-take w (drop a l) i 0 h, get_or-drop a l i 0) (small (a + i))
  | no h ↦
      let past : length (take w (drop a l)) ≤ i = simp length-take (omega arith) in
      rw (get_or-eq_default (take w (drop a l)) 0 past) (omega arith)
]

-- What a slot holds of a subproblem of that shape is the subproblem.
pub slot_back : (n d : ℕ) (P : Subproblem) → n ≤ 32 → Shape n d P → subproblem_of n (slot_words n P) ≡ P
unfolding subproblem_of slot_words holding
slot_back n d P few s =
    let long : length (take n P.domains) ≡ n = length-take-le n P.domains (omega (arith, s.long)) in
    let words : List ℕ = take n P.domains ++ (P.marked / 65536 ∷ P.marked % 65536 ∷ []) in
    let at_n : get_or words n 0 ≡ P.marked / 65536 = get_or_at (take n P.domains) (P.marked / 65536) (P.marked % 65536 ∷ []) 0 n long in
    let at-n1 : get_or words (n + 1) 0 ≡ P.marked % 65536 =
    ap (λ (k : ℕ). get_or words (k + 1) 0) (sym long) ∙ get_or-append-add (take n P.domains) (P.marked / 65536 ∷ P.marked % 65536 ∷ []) 1 0 in
    let marks : get_or words n 0 * 65536 + get_or words (n + 1) 0 ≡ P.marked = omega (arith, at_n, at-n1) in
    let domains : take n words ++ replicate (32 - n) 0 ≡ P.domains =
    rw (
      take_at (take n P.domains) (P.marked / 65536 ∷ P.marked % 65536 ∷ []) n long,
      ← ap (λ (k : ℕ). replicate {A = ℕ} (k - n) 0) s.long,
      ← tail_zeros n P.domains s.past,
    ) (take-append-drop n P.domains) in
    λ t. record { domains = domains t; marked = marks t }

-- Words of a slot are those of the subproblem that they hold.
pub words_back : (n : ℕ) (ws : List ℕ) → length ws ≡ n + 2 → ((i : ℕ) → get_or ws i 0 < 2 ^ 16) → slot_words n (subproblem_of n ws) ≡ ws
unfolding subproblem_of slot_words holding
words_back n ws e small =
    let long : length (take n ws) ≡ n = length-take-le n ws (omega arith) in
    let high : (get_or ws n 0 * 65536 + get_or ws (n + 1) 0) / 65536 ≡ get_or ws n 0 = omega (arith, small (n + 1)) in
    let low : (get_or ws n 0 * 65536 + get_or ws (n + 1) 0) % 65536 ≡ get_or ws (n + 1) 0 = omega (arith, small (n + 1)) in
    rw (take_at (take n ws) (replicate (32 - n) 0) n long, high, low, ← last_two n ws e) (take-append-drop n ws)

-- ---- a stack

-- As many words as its subproblems ask.
pub length_stack : (n : ℕ) (S : List Subproblem) → ((P : Subproblem) → Memᴰ P S → n ≤ length P.domains)
    → length (stack_words n S) ≡ length S * (n + 2)
unfolding stack_words
length_stack n [] h = sym (zero-mul (n + 2))
length_stack n (P ∷ S) h =
    let rest : length (stack_words n S) ≡ length S * (n + 2) = length_stack n S (λ Q m. h Q (Memᴰ.tail m)) in
    let slot : length (slot_words n P) ≡ n + 2 = length_slot n P (h P (Memᴰ.head refl)) in
    rw (length-append, rest, slot) (omega arith)

-- As many subproblems as slots are read.
pub length_stack_of : (n : ℕ) (agenda : List ℕ) (m : ℕ) → length (stack_of n agenda m) ≡ m
unfolding stack_of
length_stack_of n agenda zero = refl
length_stack_of n agenda (suc m) = ap suc (length_stack_of n agenda m)

-- What stands above comes after.
pub stack_append : (n : ℕ) (T S : List Subproblem) → stack_words n (T ++ S) ≡ stack_words n S ++ stack_words n T
unfolding stack_words
stack_append n [] S = sym (append-nil (stack_words n S))
stack_append n (P ∷ T) S = rw (stack_append n T S) (append_assoc (stack_words n S) (stack_words n T) (slot_words n P))

-- The stack that its words hold, whatever comes after them.
pub stack_back : (n d : ℕ) (S : List Subproblem) (zs : List ℕ) → n ≤ 32 → ((P : Subproblem) → Memᴰ P S → Shape n d P)
    → stack_of n (stack_words n S ++ zs) (length S) ≡ S
unfolding stack_of stack_words slot_at
stack_back n d [] zs few h = refl
stack_back n d (P ∷ S) zs few h =
    let shape : Shape n d P = h P (Memᴰ.head refl) in
    let wide : (Q : Subproblem) → Memᴰ Q S → n ≤ length Q.domains = λ Q m. let l = (h Q (Memᴰ.tail m)).long in omega arith in
    let seam : length (stack_words n S) ≡ length S * (n + 2) = length_stack n S wide in
    let slot : take (n + 2) (drop (length S * (n + 2)) (stack_words n S ++ (slot_words n P ++ zs))) ≡ slot_words n P =
    rw (drop_at (stack_words n S) (slot_words n P ++ zs) (length S * (n + 2)) seam)
    (take_at (slot_words n P) zs (n + 2) (length_slot n P (omega (arith, shape.long)))) in
    rw (append_assoc (stack_words n S) (slot_words n P) zs, slot, slot_back n d P few shape)
    (ap (λ (t : List ℕ). P ∷ stack_of n t (length S)) (append_assoc (stack_words n S) (slot_words n P) zs)
    ∙ ap (λ (T : List Subproblem). P ∷ T) (stack_back n d S (slot_words n P ++ zs) few (λ Q m. h Q (Memᴰ.tail m))))

-- The words of the stack that words hold are those words.
pub stack_of_words : (n : ℕ) (agenda : List ℕ) (m : ℕ) → m * (n + 2) ≤ length agenda → ((i : ℕ) → get_or agenda i 0 < 2 ^ 16)
    → stack_words n (stack_of n agenda m) ≡ take (m * (n + 2)) agenda
unfolding stack_of stack_words slot_at
stack_of_words n agenda zero h small = rw zero-mul refl
stack_of_words n agenda (suc m) h small =
    let up : suc m * (n + 2) ≡ m * (n + 2) + (n + 2) = omega arith in
    let words : List ℕ = take (n + 2) (drop (m * (n + 2)) agenda) in
    let long : length words ≡ n + 2 = simp (length-take, length-drop) (omega arith) in
    rw (stack_of_words n agenda m (omega arith) small, words_back n words long (part_small (n + 2) (m * (n + 2)) agenda small), up)
    (sym (take-add (m * (n + 2)) (n + 2) agenda))

-- ---- an agenda

-- An agenda holds the stack that was put into it.
pub agenda_back : (n d L : ℕ) (S : List Subproblem) → n ≤ 32 → ((P : Subproblem) → Memᴰ P S → Shape n d P)
    → stack_of n (agenda_of n L S) (length S) ≡ S
unfolding agenda_of
agenda_back n d L S few h = stack_back n d S _ few h

-- It has the number of words that it was given.
pub length_agenda : (n L : ℕ) (S : List Subproblem) → length (stack_words n S) ≤ L → length (agenda_of n L S) ≡ L
unfolding agenda_of
length_agenda n L S h = simp (length-append, length-replicate) (omega arith)

-- Words with zeros in unused slots are the agenda of the stack that they hold.
pub agenda_of_words : (n : ℕ) (agenda : List ℕ) (m : ℕ) → m * (n + 2) ≤ length agenda → ((i : ℕ) → get_or agenda i 0 < 2 ^ 16)
    → ((i : ℕ) → m * (n + 2) ≤ i → get_or agenda i 0 ≡ 0) → agenda ≡ agenda_of n (length agenda) (stack_of n agenda m)
unfolding agenda_of
agenda_of_words n agenda m h small zeros =
    let long : length (take (m * (n + 2)) agenda) ≡ m * (n + 2) = length-take-le (m * (n + 2)) agenda h in
    rw (stack_of_words n agenda m h small, long, ← tail_zeros (m * (n + 2)) agenda zeros) (sym (take-append-drop (m * (n + 2)) agenda))

-- The top's slot cleared: the stack without it.
pub agenda_pop : (n L a : ℕ) (P : Subproblem) (S : List Subproblem) → n ≤ length P.domains → length (stack_words n S) ≡ a → a + (n + 2) ≤ L
    → splice (agenda_of n L (P ∷ S)) a (replicate (n + 2) 0) ≡ agenda_of n L S
unfolding agenda_of stack_words
agenda_pop n L a P S h e fits =
    let slot : length (slot_words n P) ≡ n + 2 = length_slot n P h in
    let same : length {A = ℕ} (replicate (n + 2) 0) ≡ length (slot_words n P) = simp length-replicate (omega arith) in
    let sum : (n + 2) + (L - length (stack_words n S ++ slot_words n P)) ≡ L - length (stack_words n S) = simp length-append (omega arith) in
    rw (append_assoc (stack_words n S) (slot_words n P) (replicate (L - length (stack_words n S ++ slot_words n P)) 0))
    (splice_between (stack_words n S) (slot_words n P) (replicate (L - length (stack_words n S ++ slot_words n P)) 0) (replicate (n + 2) 0) a e same
    ∙ rw (replicate-append-replicate, sum) refl)

-- Subproblems written above a stack.
pub agenda_push : (n L a : ℕ) (T S : List Subproblem) → length (stack_words n S) ≡ a → a + length (stack_words n T) ≤ L
    → splice (agenda_of n L S) a (stack_words n T) ≡ agenda_of n L (T ++ S)
unfolding agenda_of
agenda_push n L a T S e fits =
    let sum : length (stack_words n T) + (L - length (stack_words n S ++ stack_words n T)) ≡ L - length (stack_words n S) = simp length-append
    (omega arith) in
    let same : length (stack_words n T) ≡ length {A = ℕ} (replicate (length (stack_words n T)) 0) = simp length-replicate in
    rw (← sum, ← replicate-append-replicate {A = ℕ} (length (stack_words n T)) (L - length (stack_words n S ++ stack_words n T)) 0)
    (splice_between (stack_words n S) (replicate (length (stack_words n T)) 0) (replicate (L - length (stack_words n S ++ stack_words n T)) 0) (stack_words n T) a e same
    ∙ sym (rw (stack_append n T S) (append_assoc (stack_words n S) (stack_words n T) (replicate (L - length (stack_words n S ++ stack_words n T)) 0))))
