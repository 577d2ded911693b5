-- The numbers by which a check can refuse. Assumes nothing.
use mathlib.Core.Path.{◌≡◌, refl, sym, ap, subst, ◌∙◌}
use mathlib.Core.Bool.{Bool, true, false, ◌&&◌, cond}
use mathlib.Core.List.{List, [], ◌∷◌}
use mathlib.Core.Logic.{⊎_elim}
use Prim.Native.Nat.{ℕ, ◌≤◌}
use native.Mathlib.Omega.{arith}
use borrow.Author.Tests.{leb-true, eqb-true}
use lib.Dec.{T, leb, eqb}
use lib.ListN.{get_or}
use Rattle.model.specs.Growth.{limit}
use Rattle.model.proofs.Tests.{true_of, or_cases, and_first, and_second}
use Rattle.tables.specs.declared.Table.{Table}
use Rattle.tables.specs.declared.Refusal.{Refusal}
use Rattle.tables.specs.declared.Refusal.TheVariants as R
use Rattle.tables.specs.Refusals.{Answer}
use Rattle.tables.specs.Refusals.{Accepted, Refused}
use Rattle.tables.specs.declared.Answered.{Answered}
use Rattle.tables.specs.Refusals.{refusal_number, answer_number, member, one_of, Numbered}
use Rattle.tables.specs.Values.{good_width, all_clean, zero_past, check_table}

-- ---- Lists of numbers

-- Each of the numbers is one of ms.
unfoldable pub within : List ℕ → List ℕ → Bool
within [] ms = true
within (n ∷ ns) ms = member n ms && within ns ms

member_within : (k : ℕ) (ns ms : List ℕ) → T (within ns ms) → T (member k ns) → T (member k ms)
unfolding within member
member_within k [] ms w h = absurd h
member_within k (n ∷ ns) ms w h =
    ⊎_elim
    (λ e. subst (λ (i : ℕ). T (member i ms)) (let s : n ≡ k = (let d = eqb-true k n (true_of (eqb k n) e) in cc) in s)
    (and_first (member n ms) (within ns ms) w))
    (member_within k ns ms (and_second (member n ms) (within ns ms) w)) (or_cases (eqb k n) (member k ns) h)

-- A refusal with one of some numbers has one of more numbers.
pub one_of_more : (ns ms : List ℕ) (r : Refusal) → T (within ns ms) → T (one_of ns r) → T (one_of ms r)
unfolding one_of
one_of_more ns ms r = member_within (refusal_number r) ns ms

-- none of the numbers is above m
unfoldable pub at_most : ℕ → List ℕ → Bool
at_most m [] = true
at_most m (n ∷ ns) = leb n m && at_most m ns

member_most : (m k : ℕ) (ns : List ℕ) → T (at_most m ns) → T (member k ns) → k ≤ m
unfolding at_most member
member_most m k [] w h = absurd h
member_most m k (n ∷ ns) w h =
    ⊎_elim
    (λ e.
    let d = eqb-true k n (true_of (eqb k n) e) in
    let f = leb-true n m (true_of (leb n m) (and_first (leb n m) (at_most m ns) w)) in
    omega (arith, d, f))
    (member_most m k ns (and_second (leb n m) (at_most m ns) w)) (or_cases (eqb k n) (member k ns) h)

-- A refusal with one of some numbers, none of which is above m, has a number of at most m.
pub number_most : (m : ℕ) (ns : List ℕ) (r : Refusal) → T (at_most m ns) → T (one_of ns r) → refusal_number r ≤ m
unfolding one_of
number_most m ns r = member_most m (refusal_number r) ns

-- ---- The parts of a check

module _ (ns : List ℕ) where
  -- A refusal with one of the numbers.
  pub refused_numbered : (s : Refusal) → T (one_of ns s) → Numbered ns (Refused s)
  refused_numbered s h r e = subst (λ (i : Refusal). T (one_of ns i)) (let p : s ≡ r = cc in p) h

  -- Accepted: no refusal.
  pub accepted_numbered : Numbered ns Accepted
  accepted_numbered r e = absurd (let z : ◌≡◌ {A = ℕ} 0 1 = cc in omega arith)

  -- A test, with an answer where it holds and one where it does not.
  pub test_numbered : (b : Bool) (a c : Answer) → Numbered ns a → Numbered ns c → Numbered ns (cond b a c)
  test_numbered true a c f g = f
  test_numbered false a c f g = g

  -- The same of an answer with a table; the first is given only where the test holds.
  pub answered_numbered : (b : Bool) (a c : Answered) → (b ≡ true → Numbered ns a.answer) → Numbered ns c.answer
      → Numbered ns (cond b a c).answer
  answered_numbered true a c f g = f refl
  answered_numbered false a c f g = g

-- The check of a table value refuses by 2, 3 or 4.
pub check_numbers : (t : Table) → Numbered (2 ∷ 3 ∷ 4 ∷ []) (check_table t)
unfolding check_table one_of member
check_numbers t =
    let ns : List ℕ = 2 ∷ 3 ∷ 4 ∷ [] in
    test_numbered ns (good_width t.l) _ _
    (test_numbered ns (leb t.n limit) _ _
    (test_numbered ns (all_clean t.l t.n t.care t.value && zero_past t.n t.care t.value) _ _
    (accepted_numbered ns) (refused_numbered ns R.Stray tt))
    (refused_numbered ns R.Entries tt))
    (refused_numbered ns R.Width tt)

-- ---- The answer of a number

-- the answers, by their numbers
numbered_answers : List Answer
numbered_answers =
    Accepted ∷ Refused R.Torn ∷ Refused R.Width ∷ Refused R.Entries ∷ Refused R.Stray ∷ Refused R.Name ∷ Refused R.Term
    ∷ Refused R.Long ∷ Refused R.Full ∷ Refused R.Narrow ∷ Refused R.Unlike ∷ Refused R.Keep ∷ Refused R.Digit ∷ []

answer_back : (a : Answer) → get_or numbered_answers (answer_number a) Accepted ≡ a
unfolding numbered_answers
answer_back Accepted = refl
answer_back (Refused R.Torn) = refl
answer_back (Refused R.Width) = refl
answer_back (Refused R.Entries) = refl
answer_back (Refused R.Stray) = refl
answer_back (Refused R.Name) = refl
answer_back (Refused R.Term) = refl
answer_back (Refused R.Long) = refl
answer_back (Refused R.Full) = refl
answer_back (Refused R.Narrow) = refl
answer_back (Refused R.Unlike) = refl
answer_back (Refused R.Keep) = refl
answer_back (Refused R.Digit) = refl

-- Answers with the same number are the same.
pub same_answer : (a b : Answer) → answer_number a ≡ answer_number b → a ≡ b
same_answer a b e = sym (answer_back a) ∙ ap (λ (k : ℕ). get_or numbered_answers k Accepted) e ∙ answer_back b

-- A refusal has no number 0.
pub refusal_some : {P : Type 0} (r : Refusal) → refusal_number r ≡ 0 → P
refusal_some r e =
    let clash = same_answer (Refused r) Accepted e in
    absurd (let z : ◌≡◌ {A = ℕ} 0 1 = cc in omega arith)

-- Refusals with one number are one.
pub same_refusal : (r s : Refusal) → refusal_number r ≡ refusal_number s → r ≡ s
same_refusal r s e = let d = same_answer (Refused r) (Refused s) e in cc
