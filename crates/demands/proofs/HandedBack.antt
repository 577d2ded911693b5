-- The law of handing back, and what it makes of a call's own answers: which number an exported call that writes a table returns,
-- and every byte of its output. Assumes nothing.
use mathlib.Core.Path.{◌≡◌, refl, sym, ap, subst, ◌∙◌}
use mathlib.Core.Bool.{Bool, true, false}
use mathlib.Core.List.{List, ◌∷◌, ◌++◌}
use mathlib.Core.Logic.{◌⊎◌, inl, inr, ⊎_elim}
use Prim.Native.Nat.{ℕ, ◌<◌}
use native.Mathlib.Omega.{arith}
use borrow.Author.Tests.{leb-true, leb-false}
use lib.Dec.{T, leb, eqb}
use lib.ListN.{length, drop}
use Rattle.model.proofs.Tests.{or_right}
use Rattle.tables.specs.declared.Table.{Table}
use Rattle.tables.specs.declared.Refusal.{Refusal}
use Rattle.tables.specs.declared.Refusal.TheVariants as R
use Rattle.tables.specs.Refusals.{Answer}
use Rattle.tables.specs.Refusals.{Accepted, Refused}
use Rattle.tables.specs.declared.Answered.{Answered}
use Rattle.tables.specs.Refusals.{refusal_number, answer_number, if_accepted, member, one_of}
use Rattle.tables.proofs.Checking.{good_passes}
use Rattle.tables.proofs.Numbers.{same_answer}
use Rattle.operations.specs.Outcomes.{Outcome, early, full, accepted, Exclusive}
use Rattle.operations.proofs.Demand2.{result}
use Rattle.operations.proofs.Exclusive.{Conditions, exclusive}
use Rattle.forms.specs.declared.Layout.{Layout}
use Rattle.forms.specs.TableForms.{form_length, form_of, form_answer, written}
use Rattle.forms.proofs.Outcomes.{write_narrow, write_fits, form_long}
use Rattle.byte_calls.specs.Outputs.{output_answer_as, output_number_as, output_bytes_as}
use Rattle.demands.specs.Demand2.{Fits, Wrote, HandedBack, ExportedAs}
use Rattle.demands.proofs.ReadsBack.{MakesGood, output_accepted, output_reads, output_form}

-- an accepted answer is no refusal
accepted_not : {r : Refusal} {P : Type 0} → Accepted ≡ Refused r → P
accepted_not e = absurd (let z : ◌≡◌ {A = ℕ} 0 1 = cc in omega arith)

-- the length of the form of an answer's table
abbrev form_size : Layout → Answered → ℕ
form_size f a = form_length f a.table.l a.table.n

module _ (f : Layout) (a : Answered) (out : List ℕ) where
  -- The number is that of the answer, and says which it is.
  pub number_is : {w : Answer} → output_answer_as f a out ≡ w → output_number_as f a out ≡ answer_number w
  unfolding output_number_as
  number_is e = ap answer_number e

  pub answer_is : (w : Answer) → output_number_as f a out ≡ answer_number w → output_answer_as f a out ≡ w
  unfolding output_number_as
  answer_is w e = same_answer (output_answer_as f a out) w e

  -- a refusal is handed on
  output_refused : {r : Refusal} → a.answer ≡ Refused r → output_answer_as f a out ≡ Refused r
  unfolding output_answer_as if_accepted
  output_refused e = rw e

  output_kept : {r : Refusal} → output_answer_as f a out ≡ Refused r → output_bytes_as f a out ≡ out
  unfolding output_bytes_as written if_accepted
  output_kept e = rw e

  module _ (good : MakesGood a) where
    -- of an accepted call, by the room
    module _ (went : a.answer ≡ Accepted) where
      output_is : output_answer_as f a out ≡ form_answer f a.table (length out)
      unfolding output_answer_as if_accepted
      output_is = rw went

      output_fits : Fits f a.table out → output_answer_as f a out ≡ Accepted
      output_fits h = output_is ∙ sym (write_fits f a.table out (good_passes a.table (good went).0) h)

      output_narrow : length out < form_size f a → output_answer_as f a out ≡ Refused R.Narrow
      output_narrow h = output_is ∙ sym (write_narrow f a.table out (good_passes a.table (good went).0) h).0

      fits_where : output_answer_as f a out ≡ Accepted → Fits f a.table out
      fits_where e = go (leb (form_size f a) (length out)) refl
        where
          go : (b : Bool) → leb (form_size f a) (length out) ≡ b → Fits f a.table out
          go true h = leb-true (form_size f a) (length out) h
          go false h = accepted_not (sym e ∙ output_narrow (leb-false (form_size f a) (length out) h))

      narrow_where : output_answer_as f a out ≡ Refused R.Narrow → ¬ (Fits f a.table out)
      narrow_where e h = accepted_not (sym (output_fits h) ∙ e)

      narrow_of : ¬ (Fits f a.table out) → output_answer_as f a out ≡ Refused R.Narrow
      narrow_of n = go (leb (form_size f a) (length out)) refl
        where
          go : (b : Bool) → leb (form_size f a) (length out) ≡ b → output_answer_as f a out ≡ Refused R.Narrow
          go true h = absurd (n (leb-true (form_size f a) (length out) h))
          go false h = output_narrow (leb-false (form_size f a) (length out) h)

    output_wrote : output_answer_as f a out ≡ Accepted → Wrote f a.table out (output_bytes_as f a out)
    unfolding output_bytes_as written if_accepted
    output_wrote e =
        let g = good (output_accepted f a out e) in
        let form = form_of f a.table in
        let reads = output_reads f a out g.0 g.1 e in
        record {
          bytes = rw e (ap (λ (k : ℕ). form ++ drop k out) (form_long a.table g.0 f));
          reads = reads;
          alone = output_form f a out e reads;
        }

    unwritten_at : ¬ (output_number_as f a out ≡ 0) → output_bytes_as f a out ≡ out
    unwritten_at n = go (output_answer_as f a out) refl
      where
        go : (w : Answer) → output_answer_as f a out ≡ w → output_bytes_as f a out ≡ out
        go Accepted e = absurd (n (number_is e))
        go (Refused r) e = output_kept e

    -- The law of handing back.
    pub handed_back : HandedBack f a out
    handed_back = record {
      zero_where = λ went. (λ e. fits_where went (answer_is Accepted e), λ h. number_is (output_fits went h));
      nine_where = λ went. (
        λ e. narrow_where went (answer_is (Refused R.Narrow) e),
        λ h. number_is (narrow_of went h),
      );
      refused = λ r e. number_is (output_refused e);
      wrote = λ e. output_wrote (answer_is Accepted e);
      unwritten = unwritten_at;
    }

-- ---- By the call's own answers

narrow_not_full : ¬ (R.Narrow ≡ R.Full)
narrow_not_full e = absurd (let z : ◌≡◌ {A = ℕ} 0 1 = cc in omega arith)

module _ (f : Layout) (a : Answered) (good : MakesGood a) (out : List ℕ) where
  -- an accepted call is 0 or 9
  accepted_number : a.answer ≡ Accepted → (output_answer_as f a out ≡ Accepted) ⊎ (output_answer_as f a out ≡ Refused R.Narrow)
  accepted_number went = go (leb (form_size f a) (length out)) refl
    where
      go : (b : Bool) → leb (form_size f a) (length out) ≡ b
          → (output_answer_as f a out ≡ Accepted) ⊎ (output_answer_as f a out ≡ Refused R.Narrow)
      go true h = inl (output_fits f a out good went (leb-true (form_size f a) (length out) h))
      go false h = inr (output_narrow f a out good went (leb-false (form_size f a) (length out) h))

  -- any other number is the call's own
  own : (r : Refusal) → ¬ (r ≡ R.Narrow) → output_number_as f a out ≡ refusal_number r → a.answer ≡ Refused r
  own r other e = go a.answer refl
    where
      here : output_answer_as f a out ≡ Refused r
      here = answer_is f a out (Refused r) e

      go : (w : Answer) → a.answer ≡ w → a.answer ≡ Refused r
      go Accepted h =
          ⊎_elim (λ k. accepted_not (sym k ∙ here))
          (λ k. absurd (other (let is : r ≡ R.Narrow = (let d = sym here ∙ k in cc) in is))) (accepted_number h)
      go (Refused s) h = h ∙ sym (output_refused f a out h) ∙ here

-- a refusal of a list of numbers is none that is not in it
apart_from : (ns : List ℕ) (x : Refusal) → one_of ns x ≡ false → {r : Refusal} → T (one_of ns r) → ¬ (r ≡ x)
apart_from ns x out h e = subst (λ (b : Bool). T b) out (subst (λ (i : Refusal). T (one_of ns i)) e h)

module _ (f : Layout) {t : Table} {Early : Refusal → Type 0} {Ready : Type 0} {Full : Ready → Type 0}
    {Result : Ready → Table → Type 0} (ns : List ℕ) (conditions : Conditions ns Early Ready) (no_8 : one_of ns R.Full ≡ false)
    (no_9 : one_of ns R.Narrow ≡ false) (same : (p q : Ready) → Full p → Full q) where
  -- the numbers that can be returned
  listed : {a : Answered} → Outcome t Early Ready Full Result a → MakesGood a → (out : List ℕ)
      → T (member (output_number_as f a out) (0 ∷ 8 ∷ 9 ∷ ns))
  unfolding one_of member
  listed {a} (early {r} h) good out =
      let n = output_number_as f a out in
      or_right (eqb n 0) _ (or_right (eqb n 8) _ (or_right (eqb n 9) _
      (subst (λ (k : ℕ). T (member k ns)) (sym (number_is f a out (output_refused f a out refl))) (conditions.numbers r h))))
  listed {a} (full ready k) good out =
      let n : output_number_as f a out ≡ 8 = number_is f a out (output_refused f a out refl) in rw n tt
  listed {a} (accepted ready m h) good out =
      let n = output_number_as f a out in
      let at : (k : ℕ) → T (member k (0 ∷ 8 ∷ 9 ∷ ns)) → n ≡ k → T (member n (0 ∷ 8 ∷ 9 ∷ ns)) =
      λ k h e. subst (λ (i : ℕ). T (member i (0 ∷ 8 ∷ 9 ∷ ns))) (sym e) h in
      ⊎_elim (λ k. at 0 tt (number_is f a out k)) (λ k. at 9 tt (number_is f a out k)) (accepted_number f a good out refl)

  -- What an exported call returns and writes, from how the call itself can answer.
  pub exported : {a : Answered} → Outcome t Early Ready Full Result a → MakesGood a → (out : List ℕ)
      → ExportedAs f ns Early Ready Full Result a out
  exported {a} outcome good out = record {
    zero_where = (
      λ e.
          let went = output_accepted f a out (answer_is f a out Accepted e) in
          let h = only.accepted_where.0 went in
          (h.0, h.1, (back.zero_where went).0 e),
      λ h. (back.zero_where (only.accepted_where.1 (h.0, h.1))).1 h.2,
    );
    eight_where = (
      λ e. only.full_where.0 (own f a good out R.Full (λ k. narrow_not_full (sym k)) e),
      λ h. back.refused R.Full (only.full_where.1 h),
    );
    nine_where = (nine a.answer refl, λ h. (back.nine_where (only.accepted_where.1 (h.0, h.1))).1 h.2);
    early_where = λ r h. (
      λ e. (only.refused_where r (apart_from ns R.Full no_8 h)).0 (own f a good out r (apart_from ns R.Narrow no_9 h) e),
      λ k. back.refused r ((only.refused_where r (apart_from ns R.Full no_8 h)).1 k),
    );
    no_other = listed outcome good out;
    result = λ e.
        let m = result outcome (output_accepted f a out (answer_is f a out Accepted e)) in
        (m.0, m.1, back.wrote e);
    unwritten = back.unwritten;
  }
    where
      only : Exclusive ns Early Ready Full a
      only = exclusive ns conditions no_8 same outcome

      back : HandedBack f a out
      back = handed_back f a out good

      nine : (w : Answer) → a.answer ≡ w → output_number_as f a out ≡ 9
          → (ready : Ready) × ¬ (Full ready) × ¬ (Fits f a.table out)
      nine Accepted h e = let k = only.accepted_where.0 h in (k.0, k.1, (back.nine_where h).0 e)
      nine (Refused s) h e =
          let is = sym (output_refused f a out h) ∙ answer_is f a out (Refused R.Narrow) e in
          let k = (only.refused_where R.Narrow narrow_not_full).0 (h ∙ is) in
          absurd (apart_from ns R.Narrow no_9 (conditions.numbers R.Narrow k) refl)
