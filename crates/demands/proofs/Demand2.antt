-- Demand 2 of the exported calls that write a table, both sides: reading, the call and writing in one theorem each. Assumes
-- nothing.
use mathlib.Core.Path.{◌≡◌, refl, sym, ap, subst, ◌∙◌}
use mathlib.Core.Bool.{Bool, true, false, cond}
use mathlib.Core.List.{List, [], ◌∷◌}
use mathlib.Core.Logic.{◌⊎◌, inl, inr, ⊎_elim, ◌↔◌}
use Prim.Native.Nat.{ℕ}
use native.Mathlib.Omega.{arith}
use lib.Dec.{T, leb}
use Rattle.model.specs.Groups.{Joined}
use Rattle.model.specs.Growth.{limit}
use Rattle.model.specs.Tables.{Side, groups}
use Rattle.tables.specs.declared.Table.{Table}
use Rattle.tables.specs.declared.Refusal.{Refusal}
use Rattle.tables.specs.declared.Refusal.TheVariants as R
use Rattle.tables.specs.Refusals.{Answer}
use Rattle.tables.specs.Refusals.{Accepted, Refused}
use Rattle.tables.specs.declared.Answered.{Answered}
use Rattle.tables.specs.Refusals.{member, one_of}
use Rattle.tables.specs.Values.{table_of, zero_table, accepts, refuses, good_width, check_table}
use Rattle.tables.proofs.Checking.{good_passes, good_long}
use Rattle.tables.proofs.Numbers.{within, one_of_more}
use Rattle.terms.specs.Checks.{Written, one_term, two_terms}
use Rattle.terms.specs.Checks as C
use Rattle.operations.specs.Operations.{good_keep, written_call, join_call, projection_call, change_side_call}
use Rattle.operations.specs.Outcomes.{TableValue, groups_of, Becomes, Outcome, early, full, accepted, EquationNeeds}
use Rattle.operations.specs.Outcomes.{UnifyNeeds, JoinNeeds, ProjectionNeeds, ChangeNeeds}
use Rattle.operations.proofs.Demand2.{convert_outcome, equation_outcome, unify_outcome, join_outcome, projection_outcome}
use Rattle.operations.proofs.Demand2.{change_outcome}
use Rattle.operations.proofs.Exclusive.{Conditions, single, test, and_then, as_said, table_conditions, term_conditions}
use Rattle.operations.proofs.Exclusive.{sides_conditions, convert_conditions}
use Rattle.forms.specs.declared.Layout.{Layout}
use Rattle.forms.specs.declared.Layout.TheVariants.{Plain, Packed}
use Rattle.forms.specs.declared.Extent.TheVariants.{Whole}
use Rattle.forms.specs.TableForms.{sized, first_size, second_size, written_entries, bad_entry, form_numbers, read_entries}
use Rattle.forms.specs.TableForms.{read_sized, read_form, Passed}
use Rattle.forms.proofs.Reading.{entries_grow, read_good, read_groups}
use Rattle.forms.proofs.Tests.{passed_reads}
use Rattle.forms.proofs.Numbers.{read_numbers}
use Rattle.byte_calls.specs.ByteCalls.{tokens_of, term_call, terms_call, written_tokens, value_call, refuses_zero}
use Rattle.byte_calls.specs.ByteCalls.{after_read, change_side_bytes, equation_bytes, unify_bytes, written_bytes}
use Rattle.byte_calls.specs.ByteCalls.{join_bytes, projection_bytes}
use Rattle.byte_calls.proofs.AfterChecks.{check_all_bytes, bytes_numbers, bytes_passed, bytes_refused}
use Rattle.demands.specs.Demand2.{Reads, Unread, Fails, entries_well, right_length, FormEarly, AfterRead}
use Rattle.demands.specs.Demand2.{ReadAnd, SecondEarly, SecondReady, FormExported, ReadExported, PackExported}
use Rattle.demands.specs.Demand2.{UnpackExported, ConvertExported, ChangeExported, EquationExported, UnifyExported}
use Rattle.demands.specs.Demand2.{ProjectionExported, JoinExported}
use Rattle.demands.proofs.ByBytes.{call_by_bytes, call_unread}
use Rattle.demands.proofs.ReadsBack.{read_made, convert_made, change_side_made, equation_made, join_made}
use Rattle.demands.proofs.ReadsBack.{projection_made}
use Rattle.demands.proofs.HandedBack.{exported}

-- ---- Outcomes under other names

-- an outcome, with its conditions said otherwise
module _ {t : Table} {E E' : Refusal → Type 0} {P P' : Type 0} {F : P → Type 0} {F' : P' → Type 0} {S : P → Table → Type 0}
    {S' : P' → Table → Type 0} where
  outcome_as : ((r : Refusal) → E r → E' r) → (to : P → P') → ((p : P) → F p ↔ F' (to p))
      → ((p : P) (u : Table) → S p u → S' (to p) u) → {a : Answered} → Outcome t E P F S a → Outcome t E' P' F' S' a
  outcome_as e to f s (early {r} h) = early (e r h)
  outcome_as e to f s (full p h) = full (to p) ((f p).0 h)
  outcome_as e to f s (accepted p {u} n h) = accepted (to p) (λ k. n ((f p).1 k)) (s p u h)

-- ---- The form of a table

-- the result of reading
abbrev ReadAs : Layout → List ℕ → Table → Type 0
ReadAs f b u = (side : Side)
    → Becomes side (first_size b) (groups side (first_size b) (written_entries f (first_size b) (second_size b) b)) u

-- one test after another
module _ {S : Table → Type 0} (x : Refusal) {a : Answered} where
  tested : (c : Bool) {E : Refusal → Type 0} {P : Type 0}
      → (c ≡ true → Outcome zero_table E P (λ _. ⊥) (λ _. S) a)
      → Outcome zero_table (λ r. Fails c x r ⊎ ((c ≡ true) × E r)) ((c ≡ true) × P) (λ _. ⊥) (λ _. S)
      (cond c a (refuses x zero_table))
  tested true f = outcome_as (λ r e. inr (refl, e)) (λ p. (refl, p)) (λ p. (λ k. k, λ k. k)) (λ p u k. k) (f refl)
  tested false f = early (inl (refl, refl))

  tested_last : (c : Bool) → (c ≡ true → (u : Table) × (a ≡ accepts u) × S u)
      → Outcome zero_table (Fails c x) (c ≡ true) (λ _. ⊥) (λ _. S) (cond c a (refuses x zero_table))
  tested_last true f =
      let m = f refl in
      subst (Outcome zero_table (Fails true x) (true ≡ true) (λ _. ⊥) (λ _. S)) (sym m.1) (accepted refl (λ k. k) m.2)
  tested_last false f = early (refl, refl)

-- what an accepted reading makes
read_as : (f : Layout) (b : List ℕ) (t : Table) → read_form f Whole b ≡ accepts t → t.l ≡ first_size b → ReadAs f b t
read_as f b t e width side = record {
  good = (read_good f Whole b t e).0;
  width = width;
  exact = read_groups f Whole side b t e;
}

-- the tests one by one
abbrev Each : Layout → List ℕ → Type 0
Each f b =
    (sized b ≡ true) × ((good_width (first_size b) ≡ true) × ((leb (second_size b) limit ≡ true)
    × ((right_length f b ≡ true) × (entries_well f b ≡ true))))

passed : (f : Layout) (b : List ℕ) → Each f b → Passed f Whole b
passed f b (s, (w, (n, (h, c)))) = record { sizes = s; width = w; few = n; long = h; clean = c }

-- Every answer of reading.
pub form_outcome : (f : Layout) (b : List ℕ)
    → Outcome zero_table (FormEarly f b) (Passed f Whole b) (λ _. ⊥) (λ _. ReadAs f b) (read_form f Whole b)
unfolding read_form read_sized read_entries table_of
form_outcome f b =
    outcome_as (λ r e. e) (passed f b) (λ p. (λ k. k, λ k. k)) (λ p u k. k)
    (tested R.Torn (sized b) (λ s. tested R.Width (good_width (first_size b)) (λ w.
    tested R.Entries (leb (second_size b) limit) (λ n. tested R.Torn (right_length f b) (λ h.
    tested_last (bad_entry f) (entries_well f b) (λ c.
    let p = passed f b (s, (w, (n, (h, c)))) in
    let g = entries_grow {f = f} {x = Whole} {b = b} p in
    let reads = passed_reads f Whole b p ∙ g.2 in
    (_, g.2, read_as f b _ reads refl)))))))

-- Bytes read, or they do not.
pub reads_or_not : {E : Refusal → Type 0} {P : Type 0} {S : P → Table → Type 0} {a : Answered}
    → Outcome zero_table E P (λ _. ⊥) S a → ((r : Refusal) × (a ≡ refuses r zero_table)) ⊎ ((t : Table) × (a ≡ accepts t))
reads_or_not (early {r} h) = inl (r, refl)
reads_or_not (full p h) = absurd h
reads_or_not (accepted p {u} n h) = inr (u, refl)

-- ---- After a table was read

module _ (b : List ℕ) where
  -- Two tables that the bytes read as are one.
  pub read_one : {t u : Table} → Reads b t → Reads b u → t ≡ u
  read_one e f = ap (λ (a : Answered). a.table) (sym e ∙ f)

  read_clash : {P : Type 0} {r : Refusal} {t : Table} → Unread b r → Reads b t → P
  read_clash {r = r} e f =
      let clash : Refused r ≡ Accepted = ap (λ (a : Answered). a.answer) (sym e ∙ f) in
      absurd (let z : ◌≡◌ {A = ℕ} 0 1 = cc in omega arith)

module _ (b : List ℕ) {G : Table → Refusal → Type 0} {H : Table → Type 0} where
  -- a call that goes on with the table that was read
  read_outcome : {F : (t : Table) → H t → Type 0} {S : (t : Table) → H t → Table → Type 0} (go : Table → Answered)
      → ((t : Table) → Reads b t → (w : Table) × Outcome w (G t) (H t) (F t) (S t) (go t))
      → (w : Table) × Outcome w (AfterRead b G) (ReadAnd b H) (λ q. F q.table q.ready) (λ q. S q.table q.ready)
      (after_read b refuses_zero go)
  read_outcome {F} {S} go f = ⊎_elim refused_first went (reads_or_not (form_outcome Plain b))
    where
      Result : Type 0
      Result = (w : Table)
          × Outcome w (AfterRead b G) (ReadAnd b H) (λ q. F q.table q.ready) (λ q. S q.table q.ready)
          (after_read b refuses_zero go)

      refused_first : ((r : Refusal) × Unread b r) → Result
      refused_first h = (
        zero_table,
        subst (Outcome zero_table (AfterRead b G) (ReadAnd b H) (λ q. F q.table q.ready) (λ q. S q.table q.ready))
            (sym (call_unread b h.1 refuses_zero go)) (early (inl h.1)),
      )

      went : ((t : Table) × Reads b t) → Result
      went h =
          let o = f h.0 h.1 in (
            o.0,
            subst (Outcome o.0 (AfterRead b G) (ReadAnd b H) (λ q. F q.table q.ready) (λ q. S q.table q.ready))
                (sym (call_by_bytes b h.1 refuses_zero go))
                (outcome_as (λ r e. inr (h.0, h.1, e)) (λ p. record { table = h.0; reads = h.1; ready = p })
                (λ p. (λ k. k, λ k. k)) (λ p u k. k) o.1),
          )

  -- Its conditions exclude each other where the call's do.
  pub read_conditions : {ns : List ℕ} → T (within (1 ∷ 2 ∷ 3 ∷ 4 ∷ []) ns) → ((t : Table) → Reads b t → Conditions ns (G t) (H t))
      → Conditions ns (AfterRead b G) (ReadAnd b H)
  read_conditions {ns} w c = record {
    apart = λ r e h.
        ⊎_elim (λ k. read_clash b k h.reads)
        (λ k. (c k.0 k.1).apart r k.2 (subst H (read_one b h.reads k.1) h.ready)) e;
    one = one;
    numbers = λ r e.
        ⊎_elim
        (λ k. one_of_more (1 ∷ 2 ∷ 3 ∷ 4 ∷ []) ns r w (read_numbers Plain Whole b r (ap (λ (a : Answered). a.answer) k)))
        (λ k. (c k.0 k.1).numbers r k.2) e;
  }
    where
      one : (r s : Refusal) → AfterRead b G r → AfterRead b G s → r ≡ s
      one r s (inl e) (inl h) = let d = ap (λ (a : Answered). a.answer) (sym e ∙ h) in cc
      one r s (inl e) (inr h) = read_clash b e h.1
      one r s (inr e) (inl h) = read_clash b h e.1
      one r s (inr e) (inr h) =
          (c e.0 e.1).one r s e.2 (subst (λ (t : Table). G t s) (read_one b h.1 e.1) h.2)

-- What was read is a table value.
pub read_value : (b : List ℕ) {t : Table} → Reads b t → TableValue t
read_value b {t} e = let long = good_long (read_good Plain Whole b t e).0 in record { cares = long.0; values = long.1 }

-- A table that was read passes its check.
pub read_passes : (b : List ℕ) {t : Table} → Reads b t → check_table t ≡ Accepted
read_passes b {t} e = good_passes t (read_good Plain Whole b t e).0

-- A table that passes its check is not refused by it.
pub unrefused : {P : Type 0} (t : Table) {r : Refusal} → check_table t ≡ Accepted → check_table t ≡ Refused r → P
unrefused t e f = absurd (let z : ◌≡◌ {A = ℕ} 0 1 = cc in omega arith)

-- ---- The calls

-- neither 8 nor 9 is among the numbers of reading, and the refusal of an entry is
form_apart : (f : Layout) → (one_of (form_numbers f) R.Full ≡ false) × (one_of (form_numbers f) R.Narrow ≡ false)
    × T (one_of (form_numbers f) (bad_entry f))
unfolding one_of member
form_apart Plain = (refl, refl, tt)
form_apart Packed = (refl, refl, tt)

-- A form of one layout, read and written in another.
pub form_exported : (f h : Layout) (b out : List ℕ) → FormExported f h b out
unfolding one_of member
form_exported f h b out =
    let apart = form_apart f in
    exported h (form_numbers f)
    (as_said (and_then (test (sized b) R.Torn tt) (and_then (test (good_width (first_size b)) R.Width tt)
    (and_then (test (leb (second_size b) limit) R.Entries tt)
    (and_then (test (right_length f b) R.Torn tt) (test (entries_well f b) (bad_entry f) apart.2)))))
    (λ r e. e) (λ p. (p.sizes, (p.width, (p.few, (p.long, p.clean))))))
    apart.0 apart.1 (λ p q k. k) (form_outcome f b) (read_made b f) out

module _ (b out : List ℕ) where
  -- `sharing_read`.
  pub read_exported : ReadExported b out
  read_exported = form_exported Plain Plain b out

  -- `sharing_pack`.
  pub pack_exported : PackExported b out
  pack_exported = form_exported Plain Packed b out

  -- `sharing_unpack`.
  pub unpack_exported : UnpackExported b out
  unpack_exported = form_exported Packed Plain b out

-- `sharing_convert`.
pub convert_exported : (l : ℕ) (ws out : List ℕ) → ConvertExported l ws out
unfolding one_of member
convert_exported l ws out =
    exported Plain (2 ∷ 4 ∷ []) (convert_conditions l ws tt tt) refl refl (λ p q f. f) (convert_outcome l ws) (convert_made l ws) out

module _ (side : Side) (b out : List ℕ) where
  -- `sharing_change_side`.
  pub change_side_exported : ChangeExported side b out
  unfolding one_of member within change_side_bytes
  change_side_exported =
      exported Plain (1 ∷ 2 ∷ 3 ∷ 4 ∷ [])
      (as_said (read_conditions b tt (λ t e. table_conditions t tt)) (λ r e. inl e) (λ h. h))
      refl refl (λ p q f. subst ChangeNeeds (read_one b p.reads q.reads) f)
      (outcome_as (λ r. ⊎_elim (λ e. e) (λ e. unrefused e.0 (read_passes b e.1) e.2)) (λ p. p)
      (λ p. (λ k. k, λ k. k)) (λ p u k. k)
      (read_outcome b (change_side_call side) (λ t e. (t, change_outcome side t (read_value b e)))).1)
      (change_side_made side b) out

-- ---- Equation

-- the checks of an equation's bytes
pub bytes_conditions : {ns : List ℕ} (w : Written) → T (within (7 ∷ 1 ∷ []) ns)
    → Conditions ns (λ r. check_all_bytes w ≡ Refused r) (check_all_bytes w ≡ Accepted)
bytes_conditions {ns} w few = record {
  apart = λ r e h. absurd (let z : ◌≡◌ {A = ℕ} 0 1 = cc in omega arith);
  one = λ r s e h. cc;
  numbers = λ r e. one_of_more (7 ∷ 1 ∷ []) ns r few (bytes_numbers w r e);
}

-- a call with its terms as bytes goes on to their tokens only where the bytes pass
module _ {t : Table} {E : Refusal → Type 0} {P : Type 0} {F : P → Type 0} {S : P → Table → Type 0} where
  bytes_first : (side : Side) (w : Written) → check_table t ≡ Accepted
      → ((r : Refusal) → check_all_bytes w ≡ Refused r → E r)
      → (check_all_bytes w ≡ Accepted → Outcome t E P F S (written_call side t (written_tokens w)))
      → Outcome t E P F S (value_call side t w)
  bytes_first side w passes f g = go (check_all_bytes w) refl
    where
      go : (y : Answer) → check_all_bytes w ≡ y → Outcome t E P F S (value_call side t w)
      go (Refused r) e = subst (Outcome t E P F S) (bytes_refused side t w passes e) (early (f r e))
      go Accepted e = subst (Outcome t E P F S) (sym (bytes_passed side t w e)) (g e)

-- what was read on a table is the only thing
needs_same : {X : Type 0} (check : ℕ → C.Outcome X) (Needs : Table → X → Type 0) {t u : Table} {a c : X} → t ≡ u
    → check t.l ≡ C.reads a → check u.l ≡ C.reads c → Needs t a → Needs u c
needs_same check Needs {t} {u} {a} {c} one here there f =
    let also = subst (λ (v : Table). check v.l ≡ C.reads a) one here in
    let is : a ≡ c = cc in
    subst (Needs u) is (subst (λ (v : Table). Needs v a) one f)

-- `sharing_equation`.
pub equation_exported : (side : Side) (x : ℕ) (term b out : List ℕ) → EquationExported side b x term out
unfolding one_of member within check_all_bytes written_bytes equation_bytes value_call written_call written_tokens
equation_exported side x term b out =
    exported Plain (1 ∷ 2 ∷ 3 ∷ 4 ∷ 7 ∷ 5 ∷ 6 ∷ [])
    (read_conditions b tt (λ t e.
    as_said (and_then (bytes_conditions (one_term x term) tt) (term_conditions t.l x (tokens_of term) tt)) (λ r k. k)
    (λ p. (p.passes, (p.right, p.reads)))))
    refl refl
    (λ p q.
    needs_same (λ l. C.check_equation l x (tokens_of term)) (λ t u. EquationNeeds side t x u)
    (read_one b p.reads q.reads) p.ready.reads q.ready.reads)
    (read_outcome b (λ t. term_call side t x term) (λ t e. (
      t,
      bytes_first side (one_term x term) (read_passes b e) (λ r k. inl k) (λ k.
          outcome_as (λ r. ⊎_elim (λ h. unrefused t (read_passes b e) h) (λ h. inr (k, h.1)))
          (λ p. record { passes = k; right = p.term; reads = p.reads }) (λ p. (λ h. h, λ h. h)) (λ p u h. h)
          (equation_outcome side t x (tokens_of term) (read_value b e))),
    ))).1
    (equation_made side b (one_term x term)) out

-- `sharing_unify`.
pub unify_exported : (side : Side) (left right b out : List ℕ) → UnifyExported side b left right out
unfolding one_of member within check_all_bytes written_bytes unify_bytes value_call written_call written_tokens
unify_exported side left right b out =
    exported Plain (1 ∷ 2 ∷ 3 ∷ 4 ∷ 7 ∷ 5 ∷ 6 ∷ [])
    (read_conditions b tt (λ t e.
    as_said
    (and_then (bytes_conditions (two_terms left right) tt) (sides_conditions t.l (tokens_of left) (tokens_of right) tt))
    (λ r k. k) (λ p. (p.passes, (p.sides, p.reads)))))
    refl refl
    (λ p q.
    needs_same (λ l. C.check_sides l (tokens_of left) (tokens_of right)) (UnifyNeeds side)
    (read_one b p.reads q.reads) p.ready.reads q.ready.reads)
    (read_outcome b (λ t. terms_call side t left right) (λ t e. (
      t,
      bytes_first side (two_terms left right) (read_passes b e) (λ r k. inl k) (λ k.
          outcome_as (λ r. ⊎_elim (λ h. unrefused t (read_passes b e) h) (λ h. inr (k, h.1)))
          (λ p. record { passes = k; sides = p.sides; reads = p.reads }) (λ p. (λ h. h, λ h. h)) (λ p u h. h)
          (unify_outcome side t (tokens_of left) (tokens_of right) (read_value b e))),
    ))).1
    (equation_made side b (two_terms left right)) out

-- ---- Projection

module _ (side : Side) (b : List ℕ) (keep : ℕ) where
  -- `sharing_project`.
  pub projection_exported : (out : List ℕ) → ProjectionExported side b keep out
  unfolding one_of member within projection_bytes
  projection_exported out =
      exported Plain (1 ∷ 2 ∷ 3 ∷ 4 ∷ 11 ∷ [])
      (read_conditions b tt (λ t e. test (good_keep t.l keep) R.Keep tt))
      refl refl (λ p q f. subst (λ (t : Table). ProjectionNeeds side t keep) (read_one b p.reads q.reads) f)
      (read_outcome b (λ t. projection_call side t keep)
      (λ t e. (
        t,
        outcome_as (λ r. ⊎_elim (λ k. unrefused t (read_passes b e) k) (λ k. (k.1, k.2))) (λ p. p.1)
            (λ p. (λ k. k, λ k. k)) (λ p u k. k) (projection_outcome side t keep (read_value b e)),
      ))).1
      (projection_made side b keep) out

-- ---- Join

module _ (side : Side) (b c : List ℕ) where
  -- the join of two tables that were read
  second_outcome : (t : Table) → Reads b t
      → (w : Table) × Outcome w (SecondEarly c t) (SecondReady c t) (λ q. JoinNeeds side t q.table)
      (λ q. Becomes side t.l (Joined (groups_of side t) (groups_of side q.table)))
      (after_read c refuses_zero (join_call side t))
  second_outcome t e = read_outcome c (join_call side t) (λ u d. (
    t,
    outcome_as
        (λ r.
        ⊎_elim (λ k. unrefused t (read_passes b e) k)
        (⊎_elim (λ k. unrefused u (read_passes c d) k.1) (λ k. (k.2, k.3))))
        (λ p. p.2) (λ p. (λ k. k, λ k. k)) (λ p v k. k) (join_outcome side t u (read_value b e) (read_value c d)),
  ))

  -- `sharing_join`.
  pub join_exported : (out : List ℕ) → JoinExported side b c out
  unfolding one_of member within join_bytes
  join_exported out =
      exported Plain (1 ∷ 2 ∷ 3 ∷ 4 ∷ 10 ∷ [])
      (read_conditions b tt (λ t e. read_conditions c tt (λ u d.
      single {N = ¬ (t.l ≡ u.l)} {P = t.l ≡ u.l} R.Unlike (λ n k. n k) tt)))
      refl refl
      (λ p q f.
      subst (λ (u : Table). JoinNeeds side q.table u) (read_one c p.ready.reads q.ready.reads)
      (subst (λ (t : Table). JoinNeeds side t p.ready.table) (read_one b p.reads q.reads) f))
      (read_outcome b (λ t. after_read c refuses_zero (join_call side t)) second_outcome).1 (join_made side b c) out
