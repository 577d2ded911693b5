-- Each exported question, both sides: reading, the question and handing back in one theorem. Assumes nothing.
use mathlib.Core.Path.{◌≡◌, refl, sym, ap, subst}
use mathlib.Core.List.{List, [], ◌∷◌}
use mathlib.Core.Logic.{inl, inr, ⊎_elim}
use Prim.Native.Nat.{ℕ}
use native.Mathlib.Omega.{arith}
use lib.Dec.{eqb}
use Rattle.model.specs.Tables.{Side}
use Rattle.model.specs.Tokens.{named}
use Rattle.model.specs.Questions.{Equal, Ground, Independent}
use Rattle.model.proofs.Tests.{or_right}
use Rattle.words.specs.Words.{set}
use Rattle.tables.specs.declared.Table.{Table}
use Rattle.tables.specs.declared.Refusal.{Refusal}
use Rattle.tables.specs.declared.Refusal.TheVariants as R
use Rattle.tables.specs.Refusals.{refusal_number, member, one_of}
use Rattle.tables.proofs.Numbers.{within, refusal_some, same_refusal}
use Rattle.operations.specs.Outcomes.{groups_of}
use Rattle.operations.proofs.Exclusive.{Conditions, single, test}
use Rattle.questions.specs.Replies.{Reply}
use Rattle.questions.specs.Replies.{Yes, No, Refused}
use Rattle.questions.specs.Replies.{good_sets, equal_call, ground_call, independent_call}
use Rattle.questions.specs.Statements.{Replied, early, yes, no}
use Rattle.questions.proofs.Exact.{equal_replied, ground_replied, independent_replied}
use Rattle.forms.specs.declared.Layout.TheVariants.{Plain}
use Rattle.byte_calls.specs.ByteCalls.{after_read, equal_bytes, ground_bytes, independent_bytes}
use Rattle.demands.specs.Demand2.{Reads, AfterRead, ReadAnd, ExportedReply, EqualExported}
use Rattle.demands.specs.Demand2.{GroundExported, IndependentExported}
use Rattle.demands.proofs.ByBytes.{call_by_bytes, call_unread}
use Rattle.demands.proofs.Demand2.{reads_or_not, form_outcome, read_one, read_conditions, read_value, read_passes, unrefused}

-- how a question is answered: refused in a condition, or ready, and yes or no by a statement that may speak of what was read
data ReadReplied (E : Refusal → Type 0) (P : Type 0) (S : P → Type 0) : Reply → Type 0 where
  replied_early : {r : Refusal} → E r → ReadReplied E P S (Refused r)
  replied_yes : (p : P) → S p → ReadReplied E P S Yes
  replied_no : (p : P) → ¬ (S p) → ReadReplied E P S No

-- a reply on table values, with its conditions said otherwise
module _ {E E' : Refusal → Type 0} {P P' S : Type 0} {S' : P' → Type 0} where
  replied_as : ((r : Refusal) → E r → E' r) → (to : P → P') → ((p : P) → S → S' (to p)) → ((p : P) → S' (to p) → S)
      → {q : Reply} → Replied E P S q → ReadReplied E' P' S' q
  replied_as e to f g (early {r} h) = replied_early (e r h)
  replied_as e to f g (yes p s) = replied_yes (to p) (f p s)
  replied_as e to f g (no p n) = replied_no (to p) (λ s. n (g p s))

-- how it is answered on the table t that was read
with_table : (b : List ℕ) (t : Table) → Reads b t → {G : Table → Refusal → Type 0} {H : Table → Type 0}
    (S : (u : Table) → H u → Type 0) {q : Reply} → ReadReplied (G t) (H t) (S t) q
    → ReadReplied (AfterRead b G) (ReadAnd b H) (λ p. S p.table p.ready) q
with_table b t e S (replied_early h) = replied_early (inr (t, e, h))
with_table b t e S (replied_yes p s) = replied_yes (record { table = t; reads = e; ready = p }) s
with_table b t e S (replied_no p n) = replied_no (record { table = t; reads = e; ready = p }) n

-- a question that goes on with the table that was read
module _ (b : List ℕ) {G : Table → Refusal → Type 0} {H : Table → Type 0} {S : (t : Table) → H t → Type 0} where
  read_replied : (ask : Table → Reply) → ((t : Table) → Reads b t → ReadReplied (G t) (H t) (S t) (ask t))
      → ReadReplied (AfterRead b G) (ReadAnd b H) (λ p. S p.table p.ready) (after_read b Refused ask)
  read_replied ask f =
      ⊎_elim
      (λ h. subst (ReadReplied (AfterRead b G) (ReadAnd b H) (λ p. S p.table p.ready))
      (sym (call_unread b h.1 Refused ask))
      (replied_early (inl h.1)))
      (λ h. subst (ReadReplied (AfterRead b G) (ReadAnd b H) (λ p. S p.table p.ready))
      (sym (call_by_bytes b h.1 Refused ask))
      (with_table b h.0 h.1 S (f h.0 h.1)))
      (reads_or_not (form_outcome Plain b))

module _ {E : Refusal → Type 0} {P : Type 0} {S : P → Type 0} (ns : List ℕ) (conditions : Conditions ns E P)
    (same : (p q : P) → S p → S q) (word : ℕ) where
  -- what an exported question returns and writes, from how the question itself is answered
  exported_reply : {q : Reply} → ReadReplied E P S q → ExportedReply ns E P S q word
  unfolding member one_of
  exported_reply (replied_early {r} e) = record {
    zero_where = (λ h. refusal_some r h, λ p. absurd (conditions.apart r e p));
    yes_where = λ p. absurd (conditions.apart r e p);
    no_where = λ p. absurd (conditions.apart r e p);
    early_where = λ s h. (λ k. subst E (same_refusal r s k) e, λ k. ap refusal_number (conditions.one r s e k));
    no_other = or_right (eqb (refusal_number r) 0) _ (conditions.numbers r e);
    unwritten = λ n. refl;
  }
  exported_reply (replied_yes p s) = record {
    zero_where = (λ h. p, λ k. refl);
    yes_where = λ k. (λ h. same p k s, λ h. refl);
    no_where = λ k. (λ h. absurd (omega arith), λ n. absurd (n (same p k s)));
    early_where = λ r h. (λ k. refusal_some r (sym k), λ k. absurd (conditions.apart r k p));
    no_other = tt;
    unwritten = λ n. absurd (n refl);
  }
  exported_reply (replied_no p n) = record {
    zero_where = (λ h. p, λ k. refl);
    yes_where = λ k. (λ h. absurd (omega arith), λ s. absurd (n (same k p s)));
    no_where = λ k. (λ h s. n (same k p s), λ h. refl);
    early_where = λ r h. (λ k. refusal_some r (sym k), λ k. absurd (conditions.apart r k p));
    no_other = tt;
    unwritten = λ m. absurd (m refl);
  }

-- ---- The questions

module _ (side : Side) (b c : List ℕ) (word : ℕ) where
  -- `sharing_equal`.
  pub equal_exported : EqualExported side b c word
  unfolding one_of member within equal_bytes
  equal_exported =
      exported_reply (1 ∷ 2 ∷ 3 ∷ 4 ∷ 10 ∷ [])
      (read_conditions b tt (λ t e. read_conditions c tt (λ u d.
      single {N = ¬ (t.l ≡ u.l)} {P = t.l ≡ u.l} R.Unlike (λ n k. n k) tt)))
      (λ p q s.
      subst (λ (u : Table). Equal (groups_of side q.table) (groups_of side u)) (read_one c p.ready.reads q.ready.reads)
      (subst (λ (t : Table). Equal (groups_of side t) (groups_of side p.ready.table)) (read_one b p.reads q.reads) s))
      word
      (read_replied b (λ t. after_read c Refused (equal_call t)) (λ t e. read_replied c (equal_call t) (λ u d.
      replied_as
      (λ r.
      ⊎_elim (λ k. unrefused t (read_passes b e) k)
      (⊎_elim (λ k. unrefused u (read_passes c d) k.1) (λ k. (k.2, k.3))))
      (λ p. p.2) (λ p s. s) (λ p s. s) (equal_replied side t u (read_value b e) (read_value c d)))))

module _ (side : Side) (b : List ℕ) (word : ℕ) where
  -- `sharing_ground`.
  pub ground_exported : (x : ℕ) → GroundExported side b x word
  unfolding one_of member within ground_bytes
  ground_exported x =
      exported_reply (1 ∷ 2 ∷ 3 ∷ 4 ∷ 5 ∷ []) (read_conditions b tt (λ t e. test (named t.l x) R.Name tt))
      (λ p q s. subst (λ (t : Table). Ground (groups_of side t) x) (read_one b p.reads q.reads) s) word
      (read_replied b (λ t. ground_call side t x) (λ t e.
      replied_as (λ r. ⊎_elim (λ k. unrefused t (read_passes b e) k) (λ k. (k.1, k.2))) (λ p. p.1) (λ p s. s) (λ p s. s)
      (ground_replied side t x (read_value b e))))

  -- `sharing_independent`.
  pub independent_exported : (first second : ℕ) → IndependentExported side b first second word
  unfolding one_of member within independent_bytes
  independent_exported first second =
      exported_reply (1 ∷ 2 ∷ 3 ∷ 4 ∷ 5 ∷ []) (read_conditions b tt (λ t e. test (good_sets t.l first second) R.Name tt))
      (λ p q s.
      subst (λ (t : Table). Independent (groups_of side t) (set t.l first) (set t.l second)) (read_one b p.reads q.reads) s)
      word
      (read_replied b (λ t. independent_call side t first second) (λ t e.
      replied_as (λ r. ⊎_elim (λ k. unrefused t (read_passes b e) k) (λ k. (k.1, k.2))) (λ p. p.1) (λ p s. s) (λ p s. s)
      (independent_replied side t first second (read_value b e))))
