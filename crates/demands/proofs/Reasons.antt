-- The exported reason behind a group: reading, the verdict and handing back in one theorem. Assumes nothing.
use mathlib.Core.Path.{◌≡◌, refl, sym, ap, subst}
use mathlib.Core.List.{List, [], ◌∷◌}
use mathlib.Core.Logic.{◌⊎◌, inl, inr, ◌↔◌, ⊎_elim}
use Prim.Native.Nat.{ℕ}
use native.Mathlib.Omega.{arith}
use lib.Dec.{T, eqb}
use Rattle.model.specs.Terms.{Term}
use Rattle.model.proofs.Tests.{or_right}
use Rattle.tables.specs.declared.Table.{Table}
use Rattle.tables.specs.declared.Refusal.{Refusal}
use Rattle.tables.specs.Refusals.{Answer}
use Rattle.tables.specs.Refusals as A
use Rattle.tables.specs.Refusals.{refusal_number, if_accepted, member, one_of}
use Rattle.tables.proofs.Numbers.{within, refusal_some, same_refusal}
use Rattle.terms.specs.Checks as C
use Rattle.operations.proofs.Exclusive.{and_then, as_said, term_conditions}
use Rattle.reasons.specs.declared.Reason.TheVariants.{NoXEntry, NoTEntry, NotMadeUp, NotThere, NoSolution}
use Rattle.reasons.specs.Verdicts.{Verdict}
use Rattle.reasons.specs.Verdicts.{Kept, Joined, Absent, Refused}
use Rattle.reasons.specs.Verdicts.{verdict_number, verdict_word, x_word, t_word, reason_call}
use Rattle.reasons.specs.Statements.{There, Judged, early, judged, ExclusiveVerdicts, TableWhere, InAfter}
use Rattle.reasons.proofs.Exclusive.{group_conditions, exclusive_verdicts, reason_judged}
use Rattle.forms.specs.declared.Layout.TheVariants.{Plain}
use Rattle.byte_calls.specs.ByteCalls.{check_bytes, tokens_of, term_reason, reason_bytes}
use Rattle.byte_calls.proofs.AfterChecks.{check_all_bytes}
use Rattle.terms.specs.Checks.{one_term}
use Rattle.demands.specs.Demand2.{Reads, AfterRead, ReadAnd, TermReady, ExportedReason, GroupEarly, GroupReady}
use Rattle.demands.specs.Demand2.{ReasonExported}
use Rattle.demands.proofs.ByBytes.{call_by_bytes, call_unread}
use Rattle.demands.proofs.Demand2.{reads_or_not, form_outcome, read_one, read_conditions, read_value, read_passes, unrefused}
use Rattle.demands.proofs.Demand2.{bytes_conditions}

-- ---- Numbers and words

-- kept and joined have the words 0 and 1, where the call is accepted
there_word : (v : Verdict) (word : ℕ) → verdict_number v ≡ 0 → There v ↔ ((verdict_word v word ≡ 0) ⊎ (verdict_word v word ≡ 1))
there_word Kept word z = (λ _. inl refl, λ _. tt)
there_word (Joined i j) word z = (λ _. inr refl, λ _. tt)
there_word (Absent NoXEntry) word z = (λ h. absurd h, ⊎_elim (λ e. absurd (omega arith)) (λ e. absurd (omega arith)))
there_word (Absent NoTEntry) word z = (λ h. absurd h, ⊎_elim (λ e. absurd (omega arith)) (λ e. absurd (omega arith)))
there_word (Absent NotMadeUp) word z = (λ h. absurd h, ⊎_elim (λ e. absurd (omega arith)) (λ e. absurd (omega arith)))
there_word (Absent NotThere) word z = (λ h. absurd h, ⊎_elim (λ e. absurd (omega arith)) (λ e. absurd (omega arith)))
there_word (Absent NoSolution) word z = (λ h. absurd h, ⊎_elim (λ e. absurd (omega arith)) (λ e. absurd (omega arith)))
there_word (Refused r) word z = refusal_some r z

-- a verdict with the number of a refusal is that refusal
refused_number : (v : Verdict) (r : Refusal) → verdict_number v ≡ refusal_number r → v ≡ Refused r
refused_number Kept r e = refusal_some r (sym e)
refused_number (Joined i j) r e = refusal_some r (sym e)
refused_number (Absent k) r e = refusal_some r (sym e)
refused_number (Refused q) r e = ap Refused (same_refusal q r e)

-- the number is 0 or that of a refusal, and after a refusal nothing is written
numbered : (ns : List ℕ) (v : Verdict) → ((r : Refusal) → v ≡ Refused r → T (one_of ns r))
    → T (member (verdict_number v) (0 ∷ ns))
unfolding member one_of
numbered ns Kept f = tt
numbered ns (Joined i j) f = tt
numbered ns (Absent r) f = tt
numbered ns (Refused r) f = or_right (eqb (refusal_number r) 0) _ (f r refl)

unwritten_words : (v : Verdict) (word x t : ℕ) → ¬ (verdict_number v ≡ 0)
    → (verdict_word v word ≡ word) × (x_word v x ≡ x) × (t_word v t ≡ t)
unwritten_words Kept word x t n = absurd (n refl)
unwritten_words (Joined i j) word x t n = absurd (n refl)
unwritten_words (Absent r) word x t n = absurd (n refl)
unwritten_words (Refused r) word x t n = (refl, refl, refl)

module _ {Early : Refusal → Type 0} {Ready : Type 0} {Condition : Ready → Verdict → Type 0} {In : Ready → Type 0}
    {ns : List ℕ} {v : Verdict} (x : ExclusiveVerdicts ns Early Ready Condition In v) (word x_entry t_entry : ℕ) where
  -- what the caller gets, from how the verdicts exclude each other
  exported_reason : ExportedReason ns Early Ready Condition In v word x_entry t_entry
  exported_reason = record {
    zero_where = x.zero_where;
    each_where = x.each_where;
    there_where = λ p.
        let w = there_word v word (x.zero_where.1 p) in
        (λ h. (x.there_where p).0 (w.1 h), λ h. w.0 ((x.there_where p).1 h));
    early_where = λ r h. (
      λ e. (x.refused_where r).0 (refused_number v r e),
      λ e. ap verdict_number ((x.refused_where r).1 e),
    );
    no_other = numbered ns v (λ r e. x.numbers r ((x.refused_where r).0 e));
    unwritten = unwritten_words v word x_entry t_entry;
  }

-- ---- The call

-- how the call on a table value is answered, with its conditions said otherwise
module _ {E E' : Refusal → Type 0} {P P' : Type 0} {W : P → Verdict → Type 0} {W' : P' → Verdict → Type 0} {I : P → Type 0}
    {I' : P' → Type 0} where
  judged_as : ((r : Refusal) → E r → E' r) → (to : P → P') → ((p : P) (u : Verdict) → W p u ↔ W' (to p) u)
      → ((p : P) → I p ↔ I' (to p)) → {v : Verdict} → Judged E P W I v → Judged E' P' W' I' v
  judged_as e to w i (early {r} h) = early (e r h)
  judged_as e to w i (judged p f g z) =
      judged (to p) (λ u. (λ h. (w p u).0 ((f u).0 h), λ h. (f u).1 ((w p u).1 h)))
      (λ h. (i p).0 (g.0 h), λ h. g.1 ((i p).1 h)) z

module _ (b : List ℕ) (x : ℕ) (term : List ℕ) (s : ℕ) where
  -- how the call on bytes is answered
  Told : Verdict → Type 0
  Told v =
      Judged (AfterRead b (GroupEarly x term s)) (ReadAnd b (GroupReady x term s))
      (λ q. TableWhere q.table (record { left = x; right = q.ready.0.right }) s)
      (λ q. InAfter q.table (record { left = x; right = q.ready.0.right }) s) v

  -- on the table that was read
  read_told : (t : Table) → Reads b t → Told (term_reason t x term s)
  unfolding Told term_reason if_accepted
  read_told t e = go (check_bytes term) refl
    where
      go : (a : Answer) → check_bytes term ≡ a → Told (if_accepted a Refused (reason_call t x (tokens_of term) s))
      go (A.Refused r) k = early (inr (t, e, inl (inl k)))
      go A.Accepted k =
          judged_as
          (λ r. ⊎_elim
          (⊎_elim (λ h. unrefused t (read_passes b e) h) (λ h. inr (t, e, inl (inr (k, h.1)))))
          (λ h. inr (t, e, inr (record { passes = k; right = h.0.term; reads = h.0.reads }, h.1))))
          (λ p. record { table = t; reads = e; ready = (record { passes = k; right = p.0.term; reads = p.0.reads }, p.1) })
          (λ p u. (λ h. h, λ h. h)) (λ p. (λ h. h, λ h. h)) (reason_judged t x (tokens_of term) s (read_value b e))

  reason_told : Told (reason_bytes b x term s)
  unfolding Told reason_bytes
  reason_told =
      ⊎_elim
      (λ h. subst Told (sym (call_unread b h.1 Refused (λ t. term_reason t x term s))) (early (inl h.1)))
      (λ h. subst Told (sym (call_by_bytes b h.1 Refused (λ t. term_reason t x term s))) (read_told h.0 h.1))
      (reads_or_not (form_outcome Plain b))

  -- what was read is the only thing
  same_read : (Needs : Table → Term → Type 0) (p q : ReadAnd b (GroupReady x term s))
      → Needs p.table p.ready.0.right → Needs q.table q.ready.0.right
  same_read Needs p q k =
      let one = read_one b p.reads q.reads in
      let also = subst (λ (t : Table). C.check_equation t.l x (tokens_of term) ≡ C.reads p.ready.0.right) one
      p.ready.0.reads in
      let there = q.ready.0.reads in
      let is : p.ready.0.right ≡ q.ready.0.right = cc in
      subst (Needs q.table) is (subst (λ (t : Table). Needs t p.ready.0.right) one k)

  -- `sharing_reason`.
  pub reason_exported : (word x_entry t_entry : ℕ) → ReasonExported b x term s word x_entry t_entry
  unfolding one_of member within Told check_all_bytes
  reason_exported word x_entry t_entry =
      exported_reason
      (exclusive_verdicts (1 ∷ 2 ∷ 3 ∷ 4 ∷ 7 ∷ 5 ∷ 6 ∷ 11 ∷ [])
      (read_conditions b tt (λ t e.
      and_then
      (as_said (and_then (bytes_conditions (one_term x term) tt) (term_conditions t.l x (tokens_of term) tt)) (λ r k. k)
      (λ (p : TermReady x term t). (p.passes, (p.right, p.reads))))
      (group_conditions t.l s tt)))
      refl
      (λ p q u. same_read (λ t w. TableWhere t (record { left = x; right = w }) s u) p q)
      (λ p q. same_read (λ t w. InAfter t (record { left = x; right = w }) s) p q)
      reason_told)
      word x_entry t_entry
