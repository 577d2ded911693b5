-- What one call on an equation, x = t or two terms, does on a good table: where it is accepted, where it is refused,
-- and to bindings. Assumes nothing.
use mathlib.Core.Path.{◌≡◌, refl, sym, ap, subst, ◌∙◌}
use mathlib.Core.Bool.{Bool, true, false, cond}
use mathlib.Core.List.{List, ◌∷◌}
use mathlib.Core.Option.{Option, some, none}
use Prim.Native.Nat.{ℕ, ◌+◌, ◌<◌}
use native.Mathlib.Omega.{arith}
use borrow.Author.Tests.{ltb-true}
use lib.Dec.{ltb, leb}
use lib.ListN.{length}
use Rattle.model.specs.Growth.{fold, Entries, Reduced}
use Rattle.model.specs.Terms.{Term, var}
use Rattle.model.specs.Tokens.{named, whole_term}
use Rattle.model.specs.Tables.{Side, groups}
use Rattle.model.specs.Questions.{Equal}
use Rattle.model.specs.Equations.{equation}
use Rattle.model.specs.Walk.{Sides, walk, walk_sides}
use Rattle.model.specs.Unification.{AfterSides, walk_entries, unification}
use Rattle.model.specs.Bindings.{Bindings, Describes}
use Rattle.model.specs.Calls.{Event, Reaches}
use Rattle.model.proofs.Unification.{walk_exact, walk_good, walk_reduced}
use Rattle.model.proofs.Demand3.{describes_more, walk_described}
use Rattle.tables.specs.declared.Table.{Table}
use Rattle.tables.specs.declared.Refusal.{Refusal}
use Rattle.tables.specs.declared.Refusal.TheVariants as R
use Rattle.tables.specs.Refusals.{Answer}
use Rattle.tables.specs.Refusals.{Accepted, Refused}
use Rattle.tables.specs.declared.Answered.{Answered}
use Rattle.tables.specs.Refusals.{if_accepted}
use Rattle.tables.specs.Values.{most_variables, table_of, entries_of, refuses, made_or_full, good_width, GoodTable}
use Rattle.tables.proofs.Values.{entries_of_table, table_of_good}
use Rattle.tables.proofs.Checking.{good_passes}
use Rattle.tables.proofs.Tests.{both_true}
use Rattle.lists.proofs.BindLaws.{then_some}
use Rattle.terms.specs.Checks.{Written, one_term, two_terms}
use Rattle.terms.specs.Checks as C
use Rattle.terms.proofs.Checking.{read_whole}
use Rattle.operations.specs.Operations.{equation_call, unify_call, written_call}
use Rattle.operations.specs.Outcomes.{groups_of}
use Rattle.demands.specs.Demand3.{term_read, written_sides, event_of}

-- ---- What was read

-- a term that the checks read is the one whole term of the tokens
term_whole : (l : ℕ) (ts : List ℕ) (u : Term) → C.check_term l ts ≡ C.reads u → term_read (whole_term l ts) ≡ u
unfolding term_read
term_whole l ts u e = ap term_read (read_whole l ts u e)

-- The two sides that the checks read are those that the model is fed.
pub read_sides : (l : ℕ) (w : Written) (s : Sides) → C.check_written l w ≡ C.reads s → written_sides l w ≡ s
unfolding C.check_written C.check_equation C.check_sides C.if_read written_sides
read_sides l (one_term x ts) s e = go (leb (length ts) C.most_tokens) (named l x) (C.check_term l ts) refl e
  where
    go : (a b : Bool) (o : C.Outcome Term) → C.check_term l ts ≡ o
        → C.if_read (cond a (cond b o (C.refuses R.Name)) (C.refuses R.Long)) C.refuses (λ t.
        C.reads (record { left = var x; right = t })) ≡ C.reads s
        → written_sides l (one_term x ts) ≡ s
    go true true (C.reads u) h e = rw (term_whole l ts u h) (cc)
    go true true (C.refuses r) h e = absurd (let z : ◌≡◌ {A = ℕ} 0 1 = cc in omega arith)
    go true false o h e = absurd (let z : ◌≡◌ {A = ℕ} 0 1 = cc in omega arith)
    go false b o h e = absurd (let z : ◌≡◌ {A = ℕ} 0 1 = cc in omega arith)
read_sides l (two_terms ss ts) s e =
    go (leb (length ss + length ts) C.most_tokens) (C.check_term l ss) (C.check_term l ts) refl refl e
  where
    go : (a : Bool) (o p : C.Outcome Term) → C.check_term l ss ≡ o → C.check_term l ts ≡ p
        → cond a (C.if_read o C.refuses (λ u. C.if_read p C.refuses (λ v. C.reads (record { left = u; right = v }))))
        (C.refuses R.Long) ≡ C.reads s
        → written_sides l (two_terms ss ts) ≡ s
    go true (C.reads u) (C.reads v) h k e = rw (term_whole l ss u h, term_whole l ts v k) (cc)
    go true (C.reads u) (C.refuses r) h k e = absurd (let z : ◌≡◌ {A = ℕ} 0 1 = cc in omega arith)
    go true (C.refuses r) p h k e = absurd (let z : ◌≡◌ {A = ℕ} 0 1 = cc in omega arith)
    go false o p h k e = absurd (let z : ◌≡◌ {A = ℕ} 0 1 = cc in omega arith)

-- ---- The call

-- the walk of a variable and a term finds just that equation
one_found : (side : Side) (l x : ℕ) (u : Term) (τ : Entries)
    → unification side l (record { left = var x; right = u }) τ ≡ equation side l (record { left = x; right = u }) τ
unfolding unification walk_entries walk fold
one_found side l x u τ = then_some (equation side l (record { left = x; right = u }) τ)

-- the call after its table was checked
checked_first : (side : Side) (t : Table) (w : Written) → GoodTable t
    → written_call side t w ≡ C.if_read (C.check_written t.l w) (λ r. refuses r t) (λ s.
    made_or_full t.l t (unification side t.l s (entries_of t)))
unfolding written_call equation_call unify_call if_accepted C.check_written C.if_read
checked_first side t (one_term x ts) good = rw (good_passes t good) (go (C.check_equation t.l x ts))
  where
    go : (o : C.Outcome Term)
        → C.if_read o (λ r. refuses r t) (λ u.
        made_or_full t.l t (equation side t.l (record { left = x; right = u }) (entries_of t)))
        ≡ C.if_read (C.if_read o C.refuses (λ u. C.reads (record { left = var x; right = u }))) (λ r. refuses r t) (λ s.
        made_or_full t.l t (unification side t.l s (entries_of t)))
    go (C.reads u) = ap (made_or_full t.l t) (sym (one_found side t.l x u (entries_of t)))
    go (C.refuses r) = refl
checked_first side t (two_terms ss ts) good = rw (good_passes t good)

-- l is not 0.
pub width_some : (l : ℕ) → good_width l ≡ true → 0 < l
unfolding good_width
width_some l w = ltb-true 0 l (both_true (ltb 0 l) (leb l most_variables) w).0

module _ (side : Side) (t : Table) (w : Written) (good : GoodTable t) where
  abbrev call : Answered
  call = written_call side t w

  -- the two sides that the tokens give
  abbrev given : Sides
  given = written_sides t.l w

  -- what the growth rule makes of them
  abbrev made : Option Entries
  made = unification side t.l given (entries_of t)

  -- A call whose equation reads is decided by the growth rule.
  pub called : (s : Sides) → C.check_written t.l w ≡ C.reads s → call ≡ made_or_full t.l t made
  unfolding C.if_read
  called s e = checked_first side t w good ∙ rw (e, read_sides t.l w s e)

  -- A call whose equation does not read is refused, with the table as given.
  pub uncalled : (r : Refusal) → C.check_written t.l w ≡ C.refuses r → call ≡ refuses r t
  unfolding C.if_read
  uncalled r e = checked_first side t w good ∙ rw e

  -- the table that an accepted call makes
  pub accepted_made : call.answer ≡ Accepted → (ρ : Entries) × (made ≡ some ρ) × (call.table ≡ table_of t.l ρ)
  unfolding made_or_full
  accepted_made a = go (C.check_written t.l w) refl
    where
      by : (o : Option Entries) → made ≡ o → (made_or_full t.l t o).answer ≡ Accepted
          → (ρ : Entries) × (made ≡ some ρ) × ((made_or_full t.l t o).table ≡ table_of t.l ρ)
      by (some ρ) e h = (ρ, e, refl)
      by none e h = absurd (let z : ◌≡◌ {A = ℕ} 0 1 = cc in omega arith)

      go : (o : C.Outcome Sides) → C.check_written t.l w ≡ o
          → (ρ : Entries) × (made ≡ some ρ) × (call.table ≡ table_of t.l ρ)
      go (C.reads s) e =
          let is = called s e in
          let p = by made refl (ap (λ (y : Answered). y.answer) (sym is) ∙ a) in
          (p.0, p.1, ap (λ (y : Answered). y.table) is ∙ p.2)
      go (C.refuses r) e =
          let clash : Refused r ≡ Accepted = ap (λ (y : Answered). y.answer) (sym (uncalled r e)) ∙ a in
          absurd (let z : ◌≡◌ {A = ℕ} 0 1 = cc in omega arith)

  -- A refused call returns the table as given.
  pub refused_kept : {r : Refusal} → call.answer ≡ Refused r → call.table ≡ t
  unfolding made_or_full
  refused_kept {r} a = go (C.check_written t.l w) refl
    where
      by : (o : Option Entries) → (made_or_full t.l t o).answer ≡ Refused r → (made_or_full t.l t o).table ≡ t
      by (some ρ) h = absurd (let z : ◌≡◌ {A = ℕ} 0 1 = cc in omega arith)
      by none h = refl

      go : (o : C.Outcome Sides) → C.check_written t.l w ≡ o → call.table ≡ t
      go (C.reads s) e =
          let is = called s e in
          ap (λ (y : Answered). y.table) is ∙ by made (ap (λ (y : Answered). y.answer) (sym is) ∙ a)
      go (C.refuses r) e = ap (λ (y : Answered). y.table) (uncalled r e)

  -- What an accepted call makes is good and of the same width, with exactly the groups of the binary definition, and reduced
  -- where the table given was: a walk that finds nothing leaves its entries.
  pub record Made : Type 0 where
    pub is_good : GoodTable call.table
    pub reduced : Reduced (entries_of t) → Reduced (entries_of call.table)
    pub width : call.table.l ≡ t.l
    pub exact : Equal (groups_of side call.table) (AfterSides given (groups_of side t))

  pub accepted_exact : call.answer ≡ Accepted → Made
  unfolding table_of unification
  accepted_exact a =
      let m = accepted_made a in
      let ρ = m.0 in
      let o = walk_sides given in
      let list = walk_good side t.l o (entries_of t) ρ good.list m.1 in
      let back = entries_of_table t.l ρ list in
      let exact : Equal (groups side t.l (entries_of (table_of t.l ρ))) (AfterSides given (groups_of side t)) =
      subst (λ (τ : Entries). Equal (groups side t.l τ) (AfterSides given (groups_of side t))) (sym back)
      (walk_exact side t.l o (entries_of t) ρ good.list m.1) in
      record {
        is_good = subst GoodTable (sym m.2) (table_of_good t.l ρ good.width list);
        reduced = λ r. subst (λ (u : Table). Reduced (entries_of u)) (sym m.2) (subst Reduced (sym back)
            (walk_reduced side t.l o (entries_of t) ρ good.list m.1 (width_some t.l good.width) r));
        width = ap (λ (u : Table). u.l) m.2;
        exact = subst (λ (u : Table). Equal (groups_of side u) (AfterSides given (groups_of side t))) (sym m.2) exact;
      }

  -- Bindings that the table before a call describes go on to ones that the table after it describes.
  pub stepped : (es : List Event) (θ θ' : Bindings) → Describes (groups_of side t) θ
      → Reaches θ (event_of call.answer given ∷ es) θ'
      → (φ : Bindings) × GoodTable call.table × Describes (groups_of side call.table) φ × Reaches φ es θ'
  unfolding event_of Reaches
  stepped es θ θ' d r = go call.answer refl r
    where
      go : (a : Answer) → call.answer ≡ a → Reaches θ (event_of a given ∷ es) θ'
          → (φ : Bindings) × GoodTable call.table × Describes (groups_of side call.table) φ × Reaches φ es θ'
      go Accepted e s =
          let m = accepted_exact e in (
            s.0,
            m.is_good,
            describes_more (AfterSides given (groups_of side t)) (groups_of side call.table) s.0 (λ g. (m.exact g).1)
                (walk_described (walk_sides given) (groups_of side t) θ s.0 d s.1),
            s.2,
          )
      go (Refused n) e s =
          let k = refused_kept e in
          (θ, subst GoodTable (sym k) good, subst (λ (u : Table). Describes (groups_of side u) θ) (sym k) d, s)
