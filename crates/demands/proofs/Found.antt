-- Walks in which no list grows (02, requests 2 and 6): one that clashes, wherever the clash stands, one that finds just a
-- deeper equation, and one that finds nothing but x = x. After the first two the call is accepted, so that it is never 8,
-- and its table stands for no groups; after the last the table is returned as given. Assumes nothing.
use mathlib.Core.Path.{◌≡◌, sym, ap, subst, ◌∙◌}
use mathlib.Core.List.{List, [], ◌∷◌, ◌++◌}
use mathlib.Core.Option.{Option, some, none}
use Prim.Native.Nat.{ℕ}
use Rattle.model.specs.Groups.{Bits}
use Rattle.model.specs.Growth.{◌>>=◌, fold, Entries}
use Rattle.model.specs.Tables.{Side, groups, no_groups}
use Rattle.model.specs.Equations.{Equation, itself, deeper, kind}
use Rattle.model.specs.Walk.{Sides, Walked, walk_sides}
use Rattle.model.specs.Unification.{next_equation, walk_entries, unification}
use Rattle.model.proofs.Given.{Each}
use Rattle.model.proofs.Exact.{shape_good, no_groups_made}
use Rattle.model.proofs.Unification.{deeper_none, deeper_entries, only_itself}
use Rattle.tables.specs.declared.Table.{Table}
use Rattle.tables.specs.Refusals.{Accepted}
use Rattle.tables.specs.declared.Answered.{Answered}
use Rattle.tables.specs.Values.{table_of, entries_of, accepts, made_or_full, GoodTable}
use Rattle.tables.proofs.Values.{entries_of_table}
use Rattle.terms.specs.Checks.{Written}
use Rattle.terms.specs.Checks as C
use Rattle.operations.specs.Operations.{written_call}
use Rattle.operations.specs.Outcomes.{groups_of}
use Rattle.forms.specs.declared.Layout.TheVariants.{Plain}
use Rattle.forms.specs.declared.Extent.TheVariants.{Whole}
use Rattle.forms.proofs.Reading.{read_good}
use Rattle.byte_calls.specs.ByteCalls.{written_tokens, written_bytes}
use Rattle.byte_calls.specs.Outputs.{output_number, output_bytes}
use Rattle.byte_calls.proofs.AfterChecks.{check_all_bytes, bytes_passed}
use Rattle.demands.specs.Demand2.{Reads, Wrote}
use Rattle.demands.proofs.Equations.{read_sides, called, accepted_exact}
use Rattle.demands.proofs.ByBytes.{equation_by_bytes}
use Rattle.demands.proofs.ReadsBack.{equation_made}
use Rattle.demands.proofs.HandedBack.{handed_back}

-- ---- On a table value

module _ (side : Side) (t : Table) (w : Written) (good : GoodTable t) {s : Sides}
    (reads : C.check_written t.l w ≡ C.reads s) where
  -- the call, by what its walk comes to
  decided : {o : Walked} → walk_sides s ≡ o
      → written_call side t w ≡ made_or_full t.l t (walk_entries side t.l o (entries_of t))
  unfolding unification
  decided e = called side t w good s reads ∙ rw (read_sides t.l w s reads, e)

  -- Where every equation that the walk finds is x = x, none at all included, the table is returned as given.
  pub itself_found : (es : List Equation) → walk_sides s ≡ some es → Each (λ (e : Equation). kind e ≡ itself) es
      → written_call side t w ≡ accepts t
  unfolding made_or_full
  itself_found es e only =
      decided e ∙ ap (made_or_full t.l t) (only_itself side t.l es only (entries_of t)) ∙ ap accepts (sym good.same)

  -- Where it clashes, the call is accepted with the table of these entries, whatever stands before the clash;
  pub clash_accepted : walk_sides s ≡ none → written_call side t w ≡ accepts (table_of t.l (no_groups side t.l))
  unfolding walk_entries made_or_full
  clash_accepted e = decided e

  -- and so it is where just an equation is found whose term holds its variable deeper, as x = t is in a call of its own.
  pub deeper_accepted : (e : Equation) → walk_sides s ≡ some (e ∷ []) → kind e ≡ deeper
      → written_call side t w ≡ accepts (table_of t.l (no_groups side t.l))
  unfolding walk_entries fold ◌>>=◌ made_or_full
  deeper_accepted e is k =
      decided is
      ∙ ap (λ (o : Option Entries). made_or_full t.l t (o >>= λ ρ. fold (next_equation side t.l) ρ []))
      (deeper_entries side t.l e k (entries_of t))

  module _ (is : written_call side t w ≡ accepts (table_of t.l (no_groups side t.l))) where
    -- That table has no entries where it is positive, one all-star entry where it is negative,
    pub none_entries : entries_of (written_call side t w).table ≡ no_groups side t.l
    none_entries =
        ap (λ (a : Answered). entries_of a.table) is
        ∙ entries_of_table t.l _ (shape_good (no_groups_made side t.l).shape)

    -- and stands for no groups.
    pub none_groups : (g : Bits) → ¬ (groups_of side (written_call side t w).table g)
    unfolding table_of
    none_groups g h =
        let back = entries_of_table t.l _ (shape_good (no_groups_made side t.l).shape) in
        let there = subst (λ (a : Answered). groups_of side a.table g) is h in
        ((no_groups_made side t.l).equal g).0 (subst (λ (τ : Entries). groups side t.l τ g) back there)

  -- A deeper equation found anywhere in the walk, in an accepted call, leaves no groups.
  pub deeper_groups : (es fs : List Equation) (e : Equation) → walk_sides s ≡ some (es ++ (e ∷ fs)) → kind e ≡ deeper
      → (written_call side t w).answer ≡ Accepted
      → (g : Bits) → ¬ (groups_of side (written_call side t w).table g)
  deeper_groups es fs e is k went g h =
      deeper_none es fs e k (groups_of side t) g
      (rw (read_sides t.l w s reads, is) at (((accepted_exact side t w good went).exact g).0 h))

-- ---- On bytes

module _ (side : Side) (b : List ℕ) {t : Table} (read : Reads b t) (w : Written) (passes : check_all_bytes w ≡ Accepted)
    {s : Sides} (reads : C.check_written t.l (written_tokens w) ≡ C.reads s) where
  -- the call on what the bytes read as
  on_tokens : written_bytes side b w ≡ written_call side t (written_tokens w)
  on_tokens = equation_by_bytes side b read w ∙ bytes_passed side t w passes

  -- A clash on bytes,
  pub bytes_clash : walk_sides s ≡ none → written_bytes side b w ≡ accepts (table_of t.l (no_groups side t.l))
  bytes_clash e = on_tokens ∙ clash_accepted side t (written_tokens w) (read_good Plain Whole b t read).0 reads e

  -- and a deeper equation.
  pub bytes_deeper : (e : Equation) → walk_sides s ≡ some (e ∷ []) → kind e ≡ deeper
      → written_bytes side b w ≡ accepts (table_of t.l (no_groups side t.l))
  bytes_deeper e is k =
      on_tokens ∙ deeper_accepted side t (written_tokens w) (read_good Plain Whole b t read).0 reads e is k

  module _ (es : List Equation) (is : walk_sides s ≡ some es) (only : Each (λ (e : Equation). kind e ≡ itself) es) where
    -- Only x = x found on bytes: the table is the one that was read,
    pub bytes_itself : written_bytes side b w ≡ accepts t
    bytes_itself =
        on_tokens ∙ itself_found side t (written_tokens w) (read_good Plain Whole b t read).0 reads es is only

    -- and what is written is its form.
    pub itself_wrote : (out : List ℕ) → output_number (written_bytes side b w) out ≡ 0
        → Wrote Plain t out (output_bytes (written_bytes side b w) out)
    itself_wrote out h =
        subst (λ (u : Table). Wrote Plain u out (output_bytes (written_bytes side b w) out))
        (ap (λ (a : Answered). a.table) bytes_itself)
        ((handed_back Plain (written_bytes side b w) out (equation_made side b w)).wrote h)
