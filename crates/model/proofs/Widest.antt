-- The change of side by widest strings: after each entry its list holds exactly the widest strings that match none of the
-- entries so far, so nothing that it forms is widened and nothing is removed. Assumes nothing.
use mathlib.Core.Path.{◌≡◌, refl, sym, ap, ◌∙◌, subst}
use mathlib.Core.Bool.{true, false}
use mathlib.Core.List.{[], ◌∷◌, ◌++◌, append_assoc, append-nil}
use mathlib.Core.Logic.{inl, inr, ⊎_elim}
use mathlib.Core.Option.{some}
use Prim.Native.Nat.{ℕ, ◌<◌}
use lib.Dec.{T}
use lib.ListN.{length}
use Rattle.model.specs.Groups.{Bits, nonzero}
use Rattle.model.specs.Strings.{t0, t1, t*, Trits, covers, subsumes, all_zero, stars}
use Rattle.model.specs.Growth.{Entries, fold, covered, subsumed, append, Apart, Irredundant}
use Rattle.model.specs.Tables.{unmatched, pieces_of, take_away, change_side}
use Rattle.model.specs.Widest.{avoids, EntryOf, AllWidest, edges, fresh, append_all, Antichain, Complement}
use Rattle.model.proofs.Tests.{or_left}
use Rattle.model.proofs.Strings.{covers_length, subsumes_exact, stars_cover}
use Rattle.model.proofs.Positions.{stars_length}
use Rattle.model.proofs.Given.{Given, given, given_at, given_map, given_then}
use Rattle.model.proofs.Growth.{append_gives}
use Rattle.model.proofs.Subsuming.{subsumes_trans, zero_subsumes, subsumes_both, avoids_exact}
use Rattle.model.proofs.ChangeSide.{change_side_made}
use Rattle.model.proofs.Entries.{subsumes_length, wide_entry, entries_wide, above, antichain_same}
use Rattle.model.proofs.TakenAway.{of_pieces, taken, left, complement_left, fresh_edges}
use Rattle.model.proofs.Computing.{procedures}

-- The one all-star entry, where nothing was taken away yet.
pub complement_start : (l : ℕ) → Complement l [] (stars l ∷ [])
unfolding avoids EntryOf Antichain Apart subsumed
complement_start l = record {
  wide = entries_wide l (stars l ∷ []) (λ s. ⊎_elim (λ e. ap length (sym e) ∙ stars_length l) (λ e. absurd e));
  free = λ s e. tt;
  apart = (tt, tt);
  whole = λ s e n a.
      or_left (subsumes (stars l) s) false
      ((subsumes_exact (stars l) s).1 (λ g k. rw (stars_cover l g (covers_length s g k ∙ e)) tt));
}

-- Taking v away: the entries that match v go; their pieces are appended, in order, but for the all-zero one and those that
-- an entry opposed to v at one position subsumes. Nothing is widened, nothing else goes.
pub take_away_widest : (l : ℕ) (τ ρ : Entries) (v : Trits) → Complement l τ ρ
    → take_away ρ v ≡ append_all (unmatched v ρ) (fresh (edges v (unmatched v ρ)) (pieces_of v ρ))
take_away_widest l τ ρ v c =
    taken l τ ρ v c
    ∙ ap (append_all (unmatched v ρ)) (fresh_edges v ρ (unmatched v ρ) (pieces_of v ρ) (of_pieces l τ ρ v c))

append_all_gives : (τ ys : Entries) → Given (λ (ρ : Entries). ρ ≡ τ ++ ys) (append_all τ ys)
unfolding append_all fold
append_all_gives τ [] = given (sym (append-nil τ))
append_all_gives τ (y ∷ ys) =
    given_then (λ ρ. fold append ρ ys) (append_gives {P = λ (ρ : Entries). ρ ≡ τ ++ (y ∷ [])} τ y (λ room. refl))
    (λ ρ e. given_map (λ υ f. f ∙ ap (λ (x : Entries). x ++ ys) e ∙ append_assoc τ (y ∷ []) ys) (append_all_gives ρ ys))

next_given : (l : ℕ) (τ ρ : Entries) (v : Trits) → Complement l τ ρ → Given (Complement l (τ ++ (v ∷ []))) (take_away ρ v)
next_given l τ ρ v c =
    rw (taken l τ ρ v c)
    (given_map (λ υ e. subst (Complement l (τ ++ (v ∷ []))) (sym e) (complement_left l τ ρ v c))
    (append_all_gives (unmatched v ρ) (left l τ ρ v c)))

-- What holds of the list after one entry more.
pub complement_next : (l : ℕ) (τ ρ : Entries) (v : Trits) → Complement l τ ρ → (υ : Entries) → take_away ρ v ≡ some υ
    → Complement l (τ ++ (v ∷ [])) υ
complement_next l τ ρ v c = given_at (next_given l τ ρ v c)

-- several entries in turn
complement_from : (l : ℕ) (τ ρ vs : Entries) → Complement l τ ρ → Given (Complement l (τ ++ vs)) (fold take_away ρ vs)
unfolding fold
complement_from l τ ρ [] c = given (subst (λ (x : Entries). Complement l x ρ) (sym (append-nil τ)) c)
complement_from l τ ρ (v ∷ vs) c =
    given_then _ (next_given l τ ρ v c)
    (λ υ d. subst (λ (x : Entries). Given (Complement l x) (fold take_away υ vs)) (append_assoc τ (v ∷ []) vs)
    (complement_from l (τ ++ (v ∷ [])) υ vs d))

-- no entry of a list with none redundant is all zero
entry_nonzero : (τ : Entries) → Irredundant τ → (s : Trits) → EntryOf τ s → ¬ (T (all_zero s))
unfolding Irredundant EntryOf
entry_nonzero [] h s e = absurd e
entry_nonzero (r ∷ τ) h s (inl e) = subst (λ (x : Trits). ¬ (T (all_zero x))) e h.0
entry_nonzero (r ∷ τ) h s (inr e) = entry_nonzero τ h.2 s e

-- a list with what the change of side keeps, none all zero
all_widest : (l : ℕ) (τ ρ : Entries) → Complement l τ ρ → Irredundant ρ → AllWidest l τ ρ
all_widest l τ ρ c h = record {
  each = λ s e. record {
    long = wide_entry l ρ c.wide s e;
    free = c.free s e;
    nonzero = entry_nonzero ρ h s e;
    widest = λ r a k.
        let n : ¬ (T (all_zero r)) =
        λ o. entry_nonzero ρ h s e (subst (λ (x : Trits). T (all_zero x)) (zero_subsumes r s o k) o) in
        let o = above ρ r (c.whole r (subsumes_length r s k ∙ wide_entry l ρ c.wide s e) n a) in
        let same : o.y ≡ s =
        antichain_same ρ c.apart o.y s o.entry e (subsumes_trans o.y r s o.subsuming k) in
        subsumes_both r s k (subst (λ (x : Trits). T (subsumes x r)) same o.subsuming);
  };
  all = λ s w.
      let o = above ρ s (c.whole s w.long w.nonzero w.free) in
      subst (EntryOf ρ) (w.widest o.y (c.free o.y o.entry) o.subsuming) o.entry;
  once = h;
}

-- Wherever the change of side gives a list, it holds exactly the widest strings that match no entry, each once.
pub change_side_widest : (l : ℕ) (τ ρ : Entries) → 0 < l → change_side l τ ≡ some ρ → AllWidest l τ ρ
unfolding change_side
change_side_widest l τ ρ h e =
    all_widest l τ ρ (given_at (complement_from l [] (stars l ∷ []) τ (complement_start l)) ρ e)
    ((given_at (change_side_made l τ) ρ e).shape.reduced h).irredundant

-- ---- Tables that cover the same strings

avoids_same : (τ υ : Entries) → ((g : Bits) → covered τ g ≡ covered υ g) → (s : Trits) → T (avoids τ s) → T (avoids υ s)
avoids_same τ υ f s a = (avoids_exact υ s).1 (λ g k d. (avoids_exact τ s).0 a g k (rw (f g) d))

-- Two tables that cover the same strings change to the same entries; the order may differ.
pub same_entries : (l : ℕ) (τ υ ρ σ : Entries) → 0 < l → ((g : Bits) → covered τ g ≡ covered υ g) → change_side l τ ≡ some ρ
    → change_side l υ ≡ some σ → (s : Trits) → EntryOf ρ s → EntryOf σ s
same_entries l τ υ ρ σ h f d e s i =
    let w = (change_side_widest l τ ρ h d).each s i in
    (change_side_widest l υ σ h e).all s
    (record {
      long = w.long;
      free = avoids_same τ υ f s w.free;
      nonzero = w.nonzero;
      widest = λ r a. w.widest r (avoids_same υ τ (λ g. sym (f g)) r a);
    })

-- ---- Covering the same groups is not enough

-- 0**.
abbrev pub one_entry : Entries
one_entry = (t0 ∷ t* ∷ t* ∷ []) ∷ []

-- The groups of 0** in two strings, 001 and 01*.
abbrev pub two_entries : Entries
two_entries = (t0 ∷ t0 ∷ t1 ∷ []) ∷ (t0 ∷ t1 ∷ t* ∷ []) ∷ []

-- Both cover the same groups; only the first covers 000.
pub same_groups : (g : Bits) → T (nonzero g) → covered one_entry g ≡ covered two_entries g
unfolding covered covers nonzero
same_groups [] n = refl
same_groups (true ∷ g) n = refl
same_groups (false ∷ []) n = refl
same_groups (false ∷ true ∷ g) n = refl
same_groups (false ∷ false ∷ []) n = refl
same_groups (false ∷ false ∷ true ∷ g) n = refl
same_groups (false ∷ false ∷ false ∷ []) n = absurd n
same_groups (false ∷ false ∷ false ∷ b ∷ g) n = refl

-- The first changes to 1**.
pub one_entry_changed : change_side 3 one_entry ≡ some ((t1 ∷ t* ∷ t* ∷ []) ∷ [])
unfolding procedures
one_entry_changed = refl

-- The second changes to 1** and *00.
pub two_entries_changed : change_side 3 two_entries ≡ some ((t1 ∷ t* ∷ t* ∷ []) ∷ (t* ∷ t0 ∷ t0 ∷ []) ∷ [])
unfolding procedures
two_entries_changed = refl
